-- What is answered to a command, whatever words mean it.
use Rattle.std.specs.Prelude.{◌≡◌, ◌<◌, ◌^◌, ℕ, List, Option, Some, None, length}
use Rattle.xw_io.specs.Outside.{IsFileOf}
use Rattle.xw_io.specs.declared.file.File.{File}
use Rattle.xc_kernel.specs.Plain.{Kernel}
use Rattle.xs_instr.specs.declared.image.Image.{Image}
use Rattle.xs_instr.specs.Valid.{IsGoodStim}
use Rattle.xr_driver.specs.Answers.{Decided, Outcome}
use Rattle.xr_driver.specs.Command.{Command, file_of, means, route_file_of, stim_of}
use Rattle.xr_driver.specs.declared.files.Inputs.{Inputs}
use Rattle.xr_driver.specs.Outside.{Loads}
use Rattle.xr_driver.specs.Runs.{IsCompiled, IsStimOf}
use Rattle.xr_front.specs.Rules.{IsKernelOf}

-- the outcome is an answer to all words that mean the command
abbrev pub IsAnswer : Loads → Command → Outcome → Type 0
IsAnswer shelf c o = (words : List (List ℕ)) → means words ≡ Some c → Decided words shelf o

-- the text is what the file has that is named, where one is
abbrev pub IsTextAt : Option (List File) → Option (List ℕ) → List ℕ → Type 0
IsTextAt files None text = Unit {0}
IsTextAt files (Some name) text = IsFileOf files name text

-- these are the stimulus and the routes of the command
pub record AreInputs (files : Option (List File)) (c : Command) (inputs : Inputs) : Type 0 where
  pub stim : IsStimOf files (stim_of c) inputs.stim
  pub routes : IsTextAt files (route_file_of c) inputs.routes

-- they can be run and timed
pub record AreGoodInputs (inputs : Inputs) : Type 0 where
  pub stim : IsGoodStim inputs.stim
  pub routes : length inputs.routes < 2 ^ 32

-- the text of the command has this kernel, and these are its inputs
pub record AreRead (files : Option (List File)) (c : Command) (K : Kernel) (inputs : Inputs) : Type 0 where
  pub text : List ℕ
  pub told : IsFileOf files (file_of c) text
  pub kernel : IsKernelOf text K
  pub inputs_are : AreInputs files c inputs

-- the outcome is an answer to the command from each shelf of which these were read
abbrev pub IsAnswerOn : Command → Kernel → Inputs → Outcome → Type 0
IsAnswerOn c K inputs o = (shelf : Loads) → AreRead shelf.files c K inputs → IsAnswer shelf c o

-- the text of the command compiles to this image, and these are its inputs
pub record AreCompiled (files : Option (List File)) (c : Command) (L : Image) (inputs : Inputs) : Type 0 where
  pub text : List ℕ
  pub told : IsFileOf files (file_of c) text
  pub compiled : IsCompiled text L
  pub inputs_are : AreInputs files c inputs

-- the same from each shelf whose text was compiled to this image
abbrev pub IsAnswerWith : Command → Image → Inputs → Outcome → Type 0
IsAnswerWith c L inputs o = (shelf : Loads) → AreCompiled shelf.files c L inputs → IsAnswer shelf c o
