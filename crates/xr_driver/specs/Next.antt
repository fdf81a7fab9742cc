-- What comes next where all files are read and compiled: what is decided, or a run that is left.
use Rattle.std.specs.Prelude.{◌≡◌, ℕ, List, Option, Some}
use Rattle.xw_io.specs.Outside.{IsFileOf}
use Rattle.xw_io.specs.declared.file.File.{File}
use Rattle.xc_kernel.specs.Plain.{Kernel}
use Rattle.xs_instr.specs.Valid.{IsGoodStim}
use Rattle.xr_driver.specs.Answers.{Decided, Outcome}
use Rattle.xr_driver.specs.Command.{Command, Run, means}
use Rattle.xr_driver.specs.Decision.{outcome_of, IsPrintable}
use Rattle.xr_driver.specs.declared.files.Inputs.{Inputs}
use Rattle.xr_driver.specs.declared.prepare.Next.{Next}
use Rattle.xr_driver.specs.declared.prepare.Next.TheVariants.{Done, Left}
use Rattle.xr_driver.specs.declared.prepare.Task.{Task}
use Rattle.xr_driver.specs.Outside.{Loads}
use Rattle.xr_driver.specs.Parts.{AreRead, IsAnswer}
use Rattle.xr_driver.specs.Runs.{IsCompiled, IsStimOf}

-- the run that a command asks for: of its text's image, under its stimulus, for its ticks and by its workers
pub record IsTaskOf (files : Option (List File)) (c : Command) (task : Task) : Type 0 where
  pub file : List ℕ
  pub stim_file : Option (List ℕ)
  pub is_run : c ≡ Run file task.ticks task.workers stim_file
  pub text : List ℕ
  pub told : IsFileOf files file text
  pub compiled : IsCompiled text task.image
  pub stimulus : IsStimOf files stim_file task.stim
  pub good : IsGoodStim task.stim

-- the run that words ask for
pub record IsTaskFor (words : List (List ℕ)) (files : Option (List File)) (task : Task) : Type 0 where
  pub command : Command
  pub meant : means words ≡ Some command
  pub of : IsTaskOf files command task

-- what is decided is so and can be written, or the run that is left is so
abbrev pub ByNext : (Outcome → Type 0) → (Task → Type 0) → Next → Type 0
ByNext IsSo IsLeft (Done decision) = IsSo (outcome_of decision) × IsPrintable decision.printed
ByNext IsSo IsLeft (Left task) = IsLeft task

-- what comes next for words
abbrev pub IsNext : List (List ℕ) → Loads → Next → Type 0
IsNext words shelf next = ByNext (Decided words shelf) (IsTaskFor words shelf.files) next

-- what comes next for a command
abbrev pub IsNextOf : Loads → Command → Next → Type 0
IsNextOf shelf c next = ByNext (IsAnswer shelf c) (IsTaskOf shelf.files c) next

-- the same from each shelf of which these were read
abbrev pub IsNextOn : Command → Kernel → Inputs → Next → Type 0
IsNextOn c K inputs next = (shelf : Loads) → AreRead shelf.files c K inputs → IsNextOf shelf c next
