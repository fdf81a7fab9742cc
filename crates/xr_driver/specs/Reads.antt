-- What is read of a command's files, and what is answered where one of them is refused.
use Rattle.std.specs.Prelude.{◌≡◌, ℕ, List, Option, Some, Result, Ok, Err}
use Rattle.xw_io.specs.Outside.{IsFileOf}
use Rattle.xw_io.specs.declared.file.File.{File}
use Rattle.xc_kernel.specs.Plain.{Kernel}
use Rattle.xr_driver.specs.declared.files.Refused.{Refused}
use Rattle.xr_driver.specs.Answers.{Outcome, says}
use Rattle.xr_driver.specs.Command.{Command, file_of, stim_of}
use Rattle.xr_driver.specs.Decision.{line_text}
use Rattle.xr_driver.specs.Due.{HasAccepted, IsDue}
use Rattle.xr_driver.specs.Outside.{Loads}
use Rattle.xr_driver.specs.Parts.{IsAnswer}
use Rattle.xr_front.specs.Rules.{IsKernelOf}

-- what is answered where this is refused
abbrev pub refusal_of : Refused → Outcome
refusal_of refused = says refused.status (line_text refused.line)

-- what a call refuses is an answer to each command of which this is so
abbrev pub RefusesOf : {A : Type 0} → Loads → (Command → Type 0) → Result A Refused → Type 0
RefusesOf shelf IsSo (Ok x) = Unit {0}
RefusesOf shelf IsSo (Err refused) = (c : Command) → IsSo c → IsAnswer shelf c (refusal_of refused)

-- what a call refuses is an answer to this command
abbrev pub RefusesCommand : {A : Type 0} → Loads → Command → Result A Refused → Type 0
RefusesCommand shelf command result = RefusesOf shelf (λ c. c ≡ command) result

-- what a call refuses is an answer to each command of which the file of this name is due
abbrev pub RefusesFile : {A : Type 0} → Loads → List ℕ → Result A Refused → Type 0
RefusesFile shelf name result = RefusesOf shelf (λ c. IsDue shelf.files c name) result

-- what a call refuses is an answer to each command whose text is the file of this name
abbrev pub RefusesText : {A : Type 0} → Loads → List ℕ → Result A Refused → Type 0
RefusesText shelf name result = RefusesOf shelf (λ c. name ≡ file_of c) result

-- what a call refuses is an answer to each command whose text is accepted, and whose stimulus is the file of this name
abbrev pub RefusesStim : {A : Type 0} → Loads → List ℕ → Result A Refused → Type 0
RefusesStim shelf name result = RefusesOf shelf (λ c. HasAccepted shelf.files c × (stim_of c ≡ Some name)) result

-- what a call refuses is an answer to this command, whose text is accepted
abbrev pub RefusesInputs : {A : Type 0} → Loads → Command → Result A Refused → Type 0
RefusesInputs shelf command result = RefusesOf shelf (λ c. HasAccepted shelf.files c × (c ≡ command)) result

-- the text that the file of this name has means a program with this kernel
pub record IsKernelIn (files : Option (List File)) (name : List ℕ) (K : Kernel) : Type 0 where
  pub text : List ℕ
  pub told : IsFileOf files name text
  pub kernel : IsKernelOf text K
