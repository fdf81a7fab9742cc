-- Which file of a command is due.
use Rattle.std.specs.Prelude.{◌≡◌, ℕ, List, Option, Some}
use Rattle.xw_io.specs.Outside.{IsFileOf}
use Rattle.xw_io.specs.declared.file.File.{File}
use Rattle.xc_tree.specs.Plain.{Item}
use Rattle.xr_driver.specs.Command.{Command, file_of, second_of}
use Rattle.xr_front.specs.Rules.{IsAccepted}

-- the text of the command is there and accepted
pub record HasAccepted (files : Option (List File)) (c : Command) : Type 0 where
  pub text : List ℕ
  pub told : IsFileOf files (file_of c) text
  pub program : List Item
  pub accepted : IsAccepted text program

-- A file is due as soon as all that comes before it is done: the text at once, and the stimulus or the routes, where a file is named
-- for them, once the text is there and accepted. Of the files that can't be had only the first is ever due.
pub data IsDue (files : Option (List File)) : Command → List ℕ → Type 0 where
  of_text : (c : Command) → IsDue files c (file_of c)
  of_second : (c : Command) (name : List ℕ) → HasAccepted files c → second_of c ≡ Some name → IsDue files c name
