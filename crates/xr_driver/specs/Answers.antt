-- What the program answers: what is decided, and how it is delivered.
use Rattle.std.specs.Prelude.{◌≡◌, ◌≢◌, ℕ, Bool, true, false, List, [], Option, Some, None}
use Rattle.xw_io.specs.Outside.{Rose, IsFileOf, IsMissing, IsTooLong}
use Rattle.xw_io.specs.declared.file.File.{File}
use Rattle.xw_words.specs.declared.pos.Broken.{Broken}
use Rattle.xs_instr.specs.declared.image.Image.{Image}
use Rattle.xs_instr.specs.declared.image.Stim.{Stim}
use Rattle.xs_instr.specs.declared.trace.EndWord.{EndWord}
use Rattle.xs_instr.specs.declared.trace.EndWord.TheVariants.{Finished, Trapped, Stuck, Stopped}
use Rattle.xs_instr.specs.declared.trace.Record.{Record}
use Rattle.xc_tree.specs.Plain.{Item}
use Rattle.xf_time.specs.Bounds.{AreBounds, IsFirstBroken as IsFirstBrokenOn}
use Rattle.xf_time.specs.Threads.{AreKept}
use Rattle.xr_driver.specs.Command.{Run, Asm, Check, Time, Command, file_of, means, stim_of}
use Rattle.xr_driver.specs.Due.{HasAccepted, IsDue}
use Rattle.xr_driver.specs.Lines.{accepted_line, code_section, run_output, time_output, usage_line, no_file_line, too_long_line, read_fault_line, broken_line, bad_line, no_memory_line}
use Rattle.xr_driver.specs.Outside.{Loads, Span, Gained, GainedFront}
use Rattle.xr_front.specs.Rules.{First, IsAccepted}
use Rattle.xr_driver.specs.Runs.{IsCompiled, IsRunFor, IsRunOf, IsStimOf}
use Rattle.xr_stim.specs.Stimulus.{IsFirstBroken}

-- what is decided: the status, what is due on `out`, and the line that is due on `err`
pub record Outcome : Type 0 where
  pub status : ℕ
  pub output : List ℕ
  pub line : List ℕ

-- a status with a line and no output
abbrev pub says : ℕ → List ℕ → Outcome
says status line = record { status = status; output = []; line = line }

-- a status with an output and no line
abbrev pub prints : ℕ → List ℕ → Outcome
prints status output = record { status = status; output = output; line = [] }

-- a status with an output and a line
abbrev pub prints_and_says : ℕ → List ℕ → List ℕ → Outcome
prints_and_says status output line = record { status = status; output = output; line = line }

-- the status of a run without traps, by its end word
abbrev pub status_of_word : EndWord → ℕ
status_of_word Finished = 0
status_of_word Trapped = 3
status_of_word Stuck = 5
status_of_word Stopped = 4

-- the status of a run: 3 where a thread is trapped in the end
abbrev pub status_of_run : Bool → EndWord → ℕ
status_of_run true word = 3
status_of_run false word = status_of_word word

-- The words mean a command, and its stimulus, which is the file of this name, breaks a rule: this is the first line that breaks one, and
-- the least that it breaks.
pub record HasBadLine (words : List (List ℕ)) (files : Option (List File)) (name : List ℕ) (line rule : ℕ) : Type 0 where
  pub c : Command
  pub meant : means words ≡ Some c
  pub accepted : HasAccepted files c
  pub names : stim_of c ≡ Some name
  pub text : List ℕ
  pub told : IsFileOf files name text
  pub first : IsFirstBroken text line rule

-- The words mean `time` of a text and of the routes of another file; this is the text's image, and this is what the routes' file asks for.
pub record AreTimed (words : List (List ℕ)) (files : Option (List File)) (L : Image) (name asked : List ℕ) : Type 0 where
  pub file : List ℕ
  pub meant : means words ≡ Some (Time file name)
  pub text : List ℕ
  pub told : IsFileOf files file text
  pub compiled : IsCompiled text L
  pub asked_told : IsFileOf files name asked

-- Each outcome with its cause: one row for each that there is. Where memory is wanting for the words themselves, `main` answers
-- without a call, and writes nothing, as for words that the system doesn't give (15).
pub data Decided (words : List (List ℕ)) (shelf : Loads) : Outcome → Type 0 where
  no_command : means words ≡ None → Decided words shelf (says 2 usage_line)
  missing : (c : Command) (name : List ℕ) → means words ≡ Some c → IsDue shelf.files c name →
      Rose shelf.misses shelf.misses' → IsMissing shelf.files name →
      Decided words shelf (says 6 (no_file_line name))
  too_long : (c : Command) (name : List ℕ) → means words ≡ Some c → IsDue shelf.files c name →
      Rose shelf.longs shelf.longs' → IsTooLong shelf.files name →
      Decided words shelf (says 7 (too_long_line name))
  read_fault : (c : Command) (name : List ℕ) → means words ≡ Some c → IsDue shelf.files c name →
      Rose shelf.faults shelf.faults' →
      Decided words shelf (says 8 (read_fault_line name))
  refused : (c : Command) (text : List ℕ) (b : Broken) → means words ≡ Some c →
      IsFileOf shelf.files (file_of c) text → First text b →
      Decided words shelf (says 1 (broken_line (file_of c) b))
  bad_stim : (name : List ℕ) (line rule : ℕ) → HasBadLine words shelf.files name line rule →
      Decided words shelf (says 10 (bad_line name line rule))
  checked : (file text : List ℕ) (P : List Item) → means words ≡ Some (Check file) →
      IsFileOf shelf.files file text → IsAccepted text P →
      Decided words shelf (prints 0 accepted_line)
  assembled : (file text : List ℕ) (L : Image) → means words ≡ Some (Asm file) →
      IsFileOf shelf.files file text → IsCompiled text L →
      Decided words shelf (prints 0 (code_section L))
  ran : (file : List ℕ) (ticks workers : ℕ) (stim : Option (List ℕ)) (text : List ℕ) (s : Stim) (L : Image) (lines : List Record)
      (word : EndWord) (trapped : Bool) → means words ≡ Some (Run file ticks workers stim) →
      IsFileOf shelf.files file text → (compiled : IsCompiled text L) → IsStimOf shelf.files stim s →
      IsRunFor L s ticks lines word trapped → IsRunOf compiled.program L s ticks lines word →
      Decided words shelf (prints (status_of_run trapped word) (run_output L lines word))
  timed : (L : Image) (name asked numbers : List ℕ) → AreTimed words shelf.files L name asked →
      AreBounds L asked numbers → ((line rule : ℕ) → IsFirstBrokenOn L asked line rule → ⊥) → AreKept L asked numbers →
      Decided words shelf (prints 0 (time_output L numbers))
  bad_route : (L : Image) (name asked : List ℕ) (line rule : ℕ) → AreTimed words shelf.files L name asked →
      IsFirstBrokenOn L asked line rule →
      Decided words shelf (prints_and_says 13 (code_section L) (bad_line name line rule))
  no_memory : Decided words shelf (says 12 no_memory_line)

-- Both sinks gained what is due, or one of them failed and each gained a front of it. Then the status is 9.
pub data Delivered (o : Outcome) (out err : Span) : ℕ → Type 0 where
  whole : Gained out o.output → Gained err o.line → Delivered o out err o.status
  out_fell : Rose out.faults out.faults' → GainedFront out o.output → GainedFront err o.line → Delivered o out err 9
  err_fell : Rose err.faults err.faults' → o.line ≢ [] → GainedFront out o.output → GainedFront err o.line → Delivered o out err 9

-- The answer of a call.
pub record Answers (words : List (List ℕ)) (shelf : Loads) (out err : Span) (status : ℕ) : Type 0 where
  pub outcome : Outcome
  pub decided : Decided words shelf outcome
  pub delivered : Delivered outcome out err status
