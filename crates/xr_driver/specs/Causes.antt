-- When each status comes, and what comes where nothing fails.
use Rattle.std.specs.Prelude.{◌≡◌, ◌⊎◌, ◌<◌, ◌≤◌, ℕ, Bool, true, false, List, [], length, Option, Some, None}
use Rattle.xw_io.specs.Outside.{Rose, IsFileOf, IsMissing, IsTooLong, found, max_file}
use Rattle.xw_io.specs.declared.file.File.{File}
use Rattle.xw_words.specs.declared.pos.Broken.{Broken}
use Rattle.xs_instr.specs.declared.image.Image.{Image}
use Rattle.xs_instr.specs.declared.image.Stim.{Stim}
use Rattle.xs_instr.specs.declared.trace.EndWord.{EndWord}
use Rattle.xs_instr.specs.declared.trace.EndWord.TheVariants.{Finished, Stuck, Stopped}
use Rattle.xs_instr.specs.declared.trace.Record.{Record}
use Rattle.xc_tree.specs.Plain.{Item}
use Rattle.xf_time.specs.Bounds.{AreBounds, IsFirstBroken as IsFirstBrokenOn}
use Rattle.xf_time.specs.Threads.{AreKept}
use Rattle.xr_driver.specs.Answers.{AreTimed, HasBadLine, status_of_run}
use Rattle.xr_driver.specs.Command.{Run, Asm, Check, Time, Command, file_of, means, stim_of}
use Rattle.xr_driver.specs.Due.{IsDue}
use Rattle.xr_driver.specs.Lines.{accepted_line, code_section, run_output, time_output}
use Rattle.xr_driver.specs.Outside.{Loads, Span, Gained}
use Rattle.xr_front.specs.Rules.{First, IsAccepted, IsRefusedOrAccepted}
use Rattle.xr_driver.specs.Runs.{IsCompiled, IsRunFor, IsRunOf, IsStimOf}

-- the words mean a command, of whose text's file this is so
abbrev pub OfFile : List (List ℕ) → (List ℕ → Type 0) → Type 0
OfFile words P = (c : Command) × (means words ≡ Some c) × P (file_of c)

-- the words mean a command, a file of it is due, and of this one it is so
abbrev pub OfDue : List (List ℕ) → Option (List File) → (List ℕ → Type 0) → Type 0
OfDue words files P = (c : Command) × (means words ≡ Some c) × ((name : List ℕ) × IsDue files c name × P name)

-- the words mean a run, whose text's image was run in lockstep, and of its end word and whether a thread is trapped in the end this is so
pub record WasRun (words : List (List ℕ)) (shelf : Loads) (IsSo : EndWord → Bool → Type 0) : Type 0 where
  pub file : List ℕ
  pub ticks : ℕ
  pub workers : ℕ
  pub stim : Option (List ℕ)
  pub means_run : means words ≡ Some (Run file ticks workers stim)
  pub text : List ℕ
  pub told : IsFileOf shelf.files file text
  pub L : Image
  pub compiled : IsCompiled text L
  pub s : Stim
  pub stimulus : IsStimOf shelf.files stim s
  pub lines : List Record
  pub word : EndWord
  pub trapped : Bool
  pub lockstep : IsRunFor L s ticks lines word trapped
  pub is_so : IsSo word trapped

-- the words mean `time`, and of the text's image and of what the routes' file asks for this is so
abbrev pub WasTimed : List (List ℕ) → Loads → (Image → List ℕ → Type 0) → Type 0
WasTimed words shelf IsSo = (L : Image) × (name : List ℕ) × (asked : List ℕ) × AreTimed words shelf.files L name asked × IsSo L asked

-- no line breaks a rule on the image
abbrev pub BreaksNone : Image → (asked : List ℕ) → Type 0
BreaksNone L asked = (line rule : ℕ) → IsFirstBrokenOn L asked line rule → ⊥

-- this line is the one that is named, and this its rule, and the sink gained the image's listing
abbrev pub NamesLine : Span → Image → (asked : List ℕ) → Type 0
NamesLine out L asked = (line : ℕ) × (rule : ℕ) × IsFirstBrokenOn L asked line rule × Gained out (code_section L)

-- Each status of a text that is accepted comes only with its cause: 0 of every command where all is done, of a run where it has finished
-- without a trap, of `time` where the routes break no rule.
pub record OutputCauses (words : List (List ℕ)) (shelf : Loads) (status : ℕ) : Type 0 where
  pub done : status ≡ 0 → OfFile words (λ file. (text : List ℕ) × IsFileOf shelf.files file text × ((P : List Item) × IsAccepted text P))
  pub finished : status ≡ 0 → (file : List ℕ) (ticks workers : ℕ) (stim : Option (List ℕ)) →
      means words ≡ Some (Run file ticks workers stim) → WasRun words shelf (λ word trapped. (word ≡ Finished) × (trapped ≡ false))
  pub bounded : status ≡ 0 → (file name : List ℕ) → means words ≡ Some (Time file name) → WasTimed words shelf BreaksNone
  pub trapped : status ≡ 3 → WasRun words shelf (λ word trapped. trapped ≡ true)
  pub stopped : status ≡ 4 → WasRun words shelf (λ word trapped. (word ≡ Stopped) × (trapped ≡ false))
  pub stuck : status ≡ 5 → WasRun words shelf (λ word trapped. (word ≡ Stuck) × (trapped ≡ false))

-- Each status comes only with its cause, and there are no others.
pub record OnlyCauses (words : List (List ℕ)) (shelf : Loads) (out err : Span) (status : ℕ) : Type 0 where
  pub refused : status ≡ 1 → OfFile words (λ file. (text : List ℕ) × IsFileOf shelf.files file text × ((b : Broken) × First text b))
  pub usage : status ≡ 2 → means words ≡ None
  pub missing : status ≡ 6 → Rose shelf.misses shelf.misses' × OfDue words shelf.files (IsMissing shelf.files)
  pub too_long : status ≡ 7 → Rose shelf.longs shelf.longs' × OfDue words shelf.files (IsTooLong shelf.files)
  pub read_fault : status ≡ 8 → Rose shelf.faults shelf.faults' × OfDue words shelf.files (λ name. Unit {0})
  pub stim_refused : status ≡ 10 → (name : List ℕ) × (line : ℕ) × (rule : ℕ) × HasBadLine words shelf.files name line rule
  pub route_refused : status ≡ 13 → WasTimed words shelf (NamesLine out)
  pub write_fault : status ≡ 9 → Rose out.faults out.faults' ⊎ Rose err.faults err.faults'
  pub no_memory : status ≡ 12 → Gained out []
  pub output : OutputCauses words shelf status
  pub others : (status ≤ 10) ⊎ (status ≡ 12) ⊎ (status ≡ 13)

-- no count of faults rose
pub record NoFault (shelf : Loads) (out err : Span) : Type 0 where
  pub shelf_kept : Rose shelf.faults shelf.faults' → ⊥
  pub out_kept : Rose out.faults out.faults' → ⊥
  pub err_kept : Rose err.faults err.faults' → ⊥

-- the whole output of a run of the text's image, for so many ticks under this stimulus
pub record Ran (text : List ℕ) (s : Stim) (ticks : ℕ) (out : Span) (status : ℕ) : Type 0 where
  pub L : Image
  pub lines : List Record
  pub word : EndWord
  pub trapped : Bool
  pub compiled : IsCompiled text L
  pub lockstep : IsRunFor L s ticks lines word trapped
  pub of_program : IsRunOf compiled.program L s ticks lines word
  pub status_is : status ≡ status_of_run trapped word
  pub output : Gained out (run_output L lines word)

-- the listing of the text's image
pub record Assembled (text : List ℕ) (out : Span) (status : ℕ) : Type 0 where
  pub L : Image
  pub compiled : IsCompiled text L
  pub status_is : status ≡ 0
  pub output : Gained out (code_section L)

-- the word that the text is accepted
pub record Checked (out : Span) (status : ℕ) : Type 0 where
  pub status_is : status ≡ 0
  pub output : Gained out accepted_line

-- The listing of the text's image, and what comes of the routes on this image: where no line of them breaks a rule the bounds of all, and
-- else status 13, with the line that is named and its rule.
pub data Timed (text asked : List ℕ) (out : Span) : (status : ℕ) → Type 0 where
  bounded : (L : Image) (numbers : List ℕ) → IsCompiled text L → AreBounds L asked numbers → BreaksNone L asked →
      AreKept L asked numbers → Gained out (time_output L numbers) → Timed text asked out 0
  broken : (L : Image) (line rule : ℕ) → IsCompiled text L → IsFirstBrokenOn L asked line rule →
      Gained out (code_section L) → Timed text asked out 13

-- what a command makes of an accepted text and a stimulus, and of its routes where they are there
abbrev pub DoneWith : List File → Command → List ℕ → Stim → Span → ℕ → Type 0
DoneWith files (Run file ticks workers stim) text s out status = Ran text s ticks out status
DoneWith files (Asm file) text s out status = Assembled text out status
DoneWith files (Check file) text s out status = Checked out status
DoneWith files (Time file name) text s out status =
    (asked : List ℕ) → IsFileOf (Some files) name asked → Timed text asked out status

-- Where nothing fails and memory isn't wanting, each cause has its status, and each text has one. The shelf tells its files.
pub record AllCauses (words : List (List ℕ)) (files : List File) (out : Span) (status : ℕ) : Type 0 where
  pub usage : means words ≡ None → status ≡ 2
  pub missing : (c : Command) (name : List ℕ) → means words ≡ Some c → IsDue (Some files) c name → found files name ≡ None → status ≡ 6
  pub too_long : (c : Command) (name text : List ℕ) → means words ≡ Some c → IsDue (Some files) c name → found files name ≡ Some text →
      max_file < length text → status ≡ 7
  pub answered : (c : Command) (text : List ℕ) → means words ≡ Some c → found files (file_of c) ≡ Some text → length text ≤ max_file →
      IsRefusedOrAccepted text
  pub refused : (c : Command) (text : List ℕ) (b : Broken) → means words ≡ Some c → found files (file_of c) ≡ Some text →
      length text ≤ max_file → First text b → status ≡ 1
  pub stim_refused : (name : List ℕ) (line rule : ℕ) → HasBadLine words (Some files) name line rule → status ≡ 10
  pub done : (c : Command) (text : List ℕ) (P : List Item) (s : Stim) → means words ≡ Some c → found files (file_of c) ≡ Some text →
      length text ≤ max_file → IsAccepted text P → IsStimOf (Some files) (stim_of c) s → DoneWith files c text s out status

-- Where the shelf tells its files and no fault is counted, memory is wanting or all is done.
abbrev pub Completes : List (List ℕ) → Loads → Span → Span → ℕ → Type 0
Completes words shelf out err status =
    (files : List File) → shelf.files ≡ Some files → NoFault shelf out err →
    ((status ≡ 12) × Gained out []) ⊎ AllCauses words files out status
