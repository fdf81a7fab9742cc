-- What a text compiles to, and the run that is written.
use Rattle.std.specs.Prelude.{◌≡◌, ◌↔◌, ℕ, Bool, true, List, [], Option, Some, None}
use Rattle.xw_io.specs.Outside.{IsFileOf}
use Rattle.xw_io.specs.declared.file.File.{File}
use Rattle.xs_instr.specs.declared.image.Image.{Image}
use Rattle.xs_instr.specs.declared.image.Stim.{Stim}
use Rattle.xs_instr.specs.declared.trace.EndWord.{EndWord}
use Rattle.xs_instr.specs.declared.trace.EndWord.TheVariants.{Finished, Trapped, Stuck}
use Rattle.xs_instr.specs.declared.trace.Record.{Record}
use Rattle.xs_instr.specs.Machine.{Event, boot, runs}
use Rattle.xs_instr.specs.Valid.{Valid}
use Rattle.xs_fabric.specs.EndWord.{end_of, has_trap}
use Rattle.xs_fabric.specs.Lockstep.{lockstep}
use Rattle.xc_tree.specs.Plain.{Item}
use Rattle.xc_kernel.specs.Copies.{copy_of}
use Rattle.xc_meaning.specs.Quiet.{QuietBehind}
use Rattle.xc_meaning.specs.States.Branches.{all_ended}
use Rattle.xc_meaning.specs.States.Worlds.{World}
use Rattle.xr_match.specs.Implements.{AllRootsEnded, Implements, ImplementsWholly}
use Rattle.xr_match.specs.Matching.{AgreeQuietly, MatchingRun}
use Rattle.xr_match.specs.Meanings.{of_text}
use Rattle.xs_instr.specs.Words.{HasWords}
use Rattle.xr_front.specs.Rules.{IsAccepted}
use Rattle.xr_stim.specs.Stimulus.{Means}

-- a valid image that implements the program that the text means. Its numbers are words, so no other such image has its
-- listing
pub record IsCompiled (text : List ℕ) (L : Image) : Type 0 where
  pub program : List Item
  pub means_so : IsAccepted text program
  pub valid : Valid L
  pub words : HasWords L
  -- what a machine with it does is what the program may do, which also follows from `wholly`
  pub implements : Implements L (of_text program)
  -- it waits only where the program does, and doesn't go on and on without it
  pub wholly : ImplementsWholly L (of_text program)

-- pins that are never driven
abbrev pub no_stim : Stim
no_stim = record { lines = [] }

-- the stimulus of a run, by the file that is named for it: none is named, and there are no lines, or it is what the file's text means
pub data IsStimOf (files : Option (List File)) : Option (List ℕ) → Stim → Type 0 where
  unnamed : IsStimOf files None no_stim
  named : (name text : List ℕ) (s : Stim) → IsFileOf files name text → Means text s → IsStimOf files (Some name) s

-- what the run in lockstep recorded in so many rounds from the start, how it ended, and whether a thread is trapped then. It is
-- told to have finished exactly where all roots have ended, and so the program, and to be trapped only where a thread is
pub record IsRunFor (L : Image) (s : Stim) (rounds : ℕ) (lines : List Record) (word : EndWord) (trapped : Bool) : Type 0 where
  pub lines_are : lines ≡ (lockstep L s rounds).trace
  pub word_is : word ≡ end_of L s (lockstep L s rounds)
  pub trapped_is : trapped ≡ has_trap L s (lockstep L s rounds)
  pub finished_exactly_where_ended : (word ≡ Finished) ↔ AllRootsEnded (lockstep L s rounds).cores
  pub trapped_only_with_a_trap : word ≡ Trapped → trapped ≡ true

-- from a state on the program can do nothing but wait, however far its clocks go
abbrev pub Waits : List Item → Stim → World → Type 0
Waits P s x = (cores : List ℕ) → QuietBehind (copy_of P) s x cores

-- What these rounds in lockstep and their end word say of the program. The rounds are a list of events, and the program has a run beside
-- them. Its trace is the one that is written, its branches have all ended exactly where that is written, and where the end word is
-- `stuck` it can do nothing but wait.
pub record IsRunOf (P : List Item) (L : Image) (s : Stim) (rounds : ℕ) (lines : List Record) (word : EndWord) : Type 0 where
  pub events : List Event
  pub enabled : runs L s (boot L) events ≡ Some (lockstep L s rounds)
  pub run : MatchingRun (AgreeQuietly L P s) L P s events (lockstep L s rounds)
  pub trace : lines ≡ run.state.trace
  pub finished : (word ≡ Finished) ↔ (all_ended run.state.branches ≡ true)
  pub stuck : word ≡ Stuck → Waits P s run.state
