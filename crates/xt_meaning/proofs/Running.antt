-- How runs are written down in examples, and what is said of where they lead.
use Rattle.std.specs.Prelude.{ℕ, zero, suc, Bool, true, false, List, [], ◌∷◌, ◌++◌, map, replicate, Option, Some, None, option_map}
use Rattle.xs_instr.specs.declared.image.Stim.{Stim}
use Rattle.xs_instr.specs.declared.trace.Record.{Record}
use Rattle.xc_tree.specs.Plain as tree
use Rattle.xc_kernel.specs.Plain as kernel
use Rattle.xc_kernel.specs.Copies.{copy_of}
use Rattle.xc_meaning.specs.States.Branches.{all_ended}
use Rattle.xc_meaning.specs.States.Worlds.{World, Action, clock, go}
use Rattle.xc_meaning.specs.Runs.{acts, acts_all, kernel_start, program_start, kernel_run, program_run}

abbrev pub no_stimulus : Stim
no_stimulus = record { lines = [] }

-- the pins of port 1B are 1 from tick 500 on
abbrev pub pulse : Stim
pulse = record { lines = record { tick = 500; core = 0; port = 1; value = 1 } ∷ [] }

-- from tick 500 on, and no more from tick 501 on
abbrev pub short_pulse : Stim
short_pulse = record { lines = record { tick = 500; core = 0; port = 1; value = 1 } ∷ record { tick = 501; core = 0; port = 1; value = 0 } ∷ [] }

-- so many steps of a branch, and so many ticks of core 0
abbrev pub steps : ℕ → (branch : ℕ) → List Action
steps n b = replicate n (go b)

abbrev pub wait : ℕ → List Action
wait n = replicate n (clock 0)

-- what is seen of a state: its trace, and whether each branch has ended
pub record Seen : Type 0 where
  pub trace : List Record
  pub ended : Bool

abbrev pub seen : World → Seen
seen x = record { trace = x.trace; ended = all_ended x.branches }

-- where a run leads, if it is one: of a program's kernel, and of the program's text
abbrev pub kernel_seen : List tree.Item → Stim → List Action → Option Seen
kernel_seen P s ms = option_map seen (kernel_run (copy_of P) s ms)

abbrev pub program_seen : List tree.Item → Stim → List Action → Option Seen
program_seen P s ms = option_map seen (program_run P s ms)

-- it leads there, and more is to be done; or all has ended
abbrev pub going : List Record → Option Seen
going trace = Some (record { trace = trace; ended = false })

abbrev pub finished : List Record → Option Seen
finished trace = Some (record { trace = trace; ended = true })

-- the pins of port 8A are 9
abbrev pub nine : Stim
nine = record { lines = record { tick = 0; core = 0; port = 22; value = 9 } ∷ [] }

-- the pins of port 4B are 1 from tick 3 on, and 2 from tick 6 on
abbrev pub rising : Stim
rising = record { lines = record { tick = 3; core = 0; port = 17; value = 1 } ∷ record { tick = 6; core = 0; port = 17; value = 2 } ∷ [] }

-- A part of a run: a branch goes on as far as it can by itself, a core's clock goes up so often, or a step is done. A step that
-- isn't possible is a part that does nothing.
pub data Part : Type 0 where
  advance : (branch : ℕ) → Part
  tick : (core count : ℕ) → Part
  step : Action → Part
  impossible : Action → Part

-- so many rounds in which each of some branches goes on
abbrev pub in_turn : (rounds : ℕ) → List ℕ → List Part
in_turn zero branches = []
in_turn (suc n) branches = map advance branches ++ in_turn n branches

-- where a step is possible, what is done after it
abbrev pub continued : (World → World) → World → Option World → World
continued further x None = x
continued further x (Some y) = further y

-- a branch goes on by at most so many steps
abbrev pub advanced : kernel.Kernel → Stim → (most branch : ℕ) → World → World
advanced K s zero b x = x
advanced K s (suc n) b x = continued (advanced K s n b) x (acts K s x (go b))

abbrev pub where_impossible : World → Option World → Option World
where_impossible x None = Some x
where_impossible x (Some y) = None

abbrev pub part_done : kernel.Kernel → Stim → World → Part → Option World
part_done K s x (advance b) = Some (advanced K s 400 b x)
part_done K s x (tick core count) = acts_all K s (Some x) (replicate count (clock core))
part_done K s x (step m) = acts K s x m
part_done K s x (impossible m) = where_impossible x (acts K s x m)

abbrev pub parts_done : kernel.Kernel → Stim → Option World → List Part → Option World
parts_done K s None parts = None
parts_done K s (Some x) [] = Some x
parts_done K s (Some x) (p ∷ ps) = parts_done K s (part_done K s x p) ps

-- what is seen of a program's text and of its kernel behind the same parts of a run
pub record Pair : Type 0 where
  pub of_text : Option Seen
  pub of_kernel : Option Seen

abbrev pub both : Option Seen → Pair
both what = record { of_text = what; of_kernel = what }

abbrev pub plays : List tree.Item → Stim → List Part → Pair
plays P s parts = record {
  of_text = option_map seen (parts_done (copy_of P) s (Some (program_start P)) parts);
  of_kernel = option_map seen (parts_done (copy_of P) s (Some (kernel_start (copy_of P))) parts);
}
