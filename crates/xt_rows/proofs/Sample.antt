-- The states in which the rows are shown: thread 0 of core 1 stands at index 2, which is the last one of the code.
use Rattle.std.specs.Prelude.{ℕ, false, List, [], ◌∷◌, None}
use Rattle.xs_instr.specs.declared.image.Home.{Home}
use Rattle.xs_instr.specs.declared.image.Pair.{Pair}
use Rattle.xs_instr.specs.declared.image.StimLine.{StimLine}
use Rattle.xs_instr.specs.declared.instr.Instr.{Instr}
use Rattle.xs_instr.specs.declared.state.CoreState.{CoreState}
use Rattle.xs_instr.specs.declared.state.Mode.TheVariants.{Running}
use Rattle.xs_instr.specs.declared.state.Regs.{Regs}
use Rattle.xs_instr.specs.declared.state.Thread.{Thread}
use Rattle.xs_instr.specs.Did.{Did, makes}
use Rattle.xs_instr.specs.Machine.{no_parts}
use Rattle.xs_instr.specs.Registers.{no_regs}
use Rattle.xs_instr.specs.Slot.{slot}

-- the channels: ends 0 and 1 are each other's peer, and end 2 has its peer on core 0
abbrev pub pairs : List Pair
pairs =
    record { core = 1; end = 0; peer_core = 1; peer_end = 1 }
    ∷ record { core = 1; end = 2; peer_core = 0; peer_end = 5 }
    ∷ []

-- the pins of 4A are 5 from tick 60000 on, and 6 from tick 70001 on; core 0 has pins of its own
abbrev pub stim : List StimLine
stim =
    record { tick = 100; core = 1; port = 16; value = 3 }
    ∷ record { tick = 60000; core = 1; port = 16; value = 5 }
    ∷ record { tick = 60000; core = 0; port = 16; value = 9 }
    ∷ record { tick = 70001; core = 1; port = 16; value = 6 }
    ∷ []

-- what no event changes, where the instruction stands at each index of the code
abbrev pub home : Instr → Home
home i = record {
  number = 1;
  parts = record (no_parts 1) { code = record { instrs = i ∷ i ∷ i ∷ []; «at» = record { line = 9; col = 1 } ∷ record { line = 9; col = 2 } ∷ record { line = 9; col = 3 } ∷ [] } };
  pairs = pairs;
  stim = stim;
}

-- registers that are 0 but for the first three
abbrev pub three : ℕ → ℕ → ℕ → Regs
three a b c = record no_regs { r0 = a; r1 = b; r2 = c }

-- a thread that runs, at an index and with these registers
abbrev pub running : ℕ → Regs → Thread
running pc regs = record { mode = Running; pc = pc; regs = regs; event_bit = false; tie = None }

-- a core with words at 0, 4 and 8, and with no threads and nothing else. Its clock is 65536 + 4464.
abbrev pub sample : CoreState
sample = record {
  clock = 70000;
  roots = 1;
  threads = [];
  words = 10 ∷ 20 ∷ 30 ∷ [];
  syncs = [];
  locks = [];
  ports = [];
  timers = [];
  ends = [];
  events = record { ports = []; timers = []; ends = [] };
}

-- what comes of an instruction in thread 0
abbrev pub comes_of : Instr → CoreState → Did CoreState
comes_of i core = slot (home i) core 0

-- the core with this thread alone
abbrev pub alone : Thread → CoreState
alone thread = record sample { threads = thread ∷ [] }

-- the same, with other words
abbrev pub alone_with : Thread → List ℕ → CoreState
alone_with thread words = record sample { threads = thread ∷ []; words = words }

-- what comes of an instruction with these registers
abbrev pub done_with : Instr → Regs → Did CoreState
done_with i regs = comes_of i (alone (running 2 regs))

-- the thread goes on at an index with these registers, and nothing else is changed
abbrev pub goes_to : ℕ → Regs → Did CoreState
goes_to pc regs = makes (alone (running pc regs))

-- the same, with other words
abbrev pub goes_to_with : ℕ → Regs → List ℕ → Did CoreState
goes_to_with pc regs words = makes (alone_with (running pc regs) words)

-- identifiers of core 1: 1 * 2^24 + number * 2^8 + kind
abbrev pub port_0 : ℕ
port_0 = 16777216

abbrev pub timer_0 : ℕ
timer_0 = 16777217

abbrev pub end_0 : ℕ
end_0 = 16777218

abbrev pub end_1 : ℕ
end_1 = 16777474

abbrev pub end_2 : ℕ
end_2 = 16777730

abbrev pub sync_0 : ℕ
sync_0 = 16777219

abbrev pub sync_1 : ℕ
sync_1 = 16777475

abbrev pub thread_1 : ℕ
thread_1 = 16777476

abbrev pub lock_0 : ℕ
lock_0 = 16777221

abbrev pub lock_1 : ℕ
lock_1 = 16777477
