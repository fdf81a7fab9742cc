-- What the parts of a core stand for.
use Rattle.std.specs.Prelude.{ℕ, List, slice_index_or}
use Rattle.xs_core.specs.declared.state.State.{State}
use Rattle.xs_instr.specs.declared.image.Home.{Home}
use Rattle.xs_instr.specs.declared.state.CoreState.{CoreState}
use Rattle.xs_instr.specs.declared.state.Lock.{Lock}
use Rattle.xs_instr.specs.declared.state.Thread.{Thread}
use Rattle.xs_instr.specs.declared.state.Timer.{Timer}
use Rattle.xs_instr.specs.Machine.{unused_thread, boot_timer}
use Rattle.xs_instr.specs.Pool.{lock_free}

-- the core's state
abbrev pub state_of : State → CoreState
state_of s = record {
  clock = s.ports.clock;
  roots = s.roots;
  threads = s.threads;
  words = s.words;
  syncs = s.pool.syncs;
  locks = s.locks;
  ports = s.ports.ports;
  timers = s.timers;
  ends = s.ends;
  events = s.events;
}

-- what no event changes of the core
abbrev pub home_of : State → Home
home_of s = record { number = s.ports.core; parts = s.fixed.parts; pairs = s.fixed.pairs; stim = s.ports.stim }

-- the thread of that number, which is below 8
abbrev pub thread_at : List Thread → ℕ → Thread
thread_at threads t = slice_index_or threads t unused_thread

-- the timer of that number, which is below their count
abbrev pub timer_at : List Timer → ℕ → Timer
timer_at timers n = slice_index_or timers n boot_timer

-- the lock of that number, which is below 4
abbrev pub lock_at : List Lock → ℕ → Lock
lock_at locks n = slice_index_or locks n lock_free
