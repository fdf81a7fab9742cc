-- A core's part of a round, told of the core itself.
use Rattle.std.specs.Prelude.{ℕ, ◌+◌, List, [], length, nat_lt}
use Rattle.xs_core.specs.Core.{Seen as Core}
use Rattle.xs_instr.specs.declared.image.Home.{Home}
use Rattle.xs_instr.specs.declared.state.CoreState.{CoreState}
use Rattle.xs_instr.specs.declared.state.Item.{Item}
use Rattle.xs_instr.specs.declared.trace.Record.{Record}
use Rattle.xs_instr.specs.Machine.{on_links}
use Rattle.xs_instr.specs.Slot.{last_clock}
use Rattle.xw_words.specs.Words.{truth}
use Rattle.xs_fabric.specs.Lockstep.{Part, all_came, core_round, due_from, late_from, steps_in, tick_once}

-- the links between the cores: a list by sender of lists by receiver
abbrev pub Links : Type 0
Links = List (List (List Item))

-- a core with what was recorded and what stands in its outbox
abbrev pub part : Core → List Record → Part
part core trace = record { core = core.state; made = trace; sent = core.outbox }

-- what is due at a core whose clock is up already
abbrev pub due_at : Home → Links → CoreState → List Item
due_at home links core = due_from links home.number core.clock 4

-- the core as its threads' turns begin: its clock is up, and what was due has come
abbrev pub begun : Home → Links → CoreState → Part
begun home links core =
    record { core = all_came (tick_once core) (due_at home links (tick_once core)); made = []; sent = [] }

-- a core's part of a round: a tick, what is due, and a turn of each thread
abbrev pub own_round : Home → Links → CoreState → Part
own_round home links core = core_round home (tick_once core) (due_at home links (tick_once core))

-- the links after it: what was due is gone, and what was sent stands last
abbrev pub links_after : Home → Links → CoreState → Links
links_after home links core =
    on_links (late_from links home.number (tick_once core).clock 4) home.number (own_round home links core).sent

-- how many events it has
abbrev pub round_events : Home → Links → CoreState → ℕ
round_events home links core =
    truth (nat_lt core.clock last_clock) + length (due_at home links (tick_once core)) + steps_in home (begun home links core) 8
