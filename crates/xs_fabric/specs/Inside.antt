-- What a machine is made of, and what it keeps.
use Rattle.std.specs.Prelude.{◌-◌, map, vec_len, vec_capacity}
use Rattle.xs_fabric.specs.declared.machine.Machine.TheInside.{Inside}
use Rattle.xs_fabric.specs.Seen.{Running, home_in, together}
use Rattle.xs_fabric.specs.Kept.{IsRunning}

-- what is seen of it
abbrev pub running_of : Inside → Running
running_of m = record {
  homes = map home_in m.cores.items;
  state = together m.cores.items m.links m.trace.items;
  room = vec_capacity m.trace - vec_len m.trace;
}

-- events of a valid image have led to where it is
abbrev pub IsMachine : Inside → Type 0
IsMachine m = IsRunning m.cores.items m.links m.trace.items
