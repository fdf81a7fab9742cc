-- What is watched for the resources of a core.
use Rattle.std.specs.Prelude.{◌≡◌, ℕ, Option, Some, None, length}
use Rattle.xs_instr.specs.declared.state.Events.{Events}
use Rattle.xs_instr.specs.declared.state.Res.{Res}
use Rattle.xs_instr.specs.declared.state.Watch.{Watch}
use Rattle.xs_instr.specs.Events.{watch_of}

-- there are 32 resources of each kind
pub record HasAll (events : Events) : Type 0 where
  pub ports : length events.ports ≡ 32
  pub timers : length events.timers ≡ 32
  pub ends : length events.ends ≡ 32

-- `owner_of`, by cases
abbrev pub owner_in : Option Watch → Option ℕ
owner_in None = None
owner_in (Some watch) = watch.owner

-- the thread that enabled a resource
abbrev pub owner_of : Events → Res → Option ℕ
owner_of events res = owner_in (watch_of events res)
