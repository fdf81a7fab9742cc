-- What a resource of a core is to a thread, beside the tokens of a channel end: its state, where its event leads, and for whom it is enabled. What
-- others leave of a thread's own resources, and what its steps leave of theirs.
use Rattle.std.specs.Prelude.{◌≡◌, ◌≢◌, ℕ, Option, Some, None, slice_get}
use Rattle.xs_instr.specs.declared.state.CoreState.{CoreState}
use Rattle.xs_instr.specs.declared.state.Events.{Events}
use Rattle.xs_instr.specs.declared.state.Port.{Port}
use Rattle.xs_instr.specs.declared.state.Res.{Res}
use Rattle.xs_instr.specs.declared.state.Res.TheVariants.{Port as ResPort, Timer as ResTimer, End as ResEnd}
use Rattle.xs_instr.specs.declared.state.Timer.{Timer}
use Rattle.xs_instr.specs.declared.state.Watch.{Watch}
use Rattle.xs_instr.specs.Events.{vector_of, watch_of}

-- of a channel end the vector alone
pub record ResourceState : Type 0 where
  pub port : Option Port
  pub timer : Option Timer
  pub vector : ℕ

abbrev pub resource_state : CoreState → Res → ResourceState
resource_state core (ResPort n) = record { port = slice_get core.ports n; timer = None; vector = vector_of core.events (ResPort n) }
resource_state core (ResTimer n) = record { port = None; timer = slice_get core.timers n; vector = vector_of core.events (ResTimer n) }
resource_state core (ResEnd n) = record { port = None; timer = None; vector = vector_of core.events (ResEnd n) }

-- `IsEnabledFor`, by cases
abbrev pub owner_in : Option Watch → Option ℕ
owner_in None = None
owner_in (Some watch) = watch.owner

-- the thread that enabled it last
abbrev pub IsEnabledFor : (thread : ℕ) → Events → Res → Type 0
IsEnabledFor t events res = owner_in (watch_of events res) ≡ Some t

-- one port alone, and one timer alone

abbrev pub port_alone : (p : ℕ) → Res → Type 0
port_alone p res = res ≡ ResPort p

abbrev pub timer_alone : (n : ℕ) → Res → Type 0
timer_alone n res = res ≡ ResTimer n

module _ (mine : Res → Type 0) (t : ℕ) where
  -- The rely of thread t: its own resources are as they were, and enabled for it as before; and nothing more is enabled for it.
  pub record OwnPartsStay (a b : CoreState) : Type 0 where
    pub parts : (res : Res) → mine res → resource_state b res ≡ resource_state a res
    pub enabled : (res : Res) → mine res → IsEnabledFor t a.events res → IsEnabledFor t b.events res
    pub no_more_enabled : (res : Res) → IsEnabledFor t b.events res → IsEnabledFor t a.events res

  -- The guarantee of its steps: all other resources are as they were, and enabled as before for others; and nothing more is enabled for another thread.
  pub record OtherPartsStay (a b : CoreState) : Type 0 where
    pub parts : (res : Res) → (mine res → ⊥) → resource_state b res ≡ resource_state a res
    pub enabled : (u : ℕ) (res : Res) → u ≢ t → (mine res → ⊥) → IsEnabledFor u a.events res → IsEnabledFor u b.events res
    pub no_more_enabled : (u : ℕ) (res : Res) → u ≢ t → IsEnabledFor u b.events res → IsEnabledFor u a.events res
