-- Which resource is picked.
use Rattle.std.specs.Prelude.{◌≡◌, ◌⊎◌, ℕ, ◌<◌, ◌≤◌, Bool, true, Some}
use Rattle.xs_event.specs.Watches.{owner_of}
use Rattle.xs_instr.specs.declared.state.Events.{Events}
use Rattle.xs_instr.specs.declared.state.Res.{Res}
use Rattle.xs_instr.specs.declared.state.Res.TheVariants.{Port, Timer, End}
use Rattle.xs_instr.specs.Events.{Readiness, res_number}

-- whether a resource is ready
abbrev pub is_ready : Readiness → Res → Bool
is_ready ready (Port n) = ready.ports n
is_ready ready (Timer n) = ready.timers n
is_ready ready (End n) = ready.ends n

-- the thread enabled the resource, and it is ready
pub record IsPickable (events : Events) (thread : ℕ) (ready : Readiness) (res : Res) : Type 0 where
  pub enabled : owner_of events res ≡ Some thread
  pub is_ready : is_ready ready res ≡ true

-- ports before timers before channel ends
abbrev pub rank : Res → ℕ
rank (Port n) = 0
rank (Timer n) = 1
rank (End n) = 2

-- a resource that is the same or comes behind: by its kind, then by its number
abbrev pub IsUpTo : Res → Res → Type 0
IsUpTo res other = (rank res < rank other) ⊎ ((rank res ≡ rank other) × (res_number res ≤ res_number other))

-- the thread could pick it, and no resource before it
pub record IsLeastPickable (events : Events) (thread : ℕ) (ready : Readiness) (res : Res) : Type 0 where
  pub pickable : IsPickable events thread ready res
  pub least : (other : Res) → IsPickable events thread ready other → IsUpTo res other

-- the thread could pick none
abbrev pub NonePickable : Events → ℕ → Readiness → Type 0
NonePickable events thread ready = (res : Res) → ¬ IsPickable events thread ready res
