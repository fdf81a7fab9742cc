-- Ports and timers as the code of transfers finds them, and where the word of a stamp comes from.
use Rattle.std.specs.Prelude.{◌≡◌, ℕ, Bool, List, Option, Some, None, slice_get}
use Rattle.xs_instr.specs.declared.image.Home.{Home}
use Rattle.xs_instr.specs.declared.state.CoreState.{CoreState}
use Rattle.xs_instr.specs.declared.state.Port.{Port}
use Rattle.xs_instr.specs.declared.state.Timer.{Timer}
use Rattle.xs_instr.specs.Resources.{APort, ATimer, named}
use Rattle.xl_expr.specs.declared.plan.ResAt.{ResAt}
use Rattle.xl_expr.specs.Identifiers.{IsIdentifier}

-- the layout: the plan has an identifier, and this is it
abbrev pub ResourceIs : (ℕ → Bool) → (s dp : ℕ) → List ℕ → Option ResAt → (name : ℕ) → Type 0
ResourceIs relied s dp words None name = ⊥
ResourceIs relied s dp words (Some place) name = IsIdentifier relied s dp words place name

-- the plan's identifier names port p, which is so
pub record PortStands
    (home : Home) (relied : ℕ → Bool) (s dp : ℕ) (place : Option ResAt)
    (p : ℕ) (port : Port) (a : CoreState) : Type 0 where
  pub name : ℕ
  pub name_is : ResourceIs relied s dp a.words place name
  pub names : named home.number name ≡ APort p
  pub there : slice_get a.ports p ≡ Some port

-- the plan's identifier names timer n, which is so
pub record TimerStands
    (home : Home) (relied : ℕ → Bool) (s dp : ℕ) (place : Option ResAt)
    (n : ℕ) (timer : Timer) (a : CoreState) : Type 0 where
  pub name : ℕ
  pub name_is : ResourceIs relied s dp a.words place name
  pub names : named home.number name ≡ ATimer n
  pub there : slice_get a.timers n ≡ Some timer
