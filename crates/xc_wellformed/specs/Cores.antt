-- What the roots of a kernel use is on their cores.
use Rattle.std.specs.Prelude.{◌≡◌, ◌⊎◌, ℕ, true, List, Contains, Some, slice_get}
use Rattle.xc_kernel.specs.declared.kernel.Var.{Var}
use Rattle.xc_kernel.specs.declared.kernel.Timer.{Timer as KernelTimer}
use Rattle.xc_kernel.specs.declared.statement.KRes.{KRes}
use Rattle.xc_kernel.specs.declared.statement.KRes.TheVariants.{Port, Timer, Chan}
use Rattle.xc_kernel.specs.Plain as kernel
use Rattle.xc_kernel.specs.Things.{variable, change, by_statements}
use Rattle.xc_wellformed.specs.Each.{AnyNumber, EachRootOn}
use Rattle.xc_wellformed.specs.Numbers.{NumbersInExpression, NumbersInPlace}

-- some root on this core changes the variable of this number
pub record IsChangedOn (rs : List kernel.Root) (core number : ℕ) : Type 0 where
  pub root : kernel.Root
  pub among : Contains rs root
  pub there : root.core ≡ core
  pub changes : by_statements (change number) root.body ≡ true

-- The variable of this number is on this core, or some root on the core where it is changes it. The exception is for a name that an
-- input declares in a placed branch, which is known in the later ones. It names what rule 601 refuses: a root on the variable's own
-- core that changes it.
pub record VariableOn (vs : List Var) (rs : List kernel.Root) (core number : ℕ) : Type 0 where
  pub variable : Var
  pub there : slice_get vs number ≡ Some variable
  pub place : (variable.core ≡ core) ⊎ IsChangedOn rs variable.core number

-- the timer of this number is on this core
pub record TimerOn (ts : List KernelTimer) (core number : ℕ) : Type 0 where
  pub timer : KernelTimer
  pub there : slice_get ts number ≡ Some timer
  pub place : timer.core ≡ core

-- what a transfer goes through is on this core, if it is a timer
abbrev pub ResourceOn : List KernelTimer → ℕ → KRes → Type 0
ResourceOn ts core (Port p) = Unit {0}
ResourceOn ts core (Timer t) = TimerOn ts core t
ResourceOn ts core (Chan c) = Unit {0}

abbrev pub OutputOn : List KernelTimer → ℕ → kernel.Output → Type 0
OutputOn ts core o = ResourceOn ts core o.resource

abbrev pub InputOn : List KernelTimer → ℕ → kernel.Input → Type 0
InputOn ts core i = ResourceOn ts core i.resource

-- V of the core and the number of each variable that a root uses, and each timer on the root's core
abbrev pub EachUseOn : kernel.Kernel → (ℕ → ℕ → Type 0) → Type 0
EachUseOn k V =
    EachRootOn (λ core. NumbersInExpression (λ v is_array. V core v))
    (λ core. NumbersInPlace (λ v is_array. V core v)) V
    (OutputOn k.timers) (InputOn k.timers) (λ core. AnyNumber) k.roots

-- each timer that a root uses is on the root's core, and so is each variable that no root on
-- another core changes
abbrev pub CoresAreRight : kernel.Kernel → Type 0
CoresAreRight k = EachUseOn k (VariableOn k.variables k.roots)

-- the variable of this number is on this core
pub record IsOn (vs : List Var) (core number : ℕ) : Type 0 where
  pub variable : Var
  pub there : slice_get vs number ≡ Some variable
  pub place : variable.core ≡ core

-- no variable that a root changes is used by a root on another core
abbrev pub RootsKeepApart : kernel.Kernel → Type 0
RootsKeepApart k =
    (a b : kernel.Root) (v : ℕ) → Contains k.roots a → Contains k.roots b →
    by_statements (change v) a.body ≡ true → by_statements (variable v) b.body ≡ true →
    a.core ≡ b.core

-- each variable and each timer that a root uses is on the root's core
abbrev pub CoresAreOwn : kernel.Kernel → Type 0
CoresAreOwn k = EachUseOn k (IsOn k.variables)
