-- The names that are known behind a piece of a program.
use Rattle.std.specs.Prelude.{◌≡◌, List, ◌++◌}
use Rattle.xc_kernel.specs.Scopes.{Scope, Binding}

-- some names, and behind them others
pub record Grows (before after : Scope) : Type 0 where
  pub more : List Binding
  pub is : after ≡ more ++ before
