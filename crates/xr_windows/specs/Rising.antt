-- Records in the order of their ticks.
use Rattle.std.specs.Prelude.{ℕ, ◌≤◌, List, [], ◌∷◌}
use Rattle.xr_windows.specs.declared.stamped.Stamped.{Stamped}

-- no tick is below k, nor below the one before
abbrev pub Rising : ℕ → List Stamped → Type 0
Rising k [] = Unit {0}
Rising k (r ∷ rs) = (k ≤ r.tick) × Rising r.tick rs
