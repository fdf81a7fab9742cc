-- Records, cut at a tick.
use Rattle.std.specs.Prelude.{ℕ, ◌+◌, ◌<◌, ◌≡◌, Bool, true, false, List, [], ◌∷◌, nat_eq}
use Rattle.xr_windows.specs.Merge.{at_tick}
use Rattle.xr_windows.specs.Rising.{Rising}
use Rattle.xr_windows.specs.declared.stamped.Stamped.{Stamped}
use Rattle.xs_instr.specs.declared.trace.Record.{Record}

-- `first_at`, by cases
abbrev pub first_by : Record → List Record → Bool → List Record
first_by made rest true = made ∷ rest
first_by made rest false = []

-- the first ones, as far as they are of that tick
abbrev pub first_at : ℕ → List Stamped → List Record
first_at t [] = []
first_at t (r ∷ rs) = first_by r.made (first_at t rs) (nat_eq r.tick t)

-- `rest_at`, by cases
abbrev pub rest_by : List Stamped → List Stamped → Bool → List Stamped
rest_by all rest true = rest
rest_by all rest false = all

-- the others
abbrev pub rest_at : ℕ → List Stamped → List Stamped
rest_at t [] = []
rest_at t (r ∷ rs) = rest_by (r ∷ rs) (rest_at t rs) (nat_eq r.tick t)

-- these are left of all after tick t
pub record Left (t : ℕ) (all left : List Stamped) : Type 0 where
  pub rises : Rising (t + 1) left
  pub keeps : (u : ℕ) → t < u → at_tick u all ≡ at_tick u left
