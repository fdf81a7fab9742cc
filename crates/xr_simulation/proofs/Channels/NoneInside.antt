-- While threads settle, none of them gets into a transfer.
use Rattle.std.proofs.Common.{◌≡◌, ℕ, Option, None, sym, ap, ◌∙◌, ⊎_elim}
use Rattle.std.specs.Prelude.{Bool}
use Rattle.xl_par.specs.Acquired.{Acquired}
use Rattle.xr_match.specs.Lives.{Watched}
use Rattle.xr_match.specs.Meanings.{of_kernel}
use Rattle.xr_match.specs.Sources.{Counted}
use Rattle.xr_simulation.specs.Roles.{Roles, used_by}
use Rattle.xr_simulation.specs.Runners.{Runner, Setting}
use Rattle.xr_simulation.proofs.Relation.CoreSteps.{same_runner}
use Rattle.xr_simulation.proofs.Relation.Seats.{role_cases, with_role}
use Rattle.xr_simulation.proofs.Relation.Lasting.{Follows}

-- no thread is inside a transfer
abbrev pub NoneInside : Roles → Type 0
NoneInside who = (core thread : ℕ) (r : Runner) (hand : Option Acquired) → who core thread ≡ used_by r hand → r.transfer ≡ None

-- a piece of the run leads to where the two stand so, and none is inside a transfer if none was
pub record Settles (g : Setting) (may_rest : (core thread : ℕ) → Bool) (old : Roles) (before : Watched) (x : Counted (of_kernel g.program)) (w : Watched) : Type 0 where
  pub follows : Follows g may_rest old before x w
  pub none_inside : NoneInside old → NoneInside follows.who

-- one thread more is none
pub none_with : (who : Roles) (c t : ℕ) (s : Runner) (hand : Option Acquired) → s.transfer ≡ None → NoneInside who → NoneInside (with_role who c t (used_by s hand))
none_with who c t s hand none all core thread r other runs =
    ⊎_elim
    (λ here. of_runner (sym here.2 ∙ runs))
    (λ elsewhere. all core thread r other (sym elsewhere.1 ∙ runs))
    (role_cases who c t (used_by s hand) core thread)
  where
    of_runner : used_by s hand ≡ used_by r other → r.transfer ≡ None
    of_runner e = ap (λ (k : Runner). k.transfer) (sym (same_runner s r hand other e)) ∙ none
