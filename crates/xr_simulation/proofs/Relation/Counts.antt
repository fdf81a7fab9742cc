-- How many branches of roots of a core have not ended, and what counts for a family.
use Rattle.std.proofs.Common.{◌≡◌, ◌≢◌, ℕ, zero, suc, ◌+◌, ◌≤◌, Bool, true, false, List, [], ◌∷◌, ◌++◌, Some, None, option_map, refl, ap, ◌∙◌, arith, eq-eqb}
use Rattle.std.specs.Prelude.{slice_get, slice_set, nat_eq, not, ◌&&◌}
use Rattle.std.proofs.lemmas.Bool.{ne_eqb}
use Rattle.xc_meaning.specs.Counts.Families.{counted_for, family_at, family_of_branch, mover, one_if, steps_of}
use Rattle.xc_meaning.specs.States.Branches.{Birth, Branch, has_ended, all_ended}
use Rattle.xc_meaning.specs.States.Worlds.{World, Action}
use Rattle.xr_simulation.specs.Runners.{Setting}
use Rattle.xr_simulation.specs.MatchStates.{counts, is_of_root, living_on, one_where}
use Rattle.xr_simulation.specs.NextStep.{OwnAction, own_default, own_go, own_take}

-- one branch changes
pub living_after : (c : ℕ) (bs : List Branch) (b : ℕ) (old new : Branch) → slice_get bs b ≡ Some old → living_on c (slice_set bs b new) + counts c old ≡ living_on c bs + counts c new
living_after c [] b old new h = cc
living_after c (x ∷ bs) zero old new h = let e : x ≡ old = cc in rw e (omega arith)
living_after c (x ∷ bs) (suc b) old new h = omega (arith, living_after c bs b old new h)

-- one branch changes that counts as before
pub living_same : (c : ℕ) (bs : List Branch) (b : ℕ) (old new : Branch) → slice_get bs b ≡ Some old → counts c new ≡ counts c old → living_on c (slice_set bs b new) ≡ living_on c bs
living_same c bs b old new h same = omega (arith, living_after c bs b old new h, same)

-- branches are made
pub living_with : (c : ℕ) (bs others : List Branch) → living_on c (bs ++ others) ≡ living_on c bs + living_on c others
living_with c [] others = omega arith
living_with c (b ∷ bs) others = omega (arith, living_with c bs others)

-- a branch is one of those that are counted
pub living_some : (c : ℕ) (bs : List Branch) (b : ℕ) (old : Branch) → slice_get bs b ≡ Some old → counts c old ≤ living_on c bs
living_some c [] b old h = cc
living_some c (x ∷ bs) zero old h = let e : x ≡ old = cc in rw e (omega arith)
living_some c (x ∷ bs) (suc b) old h = omega (arith, living_some c bs b old h)

-- a branch of another core does not count
pub far_counts : (c : ℕ) (branch : Branch) → branch.core ≢ c → counts c branch ≡ 0
far_counts c branch ne = ap (λ b. one_where (b && (not (has_ended branch.mode) && is_of_root branch.birth))) (ne_eqb branch.core c ne)

-- what is not both so counts as nothing
neither_so : (a b : Bool) → one_where (a && (b && false)) ≡ 0
neither_so true true = refl
neither_so true false = refl
neither_so false b = refl

none_so : (a : Bool) → one_where (a && false) ≡ 0
none_so true = refl
none_so false = refl

-- nor does one that was made
pub made_counts : (c : ℕ) (branch : Branch) (birth : Birth) → branch.birth ≡ Some birth → counts c branch ≡ 0
made_counts c branch birth h =
    ap (λ o. one_where (nat_eq branch.core c && (not (has_ended branch.mode) && is_of_root o))) h
    ∙ neither_so (nat_eq branch.core c) (not (has_ended branch.mode))

-- nor one that has ended
pub ended_counts : (c : ℕ) (branch : Branch) → has_ended branch.mode ≡ true → counts c branch ≡ 0
ended_counts c branch h =
    ap (λ b. one_where (nat_eq branch.core c && (not b && is_of_root branch.birth))) h
    ∙ none_so (nat_eq branch.core c)

-- a root's branch that has not ended counts on its core
pub root_counts : (branch : Branch) → has_ended branch.mode ≡ false → branch.birth ≡ None → counts branch.core branch ≡ 1
root_counts branch goes_on root =
    ap (λ b. one_where (b && (not (has_ended branch.mode) && is_of_root branch.birth))) (eq-eqb branch.core branch.core refl)
    ∙ ap (λ b. one_where (not b && is_of_root branch.birth)) goes_on
    ∙ ap (λ o. one_where (is_of_root o)) root

-- of two that are both so the first is
first_of_both : (a b : Bool) → (a && b) ≡ true → a ≡ true
first_of_both true b h = refl
first_of_both false b h = h

-- and the second
second_of_both : (a b : Bool) → (a && b) ≡ true → b ≡ true
second_of_both true b h = h
second_of_both false b h = cc

-- where all have ended, none lives
pub none_living : (c : ℕ) (bs : List Branch) → all_ended bs ≡ true → living_on c bs ≡ 0
none_living c [] h = refl
none_living c (b ∷ bs) h =
    let e = ended_counts c b (first_of_both (has_ended b.mode) (all_ended bs) h) in
    omega (arith, e, none_living c bs (second_of_both (has_ended b.mode) (all_ended bs) h))

-- an action of a branch's own is a step of its family
own_moves : (b : ℕ) (x : World) (action : Action) → OwnAction b action → mover x action ≡ family_at x b
own_moves b x _ own_go = refl
own_moves b x _ (own_take n) = refl
own_moves b x _ own_default = refl

-- so it counts for that
pub counts_own : (g : Setting) (b : ℕ) (x : World) (branch : Branch) (action : Action) (actions : List Action) →
    slice_get x.branches b ≡ Some branch → OwnAction b action → 1 ≤ steps_of g.program g.stimulus branch.family (Some x) (action ∷ actions)
counts_own g b x branch action actions known own =
    let one : counted_for branch.family (mover x action) ≡ 1 =
    ap (counted_for branch.family) (own_moves b x action own ∙ ap (option_map family_of_branch) known)
    ∙ ap one_if (eq-eqb branch.family branch.family refl) in
    omega (arith, one)
