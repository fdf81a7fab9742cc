-- The variables that the roots of a checked kernel use are on their cores.
use Rattle.std.proofs.Common.{◌≡◌, ◌≢◌, ◌⊎◌, ⊎_elim, ℕ, zero, suc, ◌<◌, true, List, [], ◌∷◌, Contains, Some, slice_get, refl, sym, ap, subst, ◌∙◌, arith}
use Rattle.xc_kernel.specs.Plain as kernel
use Rattle.xc_kernel.specs.Things.{variable, change, by_statements}
use Rattle.xc_kernel.specs.Branches.{branches_of, branch_at}
use Rattle.xc_disjoint.specs.Clashes.{changed, used}
use Rattle.xc_disjoint.specs.Disjoint.{clash}
use Rattle.xc_disjoint.specs.Rules.{apart}
use Rattle.xc_disjoint.specs.Checked.{IsChecked}
use Rattle.xc_wellformed.specs.Each.{AnyNumber, EachOf, EachRootOn}
use Rattle.xc_wellformed.specs.Numbers.{NumbersInExpression, NumbersInPlace}
use Rattle.xc_wellformed.specs.Cores.{IsOn, RootsKeepApart, OutputOn, InputOn, CoresAreOwn}
use Rattle.xc_wellformed.proofs.Formed.{of_programs, cores_own}
use Rattle.xl_plan.proofs.Lists.{some_given, none_given, contained_at}
use Rattle.xl_plan.proofs.Used.{variable_used}

root_branch : (rs : List kernel.Root) (i : ℕ) (r : kernel.Root) → slice_get rs i ≡ Some r → branch_at (branches_of rs) i ≡ Some (kernel.branch r.body r.pos)
root_branch [] i r e = absurd (none_given e)
root_branch (q ∷ rs) zero r e = ap (λ (x : kernel.Root). Some (kernel.branch x.body x.pos)) (some_given e)
root_branch (q ∷ rs) (suc i) r e = root_branch rs i r e

order : (i j : ℕ) → i ≢ j → (i < j) ⊎ (j < i)
order i j ne = grind arith

same_or_not : (i j : ℕ) → (i ≡ j) ⊎ (i ≢ j)
same_or_not i j = grind arith

module _ (k : kernel.Kernel) (checked : IsChecked k) where
  roots_apart : RootsKeepApart k
  roots_apart a b v ca cb changes uses = by (contained_at k.roots a ca) (contained_at k.roots b cb)
    where
      by : (i : ℕ) × (slice_get k.roots i ≡ Some a) → (j : ℕ) × (slice_get k.roots j ≡ Some b) → a.core ≡ b.core
      by (i, at_i) (j, at_j) = ⊎_elim same differ (same_or_not i j)
        where
          same : i ≡ j → a.core ≡ b.core
          same e = ap (λ (r : kernel.Root). r.core) (some_given (sym at_i ∙ ap (slice_get k.roots) e ∙ at_j))

          differ : i ≢ j → a.core ≡ b.core
          differ ne = absurd (⊎_elim
              (λ lt. checked.unbroken _ (apart (clash (record {
                place = 0;
                bs = branches_of k.roots;
                is_par = refl;
                i = i;
                j = j;
                before = lt;
                earlier = kernel.branch a.body a.pos;
                earlier_is = root_branch k.roots i a at_i;
                later = kernel.branch b.body b.pos;
                later_is = root_branch k.roots j b at_j;
                one = change v;
                other = variable v;
                clash = changed v;
                earlier_uses = changes;
                later_uses = uses;
                is = refl;
              }))))
              (λ lt. checked.unbroken _ (apart (clash (record {
                place = 0;
                bs = branches_of k.roots;
                is_par = refl;
                i = j;
                j = i;
                before = lt;
                earlier = kernel.branch b.body b.pos;
                earlier_is = root_branch k.roots j b at_j;
                later = kernel.branch a.body a.pos;
                later_is = root_branch k.roots i a at_i;
                one = variable v;
                other = change v;
                clash = used v;
                earlier_uses = uses;
                later_uses = changes;
                is = refl;
              }))))
              (order i j ne))

  own : CoresAreOwn k
  own = cores_own k (of_programs k checked.of_program) roots_apart

  abbrev Own : kernel.Root → Type 0
  Own r = EachOf (NumbersInExpression (λ v is_array. IsOn k.variables r.core v)) (NumbersInPlace (λ v is_array. IsOn k.variables r.core v)) (IsOn k.variables r.core) (OutputOn k.timers r.core) (InputOn k.timers r.core) AnyNumber r.body

  at_root : (rs : List kernel.Root) (i : ℕ) (r : kernel.Root) → EachRootOn (λ core. NumbersInExpression (λ v is_array. IsOn k.variables core v)) (λ core. NumbersInPlace (λ v is_array. IsOn k.variables core v)) (IsOn k.variables) (OutputOn k.timers) (InputOn k.timers) (λ core. AnyNumber) rs → slice_get rs i ≡ Some r → Own r
  at_root [] i r h e = absurd (none_given e)
  at_root (q ∷ rs) zero r h e = subst Own (some_given e) h.0
  at_root (q ∷ rs) (suc i) r h e = at_root rs i r h.1 e

  pub own_at : (r : kernel.Root) → Contains k.roots r → Own r
  own_at r among = let at = contained_at k.roots r among in at_root k.roots at.0 r own at.1

  -- a variable that a root uses is on its core
  pub variable_here : (r : kernel.Root) (v : ℕ) → Contains k.roots r → by_statements (variable v) r.body ≡ true → IsOn k.variables r.core v
  variable_here r v among u = variable_used (IsOn k.variables r.core) v (OutputOn k.timers r.core) (InputOn k.timers r.core) AnyNumber r.body (own_at r among) u
