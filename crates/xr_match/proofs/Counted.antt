-- A program goes on as it does, whatever its families have done so far.
use Rattle.std.proofs.Common.{◌≡◌, ℕ, ◌+◌, List, [], ◌∷◌, Option, Some, None, refl, ap, ◌∙◌, arith}
use Rattle.std.proofs.lemmas.Option.{same_Some}
use Rattle.xs_instr.specs.declared.image.Stim.{Stim}
use Rattle.xs_instr.specs.Machine.{and_then}
use Rattle.xc_kernel.specs.Plain as kernel
use Rattle.xc_meaning.specs.Counts.Families.{counted_for, mover, steps_of}
use Rattle.xc_meaning.specs.Runs.{acts, acts_all}
use Rattle.xc_meaning.specs.States.Worlds.{Action, World}
use Rattle.xr_match.specs.Meanings.{of_worlds}
use Rattle.xr_match.specs.Sources.{Source, Counted, allowed, counted_after, counted_of}
use Rattle.xr_match.specs.Systems.{leads}

module _ (P : Source) (s : Stim) where
  -- with its families' actions
  pub counted : (actions : List P.Action) (x : Counted P) (y : P.State) → allowed P s x.state actions ≡ Some y → (z : Counted P) × (leads (counted_of P s) x actions ≡ Some z) × (z.state ≡ y)
  counted [] x y e = (x, refl, same_Some _ _ e)
  counted (a ∷ actions) x y e = go (counted actions) (P.acts s x.state a) refl e
    where
      go : ((x' : Counted P) (y' : P.State) → allowed P s x'.state actions ≡ Some y' → (z : Counted P) × (leads (counted_of P s) x' actions ≡ Some z) × (z.state ≡ y')) → (o : Option P.State) → P.acts s x.state a ≡ o → and_then o (λ z. allowed P s z actions) ≡ Some y → (z : Counted P) × (leads (counted_of P s) x (a ∷ actions) ≡ Some z) × (z.state ≡ y)
      go next None acts h = absurd cc
      go next (Some x') acts h =
          let rest = next (counted_after P x a x') y h in
          let first = ap (λ (o : Option P.State). and_then (and_then o (λ z. Some (counted_after P x a z))) (λ z. leads (counted_of P s) z actions)) acts in
          (rest.0, first ∙ rest.1, rest.2)

  -- and without them
  pub uncounted : (actions : List P.Action) (x z : Counted P) → leads (counted_of P s) x actions ≡ Some z → allowed P s x.state actions ≡ Some z.state
  uncounted [] x z e = ap (λ (y : Counted P). Some y.state) (same_Some _ _ e)
  uncounted (a ∷ actions) x z e = go (uncounted actions) (P.acts s x.state a) refl e
    where
      go : ((x' z' : Counted P) → leads (counted_of P s) x' actions ≡ Some z' → allowed P s x'.state actions ≡ Some z'.state) → (o : Option P.State) → P.acts s x.state a ≡ o → and_then (and_then o (λ y. Some (counted_after P x a y))) (λ y. leads (counted_of P s) y actions) ≡ Some z → allowed P s x.state (a ∷ actions) ≡ Some z.state
      go next None acts h = absurd cc
      go next (Some x') acts h =
          ap (λ (o : Option P.State). and_then o (λ y. allowed P s y actions)) acts ∙ next (counted_after P x a x') z h

-- A kernel or a text goes on so, and each family has done what is its own of the steps.
pub counted_steps : (K : kernel.Kernel) (s : Stim) (start : World) (bound : ℕ) (actions : List Action) (x : Counted (of_worlds K start bound)) (y : World) → acts_all K s (Some x.state) actions ≡ Some y →
    (z : Counted (of_worlds K start bound)) × (leads (counted_of (of_worlds K start bound) s) x actions ≡ Some z) × (z.state ≡ y)
    × ((f : ℕ) → z.actions f ≡ x.actions f + steps_of K s f (Some x.state) actions)
counted_steps K s start bound [] x y e = (x, refl, same_Some _ _ e, λ f. omega arith)
counted_steps K s start bound (a ∷ actions) x y e = go (counted_steps K s start bound actions) (acts K s x.state a) refl e
  where
    go : ((x' : Counted (of_worlds K start bound)) (y' : World) → acts_all K s (Some x'.state) actions ≡ Some y' →
        (z : Counted (of_worlds K start bound)) × (leads (counted_of (of_worlds K start bound) s) x' actions ≡ Some z) × (z.state ≡ y')
        × ((f : ℕ) → z.actions f ≡ x'.actions f + steps_of K s f (Some x'.state) actions)) →
        (o : Option World) → acts K s x.state a ≡ o → acts_all K s o actions ≡ Some y →
        (z : Counted (of_worlds K start bound)) × (leads (counted_of (of_worlds K start bound) s) x (a ∷ actions) ≡ Some z) × (z.state ≡ y)
        × ((f : ℕ) → z.actions f ≡ x.actions f + (counted_for f (mover x.state a) + steps_of K s f (acts K s x.state a) actions))
    go next None acted h = absurd (none actions h)
      where
        none : (ms : List Action) → acts_all K s None ms ≡ Some y → ⊥
        none [] f = cc
        none (m ∷ ms) f = cc
    go next (Some x') acted h =
        let rest = next (counted_after (of_worlds K start bound) x a x') y h in
        let first = ap (λ (o : Option World). and_then (and_then o (λ z. Some (counted_after (of_worlds K start bound) x a z))) (λ z. leads (counted_of (of_worlds K start bound) s) z actions)) acted in
        (rest.0, first ∙ rest.1, rest.2, λ f. let one = rest.3 f in let two = ap (λ o. steps_of K s f o actions) acted in omega arith)
