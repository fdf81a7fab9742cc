-- Without transactions in it, a program's run has none.
use Rattle.std.proofs.Common.{◌≡◌, ℕ, List, [], ◌∷◌, Option, Some, None, slice_get, refl, ap, subst, ◌∙◌}
use Rattle.xs_instr.specs.declared.image.Stim.{Stim}
use Rattle.xc_kernel.specs.Plain as kernel
use Rattle.xc_invariants.specs.Each.{EachBranch}
use Rattle.xc_invariants.specs.Every.{AllItems, EveryItem}
use Rattle.xc_invariants.specs.Lawful.{Lawful}
use Rattle.xc_invariants.specs.Rules.{AnyPar, AnyThing}
use Rattle.xc_invariants.proofs.Always.{laws_kept}
use Rattle.xc_invariants.proofs.EachItems.{each_branch_kept}
use Rattle.xc_invariants.proofs.Lookups.{born}
use Rattle.xc_invariants.proofs.Uses.{every_kept, no_text}
use Rattle.xc_meaning.proofs.Basics.{none_given, some_given}
use Rattle.xc_meaning.proofs.Moved.{moved}
use Rattle.xc_meaning.specs.Outline.{Becomes, Enters, Moved, ends_it, enters, errs, exits, goes, makes}
use Rattle.xc_meaning.specs.Outline as outline
use Rattle.xc_meaning.specs.Runs.{acts, acts_all, step_of}
use Rattle.xc_meaning.specs.Settings.Setting.{Setting}
use Rattle.xc_meaning.specs.Settings.Transactions.{without_innermost}
use Rattle.xc_meaning.specs.States.Branches.{Branch}
use Rattle.xc_meaning.specs.States.Items.{Item}
use Rattle.xc_meaning.specs.States.Worlds.{Action, World}
use Rattle.xr_simulation.specs.Plain.{ArePlain, NoTransaction}
use Rattle.xr_simulation.specs.Runners.{Setting as Given}

abbrev IsOutside : Branch → Type 0
IsOutside b = b.inside ≡ []

abbrev IsPlain : Item → Type 0
IsPlain = EveryItem AnyThing AnyPar NoTransaction

-- no transaction begins
not_entered : (rest : List Item) (item : Item) (c : ℕ) (items : List Item) → Enters rest item c items → IsPlain item → ⊥
not_entered rest first c items (outline.Enters.as_master d ss start close) p = p.1
not_entered rest first c items (outline.Enters.as_slave d ss start close) p = p.1

stays_outside : (s : Setting) (item : Item) (now : Branch) (more : List Branch) → Becomes s item now more → IsPlain item → IsOutside s.branch → IsOutside now
stays_outside s item now more (goes one items l) p out = out
stays_outside s item now more (enters one c items l) p out = absurd (not_entered s.rest one c items l p)
stays_outside s item now more (exits one items l) p out = ap without_innermost out
stays_outside s item now more (errs one) p out = out
stays_outside s item now more ends_it p out = out
stays_outside s item now more (makes bs b others e) p out = out

made_outside : (s : Setting) (item : Item) (now : Branch) (more : List Branch) → Becomes s item now more → IsOutside s.branch → (j : ℕ) (c : Branch) → slice_get more j ≡ Some c → IsOutside c
made_outside s item now more (goes one items l) out j c e = none_given e
made_outside s item now more (enters one d items l) out j c e = none_given e
made_outside s item now more (exits one items l) out j c e = none_given e
made_outside s item now more (errs one) out j c e = none_given e
made_outside s item now more ends_it out j c e = none_given e
made_outside s item now more (makes bs b others f) out j c e =
    ap (λ (d : Branch). d.inside) (born s _ 0 [] (b ∷ others) j c e).is ∙ out

module _ (K : kernel.Kernel) (stim : Stim) (x : World) (h : ArePlain x.branches) where
  moved_plain : {y : World} → Moved K stim x y → ArePlain y.branches
  moved_plain {y} m =
      let kept : EachBranch IsOutside y.branches =
      each_branch_kept IsOutside K stim x (record { each = h.outside })
      (λ n b item rest now more is em ei g.
      stays_outside (step_of K stim x n b rest) item now more g (subst (AllItems IsPlain) ei (h.items.all n b is)).0 (h.outside n b is))
      (λ n b item rest now more is em ei g j c e. made_outside (step_of K stim x n b rest) item now more g (h.outside n b is) j c e)
      (λ n b from count is ew. h.outside n b is) m in
      record { items = every_kept K stim x AnyThing AnyPar NoTransaction h.items m; outside = kept.each }

plain_by : (K : kernel.Kernel) (s : Stim) (ms : List Action) (o : Option World) (y : World) → ((x : World) → o ≡ Some x → Lawful K x × ArePlain x.branches) → acts_all K s o ms ≡ Some y → ArePlain y.branches
plain_by K s ms None y h e = absurd (none ms e)
  where
    none : (ms : List Action) → acts_all K s None ms ≡ Some y → ⊥
    none [] f = none_given f
    none (m ∷ ms) f = none_given f
plain_by K s [] (Some x) y h e = (h y e).1
plain_by K s (m ∷ ms) (Some x) y h e =
    let now = h x refl in
    plain_by K s ms (acts K s x m) y (λ z f. (laws_kept K s x z m f now.0, moved_plain K s x now.1 (moved K s x (no_text K s x now.0.kernels) m f))) e

-- behind any piece of a program's run there is none
pub plain_behind : (g : Given) (x : World) → Lawful g.program x → ArePlain x.branches → (piece : List Action) (y : World) → acts_all g.program g.stimulus (Some x) piece ≡ Some y → ArePlain y.branches
plain_behind g x lawful plain piece y e =
    plain_by g.program g.stimulus piece (Some x) y (λ z f. subst (λ k. Lawful g.program k × ArePlain k.branches) (some_given f) (lawful, plain)) e
