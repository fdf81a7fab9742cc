-- A thread at its select stays there whatever the others do, so its turn is next.
use Rattle.std.proofs.Common.{◌≡◌, ℕ, List, ◌∷◌, Option, None, ◌∙◌}
use Rattle.xc_meaning.specs.States.Items.{Body, Choice, Item, chooses}
use Rattle.xr_simulation.specs.NextStep.{Leads, Rest, Selects, at_select}
use Rattle.xr_simulation.specs.Runners.{Runner, Setting}
use Rattle.xr_simulation.specs.ThreadViews.{Rely, ThreadView}
use Rattle.xr_simulation.proofs.RelyGuarantee.Layouts.{has_kept}
use Rattle.xr_simulation.proofs.RelyGuarantee.Stands.{at_select_kept, cases_own}

module _ (g : Setting) (r : Runner) where
  -- its cases are on resources of its own, which stay set up and lead to the same code
  pub selects_kept : (j : ℕ) (z y : ThreadView) → Rely g r z y → Selects g r j z → Selects g r j y
  selects_kept j z y k h = record {
    choices = h.choices;
    otherwise = h.otherwise;
    rest = h.rest;
    no_hand = k.hand ∙ h.no_hand;
    pc = h.pc;
    regs = h.regs;
    here = k.thread ∙ h.here;
    bases = h.bases;
    stands = at_select_kept g r h.choices h.otherwise h.rest j h.pc z.core y.core k.resources h.own h.stands;
    own = h.own;
    fits = h.fits;
    has = has_kept g r (chooses h.choices h.otherwise ∷ h.rest) z y k h.has;
  }

  -- so no step is left on its way
  pub select_arrived : (choices : List Choice) (otherwise : Option Body) (rest : List Item) (j : ℕ) (z : ThreadView) →
      Rest g r (chooses choices otherwise ∷ rest) j z → z.hand ≡ None → Leads g r 0 j z
  select_arrived choices otherwise rest j z h no_hand = λ y k. at_select (selects_kept j z y k (record {
    choices = choices;
    otherwise = otherwise;
    rest = rest;
    no_hand = no_hand;
    pc = h.pc;
    regs = h.regs;
    here = h.here;
    bases = h.bases;
    stands = h.stands;
    own = cases_own g r choices otherwise rest j h.pc z.core h.fits.0.0 h.stands;
    fits = h.fits;
    has = h.has;
  }))
