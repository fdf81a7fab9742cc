-- From where a thread is at the code of its branch's items to the own instruction of the first one: the one place that knows all kinds of
-- items.
use Rattle.std.proofs.Common.{◌≡◌, ◌<◌, ℕ, ◌+◌, List, [], ◌∷◌, Option, refl, ◌∙◌, subst, arith}
use Rattle.xc_kernel.specs.declared.statement.KRes.TheVariants as resource
use Rattle.xc_meaning.specs.States.Items.{Item, does, says, stores, stamps, mark, awaits, transaction_end, chooses, fixed, ends}
use Rattle.xl_par.specs.Acquired.{Acquired}
use Rattle.xr_simulation.specs.Items.{EndAt, LastAt}
use Rattle.xr_simulation.specs.Parents.{Parent}
use Rattle.xr_simulation.specs.Runners.{Setting, Runner, IsLaidOut, code, plan}
use Rattle.xr_simulation.specs.ThreadViews.{ThreadView}
use Rattle.xr_simulation.specs.Settled.{IsOutermost, IsOwn}
use Rattle.xr_simulation.specs.MatchStates.{IsOnItsWay}
use Rattle.xr_simulation.specs.NextStep.{IsSized, Rest, cost, first_hand}
use Rattle.xr_simulation.proofs.OwnSteps.Ends.{end_leads}
use Rattle.xr_simulation.proofs.ItemCode.Jumps.{jumps_lead}
use Rattle.xr_simulation.proofs.Relation.Sides.{FirstIsSided}
use Rattle.xr_simulation.proofs.ItemCode.Statements.{statement_leads}
use Rattle.xr_simulation.proofs.ItemCode.Fixed.{fixed_leads}
use Rattle.xr_simulation.proofs.RelyGuarantee.Selects.{select_arrived}
use Rattle.xr_simulation.proofs.ItemCode.Stamps.{stamped_leads}
use Rattle.xr_simulation.proofs.ItemCode.Stores.{stored_leads}

-- nobody waits
none_waits : (ps : List Parent) → IsOutermost ps → ps ≡ []
none_waits [] h = refl
none_waits (p ∷ ps) h = absurd h

-- where a thread rests doesn't depend on what it has in hand
pub rest_with : (g : Setting) (r : Runner) (items : List Item) (j : ℕ) (z : ThreadView) (hand : Option Acquired) → Rest g r items j z →
    Rest g r items j (record z { hand = hand })
rest_with g r items j z hand h = record {
  pc = h.pc;
  regs = h.regs;
  here = h.here;
  bases = h.bases;
  stands = h.stands;
  fits = h.fits;
  has = record {
    branch = h.has.branch;
    runs = h.has.runs;
    core = h.has.core;
    holds = record { holds = h.has.holds.holds; room = h.has.holds.room };
    ports = λ p listed is. let d = h.has.ports p listed is in record { port = d.port; there = d.there; declared = d.declared };
  };
}

module _ (g : Setting) (r : Runner) (laid : IsLaidOut g r) (core : r.core < 4) where
  -- what stands where a branch ends for which nobody waits
  last_at : (pc j : ℕ) → r.parents ≡ [] → EndAt (plan g r) (code g r) r.tie r.parents pc j → LastAt (plan g r) (code g r) r.tie pc
  last_at pc j alone h = subst (λ ps. EndAt (plan g r) (code g r) r.tie ps pc j) alone h

  -- from the code of items whose first one has an instruction of its own
  pub rest_leads : (items : List Item) (j : ℕ) (z : ThreadView) → Rest g r items j z → IsSized g r z → IsOwn r.parents items →
      FirstIsSided g r items → z.hand ≡ first_hand items → IsOnItsWay g r (j + cost g r) z
  rest_leads [] j z h sized own sided is = absurd h.stands.1
  rest_leads (does t ∷ rest) j z h sized own sided is =
      let c = h.stands.1 in (
        c.here + cost g r,
        c.further,
        (let sum = c.sum in omega arith),
        jumps_lead g r c.here (cost g r) c.further z h.pc c.index h.regs (does t ∷ rest) c.jumps h.here h.has sized
            (λ y here has sized_y same.
            statement_leads g r core t rest own rest h.stands.0 c.index c.stands.0 c.further y h.regs laid c.stands.1 h.fits.0 sided
            c.stands.2 h.fits.1 has sized_y here h.bases (same ∙ is)),
      )
  rest_leads (ends ∷ rest) j z h sized own sided is =
      let c = h.stands.1 in
      let alone = none_waits r.parents own in (
        c.here + cost g r,
        c.further,
        (let sum = c.sum in omega arith),
        jumps_lead g r c.here (cost g r) c.further z h.pc c.index h.regs (ends ∷ rest) c.jumps h.here h.has sized
            (λ y here has sized_y same.
            end_leads g r rest c.index c.further (cost g r) y h.regs alone (last_at c.index c.further alone c.stands.0) has here (same ∙ is)),
      )
  rest_leads (mark n ∷ rest) j z h sized own sided is = absurd own
  rest_leads (says i ∷ rest) j z h sized own sided is = absurd h.stands.1.stands
  rest_leads (stores place v ∷ rest) j z h sized own sided is = (
    cost g r,
    j,
    omega arith,
    stored_leads g r laid place v rest j h.pc h.regs z h.bases h.stands h.here h.has h.fits is,
  )
  rest_leads (stamps (resource.Port p) place v ∷ rest) j z h sized own sided is = (
    cost g r,
    j,
    omega arith,
    stamped_leads g r laid p place v rest j h.pc h.regs z h.bases h.stands h.here h.has h.fits is,
  )
  rest_leads (stamps (resource.Timer t) place v ∷ rest) j z h sized own sided is = absurd h.stands.1.stands
  rest_leads (stamps (resource.Chan c) place v ∷ rest) j z h sized own sided is = absurd h.stands.1.stands
  rest_leads (awaits c pos ∷ rest) j z h sized own sided is = absurd h.stands.1.stands
  rest_leads (transaction_end c is_master pos ∷ rest) j z h sized own sided is = absurd h.stands.1.stands
  rest_leads (chooses choices otherwise ∷ rest) j z h sized own sided is =
      (0, j, omega arith, select_arrived g r choices otherwise rest j z h is)
  rest_leads (fixed i v counter ∷ rest) j z h sized own sided is = (
    cost g r,
    j,
    omega arith,
    fixed_leads g r laid i v counter rest j h.pc h.regs z h.bases h.here h.has h.fits is h.stands,
  )

  -- the same with what it has to have in hand for that item
  pub settled_leads : (items : List Item) (j : ℕ) (z : ThreadView) → Rest g r items j z → IsSized g r z → IsOwn r.parents items →
      FirstIsSided g r items → IsOnItsWay g r (j + cost g r) (record z { hand = first_hand items })
  settled_leads items j z h sized own sided =
      rest_leads items j (record z { hand = first_hand items }) (rest_with g r items j z (first_hand items) h) sized own sided refl
