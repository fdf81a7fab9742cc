-- Where a thread stands between two own steps: at code, whatever the core is, and with another footprint or transfer.
use Rattle.std.proofs.Common.{◌≡◌, ℕ, ◌+◌, true, false, [], ◌∷◌, List, Option, Some, refl, sym, ap, ◌∙◌, subst, ⊎_elim, eq-eqb}
use Rattle.std.specs.Prelude.{slice_get}
use Rattle.std.proofs.lemmas.Bool.{eqb-true, or_cases, or_left}
use Rattle.xs_instr.specs.declared.state.CoreState.{CoreState}
use Rattle.xs_instr.specs.declared.state.Regs.{Regs}
use Rattle.xs_instr.specs.declared.state.Res.{Res}
use Rattle.xs_instr.specs.declared.state.Res.TheVariants.{End as ResEnd, Port as ResPort, Timer as ResTimer}
use Rattle.xc_kernel.specs.declared.kernel.PortUse.{PortUse}
use Rattle.xc_kernel.specs.declared.kernel.Timer.{Timer as TimerUse}
use Rattle.xc_kernel.specs.declared.statement.KRes.{KRes}
use Rattle.xc_kernel.specs.declared.statement.KRes.TheVariants.{Port, Timer, Chan}
use Rattle.xc_invariants.proofs.Choices.{choice_each}
use Rattle.xc_invariants.specs.Sided.{EachChoice}
use Rattle.xc_meaning.specs.States.Items.{Body, Choice, Item, body_items, does, says, stores, stamps, mark, awaits, transaction_end, chooses, fixed, ends}
use Rattle.xl_expr.specs.ResourceParts.{OwnPartsStay, resource_state}
use Rattle.xl_expr.proofs.ResourceParts.{port_same}
use Rattle.xl_statements.specs.Pieces.{Exit}
use Rattle.xr_events.specs.Latches.{HasLatched}
use Rattle.xr_events.specs.Armed.{res_of}
use Rattle.xr_events.proofs.Lasting.{armed_stays, latch_stays, vector_stays}
use Rattle.xr_simulation.specs.Fits.{AllFit, CountedInputFits, ItemsFit, TakesInAt}
use Rattle.xr_simulation.specs.Runners.{Footprint, IsMine, IsPort, IsTimer, Setting, Runner, port_place, timer_place}
use Rattle.xr_simulation.specs.Transfers.{Transfer}
use Rattle.xr_simulation.specs.NextStep.{CaseAt, IsOnSide, ItemsFrom, SameParts, StandsAtSelect, IsPlacedAt, end_on, is_latched_by, is_port_number, is_timer_number, is_watching, resources_here, stands_on_part}

module _ (g : Setting) (r : Runner) where
  -- a port that the runner has is its own
  port_own : (p : ℕ) (listed : PortUse) → IsPort g r p listed → (part : Res) → is_port_number (port_place g r p) part ≡ true → IsMine g r part
  port_own p listed is (ResPort n) e = record { port = p; listed = listed; is = is; place = sym (eqb-true (port_place g r p) n e) }
  port_own p listed is (ResTimer n) e = absurd (cc)
  port_own p listed is (ResEnd n) e = absurd (cc)

  -- and so is a timer
  timer_own : (t : ℕ) (listed : TimerUse) → IsTimer g r t listed → (part : Res) → is_timer_number (timer_place g r t) part ≡ true → IsMine g r part
  timer_own t listed is (ResPort n) e = absurd (cc)
  timer_own t listed is (ResTimer n) e = record { timer = t; listed = listed; is = is; place = sym (eqb-true (timer_place g r t) n e) }
  timer_own t listed is (ResEnd n) e = absurd (cc)

  -- what latches something for an input
  latched_own : (res : KRes) (part : Res) → TakesInAt g r res → is_latched_by g r.core res part ≡ true → IsMine g r part
  latched_own (Port p) part from on = port_own p from.listed from.is part on
  latched_own (Timer t) part from on = timer_own t from.listed from.is part on
  latched_own (Chan c) part from on = absurd (cc)

  -- it has the same latch in another core that has the same of it
  latched_kept : (res : KRes) (v counter : ℕ) (a b : CoreState) →
      ((part : Res) → is_latched_by g r.core res part ≡ true → resource_state b part ≡ resource_state a part) →
      HasLatched (resources_here g r) a res v counter → HasLatched (resources_here g r) b res v counter
  latched_kept (Port p) v counter a b same h =
      latch_stays (resources_here g r) a b (Port p) v counter (same (ResPort (port_place g r p)) (eq-eqb (port_place g r p) (port_place g r p) refl)) h
  latched_kept (Timer t) v counter a b same h =
      latch_stays (resources_here g r) a b (Timer t) v counter (same (ResTimer (timer_place g r t)) (eq-eqb (timer_place g r t) (timer_place g r t) refl)) h
  latched_kept (Chan c) v counter a b same h = h

  -- what the runner stands on is its own
  pub parts_own : (items : List Item) (part : Res) → ItemsFit g r items → stands_on_part g r.core items part ≡ true → IsMine g r part
  parts_own [] part fits on = absurd (cc)
  parts_own (does s ∷ rest) part fits on = absurd (cc)
  parts_own (says i ∷ rest) part fits on = absurd (cc)
  parts_own (stores place v ∷ rest) part fits on = parts_own rest part fits.1 on
  parts_own (stamps (Port p) place v ∷ rest) part fits on =
      ⊎_elim (λ here. port_own p fits.0.0.0 fits.0.0.1 part here) (λ there. parts_own rest part fits.1 there)
      (or_cases (is_port_number (port_place g r p) part) (stands_on_part g r.core rest part) on)
  parts_own (stamps (Timer t) place v ∷ rest) part fits on = absurd (cc)
  parts_own (stamps (Chan n) place v ∷ rest) part fits on = absurd (cc)
  parts_own (mark n ∷ rest) part fits on = absurd (cc)
  parts_own (awaits n pos ∷ rest) part fits on = absurd (cc)
  parts_own (transaction_end n is_master pos ∷ rest) part fits on = absurd (cc)
  parts_own (chooses choices otherwise ∷ rest) part fits on = absurd (cc)
  parts_own (fixed i v counter ∷ rest) part fits on = latched_own i.resource part fits.0.0.from on
  parts_own (ends ∷ rest) part fits on = absurd (cc)

  -- where the code of items stands
  pub items_stand : (items : List Item) (exits : List Exit) (pc j : ℕ) (regs : Regs) (core : CoreState) → ItemsFrom g r items exits pc j →
      IsPlacedAt g r items j pc regs core
  items_stand [] exits pc j regs core h = absurd h
  items_stand (does s ∷ rest) exits pc j regs core h = (exits, h)
  items_stand (says i ∷ rest) exits pc j regs core h = (exits, h)
  items_stand (stores place v ∷ rest) exits pc j regs core h = absurd h.stands
  items_stand (stamps (Port p) place v ∷ rest) exits pc j regs core h = absurd h.stands
  items_stand (stamps (Timer t) place v ∷ rest) exits pc j regs core h = (exits, h)
  items_stand (stamps (Chan c) place v ∷ rest) exits pc j regs core h = (exits, h)
  items_stand (mark n ∷ rest) exits pc j regs core h = (exits, h)
  items_stand (awaits c pos ∷ rest) exits pc j regs core h = (exits, h)
  items_stand (transaction_end c is_master pos ∷ rest) exits pc j regs core h = (exits, h)
  items_stand (chooses choices otherwise ∷ rest) exits pc j regs core h = absurd h.stands
  items_stand (fixed i v counter ∷ rest) exits pc j regs core h = absurd h.stands
  items_stand (ends ∷ rest) exits pc j regs core h = (exits, h)

  -- where it takes no event, it stands so in another core too that has the same of the parts on which it stands
  pub stands_kept : (items : List Item) (j pc : ℕ) (regs : Regs) (a b : CoreState) → is_watching items ≡ false →
      SameParts g r.core items a b → IsPlacedAt g r items j pc regs a → IsPlacedAt g r items j pc regs b
  stands_kept [] j pc regs a b off same h = h
  stands_kept (does s ∷ rest) j pc regs a b off same h = h
  stands_kept (says i ∷ rest) j pc regs a b off same h = h
  stands_kept (stores place v ∷ rest) j pc regs a b off same (stored, word, lines, unwatched, next) = (
    stored,
    word,
    lines,
    unwatched,
    λ regs' core' bases still. next regs' core' bases
        (λ part on. still part on ∙ same part on),
  )
  stands_kept (stamps (Port p) place v ∷ rest) j pc regs a b off same (stored, (port, there, stamp), lines, unwatched, next) =
      let part = ResPort (port_place g r p) in
      let on = or_left (is_port_number (port_place g r p) part) (stands_on_part g r.core rest part)
      (eq-eqb (port_place g r p) (port_place g r p) refl) in
      (stored, (port, port_same a b (port_place g r p) (same part on) ∙ there, stamp), lines, unwatched, next)
  stands_kept (stamps (Timer t) place v ∷ rest) j pc regs a b off same h = h
  stands_kept (stamps (Chan c) place v ∷ rest) j pc regs a b off same h = h
  stands_kept (mark n ∷ rest) j pc regs a b off same h = h
  stands_kept (awaits c pos ∷ rest) j pc regs a b off same h = h
  stands_kept (transaction_end c is_master pos ∷ rest) j pc regs a b off same h = h
  stands_kept (chooses choices otherwise ∷ rest) j pc regs a b off same h = absurd (let z : ⊥ = cc in z)
  stands_kept (fixed i v counter ∷ rest) j pc regs a b off same (entered, exits, latch, lines, behind) =
      (entered, exits, latched_kept i.resource v counter a b same latch, lines, behind)
  stands_kept (ends ∷ rest) j pc regs a b off same h = h

  -- The resource of a case is the runner's own.
  pub resource_own : (res : KRes) → TakesInAt g r res → IsOnSide g r res → IsMine g r (res_of (resources_here g r) res)
  resource_own (Port p) from end = record { port = p; listed = from.listed; is = from.is; place = refl }
  resource_own (Timer t) from end = record { timer = t; listed = from.listed; is = from.is; place = refl }
  resource_own (Chan c) from (side, stands_in, here) = record {
    channel = c;
    side = side;
    is = record { channel = from; stands_in = stands_in; here = here };
    place = ap (λ o. end_on g r o c) stands_in;
  }

  -- A thread at its select.
  module _ (choices : List Choice) (otherwise : Option Body) (rest : List Item) (j pc : ℕ) where
    -- those of all its cases are
    pub cases_own : (core : CoreState) → EachChoice (CountedInputFits g r) (AllFit g r) choices →
        StandsAtSelect g r choices otherwise rest j pc core → (n : ℕ) (c : Choice) → slice_get choices n ≡ Some c →
        IsMine g r (res_of (resources_here g r) c.input.resource)
    cases_own core fits h n c listed =
        resource_own c.input.resource (choice_each (CountedInputFits g r) (AllFit g r) choices n c listed fits).0.0.from (h.ends n c listed)

    -- so they stay set up, and lead to the same code
    pub at_select_kept : (a b : CoreState) → OwnPartsStay (IsMine g r) r.thread a b →
        ((n : ℕ) (c : Choice) → slice_get choices n ≡ Some c → IsMine g r (res_of (resources_here g r) c.input.resource)) →
        StandsAtSelect g r choices otherwise rest j pc a → StandsAtSelect g r choices otherwise rest j pc b
    at_select_kept a b stay own h = record {
      code = h.code;
      armed = armed_stays (resources_here g r) a b (IsMine g r) r.thread stay choices own h.armed;
      ends = h.ends;
      at_cases = λ n c listed.
          let res = res_of (resources_here g r) c.input.resource in
          subst (λ v. CaseAt g r c.input.resource c.input (body_items c.body rest) (j + 1) v)
          (sym (vector_stays a b res (stay.parts res (own n c listed)))) (h.at_cases n c listed);
      at_default = h.at_default;
    }

  -- wherever it stands, it stands there still where its own resources stay
  pub stands_last : (items : List Item) (j pc : ℕ) (regs : Regs) (a b : CoreState) → ItemsFit g r items →
      OwnPartsStay (IsMine g r) r.thread a b → IsPlacedAt g r items j pc regs a → IsPlacedAt g r items j pc regs b
  stands_last (chooses choices otherwise ∷ rest) j pc regs a b fits stay h =
      at_select_kept choices otherwise rest j pc a b stay (cases_own choices otherwise rest j pc a fits.0.0 h) h
  stands_last [] j pc regs a b fits stay h =
      stands_kept [] j pc regs a b refl (λ part on. stay.parts part (parts_own [] part fits on)) h
  stands_last (does s ∷ rest) j pc regs a b fits stay h =
      stands_kept (does s ∷ rest) j pc regs a b refl (λ part on. stay.parts part (parts_own (does s ∷ rest) part fits on)) h
  stands_last (says i ∷ rest) j pc regs a b fits stay h =
      stands_kept (says i ∷ rest) j pc regs a b refl (λ part on. stay.parts part (parts_own (says i ∷ rest) part fits on)) h
  stands_last (stores place v ∷ rest) j pc regs a b fits stay h =
      stands_kept (stores place v ∷ rest) j pc regs a b refl (λ part on. stay.parts part (parts_own (stores place v ∷ rest) part fits on)) h
  stands_last (stamps resource place v ∷ rest) j pc regs a b fits stay h =
      stands_kept (stamps resource place v ∷ rest) j pc regs a b refl (λ part on. stay.parts part (parts_own (stamps resource place v ∷ rest) part fits on)) h
  stands_last (mark n ∷ rest) j pc regs a b fits stay h =
      stands_kept (mark n ∷ rest) j pc regs a b refl (λ part on. stay.parts part (parts_own (mark n ∷ rest) part fits on)) h
  stands_last (awaits c pos ∷ rest) j pc regs a b fits stay h =
      stands_kept (awaits c pos ∷ rest) j pc regs a b refl (λ part on. stay.parts part (parts_own (awaits c pos ∷ rest) part fits on)) h
  stands_last (transaction_end c is_master pos ∷ rest) j pc regs a b fits stay h =
      stands_kept (transaction_end c is_master pos ∷ rest) j pc regs a b refl (λ part on. stay.parts part (parts_own (transaction_end c is_master pos ∷ rest) part fits on)) h
  stands_last (fixed i v counter ∷ rest) j pc regs a b fits stay h =
      stands_kept (fixed i v counter ∷ rest) j pc regs a b refl (λ part on. stay.parts part (parts_own (fixed i v counter ∷ rest) part fits on)) h
  stands_last (ends ∷ rest) j pc regs a b fits stay h =
      stands_kept (ends ∷ rest) j pc regs a b refl (λ part on. stay.parts part (parts_own (ends ∷ rest) part fits on)) h

  -- The same runner with another footprint, or in another transfer.
  module _ (footprint : Footprint) (transfer : Option Transfer) where
    abbrev pub other : Runner
    other = record r { footprint = footprint; transfer = transfer }

    pub stands_on : (items : List Item) (j pc : ℕ) (regs : Regs) (core : CoreState) → IsPlacedAt g r items j pc regs core →
        IsPlacedAt g other items j pc regs core
    stands_on [] j pc regs core h = h
    stands_on (does s ∷ rest) j pc regs core h = h
    stands_on (says i ∷ rest) j pc regs core h = h
    stands_on (stores place v ∷ rest) j pc regs core (stored, word, lines, unwatched, next) = (
      stored,
      word,
      lines,
      unwatched,
      λ regs' core' bases still. stands_on rest j stored regs' core' (next regs' core' bases still),
    )
    stands_on (stamps (Port p) place v ∷ rest) j pc regs core (stored, stamp, lines, unwatched, next) =
        (stored, stamp, lines, unwatched, λ regs' core' bases. stands_on rest j stored regs' core' (next regs' core' bases))
    stands_on (stamps (Timer t) place v ∷ rest) j pc regs core h = h
    stands_on (stamps (Chan c) place v ∷ rest) j pc regs core h = h
    stands_on (mark n ∷ rest) j pc regs core h = h
    stands_on (awaits c pos ∷ rest) j pc regs core h = h
    stands_on (transaction_end c is_master pos ∷ rest) j pc regs core h = h
    stands_on (chooses choices otherwise ∷ rest) j pc regs core h =
        record { code = h.code; armed = h.armed; ends = h.ends; at_cases = h.at_cases; at_default = h.at_default }
    stands_on (fixed i v counter ∷ rest) j pc regs core h = h
    stands_on (ends ∷ rest) j pc regs core h = h
