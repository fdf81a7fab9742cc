-- A transfer over a port or a timer of the runner's own: where its code finds it, where that leads, and what stands behind it.
use Rattle.std.proofs.Common.{◌≡◌, ℕ, ◌+◌, ◌≤◌, false, List, length, Option, Some, None, refl, sym, ap, ◌∙◌, subst, arith}
use Rattle.std.specs.Prelude.{slice_get}
use Rattle.xs_instr.specs.declared.state.CoreState.{CoreState}
use Rattle.xs_instr.specs.declared.state.Port.{Port}
use Rattle.xs_instr.specs.declared.state.Regs.{Regs}
use Rattle.xs_instr.specs.declared.state.Res.{Res}
use Rattle.xs_instr.specs.declared.state.Timer.{Timer}
use Rattle.xs_instr.specs.Lines.{Line}
use Rattle.xs_instr.specs.OwnSteps.{IsApart, StandAt}
use Rattle.xc_tree.specs.Depth.{if_some}
use Rattle.xc_kernel.specs.declared.kernel.PortUse.{PortUse}
use Rattle.xc_kernel.specs.declared.kernel.Timer.{Timer as TimerUse}
use Rattle.xc_kernel.specs.declared.statement.KRes.{KRes}
use Rattle.xc_kernel.specs.declared.statement.KRes.TheVariants as resource
use Rattle.xc_kernel.specs.Plain as kernel
use Rattle.xc_meaning.specs.Counts.KernelCounts.{of_place}
use Rattle.xc_meaning.specs.States.Items.{Item, stamping, storing}
use Rattle.xl_expr.specs.Destinations.{WritesTo}
use Rattle.xl_expr.specs.Identifiers.{IsIdentifier}
use Rattle.xl_expr.specs.PartSteps.{WithinParts}
use Rattle.xl_expr.specs.Plans.{resource_in}
use Rattle.xl_plan.specs.Layout.{port_name, timer_name}
use Rattle.xl_port.specs.Resources.{PortStands, ResourceIs, TimerStands}
use Rattle.xl_port.specs.Stamps.{StampsTo}
use Rattle.xl_statements.specs.Pieces.{Exit}
use Rattle.xr_simulation.specs.Fits.{ChangesAt, ItemsFit, greatest}
use Rattle.xr_simulation.specs.Runners.{IsMine, IsPort, IsTimer, Setting, Runner, IsLaidOut, code, home, plan, port_place, relied, timer_place}
use Rattle.xr_simulation.specs.ThreadViews.{ThreadView, Rely}
use Rattle.xr_simulation.specs.NextStep.{HasBases, HasStamp, IsAt, ItemsFrom, Leads, SameParts, IsPlacedAt, NextStep, StableNextStep, cost, is_watching}
use Rattle.xr_simulation.proofs.Image.Identifiers.{PortIsNamed, TimerIsNamed, port_named, timer_named}
use Rattle.xr_simulation.proofs.RelyGuarantee.Arrival.{Since, apart_from, apart_of_changes, arrives_with, at_runs, since_kept}
use Rattle.xr_simulation.proofs.RelyGuarantee.Events.{items_unwatched}
use Rattle.xr_simulation.proofs.RelyGuarantee.Stands.{items_stand}
use Rattle.xr_simulation.proofs.RelyGuarantee.ThreadViews.{leads_as, leads_more}

module _ (g : Setting) (r : Runner) where
  -- The port is where the code looks for it.
  pub port_stands : IsLaidOut g r → (z : ThreadView) (regs : Regs) (res : KRes) (p : ℕ) (listed : PortUse) (port : Port) →
      res ≡ resource.Port p → IsPort g r p listed → slice_get z.core.ports (port_place g r p) ≡ Some port → HasBases g r regs →
      PortStands (home g r) (relied g r) r.stack regs.dp (resource_in (plan g r).ports (plan g r).timers res) (port_place g r p) port
      z.core
  port_stands laid z regs res p listed port to_port is there bases = record {
    name = name;
    name_is =
        subst (λ place. ResourceIs (relied g r) r.stack regs.dp z.core.words place name)
        (sym (ap (resource_in (plan g r).ports (plan g r).timers) to_port ∙ its.planned))
        (subst (λ dp. IsIdentifier (relied g r) r.stack dp z.core.words its.at name) (sym bases.base) its.is);
    names = its.names;
    there = there;
  }
    where
      name : ℕ
      name = port_name r.core (port_place g r p)

      its : PortIsNamed g r p z
      its = port_named g r laid z p listed is

  -- And so is a timer.
  pub timer_stands : IsLaidOut g r → (z : ThreadView) (regs : Regs) (res : KRes) (t : ℕ) (listed : TimerUse) (timer : Timer) →
      res ≡ resource.Timer t → IsTimer g r t listed → slice_get z.core.timers (timer_place g r t) ≡ Some timer → HasBases g r regs →
      TimerStands (home g r) (relied g r) r.stack regs.dp (resource_in (plan g r).ports (plan g r).timers res) (timer_place g r t) timer
      z.core
  timer_stands laid z regs res t listed timer to_timer is there bases = record {
    name = name;
    name_is =
        subst (λ place. ResourceIs (relied g r) r.stack regs.dp z.core.words place name)
        (sym (ap (resource_in (plan g r).ports (plan g r).timers) to_timer ∙ its.planned))
        (subst (λ dp. IsIdentifier (relied g r) r.stack dp z.core.words its.at name) (sym bases.base) its.is);
    names = its.names;
    there = there;
  }
    where
      name : ℕ
      name = timer_name r.core (timer_place g r t)

      its : TimerIsNamed g r t z
      its = timer_named g r laid z t listed is

  -- Where code leads that uses some of the runner's resources, the thread's turn is next.
  pub resource_leads : (mine : Res → Type 0) → ((res : Res) → mine res → IsMine g r res) → (Q : CoreState → Type 0) (n j : ℕ)
      (z : ThreadView) (pc : ℕ) (regs : Regs) → n ≤ cost g r → IsAt g r z pc regs →
      WithinParts (home g r) (relied g r) (IsApart r.stack) mine r.thread Q n z.core →
      ((y q : ThreadView) → Q y.core → Rely g r y q → Since g r (IsApart r.stack) (apart_from mine) z q → NextStep g r j q) →
      Leads g r (cost g r) j z
  resource_leads mine own Q n j z pc regs few here way turns =
      leads_more g r (StableNextStep g r j) n (cost g r) z few
      (leads_as g r (λ y. Q y.core × Since g r (IsApart r.stack) (apart_from mine) z y) (StableNextStep g r j) n z
      (λ y h q k. turns y q h.0 k (since_kept g r (IsApart r.stack) (apart_from mine) h.1 k))
      (arrives_with g r (IsApart r.stack) (apart_of_changes g r) mine own Q n z (at_runs g r z pc regs here) way))

  -- What is left behind a transfer: the stores of its word and of its stamp, where there are places for them.

  pub storing_unwatched : (target : Option kernel.Place) (v : ℕ) (rest : List Item) → is_watching rest ≡ false →
      is_watching (storing target v rest) ≡ false
  storing_unwatched None v rest h = h
  storing_unwatched (Some place) v rest h = refl

  pub stamping_unwatched : (res : KRes) (stamp : Option kernel.Place) (v : ℕ) (rest : List Item) → is_watching rest ≡ false →
      is_watching (stamping res stamp v rest) ≡ false
  stamping_unwatched res None v rest h = h
  stamping_unwatched res (Some place) v rest h = refl

  pub stamping_fits : (p : ℕ) (listed : PortUse) → IsPort g r p listed → (stamp : Option kernel.Place) (v : ℕ) (rest : List Item) →
      ChangesAt g r stamp → if_some of_place stamp ≤ greatest g r → ItemsFit g r rest →
      ItemsFit g r (stamping (resource.Port p) stamp v rest)
  stamping_fits p listed is None v rest changes counted fits = fits
  stamping_fits p listed is (Some place) v rest changes counted fits = (((listed, is), changes, counted), fits)

  -- where the code of the stamp stands, and the port has it
  module _ (p v : ℕ) (rest : List Item) (exits : List Exit) (at pc' j : ℕ) (lines : List Line) (stand : StandAt (code g r) at lines)
      (end : pc' ≡ at + length lines) (behind : ItemsFrom g r rest exits pc' j) where
    pub stamping_stands : (stamp : Option kernel.Place) → StampsTo (plan g r) (resource.Port p) stamp at lines → (regs : Regs)
        (core : CoreState) → HasStamp g r p v core → IsPlacedAt g r (stamping (resource.Port p) stamp v rest) j at regs core
    stamping_stands None none regs core has =
        let same : pc' ≡ at = let e = ap length none in omega (arith, e, end) in
        items_stand g r rest exits at j regs core (subst (λ q. ItemsFrom g r rest exits q j) same behind)
    stamping_stands (Some place) stamps regs core has = (
      pc',
      has,
      record { lines = lines; stand = stand; so = stamps; end = end },
      items_unwatched g r rest exits pc' j behind,
      λ regs' core' bases. items_stand g r rest exits pc' j regs' core' behind,
    )

  -- where the code of the store stands, and the word is in r0
  module _ (rest : List Item) (at j : ℕ) (lines : List Line) (stand : StandAt (code g r) at lines) (core : CoreState)
      (unwatched : is_watching rest ≡ false)
      (behind : (regs' : Regs) (core' : CoreState) → HasBases g r regs' → SameParts g r.core rest core core' →
      IsPlacedAt g r rest j (at + length lines) regs' core') where
    pub storing_stands : (target : Option kernel.Place) → WritesTo (plan g r).vars target at lines → (v : ℕ) (regs : Regs) →
        HasBases g r regs → regs.r0 ≡ v → IsPlacedAt g r (storing target v rest) j at regs core
    storing_stands None none v regs bases is =
        let same : at + length lines ≡ at = let e = ap length none in omega (arith, e) in
        subst (λ q. IsPlacedAt g r rest j q regs core) same (behind regs core bases (λ part on. refl))
    storing_stands (Some place) writes v regs bases is =
        (at + length lines, is, record { lines = lines; stand = stand; so = writes; end = refl }, unwatched, behind)
