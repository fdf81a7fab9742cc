-- The resources that the cases of a select name are the runner's own: where they stand on its core, that they are there, and how the code
-- finds them. Different ones stand at different places.
use Rattle.std.proofs.Common.{◌≡◌, ℕ, zero, suc, ◌≤◌, true, Option, Some, None, refl, sym, ap, ◌∙◌, subst, arith}
use Rattle.std.specs.Prelude.{slice_get}
use Rattle.xs_instr.specs.declared.state.CoreState.{CoreState}
use Rattle.xs_instr.specs.declared.state.Port.{Port as PortState}
use Rattle.xs_instr.specs.declared.state.Regs.{Regs}
use Rattle.xs_instr.specs.declared.state.Res.{Res}
use Rattle.xs_instr.specs.declared.state.Res.TheVariants.{End as ResEnd}
use Rattle.xs_instr.specs.declared.state.Watch.{Watch}
use Rattle.xs_instr.specs.Events.{res_number, watch_of}
use Rattle.xs_instr.specs.Resources.{named}
use Rattle.xc_kernel.specs.declared.kernel.PortUse.{PortUse}
use Rattle.xc_kernel.specs.declared.statement.KRes.{KRes}
use Rattle.xc_kernel.specs.declared.statement.KRes.TheVariants.{Port, Timer, Chan}
use Rattle.xc_kernel.specs.Eval.{Store, words_of}
use Rattle.xc_kernel.specs.Plain as kernel
use Rattle.xc_meaning.proofs.Basics.{none_given, some_given}
use Rattle.xc_meaning.specs.Counts.KernelCounts.{of_cases}
use Rattle.xc_meaning.specs.Settings.Select.{and_case, enabled, guard_value, guarded_case, timed_case}
use Rattle.xc_meaning.specs.Settings.Time.{timing}
use Rattle.xc_meaning.specs.States.Items.{of_kernel}
use Rattle.xl_ends.specs.Ends.{end_of_side}
use Rattle.xl_expr.specs.Identifiers.{IsIdentifier}
use Rattle.xl_plan.specs.Layout.{end_name, port_name, timer_name}
use Rattle.xl_port.specs.Resources.{ResourceIs}
use Rattle.xl_port.specs.Timings.{timing_expression}
use Rattle.xl_select.specs.Armed.{case_in}
use Rattle.xl_select.specs.Opening.{AreApart, CaseFits, CasesAreLaid, CasesStand, IsNamedBy, IsOfCases, IsOfKind, IsThere, named_at}
use Rattle.xl_select.specs.OpeningCode.{cases_parts, resource_name}
use Rattle.xl_statements.specs.CaseEnds.{case_end, case_ends, end_or_first}
use Rattle.xr_events.specs.Armed.{res_of}
use Rattle.xr_simulation.specs.Fits.{AllFit, AsksRightly, CasesFit, CountedInputFits, TakesInAt, UsesSome}
use Rattle.xr_simulation.specs.NextStep.{CasesOnSides, HasBases, HoldsStore, IsOnSide, PortsStand, end_on, resources_here}
use Rattle.xr_simulation.specs.Runners.{IsLaidOut, IsMine, IsPort, Runner, Setting, end_place, home, plan, port_place, relied, timer_place}
use Rattle.xr_simulation.specs.Sizes.{Sizes, sizes_in, sizes_of}
use Rattle.xr_simulation.specs.ThreadViews.{ThreadView}
use Rattle.xr_simulation.proofs.Image.Identifiers.{end_named, listed_at, port_named, timer_named}
use Rattle.xr_simulation.proofs.ItemCode.Evaluations.{eval_still}
use Rattle.xr_simulation.proofs.ItemCode.Timings.{time_costs, time_laid, timing_still, timing_uses, waiting_costs}
use Rattle.xr_simulation.proofs.RelyGuarantee.Stands.{resource_own}

-- the parts of cases are no more than what they count
pub cases_cost : (cs : kernel.Cases) → cases_parts cs ≤ of_cases cs
cases_cost kernel.no_case = omega arith
cases_cost (kernel.more_cases (kernel.case guard i ss) cs) =
    let others = cases_cost cs in
    let guards = time_costs guard in
    let waits = waiting_costs i.time i.condition in
    omega (arith, others, guards, waits)

module _ (g : Setting) (r : Runner) where
  abbrev pub places : KRes → Res
  places = res_of (resources_here g r)

  -- what a case needs, and that it is on a side of its channel
  abbrev pub CaseIsGood : kernel.Case → Type 0
  CaseIsGood (kernel.case guard i ss) = (UsesSome g r guard × CountedInputFits g r i × AllFit g r ss) × IsOnSide g r i.resource

  pub good_at : (cs : kernel.Cases) → CasesFit g r cs → CasesOnSides g r cs → (n : ℕ) (c : kernel.Case) → case_in cs n ≡ Some c → CaseIsGood c
  good_at kernel.no_case h sides n c is = absurd (none_given is)
  good_at (kernel.more_cases (kernel.case guard i ss) cs) h sides zero c is = subst CaseIsGood (some_given is) (h.0, sides.0)
  good_at (kernel.more_cases (kernel.case guard i ss) cs) h sides (suc n) c is = good_at cs h.1 sides.1 n c is

  -- the enabled cases are the same where the words of the runner's variables stay
  module _ (old new : Store) (same : (v : ℕ) → r.footprint.uses v ≡ true → words_of new v ≡ words_of old v) where
    guard_still : (guard : Option kernel.Expression) → UsesSome g r guard → guard_value new guard ≡ guard_value old guard
    guard_still None h = refl
    guard_still (Some e) h = eval_still (plan g r).vars r.footprint.uses old new same e h

    pub enabled_still : (cs : kernel.Cases) → CasesFit g r cs → enabled new cs ≡ enabled old cs
    enabled_still kernel.no_case h = refl
    enabled_still (kernel.more_cases (kernel.case guard i ss) cs) h =
        ap (and_case new guard i (of_kernel ss)) (enabled_still cs h.1)
        ∙ ap (λ t. guarded_case (guard_value new guard) (timed_case i (of_kernel ss) (enabled old cs) t) (enabled old cs))
        (timing_still g r old new same i.time i.condition h.0.1.0.time h.0.1.0.condition)
        ∙ ap (λ v. guarded_case v (timed_case i (of_kernel ss) (enabled old cs) (timing old i.time i.condition)) (enabled old cs))
        (guard_still guard h.0.0)

  module _ (laid : IsLaidOut g r) where
    -- Different resources stand at different places.
    apart_by : (q s : KRes) → TakesInAt g r q → IsOnSide g r q → TakesInAt g r s → IsOnSide g r s → places q ≡ places s → q ≡ s
    apart_by (Port p) (Port q) from side from' side' e =
        ap Port (laid.ports_differ p q from.listed from'.listed from.is from'.is (ap res_number e))
    apart_by (Timer t) (Timer u) from side from' side' e =
        ap Timer (laid.timers_differ t u from.listed from'.listed from.is from'.is (ap res_number e))
    apart_by (Chan c) (Chan d) from (side, stands_in, here) from' (side', stands_in', here') e =
        ap Chan (laid.ends_differ c d side side' from here from' here'
        (sym (ap (λ o. end_on g r o c) stands_in) ∙ ap res_number e ∙ ap (λ o. end_on g r o d) stands_in'))
    apart_by (Port p) (Timer t) from side from' side' e = absurd (let z : ⊥ = cc in z)
    apart_by (Port p) (Chan c) from side from' side' e = absurd (let z : ⊥ = cc in z)
    apart_by (Timer t) (Port p) from side from' side' e = absurd (let z : ⊥ = cc in z)
    apart_by (Timer t) (Chan c) from side from' side' e = absurd (let z : ⊥ = cc in z)
    apart_by (Chan c) (Port p) from side from' side' e = absurd (let z : ⊥ = cc in z)
    apart_by (Chan c) (Timer t) from side from' side' e = absurd (let z : ⊥ = cc in z)

    -- In a core that has what the image gives it, and the runner's ports, each of its resources is there, with a watch.
    module _ (core : CoreState) (sized : sizes_of core ≡ sizes_in (home g r).parts)
        (ports : (p : ℕ) (listed : PortUse) → IsPort g r p listed →
        (port : PortState) × (slice_get core.ports (port_place g r p) ≡ Some port)) where
      there_is : (res : KRes) → TakesInAt g r res → IsOnSide g r res → IsThere core (places res)
      there_is (Port p) from side = ports p from.listed from.is
      there_is (Timer t) from side =
          let few = laid.timers t from.listed from.is in
          let many = ap (λ (s : Sizes). s.timers) sized in
          listed_at core.timers (timer_place g r t) (omega (arith, few, many))
      there_is (Chan c) from (side, stands_in, here) =
          let few = (laid.ends c side from here).there in
          let many = ap (λ (s : Sizes). s.ends) sized in
          subst (λ n. IsThere core (ResEnd n)) (sym (ap (λ o. end_on g r o c) stands_in)) (listed_at core.ends (end_place g r c side) (omega (arith, few, many)))

      watched_is : (res : KRes) → TakesInAt g r res → IsOnSide g r res →
          (watch : Watch) × (watch_of core.events (places res) ≡ Some watch)
      watched_is (Port p) from side =
          let few = laid.few_ports p from.listed from.is in
          let many = ap (λ (s : Sizes). s.port_watches) sized in
          listed_at core.events.ports (port_place g r p) (omega (arith, few, many))
      watched_is (Timer t) from side =
          let few = laid.few_timers t from.listed from.is in
          let many = ap (λ (s : Sizes). s.timer_watches) sized in
          listed_at core.events.timers (timer_place g r t) (omega (arith, few, many))
      watched_is (Chan c) from (side, stands_in, here) =
          let few = laid.few_ends c side from here in
          let many = ap (λ (s : Sizes). s.end_watches) sized in
          subst (λ n. (watch : Watch) × (watch_of core.events (ResEnd n) ≡ Some watch)) (sym (ap (λ o. end_on g r o c) stands_in))
          (listed_at core.events.ends (end_place g r c side) (omega (arith, few, many)))

    -- At the select's code.
    module _ (z : ThreadView) (regs : Regs) (bases : HasBases g r regs) where
      -- the code finds a resource by its name
      abbrev NameIs : KRes → ℕ → Type 0
      NameIs res name =
          ResourceIs (relied g r) r.stack regs.dp z.core.words
          (resource_name (plan g r) (case_end (plan g r).channels r.sides res) res) name

      abbrev IsNamed : KRes → Type 0
      IsNamed res = (name : ℕ) × NameIs res name × (named (home g r).number name ≡ named_at (places res)) × IsOfKind res (places res)

      named_so : (res : KRes) → TakesInAt g r res → IsOnSide g r res → IsNamed res
      named_so (Port p) from side =
          let its = port_named g r laid z p from.listed from.is in
          let name = port_name r.core (port_place g r p) in (
            name,
            subst (λ place. ResourceIs (relied g r) r.stack regs.dp z.core.words place name) (sym its.planned)
                (subst (λ dp. IsIdentifier (relied g r) r.stack dp z.core.words its.at name) (sym bases.base) its.is),
            its.names,
            tt,
          )
      named_so (Timer t) from side =
          let its = timer_named g r laid z t from.listed from.is in
          let name = timer_name r.core (timer_place g r t) in (
            name,
            subst (λ place. ResourceIs (relied g r) r.stack regs.dp z.core.words place name) (sym its.planned)
                (subst (λ dp. IsIdentifier (relied g r) r.stack dp z.core.words its.at name) (sym bases.base) its.is),
            its.names,
            tt,
          )
      named_so (Chan c) from (side, stands_in, here) =
          let its = end_named g r laid z c side from here in
          let end_is : case_end (plan g r).channels r.sides (Chan c) ≡ its.end =
          ap end_or_first (ap (end_of_side (slice_get (plan g r).channels c)) stands_in ∙ its.is_end) in
          let name = end_name r.core (end_on g r (Some side) c) in (
            name,
            subst (λ place. ResourceIs (relied g r) r.stack regs.dp z.core.words place name)
                (sym (ap (λ end. resource_name (plan g r) end (Chan c)) end_is ∙ its.planned))
                (subst (λ dp. IsIdentifier (relied g r) r.stack dp z.core.words its.at name) (sym bases.base) its.is),
            its.names ∙ ap (λ n. named_at (ResEnd n)) (sym (ap (λ o. end_on g r o c) stands_in)),
            tt,
          )

      asks_fit : (i : kernel.Input) (res : KRes) → AsksRightly g r res i.time i.condition → CaseFits i res
      asks_fit i (Port p) h = h
      asks_fit i (Timer t) h = h
      asks_fit i (Chan c) h = tt

      pub cases_stand : sizes_of z.core ≡ sizes_in (home g r).parts → PortsStand g r z → (cs : kernel.Cases) → CasesFit g r cs →
          CasesOnSides g r cs →
          CasesStand (home g r) (relied g r) r.stack regs.dp (plan g r) places z.core (case_ends (plan g r).channels r.sides cs) cs
      cases_stand sized ports kernel.no_case h sides = tt
      cases_stand sized ports (kernel.more_cases (kernel.case guard i ss) cs) h sides =
          let from = h.0.1.0.from in
          let its = named_so i.resource from sides.0 in
          let watch = watched_is z.core sized (λ p listed is. let own = ports p listed is in (own.port, own.there)) i.resource from sides.0 in (
            record {
              name = its.0;
              name_is = its.1;
              names = its.2;
              kind = its.3;
              there = there_is z.core sized (λ p listed is. let own = ports p listed is in (own.port, own.there)) i.resource from sides.0;
              watch = watch.0;
              watched = watch.1;
              fits = asks_fit i i.resource h.0.1.0.asks;
            },
            cases_stand sized ports cs h.1 sides.1,
          )

      pub cases_laid : HoldsStore g r z → (cs : kernel.Cases) → CasesFit g r cs →
          CasesAreLaid (plan g r).vars (relied g r) r.stack regs.dp z.core.words z.world.store cs
      cases_laid holds kernel.no_case h = tt
      cases_laid holds (kernel.more_cases (kernel.case guard i ss) cs) h =
          let input = h.0.1.0 in (
            time_laid g r laid z regs guard h.0.0 bases holds,
            time_laid g r laid z regs (timing_expression i.time i.condition) (timing_uses g r i.time i.condition input.time input.condition)
                bases holds,
            cases_laid holds cs h.1,
          )

    -- Of the cases of one select.
    module _ (cs : kernel.Cases) (fits : CasesFit g r cs) (sides : CasesOnSides g r cs) where
      named_good : (res : KRes) → IsNamedBy cs res → TakesInAt g r res × IsOnSide g r res
      named_good res (n, guard, i, ss, is, same) =
          let good = good_at cs fits sides n (kernel.case guard i ss) is in
          (subst (TakesInAt g r) (sym same) good.0.1.0.from, subst (IsOnSide g r) (sym same) good.1)

      pub cases_apart : AreApart places cs
      cases_apart = record {
        by = λ q s by_q by_s same.
            let a = named_good q by_q in
            let b = named_good s by_s in
            apart_by q s a.0 a.1 b.0 b.1 same;
      }

      -- each is the runner's own
      pub named_own : (res : Res) → IsOfCases places cs res → IsMine g r res
      named_own res (q, by_q, is) =
          let a = named_good q by_q in
          subst (IsMine g r) (sym is) (resource_own g r q a.0 a.1)

      -- and there
      module _ (core : CoreState) (sized : sizes_of core ≡ sizes_in (home g r).parts)
          (ports : (p : ℕ) (listed : PortUse) → IsPort g r p listed →
          (port : PortState) × (slice_get core.ports (port_place g r p) ≡ Some port)) where
        pub named_there : (res : KRes) → IsNamedBy cs res → IsThere core (places res)
        named_there res by_res = let a = named_good res by_res in there_is core sized ports res a.0 a.1

        pub named_watched : (res : KRes) → IsNamedBy cs res → (watch : Watch) × (watch_of core.events (places res) ≡ Some watch)
        named_watched res by_res = let a = named_good res by_res in watched_is core sized ports res a.0 a.1
