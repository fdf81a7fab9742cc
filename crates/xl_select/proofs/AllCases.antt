-- The code of all cases, one after another.
use Rattle.std.proofs.Common.{◌≡◌, ℕ, suc, ◌+◌, ◌*◌, ◌≤◌, List, [], ◌∷◌, ◌++◌, length, Some, refl, sym, ap, ◌∙◌, subst, arith, append-nil, length-append}
use Rattle.std.specs.Prelude.{slice_get}
use Rattle.xw_words.specs.declared.pos.Pos.{Pos}
use Rattle.xs_instr.specs.declared.state.CoreState.{CoreState}
use Rattle.xs_instr.specs.Lines.{last_or}
use Rattle.xs_instr.specs.OwnSteps.{StandAt}
use Rattle.xc_kernel.specs.declared.statement.KRes.{KRes}
use Rattle.xc_kernel.specs.Plain as kernel
use Rattle.xc_kernel.specs.Eval.{Store}
use Rattle.xc_meaning.specs.Settings.Select.{Enabled, these}
use Rattle.xc_meaning.specs.States.Items.{Choice}
use Rattle.xl_expr.specs.declared.plan.Plan.{Plan}
use Rattle.xl_par.specs.Opening.{filled}
use Rattle.xl_select.specs.Armed.{case_in}
use Rattle.xl_select.specs.Opening.{AreApart, CasesAreLaid, CasesStand}
use Rattle.xl_select.specs.OpeningCode.{case_count, case_lines, case_parts, cases_depth, cases_lines, cases_parts, first_end, flag_for, other_ends, place_from, resources_from, seen_with}
use Rattle.xl_select.proofs.Along.{along}
use Rattle.xl_select.proofs.Filled.{stand_apart}
use Rattle.xl_select.proofs.Holes.{case_ends}
use Rattle.xl_select.proofs.Moves.{Opener, Reaches}
use Rattle.xl_select.proofs.OneCase.{case_leads}
use Rattle.xl_select.proofs.Opened.{seen_few}
use Rattle.xl_select.proofs.Passing.{Passing, TakesErrors, after_done}

-- some of the cases, with the targets of their events, are the last ones of all
pub record AreLast (o : Opener) (cs : kernel.Cases) (targets : List ℕ) : Type 0 where
  pub before : ℕ
  pub cases : (n : ℕ) → case_in o.cases (before + n) ≡ case_in cs n
  pub targets_are : (n : ℕ) → slice_get o.targets (before + n) ≡ slice_get targets n

pub all_are_last : (o : Opener) → AreLast o o.cases o.targets
all_are_last o = record {
  before = 0;
  cases = λ n. let e : 0 + n ≡ n = omega arith in ap (case_in o.cases) e;
  targets_are = λ n. let e : 0 + n ≡ n = omega arith in ap (λ k. slice_get o.targets k) e;
}

-- the first of them
module _ (o : Opener) (c : kernel.Case) (cs : kernel.Cases) (target : ℕ) (targets : List ℕ) (last : AreLast o (kernel.more_cases c cs) (target ∷ targets)) where
  first_case : case_in o.cases last.before ≡ Some c
  first_case = let e : last.before ≡ last.before + 0 = omega arith in ap (case_in o.cases) e ∙ last.cases 0

  first_target : slice_get o.targets last.before ≡ Some target
  first_target = let e : last.before ≡ last.before + 0 = omega arith in ap (λ k. slice_get o.targets k) e ∙ last.targets_are 0

  others_last : AreLast o cs targets
  others_last = record {
    before = last.before + 1;
    cases = λ n. let e : last.before + 1 + n ≡ last.before + suc n = omega arith in ap (case_in o.cases) e ∙ last.cases (suc n);
    targets_are = λ n. let e : last.before + 1 + n ≡ last.before + suc n = omega arith in ap (λ k. slice_get o.targets k) e ∙ last.targets_are (suc n);
  }

module _ (o : Opener) (plan : Plan) (store : Store) (different : AreApart o.places o.cases) (Out : Enabled → CoreState → Type 0) (errs : TakesErrors o Out) (n : ℕ) where
  pub cases_lead : (cs : kernel.Cases) (targets : List ℕ) → length targets ≡ case_count cs → AreLast o cs targets →
      (ends : List ℕ) (seen : List KRes) → length (resources_from seen cs) ≤ 112 → cases_depth cs ≤ 400 →
      CasesAreLaid plan.vars o.relied o.s o.thread.regs.dp o.first.words store cs →
      CasesStand o.home o.relied o.s o.thread.regs.dp plan o.places o.first ends cs → (pc : ℕ) (last : Pos) →
      StandAt o.home.parts.code pc (filled (cases_lines plan ends seen pc last cs) targets) →
      (on : List KRes) (done : List Choice) →
      ((on' : List KRes) (done' : List Choice) (b : CoreState) → Passing o (resources_from seen cs) on' done' (pc + length (cases_lines plan ends seen pc last cs)) b → Reaches o (Out (these done')) n b) →
      (a : CoreState) → Passing o seen on done pc a → Reaches o (Out (after_done done (along store on cs))) (8 * cases_parts cs + n) a
  cases_lead kernel.no_case targets count are ends seen few deep laid stands pc last st on done next a h =
      let e : pc ≡ pc + 0 = omega arith in
      let more : n ≡ 8 * 0 + n = omega arith in
      subst (λ k. Reaches o (Out (after_done done (these []))) k a) more
      (subst (λ l. Reaches o (Out (these l)) n a) (sym (append-nil done))
      (next on done a (subst (λ k. Passing o seen on done k a) e h)))
  cases_lead (kernel.more_cases (kernel.case guard i ss) cs) [] count are ends seen few deep laid stands pc last st on done next a h = absurd (omega (arith, count))
  cases_lead (kernel.more_cases (kernel.case guard i ss) cs) (target ∷ targets) count are ends seen few deep laid stands pc last st on done next a h =
      let flag = flag_for seen i.resource in
      let seen' = seen_with seen i.resource in
      let lines = case_lines plan (first_end ends) flag guard i pc last in
      let middle = pc + length lines in
      let more = cases_lines plan (other_ends ends) seen' middle (last_or last lines) cs in
      let cut = stand_apart o.home.parts.code pc lines more (target ∷ []) targets pc (ap length (sym (case_ends plan (first_end ends) i flag guard pc last))) st in
      let end_is : middle + length more ≡ pc + length (lines ++ more) = omega (arith, length-append lines more) in
      let parts : 8 * case_parts guard i + (8 * cases_parts cs + n) ≡ 8 * cases_parts (kernel.more_cases (kernel.case guard i ss) cs) + n = omega arith in
      subst (λ k. Reaches o (Out (after_done done (along store on (kernel.more_cases (kernel.case guard i ss) cs)))) k a) parts
      (case_leads o plan store (first_end ends) i guard ss are.before target (first_case o (kernel.case guard i ss) cs target targets are) (first_target o (kernel.case guard i ss) cs target targets are) stands.0 different laid.0 laid.1 (omega (arith, deep))
      (λ on'. along store on' cs) Out errs on done (8 * cases_parts cs + n) seen (place_from 0 seen i.resource) refl (omega (arith, few, seen_few seen' cs)) pc last cut.0
      (λ on' done' b g. cases_lead cs targets (omega (arith, count)) (others_last o (kernel.case guard i ss) cs target targets are) (other_ends ends) seen' few (omega (arith, deep)) laid.2 stands.1 middle (last_or last lines) cut.1 on' done'
      (λ on'' done'' c l. next on'' done'' c (subst (λ k. Passing o (resources_from seen' cs) on'' done'' k c) end_is l)) b g) a h)
