-- The targets of the code that opens a select: its jumps lead ahead and inside it, and each open line takes the target that is given.
use Rattle.std.proofs.Common.{◌≡◌, ℕ, ◌+◌, ◌<◌, Bool, true, false, List, [], ◌∷◌, ◌++◌, length, Option, Some, None, refl, sym, subst, arith, append-nil, append_assoc, length-append}
use Rattle.xw_words.specs.declared.pos.Pos.{Pos}
use Rattle.xs_instr.specs.declared.instr.Instr.{Instr}
use Rattle.xs_instr.specs.declared.instr.Instr.TheVariants.{Brff, Brft, Eeu, Ldwsp, Setv, Stwsp}
use Rattle.xs_instr.specs.declared.instr.Reg.{Reg}
use Rattle.xs_instr.specs.declared.instr.Reg.TheVariants.{R0, R9, R10, R11}
use Rattle.xs_instr.specs.Lines.{Line, at_pos, last_or, line, open_line, with_target}
use Rattle.xs_instr.specs.Valid.{IsGoodInstr}
use Rattle.xc_kernel.specs.declared.statement.KRes.{KRes}
use Rattle.xc_kernel.specs.declared.statement.KRes.TheVariants.{Port, Timer, Chan}
use Rattle.xc_kernel.specs.Plain as kernel
use Rattle.xl_expr.specs.declared.plan.Plan.{Plan}
use Rattle.xl_expr.specs.declared.plan.ResAt.{ResAt}
use Rattle.xl_expr.specs.declared.plan.ResAt.TheVariants.{Fixed, Held}
use Rattle.xl_expr.specs.declared.plan.VarPlan.{VarPlan}
use Rattle.xl_expr.specs.Targets.{AreGoodLines}
use Rattle.xl_expr.proofs.GoodCode.{ArePlain, code_good, good_append, plain_append, plain_good}
use Rattle.xl_par.specs.Opening.{AreBelow, filled, filled_on}
use Rattle.xl_port.specs.Timings.{timing_expression}
use Rattle.xl_select.specs.declared.opening.Flag.{Flag}
use Rattle.xl_select.specs.Opening.{AreAimedWith, IsBehind, default_targets}
use Rattle.xl_select.specs.OpeningCode.{arming_lines, beginning_lines, case_count, case_lines, cases_lines, first_end, first_value, flag_for, flag_lines, flag_source, guard_lines, guarded_lines, name_instrs, opening_lines, other_ends, past_lines, resource_name, seen_with, setting_instrs, taking_lines, tested_lines, timed_lines, value_lines, waiting_instrs}

-- with these targets for its open lines, code is good in front of code that is good with the targets behind them
pub record Takes (size here : ℕ) (ls : List Line) (targets : List ℕ) : Type 0 where
  pub by : (rest : List Line) (others : List ℕ) → AreGoodLines size (here + length ls) (filled rest others) → AreGoodLines size here (filled (ls ++ rest) (targets ++ others))

-- code that has no open line
closed_good : (size here : ℕ) (ls : List Line) → AreGoodLines size here ls → (rest : List Line) (others : List ℕ) → AreGoodLines size (here + length ls) (filled rest others) → AreGoodLines size here (filled (ls ++ rest) others)
closed_good size here [] h rest others g =
    let e : here + 0 ≡ here = omega arith in
    subst (λ n. AreGoodLines size n (filled rest others)) e g
closed_good size here (l ∷ ls) h rest others g =
    let e : here + length (l ∷ ls) ≡ here + 1 + length ls = omega arith in
    let more = closed_good size (here + 1) ls h.2 rest others (subst (λ n. AreGoodLines size n (filled rest others)) e g) in
    subst (λ (b : Bool). AreGoodLines size here (filled_on l b others (filled (ls ++ rest)))) (sym h.1) (h.0, h.1, more)

closed_takes : (size here : ℕ) (ls : List Line) → AreGoodLines size here ls → Takes size here ls []
closed_takes size here ls h = record { by = λ rest others g. closed_good size here ls h rest others g }

-- one behind the other
both_take : (size here : ℕ) (a b : List Line) (ts us : List ℕ) → Takes size here a ts → Takes size (here + length a) b us → Takes size here (a ++ b) (ts ++ us)
both_take size here a b ts us f g = record {
  by = λ rest others h.
      let e : here + length (a ++ b) ≡ here + length a + length b = omega (arith, length-append a b) in
      let behind = g.by rest others (subst (λ n. AreGoodLines size n (filled rest others)) e h) in
      let all = f.by (b ++ rest) (us ++ others) behind in
      subst (λ ls. AreGoodLines size here (filled ls ((ts ++ us) ++ others))) (sym (append_assoc a b rest))
      (subst (λ ns. AreGoodLines size here (filled (a ++ (b ++ rest)) ns)) (sym (append_assoc ts us others)) all);
}

-- an instruction in front
front_takes : (size here : ℕ) (i : Instr) (pos : Pos) (ls : List Line) (ts : List ℕ) → IsGoodInstr size here i → Takes size (here + 1) ls ts → Takes size here (line i pos ∷ ls) ts
front_takes size here i pos ls ts good h =
    both_take size here (line i pos ∷ []) ls [] ts (closed_takes size here (line i pos ∷ []) (good, refl, tt)) h

-- a jump past lines
past_takes : (size : ℕ) (jump : Instr) → ((n target : ℕ) → n < target → target < size → IsGoodInstr size n (with_target jump target)) → (pos : Pos) (inner : ℕ → List Line) (here : ℕ) (ts : List ℕ) → here + length (past_lines jump pos inner here) < size → Takes size (here + 1) (inner (here + 1)) ts → Takes size here (past_lines jump pos inner here) ts
past_takes size jump good pos inner here ts h inside =
    let target = here + 1 + length (inner (here + 1)) in
    front_takes size here (with_target jump target) pos (inner (here + 1)) ts (good here target (omega arith) (omega (arith, h))) inside

name_plain : (place : Option ResAt) → ArePlain (name_instrs place)
name_plain None = tt
name_plain (Some (Fixed id)) = ((λ size n. tt), tt)
name_plain (Some (Held n j)) = ((λ size i. tt), ((λ size i. tt), tt))

waiting_plain : (time : Option kernel.Expression) (condition : Option kernel.Condition) → ArePlain (waiting_instrs time condition)
waiting_plain (Some x) condition = ((λ size n. tt), ((λ size n. tt), tt))
waiting_plain None (Some condition) = ((λ size n. tt), ((λ size n. tt), tt))
waiting_plain None None = ((λ size n. tt), tt)

setting_plain : (res : KRes) (time : Option kernel.Expression) (condition : Option kernel.Condition) → ArePlain (setting_instrs res time condition)
setting_plain (Port p) time condition = waiting_plain time condition
setting_plain (Timer t) time condition = waiting_plain time condition
setting_plain (Chan c) time condition = tt

pub value_good : (vars : List (Option VarPlan)) (x : Option kernel.Expression) (size here : ℕ) (last : Pos) → here + length (value_lines vars x here last) < size → AreGoodLines size here (value_lines vars x here last)
value_good vars None size here last h = tt
value_good vars (Some x) size here last h = (code_good vars x).by size first_value here last h

-- what the default's open line takes, where there is one
taking_takes : (otherwise : Bool) (pos : Pos) (size here target : ℕ) → IsBehind otherwise (here + length (taking_lines otherwise pos)) target size → Takes size here (taking_lines otherwise pos) (default_targets otherwise target)
taking_takes true pos size here target h = record {
  by = λ rest others g.
      let e : here + 3 ≡ here + 1 + 1 + 1 = omega arith in
      (tt, refl, (tt, refl, ((omega (arith, h.0), h.1), refl, subst (λ n. AreGoodLines size n (filled rest others)) e g)));
}
taking_takes false pos size here target h = closed_takes size here (taking_lines false pos) (tt, refl, (tt, refl, tt))

module _ (plan : Plan) (size : ℕ) where
  module _ (end : ℕ) (i : kernel.Input) (target : ℕ) (below : target < size) where
    arming_takes : (here : ℕ) → Takes size here (arming_lines plan end i) (target ∷ [])
    arming_takes here =
        let names = name_instrs (resource_name plan end i.resource) in
        let sets = setting_instrs i.resource i.time i.condition in
        let plain = plain_append names sets (name_plain (resource_name plan end i.resource)) (setting_plain i.resource i.time i.condition) in
        let first = at_pos i.pos (names ++ sets) in
        both_take size here first (open_line (Setv R11 0) i.pos ∷ line (Eeu R11) i.pos ∷ []) [] (target ∷ []) (closed_takes size here first (plain_good i.pos (names ++ sets) plain size here))
        (record {
          by = λ rest others g.
              let e : here + length first + 2 ≡ here + length first + 1 + 1 = omega arith in
              (below, refl, (tt, refl, subst (λ n. AreGoodLines size n (filled rest others)) e g));
        })

    tested_takes : (number : ℕ) (is_known : Bool) (here : ℕ) → here + length (tested_lines (record { number = number; is_known = is_known }) i.pos (arming_lines plan end i) here) < size → Takes size here (tested_lines (record { number = number; is_known = is_known }) i.pos (arming_lines plan end i) here) (target ∷ [])
    tested_takes number true here h =
        let inner = λ (n : ℕ). line (Stwsp R9 number) i.pos ∷ arming_lines plan end i in
        front_takes size here (Ldwsp R10 number) i.pos (past_lines (Brft R10 0) i.pos inner (here + 1)) (target ∷ []) tt
        (past_takes size (Brft R10 0) (λ n to a b. (a, b)) i.pos inner (here + 1) (target ∷ []) (omega (arith, h))
        (front_takes size (here + 1 + 1) (Stwsp R9 number) i.pos (arming_lines plan end i) (target ∷ []) tt (arming_takes (here + 1 + 1 + 1))))
    tested_takes number false here h = arming_takes here

    timed_takes : (flag : Flag) (here : ℕ) (last : Pos) → here + length (timed_lines plan end flag i here last) < size → Takes size here (timed_lines plan end flag i here last) (target ∷ [])
    timed_takes flag here last h =
        let x = timing_expression i.time i.condition in
        let value = value_lines plan.vars x here last in
        let tested = tested_lines flag i.pos (arming_lines plan end i) (here + length value) in
        let l = length-append value tested in
        both_take size here value tested [] (target ∷ []) (closed_takes size here value (value_good plan.vars x size here last (omega (arith, h, l))))
        (tested_takes flag.number flag.is_known (here + length value) (omega (arith, h, l)))

    flag_good : (number : ℕ) (is_known : Bool) (pos : Pos) (from : Reg) (here : ℕ) → AreGoodLines size here (flag_lines (record { number = number; is_known = is_known }) pos from)
    flag_good number true pos from here = tt
    flag_good number false pos from here = (tt, refl, tt)

    guard_good : (flag : Flag) (guard : Option kernel.Expression) (here : ℕ) (last : Pos) → here + length (guard_lines plan.vars flag i.pos guard here last) < size → AreGoodLines size here (guard_lines plan.vars flag i.pos guard here last)
    guard_good flag guard here last h =
        let value = value_lines plan.vars guard here last in
        let noted = flag_lines flag i.pos (flag_source guard) in
        good_append size here value noted (value_good plan.vars guard size here last (omega (arith, h, length-append value noted)))
        (flag_good flag.number flag.is_known i.pos (flag_source guard) (here + length value))

    guarded_takes : (flag : Flag) (guard : Option kernel.Expression) (here : ℕ) (last : Pos) → here + length (guarded_lines guard i.pos (timed_lines plan end flag i) here last) < size → Takes size here (guarded_lines guard i.pos (timed_lines plan end flag i) here last) (target ∷ [])
    guarded_takes flag None here last h = timed_takes flag here last h
    guarded_takes flag (Some guard) here last h =
        past_takes size (Brff R0 0) (λ n to a b. (a, b)) i.pos (λ n. timed_lines plan end flag i n i.pos) here (target ∷ []) h
        (timed_takes flag (here + 1) i.pos (omega (arith, h)))

    case_takes : (flag : Flag) (guard : Option kernel.Expression) (here : ℕ) (last : Pos) → here + length (case_lines plan end flag guard i here last) < size → Takes size here (case_lines plan end flag guard i here last) (target ∷ [])
    case_takes flag guard here last h =
        let front = guard_lines plan.vars flag i.pos guard here last in
        let inside = guarded_lines guard i.pos (timed_lines plan end flag i) (here + length front) (last_or last front) in
        let l = length-append front inside in
        both_take size here front inside [] (target ∷ []) (closed_takes size here front (guard_good flag guard here last (omega (arith, h, l))))
        (guarded_takes flag guard (here + length front) (last_or last front) (omega (arith, h, l)))

  cases_take : (ends : List ℕ) (seen : List KRes) (here : ℕ) (last : Pos) (cs : kernel.Cases) (targets : List ℕ) → length targets ≡ case_count cs → AreBelow size targets → here + length (cases_lines plan ends seen here last cs) < size → Takes size here (cases_lines plan ends seen here last cs) targets
  cases_take ends seen here last kernel.no_case [] count below h = closed_takes size here [] tt
  cases_take ends seen here last kernel.no_case (target ∷ targets) count below h = absurd (omega (arith, count))
  cases_take ends seen here last (kernel.more_cases (kernel.case guard i ss) cs) [] count below h = absurd (omega (arith, count))
  cases_take ends seen here last (kernel.more_cases (kernel.case guard i ss) cs) (target ∷ targets) count below h =
      let flag = flag_for seen i.resource in
      let lines = case_lines plan (first_end ends) flag guard i here last in
      let more = cases_lines plan (other_ends ends) (seen_with seen i.resource) (here + length lines) (last_or last lines) cs in
      let l = length-append lines more in
      both_take size here lines more (target ∷ []) targets (case_takes (first_end ends) i target below.0 flag guard here last (omega (arith, h, l)))
      (cases_take (other_ends ends) (seen_with seen i.resource) (here + length lines) (last_or last lines) cs targets (omega (arith, count)) below.1 (omega (arith, h, l)))

pub opening_aimed : (plan : Plan) (ends : List ℕ) (cases : kernel.Cases) (otherwise : Bool) (pos : Pos) (pc : ℕ) → AreAimedWith (case_count cases) otherwise pc (opening_lines plan ends cases otherwise pos pc)
opening_aimed plan ends cases otherwise pos pc = record {
  by = λ targets default_target size count below behind inside.
      let first = beginning_lines pos in
      let middle = cases_lines plan ends [] (pc + 2) pos cases in
      let last = taking_lines otherwise pos in
      let all = first ++ (middle ++ last) in
      let given = targets ++ default_targets otherwise default_target in
      let l = length-append middle last in
      let end : pc + length all ≡ pc + 2 + length middle + length last = omega (arith, l) in
      let whole = both_take size pc first (middle ++ last) [] given (closed_takes size pc first (tt, refl, (tt, refl, tt)))
      (both_take size (pc + 2) middle last targets (default_targets otherwise default_target) (cases_take plan size ends [] (pc + 2) pos cases targets count below (omega (arith, l, inside)))
      (taking_takes otherwise pos size (pc + 2 + length middle) default_target (subst (λ n. IsBehind otherwise n default_target size) end behind))) in
      subst (λ ls. AreGoodLines size pc (filled ls given)) (append-nil all)
      (subst (λ ns. AreGoodLines size pc (filled (all ++ []) ns)) (append-nil given) (whole.by [] [] tt));
}
