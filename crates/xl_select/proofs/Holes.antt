-- The open lines of the code that opens a select: one for each case, the last line but one of its code, and the default's.
use Rattle.std.proofs.Common.{◌≡◌, ℕ, ◌+◌, ◌-◌, Bool, true, false, List, [], ◌∷◌, ◌++◌, length, Option, Some, None, refl, ap, ◌∙◌, arith, length-append}
use Rattle.xw_words.specs.declared.pos.Pos.{Pos}
use Rattle.xs_instr.specs.declared.instr.Instr.TheVariants.{Brff, Brft, Eeu, Ldwsp, Setv, Stwsp}
use Rattle.xs_instr.specs.declared.instr.Reg.{Reg}
use Rattle.xs_instr.specs.declared.instr.Reg.TheVariants.{R0, R9, R10, R11}
use Rattle.xs_instr.specs.declared.instr.Instr.{Instr}
use Rattle.xs_instr.specs.Lines.{Line, at_pos, last_or, line, open_line, with_target}
use Rattle.xc_kernel.specs.declared.statement.KRes.{KRes}
use Rattle.xc_kernel.specs.Plain as kernel
use Rattle.xl_expr.specs.declared.plan.Plan.{Plan}
use Rattle.xl_expr.specs.declared.plan.VarPlan.{VarPlan}
use Rattle.xl_expr.specs.Targets.{AreGoodLines}
use Rattle.xl_port.specs.Timings.{timing_expression}
use Rattle.xl_select.specs.declared.opening.Flag.{Flag}
use Rattle.xl_select.specs.Holes.{holes_in, holes_on, listed}
use Rattle.xl_select.specs.OpeningCode.{arming_lines, beginning_lines, case_lines, cases_lines, cases_starts, default_start, first_end, flag_for, flag_lines, flag_source, guard_lines, guarded_lines, name_instrs, opening_lines, other_ends, past_lines, resource_name, seen_with, setting_instrs, taking_lines, tested_lines, timed_lines, value_lines}
use Rattle.xl_select.proofs.Aimed.{value_good}

holes_append : (a b : List Line) (here : ℕ) → holes_in (a ++ b) here ≡ holes_in a here ++ holes_in b (here + length a)
holes_append [] b here = let e : here ≡ here + 0 = omega arith in ap (holes_in b) e
holes_append (l ∷ a) b here =
    let e : here + 1 + length a ≡ here + length (l ∷ a) = omega arith in
    by l.is_open (holes_append a b (here + 1) ∙ ap (λ n. holes_in a (here + 1) ++ holes_in b n) e)
  where
    by : (o : Bool) → holes_in (a ++ b) (here + 1) ≡ holes_in a (here + 1) ++ holes_in b (here + length (l ∷ a)) → holes_on o here (holes_in (a ++ b) (here + 1)) ≡ holes_on o here (holes_in a (here + 1)) ++ holes_in b (here + length (l ∷ a))
    by true h = ap (λ ks. here ∷ ks) h
    by false h = h

-- lines that are good have no hole
good_closed : (size i : ℕ) (ls : List Line) → AreGoodLines size i ls → (here : ℕ) → holes_in ls here ≡ []
good_closed size i [] h here = refl
good_closed size i (l ∷ ls) h here =
    ap (λ (o : Bool). holes_on o here (holes_in ls (here + 1))) h.1 ∙ good_closed size (i + 1) ls h.2 (here + 1)

pub plain_closed : (pos : Pos) (is : List Instr) (here : ℕ) → holes_in (at_pos pos is) here ≡ []
plain_closed pos [] here = refl
plain_closed pos (i ∷ is) here = plain_closed pos is (here + 1)

both_closed : (a b : List Line) (here : ℕ) → holes_in a here ≡ [] → holes_in b (here + length a) ≡ [] → holes_in (a ++ b) here ≡ []
both_closed a b here h g = holes_append a b here ∙ ap (λ ks. ks ++ holes_in b (here + length a)) h ∙ g

-- the last line but one is open, and no other
abbrev EndsOpen : (here : ℕ) → List Line → Type 0
EndsOpen here ls = holes_in ls here ≡ (here + length ls - 2) ∷ []

behind_closed : (a b : List Line) (here : ℕ) → holes_in a here ≡ [] → EndsOpen (here + length a) b → EndsOpen here (a ++ b)
behind_closed a b here h g =
    let e : here + length a + length b - 2 ≡ here + length (a ++ b) - 2 = omega (arith, length-append a b) in
    holes_append a b here
    ∙ ap (λ ks. ks ++ holes_in b (here + length a)) h
    ∙ g
    ∙ ap (λ k. k ∷ []) e

pub value_closed : (vars : List (Option VarPlan)) (x : Option kernel.Expression) (here : ℕ) (last : Pos) → holes_in (value_lines vars x here last) here ≡ []
value_closed vars x here last =
    let size = here + length (value_lines vars x here last) + 1 in
    good_closed size here (value_lines vars x here last) (value_good vars x size here last (omega arith)) here

module _ (plan : Plan) (end : ℕ) (i : kernel.Input) where
  arming_ends : (here : ℕ) → EndsOpen here (arming_lines plan end i)
  arming_ends here =
      let first = name_instrs (resource_name plan end i.resource) ++ setting_instrs i.resource i.time i.condition in
      let e : here + length (at_pos i.pos first) ≡ here + length (at_pos i.pos first) + 2 - 2 = omega arith in
      behind_closed (at_pos i.pos first) (open_line (Setv R11 0) i.pos ∷ line (Eeu R11) i.pos ∷ []) here (plain_closed i.pos first here) (ap (λ k. k ∷ []) e)

  tested_ends : (number : ℕ) (is_known : Bool) (here : ℕ) → EndsOpen here (tested_lines (record { number = number; is_known = is_known }) i.pos (arming_lines plan end i) here)
  tested_ends number true here =
      let inner = λ (n : ℕ). line (Stwsp R9 number) i.pos ∷ arming_lines plan end i in
      let jump = line (with_target (Brft R10 0) (here + 1 + 1 + length (inner (here + 1 + 1)))) i.pos in
      behind_closed (line (Ldwsp R10 number) i.pos ∷ []) (past_lines (Brft R10 0) i.pos inner (here + 1)) here refl
      (behind_closed (jump ∷ []) (inner (here + 1 + 1)) (here + 1) refl
      (behind_closed (line (Stwsp R9 number) i.pos ∷ []) (arming_lines plan end i) (here + 1 + 1) refl (arming_ends (here + 1 + 1 + 1))))
  tested_ends number false here = arming_ends here

  timed_ends : (flag : Flag) (here : ℕ) (last : Pos) → EndsOpen here (timed_lines plan end flag i here last)
  timed_ends flag here last =
      let value = value_lines plan.vars (timing_expression i.time i.condition) here last in
      behind_closed value (tested_lines flag i.pos (arming_lines plan end i) (here + length value)) here (value_closed plan.vars (timing_expression i.time i.condition) here last)
      (tested_ends flag.number flag.is_known (here + length value))

  flag_closed : (number : ℕ) (is_known : Bool) (from : Reg) (here : ℕ) → holes_in (flag_lines (record { number = number; is_known = is_known }) i.pos from) here ≡ []
  flag_closed number true from here = refl
  flag_closed number false from here = refl

  pub guard_closed : (flag : Flag) (guard : Option kernel.Expression) (here : ℕ) (last : Pos) → holes_in (guard_lines plan.vars flag i.pos guard here last) here ≡ []
  guard_closed flag guard here last =
      let value = value_lines plan.vars guard here last in
      both_closed value (flag_lines flag i.pos (flag_source guard)) here (value_closed plan.vars guard here last)
      (flag_closed flag.number flag.is_known (flag_source guard) (here + length value))

  guarded_ends : (flag : Flag) (guard : Option kernel.Expression) (here : ℕ) (last : Pos) → EndsOpen here (guarded_lines guard i.pos (timed_lines plan end flag i) here last)
  guarded_ends flag None here last = timed_ends flag here last
  guarded_ends flag (Some guard) here last =
      let inner = timed_lines plan end flag i (here + 1) i.pos in
      behind_closed (line (with_target (Brff R0 0) (here + 1 + length inner)) i.pos ∷ []) inner here refl (timed_ends flag (here + 1) i.pos)

  pub case_ends : (flag : Flag) (guard : Option kernel.Expression) (here : ℕ) (last : Pos) → EndsOpen here (case_lines plan end flag guard i here last)
  case_ends flag guard here last =
      let front = guard_lines plan.vars flag i.pos guard here last in
      behind_closed front (guarded_lines guard i.pos (timed_lines plan end flag i) (here + length front) (last_or last front)) here (guard_closed flag guard here last)
      (guarded_ends flag guard (here + length front) (last_or last front))

pub cases_open : (plan : Plan) (ends : List ℕ) (seen : List KRes) (here : ℕ) (last : Pos) (cs : kernel.Cases) → holes_in (cases_lines plan ends seen here last cs) here ≡ cases_starts plan ends seen here last cs
cases_open plan ends seen here last kernel.no_case = refl
cases_open plan ends seen here last (kernel.more_cases (kernel.case guard i ss) cs) =
    let lines = case_lines plan (first_end ends) (flag_for seen i.resource) guard i here last in
    let more = cases_lines plan (other_ends ends) (seen_with seen i.resource) (here + length lines) (last_or last lines) cs in
    holes_append lines more here
    ∙ ap (λ ks. ks ++ holes_in more (here + length lines)) (case_ends plan (first_end ends) i (flag_for seen i.resource) guard here last)
    ∙ ap (λ ks. (here + length lines - 2) ∷ ks) (cases_open plan (other_ends ends) (seen_with seen i.resource) (here + length lines) (last_or last lines) cs)

taking_open : (otherwise : Bool) (pos : Pos) (here : ℕ) → holes_in (taking_lines otherwise pos) here ≡ listed (default_start otherwise (here + length (taking_lines otherwise pos)))
taking_open true pos here = let e : here + 1 + 1 ≡ here + 3 - 1 = omega arith in ap (λ k. k ∷ []) e
taking_open false pos here = refl

pub opening_open : (plan : Plan) (ends : List ℕ) (cases : kernel.Cases) (otherwise : Bool) (pos : Pos) (pc behind : ℕ) → behind ≡ pc + length (opening_lines plan ends cases otherwise pos pc) → holes_in (opening_lines plan ends cases otherwise pos pc) pc ≡ cases_starts plan ends [] (pc + 2) pos cases ++ listed (default_start otherwise behind)
opening_open plan ends cases otherwise pos pc behind behind_is =
    let middle = cases_lines plan ends [] (pc + 2) pos cases in
    let last = taking_lines otherwise pos in
    let starts = cases_starts plan ends [] (pc + 2) pos cases in
    let e : pc + 2 + length middle + length last ≡ behind = omega (arith, behind_is, length-append middle last) in
    holes_append (beginning_lines pos) (middle ++ last) pc
    ∙ holes_append middle last (pc + 2)
    ∙ ap (λ ks. ks ++ holes_in last (pc + 2 + length middle)) (cases_open plan ends [] (pc + 2) pos cases)
    ∙ ap (λ ks. starts ++ ks) (taking_open otherwise pos (pc + 2 + length middle))
    ∙ ap (λ n. starts ++ listed (default_start otherwise n)) e
