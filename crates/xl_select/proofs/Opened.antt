-- The lines that open a select: how many there are, and how they grow.
use Rattle.std.proofs.Common.{◌≡◌, ℕ, ◌+◌, ◌-◌, ◌*◌, ◌≤◌, ◌<◌, add-one, drop, drop-cons, get_or, map, option_map, Bool, true, false, List, [], ◌∷◌, ◌++◌, length, Option, Some, None, Result, Ok, Err, refl, sym, ap, ◌∙◌, arith, append-nil, append_assoc, length-append}
use Rattle.std.specs.Prelude.{OnOk, is_some, slice_index, if◌then◌else◌}
use Rattle.xw_words.specs.declared.pos.Pos.{Pos}
use Rattle.xs_instr.specs.declared.instr.Instr.{Instr}
use Rattle.xs_instr.specs.declared.instr.Instr.TheVariants.{Brff, Brft, Eeu, Ldwsp, Setv, Stwsp}
use Rattle.xs_instr.specs.declared.instr.Reg.TheVariants.{R0, R9, R10, R11}
use Rattle.xs_instr.specs.Extends.{Extends}
use Rattle.xs_instr.specs.Lines.{IsOpen, Line, at_pos, landed, last_or, last_pos, line, open_line}
use Rattle.xc_kernel.specs.declared.statement.KRes.{KRes}
use Rattle.xc_kernel.specs.declared.statement.KRes.TheVariants.{Port, Timer, Chan}
use Rattle.xc_kernel.specs.declared.statement.KCase.{KCase}
use Rattle.xc_kernel.specs.declared.statement.KSelect.{KSelect, out-KSelect}
use Rattle.xc_kernel.specs.declared.statement.Kst.{Kst}
use Rattle.xc_kernel.specs.Kernels.{case_of, default_of, expression_of, input_of, select_of, statement_of}
use Rattle.xc_kernel.specs.Plain as kernel
use Rattle.xc_kernel.proofs.Forms.{case-KCase, select-KSelect}
use Rattle.xl_expr.specs.declared.plan.Plan.{Plan}
use Rattle.xl_expr.specs.declared.plan.ResAt.{ResAt}
use Rattle.xl_expr.specs.declared.plan.ResAt.TheVariants.{Fixed, Held}
use Rattle.xl_expr.specs.declared.plan.VarPlan.{VarPlan}
use Rattle.xl_expr.specs.Code.{expression_code}
use Rattle.xl_expr.proofs.Emitted.{last_added, short_emitted, short_open}
use Rattle.xl_expr.proofs.Evaluates.{some_nodes}
use Rattle.xl_expr.proofs.Pieces.{length-at_pos}
use Rattle.xl_expr.proofs.Sizes.{longer}
use Rattle.xl_port.specs.Timings.{time_nodes, timing_expression}
use Rattle.xl_select.specs.declared.opening.Flag.{Flag}
use Rattle.xl_select.specs.OpeningCode.{arming_lines, beginning_lines, case_count, case_lines, case_parts, cases_in, cases_lines, cases_of, cases_starts, first_value, flag_for, flag_source, first_end, guard_lines, guarded_lines, has_default, is_default, name_instrs, opening_lines, other_ends, past_lines, resource_name, resources_from, seen_by, seen_with, select_pos, setting_instrs, taking_lines, tested_lines, timed_lines, value_lines, waiting_instrs}

-- what follows where a call succeeds
pub on_ok : {A B : Type 0} (r : Result A B) (P Q : Type 0) → (P → Q) → OnOk r P → OnOk r Q
on_ok (Ok x) P Q f h = f h
on_ok (Err x) P Q f h = tt

-- a jump past lines that lands behind them
module _ (jump : Instr) (pos : Pos) (old e1 e2 e3 : List Line) (inner : ℕ → List Line) (h : ℕ) (h_is : h ≡ length old) (h1 : e1 ≡ old ++ open_line jump pos ∷ []) (h2 : e2 ≡ e1 ++ inner (length e1)) where
  pub past_open : IsOpen e2 h
  past_open = short_open jump pos old e1 e2 inner h h_is h1 h2

  pub past_joined : e3 ≡ landed e2 h (length e2) → e3 ≡ old ++ past_lines jump pos inner (length old)
  past_joined h3 =
      short_emitted jump pos old e1 e2 inner h h_is h1 h2 e3 e3 [] h3 (sym (append-nil e3))
      ∙ ap (λ ls. old ++ ls) (append-nil (past_lines jump pos inner (length old)))

-- the setting up of a later case of a resource
pub tested_joined : (flag : Flag) (pos : Pos) (arming old e0 e1 e2 e3 e4 : List Line) (h : ℕ) → flag.is_known ≡ true → e0 ≡ old ++ line (Ldwsp R10 flag.number) pos ∷ [] → h ≡ length e0 → e1 ≡ e0 ++ open_line (Brft R10 0) pos ∷ [] → e2 ≡ e1 ++ line (Stwsp R9 flag.number) pos ∷ [] → e3 ≡ e2 ++ arming → e4 ≡ landed e3 h (length e3) → e4 ≡ old ++ tested_lines flag pos arming (length old)
tested_joined flag pos arming old e0 e1 e2 e3 e4 h known h0 h_is h1 h2 h3 h4 =
    past_joined (Brft R10 0) pos e0 e1 e3 e4 inner h h_is h1 both h4
    ∙ ap (λ ls. ls ++ past_lines (Brft R10 0) pos inner (length e0)) h0
    ∙ append_assoc old (line (Ldwsp R10 flag.number) pos ∷ []) (past_lines (Brft R10 0) pos inner (length e0))
    ∙ ap (λ n. old ++ line (Ldwsp R10 flag.number) pos ∷ past_lines (Brft R10 0) pos inner n) size
    ∙ ap (λ (b : Bool). old ++ (if b then line (Ldwsp R10 flag.number) pos ∷ past_lines (Brft R10 0) pos inner (length old + 1) else arming)) (sym known)
  where
    inner : ℕ → List Line
    inner n = line (Stwsp R9 flag.number) pos ∷ arming

    both : e3 ≡ e1 ++ inner (length e1)
    both = h3 ∙ ap (λ ls. ls ++ arming) h2 ∙ append_assoc e1 (line (Stwsp R9 flag.number) pos ∷ []) arming

    size : length e0 ≡ length old + 1
    size = ap length h0 ∙ length-append old (line (Ldwsp R10 flag.number) pos ∷ [])

-- a case without a guard, and one with

module _ (plan : Plan) (end : ℕ) (flag : Flag) (i : kernel.Input) (old e1 : List Line) where
  pub bare_joined : (e2 : List Line) (guard : Option kernel.Expression) → guard ≡ None → e1 ≡ old ++ guard_lines plan.vars flag i.pos guard (length old) (last_pos old) → e2 ≡ e1 ++ timed_lines plan end flag i (length e1) (last_pos e1) → e2 ≡ old ++ case_lines plan end flag guard i (length old) (last_pos old)
  bare_joined e2 guard none h1 h2 =
      h2
      ∙ ap (λ n. e1 ++ timed_lines plan end flag i n (last_pos e1)) (ap length h1 ∙ length-append old front)
      ∙ ap (λ p. e1 ++ timed_lines plan end flag i (length old + length front) p) (last_added old e1 front h1)
      ∙ ap (λ ls. ls ++ timed_lines plan end flag i (length old + length front) (last_or (last_pos old) front)) h1
      ∙ append_assoc old front (timed_lines plan end flag i (length old + length front) (last_or (last_pos old) front))
      ∙ ap (λ (g : Option kernel.Expression). old ++ (front ++ guarded_lines g i.pos (timed_lines plan end flag i) (length old + length front) (last_or (last_pos old) front))) (sym none)
    where
      front : List Line
      front = guard_lines plan.vars flag i.pos guard (length old) (last_pos old)

  pub guarded_inner : (e2 e3 : List Line) → e2 ≡ e1 ++ open_line (Brff R0 0) i.pos ∷ [] → e3 ≡ e2 ++ timed_lines plan end flag i (length e2) (last_pos e2) → e3 ≡ e2 ++ timed_lines plan end flag i (length e2) i.pos
  guarded_inner e2 e3 h2 h3 =
      h3 ∙ ap (λ p. e2 ++ timed_lines plan end flag i (length e2) p) (last_added e1 e2 (open_line (Brff R0 0) i.pos ∷ []) h2)

  pub guarded_joined : (e2 e3 e4 : List Line) (h : ℕ) (guard : Option kernel.Expression) (g : kernel.Expression) → guard ≡ Some g → h ≡ length e1 → e1 ≡ old ++ guard_lines plan.vars flag i.pos guard (length old) (last_pos old) → e2 ≡ e1 ++ open_line (Brff R0 0) i.pos ∷ [] → e3 ≡ e2 ++ timed_lines plan end flag i (length e2) (last_pos e2) → e4 ≡ landed e3 h (length e3) → e4 ≡ old ++ case_lines plan end flag guard i (length old) (last_pos old)
  guarded_joined e2 e3 e4 h guard g some h_is h1 h2 h3 h4 =
      past_joined (Brff R0 0) i.pos e1 e2 e3 e4 inner h h_is h2 (guarded_inner e2 e3 h2 h3) h4
      ∙ ap (λ n. e1 ++ past_lines (Brff R0 0) i.pos inner n) (ap length h1 ∙ length-append old front)
      ∙ ap (λ ls. ls ++ past_lines (Brff R0 0) i.pos inner (length old + length front)) h1
      ∙ append_assoc old front (past_lines (Brff R0 0) i.pos inner (length old + length front))
      ∙ ap (λ (x : Option kernel.Expression). old ++ (front ++ guarded_lines x i.pos (timed_lines plan end flag i) (length old + length front) (last_or (last_pos old) front))) (sym some)
    where
      inner : ℕ → List Line
      inner n = timed_lines plan end flag i n i.pos

      front : List Line
      front = guard_lines plan.vars flag i.pos guard (length old) (last_pos old)

-- how many lines there are

pub value_few : (vars : List (Option VarPlan)) (x : Option kernel.Expression) (here : ℕ) (last : Pos) → length (value_lines vars x here last) ≤ 7 * time_nodes x
value_few vars None here last = omega arith
value_few vars (Some x) here last = omega (arith, longer vars x first_value here last [] (expression_code vars x first_value here last) refl)

name_few : (place : Option ResAt) → length (name_instrs place) ≤ 2
name_few None = omega arith
name_few (Some (Fixed id)) = omega arith
name_few (Some (Held n j)) = omega arith

waiting_few : (time : Option kernel.Expression) (condition : Option kernel.Condition) → length (waiting_instrs time condition) ≤ 1 + time_nodes (timing_expression time condition)
waiting_few (Some x) condition = let some = some_nodes x in omega arith
waiting_few None (Some condition) = let some = some_nodes condition.value in omega arith
waiting_few None None = omega arith

setting_few : (res : KRes) (time : Option kernel.Expression) (condition : Option kernel.Condition) → length (setting_instrs res time condition) ≤ 1 + time_nodes (timing_expression time condition)
setting_few (Port p) time condition = waiting_few time condition
setting_few (Timer t) time condition = waiting_few time condition
setting_few (Chan c) time condition = omega arith

module _ (plan : Plan) (end : ℕ) (i : kernel.Input) where
  abbrev timing : ℕ
  timing = time_nodes (timing_expression i.time i.condition)

  arming_few : length (arming_lines plan end i) ≤ 5 + timing
  arming_few =
      let names = name_instrs (resource_name plan end i.resource) in
      let sets = setting_instrs i.resource i.time i.condition in
      omega (arith, name_few (resource_name plan end i.resource), setting_few i.resource i.time i.condition, length-append names sets, length-at_pos i.pos (names ++ sets), length-append (at_pos i.pos (names ++ sets)) (open_line (Setv R11 0) i.pos ∷ line (Eeu R11) i.pos ∷ []))

  timed_few : (number : ℕ) (is_known : Bool) (here : ℕ) (last : Pos) → length (timed_lines plan end (record { number = number; is_known = is_known }) i here last) ≤ 8 * timing + (if is_known then 8 else 5)
  timed_few number true here last =
      let value = value_lines plan.vars (timing_expression i.time i.condition) here last in
      omega (arith, arming_few, value_few plan.vars (timing_expression i.time i.condition) here last, length-append value (tested_lines (record { number = number; is_known = true }) i.pos (arming_lines plan end i) (here + length value)))
  timed_few number false here last =
      let value = value_lines plan.vars (timing_expression i.time i.condition) here last in
      omega (arith, arming_few, value_few plan.vars (timing_expression i.time i.condition) here last, length-append value (tested_lines (record { number = number; is_known = false }) i.pos (arming_lines plan end i) (here + length value)))

  guard_few : (number : ℕ) (is_known : Bool) (guard : Option kernel.Expression) (here : ℕ) (last : Pos) → length (guard_lines plan.vars (record { number = number; is_known = is_known }) i.pos guard here last) ≤ 7 * time_nodes guard + (if is_known then 0 else 1)
  guard_few number true guard here last =
      omega (arith, value_few plan.vars guard here last, length-append (value_lines plan.vars guard here last) [])
  guard_few number false guard here last =
      omega (arith, value_few plan.vars guard here last, length-append (value_lines plan.vars guard here last) (line (Stwsp (flag_source guard) number) i.pos ∷ []))

  case_few_by : (number : ℕ) (is_known : Bool) (guard : Option kernel.Expression) (here : ℕ) (last : Pos) → length (case_lines plan end (record { number = number; is_known = is_known }) guard i here last) ≤ 8 * case_parts guard i
  case_few_by number true None here last =
      let flag : Flag = record { number = number; is_known = true } in
      let front = guard_lines plan.vars flag i.pos None here last in
      omega (arith, guard_few number true None here last, timed_few number true (here + length front) (last_or last front), length-append front (timed_lines plan end flag i (here + length front) (last_or last front)))
  case_few_by number false None here last =
      let flag : Flag = record { number = number; is_known = false } in
      let front = guard_lines plan.vars flag i.pos None here last in
      omega (arith, guard_few number false None here last, timed_few number false (here + length front) (last_or last front), length-append front (timed_lines plan end flag i (here + length front) (last_or last front)))
  case_few_by number true (Some g) here last =
      let flag : Flag = record { number = number; is_known = true } in
      let front = guard_lines plan.vars flag i.pos (Some g) here last in
      let some = some_nodes g in
      omega (arith, guard_few number true (Some g) here last, timed_few number true (here + length front + 1) i.pos, length-append front (past_lines (Brff R0 0) i.pos (λ n. timed_lines plan end flag i n i.pos) (here + length front)))
  case_few_by number false (Some g) here last =
      let flag : Flag = record { number = number; is_known = false } in
      let front = guard_lines plan.vars flag i.pos (Some g) here last in
      omega (arith, guard_few number false (Some g) here last, timed_few number false (here + length front + 1) i.pos, length-append front (past_lines (Brff R0 0) i.pos (λ n. timed_lines plan end flag i n i.pos) (here + length front)))

  pub case_few : (flag : Flag) (guard : Option kernel.Expression) (here : ℕ) (last : Pos) → length (case_lines plan end flag guard i here last) ≤ 8 * case_parts guard i
  case_few flag guard here last = case_few_by flag.number flag.is_known guard here last

  pub case_longer : (flag : Flag) (guard : Option kernel.Expression) (old new : List Line) → new ≡ old ++ case_lines plan end flag guard i (length old) (last_pos old) → length new ≤ length old + 8 * case_parts guard i
  case_longer flag guard old new h =
      omega (arith, ap length h, length-append old (case_lines plan end flag guard i (length old) (last_pos old)), case_few flag guard (length old) (last_pos old))

-- the resources named so far are no more than all
pub seen_few : (seen : List KRes) (cs : kernel.Cases) → length seen ≤ length (resources_from seen cs)
seen_few seen kernel.no_case = omega arith
seen_few seen (kernel.more_cases (kernel.case guard i ss) cs) =
    omega (arith, seen_few (seen_with seen i.resource) cs, one_more (flag_for seen i.resource).is_known)
  where
    one_more : (b : Bool) → length seen ≤ length (seen_by seen i.resource b)
    one_more true = omega arith
    one_more false = omega (arith, length-append seen (i.resource ∷ []))

-- the case at a place of a list, and those behind it
pub case_at : (cs : List KCase) (n : ℕ) (x : KCase) → x ≡ get_or cs n x → n < length cs → cases_of (drop n cs) ≡ kernel.more_cases (kernel.case (option_map expression_of x.guard) (input_of x.head) (kernel.statements (map statement_of x.body))) (cases_of (drop (n + 1) cs))
case_at cs n x is lt =
    let cut : drop n cs ≡ get_or cs n x ∷ drop (n + 1) cs = rw add-one (drop-cons cs n x lt) in
    ap (λ (l : List KCase). cases_of l) cut
    ∙ ap (λ (y : KCase). kernel.more_cases (case_of y) (cases_of (drop (n + 1) cs))) (sym is)
    ∙ ap (λ (y : kernel.Case). kernel.more_cases y (cases_of (drop (n + 1) cs))) (case-KCase x)

-- lines behind others
pub extends_on : (old held new ls : List Line) → Extends old held → new ≡ held ++ ls → Extends old new
extends_on old held new ls x h = record { more = x.more ++ ls; is = h ∙ ap (λ y. y ++ ls) x.is ∙ append_assoc old x.more ls }

-- the ends of the cases from a place on
ends_from : (ends : List ℕ) (n : ℕ) → n < length ends → (drop (n + 1) ends ≡ other_ends (drop n ends)) × (get_or ends n 0 ≡ first_end (drop n ends))
ends_from ends n lt =
    let cut : drop n ends ≡ get_or ends n 0 ∷ drop (n + 1) ends = rw add-one (drop-cons ends n 0 lt) in
    (sym (ap other_ends cut), sym (ap first_end cut))

pub ends_at : (ends : List ℕ) (n index : ℕ) → index ≡ n → n < length ends → (drop (n + 1) ends ≡ other_ends (drop n ends)) × (slice_index ends index ≡ first_end (drop n ends))
ends_at ends n index e lt =
    let h = ends_from ends n lt in
    (h.0, ap (λ k. slice_index ends k) e ∙ h.1)

pub extends_behind : (old held new : List Line) → Extends old held → Extends held new → Extends old new
extends_behind old held new x y = extends_on old held new y.more x y.is

-- one case, and the others behind it
module _ (plan : Plan) (end : ℕ) (ends ends' : List ℕ) (end_is : end ≡ first_end ends) (ends_is : ends' ≡ other_ends ends) (seen seen' : List KRes) (flag : Flag) (guard : Option kernel.Expression) (i : kernel.Input) (ss : kernel.Statements) (cs all : kernel.Cases) (is : all ≡ kernel.more_cases (kernel.case guard i ss) cs) (e e1 : List Line) (flag_is : flag ≡ flag_for seen i.resource) (seen_is : seen' ≡ seen_by seen i.resource flag.is_known) (h : e1 ≡ e ++ case_lines plan end flag guard i (length e) (last_pos e)) where
  abbrev lines : List Line
  lines = case_lines plan (first_end ends) (flag_for seen i.resource) guard i (length e) (last_pos e)

  h1 : e1 ≡ e ++ lines
  h1 = h ∙ ap (λ (f : Flag). e ++ case_lines plan end f guard i (length e) (last_pos e)) flag_is ∙ ap (λ n. e ++ case_lines plan n (flag_for seen i.resource) guard i (length e) (last_pos e)) end_is

  size_is : length e1 ≡ length e + length lines
  size_is = ap length h1 ∙ length-append e lines

  with_is : seen' ≡ seen_with seen i.resource
  with_is = seen_is ∙ ap (λ (f : Flag). seen_by seen i.resource f.is_known) flag_is

  pub next_code : e ++ cases_lines plan ends seen (length e) (last_pos e) all ≡ e1 ++ cases_lines plan ends' seen' (length e1) (last_pos e1) cs
  next_code =
      ap (λ y. e ++ cases_lines plan ends seen (length e) (last_pos e) y) is
      ∙ sym (append_assoc e lines (cases_lines plan (other_ends ends) (seen_with seen i.resource) (length e + length lines) (last_or (last_pos e) lines) cs))
      ∙ ap (λ ls. ls ++ cases_lines plan (other_ends ends) (seen_with seen i.resource) (length e + length lines) (last_or (last_pos e) lines) cs) (sym h1)
      ∙ ap (λ n. e1 ++ cases_lines plan (other_ends ends) (seen_with seen i.resource) n (last_or (last_pos e) lines) cs) (sym size_is)
      ∙ ap (λ p. e1 ++ cases_lines plan (other_ends ends) (seen_with seen i.resource) (length e1) p cs) (sym (last_added e e1 lines h1))
      ∙ ap (λ (q : List KRes). e1 ++ cases_lines plan (other_ends ends) q (length e1) (last_pos e1) cs) (sym with_is)
      ∙ ap (λ (q : List ℕ). e1 ++ cases_lines plan q seen' (length e1) (last_pos e1) cs) (sym ends_is)

  pub next_starts : (xs ys : List ℕ) (start : ℕ) → start + 2 ≡ length e1 → ys ≡ xs ++ start ∷ [] → xs ++ cases_starts plan ends seen (length e) (last_pos e) all ≡ ys ++ cases_starts plan ends' seen' (length e1) (last_pos e1) cs
  next_starts xs ys start at g =
      let here : length e + length lines - 2 ≡ start = omega (arith, at, size_is) in
      ap (λ y. xs ++ cases_starts plan ends seen (length e) (last_pos e) y) is
      ∙ ap (λ n. xs ++ n ∷ cases_starts plan (other_ends ends) (seen_with seen i.resource) (length e + length lines) (last_or (last_pos e) lines) cs) here
      ∙ ap (λ n. xs ++ start ∷ cases_starts plan (other_ends ends) (seen_with seen i.resource) n (last_or (last_pos e) lines) cs) (sym size_is)
      ∙ ap (λ p. xs ++ start ∷ cases_starts plan (other_ends ends) (seen_with seen i.resource) (length e1) p cs) (sym (last_added e e1 lines h1))
      ∙ ap (λ (q : List KRes). xs ++ start ∷ cases_starts plan (other_ends ends) q (length e1) (last_pos e1) cs) (sym with_is)
      ∙ ap (λ (q : List ℕ). xs ++ start ∷ cases_starts plan q seen' (length e1) (last_pos e1) cs) (sym ends_is)
      ∙ sym (append_assoc xs (start ∷ []) (cases_starts plan ends' seen' (length e1) (last_pos e1) cs))
      ∙ ap (λ ls. ls ++ cases_starts plan ends' seen' (length e1) (last_pos e1) cs) (sym g)

  pub next_seen : resources_from seen all ≡ resources_from seen' cs
  next_seen = ap (resources_from seen) is ∙ ap (λ (q : List KRes). resources_from q cs) (sym with_is)

pub count_is : (cs : List KCase) → case_count (cases_of cs) ≡ length cs
count_is [] = refl
count_is (c ∷ cs) =
    omega (arith, count_is cs)

-- the parts of a select make up the whole
module _ (s : KSelect) where
  otherwise_is : (otherwise : Option (List Kst)) → is_some otherwise ≡ is_default (default_of otherwise)
  otherwise_is None = refl
  otherwise_is (Some ss) = refl

  pub cases_are : (cs : List KCase) → cs ≡ (out-KSelect s).cases → cases_of cs ≡ cases_in (select_of s)
  cases_are cs h = ap cases_of h ∙ ap cases_in (sym (select-KSelect s))

  pub default_is : (b : Bool) → b ≡ is_some (out-KSelect s).otherwise → b ≡ has_default (select_of s)
  default_is b h = h ∙ otherwise_is (out-KSelect s).otherwise ∙ ap has_default (sym (select-KSelect s))

  pos_is : (out-KSelect s).pos ≡ select_pos (select_of s)
  pos_is = ap select_pos (sym (select-KSelect s))

  pub begun_length : (old e1 : List Line) → e1 ≡ old ++ beginning_lines (out-KSelect s).pos → length e1 ≡ length old + 2
  begun_length old e1 h1 = ap length h1 ∙ length-append old (beginning_lines (out-KSelect s).pos)

  module _ (plan : Plan) (ends : List ℕ) (cs : List KCase) (cs_is : cs ≡ (out-KSelect s).cases) (old e1 : List Line) (h1 : e1 ≡ old ++ beginning_lines (out-KSelect s).pos) where
    begun_size : length e1 ≡ length old + 2
    begun_size = begun_length old e1 h1

    begun_last : last_pos e1 ≡ select_pos (select_of s)
    begun_last = last_added old e1 (beginning_lines (out-KSelect s).pos) h1 ∙ pos_is

    pub opened_starts : cases_starts plan ends [] (length e1) (last_pos e1) (cases_of cs) ≡ cases_starts plan ends [] (length old + 2) (select_pos (select_of s)) (cases_in (select_of s))
    opened_starts =
        ap (λ n. cases_starts plan ends [] n (last_pos e1) (cases_of cs)) begun_size
        ∙ ap (λ p. cases_starts plan ends [] (length old + 2) p (cases_of cs)) begun_last
        ∙ ap (λ x. cases_starts plan ends [] (length old + 2) (select_pos (select_of s)) x) (cases_are cs cs_is)

    pub opened : (b : Bool) (e2 e3 : List Line) → b ≡ is_some (out-KSelect s).otherwise → e2 ≡ e1 ++ cases_lines plan ends [] (length e1) (last_pos e1) (cases_of cs) → e3 ≡ e2 ++ taking_lines b (out-KSelect s).pos → e3 ≡ old ++ opening_lines plan ends (cases_in (select_of s)) (has_default (select_of s)) (select_pos (select_of s)) (length old)
    opened b e2 e3 b_is h2 h3 =
        h3
        ∙ ap (λ ls. ls ++ taking_lines b pos') (h2 ∙ ap (λ n. e1 ++ cases_lines plan ends [] n (last_pos e1) (cases_of cs)) begun_size ∙ ap (λ p. e1 ++ cases_lines plan ends [] (length old + 2) p (cases_of cs)) (last_added old e1 (beginning_lines pos') h1) ∙ ap (λ ls. ls ++ middle) h1)
        ∙ append_assoc (old ++ beginning_lines pos') middle (taking_lines b pos')
        ∙ append_assoc old (beginning_lines pos') (middle ++ taking_lines b pos')
        ∙ ap (λ x. old ++ opening_lines plan ends x b pos' (length old)) (cases_are cs cs_is)
        ∙ ap (λ x. old ++ opening_lines plan ends (cases_in (select_of s)) x pos' (length old)) (default_is b b_is)
        ∙ ap (λ x. old ++ opening_lines plan ends (cases_in (select_of s)) (has_default (select_of s)) x (length old)) pos_is
      where
        pos' : Pos
        pos' = (out-KSelect s).pos

        middle : List Line
        middle = cases_lines plan ends [] (length old + 2) pos' (cases_of cs)

pub taking_few : (b : Bool) (pos : Pos) → length (taking_lines b pos) ≤ 3
taking_few true pos = omega arith
taking_few false pos = omega arith
