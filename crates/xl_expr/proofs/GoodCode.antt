-- The targets of an expression's code lie ahead, and in the code that it stands in.
use Rattle.std.proofs.Common.{sym, append-nil, refl, suc, map, ◌≡◌, ℕ, ◌+◌, ◌<◌, Bool, true, false, List, [], ◌∷◌, ◌++◌, length, Option, Some, None, subst, arith, length-append}
use Rattle.xw_words.specs.declared.pos.Pos.{Pos}
use Rattle.xs_instr.specs.declared.instr.Instr.{Instr}
use Rattle.xs_instr.specs.declared.instr.Instr.TheVariants.{Brff, Brft, Brfu, Ldwsp, Ldawdp, Ldwdp, Stwsp}
use Rattle.xs_instr.specs.declared.instr.Reg.{Reg}
use Rattle.xs_instr.specs.declared.instr.Reg.TheVariants.{R0, R11}
use Rattle.xs_instr.specs.Adds.{Adds}
use Rattle.xs_instr.specs.Valid.{AreGoodInstrs, IsGoodInstr}
use Rattle.xc_kernel.specs.Plain as kernel
use Rattle.xc_kernel.specs.Operators as operator
use Rattle.xc_kernel.specs.Operators.{Operator, operator_at}
use Rattle.xs_instr.specs.Lines.{HasNoHole, Line, instr_of, line, at_pos, last_or}
use Rattle.xl_expr.specs.declared.plan.VarAt.{VarAt}
use Rattle.xl_expr.specs.declared.plan.VarAt.TheVariants.{Near, Far, Through}
use Rattle.xl_expr.specs.declared.plan.VarPlan.{VarPlan}
use Rattle.xl_expr.specs.declared.direct_operand.Direct.{Direct}
use Rattle.xl_expr.specs.declared.direct_operand.Direct.TheVariants.{Number, Word}
use Rattle.xl_expr.specs.Plans.{var_in}
use Rattle.xl_expr.specs.Targets.{AreAimed, AreGoodLines}
use Rattle.xl_expr.specs.Code.{Operand, one_tail, made_truth, main_instr, after_main, two_tail, brought, added, added_to, direct_tail, chained, joined_code, two_code, operation_code, direct_of, operand_of, code_by, word_code, word_at_place, fixed_index, element_read, element_code, element_at_place, expression_code, codes, place_code, moved_to, code_to}
use Rattle.xl_expr.specs.Stores.{word_write, word_store, element_write, element_store_at, element_store, store_code}

pub good_append : (size i : ℕ) (a b : List Line) → AreGoodLines size i a → AreGoodLines size (i + length a) b → AreGoodLines size i (a ++ b)
good_append size i [] b h g = let e : i + 0 ≡ i = omega arith in subst (λ n. AreGoodLines size n b) e g
good_append size i (l ∷ a) b h g =
    let e : i + length (l ∷ a) ≡ i + 1 + length a = omega arith in
    (h.0, h.1, good_append size (i + 1) a b h.2 (subst (λ n. AreGoodLines size n b) e g))

-- instructions that are good anywhere
abbrev pub ArePlain : List Instr → Type 0
ArePlain [] = Unit {0}
ArePlain (i ∷ is) = ((size n : ℕ) → IsGoodInstr size n i) × ArePlain is

pub plain_good : (pos : Pos) (is : List Instr) → ArePlain is → (size n : ℕ) → AreGoodLines size n (at_pos pos is)
plain_good pos [] h size n = tt
plain_good pos (i ∷ is) h size n = (h.0 size n, refl, plain_good pos is h.1 size (n + 1))

pub plain_append : (is js : List Instr) → ArePlain is → ArePlain js → ArePlain (is ++ js)
plain_append [] js h g = g
plain_append (i ∷ is) js h g = (h.0, plain_append is js h.1 g)

main_plain : (o : Operator) (u : Bool) (a b : Reg) → (size n : ℕ) → IsGoodInstr size n (main_instr o u a b)
main_plain operator.divide true a b = λ size n. tt
main_plain operator.divide false a b = λ size n. tt
main_plain operator.remainder true a b = λ size n. tt
main_plain operator.remainder false a b = λ size n. tt
main_plain operator.shift_down true a b = λ size n. tt
main_plain operator.shift_down false a b = λ size n. tt
main_plain operator.less true a b = λ size n. tt
main_plain operator.less false a b = λ size n. tt
main_plain operator.greater true a b = λ size n. tt
main_plain operator.greater false a b = λ size n. tt
main_plain operator.at_most true a b = λ size n. tt
main_plain operator.at_most false a b = λ size n. tt
main_plain operator.at_least true a b = λ size n. tt
main_plain operator.at_least false a b = λ size n. tt
main_plain other u a b = λ size n. tt

after_plain : (o : Operator) (a b : Reg) → ArePlain (after_main o a b)
after_plain operator.differs a b = ((λ size n. tt), ((λ size n. tt), tt))
after_plain operator.at_most a b = ((λ size n. tt), ((λ size n. tt), tt))
after_plain operator.at_least a b = ((λ size n. tt), ((λ size n. tt), tt))
after_plain operator.below_length R0 b = ((λ size n. tt), tt)
after_plain operator.below_length other b = ((λ size n. tt), ((λ size n. tt), tt))
after_plain other a b = tt

brought_plain : (d : Direct) (to : Reg) → (size n : ℕ) → IsGoodInstr size n (brought d to)
brought_plain (Number v) to = λ size n. tt
brought_plain (Word m) to = λ size n. tt

direct_plain : (o : Operator) (u : Bool) (d : Direct) (sum : Option ℕ) (a b : Reg) → ArePlain (direct_tail o u d sum a b)
direct_plain o u d (Some m) a b = ((λ size n. tt), tt)
direct_plain o u d None a b = (brought_plain d R11, (main_plain o u a b, after_plain o a b))

one_plain : (o : Operator) → ArePlain (one_tail o)
one_plain operator.minus = ((λ size n. tt), tt)
one_plain operator.flip = ((λ size n. tt), tt)
one_plain operator.not_true = ((λ size n. tt), ((λ size n. tt), tt))
one_plain other = tt

pub record IsGood (p : ℕ → ℕ → Pos → List Line) : Type 0 where
  pub by : (size k here : ℕ) (last : Pos) → here + length (p k here last) < size → AreGoodLines size here (p k here last)

data AllGood : List Operand → Type 0 where
  none : AllGood []
  some : (p : Operand) (ps : List Operand) (here : IsGood p.piece) (rest : AllGood ps) → AllGood (p ∷ ps)

chained_good : (a b : ℕ → ℕ → Pos → List Line) → IsGood a → IsGood b → (middle : ℕ → ℕ → Instr) → ((k target size n : ℕ) → n < target → target < size → IsGoodInstr size n (middle k target)) → (pos : Pos) (is : ℕ → List Instr) → ((k : ℕ) → ArePlain (is k)) → IsGood (λ k here last. chained a middle pos b k here last ++ at_pos pos (is k))
chained_good a b ga gb middle good pos is plain = record {
  by = λ size k here last h.
      let ca = a k here last in
      let cb = b (k + 1) (here + length ca + 1) pos in
      let target = here + length ca + 1 + length cb in
      let m = line (middle k target) pos in
      let tail = at_pos pos (is k) in
      let l1 = length-append (ca ++ (m ∷ cb)) tail in
      let l2 = length-append ca (m ∷ cb) in
      good_append size here (ca ++ (m ∷ cb)) tail
      (good_append size here ca (m ∷ cb) (ga.by size k here last (omega (arith, h, l1, l2))) (good k target size (here + length ca) (omega arith) (omega (arith, h, l1, l2)), refl, gb.by size (k + 1) (here + length ca + 1) pos (omega (arith, h, l1, l2))))
      (plain_good pos (is k) (plain k) size (here + length (ca ++ (m ∷ cb))));
}

behind_good : (p : ℕ → ℕ → Pos → List Line) → IsGood p → (pos : Pos) (is : List Instr) → ArePlain is → IsGood (λ k here last. p k here last ++ at_pos pos is)
behind_good p g pos is plain = record {
  by = λ size k here last h.
      let ls = p k here last in
      let l = length-append ls (at_pos pos is) in
      good_append size here ls (at_pos pos is) (g.by size k here last (omega (arith, h, l))) (plain_good pos is plain size (here + length ls));
}

joined_good : (o : Operator) (u : Bool) (pos : Pos) (a b : ℕ → ℕ → Pos → List Line) → IsGood a → IsGood b → (da db : Option Direct) → IsGood (joined_code o u pos a b da db)
joined_good o u pos a b ga gb da (Some d) = behind_good a ga pos (direct_tail o u d (added o d) R0 R11) (direct_plain o u d (added o d) R0 R11)
joined_good o u pos a b ga gb (Some d) None = behind_good b gb pos (direct_tail o u d (added_to o d) R11 R0) (direct_plain o u d (added_to o d) R11 R0)
joined_good o u pos a b ga gb None None = chained_good a b ga gb (λ k target. Stwsp R0 k) (λ k target size n h g. tt) pos (λ k. Ldwsp R11 k ∷ two_tail o u R11 R0) (λ k. ((λ size n. tt), (main_plain o u R11 R0, after_plain o R11 R0)))

truth_plain : ArePlain made_truth
truth_plain = ((λ size n. tt), ((λ size n. tt), ((λ size n. tt), tt)))

two_good : (o : Operator) (u : Bool) (pos : Pos) (a b : Operand) → IsGood a.piece → IsGood b.piece → IsGood (two_code o u pos a b)
two_good operator.both u pos a b ga gb = chained_good a.piece b.piece ga gb (λ k. Brff R0) (λ k target size n h g. (h, g)) pos (λ k. made_truth) (λ k. truth_plain)
two_good operator.either u pos a b ga gb = chained_good a.piece b.piece ga gb (λ k. Brft R0) (λ k target size n h g. (h, g)) pos (λ k. made_truth) (λ k. truth_plain)
two_good other u pos a b ga gb = joined_good other u pos a.piece b.piece ga gb a.direct b.direct

operation_good : (o : Operator) (u : Bool) (pos : Pos) (ps : List Operand) → AllGood ps → IsGood (operation_code o u pos ps)
operation_good o u pos ps none = record { by = λ size k here last h. (tt, refl, tt) }
operation_good o u pos ps (some a ps' ga none) = behind_good a.piece ga pos (one_tail o) (one_plain o)
operation_good o u pos ps (some a ps' ga (some b ps'' gb none)) = two_good o u pos a b ga gb
operation_good o u pos ps (some a ps' ga (some b ps'' gb (some d ps3 gd rest))) = record {
  by = λ size k here last h.
      let ca = a.piece k here last in
      let cb = b.piece (k + 1) (here + length ca + 1) pos in
      let p2 = here + length ca + 1 + length cb in
      let cd = d.piece (k + 1) (p2 + 1) pos in
      let end = p2 + 1 + length cd in
      let l = line (Brff R0 (p2 + 1)) pos in
      let m = line (Brfu end) pos in
      let l1 = length-append ca (l ∷ (cb ++ (m ∷ cd))) in
      let l2 = length-append cb (m ∷ cd) in
      good_append size here ca (l ∷ (cb ++ (m ∷ cd))) (ga.by size k here last (omega (arith, h, l1, l2)))
      ((omega arith, omega (arith, h, l1, l2)), refl, good_append size (here + length ca + 1) cb (m ∷ cd) (gb.by size (k + 1) (here + length ca + 1) pos (omega (arith, h, l1, l2))) ((omega arith, omega (arith, h, l1, l2)), refl, gd.by size (k + 1) (p2 + 1) pos (omega (arith, h, l1, l2))));
}

word_plain : (place : VarAt) → ArePlain (word_at_place place)
word_plain (Near n) = ((λ size n. tt), tt)
word_plain (Far n) = ((λ size n. tt), ((λ size n. tt), ((λ size n. tt), tt)))
word_plain (Through n) = ((λ size n. tt), ((λ size n. tt), ((λ size n. tt), tt)))

element_good : (found : Option VarPlan) (x : kernel.Expression) (pos : Pos) (i : ℕ → ℕ → Pos → List Line) → IsGood i → IsGood (element_code found x pos i)
element_good None x pos i g = record { by = λ size k here last h. tt }
element_good (Some found) x pos i g = at_place found.place (fixed_index x found.words)
  where
    at_place : (place : VarAt) (fixed : Option ℕ) → IsGood (element_at_place place found.words fixed pos i)
    at_place (Near n) (Some j) = record { by = λ size k here last h. (tt, refl, tt) }
    at_place (Near n) None = behind_good i g pos (element_read (Ldawdp R11 n) found.words) ((λ size n. tt), ((λ size n. tt), ((λ size n. tt), ((λ size n. tt), ((λ size n. tt), tt)))))
    at_place (Far n) (Some j) = record { by = λ size k here last h. (tt, refl, (tt, refl, (tt, refl, tt))) }
    at_place (Far n) None = behind_good i g pos (element_read (Ldwdp R11 n) found.words) ((λ size n. tt), ((λ size n. tt), ((λ size n. tt), ((λ size n. tt), ((λ size n. tt), tt)))))
    at_place (Through n) fixed = record { by = λ size k here last h. (tt, refl, (tt, refl, (tt, refl, tt))) }

mutual
  pub code_good : (vars : List (Option VarPlan)) (x : kernel.Expression) → IsGood (expression_code vars x)
  code_good vars (kernel.number v) = record { by = λ size k here last h. (tt, refl, tt) }
  code_good vars (kernel.read p) = place_good vars p
  code_good vars (kernel.operation o u es pos) = operation_good (operator_at o) u pos (codes vars es) (codes_good vars es)

  codes_good : (vars : List (Option VarPlan)) (es : kernel.Operands) → AllGood (codes vars es)
  codes_good vars kernel.no_operand = none
  codes_good vars (kernel.more_operands e es) = some (operand_of vars e) (codes vars es) (code_good vars e) (codes_good vars es)

  place_good : (vars : List (Option VarPlan)) (p : kernel.Place) → IsGood (place_code vars p)
  place_good vars (kernel.word v) = word_at (var_in vars v)
    where
      word_at : (found : Option VarPlan) → IsGood (λ k here last. word_code found last)
      word_at None = record { by = λ size k here last h. tt }
      word_at (Some found) = record { by = λ size k here last h. plain_good last (word_at_place found.place) (word_plain found.place) size here }
  place_good vars (kernel.element v i pos) = element_good (var_in vars v) i pos (expression_code vars i) (code_good vars i)

-- with the move to a register
pub code_to_good : (vars : List (Option VarPlan)) (x : kernel.Expression) (to : Reg) (size here : ℕ) (last : Pos) → here + length (code_to vars x to here last) < size → AreGoodLines size here (code_to vars x to here last)
code_to_good vars x to size here last h = by_direct (direct_of vars x) h
  where
    moved_plain : (r : Reg) → ArePlain (moved_to r)
    moved_plain R0 = tt
    moved_plain other = ((λ size n. tt), tt)

    by_direct : (direct : Option Direct) → here + length (code_by direct vars x to here last) < size → AreGoodLines size here (code_by direct vars x to here last)
    by_direct (Some d) g = (brought_plain d to size here, refl, tt)
    by_direct None g =
        let ls = expression_code vars x 0 here last in
        let behind = last_or last ls in
        let l = length-append ls (at_pos behind (moved_to to)) in
        good_append size here ls (at_pos behind (moved_to to)) ((code_good vars x).by size 0 here last (omega (arith, g, l))) (plain_good behind (moved_to to) (moved_plain to) size (here + length ls))

-- and of a store
pub store_good : (vars : List (Option VarPlan)) (p : kernel.Place) (from : Reg) (size here : ℕ) (last : Pos) → here + length (store_code vars p from here last) < size → AreGoodLines size here (store_code vars p from here last)
store_good vars (kernel.word v) from size here last h = of_word (var_in vars v)
  where
    writes : (place : VarAt) → ArePlain (word_write place from)
    writes (Near n) = ((λ size n. tt), tt)
    writes (Far n) = ((λ size n. tt), ((λ size n. tt), ((λ size n. tt), ((λ size n. tt), ((λ size n. tt), tt)))))
    writes (Through n) = ((λ size n. tt), ((λ size n. tt), ((λ size n. tt), ((λ size n. tt), ((λ size n. tt), tt)))))

    of_word : (found : Option VarPlan) → AreGoodLines size here (word_store found from last)
    of_word None = tt
    of_word (Some found) = plain_good last (word_write found.place from) (writes found.place) size here
store_good vars (kernel.element v i pos) from size here last h = of_element (var_in vars v) h
  where
    ci : List Line
    ci = expression_code vars i 1 (here + 1) pos

    behind_index : (is : List Instr) → ArePlain is → here + length (line (Stwsp from 0) pos ∷ (ci ++ at_pos pos is)) < size → AreGoodLines size here (line (Stwsp from 0) pos ∷ (ci ++ at_pos pos is))
    behind_index is p g =
        let l = length-append ci (at_pos pos is) in
        (tt, refl, good_append size (here + 1) ci (at_pos pos is) ((code_good vars i).by size 1 (here + 1) pos (omega (arith, g, l))) (plain_good pos is p size (here + 1 + length ci)))

    at_place : (place : VarAt) (words : ℕ) (fixed : Option ℕ) → here + length (element_store_at place words fixed from pos (λ n. expression_code vars i 1 n pos) here) < size → AreGoodLines size here (element_store_at place words fixed from pos (λ n. expression_code vars i 1 n pos) here)
    at_place (Near n) words (Some j) g = (tt, refl, tt)
    at_place (Near n) words None g = behind_index (element_write (Ldawdp R11 n) words) ((λ size n. tt), ((λ size n. tt), ((λ size n. tt), ((λ size n. tt), ((λ size n. tt), ((λ size n. tt), tt)))))) g
    at_place (Far n) words (Some j) g = (tt, refl, (tt, refl, (tt, refl, (tt, refl, (tt, refl, tt)))))
    at_place (Far n) words None g = behind_index (element_write (Ldwdp R11 n) words) ((λ size n. tt), ((λ size n. tt), ((λ size n. tt), ((λ size n. tt), ((λ size n. tt), ((λ size n. tt), tt)))))) g
    at_place (Through n) words fixed g = (tt, refl, (tt, refl, (tt, refl, (tt, refl, (tt, refl, tt)))))

    of_element : (found : Option VarPlan) → here + length (element_store found i from pos (λ n. expression_code vars i 1 n pos) here) < size → AreGoodLines size here (element_store found i from pos (λ n. expression_code vars i 1 n pos) here)
    of_element None g = tt
    of_element (Some found) g = at_place found.place found.words (fixed_index i found.words) g

-- lines behind lines
pub aimed_append : (pc : ℕ) (ls ms : List Line) → AreAimed pc ls → AreAimed (pc + length ls) ms → AreAimed pc (ls ++ ms)
aimed_append pc ls ms h g = record {
  by = λ size e.
      let l = length-append ls ms in
      good_append size pc ls ms (h.by size (omega (arith, e, l))) (g.by size (omega (arith, e, l)));
}

pub plain_aimed : (pos : Pos) (is : List Instr) (pc : ℕ) → ArePlain is → AreAimed pc (at_pos pos is)
plain_aimed pos is pc h = record { by = λ size e. plain_good pos is h size pc }

pub code_aimed : (vars : List (Option VarPlan)) (x : kernel.Expression) (to : Reg) (pc : ℕ) (last : Pos) → AreAimed pc (code_to vars x to pc last)
code_aimed vars x to pc last = record { by = λ size e. code_to_good vars x to size pc last e }

pub store_aimed : (vars : List (Option VarPlan)) (p : kernel.Place) (from : Reg) (pc : ℕ) (last : Pos) → AreAimed pc (store_code vars p from pc last)
store_aimed vars p from pc last = record { by = λ size e. store_good vars p from size pc last e }

pub nothing_aimed : (old : List Line) → Adds old old (AreAimed (length old))
nothing_aimed old = record { lines = []; is = sym (append-nil old); so = record { by = λ size e. tt } }

-- what good lines are for the emitter and for an image
pub good_closed : (size i : ℕ) (ls : List Line) → AreGoodLines size i ls → HasNoHole ls
good_closed size i [] h = tt
good_closed size i (l ∷ ls) h = (h.1, good_closed size (i + 1) ls h.2)

pub good_instrs : (size i : ℕ) (ls : List Line) → AreGoodLines size i ls → AreGoodInstrs size i (map instr_of ls)
good_instrs size i [] h = tt
good_instrs size i (l ∷ ls) h =
    let e : i + 1 ≡ suc i = omega arith in
    (h.0, subst (λ n. AreGoodInstrs size n (map instr_of ls)) e (good_instrs size (i + 1) ls h.2))
