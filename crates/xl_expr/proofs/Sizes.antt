-- An expression has at most 7 instructions for each node.
use Rattle.std.proofs.Common.{◌≡◌, ℕ, ◌+◌, ◌*◌, ◌≤◌, Bool, List, [], ◌∷◌, ◌++◌, length, Option, Some, None, ap, arith, length-append}
use Rattle.xw_words.specs.declared.pos.Pos.{Pos}
use Rattle.xs_instr.specs.declared.instr.Instr.{Instr}
use Rattle.xs_instr.specs.declared.instr.Instr.TheVariants.{Brff, Brft, Brfu, Ldwsp, Stwsp, Ldawdp, Ldwdp}
use Rattle.xs_instr.specs.declared.instr.Reg.{Reg}
use Rattle.xs_instr.specs.declared.instr.Reg.TheVariants.{R0, R11}
use Rattle.xc_kernel.specs.Plain as kernel
use Rattle.xc_kernel.specs.Operators as operator
use Rattle.xc_kernel.specs.Operators.{Operator, operator_at}
use Rattle.xs_instr.specs.Lines.{Line, line, at_pos, last_or}
use Rattle.xl_expr.specs.declared.plan.VarAt.{VarAt}
use Rattle.xl_expr.specs.declared.plan.VarAt.TheVariants.{Near, Far, Through}
use Rattle.xl_expr.specs.declared.plan.VarPlan.{VarPlan}
use Rattle.xl_expr.specs.Plans.{var_in}
use Rattle.xl_expr.specs.Measures.{nodes, nodes_of, nodes_at}
use Rattle.xl_expr.specs.Code.{Operand, one_tail, two_tail, made_truth, added, added_to, direct_tail, chained, joined_code, two_code, operation_code, word_code, word_at_place, fixed_index, element_read, element_code, element_at_place, direct_of, operand_of, expression_code, codes, place_code, moved_to, code_by, code_to}
use Rattle.xl_expr.specs.declared.direct_operand.Direct.{Direct}
use Rattle.xl_expr.specs.Stores.{word_write, word_store, indexed_write, element_write, element_store_at, element_store, store_code}
use Rattle.xl_expr.proofs.Pieces.{length-at_pos}
use Rattle.xl_expr.proofs.Tails.{one_few, two_few, direct_few}
use Rattle.xl_expr.proofs.Evaluates.{some_nodes}

pub record IsShort (p : ℕ → ℕ → Pos → List Line) (n : ℕ) : Type 0 where
  pub by : (k here : ℕ) (last : Pos) → length (p k here last) ≤ 7 * n

data AllShort : List Operand → ℕ → Type 0 where
  none : AllShort [] 0
  some : (p : Operand) (n : ℕ) (ps : List Operand) (ns : ℕ) (here : IsShort p.piece n) (rest : AllShort ps ns) → AllShort (p ∷ ps) (n + ns)

chained_short : (a b : ℕ → ℕ → Pos → List Line) (na nb : ℕ) → IsShort a na → IsShort b nb → (middle : ℕ → ℕ → Instr) (pos : Pos) (is : ℕ → List Instr) → ((k : ℕ) → length (is k) ≤ 4) → IsShort (λ k here last. chained a middle pos b k here last ++ at_pos pos (is k)) (1 + (na + nb))
chained_short a b na nb sa sb middle pos is few = record {
  by = λ k here last.
      let ca = a k here last in
      let cb = b (k + 1) (here + length ca + 1) pos in
      let l = line (middle k (here + length ca + 1 + length cb)) pos in
      omega (arith, sa.by k here last, sb.by (k + 1) (here + length ca + 1) pos, length-append (ca ++ (l ∷ cb)) (at_pos pos (is k)), length-append ca (l ∷ cb), length-at_pos pos (is k), few k);
}

behind_short : (p : ℕ → ℕ → Pos → List Line) (n : ℕ) → IsShort p n → (m : ℕ) → n ≤ m → (pos : Pos) (is : List Instr) → length is ≤ 7 → IsShort (λ k here last. p k here last ++ at_pos pos is) (1 + m)
behind_short p n sp m le pos is few = record { by = λ k here last. omega (arith, le, sp.by k here last, length-append (p k here last) (at_pos pos is), length-at_pos pos is, few) }

joined_short : (o : Operator) (u : Bool) (pos : Pos) (a b : ℕ → ℕ → Pos → List Line) (na nb : ℕ) → IsShort a na → IsShort b nb → (da db : Option Direct) → IsShort (joined_code o u pos a b da db) (1 + (na + nb))
joined_short o u pos a b na nb sa sb da (Some d) = behind_short a na sa (na + nb) (omega arith) pos (direct_tail o u d (added o d) R0 R11) (let f = direct_few pos o u d (added o d) R0 R11 in omega arith)
joined_short o u pos a b na nb sa sb (Some d) None = behind_short b nb sb (na + nb) (omega arith) pos (direct_tail o u d (added_to o d) R11 R0) (let f = direct_few pos o u d (added_to o d) R11 R0 in omega arith)
joined_short o u pos a b na nb sa sb None None = chained_short a b na nb sa sb (λ k target. Stwsp R0 k) pos (λ k. Ldwsp R11 k ∷ two_tail o u R11 R0) (λ k. let f = two_few pos o u R11 R0 in omega arith)

two_short : (o : Operator) (u : Bool) (pos : Pos) (a b : Operand) (na nb : ℕ) → IsShort a.piece na → IsShort b.piece nb → IsShort (two_code o u pos a b) (1 + (na + nb))
two_short operator.both u pos a b na nb sa sb = chained_short a.piece b.piece na nb sa sb (λ k. Brff R0) pos (λ k. made_truth) (λ k. omega arith)
two_short operator.either u pos a b na nb sa sb = chained_short a.piece b.piece na nb sa sb (λ k. Brft R0) pos (λ k. made_truth) (λ k. omega arith)
two_short other u pos a b na nb sa sb = joined_short other u pos a.piece b.piece na nb sa sb a.direct b.direct

operation_short : (o : Operator) (u : Bool) (pos : Pos) (ps : List Operand) (n : ℕ) → AllShort ps n → IsShort (operation_code o u pos ps) (1 + n)
operation_short o u pos ps n none = record { by = λ k here last. omega arith }
operation_short o u pos ps n (some a na ps' ns' sa none) = record { by = λ k here last. omega (arith, sa.by k here last, length-append (a.piece k here last) (at_pos pos (one_tail o)), length-at_pos pos (one_tail o), one_few pos o) }
operation_short o u pos ps n (some a na ps' ns' sa (some b nb ps'' ns'' sb none)) = record { by = λ k here last. omega (arith, (two_short o u pos a b na nb sa sb).by k here last) }
operation_short o u pos ps n (some a na ps' ns' sa (some b nb ps'' ns'' sb (some d nd ps3 ns3 sd rest))) = record {
  by = λ k here last.
      let ca = a.piece k here last in
      let cb = b.piece (k + 1) (here + length ca + 1) pos in
      let cd = d.piece (k + 1) (here + length ca + 1 + length cb + 1) pos in
      let l = line (Brff R0 (here + length ca + 1 + length cb + 1)) pos in
      let m = line (Brfu (here + length ca + 1 + length cb + 1 + length cd)) pos in
      omega (arith, sa.by k here last, sb.by (k + 1) (here + length ca + 1) pos, sd.by (k + 1) (here + length ca + 1 + length cb + 1) pos, length-append ca (l ∷ (cb ++ (m ∷ cd))), length-append cb (m ∷ cd));
}

word_short : (place : VarAt) (last : Pos) → length (at_pos last (word_at_place place)) ≤ 7
word_short (Near n) last = omega arith
word_short (Far n) last = omega arith
word_short (Through n) last = omega arith

element_short : (found : Option VarPlan) (x : kernel.Expression) (pos : Pos) (i : ℕ → ℕ → Pos → List Line) (n : ℕ) → IsShort i n → IsShort (element_code found x pos i) (1 + n)
element_short None x pos i n h = record { by = λ k here last. omega arith }
element_short (Some found) x pos i n h = at_place found.place (fixed_index x found.words)
  where
    at_place : (place : VarAt) (fixed : Option ℕ) → IsShort (element_at_place place found.words fixed pos i) (1 + n)
    at_place (Near m) (Some j) = record { by = λ k here last. omega arith }
    at_place (Near m) None = behind_short i n h n (omega arith) pos (element_read (Ldawdp R11 m) found.words) (omega arith)
    at_place (Far m) (Some j) = record { by = λ k here last. omega arith }
    at_place (Far m) None = behind_short i n h n (omega arith) pos (element_read (Ldwdp R11 m) found.words) (omega arith)
    at_place (Through m) fixed = record { by = λ k here last. omega arith }

mutual
  pub code_short : (vars : List (Option VarPlan)) (x : kernel.Expression) → IsShort (expression_code vars x) (nodes x)
  code_short vars (kernel.number v) = record { by = λ k here last. omega arith }
  code_short vars (kernel.read p) = place_short vars p
  code_short vars (kernel.operation o u es pos) = operation_short (operator_at o) u pos (codes vars es) (nodes_of es) (codes_short vars es)

  codes_short : (vars : List (Option VarPlan)) (es : kernel.Operands) → AllShort (codes vars es) (nodes_of es)
  codes_short vars kernel.no_operand = none
  codes_short vars (kernel.more_operands e es) = some (operand_of vars e) (nodes e) (codes vars es) (nodes_of es) (code_short vars e) (codes_short vars es)

  place_short : (vars : List (Option VarPlan)) (p : kernel.Place) → IsShort (place_code vars p) (nodes_at p)
  place_short vars (kernel.word v) = word_at (var_in vars v)
    where
      word_at : (found : Option VarPlan) → IsShort (λ k here last. word_code found last) 1
      word_at None = record { by = λ k here last. omega arith }
      word_at (Some found) = record { by = λ k here last. word_short found.place last }
  place_short vars (kernel.element v i pos) = element_short (var_in vars v) i pos (expression_code vars i) (nodes i) (code_short vars i)

-- so lines that an expression's code follows are not many more
pub longer : (vars : List (Option VarPlan)) (x : kernel.Expression) (k here : ℕ) (last : Pos) (old new : List Line) → new ≡ old ++ expression_code vars x k here last → length new ≤ length old + 7 * nodes x
longer vars x k here last old new e =
    let h = (code_short vars x).by k here last in
    let l : length new ≡ length (old ++ expression_code vars x k here last) = ap length e in
    omega (arith, h, l, length-append old (expression_code vars x k here last))

move_few : (to : Reg) → length (moved_to to) ≤ 1
move_few R0 = omega arith
move_few other = omega arith

code_by_few : (direct : Option Direct) (vars : List (Option VarPlan)) (x : kernel.Expression) (to : Reg) (here : ℕ) (last : Pos) → length (code_by direct vars x to here last) ≤ 8 * nodes x
code_by_few (Some d) vars x to here last = let some = some_nodes x in omega arith
code_by_few None vars x to here last =
    let some = some_nodes x in
    let ls = expression_code vars x 0 here last in
    let behind = last_or last ls in
    omega (arith, (code_short vars x).by 0 here last, length-append ls (at_pos behind (moved_to to)), length-at_pos behind (moved_to to), move_few to)

pub moved_longer : (vars : List (Option VarPlan)) (x : kernel.Expression) (to : Reg) (here : ℕ) (last : Pos) (old new : List Line) → new ≡ old ++ code_to vars x to here last → length new ≤ length old + 8 * nodes x
moved_longer vars x to here last old new e =
    let l : length new ≡ length (old ++ code_to vars x to here last) = ap length e in
    omega (arith, l, length-append old (code_to vars x to here last), code_by_few (direct_of vars x) vars x to here last)

-- a store has at most 8 instructions for each node
pub store_few : (vars : List (Option VarPlan)) (p : kernel.Place) (from : Reg) (here : ℕ) (last : Pos) → length (store_code vars p from here last) ≤ 8 * nodes_at p
store_few vars (kernel.word v) from here last = of_word (var_in vars v)
  where
    at_place : (place : VarAt) → length (at_pos last (word_write place from)) ≤ 8
    at_place (Near n) = omega arith
    at_place (Far n) = omega arith
    at_place (Through n) = omega arith

    of_word : (found : Option VarPlan) → length (word_store found from last) ≤ 8
    of_word None = omega arith
    of_word (Some found) = at_place found.place
store_few vars (kernel.element v i pos) from here last = of_element (var_in vars v)
  where
    ci : List Line
    ci = expression_code vars i 1 (here + 1) pos

    indexed : (base : Instr) (words : ℕ) → length (indexed_write base words from pos (λ n. expression_code vars i 1 n pos) here) ≤ 8 * (1 + nodes i)
    indexed base words = omega (arith, (code_short vars i).by 1 (here + 1) pos, length-append ci (at_pos pos (element_write base words)))

    at_place : (place : VarAt) (words : ℕ) (fixed : Option ℕ) → length (element_store_at place words fixed from pos (λ n. expression_code vars i 1 n pos) here) ≤ 8 * (1 + nodes i)
    at_place (Near n) words (Some j) = omega arith
    at_place (Near n) words None = indexed (Ldawdp R11 n) words
    at_place (Far n) words (Some j) = omega arith
    at_place (Far n) words None = indexed (Ldwdp R11 n) words
    at_place (Through n) words fixed = omega arith

    of_element : (found : Option VarPlan) → length (element_store found i from pos (λ n. expression_code vars i 1 n pos) here) ≤ 8 * (1 + nodes i)
    of_element None = omega arith
    of_element (Some found) = at_place found.place found.words (fixed_index i found.words)

pub stored_longer : (vars : List (Option VarPlan)) (p : kernel.Place) (from : Reg) (here : ℕ) (last : Pos) (old new : List Line) → new ≡ old ++ store_code vars p from here last → length new ≤ length old + 8 * nodes_at p
stored_longer vars p from here last old new e =
    let l : length new ≡ length (old ++ store_code vars p from here last) = ap length e in
    omega (arith, l, length-append old (store_code vars p from here last), store_few vars p from here last)
