-- The code of an expression, whose word comes to r0. The words from sp + 4k on serve as temporary ones, the code stands from
-- index `here` on, and an instruction without a place of its own has the place `last`.
use Rattle.std.specs.Prelude.{ℕ, ◌+◌, ◌%◌, ◌^◌, nat_lt, Bool, true, false, List, [], ◌∷◌, ◌++◌, length, Option, Some, None}
use Rattle.xw_words.specs.declared.pos.Pos.{Pos}
use Rattle.xw_words.specs.Words.{word_negative}
use Rattle.xs_instr.specs.declared.instr.Instr.{Instr}
use Rattle.xs_instr.specs.declared.instr.Instr.TheVariants.{Add, Addi, Sub, Mul, And, Or, Xor, Neg, Not, Eq, Lss, Lsu, Shl, Shr, Ashr, Divs, Rems, Divu, Remu, Ecallf, Ldc, Ldwdp, Ldawdp, Ldwsp, Stwsp, Ldw, Brft, Brff, Brfu}
use Rattle.xs_instr.specs.declared.instr.Reg.{Reg}
use Rattle.xs_instr.specs.declared.instr.Reg.TheVariants.{R0, R11}
use Rattle.xc_kernel.specs.Plain as kernel
use Rattle.xc_kernel.specs.Operators as operator
use Rattle.xc_kernel.specs.Operators.{Operator, operator_at}
use Rattle.xs_instr.specs.Lines.{Line, line, at_pos, last_or}
use Rattle.xl_expr.specs.declared.direct_operand.Direct.{Direct}
use Rattle.xl_expr.specs.declared.direct_operand.Direct.TheVariants.{Number, Word}
use Rattle.xl_expr.specs.declared.plan.VarAt.{VarAt}
use Rattle.xl_expr.specs.declared.plan.VarAt.TheVariants.{Near, Far, Through}
use Rattle.xl_expr.specs.declared.plan.VarPlan.{VarPlan}
use Rattle.xl_expr.specs.Plans.{var_in}

-- code by depth, index and the last place
abbrev pub Piece : Type 0
Piece = ℕ → ℕ → Pos → List Line

-- 1 where r0 is 0, and 0 where it is not
abbrev pub negated : List Instr
negated = Ldc R11 0 ∷ Eq R0 R0 R11 ∷ []

-- 0 where r0 is 0, else 1
abbrev pub made_truth : List Instr
made_truth = Ldc R11 0 ∷ Eq R0 R0 R11 ∷ Eq R0 R0 R11 ∷ []

-- of r0
abbrev pub one_tail : Operator → List Instr
one_tail operator.minus = Neg R0 R0 ∷ []
one_tail operator.flip = Not R0 R0 ∷ []
one_tail operator.not_true = negated
one_tail other = []

abbrev pub quotient_instr : Bool → Reg → Reg → Instr
quotient_instr true a b = Divu R0 a b
quotient_instr false a b = Divs R0 a b

abbrev pub remainder_instr : Bool → Reg → Reg → Instr
remainder_instr true a b = Remu R0 a b
remainder_instr false a b = Rems R0 a b

abbrev pub shift_instr : Bool → Reg → Reg → Instr
shift_instr true a b = Shr R0 a b
shift_instr false a b = Ashr R0 a b

abbrev pub less_instr : Bool → Reg → Reg → Instr
less_instr true a b = Lsu R0 a b
less_instr false a b = Lss R0 a b

-- of the words in two registers; for the test of an index the second one gets its truth
abbrev pub main_instr : Operator → Bool → Reg → Reg → Instr
main_instr operator.plus u a b = Add R0 a b
main_instr operator.minus u a b = Sub R0 a b
main_instr operator.times u a b = Mul R0 a b
main_instr operator.divide u a b = quotient_instr u a b
main_instr operator.remainder u a b = remainder_instr u a b
main_instr operator.bit_and u a b = And R0 a b
main_instr operator.bit_or u a b = Or R0 a b
main_instr operator.bit_xor u a b = Xor R0 a b
main_instr operator.shift_up u a b = Shl R0 a b
main_instr operator.shift_down u a b = shift_instr u a b
main_instr operator.equal u a b = Eq R0 a b
main_instr operator.differs u a b = Eq R0 a b
main_instr operator.less u a b = less_instr u a b
main_instr operator.greater u a b = less_instr u b a
main_instr operator.at_most u a b = less_instr u b a
main_instr operator.at_least u a b = less_instr u a b
main_instr operator.below_length u a b = Lsu b a b
main_instr other u a b = Ldc R0 0

-- an index goes to r0, if its test holds
abbrev pub index_if : Reg → Reg → List Instr
index_if R0 test = Ecallf test ∷ []
index_if index test = Ecallf test ∷ Or R0 index index ∷ []

-- what follows it
abbrev pub after_main : Operator → Reg → Reg → List Instr
after_main operator.differs a b = negated
after_main operator.at_most a b = negated
after_main operator.at_least a b = negated
after_main operator.below_length a b = index_if a b
after_main other a b = []

-- the words in two registers make that in r0
abbrev pub two_tail : Operator → Bool → Reg → Reg → List Instr
two_tail o u a b = main_instr o u a b ∷ after_main o a b

-- the instruction that brings a direct operand to a register
abbrev pub brought : Direct → Reg → Instr
brought (Number v) to = Ldc to v
brought (Word n) to = Ldwdp to n

-- what is added, where a number at the right of the operator is added or taken away
abbrev pub added : Operator → Direct → Option ℕ
added operator.plus (Number v) = Some v
added operator.minus (Number v) = Some (word_negative v)
added o d = None

-- and where one at its left is
abbrev pub added_to : Operator → Direct → Option ℕ
added_to operator.plus (Number v) = Some v
added_to o d = None

-- A direct operand and the word in r0, in their order, make the word in r0. The direct operand goes straight into the second register,
-- whether it is the second or the first. A number and a word next to dp can't err, so the other operand may be found before it. A
-- number that is added or taken away is put into an ADD with a number.
abbrev pub direct_tail : Operator → Bool → Direct → Option ℕ → Reg → Reg → List Instr
direct_tail o u d (Some n) a b = Addi R0 R0 n ∷ []
direct_tail o u d None a b = brought d R11 ∷ two_tail o u a b

-- an operand: its piece, and how one instruction brings its word, where one does
pub record Operand : Type 0 where
  pub piece : Piece
  pub direct : Option Direct

-- one piece, an instruction, and another piece, whose end the instruction may aim at
abbrev pub chained : Piece → (ℕ → ℕ → Instr) → Pos → Piece → Piece
chained a middle pos b k here last =
    let ca = a k here last in
    let cb = b (k + 1) (here + length ca + 1) pos in
    ca ++ (line (middle k (here + length ca + 1 + length cb)) pos ∷ cb)

-- the first operand's word is kept while the second one's is found
abbrev pub kept_code : Operator → Bool → Pos → (a b : Piece) → Piece
kept_code o u pos a b k here last = chained a (λ k target. Stwsp R0 k) pos b k here last ++ at_pos pos (Ldwsp R11 k ∷ two_tail o u R11 R0)

-- the second operand is passed over where the first one decides
abbrev pub short_code : (ℕ → Instr) → Pos → (a b : Piece) → Piece
short_code jump pos a b k here last = chained a (λ k. jump) pos b k here last ++ at_pos pos made_truth

-- both operands' words, of which one may be direct
abbrev pub joined_code : Operator → Bool → Pos → (a b : Piece) → (a b : Option Direct) → Piece
joined_code o u pos a b first (Some d) k here last = a k here last ++ at_pos pos (direct_tail o u d (added o d) R0 R11)
joined_code o u pos a b (Some d) None k here last = b k here last ++ at_pos pos (direct_tail o u d (added_to o d) R11 R0)
joined_code o u pos a b None None k here last = kept_code o u pos a b k here last

abbrev pub two_code : Operator → Bool → Pos → (a b : Operand) → Piece
two_code operator.both u pos a b k here last = short_code (Brff R0) pos a.piece b.piece k here last
two_code operator.either u pos a b k here last = short_code (Brft R0) pos a.piece b.piece k here last
two_code other u pos a b k here last = joined_code other u pos a.piece b.piece a.direct b.direct k here last

-- by the operands
abbrev pub operation_code : Operator → Bool → Pos → List Operand → Piece
operation_code o u pos [] k here last = line (Ldc R0 0) pos ∷ []
operation_code o u pos (a ∷ []) k here last = a.piece k here last ++ at_pos pos (one_tail o)
operation_code o u pos (a ∷ b ∷ []) k here last = two_code o u pos a b k here last
operation_code o u pos (a ∷ b ∷ c ∷ rest) k here last =
    let ca = a.piece k here last in
    let cb = b.piece (k + 1) (here + length ca + 1) pos in
    let cc = c.piece (k + 1) (here + length ca + 1 + length cb + 1) pos in
    ca ++ (line (Brff R0 (here + length ca + 1 + length cb + 1)) pos ∷ (cb ++ (line (Brfu (here + length ca + 1 + length cb + 1 + length cc)) pos ∷ cc)))

-- the word at 4i behind the address that the word at dp + 4n holds comes to r0
abbrev pub held_word : (n i : ℕ) → List Instr
held_word n i = Ldwdp R11 n ∷ Ldc R0 i ∷ Ldw R0 R11 R0 ∷ []

-- the word of a variable comes to r0
abbrev pub word_at_place : VarAt → List Instr
word_at_place (Near n) = Ldwdp R0 n ∷ []
word_at_place (Far n) = held_word n 0
word_at_place (Through n) = held_word n 0

abbrev pub word_code : Option VarPlan → Pos → List Line
word_code None last = []
word_code (Some found) last = at_pos last (word_at_place found.place)

-- `fixed_index`, by cases
abbrev pub where_below : ℕ → Bool → Option ℕ
where_below i true = Some i
where_below i false = None

-- An index that needs no test: a number below the length. It needs none when an element is read and when it is written, and next to dp
-- its element is a word like any other. A number that isn't below is tested as each index is, so its error comes where `eval` has it.
abbrev pub fixed_index : kernel.Expression → (length : ℕ) → Option ℕ
fixed_index (kernel.number i) words = where_below i (nat_lt i words)
fixed_index other words = None

-- an index in r0 is tested
abbrev pub tested_index : ℕ → List Instr
tested_index words = Ldc R11 words ∷ Lsu R11 R0 R11 ∷ Ecallf R11 ∷ []

-- and then the element goes to r0, by the instruction that brings the address of the array's first word to r11
abbrev pub element_read : Instr → ℕ → List Instr
element_read base words = tested_index words ++ base ∷ Ldw R0 R11 R0 ∷ []

-- an element comes to r0, at an index that needs no test or by its index's piece
abbrev pub element_at_place : VarAt → (words : ℕ) → (fixed : Option ℕ) → Pos → Piece → Piece
element_at_place (Near n) words (Some i) pos index k here last = line (Ldwdp R0 ((n + i) % 2 ^ 32)) pos ∷ []
element_at_place (Near n) words None pos index k here last = index k here last ++ at_pos pos (element_read (Ldawdp R11 n) words)
element_at_place (Far n) words (Some i) pos index k here last = at_pos pos (held_word n i)
element_at_place (Far n) words None pos index k here last = index k here last ++ at_pos pos (element_read (Ldwdp R11 n) words)
element_at_place (Through n) words fixed pos index k here last = at_pos pos (held_word n 0)

abbrev pub element_code : Option VarPlan → kernel.Expression → Pos → Piece → Piece
element_code None i pos index k here last = []
element_code (Some found) i pos index k here last = element_at_place found.place found.words (fixed_index i found.words) pos index k here last

-- how one instruction brings an expression's word to a register, where one does
abbrev pub near_word : VarAt → Option Direct
near_word (Near n) = Some (Word n)
near_word other = None

abbrev pub direct_word : Option VarPlan → Option Direct
direct_word None = None
direct_word (Some found) = near_word found.place

abbrev pub near_element : VarAt → (fixed : Option ℕ) → Option Direct
near_element (Near n) (Some i) = Some (Word ((n + i) % 2 ^ 32))
near_element (Near n) None = None
near_element (Far n) fixed = None
near_element (Through n) fixed = None

abbrev pub direct_element : Option VarPlan → (index : kernel.Expression) → Option Direct
direct_element None i = None
direct_element (Some found) i = near_element found.place (fixed_index i found.words)

abbrev pub direct_place : List (Option VarPlan) → kernel.Place → Option Direct
direct_place vars (kernel.word v) = direct_word (var_in vars v)
direct_place vars (kernel.element v i pos) = direct_element (var_in vars v) i

abbrev pub direct_of : List (Option VarPlan) → kernel.Expression → Option Direct
direct_of vars (kernel.number v) = Some (Number v)
direct_of vars (kernel.read p) = direct_place vars p
direct_of vars (kernel.operation o u es pos) = None

abbrev mutual
  pub expression_code : List (Option VarPlan) → kernel.Expression → ℕ → ℕ → Pos → List Line
  expression_code vars (kernel.number v) k here last = line (Ldc R0 v) last ∷ []
  expression_code vars (kernel.read p) k here last = place_code vars p k here last
  expression_code vars (kernel.operation o u es pos) k here last = operation_code (operator_at o) u pos (codes vars es) k here last

  pub codes : List (Option VarPlan) → kernel.Operands → List Operand
  codes vars kernel.no_operand = []
  codes vars (kernel.more_operands e es) = record { piece = expression_code vars e; direct = direct_of vars e } ∷ codes vars es

  pub place_code : List (Option VarPlan) → kernel.Place → ℕ → ℕ → Pos → List Line
  place_code vars (kernel.word v) k here last = word_code (var_in vars v) last
  place_code vars (kernel.element v i pos) k here last = element_code (var_in vars v) i pos (expression_code vars i) k here last

abbrev pub operand_of : List (Option VarPlan) → kernel.Expression → Operand
operand_of vars e = record { piece = expression_code vars e; direct = direct_of vars e }

-- r0 goes to a register
abbrev pub moved_to : Reg → List Instr
moved_to R0 = []
moved_to to = Or to R0 R0 ∷ []

-- behind lines, at the place of the last of them
abbrev pub with_move : Reg → Pos → List Line → List Line
with_move to last lines = lines ++ at_pos (last_or last lines) (moved_to to)

-- `code_to`, by cases
abbrev pub code_by : Option Direct → List (Option VarPlan) → kernel.Expression → Reg → ℕ → Pos → List Line
code_by (Some d) vars x to here last = line (brought d to) last ∷ []
code_by None vars x to here last = with_move to last (expression_code vars x 0 here last)

-- an expression's word comes to a register
abbrev pub code_to : List (Option VarPlan) → kernel.Expression → Reg → ℕ → Pos → List Line
code_to vars x to here last = code_by (direct_of vars x) vars x to here last
