-- Instructions on r0 and r11 alone: what each operator makes of two words.
use Rattle.std.proofs.Common.{◌≡◌, ℕ, ◌+◌, ◌≤◌, Bool, true, false, List, [], ◌∷◌, length, Option, Some, None, refl, subst, arith}
use Rattle.std.specs.Prelude.{not, nat_eq, nat_lt, bit_or}
use Rattle.std.specs.Int.Bits.{or_self}
use Rattle.xw_words.specs.declared.pos.Pos.{Pos}
use Rattle.xw_words.specs.Words.{truth, word_sum, div_s, div_u, rem_s, rem_u, signed_less}
use Rattle.xs_instr.specs.declared.image.Code.{Code}
use Rattle.xs_instr.specs.declared.image.Home.{Home}
use Rattle.xs_instr.specs.declared.instr.Instr.{Instr}
use Rattle.xs_instr.specs.declared.instr.Instr.TheVariants.{Add, Addi, Sub, Mul, And, Or, Xor, Neg, Not, Eq, Lss, Lsu, Shl, Shr, Ashr, Divs, Rems, Divu, Remu, Ecallf, Ldc}
use Rattle.xs_instr.specs.declared.instr.Reg.{Reg}
use Rattle.xs_instr.specs.declared.instr.Reg.TheVariants.{R0, R11}
use Rattle.xs_instr.specs.declared.state.CoreState.{CoreState}
use Rattle.xs_instr.specs.declared.state.Regs.{Regs}
use Rattle.xs_instr.specs.declared.state.Thread.{Thread}
use Rattle.xs_instr.specs.Did.{makes, map_did, Traps}
use Rattle.xs_instr.specs.Registers.{reg_get, reg_set}
use Rattle.xs_instr.specs.Rows.{local_of, local_row, put_local, row, sets_where}
use Rattle.xs_instr.specs.Slot.{is_waiteu}
use Rattle.xs_instr.specs.OwnSteps.{IsApart, StandAt}
use Rattle.xc_kernel.specs.Values.{Value, word, error, ErrorKind, arithmetic, index, of_one, of_two, divided, tested_by}
use Rattle.xc_kernel.specs.Operators as operator
use Rattle.xc_kernel.specs.Operators.{Operator}
use Rattle.xs_instr.specs.Lines.{at_pos}
use Rattle.xl_expr.specs.Code.{negated, made_truth, one_tail, two_tail, direct_tail}
use Rattle.xl_expr.specs.declared.direct_operand.Direct.{Direct}
use Rattle.xl_expr.specs.Works.{is_scratch, trap_of}
use Rattle.xl_expr.proofs.Ways.{own, Agree, IsPlain}
use Rattle.xl_expr.proofs.Runs.{Runs, Keeps, r0_alone, r11_alone, done, looser, one_on, by_quiet}

-- instructions on r0 and r11 from these registers on: the word that they leave in r0, or the error by which one traps
pub data Tail (pos : Pos) : List Instr → Regs → Value → Type 0 where
  ends : (regs : Regs) (v : ℕ) (h : regs.r0 ≡ v) → Tail pos [] regs (word v)
  goes : (i : Instr) (is : List Instr) (regs regs' : Regs) (val : Value) (plain : IsPlain i) (turn : (pc : ℕ) (ws : List ℕ) → local_row (own pc regs ws) i ≡ makes (own (pc + 1) regs' ws)) (others : (r : Reg) → is_scratch r ≡ false → reg_get regs' r ≡ reg_get regs r) (more : Tail pos is regs' val) → Tail pos (i ∷ is) regs val
  traps : (i : Instr) (is : List Instr) (regs : Regs) (kind : ErrorKind) (plain : IsPlain i) (turn : (pc : ℕ) (ws : List ℕ) → local_row (own pc regs ws) i ≡ Traps (trap_of kind)) → Tail pos (i ∷ is) regs (error kind pos)

-- they stand in the code
module _ (code : Code) (relied : ℕ → Bool) (s : ℕ) (pos : Pos) where
  pub tail_runs : (is : List Instr) (regs : Regs) (val : Value) → Tail pos is regs val → (words : List ℕ) (pc k : ℕ) → StandAt code pc (at_pos pos is) → Runs code relied s regs words pc (pc + length is) k (length is) val
  tail_runs all first given (ends regs v h) words pc k st = done code relied s regs words pc (pc + 0) k 0 v (omega arith) h
  tail_runs all first given (goes i is regs regs' val p turn others more) words pc k st =
      let sure = by_quiet code relied s i regs regs' words pc (pc + 1) st.0 p (λ (ws : List ℕ) (g : Agree code relied (IsApart s) words ws). turn pc ws) in
      let keeps : Keeps s k regs words regs' words = record { others = others; size = refl; same = λ w h. refl } in
      looser code relied s regs words pc (pc + 1 + length is) (pc + length (i ∷ is)) k k (1 + length is) (length (i ∷ is)) val (omega arith) (omega arith) (omega arith)
      (one_on code relied s regs words regs' words pc (pc + 1) (pc + 1 + length is) k (length is) val sure keeps (tail_runs is regs' val more words (pc + 1) k st.2))
  tail_runs all first given (traps i is regs kind p turn) words pc k st =
      record { count = 0; few = omega arith; there = own pc regs words; way = refl; fails = record { instr = i; stands = st.0; place = st.1; plain = p; traps = λ ws g. turn pc ws } }

plain : (i : Instr) → ((home : Home) (core : CoreState) (t : ℕ) (thread : Thread) → row home core t thread i ≡ map_did (put_local core t thread) (local_row (local_of core thread) i)) → is_waiteu (Some i) ≡ false → IsPlain i
plain i h e = record { row_is = h; no_event = e }

module _ (pos : Pos) where
  set0 : (i : Instr) (is : List Instr) (regs : Regs) (v : ℕ) (val : Value) → IsPlain i → ((pc : ℕ) (ws : List ℕ) → local_row (own pc regs ws) i ≡ makes (own (pc + 1) (reg_set regs R0 v) ws)) → Tail pos is (reg_set regs R0 v) val → Tail pos (i ∷ is) regs val
  set0 i is regs v val p turn more = goes i is regs (reg_set regs R0 v) val p turn (r0_alone regs v) more

  set11 : (i : Instr) (is : List Instr) (regs : Regs) (v : ℕ) (val : Value) → IsPlain i → ((pc : ℕ) (ws : List ℕ) → local_row (own pc regs ws) i ≡ makes (own (pc + 1) (reg_set regs R11 v) ws)) → Tail pos is (reg_set regs R11 v) val → Tail pos (i ∷ is) regs val
  set11 i is regs v val p turn more = goes i is regs (reg_set regs R11 v) val p turn (r11_alone regs v) more

  -- one instruction gives the word
  last0 : (i : Instr) (regs : Regs) (v : ℕ) → IsPlain i → ((pc : ℕ) (ws : List ℕ) → local_row (own pc regs ws) i ≡ makes (own (pc + 1) (reg_set regs R0 v) ws)) → Tail pos (i ∷ []) regs (word v)
  last0 i regs v p turn = set0 i [] regs v (word v) p turn (ends (reg_set regs R0 v) v refl)

  ldc_plain : (d : Reg) (n : ℕ) → IsPlain (Ldc d n)
  ldc_plain d n = plain (Ldc d n) (λ h c t th. refl) refl

  eq_plain : (d a b : Reg) → IsPlain (Eq d a b)
  eq_plain d a b = plain (Eq d a b) (λ h c t th. refl) refl

  -- 1 where r0 is 0, else 0
  pub negated_tail : (regs : Regs) → Tail pos negated regs (word (truth (nat_eq regs.r0 0)))
  negated_tail regs =
      set11 (Ldc R11 0) (Eq R0 R0 R11 ∷ []) regs 0 _ (ldc_plain R11 0) (λ pc ws. refl)
      (last0 (Eq R0 R0 R11) (reg_set regs R11 0) (truth (nat_eq regs.r0 0)) (eq_plain R0 R0 R11) (λ pc ws. refl))

  pub truth_tail : (regs : Regs) → Tail pos made_truth regs (word (truth (nat_eq (truth (nat_eq regs.r0 0)) 0)))
  truth_tail regs =
      let b = truth (nat_eq regs.r0 0) in
      set11 (Ldc R11 0) (Eq R0 R0 R11 ∷ Eq R0 R0 R11 ∷ []) regs 0 _ (ldc_plain R11 0) (λ pc ws. refl)
      (set0 (Eq R0 R0 R11) (Eq R0 R0 R11 ∷ []) (reg_set regs R11 0) b _ (eq_plain R0 R0 R11) (λ pc ws. refl)
      (last0 (Eq R0 R0 R11) (reg_set (reg_set regs R11 0) R0 b) (truth (nat_eq b 0)) (eq_plain R0 R0 R11) (λ pc ws. refl)))

  -- the truth of a `Bool`, turned
  pub truth_not : (b : Bool) → truth (nat_eq (truth b) 0) ≡ truth (not b)
  truth_not true = refl
  truth_not false = refl

  -- a first instruction gives a truth value, which is turned
  turned : (i : Instr) (regs : Regs) (b : Bool) → IsPlain i → ((pc : ℕ) (ws : List ℕ) → local_row (own pc regs ws) i ≡ makes (own (pc + 1) (reg_set regs R0 (truth b)) ws)) → Tail pos (i ∷ negated) regs (word (truth (not b)))
  turned i regs b p turn = set0 i negated regs (truth b) (word (truth (not b))) p turn (subst (λ n. Tail pos negated (reg_set regs R0 (truth b)) (word n)) (truth_not b) (negated_tail (reg_set regs R0 (truth b))))

  -- a quotient or a remainder, where there is one
  divided_tail : (i : Instr) (regs : Regs) → IsPlain i → (o : Option ℕ) → ((pc : ℕ) (ws : List ℕ) → local_row (own pc regs ws) i ≡ sets_where (own pc regs ws) R0 o) → Tail pos (i ∷ []) regs (divided pos o)
  divided_tail i regs p (Some v) turn = last0 i regs v p turn
  divided_tail i regs p None turn = traps i [] regs arithmetic p turn

  plain_ecallf : (test : Reg) → IsPlain (Ecallf test)
  plain_ecallf test = plain (Ecallf test) (λ h c t th. refl) refl

  -- an index is given where its test holds: it is in r0 and the test in r11
  tested_there : (regs : Regs) (b : Bool) → Tail pos (Ecallf R11 ∷ []) (reg_set regs R11 (truth b)) (tested_by regs.r0 pos b)
  tested_there regs true =
      goes (Ecallf R11) [] (reg_set regs R11 1) (reg_set regs R11 1) _ (plain_ecallf R11) (λ pc ws. refl) (λ r e. refl) (ends (reg_set regs R11 1) regs.r0 refl)
  tested_there regs false = traps (Ecallf R11) [] (reg_set regs R11 0) index (plain_ecallf R11) (λ pc ws. refl)

  index_in_r0 : (u : Bool) (regs : Regs) → Tail pos (two_tail operator.below_length u R0 R11) regs (of_two operator.below_length u pos regs.r0 regs.r11)
  index_in_r0 u regs =
      set11 (Lsu R11 R0 R11) (Ecallf R11 ∷ []) regs (truth (nat_lt regs.r0 regs.r11)) _ (plain (Lsu R11 R0 R11) (λ h c t th. refl) refl) (λ pc ws. refl) (tested_there regs (nat_lt regs.r0 regs.r11))

  -- or the other way round
  tested_tail : (regs : Regs) (b : Bool) → Tail pos (Ecallf R0 ∷ Or R0 R11 R11 ∷ []) (reg_set regs R0 (truth b)) (tested_by (bit_or regs.r11 regs.r11) pos b)
  tested_tail regs true =
      goes (Ecallf R0) (Or R0 R11 R11 ∷ []) (reg_set regs R0 1) (reg_set regs R0 1) _ (plain_ecallf R0) (λ pc ws. refl) (λ r e. refl)
      (last0 (Or R0 R11 R11) (reg_set regs R0 1) (bit_or regs.r11 regs.r11) (plain (Or R0 R11 R11) (λ h c t th. refl) refl) (λ pc ws. refl))
  tested_tail regs false = traps (Ecallf R0) (Or R0 R11 R11 ∷ []) (reg_set regs R0 0) index (plain_ecallf R0) (λ pc ws. refl)

  index_in_r11 : (u : Bool) (regs : Regs) → Tail pos (two_tail operator.below_length u R11 R0) regs (of_two operator.below_length u pos regs.r11 regs.r0)
  index_in_r11 u regs =
      let b = nat_lt regs.r11 regs.r0 in
      set0 (Lsu R0 R11 R0) (Ecallf R0 ∷ Or R0 R11 R11 ∷ []) regs (truth b) _ (plain (Lsu R0 R11 R0) (λ h c t th. refl) refl) (λ pc ws. refl)
      (subst (λ n. Tail pos (Ecallf R0 ∷ Or R0 R11 R11 ∷ []) (reg_set regs R0 (truth b)) (tested_by n pos b)) (or_self regs.r11) (tested_tail regs b))

  -- of the words in two registers, where the test of an index is known to go so
  module _ (a b : Reg) (index_runs : (u : Bool) (regs : Regs) → Tail pos (two_tail operator.below_length u a b) regs (of_two operator.below_length u pos (reg_get regs a) (reg_get regs b))) where
    two_runs : (o : Operator) (u : Bool) (regs : Regs) → Tail pos (two_tail o u a b) regs (of_two o u pos (reg_get regs a) (reg_get regs b))
    two_runs operator.plus u regs = last0 (Add R0 a b) regs _ (plain (Add R0 a b) (λ h c t th. refl) refl) (λ pc ws. refl)
    two_runs operator.minus u regs = last0 (Sub R0 a b) regs _ (plain (Sub R0 a b) (λ h c t th. refl) refl) (λ pc ws. refl)
    two_runs operator.times u regs = last0 (Mul R0 a b) regs _ (plain (Mul R0 a b) (λ h c t th. refl) refl) (λ pc ws. refl)
    two_runs operator.divide true regs = divided_tail (Divu R0 a b) regs (plain (Divu R0 a b) (λ h c t th. refl) refl) (div_u (reg_get regs a) (reg_get regs b)) (λ pc ws. refl)
    two_runs operator.divide false regs = divided_tail (Divs R0 a b) regs (plain (Divs R0 a b) (λ h c t th. refl) refl) (div_s (reg_get regs a) (reg_get regs b)) (λ pc ws. refl)
    two_runs operator.remainder true regs = divided_tail (Remu R0 a b) regs (plain (Remu R0 a b) (λ h c t th. refl) refl) (rem_u (reg_get regs a) (reg_get regs b)) (λ pc ws. refl)
    two_runs operator.remainder false regs = divided_tail (Rems R0 a b) regs (plain (Rems R0 a b) (λ h c t th. refl) refl) (rem_s (reg_get regs a) (reg_get regs b)) (λ pc ws. refl)
    two_runs operator.bit_and u regs = last0 (And R0 a b) regs _ (plain (And R0 a b) (λ h c t th. refl) refl) (λ pc ws. refl)
    two_runs operator.bit_or u regs = last0 (Or R0 a b) regs _ (plain (Or R0 a b) (λ h c t th. refl) refl) (λ pc ws. refl)
    two_runs operator.bit_xor u regs = last0 (Xor R0 a b) regs _ (plain (Xor R0 a b) (λ h c t th. refl) refl) (λ pc ws. refl)
    two_runs operator.shift_up u regs = last0 (Shl R0 a b) regs _ (plain (Shl R0 a b) (λ h c t th. refl) refl) (λ pc ws. refl)
    two_runs operator.shift_down true regs = last0 (Shr R0 a b) regs _ (plain (Shr R0 a b) (λ h c t th. refl) refl) (λ pc ws. refl)
    two_runs operator.shift_down false regs = last0 (Ashr R0 a b) regs _ (plain (Ashr R0 a b) (λ h c t th. refl) refl) (λ pc ws. refl)
    two_runs operator.equal u regs = last0 (Eq R0 a b) regs _ (eq_plain R0 a b) (λ pc ws. refl)
    two_runs operator.differs u regs = turned (Eq R0 a b) regs (nat_eq (reg_get regs a) (reg_get regs b)) (eq_plain R0 a b) (λ pc ws. refl)
    two_runs operator.less true regs = last0 (Lsu R0 a b) regs _ (plain (Lsu R0 a b) (λ h c t th. refl) refl) (λ pc ws. refl)
    two_runs operator.less false regs = last0 (Lss R0 a b) regs _ (plain (Lss R0 a b) (λ h c t th. refl) refl) (λ pc ws. refl)
    two_runs operator.greater true regs = last0 (Lsu R0 b a) regs _ (plain (Lsu R0 b a) (λ h c t th. refl) refl) (λ pc ws. refl)
    two_runs operator.greater false regs = last0 (Lss R0 b a) regs _ (plain (Lss R0 b a) (λ h c t th. refl) refl) (λ pc ws. refl)
    two_runs operator.at_most true regs = turned (Lsu R0 b a) regs (nat_lt (reg_get regs b) (reg_get regs a)) (plain (Lsu R0 b a) (λ h c t th. refl) refl) (λ pc ws. refl)
    two_runs operator.at_most false regs = turned (Lss R0 b a) regs (signed_less (reg_get regs b) (reg_get regs a)) (plain (Lss R0 b a) (λ h c t th. refl) refl) (λ pc ws. refl)
    two_runs operator.at_least true regs = turned (Lsu R0 a b) regs (nat_lt (reg_get regs a) (reg_get regs b)) (plain (Lsu R0 a b) (λ h c t th. refl) refl) (λ pc ws. refl)
    two_runs operator.at_least false regs = turned (Lss R0 a b) regs (signed_less (reg_get regs a) (reg_get regs b)) (plain (Lss R0 a b) (λ h c t th. refl) refl) (λ pc ws. refl)
    two_runs operator.below_length u regs = index_runs u regs
    two_runs other u regs = last0 (Ldc R0 0) regs 0 (ldc_plain R0 0) (λ pc ws. refl)

  -- the first word in r11 and the second one in r0, and the other way round
  pub kept_runs : (o : Operator) (u : Bool) (regs : Regs) → Tail pos (two_tail o u R11 R0) regs (of_two o u pos regs.r11 regs.r0)
  kept_runs = two_runs R11 R0 index_in_r11

  pub straight_runs : (o : Operator) (u : Bool) (regs : Regs) → Tail pos (two_tail o u R0 R11) regs (of_two o u pos regs.r0 regs.r11)
  straight_runs = two_runs R0 R11 index_in_r0

  -- a number is added to the word in r0
  pub added_runs : (n : ℕ) (regs : Regs) → Tail pos (Addi R0 R0 n ∷ []) regs (word (word_sum regs.r0 n))
  added_runs n regs = last0 (Addi R0 R0 n) regs (word_sum regs.r0 n) (plain (Addi R0 R0 n) (λ h c t th. refl) refl) (λ pc ws. refl)

  -- of the word in r0
  pub one_runs : (o : Operator) (regs : Regs) → Tail pos (one_tail o) regs (of_one o regs.r0)
  one_runs operator.minus regs = last0 (Neg R0 R0) regs _ (plain (Neg R0 R0) (λ h c t th. refl) refl) (λ pc ws. refl)
  one_runs operator.flip regs = last0 (Not R0 R0) regs _ (plain (Not R0 R0) (λ h c t th. refl) refl) (λ pc ws. refl)
  one_runs operator.not_true regs = negated_tail regs
  one_runs other regs = ends regs regs.r0 refl

  -- how many there are
  pub two_few : (o : Operator) (u : Bool) (a b : Reg) → length (two_tail o u a b) ≤ 3
  two_few operator.differs u a b = omega arith
  two_few operator.at_most u a b = omega arith
  two_few operator.at_least u a b = omega arith
  two_few operator.below_length u R0 b = omega arith
  two_few operator.below_length u other b = omega arith
  two_few other u a b = omega arith

  pub direct_few : (o : Operator) (u : Bool) (d : Direct) (sum : Option ℕ) (a b : Reg) → length (direct_tail o u d sum a b) ≤ 4
  direct_few o u d (Some n) a b = omega arith
  direct_few o u d None a b = let f = two_few o u a b in omega arith

  pub one_few : (o : Operator) → length (one_tail o) ≤ 2
  one_few operator.minus = omega arith
  one_few operator.flip = omega arith
  one_few operator.not_true = omega arith
  one_few other = omega arith
