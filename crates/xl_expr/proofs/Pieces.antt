-- What pieces of code mean: a word in r0, or an error; and how operators join them.
use Rattle.std.proofs.Common.{Option, None, ◌≡◌, ℕ, suc, ◌+◌, ◌*◌, ◌<◌, ◌≤◌, inl, inr, max, Bool, true, false, List, [], ◌∷◌, ◌++◌, length, Some, refl, sym, ap, ◌∙◌, subst, arith, get_or, length-append}
use Rattle.std.specs.Prelude.{slice_get, slice_set, nat_eq}
use Rattle.std.proofs.lemmas.List.{length-set}
use Rattle.std.proofs.lemmas.Option.{slice_get-get_or}
use Rattle.xw_words.specs.declared.pos.Pos.{Pos}
use Rattle.xw_words.specs.Words.{truth, word_sum, word_difference, word_negative}
use Rattle.xs_instr.specs.declared.image.Code.{Code}
use Rattle.xs_instr.specs.declared.instr.Instr.{Instr}
use Rattle.xs_instr.specs.declared.instr.Instr.TheVariants.{Addi, Ldc, Ldwdp, Ldwsp, Stwsp}
use Rattle.xs_instr.specs.declared.instr.Reg.{Reg}
use Rattle.xs_instr.specs.declared.instr.Reg.TheVariants.{R0, R11}
use Rattle.xs_instr.specs.declared.state.Regs.{Regs}
use Rattle.xs_instr.specs.Registers.{reg_set}
use Rattle.xs_instr.specs.Rows.{local_row, jumps_by, loads}
use Rattle.xs_instr.specs.Did.{makes}
use Rattle.xs_instr.specs.Memory.{address_at, word_at}
use Rattle.xc_kernel.specs.Values.{Value, word, error, of_two, of_both, truth_of}
use Rattle.xc_kernel.specs.Operators as operator
use Rattle.xc_kernel.specs.Operators.{Operator}
use Rattle.xs_instr.specs.Lines.{Line, line, at_pos}
use Rattle.xs_instr.specs.OwnSteps.{IsApart, IsWord, StandAt, temporary}
use Rattle.xl_expr.specs.Code.{two_tail, made_truth, brought, added, added_to, direct_tail, kept_code, short_code}
use Rattle.xl_expr.specs.declared.direct_operand.Direct.{Direct}
use Rattle.xl_expr.specs.declared.direct_operand.Direct.TheVariants.{Number, Word}
use Rattle.xl_expr.proofs.Lists.{get_set_same, get_set_other, stand_front, stand_back}
use Rattle.xl_expr.proofs.Ways.{own, IsPlain, Sure}
use Rattle.xl_expr.specs.Above.{IsSaved}
use Rattle.xl_expr.proofs.Runs.{Runs, Keeps, Ready, ready_kept, keeps_all, keeps_r11, stopped, looser, one_on, run_on, by_quiet, by_save, by_restore, word_there}
use Rattle.xl_expr.proofs.Tails.{tail_runs, kept_runs, straight_runs, added_runs, truth_tail, truth_not, two_few, direct_few}

-- an error, or what is made of the word
abbrev pub bound : Value → (ℕ → Value) → Value
bound (word a) f = f a
bound (error kind pos) f = error kind pos

-- the truth of a word, as `made_truth` makes it
abbrev pub truth_made : ℕ → Value
truth_made a = word (truth (nat_eq (truth (nat_eq a 0)) 0))

pub length-at_pos : (pos : Pos) (is : List Instr) → length (at_pos pos is) ≡ length is
length-at_pos pos [] = refl
length-at_pos pos (i ∷ is) = ap suc (length-at_pos pos is)

module _ (code : Code) (relied : ℕ → Bool) (s : ℕ) (small : s + temporary ≤ 16384) (mine : (k : ℕ) → k < temporary → relied (s + k) ≡ true) (dp : ℕ) (first : List ℕ) where
  abbrev Run : Regs → List ℕ → ℕ → ℕ → ℕ → ℕ → Value → Type 0
  Run = Runs code relied s

  abbrev Is_ready : Regs → List ℕ → Type 0
  Is_ready = Ready code relied s dp first

  -- from depth k on, wherever it stands, the piece gives the value, with d temporary words and within 7 steps for each of n nodes
  pub record Means (piece : ℕ → ℕ → Pos → List Line) (value : Value) (d n : ℕ) : Type 0 where
    pub by : (k pc : ℕ) (last : Pos) (regs : Regs) (words : List ℕ) → StandAt code pc (piece k pc last) → k + d ≤ temporary → Is_ready regs words → Run regs words pc (pc + length (piece k pc last)) k (7 * n) value

  -- after a run with a value comes what its word asks for
  pub value_on : (regs : Regs) (words : List ℕ) (pc pc1 pc2 k m n : ℕ) (v : Value) (f : ℕ → Value) → Run regs words pc pc1 k m v → ((a : ℕ) (regs1 : Regs) (words1 : List ℕ) → Keeps s k regs words regs1 words1 → regs1.r0 ≡ a → Run regs1 words1 pc1 pc2 k n (f a)) → Run regs words pc pc2 k (m + n) (bound v f)
  value_on regs words pc pc1 pc2 k m n (word a) f r next = run_on code relied s regs words pc pc1 pc2 k m n a (f a) r (λ regs1 words1 h e. next a regs1 words1 h e)
  value_on regs words pc pc1 pc2 k m n (error kind pos) f r next = stopped code relied s regs words pc pc1 pc2 k k m (m + n) kind pos (omega arith) r

  -- what stands behind a piece
  abbrev behind_at : ℕ → List Line → ℕ
  behind_at pc ls = pc + length ls

  -- a piece, and instructions that make something of its word
  pub tail_means : (pos : Pos) (is : List Instr) (few : length is ≤ 7) (piece : ℕ → ℕ → Pos → List Line) (v : Value) (d n : ℕ) (f : ℕ → Value) → Means piece v d n → ((a pc k : ℕ) (regs : Regs) (words : List ℕ) → StandAt code pc (at_pos pos is) → Is_ready regs words → regs.r0 ≡ a → Run regs words pc (pc + length is) k (length is) (f a)) → Means (λ k here last. piece k here last ++ at_pos pos is) (bound v f) d (1 + n)
  tail_means pos is few piece v d n f m then = record { by = by }
    where
      by : (k pc : ℕ) (last : Pos) (regs : Regs) (words : List ℕ) → StandAt code pc (piece k pc last ++ at_pos pos is) → k + d ≤ temporary → Is_ready regs words → Run regs words pc (pc + length (piece k pc last ++ at_pos pos is)) k (7 * (1 + n)) (bound v f)
      by k pc last regs words st fits ready =
          let ls = piece k pc last in
          let end_is : pc + length ls + length is ≡ pc + length (ls ++ at_pos pos is) = omega (arith, length-append ls (at_pos pos is), length-at_pos pos is) in
          looser code relied s regs words pc (pc + length ls + length is) (pc + length (ls ++ at_pos pos is)) k k (7 * n + length is) (7 * (1 + n)) (bound v f) end_is (omega arith) (omega arith)
          (value_on regs words pc (pc + length ls) (pc + length ls + length is) k (7 * n) (length is) v f (m.by k pc last regs words (stand_front code pc ls _ st) fits ready)
          (λ a regs1 words1 h e. then a (pc + length ls) k regs1 words1 (stand_back code pc ls (at_pos pos is) st) (ready_kept code relied s dp first k regs words regs1 words1 ready h) e))

  -- the word of a direct operand
  abbrev pub IsDirect : Direct → ℕ → Type 0
  IsDirect (Number v) b = b ≡ v
  IsDirect (Word n) b = IsWord relied s first (address_at dp n) b

  -- one instruction brings it
  pub brings : (d : Direct) (b : ℕ) (to : Reg) (regs : Regs) (words : List ℕ) (pc : ℕ) → IsDirect d b → slice_get code.instrs pc ≡ Some (brought d to) → Is_ready regs words → Sure code relied (IsApart s) (own pc regs words) (own (pc + 1) (reg_set regs to b) words)
  brings (Number v) b to regs words pc h stands ready =
      by_quiet code relied s (Ldc to v) regs (reg_set regs to b) words pc (pc + 1) stands (record { row_is = λ h c t th. refl; no_event = refl }) (λ ws g. ap (λ x. makes (own (pc + 1) (reg_set regs to x) ws)) (sym h))
  brings (Word n) b to regs words pc h stands ready =
      by_quiet code relied s (Ldwdp to n) regs (reg_set regs to b) words pc (pc + 1) stands (record { row_is = λ h c t th. refl; no_event = refl }) (λ ws g.
      ap (λ p. loads (own pc regs ws) to (word_at ws (address_at p n))) ready.dp_is ∙ ap (loads (own pc regs ws) to) (word_there code relied s dp first regs words (address_at dp n) b ready h ws g))

  -- what is added at the right is that which the operator makes
  added_is : (o : Operator) (u : Bool) (pos : Pos) (d : Direct) (a b n : ℕ) → IsDirect d b → added o d ≡ Some n → word (word_sum a n) ≡ of_two o u pos a b
  added_is operator.plus u pos (Number v) a b n h e = let v_is : v ≡ n = cc in ap (λ x. word (word_sum a x)) (sym v_is ∙ sym h)
  added_is operator.minus u pos (Number v) a b n h e =
      let n_is : word_negative v ≡ n = cc in
      let sum : word_sum a (word_negative v) ≡ word_difference a v = omega arith in
      ap (λ x. word (word_sum a x)) (sym n_is) ∙ ap word sum ∙ ap (λ x. word (word_difference a x)) (sym h)
  added_is o u pos d a b n h e = absurd (cc)

  added_to_is : (o : Operator) (u : Bool) (pos : Pos) (d : Direct) (a b n : ℕ) → IsDirect d a → added_to o d ≡ Some n → word (word_sum b n) ≡ of_two o u pos a b
  added_to_is operator.plus u pos (Number v) a b n h e =
      let a_is : a ≡ n = cc in
      let sum : word_sum b n ≡ word_sum n b = omega arith in
      ap word sum ∙ ap (λ x. word (word_sum x b)) (sym a_is)
  added_to_is o u pos d a b n h e = absurd (cc)

  -- the second operand is direct
  module _ (o : Operator) (u : Bool) (pos : Pos) (pa : ℕ → ℕ → Pos → List Line) (va : Value) (da na : ℕ) (ma : Means pa va da na) (d : Direct) (b : ℕ) (h : IsDirect d b) where
    straight_by : (sum : Option ℕ) → added o d ≡ sum → (a pc k : ℕ) (regs : Regs) (words : List ℕ) → StandAt code pc (at_pos pos (direct_tail o u d sum R0 R11)) → Is_ready regs words → regs.r0 ≡ a → Run regs words pc (pc + length (direct_tail o u d sum R0 R11)) k (length (direct_tail o u d sum R0 R11)) (of_two o u pos a b)
    straight_by (Some n) e a pc k regs words st ready a_is =
        subst (Run regs words pc (pc + 1) k 1) (added_is o u pos d a b n h e)
        (subst (λ x. Run regs words pc (pc + 1) k 1 (word (word_sum x n))) a_is (tail_runs code relied s pos (Addi R0 R0 n ∷ []) regs (word (word_sum regs.r0 n)) (added_runs pos n regs) words pc k st))
    straight_by None e a pc k regs words st ready a_is =
        let tail = two_tail o u R0 R11 in
        let regs1 = reg_set regs R11 b in
        let end_is : pc + 1 + length tail ≡ pc + length (brought d R11 ∷ tail) = omega arith in
        let few : 1 + length tail ≤ length (brought d R11 ∷ tail) = omega arith in
        subst (λ x. Run regs words pc (pc + length (brought d R11 ∷ tail)) k (length (brought d R11 ∷ tail)) (of_two o u pos x b)) a_is
        (looser code relied s regs words pc (pc + 1 + length tail) (pc + length (brought d R11 ∷ tail)) k k (1 + length tail) (length (brought d R11 ∷ tail)) (of_two o u pos regs.r0 b) end_is (omega arith) few
        (one_on code relied s regs words regs1 words pc (pc + 1) (pc + 1 + length tail) k (length tail) (of_two o u pos regs.r0 b) (brings d b R11 regs words pc h st.0 ready) (keeps_r11 s k regs words b)
        (tail_runs code relied s pos tail regs1 (of_two o u pos regs.r0 b) (straight_runs pos o u regs1) words (pc + 1) k st.2)))

    pub straight_means : Means (λ k here last. pa k here last ++ at_pos pos (direct_tail o u d (added o d) R0 R11)) (bound va (λ a. of_two o u pos a b)) da (1 + na)
    straight_means = tail_means pos (direct_tail o u d (added o d) R0 R11) (let f = direct_few pos o u d (added o d) R0 R11 in omega arith) pa va da na (λ a. of_two o u pos a b) ma (straight_by (added o d) refl)

  -- the first operand is direct, and the second one's piece is run before it
  module _ (o : Operator) (u : Bool) (pos : Pos) (pb : ℕ → ℕ → Pos → List Line) (vb : Value) (db nb : ℕ) (mb : Means pb vb db nb) (d : Direct) (a : ℕ) (h : IsDirect d a) where
    turned_by : (sum : Option ℕ) → added_to o d ≡ sum → (b pc k : ℕ) (regs : Regs) (words : List ℕ) → StandAt code pc (at_pos pos (direct_tail o u d sum R11 R0)) → Is_ready regs words → regs.r0 ≡ b → Run regs words pc (pc + length (direct_tail o u d sum R11 R0)) k (length (direct_tail o u d sum R11 R0)) (of_two o u pos a b)
    turned_by (Some n) e b pc k regs words st ready b_is =
        subst (Run regs words pc (pc + 1) k 1) (added_to_is o u pos d a b n h e)
        (subst (λ x. Run regs words pc (pc + 1) k 1 (word (word_sum x n))) b_is (tail_runs code relied s pos (Addi R0 R0 n ∷ []) regs (word (word_sum regs.r0 n)) (added_runs pos n regs) words pc k st))
    turned_by None e b pc k regs words st ready b_is =
        let tail = two_tail o u R11 R0 in
        let regs1 = reg_set regs R11 a in
        let end_is : pc + 1 + length tail ≡ pc + length (brought d R11 ∷ tail) = omega arith in
        let few : 1 + length tail ≤ length (brought d R11 ∷ tail) = omega arith in
        subst (λ x. Run regs words pc (pc + length (brought d R11 ∷ tail)) k (length (brought d R11 ∷ tail)) (of_two o u pos a x)) b_is
        (looser code relied s regs words pc (pc + 1 + length tail) (pc + length (brought d R11 ∷ tail)) k k (1 + length tail) (length (brought d R11 ∷ tail)) (of_two o u pos a regs.r0) end_is (omega arith) few
        (one_on code relied s regs words regs1 words pc (pc + 1) (pc + 1 + length tail) k (length tail) (of_two o u pos a regs.r0) (brings d a R11 regs words pc h st.0 ready) (keeps_r11 s k regs words a)
        (tail_runs code relied s pos tail regs1 (of_two o u pos a regs.r0) (kept_runs pos o u regs1) words (pc + 1) k st.2)))

    pub turned_means : Means (λ k here last. pb k here last ++ at_pos pos (direct_tail o u d (added_to o d) R11 R0)) (bound vb (λ b. of_two o u pos a b)) db (1 + nb)
    turned_means = tail_means pos (direct_tail o u d (added_to o d) R11 R0) (let f = direct_few pos o u d (added_to o d) R11 R0 in omega arith) pb vb db nb (λ b. of_two o u pos a b) mb (turned_by (added_to o d) refl)

  -- the first operand's word is kept while the second one is found
  module _ (o : Operator) (u : Bool) (pos : Pos) (pa pb : ℕ → ℕ → Pos → List Line) (va vb : Value) (da db na nb : ℕ) (ma : Means pa va da na) (mb : Means pb vb db nb) where
    abbrev two_code : ℕ → ℕ → Pos → List Line
    two_code = kept_code o u pos pa pb

    two_by : (k pc : ℕ) (last : Pos) (regs : Regs) (words : List ℕ) → StandAt code pc (two_code k pc last) → k + (1 + max da db) ≤ temporary → Is_ready regs words → Run regs words pc (pc + length (two_code k pc last)) k (7 * (1 + na + nb)) (bound va (λ a. of_both o u pos a vb))
    two_by k pc last regs words st fits ready =
        looser code relied s regs words pc end (pc + length (two_code k pc last)) k k (7 * na + (1 + (7 * nb + (1 + length tail)))) (7 * (1 + na + nb)) (bound va (λ a. of_both o u pos a vb)) end_is (omega arith) (let f = two_few pos o u R11 R0 in omega arith)
        (value_on regs words pc (pc + length ca) end k (7 * na) (1 + (7 * nb + (1 + length tail))) va (λ a. of_both o u pos a vb) (ma.by k pc last regs words (stand_front code pc ca _ all_stand) (omega arith) ready) second)
      where
        ca : List Line
        ca = pa k pc last

        pc1 : ℕ
        pc1 = pc + length ca

        cb : List Line
        cb = pb (k + 1) (pc1 + 1) pos

        tail : List Instr
        tail = two_tail o u R11 R0

        pc2 : ℕ
        pc2 = pc1 + 1 + length cb

        end : ℕ
        end = pc2 + 1 + length tail

        all_stand : StandAt code pc (ca ++ (line (Stwsp R0 k) pos ∷ cb))
        all_stand = stand_front code pc (ca ++ (line (Stwsp R0 k) pos ∷ cb)) (at_pos pos (Ldwsp R11 k ∷ tail)) st

        save_stands : StandAt code pc1 (line (Stwsp R0 k) pos ∷ cb)
        save_stands = stand_back code pc ca (line (Stwsp R0 k) pos ∷ cb) all_stand

        front_is : pc + length (ca ++ (line (Stwsp R0 k) pos ∷ cb)) ≡ pc2
        front_is = omega (arith, length-append ca (line (Stwsp R0 k) pos ∷ cb))

        tail_stands : StandAt code pc2 (at_pos pos (Ldwsp R11 k ∷ tail))
        tail_stands = subst (λ p. StandAt code p (at_pos pos (Ldwsp R11 k ∷ tail))) front_is (stand_back code pc (ca ++ (line (Stwsp R0 k) pos ∷ cb)) (at_pos pos (Ldwsp R11 k ∷ tail)) st)

        end_is : end ≡ pc + length (two_code k pc last)
        end_is = omega (arith, front_is, length-append (ca ++ (line (Stwsp R0 k) pos ∷ cb)) (at_pos pos (Ldwsp R11 k ∷ tail)), length-at_pos pos tail)

        second : (a : ℕ) (regs1 : Regs) (words1 : List ℕ) → Keeps s k regs words regs1 words1 → regs1.r0 ≡ a → Run regs1 words1 pc1 end k (1 + (7 * nb + (1 + length tail))) (of_both o u pos a vb)
        second a regs1 words1 keeps1 a_is =
            one_on code relied s regs1 words1 regs1 words2 pc1 (pc1 + 1) end k (7 * nb + (1 + length tail)) (of_both o u pos a vb)
            (by_save code relied s small mine R0 dp first regs1 words1 pc1 k save_stands.0 (omega arith) ready1)
            saves
            (subst (Run regs1 words2 (pc1 + 1) end k (7 * nb + (1 + length tail))) (both_is vb)
            (looser code relied s regs1 words2 (pc1 + 1) end end (k + 1) k (7 * nb + (1 + length tail)) (7 * nb + (1 + length tail)) (bound vb (λ b. of_two o u pos a b)) refl (omega arith) (omega arith)
            (value_on regs1 words2 (pc1 + 1) pc2 end (k + 1) (7 * nb) (1 + length tail) vb (λ b. of_two o u pos a b) (mb.by (k + 1) (pc1 + 1) pos regs1 words2 save_stands.2 (omega arith) ready2) third)))
          where
            ready1 : Is_ready regs1 words1
            ready1 = ready_kept code relied s dp first k regs words regs1 words1 ready keeps1

            words2 : List ℕ
            words2 = slice_set words1 (s + k) regs1.r0

            far : (w : ℕ) → IsSaved s k w → w ≡ s + k → ⊥
            far w (inl h) e = absurd (omega arith)
            far w (inr h) e = absurd (omega arith)

            saves : Keeps s k regs1 words1 regs1 words2
            saves = record { others = λ r h. refl; size = length-set words1 (s + k) regs1.r0; same = λ w h. get_set_other words1 (s + k) w regs1.r0 (far w h) }

            ready2 : Is_ready regs1 words2
            ready2 = ready_kept code relied s dp first k regs1 words1 regs1 words2 ready1 saves

            both_is : (v : Value) → bound v (λ b. of_two o u pos a b) ≡ of_both o u pos a v
            both_is (word b) = refl
            both_is (error kind at_pos') = refl

            old : ℕ
            old = get_or words1 (s + k) 0

            old_there : slice_get words1 (s + k) ≡ Some old
            old_there = let r = ready1.within in slice_get-get_or words1 (s + k) 0 (omega arith)

            third : (b : ℕ) (regs3 : Regs) (words3 : List ℕ) → Keeps s (k + 1) regs1 words2 regs3 words3 → regs3.r0 ≡ b → Run regs3 words3 pc2 end (k + 1) (1 + length tail) (of_two o u pos a b)
            third b regs3 words3 keeps3 b_is =
                let saved : slice_get words3 (s + k) ≡ Some regs1.r0 = keeps3.same (s + k) (inl (omega arith)) ∙ get_set_same words1 (s + k) old regs1.r0 old_there in
                let regs4 = reg_set regs3 R11 regs1.r0 in
                let ready3 = ready_kept code relied s dp first (k + 1) regs1 words2 regs3 words3 ready2 keeps3 in
                let here = tail_runs code relied s pos tail regs4 (of_two o u pos regs1.r0 regs3.r0) (kept_runs pos o u regs4) words3 (pc2 + 1) (k + 1) tail_stands.2 in
                subst (λ y. Run regs3 words3 pc2 end (k + 1) (1 + length tail) (of_two o u pos a y)) b_is
                (subst (λ x. Run regs3 words3 pc2 end (k + 1) (1 + length tail) (of_two o u pos x regs3.r0)) a_is
                (one_on code relied s regs3 words3 regs4 words3 pc2 (pc2 + 1) end (k + 1) (length tail) (of_two o u pos regs1.r0 regs3.r0)
                (by_restore code relied s small mine R11 dp first regs3 words3 pc2 k regs1.r0 tail_stands.0 (omega arith) ready3 saved)
                (keeps_r11 s (k + 1) regs3 words3 regs1.r0)
                here))

    pub two_means : Means two_code (bound va (λ a. of_both o u pos a vb)) (1 + max da db) (1 + na + nb)
    two_means = record { by = two_by }

    -- the second operand is passed over where the first one decides
    module _ (middle : ℕ → Instr) (jumps : ℕ → Bool) (f : ℕ → Value) (plain : (target : ℕ) → IsPlain (middle target)) (turn : (target pc : ℕ) (regs : Regs) (ws : List ℕ) → local_row (own pc regs ws) (middle target) ≡ jumps_by (own pc regs ws) target (jumps regs.r0)) (decides : (a : ℕ) → jumps a ≡ true → f a ≡ truth_made a) (goes : (a : ℕ) → jumps a ≡ false → f a ≡ truth_of vb) where
      abbrev passed_code : ℕ → ℕ → Pos → List Line
      passed_code = short_code middle pos pa pb

      short_by : (k pc : ℕ) (last : Pos) (regs : Regs) (words : List ℕ) → StandAt code pc (passed_code k pc last) → k + (1 + max da db) ≤ temporary → Is_ready regs words → Run regs words pc (pc + length (passed_code k pc last)) k (7 * (1 + na + nb)) (bound va f)
      short_by k pc last regs words st fits ready =
          looser code relied s regs words pc end (pc + length (passed_code k pc last)) k k (7 * na + (1 + (7 * nb + 3))) (7 * (1 + na + nb)) (bound va f) end_is (omega arith) (omega arith)
          (value_on regs words pc pc1 end k (7 * na) (1 + (7 * nb + 3)) va f (ma.by k pc last regs words (stand_front code pc ca _ all_stand) (omega arith) ready) second)
        where
          ca : List Line
          ca = pa k pc last

          pc1 : ℕ
          pc1 = pc + length ca

          cb : List Line
          cb = pb (k + 1) (pc1 + 1) pos

          pc2 : ℕ
          pc2 = pc1 + 1 + length cb

          end : ℕ
          end = pc2 + 3

          mid : Line
          mid = line (middle pc2) pos

          all_stand : StandAt code pc (ca ++ (mid ∷ cb))
          all_stand = stand_front code pc (ca ++ (mid ∷ cb)) (at_pos pos made_truth) st

          jump_stands : StandAt code pc1 (mid ∷ cb)
          jump_stands = stand_back code pc ca (mid ∷ cb) all_stand

          front_is : pc + length (ca ++ (mid ∷ cb)) ≡ pc2
          front_is = omega (arith, length-append ca (mid ∷ cb))

          tail_stands : StandAt code pc2 (at_pos pos made_truth)
          tail_stands = subst (λ p. StandAt code p (at_pos pos made_truth)) front_is (stand_back code pc (ca ++ (mid ∷ cb)) (at_pos pos made_truth) st)

          end_is : end ≡ pc + length (passed_code k pc last)
          end_is = omega (arith, front_is, length-append (ca ++ (mid ∷ cb)) (at_pos pos made_truth))

          last_part : (regs3 : Regs) (words3 : List ℕ) (j : ℕ) → Run regs3 words3 pc2 end j 3 (truth_made regs3.r0)
          last_part regs3 words3 j = tail_runs code relied s pos made_truth regs3 (truth_made regs3.r0) (truth_tail pos regs3) words3 pc2 j tail_stands

          second : (a : ℕ) (regs1 : Regs) (words1 : List ℕ) → Keeps s k regs words regs1 words1 → regs1.r0 ≡ a → Run regs1 words1 pc1 end k (1 + (7 * nb + 3)) (f a)
          second a regs1 words1 keeps1 a_is = decide (jumps regs1.r0) refl
            where
              ready1 : Is_ready regs1 words1
              ready1 = ready_kept code relied s dp first k regs words regs1 words1 ready keeps1

              step : (target : ℕ) (b : Bool) → jumps regs1.r0 ≡ b → (ws : List ℕ) → local_row (own pc1 regs1 ws) (middle pc2) ≡ jumps_by (own pc1 regs1 ws) pc2 b
              step target b e ws = turn pc2 pc1 regs1 ws ∙ ap (jumps_by (own pc1 regs1 ws) pc2) e

              truth_is : (v : Value) → bound v truth_made ≡ truth_of v
              truth_is (word b) = ap word (truth_not pos (nat_eq b 0))
              truth_is (error kind p) = refl

              decide : (b : Bool) → jumps regs1.r0 ≡ b → Run regs1 words1 pc1 end k (1 + (7 * nb + 3)) (f a)
              decide true e =
                  subst (Run regs1 words1 pc1 end k (1 + (7 * nb + 3))) (sym (decides a (subst (λ x. jumps x ≡ true) a_is e)))
                  (subst (λ x. Run regs1 words1 pc1 end k (1 + (7 * nb + 3)) (truth_made x)) a_is
                  (looser code relied s regs1 words1 pc1 end end k k (1 + 3) (1 + (7 * nb + 3)) (truth_made regs1.r0) refl (omega arith) (omega arith)
                  (one_on code relied s regs1 words1 regs1 words1 pc1 pc2 end k 3 (truth_made regs1.r0) (by_quiet code relied s (middle pc2) regs1 regs1 words1 pc1 pc2 jump_stands.0 (plain pc2) (λ ws g. step pc2 true e ws)) (keeps_all s k regs1 words1) (last_part regs1 words1 k))))
              decide false e =
                  subst (Run regs1 words1 pc1 end k (1 + (7 * nb + 3))) (truth_is vb ∙ sym (goes a (subst (λ x. jumps x ≡ false) a_is e)))
                  (one_on code relied s regs1 words1 regs1 words1 pc1 (pc1 + 1) end k (7 * nb + 3) (bound vb truth_made) (by_quiet code relied s (middle pc2) regs1 regs1 words1 pc1 (pc1 + 1) jump_stands.0 (plain pc2) (λ ws g. step pc2 false e ws)) (keeps_all s k regs1 words1)
                  (looser code relied s regs1 words1 (pc1 + 1) end end (k + 1) k (7 * nb + 3) (7 * nb + 3) (bound vb truth_made) refl (omega arith) (omega arith)
                  (value_on regs1 words1 (pc1 + 1) pc2 end (k + 1) (7 * nb) 3 vb truth_made (mb.by (k + 1) (pc1 + 1) pos regs1 words1 jump_stands.2 (omega arith) ready1)
                  (λ b regs3 words3 h b_is. subst (λ x. Run regs3 words3 pc2 end (k + 1) 3 (truth_made x)) b_is (last_part regs3 words3 (k + 1))))))

      pub short_means : Means passed_code (bound va f) (1 + max da db) (1 + na + nb)
      short_means = record { by = short_by }
