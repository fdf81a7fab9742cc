-- Reading words and elements.
use Rattle.std.proofs.Common.{◌≡◌, ℕ, ◌+◌, ◌*◌, ◌%◌, ◌^◌, ◌<◌, ◌≤◌, Bool, true, false, List, [], ◌∷◌, ◌++◌, length, Option, Some, None, refl, sym, ap, ◌∙◌, subst, arith, length-append}
use Rattle.std.specs.Prelude.{slice_get, slice_index, not, nat_eq, nat_lt}
use Rattle.std.proofs.lemmas.Bool.{ltb-true, lt-ltb}
use Rattle.std.proofs.lemmas.Option.{slice_get-get_or, get_or_from_slice_get, slice_get_within}
use Rattle.xw_words.specs.declared.pos.Pos.{Pos}
use Rattle.xw_words.specs.Words.{truth}
use Rattle.xs_instr.specs.declared.image.Code.{Code}
use Rattle.xs_instr.specs.declared.instr.Instr.{Instr}
use Rattle.xs_instr.specs.declared.instr.Instr.TheVariants.{Lsu, Ecallf, Ldc, Ldwdp, Ldawdp, Ldw}
use Rattle.xs_instr.specs.declared.instr.Reg.{Reg}
use Rattle.xs_instr.specs.declared.instr.Reg.TheVariants.{R0, R11}
use Rattle.xs_instr.specs.declared.state.Regs.{Regs}
use Rattle.xs_instr.specs.Did.{makes}
use Rattle.xs_instr.specs.Memory.{address_at, word_at}
use Rattle.xs_instr.specs.Registers.{reg_set}
use Rattle.xs_instr.specs.Rows.{local_row, loads, passes_by}
use Rattle.xc_kernel.specs.Plain as kernel
use Rattle.xc_kernel.specs.Values.{Value, word, error, tested}
use Rattle.xc_kernel.specs.Values.{tested_by as tested_by'}
use Rattle.xc_kernel.specs.Eval.{Store, element_by, element_at}
use Rattle.xs_instr.specs.Lines.{Line, at_pos}
use Rattle.xs_instr.specs.OwnSteps.{IsApart, IsWord, StandAt, temporary}
use Rattle.xl_expr.specs.declared.plan.VarAt.{VarAt}
use Rattle.xl_expr.specs.declared.plan.VarAt.TheVariants.{Near, Far, Through}
use Rattle.xl_expr.specs.declared.plan.VarPlan.{VarPlan}
use Rattle.xl_expr.specs.Code.{fixed_index, held_word, tested_index, word_at_place, word_code, element_at_place, element_code}
use Rattle.xl_expr.specs.Works.{WithIndex, StandFrom, WordStands, ArrayStands, WordIsLaid, ElementIsLaid}
use Rattle.xl_expr.proofs.Lists.{stand_front, stand_back}
use Rattle.xl_expr.proofs.Ways.{own, IsPlain, Sure}
use Rattle.xl_expr.proofs.Runs.{Runs, Keeps, Ready, ready_kept, keeps_all, keeps_r0, keeps_r11, done, looser, one_on, by_quiet, word_there}
use Rattle.xl_expr.proofs.Pieces.{bound, Means, value_on}

plain_ldwdp : (d : Reg) (n : ℕ) → IsPlain (Ldwdp d n)
plain_ldwdp d n = record { row_is = λ h c t th. refl; no_event = refl }

plain_ldc : (d : Reg) (n : ℕ) → IsPlain (Ldc d n)
plain_ldc d n = record { row_is = λ h c t th. refl; no_event = refl }

plain_ldw : (d b i : Reg) → IsPlain (Ldw d b i)
plain_ldw d b i = record { row_is = λ h c t th. refl; no_event = refl }

plain_ecallf : (a : Reg) → IsPlain (Ecallf a)
plain_ecallf a = record { row_is = λ h c t th. refl; no_event = refl }

-- the array alone
pub array_of : (place : VarAt) (index array : Type 0) → WithIndex place index array → array
array_of (Near n) index array h = h.1
array_of (Far n) index array h = h.1
array_of (Through n) index array h = h

module _ (code : Code) (relied : ℕ → Bool) (s : ℕ) (small : s + temporary ≤ 16384) (mine : (k : ℕ) → k < temporary → relied (s + k) ≡ true) (dp : ℕ) (first : List ℕ) (vars : List (Option VarPlan)) (store : Store) where
  abbrev Piece_means : (ℕ → ℕ → Pos → List Line) → Value → ℕ → ℕ → Type 0
  Piece_means = Means code relied s small mine dp first

  abbrev Run : Regs → List ℕ → ℕ → ℕ → ℕ → ℕ → Value → Type 0
  Run = Runs code relied s

  abbrev Is_ready : Regs → List ℕ → Type 0
  Is_ready = Ready code relied s dp first

  -- a word of dp's is loaded
  pub by_near : (d : Reg) (regs : Regs) (words : List ℕ) (pc n x : ℕ) → slice_get code.instrs pc ≡ Some (Ldwdp d n) → Is_ready regs words → IsWord relied s first (address_at dp n) x → Sure code relied (IsApart s) (own pc regs words) (own (pc + 1) (reg_set regs d x) words)
  by_near d regs words pc n x stands ready h =
      by_quiet code relied s (Ldwdp d n) regs (reg_set regs d x) words pc (pc + 1) stands (plain_ldwdp d n) (λ ws g.
      ap (λ p. loads (own pc regs ws) d (word_at ws (address_at p n))) ready.dp_is ∙ ap (loads (own pc regs ws) d) (word_there code relied s dp first regs words (address_at dp n) x ready h ws g))

  -- the word at r11 + 4 r0 is loaded into r0
  by_element : (regs : Regs) (words : List ℕ) (pc base i x : ℕ) → slice_get code.instrs pc ≡ Some (Ldw R0 R11 R0) → Is_ready regs words → regs.r11 ≡ base → regs.r0 ≡ i → IsWord relied s first (address_at base i) x → Sure code relied (IsApart s) (own pc regs words) (own (pc + 1) (reg_set regs R0 x) words)
  by_element regs words pc base i x stands ready base_is i_is h =
      by_quiet code relied s (Ldw R0 R11 R0) regs (reg_set regs R0 x) words pc (pc + 1) stands (plain_ldw R0 R11 R0) (λ ws g.
      ap (λ p. loads (own pc regs ws) R0 (word_at ws (address_at p regs.r0))) base_is
      ∙ ap (λ j. loads (own pc regs ws) R0 (word_at ws (address_at base j))) i_is
      ∙ ap (loads (own pc regs ws) R0) (word_there code relied s dp first regs words (address_at base i) x ready h ws g))

  -- a word at an address that a word of dp's holds
  held_by : (n base i x : ℕ) (pos : Pos) (k pc : ℕ) (regs : Regs) (words : List ℕ) → StandAt code pc (at_pos pos (held_word n i)) → Is_ready regs words → IsWord relied s first (address_at dp n) base → IsWord relied s first (address_at base i) x → Run regs words pc (pc + 3) k 7 (word x)
  held_by n base i x pos k pc regs words st ready h g =
      let regs1 = reg_set regs R11 base in
      let regs2 = reg_set regs1 R0 i in
      let regs3 = reg_set regs2 R0 x in
      let keeps1 = keeps_r11 s k regs words base in
      let keeps2 = keeps_r0 s k regs1 words i in
      let keeps3 = keeps_r0 s k regs2 words x in
      let ready1 = ready_kept code relied s dp first k regs words regs1 words ready keeps1 in
      let ready2 = ready_kept code relied s dp first k regs1 words regs2 words ready1 keeps2 in
      looser code relied s regs words pc (pc + 3) (pc + 3) k k (1 + (1 + (1 + 0))) 7 (word x) refl (omega arith) (omega arith)
      (one_on code relied s regs words regs1 words pc (pc + 1) (pc + 3) k (1 + (1 + 0)) (word x) (by_near R11 regs words pc n base st.0 ready h) keeps1
      (one_on code relied s regs1 words regs2 words (pc + 1) (pc + 1 + 1) (pc + 3) k (1 + 0) (word x) (by_quiet code relied s (Ldc R0 i) regs1 regs2 words (pc + 1) (pc + 1 + 1) st.2.0 (plain_ldc R0 i) (λ ws q. refl)) keeps2
      (one_on code relied s regs2 words regs3 words (pc + 1 + 1) (pc + 1 + 1 + 1) (pc + 3) k 0 (word x) (by_element regs2 words (pc + 1 + 1) base i x st.2.2.0 ready2 refl refl g) keeps3
      (done code relied s regs3 words (pc + 1 + 1 + 1) (pc + 3) k 0 x (omega arith) refl))))

  -- a word of dp's comes to r0
  near_by : (n x k pc : ℕ) (regs : Regs) (words : List ℕ) → slice_get code.instrs pc ≡ Some (Ldwdp R0 n) → Is_ready regs words → IsWord relied s first (address_at dp n) x → Run regs words pc (pc + 1) k 7 (word x)
  near_by n x k pc regs words stands ready h =
      let regs1 = reg_set regs R0 x in
      looser code relied s regs words pc (pc + 1) (pc + 1) k k (1 + 0) 7 (word x) refl (omega arith) (omega arith)
      (one_on code relied s regs words regs1 words pc (pc + 1) (pc + 1) k 0 (word x) (by_near R0 regs words pc n x stands ready h) (keeps_r0 s k regs words x) (done code relied s regs1 words (pc + 1) (pc + 1) k 0 x refl refl))

  -- the word of a variable
  pub word_means : (found : Option VarPlan) (xs : List ℕ) → WordIsLaid vars relied s dp first store found xs → Piece_means (λ k here last. word_code found last) (word (slice_index xs 0)) 1 1
  word_means None xs h = absurd h
  word_means (Some found) xs h = record { by = λ k pc last regs words st fits ready. at_place found.place h k pc last regs words st ready }
    where
      at_place : (place : VarAt) → WordStands vars relied s dp first store place (slice_index xs 0) → (k pc : ℕ) (last : Pos) (regs : Regs) (words : List ℕ) → StandAt code pc (at_pos last (word_at_place place)) → Is_ready regs words → Run regs words pc (pc + length (at_pos last (word_at_place place))) k 7 (word (slice_index xs 0))
      at_place (Near n) h k pc last regs words st ready = near_by n (slice_index xs 0) k pc regs words st.0 ready h
      at_place (Far n) h k pc last regs words st ready = held_by n h.0 0 (slice_index xs 0) last k pc regs words st ready h.1 h.2
      at_place (Through n) h k pc last regs words st ready = held_by n h.0 0 (slice_index xs 0) last k pc regs words st ready h.1 h.2

  -- an index in r0 is tested
  pub index_tested : (len : ℕ) (pos : Pos) (i k pc : ℕ) (regs : Regs) (words : List ℕ) → StandAt code pc (at_pos pos (tested_index len)) → regs.r0 ≡ i → Run regs words pc (pc + 3) k 3 (tested i len pos)
  index_tested len pos i k pc regs words st i_is =
      one_on code relied s regs words regs1 words pc (pc + 1) (pc + 3) k (1 + 1) (tested i len pos) (by_quiet code relied s (Ldc R11 len) regs regs1 words pc (pc + 1) st.0 (plain_ldc R11 len) (λ ws q. refl)) (keeps_r11 s k regs words len)
      (one_on code relied s regs1 words regs2 words (pc + 1) (pc + 1 + 1) (pc + 3) k 1 (tested i len pos) (by_quiet code relied s (Lsu R11 R0 R11) regs1 regs2 words (pc + 1) (pc + 1 + 1) st.2.0 (record { row_is = λ h c t th. refl; no_event = refl }) (λ ws q. refl)) (keeps_r11 s k regs1 words (truth (nat_lt regs.r0 len)))
      (decide (nat_lt regs.r0 len) refl))
    where
      regs1 : Regs
      regs1 = reg_set regs R11 len

      regs2 : Regs
      regs2 = reg_set regs1 R11 (truth (nat_lt regs.r0 len))

      turn_is : (b : Bool) → nat_lt regs.r0 len ≡ b → (ws : List ℕ) → local_row (own (pc + 1 + 1) regs2 ws) (Ecallf R11) ≡ passes_by (own (pc + 1 + 1) regs2 ws) (not (nat_eq (truth b) 0))
      turn_is b e ws = ap (λ (x : Bool). passes_by (own (pc + 1 + 1) regs2 ws) (not (nat_eq (truth x) 0))) e

      value_is : (b : Bool) → nat_lt regs.r0 len ≡ b → tested_by' i pos b ≡ tested i len pos
      value_is b e = ap (tested_by' i pos) (sym e) ∙ ap (λ j. tested_by' i pos (nat_lt j len)) i_is

      decide : (b : Bool) → nat_lt regs.r0 len ≡ b → Run regs2 words (pc + 1 + 1) (pc + 3) k 1 (tested i len pos)
      decide false e =
          subst (Run regs2 words (pc + 1 + 1) (pc + 3) k 1) (value_is false e)
          (record { count = 0; few = omega arith; there = own (pc + 1 + 1) regs2 words; way = refl; fails = record { instr = Ecallf R11; stands = st.2.2.0; place = st.2.2.1; plain = plain_ecallf R11; traps = λ ws q. turn_is false e ws } })
      decide true e =
          subst (Run regs2 words (pc + 1 + 1) (pc + 3) k 1) (value_is true e)
          (one_on code relied s regs2 words regs2 words (pc + 1 + 1) (pc + 1 + 1 + 1) (pc + 3) k 0 (word i) (by_quiet code relied s (Ecallf R11) regs2 regs2 words (pc + 1 + 1) (pc + 1 + 1 + 1) st.2.2.0 (plain_ecallf R11) (λ ws q. turn_is true e ws)) (keeps_all s k regs2 words)
          (done code relied s regs2 words (pc + 1 + 1 + 1) (pc + 3) k 0 i (omega arith) i_is))

  -- an element, whose base comes to r11 by one instruction
  module _ (bi : Instr) (base : ℕ) (sets_base : (regs : Regs) (words : List ℕ) (pc : ℕ) → slice_get code.instrs pc ≡ Some bi → Is_ready regs words → Sure code relied (IsApart s) (own pc regs words) (own (pc + 1) (reg_set regs R11 base) words)) (xs : List ℕ) (pos : Pos) (pi : ℕ → ℕ → Pos → List Line) (vi : Value) (di ni : ℕ) (mi : Piece_means pi vi di ni) (stand : StandFrom vars relied s dp first store base xs) where
    abbrev tested_code : List Instr
    tested_code = Ldc R11 (length xs) ∷ Lsu R11 R0 R11 ∷ Ecallf R11 ∷ bi ∷ Ldw R0 R11 R0 ∷ []

    tested_by : (i k pc : ℕ) (regs : Regs) (words : List ℕ) → StandAt code pc (at_pos pos tested_code) → Is_ready regs words → regs.r0 ≡ i → Run regs words pc (pc + 5) k 7 (element_by xs pos i (nat_lt i (length xs)))
    tested_by i k pc regs words st ready i_is =
        looser code relied s regs words pc (pc + 5) (pc + 5) k k (1 + (1 + 3)) 7 (element_by xs pos i (nat_lt i (length xs))) refl (omega arith) (omega arith)
        (one_on code relied s regs words regs1 words pc (pc + 1) (pc + 5) k (1 + 3) (element_by xs pos i (nat_lt i (length xs))) (by_quiet code relied s (Ldc R11 (length xs)) regs regs1 words pc (pc + 1) st.0 (plain_ldc R11 (length xs)) (λ ws q. refl)) keeps1
        (one_on code relied s regs1 words regs2 words (pc + 1) (pc + 1 + 1) (pc + 5) k 3 (element_by xs pos i (nat_lt i (length xs))) (by_quiet code relied s (Lsu R11 R0 R11) regs1 regs2 words (pc + 1) (pc + 1 + 1) st.2.0 (record { row_is = λ h c t th. refl; no_event = refl }) (λ ws q. refl)) keeps2
        (decide (nat_lt regs.r0 (length xs)) refl)))
      where
        regs1 : Regs
        regs1 = reg_set regs R11 (length xs)

        regs2 : Regs
        regs2 = reg_set regs1 R11 (truth (nat_lt regs.r0 (length xs)))

        keeps1 : Keeps s k regs words regs1 words
        keeps1 = keeps_r11 s k regs words (length xs)

        keeps2 : Keeps s k regs1 words regs2 words
        keeps2 = keeps_r11 s k regs1 words (truth (nat_lt regs.r0 (length xs)))

        ready2 : Is_ready regs2 words
        ready2 = ready_kept code relied s dp first k regs1 words regs2 words (ready_kept code relied s dp first k regs words regs1 words ready keeps1) keeps2

        turn_is : (b : Bool) → nat_lt regs.r0 (length xs) ≡ b → (ws : List ℕ) → local_row (own (pc + 1 + 1) regs2 ws) (Ecallf R11) ≡ passes_by (own (pc + 1 + 1) regs2 ws) (not (nat_eq (truth b) 0))
        turn_is b e ws = ap (λ (x : Bool). passes_by (own (pc + 1 + 1) regs2 ws) (not (nat_eq (truth x) 0))) e

        value_is : (b : Bool) → nat_lt regs.r0 (length xs) ≡ b → element_by xs pos i b ≡ element_by xs pos i (nat_lt i (length xs))
        value_is b e = ap (element_by xs pos i) (sym e) ∙ ap (λ j. element_by xs pos i (nat_lt j (length xs))) i_is

        decide : (b : Bool) → nat_lt regs.r0 (length xs) ≡ b → Run regs2 words (pc + 1 + 1) (pc + 5) k 3 (element_by xs pos i (nat_lt i (length xs)))
        decide false e =
            subst (Run regs2 words (pc + 1 + 1) (pc + 5) k 3) (value_is false e)
            (record { count = 0; few = omega arith; there = own (pc + 1 + 1) regs2 words; way = refl; fails = record { instr = Ecallf R11; stands = st.2.2.0; place = st.2.2.1; plain = plain_ecallf R11; traps = λ ws q. turn_is false e ws } })
        decide true e =
            let x = slice_index xs i in
            let within : i < length xs = ltb-true i (length xs) (ap (λ j. nat_lt j (length xs)) (sym i_is) ∙ e) in
            let there : slice_get xs i ≡ Some x = slice_get-get_or xs i 0 within in
            let regs3 = reg_set regs2 R11 base in
            let regs4 = reg_set regs3 R0 x in
            let keeps3 = keeps_r11 s k regs2 words base in
            let ready3 = ready_kept code relied s dp first k regs2 words regs3 words ready2 keeps3 in
            subst (Run regs2 words (pc + 1 + 1) (pc + 5) k 3) (value_is true e)
            (one_on code relied s regs2 words regs2 words (pc + 1 + 1) (pc + 1 + 1 + 1) (pc + 5) k 2 (word x) (by_quiet code relied s (Ecallf R11) regs2 regs2 words (pc + 1 + 1) (pc + 1 + 1 + 1) st.2.2.0 (plain_ecallf R11) (λ ws q. turn_is true e ws)) (keeps_all s k regs2 words)
            (one_on code relied s regs2 words regs3 words (pc + 1 + 1 + 1) (pc + 1 + 1 + 1 + 1) (pc + 5) k 1 (word x) (sets_base regs2 words (pc + 1 + 1 + 1) st.2.2.2.0 ready2) keeps3
            (one_on code relied s regs3 words regs4 words (pc + 1 + 1 + 1 + 1) (pc + 1 + 1 + 1 + 1 + 1) (pc + 5) k 0 (word x) (by_element regs3 words (pc + 1 + 1 + 1 + 1) base i x st.2.2.2.2.0 ready3 refl i_is (stand i x there)) (keeps_r0 s k regs3 words x)
            (done code relied s regs4 words (pc + 1 + 1 + 1 + 1 + 1) (pc + 5) k 0 x (omega arith) refl))))

    tested_means : Piece_means (λ k here last. pi k here last ++ at_pos pos tested_code) (element_at xs pos vi) (1 + di) (1 + ni)
    tested_means = record {
      by = λ k pc last regs words st fits ready.
          let ci = pi k pc last in
          let end_is : pc + length ci + 5 ≡ pc + length (ci ++ at_pos pos tested_code) = omega (arith, length-append ci (at_pos pos tested_code)) in
          let tested_stands = stand_back code pc ci (at_pos pos tested_code) st in
          subst (Run regs words pc (pc + length (ci ++ at_pos pos tested_code)) k (7 * (1 + ni))) (is vi)
          (looser code relied s regs words pc (pc + length ci + 5) (pc + length (ci ++ at_pos pos tested_code)) k k (7 * ni + 7) (7 * (1 + ni)) (bound vi (λ i. element_by xs pos i (nat_lt i (length xs)))) end_is (omega arith) (omega arith)
          (value_on code relied s small mine dp first regs words pc (pc + length ci) (pc + length ci + 5) k (7 * ni) 7 vi (λ i. element_by xs pos i (nat_lt i (length xs))) (mi.by k pc last regs words (stand_front code pc ci _ st) (omega arith) ready)
          (λ i regs1 words1 h i_is. tested_by i k (pc + length ci) regs1 words1 tested_stands (ready_kept code relied s dp first k regs words regs1 words1 ready h) i_is)));
    }
      where
        is : (v : Value) → bound v (λ i. element_by xs pos i (nat_lt i (length xs))) ≡ element_at xs pos v
        is (word i) = refl
        is (error kind p) = refl

  -- an element at an index that is known
  known_element : (xs : List ℕ) (pos : Pos) (vi : Value) (j : ℕ) → vi ≡ word j → j < length xs → element_at xs pos vi ≡ word (slice_index xs j)
  known_element xs pos vi j e lt = ap (element_at xs pos) e ∙ ap (element_by xs pos j) (lt-ltb j (length xs) lt)

  -- the address of a word of an array near dp
  pub near_address : (n i : ℕ) → address_at (address_at dp n) i ≡ address_at dp ((n + i) % 2 ^ 32)
  near_address n i = omega arith

  -- an element of an array
  pub element_means : (found : Option VarPlan) (xs : List ℕ) (i : kernel.Expression) (pos : Pos) (pi : ℕ → ℕ → Pos → List Line) (vi : Value) (di ni : ℕ) (index : Type 0) → (index → Piece_means pi vi di ni) → ((len j : ℕ) → fixed_index i len ≡ Some j → (vi ≡ word j) × (j < len)) → ElementIsLaid vars relied s dp first store found index xs vi → Piece_means (element_code found i pos pi) (element_at xs pos vi) (1 + di) (1 + ni)
  element_means None xs i pos pi vi di ni index mi known h = absurd h
  element_means (Some found) xs i pos pi vi di ni index mi known h = at_place found.place (fixed_index i found.words) refl h
    where
      length_is : found.words ≡ length xs
      length_is = (array_of found.place index ((found.words ≡ length xs) × ArrayStands vars relied s dp first store found.place xs vi) h).0

      lengths : (place : VarAt) → Piece_means (element_at_place place (length xs) None pos pi) (element_at xs pos vi) (1 + di) (1 + ni) → Piece_means (element_at_place place found.words None pos pi) (element_at xs pos vi) (1 + di) (1 + ni)
      lengths place m = subst (λ n. Piece_means (element_at_place place n None pos pi) (element_at xs pos vi) (1 + di) (1 + ni)) (sym length_is) m

      within : (j : ℕ) → fixed_index i found.words ≡ Some j → j < length xs
      within j e = let lt = (known found.words j e).1 in let l = length_is in omega arith

      value_is : (j : ℕ) → fixed_index i found.words ≡ Some j → word (slice_index xs j) ≡ element_at xs pos vi
      value_is j e = sym (known_element xs pos vi j (known found.words j e).0 (within j e))

      there : (j : ℕ) → fixed_index i found.words ≡ Some j → slice_get xs j ≡ Some (slice_index xs j)
      there j e = slice_get-get_or xs j 0 (within j e)

      at_place : (place : VarAt) (fixed : Option ℕ) → fixed_index i found.words ≡ fixed → WithIndex place index ((found.words ≡ length xs) × ArrayStands vars relied s dp first store place xs vi) → Piece_means (element_at_place place found.words fixed pos pi) (element_at xs pos vi) (1 + di) (1 + ni)
      at_place (Near n) (Some j) e g = record {
        by = λ k pc last regs words st fits ready.
            let x = slice_index xs j in
            subst (Run regs words pc (pc + 1) k (7 * (1 + ni))) (value_is j e)
            (looser code relied s regs words pc (pc + 1) (pc + 1) k k 7 (7 * (1 + ni)) (word x) refl (omega arith) (omega arith)
            (near_by ((n + j) % 2 ^ 32) x k pc regs words st.0 ready (subst (λ p. IsWord relied s first p x) (near_address n j) (g.1.1 j x (there j e)))));
      }
      at_place (Near n) None e g =
          lengths (Near n) (tested_means (Ldawdp R11 n) (address_at dp n) (λ regs words pc st ready. by_quiet code relied s (Ldawdp R11 n) regs (reg_set regs R11 (address_at dp n)) words pc (pc + 1) st (record { row_is = λ h c t th. refl; no_event = refl }) (λ ws q. ap (λ p. makes (own (pc + 1) (reg_set regs R11 (address_at p n)) ws)) ready.dp_is)) xs pos pi vi di ni (mi g.0) g.1.1)
      at_place (Far n) (Some j) e g = record {
        by = λ k pc last regs words st fits ready.
            let x = slice_index xs j in
            subst (Run regs words pc (pc + 3) k (7 * (1 + ni))) (value_is j e)
            (looser code relied s regs words pc (pc + 3) (pc + 3) k k 7 (7 * (1 + ni)) (word x) refl (omega arith) (omega arith) (held_by n g.1.1.0 j x pos k pc regs words st ready g.1.1.1 (g.1.1.2 j x (there j e))));
      }
      at_place (Far n) None e g =
          lengths (Far n) (tested_means (Ldwdp R11 n) g.1.1.0 (λ regs words pc st ready. by_near R11 regs words pc n g.1.1.0 st ready g.1.1.1) xs pos pi vi di ni (mi g.0) g.1.1.2)
      at_place (Through n) fixed e g' =
          let g = g'.1 in
          let j = g.0 in
          let base = g.1 in
          let x = g.2 in
          let is_within = slice_get_within xs j x g.4 in
          let value : element_at xs pos (word j) ≡ word x = ap (element_by xs pos j) (lt-ltb j (length xs) is_within) ∙ ap word (get_or_from_slice_get xs j x 0 g.4) in
          record {
            by = λ k pc last regs words st fits ready.
                subst (Run regs words pc (pc + 3) k (7 * (1 + ni))) (sym (ap (element_at xs pos) g.3 ∙ value))
                (looser code relied s regs words pc (pc + 3) (pc + 3) k k 7 (7 * (1 + ni)) (word x) refl (omega arith) (omega arith) (held_by n base 0 x pos k pc regs words st ready g.5 g.6));
          }
