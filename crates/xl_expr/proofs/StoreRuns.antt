-- A register's word is written to a place.
use Rattle.std.proofs.Common.{◌≡◌, ℕ, ◌+◌, ◌-◌, ◌*◌, ◌%◌, ◌^◌, ◌<◌, ◌≤◌, inl, inr, Bool, true, false, List, [], ◌∷◌, length, Option, Some, None, refl, sym, ap, ◌∙◌, subst, arith, get_or, length-append}
use Rattle.std.specs.Prelude.{slice_get, slice_set, slice_index, nat_lt}
use Rattle.std.proofs.lemmas.Bool.{ltb-true, lt-ltb}
use Rattle.std.proofs.lemmas.List.{length-set}
use Rattle.std.proofs.lemmas.Option.{slice_get-get_or, slice_get_within}
use Rattle.xw_words.specs.declared.pos.Pos.{Pos}
use Rattle.xs_instr.specs.declared.image.Code.{Code}
use Rattle.xs_instr.specs.declared.instr.Instr.{Instr}
use Rattle.xs_instr.specs.declared.instr.Instr.TheVariants.{Ldc, Ldwdp, Stwdp, Ldawdp, Ldwsp}
use Rattle.xs_instr.specs.declared.instr.Reg.{Reg}
use Rattle.xs_instr.specs.declared.instr.Reg.TheVariants.{R0, R10, R11}
use Rattle.xs_instr.specs.declared.state.Regs.{Regs}
use Rattle.xs_instr.specs.Did.{makes}
use Rattle.xs_instr.specs.Memory.{address_at, word_put}
use Rattle.xs_instr.specs.Registers.{reg_get, reg_set}
use Rattle.xs_instr.specs.Rows.{local_row, stores, stores_at}
use Rattle.xc_kernel.specs.Plain as kernel
use Rattle.xc_kernel.specs.Values.{Value, word, error, tested, tested_by}
use Rattle.xc_kernel.specs.Eval.{Store, words_of, eval}
use Rattle.xs_instr.specs.Lines.{Line, at_pos}
use Rattle.xs_instr.specs.OwnSteps.{IsApart, IsWord, StandAt, temporary}
use Rattle.xl_expr.specs.declared.plan.VarAt.{VarAt}
use Rattle.xl_expr.specs.declared.plan.VarAt.TheVariants.{Near, Far, Through}
use Rattle.xl_expr.specs.declared.plan.VarPlan.{VarPlan}
use Rattle.xl_expr.specs.Plans.{var_in}
use Rattle.xl_expr.specs.Measures.{nodes, nodes_at, depth, depth_at}
use Rattle.xl_expr.specs.Code.{fixed_index, tested_index, expression_code}
use Rattle.xl_expr.specs.Stores.{write, held_write, indexed_write, word_write, word_store, element_write, element_store_at, element_store, store_code, tested_value, index_in, WordAt, ElementAt, OfWord, OfElement, IsAddress, is_working}
use Rattle.xl_expr.specs.Works.{WithIndex, StandFrom, WordStands, ArrayStands, WordIsLaid, ElementIsLaid, IsLaid, PlaceIsLaid, is_scratch, same_reg}
use Rattle.xl_expr.proofs.Lists.{get_set_same, get_set_other, stand_front, stand_back}
use Rattle.xl_expr.proofs.Ways.{own, Agree, IsPlain, Sure, Way, way_on}
use Rattle.xl_expr.specs.Above.{IsSaved}
use Rattle.xl_expr.proofs.Runs.{Runs, Stops, Keeps, Ready, ready_kept, keeps_r0, keeps_r11, stopped, by_quiet, by_save, by_restore, word_there}
use Rattle.xl_expr.proofs.Registers.{reg_other}
use Rattle.xl_expr.proofs.Pieces.{bound, Means, value_on}
use Rattle.xl_expr.proofs.Places.{array_of, by_near, near_address, index_tested}
use Rattle.xl_expr.proofs.Expressions.{fixed_known, expression_means}

-- a register that the code leaves is none of r0, r10 and r11
working_scratch : (r : Reg) → is_working r ≡ false → is_scratch r ≡ false
working_scratch R0 h = cc
working_scratch R11 h = cc
working_scratch other h = refl

working_r10 : (r : Reg) → is_working r ≡ false → same_reg r R10 ≡ false
working_r10 R0 h = cc
working_r10 R10 h = cc
working_r10 R11 h = cc
working_r10 other h = refl

plain_stw : IsPlain write
plain_stw = record { row_is = λ h c t th. refl; no_event = refl }

plain_stwdp : (from : Reg) (n : ℕ) → IsPlain (Stwdp from n)
plain_stwdp from n = record { row_is = λ h c t th. refl; no_event = refl }

module _ (code : Code) (relied : ℕ → Bool) (s : ℕ) (small : s + temporary ≤ 16384) (mine : (k : ℕ) → k < temporary → relied (s + k) ≡ true) (dp : ℕ) (first : List ℕ) (vars : List (Option VarPlan)) (store : Store) where
  abbrev Run : Regs → List ℕ → ℕ → ℕ → ℕ → ℕ → Value → Type 0
  Run = Runs code relied s

  abbrev Is_ready : Regs → List ℕ → Type 0
  Is_ready = Ready code relied s dp first

  -- what is left but r0, r10, r11 and the temporary words
  pub record Leaves (regs : Regs) (words : List ℕ) (regs' : Regs) (words' : List ℕ) : Type 0 where
    pub others : (r : Reg) → is_working r ≡ false → reg_get regs' r ≡ reg_get regs r
    pub size : length words' ≡ length words
    pub same : (w : ℕ) → IsApart s w → slice_get words' w ≡ slice_get words w

  leaves_twice : (r1 : Regs) (w1 : List ℕ) (r2 : Regs) (w2 : List ℕ) (r3 : Regs) (w3 : List ℕ) → Leaves r1 w1 r2 w2 → Leaves r2 w2 r3 w3 → Leaves r1 w1 r3 w3
  leaves_twice r1 w1 r2 w2 r3 w3 h g = record { others = λ r e. g.others r e ∙ h.others r e; size = g.size ∙ h.size; same = λ w e. g.same w e ∙ h.same w e }

  kept_leaves : (k : ℕ) (r1 : Regs) (w1 : List ℕ) (r2 : Regs) (w2 : List ℕ) → Keeps s k r1 w1 r2 w2 → Leaves r1 w1 r2 w2
  kept_leaves k r1 w1 r2 w2 h = record { others = λ r e. h.others r (working_scratch r e); size = h.size; same = λ w e. h.same w (saved w e) }
    where
      saved : (w : ℕ) → IsApart s w → IsSaved s k w
      saved w (inl g) = inl (omega arith)
      saved w (inr g) = inr g

  -- so many steps lead to where the next one writes v at the address
  pub record Writing (regs : Regs) (words : List ℕ) (pc pc' most v address : ℕ) : Type 0 where
    pub count : ℕ
    pub few : count ≤ most
    pub index : ℕ
    pub regs' : Regs
    pub words' : List ℕ
    pub way : Way code relied (IsApart s) count (own pc regs words) (own index regs' words')
    pub instr : Instr
    pub stands : slice_get code.instrs index ≡ Some instr
    pub plain : IsPlain instr
    pub turn : (ws : List ℕ) → Agree code relied (IsApart s) words' ws → local_row (own index regs' ws) instr ≡ makes (own pc' regs' (word_put ws address v))
    pub leaves : Leaves regs words regs' words'

  abbrev pub WriteRuns : (ℕ → ℕ → Type 0) → Regs → List ℕ → ℕ → ℕ → ℕ → ℕ → Value → Type 0
  WriteRuns P regs words pc pc' most v (word i) = (address : ℕ) × P i address × Writing regs words pc pc' most v address
  WriteRuns P regs words pc pc' most v (error kind pos) = Stops code relied s regs words pc most kind pos

  more_steps : (regs : Regs) (words : List ℕ) (pc pc' m n v address : ℕ) → m ≤ n → Writing regs words pc pc' m v address → Writing regs words pc pc' n v address
  more_steps regs words pc pc' m n v address le w =
      let f = w.few in
      record { count = w.count; few = omega arith; index = w.index; regs' = w.regs'; words' = w.words'; way = w.way; instr = w.instr; stands = w.stands; plain = w.plain; turn = w.turn; leaves = w.leaves }

  -- a way first
  write_on : (n : ℕ) (regs : Regs) (words : List ℕ) (regs1 : Regs) (words1 : List ℕ) (pc pc1 pc2 most v address : ℕ) → Way code relied (IsApart s) n (own pc regs words) (own pc1 regs1 words1) → Leaves regs words regs1 words1 → Writing regs1 words1 pc1 pc2 most v address → Writing regs words pc pc2 (n + most) v address
  write_on n regs words regs1 words1 pc pc1 pc2 most v address w l r =
      let f = r.few in
      record {
        count = n + r.count;
        few = omega arith;
        index = r.index;
        regs' = r.regs';
        words' = r.words';
        way = way_on code relied (IsApart s) n r.count (own pc regs words) (own pc1 regs1 words1) (own r.index r.regs' r.words') w r.way;
        instr = r.instr;
        stands = r.stands;
        plain = r.plain;
        turn = r.turn;
        leaves = leaves_twice regs words regs1 words1 r.regs' r.words' l r.leaves;
      }

  -- a step first
  write_after : (regs : Regs) (words : List ℕ) (regs1 : Regs) (words1 : List ℕ) (pc pc1 pc2 most v address : ℕ) → Sure code relied (IsApart s) (own pc regs words) (own pc1 regs1 words1) → Leaves regs words regs1 words1 → Writing regs1 words1 pc1 pc2 most v address → Writing regs words pc pc2 (1 + most) v address
  write_after regs words regs1 words1 pc pc1 pc2 most v address sure l r = write_on 1 regs words regs1 words1 pc pc1 pc2 most v address (own pc1 regs1 words1, sure, refl) l r

  -- an error or a write after a way
  runs_after : (P : ℕ → ℕ → Type 0) (n : ℕ) (regs : Regs) (words : List ℕ) (regs1 : Regs) (words1 : List ℕ) (pc pc1 pc2 most v : ℕ) (val : Value) → Way code relied (IsApart s) n (own pc regs words) (own pc1 regs1 words1) → Leaves regs words regs1 words1 → WriteRuns P regs1 words1 pc1 pc2 most v val → WriteRuns P regs words pc pc2 (n + most) v val
  runs_after P n regs words regs1 words1 pc pc1 pc2 most v (word i) w l r = (r.0, r.1, write_on n regs words regs1 words1 pc pc1 pc2 most v r.0 w l r.2)
  runs_after P n regs words regs1 words1 pc pc1 pc2 most v (error kind pos) w l r =
      let f = r.few in
      record { count = n + r.count; few = omega arith; there = r.there; way = way_on code relied (IsApart s) n r.count (own pc regs words) (own pc1 regs1 words1) r.there w r.way; fails = r.fails }

  -- after an index comes the write at it
  index_on : (P : ℕ → ℕ → Type 0) (regs : Regs) (words : List ℕ) (pc pc1 pc2 k m n v : ℕ) (val : Value) → Run regs words pc pc1 k m val → ((i : ℕ) (regs1 : Regs) (words1 : List ℕ) → val ≡ word i → Keeps s k regs words regs1 words1 → regs1.r0 ≡ i → (address : ℕ) × P i address × Writing regs1 words1 pc1 pc2 n v address) → WriteRuns P regs words pc pc2 (m + n) v val
  index_on P regs words pc pc1 pc2 k m n v (word i) r next =
      let f = r.few in
      let w = next i r.regs' r.words' refl r.keeps r.value in
      let x = write_on r.count regs words r.regs' r.words' pc pc1 pc2 n v w.0 r.way (kept_leaves k regs words r.regs' r.words' r.keeps) w.2 in
      (w.0, w.1, more_steps regs words pc pc2 (r.count + n) (m + n) v w.0 (omega arith) x)
  index_on P regs words pc pc1 pc2 k m n v (error kind pos) r next = stopped code relied s regs words pc pc1 pc1 k k m (m + n) kind pos (omega arith) r

  -- the word is read again into r10, and the write is next
  restored : (pos : Pos) (regs : Regs) (words : List ℕ) (pc base i v old : ℕ) → StandAt code pc (at_pos pos (Ldwsp R10 0 ∷ write ∷ [])) → Is_ready regs words → slice_get words (s + 0) ≡ Some v → regs.r11 ≡ base → regs.r0 ≡ i → IsWord relied s first (address_at base i) old → Writing regs words pc (pc + 2) 1 v (address_at base i)
  restored pos regs words pc base i v old st ready saved base_is i_is there =
      let regs1 = reg_set regs R10 v in
      let others1 : (r : Reg) → is_working r ≡ false → reg_get regs1 r ≡ reg_get regs r = λ r e. reg_other regs R10 r v (working_r10 r e) in
      let ready1 : Is_ready regs1 words = record { sp_is = ready.sp_is; dp_is = ready.dp_is; within = ready.within; same = ready.same } in
      let e : pc + 1 + 1 ≡ pc + 2 = omega arith in
      write_after regs words regs1 words pc (pc + 1) (pc + 2) 0 v (address_at base i) (by_restore code relied s small mine R10 dp first regs words pc 0 v st.0 (omega arith) ready saved) (record { others = others1; size = refl; same = λ w h. refl })
      (record {
        count = 0;
        few = omega arith;
        index = pc + 1;
        regs' = regs1;
        words' = words;
        way = refl;
        instr = write;
        stands = st.2.0;
        plain = plain_stw;
        turn = λ ws g.
            ap (λ b. stores_at (own (pc + 1) regs1 ws) v (address_at b regs.r0)) base_is
            ∙ ap (λ j. stores_at (own (pc + 1) regs1 ws) v (address_at base j)) i_is
            ∙ ap (stores (own (pc + 1) regs1 ws) v (address_at base i)) (word_there code relied s dp first regs1 words (address_at base i) old ready1 there ws g)
            ∙ ap (λ p. makes (own p regs1 (word_put ws (address_at base i) v))) e;
        leaves = record { others = λ r h. refl; size = refl; same = λ w h. refl };
      })

  -- the word is kept first
  saves : (from : Reg) (regs : Regs) (words : List ℕ) → Keeps s 0 regs words regs (slice_set words (s + 0) (reg_get regs from))
  saves from regs words = record { others = λ r h. refl; size = length-set words (s + 0) (reg_get regs from); same = λ w h. get_set_other words (s + 0) w (reg_get regs from) (far w h) }
    where
      far : (w : ℕ) → IsSaved s 0 w → w ≡ s + 0 → ⊥
      far w (inl h) e = absurd (omega arith)
      far w (inr h) e = absurd (omega arith)

  saved_there : (from : Reg) (regs : Regs) (words : List ℕ) → Is_ready regs words → slice_get (slice_set words (s + 0) (reg_get regs from)) (s + 0) ≡ Some (reg_get regs from)
  saved_there from regs words ready =
      let n = ready.within in
      get_set_same words (s + 0) (get_or words (s + 0) 0) (reg_get regs from) (slice_get-get_or words (s + 0) 0 (omega arith))

  -- through an address that a word of dp's holds
  held_writes : (from : Reg) (pos : Pos) (n base i old pc : ℕ) (regs : Regs) (words : List ℕ) → StandAt code pc (at_pos pos (held_write n i from)) → Is_ready regs words → IsWord relied s first (address_at dp n) base → IsWord relied s first (address_at base i) old → Writing regs words pc (pc + 5) 4 (reg_get regs from) (address_at base i)
  held_writes from pos n base i old pc regs words st ready h g =
      let v = reg_get regs from in
      let words1 = slice_set words (s + 0) v in
      let keeps1 = saves from regs words in
      let ready1 = ready_kept code relied s dp first 0 regs words regs words1 ready keeps1 in
      let regs2 = reg_set regs R11 base in
      let keeps2 = keeps_r11 s 0 regs words1 base in
      let ready2 = ready_kept code relied s dp first 0 regs words1 regs2 words1 ready1 keeps2 in
      let regs3 = reg_set regs2 R0 i in
      let keeps3 = keeps_r0 s 0 regs2 words1 i in
      let ready3 = ready_kept code relied s dp first 0 regs2 words1 regs3 words1 ready2 keeps3 in
      let e : pc + 1 + 1 + 1 + 2 ≡ pc + 5 = omega arith in
      subst (λ p. Writing regs words pc p 4 v (address_at base i)) e
      (write_after regs words regs words1 pc (pc + 1) (pc + 1 + 1 + 1 + 2) 3 v (address_at base i) (by_save code relied s small mine from dp first regs words pc 0 st.0 (omega arith) ready) (kept_leaves 0 regs words regs words1 keeps1)
      (write_after regs words1 regs2 words1 (pc + 1) (pc + 1 + 1) (pc + 1 + 1 + 1 + 2) 2 v (address_at base i) (by_near code relied s small mine dp first vars store R11 regs words1 (pc + 1) n base st.2.0 ready1 h) (kept_leaves 0 regs words1 regs2 words1 keeps2)
      (write_after regs2 words1 regs3 words1 (pc + 1 + 1) (pc + 1 + 1 + 1) (pc + 1 + 1 + 1 + 2) 1 v (address_at base i) (by_quiet code relied s (Ldc R0 i) regs2 regs3 words1 (pc + 1 + 1) (pc + 1 + 1 + 1) st.2.2.0 (record { row_is = λ h c t th. refl; no_event = refl }) (λ ws q. refl)) (kept_leaves 0 regs2 words1 regs3 words1 keeps3)
      (restored pos regs3 words1 (pc + 1 + 1 + 1) base i v old st.2.2.2 ready3 (saved_there from regs words ready) refl refl g))))

  -- to a word of dp's
  near_writes : (from : Reg) (n old pc : ℕ) (regs : Regs) (words : List ℕ) → slice_get code.instrs pc ≡ Some (Stwdp from n) → Is_ready regs words → IsWord relied s first (address_at dp n) old → Writing regs words pc (pc + 1) 0 (reg_get regs from) (address_at dp n)
  near_writes from n old pc regs words stands ready g = record {
    count = 0;
    few = omega arith;
    index = pc;
    regs' = regs;
    words' = words;
    way = refl;
    instr = Stwdp from n;
    stands = stands;
    plain = plain_stwdp from n;
    turn = λ ws q.
        ap (λ p. stores_at (own pc regs ws) (reg_get regs from) (address_at p n)) ready.dp_is
        ∙ ap (stores (own pc regs ws) (reg_get regs from) (address_at dp n)) (word_there code relied s dp first regs words (address_at dp n) old ready g ws q);
    leaves = record { others = λ r e. refl; size = refl; same = λ w e. refl };
  }

  -- to a variable's word
  word_writes : (found : Option VarPlan) (xs : List ℕ) (from : Reg) (last : Pos) (pc : ℕ) (regs : Regs) (words : List ℕ) → WordIsLaid vars relied s dp first store found xs → StandAt code pc (word_store found from last) → Is_ready regs words → (address : ℕ) × OfWord vars relied s dp first found address × Writing regs words pc (pc + length (word_store found from last)) 4 (reg_get regs from) address
  word_writes None xs from last pc regs words h st ready = absurd h
  word_writes (Some found) xs from last pc regs words h st ready = at_place found.place h st
    where
      at_place : (place : VarAt) → WordStands vars relied s dp first store place (slice_index xs 0) → StandAt code pc (at_pos last (word_write place from)) → (address : ℕ) × WordAt vars relied s dp first place address × Writing regs words pc (pc + length (at_pos last (word_write place from))) 4 (reg_get regs from) address
      at_place (Near n) g st' = (address_at dp n, refl, more_steps regs words pc (pc + 1) 0 4 (reg_get regs from) (address_at dp n) (omega arith) (near_writes from n (slice_index xs 0) pc regs words st'.0 ready g))
      at_place (Far n) g st' = (address_at g.0 0, (g.0, g.1, refl), held_writes from last n g.0 0 (slice_index xs 0) pc regs words st' ready g.1 g.2)
      at_place (Through n) g st' = (address_at g.0 0, (g.0, g.1, refl), held_writes from last n g.0 0 (slice_index xs 0) pc regs words st' ready g.1 g.2)

  -- to an element, whose base comes to r11 by one instruction
  module _ (bi : Instr) (base : ℕ) (sets_base : (regs : Regs) (words : List ℕ) (pc : ℕ) → slice_get code.instrs pc ≡ Some bi → Is_ready regs words → Sure code relied (IsApart s) (own pc regs words) (own (pc + 1) (reg_set regs R11 base) words)) (len : ℕ) (xs : List ℕ) (len_is : len ≡ length xs) (from : Reg) (pos : Pos) (pi : ℕ → ℕ → Pos → List Line) (vi : Value) (di ni : ℕ) (mi : Means code relied s small mine dp first pi vi di ni) (stand : StandFrom vars relied s dp first store base xs) (P : ℕ → ℕ → Type 0) (is_address : (i : ℕ) → P i (address_at base i)) where
    abbrev all_lines : ℕ → List Line
    all_lines here = indexed_write bi len from pos (λ n. pi 1 n pos) here

    element_writes : (pc : ℕ) (regs : Regs) (words : List ℕ) → StandAt code pc (all_lines pc) → 1 + di ≤ temporary → Is_ready regs words → WriteRuns P regs words pc (pc + length (all_lines pc)) (1 + (7 * ni + 3 + 2)) (reg_get regs from) (tested_value (length xs) pos vi)
    element_writes pc regs words st fits ready =
        subst (λ p. WriteRuns P regs words pc p (1 + (7 * ni + 3 + 2)) v (tested_value (length xs) pos vi)) end_is
        (subst (λ l. WriteRuns P regs words pc end (1 + (7 * ni + 3 + 2)) v (tested_value l pos vi)) len_is
        (runs_after P 1 regs words regs words1 pc (pc + 1) end (7 * ni + 3 + 2) v (tested_value len pos vi) (own (pc + 1) regs words1, by_save code relied s small mine from dp first regs words pc 0 st.0 (omega arith) ready, refl) (kept_leaves 0 regs words regs words1 (saves from regs words))
        (index_on P regs words1 (pc + 1) (pc2 + 3) end 1 (7 * ni + 3) 2 v (tested_value len pos vi) tested_run writes)))
      where
        v : ℕ
        v = reg_get regs from

        words1 : List ℕ
        words1 = slice_set words (s + 0) v

        ready1 : Is_ready regs words1
        ready1 = ready_kept code relied s dp first 0 regs words regs words1 ready (saves from regs words)

        ci : List Line
        ci = pi 1 (pc + 1) pos

        pc2 : ℕ
        pc2 = pc + 1 + length ci

        end : ℕ
        end = pc2 + 3 + 1 + 2

        end_is : end ≡ pc + length (all_lines pc)
        end_is = omega (arith, length-append ci (at_pos pos (element_write bi len)))

        tail_stands : StandAt code pc2 (at_pos pos (element_write bi len))
        tail_stands = stand_back code (pc + 1) ci (at_pos pos (element_write bi len)) st.2

        value_is : (w : Value) → bound w (λ i. tested i len pos) ≡ tested_value len pos w
        value_is (word i) = refl
        value_is (error kind p) = refl

        tested_run : Run regs words1 (pc + 1) (pc2 + 3) 1 (7 * ni + 3) (tested_value len pos vi)
        tested_run =
            subst (Run regs words1 (pc + 1) (pc2 + 3) 1 (7 * ni + 3)) (value_is vi)
            (value_on code relied s small mine dp first regs words1 (pc + 1) pc2 (pc2 + 3) 1 (7 * ni) 3 vi (λ i. tested i len pos) (mi.by 1 (pc + 1) pos regs words1 (stand_front code (pc + 1) ci _ st.2) fits ready1)
            (λ i regs2 words2 h i_is. index_tested code relied s small mine dp first vars store len pos i 1 pc2 regs2 words2 (stand_front code pc2 (at_pos pos (tested_index len)) (at_pos pos (bi ∷ Ldwsp R10 0 ∷ write ∷ [])) tail_stands) i_is))

        within_by : (i j : ℕ) (b : Bool) → nat_lt j len ≡ b → tested_by j pos b ≡ word i → (j ≡ i) × (j < len)
        within_by i j true e h = (cc, ltb-true j len e)
        within_by i j false e h = absurd (cc)

        within : (i : ℕ) (w : Value) → tested_value len pos w ≡ word i → i < len
        within i (word j) h = let r = within_by i j (nat_lt j len) refl h in let e = r.0 in let l = r.1 in omega arith
        within i (error kind p) h = absurd (cc)

        writes : (i : ℕ) (regs2 : Regs) (words2 : List ℕ) → tested_value len pos vi ≡ word i → Keeps s 1 regs words1 regs2 words2 → regs2.r0 ≡ i → (address : ℕ) × P i address × Writing regs2 words2 (pc2 + 3) end 2 v address
        writes i regs2 words2 is_i keeps2 i_is =
            let lt : i < length xs = let w = within i vi is_i in omega arith in
            let there = slice_get-get_or xs i 0 lt in
            let ready2 = ready_kept code relied s dp first 1 regs words1 regs2 words2 ready1 keeps2 in
            let saved : slice_get words2 (s + 0) ≡ Some v = keeps2.same (s + 0) (inl (omega arith)) ∙ saved_there from regs words ready in
            let regs3 = reg_set regs2 R11 base in
            let keeps3 = keeps_r11 s 0 regs2 words2 base in
            let ready3 = ready_kept code relied s dp first 0 regs2 words2 regs3 words2 ready2 keeps3 in
            let at3 : StandAt code (pc2 + 3) (at_pos pos (bi ∷ Ldwsp R10 0 ∷ write ∷ [])) = stand_back code pc2 (at_pos pos (tested_index len)) (at_pos pos (bi ∷ Ldwsp R10 0 ∷ write ∷ [])) tail_stands in (
              address_at base i,
              is_address i,
              write_after regs2 words2 regs3 words2 (pc2 + 3) (pc2 + 3 + 1) end 1 v (address_at base i) (sets_base regs2 words2 (pc2 + 3) at3.0 ready2) (kept_leaves 0 regs2 words2 regs3 words2 keeps3)
                  (restored pos regs3 words2 (pc2 + 3 + 1) base i v (get_or xs i 0) at3.2 ready3 saved refl i_is (stand i (get_or xs i 0) there)),
            )

  -- to an element of an array
  array_writes : (found : Option VarPlan) (xs : List ℕ) (i : kernel.Expression) (from : Reg) (pos : Pos) (pi : ℕ → ℕ → Pos → List Line) (vi : Value) (di ni : ℕ) (index : Type 0) → (index → Means code relied s small mine dp first pi vi di ni) → ((len j : ℕ) → fixed_index i len ≡ Some j → (vi ≡ word j) × (j < len)) → ElementIsLaid vars relied s dp first store found index xs vi → (pc : ℕ) (regs : Regs) (words : List ℕ) → StandAt code pc (element_store found i from pos (λ n. pi 1 n pos) pc) → 1 + di ≤ temporary → Is_ready regs words → WriteRuns (OfElement vars relied s dp first found) regs words pc (pc + length (element_store found i from pos (λ n. pi 1 n pos) pc)) (1 + (7 * ni + 3 + 2)) (reg_get regs from) (tested_value (length xs) pos vi)
  array_writes None xs i from pos pi vi di ni index mi known h pc regs words st fits ready = absurd h
  array_writes (Some found) xs i from pos pi vi di ni index mi known h pc regs words st fits ready = at_place found.place (fixed_index i found.words) refl h st
    where
      length_is : found.words ≡ length xs
      length_is = (array_of found.place index ((found.words ≡ length xs) × ArrayStands vars relied s dp first store found.place xs vi) h).0

      v : ℕ
      v = reg_get regs from

      within : (j : ℕ) → fixed_index i found.words ≡ Some j → j < length xs
      within j e = let lt = (known found.words j e).1 in let l = length_is in omega arith

      tested_at : (j : ℕ) → vi ≡ word j → j < length xs → word j ≡ tested_value (length xs) pos vi
      tested_at j e lt = sym (ap (tested_value (length xs) pos) e ∙ ap (tested_by j pos) (lt-ltb j (length xs) lt))

      at_place : (place : VarAt) (fixed : Option ℕ) → fixed_index i found.words ≡ fixed → WithIndex place index ((found.words ≡ length xs) × ArrayStands vars relied s dp first store place xs vi) → StandAt code pc (element_store_at place found.words fixed from pos (λ n. pi 1 n pos) pc) → WriteRuns (ElementAt vars relied s dp first place) regs words pc (pc + length (element_store_at place found.words fixed from pos (λ n. pi 1 n pos) pc)) (1 + (7 * ni + 3 + 2)) v (tested_value (length xs) pos vi)
      at_place (Near n) (Some j) e g st' =
          let n' = (n + j) % 2 ^ 32 in
          let x = slice_index xs j in
          let there = subst (λ p. IsWord relied s first p x) (near_address code relied s small mine dp first vars store n j) (g.1.1 j x (slice_get-get_or xs j 0 (within j e))) in
          subst (WriteRuns (ElementAt vars relied s dp first (Near n)) regs words pc (pc + 1) (1 + (7 * ni + 3 + 2)) v) (tested_at j (known found.words j e).0 (within j e))
          (address_at dp n', sym (near_address code relied s small mine dp first vars store n j), more_steps regs words pc (pc + 1) 0 (1 + (7 * ni + 3 + 2)) v (address_at dp n') (omega arith) (near_writes from n' x pc regs words st'.0 ready there))
      at_place (Near n) None e g st' =
          element_writes (Ldawdp R11 n) (address_at dp n) (λ regs words pc st ready. by_quiet code relied s (Ldawdp R11 n) regs (reg_set regs R11 (address_at dp n)) words pc (pc + 1) st (record { row_is = λ h c t th. refl; no_event = refl }) (λ ws q. ap (λ p. makes (own (pc + 1) (reg_set regs R11 (address_at p n)) ws)) ready.dp_is)) found.words xs length_is from pos pi vi di ni (mi g.0) g.1.1 (ElementAt vars relied s dp first (Near n)) (λ i. refl) pc regs words st' fits ready
      at_place (Far n) (Some j) e g st' =
          let x = slice_index xs j in
          subst (WriteRuns (ElementAt vars relied s dp first (Far n)) regs words pc (pc + 5) (1 + (7 * ni + 3 + 2)) v) (tested_at j (known found.words j e).0 (within j e))
          (address_at g.1.1.0 j, (g.1.1.0, g.1.1.1, refl), more_steps regs words pc (pc + 5) 4 (1 + (7 * ni + 3 + 2)) v (address_at g.1.1.0 j) (omega arith) (held_writes from pos n g.1.1.0 j x pc regs words st' ready g.1.1.1 (g.1.1.2 j x (slice_get-get_or xs j 0 (within j e)))))
      at_place (Far n) None e g st' =
          element_writes (Ldwdp R11 n) g.1.1.0 (λ regs words pc st ready. by_near code relied s small mine dp first vars store R11 regs words pc n g.1.1.0 st ready g.1.1.1) found.words xs length_is from pos pi vi di ni (mi g.0) g.1.1.2 (ElementAt vars relied s dp first (Far n)) (λ i. (g.1.1.0, g.1.1.1, refl)) pc regs words st' fits ready
      at_place (Through n) fixed e g' st' =
          let g = g'.1 in
          subst (WriteRuns (ElementAt vars relied s dp first (Through n)) regs words pc (pc + 5) (1 + (7 * ni + 3 + 2)) v) (tested_at g.0 g.3 (slice_get_within xs g.0 g.2 g.4))
          (address_at g.1 0, (g.1, g.5, refl), more_steps regs words pc (pc + 5) 4 (1 + (7 * ni + 3 + 2)) v (address_at g.1 0) (omega arith) (held_writes from pos n g.1 0 g.2 pc regs words st' ready g.5 g.6))

  -- to a place
  pub place_writes : (place : kernel.Place) (from : Reg) (last : Pos) (pc : ℕ) (regs : Regs) (words : List ℕ) → PlaceIsLaid vars relied s dp first store place → StandAt code pc (store_code vars place from pc last) → depth_at place ≤ temporary → Is_ready regs words → WriteRuns (IsAddress vars relied s dp first place) regs words pc (pc + length (store_code vars place from pc last)) (8 * nodes_at place - 1) (reg_get regs from) (index_in store place)
  place_writes (kernel.word v) from last pc regs words h st fits ready =
      let w = word_writes (var_in vars v) (words_of store v) from last pc regs words h st ready in
      (w.0, w.1, more_steps regs words pc (pc + length (word_store (var_in vars v) from last)) 4 7 (reg_get regs from) w.0 (omega arith) w.2)
  place_writes (kernel.element v i pos) from last pc regs words h st fits ready =
      more (index_in store (kernel.element v i pos)) (array_writes (var_in vars v) (words_of store v) i from pos (expression_code vars i) (eval store i) (depth i) (nodes i) (IsLaid vars relied s dp first store i) (λ laid. expression_means code relied s small mine dp first vars store i laid) (fixed_known code relied s small mine dp first vars store i) h pc regs words st fits ready)
    where
      more : (val : Value) → WriteRuns (OfElement vars relied s dp first (var_in vars v)) regs words pc (pc + length (store_code vars (kernel.element v i pos) from pc last)) (1 + (7 * nodes i + 3 + 2)) (reg_get regs from) val → WriteRuns (OfElement vars relied s dp first (var_in vars v)) regs words pc (pc + length (store_code vars (kernel.element v i pos) from pc last)) (8 * (1 + nodes i) - 1) (reg_get regs from) val
      more (word j) w = (w.0, w.1, more_steps regs words pc (pc + length (store_code vars (kernel.element v i pos) from pc last)) (1 + (7 * nodes i + 3 + 2)) (8 * (1 + nodes i) - 1) (reg_get regs from) w.0 (omega arith) w.2)
      more (error kind p) r = stopped code relied s regs words pc pc pc 0 0 (1 + (7 * nodes i + 3 + 2)) (8 * (1 + nodes i) - 1) kind p (omega arith) r
