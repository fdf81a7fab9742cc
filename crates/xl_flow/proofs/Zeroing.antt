-- The words of a variable are set to 0, one after another.
use Rattle.std.proofs.Common.{◌≡◌, ℕ, zero, suc, ◌+◌, ◌*◌, ◌/◌, ◌%◌, ◌<◌, ◌≤◌, ◌≢◌, Bool, true, false, List, length, Some, refl, sym, ap, ◌∙◌, subst, ⊎_elim, arith, length-append}
use Rattle.xs_instr.specs.Lines.{at_pos}
use Rattle.std.specs.Prelude.{nat_eq, slice_get}
use Rattle.std.proofs.lemmas.Bool.{cases_eq}
use Rattle.std.proofs.lemmas.List.{length-set}
use Rattle.xw_words.specs.declared.pos.Pos.{Pos}
use Rattle.xs_instr.specs.declared.image.Code.{Code}
use Rattle.xs_instr.specs.declared.instr.Instr.{Instr}
use Rattle.xs_instr.specs.declared.state.Regs.{Regs}
use Rattle.xs_instr.specs.Did.{makes}
use Rattle.xs_instr.specs.Memory.{word_at, word_by, word_put}
use Rattle.xs_instr.specs.OwnSteps.{StandAt}
use Rattle.xs_instr.specs.Rows.{local_row, stores, stores_at}
use Rattle.xl_expr.proofs.Emitted.{at_pos-append}
use Rattle.xl_expr.proofs.Lists.{get_set_same, get_set_other, get_set_both, stand_front, stand_back, word_by_same}
use Rattle.xl_expr.proofs.Ways.{own, Agree, IsPlain, Sure, Way, way_on}
use Rattle.xl_flow.specs.Zeros.{writes}

-- a word that is there stands at its index
slot_of : (words : List ℕ) (address x : ℕ) (b : Bool) → word_by words address b ≡ Some x → slice_get words (address / 4) ≡ Some x
slot_of words address x true h = h
slot_of words address x false h = cc

-- after a write to an address

put_there : (words : List ℕ) (address x v : ℕ) → word_at words address ≡ Some x → word_at (word_put words address v) address ≡ Some v
put_there words address x v h = go (nat_eq (address % 4) 0) h
  where
    go : (b : Bool) → word_by words address b ≡ Some x → word_by (word_put words address v) address b ≡ Some v
    go true g = get_set_same words (address / 4) x v g
    go false g = cc

put_other : (words : List ℕ) (address other v : ℕ) → other / 4 ≢ address / 4 → word_at (word_put words address v) other ≡ word_at words other
put_other words address other v ne = word_by_same words (word_put words address v) other (nat_eq (other % 4) 0) (get_set_other words (address / 4) (other / 4) v ne)

-- a word that was there is there still
put_still : (words : List ℕ) (address x other y : ℕ) → word_at words address ≡ Some x → word_at words other ≡ Some y → (z : ℕ) × (word_at (word_put words address 0) other ≡ Some z)
put_still words address x other y h g = ⊎_elim same apart (cases_eq (other / 4) (address / 4))
  where
    at_same : (b : Bool) → other / 4 ≡ address / 4 → word_by words other b ≡ Some y → word_by (word_put words address 0) other b ≡ Some 0
    at_same true e k = subst (λ i. slice_get (word_put words address 0) i ≡ Some 0) (sym e) (get_set_same words (address / 4) x 0 (slot_of words address x (nat_eq (address % 4) 0) h))
    at_same false e k = cc

    same : other / 4 ≡ address / 4 → (z : ℕ) × (word_at (word_put words address 0) other ≡ Some z)
    same e = (0, at_same (nat_eq (other % 4) 0) e g)

    apart : other / 4 ≢ address / 4 → (z : ℕ) × (word_at (word_put words address 0) other ≡ Some z)
    apart ne = (y, put_other words address other 0 ne ∙ g)

-- a 0 stays one
put_zero : (words : List ℕ) (address x other : ℕ) → word_at words address ≡ Some x → word_at words other ≡ Some 0 → word_at (word_put words address 0) other ≡ Some 0
put_zero words address x other h g = ⊎_elim same apart (cases_eq (other / 4) (address / 4))
  where
    at_same : (b : Bool) → other / 4 ≡ address / 4 → word_by words other b ≡ Some 0 → word_by (word_put words address 0) other b ≡ Some 0
    at_same true e k = subst (λ i. slice_get (word_put words address 0) i ≡ Some 0) (sym e) (get_set_same words (address / 4) x 0 (slot_of words address x (nat_eq (address % 4) 0) h))
    at_same false e k = cc

    same : other / 4 ≡ address / 4 → word_at (word_put words address 0) other ≡ Some 0
    same e = at_same (nat_eq (other % 4) 0) e g

    apart : other / 4 ≢ address / 4 → word_at (word_put words address 0) other ≡ Some 0
    apart ne = put_other words address other 0 ne ∙ g

-- the words with the first ones of a variable cleared
abbrev pub cleared : List ℕ → (address : ℕ → ℕ) → (words : ℕ) → List ℕ
cleared memory address zero = memory
cleared memory address (suc i) = word_put (cleared memory address i) (address i) 0

module _ (memory : List ℕ) (address : ℕ → ℕ) (words : ℕ) (there : (i : ℕ) → i < words → (x : ℕ) × (word_at memory (address i) ≡ Some x)) where
  -- and all of them are there still
  pub still_there : (n i : ℕ) → n ≤ words → i < words → (x : ℕ) × (word_at (cleared memory address n) (address i) ≡ Some x)
  still_there zero i le lt = there i lt
  still_there (suc n) i le lt =
      let at_n = still_there n n (omega arith) (omega arith) in
      let at_i = still_there n i (omega arith) lt in
      put_still (cleared memory address n) (address n) at_n.0 (address i) at_i.0 at_n.1 at_i.1

  pub are_zero : (n i : ℕ) → n ≤ words → i < n → word_at (cleared memory address n) (address i) ≡ Some 0
  are_zero zero i le lt = absurd (omega arith)
  are_zero (suc n) i le lt = ⊎_elim last (before (λ lt'. are_zero n i (omega arith) lt')) (cases_eq i n)
    where
      at_n : (x : ℕ) × (word_at (cleared memory address n) (address n) ≡ Some x)
      at_n = still_there n n (omega arith) (omega arith)

      last : i ≡ n → word_at (cleared memory address (suc n)) (address i) ≡ Some 0
      last e = subst (λ k. word_at (cleared memory address (suc n)) (address k) ≡ Some 0) (sym e) (put_there (cleared memory address n) (address n) at_n.0 0 at_n.1)

      before : (i < n → word_at (cleared memory address n) (address i) ≡ Some 0) → i ≢ n → word_at (cleared memory address (suc n)) (address i) ≡ Some 0
      before earlier ne = put_zero (cleared memory address n) (address n) at_n.0 (address i) at_n.1 (earlier (omega arith))

pub cleared_size : (memory : List ℕ) (address : ℕ → ℕ) (n : ℕ) → length (cleared memory address n) ≡ length memory
cleared_size memory address zero = refl
cleared_size memory address (suc n) = length-set (cleared memory address n) (address n / 4) 0 ∙ cleared_size memory address n

pub outside_kept : (memory : List ℕ) (address : ℕ → ℕ) (n w : ℕ) → ((i : ℕ) → i < n → w ≡ address i / 4 → ⊥) → slice_get (cleared memory address n) w ≡ slice_get memory w
outside_kept memory address zero w h = refl
outside_kept memory address (suc n) w h =
    get_set_other (cleared memory address n) (address n / 4) w 0 (h n (omega arith)) ∙ outside_kept memory address n w (λ i lt. h i (omega arith))

module _ (code : Code) (relied : ℕ → Bool) (leaves : ℕ → Type 0) where
  -- what a store of a 0 makes
  pub store_made : (i : Instr) (pc : ℕ) (regs : Regs) (words : List ℕ) (address x : ℕ) → relied (address / 4) ≡ true → word_at words address ≡ Some x → ((ws : List ℕ) → local_row (own pc regs ws) i ≡ stores_at (own pc regs ws) 0 address) → (ws : List ℕ) → Agree code relied leaves words ws → local_row (own pc regs ws) i ≡ makes (own (pc + 1) regs (word_put ws address 0))
  store_made i pc regs words address x relied_on there turn ws g =
      turn ws ∙ ap (stores (own pc regs ws) 0 address) (word_by_same words ws address (nat_eq (address % 4) 0) (g.by (address / 4) relied_on) ∙ there)

  -- one store of a 0
  pub store_sure : (i : Instr) (pc : ℕ) (regs : Regs) (words : List ℕ) (address x : ℕ) → slice_get code.instrs pc ≡ Some i → IsPlain i → relied (address / 4) ≡ true → word_at words address ≡ Some x → ((ws : List ℕ) → local_row (own pc regs ws) i ≡ stores_at (own pc regs ws) 0 address) → ((w : ℕ) → leaves w → w ≢ address / 4) → Sure code relied leaves (own pc regs words) (own (pc + 1) regs (word_put words address 0))
  store_sure i pc regs words address x stands plain relied_on there turn outside = record {
    instr = i;
    stands = stands;
    plain = plain;
    goes = λ ws g.
        let same = g.by (address / 4) relied_on in
        let there_too : word_at ws address ≡ Some x = word_by_same words ws address (nat_eq (address % 4) 0) same ∙ there in
        record {
          words = word_put ws address 0;
          made = turn ws ∙ ap (stores (own pc regs ws) 0 address) there_too;
          agree = record { by = λ w r. get_set_both words ws (address / 4) w x 0 (slot_of words address x (nat_eq (address % 4) 0) there) same (g.by w r) };
          apart = λ w l. get_set_other ws (address / 4) w 0 (outside w l);
        };
  }

  pub quiet_sure : (i : Instr) (regs regs' : Regs) (words : List ℕ) (pc : ℕ) → slice_get code.instrs pc ≡ Some i → IsPlain i → ((ws : List ℕ) → Agree code relied leaves words ws → local_row (own pc regs ws) i ≡ makes (own (pc + 1) regs' ws)) → Sure code relied leaves (own pc regs words) (own (pc + 1) regs' words)
  quiet_sure i regs regs' words pc stands plain turn = record { instr = i; stands = stands; plain = plain; goes = λ ws h. record { words = ws; made = turn ws h; agree = h; apart = λ w e. refl } }

  -- the code of one word, whatever stands there, from registers of which Ready holds to such
  module _ (Ready : Regs → Type 0) (write : ℕ → List Instr) (address : ℕ → ℕ) (pos : Pos) where
    pub record OneWritten (i pc : ℕ) (regs : Regs) (words : List ℕ) : Type 0 where
      pub count : ℕ
      pub few : count ≤ 2
      pub regs' : Regs
      pub ready : Ready regs'
      pub way : Way code relied leaves count (own pc regs words) (own (pc + length (at_pos pos (write i))) regs' (word_put words (address i) 0))

    abbrev pub WritesOne : (words : ℕ) → Type 0
    WritesOne n = (i pc : ℕ) (regs : Regs) (words : List ℕ) (x : ℕ) → i < n → StandAt code pc (at_pos pos (write i)) → Ready regs → word_at words (address i) ≡ Some x → OneWritten i pc regs words

    pub record AllWritten (n pc : ℕ) (regs : Regs) (words : List ℕ) : Type 0 where
      pub count : ℕ
      pub few : count ≤ 2 * n
      pub regs' : Regs
      pub ready : Ready regs'
      pub way : Way code relied leaves count (own pc regs words) (own (pc + length (at_pos pos (writes write n))) regs' (cleared words address n))

    module _ (words : ℕ) (one : WritesOne words) (memory : List ℕ) (there : (i : ℕ) → i < words → (x : ℕ) × (word_at memory (address i) ≡ Some x)) where
      pub all_written : (n pc : ℕ) (regs : Regs) → n ≤ words → StandAt code pc (at_pos pos (writes write n)) → Ready regs → AllWritten n pc regs memory
      all_written zero pc regs le st ready = record {
        count = 0;
        few = omega arith;
        regs' = regs;
        ready = ready;
        way = let e : pc ≡ pc + 0 = omega arith in ap (λ p. own p regs memory) e;
      }
      all_written (suc n) pc regs le st ready =
          let split = at_pos-append pos (writes write n) (write n) in
          let st' = subst (StandAt code pc) split st in
          let before = all_written n pc regs (omega arith) (stand_front code pc (at_pos pos (writes write n)) (at_pos pos (write n)) st') ready in
          let pc1 = pc + length (at_pos pos (writes write n)) in
          let at_n = still_there memory address words there n n (omega arith) (omega arith) in
          let last = one n pc1 before.regs' (cleared memory address n) at_n.0 (omega arith) (stand_back code pc (at_pos pos (writes write n)) (at_pos pos (write n)) st') before.ready at_n.1 in
          let all = way_on code relied leaves before.count last.count (own pc regs memory) (own pc1 before.regs' (cleared memory address n)) (own (pc1 + length (at_pos pos (write n))) last.regs' (cleared memory address (suc n))) before.way last.way in
          let f = before.few in
          let g = last.few in
          let end_is : pc1 + length (at_pos pos (write n)) ≡ pc + length (at_pos pos (writes write (suc n))) = omega (arith, ap length split, length-append (at_pos pos (writes write n)) (at_pos pos (write n))) in
          record {
            count = before.count + last.count;
            few = omega arith;
            regs' = last.regs';
            ready = last.ready;
            way = subst (λ p. Way code relied leaves (before.count + last.count) (own pc regs memory) (own p last.regs' (cleared memory address (suc n)))) end_is all;
          }
