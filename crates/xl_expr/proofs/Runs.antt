-- Runs of code by what a thread has: single steps, and how runs follow one another.
use Rattle.std.proofs.Common.{◌≡◌, ℕ, ◌+◌, ◌*◌, ◌/◌, ◌%◌, ◌<◌, ◌≤◌, inl, inr, Bool, true, false, List, length, Some, refl, ap, ◌∙◌, subst, get_or, arith}
use Rattle.std.specs.Prelude.{slice_get, slice_set, nat_eq}
use Rattle.std.proofs.lemmas.Option.{slice_get-get_or}
use Rattle.xw_words.specs.declared.pos.Pos.{Pos}
use Rattle.xs_instr.specs.declared.image.Code.{Code}
use Rattle.xs_instr.specs.declared.instr.Instr.{Instr}
use Rattle.xs_instr.specs.declared.instr.Instr.TheVariants.{Ldwsp, Stwsp}
use Rattle.xs_instr.specs.declared.instr.Reg.{Reg}
use Rattle.xs_instr.specs.declared.instr.Reg.TheVariants.{R0, R1, R2, R3, R4, R5, R6, R7, R8, R9, R10, R11, Cp, Dp, Sp, Lr}
use Rattle.xs_instr.specs.declared.state.Regs.{Regs}
use Rattle.xs_instr.specs.Did.{makes}
use Rattle.xs_instr.specs.Memory.{address_at, word_at, word_by}
use Rattle.xs_instr.specs.Registers.{reg_get, reg_set}
use Rattle.xs_instr.specs.Rows.{Local, local_row, loads, stores, stores_at}
use Rattle.xs_instr.specs.OwnSteps.{IsApart, IsWord, temporary}
use Rattle.xc_kernel.specs.Values.{Value, word, error, ErrorKind}
use Rattle.xl_expr.specs.Above.{IsSaved}
use Rattle.xl_expr.specs.Works.{is_scratch}
use Rattle.xl_expr.proofs.Lists.{get_set_other, get_set_both, word_by_same}
use Rattle.xl_expr.proofs.Ways.{own, IsPlain, Agree, Sure, Fails, Way, way_on}

-- r0 and r11 are all that a step sets
pub r0_alone : (regs : Regs) (v : ℕ) (r : Reg) → is_scratch r ≡ false → reg_get (reg_set regs R0 v) r ≡ reg_get regs r
r0_alone regs v R0 h = cc
r0_alone regs v R1 h = refl
r0_alone regs v R2 h = refl
r0_alone regs v R3 h = refl
r0_alone regs v R4 h = refl
r0_alone regs v R5 h = refl
r0_alone regs v R6 h = refl
r0_alone regs v R7 h = refl
r0_alone regs v R8 h = refl
r0_alone regs v R9 h = refl
r0_alone regs v R10 h = refl
r0_alone regs v R11 h = refl
r0_alone regs v Cp h = refl
r0_alone regs v Dp h = refl
r0_alone regs v Sp h = refl
r0_alone regs v Lr h = refl

pub r11_alone : (regs : Regs) (v : ℕ) (r : Reg) → is_scratch r ≡ false → reg_get (reg_set regs R11 v) r ≡ reg_get regs r
r11_alone regs v R0 h = refl
r11_alone regs v R1 h = refl
r11_alone regs v R2 h = refl
r11_alone regs v R3 h = refl
r11_alone regs v R4 h = refl
r11_alone regs v R5 h = refl
r11_alone regs v R6 h = refl
r11_alone regs v R7 h = refl
r11_alone regs v R8 h = refl
r11_alone regs v R9 h = refl
r11_alone regs v R10 h = refl
r11_alone regs v R11 h = cc
r11_alone regs v Cp h = refl
r11_alone regs v Dp h = refl
r11_alone regs v Sp h = refl
r11_alone regs v Lr h = refl

-- what code at depth k leaves as it was
pub record Keeps (s k : ℕ) (regs : Regs) (words : List ℕ) (regs' : Regs) (words' : List ℕ) : Type 0 where
  pub others : (r : Reg) → is_scratch r ≡ false → reg_get regs' r ≡ reg_get regs r
  pub size : length words' ≡ length words
  pub same : (w : ℕ) → IsSaved s k w → slice_get words' w ≡ slice_get words w

pub keeps_r0 : (s k : ℕ) (regs : Regs) (words : List ℕ) (v : ℕ) → Keeps s k regs words (reg_set regs R0 v) words
keeps_r0 s k regs words v = record { others = r0_alone regs v; size = refl; same = λ w h. refl }

pub keeps_r11 : (s k : ℕ) (regs : Regs) (words : List ℕ) (v : ℕ) → Keeps s k regs words (reg_set regs R11 v) words
keeps_r11 s k regs words v = record { others = r11_alone regs v; size = refl; same = λ w h. refl }

pub keeps_all : (s k : ℕ) (regs : Regs) (words : List ℕ) → Keeps s k regs words regs words
keeps_all s k regs words = record { others = λ r h. refl; size = refl; same = λ w h. refl }

pub keeps_twice : (s k : ℕ) (r1 : Regs) (w1 : List ℕ) (r2 : Regs) (w2 : List ℕ) (r3 : Regs) (w3 : List ℕ) → Keeps s k r1 w1 r2 w2 → Keeps s k r2 w2 r3 w3 → Keeps s k r1 w1 r3 w3
keeps_twice s k r1 w1 r2 w2 r3 w3 h g = record { others = λ r e. g.others r e ∙ h.others r e; size = g.size ∙ h.size; same = λ w e. g.same w e ∙ h.same w e }

saved_less : (s j k w : ℕ) → k ≤ j → IsSaved s k w → IsSaved s j w
saved_less s j k w le (inl h) = inl (omega arith)
saved_less s j k w le (inr h) = inr h

pub keeps_less : (s j k : ℕ) (r1 : Regs) (w1 : List ℕ) (r2 : Regs) (w2 : List ℕ) → k ≤ j → Keeps s j r1 w1 r2 w2 → Keeps s k r1 w1 r2 w2
keeps_less s j k r1 w1 r2 w2 le h = record { others = h.others; size = h.size; same = λ w e. h.same w (saved_less s j k w le e) }

module _ (code : Code) (relied : ℕ → Bool) (s : ℕ) where
  abbrev MyWay : ℕ → Local → Local → Type 0
  MyWay = Way code relied (IsApart s)

  -- code leads from one index to another with a word in r0, within so many steps, or to where the next step traps
  pub record Ends (regs : Regs) (words : List ℕ) (pc pc' k most v : ℕ) : Type 0 where
    pub count : ℕ
    pub few : count ≤ most
    pub regs' : Regs
    pub words' : List ℕ
    pub way : MyWay count (own pc regs words) (own pc' regs' words')
    pub value : regs'.r0 ≡ v
    pub keeps : Keeps s k regs words regs' words'

  pub record Stops (regs : Regs) (words : List ℕ) (pc most : ℕ) (kind : ErrorKind) (pos : Pos) : Type 0 where
    pub count : ℕ
    pub few : count ≤ most
    pub there : Local
    pub way : MyWay count (own pc regs words) there
    pub fails : Fails code relied (IsApart s) kind pos there

  abbrev pub Runs : Regs → List ℕ → ℕ → ℕ → ℕ → ℕ → Value → Type 0
  Runs regs words pc pc' k most (word v) = Ends regs words pc pc' k most v
  Runs regs words pc pc' k most (error kind pos) = Stops regs words pc most kind pos

  pub done : (regs : Regs) (words : List ℕ) (pc pc' k most v : ℕ) → pc ≡ pc' → regs.r0 ≡ v → Runs regs words pc pc' k most (word v)
  done regs words pc pc' k most v e h = record { count = 0; few = omega arith; regs' = regs; words' = words; way = ap (λ p. own p regs words) e; value = h; keeps = keeps_all s k regs words }

  pub stopped : (regs : Regs) (words : List ℕ) (pc pc' pc'' k j m n : ℕ) (kind : ErrorKind) (pos : Pos) → m ≤ n → Runs regs words pc pc' k m (error kind pos) → Runs regs words pc pc'' j n (error kind pos)
  stopped regs words pc pc' pc'' k j m n kind pos le h = let f = h.few in record { count = h.count; few = omega arith; there = h.there; way = h.way; fails = h.fails }

  -- the same run with a looser bound, a lesser depth, and another name of its end
  pub looser : (regs : Regs) (words : List ℕ) (pc pc' pc'' j k m n : ℕ) (v : Value) → pc' ≡ pc'' → k ≤ j → m ≤ n → Runs regs words pc pc' j m v → Runs regs words pc pc'' k n v
  looser regs words pc pc' pc'' j k m n (word v) e d le h =
      let f = h.few in
      record { count = h.count; few = omega arith; regs' = h.regs'; words' = h.words'; way = subst (λ p. MyWay h.count (own pc regs words) (own p h.regs' h.words')) e h.way; value = h.value; keeps = keeps_less s j k regs words h.regs' h.words' d h.keeps }
  looser regs words pc pc' pc'' j k m n (error kind pos) e d le h = stopped regs words pc pc' pc'' j k m n kind pos le h

  -- a way, and then a run
  pub and_on : (n : ℕ) (regs : Regs) (words : List ℕ) (regs1 : Regs) (words1 : List ℕ) (pc pc1 pc2 k m : ℕ) (v : Value) → MyWay n (own pc regs words) (own pc1 regs1 words1) → Keeps s k regs words regs1 words1 → Runs regs1 words1 pc1 pc2 k m v → Runs regs words pc pc2 k (n + m) v
  and_on n regs words regs1 words1 pc pc1 pc2 k m (word v) w h r =
      let f = r.few in
      record { count = n + r.count; few = omega arith; regs' = r.regs'; words' = r.words'; way = way_on code relied (IsApart s) n r.count (own pc regs words) (own pc1 regs1 words1) (own pc2 r.regs' r.words') w r.way; value = r.value; keeps = keeps_twice s k regs words regs1 words1 r.regs' r.words' h r.keeps }
  and_on n regs words regs1 words1 pc pc1 pc2 k m (error kind pos) w h r =
      let f = r.few in
      record { count = n + r.count; few = omega arith; there = r.there; way = way_on code relied (IsApart s) n r.count (own pc regs words) (own pc1 regs1 words1) r.there w r.way; fails = r.fails }

  -- one step, and then a run
  pub one_on : (regs : Regs) (words : List ℕ) (regs1 : Regs) (words1 : List ℕ) (pc pc1 pc2 k m : ℕ) (v : Value) → Sure code relied (IsApart s) (own pc regs words) (own pc1 regs1 words1) → Keeps s k regs words regs1 words1 → Runs regs1 words1 pc1 pc2 k m v → Runs regs words pc pc2 k (1 + m) v
  one_on regs words regs1 words1 pc pc1 pc2 k m v sure h r = and_on 1 regs words regs1 words1 pc pc1 pc2 k m v (own pc1 regs1 words1, sure, refl) h r

  -- a run that gives a word, and then a run
  pub run_on : (regs : Regs) (words : List ℕ) (pc pc1 pc2 k m n a : ℕ) (v : Value) → Runs regs words pc pc1 k m (word a) → ((regs1 : Regs) (words1 : List ℕ) → Keeps s k regs words regs1 words1 → regs1.r0 ≡ a → Runs regs1 words1 pc1 pc2 k n v) → Runs regs words pc pc2 k (m + n) v
  run_on regs words pc pc1 pc2 k m n a v h next =
      let f = h.few in
      looser regs words pc pc2 pc2 k k (h.count + n) (m + n) v refl (omega arith) (omega arith) (and_on h.count regs words h.regs' h.words' pc pc1 pc2 k n v h.way h.keeps (next h.regs' h.words' h.keeps h.value))

  -- a step that changes no word
  pub by_quiet : (i : Instr) (regs regs' : Regs) (words : List ℕ) (pc pc' : ℕ) → slice_get code.instrs pc ≡ Some i → IsPlain i → ((ws : List ℕ) → Agree code relied (IsApart s) words ws → local_row (own pc regs ws) i ≡ makes (own pc' regs' ws)) → Sure code relied (IsApart s) (own pc regs words) (own pc' regs' words)
  by_quiet i regs regs' words pc pc' stands plain turn = record { instr = i; stands = stands; plain = plain; goes = λ ws h. record { words = ws; made = turn ws h; agree = h; apart = λ w e. refl } }

  -- what the thread stands on: its own words from word s on, dp, and the words that no piece of code changes
  pub record Ready (dp : ℕ) (first : List ℕ) (regs : Regs) (words : List ℕ) : Type 0 where
    pub sp_is : regs.sp ≡ 4 * s
    pub dp_is : regs.dp ≡ dp
    pub within : s + temporary ≤ length words
    pub same : (w : ℕ) → IsApart s w → slice_get words w ≡ slice_get first w

  pub ready_kept : (dp : ℕ) (first : List ℕ) (k : ℕ) (regs : Regs) (words : List ℕ) (regs' : Regs) (words' : List ℕ) → Ready dp first regs words → Keeps s k regs words regs' words' → Ready dp first regs' words'
  ready_kept dp first k regs words regs' words' r h =
      let e = h.size in
      let f = r.within in
      record {
        sp_is = h.others Sp refl ∙ r.sp_is;
        dp_is = h.others Dp refl ∙ r.dp_is;
        within = omega arith;
        same = λ w e. h.same w (apart_saved s k w e) ∙ r.same w e;
      }
    where
      apart_saved : (s k w : ℕ) → IsApart s w → IsSaved s k w
      apart_saved s k w (inl h) = inl (omega arith)
      apart_saved s k w (inr h) = inr h

  -- a word of the layout is there
  pub word_there : (dp : ℕ) (first : List ℕ) (regs : Regs) (words : List ℕ) (address x : ℕ) → Ready dp first regs words → IsWord relied s first address x → (ws : List ℕ) → Agree code relied (IsApart s) words ws → word_at ws address ≡ Some x
  word_there dp first regs words address x r h ws g =
      word_by_same first ws address (nat_eq (address % 4) 0) (g.by (address / 4) h.relied_on ∙ r.same (address / 4) h.apart) ∙ h.there

  module _ (small : s + temporary ≤ 16384) (mine : (k : ℕ) → k < temporary → relied (s + k) ≡ true) where
    -- the address of a temporary word
    temporary_at : (k : ℕ) → k < temporary → (address_at (4 * s) k % 4 ≡ 0) × (address_at (4 * s) k / 4 ≡ s + k)
    temporary_at k lt =
        let e : address_at (4 * s) k ≡ 4 * (s + k) = omega arith in
        (omega arith, omega arith)

    temporary_word : (ws : List ℕ) (k : ℕ) → k < temporary → word_at ws (address_at (4 * s) k) ≡ slice_get ws (s + k)
    temporary_word ws k lt =
        let t = temporary_at k lt in
        ap (λ n. word_by ws (address_at (4 * s) k) (nat_eq n 0)) t.0 ∙ ap (slice_get ws) t.1

    -- the k-th temporary word is set to a register's
    pub by_save : (from : Reg) (dp : ℕ) (first : List ℕ) (regs : Regs) (words : List ℕ) (pc k : ℕ) → slice_get code.instrs pc ≡ Some (Stwsp from k) → k < temporary → Ready dp first regs words → Sure code relied (IsApart s) (own pc regs words) (own (pc + 1) regs (slice_set words (s + k) (reg_get regs from)))
    by_save from dp first regs words pc k stands lt r =
        let v = reg_get regs from in
        let n = r.within in
        let old = get_or words (s + k) 0 in
        let there : slice_get words (s + k) ≡ Some old = slice_get-get_or words (s + k) 0 (omega arith) in
        let t = temporary_at k lt in
        record {
          instr = Stwsp from k;
          stands = stands;
          plain = record { row_is = λ h c t th. refl; no_event = refl };
          goes = λ ws g.
              let same = g.by (s + k) (mine k lt) in
              record {
                words = slice_set ws (s + k) v;
                made =
                    ap (λ p. stores_at (own pc regs ws) v (address_at p k)) r.sp_is
                    ∙ ap (stores (own pc regs ws) v (address_at (4 * s) k)) (temporary_word ws k lt ∙ same ∙ there)
                    ∙ ap (λ w. makes (own (pc + 1) regs (slice_set ws w v))) t.1;
                agree = record { by = λ w e. get_set_both words ws (s + k) w old v there same (g.by w e) };
                apart = λ w e. get_set_other ws (s + k) w v (λ f. apart_far w e f);
              };
        }
      where
        apart_far : (w : ℕ) → IsApart s w → w ≡ s + k → ⊥
        apart_far w (inl h) f = absurd (omega arith)
        apart_far w (inr h) f = absurd (omega arith)

    -- and read again into a register
    pub by_restore : (to : Reg) (dp : ℕ) (first : List ℕ) (regs : Regs) (words : List ℕ) (pc k x : ℕ) → slice_get code.instrs pc ≡ Some (Ldwsp to k) → k < temporary → Ready dp first regs words → slice_get words (s + k) ≡ Some x → Sure code relied (IsApart s) (own pc regs words) (own (pc + 1) (reg_set regs to x) words)
    by_restore to dp first regs words pc k x stands lt r there =
        by_quiet (Ldwsp to k) regs (reg_set regs to x) words pc (pc + 1) stands (record { row_is = λ h c t th. refl; no_event = refl }) (λ ws g.
        ap (λ p. loads (own pc regs ws) to (word_at ws (address_at p k))) r.sp_is
        ∙ ap (loads (own pc regs ws) to) (temporary_word ws k lt ∙ g.by (s + k) (mine k lt) ∙ there))
