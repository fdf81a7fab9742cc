-- The code of an expression gives its word in a register, on a core, whatever other threads do.
use Rattle.std.proofs.Common.{◌≡◌, ℕ, ◌+◌, ◌-◌, ◌*◌, ◌≤◌, inl, inr, Bool, false, List, [], ◌∷◌, ◌++◌, length, Option, Some, None, refl, sym, ap, ◌∙◌, subst, arith, length-append, suc, zero}
use Rattle.std.specs.Prelude.{slice_get, bit_or}
use Rattle.std.specs.Int.Bits.{or_self}
use Rattle.xw_words.specs.declared.pos.Pos.{Pos}
use Rattle.xs_instr.specs.declared.image.Code.{Code}
use Rattle.xs_instr.specs.declared.image.Home.{Home}
use Rattle.xs_instr.specs.declared.instr.Instr.TheVariants.{Or}
use Rattle.xs_instr.specs.declared.instr.Reg.{Reg}
use Rattle.xs_instr.specs.declared.instr.Reg.TheVariants.{R0}
use Rattle.xs_instr.specs.declared.state.CoreState.{CoreState}
use Rattle.xs_instr.specs.declared.state.Regs.{Regs}
use Rattle.xs_instr.specs.declared.state.Thread.{Thread}
use Rattle.xs_instr.specs.Registers.{reg_get, reg_set}
use Rattle.xc_kernel.specs.Plain as kernel
use Rattle.xc_kernel.specs.Values.{Value, word, error}
use Rattle.xc_kernel.specs.Eval.{Store, eval}
use Rattle.xs_instr.specs.Lines.{Line, at_pos, last_or}
use Rattle.xs_instr.specs.OwnSteps.{HasRoom, IsApart, RunsAt, StandAt, Within, temporary}
use Rattle.xl_expr.specs.declared.plan.VarPlan.{VarPlan}
use Rattle.xl_expr.specs.Measures.{nodes, depth}
use Rattle.xl_expr.specs.Code.{direct_of, expression_code, code_by, code_to}
use Rattle.xl_expr.specs.declared.direct_operand.Direct.{Direct}
use Rattle.xl_expr.specs.Works.{IsLaid, Gives, Outcome, Evaluates, steps_before, same_reg, is_scratch}
use Rattle.xl_expr.proofs.Lists.{stand_front, stand_back, room_kept}
use Rattle.xl_expr.proofs.Ways.{own, Agree, way_on, Fits, way_leads, fails_errs}
use Rattle.xl_expr.specs.Above.{IsSaved}
use Rattle.xl_expr.proofs.Runs.{Runs, Ready, by_quiet}
use Rattle.xl_expr.proofs.Registers.{reg_same, reg_other}
use Rattle.xl_expr.proofs.Pieces.{brings}
use Rattle.xl_expr.proofs.Operations.{HasDirect}
use Rattle.xl_expr.proofs.Expressions.{direct_means, expression_means}

pub some_nodes : (x : kernel.Expression) → 1 ≤ nodes x
some_nodes (kernel.number v) = omega arith
some_nodes (kernel.read (kernel.word v)) = omega arith
some_nodes (kernel.read (kernel.element v i pos)) = omega arith
some_nodes (kernel.operation o u es pos) = omega arith

-- more steps may be taken
pub within_more : (home : Home) (relied : ℕ → Bool) (leaves : ℕ → Type 0) (t : ℕ) (Q : CoreState → Type 0) (m n : ℕ) → m ≤ n → (a : CoreState) → Within home relied leaves t Q m a → Within home relied leaves t Q n a
within_more home relied leaves t Q zero zero le a h = h
within_more home relied leaves t Q zero (suc n) le a h = inl h
within_more home relied leaves t Q (suc m) zero le a h = absurd (omega arith)
within_more home relied leaves t Q (suc m) (suc n) le a (inl h) = inl h
within_more home relied leaves t Q (suc m) (suc n) le a (inr h) = inr (λ b k. let x = h b k in (x.0, x.1, within_more home relied leaves t Q m n (omega arith) x.0 x.2))

-- before an error there is a step less
pub steps_few : (v : Value) (most : ℕ) → steps_before v most ≤ most
steps_few (word v) most = omega arith
steps_few (error kind pos) most = omega arith

steps_more : (v : Value) (m n : ℕ) → m ≤ n → steps_before v m ≤ steps_before v n
steps_more (word v) m n le = le
steps_more (error kind pos) m n le = omega arith

pub within_most : (home : Home) (relied : ℕ → Bool) (leaves : ℕ → Type 0) (t : ℕ) (Q : CoreState → Type 0) (v : Value) (most : ℕ) (a : CoreState) → Within home relied leaves t Q (steps_before v most) a → Within home relied leaves t Q most a
within_most home relied leaves t Q v most a h = within_more home relied leaves t Q (steps_before v most) most (steps_few v most) a h

-- one piece of code after another
pub then_within : (home : Home) (relied : ℕ → Bool) (leaves : ℕ → Type 0) (t : ℕ) (P Q : CoreState → Type 0) (m n : ℕ) (a : CoreState) → Within home relied leaves t P m a → ((b : CoreState) → P b → Within home relied leaves t Q n b) → Within home relied leaves t Q (m + n) a
then_within home relied leaves t P Q zero n a h next = within_more home relied leaves t Q n (0 + n) (omega arith) a (next a h)
then_within home relied leaves t P Q (suc m) n a (inl h) next = within_more home relied leaves t Q n (suc m + n) (omega arith) a (next a h)
then_within home relied leaves t P Q (suc m) n a (inr h) next =
    let e : suc (m + n) ≡ suc m + n = omega arith in
    let all : Within home relied leaves t Q (suc (m + n)) a = inr (λ b k. let x = h b k in (x.0, x.1, then_within home relied leaves t P Q m n x.0 x.2 next)) in
    subst (λ i. Within home relied leaves t Q i a) e all

module _ (home : Home) (relied : ℕ → Bool) (s t : ℕ) (thread : Thread) (a : CoreState) (pc : ℕ) (at_work : RunsAt t pc thread a) (room : HasRoom relied s thread.regs a.words) where
  abbrev my_code : Code
  my_code = home.parts.code

  pub small : s + temporary ≤ 16384
  small = room.small

  pub starts : Fits my_code relied (IsApart s) t thread (own pc thread.regs a.words) a
  starts = record { here = at_work.here ∙ ap (λ p. Some (record thread { pc = p })) at_work.pc_is; words = record { by = λ w r. refl } }

  pub ready : Ready my_code relied s thread.regs.dp a.words thread.regs a.words
  ready = record { sp_is = room.sp_is; dp_is = refl; within = room.within; same = λ w h. refl }

  apart_saved : (w : ℕ) → IsApart s w → IsSaved s 0 w
  apart_saved w (inl h) = inl (omega arith)
  apart_saved w (inr h) = inr h

  -- at the end of a way the thread stands so
  last_there : (words' : List ℕ) → length words' ≡ length a.words → (b : CoreState) → Agree my_code relied (IsApart s) words' b.words → s + temporary ≤ length b.words
  last_there words' size b agree = let w = room.within in room_kept relied s room.relied_on words' b.words (omega arith) agree.by

  pub gives_by : (to : Reg) (pc' v : ℕ) (regs' : Regs) (words' : List ℕ) → length words' ≡ length a.words → reg_get regs' to ≡ v → ((r : Reg) → is_scratch r ≡ false → same_reg r to ≡ false → reg_get regs' r ≡ reg_get thread.regs r) → ((w : ℕ) → IsApart s w → slice_get words' w ≡ slice_get a.words w) → (b : CoreState) → Fits my_code relied (IsApart s) t thread (own pc' regs' words') b → Gives relied s t thread a.words to pc' v b
  gives_by to pc' v regs' words' size value others same b f = record { regs = regs'; within = last_there words' size b f.words; here = f.here; value = value; others = others; words = λ w r h. f.words.by w r ∙ same w h }

  abbrev Reaches : Reg → ℕ → ℕ → Value → Type 0
  Reaches to pc' most v = Within home relied (IsApart s) t (Outcome home relied s t thread a.words to pc' v) (steps_before v most) a

  -- the word stays in r0
  stays : (pc' most : ℕ) (v : Value) → Runs my_code relied s thread.regs a.words pc pc' 0 most v → Reaches R0 pc' (most + 1) v
  stays pc' most (word v) r =
      let few = r.few in
      way_leads my_code relied (IsApart s) home t thread at_work.runs at_work.no_events refl _ r.count (most + 1) (own pc thread.regs a.words) (own pc' r.regs' r.words') (omega arith) r.way (gives_by R0 pc' v r.regs' r.words' r.keeps.size r.value (λ q e ne. r.keeps.others q e) (λ w h. r.keeps.same w (apart_saved w h))) a starts
  stays pc' most (error kind pos) r =
      let few = r.few in
      way_leads my_code relied (IsApart s) home t thread at_work.runs at_work.no_events refl _ r.count (most + 1 - 1) (own pc thread.regs a.words) r.there (omega arith) r.way (λ b f. fails_errs my_code relied (IsApart s) home t thread at_work.runs at_work.no_events refl kind pos r.there r.fails b f) a starts

  -- it goes to another register
  moves : (to : Reg) (pc1 most : ℕ) (last : Pos) (v : Value) → StandAt my_code pc1 (at_pos last (Or to R0 R0 ∷ [])) → Runs my_code relied s thread.regs a.words pc pc1 0 most v → Reaches to (pc1 + 1) (most + 1) v
  moves to pc1 most last (word v) st r =
      let few = r.few in
      let regs2 = reg_set r.regs' to (bit_or r.regs'.r0 r.regs'.r0) in
      let sure = by_quiet my_code relied s (Or to R0 R0) r.regs' regs2 r.words' pc1 (pc1 + 1) st.0 (record { row_is = λ h c t th. refl; no_event = refl }) (λ (ws : List ℕ) (g : Agree my_code relied (IsApart s) r.words' ws). refl) in
      let all = way_on my_code relied (IsApart s) r.count 1 (own pc thread.regs a.words) (own pc1 r.regs' r.words') (own (pc1 + 1) regs2 r.words') r.way (own (pc1 + 1) regs2 r.words', sure, refl) in
      way_leads my_code relied (IsApart s) home t thread at_work.runs at_work.no_events refl _ (r.count + 1) (most + 1) (own pc thread.regs a.words) (own (pc1 + 1) regs2 r.words') (omega arith) all (gives_by to (pc1 + 1) v regs2 r.words' r.keeps.size (reg_same r.regs' to (bit_or r.regs'.r0 r.regs'.r0) ∙ or_self r.regs'.r0 ∙ r.value) (λ q e ne. reg_other r.regs' to q (bit_or r.regs'.r0 r.regs'.r0) ne ∙ r.keeps.others q e) (λ w h. r.keeps.same w (apart_saved w h))) a starts
  moves to pc1 most last (error kind pos) st r =
      let few = r.few in
      way_leads my_code relied (IsApart s) home t thread at_work.runs at_work.no_events refl _ r.count (most + 1 - 1) (own pc thread.regs a.words) r.there (omega arith) r.way (λ b f. fails_errs my_code relied (IsApart s) home t thread at_work.runs at_work.no_events refl kind pos r.there r.fails b f) a starts

  module _ (vars : List (Option VarPlan)) (x : kernel.Expression) (last : Pos) (store : Store) (laid : IsLaid vars relied s thread.regs.dp a.words store x) (shallow : depth x ≤ temporary) where
    runs_here : StandAt my_code pc (expression_code vars x 0 pc last) → Runs my_code relied s thread.regs a.words pc (pc + length (expression_code vars x 0 pc last)) 0 (7 * nodes x) (eval store x)
    runs_here st = (expression_means my_code relied s small room.relied_on thread.regs.dp a.words vars store x laid).by 0 pc last thread.regs a.words st (omega arith) ready

    end_is : (is : List Line) → pc + length (expression_code vars x 0 pc last) + length is ≡ pc + length (expression_code vars x 0 pc last ++ is)
    end_is is = omega (arith, length-append (expression_code vars x 0 pc last) is)

    reaches_on : (to : Reg) (pc' pc'' m n : ℕ) → pc' ≡ pc'' → m ≤ n → Reaches to pc' m (eval store x) → Reaches to pc'' n (eval store x)
    reaches_on to pc' pc'' m n e le h = subst (λ p. Reaches to p n (eval store x)) e (within_more home relied (IsApart s) t (Outcome home relied s t thread a.words to pc' (eval store x)) (steps_before (eval store x) m) (steps_before (eval store x) n) (steps_more (eval store x) m n le) a h)

    abbrev behind : Pos
    behind = last_or last (expression_code vars x 0 pc last)

    moved : (to : Reg) → StandAt my_code pc (expression_code vars x 0 pc last ++ at_pos behind (Or to R0 R0 ∷ [])) → Reaches to (pc + length (expression_code vars x 0 pc last ++ at_pos behind (Or to R0 R0 ∷ []))) (8 * nodes x) (eval store x)
    moved to st =
        let ls = expression_code vars x 0 pc last in
        let tail = at_pos behind (Or to R0 R0 ∷ []) in
        let some = some_nodes x in
        reaches_on to (pc + length ls + 1) (pc + length (ls ++ tail)) (7 * nodes x + 1) (8 * nodes x) (end_is tail) (omega arith)
        (moves to (pc + length ls) (7 * nodes x) behind (eval store x) (stand_back my_code pc ls tail st) (runs_here (stand_front my_code pc ls tail st)))

    -- by the whole code
    by_code : (to : Reg) → StandAt my_code pc (code_by None vars x to pc last) → Reaches to (pc + length (code_by None vars x to pc last)) (8 * nodes x) (eval store x)
    by_code R0 st =
        let ls = expression_code vars x 0 pc last in
        let some = some_nodes x in
        reaches_on R0 (pc + length ls) (pc + length (ls ++ [])) (7 * nodes x + 1) (8 * nodes x) (omega (arith, end_is [])) (omega arith)
        (stays (pc + length ls) (7 * nodes x) (eval store x) (runs_here (stand_front my_code pc ls [] st)))
    by_code other st = moved other st

    -- or by one instruction
    by_direct : (to : Reg) (direct : Option Direct) → HasDirect my_code relied s small room.relied_on thread.regs.dp a.words direct (eval store x) → StandAt my_code pc (code_by direct vars x to pc last) → Reaches to (pc + length (code_by direct vars x to pc last)) (8 * nodes x) (eval store x)
    by_direct to (Some d) h st =
        let v = h.0 in
        let regs1 = reg_set thread.regs to v in
        let sure = brings my_code relied s small room.relied_on thread.regs.dp a.words d v to thread.regs a.words pc h.2 st.0 ready in
        let some = some_nodes x in
        subst (Reaches to (pc + 1) (8 * nodes x)) (sym h.1)
        (way_leads my_code relied (IsApart s) home t thread at_work.runs at_work.no_events refl _ 1 (8 * nodes x) (own pc thread.regs a.words) (own (pc + 1) regs1 a.words) (omega arith) (own (pc + 1) regs1 a.words, sure, refl) (gives_by to (pc + 1) v regs1 a.words refl (reg_same thread.regs to v) (λ q e ne. reg_other thread.regs to q v ne) (λ w h. refl)) a starts)
    by_direct to None h st = by_code to st

    pub to_register : (to : Reg) → StandAt my_code pc (code_to vars x to pc last) → Reaches to (pc + length (code_to vars x to pc last)) (8 * nodes x) (eval store x)
    to_register to st = by_direct to (direct_of vars x) (direct_means my_code relied s small room.relied_on thread.regs.dp a.words vars store x laid) st

-- the public clause, from the code alone
pub code_evaluates : (vars : List (Option VarPlan)) (x : kernel.Expression) (to : Reg) (pc : ℕ) (last : Pos) → depth x ≤ temporary → Evaluates vars x to pc (code_to vars x to pc last)
code_evaluates vars x to pc last shallow = record {
  by = λ home relied s t thread store a st at_work room laid. to_register home relied s t thread a pc at_work room vars x last store laid shallow to st;
}
