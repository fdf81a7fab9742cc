-- Pieces that follow one another.
use Rattle.std.proofs.Common.{◌≡◌, ℕ, zero, suc, ◌+◌, ◌-◌, ◌*◌, inl, inr, Bool, true, false, List, [], ◌∷◌, ◌++◌, length, Option, refl, sym, ap, ◌∙◌, subst, arith, length-append}
use Rattle.std.specs.Prelude.{nat_eq}
use Rattle.xw_words.specs.declared.pos.Pos.{Pos}
use Rattle.xs_instr.specs.declared.image.Home.{Home}
use Rattle.xs_instr.specs.declared.instr.Instr.TheVariants.{Brff}
use Rattle.xs_instr.specs.declared.instr.Reg.{Reg}
use Rattle.xs_instr.specs.declared.instr.Reg.TheVariants.{R0, R11, Dp, Sp}
use Rattle.xs_instr.specs.declared.state.CoreState.{CoreState}
use Rattle.xs_instr.specs.declared.state.Thread.{Thread}
use Rattle.xs_instr.specs.Did.{map_did, makes}
use Rattle.xs_instr.specs.Registers.{reg_get}
use Rattle.xs_instr.specs.Rows.{put_local, jumps_by}
use Rattle.xc_kernel.specs.Plain as kernel
use Rattle.xc_kernel.specs.Values.{Value, word, error}
use Rattle.xc_kernel.specs.Eval.{Store, eval}
use Rattle.xs_instr.specs.Lines.{Line, line}
use Rattle.xs_instr.specs.OwnSteps.{IsApart, HasRoom, Kept, RunsAt, StandAt, Within}
use Rattle.xl_expr.specs.declared.plan.VarPlan.{VarPlan}
use Rattle.xl_expr.specs.Measures.{nodes, nodes_at}
use Rattle.xl_expr.specs.Stores.{StoreOutcome, Stores, Writes, IsAddress, index_in, is_working}
use Rattle.xl_expr.specs.Works.{IsLaid, PlaceIsLaid, Gives, Outcome, Evaluates, steps_before, is_scratch, same_reg}
use Rattle.xl_expr.proofs.Lists.{stand_front, stand_back, room_kept}
use Rattle.xl_expr.proofs.Ways.{own, IsPlain, Fits, turn_is}
use Rattle.xl_expr.proofs.Evaluates.{within_more, within_most, then_within}
use Rattle.xl_expr.proofs.Lasting.{place_lasts, address_lasts}
use Rattle.xl_flow.specs.Flow.{SetOutcome, Sets, Branches, TestOutcome, Tests, chosen}

-- a register that a store leaves, and which is not r0
scratch_r0 : (r : Reg) → is_scratch r ≡ false → same_reg r R0 ≡ false
scratch_r0 R0 h = cc
scratch_r0 other h = refl

working_scratch : (r : Reg) → is_working r ≡ false → is_scratch r ≡ false
working_scratch R0 h = cc
working_scratch R11 h = cc
working_scratch other h = refl

-- where it holds now it holds within any number of steps
pub within_now : (home : Home) (relied : ℕ → Bool) (leaves : ℕ → Type 0) (t : ℕ) (Q : CoreState → Type 0) (n : ℕ) (a : CoreState) → Q a → Within home relied leaves t Q n a
within_now home relied leaves t Q n a h = within_more home relied leaves t Q 0 n (omega arith) a h

-- another way to say it
pub within_map : (home : Home) (relied : ℕ → Bool) (leaves : ℕ → Type 0) (t : ℕ) (P Q : CoreState → Type 0) → ((b : CoreState) → P b → Q b) → (n : ℕ) (a : CoreState) → Within home relied leaves t P n a → Within home relied leaves t Q n a
within_map home relied leaves t P Q f zero a h = f a h
within_map home relied leaves t P Q f (suc n) a (inl h) = inl (f a h)
within_map home relied leaves t P Q f (suc n) a (inr h) = inr (λ b k. let x = h b k in (x.0, x.1, within_map home relied leaves t P Q f n x.0 x.2))

-- after an expression the thread is at work again
module _ (relied : ℕ → Bool) (s t : ℕ) (pc pc1 v : ℕ) (thread : Thread) (a b : CoreState) (at_work : RunsAt t pc thread a) (room : HasRoom relied s thread.regs a.words) (g : Gives relied s t thread a.words R0 pc1 v b) where
  abbrev after : Thread
  after = record thread { pc = pc1; regs = g.regs }

  pub works_on : RunsAt t pc1 after b
  works_on = record { here = g.here; pc_is = refl; runs = at_work.runs; no_events = at_work.no_events }

  pub has_room : HasRoom relied s g.regs b.words
  has_room = record { sp_is = g.others Sp refl refl ∙ room.sp_is; small = room.small; within = g.within; relied_on = room.relied_on }

  pub dp_is : g.regs.dp ≡ thread.regs.dp
  dp_is = g.others Dp refl refl

-- an assignment
module _ (vars : List (Option VarPlan)) (place : kernel.Place) (x : kernel.Expression) (pc : ℕ) (ls ms : List Line) (ev : Evaluates vars x R0 pc ls) (st : Stores vars place R0 (pc + length ls) ms) where
  module _ (home : Home) (relied : ℕ → Bool) (s t : ℕ) (thread : Thread) (store : Store) (a : CoreState) (stand : StandAt home.parts.code pc (ls ++ ms)) (at_work : RunsAt t pc thread a) (room : HasRoom relied s thread.regs a.words) (laid : IsLaid vars relied s thread.regs.dp a.words store x) (place_laid : PlaceIsLaid vars relied s thread.regs.dp a.words store place) where
    end_is : pc + length ls + length ms ≡ pc + length (ls ++ ms)
    end_is = omega (arith, length-append ls ms)

    -- what the store says of the thread after the expression holds of the thread before it
    told_before : (v : ℕ) (b : CoreState) (g : Gives relied s t thread a.words R0 (pc + length ls) v b) (i : Value) (c : CoreState) → StoreOutcome vars home relied s t (after relied s t pc (pc + length ls) v thread a b at_work room g) b.words place (reg_get g.regs R0) (pc + length ls + length ms) i c → StoreOutcome vars home relied s t thread a.words place v (pc + length (ls ++ ms)) i c
    told_before v b g (error kind pos) c h = h
    told_before v b g (word i) c h =
        let address : ℕ = h.0 in
        let is_address = address_lasts vars relied s thread.regs.dp b.words a.words store (λ w r e. sym (g.words w r e)) place i address (subst (λ d. IsAddress vars relied s d b.words place i address) (dp_is relied s t pc (pc + length ls) v thread a b at_work room g) h.1) in
        let all : (d : CoreState) → Kept relied t c d → Writes home relied s t thread a.words address (reg_get g.regs R0) (pc + length ls + length ms) d = λ d k.
        let w = h.2 d k in
        record {
          index = w.index;
          regs = w.regs;
          here = w.here;
          others = λ r e. w.others r e ∙ g.others r (working_scratch r e) (scratch_r0 r (working_scratch r e));
          within = w.within;
          words = λ n r e. w.words n r e ∙ g.words n r e;
          made = w.made;
        } in
        (address, is_address, subst (λ n. (d : CoreState) → Kept relied t c d → Writes home relied s t thread a.words address n (pc + length (ls ++ ms)) d) g.value (subst (λ p. (d : CoreState) → Kept relied t c d → Writes home relied s t thread a.words address (reg_get g.regs R0) p d) end_is all))

    on : (val : Value) (b : CoreState) → Outcome home relied s t thread a.words R0 (pc + length ls) val b → Within home relied (IsApart s) t (SetOutcome vars home relied s t thread a.words place (pc + length (ls ++ ms)) val (index_in store place)) (8 * nodes_at place - 1) b
    on (error kind pos) b h = within_now home relied (IsApart s) t (SetOutcome vars home relied s t thread a.words place (pc + length (ls ++ ms)) (error kind pos) (index_in store place)) (8 * nodes_at place - 1) b h
    on (word v) b g =
        let thread' = after relied s t pc (pc + length ls) v thread a b at_work room g in
        let laid' = place_lasts vars relied s thread.regs.dp a.words b.words store g.words place place_laid in
        let laid'' = subst (λ d. PlaceIsLaid vars relied s d b.words store place) (sym (dp_is relied s t pc (pc + length ls) v thread a b at_work room g)) laid' in
        within_map home relied (IsApart s) t
        (StoreOutcome vars home relied s t thread' b.words place (reg_get g.regs R0) (pc + length ls + length ms) (index_in store place))
        (StoreOutcome vars home relied s t thread a.words place v (pc + length (ls ++ ms)) (index_in store place))
        (told_before v b g (index_in store place)) (8 * nodes_at place - 1) b
        (st.by home relied s t thread' store b (stand_back home.parts.code pc ls ms stand) (works_on relied s t pc (pc + length ls) v thread a b at_work room g) (has_room relied s t pc (pc + length ls) v thread a b at_work room g) laid'')

    sets_by : Within home relied (IsApart s) t (SetOutcome vars home relied s t thread a.words place (pc + length (ls ++ ms)) (eval store x) (index_in store place)) (8 * nodes x + (8 * nodes_at place - 1)) a
    sets_by =
        then_within home relied (IsApart s) t (Outcome home relied s t thread a.words R0 (pc + length ls) (eval store x)) (SetOutcome vars home relied s t thread a.words place (pc + length (ls ++ ms)) (eval store x) (index_in store place)) (8 * nodes x) (8 * nodes_at place - 1) a
        (within_most home relied (IsApart s) t (Outcome home relied s t thread a.words R0 (pc + length ls) (eval store x)) (eval store x) (8 * nodes x) a
        (ev.by home relied s t thread store a (stand_front home.parts.code pc ls ms stand) at_work room laid))
        (on (eval store x))

  pub joined_sets : Sets vars place x pc (ls ++ ms)
  joined_sets = record { by = sets_by }

-- a test
module _ (vars : List (Option VarPlan)) (x : kernel.Expression) (pc : ℕ) (place : Pos) (ls : List Line) (ev : Evaluates vars x R0 pc ls) where
  module _ (target : ℕ) (home : Home) (relied : ℕ → Bool) (s t : ℕ) (thread : Thread) (store : Store) (a : CoreState) (stand : StandAt home.parts.code pc (ls ++ line (Brff R0 target) place ∷ [])) (at_work : RunsAt t pc thread a) (room : HasRoom relied s thread.regs a.words) (laid : IsLaid vars relied s thread.regs.dp a.words store x) where
    jumps_so : (v : ℕ) (b : CoreState) (g : Gives relied s t thread a.words R0 (pc + length ls) v b) (c : CoreState) → Kept relied t b c → Branches home relied s t thread a.words (chosen target (pc + length ls + 1) (nat_eq v 0)) c
    jumps_so v b g c k =
        let here = k.thread ∙ g.here in
        let o = own (pc + length ls) g.regs c.words in
        let fits : Fits home.parts.code relied (IsApart s) t thread o c = record { here = here; words = record { by = λ w r. refl } } in
        let plain : IsPlain (Brff R0 target) = record { row_is = λ h d u th. refl; no_event = refl } in
        let behind = stand_back home.parts.code pc ls (line (Brff R0 target) place ∷ []) stand in
        let th : Thread = record thread { pc = pc + length ls; regs = g.regs } in
        record {
          index = pc + length ls;
          regs = g.regs;
          here = here;
          others = λ r e. g.others r e (scratch_r0 r e);
          within = room_kept relied s room.relied_on b.words c.words g.within k.words;
          words = λ w r e. k.words w r ∙ g.words w r e;
          made =
              turn_is home.parts.code relied (IsApart s) home t thread at_work.runs at_work.no_events refl c o (Brff R0 target) fits behind.0 plain
              ∙ ap (λ n. map_did (put_local c t th) (jumps_by o target (nat_eq n 0))) g.value
              ∙ by_test (nat_eq v 0);
        }
      where
        by_test : (z : Bool) → map_did (put_local c t (record thread { pc = pc + length ls; regs = g.regs })) (jumps_by (own (pc + length ls) g.regs c.words) target z) ≡ makes (put_local c t (record thread { pc = pc + length ls; regs = g.regs }) (own (chosen target (pc + length ls + 1) z) g.regs c.words))
        by_test true = refl
        by_test false = refl

    outcome : (val : Value) (b : CoreState) → Outcome home relied s t thread a.words R0 (pc + length ls) val b → TestOutcome home relied s t thread a.words target (pc + length ls + 1) val b
    outcome (word v) b g = jumps_so v b g
    outcome (error kind pos) b h = h

    tests_by : Within home relied (IsApart s) t (TestOutcome home relied s t thread a.words target (pc + length ls + 1) (eval store x)) (steps_before (eval store x) (8 * nodes x)) a
    tests_by =
        within_map home relied (IsApart s) t (Outcome home relied s t thread a.words R0 (pc + length ls) (eval store x)) (TestOutcome home relied s t thread a.words target (pc + length ls + 1) (eval store x)) (outcome (eval store x)) (steps_before (eval store x) (8 * nodes x)) a
        (ev.by home relied s t thread store a (stand_front home.parts.code pc ls (line (Brff R0 target) place ∷ []) stand) at_work room laid)

  pub tested : Tests vars x pc place ls
  tested = record { by = tests_by }
