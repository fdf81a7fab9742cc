-- What the code that sets a variable's words to 0 does up to its last store, and what that one does.
use Rattle.std.proofs.Common.{◌≡◌, ℕ, suc, ◌+◌, ◌*◌, Bool, true, false, List, ◌∷◌, length, Option, Some, refl, sym, ap, ◌∙◌, subst, arith, length-append}
use Rattle.std.specs.Prelude.{◌/◌, ◌%◌, ◌^◌, nat_eq, slice_get}
use Rattle.xw_words.specs.declared.pos.Pos.{Pos}
use Rattle.xs_instr.specs.declared.image.Home.{Home}
use Rattle.xs_instr.specs.declared.instr.Instr.{Instr}
use Rattle.xs_instr.specs.declared.instr.Instr.TheVariants.{Ldc, Ldwdp, Stwdp, Stw}
use Rattle.xs_instr.specs.declared.instr.Reg.{Reg}
use Rattle.xs_instr.specs.declared.instr.Reg.TheVariants.{R0, R10, R11}
use Rattle.xs_instr.specs.declared.state.CoreState.{CoreState}
use Rattle.xs_instr.specs.declared.state.Regs.{Regs}
use Rattle.xs_instr.specs.declared.state.Thread.{Thread}
use Rattle.xs_instr.specs.Did.{makes, map_did}
use Rattle.xs_instr.specs.Lines.{at_pos}
use Rattle.xs_instr.specs.Memory.{address_at, word_at, word_put}
use Rattle.xs_instr.specs.OwnSteps.{Kept, RunsAt, StandAt, Within}
use Rattle.xs_instr.specs.Registers.{reg_get, reg_set}
use Rattle.xs_instr.specs.Rows.{local_row, put_local, stores_at}
use Rattle.xl_expr.specs.declared.plan.VarAt.{VarAt}
use Rattle.xl_expr.specs.declared.plan.VarAt.TheVariants.{Near, Far, Through}
use Rattle.xl_expr.specs.declared.plan.VarPlan.{VarPlan}
use Rattle.xl_expr.specs.Stores.{is_working}
use Rattle.xl_expr.proofs.Emitted.{at_pos-append}
use Rattle.xl_expr.proofs.Lists.{stand_front, stand_back, word_by_same}
use Rattle.xl_expr.proofs.Ways.{own, Fits, IsPlain, fits_kept, turn_is, way_on, way_leads}
use Rattle.xl_flow.specs.Zeros.{IsOutside, StandsFrom, WordsStand, WritesLast, Zeroed, Zeroes, far_write, near_write, words_set, writes, zero_code, zero_instrs, zero_of}
use Rattle.xl_flow.proofs.Zeroing.{all_written, are_zero, cleared, outside_kept, quiet_sure, still_there, store_made}
use Rattle.xl_flow.proofs.ZeroCode.{IsReady, IsBased, near_address, near_one, far_one, other_r0, other_r10, other_r11, starts, regs0, regs1, cleared_r0, first_step, second_step, zero_leads}

-- the code that writes one word more
module _ (write : ℕ → List Instr) (pos : Pos) (k pc : ℕ) where
  writes_end : pc + length (at_pos pos (writes write k)) + length (at_pos pos (write k)) ≡ pc + length (at_pos pos (writes write (suc k)))
  writes_end = omega (arith, ap length (at_pos-append pos (writes write k) (write k)), length-append (at_pos pos (writes write k)) (at_pos pos (write k)))

-- what the store of a far word does
far_turn : (index k base : ℕ) (regs : Regs) (ws : List ℕ) → regs.r0 ≡ 0 → regs.r11 ≡ base → local_row (own index (reg_set regs R10 k) ws) (Stw R0 R11 R10) ≡ stores_at (own index (reg_set regs R10 k) ws) 0 (address_at base k)
far_turn index k base regs ws r0_is r11_is =
    ap (λ v. stores_at (own index (reg_set regs R10 k) ws) v (address_at regs.r11 k)) r0_is
    ∙ ap (λ b. stores_at (own index (reg_set regs R10 k) ws) 0 (address_at b k)) r11_is

module _ (home : Home) (relied : ℕ → Bool) (t base k pc : ℕ) (last : Pos) (thread : Thread) (a : CoreState) (at_work : RunsAt t pc thread a) (stand : WordsStand relied a.words base (suc k)) where
  abbrev address : ℕ → ℕ
  address i = address_at base i

  abbrev all_but_last : List ℕ
  all_but_last = cleared a.words address k

  last_there : (x : ℕ) × (word_at all_but_last (address k) ≡ Some x)
  last_there = still_there a.words address (suc k) stand.there k k (omega arith) (omega arith)

  -- at the last store
  module _ (index pc' : ℕ) (regs : Regs) (i : Instr) (ends : index + 1 ≡ pc') (others : (r : Reg) → is_working r ≡ false → reg_get regs r ≡ reg_get thread.regs r) (stands : slice_get home.parts.code.instrs index ≡ Some i) (plain : IsPlain i) (turn : (ws : List ℕ) → local_row (own index regs ws) i ≡ stores_at (own index regs ws) 0 (address k)) where
    writes_last : (b : CoreState) → Fits home.parts.code relied (IsOutside base (suc k)) t thread (own index regs all_but_last) b → (c : CoreState) → Kept relied t b c → WritesLast home relied t thread a.words base k pc' c
    writes_last b fb c kept =
        let f = fits_kept home.parts.code relied (IsOutside base (suc k)) t thread (own index regs all_but_last) b c fb kept in
        let th : Thread = record thread { pc = index; regs = regs } in
        let next : suc k ≡ k + 1 = omega arith in
        record {
          index = index;
          regs = regs;
          here = f.here;
          zeros = λ j lt. word_by_same all_but_last c.words (address j) (nat_eq (address j % 4) 0) (f.words.by (address j / 4) (stand.relied_on j (omega arith))) ∙ are_zero a.words address (suc k) stand.there k j (omega arith) lt;
          there = (last_there.0, word_by_same all_but_last c.words (address k) (nat_eq (address k % 4) 0) (f.words.by (address k / 4) (stand.relied_on k (omega arith))) ∙ last_there.1);
          others = others;
          kept = λ w r outside. f.words.by w r ∙ outside_kept a.words address k w (λ j lt. outside j (omega arith));
          made =
              turn_is home.parts.code relied (IsOutside base (suc k)) home t thread at_work.runs at_work.no_events refl c (own index regs all_but_last) i f stands plain
              ∙ ap (map_did (put_local c t th)) (store_made home.parts.code relied (IsOutside base (suc k)) i index regs all_but_last (address k) last_there.0 (stand.relied_on k (omega arith)) last_there.1 turn c.words f.words)
              ∙ ap (λ p. makes (put_local c t th (own p regs (word_put c.words (address k) 0)))) ends;
        }

  abbrev Last : ℕ → CoreState → Type 0
  Last pc' b = (c : CoreState) → Kept relied t b c → WritesLast home relied t thread a.words base k pc' c

  near_last : (n : ℕ) → StandAt home.parts.code pc (at_pos last (Ldc R0 0 ∷ writes (near_write n) (suc k))) → base ≡ address_at thread.regs.dp n → Within home relied (IsOutside base (suc k)) t (Last (pc + length (at_pos last (Ldc R0 0 ∷ writes (near_write n) (suc k))))) (2 * suc k + 1) a
  near_last n st base_is =
      let code = home.parts.code in
      let L = IsOutside base (suc k) in
      let front = at_pos last (writes (near_write n) k) in
      let back = at_pos last (near_write n k) in
      let behind = subst (StandAt code (pc + 1)) (at_pos-append last (writes (near_write n) k) (near_write n k)) st.2 in
      let w = all_written code relied L (IsReady thread.regs) (near_write n) address last (suc k) (near_one code relied base (suc k) thread.regs last stand.relied_on n base_is) a.words stand.there k (pc + 1) (regs0 home relied t base (suc k) pc last thread a at_work stand) (omega arith) (stand_front code (pc + 1) front back behind) (cleared_r0 home relied t base (suc k) pc last thread a at_work stand) in
      let index = pc + 1 + length front in
      let f = w.few in
      let all = way_on code relied L 1 w.count (own pc thread.regs a.words) (own (pc + 1) (reg_set thread.regs R0 0) a.words) (own index w.regs' all_but_last) (first_step home relied t base (suc k) pc last thread a at_work stand st.0) w.way in
      let store = stand_back code (pc + 1) front back behind in
      let e : index + 1 ≡ pc + length (at_pos last (Ldc R0 0 ∷ writes (near_write n) (suc k))) = omega (arith, writes_end (near_write n) last k (pc + 1)) in
      way_leads code relied L home t thread at_work.runs at_work.no_events refl _ (1 + w.count) (2 * suc k + 1) (own pc thread.regs a.words) (own index w.regs' all_but_last) (omega arith) all
      (writes_last index (pc + length (at_pos last (Ldc R0 0 ∷ writes (near_write n) (suc k)))) w.regs' (Stwdp R0 ((n + k) % 2 ^ 32)) e w.ready.others store.0
      (record { row_is = λ h c t th. refl; no_event = refl })
      (λ ws.
      ap (λ v. stores_at (own index w.regs' ws) v (address_at w.regs'.dp ((n + k) % 2 ^ 32))) w.ready.r0_is
      ∙ ap (λ p. stores_at (own index w.regs' ws) 0 p) (ap (λ d. address_at d ((n + k) % 2 ^ 32)) w.ready.dp_is ∙ near_address thread.regs.dp n k ∙ ap (λ b. address_at b k) (sym base_is))))
      a (starts home relied t base (suc k) pc last thread a at_work stand)

  far_last : (n : ℕ) → StandAt home.parts.code pc (at_pos last (Ldc R0 0 ∷ Ldwdp R11 n ∷ writes far_write (suc k))) → word_at a.words (address_at thread.regs.dp n) ≡ Some base → relied (address_at thread.regs.dp n / 4) ≡ true → Within home relied (IsOutside base (suc k)) t (Last (pc + length (at_pos last (Ldc R0 0 ∷ Ldwdp R11 n ∷ writes far_write (suc k))))) (2 * suc k + 1) a
  far_last n st there relied_on =
      let code = home.parts.code in
      let L = IsOutside base (suc k) in
      let front = at_pos last (writes far_write k) in
      let back = at_pos last (far_write k) in
      let start = own pc thread.regs a.words in
      let regs' = regs1 home relied t base (suc k) pc last thread a at_work stand in
      let behind = subst (StandAt code (pc + 1 + 1)) (at_pos-append last (writes far_write k) (far_write k)) st.2.2 in
      let based : IsBased thread.regs base regs' = record { ready = record { r0_is = refl; dp_is = refl; others = λ r h. other_r11 (reg_set thread.regs R0 0) base r h ∙ other_r0 thread.regs 0 r h }; r11_is = refl } in
      let w = all_written code relied L (IsBased thread.regs base) far_write address last (suc k) (far_one code relied base (suc k) thread.regs last stand.relied_on) a.words stand.there k (pc + 1 + 1) regs' (omega arith) (stand_front code (pc + 1 + 1) front back behind) based in
      let before = pc + 1 + 1 + length front in
      let store = stand_back code (pc + 1 + 1) front back behind in
      let s = reg_set w.regs' R10 k in
      let f = w.few in
      let ready = w.ready.ready in
      let both = way_on code relied L 1 1 start (own (pc + 1) (reg_set thread.regs R0 0) a.words) (own (pc + 1 + 1) regs' a.words) (first_step home relied t base (suc k) pc last thread a at_work stand st.0) (second_step home relied t base (suc k) pc last thread a at_work stand n st.2.0 there relied_on) in
      let most = way_on code relied L 2 w.count start (own (pc + 1 + 1) regs' a.words) (own before w.regs' all_but_last) both w.way in
      let all = way_on code relied L (2 + w.count) 1 start (own before w.regs' all_but_last) (own (before + 1) s all_but_last) most
      (own (before + 1) s all_but_last, quiet_sure code relied L (Ldc R10 k) w.regs' s all_but_last before store.0 (record { row_is = λ h c t th. refl; no_event = refl }) (λ ws g. refl), refl) in
      let e : before + 1 + 1 ≡ pc + length (at_pos last (Ldc R0 0 ∷ Ldwdp R11 n ∷ writes far_write (suc k))) = omega (arith, writes_end far_write last k (pc + 1 + 1)) in
      way_leads code relied L home t thread at_work.runs at_work.no_events refl _ (2 + w.count + 1) (2 * suc k + 1) start (own (before + 1) s all_but_last) (omega arith) all
      (writes_last (before + 1) (pc + length (at_pos last (Ldc R0 0 ∷ Ldwdp R11 n ∷ writes far_write (suc k)))) s (Stw R0 R11 R10) e (λ r h. other_r10 w.regs' k r h ∙ ready.others r h) store.2.0
      (record { row_is = λ h c t th. refl; no_event = refl })
      (λ ws. far_turn (before + 1) k base w.regs' ws ready.r0_is w.ready.r11_is))
      a (starts home relied t base (suc k) pc last thread a at_work stand)

-- by where the variable stands
last_leads : (home : Home) (relied : ℕ → Bool) (t base words k pc : ℕ) (last : Pos) (thread : Thread) (a : CoreState) (place : VarAt) → words_set place words ≡ suc k → RunsAt t pc thread a → StandAt home.parts.code pc (at_pos last (zero_instrs place words)) → StandsFrom relied thread.regs.dp a.words place base → WordsStand relied a.words base (suc k) → Within home relied (IsOutside base (suc k)) t (λ b. (c : CoreState) → Kept relied t b c → WritesLast home relied t thread a.words base k (pc + length (at_pos last (zero_instrs place words))) c) (2 * suc k + 1) a
last_leads home relied t base words k pc last thread a (Near n) is at_work st from stand =
    subst (λ m. Within home relied (IsOutside base (suc k)) t (λ b. (c : CoreState) → Kept relied t b c → WritesLast home relied t thread a.words base k (pc + length (at_pos last (zero_instrs (Near n) m))) c) (2 * suc k + 1) a) (sym is)
    (near_last home relied t base k pc last thread a at_work stand n (subst (λ m. StandAt home.parts.code pc (at_pos last (zero_instrs (Near n) m))) is st) from)
last_leads home relied t base words k pc last thread a (Far n) is at_work st from stand =
    subst (λ m. Within home relied (IsOutside base (suc k)) t (λ b. (c : CoreState) → Kept relied t b c → WritesLast home relied t thread a.words base k (pc + length (at_pos last (zero_instrs (Far n) m))) c) (2 * suc k + 1) a) (sym is)
    (far_last home relied t base k pc last thread a at_work stand n (subst (λ m. StandAt home.parts.code pc (at_pos last (zero_instrs (Far n) m))) is st) from.0 from.1)
last_leads home relied t base words k pc last thread a (Through n) is at_work st from stand =
    subst (λ m. Within home relied (IsOutside base (suc k)) t (λ b. (c : CoreState) → Kept relied t b c → WritesLast home relied t thread a.words base k (pc + length (at_pos last (Ldc R0 0 ∷ Ldwdp R11 n ∷ writes far_write m))) c) (2 * suc k + 1) a) (sym is)
    (far_last home relied t base k pc last thread a at_work stand n (subst (λ m. StandAt home.parts.code pc (at_pos last (Ldc R0 0 ∷ Ldwdp R11 n ∷ writes far_write m))) is st) from.0 from.1)

-- the public clause, from the code alone
pub code_zeroes : (vars : List (Option VarPlan)) (v pc : ℕ) (last : Pos) → Zeroes vars v pc (zero_code vars v last)
code_zeroes vars v pc last = record {
  by = λ found is home relied t base thread a st at_work from stand.
      let e : zero_code vars v last ≡ at_pos last (zero_instrs found.place found.words) = ap (λ o. zero_of o last) is in
      let words = words_set found.place found.words in
      subst (λ ls. Within home relied (IsOutside base words) t (Zeroed relied t thread a.words base words (pc + length ls)) (2 * words + 2) a) (sym e)
      (zero_leads home relied t base found.words pc last thread a found.place at_work (subst (StandAt home.parts.code pc) e st) from stand);
  last = λ found k is some home relied t base thread a st at_work from stand.
      let e : zero_code vars v last ≡ at_pos last (zero_instrs found.place found.words) = ap (λ o. zero_of o last) is in
      let next : k + 1 ≡ suc k = omega arith in
      subst (λ ls. Within home relied (IsOutside base (k + 1)) t (λ b. (c : CoreState) → Kept relied t b c → WritesLast home relied t thread a.words base k (pc + length ls) c) (2 * (k + 1) + 1) a) (sym e)
      (subst (λ m. Within home relied (IsOutside base m) t (λ b. (c : CoreState) → Kept relied t b c → WritesLast home relied t thread a.words base k (pc + length (at_pos last (zero_instrs found.place found.words))) c) (2 * m + 1) a) (sym next)
      (last_leads home relied t base found.words k pc last thread a found.place (some ∙ next) at_work (subst (StandAt home.parts.code pc) e st) from (subst (WordsStand relied a.words base) next stand)));
}
