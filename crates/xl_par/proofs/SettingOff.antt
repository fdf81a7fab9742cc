-- A `par` is opened: a synchroniser is got, then its threads, and then all are set off.
use Rattle.std.proofs.Common.{◌≡◌, ◌≤◌, ◌<◌, ◌≢◌, ℕ, zero, suc, ◌+◌, ◌*◌, Bool, true, false, List, [], ◌∷◌, ◌++◌, length, Some, refl, sym, ap, ◌∙◌, subst, inl, inr, ⊎_elim, arith}
use Rattle.std.specs.Prelude.{slice_get, slice_set}
use Rattle.std.proofs.lemmas.Bool.{cases_eq}
use Rattle.xw_words.specs.declared.pos.Pos.{Pos}
use Rattle.xs_instr.specs.declared.image.Home.{Home}
use Rattle.xs_instr.specs.declared.instr.GetKind.TheVariants.{Sync as GetSync}
use Rattle.xs_instr.specs.declared.instr.Instr.TheVariants.{Getr, Ldc, Msync}
use Rattle.xs_instr.specs.declared.instr.Reg.{Reg}
use Rattle.xs_instr.specs.declared.instr.Reg.TheVariants.{R1, R2, R3, R4, R5, R6, R7, R8, R9, R10, Cp, Dp, Sp, Lr}
use Rattle.xs_instr.specs.declared.state.CoreState.{CoreState}
use Rattle.xs_instr.specs.declared.state.Mode.TheVariants.{Running, Waiting}
use Rattle.xs_instr.specs.declared.state.Regs.{Regs}
use Rattle.xs_instr.specs.declared.state.Thread.{Thread}
use Rattle.xs_instr.specs.Did.{makes, map_did}
use Rattle.xs_instr.specs.Lines.{line}
use Rattle.xs_instr.specs.OwnSteps.{StandAt, Within}
use Rattle.xs_instr.specs.Pool.{all_wait, first_free, is_tied, sync_got, synced, synced_by}
use Rattle.xs_instr.specs.Registers.{reg_get, reg_set}
use Rattle.xs_instr.specs.Resources.{ASync, named, on_sync, sync_name, where_taken}
use Rattle.xs_instr.specs.Rows.{gets_with, goes_on, goes_with, put_syncs, put_threads}
use Rattle.xl_expr.proofs.Lists.{get_set_other, get_set_same}
use Rattle.xl_expr.proofs.Ways.{Fits, Way, at_pc, fits_kept, own, turn_row, way_leads}
use Rattle.xl_par.specs.Acquired.{Acquired, IsAmong, KeepsAcquired, WithinAcquiring, nothing_acquired, gets_sync, own_only, with_sync, with_thread_got}
use Rattle.xl_par.specs.Opening.{AreReady, Opens, SetsOff, filled, is_opening, opening_lines, ready_thread, slaves_lines, stack_offset, turned}
use Rattle.xl_par.proofs.Getting.{Got, Registers, got_kept, slave_leads, turn}
use Rattle.xl_par.proofs.Listed.{opening_length}
use Rattle.xl_par.proofs.Moves.{by_or, by_regs, everywhere, fits_there}
use Rattle.xl_par.proofs.Names.{sync_named}
use Rattle.xl_par.proofs.Pools.{all_waiting, free_one}

module _ (home : Home) (relied : ℕ → Bool) (t : ℕ) (Q : Acquired → CoreState → Type 0) where
  hand_more : (m n : ℕ) → m ≤ n → (hand : Acquired) (a : CoreState) → WithinAcquiring home relied t Q m hand a → WithinAcquiring home relied t Q n hand a
  hand_more zero zero le hand a h = h
  hand_more zero (suc n) le hand a h = inl h
  hand_more (suc m) zero le hand a h = absurd (omega arith)
  hand_more (suc m) (suc n) le hand a (inl h) = inl h
  hand_more (suc m) (suc n) le hand a (inr h) = inr (λ b k. let x = h b k in (x.0, x.1, x.2, hand_more m n (omega arith) x.0 x.1 x.3))

  -- steps that change registers alone, and then others
  pub own_then : (P : CoreState → Type 0) (m k : ℕ) (hand : Acquired) (a : CoreState) → Within home relied everywhere t P m a → ((b : CoreState) → P b → WithinAcquiring home relied t Q k hand b) → WithinAcquiring home relied t Q (m + k) hand a
  own_then P zero k hand a h next = hand_more k (0 + k) (omega arith) hand a (next a h)
  own_then P (suc m) k hand a (inl h) next = hand_more k (suc m + k) (omega arith) hand a (next a h)
  own_then P (suc m) k hand a (inr h) next =
      let e : suc (m + k) ≡ suc m + k = omega arith in
      let all : WithinAcquiring home relied t Q (suc (m + k)) hand a = inr (λ b s.
      let x = h b s.own in (
        hand,
        x.0,
        record { thread = x.1.thread; here = x.1.here; made = x.1.made; change = own_only x.1.after (λ w. x.1.words w tt) x.1.left refl },
        own_then P m k hand x.0 x.2 next,
      )) in
      subst (λ i. WithinAcquiring home relied t Q i hand a) e all

module _ (home : Home) (relied : ℕ → Bool) (t : ℕ) (thread : Thread) (running : thread.mode ≡ Running) (quiet : thread.event_bit ≡ false) (stacks : ℕ) (few_cores : home.number < 4) (inside : stacks ≤ 16384) (starts : List ℕ) (pos : Pos) (end : ℕ) (old : List ℕ) where
  abbrev Q : Acquired → CoreState → Type 0
  Q hand b = (c : CoreState) → KeepsAcquired relied t hand b c → SetsOff home relied stacks t thread old starts pos end hand c

  module _ (n : ℕ) (few : n < 8) where
    abbrev GotHere : Acquired → List ℕ → ℕ → Regs → CoreState → Type 0
    GotHere = Got home relied t thread running quiet stacks n few_cores inside few old

    -- each that is ready waits
    ready_waits : (b : CoreState) (threads done : List ℕ) (u : ℕ) (x : Thread) → AreReady stacks thread.regs.dp n t threads done b → IsAmong threads u → slice_get b.threads u ≡ Some x → x.mode ≡ Waiting
    ready_waits b [] [] u x h m there = absurd m
    ready_waits b [] (s ∷ ss) u x h m there = absurd m
    ready_waits b (v ∷ vs) [] u x h m there = absurd h
    ready_waits b (v ∷ vs) (s ∷ ss) u x h m there =
        ⊎_elim
        (λ (e : u ≡ v).
        let same : Some x ≡ Some (ready_thread stacks thread.regs.dp n v s) = sym there ∙ ap (slice_get b.threads) e ∙ h.0.there in
        let one : x ≡ ready_thread stacks thread.regs.dp n v s = cc in
        ap (λ (y : Thread). y.mode) one)
        (λ (more : IsAmong vs u). ready_waits b vs ss u x h.1 more there)
        m

    others_stay : (regs : Regs) → Registers home relied t thread running quiet stacks n few_cores inside few old regs → (r : Reg) → is_opening r ≡ false → reg_get regs r ≡ reg_get thread.regs r
    others_stay regs h R10 e = h.r10
    others_stay regs h Dp e = h.dp
    others_stay regs h Sp e = h.sp
    others_stay regs h Lr e = h.lr
    others_stay regs h Cp e = h.cp
    others_stay regs h other e = cc

    -- all are ready, and the next step sets them off
    sets_off : (hand : Acquired) (pc : ℕ) (regs : Regs) → pc + 1 ≡ end → hand.lacks ≡ 0 → slice_get home.parts.code.instrs pc ≡ Some (Msync R1) → slice_get home.parts.code.«at» pc ≡ Some pos → (a : CoreState) → GotHere hand (turned starts []) pc regs a → Q hand a
    sets_off hand pc regs next no_lack stands place a h = λ b kept.
        let gb = got_kept home relied t thread running quiet stacks n few_cores inside few old hand (turned starts []) pc regs a b kept h in
        let before = at_pc thread pc regs in
        let name : named home.number regs.r1 ≡ ASync n = ap (named home.number) gb.common.registers.syncs.r1 ∙ sync_named home.number n few in
        let goes = goes_with put_threads b t before in
        let among : (u : ℕ) (x : Thread) → slice_get b.threads u ≡ Some x → is_tied x n ≡ true → IsAmong hand.threads u = λ u x there tied.
        ⊎_elim
        (λ (e : u ≡ t).
        let same : Some x ≡ Some before = sym there ∙ ap (slice_get b.threads) e ∙ gb.common.here in
        let one : x ≡ before = cc in
        let clash : true ≡ false = sym tied ∙ ap (λ y. is_tied y n) one ∙ gb.common.untied in
        absurd (let z : ⊥ = cc in z))
        (λ (ne : u ≢ t). gb.common.tied u x ne there tied)
        (cases_eq u t) in
        let waiting : all_wait b.threads n ≡ true = all_waiting b.threads n (record { wait = λ u x there tied. ready_waits b hand.threads (turned starts []) u x gb.ready (among u x there tied) there }) in
        record {
          sync = n;
          sync_is = gb.sync_is;
          few = few;
          taken = gb.common.taken;
          no_lack = no_lack;
          index = pc;
          regs = regs;
          here = gb.common.here;
          place = place;
          next = next;
          syncs = gb.common.registers.syncs;
          others = others_stay regs gb.common.registers;
          words = gb.common.words;
          ready = gb.ready;
          tied = among;
          goes =
              turn home relied t thread running quiet stacks n few_cores inside few old b pc regs (Msync R1) gb.common.here stands refl
              ∙ ap (λ m. map_did goes (on_sync b (synced b.threads) m)) name
              ∙ ap (λ o. map_did goes (where_taken (synced b.threads n) o)) gb.common.taken
              ∙ ap (λ z. map_did goes (synced_by b.threads n z)) waiting;
        }

    -- threads are got for the starts that are left
    slaves_lead : (left done : List ℕ) (hand : Acquired) (pc : ℕ) (regs : Regs) → turned left done ≡ turned starts [] → hand.lacks ≡ length left → pc + 7 * length left + 1 ≡ end → StandAt home.parts.code pc (filled (slaves_lines (stack_offset stacks) pos (length left) ++ line (Msync R1) pos ∷ []) left) → (a : CoreState) → GotHere hand done pc regs a → WithinAcquiring home relied t Q (7 * length left) hand a
    slaves_lead [] done hand pc regs order lacks ends st a h =
        sets_off hand pc regs (omega (arith, ends)) lacks st.0 st.1 a (subst (λ d. GotHere hand d pc regs a) order h)
    slaves_lead (start ∷ left) done hand pc regs order lacks ends st a h =
        let k = 7 * length left in
        let e : suc (suc (suc (suc (suc (suc (suc k)))))) ≡ 7 * suc (length left) = omega arith in
        let more = filled (slaves_lines (stack_offset stacks) pos (length left) ++ line (Msync R1) pos ∷ []) left in
        let all = slave_leads home relied t thread running quiet stacks n few_cores inside few old Q hand done start pc k regs pos more st (omega (arith, lacks))
        (λ u regs' d g. slaves_lead left (start ∷ done) (with_thread_got hand u) (pc + 1 + 1 + 1 + 1 + 1 + 1 + 1) regs' order (omega (arith, lacks)) (omega (arith, ends)) st.2.2.2.2.2.2.2 d g) a h in
        subst (λ i. WithinAcquiring home relied t Q i hand a) e all

  -- a synchroniser is got
  sync_leads : (slaves pc : ℕ) (regs : Regs) → length starts ≡ slaves → pc + 1 + 7 * slaves + 1 ≡ end → regs ≡ record thread.regs { r2 = thread.regs.r1; r3 = thread.regs.r2; r4 = thread.regs.r3; r5 = thread.regs.r4; r6 = thread.regs.r5; r7 = thread.regs.r6; r8 = 8; r9 = 5 } → StandAt home.parts.code pc (line (Getr R1 GetSync) pos ∷ filled (slaves_lines (stack_offset stacks) pos slaves ++ line (Msync R1) pos ∷ []) starts) → (a : CoreState) → Fits home.parts.code relied everywhere t thread (own pc regs old) a → WithinAcquiring home relied t Q (suc (7 * slaves)) (nothing_acquired slaves) a
  sync_leads slaves pc regs count ends regs_are st a f = inr (λ b kept.
      let fb = fits_kept home.parts.code relied everywhere t thread (own pc regs old) a b f kept.own in
      let free = kept.spare.sync refl in
      let first = free_one b.syncs 0 free.0 free.1 in
      let n = first.place in
      let is_first : first_free b.syncs 0 ≡ Some n = first.first ∙ (let e : 0 + n ≡ n = omega arith in ap Some e) in
      let few : n < 8 = omega (arith, first.few, kept.spare.few_syncs) in
      let before = at_pc thread pc regs in
      let regs' = reg_set regs R1 (sync_name home.number n) in
      let behind = at_pc thread (pc + 1) regs' in
      let hand = nothing_acquired slaves in
      let d : CoreState = goes_on (put_syncs b (slice_set b.syncs n true)) t before regs' in
      let got : Got home relied t thread running quiet stacks n few_cores inside few old (with_sync hand n) [] (pc + 1) regs' d = record {
        sync_is = refl;
        common = record {
          here = get_set_same b.threads t before behind fb.here;
          registers = record {
            syncs = record {
              r1 = refl;
              r2 = ap (λ (s : Regs). s.r2) regs_are;
              r3 = ap (λ (s : Regs). s.r3) regs_are;
              r4 = ap (λ (s : Regs). s.r4) regs_are;
              r5 = ap (λ (s : Regs). s.r5) regs_are;
              r6 = ap (λ (s : Regs). s.r6) regs_are;
              r7 = ap (λ (s : Regs). s.r7) regs_are;
            };
            r8 = ap (λ (s : Regs). s.r8) regs_are;
            r9 = ap (λ (s : Regs). s.r9) regs_are;
            r10 = ap (λ (s : Regs). s.r10) regs_are;
            dp = ap (λ (s : Regs). s.dp) regs_are;
            sp = ap (λ (s : Regs). s.sp) regs_are;
            lr = ap (λ (s : Regs). s.lr) regs_are;
            cp = ap (λ (s : Regs). s.cp) regs_are;
          };
          words = fb.words.by;
          taken = get_set_same b.syncs n false true first.free;
          untied = kept.spare.untied n t before first.free fb.here;
          tied = λ v y ne there tied.
              let in_b : slice_get b.threads v ≡ Some y = sym (get_set_other b.threads t v behind ne) ∙ there in
              let clash : true ≡ false = sym tied ∙ kept.spare.untied n v y first.free in_b in
              absurd (let z : ⊥ = cc in z);
        };
        ready = tt;
      } in (
        with_sync hand n,
        d,
        record {
          thread = before;
          here = fb.here;
          made =
              turn_row home.parts.code relied everywhere home t thread running quiet refl b pc regs (Getr R1 GetSync) fb.here st.0 refl
              ∙ ap (λ o. makes (gets_with put_syncs b t before R1 (sync_got home.number b.syncs o))) is_first;
          change = gets_sync n regs' refl is_first refl refl;
        },
        subst (λ k. WithinAcquiring home relied t Q (7 * k) (with_sync hand n) d) count
            (slaves_lead n few starts [] (with_sync hand n) (pc + 1) regs' refl (sym count) (omega (arith, ends, count))
            (subst (λ k. StandAt home.parts.code (pc + 1) (filled (slaves_lines (stack_offset stacks) pos k ++ line (Msync R1) pos ∷ []) starts)) (sym count) st.2) d got),
      ))

-- the whole code
pub opening_opens : (stacks slaves : ℕ) (pos : Pos) (pc : ℕ) → stacks ≤ 16384 → Opens stacks slaves pos pc (opening_lines stacks pos slaves)
opening_opens stacks slaves pos pc inside = record {
  by = λ home relied t thread starts a few_cores count st at_work.
      let code = home.parts.code in
      let ws = a.words in
      let s = thread.regs in
      let s1 = record s { r7 = s.r6 } in
      let s2 = record s1 { r6 = s.r5 } in
      let s3 = record s2 { r5 = s.r4 } in
      let s4 = record s3 { r4 = s.r3 } in
      let s5 = record s4 { r3 = s.r2 } in
      let s6 = record s5 { r2 = s.r1 } in
      let s7 = record s6 { r8 = 8 } in
      let s8 = record s7 { r9 = 5 } in
      let index = pc + 1 + 1 + 1 + 1 + 1 + 1 + 1 + 1 in
      let end = pc + length (opening_lines stacks pos slaves) in
      let there = Fits code relied everywhere t thread (own index s8 ws) in
      let way : Way code relied everywhere 8 (own pc s ws) (own index s8 ws) = (
        own (pc + 1) s1 ws,
        by_or code relied ws R7 R6 pc s st.0,
        (
          own (pc + 1 + 1) s2 ws,
          by_or code relied ws R6 R5 (pc + 1) s1 st.2.0,
          (
            own (pc + 1 + 1 + 1) s3 ws,
            by_or code relied ws R5 R4 (pc + 1 + 1) s2 st.2.2.0,
            (
              own (pc + 1 + 1 + 1 + 1) s4 ws,
              by_or code relied ws R4 R3 (pc + 1 + 1 + 1) s3 st.2.2.2.0,
              (
                own (pc + 1 + 1 + 1 + 1 + 1) s5 ws,
                by_or code relied ws R3 R2 (pc + 1 + 1 + 1 + 1) s4 st.2.2.2.2.0,
                (
                  own (pc + 1 + 1 + 1 + 1 + 1 + 1) s6 ws,
                  by_or code relied ws R2 R1 (pc + 1 + 1 + 1 + 1 + 1) s5 st.2.2.2.2.2.0,
                  (
                    own (pc + 1 + 1 + 1 + 1 + 1 + 1 + 1) s7 ws,
                    by_regs code relied ws (Ldc R8 8) (pc + 1 + 1 + 1 + 1 + 1 + 1) s6 s7 st.2.2.2.2.2.2.0 (record { row_is = λ hm c tt' y. refl; no_event = refl }) (λ l. refl),
                    (
                      own index s8 ws,
                      by_regs code relied ws (Ldc R9 5) (pc + 1 + 1 + 1 + 1 + 1 + 1 + 1) s7 s8 st.2.2.2.2.2.2.2.0 (record { row_is = λ hm c tt' y. refl; no_event = refl }) (λ l. refl),
                      refl,
                    ),
                  ),
                ),
              ),
            ),
          ),
        ),
      ) in
      let Q' : Acquired → CoreState → Type 0 = λ hand b. (c : CoreState) → KeepsAcquired relied t hand b c → SetsOff home relied stacks t thread ws starts pos end hand c in
      let ends : index + 1 + 7 * slaves + 1 ≡ end = omega (arith, opening_length stacks pos slaves) in
      let all = own_then home relied t Q' there 8 (suc (7 * slaves)) (nothing_acquired slaves) a
      (way_leads code relied everywhere home t thread at_work.runs at_work.no_events refl there 8 8 (own pc s ws) (own index s8 ws) (omega arith) way (λ b h. h) a (fits_there code relied t pc thread a at_work))
      (λ b h. sync_leads home relied t thread at_work.runs at_work.no_events stacks few_cores inside starts pos end ws slaves index s8 count ends refl st.2.2.2.2.2.2.2.2 b h) in
      let steps : 8 + suc (7 * slaves) ≡ 7 * slaves + 9 = omega arith in
      subst (λ k. WithinAcquiring home relied t Q' k (nothing_acquired slaves) a) steps all;
}
