-- The threads of a `par` are got and prepared, one after another.
use Rattle.std.proofs.Common.{◌≡◌, ◌≤◌, ◌<◌, ◌≢◌, ℕ, suc, ◌+◌, ◌*◌, Bool, true, false, List, [], ◌∷◌, ◌++◌, Some, refl, sym, ap, ◌∙◌, subst, inl, inr, ⊎_elim, arith}
use Rattle.std.specs.Prelude.{slice_get, slice_set}
use Rattle.std.proofs.lemmas.Bool.{cases_eq}
use Rattle.xw_words.specs.Words.{shifted_down, shifted_up, word_sum}
use Rattle.xs_instr.specs.declared.image.Home.{Home}
use Rattle.xs_instr.specs.declared.instr.Instr.{Instr}
use Rattle.xs_instr.specs.declared.instr.Instr.TheVariants.{Getst, Tinitpc, Tinitdp, Tinitsp, Shl, Shr, Addi}
use Rattle.xs_instr.specs.declared.instr.Reg.TheVariants.{R0, R1, R8, R9, R11, Dp, Sp}
use Rattle.xs_instr.specs.declared.state.CoreState.{CoreState}
use Rattle.xs_instr.specs.declared.state.Mode.TheVariants.{Unused, Waiting, Running}
use Rattle.xs_instr.specs.declared.state.Regs.{Regs}
use Rattle.xs_instr.specs.declared.state.Thread.{Thread}
use Rattle.xs_instr.specs.Did.{map_did, makes}
use Rattle.xw_words.specs.declared.pos.Pos.{Pos}
use Rattle.xs_instr.specs.Lines.{Line, at_pos, line}
use Rattle.xs_instr.specs.OwnSteps.{StandAt}
use Rattle.xs_instr.specs.Pool.{first_free, is_tied, is_waiting, prepared, prepared_by, thread_got, thread_got_by, threads_taken, tied_at, tied_to, with_pc, with_reg}
use Rattle.xs_instr.specs.Registers.{reg_set}
use Rattle.xs_instr.specs.Resources.{ASync, AThread, named, on_sync, on_thread, thread_name, usable, where_taken}
use Rattle.xs_instr.specs.Rows.{gets_with, goes_on, goes_with, local_row, put_local, put_threads, row}
use Rattle.xs_instr.specs.Slot.{is_waiteu, slot}
use Rattle.xl_expr.proofs.Lists.{get_set_other, get_set_same}
use Rattle.xl_expr.proofs.Ways.{IsPlain, at_pc, own, turn_row}
use Rattle.xl_par.specs.Acquired.{Acquired, IsAmong, KeepsAcquired, WithinAcquiring, gets_thread, own_only, prepares, with_thread_got}
use Rattle.xl_par.specs.Opening.{AreReady, HoldsSyncs, preparing_instrs, ready_thread, stack_offset}
use Rattle.xl_par.proofs.Moves.{everywhere}
use Rattle.xl_par.proofs.Names.{sync_named, thread_named}
use Rattle.xl_par.proofs.Pools.{free_one, free_thread, some_free, threads_length}

-- an identifier, shifted and with the offset, is the address of the thread's temporary words
pub stack_address : (stacks core u : ℕ) → stacks ≤ 16384 → core < 4 → u < 8 → word_sum (shifted_down (shifted_up (thread_name core u) 8) 5) (stack_offset stacks) ≡ 4 * (stacks + 512 * u)
stack_address stacks core u inside few_cores few = omega arith

same_Some : (x y : Thread) → Some x ≡ Some y → x ≡ y
same_Some x y h = cc

module _ (home : Home) (relied : ℕ → Bool) (t : ℕ) (thread : Thread) (running : thread.mode ≡ Running) (quiet : thread.event_bit ≡ false) (stacks n : ℕ) (few_cores : home.number < 4) (inside : stacks ≤ 16384) (few : n < 8) (old : List ℕ) where
  -- the thread at an index with these registers
  abbrev pub th : ℕ → Regs → Thread
  th pc regs = at_pc thread pc regs

  pub turn : (b : CoreState) (pc : ℕ) (regs : Regs) (i : Instr) → slice_get b.threads t ≡ Some (th pc regs) → slice_get home.parts.code.instrs pc ≡ Some i → is_waiteu (Some i) ≡ false → slot home b t ≡ row home b t (th pc regs) i
  turn b pc regs i here stands no_event = turn_row home.parts.code relied everywhere home t thread running quiet refl b pc regs i here stands no_event

  -- what the registers hold once there is a synchroniser
  pub record Registers (regs : Regs) : Type 0 where
    pub syncs : HoldsSyncs home.number n thread.regs regs
    pub r8 : regs.r8 ≡ 8
    pub r9 : regs.r9 ≡ 5
    pub r10 : regs.r10 ≡ thread.regs.r10
    pub dp : regs.dp ≡ thread.regs.dp
    pub sp : regs.sp ≡ thread.regs.sp
    pub lr : regs.lr ≡ thread.regs.lr
    pub cp : regs.cp ≡ thread.regs.cp

  set_r0 : (v : ℕ) (regs : Regs) → Registers regs → Registers (reg_set regs R0 v)
  set_r0 v regs h = record {
    syncs = record { r1 = h.syncs.r1; r2 = h.syncs.r2; r3 = h.syncs.r3; r4 = h.syncs.r4; r5 = h.syncs.r5; r6 = h.syncs.r6; r7 = h.syncs.r7 };
    r8 = h.r8;
    r9 = h.r9;
    r10 = h.r10;
    dp = h.dp;
    sp = h.sp;
    lr = h.lr;
    cp = h.cp;
  }

  set_r11 : (v : ℕ) (regs : Regs) → Registers regs → Registers (reg_set regs R11 v)
  set_r11 v regs h = record {
    syncs = record { r1 = h.syncs.r1; r2 = h.syncs.r2; r3 = h.syncs.r3; r4 = h.syncs.r4; r5 = h.syncs.r5; r6 = h.syncs.r6; r7 = h.syncs.r7 };
    r8 = h.r8;
    r9 = h.r9;
    r10 = h.r10;
    dp = h.dp;
    sp = h.sp;
    lr = h.lr;
    cp = h.cp;
  }

  abbrev Ready : (threads starts : List ℕ) → CoreState → Type 0
  Ready = AreReady stacks thread.regs.dp n t

  -- what stays from one state to the next, by where the thread stands and what it has got
  pub record Common (threads : List ℕ) (pc : ℕ) (regs : Regs) (b : CoreState) : Type 0 where
    pub here : slice_get b.threads t ≡ Some (th pc regs)
    pub registers : Registers regs
    pub words : (w : ℕ) → relied w ≡ true → slice_get b.words w ≡ slice_get old w
    pub taken : slice_get b.syncs n ≡ Some true
    pub untied : is_tied thread n ≡ false
    pub tied : (v : ℕ) (y : Thread) → (v ≡ t → ⊥) → slice_get b.threads v ≡ Some y → is_tied y n ≡ true → IsAmong threads v

  -- all that were got are ready
  pub record Got (hand : Acquired) (starts : List ℕ) (pc : ℕ) (regs : Regs) (b : CoreState) : Type 0 where
    pub sync_is : hand.sync ≡ Some n
    pub common : Common hand.threads pc regs b
    pub ready : Ready hand.threads starts b

  -- the thread that was got last is x
  pub record Half (hand : Acquired) (starts : List ℕ) (u : ℕ) (x : Thread) (pc : ℕ) (regs : Regs) (b : CoreState) : Type 0 where
    pub sync_is : hand.sync ≡ Some n
    pub common : Common (u ∷ hand.threads) pc regs b
    pub ready : Ready hand.threads starts b
    pub there : slice_get b.threads u ≡ Some x
    pub other : u ≡ t → ⊥
    pub new : IsAmong hand.threads u → ⊥
    pub few_u : u < 8
    pub in_r0 : regs.r0 ≡ thread_name home.number u
    pub waits : x.mode ≡ Waiting

  pub ready_still : (a b : CoreState) (threads starts : List ℕ) → ((v : ℕ) → IsAmong threads v → (v ≡ t → ⊥) → slice_get b.threads v ≡ slice_get a.threads v) → Ready threads starts a → Ready threads starts b
  ready_still a b [] [] same h = tt
  ready_still a b [] (s ∷ ss) same h = absurd h
  ready_still a b (u ∷ us) [] same h = absurd h
  ready_still a b (u ∷ us) (s ∷ ss) same h =
      (record { there = same u (inl refl) h.0.other ∙ h.0.there; other = h.0.other; new = h.0.new; few = h.0.few }, ready_still a b us ss (λ v m. same v (inr m)) h.1)

  -- what others do leaves it

  common_kept : (hand : Acquired) (pc : ℕ) (regs : Regs) (a b : CoreState) → hand.sync ≡ Some n → KeepsAcquired relied t hand a b → Common hand.threads pc regs a → Common hand.threads pc regs b
  common_kept hand pc regs a b is k h = record {
    here = k.own.thread ∙ h.here;
    registers = h.registers;
    words = λ w r. k.own.words w r ∙ h.words w r;
    taken = k.sync n is ∙ h.taken;
    untied = h.untied;
    tied = λ v y ne there tied. h.tied v y ne (k.tied n v y is there tied) tied;
  }

  pub got_kept : (hand : Acquired) (starts : List ℕ) (pc : ℕ) (regs : Regs) (a b : CoreState) → KeepsAcquired relied t hand a b → Got hand starts pc regs a → Got hand starts pc regs b
  got_kept hand starts pc regs a b k h = record {
    sync_is = h.sync_is;
    common = common_kept hand pc regs a b h.sync_is k h.common;
    ready = ready_still a b hand.threads starts (λ v m ne. k.held v m) h.ready;
  }

  half_kept : (hand : Acquired) (starts : List ℕ) (u : ℕ) (x : Thread) (pc : ℕ) (regs : Regs) (a b : CoreState) → KeepsAcquired relied t (with_thread_got hand u) a b → Half hand starts u x pc regs a → Half hand starts u x pc regs b
  half_kept hand starts u x pc regs a b k h = record {
    sync_is = h.sync_is;
    common = common_kept (with_thread_got hand u) pc regs a b h.sync_is k h.common;
    ready = ready_still a b hand.threads starts (λ v m ne. k.held v (inr m)) h.ready;
    there = k.held u (inl refl) ∙ h.there;
    other = h.other;
    new = h.new;
    few_u = h.few_u;
    in_r0 = h.in_r0;
    waits = h.waits;
  }

  module _ (Q : Acquired → CoreState → Type 0) (hand : Acquired) (starts : List ℕ) (u : ℕ) where
    abbrev hand1 : Acquired
    hand1 = with_thread_got hand u

    -- a step that prepares that thread
    half_prepares : (x : Thread) (change : Thread → Thread) (pc k : ℕ) (regs : Regs) (i : Instr) → slice_get home.parts.code.instrs pc ≡ Some i → is_waiteu (Some i) ≡ false → (change x).mode ≡ Waiting → (change x).tie ≡ x.tie → (change x).event_bit ≡ x.event_bit → ((b : CoreState) → row home b t (th pc regs) i ≡ map_did (goes_with put_threads b t (th pc regs)) (on_thread b (prepared change b.threads) (named home.number regs.r0))) → ((d : CoreState) → Half hand starts u (change x) (pc + 1) regs d → WithinAcquiring home relied t Q k hand1 d) → (a : CoreState) → Half hand starts u x pc regs a → WithinAcquiring home relied t Q (suc k) hand1 a
    half_prepares x change pc k regs i stands no_event still_waits still_tied same_bit is_row next a h = inr (λ b kept.
        let hb = half_kept hand starts u x pc regs a b kept h in
        let before = th pc regs in
        let behind = th (pc + 1) regs in
        let x' = change x in
        let threads = slice_set b.threads u x' in
        let d : CoreState = goes_on (put_threads b threads) t before regs in
        let own_there : slice_get threads t ≡ Some before = get_set_other b.threads u t x' (λ e. hb.other (sym e)) ∙ hb.common.here in
        let name : named home.number regs.r0 ≡ AThread u = ap (named home.number) hb.in_r0 ∙ thread_named home.number u hb.few_u in
        let goes = goes_with put_threads b t before in
        let there' : slice_get d.threads u ≡ Some x' = get_set_other threads t u behind hb.other ∙ get_set_same b.threads u x x' hb.there in (
          hand1,
          d,
          record {
            thread = before;
            here = hb.common.here;
            made =
                turn b pc regs i hb.common.here stands no_event
                ∙ is_row b
                ∙ ap (λ m. map_did goes (on_thread b (prepared change b.threads) m)) name
                ∙ ap (λ o. map_did goes (usable (prepared change b.threads u) o)) hb.there
                ∙ ap (λ m. map_did goes (prepared_by change b.threads u x (is_waiting m))) hb.waits;
            change = prepares u x x' (inl refl) hb.there hb.waits still_waits still_tied same_bit refl refl;
          },
          next d (record {
            sync_is = hb.sync_is;
            common = record {
              here = get_set_same threads t before behind own_there;
              registers = hb.common.registers;
              words = hb.common.words;
              taken = hb.common.taken;
              untied = hb.common.untied;
              tied = λ v y ne there tied.
                  ⊎_elim
                  (λ (e : v ≡ u). inl e)
                  (λ (nu : v ≢ u). hb.common.tied v y ne (sym (get_set_other threads t v behind ne ∙ get_set_other b.threads u v x' nu) ∙ there) tied)
                  (cases_eq v u);
            };
            ready = ready_still b d hand.threads starts (λ v m ne. get_set_other threads t v behind ne ∙ get_set_other b.threads u v x' (λ e. hb.new (subst (IsAmong hand.threads) e m))) hb.ready;
            there = there';
            other = hb.other;
            new = hb.new;
            few_u = hb.few_u;
            in_r0 = hb.in_r0;
            waits = still_waits;
          }),
        ))

    -- a step that changes registers alone
    half_steps : (x : Thread) (pc k : ℕ) (regs : Regs) (v : ℕ) (i : Instr) → slice_get home.parts.code.instrs pc ≡ Some i → IsPlain i → ((ws : List ℕ) → local_row (own pc regs ws) i ≡ makes (own (pc + 1) (reg_set regs R11 v) ws)) → ((d : CoreState) → Half hand starts u x (pc + 1) (reg_set regs R11 v) d → WithinAcquiring home relied t Q k hand1 d) → (a : CoreState) → Half hand starts u x pc regs a → WithinAcquiring home relied t Q (suc k) hand1 a
    half_steps x pc k regs v i stands plain is_row next a h = inr (λ b kept.
        let hb = half_kept hand starts u x pc regs a b kept h in
        let regs' = reg_set regs R11 v in
        let before = th pc regs in
        let behind = th (pc + 1) regs' in
        let d : CoreState = put_local b t before (own (pc + 1) regs' b.words) in (
          hand1,
          d,
          record {
            thread = before;
            here = hb.common.here;
            made = turn b pc regs i hb.common.here stands plain.no_event ∙ plain.row_is home b t before ∙ ap (map_did (put_local b t before)) (is_row b.words);
            change = own_only (own (pc + 1) regs' b.words) (λ w. refl) refl refl;
          },
          next d (record {
            sync_is = hb.sync_is;
            common = record {
              here = get_set_same b.threads t before behind hb.common.here;
              registers = set_r11 v regs hb.common.registers;
              words = hb.common.words;
              taken = hb.common.taken;
              untied = hb.common.untied;
              tied = λ w y ne there tied. hb.common.tied w y ne (sym (get_set_other b.threads t w behind ne) ∙ there) tied;
            };
            ready = ready_still b d hand.threads starts (λ w m ne. get_set_other b.threads t w behind ne) hb.ready;
            there = get_set_other b.threads t u behind hb.other ∙ hb.there;
            other = hb.other;
            new = hb.new;
            few_u = hb.few_u;
            in_r0 = hb.in_r0;
            waits = hb.waits;
          }),
        ))

  -- a thread that is unused is none of those that are ready
  not_ready : (a : CoreState) (threads starts : List ℕ) (u : ℕ) (x : Thread) → slice_get a.threads u ≡ Some x → x.mode ≡ Unused → Ready threads starts a → IsAmong threads u → ⊥
  not_ready a [] [] u x there unused h m = m
  not_ready a [] (s ∷ ss) u x there unused h m = m
  not_ready a (v ∷ vs) [] u x there unused h m = h
  not_ready a (v ∷ vs) (s ∷ ss) u x there unused h m =
      ⊎_elim
      (λ (e : u ≡ v).
      let ready = ready_thread stacks thread.regs.dp n v s in
      let same = same_Some x ready (sym there ∙ ap (slice_get a.threads) e ∙ h.0.there) in
      let clash : Unused ≡ Waiting = sym unused ∙ ap (λ (y : Thread). y.mode) same in cc)
      (λ (more : IsAmong vs u). not_ready a vs ss u x there unused h.1 more)
      m

  module _ (Q : Acquired → CoreState → Type 0) (hand : Acquired) (starts : List ℕ) where
    -- a thread is got
    thread_got_leads : (pc k : ℕ) (regs : Regs) → slice_get home.parts.code.instrs pc ≡ Some (Getst R0 R1) → 1 ≤ hand.lacks → ((u : ℕ) (x : Thread) → x.event_bit ≡ false → (d : CoreState) → Half hand starts u (tied_to n x) (pc + 1) (reg_set regs R0 (thread_name home.number u)) d → WithinAcquiring home relied t Q k (with_thread_got hand u) d) → (a : CoreState) → Got hand starts pc regs a → WithinAcquiring home relied t Q (suc k) hand a
    thread_got_leads pc k regs stands least next a h = inr (λ b kept.
        let gb = got_kept hand starts pc regs a b kept h in
        let spare = kept.spare in
        let free = some_free b.threads (omega (arith, spare.threads, least)) in
        let first = free_one (threads_taken b.threads) 0 free.0 free.1 in
        let u = first.place in
        let is_first : first_free (threads_taken b.threads) 0 ≡ Some u = first.first ∙ (let e : 0 + u ≡ u = omega arith in ap Some e) in
        let found = free_thread b.threads u first.free in
        let x = found.0 in
        let few_u : u < 8 = omega (arith, first.few, threads_length b.threads, spare.few_threads) in
        let before = th pc regs in
        let regs' = reg_set regs R0 (thread_name home.number u) in
        let behind = th (pc + 1) regs' in
        let x' = tied_to n x in
        let threads = slice_set b.threads u x' in
        let d : CoreState = goes_on (put_threads b threads) t before regs' in
        let other : u ≡ t → ⊥ = λ e.
        let same = same_Some x before (sym found.1 ∙ ap (slice_get b.threads) e ∙ gb.common.here) in
        let clash : Unused ≡ Running = sym found.2 ∙ ap (λ (y : Thread). y.mode) same ∙ running in cc in
        let new : IsAmong hand.threads u → ⊥ = not_ready b hand.threads starts u x found.1 found.2 gb.ready in
        let own_there : slice_get threads t ≡ Some before = get_set_other b.threads u t x' (λ e. other (sym e)) ∙ gb.common.here in
        let name : named home.number regs.r1 ≡ ASync n = ap (named home.number) gb.common.registers.syncs.r1 ∙ sync_named home.number n few in
        let gets = gets_with put_threads b t before R0 in (
          with_thread_got hand u,
          d,
          record {
            thread = before;
            here = gb.common.here;
            made =
                turn b pc regs (Getst R0 R1) gb.common.here stands refl
                ∙ ap (λ m. map_did gets (on_sync b (thread_got home.number b.threads) m)) name
                ∙ ap (λ o. map_did gets (where_taken (thread_got home.number b.threads n) o)) gb.common.taken
                ∙ ap (λ o. makes (gets (thread_got_by home.number b.threads n o))) is_first
                ∙ ap (λ o. makes (gets (record { left = tied_at b.threads n u o; value = thread_name home.number u }))) found.1;
            change = gets_thread n u x regs' least gb.sync_is is_first found.1 refl refl;
          },
          next u x (spare.no_events u x found.1 found.2) d (record {
            sync_is = gb.sync_is;
            common = record {
              here = get_set_same threads t before behind own_there;
              registers = set_r0 (thread_name home.number u) regs gb.common.registers;
              words = gb.common.words;
              taken = gb.common.taken;
              untied = gb.common.untied;
              tied = λ v y ne there tied.
                  ⊎_elim
                  (λ (e : v ≡ u). inl e)
                  (λ (nu : v ≢ u). inr (gb.common.tied v y ne (sym (get_set_other threads t v behind ne ∙ get_set_other b.threads u v x' nu) ∙ there) tied))
                  (cases_eq v u);
            };
            ready = ready_still b d hand.threads starts (λ v m ne. get_set_other threads t v behind ne ∙ get_set_other b.threads u v x' (λ e. new (subst (IsAmong hand.threads) e m))) gb.ready;
            there = get_set_other threads t u behind other ∙ get_set_same b.threads u x x' found.1;
            other = other;
            new = new;
            few_u = few_u;
            in_r0 = refl;
            waits = refl;
          }),
        ))

    -- the thread is ready once its pc, dp and sp are set
    half_ready : (start pc : ℕ) (regs : Regs) (u : ℕ) (x : Thread) (bit : Bool) (dp sp : ℕ) → bit ≡ false → dp ≡ thread.regs.dp → sp ≡ 4 * (stacks + 512 * u) → x ≡ record { mode = Waiting; pc = start; regs = record (ready_thread stacks dp n u start).regs { sp = sp }; event_bit = bit; tie = Some n } → (d : CoreState) → Half hand starts u x pc regs d → Got (with_thread_got hand u) (start ∷ starts) pc regs d
    half_ready start pc regs u x bit dp sp bit_is dp_is sp_is x_is d h =
        let whole : x ≡ ready_thread stacks thread.regs.dp n u start =
        x_is
        ∙ ap (λ b. record { mode = Waiting; pc = start; regs = record (ready_thread stacks dp n u start).regs { sp = sp }; event_bit = b; tie = Some n }) bit_is
        ∙ ap (λ k. record { mode = Waiting; pc = start; regs = record (ready_thread stacks k n u start).regs { sp = sp }; event_bit = false; tie = Some n }) dp_is
        ∙ ap (λ k. record { mode = Waiting; pc = start; regs = record (ready_thread stacks thread.regs.dp n u start).regs { sp = k }; event_bit = false; tie = Some n }) sp_is in
        record {
          sync_is = h.sync_is;
          common = h.common;
          ready = (record { there = h.there ∙ ap Some whole; other = h.other; new = h.new; few = h.few_u }, h.ready);
        }

    -- all seven steps for one thread
    pub slave_leads : (start pc k : ℕ) (regs : Regs) (pos : Pos) (more : List Line) → StandAt home.parts.code pc (line (Getst R0 R1) pos ∷ (line (Tinitpc R0 start) pos ∷ (at_pos pos (preparing_instrs (stack_offset stacks)) ++ more))) → 1 ≤ hand.lacks → ((u : ℕ) (regs' : Regs) (d : CoreState) → Got (with_thread_got hand u) (start ∷ starts) (pc + 1 + 1 + 1 + 1 + 1 + 1 + 1) regs' d → WithinAcquiring home relied t Q k (with_thread_got hand u) d) → (a : CoreState) → Got hand starts pc regs a → WithinAcquiring home relied t Q (suc (suc (suc (suc (suc (suc (suc k))))))) hand a
    slave_leads start pc k regs pos more st least next a h =
        thread_got_leads pc (suc (suc (suc (suc (suc (suc k)))))) regs st.0 least (λ u x bit d1 h1.
        let offset = stack_offset stacks in
        let name = thread_name home.number u in
        let regs1 = reg_set regs R0 name in
        let x1 = tied_to n x in
        let x2 = with_pc start x1 in
        let x3 = with_reg Dp regs1.dp x2 in
        let up = shifted_up name regs.r8 in
        let down = shifted_down up regs.r9 in
        let sp = word_sum down offset in
        let regs4 = reg_set regs1 R11 up in
        let regs5 = reg_set regs4 R11 down in
        let regs6 = reg_set regs5 R11 sp in
        let x7 = with_reg Sp sp x3 in
        half_prepares Q hand starts u x1 (with_pc start) (pc + 1) (suc (suc (suc (suc (suc k))))) regs1 (Tinitpc R0 start) st.2.0 refl refl refl refl (λ b. refl)
        (half_prepares Q hand starts u x2 (with_reg Dp regs1.dp) (pc + 1 + 1) (suc (suc (suc (suc k)))) regs1 (Tinitdp R0 Dp) st.2.2.0 refl refl refl refl (λ b. refl)
        (half_steps Q hand starts u x3 (pc + 1 + 1 + 1) (suc (suc (suc k))) regs1 up (Shl R11 R0 R8) st.2.2.2.0 (record { row_is = λ hm c tt' y. refl; no_event = refl }) (λ ws. refl)
        (half_steps Q hand starts u x3 (pc + 1 + 1 + 1 + 1) (suc (suc k)) regs4 down (Shr R11 R11 R9) st.2.2.2.2.0 (record { row_is = λ hm c tt' y. refl; no_event = refl }) (λ ws. refl)
        (half_steps Q hand starts u x3 (pc + 1 + 1 + 1 + 1 + 1) (suc k) regs5 sp (Addi R11 R11 offset) st.2.2.2.2.2.0 (record { row_is = λ hm c tt' y. refl; no_event = refl }) (λ ws. refl)
        (half_prepares Q hand starts u x3 (with_reg Sp sp) (pc + 1 + 1 + 1 + 1 + 1 + 1) k regs6 (Tinitsp R0 R11) st.2.2.2.2.2.2.0 refl refl refl refl (λ b. refl)
        (λ d h7. next u regs6 d (half_ready start (pc + 1 + 1 + 1 + 1 + 1 + 1 + 1) regs6 u x7 x.event_bit regs1.dp sp bit h7.common.registers.dp
        (ap (λ i. word_sum (shifted_down (shifted_up name i) regs.r9) offset) h7.common.registers.r8
        ∙ ap (λ i. word_sum (shifted_down (shifted_up name 8) i) offset) h7.common.registers.r9
        ∙ stack_address stacks home.number u inside few_cores h7.few_u)
        refl d h7))))))) d1 h1) a h
