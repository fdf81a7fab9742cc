-- Each row changes the ends as `Changes` says.
use Rattle.std.proofs.Common.{◌≡◌, ◌≤◌, ◌%◌, ◌^◌, ℕ, Bool, true, false, List, [], ◌∷◌, Option, Some, None, length, take, refl, inl, inr, arith}
use Rattle.std.proofs.lemmas.Bool.{leb-true}
use Rattle.std.specs.Prelude.{slice_get, nat_le, nat_eq, not}
use Rattle.xs_instr.specs.declared.instr.Cond.{Cond}
use Rattle.xs_instr.specs.declared.instr.GetKind.{GetKind}
use Rattle.xs_instr.specs.declared.instr.GetKind.TheVariants.{Sync as GetSync, Lock as GetLock}
use Rattle.xs_instr.specs.declared.instr.Instr.{Instr}
use Rattle.xs_instr.specs.declared.instr.Instr.TheVariants.{Divs, Rems, Divu, Remu, Ecallf, Ecallt, Ldwdp, Stwdp, Ldwsp, Stwsp, Ldw, Stw, Brft, Brff, Brbt, Brbf, Entsp, Retsp, Getr, Freer, Getst, Tinitpc, Tinitdp, Tinitsp, Msync, Ssync, Mjoin, Freet, Out, Outt, Outct, In, Int, Chkct, Setc, Setd, Setpt, Getts, Setv, Eeu, Edu, Clre, Waiteu, Setsr, Clrsr}
use Rattle.xs_instr.specs.declared.instr.Reg.{Reg}
use Rattle.xs_instr.specs.declared.state.ChanEnd.{ChanEnd}
use Rattle.xs_instr.specs.declared.state.CoreState.{CoreState}
use Rattle.xs_instr.specs.declared.state.Lock.{Lock}
use Rattle.xs_instr.specs.declared.state.Mode.{Mode}
use Rattle.xs_instr.specs.declared.state.Mode.TheVariants.{Unused, Waiting, Running, Trapped}
use Rattle.xs_instr.specs.declared.state.Port.{Port}
use Rattle.xs_instr.specs.declared.state.PortGot.{PortGot}
use Rattle.xs_instr.specs.declared.state.Res.{Res}
use Rattle.xs_instr.specs.declared.state.Res.TheVariants.{Port as ResPort, Timer as ResTimer, End as ResEnd}
use Rattle.xs_instr.specs.declared.state.Thread.{Thread}
use Rattle.xs_instr.specs.declared.state.Timer.{Timer}
use Rattle.xs_instr.specs.declared.state.Token.{Token}
use Rattle.xs_instr.specs.Did.{Did, Made, Paused, Traps, Idle, map_did}
use Rattle.xs_instr.specs.declared.image.Home.{Home}
use Rattle.xs_instr.specs.Resources.{Named, APort, ATimer, AnEnd, ASync, AThread, ALock, usable, where_taken, is_num, on_sync, on_port, on_end, on_thread}
use Rattle.xs_instr.specs.Pool.{on_lock, lock_there, where_lock, sync_freed, sync_freed_by, some_tied, lock_freed, lock_freed_by, lock_held, lock_held_by, lock_given, lock_given_by, synced, synced_by, joined, joined_when, all_wait, prepared, prepared_by, is_waiting, thread_got, with_pc, with_reg}
use Rattle.xs_instr.specs.declared.instr.Reg.TheVariants.{Dp, Sp}
use Rattle.xs_instr.specs.Registers.{reg_get}
use Rattle.xs_instr.specs.Ends.{word_tokens, data_token, control_token, Taken, Word, Control, NotYet, Checked, Passed, Other, NotThere, outs, outs_by, tokens_go, tokens_taken, peer_of, word_in, byte_in, check_in, ins_word, ins_byte, ins_control, take_word, take_byte, check, word_unless, first_control}
use Rattle.xs_instr.specs.Ports.{drives, drives_on, drives_by, time_meets, can_send, can_receive, counter, reads, reads_on, reads_latched, reads_now, meets, port_cond_set, port_cond_by, is_port_cond, port_data_set, port_time_set, port_stamp}
use Rattle.xs_instr.specs.Timers.{clock_read, clock_latched, clock_by, timer_meets, timer_cond_set, timer_cond_by, is_timer_cond, timer_data_set, on_timer}
use Rattle.xs_instr.specs.Events.{there, on_evented, vector_row, enable_row, disable_row, latched}
use Rattle.xw_words.specs.Words.{div_s, rem_s, div_u, rem_u}
use Rattle.xs_instr.specs.Memory.{word_at, address_at}
use Rattle.xs_instr.specs.Rows.{Local, reg, sets_where, passes_by, loads, stores, jumps_by, enters_where, enters_by, returns_where, returns_by, local_row, local_of, put_local, put_threads, put_syncs, put_locks, put_ports, put_timers, put_ends, put_events, goes_with, gets_with, out_row, in_row, cond_row, data_row, free_row, get_row, wait_row, end_row, names, row}
use Rattle.xs_instr.specs.Slot.{takes_events, pick_where, fetched, event_or_row, instr_at, turn_of, turn_at, slot}
use Rattle.xs_fabric.specs.Changes.{Changes, sent_of, ends_after}

abbrev pub Kept : Home → CoreState → Did CoreState → Type 0
Kept home core did = Changes home core.clock core.ends (ends_after core did) (sent_of did)

-- a part without the ends, from which nothing is sent
told_kept : {A : Type 0} (home : Home) (core : CoreState) (put : A → CoreState) (did : Did A) → ((a : A) → (put a).ends ≡ core.ends) → sent_of did ≡ [] → Kept home core (map_did put did)
told_kept home core put (Made left made sent) same h = inl (same left, h)
told_kept home core put Paused same h = inl (refl, refl)
told_kept home core put (Traps kind) same h = inl (refl, refl)
told_kept home core put Idle same h = inl (refl, refl)

module _ (own : Local) where
  q_sets : (d : Reg) (o : Option ℕ) → sent_of (sets_where own d o) ≡ []
  q_sets d None = refl
  q_sets d (Some v) = refl

  q_passes : (b : Bool) → sent_of (passes_by own b) ≡ []
  q_passes true = refl
  q_passes false = refl

  q_loads : (d : Reg) (o : Option ℕ) → sent_of (loads own d o) ≡ []
  q_loads d None = refl
  q_loads d (Some v) = refl

  q_stores : (v a : ℕ) (o : Option ℕ) → sent_of (stores own v a o) ≡ []
  q_stores v a None = refl
  q_stores v a (Some w) = refl

  q_jumps : (k : ℕ) (b : Bool) → sent_of (jumps_by own k b) ≡ []
  q_jumps k true = refl
  q_jumps k false = refl

  q_enters_where : (n : ℕ) (o : Option ℕ) → sent_of (enters_where own n o) ≡ []
  q_enters_where n None = refl
  q_enters_where n (Some v) = refl

  q_enters : (n : ℕ) (b : Bool) → sent_of (enters_by own n b) ≡ []
  q_enters n true = refl
  q_enters n false = q_enters_where n (word_at own.words own.regs.sp)

  q_returns_where : (sp : ℕ) (o : Option ℕ) → sent_of (returns_where own sp o) ≡ []
  q_returns_where sp None = refl
  q_returns_where sp (Some v) = refl

  q_returns : (n : ℕ) (b : Bool) → sent_of (returns_by own n b) ≡ []
  q_returns n true = refl
  q_returns n false = q_returns_where (address_at own.regs.sp n) (word_at own.words (address_at own.regs.sp n))

  q_own : (i : Instr) → sent_of (local_row own i) ≡ []
  q_own (Divs d a b) = q_sets d (div_s (reg own a) (reg own b))
  q_own (Rems d a b) = q_sets d (rem_s (reg own a) (reg own b))
  q_own (Divu d a b) = q_sets d (div_u (reg own a) (reg own b))
  q_own (Remu d a b) = q_sets d (rem_u (reg own a) (reg own b))
  q_own (Ecallf a) = q_passes (not (nat_eq (reg own a) 0))
  q_own (Ecallt a) = q_passes (nat_eq (reg own a) 0)
  q_own (Ldwdp d n) = q_loads d (word_at own.words (address_at own.regs.dp n))
  q_own (Stwdp s n) = q_stores (reg own s) (address_at own.regs.dp n) (word_at own.words (address_at own.regs.dp n))
  q_own (Ldwsp d n) = q_loads d (word_at own.words (address_at own.regs.sp n))
  q_own (Stwsp s n) = q_stores (reg own s) (address_at own.regs.sp n) (word_at own.words (address_at own.regs.sp n))
  q_own (Ldw d b i) = q_loads d (word_at own.words (address_at (reg own b) (reg own i)))
  q_own (Stw s b i) = q_stores (reg own s) (address_at (reg own b) (reg own i)) (word_at own.words (address_at (reg own b) (reg own i)))
  q_own (Brft a k) = q_jumps k (not (nat_eq (reg own a) 0))
  q_own (Brff a k) = q_jumps k (nat_eq (reg own a) 0)
  q_own (Brbt a k) = q_jumps k (not (nat_eq (reg own a) 0))
  q_own (Brbf a k) = q_jumps k (nat_eq (reg own a) 0)
  q_own (Entsp n) = q_enters n (nat_eq n 0)
  q_own (Retsp n) = q_returns n (nat_eq n 0)
  q_own _ = refl

q_usable : {A B : Type 0} (go : A → Did B) (o : Option A) → ((a : A) → sent_of (go a) ≡ []) → sent_of (usable go o) ≡ []
q_usable go None h = refl
q_usable go (Some a) h = h a

q_taken : {B : Type 0} (did : Did B) (o : Option Bool) → sent_of did ≡ [] → sent_of (where_taken did o) ≡ []
q_taken did None h = refl
q_taken did (Some true) h = h
q_taken did (Some false) h = refl

q_sync : {B : Type 0} (core : CoreState) (go : ℕ → Did B) (x : Named) → ((n : ℕ) → sent_of (go n) ≡ []) → sent_of (on_sync core go x) ≡ []
q_sync core go (ASync n) h = q_taken (go n) (slice_get core.syncs n) (h n)
q_sync core go _ h = refl

q_port : {B : Type 0} (core : CoreState) (go : ℕ → Port → Did B) (x : Named) → ((n : ℕ) (p : Port) → sent_of (go n p) ≡ []) → sent_of (on_port core go x) ≡ []
q_port core go (APort n) h = q_usable (go n) (slice_get core.ports n) (h n)
q_port core go _ h = refl

q_timer : {B : Type 0} (core : CoreState) (go : ℕ → Timer → Did B) (x : Named) → ((n : ℕ) (p : Timer) → sent_of (go n p) ≡ []) → sent_of (on_timer core go x) ≡ []
q_timer core go (ATimer n) h = q_usable (go n) (slice_get core.timers n) (h n)
q_timer core go _ h = refl

q_thread : {B : Type 0} (core : CoreState) (go : ℕ → Thread → Did B) (x : Named) → ((n : ℕ) (p : Thread) → sent_of (go n p) ≡ []) → sent_of (on_thread core go x) ≡ []
q_thread core go (AThread n) h = q_usable (go n) (slice_get core.threads n) (h n)
q_thread core go _ h = refl

q_where_lock : {B : Type 0} (go : Lock → Did B) (lock : Lock) (b : Bool) → sent_of (go lock) ≡ [] → sent_of (where_lock go lock b) ≡ []
q_where_lock go lock true h = h
q_where_lock go lock false h = refl

q_lock_there : {B : Type 0} (go : Lock → Did B) (o : Option Lock) → ((l : Lock) → sent_of (go l) ≡ []) → sent_of (lock_there go o) ≡ []
q_lock_there go None h = refl
q_lock_there go (Some l) h = q_where_lock go l l.taken (h l)

q_lock : {B : Type 0} (core : CoreState) (go : ℕ → Lock → Did B) (x : Named) → ((n : ℕ) (l : Lock) → sent_of (go n l) ≡ []) → sent_of (on_lock core go x) ≡ []
q_lock core go (ALock n) h = q_lock_there (go n) (slice_get core.locks n) (h n)
q_lock core go _ h = refl

q_there : {A B : Type 0} (did : Did B) (o : Option A) → sent_of did ≡ [] → sent_of (there did o) ≡ []
q_there did None h = refl
q_there did (Some a) h = h

q_evented : {B : Type 0} (core : CoreState) (go : Res → Did B) (x : Named) → ((r : Res) → sent_of (go r) ≡ []) → sent_of (on_evented core go x) ≡ []
q_evented core go (APort n) h = q_there (go (ResPort n)) (slice_get core.ports n) (h (ResPort n))
q_evented core go (ATimer n) h = q_there (go (ResTimer n)) (slice_get core.timers n) (h (ResTimer n))
q_evented core go (AnEnd n) h = q_there (go (ResEnd n)) (slice_get core.ends n) (h (ResEnd n))
q_evented core go _ h = refl

q_drives_by : (home : Home) (now v : ℕ) (ports : List Port) (p : ℕ) (port : Port) (b : Bool) → sent_of (drives_by home now v ports p port b) ≡ []
q_drives_by home now v ports p port true = refl
q_drives_by home now v ports p port false = refl

q_drives_on : (home : Home) (now v : ℕ) (ports : List Port) (p : ℕ) (port : Port) (b : Bool) → sent_of (drives_on home now v ports p port b) ≡ []
q_drives_on home now v ports p port true = q_drives_by home now v ports p port (time_meets port.time now)
q_drives_on home now v ports p port false = refl

q_reads_now : (home : Home) (clock : ℕ) (ports : List Port) (p : ℕ) (port : Port) (b : Bool) → sent_of (reads_now home clock ports p port b) ≡ []
q_reads_now home clock ports p port true = refl
q_reads_now home clock ports p port false = refl

q_reads_latched : (home : Home) (clock : ℕ) (ports : List Port) (p : ℕ) (port : Port) (o : Option PortGot) → sent_of (reads_latched home clock ports p port o) ≡ []
q_reads_latched home clock ports p port (Some got) = refl
q_reads_latched home clock ports p port None = q_reads_now home clock ports p port (meets home clock port)

q_reads_on : (home : Home) (clock : ℕ) (ports : List Port) (p : ℕ) (port : Port) (b : Bool) → sent_of (reads_on home clock ports p port b) ≡ []
q_reads_on home clock ports p port true = q_reads_latched home clock ports p port port.latch
q_reads_on home clock ports p port false = refl

q_port_cond : (cond : Cond) (ports : List Port) (p : ℕ) (port : Port) (b : Bool) → sent_of (port_cond_by cond ports p port b) ≡ []
q_port_cond cond ports p port true = refl
q_port_cond cond ports p port false = refl

q_clock_by : (clock : ℕ) (timers : List Timer) (n : ℕ) (x : Timer) (b : Bool) → sent_of (clock_by clock timers n x b) ≡ []
q_clock_by clock timers n x true = refl
q_clock_by clock timers n x false = refl

q_clock_latched : (clock : ℕ) (timers : List Timer) (n : ℕ) (x : Timer) (o : Option ℕ) → sent_of (clock_latched clock timers n x o) ≡ []
q_clock_latched clock timers n x (Some t) = refl
q_clock_latched clock timers n x None = q_clock_by clock timers n x (timer_meets x.cond clock x.datum)

q_timer_cond : (cond : Cond) (timers : List Timer) (n : ℕ) (x : Timer) (b : Bool) → sent_of (timer_cond_by cond timers n x b) ≡ []
q_timer_cond cond timers n x true = refl
q_timer_cond cond timers n x false = refl

q_sync_freed : (syncs : List Bool) (n : ℕ) (b : Bool) → sent_of (sync_freed_by syncs n b) ≡ []
q_sync_freed syncs n true = refl
q_sync_freed syncs n false = refl

q_lock_freed : (locks : List Lock) (n : ℕ) (o : Option ℕ) → sent_of (lock_freed_by locks n o) ≡ []
q_lock_freed locks n None = refl
q_lock_freed locks n (Some t) = refl

q_lock_held : (locks : List Lock) (t name n : ℕ) (o : Option ℕ) → sent_of (lock_held_by locks t name n o) ≡ []
q_lock_held locks t name n None = refl
q_lock_held locks t name n (Some h) = refl

q_lock_given : (locks : List Lock) (n : ℕ) (b : Bool) → sent_of (lock_given_by locks n b) ≡ []
q_lock_given locks n true = refl
q_lock_given locks n false = refl

q_synced : (threads : List Thread) (n : ℕ) (b : Bool) → sent_of (synced_by threads n b) ≡ []
q_synced threads n true = refl
q_synced threads n false = refl

q_joined : (threads : List Thread) (n : ℕ) (b : Bool) → sent_of (joined_when threads n b) ≡ []
q_joined threads n true = refl
q_joined threads n false = refl

q_prepared : (change : Thread → Thread) (threads : List Thread) (n : ℕ) (x : Thread) (b : Bool) → sent_of (prepared_by change threads n x b) ≡ []
q_prepared change threads n x true = refl
q_prepared change threads n x false = refl

end_given : (end : ChanEnd) (ks : List Token) → nat_le (length ks) end.credits ≡ true → length ks ≤ end.credits
end_given end ks h = leb-true (length ks) end.credits h

module _ (home : Home) (core : CoreState) (t : ℕ) (thread : Thread) where
  own_kept : (i : Instr) → Kept home core (map_did (put_local core t thread) (local_row (local_of core thread) i))
  own_kept i = told_kept home core (put_local core t thread) (local_row (local_of core thread) i) (λ a. refl) (q_own (local_of core thread) i)

  outs_kept_by : (ks : List Token) (e : ℕ) (end : ChanEnd) (b : Bool) → slice_get core.ends e ≡ Some end → nat_le (length ks) end.credits ≡ b → Kept home core (map_did (goes_with put_ends core t thread) (outs_by (tokens_go home core.clock core.ends e end ks (peer_of home.pairs home.number e)) b))
  outs_kept_by ks e end true h g = inr (inl (record { e = e; end = end; ks = ks; here = h; enough = end_given end ks g; gone = refl }))
  outs_kept_by ks e end false h g = inl (refl, refl)

  outs_kept_at : (ks : List Token) (e : ℕ) (o : Option ChanEnd) → slice_get core.ends e ≡ o → Kept home core (map_did (goes_with put_ends core t thread) (usable (outs home core.clock ks core.ends e) o))
  outs_kept_at ks e None h = inl (refl, refl)
  outs_kept_at ks e (Some end) h = outs_kept_by ks e end (nat_le (length ks) end.credits) h refl

  outs_kept : (ks : List Token) (x : Named) → Kept home core (map_did (goes_with put_ends core t thread) (on_end core (outs home core.clock ks core.ends) x))
  outs_kept ks (AnEnd e) = outs_kept_at ks e (slice_get core.ends e) refl
  outs_kept ks _ = inl (refl, refl)

not_word : (o : Option ℕ) (v : ℕ) → word_unless NotYet o ≡ Word v → ⊥
not_word None v h = cc
not_word (Some c) v h = cc

word_enough : (ks : List Token) (v : ℕ) → take_word ks ≡ Word v → 4 ≤ length ks
word_enough [] v h = absurd (not_word (first_control (take 4 [])) v h)
word_enough (a ∷ []) v h = absurd (not_word (first_control (take 4 (a ∷ []))) v h)
word_enough (a ∷ b ∷ []) v h = absurd (not_word (first_control (take 4 (a ∷ b ∷ []))) v h)
word_enough (a ∷ b ∷ c ∷ []) v h = absurd (not_word (first_control (take 4 (a ∷ b ∷ c ∷ []))) v h)
word_enough (a ∷ b ∷ c ∷ d ∷ ks) v h = omega arith

byte_enough : (ks : List Token) (v : ℕ) → take_byte ks ≡ Word v → 1 ≤ length ks
byte_enough [] v h = cc
byte_enough (k ∷ ks) v h = omega arith

check_enough : (ks : List Token) (c : ℕ) → check ks c ≡ Passed → 1 ≤ length ks
check_enough [] c h = cc
check_enough (k ∷ ks) c h = omega arith

module _ (home : Home) (core : CoreState) (t : ℕ) (thread : Thread) where
  word_kept_by : (d : Reg) (e : ℕ) (end : ChanEnd) (w : Taken) → slice_get core.ends e ≡ Some end → take_word end.tokens ≡ w → Kept home core (map_did (gets_with put_ends core t thread d) (word_in home (tokens_taken home core.clock core.ends e end 4 (peer_of home.pairs home.number e)) w))
  word_kept_by d e end (Word v) h g = inr (inr (record { e = e; end = end; n = 4; here = h; enough = word_enough end.tokens v g; gone = refl }))
  word_kept_by d e end (Control c) h g = inl (refl, refl)
  word_kept_by d e end NotYet h g = inl (refl, refl)

  word_kept_at : (d : Reg) (e : ℕ) (o : Option ChanEnd) → slice_get core.ends e ≡ o → Kept home core (map_did (gets_with put_ends core t thread d) (usable (ins_word home core.clock core.ends e) o))
  word_kept_at d e None h = inl (refl, refl)
  word_kept_at d e (Some end) h = word_kept_by d e end (take_word end.tokens) h refl

  word_kept : (d : Reg) (x : Named) → Kept home core (map_did (gets_with put_ends core t thread d) (on_end core (ins_word home core.clock core.ends) x))
  word_kept d (AnEnd e) = word_kept_at d e (slice_get core.ends e) refl
  word_kept d _ = inl (refl, refl)

  byte_kept_by : (d : Reg) (e : ℕ) (end : ChanEnd) (w : Taken) → slice_get core.ends e ≡ Some end → take_byte end.tokens ≡ w → Kept home core (map_did (gets_with put_ends core t thread d) (byte_in (tokens_taken home core.clock core.ends e end 1 (peer_of home.pairs home.number e)) w))
  byte_kept_by d e end (Word v) h g = inr (inr (record { e = e; end = end; n = 1; here = h; enough = byte_enough end.tokens v g; gone = refl }))
  byte_kept_by d e end (Control c) h g = inl (refl, refl)
  byte_kept_by d e end NotYet h g = inl (refl, refl)

  byte_kept_at : (d : Reg) (e : ℕ) (o : Option ChanEnd) → slice_get core.ends e ≡ o → Kept home core (map_did (gets_with put_ends core t thread d) (usable (ins_byte home core.clock core.ends e) o))
  byte_kept_at d e None h = inl (refl, refl)
  byte_kept_at d e (Some end) h = byte_kept_by d e end (take_byte end.tokens) h refl

  byte_kept : (d : Reg) (x : Named) → Kept home core (map_did (gets_with put_ends core t thread d) (on_end core (ins_byte home core.clock core.ends) x))
  byte_kept d (AnEnd e) = byte_kept_at d e (slice_get core.ends e) refl
  byte_kept d _ = inl (refl, refl)

  check_kept_by : (c e : ℕ) (end : ChanEnd) (w : Checked) → slice_get core.ends e ≡ Some end → check end.tokens c ≡ w → Kept home core (map_did (goes_with put_ends core t thread) (check_in (tokens_taken home core.clock core.ends e end 1 (peer_of home.pairs home.number e)) w))
  check_kept_by c e end Passed h g = inr (inr (record { e = e; end = end; n = 1; here = h; enough = check_enough end.tokens c g; gone = refl }))
  check_kept_by c e end (Other k) h g = inl (refl, refl)
  check_kept_by c e end NotThere h g = inl (refl, refl)

  check_kept_at : (c e : ℕ) (o : Option ChanEnd) → slice_get core.ends e ≡ o → Kept home core (map_did (goes_with put_ends core t thread) (usable (ins_control home core.clock c core.ends e) o))
  check_kept_at c e None h = inl (refl, refl)
  check_kept_at c e (Some end) h = check_kept_by c e end (check end.tokens c) h refl

  check_kept : (c : ℕ) (x : Named) → Kept home core (map_did (goes_with put_ends core t thread) (on_end core (ins_control home core.clock c core.ends) x))
  check_kept c (AnEnd e) = check_kept_at c e (slice_get core.ends e) refl
  check_kept c _ = inl (refl, refl)

  out_kept : (v : ℕ) (x : Named) → Kept home core (out_row home core t thread v x)
  out_kept v (APort p) =
      told_kept home core (goes_with put_ports core t thread) _ (λ a. refl)
      (q_port core (drives home core.clock v core.ports) (APort p) (λ n port. q_drives_on home (counter core.clock) v core.ports n port (can_send port.decl.dir)))
  out_kept v (AnEnd e) = outs_kept home core t thread (word_tokens v) (AnEnd e)
  out_kept v (ALock l) =
      told_kept home core (goes_with put_locks core t thread) _ (λ a. refl)
      (q_lock core (lock_given core.locks t) (ALock l) (λ n lock. q_lock_given core.locks n (is_num lock.holder t)))
  out_kept v _ = inl (refl, refl)

  in_kept : (d : Reg) (name : ℕ) (x : Named) → Kept home core (in_row home core t thread d name x)
  in_kept d name (APort p) =
      told_kept home core (gets_with put_ports core t thread d) _ (λ a. refl)
      (q_port core (reads home core.clock core.ports) (APort p) (λ n port. q_reads_on home core.clock core.ports n port (can_receive port.decl.dir)))
  in_kept d name (ATimer m) =
      told_kept home core (gets_with put_timers core t thread d) _ (λ a. refl)
      (q_timer core (clock_read core.clock core.timers) (ATimer m) (λ n x. q_clock_latched core.clock core.timers n x x.latch))
  in_kept d name (AnEnd e) = word_kept d (AnEnd e)
  in_kept d name (ALock l) =
      told_kept home core (gets_with put_locks core t thread d) _ (λ a. refl)
      (q_lock core (lock_held core.locks t name) (ALock l) (λ n lock. q_lock_held core.locks t name n lock.holder))
  in_kept d name _ = inl (refl, refl)

  cond_kept : (cond : Cond) (x : Named) → Kept home core (cond_row core t thread cond x)
  cond_kept cond (APort p) =
      told_kept home core (goes_with put_ports core t thread) _ (λ a. refl)
      (q_port core (port_cond_set cond core.ports) (APort p) (λ n port. q_port_cond cond core.ports n port (is_port_cond cond)))
  cond_kept cond (ATimer m) =
      told_kept home core (goes_with put_timers core t thread) _ (λ a. refl)
      (q_timer core (timer_cond_set cond core.timers) (ATimer m) (λ n x. q_timer_cond cond core.timers n x (is_timer_cond cond)))
  cond_kept cond _ = inl (refl, refl)

  data_kept : (v : ℕ) (x : Named) → Kept home core (data_row core t thread v x)
  data_kept v (APort p) =
      told_kept home core (goes_with put_ports core t thread) _ (λ a. refl) (q_port core (port_data_set v core.ports) (APort p) (λ n port. refl))
  data_kept v (ATimer m) =
      told_kept home core (goes_with put_timers core t thread) _ (λ a. refl) (q_timer core (timer_data_set v core.timers) (ATimer m) (λ n x. refl))
  data_kept v _ = inl (refl, refl)

  free_kept : (x : Named) → Kept home core (free_row core t thread x)
  free_kept (ASync m) =
      told_kept home core (goes_with put_syncs core t thread) _ (λ a. refl)
      (q_sync core (sync_freed core.threads core.syncs) (ASync m) (λ n. q_sync_freed core.syncs n (some_tied core.threads n)))
  free_kept (ALock l) =
      told_kept home core (goes_with put_locks core t thread) _ (λ a. refl)
      (q_lock core (lock_freed core.locks) (ALock l) (λ n lock. q_lock_freed core.locks n lock.holder))
  free_kept _ = inl (refl, refl)

  get_kept : (d : Reg) (kind : GetKind) → Kept home core (get_row home core t thread d kind)
  get_kept d GetSync = inl (refl, refl)
  get_kept d GetLock = inl (refl, refl)

  wait_kept : (o : Option ℕ) → Kept home core (wait_row core t thread o)
  wait_kept None = inl (refl, refl)
  wait_kept (Some n) = inl (refl, refl)

  end_kept : (o : Option ℕ) → Kept home core (end_row core t thread o)
  end_kept None = inl (refl, refl)
  end_kept (Some n) = inl (refl, refl)

  sync_kept : {A : Type 0} (put : A → CoreState) (go : ℕ → Did A) (x : Named) → ((a : A) → (put a).ends ≡ core.ends) → ((n : ℕ) → sent_of (go n) ≡ []) → Kept home core (map_did put (on_sync core go x))
  sync_kept put go x same h = told_kept home core put (on_sync core go x) same (q_sync core go x h)

  prepared_kept : (change : Thread → Thread) (x : Named) → Kept home core (map_did (goes_with put_threads core t thread) (on_thread core (prepared change core.threads) x))
  prepared_kept change x =
      told_kept home core (goes_with put_threads core t thread) _ (λ a. refl)
      (q_thread core (prepared change core.threads) x (λ n y. q_prepared change core.threads n y (is_waiting y.mode)))

  port_kept : {A : Type 0} (put : A → CoreState) (go : ℕ → Port → Did A) (x : Named) → ((a : A) → (put a).ends ≡ core.ends) → ((n : ℕ) (p : Port) → sent_of (go n p) ≡ []) → Kept home core (map_did put (on_port core go x))
  port_kept put go x same h = told_kept home core put (on_port core go x) same (q_port core go x h)

  event_kept : {A : Type 0} (put : A → CoreState) (go : Res → Did A) (x : Named) → ((a : A) → (put a).ends ≡ core.ends) → ((r : Res) → sent_of (go r) ≡ []) → Kept home core (map_did put (on_evented core go x))
  event_kept put go x same h = told_kept home core put (on_evented core go x) same (q_evented core go x h)

  pub row_kept : (i : Instr) → Kept home core (row home core t thread i)
  row_kept (Getr d kind) = get_kept d kind
  row_kept (Freer r) = free_kept (names home thread r)
  row_kept (Getst d r) = sync_kept (gets_with put_threads core t thread d) (thread_got home.number core.threads) (names home thread r) (λ a. refl) (λ n. refl)
  row_kept (Tinitpc x k) = prepared_kept (with_pc k) (names home thread x)
  row_kept (Tinitdp x s) = prepared_kept (with_reg Dp (reg_get thread.regs s)) (names home thread x)
  row_kept (Tinitsp x s) = prepared_kept (with_reg Sp (reg_get thread.regs s)) (names home thread x)
  row_kept (Msync r) = sync_kept (goes_with put_threads core t thread) (synced core.threads) (names home thread r) (λ a. refl) (λ n. q_synced core.threads n (all_wait core.threads n))
  row_kept Ssync = wait_kept thread.tie
  row_kept (Mjoin r) = sync_kept (goes_with put_threads core t thread) (joined core.threads) (names home thread r) (λ a. refl) (λ n. q_joined core.threads n (all_wait core.threads n))
  row_kept Freet = end_kept thread.tie
  row_kept (Out r s) = out_kept (reg_get thread.regs s) (names home thread r)
  row_kept (Outt r s) = outs_kept home core t thread (data_token (reg_get thread.regs s % 2 ^ 8) ∷ []) (names home thread r)
  row_kept (Outct r n) = outs_kept home core t thread (control_token n ∷ []) (names home thread r)
  row_kept (In d r) = in_kept d (reg_get thread.regs r) (names home thread r)
  row_kept (Int d r) = byte_kept d (names home thread r)
  row_kept (Chkct r n) = check_kept n (names home thread r)
  row_kept (Setc r cond) = cond_kept cond (names home thread r)
  row_kept (Setd r s) = data_kept (reg_get thread.regs s) (names home thread r)
  row_kept (Setpt r s) = port_kept (goes_with put_ports core t thread) (port_time_set (reg_get thread.regs s) core.ports) (names home thread r) (λ a. refl) (λ n p. refl)
  row_kept (Getts d r) = port_kept (gets_with put_ports core t thread d) (port_stamp core.ports) (names home thread r) (λ a. refl) (λ n p. refl)
  row_kept (Setv r k) = event_kept (goes_with put_events core t thread) (vector_row core.events k) (names home thread r) (λ a. refl) (λ x. refl)
  row_kept (Eeu r) = event_kept (goes_with put_events core t thread) (enable_row core.events t) (names home thread r) (λ a. refl) (λ x. refl)
  row_kept (Edu r) = event_kept (goes_with put_events core t thread) (disable_row core.events) (names home thread r) (λ a. refl) (λ x. refl)
  row_kept Clre = inl (refl, refl)
  row_kept Waiteu = inl (refl, refl)
  row_kept (Setsr n) = inl (refl, refl)
  row_kept (Clrsr n) = inl (refl, refl)
  row_kept i = own_kept home core t thread i

  latched_ends : (r : Res) → (latched home core r).ends ≡ core.ends
  latched_ends (ResPort n) = refl
  latched_ends (ResTimer n) = refl
  latched_ends (ResEnd n) = refl

  fetched_kept : (i : Option Instr) → Kept home core (fetched home core t thread i)
  fetched_kept None = inl (refl, refl)
  fetched_kept (Some i) = row_kept i

  event_or_row_kept : (i : Option Instr) (o : Option Res) → Kept home core (event_or_row home core t thread i o)
  event_or_row_kept i (Some r) = inl (latched_ends r, refl)
  event_or_row_kept i None = fetched_kept i

  turn_of_kept : (m : Mode) → Kept home core (turn_of home core t thread m)
  turn_of_kept Running = event_or_row_kept (instr_at home thread.pc) (pick_where home core t (takes_events thread (instr_at home thread.pc)))
  turn_of_kept Waiting = inl (refl, refl)
  turn_of_kept Unused = inl (refl, refl)
  turn_of_kept Trapped = inl (refl, refl)

pub slot_kept : (home : Home) (core : CoreState) (t : ℕ) → Kept home core (slot home core t)
slot_kept home core t = go (slice_get core.threads t)
  where
    go : (o : Option Thread) → Kept home core (turn_at home core t o)
    go None = inl (refl, refl)
    go (Some thread) = turn_of_kept home core t thread thread.mode
