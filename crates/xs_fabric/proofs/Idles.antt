-- No row is idle, and ready is what the words say.
use Rattle.std.specs.Prelude.{◌&&◌, ◌||◌}
use Rattle.xs_instr.specs.Ends.{Gone}
use Rattle.xs_instr.specs.Did.{is_step}
use Rattle.xs_instr.specs.Events.{pick}
use Rattle.std.proofs.Common.{◌≡◌, ◌%◌, ◌^◌, ℕ, Bool, true, false, List, [], ◌∷◌, Option, Some, None, length, refl}
use Rattle.std.specs.Prelude.{slice_get, nat_le, nat_eq, not}
use Rattle.xs_instr.specs.declared.instr.Cond.{Cond}
use Rattle.xs_instr.specs.declared.instr.GetKind.{GetKind}
use Rattle.xs_instr.specs.declared.instr.GetKind.TheVariants.{Sync as GetSync, Lock as GetLock}
use Rattle.xs_instr.specs.declared.instr.Instr.{Instr}
use Rattle.xs_instr.specs.declared.instr.Instr.TheVariants.{Divs, Rems, Divu, Remu, Ecallf, Ecallt, Ldwdp, Stwdp, Ldwsp, Stwsp, Ldw, Stw, Brft, Brff, Brbt, Brbf, Entsp, Retsp, Getr, Freer, Getst, Tinitpc, Tinitdp, Tinitsp, Msync, Ssync, Mjoin, Freet, Out, Outt, Outct, In, Int, Chkct, Setc, Setd, Setpt, Getts, Setv, Eeu, Edu}
use Rattle.xs_instr.specs.declared.instr.Reg.{Reg}
use Rattle.xs_instr.specs.declared.state.ChanEnd.{ChanEnd}
use Rattle.xs_instr.specs.declared.state.CoreState.{CoreState}
use Rattle.xs_instr.specs.declared.state.Lock.{Lock}
use Rattle.xs_instr.specs.declared.state.Mode.{Mode}
use Rattle.xs_instr.specs.declared.state.Mode.TheVariants.{Unused, Waiting, Running, Trapped}
use Rattle.xs_instr.specs.declared.state.Port.{Port}
use Rattle.xs_instr.specs.declared.state.PortGot.{PortGot}
use Rattle.xs_instr.specs.declared.state.Res.{Res}
use Rattle.xs_instr.specs.declared.state.Res.TheVariants.{Port as ResPort, Timer as ResTimer, End as ResEnd}
use Rattle.xs_instr.specs.declared.state.Thread.{Thread}
use Rattle.xs_instr.specs.declared.state.Timer.{Timer}
use Rattle.xs_instr.specs.declared.state.Token.{Token}
use Rattle.xs_instr.specs.Did.{Did, Made, Paused, Traps, Idle, map_did}
use Rattle.xs_instr.specs.declared.image.Home.{Home}
use Rattle.xs_instr.specs.Resources.{Named, APort, ATimer, AnEnd, ASync, AThread, ALock, usable, where_taken, is_num, on_sync, on_port, on_end, on_thread}
use Rattle.xs_instr.specs.Pool.{on_lock, lock_there, where_lock, sync_freed, sync_freed_by, some_tied, lock_freed, lock_freed_by, lock_held, lock_held_by, lock_given, lock_given_by, synced, synced_by, joined, joined_when, all_wait, prepared, prepared_by, is_waiting, thread_got, with_pc, with_reg}
use Rattle.xs_instr.specs.declared.instr.Reg.TheVariants.{Dp, Sp}
use Rattle.xs_instr.specs.Registers.{reg_get}
use Rattle.xs_instr.specs.Ends.{word_tokens, data_token, control_token, Taken, Word, Control, NotYet, Checked, Passed, Other, NotThere, outs, outs_by, tokens_go, tokens_taken, peer_of, word_in, byte_in, check_in, ins_word, ins_byte, ins_control, take_word, take_byte, check}
use Rattle.xs_instr.specs.Ports.{drives, drives_on, drives_by, time_meets, can_send, can_receive, counter, reads, reads_on, reads_latched, reads_now, meets, port_cond_set, port_cond_by, is_port_cond, port_data_set, port_time_set, port_stamp}
use Rattle.xs_instr.specs.Timers.{clock_read, clock_latched, clock_by, timer_meets, timer_cond_set, timer_cond_by, is_timer_cond, timer_data_set, on_timer}
use Rattle.xs_instr.specs.Events.{there, on_evented, vector_row, enable_row, disable_row}
use Rattle.xw_words.specs.Words.{div_s, rem_s, div_u, rem_u}
use Rattle.xs_instr.specs.Memory.{word_at, address_at}
use Rattle.xs_instr.specs.Rows.{Local, reg, sets_where, passes_by, loads, stores, jumps_by, enters_where, enters_by, returns_where, returns_by, local_row, local_of, put_local, put_threads, put_ends, goes_with, out_row, in_row, cond_row, data_row, free_row, get_row, wait_row, end_row, names, row}
use Rattle.xs_instr.specs.Slot.{takes_events, pick_where, fetched, event_or_row, instr_at, turn_of, turn_at, is_ready, is_pause, is_there, could_step, could_step_at, is_ready_by_words}

abbrev pub is_idle : {A : Type 0} → Did A → Bool
is_idle Idle = true
is_idle Paused = false
is_idle (Made left made sent) = false
is_idle (Traps kind) = false

told_idle : {A : Type 0} (put : A → CoreState) (did : Did A) → is_idle did ≡ false → is_idle (map_did put did) ≡ false
told_idle put (Made left made sent) h = refl
told_idle put Paused h = refl
told_idle put (Traps kind) h = refl
told_idle put Idle h = h

module _ (own : Local) where
  q_sets : (d : Reg) (o : Option ℕ) → is_idle (sets_where own d o) ≡ false
  q_sets d None = refl
  q_sets d (Some v) = refl

  q_passes : (b : Bool) → is_idle (passes_by own b) ≡ false
  q_passes true = refl
  q_passes false = refl

  q_loads : (d : Reg) (o : Option ℕ) → is_idle (loads own d o) ≡ false
  q_loads d None = refl
  q_loads d (Some v) = refl

  q_stores : (v a : ℕ) (o : Option ℕ) → is_idle (stores own v a o) ≡ false
  q_stores v a None = refl
  q_stores v a (Some w) = refl

  q_jumps : (k : ℕ) (b : Bool) → is_idle (jumps_by own k b) ≡ false
  q_jumps k true = refl
  q_jumps k false = refl

  q_enters_where : (n : ℕ) (o : Option ℕ) → is_idle (enters_where own n o) ≡ false
  q_enters_where n None = refl
  q_enters_where n (Some v) = refl

  q_enters : (n : ℕ) (b : Bool) → is_idle (enters_by own n b) ≡ false
  q_enters n true = refl
  q_enters n false = q_enters_where n (word_at own.words own.regs.sp)

  q_returns_where : (sp : ℕ) (o : Option ℕ) → is_idle (returns_where own sp o) ≡ false
  q_returns_where sp None = refl
  q_returns_where sp (Some v) = refl

  q_returns : (n : ℕ) (b : Bool) → is_idle (returns_by own n b) ≡ false
  q_returns n true = refl
  q_returns n false = q_returns_where (address_at own.regs.sp n) (word_at own.words (address_at own.regs.sp n))

q_usable : {A B : Type 0} (go : A → Did B) (o : Option A) → ((a : A) → is_idle (go a) ≡ false) → is_idle (usable go o) ≡ false
q_usable go None h = refl
q_usable go (Some a) h = h a

q_taken : {B : Type 0} (did : Did B) (o : Option Bool) → is_idle did ≡ false → is_idle (where_taken did o) ≡ false
q_taken did None h = refl
q_taken did (Some true) h = h
q_taken did (Some false) h = refl

q_sync : {B : Type 0} (core : CoreState) (go : ℕ → Did B) (x : Named) → ((n : ℕ) → is_idle (go n) ≡ false) → is_idle (on_sync core go x) ≡ false
q_sync core go (ASync n) h = q_taken (go n) (slice_get core.syncs n) (h n)
q_sync core go _ h = refl

q_port : {B : Type 0} (core : CoreState) (go : ℕ → Port → Did B) (x : Named) → ((n : ℕ) (p : Port) → is_idle (go n p) ≡ false) → is_idle (on_port core go x) ≡ false
q_port core go (APort n) h = q_usable (go n) (slice_get core.ports n) (h n)
q_port core go _ h = refl

q_timer : {B : Type 0} (core : CoreState) (go : ℕ → Timer → Did B) (x : Named) → ((n : ℕ) (p : Timer) → is_idle (go n p) ≡ false) → is_idle (on_timer core go x) ≡ false
q_timer core go (ATimer n) h = q_usable (go n) (slice_get core.timers n) (h n)
q_timer core go _ h = refl

q_thread : {B : Type 0} (core : CoreState) (go : ℕ → Thread → Did B) (x : Named) → ((n : ℕ) (p : Thread) → is_idle (go n p) ≡ false) → is_idle (on_thread core go x) ≡ false
q_thread core go (AThread n) h = q_usable (go n) (slice_get core.threads n) (h n)
q_thread core go _ h = refl

q_where_lock : {B : Type 0} (go : Lock → Did B) (lock : Lock) (b : Bool) → is_idle (go lock) ≡ false → is_idle (where_lock go lock b) ≡ false
q_where_lock go lock true h = h
q_where_lock go lock false h = refl

q_lock_there : {B : Type 0} (go : Lock → Did B) (o : Option Lock) → ((l : Lock) → is_idle (go l) ≡ false) → is_idle (lock_there go o) ≡ false
q_lock_there go None h = refl
q_lock_there go (Some l) h = q_where_lock go l l.taken (h l)

q_lock : {B : Type 0} (core : CoreState) (go : ℕ → Lock → Did B) (x : Named) → ((n : ℕ) (l : Lock) → is_idle (go n l) ≡ false) → is_idle (on_lock core go x) ≡ false
q_lock core go (ALock n) h = q_lock_there (go n) (slice_get core.locks n) (h n)
q_lock core go _ h = refl

q_there : {A B : Type 0} (did : Did B) (o : Option A) → is_idle did ≡ false → is_idle (there did o) ≡ false
q_there did None h = refl
q_there did (Some a) h = h

q_evented : {B : Type 0} (core : CoreState) (go : Res → Did B) (x : Named) → ((r : Res) → is_idle (go r) ≡ false) → is_idle (on_evented core go x) ≡ false
q_evented core go (APort n) h = q_there (go (ResPort n)) (slice_get core.ports n) (h (ResPort n))
q_evented core go (ATimer n) h = q_there (go (ResTimer n)) (slice_get core.timers n) (h (ResTimer n))
q_evented core go (AnEnd n) h = q_there (go (ResEnd n)) (slice_get core.ends n) (h (ResEnd n))
q_evented core go _ h = refl

q_drives_by : (home : Home) (now v : ℕ) (ports : List Port) (p : ℕ) (port : Port) (b : Bool) → is_idle (drives_by home now v ports p port b) ≡ false
q_drives_by home now v ports p port true = refl
q_drives_by home now v ports p port false = refl

q_drives_on : (home : Home) (now v : ℕ) (ports : List Port) (p : ℕ) (port : Port) (b : Bool) → is_idle (drives_on home now v ports p port b) ≡ false
q_drives_on home now v ports p port true = q_drives_by home now v ports p port (time_meets port.time now)
q_drives_on home now v ports p port false = refl

q_reads_now : (home : Home) (clock : ℕ) (ports : List Port) (p : ℕ) (port : Port) (b : Bool) → is_idle (reads_now home clock ports p port b) ≡ false
q_reads_now home clock ports p port true = refl
q_reads_now home clock ports p port false = refl

q_reads_latched : (home : Home) (clock : ℕ) (ports : List Port) (p : ℕ) (port : Port) (o : Option PortGot) → is_idle (reads_latched home clock ports p port o) ≡ false
q_reads_latched home clock ports p port (Some got) = refl
q_reads_latched home clock ports p port None = q_reads_now home clock ports p port (meets home clock port)

q_reads_on : (home : Home) (clock : ℕ) (ports : List Port) (p : ℕ) (port : Port) (b : Bool) → is_idle (reads_on home clock ports p port b) ≡ false
q_reads_on home clock ports p port true = q_reads_latched home clock ports p port port.latch
q_reads_on home clock ports p port false = refl

q_port_cond : (cond : Cond) (ports : List Port) (p : ℕ) (port : Port) (b : Bool) → is_idle (port_cond_by cond ports p port b) ≡ false
q_port_cond cond ports p port true = refl
q_port_cond cond ports p port false = refl

q_clock_by : (clock : ℕ) (timers : List Timer) (n : ℕ) (x : Timer) (b : Bool) → is_idle (clock_by clock timers n x b) ≡ false
q_clock_by clock timers n x true = refl
q_clock_by clock timers n x false = refl

q_clock_latched : (clock : ℕ) (timers : List Timer) (n : ℕ) (x : Timer) (o : Option ℕ) → is_idle (clock_latched clock timers n x o) ≡ false
q_clock_latched clock timers n x (Some t) = refl
q_clock_latched clock timers n x None = q_clock_by clock timers n x (timer_meets x.cond clock x.datum)

q_timer_cond : (cond : Cond) (timers : List Timer) (n : ℕ) (x : Timer) (b : Bool) → is_idle (timer_cond_by cond timers n x b) ≡ false
q_timer_cond cond timers n x true = refl
q_timer_cond cond timers n x false = refl

q_sync_freed : (syncs : List Bool) (n : ℕ) (b : Bool) → is_idle (sync_freed_by syncs n b) ≡ false
q_sync_freed syncs n true = refl
q_sync_freed syncs n false = refl

q_lock_freed : (locks : List Lock) (n : ℕ) (o : Option ℕ) → is_idle (lock_freed_by locks n o) ≡ false
q_lock_freed locks n None = refl
q_lock_freed locks n (Some t) = refl

q_lock_held : (locks : List Lock) (t name n : ℕ) (o : Option ℕ) → is_idle (lock_held_by locks t name n o) ≡ false
q_lock_held locks t name n None = refl
q_lock_held locks t name n (Some h) = refl

q_lock_given : (locks : List Lock) (n : ℕ) (b : Bool) → is_idle (lock_given_by locks n b) ≡ false
q_lock_given locks n true = refl
q_lock_given locks n false = refl

q_synced : (threads : List Thread) (n : ℕ) (b : Bool) → is_idle (synced_by threads n b) ≡ false
q_synced threads n true = refl
q_synced threads n false = refl

q_joined : (threads : List Thread) (n : ℕ) (b : Bool) → is_idle (joined_when threads n b) ≡ false
q_joined threads n true = refl
q_joined threads n false = refl

q_prepared : (change : Thread → Thread) (threads : List Thread) (n : ℕ) (x : Thread) (b : Bool) → is_idle (prepared_by change threads n x b) ≡ false
q_prepared change threads n x true = refl
q_prepared change threads n x false = refl

q_end : {B : Type 0} (core : CoreState) (go : ℕ → ChanEnd → Did B) (x : Named) → ((n : ℕ) (p : ChanEnd) → is_idle (go n p) ≡ false) → is_idle (on_end core go x) ≡ false
q_end core go (AnEnd n) h = q_usable (go n) (slice_get core.ends n) (h n)
q_end core go _ h = refl

q_outs : (gone : Gone) (b : Bool) → is_idle (outs_by gone b) ≡ false
q_outs gone true = refl
q_outs gone false = refl

q_word : (home : Home) (gone : Gone) (w : Taken) → is_idle (word_in home gone w) ≡ false
q_word home gone (Word v) = refl
q_word home gone (Control c) = refl
q_word home gone NotYet = refl

q_byte : (gone : Gone) (w : Taken) → is_idle (byte_in gone w) ≡ false
q_byte gone (Word v) = refl
q_byte gone (Control c) = refl
q_byte gone NotYet = refl

q_check : (gone : Gone) (w : Checked) → is_idle (check_in gone w) ≡ false
q_check gone Passed = refl
q_check gone (Other k) = refl
q_check gone NotThere = refl

module _ (home : Home) (core : CoreState) (t : ℕ) (thread : Thread) where
  outs_idle : (ks : List Token) (x : Named) → is_idle (map_did (goes_with put_ends core t thread) (on_end core (outs home core.clock ks core.ends) x)) ≡ false
  outs_idle ks x =
      told_idle _ _ (q_end core (outs home core.clock ks core.ends) x (λ e end. q_outs (tokens_go home core.clock core.ends e end ks (peer_of home.pairs home.number e)) (nat_le (length ks) end.credits)))

  pub out_idle : (v : ℕ) (x : Named) → is_idle (out_row home core t thread v x) ≡ false
  out_idle v (APort p) = told_idle _ _ (q_port core (drives home core.clock v core.ports) (APort p) (λ n port. q_drives_on home (counter core.clock) v core.ports n port (can_send port.decl.dir)))
  out_idle v (AnEnd e) = outs_idle (word_tokens v) (AnEnd e)
  out_idle v (ALock l) = told_idle _ _ (q_lock core (lock_given core.locks t) (ALock l) (λ n lock. q_lock_given core.locks n (is_num lock.holder t)))
  out_idle v _ = refl

  pub in_idle : (d : Reg) (name : ℕ) (x : Named) → is_idle (in_row home core t thread d name x) ≡ false
  in_idle d name (APort p) = told_idle _ _ (q_port core (reads home core.clock core.ports) (APort p) (λ n port. q_reads_on home core.clock core.ports n port (can_receive port.decl.dir)))
  in_idle d name (ATimer m) = told_idle _ _ (q_timer core (clock_read core.clock core.timers) (ATimer m) (λ n x. q_clock_latched core.clock core.timers n x x.latch))
  in_idle d name (AnEnd e) = told_idle _ _ (q_end core (ins_word home core.clock core.ends) (AnEnd e) (λ e end. q_word home (tokens_taken home core.clock core.ends e end 4 (peer_of home.pairs home.number e)) (take_word end.tokens)))
  in_idle d name (ALock l) = told_idle _ _ (q_lock core (lock_held core.locks t name) (ALock l) (λ n lock. q_lock_held core.locks t name n lock.holder))
  in_idle d name _ = refl

  cond_idle : (cond : Cond) (x : Named) → is_idle (cond_row core t thread cond x) ≡ false
  cond_idle cond (APort p) = told_idle _ _ (q_port core (port_cond_set cond core.ports) (APort p) (λ n port. q_port_cond cond core.ports n port (is_port_cond cond)))
  cond_idle cond (ATimer m) = told_idle _ _ (q_timer core (timer_cond_set cond core.timers) (ATimer m) (λ n x. q_timer_cond cond core.timers n x (is_timer_cond cond)))
  cond_idle cond _ = refl

  data_idle : (v : ℕ) (x : Named) → is_idle (data_row core t thread v x) ≡ false
  data_idle v (APort p) = told_idle _ _ (q_port core (port_data_set v core.ports) (APort p) (λ n port. refl))
  data_idle v (ATimer m) = told_idle _ _ (q_timer core (timer_data_set v core.timers) (ATimer m) (λ n x. refl))
  data_idle v _ = refl

  free_idle : (x : Named) → is_idle (free_row core t thread x) ≡ false
  free_idle (ASync m) = told_idle _ _ (q_sync core (sync_freed core.threads core.syncs) (ASync m) (λ n. q_sync_freed core.syncs n (some_tied core.threads n)))
  free_idle (ALock l) = told_idle _ _ (q_lock core (lock_freed core.locks) (ALock l) (λ n lock. q_lock_freed core.locks n lock.holder))
  free_idle _ = refl

  get_idle : (d : Reg) (kind : GetKind) → is_idle (get_row home core t thread d kind) ≡ false
  get_idle d GetSync = refl
  get_idle d GetLock = refl

  wait_idle : (o : Option ℕ) → is_idle (wait_row core t thread o) ≡ false
  wait_idle None = refl
  wait_idle (Some n) = refl

  end_idle : (o : Option ℕ) → is_idle (end_row core t thread o) ≡ false
  end_idle None = refl
  end_idle (Some n) = refl

  prepared_idle : (change : Thread → Thread) (x : Named) → is_idle (map_did (goes_with put_threads core t thread) (on_thread core (prepared change core.threads) x)) ≡ false
  prepared_idle change x = told_idle _ _ (q_thread core (prepared change core.threads) x (λ n y. q_prepared change core.threads n y (is_waiting y.mode)))

  pub row_idle : (i : Instr) → is_idle (row home core t thread i) ≡ false
  row_idle (Divs d a b) = told_idle (put_local core t thread) (local_row (local_of core thread) (Divs d a b)) (q_sets (local_of core thread) d (div_s (reg (local_of core thread) a) (reg (local_of core thread) b)))
  row_idle (Rems d a b) = told_idle (put_local core t thread) (local_row (local_of core thread) (Rems d a b)) (q_sets (local_of core thread) d (rem_s (reg (local_of core thread) a) (reg (local_of core thread) b)))
  row_idle (Divu d a b) = told_idle (put_local core t thread) (local_row (local_of core thread) (Divu d a b)) (q_sets (local_of core thread) d (div_u (reg (local_of core thread) a) (reg (local_of core thread) b)))
  row_idle (Remu d a b) = told_idle (put_local core t thread) (local_row (local_of core thread) (Remu d a b)) (q_sets (local_of core thread) d (rem_u (reg (local_of core thread) a) (reg (local_of core thread) b)))
  row_idle (Ecallf a) = told_idle (put_local core t thread) (local_row (local_of core thread) (Ecallf a)) (q_passes (local_of core thread) (not (nat_eq (reg (local_of core thread) a) 0)))
  row_idle (Ecallt a) = told_idle (put_local core t thread) (local_row (local_of core thread) (Ecallt a)) (q_passes (local_of core thread) (nat_eq (reg (local_of core thread) a) 0))
  row_idle (Ldwdp d n) = told_idle (put_local core t thread) (local_row (local_of core thread) (Ldwdp d n)) (q_loads (local_of core thread) d (word_at (local_of core thread).words (address_at (local_of core thread).regs.dp n)))
  row_idle (Stwdp s n) = told_idle (put_local core t thread) (local_row (local_of core thread) (Stwdp s n)) (q_stores (local_of core thread) (reg (local_of core thread) s) (address_at (local_of core thread).regs.dp n) (word_at (local_of core thread).words (address_at (local_of core thread).regs.dp n)))
  row_idle (Ldwsp d n) = told_idle (put_local core t thread) (local_row (local_of core thread) (Ldwsp d n)) (q_loads (local_of core thread) d (word_at (local_of core thread).words (address_at (local_of core thread).regs.sp n)))
  row_idle (Stwsp s n) = told_idle (put_local core t thread) (local_row (local_of core thread) (Stwsp s n)) (q_stores (local_of core thread) (reg (local_of core thread) s) (address_at (local_of core thread).regs.sp n) (word_at (local_of core thread).words (address_at (local_of core thread).regs.sp n)))
  row_idle (Ldw d b i) = told_idle (put_local core t thread) (local_row (local_of core thread) (Ldw d b i)) (q_loads (local_of core thread) d (word_at (local_of core thread).words (address_at (reg (local_of core thread) b) (reg (local_of core thread) i))))
  row_idle (Stw s b i) = told_idle (put_local core t thread) (local_row (local_of core thread) (Stw s b i)) (q_stores (local_of core thread) (reg (local_of core thread) s) (address_at (reg (local_of core thread) b) (reg (local_of core thread) i)) (word_at (local_of core thread).words (address_at (reg (local_of core thread) b) (reg (local_of core thread) i))))
  row_idle (Brft a k) = told_idle (put_local core t thread) (local_row (local_of core thread) (Brft a k)) (q_jumps (local_of core thread) k (not (nat_eq (reg (local_of core thread) a) 0)))
  row_idle (Brff a k) = told_idle (put_local core t thread) (local_row (local_of core thread) (Brff a k)) (q_jumps (local_of core thread) k (nat_eq (reg (local_of core thread) a) 0))
  row_idle (Brbt a k) = told_idle (put_local core t thread) (local_row (local_of core thread) (Brbt a k)) (q_jumps (local_of core thread) k (not (nat_eq (reg (local_of core thread) a) 0)))
  row_idle (Brbf a k) = told_idle (put_local core t thread) (local_row (local_of core thread) (Brbf a k)) (q_jumps (local_of core thread) k (nat_eq (reg (local_of core thread) a) 0))
  row_idle (Entsp n) = told_idle (put_local core t thread) (local_row (local_of core thread) (Entsp n)) (q_enters (local_of core thread) n (nat_eq n 0))
  row_idle (Retsp n) = told_idle (put_local core t thread) (local_row (local_of core thread) (Retsp n)) (q_returns (local_of core thread) n (nat_eq n 0))
  row_idle (Getr d kind) = get_idle d kind
  row_idle (Freer r) = free_idle (names home thread r)
  row_idle (Getst d r) = told_idle _ _ (q_sync core (thread_got home.number core.threads) (names home thread r) (λ n. refl))
  row_idle (Tinitpc x k) = prepared_idle (with_pc k) (names home thread x)
  row_idle (Tinitdp x s) = prepared_idle (with_reg Dp (reg_get thread.regs s)) (names home thread x)
  row_idle (Tinitsp x s) = prepared_idle (with_reg Sp (reg_get thread.regs s)) (names home thread x)
  row_idle (Msync r) = told_idle _ _ (q_sync core (synced core.threads) (names home thread r) (λ n. q_synced core.threads n (all_wait core.threads n)))
  row_idle Ssync = wait_idle thread.tie
  row_idle (Mjoin r) = told_idle _ _ (q_sync core (joined core.threads) (names home thread r) (λ n. q_joined core.threads n (all_wait core.threads n)))
  row_idle Freet = end_idle thread.tie
  row_idle (Out r s) = out_idle (reg_get thread.regs s) (names home thread r)
  row_idle (Outt r s) = outs_idle (data_token (reg_get thread.regs s % 2 ^ 8) ∷ []) (names home thread r)
  row_idle (Outct r n) = outs_idle (control_token n ∷ []) (names home thread r)
  row_idle (In d r) = in_idle d (reg_get thread.regs r) (names home thread r)
  row_idle (Int d r) = told_idle _ _ (q_end core (ins_byte home core.clock core.ends) (names home thread r) (λ e end. q_byte (tokens_taken home core.clock core.ends e end 1 (peer_of home.pairs home.number e)) (take_byte end.tokens)))
  row_idle (Chkct r n) = told_idle _ _ (q_end core (ins_control home core.clock n core.ends) (names home thread r) (λ e end. q_check (tokens_taken home core.clock core.ends e end 1 (peer_of home.pairs home.number e)) (check end.tokens n)))
  row_idle (Setc r cond) = cond_idle cond (names home thread r)
  row_idle (Setd r s) = data_idle (reg_get thread.regs s) (names home thread r)
  row_idle (Setpt r s) = told_idle _ _ (q_port core (port_time_set (reg_get thread.regs s) core.ports) (names home thread r) (λ n p. refl))
  row_idle (Getts d r) = told_idle _ _ (q_port core (port_stamp core.ports) (names home thread r) (λ n p. refl))
  row_idle (Setv r k) = told_idle _ _ (q_evented core (vector_row core.events k) (names home thread r) (λ x. refl))
  row_idle (Eeu r) = told_idle _ _ (q_evented core (enable_row core.events t) (names home thread r) (λ x. refl))
  row_idle (Edu r) = told_idle _ _ (q_evented core (disable_row core.events) (names home thread r) (λ x. refl))
  row_idle _ = refl

  step_or_pause : (d : Did CoreState) → is_idle d ≡ false → is_step d ≡ not (is_pause d)
  step_or_pause (Made left made sent) h = refl
  step_or_pause (Traps kind) h = refl
  step_or_pause Paused h = refl
  step_or_pause Idle h = cc

  fetched_step : (i : Option Instr) → is_step (fetched home core t thread i) ≡ not (is_pause (fetched home core t thread i))
  fetched_step None = refl
  fetched_step (Some i) = step_or_pause (row home core t thread i) (row_idle i)

  chosen : (i : Option Instr) (b : Bool) (o : Option Res) → pick home core t ≡ o → is_step (event_or_row home core t thread i (pick_where home core t b)) ≡ ((b && is_there (pick home core t)) || not (is_pause (fetched home core t thread i)))
  chosen i true (Some r) h = rw h refl
  chosen i true None h = rw h (fetched_step i)
  chosen i false o h = fetched_step i

  by_mode : (m : Mode) → is_step (turn_of home core t thread m) ≡ could_step home core t thread m
  by_mode Running = chosen (instr_at home thread.pc) (takes_events thread (instr_at home thread.pc)) (pick home core t) refl
  by_mode Waiting = refl
  by_mode Unused = refl
  by_mode Trapped = refl

pub ready_is : (home : Home) (core : CoreState) (t : ℕ) → is_ready home core t ≡ is_ready_by_words home core t
ready_is home core t = go (slice_get core.threads t)
  where
    go : (o : Option Thread) → is_step (turn_at home core t o) ≡ could_step_at home core t o
    go None = refl
    go (Some thread) = by_mode home core t thread thread.mode
