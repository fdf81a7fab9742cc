-- A thread's turn leaves a core as many words, timers, channel ends and watches as it had.
use Rattle.std.proofs.Common.{◌≡◌, ℕ, suc, ◌-◌, ◌%◌, ◌^◌, Bool, true, false, List, [], ◌∷◌, Option, Some, None, length, refl, sym, ap, ◌∙◌}
use Rattle.std.specs.Prelude.{drop, not, nat_eq, nat_le, slice_get, slice_set}
use Rattle.std.proofs.lemmas.List.{length-replicate, length-set}
use Rattle.xs_instr.specs.declared.image.CoreImage.{CoreImage}
use Rattle.xs_instr.specs.declared.image.Home.{Home}
use Rattle.xs_instr.specs.declared.instr.Cond.{Cond}
use Rattle.xs_instr.specs.declared.instr.GetKind.{GetKind}
use Rattle.xs_instr.specs.declared.instr.GetKind.TheVariants.{Sync as GetSync, Lock as GetLock}
use Rattle.xs_instr.specs.declared.instr.Instr.{Instr}
use Rattle.xs_instr.specs.declared.instr.Instr.TheVariants.{Divs, Rems, Divu, Remu, Ecallf, Ecallt, Ldwdp, Stwdp, Ldwsp, Stwsp, Ldw, Stw, Brft, Brff, Brbt, Brbf, Entsp, Retsp, Getr, Freer, Getst, Tinitpc, Tinitdp, Tinitsp, Msync, Ssync, Mjoin, Freet, Out, Outt, Outct, In, Int, Chkct, Setc, Setd, Setpt, Getts, Setv, Eeu, Edu, Clre, Waiteu, Setsr, Clrsr}
use Rattle.xs_instr.specs.declared.instr.Reg.{Reg}
use Rattle.xs_instr.specs.declared.state.ChanEnd.{ChanEnd}
use Rattle.xs_instr.specs.declared.state.CoreState.{CoreState}
use Rattle.xs_instr.specs.declared.state.Events.{Events}
use Rattle.xs_instr.specs.declared.state.Mode.{Mode}
use Rattle.xs_instr.specs.declared.state.Moved.{Moved}
use Rattle.xs_instr.specs.declared.state.Token.{Token}
use Rattle.xs_instr.specs.declared.state.Mode.TheVariants.{Unused, Waiting, Running, Trapped}
use Rattle.xs_instr.specs.declared.state.Res.{Res}
use Rattle.xs_instr.specs.declared.state.Res.TheVariants.{Port as ResPort, Timer as ResTimer, End as ResEnd}
use Rattle.xs_instr.specs.declared.state.Thread.{Thread}
use Rattle.xs_instr.specs.declared.trace.Record.{Record}
use Rattle.xs_instr.specs.declared.state.Timer.{Timer}
use Rattle.xs_instr.specs.declared.state.Watch.{Watch}
use Rattle.xs_instr.specs.Did.{Did, Made, Paused, Traps, Idle, makes, map_did}
use Rattle.xs_instr.specs.Events.{cleared, cleared_in, disable_row, enable_row, latched, on_evented, owner_at, there, vector_at, vector_row, watch_of, watch_put}
use Rattle.xs_instr.specs.Ends.{Checked, Control, Gone, NotThere, NotYet, Other, Passed, Peer, Taken, Word, byte_in, check, check_in, control_token, credits_to, data_token, goes_by, ins_byte, ins_control, ins_word, outs, outs_by, peer_of, take_byte, take_word, tokens_go, tokens_taken, tokens_to, word_in, word_tokens}
use Rattle.xs_instr.specs.Machine.{boot_core, boot_end, boot_timer}
use Rattle.xs_instr.specs.Memory.{address_at, word_at}
use Rattle.xs_instr.specs.Registers.{reg_get}
use Rattle.xs_instr.specs.Resources.{Named, APort, ATimer, AnEnd, ASync, ALock, on_end, usable}
use Rattle.xs_instr.specs.Rows.{Local, reg, sets_where, passes_by, loads, stores, jumps_by, enters_where, enters_by, returns_where, returns_by, local_row, local_of, put_local, out_row, in_row, cond_row, data_row, free_row, get_row, wait_row, end_row, names, row, goes_with, gets_with, put_ends, put_events, put_timers}
use Rattle.xs_instr.specs.Slot.{fetched, event_or_row, instr_at, pick_where, takes_events, turn_of, turn_at, slot}
use Rattle.xs_instr.specs.Timers.{clock_by, clock_latched, clock_read, is_timer_cond, timer_cond_by, timer_cond_set, timer_data_set, timer_latched_at, timer_meets}
use Rattle.xr_channels.proofs.Tokens.Credits.{row_length}
use Rattle.xr_simulation.specs.Sizes.{Sizes, most_watches, sizes_in, sizes_of}
use Rattle.xw_words.specs.Words.{div_u, rem_u, div_s, rem_s}

-- other words, as many, and the same of all else
pub words_sized : (a b : CoreState) → length b.words ≡ length a.words → b.timers ≡ a.timers → b.ends ≡ a.ends → b.events ≡ a.events →
    sizes_of b ≡ sizes_of a
words_sized a b words timers ends events = λ i. record {
  words = words i;
  timers = length (timers i);
  ends = length (ends i);
  port_watches = length ((events i).ports);
  timer_watches = length ((events i).timers);
  end_watches = length ((events i).ends);
}

-- at the start a core has what its part of the image gives it
pub sizes_begin : (parts : CoreImage) → sizes_of (boot_core parts) ≡ sizes_in parts
sizes_begin parts = λ i. record {
  words = length-replicate {A = ℕ} parts.words 0 i;
  timers = length-replicate {A = Timer} parts.timers boot_timer i;
  ends = length-replicate {A = ChanEnd} parts.ends boot_end i;
  port_watches = most_watches;
  timer_watches = most_watches;
  end_watches = most_watches;
}

-- what a core has behind a turn
abbrev sizes_after : CoreState → Did CoreState → Sizes
sizes_after core (Made left made sent) = sizes_of left
sizes_after core Paused = sizes_of core
sizes_after core (Traps kind) = sizes_of core
sizes_after core Idle = sizes_of core

-- a part is changed that counts for none of them
told_sized : {A : Type 0} (core : CoreState) (put : A → CoreState) (did : Did A) → ((a : A) → sizes_of (put a) ≡ sizes_of core) →
    sizes_after core (map_did put did) ≡ sizes_of core
told_sized core put (Made left made sent) h = h left
told_sized core put Paused h = refl
told_sized core put (Traps kind) h = refl
told_sized core put Idle h = refl

-- what a step makes is so
abbrev IfMade : {A : Type 0} → (A → Type 0) → Did A → Type 0
IfMade P (Made left made sent) = P left
IfMade P Paused = Unit {0}
IfMade P (Traps kind) = Unit {0}
IfMade P Idle = Unit {0}

-- one is changed that counts, and stays as long
told_if : {A : Type 0} (core : CoreState) (put : A → CoreState) (P : A → Type 0) (did : Did A) →
    ((a : A) → P a → sizes_of (put a) ≡ sizes_of core) →
    IfMade P did → sizes_after core (map_did put did) ≡ sizes_of core
told_if core put P (Made left made sent) h k = h left k
told_if core put P Paused h k = refl
told_if core put P (Traps kind) h k = refl
told_if core put P Idle h k = refl

-- Timers are as many as before.

timers_sized : (core : CoreState) (timers : List Timer) → length timers ≡ length core.timers →
    sizes_of (put_timers core timers) ≡ sizes_of core
timers_sized core timers same = λ i. record {
  words = length core.words;
  timers = same i;
  ends = length core.ends;
  port_watches = length core.events.ports;
  timer_watches = length core.events.timers;
  end_watches = length core.events.ends;
}

module _ (clock : ℕ) (timers : List Timer) (n : ℕ) where
  read_by : (timer : Timer) (b : Bool) → IfMade (λ given. length given.left ≡ length timers) (clock_by clock timers n timer b)
  read_by timer true = length-set timers n timer
  read_by timer false = tt

  read_latched : (timer : Timer) (o : Option ℕ) → IfMade (λ given. length given.left ≡ length timers) (clock_latched clock timers n timer o)
  read_latched timer (Some time) = length-set timers n (record timer { latch = None })
  read_latched timer None = read_by timer (timer_meets timer.cond clock timer.datum)

  read_sized : (o : Option Timer) → IfMade (λ given. length given.left ≡ length timers) (usable (clock_read clock timers n) o)
  read_sized None = tt
  read_sized (Some timer) = read_latched timer timer.latch

  cond_by : (cond : Cond) (timer : Timer) (b : Bool) → IfMade (λ left. length left ≡ length timers) (timer_cond_by cond timers n timer b)
  cond_by cond timer true = length-set timers n (record timer { cond = cond; latch = None })
  cond_by cond timer false = tt

  cond_sized : (cond : Cond) (o : Option Timer) → IfMade (λ left. length left ≡ length timers) (usable (timer_cond_set cond timers n) o)
  cond_sized cond None = tt
  cond_sized cond (Some timer) = cond_by cond timer (is_timer_cond cond)

  data_sized : (v : ℕ) (o : Option Timer) → IfMade (λ left. length left ≡ length timers) (usable (timer_data_set v timers n) o)
  data_sized v None = tt
  data_sized v (Some timer) = length-set timers n (record timer { datum = v })

  latched_sized : (o : Option Timer) → length (timer_latched_at clock timers n o) ≡ length timers
  latched_sized None = refl
  latched_sized (Some timer) = length-set timers n (record timer { latch = Some clock })

-- So are channel ends, whatever a transfer moves.

pub ends_sized : (core : CoreState) (ends : List ChanEnd) → length ends ≡ length core.ends → sizes_of (put_ends core ends) ≡ sizes_of core
ends_sized core ends same = λ i. record {
  words = length core.words;
  timers = length core.timers;
  ends = same i;
  port_watches = length core.events.ports;
  timer_watches = length core.events.timers;
  end_watches = length core.events.ends;
}

module _ (ends : List ChanEnd) where
  -- what went left as many
  abbrev GoneSized : Gone → Type 0
  GoneSized gone = length gone.ends ≡ length ends

  gone_sized : (e : ℕ) (end : ChanEnd) (to clock : ℕ) (ms : List Moved) (b : Bool) → GoneSized (goes_by (slice_set ends e end) to clock ms b)
  gone_sized e end to clock ms true = row_length ends e end ms
  gone_sized e end to clock ms false = length-set ends e end

  -- a row of an end
  module _ (home : Home) (clock e : ℕ) (end : ChanEnd) where
    abbrev peer : Peer
    peer = peer_of home.pairs home.number e

    abbrev sent : List Token → Gone
    sent ks = tokens_go home clock ends e end ks peer

    abbrev taken : (n : ℕ) → Gone
    taken n = tokens_taken home clock ends e end n peer

    sent_sized : (ks : List Token) → GoneSized (sent ks)
    sent_sized ks =
        gone_sized e (record end { credits = end.credits - length ks }) peer.core clock (tokens_to peer.end ks) (nat_eq peer.core home.number)

    taken_sized : (n : ℕ) → GoneSized (taken n)
    taken_sized n =
        gone_sized e (record end { tokens = drop n end.tokens }) peer.core clock (credits_to peer.end n) (nat_eq peer.core home.number)

  outs_sized : (gone : Gone) (b : Bool) → GoneSized gone → IfMade (λ left. length left ≡ length ends) (outs_by gone b)
  outs_sized gone true h = h
  outs_sized gone false h = tt

  word_sized : (home : Home) (gone : Gone) (taken : Taken) → GoneSized gone →
      IfMade (λ given. length given.left ≡ length ends) (word_in home gone taken)
  word_sized home gone (Word v) h = h
  word_sized home gone (Control c) h = tt
  word_sized home gone NotYet h = tt

  byte_sized : (gone : Gone) (taken : Taken) → GoneSized gone → IfMade (λ given. length given.left ≡ length ends) (byte_in gone taken)
  byte_sized gone (Word v) h = h
  byte_sized gone (Control c) h = tt
  byte_sized gone NotYet h = tt

  check_sized : (gone : Gone) (checked : Checked) → GoneSized gone → IfMade (λ left. length left ≡ length ends) (check_in gone checked)
  check_sized gone Passed h = h
  check_sized gone (Other k) h = tt
  check_sized gone NotThere h = tt

-- of an end that is there
on_end_sized : {B : Type 0} (core : CoreState) (P : B → Type 0) (go : ℕ → ChanEnd → Did B) → ((e : ℕ) (end : ChanEnd) → IfMade P (go e end)) →
    (x : Named) → IfMade P (on_end core go x)
on_end_sized core P go h (AnEnd e) = by (slice_get core.ends e)
  where
    by : (o : Option ChanEnd) → IfMade P (usable (go e) o)
    by None = tt
    by (Some end) = h e end
on_end_sized core P go h _ = tt

-- And so are watches.

record AreAsMany (old new : Events) : Type 0 where
  pub ports : length new.ports ≡ length old.ports
  pub timers : length new.timers ≡ length old.timers
  pub ends : length new.ends ≡ length old.ends

events_sized : (core : CoreState) (events : Events) → AreAsMany core.events events → sizes_of (put_events core events) ≡ sizes_of core
events_sized core events same = λ i. record {
  words = length core.words;
  timers = length core.timers;
  ends = length core.ends;
  port_watches = same.ports i;
  timer_watches = same.timers i;
  end_watches = same.ends i;
}

cleared_many : (ws : List Watch) (t : ℕ) → length (cleared_in ws t) ≡ length ws
cleared_many [] t = refl
cleared_many (w ∷ ws) t = ap suc (cleared_many ws t)

module _ (events : Events) where
  watch_many : (res : Res) (w : Watch) → AreAsMany events (watch_put events res w)
  watch_many (ResPort n) w = record { ports = length-set events.ports n w; timers = refl; ends = refl }
  watch_many (ResTimer n) w = record { ports = refl; timers = length-set events.timers n w; ends = refl }
  watch_many (ResEnd n) w = record { ports = refl; timers = refl; ends = length-set events.ends n w }

  vector_many : (res : Res) (k : ℕ) (o : Option Watch) → AreAsMany events (vector_at events res k o)
  vector_many res k None = record { ports = refl; timers = refl; ends = refl }
  vector_many res k (Some w) = watch_many res (record w { vector = k })

  owner_many : (res : Res) (owner : Option ℕ) (o : Option Watch) → AreAsMany events (owner_at events res owner o)
  owner_many res owner None = record { ports = refl; timers = refl; ends = refl }
  owner_many res owner (Some w) = watch_many res (record w { owner = owner })

-- of a resource that is there
there_many : {A : Type 0} (P : Events → Type 0) (did : Did Events) → IfMade P did → (o : Option A) → IfMade P (there did o)
there_many P did h None = tt
there_many P did h (Some x) = h

evented_many : (core : CoreState) (P : Events → Type 0) (go : Res → Did Events) → ((res : Res) → IfMade P (go res)) → (x : Named) →
    IfMade P (on_evented core go x)
evented_many core P go h (APort n) = there_many P (go (ResPort n)) (h (ResPort n)) (slice_get core.ports n)
evented_many core P go h (ATimer n) = there_many P (go (ResTimer n)) (h (ResTimer n)) (slice_get core.timers n)
evented_many core P go h (AnEnd n) = there_many P (go (ResEnd n)) (h (ResEnd n)) (slice_get core.ends n)
evented_many core P go h _ = tt

-- as many words as a thread has behind its own row
abbrev own_after : Local → Did Local → ℕ
own_after own (Made left made sent) = length left.words
own_after own Paused = length own.words
own_after own (Traps kind) = length own.words
own_after own Idle = length own.words

module _ (own : Local) where
  of_sets : (d : Reg) (o : Option ℕ) → own_after own (sets_where own d o) ≡ length own.words
  of_sets d None = refl
  of_sets d (Some v) = refl

  of_passes : (b : Bool) → own_after own (passes_by own b) ≡ length own.words
  of_passes true = refl
  of_passes false = refl

  of_loads : (d : Reg) (o : Option ℕ) → own_after own (loads own d o) ≡ length own.words
  of_loads d None = refl
  of_loads d (Some v) = refl

  of_stores : (v a : ℕ) (o : Option ℕ) → own_after own (stores own v a o) ≡ length own.words
  of_stores v a None = refl
  of_stores v a (Some w) = length-set own.words _ v

  of_jumps : (k : ℕ) (b : Bool) → own_after own (jumps_by own k b) ≡ length own.words
  of_jumps k true = refl
  of_jumps k false = refl

  of_enters_where : (n : ℕ) (o : Option ℕ) → own_after own (enters_where own n o) ≡ length own.words
  of_enters_where n None = refl
  of_enters_where n (Some v) = length-set own.words _ own.regs.lr

  of_enters : (n : ℕ) (b : Bool) → own_after own (enters_by own n b) ≡ length own.words
  of_enters n true = refl
  of_enters n false = of_enters_where n (word_at own.words own.regs.sp)

  of_returns_where : (sp : ℕ) (o : Option ℕ) → own_after own (returns_where own sp o) ≡ length own.words
  of_returns_where sp None = refl
  of_returns_where sp (Some v) = refl

  of_returns : (n : ℕ) (b : Bool) → own_after own (returns_by own n b) ≡ length own.words
  of_returns n true = refl
  of_returns n false = of_returns_where (address_at own.regs.sp n) (word_at own.words (address_at own.regs.sp n))

  of_own : (i : Instr) → own_after own (local_row own i) ≡ length own.words
  of_own (Divs d a b) = of_sets d (div_s (reg own a) (reg own b))
  of_own (Rems d a b) = of_sets d (rem_s (reg own a) (reg own b))
  of_own (Divu d a b) = of_sets d (div_u (reg own a) (reg own b))
  of_own (Remu d a b) = of_sets d (rem_u (reg own a) (reg own b))
  of_own (Ecallf a) = of_passes (not (nat_eq (reg own a) 0))
  of_own (Ecallt a) = of_passes (nat_eq (reg own a) 0)
  of_own (Ldwdp d n) = of_loads d (word_at own.words (address_at own.regs.dp n))
  of_own (Stwdp s n) = of_stores (reg own s) (address_at own.regs.dp n) (word_at own.words (address_at own.regs.dp n))
  of_own (Ldwsp d n) = of_loads d (word_at own.words (address_at own.regs.sp n))
  of_own (Stwsp s n) = of_stores (reg own s) (address_at own.regs.sp n) (word_at own.words (address_at own.regs.sp n))
  of_own (Ldw d b i) = of_loads d (word_at own.words (address_at (reg own b) (reg own i)))
  of_own (Stw s b i) = of_stores (reg own s) (address_at (reg own b) (reg own i)) (word_at own.words (address_at (reg own b) (reg own i)))
  of_own (Brft a k) = of_jumps k (not (nat_eq (reg own a) 0))
  of_own (Brff a k) = of_jumps k (nat_eq (reg own a) 0)
  of_own (Brbt a k) = of_jumps k (not (nat_eq (reg own a) 0))
  of_own (Brbf a k) = of_jumps k (nat_eq (reg own a) 0)
  of_own (Entsp n) = of_enters n (nat_eq n 0)
  of_own (Retsp n) = of_returns n (nat_eq n 0)
  of_own i = refl

told_own : (core : CoreState) (t : ℕ) (thread : Thread) (did : Did Local) → own_after (local_of core thread) did ≡ length core.words →
    sizes_after core (map_did (put_local core t thread) did) ≡ sizes_of core
told_own core t thread (Made left made sent) h = words_sized core (put_local core t thread left) h refl refl refl
told_own core t thread Paused h = refl
told_own core t thread (Traps kind) h = refl
told_own core t thread Idle h = refl

module _ (home : Home) (core : CoreState) (t : ℕ) (thread : Thread) where
  -- an end is written to
  of_sent : (ks : List Token) (x : Named) →
      sizes_after core (map_did (goes_with put_ends core t thread) (on_end core (outs home core.clock ks core.ends) x)) ≡ sizes_of core
  of_sent ks x =
      told_if core (goes_with put_ends core t thread) (λ left. length left ≡ length core.ends) _ (ends_sized core)
      (on_end_sized core (λ left. length left ≡ length core.ends) (outs home core.clock ks core.ends)
      (λ e end. outs_sized core.ends (sent core.ends home core.clock e end ks) (nat_le (length ks) end.credits)
      (sent_sized core.ends home core.clock e end ks)) x)

  -- or read
  of_word : (d : Reg) (x : Named) →
      sizes_after core (map_did (gets_with put_ends core t thread d) (on_end core (ins_word home core.clock core.ends) x)) ≡ sizes_of core
  of_word d x =
      told_if core (gets_with put_ends core t thread d) (λ given. length given.left ≡ length core.ends) _
      (λ given. ends_sized core given.left)
      (on_end_sized core (λ given. length given.left ≡ length core.ends) (ins_word home core.clock core.ends)
      (λ e end. word_sized core.ends home (taken core.ends home core.clock e end 4) (take_word end.tokens)
      (taken_sized core.ends home core.clock e end 4)) x)

  of_byte : (d : Reg) (x : Named) →
      sizes_after core (map_did (gets_with put_ends core t thread d) (on_end core (ins_byte home core.clock core.ends) x)) ≡ sizes_of core
  of_byte d x =
      told_if core (gets_with put_ends core t thread d) (λ given. length given.left ≡ length core.ends) _
      (λ given. ends_sized core given.left)
      (on_end_sized core (λ given. length given.left ≡ length core.ends) (ins_byte home core.clock core.ends)
      (λ e end. byte_sized core.ends (taken core.ends home core.clock e end 1) (take_byte end.tokens)
      (taken_sized core.ends home core.clock e end 1)) x)

  of_check : (n : ℕ) (x : Named) →
      sizes_after core (map_did (goes_with put_ends core t thread) (on_end core (ins_control home core.clock n core.ends) x)) ≡ sizes_of core
  of_check n x =
      told_if core (goes_with put_ends core t thread) (λ left. length left ≡ length core.ends) _ (ends_sized core)
      (on_end_sized core (λ left. length left ≡ length core.ends) (ins_control home core.clock n core.ends)
      (λ e end. check_sized core.ends (taken core.ends home core.clock e end 1) (check end.tokens n)
      (taken_sized core.ends home core.clock e end 1)) x)

  of_out : (v : ℕ) (x : Named) → sizes_after core (out_row home core t thread v x) ≡ sizes_of core
  of_out v (APort p) = told_sized core _ _ (λ a. refl)
  of_out v (AnEnd e) = of_sent (word_tokens v) (AnEnd e)
  of_out v (ALock l) = told_sized core _ _ (λ a. refl)
  of_out v _ = refl

  of_in : (d : Reg) (v : ℕ) (x : Named) → sizes_after core (in_row home core t thread d v x) ≡ sizes_of core
  of_in d v (APort p) = told_sized core _ _ (λ a. refl)
  of_in d v (ATimer n) =
      told_if core (gets_with put_timers core t thread d) (λ given. length given.left ≡ length core.timers) _
      (λ given. timers_sized core given.left)
      (read_sized core.clock core.timers n (slice_get core.timers n))
  of_in d v (AnEnd e) = of_word d (AnEnd e)
  of_in d v (ALock l) = told_sized core _ _ (λ a. refl)
  of_in d v _ = refl

  of_cond : (cond : Cond) (x : Named) → sizes_after core (cond_row core t thread cond x) ≡ sizes_of core
  of_cond cond (APort p) = told_sized core _ _ (λ a. refl)
  of_cond cond (ATimer n) =
      told_if core (goes_with put_timers core t thread) (λ left. length left ≡ length core.timers) _ (timers_sized core)
      (cond_sized core.clock core.timers n cond (slice_get core.timers n))
  of_cond cond _ = refl

  of_data : (v : ℕ) (x : Named) → sizes_after core (data_row core t thread v x) ≡ sizes_of core
  of_data v (APort p) = told_sized core _ _ (λ a. refl)
  of_data v (ATimer n) =
      told_if core (goes_with put_timers core t thread) (λ left. length left ≡ length core.timers) _ (timers_sized core)
      (data_sized core.clock core.timers n v (slice_get core.timers n))
  of_data v _ = refl

  of_free : (x : Named) → sizes_after core (free_row core t thread x) ≡ sizes_of core
  of_free (ASync n) = told_sized core _ _ (λ a. refl)
  of_free (ALock l) = told_sized core _ _ (λ a. refl)
  of_free _ = refl

  of_get : (d : Reg) (kind : GetKind) → sizes_after core (get_row home core t thread d kind) ≡ sizes_of core
  of_get d GetSync = refl
  of_get d GetLock = refl

  of_wait : (o : Option ℕ) → sizes_after core (wait_row core t thread o) ≡ sizes_of core
  of_wait None = refl
  of_wait (Some n) = refl

  of_end : (o : Option ℕ) → sizes_after core (end_row core t thread o) ≡ sizes_of core
  of_end None = refl
  of_end (Some n) = refl

  of_events : (go : Res → Did Events) → ((res : Res) → IfMade (AreAsMany core.events) (go res)) → (x : Named) →
      sizes_after core (map_did (goes_with put_events core t thread) (on_evented core go x)) ≡ sizes_of core
  of_events go h x =
      told_if core (goes_with put_events core t thread) (AreAsMany core.events) (on_evented core go x) (events_sized core)
      (evented_many core (AreAsMany core.events) go h x)

  of_row : (i : Instr) → sizes_after core (row home core t thread i) ≡ sizes_of core
  of_row (Getr d kind) = of_get d kind
  of_row (Freer r) = of_free (names home thread r)
  of_row Ssync = of_wait thread.tie
  of_row Freet = of_end thread.tie
  of_row (Out r s) = of_out (reg_get thread.regs s) (names home thread r)
  of_row (In d r) = of_in d (reg_get thread.regs r) (names home thread r)
  of_row (Setc r cond) = of_cond cond (names home thread r)
  of_row (Setd r s) = of_data (reg_get thread.regs s) (names home thread r)
  of_row Clre =
      events_sized core (cleared core.events t)
      (record {
        ports = cleared_many core.events.ports t;
        timers = cleared_many core.events.timers t;
        ends = cleared_many
            core.events.ends t;
      })
  of_row Waiteu = refl
  of_row (Setsr n) = refl
  of_row (Clrsr n) = refl
  of_row (Getst d r) = told_sized core _ _ (λ a. refl)
  of_row (Tinitpc x k) = told_sized core _ _ (λ a. refl)
  of_row (Tinitdp x s) = told_sized core _ _ (λ a. refl)
  of_row (Tinitsp x s) = told_sized core _ _ (λ a. refl)
  of_row (Msync r) = told_sized core _ _ (λ a. refl)
  of_row (Mjoin r) = told_sized core _ _ (λ a. refl)
  of_row (Outt r s) = of_sent (data_token (reg_get thread.regs s % 2 ^ 8) ∷ []) (names home thread r)
  of_row (Outct r n) = of_sent (control_token n ∷ []) (names home thread r)
  of_row (Int d r) = of_byte d (names home thread r)
  of_row (Chkct r n) = of_check n (names home thread r)
  of_row (Setpt r s) = told_sized core _ _ (λ a. refl)
  of_row (Getts d r) = told_sized core _ _ (λ a. refl)
  of_row (Setv r k) = of_events (vector_row core.events k) (λ res. vector_many core.events res k (watch_of core.events res))
      (names home thread r)
  of_row (Eeu r) = of_events (enable_row core.events t) (λ res. owner_many core.events res (Some t) (watch_of core.events res))
      (names home thread r)
  of_row (Edu r) = of_events (disable_row core.events) (λ res. owner_many core.events res None (watch_of core.events res))
      (names home thread r)
  of_row i = told_own core t thread (local_row (local_of core thread) i) (of_own (local_of core thread) i)

  of_latched : (x : Res) → sizes_of (latched home core x) ≡ sizes_of core
  of_latched (ResPort n) = refl
  of_latched (ResTimer n) = timers_sized core _ (latched_sized core.clock core.timers n (slice_get core.timers n))
  of_latched (ResEnd n) = refl

  of_fetched : (i : Option Instr) → sizes_after core (fetched home core t thread i) ≡ sizes_of core
  of_fetched None = refl
  of_fetched (Some i) = of_row i

  of_event_or_row : (i : Option Instr) (o : Option Res) → sizes_after core (event_or_row home core t thread i o) ≡ sizes_of core
  of_event_or_row i (Some x) = of_latched x
  of_event_or_row i None = of_fetched i

  of_turn : (m : Mode) → sizes_after core (turn_of home core t thread m) ≡ sizes_of core
  of_turn Running = of_event_or_row (instr_at home thread.pc) (pick_where home core t (takes_events thread (instr_at home thread.pc)))
  of_turn Waiting = refl
  of_turn Unused = refl
  of_turn Trapped = refl

-- what a turn leaves has as many of each, whatever record it makes
pub made_sizes : (home : Home) (core : CoreState) (t : ℕ) (left : CoreState) (made : Option Record) → slot home core t ≡ Made left made [] →
    sizes_of left ≡ sizes_of core
made_sizes home core t left made is = sym (ap (sizes_after core) is) ∙ go (slice_get core.threads t)
  where
    go : (o : Option Thread) → sizes_after core (turn_at home core t o) ≡ sizes_of core
    go None = refl
    go (Some thread) = of_turn home core t thread thread.mode

-- and so where it makes none
pub same_sizes : (home : Home) (core : CoreState) (t : ℕ) (left : CoreState) → slot home core t ≡ makes left → sizes_of left ≡ sizes_of core
same_sizes home core t left made = made_sizes home core t left None made
