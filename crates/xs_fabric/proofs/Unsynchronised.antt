-- How a run ends: no core has more roots that have not ended than unsynchronised threads, which are in use and tied to no synchroniser.
use Rattle.std.proofs.Common.{◌≡◌, ◌≤◌, ◌<◌, ◌+◌, ◌-◌, ℕ, zero, suc, Bool, true, false, List, [], ◌∷◌, Option, Some, None, length, refl, sym, ap, ◌∙◌, inl, inr, subst, arith}
use Rattle.std.proofs.lemmas.Bool.{eqb-true, eqb-false}
use Rattle.std.specs.Prelude.{slice_get, slice_set, nat_eq, not, ◌&&◌, ◌≢◌, ◌⊎◌, ◌↔◌}
use Rattle.xs_instr.specs.declared.image.Home.{Home}
use Rattle.xs_instr.specs.declared.image.Image.{Image}
use Rattle.xs_instr.specs.declared.image.Stim.{Stim}
use Rattle.xs_instr.specs.declared.instr.Cond.{Cond}
use Rattle.xs_instr.specs.declared.instr.GetKind.{GetKind}
use Rattle.xs_instr.specs.declared.instr.GetKind.TheVariants.{Sync as GetSync, Lock as GetLock}
use Rattle.xs_instr.specs.declared.instr.Instr.{Instr}
use Rattle.xs_instr.specs.declared.instr.Instr.TheVariants.{Getr, Freer, Getst, Tinitpc, Tinitdp, Tinitsp, Msync, Ssync, Mjoin, Freet, Out, Outt, Outct, In, Int, Chkct, Setc, Setd, Setpt, Getts, Setv, Eeu, Edu, Clre, Waiteu, Setsr, Clrsr}
use Rattle.xs_instr.specs.declared.instr.Reg.{Reg}
use Rattle.xs_instr.specs.declared.instr.Reg.TheVariants.{Dp, Sp}
use Rattle.xs_instr.specs.declared.state.CoreState.{CoreState}
use Rattle.xs_instr.specs.declared.state.Mode.{Mode}
use Rattle.xs_instr.specs.declared.state.Mode.TheVariants.{Unused, Waiting, Running, Trapped}
use Rattle.xs_instr.specs.declared.state.Res.{Res}
use Rattle.xs_instr.specs.declared.state.Res.TheVariants.{Port as ResPort, Timer as ResTimer, End as ResEnd}
use Rattle.xs_instr.specs.declared.state.Thread.{Thread}
use Rattle.xs_instr.specs.declared.trace.EndWord.{EndWord}
use Rattle.xs_instr.specs.declared.trace.EndWord.TheVariants.{Finished, Trapped as AllTrapped}
use Rattle.xs_instr.specs.Did.{Did, Given, map_did}
use Rattle.xs_instr.specs.Events.{cleared, latched, vector_of}
use Rattle.xs_instr.specs.Machine.{Machine, Event, boot, boot_core, boot_threads, runs, home_of, parts_in}
use Rattle.xs_instr.specs.Pool.{first_free, is_unused, is_waiting, is_tied, threads_taken, started_by, all_started, joined_by, all_joined, all_wait, tied_to, tied_at, thread_got, thread_got_by, synced, synced_by, joined, joined_when, prepared, prepared_by, with_pc, with_reg, locks_taken, sync_got, lock_got}
use Rattle.xs_instr.specs.Registers.{reg_get, reg_set}
use Rattle.xs_instr.specs.Resources.{Named, APort, ATimer, AnEnd, ASync, ALock, is_num, on_thread}
use Rattle.xs_instr.specs.Rows.{out_row, in_row, cond_row, data_row, free_row, get_row, wait_row, end_row, names, row, local_row, local_of, put_local, with_thread, put_threads, put_syncs, put_locks, put_ports, put_timers, put_ends, put_events, goes_with, gets_with, bit_by, bit_row}
use Rattle.xs_instr.specs.Sight.{count_true, sight}
use Rattle.xs_instr.specs.Slot.{fetched, event_or_row, instr_at, pick_where, takes_events, turn_of, turn_at, slot, trapped, trapped_at}
use Rattle.xs_instr.specs.Valid.{Valid}
use Rattle.xs_core.proofs.Lists.{set_same}
use Rattle.xs_core.proofs.Starting.{good_part}
use Rattle.xs_core.proofs.Weights.{same_num, get_below}
use Rattle.xs_fabric.specs.EndWord.{sights, sight_at, end_word, finished_by, trapped_by, stuck_by, links_empty, end_of, has_trap}
use Rattle.xs_fabric.proofs.EachCore.{IsKept, OfEach, runs_each}
use Rattle.xs_fabric.proofs.FirstFree.{free_at}
use Rattle.xs_fabric.proofs.MadeParts.{AllMade, all_made, made_sync, made_thread, told_all, told_where}
use Rattle.xs_fabric.proofs.Stepped.{boot_sound, runs_sound}
use Rattle.xs_fabric.proofs.Ways.{some_is}

-- tied to no synchroniser
abbrev is_untied : Option ℕ → Bool
is_untied None = true
is_untied (Some n) = false

-- in use, and tied to no synchroniser
abbrev is_unsynchronised : Thread → Bool
is_unsynchronised x = is_untied x.tie && not (is_unused x.mode)

abbrev unsynchronised : List Thread → List Bool
unsynchronised [] = []
unsynchronised (x ∷ threads) = is_unsynchronised x ∷ unsynchronised threads

-- no more roots have not ended than there are unsynchronised threads
abbrev RootsAreFew : CoreState → Type 0
RootsAreFew core = core.roots ≤ count_true (unsynchronised core.threads)

-- counts of truth values

count_more : (b b' : Bool) (bs bs' : List Bool) → (b ≡ true → b' ≡ true) → count_true bs ≤ count_true bs' → count_true (b ∷ bs) ≤ count_true (b' ∷ bs')
count_more true true bs bs' h le = omega (arith, le)
count_more false true bs bs' h le = omega (arith, le)
count_more false false bs bs' h le = le
count_more true false bs bs' h le = let no : false ≡ true = h refl in cc

count_set_more : (bs : List Bool) (i : ℕ) (b b' : Bool) → slice_get bs i ≡ Some b → (b ≡ true → b' ≡ true) → count_true bs ≤ count_true (slice_set bs i b')
count_set_more [] i b b' h up = cc
count_set_more (x ∷ bs) zero b b' h up = let is : x ≡ b = cc in count_more x b' bs bs (λ e. up (sym is ∙ e)) (omega arith)
count_set_more (x ∷ bs) (suc i) b b' h up = count_more x x bs (slice_set bs i b') (λ e. e) (count_set_more bs i b b' h up)

count_set_less : (bs : List Bool) (i : ℕ) → slice_get bs i ≡ Some true → count_true bs ≡ count_true (slice_set bs i false) + 1
count_set_less [] i h = cc
count_set_less (true ∷ bs) zero h = refl
count_set_less (false ∷ bs) zero h = cc
count_set_less (true ∷ bs) (suc i) h = let r = count_set_less bs i h in omega (arith, r)
count_set_less (false ∷ bs) (suc i) h = count_set_less bs i h

minus_one : (a b : ℕ) → a ≤ b + 1 → a - 1 ≤ b
minus_one zero b h = omega arith
minus_one (suc a) b h = omega (arith, h)

-- unsynchronised threads by their places

unsynchronised_get : (xs : List Thread) (i : ℕ) (x : Thread) → slice_get xs i ≡ Some x → slice_get (unsynchronised xs) i ≡ Some (is_unsynchronised x)
unsynchronised_get [] i x h = cc
unsynchronised_get (y ∷ xs) zero x h = let is : y ≡ x = cc in ap (λ (z : Thread). Some (is_unsynchronised z)) is
unsynchronised_get (y ∷ xs) (suc i) x h = unsynchronised_get xs i x h

unsynchronised_set : (xs : List Thread) (i : ℕ) (x : Thread) → unsynchronised (slice_set xs i x) ≡ slice_set (unsynchronised xs) i (is_unsynchronised x)
unsynchronised_set [] i x = refl
unsynchronised_set (y ∷ xs) zero x = refl
unsynchronised_set (y ∷ xs) (suc i) x = ap (λ bs. is_unsynchronised y ∷ bs) (unsynchronised_set xs i x)

-- a thread is changed in threads of which the same are unsynchronised, and stays unsynchronised or not
unsynchronised_same : (xs ys : List Thread) (i : ℕ) (x x' : Thread) → slice_get xs i ≡ Some x → unsynchronised ys ≡ unsynchronised xs → is_unsynchronised x' ≡ is_unsynchronised x → unsynchronised (slice_set ys i x') ≡ unsynchronised xs
unsynchronised_same xs ys i x x' there same kept =
    unsynchronised_set ys i x' ∙ ap (λ bs. slice_set bs i (is_unsynchronised x')) same ∙ ap (λ b. slice_set (unsynchronised xs) i b) kept ∙ set_same (unsynchronised xs) i (is_unsynchronised x) (unsynchronised_get xs i x there)

not_unsynchronised : (x : Thread) → is_untied x.tie ≡ false → is_unsynchronised x ≡ false
not_unsynchronised x h = ap (λ b. b && not (is_unused x.mode)) h

tied_not_untied : (o : Option ℕ) (n : ℕ) → is_num o n ≡ true → is_untied o ≡ false
tied_not_untied None n h = cc
tied_not_untied (Some m) n h = refl

started_kept : (x : Thread) (n : ℕ) (b : Bool) → is_tied x n ≡ b → is_unsynchronised (started_by x b) ≡ is_unsynchronised x
started_kept x n false h = refl
started_kept x n true h = let f = tied_not_untied x.tie n h in not_unsynchronised (record x { mode = Running }) f ∙ sym (not_unsynchronised x f)

all_started_kept : (xs : List Thread) (n : ℕ) → unsynchronised (all_started xs n) ≡ unsynchronised xs
all_started_kept [] n = refl
all_started_kept (x ∷ xs) n =
    ap (λ b. b ∷ unsynchronised (all_started xs n)) (started_kept x n (is_tied x n) refl) ∙ ap (λ bs. is_unsynchronised x ∷ bs) (all_started_kept xs n)

joined_kept : (x : Thread) (n : ℕ) (b : Bool) → is_tied x n ≡ b → is_unsynchronised (joined_by x b) ≡ is_unsynchronised x
joined_kept x n false h = refl
joined_kept x n true h = sym (not_unsynchronised x (tied_not_untied x.tie n h))

all_joined_kept : (xs : List Thread) (n : ℕ) → unsynchronised (all_joined xs n) ≡ unsynchronised xs
all_joined_kept [] n = refl
all_joined_kept (x ∷ xs) n =
    ap (λ b. b ∷ unsynchronised (all_joined xs n)) (joined_kept x n (is_tied x n) refl) ∙ ap (λ bs. is_unsynchronised x ∷ bs) (all_joined_kept xs n)

and_false : (a : Bool) → a && false ≡ false
and_false true = refl
and_false false = refl

unused_not_unsynchronised : (x : Thread) → is_unused x.mode ≡ true → is_unsynchronised x ≡ false
unused_not_unsynchronised x h = ap (λ b. is_untied x.tie && not b) h ∙ and_false (is_untied x.tie)

-- what a row makes of the unsynchronised threads

-- where a core's roots are few, so are those of what a turn leaves
abbrev Keeps : CoreState → Did CoreState → Type 0
Keeps core did = AllMade (λ left. RootsAreFew core → RootsAreFew left) did

-- as many roots, and the same threads are unsynchronised
same_few : (core left : CoreState) → left.roots ≡ core.roots → unsynchronised left.threads ≡ unsynchronised core.threads → RootsAreFew core → RootsAreFew left
same_few core left roots same few = let n = ap count_true same in omega (arith, roots, n, few)

told_keeps_where : {A : Type 0} (P : A → Type 0) (core : CoreState) (put : A → CoreState) (did : Did A) → AllMade P did → ((a : A) → P a → RootsAreFew core → RootsAreFew (put a)) → Keeps core (map_did put did)
told_keeps_where P core put did is h = told_where P (λ left. RootsAreFew core → RootsAreFew left) put did is h

told_keeps : {A : Type 0} (core : CoreState) (put : A → CoreState) (did : Did A) → ((a : A) → RootsAreFew core → RootsAreFew (put a)) → Keeps core (map_did put did)
told_keeps core put did h = told_all (λ left. RootsAreFew core → RootsAreFew left) put did h

module _ (threads : List Thread) where
  -- the same threads are unsynchronised
  abbrev IsSame : List Thread → Type 0
  IsSame left = unsynchronised left ≡ unsynchronised threads

  synced_same : (n : ℕ) (b : Bool) → AllMade IsSame (synced_by threads n b)
  synced_same n true = all_started_kept threads n
  synced_same n false = tt

  joined_same : (n : ℕ) (b : Bool) → AllMade IsSame (joined_when threads n b)
  joined_same n true = all_joined_kept threads n
  joined_same n false = tt

  prepared_same : (change : Thread → Thread) → ((y : Thread) → is_unsynchronised (change y) ≡ is_unsynchronised y) → (n : ℕ) (x : Thread) (b : Bool) → slice_get threads n ≡ Some x → AllMade IsSame (prepared_by change threads n x b)
  prepared_same change kept n x true there = unsynchronised_same threads threads n x (change x) there refl (kept x)
  prepared_same change kept n x false there = tt

  tied_same : (n place : ℕ) (o : Option Thread) → slice_get threads place ≡ o → ((x : Thread) → slice_get threads place ≡ Some x → is_unused x.mode ≡ true) → unsynchronised (tied_at threads n place o) ≡ unsynchronised threads
  tied_same n place None there free = refl
  tied_same n place (Some x) there free = unsynchronised_same threads threads place x (tied_to n x) there refl (sym (unused_not_unsynchronised x (free x there)))

  got_same : (core n : ℕ) (o : Option ℕ) → first_free (threads_taken threads) 0 ≡ o → unsynchronised (thread_got_by core threads n o).left ≡ unsynchronised threads
  got_same core n None e = refl
  got_same core n (Some place) e =
      let f = free_at threads 0 place e in
      let shifted = f.is in
      let is : f.i ≡ place = omega (arith, shifted) in
      tied_same n place (slice_get threads place) refl (λ x there. f.unused x (ap (λ i. slice_get threads i) is ∙ there))

-- the rows of a thread that runs
module _ (home : Home) (core : CoreState) (t : ℕ) (thread : Thread) (there : slice_get core.threads t ≡ Some thread) (runs_now : thread.mode ≡ Running) where
  -- the thread goes on in threads of which the same are unsynchronised
  with_few : (left : CoreState) (x : Thread) → left.roots ≡ core.roots → unsynchronised left.threads ≡ unsynchronised core.threads → is_unsynchronised x ≡ is_unsynchronised thread → RootsAreFew core → RootsAreFew (with_thread left t x)
  with_few left x roots same kept = same_few core (with_thread left t x) roots (unsynchronised_same core.threads left.threads t thread x there same kept)

  goes_few : {A : Type 0} (put : CoreState → A → CoreState) (a : A) → (put core a).roots ≡ core.roots → unsynchronised (put core a).threads ≡ unsynchronised core.threads → RootsAreFew core → RootsAreFew (goes_with put core t thread a)
  goes_few put a roots same = with_few (put core a) (record thread { pc = thread.pc + 1 }) roots same refl

  gets_few : {A : Type 0} (put : CoreState → A → CoreState) (d : Reg) (a : Given A) → (put core a.left).roots ≡ core.roots → unsynchronised (put core a.left).threads ≡ unsynchronised core.threads → RootsAreFew core → RootsAreFew (gets_with put core t thread d a)
  gets_few put d a roots same = with_few (put core a.left) (record thread { pc = thread.pc + 1; regs = reg_set thread.regs d a.value }) roots same refl

  out_keeps : (v : ℕ) (x : Named) → Keeps core (out_row home core t thread v x)
  out_keeps v (APort p) = told_keeps core _ _ (λ a. goes_few put_ports a refl refl)
  out_keeps v (AnEnd e) = told_keeps core _ _ (λ a. goes_few put_ends a refl refl)
  out_keeps v (ALock l) = told_keeps core _ _ (λ a. goes_few put_locks a refl refl)
  out_keeps v _ = tt

  in_keeps : (d : Reg) (v : ℕ) (x : Named) → Keeps core (in_row home core t thread d v x)
  in_keeps d v (APort p) = told_keeps core _ _ (λ a. gets_few put_ports d a refl refl)
  in_keeps d v (ATimer n) = told_keeps core _ _ (λ a. gets_few put_timers d a refl refl)
  in_keeps d v (AnEnd e) = told_keeps core _ _ (λ a. gets_few put_ends d a refl refl)
  in_keeps d v (ALock l) = told_keeps core _ _ (λ a. gets_few put_locks d a refl refl)
  in_keeps d v _ = tt

  cond_keeps : (cond : Cond) (x : Named) → Keeps core (cond_row core t thread cond x)
  cond_keeps cond (APort p) = told_keeps core _ _ (λ a. goes_few put_ports a refl refl)
  cond_keeps cond (ATimer n) = told_keeps core _ _ (λ a. goes_few put_timers a refl refl)
  cond_keeps cond _ = tt

  data_keeps : (v : ℕ) (x : Named) → Keeps core (data_row core t thread v x)
  data_keeps v (APort p) = told_keeps core _ _ (λ a. goes_few put_ports a refl refl)
  data_keeps v (ATimer n) = told_keeps core _ _ (λ a. goes_few put_timers a refl refl)
  data_keeps v _ = tt

  free_keeps : (x : Named) → Keeps core (free_row core t thread x)
  free_keeps (ASync n) = told_keeps core _ _ (λ a. goes_few put_syncs a refl refl)
  free_keeps (ALock l) = told_keeps core _ _ (λ a. goes_few put_locks a refl refl)
  free_keeps _ = tt

  get_keeps : (d : Reg) (kind : GetKind) → Keeps core (get_row home core t thread d kind)
  get_keeps d GetSync = gets_few put_syncs d (sync_got home.number core.syncs (first_free core.syncs 0)) refl refl
  get_keeps d GetLock = gets_few put_locks d (lock_got home.number core.locks (first_free (locks_taken core.locks) 0)) refl refl

  wait_keeps : (o : Option ℕ) → thread.tie ≡ o → Keeps core (wait_row core t thread o)
  wait_keeps None e = tt
  wait_keeps (Some n) e =
      let f = ap is_untied e in
      with_few core (record thread { mode = Waiting; pc = thread.pc + 1 }) refl refl (not_unsynchronised (record thread { mode = Waiting }) f ∙ sym (not_unsynchronised thread f))

  end_keeps : (o : Option ℕ) → thread.tie ≡ o → Keeps core (end_row core t thread o)
  end_keeps (Some n) e = tt
  end_keeps None e = λ few.
      let ended = record thread { mode = Unused; pc = thread.pc + 1 } in
      let was : is_unsynchronised thread ≡ true = ap (λ o. is_untied o && not (is_unused thread.mode)) e ∙ ap (λ m. not (is_unused m)) runs_now in
      let now : is_unsynchronised ended ≡ false = unused_not_unsynchronised ended refl in
      let here : slice_get (unsynchronised core.threads) t ≡ Some true = unsynchronised_get core.threads t thread there ∙ ap (λ b. Some b) was in
      let less = count_set_less (unsynchronised core.threads) t here in
      let left = ap count_true (unsynchronised_set core.threads t ended ∙ ap (λ b. slice_set (unsynchronised core.threads) t b) now) in
      minus_one core.roots _ (omega (arith, less, left, few))

  bit_keeps : (bit : Bool) → Keeps core (bit_row core t thread bit)
  bit_keeps bit = with_few core (record thread { pc = thread.pc + 1; event_bit = bit }) refl refl refl

  prepared_keeps : (change : Thread → Thread) (x : Named) → ((y : Thread) → is_unsynchronised (change y) ≡ is_unsynchronised y) → Keeps core (map_did (goes_with put_threads core t thread) (on_thread core (prepared change core.threads) x))
  prepared_keeps change x kept =
      told_keeps_where (IsSame core.threads) core _ _
      (made_thread (IsSame core.threads) core (prepared change core.threads) x (λ n y found. prepared_same core.threads change kept n y (is_waiting y.mode) found))
      (λ a same. goes_few put_threads a refl same)

  row_keeps : (i : Instr) → Keeps core (row home core t thread i)
  row_keeps (Getr d kind) = get_keeps d kind
  row_keeps (Freer r) = free_keeps (names home thread r)
  row_keeps Ssync = wait_keeps thread.tie refl
  row_keeps Freet = end_keeps thread.tie refl
  row_keeps (Out r s) = out_keeps (reg_get thread.regs s) (names home thread r)
  row_keeps (In d r) = in_keeps d (reg_get thread.regs r) (names home thread r)
  row_keeps (Setc r cond) = cond_keeps cond (names home thread r)
  row_keeps (Setd r s) = data_keeps (reg_get thread.regs s) (names home thread r)
  row_keeps Clre = goes_few put_events (cleared core.events t) refl refl
  row_keeps Waiteu = tt
  row_keeps (Setsr n) = bit_keeps (bit_by thread.event_bit true (nat_eq n 1))
  row_keeps (Clrsr n) = bit_keeps (bit_by thread.event_bit false (nat_eq n 1))
  row_keeps (Getst d r) =
      told_keeps_where (λ (given : Given (List Thread)). IsSame core.threads given.left) core _ _
      (made_sync _ core (thread_got home.number core.threads) (names home thread r) (λ n. got_same core.threads home.number n (first_free (threads_taken core.threads) 0) refl))
      (λ a same. gets_few put_threads d a refl same)
  row_keeps (Tinitpc x k) = prepared_keeps (with_pc k) (names home thread x) (λ y. refl)
  row_keeps (Tinitdp x s) = prepared_keeps (with_reg Dp (reg_get thread.regs s)) (names home thread x) (λ y. refl)
  row_keeps (Tinitsp x s) = prepared_keeps (with_reg Sp (reg_get thread.regs s)) (names home thread x) (λ y. refl)
  row_keeps (Msync r) =
      told_keeps_where (IsSame core.threads) core _ _
      (made_sync _ core (synced core.threads) (names home thread r) (λ n. synced_same core.threads n (all_wait core.threads n)))
      (λ a same. goes_few put_threads a refl same)
  row_keeps (Mjoin r) =
      told_keeps_where (IsSame core.threads) core _ _
      (made_sync _ core (joined core.threads) (names home thread r) (λ n. joined_same core.threads n (all_wait core.threads n)))
      (λ a same. goes_few put_threads a refl same)
  row_keeps (Outt r s) = told_keeps core _ _ (λ a. goes_few put_ends a refl refl)
  row_keeps (Outct r n) = told_keeps core _ _ (λ a. goes_few put_ends a refl refl)
  row_keeps (Int d r) = told_keeps core _ _ (λ a. gets_few put_ends d a refl refl)
  row_keeps (Chkct r n) = told_keeps core _ _ (λ a. goes_few put_ends a refl refl)
  row_keeps (Setpt r s) = told_keeps core _ _ (λ a. goes_few put_ports a refl refl)
  row_keeps (Getts d r) = told_keeps core _ _ (λ a. gets_few put_ports d a refl refl)
  row_keeps (Setv r k) = told_keeps core _ _ (λ a. goes_few put_events a refl refl)
  row_keeps (Eeu r) = told_keeps core _ _ (λ a. goes_few put_events a refl refl)
  row_keeps (Edu r) = told_keeps core _ _ (λ a. goes_few put_events a refl refl)
  row_keeps i = told_keeps core (put_local core t thread) (local_row (local_of core thread) i) (λ own. with_few core (record thread { pc = own.pc; regs = own.regs }) refl refl refl)

  latched_few : (r : Res) (x : Thread) → is_unsynchronised x ≡ is_unsynchronised thread → RootsAreFew core → RootsAreFew (with_thread (latched home core r) t x)
  latched_few (ResPort n) x kept = with_few (latched home core (ResPort n)) x refl refl kept
  latched_few (ResTimer n) x kept = with_few (latched home core (ResTimer n)) x refl refl kept
  latched_few (ResEnd n) x kept = with_few (latched home core (ResEnd n)) x refl refl kept

  fetched_keeps : (i : Option Instr) → Keeps core (fetched home core t thread i)
  fetched_keeps None = tt
  fetched_keeps (Some i) = row_keeps i

  turn_keeps : (i : Option Instr) (o : Option Res) → Keeps core (event_or_row home core t thread i o)
  turn_keeps i (Some r) = latched_few r (record thread { pc = vector_of core.events r; event_bit = false }) refl
  turn_keeps i None = fetched_keeps i

turn_of_keeps : (home : Home) (core : CoreState) (t : ℕ) (thread : Thread) (m : Mode) → slice_get core.threads t ≡ Some thread → thread.mode ≡ m → Keeps core (turn_of home core t thread m)
turn_of_keeps home core t thread Running there e =
    turn_keeps home core t thread there e (instr_at home thread.pc) (pick_where home core t (takes_events thread (instr_at home thread.pc)))
turn_of_keeps home core t thread Waiting there e = tt
turn_of_keeps home core t thread Unused there e = tt
turn_of_keeps home core t thread Trapped there e = tt

slot_keeps : (home : Home) (core : CoreState) (t : ℕ) → Keeps core (slot home core t)
slot_keeps home core t = go (slice_get core.threads t) refl
  where
    go : (o : Option Thread) → slice_get core.threads t ≡ o → Keeps core (turn_at home core t o)
    go None there = tt
    go (Some thread) there = turn_of_keeps home core t thread thread.mode there refl

and_true : (a b : Bool) → a && b ≡ true → a && true ≡ true
and_true true b h = refl
and_true false b h = cc

trapped_few : (core : CoreState) (t : ℕ) → RootsAreFew core → RootsAreFew (trapped core t)
trapped_few core t few = go (slice_get core.threads t) refl
  where
    go : (o : Option Thread) → slice_get core.threads t ≡ o → RootsAreFew (trapped_at core t o)
    go None there = few
    go (Some x) there =
        let halted = record x { mode = Trapped } in
        let more = count_set_more (unsynchronised core.threads) t (is_unsynchronised x) (is_unsynchronised halted) (unsynchronised_get core.threads t x there) (and_true (is_untied x.tie) (not (is_unused x.mode))) in
        let set = ap count_true (unsynchronised_set core.threads t halted) in
        omega (arith, more, set, few)

-- all cores of a machine

abbrev AllRootsAreFew : List CoreState → Type 0
AllRootsAreFew cores = OfEach RootsAreFew cores

few_kept : (L : Image) (s : Stim) → IsKept L s RootsAreFew
few_kept L s = record {
  steps = λ c t core few. all_made _ RootsAreFew (slot (home_of L s c) core t) (slot_keeps (home_of L s c) core t) (λ left keeps. keeps few);
  traps = λ core t few. trapped_few core t few;
  ticks = λ core few. few;
  comes = λ core moved few. few;
}

boot_count : (roots : List ℕ) (n : ℕ) → length roots ≤ n → length roots ≤ count_true (unsynchronised (boot_threads roots n))
boot_count [] n h = omega arith
boot_count (k ∷ roots) zero h = let no : ⊥ = omega (arith, h) in absurd no
boot_count (k ∷ roots) (suc n) h = let r = boot_count roots n (omega (arith, h)) in omega (arith, r)

boot_few : (L : Image) → Valid L → AllRootsAreFew (boot L).cores
boot_few L valid c core h = go c h
  where
    started : (d : ℕ) → RootsAreFew (boot_core (parts_in L.cores d))
    started d = boot_count (parts_in L.cores d).roots 8 (good_part L.cores 0 d valid.cores).roots

    at_core : (d : ℕ) → Some (boot_core (parts_in L.cores d)) ≡ Some core → RootsAreFew core
    at_core d e = subst (λ (x : CoreState). RootsAreFew x) (some_is _ core e) (started d)

    go : (d : ℕ) → slice_get (boot L).cores d ≡ Some core → RootsAreFew core
    go zero e = at_core 0 e
    go (suc zero) e = at_core 1 e
    go (suc (suc zero)) e = at_core 2 e
    go (suc (suc (suc zero))) e = at_core 3 e
    go (suc (suc (suc (suc d)))) e = cc

-- the end word

unsynchronised_taken : (xs : List Thread) → count_true (unsynchronised xs) ≤ count_true (threads_taken xs)
unsynchronised_taken [] = omega arith
unsynchronised_taken (x ∷ xs) = count_more (is_unsynchronised x) (not (is_unused x.mode)) (unsynchronised xs) (threads_taken xs) (second (is_untied x.tie) (not (is_unused x.mode))) (unsynchronised_taken xs)
  where
    second : (a b : Bool) → a && b ≡ true → b ≡ true
    second true b h = h
    second false b h = cc

-- the end word where a root is left
abbrev unfinished : Image → Stim → Machine → EndWord
unfinished L s m =
    trapped_by (stuck_by (links_empty m.links && nat_eq (sights L s m 4).ready 0 && nat_eq (sights L s m 4).timed 0)) (nat_eq (sights L s m 4).used (sights L s m 4).trapped)

module _ (L : Image) (s : Stim) (m : Machine) where
  roots_used : (n : ℕ) → AllRootsAreFew m.cores → (sights L s m n).roots ≤ (sights L s m n).used
  unfolding sight
  roots_used zero all = omega arith
  roots_used (suc n) all = let r = roots_used n all in let here = go (slice_get m.cores n) refl in omega (arith, r, here)
    where
      go : (o : Option CoreState) → slice_get m.cores n ≡ o → (sight_at L s n o).roots ≤ (sight_at L s n o).used
      go None there = omega arith
      go (Some core) there = let few = all n core there in let taken = unsynchronised_taken core.threads in omega (arith, few, taken)

  -- trapped only with a trap
  trapped_is : AllRootsAreFew m.cores → end_of L s m ≡ AllTrapped → has_trap L s m ≡ true
  unfolding end_of has_trap
  trapped_is all h = by_roots (nat_eq (sights L s m 4).roots 0) refl h
    where
      by_used : (c : Bool) → nat_eq (sights L s m 4).used (sights L s m 4).trapped ≡ c → nat_eq (sights L s m 4).roots 0 ≡ false → (rest : Bool) → trapped_by (stuck_by rest) c ≡ AllTrapped → not (nat_eq (sights L s m 4).trapped 0) ≡ true
      by_used true e some rest g =
          let all_trapped = eqb-true (sights L s m 4).used (sights L s m 4).trapped e in
          let le = roots_used 4 all in
          by_trapped (nat_eq (sights L s m 4).trapped 0) refl (eqb-false (sights L s m 4).roots 0 some) (omega (arith, all_trapped, le))
        where
          by_trapped : (b : Bool) → nat_eq (sights L s m 4).trapped 0 ≡ b → (sights L s m 4).roots ≢ 0 → (sights L s m 4).roots ≤ (sights L s m 4).trapped → not b ≡ true
          by_trapped false e' ne le' = refl
          by_trapped true e' ne le' = let none = eqb-true (sights L s m 4).trapped 0 e' in absurd (ne (omega (arith, none, le')))
      by_used false e some true g = cc
      by_used false e some false g = cc

      by_roots : (b : Bool) → nat_eq (sights L s m 4).roots 0 ≡ b → finished_by (unfinished L s m) b ≡ AllTrapped → not (nat_eq (sights L s m 4).trapped 0) ≡ true
      by_roots true e g = cc
      by_roots false e g = by_used (nat_eq (sights L s m 4).used (sights L s m 4).trapped) refl e _ g

  no_roots_below : (n : ℕ) → (sights L s m n).roots ≡ 0 → (c : ℕ) (core : CoreState) → c < n → slice_get m.cores c ≡ Some core → core.roots ≡ 0
  unfolding sight
  no_roots_below zero e c core lt there = let no : ⊥ = omega (arith, lt) in absurd no
  no_roots_below (suc n) e c core lt there = go (λ less. no_roots_below n (omega (arith, e)) c core less there) (same_num c n)
    where
      below : (a b : ℕ) → a < suc b → a ≢ b → a < b
      below a b h ne' = omega (arith, h, ne')

      go : (c < n → core.roots ≡ 0) → (c ≡ n) ⊎ (c ≢ n) → core.roots ≡ 0
      go before (inl is) =
          let here : (sight_at L s n (slice_get m.cores n)).roots ≡ core.roots = ap (λ o. (sight_at L s n o).roots) (ap (λ i. slice_get m.cores i) (sym is) ∙ there) in
          omega (arith, e, here)
      go before (inr ne) = before (below c n lt ne)

  no_roots : (n : ℕ) → ((c : ℕ) (core : CoreState) → slice_get m.cores c ≡ Some core → core.roots ≡ 0) → (sights L s m n).roots ≡ 0
  unfolding sight
  no_roots zero h = refl
  no_roots (suc n) h = let r = no_roots n h in let here = go (slice_get m.cores n) refl in omega (arith, r, here)
    where
      go : (o : Option CoreState) → slice_get m.cores n ≡ o → (sight_at L s n o).roots ≡ 0
      go None there = refl
      go (Some core) there = h n core there

  -- finished exactly where no root is left
  finished_is : length m.cores ≡ 4 → (end_of L s m ≡ Finished) ↔ ((c : ℕ) (core : CoreState) → slice_get m.cores c ≡ Some core → core.roots ≡ 0)
  unfolding end_of
  finished_is four = (to, from)
    where
      not_stuck : (b c : Bool) → trapped_by (stuck_by b) c ≡ Finished → ⊥
      not_stuck true true h = cc
      not_stuck false true h = cc
      not_stuck true false h = cc
      not_stuck false false h = cc

      none_left : (b : Bool) → nat_eq (sights L s m 4).roots 0 ≡ b → finished_by (unfinished L s m) b ≡ Finished → (sights L s m 4).roots ≡ 0
      none_left true e h = eqb-true (sights L s m 4).roots 0 e
      none_left false e h = absurd (not_stuck _ _ h)

      to : end_word (sights L s m 4) (links_empty m.links) ≡ Finished → (c : ℕ) (core : CoreState) → slice_get m.cores c ≡ Some core → core.roots ≡ 0
      to h c core there =
          let below = get_below m.cores c core there in
          no_roots_below 4 (none_left (nat_eq (sights L s m 4).roots 0) refl h) c core (omega (arith, below, four)) there

      from : ((c : ℕ) (core : CoreState) → slice_get m.cores c ≡ Some core → core.roots ≡ 0) → end_word (sights L s m 4) (links_empty m.links) ≡ Finished
      from h = ap (λ n. finished_by (unfinished L s m) (nat_eq n 0)) (no_roots 4 h)

-- in each run of a valid image

pub run_finished : (L : Image) (s : Stim) (es : List Event) (m : Machine) → Valid L → runs L s (boot L) es ≡ Some m → (end_of L s m ≡ Finished) ↔ ((c : ℕ) (core : CoreState) → slice_get m.cores c ≡ Some core → core.roots ≡ 0)
run_finished L s es m valid run = finished_is L s m (runs_sound L valid s es (boot L) m (boot_sound L valid) run).four

pub run_trapped : (L : Image) (s : Stim) (es : List Event) (m : Machine) → Valid L → runs L s (boot L) es ≡ Some m → end_of L s m ≡ AllTrapped → has_trap L s m ≡ true
run_trapped L s es m valid run = trapped_is L s m (runs_each L s RootsAreFew (few_kept L s) es (boot L) m (boot_few L valid) run)
