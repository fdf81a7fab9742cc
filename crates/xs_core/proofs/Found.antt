-- Rows by what is there at a place.
use Rattle.std.proofs.Common.{◌≡◌, ◌<◌, ◌≤◌, ℕ, zero, suc, true, false, List, [], ◌∷◌, Some, None, length, get_or, slice_get, nat_lt, nat_le, refl, sym, ap, ◌∙◌, arith}
use borrow.Author.Tests.{true-ltb, false-ltb, le-leb, lt-leb}
use Rattle.xs_core.proofs.There.{there}
use Rattle.xs_core.specs.declared.names.Resource.{Resource}
use Rattle.xs_core.specs.declared.names.Resource.TheVariants as resource
use Rattle.xs_core.specs.Names.{meant_by}
use Rattle.xs_instr.specs.declared.image.Home.{Home}
use Rattle.xs_instr.specs.declared.state.ChanEnd.{ChanEnd}
use Rattle.xs_instr.specs.declared.state.CoreState.{CoreState}
use Rattle.xs_instr.specs.declared.state.Lock.{Lock}
use Rattle.xs_instr.specs.declared.trace.Trap.TheVariants.{Resource as NoResource}
use Rattle.xs_instr.specs.Did.{Did, Made, Paused, Traps, Idle, is_step, map_did}
use Rattle.xs_instr.specs.Ends.{Checked, Gone, Passed, Taken, Word, byte_in, check_in, outs_by, word_in}
use Rattle.xs_instr.specs.Pool.{lock_held, lock_held_by, lock_there, where_lock}
use Rattle.xs_instr.specs.Resources.{on_end, usable}

past : {X : Type 0} (xs : List X) (i : ℕ) → length xs ≤ i → slice_get xs i ≡ None
past [] i le = refl
past (x ∷ xs) zero le = absurd (omega arith)
past (x ∷ xs) (suc i) le = past xs i (omega arith)

-- nothing is at the place
pub absent : {X A B : Type 0} (put : A → B) (go : X → Did A) (xs : List X) (i : ℕ) → false ≡ nat_lt i (length xs) → Traps NoResource ≡ map_did put (usable go (slice_get xs i))
absent put go xs i is_past = sym (ap (λ o. map_did put (usable go o)) (past xs i (false-ltb i (length xs) is_past)))

-- what is at the place says what is done
pub found : {X A B : Type 0} (put : A → B) (go : X → Did A) (xs : List X) (i : ℕ) (d : X) (did : Did A) → true ≡ nat_lt i (length xs) → go (get_or xs i d) ≡ did → map_did put did ≡ map_did put (usable go (slice_get xs i))
found put go xs i d did is_there is = sym (ap (λ o. map_did put (usable go o)) (there xs i d (true-ltb i (length xs) is_there)) ∙ ap (map_did put) is)

told_step : {A B : Type 0} (put : A → B) (did : Did A) → is_step (map_did put did) ≡ is_step did
told_step put (Made left made sent) = refl
told_step put Paused = refl
told_step put (Traps kind) = refl
told_step put Idle = refl

-- a step is made where what is at the place says so
pub found_step : {X A B : Type 0} (put : A → B) (go : X → Did A) (xs : List X) (i : ℕ) (d : X) → true ≡ nat_lt i (length xs) → is_step (go (get_or xs i d)) ≡ true → is_step (map_did put (usable go (slice_get xs i))) ≡ true
found_step put go xs i d is_there is = sym (ap is_step (found put go xs i d (go (get_or xs i d)) is_there refl)) ∙ told_step put (go (get_or xs i d)) ∙ is

-- the row of the end that is named
pub end_named : {A B : Type 0} (put : A → B) (core : CoreState) (go : ℕ → ChanEnd → Did A) (name : Resource) (e : ℕ) → name ≡ resource.End e → map_did put (usable (go e) (slice_get core.ends e)) ≡ map_did put (on_end core go (meant_by name))
end_named put core go name e is = sym (ap (λ r. map_did put (on_end core go (meant_by r))) is)

-- tokens go out where there are credits for them
pub pays : (gone : Gone) (n have credits : ℕ) → n ≤ have → have ≡ credits → is_step (outs_by gone (nat_le n credits)) ≡ true
pays gone n have credits le is = ap (λ k. is_step (outs_by gone (nat_le n k))) (sym is) ∙ ap (λ b. is_step (outs_by gone b)) (le-leb n have le)

-- the thread pauses where there are too few credits
pub waits_to_pay : (gone : Gone) (n have credits : ℕ) → have < n → have ≡ credits → outs_by gone (nat_le n credits) ≡ Paused
waits_to_pay gone n have credits lt is = ap (λ k. outs_by gone (nat_le n k)) (sym is) ∙ ap (outs_by gone) (lt-leb n have lt)

-- a token that passes, a byte and a word are steps
pub control_step : (gone : Gone) (k : Checked) → Passed ≡ k → is_step (check_in gone k) ≡ true
control_step gone k is = sym (ap (λ j. is_step (check_in gone j)) is)

pub byte_step : (gone : Gone) (v : ℕ) (k : Taken) → Word v ≡ k → is_step (byte_in gone k) ≡ true
byte_step gone v k is = sym (ap (λ j. is_step (byte_in gone j)) is)

pub word_step : (home : Home) (gone : Gone) (v : ℕ) (k : Taken) → Word v ≡ k → is_step (word_in home gone k) ≡ true
word_step home gone v k is = sym (ap (λ j. is_step (word_in home gone j)) is)

-- no lock is at the place
pub lock_absent : {A B : Type 0} (put : A → B) (go : Lock → Did A) (locks : List Lock) (n : ℕ) → false ≡ nat_lt n (length locks) → Traps NoResource ≡ map_did put (lock_there go (slice_get locks n))
lock_absent put go locks n is_past = sym (ap (λ o. map_did put (lock_there go o)) (past locks n (false-ltb n (length locks) is_past)))

-- the lock that is at the place says what is done
pub lock_found : {A B : Type 0} (put : A → B) (go : Lock → Did A) (locks : List Lock) (n : ℕ) (lock : Lock) (did : Did A) → true ≡ nat_lt n (length locks) → lock ≡ get_or locks n lock → where_lock go lock lock.taken ≡ did → map_did put did ≡ map_did put (lock_there go (slice_get locks n))
lock_found put go locks n lock did is_there at is = sym (ap (λ o. map_did put (lock_there go o)) (there locks n lock (true-ltb n (length locks) is_there) ∙ ap Some (sym at)) ∙ ap (map_did put) is)

pub lock_step : {A B : Type 0} (put : A → B) (go : Lock → Did A) (locks : List Lock) (n : ℕ) (lock : Lock) → true ≡ nat_lt n (length locks) → lock ≡ get_or locks n lock → is_step (where_lock go lock lock.taken) ≡ true → is_step (map_did put (lock_there go (slice_get locks n))) ≡ true
lock_step put go locks n lock is_there at is = sym (ap is_step (lock_found put go locks n lock (where_lock go lock lock.taken) is_there at refl)) ∙ told_step put (where_lock go lock lock.taken) ∙ is

-- a lock that nobody holds is taken, and else the thread pauses
pub holds : (locks : List Lock) (t name n : ℕ) (lock : Lock) → lock.taken ≡ true → lock.holder ≡ None → is_step (where_lock (lock_held locks t name n) lock lock.taken) ≡ true
holds locks t name n lock taken nobody = ap (λ b. is_step (where_lock (lock_held locks t name n) lock b)) taken ∙ ap (λ h. is_step (lock_held_by locks t name n h)) nobody

pub waits_to_hold : (locks : List Lock) (t name n : ℕ) (lock : Lock) (other : ℕ) → lock.taken ≡ true → lock.holder ≡ Some other → where_lock (lock_held locks t name n) lock lock.taken ≡ Paused
waits_to_hold locks t name n lock other taken held = ap (where_lock (lock_held locks t name n) lock) taken ∙ ap (lock_held_by locks t name n) held

pub not_taken : {B : Type 0} (go : Lock → Did B) (lock : Lock) → lock.taken ≡ false → where_lock go lock lock.taken ≡ Traps NoResource
not_taken go lock free = ap (where_lock go lock) free
