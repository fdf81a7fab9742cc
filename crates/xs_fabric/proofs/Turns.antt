-- What the turns of a round leave does not depend on what was recorded before, and they follow each other.
use Rattle.std.proofs.Common.{◌≡◌, ◌≤◌, Bool, true, false, ℕ, zero, suc, ◌+◌, ◌-◌, List, [], ◌∷◌, ◌++◌, Some, None, refl, ap, ◌∙◌, sym, subst, append_assoc, add-one, arith}
use Rattle.xs_instr.specs.declared.image.Home.{Home}
use Rattle.xs_instr.specs.declared.state.CoreState.{CoreState}
use Rattle.xs_instr.specs.declared.trace.Record.{Record}
use Rattle.xs_instr.specs.Did.{Did, Made, Paused, Traps, Idle, is_step}
use Rattle.xs_instr.specs.Slot.{slot, is_ready, fault_of}
use Rattle.xw_words.specs.Words.{truth}
use Rattle.xs_fabric.specs.Lockstep.{Part, after, turn, turns, steps_in}

-- the part with records in front of its own
abbrev pub behind : List Record → Part → Part
behind before p = record p { made = before ++ p.made }

after-behind : (home : Home) (before : List Record) (p : Part) (t : ℕ) (d : Did CoreState) → after home (behind before p) t d ≡ behind before (after home p t d)
after-behind home before p t (Made core None sent) = refl
after-behind home before p t (Made core (Some r) sent) =
    ap (λ l. record { core = core; made = l; sent = p.sent ++ sent }) (append_assoc before p.made (r ∷ []))
after-behind home before p t (Traps kind) =
    ap (λ l. record (after home p t (Traps kind)) { made = l }) (append_assoc before p.made (fault_of home p.core t kind ∷ []))
after-behind home before p t Paused = refl
after-behind home before p t Idle = refl

pub turns-behind : (home : Home) (before : List Record) (p : Part) (n : ℕ) → turns home (behind before p) n ≡ behind before (turns home p n)
unfolding turns turn
turns-behind home before p zero = refl
turns-behind home before p (suc n) =
    let q = turns home p n in
    ap (λ (x : Part). after home x n (slot home x.core n)) (turns-behind home before p n) ∙ after-behind home before q n (slot home q.core n)

pub steps_in-behind : (home : Home) (before : List Record) (p : Part) (n : ℕ) → steps_in home (behind before p) n ≡ steps_in home p n
steps_in-behind home before p zero = refl
steps_in-behind home before p (suc n) =
    let e = turns-behind home before p n in
    let s = steps_in-behind home before p n in
    ap (λ k. k + truth (is_ready home (turns home (behind before p) n).core n)) s
    ∙ ap (λ (x : Part). steps_in home p n + truth (is_ready home x.core n)) e

-- one more turn
pub turns_next : (home : Home) (p q r : Part) (n : ℕ) → q ≡ turns home p n → r ≡ turn home q n → r ≡ turns home p (n + 1)
unfolding turns
turns_next home p q r n e f = rw add-one (f ∙ ap (λ x. turn home x n) e)

pub no_turns : (home : Home) (p : Part) → p ≡ turns home p 0
unfolding turns
no_turns home p = refl

pub steps_next : (home : Home) (p q : Part) (n k : ℕ) → q ≡ turns home p n → k ≡ steps_in home p n → k + truth (is_ready home q.core n) ≡ steps_in home p (n + 1)
steps_next home p q n k e f =
    rw add-one
    (ap (λ x. x + truth (is_ready home q.core n)) f
    ∙ ap (λ (x : Part). steps_in home p n + truth (is_ready home x.core n)) e)

pub truth_few : (b : Bool) → truth b ≤ 1
truth_few true = omega arith
truth_few false = omega arith

-- a sum of a tick and of steps
pub sum_start : (events tick : ℕ) → events ≡ tick → events ≡ tick + 0
sum_start events tick e = omega (arith, e)

pub sum_next : (home : Home) (p q : Part) (n events tick more : ℕ) → q ≡ turns home p n → events ≡ tick + steps_in home p n → more ≡ truth (is_ready home q.core n) → events + more ≡ tick + steps_in home p (n + 1)
sum_next home p q n events tick more e f g =
    let next = steps_next home p q n (steps_in home p n) e refl in
    omega (arith, f, g, next)

-- turns of threads that do nothing
turns_rest : (home : Home) (p : Part) (n : ℕ) → ((u : ℕ) → n ≤ u → slot home (turns home p n).core u ≡ Idle) → (k m : ℕ) → m ≡ n + k → turns home p m ≡ turns home p n
unfolding turns turn
turns_rest home p n idle zero m e = let same : m ≡ n = omega (arith, e) in ap (turns home p) same
turns_rest home p n idle (suc k) zero e = absurd (omega (arith, e))
turns_rest home p n idle (suc k) (suc m) e =
    ap (λ (x : Part). after home x m (slot home x.core m)) (turns_rest home p n idle k m (omega (arith, e)))
    ∙ ap (after home (turns home p n) m) (idle m (omega (arith, e)))

steps_rest : (home : Home) (p : Part) (n : ℕ) → ((u : ℕ) → n ≤ u → slot home (turns home p n).core u ≡ Idle) → (k m : ℕ) → m ≡ n + k → steps_in home p m ≡ steps_in home p n
steps_rest home p n idle zero m e = let same : m ≡ n = omega (arith, e) in ap (steps_in home p) same
steps_rest home p n idle (suc k) zero e = absurd (omega (arith, e))
steps_rest home p n idle (suc k) (suc m) e =
    let before : m ≡ n + k = omega (arith, e) in
    let none : steps_in home p n + 0 ≡ steps_in home p n = omega arith in
    ap (λ j. j + truth (is_ready home (turns home p m).core m)) (steps_rest home p n idle k m before)
    ∙ ap (λ (x : Part). steps_in home p n + truth (is_ready home x.core m)) (turns_rest home p n idle k m before)
    ∙ ap (λ (d : Did CoreState). steps_in home p n + truth (is_step d)) (idle m (omega (arith, e)))
    ∙ none

-- after the last thread that does something the eight turns are over
pub last_turns : (home : Home) (p q : Part) (n : ℕ) → n ≤ 8 → q ≡ turns home p n → ((u : ℕ) → n ≤ u → slot home q.core u ≡ Idle) → q ≡ turns home p 8
last_turns home p q n few e idle =
    e ∙ sym (turns_rest home p n (λ u from. subst (λ (x : Part). slot home x.core u ≡ Idle) e (idle u from)) (8 - n) 8 (omega (arith, few)))

pub last_steps : (home : Home) (p q : Part) (n k : ℕ) → n ≤ 8 → q ≡ turns home p n → ((u : ℕ) → n ≤ u → slot home q.core u ≡ Idle) → k ≡ steps_in home p n → k ≡ steps_in home p 8
last_steps home p q n k few e idle same =
    same ∙ sym (steps_rest home p n (λ u from. subst (λ (x : Part). slot home x.core u ≡ Idle) e (idle u from)) (8 - n) 8 (omega (arith, few)))
