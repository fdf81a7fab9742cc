-- Bits, one after another; and what is picked by them.
use Rattle.std.proofs.Common.{◌≡◌, ◌<◌, ◌≤◌, ◌+◌, ◌-◌, ◌*◌, ◌/◌, ◌%◌, ◌^◌, ℕ, zero, suc, Bool, true, false, List, [], ◌∷◌, length, refl, ap, ◌∙◌, sym, arith, add-one}
use Rattle.std.specs.Prelude.{nat_eq, ◌&&◌}
use Rattle.std.proofs.Math.Nat.{div-div-eq-div-mul, pow-succ'}
use Rattle.std.proofs.Math.Pow.{pow_mono}
use Rattle.xs_core.specs.Bits.{HasBits}
use Rattle.xs_event.specs.Readiness.{is_set, readiness_of}
use Rattle.xs_event.specs.Watches.{HasAll}
use Rattle.xs_event.specs.declared.ready.Ready.{Ready}
use Rattle.xs_instr.specs.declared.state.Events.{Events}
use Rattle.xs_instr.specs.declared.state.Watch.{Watch}
use Rattle.xs_instr.specs.Events.{Readiness, picked, picked_in, picked_by, port_picked, timer_picked, end_picked}
use Rattle.xs_instr.specs.Resources.{is_num}
use Rattle.xw_words.specs.Words.{truth}

pub fits_one_more : (word n : ℕ) → word < 2 ^ n → n < 32 → word < 2 ^ 31
fits_one_more word n h lt =
    let m : n ≤ 31 = omega arith in
    let p = pow_mono m in omega (arith, h, p)

halves : (word b : ℕ) → b < 2 → (word * 2 + b) / 2 ≡ word
halves word b lt = omega arith

truth_small : (b : Bool) → truth b < 2
truth_small true = omega arith
truth_small false = omega arith

lowest : (word : ℕ) (b : Bool) → is_set (word * 2 + truth b) 0 ≡ b
lowest word true = let e : (word * 2 + 1) / 2 ^ 0 % 2 ≡ 1 = omega arith in ap (λ v. nat_eq v 1) e
lowest word false = let e : (word * 2 + 0) / 2 ^ 0 % 2 ≡ 0 = omega arith in ap (λ v. nat_eq v 1) e

higher : (word m : ℕ) (b : Bool) → is_set (word * 2 + truth b) (suc m) ≡ is_set word m
higher word m b =
    let v = word * 2 + truth b in
    let e : v / 2 ^ suc m ≡ word / 2 ^ m =
    ap (λ d. v / d) (pow-succ' 2 m) ∙ sym (div-div-eq-div-mul v 2 (2 ^ m)) ∙ ap (λ h. h / 2 ^ m) (halves word (truth b) (truth_small b)) in
    ap (λ q. nat_eq (q % 2) 1) e

pub no_bits : (ready : ℕ → Bool) → HasBits ready 0 0
no_bits ready = record { small = omega arith; all = λ m lt. absurd (omega arith) }

pub one_bit_more : (ready : ℕ → Bool) (word n : ℕ) (b : Bool) → HasBits ready word n → n < 32 → b ≡ ready (32 - 1 - n) → HasBits ready (word * 2 + truth b) (n + 1)
one_bit_more ready word n b h lt is = record {
  small =
      let p = pow-succ' 2 n in
      let s = h.small in
      let t = truth_small b in
      rw add-one (omega (arith, p, s, t));
  all = go;
}
  where
    at_place : (m : ℕ) → m < n → 32 - n + m ≡ 32 - (n + 1) + suc m
    at_place m l = omega arith

    go : (m : ℕ) → m < n + 1 → is_set (word * 2 + truth b) m ≡ ready (32 - (n + 1) + m)
    go zero l = let e : 32 - 1 - n ≡ 32 - (n + 1) + 0 = omega arith in lowest word b ∙ is ∙ ap ready e
    go (suc m) l = let k : m < n = omega arith in higher word m b ∙ h.all m k ∙ ap ready (at_place m k)

picked_same : (ws : List Watch) (r s : ℕ → Bool) (t n : ℕ) → ((k : ℕ) → k < n + length ws → r k ≡ s k) → picked_in ws r t n ≡ picked_in ws s t n
picked_same [] r s t n h = refl
picked_same (w ∷ ws) r s t n h =
    let rest = picked_same ws r s t (suc n) (λ k l. h k (omega arith)) in
    let here = h n (omega arith) in
    ap (λ o. picked_by n o (is_num w.owner t && r n)) rest ∙ ap (λ b. picked_by n (picked_in ws s t (suc n)) (is_num w.owner t && b)) here

all_bits : (ready : ℕ → Bool) (word : ℕ) → HasBits ready word 32 → (k : ℕ) → k < 32 → is_set word k ≡ ready k
all_bits ready word h k lt = let e : 32 - 32 + k ≡ k = omega arith in h.all k lt ∙ ap ready e

pub picked_by_bits : (events : Events) (t : ℕ) (bits : Ready) (r : Readiness) → HasAll events → HasBits r.ports bits.ports 32 → HasBits r.timers bits.timers 32 → HasBits r.ends bits.ends 32 → picked events t (readiness_of bits) ≡ picked events t r
picked_by_bits events t bits r all p q e =
    let lp = all.ports in let lq = all.timers in let le = all.ends in
    let a = picked_same events.ports (is_set bits.ports) r.ports t 0 (λ k l. all_bits r.ports bits.ports p k (omega (arith, l, lp))) in
    let b = picked_same events.timers (is_set bits.timers) r.timers t 0 (λ k l. all_bits r.timers bits.timers q k (omega (arith, l, lq))) in
    let c = picked_same events.ends (is_set bits.ends) r.ends t 0 (λ k l. all_bits r.ends bits.ends e k (omega (arith, l, le))) in
    ap (λ o. port_picked (timer_picked (end_picked (picked_in events.ends (is_set bits.ends) t 0)) (picked_in events.timers (is_set bits.timers) t 0)) o) a
    ∙ ap (λ o. port_picked (timer_picked (end_picked (picked_in events.ends (is_set bits.ends) t 0)) o) (picked_in events.ports r.ports t 0)) b
    ∙ ap (λ o. port_picked (timer_picked (end_picked o) (picked_in events.timers r.timers t 0)) (picked_in events.ports r.ports t 0)) c
