-- A port's identifier names the port, a timer's the timer, and an end's the end.
use Rattle.std.proofs.Common.{◌≡◌, ℕ, ◌/◌, ◌%◌, ◌^◌, ◌<◌, ap, ◌∙◌, arith, eq-eqb}
use Rattle.xs_instr.specs.Resources.{AnEnd, APort, ATimer, of_kind, named_by, named}
use Rattle.xl_plan.specs.Layout.{end_name, port_name, timer_name}

name_core : (c p : ℕ) → p < 2 ^ 16 → port_name c p / 2 ^ 24 ≡ c
name_core c p h = omega arith

name_number : (c p : ℕ) → p < 2 ^ 16 → port_name c p / 2 ^ 8 % 2 ^ 16 ≡ p
name_number c p h = omega arith

name_kind : (c p : ℕ) → p < 2 ^ 16 → port_name c p % 2 ^ 8 ≡ 0
name_kind c p h = omega arith

pub port_named : (c p : ℕ) → p < 2 ^ 16 → named c (port_name c p) ≡ APort p
port_named c p h =
    let r = port_name c p in
    ap (named_by r) (eq-eqb (r / 2 ^ 24) c (name_core c p h))
    ∙ ap (λ (n : ℕ). of_kind n (r % 2 ^ 8)) (name_number c p h)
    ∙ ap (of_kind p) (name_kind c p h)

timer_core : (c n : ℕ) → n < 2 ^ 16 → timer_name c n / 2 ^ 24 ≡ c
timer_core c n h = omega arith

timer_number_is : (c n : ℕ) → n < 2 ^ 16 → timer_name c n / 2 ^ 8 % 2 ^ 16 ≡ n
timer_number_is c n h = omega arith

timer_kind : (c n : ℕ) → n < 2 ^ 16 → timer_name c n % 2 ^ 8 ≡ 1
timer_kind c n h = omega arith

pub timer_named : (c n : ℕ) → n < 2 ^ 16 → named c (timer_name c n) ≡ ATimer n
timer_named c n h =
    let r = timer_name c n in
    ap (named_by r) (eq-eqb (r / 2 ^ 24) c (timer_core c n h))
    ∙ ap (λ (k : ℕ). of_kind k (r % 2 ^ 8)) (timer_number_is c n h)
    ∙ ap (of_kind n) (timer_kind c n h)

end_core : (c e : ℕ) → e < 2 ^ 16 → end_name c e / 2 ^ 24 ≡ c
end_core c e h = omega arith

end_number_is : (c e : ℕ) → e < 2 ^ 16 → end_name c e / 2 ^ 8 % 2 ^ 16 ≡ e
end_number_is c e h = omega arith

end_kind : (c e : ℕ) → e < 2 ^ 16 → end_name c e % 2 ^ 8 ≡ 2
end_kind c e h = omega arith

pub end_named : (c e : ℕ) → e < 2 ^ 16 → named c (end_name c e) ≡ AnEnd e
end_named c e h =
    let r = end_name c e in
    ap (named_by r) (eq-eqb (r / 2 ^ 24) c (end_core c e h))
    ∙ ap (λ (n : ℕ). of_kind n (r % 2 ^ 8)) (end_number_is c e h)
    ∙ ap (of_kind e) (end_kind c e h)
