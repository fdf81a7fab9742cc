-- The identifiers of synchronisers and threads name them.
use Rattle.std.proofs.Common.{◌≡◌, ℕ, ◌/◌, ◌%◌, ◌^◌, ◌<◌, ap, ◌∙◌, arith, eq-eqb}
use Rattle.xs_instr.specs.Resources.{ASync, AThread, named, named_by, of_kind, sync_name, thread_name}

sync_core : (c n : ℕ) → n < 2 ^ 16 → sync_name c n / 2 ^ 24 ≡ c
sync_core c n h = omega arith

sync_number : (c n : ℕ) → n < 2 ^ 16 → sync_name c n / 2 ^ 8 % 2 ^ 16 ≡ n
sync_number c n h = omega arith

sync_kind : (c n : ℕ) → n < 2 ^ 16 → sync_name c n % 2 ^ 8 ≡ 3
sync_kind c n h = omega arith

pub sync_named : (c n : ℕ) → n < 8 → named c (sync_name c n) ≡ ASync n
sync_named c n few =
    let h : n < 2 ^ 16 = omega arith in
    let r = sync_name c n in
    ap (named_by r) (eq-eqb (r / 2 ^ 24) c (sync_core c n h))
    ∙ ap (λ (k : ℕ). of_kind k (r % 2 ^ 8)) (sync_number c n h)
    ∙ ap (of_kind n) (sync_kind c n h)

thread_core : (c n : ℕ) → n < 2 ^ 16 → thread_name c n / 2 ^ 24 ≡ c
thread_core c n h = omega arith

thread_number : (c n : ℕ) → n < 2 ^ 16 → thread_name c n / 2 ^ 8 % 2 ^ 16 ≡ n
thread_number c n h = omega arith

thread_kind : (c n : ℕ) → n < 2 ^ 16 → thread_name c n % 2 ^ 8 ≡ 4
thread_kind c n h = omega arith

pub thread_named : (c n : ℕ) → n < 8 → named c (thread_name c n) ≡ AThread n
thread_named c n few =
    let h : n < 2 ^ 16 = omega arith in
    let r = thread_name c n in
    ap (named_by r) (eq-eqb (r / 2 ^ 24) c (thread_core c n h))
    ∙ ap (λ (k : ℕ). of_kind k (r % 2 ^ 8)) (thread_number c n h)
    ∙ ap (of_kind n) (thread_kind c n h)
