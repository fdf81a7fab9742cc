-- The cores that values name.
use Rattle.std.proofs.Common.{◌≡◌, ℕ, ◌<◌, ◌≤◌, Bool, true, false, Option, Some, None, arith, refl, ap, sym, ◌∙◌}
use Rattle.std.specs.Prelude.{nat_le}
use Rattle.xc_kernel.specs.Ports.{core_by, core_of_value}
use Rattle.xc_kernel.specs.Values.{Value, word, error}
use Rattle.xc_inline.specs.Words.{word_in}

pub core_found : (v : Value) (n : ℕ) (b : Bool) → Some n ≡ word_in v → nat_le n 3 ≡ b → core_by n b ≡ core_of_value v
core_found (word m) n b e test = let same : n ≡ m = cc in sym (ap (core_by n) test) ∙ ap (λ k. core_by k (nat_le k 3)) same
core_found (error kind pos) n b e test = absurd (cc)

pub core_missing : (v : Value) → ◌≡◌ {A = Option ℕ} None (word_in v) → 255 ≡ core_of_value v
core_missing (word m) e = absurd (cc)
core_missing (error kind pos) e = refl

pub within : (n m : ℕ) → n ≤ m → nat_le n m ≡ true
within n m h = grind (arith, h)

pub beyond : (n m : ℕ) → m < n → nat_le n m ≡ false
beyond n m h = grind (arith, h)
