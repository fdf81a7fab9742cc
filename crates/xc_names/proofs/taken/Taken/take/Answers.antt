use Rattle.std.proofs.Common.{◌≡◌, ℕ, Bool, true, false, ◌&&◌, List, nat_eq, refl, sym, arith}
use Rattle.std.specs.Cmp.Lexicographic.{pointwise, bytes_decides}
use Rattle.std.proofs.lemmas.Bool.Decides.{nat_tests}
use Rattle.xc_names.proofs.taken.Taken.take.Goals as goal

differ : (a b : List ℕ) (m n : ℕ) → (b ≡ a → n ≡ m → ⊥) → (pointwise nat_eq a b && nat_eq m n) ≡ false
differ a b m n h = by (pointwise nat_eq a b) refl
  where
    equal : (x y : ℕ) → nat_eq x y ≡ true → x ≡ y
    equal x y e = grind (arith, nat_tests)

    numbers : (y : Bool) → nat_eq m n ≡ y → a ≡ b → y ≡ false
    numbers true q e = absurd (h (sym e) (sym (equal m n q)))
    numbers false q e = refl

    by : (x : Bool) → pointwise nat_eq a b ≡ x → (x && nat_eq m n) ≡ false
    by true e = numbers (nat_eq m n) refl ((bytes_decides a b).0 e)
    by false e = refl

pub returns-in-Ok-clause-others : goal.returns-in-Ok-clause-others
returns-in-Ok-clause-others c = λ t core h. c.in-Ok.ensures.updates.2 (record { 0 = record { ref_ptr = c.args.identifier.ref_ptr; now = t }; 1 = core }) (differ c.args.identifier.now t c.args.core core h)
