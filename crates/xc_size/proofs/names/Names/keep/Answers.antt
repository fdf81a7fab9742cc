use Rattle.std.proofs.Common.{◌≡◌, ℕ, Bool, true, false, List, nat_eq, refl, sym}
use Rattle.std.specs.Cmp.Lexicographic.{pointwise, bytes_decides}
use Rattle.xc_size.proofs.names.Names.keep.Goals as goal

differ : (a b : List ℕ) → (b ≡ a → ⊥) → pointwise nat_eq a b ≡ false
differ a b h = by (pointwise nat_eq a b) refl
  where
    by : (x : Bool) → pointwise nat_eq a b ≡ x → x ≡ false
    by true e = absurd (h (sym ((bytes_decides a b).0 e)))
    by false e = refl

pub returns-in-Ok-clause-others : goal.returns-in-Ok-clause-others
returns-in-Ok-clause-others c = λ t h. c.in-Ok.ensures.updates.2 (record { ref_ptr = c.args.name.ref_ptr; now = t }) (differ c.args.name.now t h)
