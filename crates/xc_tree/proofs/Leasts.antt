-- The first of the broken rules of some kind, and of two kinds.
use Rattle.std.proofs.Common.{◌≡◌, ◌<◌, ◌≤◌, ◌⊎◌, inl, inr, Bool, true, false, Option, None, Some, if◌then◌else◌, refl, sym, subst, ◌∙◌, arith}
use Rattle.std.proofs.lemmas.Bool.Decides.{nat_tests}
use Rattle.std.proofs.lemmas.Option.{none-some}
use Rattle.xw_words.proofs.Lists.{some_same}
use Rattle.xw_words.specs.declared.pos.Pos.{Pos}
use Rattle.xw_words.specs.declared.pos.Broken.{Broken}
use Rattle.xc_tree.specs.Lexes.{IsBefore, IsNotAfter}
use Rattle.xc_tree.specs.Least.{IsFirst, IsLeastOf, comes_before, first_of}

pub not_after_self : (a : Broken) → IsNotAfter a a
not_after_self a = inr (refl, omega arith)

before_trans : (p q r : Pos) → IsBefore p q → IsBefore q r → IsBefore p r
before_trans p q r (inl h) (inl k) = inl (omega arith)
before_trans p q r (inl h) (inr k) = let e = k.0 in inl (omega arith)
before_trans p q r (inr h) (inl k) = let e = h.0 in inl (omega arith)
before_trans p q r (inr h) (inr k) = inr (h.0 ∙ k.0, let a = h.1 in let b = k.1 in omega arith)

pub not_after_trans : (a b c : Broken) → IsNotAfter a b → IsNotAfter b c → IsNotAfter a c
not_after_trans a b c (inl h) (inl k) = inl (before_trans a.pos b.pos c.pos h k)
not_after_trans a b c (inl h) (inr k) = inl (subst (IsBefore a.pos) k.0 h)
not_after_trans a b c (inr h) (inl k) = inl (subst (λ (p : Pos). IsBefore p c.pos) (sym h.0) k)
not_after_trans a b c (inr h) (inr k) = inr (h.0 ∙ k.0, let x = h.1 in let y = k.1 in omega arith)

one_place : (p q : Pos) → p.line ≡ q.line → p.col ≡ q.col → p ≡ q
one_place p q e f = λ j. record { line = e j; col = f j }

pub before : (a b : Broken) → comes_before a b ≡ true → IsNotAfter a b
before a b h = by split
  where
    split : (a.pos.line < b.pos.line) ⊎ ((a.pos.line ≡ b.pos.line) × ((a.pos.col < b.pos.col) ⊎ ((a.pos.col ≡ b.pos.col) × (a.rule < b.rule))))
    split = grind (arith, nat_tests)

    by : (a.pos.line < b.pos.line) ⊎ ((a.pos.line ≡ b.pos.line) × ((a.pos.col < b.pos.col) ⊎ ((a.pos.col ≡ b.pos.col) × (a.rule < b.rule)))) → IsNotAfter a b
    by (inl x) = inl (inl x)
    by (inr (x, inl y)) = inl (inr (x, y))
    by (inr (x, inr y)) = inr (one_place a.pos b.pos x y.0, let z = y.1 in omega arith)

pub not_before : (a b : Broken) → comes_before a b ≡ false → IsNotAfter b a
not_before a b h = by split
  where
    split : (b.pos.line < a.pos.line) ⊎ ((b.pos.line ≡ a.pos.line) × ((b.pos.col < a.pos.col) ⊎ ((b.pos.col ≡ a.pos.col) × (b.rule ≤ a.rule))))
    split = grind (arith, nat_tests)

    by : (b.pos.line < a.pos.line) ⊎ ((b.pos.line ≡ a.pos.line) × ((b.pos.col < a.pos.col) ⊎ ((b.pos.col ≡ a.pos.col) × (b.rule ≤ a.rule)))) → IsNotAfter b a
    by (inl x) = inl (inl x)
    by (inr (x, inl y)) = inl (inr (x, y))
    by (inr (x, inr y)) = inr (one_place b.pos a.pos x y.0, y.1)

-- a least one is no later than each other
under : (P : Broken → Type 0) (a : Broken) → IsLeastOf P (Some a) → (b : Broken) → P b → IsNotAfter a b
under P a p b h = let l = p.least b h in subst (λ (x : Broken). IsNotAfter x b) (sym (some_same a l.0 l.1)) l.2

-- where there is a least one it is the first
pub first_of_least : (P : Broken → Type 0) (b : Broken) → IsLeastOf P (Some b) → IsFirst P b
first_of_least P b p = record { breaks = p.among b refl; least = under P b p }

-- and else there is none
pub none_of : (P : Broken → Type 0) → IsLeastOf P None → (b : Broken) → P b → ⊥
none_of P p b h = let l = p.least b h in none-some l.0 l.1

module _ (P Q : Broken → Type 0) where
  left_first : (a b : Broken) → IsNotAfter a b → IsLeastOf P (Some a) → IsLeastOf Q (Some b) → IsLeastOf (λ x. P x ⊎ Q x) (Some a)
  left_first a b h p q = record {
    among = λ x e. inl (p.among x e);
    least = λ x k. (a, refl, by x k);
  }
    where
      by : (x : Broken) → P x ⊎ Q x → IsNotAfter a x
      by x (inl k) = under P a p x k
      by x (inr k) = not_after_trans a b x h (under Q b q x k)

  right_first : (a b : Broken) → IsNotAfter b a → IsLeastOf P (Some a) → IsLeastOf Q (Some b) → IsLeastOf (λ x. P x ⊎ Q x) (Some b)
  right_first a b h p q = record {
    among = λ x e. inr (q.among x e);
    least = λ x k. (b, refl, by x k);
  }
    where
      by : (x : Broken) → P x ⊎ Q x → IsNotAfter b x
      by x (inl k) = not_after_trans b a x h (under P a p x k)
      by x (inr k) = under Q b q x k

  -- the first of the least of two kinds is the least of both
  pub either : (a b : Option Broken) → IsLeastOf P a → IsLeastOf Q b → IsLeastOf (λ x. P x ⊎ Q x) (first_of a b)
  either None None p q = record { among = λ x e. absurd (none-some x e); least = λ x k. absurd (by x k) }
    where
      by : (x : Broken) → P x ⊎ Q x → ⊥
      by x (inl k) = none_of P p x k
      by x (inr k) = none_of Q q x k
  either None (Some b) p q = record { among = λ x e. inr (q.among x e); least = λ x k. by x k }
    where
      by : (x : Broken) → P x ⊎ Q x → (a : Broken) × (Some b ≡ Some a) × IsNotAfter a x
      by x (inl k) = absurd (none_of P p x k)
      by x (inr k) = q.least x k
  either (Some a) None p q = record { among = λ x e. inl (p.among x e); least = λ x k. by x k }
    where
      by : (x : Broken) → P x ⊎ Q x → (b : Broken) × (Some a ≡ Some b) × IsNotAfter b x
      by x (inl k) = p.least x k
      by x (inr k) = absurd (none_of Q q x k)
  either (Some a) (Some b) p q = by (comes_before b a) refl
    where
      by : (t : Bool) → comes_before b a ≡ t → IsLeastOf (λ x. P x ⊎ Q x) (if comes_before b a then Some b else Some a)
      by true e = rw e (right_first a b (before b a e) p q)
      by false e = rw e (left_first a b (not_before b a e) p q)

  -- what is the least of some is so of others that are the same
  pub of_same : (a : Option Broken) → ((x : Broken) → P x → Q x) → ((x : Broken) → Q x → P x) → IsLeastOf P a → IsLeastOf Q a
  of_same a to from p = record { among = λ x e. to x (p.among x e); least = λ x k. p.least x (from x k) }

pub none_broken : (P : Broken → Type 0) → ((b : Broken) → P b → ⊥) → IsLeastOf P None
none_broken P h = record { among = λ x e. absurd (none-some x e); least = λ x k. absurd (h x k) }

pub one_broken : (P : Broken → Type 0) (a : Broken) → P a → ((b : Broken) → P b → b ≡ a) → IsLeastOf P (Some a)
one_broken P a h only = record {
  among = λ x e. subst P (some_same a x e) h;
  least = λ x k. (a, refl, subst (IsNotAfter a) (sym (only x k)) (not_after_self a));
}
