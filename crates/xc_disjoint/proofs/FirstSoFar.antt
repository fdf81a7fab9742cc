-- Of broken rules the first, one behind the other: the first so far, and with what is still to come the first of all.
use Rattle.std.proofs.Common.{◌≡◌, ◌⊎◌, inl, inr, ⊎_elim, Option, Some, None, refl, sym, ap, subst, arith}
use Rattle.xw_words.specs.declared.pos.Pos.{Pos}
use Rattle.xw_words.specs.declared.pos.Broken.{Broken}
use Rattle.xc_tree.specs.Lexes.{IsNotAfter}
use Rattle.xc_tree.specs.Least.{IsLeastOf, first_of}
use Rattle.xc_tree.proofs.Leasts.{either, of_same, none_broken, not_after_self}

pub some_same : {A : Type 0} (a b : A) → Some a ≡ Some b → a ≡ b
some_same a b e = cc

pub none_same : {A B : Type 0} (a : A) → None ≡ Some a → B
none_same a e = absurd cc

-- One broken rule is the least of itself, and there is one least.

abbrev pub Is : Option Broken → Broken → Type 0
Is x b = x ≡ Some b

pub own : (x : Option Broken) → IsLeastOf (Is x) x
own x = record { among = λ a e. e; least = λ b e. (b, e, not_after_self b) }

same_broken : (a b : Broken) → IsNotAfter a b → IsNotAfter b a → a ≡ b
same_broken a b (inl (inl h)) (inl (inl k)) = absurd (omega arith)
same_broken a b (inl (inl h)) (inl (inr k)) = let e = k.0 in absurd (omega arith)
same_broken a b (inl (inr h)) (inl (inl k)) = let e = h.0 in absurd (omega arith)
same_broken a b (inl (inr h)) (inl (inr k)) = let e = h.1 in let f = k.1 in absurd (omega arith)
same_broken a b (inl (inl h)) (inr k) = let e = ap (λ (p : Pos). p.line) k.0 in absurd (omega arith)
same_broken a b (inl (inr h)) (inr k) = let e = ap (λ (p : Pos). p.col) k.0 in let f = h.1 in absurd (omega arith)
same_broken a b (inr h) (inl (inl k)) = let e = ap (λ (p : Pos). p.line) h.0 in absurd (omega arith)
same_broken a b (inr h) (inl (inr k)) = let e = ap (λ (p : Pos). p.col) h.0 in let f = k.1 in absurd (omega arith)
same_broken a b (inr h) (inr k) = let r : a.rule ≡ b.rule = (let x = h.1 in let y = k.1 in omega arith) in λ j. record { rule = r j; pos = h.0 j }

pub one_least : (P : Broken → Type 0) (x y : Option Broken) → IsLeastOf P x → IsLeastOf P y → x ≡ y
one_least P None None h k = refl
one_least P (Some a) None h k = let g = k.least a (h.among a refl) in none_same g.0 g.1
one_least P None (Some b) h k = let g = h.least b (k.among b refl) in none_same g.0 g.1
one_least P (Some a) (Some b) h k =
    let f = h.least b (k.among b refl) in
    let g = k.least a (h.among a refl) in
    ap Some (same_broken a b
    (subst (λ x. IsNotAfter x b) (sym (some_same a f.0 f.1)) f.2)
    (subst (λ x. IsNotAfter x a) (sym (some_same b g.0 g.1)) g.2))

pub first_assoc : (x y z : Option Broken) → first_of (first_of x y) z ≡ first_of x (first_of y z)
first_assoc x y z =
    one_least (λ b. Is x b ⊎ (Is y b ⊎ Is z b)) (first_of (first_of x y) z) (first_of x (first_of y z))
    (of_same (λ b. (Is x b ⊎ Is y b) ⊎ Is z b) (λ b. Is x b ⊎ (Is y b ⊎ Is z b)) (first_of (first_of x y) z)
    (λ b. ⊎_elim (⊎_elim inl (λ e. inr (inl e))) (λ e. inr (inr e)))
    (λ b. ⊎_elim (λ e. inl (inl e)) (⊎_elim (λ e. inl (inr e)) inr))
    (either (λ b. Is x b ⊎ Is y b) (Is z) (first_of x y) z (either (Is x) (Is y) x y (own x) (own y)) (own z)))
    (either (Is x) (λ b. Is y b ⊎ Is z b) x (first_of y z) (own x) (either (Is y) (Is z) y z (own y) (own z)))

pub first_none : (x : Option Broken) → first_of x None ≡ x
first_none None = refl
first_none (Some a) = refl

-- What is found so far, and behind it what is still to come, is the first of all.

abbrev pub Goes : (Broken → Type 0) → (Broken → Type 0) → Option Broken → Type 0
Goes all rest best = (x : Option Broken) → IsLeastOf rest x → IsLeastOf all (first_of best x)

pub goes_end : (P Q : Broken → Type 0) (best : Option Broken) → ((b : Broken) → Q b → ⊥) → Goes P Q best → IsLeastOf P best
goes_end P Q best none h = subst (IsLeastOf P) (first_none best) (h None (none_broken Q none))

pub goes_on : (P Q R S : Broken → Type 0) (best x : Option Broken) → ((b : Broken) → R b ⊎ S b → Q b) → ((b : Broken) → Q b → R b ⊎ S b) → IsLeastOf R x → Goes P Q best → Goes P S (first_of best x)
goes_on P Q R S best x to from k h = λ y l. subst (IsLeastOf P) (sym (first_assoc best x y)) (h (first_of x y) (of_same (λ b. R b ⊎ S b) Q (first_of x y) to from (either R S x y k l)))
