-- The first of broken rules doesn't depend on their order.
use Rattle.std.proofs.Common.{◌≡◌, ◌⊎◌, inl, inr, List, [], ◌∷◌, Option, None, Some, refl, sym, ap, subst, ◌∙◌, arith}
use Rattle.std.proofs.lemmas.Option.{none-some}
use Rattle.xw_words.proofs.Lists.{some_same}
use Rattle.xw_words.specs.declared.pos.Pos.{Pos}
use Rattle.xw_words.specs.declared.pos.Broken.{Broken}
use Rattle.xc_tree.specs.Lexes.{IsBefore, IsNotAfter}
use Rattle.xc_tree.specs.Least.{IsLeastOf, first_of}
use Rattle.xc_tree.proofs.Leasts.{either, of_same, not_after_self}
use Rattle.xc_types.specs.Checker.{first_among}

same_broken : (a b : Broken) → a.pos ≡ b.pos → a.rule ≡ b.rule → a ≡ b
same_broken a b e f = λ i. record { rule = f i; pos = e i }

not_both : (p q : Pos) → IsBefore p q → IsBefore q p → ⊥
not_both p q (inl h) (inl k) = omega arith
not_both p q (inl h) (inr k) = let e = k.0 in omega arith
not_both p q (inr h) (inl k) = let e = h.0 in omega arith
not_both p q (inr h) (inr k) = let a = h.1 in let b = k.1 in omega arith

not_itself : (p q : Pos) → p ≡ q → IsBefore p q → ⊥
not_itself p q e (inl h) = let f = ap (λ (r : Pos). r.line) e in omega arith
not_itself p q e (inr h) = let f = ap (λ (r : Pos). r.col) e in let k = h.1 in omega arith

pub one_broken_rule : (a b : Broken) → IsNotAfter a b → IsNotAfter b a → a ≡ b
one_broken_rule a b (inl h) (inl k) = absurd (not_both a.pos b.pos h k)
one_broken_rule a b (inl h) (inr k) = absurd (not_itself a.pos b.pos (sym k.0) h)
one_broken_rule a b (inr h) (inl k) = absurd (not_itself b.pos a.pos (sym h.0) k)
one_broken_rule a b (inr h) (inr k) = same_broken a b h.0 (let x = h.1 in let y = k.1 in omega arith)

pub one_least : (P : Broken → Type 0) (a b : Option Broken) → IsLeastOf P a → IsLeastOf P b → a ≡ b
one_least P None None p q = refl
one_least P None (Some b) p q = let l = p.least b (q.among b refl) in absurd (none-some l.0 l.1)
one_least P (Some a) None p q = let l = q.least a (p.among a refl) in absurd (none-some l.0 l.1)
one_least P (Some a) (Some b) p q =
    let l = p.least b (q.among b refl) in
    let m = q.least a (p.among a refl) in
    ap Some (one_broken_rule a b (first_is l.0 l.1 l.2) (second_is m.0 m.1 m.2))
  where
    first_is : (x : Broken) → Some a ≡ Some x → IsNotAfter x b → IsNotAfter a b
    first_is x e h = subst (λ (y : Broken). IsNotAfter y b) (sym (some_same a x e)) h

    second_is : (x : Broken) → Some b ≡ Some x → IsNotAfter x a → IsNotAfter b a
    second_is x e h = subst (λ (y : Broken). IsNotAfter y a) (sym (some_same b x e)) h

-- what there is, is the least of itself
abbrev pub Itself : Option Broken → Broken → Type 0
Itself a x = a ≡ Some x

pub itself : (a : Option Broken) → IsLeastOf (Itself a) a
itself a = record { among = λ x e. e; least = λ b e. (b, e, not_after_self b) }

swapped : {A B : Type 0} → A ⊎ B → B ⊎ A
swapped (inl a) = inr a
swapped (inr b) = inl b

left : {A B C : Type 0} → (A ⊎ B) ⊎ C → A ⊎ (B ⊎ C)
left (inl (inl a)) = inl a
left (inl (inr b)) = inr (inl b)
left (inr c) = inr (inr c)

right : {A B C : Type 0} → A ⊎ (B ⊎ C) → (A ⊎ B) ⊎ C
right (inl a) = inl (inl a)
right (inr (inl b)) = inl (inr b)
right (inr (inr c)) = inr c

pub first_swapped : (a b : Option Broken) → first_of a b ≡ first_of b a
first_swapped a b =
    one_least (λ x. Itself a x ⊎ Itself b x) (first_of a b) (first_of b a) (either (Itself a) (Itself b) a b (itself a) (itself b))
    (of_same (λ x. Itself b x ⊎ Itself a x) (λ x. Itself a x ⊎ Itself b x) (first_of b a) (λ x. swapped) (λ x. swapped) (either (Itself b) (Itself a) b a (itself b) (itself a)))

pub first_regrouped : (a b c : Option Broken) → first_of (first_of a b) c ≡ first_of a (first_of b c)
first_regrouped a b c =
    one_least (λ x. Itself a x ⊎ (Itself b x ⊎ Itself c x)) (first_of (first_of a b) c) (first_of a (first_of b c))
    (of_same (λ x. (Itself a x ⊎ Itself b x) ⊎ Itself c x) (λ x. Itself a x ⊎ (Itself b x ⊎ Itself c x)) (first_of (first_of a b) c) (λ x. left) (λ x. right)
    (either (λ x. Itself a x ⊎ Itself b x) (Itself c) (first_of a b) c (either (Itself a) (Itself b) a b (itself a) (itself b)) (itself c)))
    (either (Itself a) (λ x. Itself b x ⊎ Itself c x) a (first_of b c) (itself a) (either (Itself b) (Itself c) b c (itself b) (itself c)))

-- the first of these may be taken last
pub first_last : (a b : Option Broken) (xs : List Broken) → first_among (first_of a b) xs ≡ first_of (first_among a xs) b
first_last a b [] = refl
first_last a b (x ∷ xs) =
    ap (λ y. first_among y xs) (first_regrouped a b (Some x) ∙ ap (first_of a) (first_swapped b (Some x)) ∙ sym (first_regrouped a (Some x) b))
    ∙ first_last (first_of a (Some x)) b xs

pub first_from : (a : Option Broken) (xs : List Broken) → first_among a xs ≡ first_of a (first_among None xs)
first_from a xs = first_last None a xs ∙ first_swapped (first_among None xs) a

pub others_first : (a : Option Broken) (xs ys : List Broken) → first_among (first_among a xs) ys ≡ first_among (first_among a ys) xs
others_first a xs ys =
    ap (λ y. first_among y ys) (first_from a xs) ∙ first_last a (first_among None xs) ys ∙ sym (first_from (first_among a ys) xs)
