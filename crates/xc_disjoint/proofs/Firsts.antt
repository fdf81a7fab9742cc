-- The first of the rules that the items of a list break, and the first of a kernel's.
use Rattle.std.proofs.Common.{◌≡◌, ℕ, zero, suc, ◌<◌, ◌⊎◌, inl, inr, List, [], ◌∷◌, slice_index_or, Contains, Option, Some, None, refl, ap, ◌∙◌, arith}
use Rattle.std.proofs.lemmas.List.Elements.{Contains-append_cases, Contains-append_left, Contains-append_right}
use Rattle.xw_words.specs.declared.pos.Broken.{Broken}
use Rattle.xc_tree.specs.Least.{IsLeastOf, first_of}
use Rattle.xc_tree.proofs.Leasts.{either, of_same, not_after_self}
use Rattle.xc_disjoint.specs.Leasts.{first_among, IsBrokenBy}

some_same : {A : Type 0} (a b : A) → Some a ≡ Some b → a ≡ b
some_same a b e = cc

clash : {A : Type 0} (x : A) → None ≡ Some x → ⊥
clash x e = cc

module _ {V : Type 0} (rule_of : V → Option Broken) where
  -- one item's
  own : (x : V) → IsLeastOf (λ b. rule_of x ≡ Some b) (rule_of x)
  own x = record {
    among = λ a e. e;
    least = λ b e. (b, e, not_after_self b);
  }

  pub first_is : (x : V) (xs : List V) → Contains (x ∷ xs) x
  first_is x xs = Contains-append_left (x ∷ []) xs x (0, omega arith, refl)

  pub split : (x : V) (xs : List V) (y : V) → Contains (x ∷ xs) y → (x ≡ y) ⊎ Contains xs y
  split x xs y h = by (Contains-append_cases (x ∷ []) xs y h)
    where
      only : (k : ℕ) → k < 1 → slice_index_or (x ∷ []) k y ≡ y → x ≡ y
      only zero l e = e
      only (suc k) l e = absurd (omega arith)

      by : Contains (x ∷ []) y ⊎ Contains xs y → (x ≡ y) ⊎ Contains xs y
      by (inl c) = inl (only c.0 c.1 c.2)
      by (inr c) = inr c

  broken_here : (x : V) (xs : List V) (b : Broken) → rule_of x ≡ Some b → IsBrokenBy rule_of (x ∷ xs) b
  broken_here x xs b e = record { item = x; among = first_is x xs; broken = e }

  broken_later : (x : V) (xs : List V) (b : Broken) → IsBrokenBy rule_of xs b → IsBrokenBy rule_of (x ∷ xs) b
  broken_later x xs b h = record { item = h.item; among = Contains-append_right (x ∷ []) xs h.item h.among; broken = h.broken }

  -- the least of some, or of those that the items of a list break
  pub least_among : (P : Broken → Type 0) (best : Option Broken) (xs : List V) → IsLeastOf P best → IsLeastOf (λ b. P b ⊎ IsBrokenBy rule_of xs b) (first_among rule_of best xs)
  least_among P best [] h = of_same P (λ b. P b ⊎ IsBrokenBy rule_of [] b) best (λ b p. inl p) (λ b k. by b k) h
    where
      by : (b : Broken) → P b ⊎ IsBrokenBy rule_of [] b → P b
      by b (inl p) = p
      by b (inr k) = let l = k.among.1 in absurd (omega arith)
  least_among P best (x ∷ xs) h =
      of_same (λ b. (P b ⊎ (rule_of x ≡ Some b)) ⊎ IsBrokenBy rule_of xs b) (λ b. P b ⊎ IsBrokenBy rule_of (x ∷ xs) b) (first_among rule_of (first_of best (rule_of x)) xs) to from
      (least_among (λ b. P b ⊎ (rule_of x ≡ Some b)) (first_of best (rule_of x)) xs (either P (λ b. rule_of x ≡ Some b) best (rule_of x) h (own x)))
    where
      to : (b : Broken) → (P b ⊎ (rule_of x ≡ Some b)) ⊎ IsBrokenBy rule_of xs b → P b ⊎ IsBrokenBy rule_of (x ∷ xs) b
      to b (inl (inl p)) = inl p
      to b (inl (inr e)) = inr (broken_here x xs b e)
      to b (inr k) = inr (broken_later x xs b k)

      from : (b : Broken) → P b ⊎ IsBrokenBy rule_of (x ∷ xs) b → (P b ⊎ (rule_of x ≡ Some b)) ⊎ IsBrokenBy rule_of xs b
      from b (inl p) = inl (inl p)
      from b (inr k) = by (split x xs k.item k.among)
        where
          by : (x ≡ k.item) ⊎ Contains xs k.item → (P b ⊎ (rule_of x ≡ Some b)) ⊎ IsBrokenBy rule_of xs b
          by (inl e) = inl (inr (ap rule_of e ∙ k.broken))
          by (inr c) = inr (record { item = k.item; among = c; broken = k.broken })
