-- Items of a list that is written to, and of one that grows at its end.
use Rattle.std.proofs.Common.{◌≡◌, ℕ, ◌<◌, ◌⊎◌, inl, inr, slice_get, ◌≢◌, replicate, Some, sym, ap, subst, ◌∙◌, arith}
use Rattle.std.proofs.lemmas.List.{length-replicate, get_or-replicate}
use Rattle.std.proofs.lemmas.Option.{slice_get-get_or, slice_get_within}
use Rattle.xw_words.proofs.Lists.{some_same}

pub same_or_other : (a b : ℕ) → (a ≡ b) ⊎ (a ≢ b)
same_or_other a b = by (cases a b)
  where
    cases : (m n : ℕ) → (m ≡ n) ⊎ ((m < n) ⊎ (n < m))
    cases m n = grind arith

    by : (a ≡ b) ⊎ ((a < b) ⊎ (b < a)) → (a ≡ b) ⊎ (a ≢ b)
    by (inl e) = inl e
    by (inr (inl h)) = inr (λ e. absurd (omega arith))
    by (inr (inr h)) = inr (λ e. absurd (omega arith))

-- each item of a list that repeats one is that one
pub repeats : {A : Type 0} (n i : ℕ) (x : A) → i < n → slice_get (replicate n x) i ≡ Some x
repeats n i x h = slice_get-get_or (replicate n x) i x (subst (λ (m : ℕ). i < m) (sym (length-replicate n x)) h) ∙ ap Some (get_or-replicate n i x x h)

pub repeats_only : {A : Type 0} (n i : ℕ) (x y : A) → slice_get (replicate n x) i ≡ Some y → x ≡ y
repeats_only n i x y e =
    let h = slice_get_within (replicate n x) i y e in
    some_same x y (sym (repeats n i x (subst (λ (m : ℕ). i < m) (length-replicate n x) h)) ∙ e)
