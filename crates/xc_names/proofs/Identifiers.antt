-- Whether a row of bytes is one of some.
use Rattle.std.proofs.Common.{◌≡◌, ℕ, ◌+◌, ◌<◌, ◌≤◌, suc, zero, Bool, true, false, nat_eq, List, [], ◌∷◌, length, drop, get_or, Contains, if◌then◌else◌, refl, sym, ap, ◌∙◌, true≢false, arith}
use Rattle.std.specs.Borrow.{Bor}
use Rattle.std.specs.Cmp.Lexicographic.{pointwise, bytes_decides}
use Rattle.std.proofs.lemmas.List.{at_drop_more, at_drop_all}
use Rattle.xc_names.specs.Taken.{is_among, texts}

module _ (table : List (Bor (List ℕ))) (w : List ℕ) (k : ℕ) (d : Bor (List ℕ)) (h : k < length table) where
  next_row : is_among (texts (drop k table)) w ≡ (if pointwise nat_eq (get_or table k d).now w then true else is_among (texts (drop (k + 1) table)) w)
  unfolding is_among
  next_row = at_drop_more (λ t. is_among (texts t) w) table k d h

  pub found_row : pointwise nat_eq (get_or table k d).now w ≡ true → true ≡ is_among (texts (drop k table)) w
  found_row e = ap (λ t. if t then true else is_among (texts (drop (k + 1) table)) w) (sym e) ∙ sym next_row

  pub passed_row : pointwise nat_eq (get_or table k d).now w ≡ false → is_among (texts (drop (k + 1) table)) w ≡ is_among (texts (drop k table)) w
  passed_row e = ap (λ t. if t then true else is_among (texts (drop (k + 1) table)) w) (sym e) ∙ sym next_row

pub no_row : (table : List (Bor (List ℕ))) (w : List ℕ) (k : ℕ) → length table ≤ k → false ≡ is_among (texts (drop k table)) w
unfolding is_among
no_row table w k h = sym (at_drop_all (λ t. is_among (texts t) w) table k h)

contains_more : (x : List ℕ) (xs : List (List ℕ)) (w : List ℕ) → Contains xs w → Contains (x ∷ xs) w
contains_more x xs w (k, h, q) = (suc k, omega arith, q)

among_by : (x : List ℕ) (xs : List (List ℕ)) (w : List ℕ) (b : Bool) → pointwise nat_eq x w ≡ b → (is_among xs w ≡ true → Contains xs w) → is_among (x ∷ xs) w ≡ true → Contains (x ∷ xs) w
unfolding is_among
among_by x xs w true q rest e = (zero, omega arith, (bytes_decides x w).0 q)
among_by x xs w false q rest e = contains_more x xs w (rest (sym (ap (λ t. if t then true else is_among xs w) q) ∙ e))

pub among_contains : (xs : List (List ℕ)) (w : List ℕ) → is_among xs w ≡ true → Contains xs w
unfolding is_among
among_contains [] w e = absurd (true≢false (sym e))
among_contains (x ∷ xs) w e = among_by x xs w (pointwise nat_eq x w) refl (among_contains xs w) e

contains_by : (x : List ℕ) (xs : List (List ℕ)) (w : List ℕ) (b : Bool) → pointwise nat_eq x w ≡ b → is_among xs w ≡ true → is_among (x ∷ xs) w ≡ true
unfolding is_among
contains_by x xs w true q e = ap (λ t. if t then true else is_among xs w) q
contains_by x xs w false q e = ap (λ t. if t then true else is_among xs w) q ∙ e

pub contains_among : (xs : List (List ℕ)) (w : List ℕ) → Contains xs w → is_among xs w ≡ true
unfolding is_among
contains_among [] w (k, h, q) = absurd (omega arith)
contains_among (x ∷ xs) w (zero, h, q) = ap (λ t. if t then true else is_among xs w) ((bytes_decides x w).1 q)
contains_among (x ∷ xs) w (suc k, h, q) = contains_by x xs w (pointwise nat_eq x w) refl (contains_among xs w (k, omega arith, q))
