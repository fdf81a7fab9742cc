-- Symbols in a text.
use Rattle.std.proofs.lemmas.Bool.{leb-true, le-leb, cases_lt, cases_eq}
use Rattle.std.proofs.Common.{◌≡◌, ℕ, ◌+◌, ◌-◌, ◌<◌, ◌≤◌, Bool, true, false, inl, inr, List, [], ◌∷◌, length, take, drop, Option, Some, None, nat_eq, nat_le, if◌then◌else◌, refl, sym, ap, subst, ◌∙◌, arith, length-take, length-drop}
use Rattle.std.specs.Prelude.{bytes_eq}
use lib.Pointwise.{pointwise_long}
use Rattle.xc_tree.specs.Bytes.{part}
use Rattle.xc_tree.specs.Tables.{symbols, Longest, NoSymbol}
use Rattle.xw_words.specs.Tables.{place_from, place_in}
use Rattle.xc_lexer.specs.Tables.{symbol_to}

pub same_length : (a b : List ℕ) → bytes_eq a b ≡ true → length a ≡ length b
same_length a b e = pointwise_long nat_eq a b e

-- whether all rows of a table have at most three bytes
abbrev short : List (List ℕ) → Bool
short [] = true
short (x ∷ xs) = if nat_le (length x) 3 then short xs else false

short_symbols : short symbols ≡ true
unfolding symbols
short_symbols = refl

short_head : (t : Bool) (xs : List (List ℕ)) → (if t then short xs else false) ≡ true → (t ≡ true) × (short xs ≡ true)
short_head true xs e = (refl, e)
short_head false xs e = absurd (cc)

differs : (t : Bool) (x w : List ℕ) → nat_le (length x) 3 ≡ true → 3 < length w → bytes_eq x w ≡ t → t ≡ false
differs true x w s h e = let l = same_length x w e in let m : length x ≤ 3 = leb-true (length x) 3 s in absurd (omega arith)
differs false x w s h e = refl

-- a row of four bytes or more is in no such table
pub too_long : (k : ℕ) (table : List (List ℕ)) (w : List ℕ) → short table ≡ true → 3 < length w → place_from k table w ≡ None
unfolding place_from
too_long k [] w s h = refl
too_long k (x ∷ xs) w s h =
    let e = short_head (nat_le (length x) 3) xs s in
    let d = differs (bytes_eq x w) x w e.0 h refl in
    ap (λ t. if t then Some k else place_from (k + 1) xs w) d ∙ too_long (k + 1) xs w e.1 h

-- the longest symbol
module _ (text : List ℕ) (at : ℕ) where
  long_part : (n : ℕ) → at + 3 < n → n ≤ length text → place_in symbols (part text at n) ≡ None
  long_part n h l = too_long 0 symbols (part text at n) short_symbols (rw (length-take, length-drop) (omega arith))

  in_text : (n : ℕ) (r : Option ℕ) → n ≤ length text → symbol_to text at n ≡ r → place_in symbols (part text at n) ≡ r
  in_text n r h e = ap (λ t. if t then place_in symbols (part text at n) else None) (sym (le-leb n (length text) h)) ∙ e

  by_test : (n k : ℕ) (t : Bool) → nat_le n (length text) ≡ t → (if t then place_in symbols (part text at n) else None) ≡ Some k → n ≤ length text
  by_test n k true f e = leb-true n (length text) f
  by_test n k false f e = absurd (cc)

  -- no symbol is longer than `low`, if those of three bytes and less are known not to be
  none_from : (low : ℕ) → at ≤ low → (low < at + 3 → symbol_to text at (at + 3) ≡ None) → (low < at + 2 → symbol_to text at (at + 2) ≡ None) → (low < at + 1 → symbol_to text at (at + 1) ≡ None) → (n : ℕ) → low < n → n ≤ length text → place_in symbols (part text at n) ≡ None
  none_from low l c b a n h m = elim (cases_lt (at + 3) n) [
    | inl far ↦ long_part n far m
    | inr near ↦ elim (cases_eq (at + 3) n) [
      | inl e ↦ in_text n None m (subst (λ k. symbol_to text at k ≡ None) e (c (omega arith)))
      | inr no3 ↦ elim (cases_eq (at + 2) n) [
        | inl e ↦ in_text n None m (subst (λ k. symbol_to text at k ≡ None) e (b (omega arith)))
        | inr no2 ↦ let e : at + 1 ≡ n = omega (arith, no3, no2) in in_text n None m (subst (λ k. symbol_to text at k ≡ None) e (a (omega arith)))
      ]
    ]
  ]

  pub longest : (n k : ℕ) → at ≤ n → symbol_to text at n ≡ Some k → (n < at + 3 → symbol_to text at (at + 3) ≡ None) → (n < at + 2 → symbol_to text at (at + 2) ≡ None) → (n < at + 1 → symbol_to text at (at + 1) ≡ None) → Longest text at n k
  longest n k l e c b a =
      let h = by_test n k (nat_le n (length text)) refl e in
      record { within = h; spells = in_text n (Some k) h e; no_longer = λ m. none_from n l c b a m }

  nothing : (n : ℕ) → n ≤ at → place_in symbols (part text at n) ≡ None
  unfolding symbols place_from
  nothing n h =
      let e : n - at ≡ 0 = omega arith in
      ap (λ k. place_in symbols (take k (drop at text))) e

  pub longest_after : (n k : ℕ) → Longest text at n k → at < n
  longest_after n k l = elim (cases_lt at n) [ inl h ↦ h | inr h ↦ let e = nothing n h in let f = l.spells in absurd (cc) ]

  pub no_symbol : symbol_to text at (at + 3) ≡ None → symbol_to text at (at + 2) ≡ None → symbol_to text at (at + 1) ≡ None → NoSymbol text at
  no_symbol c b a = record {
    never = λ n h. elim (cases_lt at n) [ inl l ↦ none_from at (omega arith) (λ x. c) (λ x. b) (λ x. a) n l h | inr g ↦ nothing n g ];
  }
