-- Rows of bytes in tables, read on.
use Rattle.std.proofs.Common.{◌≡◌, ℕ, ◌+◌, ◌<◌, ◌≤◌, true, false, List, length, drop, get_or, Some, None, if◌then◌else◌, sym, ap, ◌∙◌}
use Rattle.std.specs.Prelude.{bytes_eq}
use Rattle.std.specs.Borrow.{Bor}
use Rattle.std.proofs.lemmas.List.{at_drop_more, at_drop_all}
use Rattle.xw_words.specs.Tables.{texts, place_from}

-- a table of borrowed rows
module _ (table : List (Bor (List ℕ))) (w : List ℕ) (k : ℕ) (d : Bor (List ℕ)) (h : k < length table) where
  next_row : place_from k (texts (drop k table)) w ≡ (if bytes_eq (get_or table k d).now w then Some k else place_from (k + 1) (texts (drop (k + 1) table)) w)
  unfolding place_from
  next_row = at_drop_more (λ t. place_from k (texts t) w) table k d h

  pub found_row : bytes_eq (get_or table k d).now w ≡ true → Some k ≡ place_from k (texts (drop k table)) w
  found_row e = ap (λ t. if t then Some k else place_from (k + 1) (texts (drop (k + 1) table)) w) (sym e) ∙ sym next_row

  pub passed_row : bytes_eq (get_or table k d).now w ≡ false → place_from (k + 1) (texts (drop (k + 1) table)) w ≡ place_from k (texts (drop k table)) w
  passed_row e = ap (λ t. if t then Some k else place_from (k + 1) (texts (drop (k + 1) table)) w) (sym e) ∙ sym next_row

pub no_row : (table : List (Bor (List ℕ))) (w : List ℕ) (k : ℕ) → length table ≤ k → None ≡ place_from k (texts (drop k table)) w
unfolding place_from
no_row table w k h = sym (at_drop_all (λ t. place_from k (texts t) w) table k h)
