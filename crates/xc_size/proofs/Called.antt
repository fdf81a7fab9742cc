-- How a list of called functions grows by what stands at its place.
use Rattle.std.proofs.Common.{◌≡◌, ℕ, ◌+◌, ◌<◌, List, [], ◌∷◌, ◌++◌, length, drop, get_or, Option, ap, ◌∙◌, append_assoc, append-nil}
use Rattle.xw_words.proofs.Lists.{drop_item}
use Rattle.xc_tree.specs.declared.names.Mark.{Mark}
use Rattle.xc_size.specs.Callees.{called_numbers}
use Rattle.xc_size.proofs.CalledParts.{numbers_append}

pub numbers_step : (n : List ℕ → Option ℕ) (ms : List Mark) (i : ℕ) (m : Mark) → m ≡ get_or ms i m → i < length ms → called_numbers n (drop i ms) ≡ called_numbers n (m ∷ []) ++ called_numbers n (drop (i + 1) ms)
numbers_step n ms i m e h = ap (called_numbers n) (drop_item ms i m e h) ∙ numbers_append n (m ∷ []) (drop (i + 1) ms)

pub ruleset called = (append_assoc, append-nil, numbers_step)
