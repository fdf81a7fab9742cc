-- A list of a program's functions, as far as the items are read.
use Rattle.std.proofs.Common.{◌≡◌, ℕ, ◌+◌, ◌<◌, List, [], ◌∷◌, ◌++◌, length, drop, get_or, map, ap, append_assoc, append-nil}
use Rattle.xc_tree.specs.declared.tree.Item.{Item}
use Rattle.xc_tree.specs.Trees.{item_of}
use Rattle.xc_kernel.specs.Programs.{functions}
use Rattle.xc_tree.proofs.Forms.{forms}
use Rattle.std.proofs.lemmas.List.{map-append}
use Rattle.xw_words.proofs.Lists.{drop_item}

pub functions_step : (xs : List Item) (i : ℕ) (x : Item) → x ≡ get_or xs i x → i < length xs → functions (map item_of (drop i xs)) ≡ functions (item_of x ∷ map item_of (drop (i + 1) xs))
functions_step xs i x e h = ap (λ ys. functions (map item_of ys)) (drop_item xs i x e h)

pub ruleset listed = (forms, append_assoc, append-nil, map-append, functions_step)
