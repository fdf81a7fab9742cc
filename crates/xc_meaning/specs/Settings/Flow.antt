-- Tests, loops, and blocks that are left.
use Rattle.std.specs.Prelude.{ℕ, Bool, true, false, List, [], ◌∷◌, Option, Some, nat_eq}
use Rattle.xc_kernel.specs.Plain as kernel
use Rattle.xc_kernel.specs.Values.{Value, is_true}
use Rattle.xc_kernel.specs.Eval.{eval}
use Rattle.xc_meaning.specs.States.Items.{Item, does, mark, todo}
use Rattle.xc_meaning.specs.States.Worlds.{World}
use Rattle.xc_meaning.specs.Settings.Setting.{Setting, goes_to, with_value}

-- by whether a test holds
abbrev pub items_by : Bool → (held other : List Item) → List Item
items_by true held other = held
items_by false held other = other

-- the items of the side that a test's value chooses are left
abbrev pub chooses_side : Setting → Value → (held other : List Item) → Option World
chooses_side s v held other = with_value s v (λ w. Some (goes_to s (items_by (is_true w) held other)))

abbrev pub tests : Setting → kernel.Expression → (held other : List Item) → Option World
tests s test held other = chooses_side s (eval s.world.store test) held other

-- one turn of a kernel's loop, and the loop again
abbrev pub turn_items : kernel.Expression → (body next : kernel.Statements) → List Item → List Item
turn_items test body next rest = todo body (todo next (does (kernel.loop test body next) ∷ rest))

-- `items_from_mark`, by cases
abbrev pub from_mark_by : Bool → (here behind : List Item) → List Item
from_mark_by true here behind = here
from_mark_by false here behind = behind

-- What is left of some items when all up to the mark of a block are dropped. `return`, `break` and `continue` drop all items up to the
-- mark, which is then dropped by a step of its own. So behind a `return` the text has a step left wherever the kernel has its `Exit`
-- left, and the two are quiet together.
abbrev pub items_from_mark : (block : ℕ) → List Item → List Item
items_from_mark n [] = []
items_from_mark n (mark m ∷ rest) = from_mark_by (nat_eq n m) (mark m ∷ rest) (items_from_mark n rest)
items_from_mark n (item ∷ rest) = items_from_mark n rest

-- a block is left
abbrev pub leaves : Setting → (block : ℕ) → Option World
leaves s n = Some (goes_to s (items_from_mark n s.rest))
