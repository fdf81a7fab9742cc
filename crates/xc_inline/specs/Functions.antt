-- The functions that the walk looks up.
use Rattle.std.specs.Prelude.{ℕ, ◌<◌, ◌^◌, List, [], ◌∷◌, length, map, max}
use Rattle.std.specs.Borrow.{Bor}
use Rattle.xc_tree.specs.Trees.{head_of, statement_of}
use Rattle.xc_tree.specs.declared.tree.FuncItem.{FuncItem}
use Rattle.xc_kernel.specs.Programs.{Function}
use Rattle.xc_tree.specs.Heights.{height}

-- the function that an item stands for
abbrev pub function_of : FuncItem → Function
function_of f = record { head = head_of f; body = statement_of f.body }

-- those that a list borrows
abbrev pub functions_among : List (Bor FuncItem) → List Function
functions_among fs = map (λ f. function_of f.now) fs

-- the height of the highest body
abbrev pub deepest : List (Bor FuncItem) → ℕ
deepest [] = 0
deepest (f ∷ fs) = max (height (statement_of f.now.body)) (deepest fs)

-- it has fewer than 2^32 parameters
abbrev pub HasFewParameters : Function → Type 0
HasFewParameters f = length f.head.params < 2 ^ 32
