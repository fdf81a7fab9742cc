-- The functions of a program as the tree has them, and their numbers, which are their places among the functions.
use Rattle.std.specs.Prelude.{◌≡◌, ℕ, ◌<◌, List, length, map, slice_get, Option, Some, None}
use Rattle.std.specs.Borrow.{Bor}
use Rattle.xc_tree.specs.declared.tree.FuncItem.{FuncItem}
use Rattle.xc_tree.specs.Trees.{head_of, statement_of}
use Rattle.xc_kernel.specs.Programs.{Function, function_named}

-- the function that a `FuncItem` stands for
abbrev pub function_of : FuncItem → Function
function_of f = record { head = head_of f; body = statement_of f.body }

-- the functions that some `FuncItem`s stand for
abbrev pub functions_at : List (Bor FuncItem) → List Function
functions_at all = map (λ (f : Bor FuncItem). function_of f.now) all

-- the function with a number
abbrev pub function_at : List Function → Option ℕ → Option Function
function_at fs None = None
function_at fs (Some number) = slice_get fs number

-- each name has the number of the first function with that name
pub record AreNumbers (number : List ℕ → Option ℕ) (fs : List Function) : Type 0 where
  pub named : (name : List ℕ) → function_named fs name ≡ function_at fs (number name)
  pub within : (name : List ℕ) (k : ℕ) → number name ≡ Some k → k < length fs
