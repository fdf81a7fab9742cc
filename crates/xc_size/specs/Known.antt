-- When the size of a function is known, and when it is right.
use Rattle.std.specs.Prelude.{◌≡◌, ℕ, ◌+◌, ◌<◌, ◌≤◌, List, [], ◌∷◌, length, slice_get, Option, Some, None}
use Rattle.std.specs.Borrow.{Bor}
use Rattle.xc_tree.specs.declared.tree.FuncItem.{FuncItem}
use Rattle.xc_tree.specs.declared.tree.Stmt.{Stmt}
use Rattle.xc_tree.specs.Plain as tree
use Rattle.xc_kernel.specs.Counts as counts
use Rattle.xc_kernel.specs.Depths as depths
use Rattle.xc_kernel.specs.Nodes as nodes
use Rattle.xc_kernel.specs.Programs.{Function, count_within, name_of_main}
use Rattle.xc_kernel.specs.Size.{most_statements, most_nodes, greatest_depth}
use Rattle.xc_size.specs.declared.size.Size.{Size}
use Rattle.xc_size.specs.declared.sizes.Sizes.{Sizes}
use Rattle.xc_size.specs.Callees.{callees_of}
use Rattle.xc_size.specs.Functions.{AreNumbers, functions_at}
use Rattle.xc_size.specs.Numbers.{number_of}
use Rattle.xc_size.specs.Sizes.{up_to, statements_called, nodes_called, depth_called}

-- the size of the function with this number is known; a name that no function has adds nothing
pub record IsKnown (each : List (Option Size)) (callee : Option ℕ) : Type 0 where
  pub known : (number : ℕ) → callee ≡ Some number → (size : Size) × (slice_get each number ≡ Some (Some size))

-- each of these is known
abbrev pub AreKnown : List (Option Size) → List (Option ℕ) → Type 0
AreKnown each [] = Unit {0}
AreKnown each (callee ∷ callees) = IsKnown each callee × AreKnown each callees

-- the size of each function that a statement calls is known
abbrev pub AreCalleesKnown : Sizes → Stmt → Type 0
AreCalleesKnown sizes s = AreKnown sizes.each (callees_of (number_of sizes.names) s)

-- this is what a call adds, where calls in it are followed at most so deep
pub record IsSizeOfCall (fs : List Function) (deep : ℕ) (call : tree.Call) (size : Size) : Type 0 where
  pub statements : size.statements ≡ up_to most_statements (count_within counts.of_function fs deep call)
  pub nodes : size.nodes ≡ up_to most_nodes (count_within nodes.of_function fs deep call)
  pub depth : size.depth ≡ up_to greatest_depth (count_within depths.of_function fs deep call)

-- the functions that the sizes are of
abbrev pub listed : Sizes → List Function
listed sizes = functions_at sizes.all

-- the function with a number, as the tree has it
abbrev pub item_at : List (Bor FuncItem) → Option ℕ → Option (Bor FuncItem)
item_at all None = None
item_at all (Some number) = slice_get all number

-- main, as the tree has it
abbrev pub main_in : Sizes → Option (Bor FuncItem)
main_in sizes = item_at sizes.all (number_of sizes.names name_of_main)

-- numbers and places fit
pub record AreOfFunctions (sizes : Sizes) : Type 0 where
  pub numbers : AreNumbers (number_of sizes.names) (listed sizes)
  pub places : length sizes.each ≡ length sizes.all

-- what is known is what a call adds, however deep calls are followed beyond this depth
pub record AreSizesFrom (sizes : Sizes) (deep : ℕ) : Type 0 where
  pub right : (call : tree.Call) (number : ℕ) (size : Size) → number_of sizes.names call.called.text ≡ Some number → slice_get sizes.each number ≡ Some (Some size) → (n : ℕ) → deep ≤ n → IsSizeOfCall (listed sizes) n call size

-- what is known then is right from one step deeper on than what was known before
abbrev pub AreRightDeeper : Sizes → Sizes → Type 0
AreRightDeeper old new = (deep : ℕ) → AreSizesFrom old deep → AreSizesFrom new (deep + 1)

-- all are known, as what a call adds where calls are followed so deep
pub record AreSizesAt (sizes : Sizes) (deep : ℕ) : Type 0 where
  pub right : (call : tree.Call) (number : ℕ) → number_of sizes.names call.called.text ≡ Some number → (size : Size) × (slice_get sizes.each number ≡ Some (Some size)) × IsSizeOfCall (listed sizes) deep call size

-- this is what a call of a function adds, by the sizes of what it calls
pub record IsSizeOfFunction (sizes : Sizes) (f : Function) (size : Size) : Type 0 where
  pub statements : size.statements ≡ up_to most_statements (counts.of_function (statements_called sizes) (Some f))
  pub nodes : size.nodes ≡ up_to most_nodes (nodes.of_function (nodes_called sizes) (Some f))
  pub depth : size.depth ≡ up_to greatest_depth (depths.of_function (depth_called sizes) (Some f))

-- the first so many functions have sizes here that are made of those that were known
pub record AreNextSizes (sizes : Sizes) (each : List (Option Size)) (count : ℕ) : Type 0 where
  pub places : length each ≡ count
  pub next : (number : ℕ) (f : Function) → number < count → slice_get (listed sizes) number ≡ Some f → (size : Size) × (slice_get each number ≡ Some (Some size)) × IsSizeOfFunction sizes f size

-- this is the size of a statement, where calls are followed as deep as there are functions
pub record IsSizeOfBody (fs : List Function) (s : tree.Statement) (size : Size) : Type 0 where
  pub statements : size.statements ≡ up_to most_statements (counts.of_statement (count_within counts.of_function fs (length fs)) s)
  pub nodes : size.nodes ≡ up_to most_nodes (nodes.of_statement (count_within nodes.of_function fs (length fs)) s)
  pub depth : size.depth ≡ up_to greatest_depth (depths.of_statement (count_within depths.of_function fs (length fs)) s)
