-- Programs whose statements, nodes and depth, which a rule bounds, were worked out by hand.
use Rattle.std.proofs.Common.{inr, arith}
use Rattle.std.specs.Prelude.{◌≡◌, ℕ, zero, suc, ◌+◌, false, List, [], ◌∷◌, replicate, Some, None, refl, codes}
use Rattle.xc_tree.specs.Plain as tree
use Rattle.xc_kernel.specs.Counts.{statements_of}
use Rattle.xc_kernel.specs.Nodes.{nodes_of}
use Rattle.xc_kernel.specs.Depths.{depth_of}
use Rattle.xc_kernel.specs.Size.{Breaks509}
use Rattle.xc_kernel.proofs.CallExamples.{parameters, results}
use Rattle.xc_kernel.proofs.BranchExamples.{placed, numbered, no_branch}
use Rattle.xc_kernel.proofs.FlowExamples.{cases, transaction}
use Rattle.xc_kernel.proofs.Written.{at, id, number, name, binary, result}

abbrev statement : tree.Action → tree.Statement
statement action = tree.statement action (at 1 1) (at 1 1) 1

-- a `void` function without parameters
abbrev function : List ℕ → List tree.Statement → tree.Item
function text ss =
    tree.function (record { result = None; name = id text 1 1; params = []; own = 5 }) (statement (tree.block (tree.statements ss)))

abbrev call : List ℕ → tree.Statement
call text = statement (tree.perform (result (id text 1 1) []))

abbrev number_1 : tree.Expression
number_1 = number 1 false 1 1

-- `int main(void) { text(); return 0; }`
abbrev main : List ℕ → tree.Item
main text = function (codes "main") (call text ∷ statement (tree.return_with (Some (tree.value (number 0 false 1 1)))) ∷ [])

-- the name of a function by its number
abbrev f : ℕ → List ℕ
f n = 102 ∷ n ∷ []

-- `void f0(void) { int x; x = e; }`
abbrev f0 : tree.Expression → tree.Item
f0 e =
    function (f 0)
    (statement (tree.declare (record { kind = tree.word false None; name = id (codes "x") 1 1 } ∷ []))
    ∷ statement (tree.assign (name (codes "x") 1 1) 22 (at 1 1) (tree.value e))
    ∷ [])

-- a function that calls the one before it so many times
abbrev calls_before : (times number : ℕ) → tree.Item
calls_before times n = function (f (n + 1)) (replicate times (call (f n)))

-- f1 to f5, each of which calls the one before it ten times, and a main that calls one of the six
abbrev tens : tree.Expression → ℕ → List tree.Item
tens e n = f0 e ∷ calls_before 10 0 ∷ calls_before 10 1 ∷ calls_before 10 2 ∷ calls_before 10 3 ∷ calls_before 10 4 ∷ main (f n) ∷ []

-- 1 + 1 + .. with so many `+`
abbrev ones : ℕ → tree.Expression
ones zero = number_1
ones (suc n) = binary 15 (ones n) number_1 1 1

-- f0 counts 2, a call of it 3; each further function counts ten times the call before it, and a call 1 more
tens_of_3 : statements_of (tens number_1 3) ≡ 3112
unfolding statements_of
tens_of_3 = refl

tens_of_4 : statements_of (tens number_1 4) ≡ 31112
unfolding statements_of
tens_of_4 = refl

-- 300 nodes in each of 1,000 copies of f0, and one in main
nodes_of_3 : nodes_of (tens (ones 149) 3) ≡ 300001
unfolding nodes_of
nodes_of_3 = refl

-- a block, a call, and below the call a block again; at the end an assignment and a number
depth_of_3 : depth_of (tens number_1 3) ≡ 11
unfolding depth_of
depth_of_3 = refl

tens_of_5 : statements_of (tens number_1 5) ≡ 311112
unfolding statements_of
tens_of_5 = refl

nodes_of_4 : nodes_of (tens (ones 149) 4) ≡ 3000001
unfolding nodes_of
nodes_of_4 = refl

-- f0 is empty, and each further function calls the one before it once
abbrev chain : ℕ → List tree.Item
chain zero = function (f 0) [] ∷ []
chain (suc n) = calls_before 1 n ∷ chain n

abbrev chain_of : ℕ → List tree.Item
chain_of n = main (f n) ∷ chain n

depth_of_498 : depth_of (chain_of 498) ≡ 999
unfolding depth_of
depth_of_498 = refl

depth_of_499 : depth_of (chain_of 499) ≡ 1001
unfolding depth_of
depth_of_499 = refl

-- so it breaks the rule, at main's name
too_deep : Breaks509 (chain_of 499) (record { rule = 509; pos = at 1 1 })
too_deep = record { too_large = inr (inr (rw depth_of_499 (omega arith))); rule = refl; place = refl }

-- the texts of the other examples: their statements, nodes and depth

abbrev counts_of : List tree.Item → ℕ × ℕ × ℕ
counts_of items = (statements_of items, nodes_of items, depth_of items)

-- the call counts 1, its six parameters and the four statements of `all`; a name that an input declares counts nothing
parameters_count : counts_of parameters ≡ (20, 17, 7)
unfolding statements_of nodes_of depth_of
parameters_count = refl

results_count : counts_of results ≡ (23, 22, 8)
unfolding statements_of nodes_of depth_of
results_count = refl

-- the `select` counts 1, its cases 1 each
cases_count : counts_of cases ≡ (16, 18, 7)
unfolding statements_of nodes_of depth_of
cases_count = refl

-- a transaction counts 2
transaction_count : counts_of transaction ≡ (25, 6, 10)
unfolding statements_of nodes_of depth_of
transaction_count = refl

-- with the branches' places, and with main's `return`
placed_count : counts_of placed ≡ (13, 9, 6)
unfolding statements_of nodes_of depth_of
placed_count = refl

-- each copy with its place
numbered_count : counts_of numbered ≡ (5, 8, 6)
unfolding statements_of nodes_of depth_of
numbered_count = refl

-- no copy, but its statement is as deep as it stands
no_branch_count : counts_of no_branch ≡ (1, 0, 4)
unfolding statements_of nodes_of depth_of
no_branch_count = refl

-- `par { on tile[1 + 1 + 1] : ; }`: the place is deeper than the statement
abbrev deep_place : List tree.Item
deep_place =
    function (codes "main")
    (statement (tree.par (tree.branches (tree.branch (Some (record { on = at 1 1; first = at 1 1; value = ones 2 })) (statement tree.empty) ∷ []))) ∷ [])
    ∷ []

deep_place_count : counts_of deep_place ≡ (2, 5, 5)
unfolding statements_of nodes_of depth_of
deep_place_count = refl
