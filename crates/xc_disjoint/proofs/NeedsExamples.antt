-- Texts and what their kernels need, worked out by hand.
use Rattle.std.specs.Prelude.{◌≡◌, ℕ, false, List, [], ◌∷◌, Option, Some, None, refl, codes}
use Rattle.xw_words.specs.declared.pos.Broken.{Broken}
use Rattle.xc_tree.specs.Plain as tree
use Rattle.xc_kernel.specs.declared.statement.KRes.TheVariants.{Chan}
use Rattle.xc_kernel.specs.Plain as kernel
use Rattle.xc_kernel.specs.Copies.{copy_of}
use Rattle.xc_kernel.proofs.Written.{at, id, number, name, result, branch, par, put, take, root, channel}
use Rattle.xc_kernel.proofs.BranchExamples.{placed, numbered}
use Rattle.xc_disjoint.specs.Needs.{threads_on, ends_on, timers_on, words_on}
use Rattle.xc_disjoint.specs.Places.{rule_of_use, first_in_roots}

-- what a core needs: threads, channel ends, timers, words
pub record Needed : Type 0 where
  pub threads : ℕ
  pub ends : ℕ
  pub timers : ℕ
  pub words : ℕ

abbrev needed : (threads ends timers words : ℕ) → Needed
needed t e n w = record { threads = t; ends = e; timers = n; words = w }

abbrev needed_on : kernel.Kernel → ℕ → Needed
needed_on k core = needed (threads_on k core) (ends_on k core) (timers_on k core) (words_on k core)

-- the first use of a port on another core
abbrev first_elsewhere : kernel.Kernel → Option Broken
first_elsewhere k = first_in_roots k.ports None k.roots

-- on tile[1] : out port p = XS1_PORT_1A;
-- void feed(chanend c, int n) { timer t; c <: n; }
-- int main(void) { chan c; par { feed(c, 4); on tile[1] : c :> int x; on stdcore[4 - 1] : p <: x; } return 0; }
--
-- Main's instance and that of `feed` with its two parameters need 4 and 6 words on core 0; x is on core 1. The sides of the
-- channel are the first two branches. The third uses the port of core 1.

of_core_0 : needed_on (copy_of placed) 0 ≡ needed 1 1 1 522
unfolding copy_of
of_core_0 = refl

of_core_1 : needed_on (copy_of placed) 1 ≡ needed 1 1 0 513
unfolding copy_of
of_core_1 = refl

of_core_2 : needed_on (copy_of placed) 2 ≡ needed 0 0 0 0
unfolding copy_of
of_core_2 = refl

of_core_3 : needed_on (copy_of placed) 3 ≡ needed 1 0 0 512
unfolding copy_of
of_core_3 = refl

of_port : first_elsewhere (copy_of placed) ≡ Some (record { rule = 706; pos = at 3 89 })
unfolding copy_of rule_of_use
of_port = refl

-- int main(void) { par (int i = 0; i < 9; i++) { int x; x = i; } return 0; }
abbrev counted : (branches : ℕ) → List tree.Item
counted n =
    (tree.function (record { result = Some false; name = id (codes "main") 1 5; params = []; own = 5 })
    (tree.statement (tree.block (tree.statements (
    (tree.statement (tree.replicated (id (codes "i") 1 27) (id (codes "i") 1 34) (id (codes "i") 1 41) 0 n
    (tree.branch None (tree.statement (tree.block (tree.statements (
    (tree.statement (tree.declare ((record { kind = (tree.word false None); name = id (codes "x") 1 52 }) ∷ [])) (at 1 48) (at 1 53) 3)
    ∷ (tree.statement (tree.assign (name (codes "x") 1 55) 22 (at 1 57) (tree.value (name (codes "i") 1 59))) (at 1 55) (at 1 60) 4)
    ∷ []))) (at 1 46) (at 1 62) 2))) (at 1 18) (at 1 62) 14)
    ∷ (tree.statement (tree.return_with (Some (tree.value (number 0 false 1 71)))) (at 1 64) (at 1 72) 3)
    ∷ []))) (at 1 16) (at 1 74) 2))
    ∷ []

-- nine threads with their stacks, a variable in each branch, main's instance
of_nine : needed_on (copy_of (counted 9)) 0 ≡ needed 9 0 0 4621
unfolding copy_of
of_nine = refl

of_eight : needed_on (copy_of (counted 8)) 0 ≡ needed 8 0 0 4108
unfolding copy_of
of_eight = refl

-- without copies a `par` needs a thread all the same
of_none : needed_on (copy_of (counted 0)) 0 ≡ needed 1 0 0 516
unfolding copy_of
of_none = refl

-- int main(void) { par (unsigned i = 1; i < 3; i++) on stdcore[i] : { unsigned x = i & 2; } }

of_numbered_0 : needed_on (copy_of numbered) 0 ≡ needed 0 0 0 4
unfolding copy_of
of_numbered_0 = refl

of_numbered_2 : needed_on (copy_of numbered) 2 ≡ needed 1 0 0 513
unfolding copy_of
of_numbered_2 = refl

-- void f0(void) { int x; x = 1; }, and functions that each call the one before three times; main calls the last

abbrev function : List ℕ → List tree.Statement → tree.Item
function n ss = tree.function (record { result = None; name = id n 1 6; params = []; own = 5 }) (tree.statement (tree.block (tree.statements ss)) (at 1 15) (at 1 99) 2)

abbrev calls : List ℕ → (line column : ℕ) → tree.Statement
calls n l c = tree.statement (tree.perform (result (id n l c) [])) (at l c) (at l c) 4

abbrev three_calls : List ℕ → (line : ℕ) → List tree.Statement
three_calls n l = calls n l 20 ∷ calls n l 26 ∷ calls n l 32 ∷ []

abbrev copies : List tree.Item
copies =
    function (codes "f0") (
    (tree.statement (tree.declare ((record { kind = (tree.word false None); name = id (codes "x") 1 21 }) ∷ [])) (at 1 17) (at 1 22) 3)
    ∷ (tree.statement (tree.assign (name (codes "x") 1 24) 22 (at 1 26) (tree.value (number 1 false 1 28))) (at 1 24) (at 1 29) 4)
    ∷ [])
    ∷ function (codes "f1") (three_calls (codes "f0") 2)
    ∷ function (codes "f2") (three_calls (codes "f1") 3)
    ∷ function (codes "main") (calls (codes "f2") 4 20 ∷ [])
    ∷ []

-- 1 + 1 + 3 + 9 instances with 4 words each, 9 variables, one stack
of_copies : needed_on (copy_of copies) 0 ≡ needed 1 0 0 577
unfolding copy_of
of_copies = refl

-- Channels: which `par` has the sides.

abbrev with_roots : List kernel.Root → kernel.Kernel
with_roots roots = record {
  roots = roots;
  variables = [];
  channels = channel (0 ∷ []) 1 1 ∷ channel (1 ∷ []) 1 2 ∷ [];
  timers = [];
  ports = [];
  instances = [];
  main = at 1 5;
}

-- an output and an input on a channel
abbrev gives : ℕ → kernel.Statement
gives c = put (Chan c) (kernel.number 0) 2 1

abbrev takes : ℕ → kernel.Statement
takes c = take (Chan c) None 2 2

-- the ends on the cores 0 and 1
abbrev ends_of : List kernel.Root → List ℕ
ends_of roots = ends_on (with_roots roots) 0 ∷ ends_on (with_roots roots) 1 ∷ []

abbrev alone : List kernel.Statement → List kernel.Root
alone ss = root 0 (at 1 5) ss 1 5 ∷ []

abbrev branches : List kernel.Statement → List kernel.Branch
branches [] = []
branches (s ∷ ss) = branch (s ∷ []) 2 9 ∷ branches ss

of_two_branches : ends_of (alone (par (branches (gives 0 ∷ takes 0 ∷ [])) ∷ [])) ≡ 2 ∷ 0 ∷ []
of_two_branches = refl

of_two_channels : ends_of (alone (par (branches (gives 0 ∷ takes 0 ∷ gives 1 ∷ takes 1 ∷ [])) ∷ [])) ≡ 4 ∷ 0 ∷ []
of_two_channels = refl

-- in an inner `par` that holds all uses
of_inner : ends_of (alone (par (branches (par (branches (gives 0 ∷ takes 0 ∷ [])) ∷ gives 1 ∷ [])) ∷ [])) ≡ 2 ∷ 0 ∷ []
of_inner = refl

-- The outer `par` holds all uses, in two branches, of which one has two of its own.
of_outer : ends_of (alone (par (branches (par (branches (gives 0 ∷ takes 0 ∷ [])) ∷ gives 0 ∷ [])) ∷ [])) ≡ 2 ∷ 0 ∷ []
of_outer = refl

of_three_branches : ends_of (alone (par (branches (gives 0 ∷ takes 0 ∷ gives 0 ∷ [])) ∷ [])) ≡ 0 ∷ 0 ∷ []
of_three_branches = refl

of_one_branch : ends_of (alone (par (branches (gives 0 ∷ [])) ∷ [])) ≡ 0 ∷ 0 ∷ []
of_one_branch = refl

-- a use behind the `par`
of_use_behind : ends_of (alone (par (branches (gives 0 ∷ takes 0 ∷ [])) ∷ gives 0 ∷ [])) ≡ 0 ∷ 0 ∷ []
of_use_behind = refl

of_two_pars : ends_of (alone (par (branches (gives 0 ∷ takes 0 ∷ [])) ∷ par (branches (gives 0 ∷ takes 0 ∷ [])) ∷ [])) ≡ 0 ∷ 0 ∷ []
of_two_pars = refl

-- roots on two cores, and on one
of_two_roots : ends_of (root 0 (at 1 5) (gives 0 ∷ gives 0 ∷ []) 1 5 ∷ root 1 (at 1 5) (takes 0 ∷ []) 1 5 ∷ []) ≡ 1 ∷ 1 ∷ []
of_two_roots = refl

of_one_core : ends_of (root 1 (at 1 5) (gives 0 ∷ []) 1 5 ∷ root 1 (at 1 5) (takes 0 ∷ []) 1 5 ∷ []) ≡ 0 ∷ 2 ∷ []
of_one_core = refl

of_three_roots : ends_of (root 0 (at 1 5) (gives 0 ∷ []) 1 5 ∷ root 1 (at 1 5) (takes 0 ∷ []) 1 5 ∷ root 2 (at 1 5) (takes 0 ∷ []) 1 5 ∷ []) ≡ 0 ∷ 0 ∷ []
of_three_roots = refl

-- a root whose place gives no core has the other side
of_no_core : ends_of (root 255 (at 1 5) (gives 0 ∷ []) 1 5 ∷ root 1 (at 1 5) (takes 0 ∷ []) 1 5 ∷ []) ≡ 0 ∷ 1 ∷ []
of_no_core = refl
