-- The instances of a program's roots don't depend on the numbers that stand in their statements.
use Rattle.std.proofs.Common.{length, ◌≡◌, ℕ, zero, suc, ◌+◌, ◌-◌, Bool, true, false, List, [], Option, Some, None, subst}
use Rattle.xw_words.specs.declared.pos.Pos.{Pos}
use Rattle.xc_tree.specs.Plain as tree
use Rattle.xc_kernel.specs.Numbering.{Numbering, numbering_of, no_numbering}
use Rattle.xc_kernel.specs.Scopes.{Scope, a_constant, with_name}
use Rattle.xc_kernel.specs.Programs.{Function, functions, main_of}
use Rattle.xc_kernel.specs.Copy.{no_copy, numbering_in}
use Rattle.xc_kernel.specs.Context.{Context, in_branch}
use Rattle.xc_kernel.specs.Calls.{CopiesCall, instance_of}
use Rattle.xc_kernel.specs.Ports.{core_of}
use Rattle.xc_kernel.specs.Roots.{branch_root, branch_roots, numbered_roots, action_roots, block_roots, block_has_placed, in_block, roots_by, roots_of, context_of}
use Rattle.xc_kernel.specs.Copies.{calls_of, rooted, numbering}
use Rattle.xc_kernel.proofs.Instances.{SameInstances, as_it_is, same_coded, same_joined, same_scoped, renumbered, same_of_branch, same_declarations, same_function, calls_are_blind, IsBlind}

module _ (copies : CopiesCall) (blind : IsBlind copies) (main : Pos) (n m : Numbering) where
  same_branch : (b : tree.Branch) (c : Context) (scope : Scope) → SameInstances (branch_root copies main b (renumbered c n) scope).made (branch_root copies main b (renumbered c m) scope).made
  same_branch (tree.branch place s) c scope =
      same_coded [] [] (same_of_branch copies blind n m (tree.branch place s) (record c { core = core_of scope place }) scope)

  same_branches : (bs : tree.Branches) (index : ℕ) (c : Context) (scope : Scope) → SameInstances (branch_roots copies main bs index (renumbered c n) scope).made (branch_roots copies main bs index (renumbered c m) scope).made
  same_branches tree.no_branch index c scope = as_it_is (no_copy scope) [] []
  same_branches (tree.more_branches b bs) index c scope =
      let first = same_branch b (in_branch c index) scope in
      same_joined first
      (subst (λ inner. SameInstances (branch_roots copies main bs (index + 1) (renumbered c n) (branch_root copies main b (in_branch (renumbered c n) index) scope).made.scope).made (branch_roots copies main bs (index + 1) (renumbered c m) inner).made) first.scope
      (same_branches bs (index + 1) c (branch_root copies main b (in_branch (renumbered c n) index) scope).made.scope))

  same_numbered : (b : tree.Branch) (name : List ℕ) (c : Context) (scope : Scope) (count index number : ℕ) → SameInstances (numbered_roots copies main b name (renumbered c n) scope count index number).made (numbered_roots copies main b name (renumbered c m) scope count index number).made
  same_numbered b name c scope zero index number = as_it_is (no_copy scope) [] []
  same_numbered b name c scope (suc count) index number =
      same_joined (same_scoped scope (same_branch b (in_branch c index) (with_name scope name (a_constant number))))
      (same_numbered b name c scope count (index + 1) (number + 1))

  same_action : (a : tree.Action) (c : Context) (scope : Scope) → SameInstances (action_roots copies main a (renumbered c n) scope).made (action_roots copies main a (renumbered c m) scope).made
  same_action (tree.declare ds) c scope = same_coded [] [] (same_declarations copies blind n m c ds scope)
  same_action (tree.par bs) c scope = same_branches bs 0 c scope
  same_action (tree.replicated first second third from until b) c scope = same_numbered b first.text c scope (until - from) 0 from
  same_action tree.empty c scope = as_it_is (no_copy scope) [] []
  same_action (tree.block ss) c scope = as_it_is (no_copy scope) [] []
  same_action (tree.assign to symbol at r) c scope = as_it_is (no_copy scope) [] []
  same_action (tree.step to symbol) c scope = as_it_is (no_copy scope) [] []
  same_action (tree.perform r) c scope = as_it_is (no_copy scope) [] []
  same_action (tree.output o) c scope = as_it_is (no_copy scope) [] []
  same_action (tree.input i) c scope = as_it_is (no_copy scope) [] []
  same_action (tree.if_then test a b) c scope = as_it_is (no_copy scope) [] []
  same_action (tree.while_loop test body) c scope = as_it_is (no_copy scope) [] []
  same_action (tree.do_while body test) c scope = as_it_is (no_copy scope) [] []
  same_action (tree.for_loop first test next body) c scope = as_it_is (no_copy scope) [] []
  same_action (tree.return_with r) c scope = as_it_is (no_copy scope) [] []
  same_action tree.break_out c scope = as_it_is (no_copy scope) [] []
  same_action tree.continue_on c scope = as_it_is (no_copy scope) [] []
  same_action (tree.select cs) c scope = as_it_is (no_copy scope) [] []
  same_action (tree.transaction is_master ss) c scope = as_it_is (no_copy scope) [] []

  same_block : (ss : tree.Statements) (c : Context) (scope : Scope) → SameInstances (block_roots copies main ss (renumbered c n) scope).made (block_roots copies main ss (renumbered c m) scope).made
  same_block tree.no_more c scope = as_it_is (no_copy scope) [] []
  same_block (tree.more (tree.statement action pos close own) ss) c scope =
      let first = same_action action c scope in
      same_joined first
      (subst (λ inner. SameInstances (block_roots copies main ss (renumbered c n) (action_roots copies main action (renumbered c n) scope).made.scope).made (block_roots copies main ss (renumbered c m) inner).made) first.scope
      (same_block ss c (action_roots copies main action (renumbered c n) scope).made.scope))

same_by : (copies : CopiesCall) → IsBlind copies → (n m : Numbering) (placed : Bool) (f : Function) (c : Context) → SameInstances (roots_by copies placed f (renumbered c n)).made (roots_by copies placed f (renumbered c m)).made
same_by copies blind n m true f c = same_joined (as_it_is (instance_of c f c.ports) [] []) (same_block copies blind f.head.name.pos n m (in_block f.body) c c.ports)
same_by copies blind n m false f c = same_coded [] [] (same_function copies blind n m c c.ports [] f [])

same_roots : (copies : CopiesCall) → IsBlind copies → (n m : Numbering) (f : Option Function) (c : Context) → SameInstances (roots_of copies f (renumbered c n)).made (roots_of copies f (renumbered c m)).made
same_roots copies blind n m None c = as_it_is (no_copy c.ports) [] []
same_roots copies blind n m (Some f) c = same_by copies blind n m (block_has_placed (in_block f.body)) f c

-- of a program, by any two numberings
pub same_rooted : (items : List tree.Item) (n m : Numbering) → SameInstances (rooted items n).made (rooted items m).made
same_rooted items n m = same_roots (calls_of items) (calls_are_blind (length (functions items))) n m (main_of items) (context_of items no_numbering)

-- the numbering of a program is that of its instances, whatever numbers stand in its statements
pub numbering_is_own : (items : List tree.Item) (n : Numbering) → numbering_in (rooted items n).made ≡ numbering items
numbering_is_own items n =
    let same = same_rooted items n no_numbering in
    λ i. numbering_of (same.variables i) (same.channels i) (same.timers i) (same.blocks i)
