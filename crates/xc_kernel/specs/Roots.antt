-- The roots: main itself, or where a branch of the `par` in its block is placed, the branches of that `par`.
use Rattle.std.specs.Prelude.{ℕ, zero, suc, ◌+◌, ◌-◌, Bool, true, false, ◌&&◌, ◌||◌, List, [], ◌∷◌, ◌++◌, Option, Some, None, is_some, nat_lt}
use Rattle.xw_words.specs.declared.pos.Pos.{Pos}
use Rattle.xc_tree.specs.Plain as tree
use Rattle.xc_kernel.specs.Plain as kernel
use Rattle.xc_kernel.specs.Numbering.{Numbering}
use Rattle.xc_kernel.specs.Scopes.{Scope, a_constant, with_name}
use Rattle.xc_kernel.specs.Programs.{Function, functions, ports}
use Rattle.xc_kernel.specs.Copy.{Copy, no_copy, joined, in_scope_of, with_code, code_of}
use Rattle.xc_kernel.specs.Context.{Context, in_branch}
use Rattle.xc_kernel.specs.Calls.{CopiesCall, instance_of, function_copy}
use Rattle.xc_kernel.specs.Declarations.{declarations_copy}
use Rattle.xc_kernel.specs.Statements.{pos_of_branch, statement_copy, branch_copy}
use Rattle.xc_kernel.specs.Ports.{core_of, pos_of_place, scope_of_ports}

-- Whether a branch is placed.

abbrev pub is_placed : tree.Branch → Bool
is_placed (tree.branch place s) = is_some place

-- whether some of them is
abbrev pub has_placed : tree.Branches → Bool
has_placed tree.no_branch = false
has_placed (tree.more_branches b bs) = is_placed b || has_placed bs

-- in a `par`; one that is replicated has branches where its first number is below its second
abbrev pub action_has_placed : tree.Action → Bool
action_has_placed (tree.par bs) = has_placed bs
action_has_placed (tree.replicated first second third from until b) = is_placed b && nat_lt from until
action_has_placed other = false

-- Whether a `par` directly in a block has a placed branch. A main with a placed branch has an instance and no result: nothing of its
-- own is ever executed.
abbrev pub block_has_placed : tree.Statements → Bool
block_has_placed tree.no_more = false
block_has_placed (tree.more (tree.statement action pos close own) ss) = action_has_placed action || block_has_placed ss

-- the statements directly in a block
abbrev pub in_block : tree.Statement → tree.Statements
in_block (tree.statement (tree.block ss) pos close own) = ss
in_block other = tree.no_more

-- Roots, and the instances that they make.

pub record Rooted : Type 0 where
  pub made : Copy
  pub roots : List kernel.Root

-- instances without a root
abbrev pub no_roots : Copy → Rooted
no_roots copy = record { made = with_code copy []; roots = [] }

-- roots before others
abbrev pub and_roots : Rooted → Rooted → Rooted
and_roots a b = record { made = joined a.made b.made; roots = a.roots ++ b.roots }

-- roots, and behind them what knows their names
abbrev pub roots_then : Rooted → (Scope → Rooted) → Rooted
roots_then a next = and_roots a (next a.made.scope)

-- a root by the copy of its statement
abbrev pub root_of : (core : ℕ) → (place pos : Pos) → Copy → Rooted
root_of core place pos copy =
    record { made = with_code copy []; roots = record { core = core; place = place; body = code_of copy; pos = pos } ∷ [] }

-- where main stands
abbrev pub context_of : List tree.Item → Numbering → Context
context_of items n = record {
  functions = functions items;
  ports = scope_of_ports 0 (ports items);
  numbering = n;
  core = 0;
  path = [];
  result = [];
  returns = [];
  breaks = [];
  continues = [];
}

-- by how calls are copied
module _ (copies : CopiesCall) where
  -- a branch of main's on its core; what has no place stands at main's name
  abbrev pub branch_root : Pos → tree.Branch → Context → Scope → Rooted
  branch_root main (tree.branch place s) c scope =
      root_of (core_of scope place) (pos_of_place main place) (pos_of_branch (tree.branch place s))
      (branch_copy copies (tree.branch place s) (record c { core = core_of scope place }) scope)

  -- From an index on; a name that one branch declares is known in the later ones. So a name that an input declares in a placed branch
  -- is known in the later ones, as in each plain `par`.
  abbrev pub branch_roots : Pos → tree.Branches → ℕ → Context → Scope → Rooted
  branch_roots main tree.no_branch index c scope = no_roots (no_copy scope)
  branch_roots main (tree.more_branches b bs) index c scope =
      roots_then (branch_root main b (in_branch c index) scope) (branch_roots main bs (index + 1) c)

  -- the scope of a root ends
  abbrev pub root_in_scope_of : Scope → Rooted → Rooted
  root_in_scope_of scope r = record r { made = in_scope_of scope r.made }

  -- so many copies of a branch, in which a name stands for a number, from an index and a number on
  abbrev pub numbered_roots : Pos → tree.Branch → List ℕ → Context → Scope → (count index number : ℕ) → Rooted
  numbered_roots main b name c scope zero index number = no_roots (no_copy scope)
  numbered_roots main b name c scope (suc count) index number =
      and_roots (root_in_scope_of scope (branch_root main b (in_branch c index) (with_name scope name (a_constant number))))
      (numbered_roots main b name c scope count (index + 1) (number + 1))

  -- Main's declarations, and the branches of its `par`. Its `return` is never executed and makes nothing.
  abbrev pub action_roots : Pos → tree.Action → Context → Scope → Rooted
  action_roots main (tree.declare ds) c scope = no_roots (declarations_copy copies c ds scope)
  action_roots main (tree.par bs) c scope = branch_roots main bs 0 c scope
  action_roots main (tree.replicated first second third from until b) c scope =
      numbered_roots main b first.text c scope (until - from) 0 from
  action_roots main other c scope = no_roots (no_copy scope)

  -- of main's block
  abbrev pub block_roots : Pos → tree.Statements → Context → Scope → Rooted
  block_roots main tree.no_more c scope = no_roots (no_copy scope)
  block_roots main (tree.more (tree.statement action pos close own) ss) c scope =
      roots_then (action_roots main action c scope) (block_roots main ss c)

  -- where a branch of main's is placed: main's instance and its branches
  abbrev pub placed_roots : Function → Context → Rooted
  placed_roots f c = and_roots (no_roots (instance_of c f c.ports)) (block_roots f.head.name.pos (in_block f.body) c c.ports)

  -- else main, by the empty path
  abbrev pub main_root : Function → Context → Rooted
  main_root f c = root_of 0 f.head.name.pos f.head.name.pos (function_copy (statement_copy copies) c c.ports [] f [])

  -- `roots_of`, by cases
  abbrev pub roots_by : Bool → Function → Context → Rooted
  roots_by true f c = placed_roots f c
  roots_by false f c = main_root f c

  -- the roots of a program by its main, where that is there
  abbrev pub roots_of : Option Function → Context → Rooted
  roots_of None c = no_roots (no_copy c.ports)
  roots_of (Some f) c = roots_by (block_has_placed (in_block f.body)) f c
