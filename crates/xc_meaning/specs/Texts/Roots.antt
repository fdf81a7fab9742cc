-- The roots of a text: main itself, or where a branch of the `par` in its block is placed, the branches of that `par`.
use Rattle.std.specs.Prelude.{ℕ, zero, suc, ◌+◌, ◌-◌, Bool, true, false, List, [], ◌∷◌, ◌++◌, Option, Some, None}
use Rattle.xw_words.specs.declared.pos.Pos.{Pos}
use Rattle.xc_tree.specs.Plain as tree
use Rattle.xc_kernel.specs.Scopes.{Scope, a_constant, with_name}
use Rattle.xc_kernel.specs.Programs.{Function, main_of}
use Rattle.xc_kernel.specs.Copy.{code_of}
use Rattle.xc_kernel.specs.Context.{Context, in_branch, in_function}
use Rattle.xc_kernel.specs.Calls.{function_copy, result_copy}
use Rattle.xc_kernel.specs.Statements.{statement_copy}
use Rattle.xc_kernel.specs.Ports.{core_of}
use Rattle.xc_kernel.specs.Roots as copied
use Rattle.xc_kernel.specs.Roots.{context_of, block_has_placed, in_block}
use Rattle.xc_kernel.specs.Paths.{path_at}
use Rattle.xc_kernel.specs.Copies.{numbering}
use Rattle.xc_meaning.specs.States.Items.{ends, todo}
use Rattle.xc_meaning.specs.Settings.Par.{Begun}
use Rattle.xc_meaning.specs.Texts.Copied.{calls_in}
use Rattle.xc_meaning.specs.Texts.Items.{body_item}
use Rattle.xc_meaning.specs.Texts.Par.{statement_begun}

-- a branch that runs from the start, on its core
pub record Root : Type 0 where
  pub core : ℕ
  pub begun : Begun

-- a branch of main's on its core
abbrev pub branch_root : tree.Branch → Context → Scope → Root
branch_root (tree.branch place s) c scope =
    record { core = core_of scope place; begun = statement_begun s (record c { core = core_of scope place }) scope }

-- the names that are known behind such a branch
abbrev pub behind_root : (main : Pos) → tree.Branch → Context → Scope → Scope
behind_root main b c scope = (copied.branch_root (calls_in c) main b c scope).made.scope

-- from an index on; a name that one branch declares is known in the later ones
abbrev pub branch_roots : (main : Pos) → tree.Branches → (index : ℕ) → Context → Scope → List Root
branch_roots main tree.no_branch index c scope = []
branch_roots main (tree.more_branches b bs) index c scope =
    branch_root b (in_branch c index) scope ∷ branch_roots main bs (index + 1) c (behind_root main b (in_branch c index) scope)

-- so many copies of a branch, in which a name stands for a number, from an index and a number on
abbrev pub numbered_roots : tree.Branch → (name : List ℕ) → Context → Scope → (count index number : ℕ) → List Root
numbered_roots b name c scope zero index number = []
numbered_roots b name c scope (suc count) index number =
    branch_root b (in_branch c index) (with_name scope name (a_constant number))
    ∷ numbered_roots b name c scope count (index + 1) (number + 1)

-- a statement in main's block makes the branches of its `par`
abbrev pub action_roots : (main : Pos) → tree.Action → Context → Scope → List Root
action_roots main (tree.par bs) c scope = branch_roots main bs 0 c scope
action_roots main (tree.replicated first second third from until b) c scope = numbered_roots b first.text c scope (until - from) 0 from
action_roots main other c scope = []

-- the names that main's branches know behind such a statement
abbrev pub behind_action : (main : Pos) → tree.Action → Context → Scope → Scope
behind_action main action c scope = (copied.action_roots (calls_in c) main action c scope).made.scope

abbrev pub block_roots : (main : Pos) → tree.Statements → Context → Scope → List Root
block_roots main tree.no_more c scope = []
block_roots main (tree.more (tree.statement action pos close own) ss) c scope =
    action_roots main action c scope ++ block_roots main ss c (behind_action main action c scope)

-- Main itself begins as a call of it does: its result becomes 0, and then its body is done. It has no parameters.
abbrev pub main_begun : Function → Context → Begun
main_begun f c = record {
  items =
      todo (code_of (result_copy c (path_at [] f.head.name.pos) f.head.name.pos c.ports f.head.result))
      (body_item [] f.body (in_function c [] f) c.ports ∷ ends ∷ []);
  code = code_of (function_copy (statement_copy (calls_in c)) c c.ports [] f []);
}

abbrev pub roots_by : Bool → Function → Context → List Root
roots_by true f c = block_roots f.head.name.pos (in_block f.body) c c.ports
roots_by false f c = record { core = 0; begun = main_begun f c } ∷ []

abbrev pub roots_of : Option Function → Context → List Root
roots_of None c = []
roots_of (Some f) c = roots_by (block_has_placed (in_block f.body)) f c

-- the roots of a program
abbrev pub program_roots : List tree.Item → List Root
program_roots items = roots_of (main_of items) (context_of items (numbering items))
