-- The branches of a `par`.
use Rattle.std.specs.Prelude.{ℕ, zero, suc, ◌+◌, List, [], ◌∷◌}
use Rattle.xc_tree.specs.Plain as tree
use Rattle.xc_kernel.specs.Scopes.{Scope, a_constant, with_name}
use Rattle.xc_kernel.specs.Context.{Context, in_branch}
use Rattle.xc_meaning.specs.States.Items.{ends}
use Rattle.xc_meaning.specs.Settings.Par.{Begun}
use Rattle.xc_meaning.specs.Texts.Copied.{behind_branch, code_in}
use Rattle.xc_meaning.specs.Texts.Items.{statement_items}

-- a statement that a branch of its own does
abbrev pub statement_begun : tree.Statement → Context → Scope → Begun
statement_begun s c scope = record { items = statement_items s c scope (ends ∷ []); code = code_in s c scope }

abbrev pub branch_begun : tree.Branch → Context → Scope → Begun
branch_begun (tree.branch place s) c scope = statement_begun s c scope

-- branches from an index on; a name that one declares is known in the later ones
abbrev pub branches_begun : tree.Branches → (index : ℕ) → Context → Scope → List Begun
branches_begun tree.no_branch index c scope = []
branches_begun (tree.more_branches b bs) index c scope =
    branch_begun b (in_branch c index) scope ∷ branches_begun bs (index + 1) c (behind_branch b (in_branch c index) scope)

-- so many copies of a branch, in which a name stands for a number, from an index and a number on
abbrev pub copies_begun : tree.Branch → (name : List ℕ) → Context → Scope → (count index number : ℕ) → List Begun
copies_begun b name c scope zero index number = []
copies_begun b name c scope (suc count) index number =
    branch_begun b (in_branch c index) (with_name scope name (a_constant number))
    ∷ copies_begun b name c scope count (index + 1) (number + 1)
