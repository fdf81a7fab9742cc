-- How many statements parts of a program have, with all that their calls add, no further than one above the limit.
use Rattle.std.specs.Prelude.{ℕ, List, Option, Some, map, option_map, sum_by}
use Rattle.xc_tree.specs.declared.tree.Branch.{Branch}
use Rattle.xc_tree.specs.declared.tree.Case.{Case}
use Rattle.xc_tree.specs.declared.tree.DeclKind.{DeclKind}
use Rattle.xc_tree.specs.declared.tree.Declared.{Declared}
use Rattle.xc_tree.specs.declared.tree.FuncItem.{FuncItem}
use Rattle.xc_tree.specs.declared.tree.Rhs.{Rhs}
use Rattle.xc_tree.specs.declared.tree.St.{St}
use Rattle.xc_tree.specs.declared.tree.Stmt.{Stmt}
use Rattle.xc_kernel.specs.Counts as counts
use Rattle.xc_tree.specs.Depth as depth
use Rattle.xc_tree.specs.Plain as plain
use Rattle.xc_tree.specs.Trees as tree
use Rattle.xc_kernel.specs.Size.{most_statements}
use Rattle.xc_size.specs.declared.sizes.Sizes.{Sizes}
use Rattle.xc_size.specs.Functions.{function_of}
use Rattle.xc_size.specs.Sizes.{statements_called, up_to}

abbrev pub of_function : Sizes → FuncItem → ℕ
of_function sizes f = up_to most_statements (counts.of_function (statements_called sizes) (Some (function_of f)))

abbrev pub of_right_side : Sizes → Rhs → ℕ
of_right_side sizes rhs = up_to most_statements (counts.of_right (statements_called sizes) (tree.right_of rhs))

abbrev pub of_right_side_if_any : Sizes → Option Rhs → ℕ
of_right_side_if_any sizes rhs = up_to most_statements (depth.if_some (counts.of_right (statements_called sizes)) (option_map tree.right_of rhs))

abbrev pub of_initial : Sizes → DeclKind → ℕ
of_initial sizes kind = up_to most_statements (counts.of_kind (statements_called sizes) (tree.kind_of kind))

abbrev pub of_declaration : Sizes → Declared → ℕ
of_declaration sizes d = up_to most_statements (counts.of_declaration (statements_called sizes) (tree.declaration_of d))

abbrev pub of_declarations : Sizes → List Declared → ℕ
of_declarations sizes declared = up_to most_statements (sum_by (counts.of_declaration (statements_called sizes)) (map tree.declaration_of declared))

abbrev pub of_statement : Sizes → Stmt → ℕ
of_statement sizes s = up_to most_statements (counts.of_statement (statements_called sizes) (tree.statement_of s))

abbrev pub of_action : Sizes → St → ℕ
of_action sizes kind = up_to most_statements (counts.of_action (statements_called sizes) (tree.action_of kind))

abbrev pub of_statement_if_any : Sizes → Option Stmt → ℕ
of_statement_if_any sizes s = up_to most_statements (counts.of_maybe (statements_called sizes) (tree.maybe_of s))

abbrev pub of_statements : Sizes → List Stmt → ℕ
of_statements sizes ss = up_to most_statements (counts.of_statements (statements_called sizes) (plain.statements (map tree.statement_of ss)))

abbrev pub of_branch : Sizes → Branch → ℕ
of_branch sizes b = up_to most_statements (counts.of_branch (statements_called sizes) (tree.branch_of b))

abbrev pub of_branches : Sizes → List Branch → ℕ
of_branches sizes bs = up_to most_statements (counts.of_branches (statements_called sizes) (plain.branches (map tree.branch_of bs)))

abbrev pub of_case : Sizes → Case → ℕ
of_case sizes c = up_to most_statements (counts.of_case (statements_called sizes) (tree.case_of c))

abbrev pub of_cases : Sizes → List Case → ℕ
of_cases sizes cs = up_to most_statements (counts.of_cases (statements_called sizes) (plain.cases (map tree.case_of cs)))
