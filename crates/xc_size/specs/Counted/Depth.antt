-- How deep parts of a program are, with all that their calls add, no further than one above the limit.
use Rattle.std.specs.Prelude.{ℕ, List, Option, Some, map, max, option_map}
use Rattle.xc_tree.specs.declared.tree.Arg.{Arg}
use Rattle.xc_tree.specs.declared.tree.At.{At}
use Rattle.xc_tree.specs.declared.tree.Branch.{Branch}
use Rattle.xc_tree.specs.declared.tree.Case.{Case}
use Rattle.xc_tree.specs.declared.tree.DeclKind.{DeclKind}
use Rattle.xc_tree.specs.declared.tree.Declared.{Declared}
use Rattle.xc_tree.specs.declared.tree.Dest.{Dest}
use Rattle.xc_tree.specs.declared.tree.Expr.{Expr}
use Rattle.xc_tree.specs.declared.tree.FuncItem.{FuncItem}
use Rattle.xc_tree.specs.declared.tree.Head.{Head}
use Rattle.xc_tree.specs.declared.tree.Rhs.{Rhs}
use Rattle.xc_tree.specs.declared.tree.Send.{Send}
use Rattle.xc_tree.specs.declared.tree.St.{St}
use Rattle.xc_tree.specs.declared.tree.Stmt.{Stmt}
use Rattle.xc_tree.specs.declared.tree.Timed.{Timed}
use Rattle.xc_tree.specs.declared.tree.When.{When}
use Rattle.xc_kernel.specs.Depths as depths
use Rattle.xc_tree.specs.Depth as depth
use Rattle.xc_tree.specs.Plain as plain
use Rattle.xc_tree.specs.Trees as tree
use Rattle.xc_kernel.specs.Size.{greatest_depth}
use Rattle.xc_size.specs.declared.sizes.Sizes.{Sizes}
use Rattle.xc_size.specs.Functions.{function_of}
use Rattle.xc_size.specs.Sizes.{depth_called, up_to}

abbrev pub of_function : Sizes → FuncItem → ℕ
of_function sizes f = up_to greatest_depth (depths.of_function (depth_called sizes) (Some (function_of f)))

abbrev pub of_expression : Expr → ℕ
of_expression e = up_to greatest_depth (depth.of_expression (tree.expression_of e))

abbrev pub of_expression_if_any : Option Expr → ℕ
of_expression_if_any e = up_to greatest_depth (depth.if_some depth.of_expression (option_map tree.expression_of e))

abbrev pub of_arguments : List Arg → ℕ
of_arguments args = up_to greatest_depth (depth.highest depth.of_argument (map tree.argument_of args))

abbrev pub of_right_side : Sizes → Rhs → ℕ
of_right_side sizes rhs = up_to greatest_depth (depths.of_right (depth_called sizes) (tree.right_of rhs))

abbrev pub of_right_side_if_any : Sizes → Option Rhs → ℕ
of_right_side_if_any sizes rhs = up_to greatest_depth (depth.if_some (depths.of_right (depth_called sizes)) (option_map tree.right_of rhs))

abbrev pub of_timing : Option Timed → ℕ
of_timing time = up_to greatest_depth (depth.if_some depth.of_timing (option_map tree.timing_of time))

abbrev pub of_condition : Option When → ℕ
of_condition cond = up_to greatest_depth (depth.if_some depth.of_condition (option_map tree.condition_of cond))

abbrev pub of_output : Send → ℕ
of_output send = up_to greatest_depth (depth.of_output (tree.output_of send))

abbrev pub of_target : Dest → ℕ
of_target dest = up_to greatest_depth (depth.of_target (tree.target_of dest))

abbrev pub of_stored : Dest → Option Timed → ℕ
of_stored dest stamp = up_to greatest_depth (max (depth.of_target (tree.target_of dest)) (depth.if_some depth.of_timing (option_map tree.timing_of stamp)))

abbrev pub of_input : Head → ℕ
of_input head = up_to greatest_depth (depth.of_input (tree.input_of head))

abbrev pub of_input_if_any : Option Head → ℕ
of_input_if_any head = up_to greatest_depth (depth.if_some depth.of_input (option_map tree.input_of head))

abbrev pub of_place : Option At → ℕ
of_place place = up_to greatest_depth (depth.if_some depth.of_place (option_map tree.place_of place))

abbrev pub of_initial : Sizes → DeclKind → ℕ
of_initial sizes kind = up_to greatest_depth (depths.of_kind (depth_called sizes) (tree.kind_of kind))

abbrev pub of_declaration : Sizes → Declared → ℕ
of_declaration sizes d = up_to greatest_depth (depths.of_declaration (depth_called sizes) (tree.declaration_of d))

abbrev pub of_declarations : Sizes → List Declared → ℕ
of_declarations sizes declared = up_to greatest_depth (depth.highest (depths.of_declaration (depth_called sizes)) (map tree.declaration_of declared))

abbrev pub of_statement : Sizes → Stmt → ℕ
of_statement sizes s = up_to greatest_depth (depths.of_statement (depth_called sizes) (tree.statement_of s))

abbrev pub of_action : Sizes → St → ℕ
of_action sizes kind = up_to greatest_depth (depths.of_action (depth_called sizes) (tree.action_of kind))

abbrev pub of_statement_if_any : Sizes → Option Stmt → ℕ
of_statement_if_any sizes s = up_to greatest_depth (depths.of_maybe (depth_called sizes) (tree.maybe_of s))

abbrev pub of_statements : Sizes → List Stmt → ℕ
of_statements sizes ss = up_to greatest_depth (depths.of_statements (depth_called sizes) (plain.statements (map tree.statement_of ss)))

abbrev pub of_branch : Sizes → Branch → ℕ
of_branch sizes b = up_to greatest_depth (depths.of_branch (depth_called sizes) (tree.branch_of b))

abbrev pub of_branches : Sizes → List Branch → ℕ
of_branches sizes bs = up_to greatest_depth (depths.of_branches (depth_called sizes) (plain.branches (map tree.branch_of bs)))

abbrev pub of_case : Sizes → Case → ℕ
of_case sizes c = up_to greatest_depth (depths.of_case (depth_called sizes) (tree.case_of c))

abbrev pub of_cases : Sizes → List Case → ℕ
of_cases sizes cs = up_to greatest_depth (depths.of_cases (depth_called sizes) (plain.cases (map tree.case_of cs)))
