-- What stands in parts of a program as the code has them.
use Rattle.std.specs.Prelude.{ℕ, List, Option, map, option_map}
use Rattle.xw_words.specs.declared.pos.Pos.{Pos}
use Rattle.xc_tree.specs.declared.names.Mark.{Mark}
use Rattle.xc_tree.specs.declared.names.Mark.TheVariants.{Calls}
use Rattle.xc_tree.specs.declared.names.What.{What}
use Rattle.xc_tree.specs.declared.tree.Arg.{Arg}
use Rattle.xc_tree.specs.declared.tree.At.{At}
use Rattle.xc_tree.specs.declared.tree.Branch.{Branch}
use Rattle.xc_tree.specs.declared.tree.Case.{Case}
use Rattle.xc_tree.specs.declared.tree.Declared.{Declared}
use Rattle.xc_tree.specs.declared.tree.Expr.{Expr}
use Rattle.xc_tree.specs.declared.tree.FuncItem.{FuncItem}
use Rattle.xc_tree.specs.declared.tree.Head.{Head}
use Rattle.xc_tree.specs.declared.tree.PortItem.{PortItem}
use Rattle.xc_tree.specs.declared.tree.Rhs.{Rhs}
use Rattle.xc_tree.specs.declared.tree.Stmt.{Stmt}
use Rattle.xc_tree.specs.declared.tree.Timed.{Timed}
use Rattle.xc_tree.specs.declared.tree.When.{When}
use Rattle.xc_tree.specs.Names.Marks as marks
use Rattle.xc_tree.specs.Plain as plain
use Rattle.xc_tree.specs.Trees as tree

abbrev pub called : List ℕ → Pos → Mark
called t p = Calls (record { text = t; pos = p })

abbrev pub declared : List ℕ → Pos → What → Mark
declared t p what = marks.declares (record { text = t; pos = p }) what

abbrev pub of_port : PortItem → List Mark
of_port p = marks.of_item 0 (plain.port (tree.port_of p))

-- a function that is item k
abbrev pub of_function : ℕ → FuncItem → List Mark
of_function k f = marks.of_item k (plain.function (tree.head_of f) (tree.statement_of f.body))

abbrev pub of_call : List ℕ → Pos → List Arg → List Mark
of_call t p args = marks.of_call (record { called = record { text = t; pos = p }; arguments = map tree.argument_of args })

abbrev pub of_arguments : List Arg → List Mark
of_arguments args = marks.each marks.of_argument (map tree.argument_of args)

abbrev pub of_right_if_any : Option Rhs → List Mark
of_right_if_any r = marks.optional marks.of_right (option_map tree.right_of r)

abbrev pub of_expression_if_any : Option Expr → List Mark
of_expression_if_any e = marks.optional marks.of_expression (option_map tree.expression_of e)

abbrev pub of_timing : Option Timed → List Mark
of_timing t = marks.optional marks.of_timing (option_map tree.timing_of t)

abbrev pub of_condition : Option When → List Mark
of_condition c = marks.optional marks.of_condition (option_map tree.condition_of c)

abbrev pub of_input_if_any : Option Head → List Mark
of_input_if_any i = marks.optional marks.of_input (option_map tree.input_of i)

abbrev pub of_place : Option At → List Mark
of_place p = marks.optional marks.of_place (option_map tree.place_of p)

abbrev pub of_declarations : List Declared → List Mark
of_declarations ds = marks.each marks.of_declaration (map tree.declaration_of ds)

abbrev pub of_statements : List Stmt → List Mark
of_statements ss = marks.of_statements (plain.statements (map tree.statement_of ss))

abbrev pub of_branches : List Branch → List Mark
of_branches bs = marks.of_branches (plain.branches (map tree.branch_of bs))

abbrev pub of_cases : List Case → List Mark
of_cases cs = marks.of_cases (plain.cases (map tree.case_of cs))
