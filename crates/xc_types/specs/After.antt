-- What a walk has found behind a part of a program, as the code has the part: all that its marks and its sites say.
use Rattle.std.specs.Prelude.{ℕ, Bool, true, List, ◌∷◌, Option, map, option_map}
use Rattle.xw_words.specs.declared.pos.Pos.{Pos}
use Rattle.xc_tree.specs.declared.names.Named.{Named}
use Rattle.xc_tree.specs.declared.tree.Arg.{Arg}
use Rattle.xc_tree.specs.declared.tree.At.{At}
use Rattle.xc_tree.specs.declared.tree.Branch.{Branch}
use Rattle.xc_tree.specs.declared.tree.Case.{Case}
use Rattle.xc_tree.specs.declared.tree.DeclKind.{DeclKind}
use Rattle.xc_tree.specs.declared.tree.Declared.{Declared}
use Rattle.xc_tree.specs.declared.tree.Dest.{Dest}
use Rattle.xc_tree.specs.declared.tree.Expr.{Expr}
use Rattle.xc_tree.specs.declared.tree.FuncItem.{FuncItem}
use Rattle.xc_tree.specs.declared.tree.Head.{Head}
use Rattle.xc_tree.specs.declared.tree.Item.{Item}
use Rattle.xc_tree.specs.declared.tree.Param.{Param}
use Rattle.xc_tree.specs.declared.tree.ParamKind.{ParamKind}
use Rattle.xc_tree.specs.declared.tree.PortItem.{PortItem}
use Rattle.xc_tree.specs.declared.tree.Rhs.{Rhs}
use Rattle.xc_tree.specs.declared.tree.Send.{Send}
use Rattle.xc_tree.specs.declared.tree.Stmt.{Stmt}
use Rattle.xc_tree.specs.Names.Marks as marks
use Rattle.xc_tree.specs.Plain as plain
use Rattle.xc_tree.specs.Trees as tree
use Rattle.xc_tree.specs.Types.Named.{named_of}
use Rattle.xc_tree.specs.Types.Sites as sites
use Rattle.xc_tree.specs.Types.Words.{form_is_unsigned, gives_unsigned, is_unsigned}
use Rattle.xc_types.specs.declared.enclosing.Enclosing.{Enclosing}
use Rattle.xc_types.specs.declared.checker.Checker.{Checker}
use Rattle.xc_types.specs.Enclosing.{around_of}
use Rattle.xc_types.specs.Checker.{saw}

abbrev pub expression : Named → Expr → Checker → Checker
expression named e f =
    saw f (marks.of_expression (tree.expression_of e))
    (sites.of_expression (named_of named) f.names (tree.expression_of e))

-- an operator before its operand
abbrev pub unary : Named → ℕ → Expr → Checker → Checker
unary named symbol operand f =
    saw f (marks.of_expression (tree.expression_of operand))
    (sites.node (form_is_unsigned (named_of named) f.names (plain.unary symbol (tree.expression_of operand)))
    ∷ sites.of_expression (named_of named) f.names (tree.expression_of operand))

-- an operator and its right operand, behind a left one that is `unsigned` or not as this says
abbrev pub right_operand : Named → ℕ → Bool → Expr → Checker → Checker
right_operand named symbol left right f =
    saw f (marks.of_expression (tree.expression_of right))
    (sites.node (gives_unsigned symbol left (is_unsigned (named_of named) f.names (tree.expression_of right)))
    ∷ sites.of_expression (named_of named) f.names (tree.expression_of right))

abbrev pub lval : Named → Expr → Checker → Checker
lval named e f =
    saw f (marks.of_expression (tree.expression_of e))
    (sites.of_lval (named_of named) f.names (tree.expression_of e))

abbrev pub whole : Named → Expr → Checker → Checker
whole named e f =
    saw f (marks.of_expression (tree.expression_of e))
    (sites.of_whole (named_of named) f.names (tree.expression_of e))

abbrev pub part : Named → Expr → Checker → Checker
part named e f =
    saw f (marks.of_expression (tree.expression_of e))
    (sites.of_expression (named_of named) f.names (tree.expression_of e))

abbrev pub part_if_any : Named → Option Expr → Checker → Checker
part_if_any named e f =
    saw f (marks.optional marks.of_expression (option_map tree.expression_of e))
    (sites.optional (sites.of_expression (named_of named) f.names) (option_map tree.expression_of e))

abbrev pub right_side_if_any : Named → Enclosing → Option Rhs → Checker → Checker
right_side_if_any named around rhs f =
    saw f (marks.optional marks.of_right (option_map tree.right_of rhs))
    (sites.optional (sites.of_right (named_of named) (around_of around) f.names true) (option_map tree.right_of rhs))

abbrev pub right_side : Named → Enclosing → Rhs → Bool → Checker → Checker
right_side named around rhs is_right_side f =
    saw f (marks.of_right (tree.right_of rhs))
    (sites.of_right (named_of named) (around_of around) f.names is_right_side (tree.right_of rhs))

abbrev pub arguments : Named → List Param → List Arg → Checker → Checker
arguments named params args f =
    saw f (marks.each marks.of_argument (map tree.argument_of args))
    (sites.of_arguments (named_of named) f.names params (map tree.argument_of args))

abbrev pub argument : Named → Option ParamKind → Expr → Checker → Checker
argument named parameter e f =
    saw f (marks.of_expression (tree.expression_of e))
    (sites.of_argument (named_of named) f.names parameter (tree.expression_of e))

abbrev pub output : Named → Send → Checker → Checker
output named send f =
    saw f (marks.of_output (tree.output_of send))
    (sites.of_output (named_of named) f.names (tree.output_of send))

abbrev pub input : Named → Head → Checker → Checker
input named head f =
    saw f (marks.of_input (tree.input_of head))
    (sites.of_input (named_of named) f.names (tree.input_of head))

abbrev pub input_if_any : Named → Option Head → Checker → Checker
input_if_any named head f =
    saw f (marks.optional marks.of_input (option_map tree.input_of head))
    (sites.optional (sites.of_input (named_of named) f.names) (option_map tree.input_of head))

abbrev pub target : Named → Dest → Checker → Checker
target named dest f =
    saw f (marks.of_target (tree.target_of dest))
    (sites.of_target (named_of named) f.names (tree.target_of dest))

abbrev pub declarations : Named → Enclosing → List Declared → Checker → Checker
declarations named around declared f =
    saw f (marks.each marks.of_declaration (map tree.declaration_of declared))
    (sites.of_declarations (named_of named) (around_of around) f.names (map tree.declaration_of declared))

abbrev pub kind : Named → Enclosing → DeclKind → Checker → Checker
kind named around k f =
    saw f (marks.of_initial (tree.kind_of k))
    (sites.of_kind (named_of named) (around_of around) f.names (tree.kind_of k))

abbrev pub place_if_any : Named → Option At → Checker → Checker
place_if_any named place f =
    saw f (marks.optional marks.of_place (option_map tree.place_of place))
    (sites.optional (sites.of_place (named_of named) f.names) (option_map tree.place_of place))

abbrev pub branch_place : Named → Enclosing → Option At → Checker → Checker
branch_place named around place f =
    saw f (marks.optional marks.of_place (option_map tree.place_of place))
    (sites.optional (sites.of_branch_place (named_of named) (around_of around) f.names) (option_map tree.place_of place))

abbrev pub place_at : Named → At → Checker → Checker
place_at named place f =
    saw f (marks.of_place (tree.place_of place))
    (sites.of_place (named_of named) f.names (tree.place_of place))

abbrev pub statement : Named → Stmt → Enclosing → Checker → Checker
statement named s around f =
    saw f (marks.of_statement (tree.statement_of s))
    (sites.of_statement (named_of named) (around_of around) f.names (tree.statement_of s))

-- an `if`, whose own place no site tells
abbrev pub choice : Named → Expr → Stmt → Option Stmt → Enclosing → Checker → Checker
choice named test chosen otherwise around f =
    saw f (marks.of_action (plain.if_then (tree.expression_of test) (tree.statement_of chosen) (tree.maybe_of otherwise)))
    (sites.of_action (named_of named) (around_of around) f.names chosen.pos (plain.if_then (tree.expression_of test) (tree.statement_of chosen) (tree.maybe_of otherwise)))

-- a `for`, whose own place no site tells
abbrev pub for_loop : Named → Option Stmt → Option Expr → Option Stmt → Stmt → Enclosing → Checker → Checker
for_loop named first test step body around f =
    saw f (marks.of_action (plain.for_loop (tree.maybe_of first) (option_map tree.expression_of test) (tree.maybe_of step) (tree.statement_of body)))
    (sites.of_action (named_of named) (around_of around) f.names body.pos (plain.for_loop (tree.maybe_of first) (option_map tree.expression_of test) (tree.maybe_of step) (tree.statement_of body)))

abbrev pub statement_if_any : Named → Option Stmt → Enclosing → Checker → Checker
statement_if_any named s around f =
    saw f (marks.of_maybe (tree.maybe_of s))
    (sites.of_maybe (named_of named) (around_of around) f.names (tree.maybe_of s))

abbrev pub statements : Named → List Stmt → Enclosing → Checker → Checker
statements named ss around f =
    saw f (marks.of_statements (plain.statements (map tree.statement_of ss)))
    (sites.of_statements (named_of named) (around_of around) f.names (plain.statements (map tree.statement_of ss)))

abbrev pub transaction : Named → List Stmt → Enclosing → Pos → Checker → Checker
transaction named ss around pos f =
    saw f (marks.in_scope (marks.of_statements (plain.statements (map tree.statement_of ss))))
    (sites.of_action (named_of named) (around_of around) f.names pos (plain.transaction true (plain.statements (map tree.statement_of ss))))

abbrev pub branch : Named → Branch → Enclosing → Checker → Checker
branch named b around f =
    saw f (marks.of_branch (tree.branch_of b))
    (sites.of_branch (named_of named) (around_of around) f.names (tree.branch_of b))

abbrev pub branches : Named → List Branch → Enclosing → Checker → Checker
branches named bs around f =
    saw f (marks.of_branches (plain.branches (map tree.branch_of bs)))
    (sites.of_branches (named_of named) (around_of around) f.names (plain.branches (map tree.branch_of bs)))

abbrev pub case : Named → Case → Enclosing → Checker → Checker
case named c around f =
    saw f (marks.of_case (tree.case_of c))
    (sites.of_case (named_of named) (around_of around) f.names (tree.case_of c))

abbrev pub cases : Named → List Case → Enclosing → Checker → Checker
cases named cs around f =
    saw f (marks.of_cases (plain.cases (map tree.case_of cs)))
    (sites.of_cases (named_of named) (around_of around) f.names (plain.cases (map tree.case_of cs)))

abbrev pub program : Named → Checker → Checker
program named f =
    saw f (marks.of_items 0 (tree.program_of named.tree))
    (sites.of_items (named_of named) 0 f.names (tree.program_of named.tree))

abbrev pub item : Named → Item → Checker → Checker
item named i f =
    saw f (marks.of_item 0 (tree.item_of i))
    (sites.of_item (named_of named) f.names (tree.item_of i))

abbrev pub port : Named → PortItem → Checker → Checker
port named p f =
    saw f (marks.of_item 0 (plain.port (tree.port_of p)))
    (sites.of_item (named_of named) f.names (plain.port (tree.port_of p)))

abbrev pub function : Named → FuncItem → Checker → Checker
function named d f =
    saw f (marks.of_item 0 (plain.function (tree.head_of d) (tree.statement_of d.body)))
    (sites.of_item (named_of named) f.names (plain.function (tree.head_of d) (tree.statement_of d.body)))

abbrev pub parameters : List Param → Checker → Checker
parameters params f =
    saw f (marks.each marks.of_param params)
    (sites.each sites.of_parameter params)

abbrev pub parameter : Param → Checker → Checker
parameter p f =
    saw f (marks.of_param p)
    (sites.of_parameter p)

abbrev pub body : Named → Stmt → Enclosing → Checker → Checker
body named s around f =
    saw f (marks.of_body (tree.statement_of s))
    (sites.of_body (named_of named) (around_of around) f.names (tree.statement_of s))
