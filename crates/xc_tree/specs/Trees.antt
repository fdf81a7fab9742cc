-- What the declared types of a tree stand for as plain data.
use Rattle.std.specs.Prelude.{List, map, Option, Some, None, option_map}
use Rattle.xc_tree.specs.declared.tree.Expr.{Expr, fold-Expr}
use Rattle.xc_tree.specs.declared.tree.Ex.TheOpen as E
use Rattle.xc_tree.specs.declared.tree.Ex.{Ex, fold-Ex}
use Rattle.xc_tree.specs.declared.tree.Arg.{Arg}
use Rattle.xc_tree.specs.declared.tree.Rhs.{Rhs}
use Rattle.xc_tree.specs.declared.tree.Rhs.TheVariants as R
use Rattle.xc_tree.specs.declared.tree.Timed.{Timed}
use Rattle.xc_tree.specs.declared.tree.When.{When}
use Rattle.xc_tree.specs.declared.tree.Send.{Send}
use Rattle.xc_tree.specs.declared.tree.Dest.{Dest}
use Rattle.xc_tree.specs.declared.tree.Dest.TheVariants as T
use Rattle.xc_tree.specs.declared.tree.Head.{Head}
use Rattle.xc_tree.specs.declared.tree.DeclKind.{DeclKind}
use Rattle.xc_tree.specs.declared.tree.DeclKind.TheVariants as K
use Rattle.xc_tree.specs.declared.tree.Declared.{Declared}
use Rattle.xc_tree.specs.declared.tree.At.{At}
use Rattle.xc_tree.specs.declared.tree.Stmt.{Stmt, fold-Stmt}
use Rattle.xc_tree.specs.declared.tree.St.TheOpen as S
use Rattle.xc_tree.specs.declared.tree.St.{St, fold-St}
use Rattle.xc_tree.specs.declared.tree.Branch.{Branch, fold-Branch}
use Rattle.xc_tree.specs.declared.tree.Case.{Case, fold-Case}
use Rattle.xc_tree.specs.declared.tree.PortItem.{PortItem}
use Rattle.xc_tree.specs.declared.tree.FuncItem.{FuncItem}
use Rattle.xc_tree.specs.declared.tree.Item.{Item}
use Rattle.xc_tree.specs.declared.tree.Item.TheVariants as I
use Rattle.xc_tree.specs.declared.tree.Tree.{Tree}
use Rattle.xc_tree.specs.Plain as plain

abbrev pub form_step : E.Ex-F plain.Form plain.Expression → plain.Form
form_step (E.Num v u) = plain.number v u
form_step (E.Name t) = plain.name t
form_step (E.Index t i) = plain.index t i.value
form_step (E.Un o a) = plain.unary o a.value
form_step (E.Bin o a b) = plain.binary o a.value b.value
form_step (E.Cond c a b) = plain.choice c.value a.value b.value
form_step (E.Cast u a) = plain.cast u a.value

abbrev pub expression_step : E.Expr-F plain.Form plain.Expression → plain.Expression
expression_step e = plain.expression e.kind e.pos

-- the expression that an `Expr` stands for
unfoldable pub expression_of : Expr → plain.Expression
expression_of = fold-Expr plain.Form plain.Expression form_step expression_step

unfoldable pub form_of : Ex → plain.Form
form_of = fold-Ex plain.Form plain.Expression form_step expression_step

abbrev pub argument_of : Arg → plain.Argument
argument_of a = record { value = expression_of a.value; first = a.first }

abbrev pub right_of : Rhs → plain.RightSide
right_of (R.Value e) = plain.value (expression_of e)
right_of (R.Call name pos args) = plain.result (record { called = record { text = name; pos = pos }; arguments = map argument_of args })

abbrev pub timing_of : Timed → plain.Timing
timing_of t = record { at = t.at; value = expression_of t.value }

abbrev pub condition_of : When → plain.Condition
condition_of w = record { at = w.at; test = w.test; value = expression_of w.value }

abbrev pub output_of : Send → plain.Output
output_of s = record {
  name = record { text = s.name; pos = s.pos };
  time = option_map timing_of s.time;
  value = expression_of s.value;
  stamp = option_map timing_of s.stamp;
}

abbrev pub target_of : Dest → plain.Target
target_of (T.To e) = plain.to (expression_of e)
target_of T.Drop = plain.dropped
target_of (T.Fresh u t p) = plain.fresh u (record { text = t; pos = p })

abbrev pub input_of : Head → plain.Input
input_of h = record {
  name = record { text = h.name; pos = h.pos };
  time = option_map timing_of h.time;
  condition = option_map condition_of h.cond;
  target = target_of h.dest;
  stamp = option_map timing_of h.stamp;
}

abbrev pub kind_of : DeclKind → plain.Kind
kind_of (K.Word u r) = plain.word u (option_map right_of r)
kind_of (K.Array u n p) = plain.array u n p
kind_of (K.Chan s) = plain.channel s
kind_of K.Timer = plain.timer

abbrev pub declaration_of : Declared → plain.Declaration
declaration_of d = record { kind = kind_of d.kind; name = d.name }

abbrev pub place_of : At → plain.Place
place_of a = record { on = a.on; first = a.first; value = expression_of a.value }

abbrev pub maybe_step : Option plain.Statement → plain.Maybe
maybe_step None = plain.absent
maybe_step (Some s) = plain.present s

abbrev pub action_step : S.St-F plain.Action plain.Branch plain.Case plain.Statement → plain.Action
action_step S.Empty = plain.empty
action_step (S.Block ss) = plain.block (plain.statements ss)
action_step (S.Decl ds) = plain.declare (map declaration_of ds)
action_step (S.Assign l o p r) = plain.assign (expression_of l) o p (right_of r)
action_step (S.Step l o) = plain.step (expression_of l) o
action_step (S.Do r) = plain.perform (right_of r)
action_step (S.Output o) = plain.output (output_of o)
action_step (S.Input i) = plain.input (input_of i)
action_step (S.If c s o) = plain.if_then (expression_of c) s (maybe_step o)
action_step (S.While c s) = plain.while_loop (expression_of c) s
action_step (S.DoWhile s c) = plain.do_while s (expression_of c)
action_step (S.For a c b s) = plain.for_loop (maybe_step a) (option_map expression_of c) (maybe_step b) s
action_step (S.Return r) = plain.return_with (option_map right_of r)
action_step S.Break = plain.break_out
action_step S.Continue = plain.continue_on
action_step (S.Par bs) = plain.par (plain.branches bs)
action_step (S.Repl a b c f t body) = plain.replicated a b c f t body.value
action_step (S.Select cs) = plain.select (plain.cases cs)
action_step (S.Tran m ss) = plain.transaction m (plain.statements ss)

abbrev pub branch_step : S.Branch-F plain.Action plain.Branch plain.Case plain.Statement → plain.Branch
branch_step b = plain.branch (option_map place_of b.place) b.body

abbrev pub case_step : S.Case-F plain.Action plain.Branch plain.Case plain.Statement → plain.Case
case_step c = plain.case c.pos (option_map expression_of c.guard) (option_map input_of c.head) (plain.statements c.body)

abbrev pub statement_step : S.Stmt-F plain.Action plain.Branch plain.Case plain.Statement → plain.Statement
statement_step s = plain.statement s.kind.value s.pos s.close s.own

-- the statement that a `Stmt` stands for
unfoldable pub statement_of : Stmt → plain.Statement
statement_of = fold-Stmt plain.Action plain.Branch plain.Case plain.Statement action_step branch_step case_step statement_step

unfoldable pub action_of : St → plain.Action
action_of = fold-St plain.Action plain.Branch plain.Case plain.Statement action_step branch_step case_step statement_step

unfoldable pub branch_of : Branch → plain.Branch
branch_of = fold-Branch plain.Action plain.Branch plain.Case plain.Statement action_step branch_step case_step statement_step

unfoldable pub case_of : Case → plain.Case
case_of = fold-Case plain.Action plain.Branch plain.Case plain.Statement action_step branch_step case_step statement_step

abbrev pub maybe_of : Option Stmt → plain.Maybe
maybe_of None = plain.absent
maybe_of (Some s) = plain.present (statement_of s)

abbrev pub port_of : PortItem → plain.Port
port_of p = record { place = option_map place_of p.place; dir = p.dir; name = p.name; ident = p.ident }

abbrev pub head_of : FuncItem → plain.Head
head_of f = record { result = f.result; name = f.name; params = f.params; own = f.own }

abbrev pub item_of : Item → plain.Item
item_of (I.Port p) = plain.port (port_of p)
item_of (I.Func f) = plain.function (head_of f) (statement_of f.body)

-- the program that a `Tree` stands for
abbrev pub program_of : Tree → List plain.Item
program_of t = map item_of t.items
