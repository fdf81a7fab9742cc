-- What the text of a program has of names and scopes, in its order. Scopes are the program, a function with its parameters
-- and its block, each inner block, each `for`, each replicated `par` and each case.
use Rattle.std.specs.Prelude.{ℕ, ◌+◌, List, [], ◌∷◌, ◌++◌, Option, Some, None}
use Rattle.xw_words.specs.declared.pos.Pos.{Pos}
use Rattle.xc_tree.specs.declared.tree.Id.{Id}
use Rattle.xc_tree.specs.declared.tree.Param.{Param}
use Rattle.xc_tree.specs.declared.tree.ParamKind.{ParamKind}
use Rattle.xc_tree.specs.declared.tree.ParamKind.TheVariants as param
use Rattle.xc_tree.specs.declared.names.What.{What}
use Rattle.xc_tree.specs.declared.names.What.TheVariants as what
use Rattle.xc_tree.specs.declared.names.Mark.{Mark}
use Rattle.xc_tree.specs.declared.names.Mark.TheVariants.{Opens, Closes, Declares, Uses, Calls}
use Rattle.xc_tree.specs.Plain as plain

abbrev pub declares : Id → What → Mark
declares n w = Declares (record { name = n; what = w })

abbrev pub uses : List ℕ → Pos → Mark
uses t p = Uses (record { text = t; pos = p })

-- A scope with what stands in it. A transaction is a scope, as its block is one.
abbrev pub in_scope : List Mark → List Mark
in_scope ms = Opens ∷ (ms ++ Closes ∷ [])

-- what each of a list has, one behind the other
abbrev pub each : {V : Type 0} → (V → List Mark) → List V → List Mark
each f [] = []
each f (x ∷ xs) = f x ++ each f xs

-- what is there may be absent
abbrev pub optional : {V : Type 0} → (V → List Mark) → Option V → List Mark
optional f None = []
optional f (Some x) = f x

abbrev mutual
  pub of_expression : plain.Expression → List Mark
  of_expression (plain.expression f p) = of_form p f

  pub of_form : Pos → plain.Form → List Mark
  of_form p (plain.number n u) = []
  of_form p (plain.name t) = uses t p ∷ []
  of_form p (plain.index t e) = uses t p ∷ of_expression e
  of_form p (plain.unary o e) = of_expression e
  of_form p (plain.binary o a b) = of_expression a ++ of_expression b
  of_form p (plain.choice c a b) = of_expression c ++ (of_expression a ++ of_expression b)
  of_form p (plain.cast u e) = of_expression e

abbrev pub of_argument : plain.Argument → List Mark
of_argument a = of_expression a.value

abbrev pub of_call : plain.Call → List Mark
of_call c = Calls c.called ∷ each of_argument c.arguments

abbrev pub of_right : plain.RightSide → List Mark
of_right (plain.value e) = of_expression e
of_right (plain.result c) = of_call c

abbrev pub of_timing : plain.Timing → List Mark
of_timing t = of_expression t.value

abbrev pub of_condition : plain.Condition → List Mark
of_condition c = of_expression c.value

abbrev pub of_output : plain.Output → List Mark
of_output o = Uses o.name ∷ (optional of_timing o.time ++ (of_expression o.value ++ optional of_timing o.stamp))

-- a name that an input declares belongs to the innermost scope
abbrev pub of_target : plain.Target → List Mark
of_target (plain.to e) = of_expression e
of_target plain.dropped = []
of_target (plain.fresh u n) = declares n (what.Word u) ∷ []

abbrev pub of_input : plain.Input → List Mark
of_input i =
    Uses i.name ∷ (optional of_timing i.time ++ (optional of_condition i.condition ++ (of_target i.target ++ optional of_timing i.stamp)))

abbrev pub what_of : plain.Kind → What
what_of (plain.word u r) = what.Word u
what_of (plain.array u n p) = what.Array u n
what_of (plain.channel s) = what.Chan s
what_of plain.timer = what.Timer

abbrev pub of_initial : plain.Kind → List Mark
of_initial (plain.word u r) = optional of_right r
of_initial (plain.array u n p) = []
of_initial (plain.channel s) = []
of_initial plain.timer = []

-- a name is known from its own token on, and so in its initial value
abbrev pub of_declaration : plain.Declaration → List Mark
of_declaration d = declares d.name (what_of d.kind) ∷ of_initial d.kind

abbrev pub of_place : plain.Place → List Mark
of_place p = of_expression p.value

abbrev mutual
  pub of_statement : plain.Statement → List Mark
  of_statement (plain.statement a f l own) = of_action a

  pub of_action : plain.Action → List Mark
  of_action plain.empty = []
  of_action (plain.block ss) = in_scope (of_statements ss)
  of_action (plain.declare ds) = each of_declaration ds
  of_action (plain.assign l o p r) = of_expression l ++ of_right r
  of_action (plain.step l o) = of_expression l
  of_action (plain.perform r) = of_right r
  of_action (plain.output o) = of_output o
  of_action (plain.input i) = of_input i
  of_action (plain.if_then c s o) = of_expression c ++ (of_statement s ++ of_maybe o)
  of_action (plain.while_loop c s) = of_expression c ++ of_statement s
  of_action (plain.do_while s c) = of_statement s ++ of_expression c
  of_action (plain.for_loop a c b s) = in_scope (of_maybe a ++ (optional of_expression c ++ (of_maybe b ++ of_statement s)))
  of_action (plain.return_with r) = optional of_right r
  of_action plain.break_out = []
  of_action plain.continue_on = []
  of_action (plain.par bs) = of_branches bs
  of_action (plain.replicated a b c f u body) = in_scope (declares a what.Index ∷ Uses b ∷ Uses c ∷ of_branch body)
  of_action (plain.select cs) = of_cases cs
  of_action (plain.transaction m ss) = in_scope (of_statements ss)

  pub of_maybe : plain.Maybe → List Mark
  of_maybe plain.absent = []
  of_maybe (plain.present s) = of_statement s

  pub of_statements : plain.Statements → List Mark
  of_statements plain.no_more = []
  of_statements (plain.more s ss) = of_statement s ++ of_statements ss

  pub of_branch : plain.Branch → List Mark
  of_branch (plain.branch p s) = optional of_place p ++ of_statement s

  pub of_branches : plain.Branches → List Mark
  of_branches plain.no_branch = []
  of_branches (plain.more_branches b bs) = of_branch b ++ of_branches bs

  pub of_case : plain.Case → List Mark
  of_case (plain.case p g i ss) = in_scope (optional of_expression g ++ (optional of_input i ++ of_statements ss))

  pub of_cases : plain.Cases → List Mark
  of_cases plain.no_case = []
  of_cases (plain.more_cases c cs) = of_case c ++ of_cases cs

-- the length of an array parameter, without the place of that number
abbrev pub length_of : Option (ℕ × Pos) → Option ℕ
length_of None = None
length_of (Some l) = Some l.0

abbrev pub what_of_param : ParamKind → What
what_of_param (param.Value u) = what.Word u
what_of_param (param.Ref u) = what.Ref u
what_of_param (param.Array u l) = what.ArrayParam u (length_of l)
what_of_param (param.End s) = what.End s
what_of_param (param.Port d) = what.PortParam d

abbrev pub of_param : Param → List Mark
of_param p = declares p.name (what_of_param p.kind) ∷ []

-- what stands in a function's block, which shares the scope of its parameters
abbrev pub of_body : plain.Statement → List Mark
of_body (plain.statement (plain.block ss) f l own) = of_statements ss
of_body s = of_statement s

-- what item k of a program has
abbrev pub of_item : ℕ → plain.Item → List Mark
of_item k (plain.port p) = optional of_place p.place ++ declares p.name (what.Port p.dir) ∷ []
of_item k (plain.function h b) = declares h.name (what.Func k) ∷ in_scope (each of_param h.params ++ of_body b)

-- what the items of a program have, the first of which is item k
abbrev pub of_items : ℕ → List plain.Item → List Mark
of_items k [] = []
of_items k (i ∷ is) = of_item k i ++ of_items (k + 1) is

-- what a program has of names and scopes
unfoldable pub of_program : List plain.Item → List Mark
of_program program = of_items 0 program
