-- How many nodes of the tree, statements and expressions, stand one below the other.
use Rattle.std.specs.Prelude.{ℕ, ◌+◌, max, List, [], ◌∷◌, Option, Some, None}
use Rattle.xc_tree.specs.Plain as plain

abbrev mutual
  pub of_expression : plain.Expression → ℕ
  of_expression (plain.expression f p) = of_form f + 1

  pub of_form : plain.Form → ℕ
  of_form (plain.number n u) = 0
  of_form (plain.name t) = 0
  of_form (plain.index t e) = of_expression e
  of_form (plain.unary o e) = of_expression e
  of_form (plain.binary o a b) = max (of_expression a) (of_expression b)
  of_form (plain.choice c a b) = max (of_expression c) (max (of_expression a) (of_expression b))
  of_form (plain.cast u e) = of_expression e

-- the deepest of a list
abbrev pub highest : {V : Type 0} → (V → ℕ) → List V → ℕ
highest f [] = 0
highest f (x ∷ xs) = max (f x) (highest f xs)

abbrev pub if_some : {V : Type 0} → (V → ℕ) → Option V → ℕ
if_some f None = 0
if_some f (Some x) = f x

abbrev pub of_argument : plain.Argument → ℕ
of_argument a = of_expression a.value

abbrev pub of_call : plain.Call → ℕ
of_call c = highest of_argument c.arguments

abbrev pub of_right : plain.RightSide → ℕ
of_right (plain.value e) = of_expression e
of_right (plain.result c) = of_call c

abbrev pub of_timing : plain.Timing → ℕ
of_timing t = of_expression t.value

abbrev pub of_output : plain.Output → ℕ
of_output o = max (if_some of_timing o.time) (max (of_expression o.value) (if_some of_timing o.stamp))

abbrev pub of_target : plain.Target → ℕ
of_target (plain.to e) = of_expression e
of_target plain.dropped = 0
of_target (plain.fresh u n) = 0

abbrev pub of_condition : plain.Condition → ℕ
of_condition c = of_expression c.value

abbrev pub of_input : plain.Input → ℕ
of_input i = max (if_some of_timing i.time) (max (if_some of_condition i.condition) (max (of_target i.target) (if_some of_timing i.stamp)))

abbrev pub of_kind : plain.Kind → ℕ
of_kind (plain.word u r) = if_some of_right r
of_kind (plain.array u l p) = 0
of_kind (plain.channel s) = 0
of_kind plain.timer = 0

abbrev pub of_declaration : plain.Declaration → ℕ
of_declaration d = of_kind d.kind

abbrev pub of_place : plain.Place → ℕ
of_place p = of_expression p.value

abbrev mutual
  pub of_statement : plain.Statement → ℕ
  of_statement (plain.statement a f l own) = of_action a + 1

  pub of_action : plain.Action → ℕ
  of_action plain.empty = 0
  of_action (plain.block ss) = of_statements ss
  of_action (plain.declare ds) = highest of_declaration ds
  of_action (plain.assign l o p r) = max (of_expression l) (of_right r)
  of_action (plain.step l o) = of_expression l
  of_action (plain.perform r) = of_right r
  of_action (plain.output o) = of_output o
  of_action (plain.input i) = of_input i
  of_action (plain.if_then c s o) = max (of_expression c) (max (of_statement s) (of_maybe o))
  of_action (plain.while_loop c s) = max (of_expression c) (of_statement s)
  of_action (plain.do_while s c) = max (of_statement s) (of_expression c)
  of_action (plain.for_loop a c b s) = max (of_maybe a) (max (if_some of_expression c) (max (of_maybe b) (of_statement s)))
  of_action (plain.return_with r) = if_some of_right r
  of_action plain.break_out = 0
  of_action plain.continue_on = 0
  of_action (plain.par bs) = of_branches bs
  of_action (plain.replicated a b c f u body) = of_branch body
  of_action (plain.select cs) = of_cases cs
  of_action (plain.transaction m ss) = of_statements ss

  pub of_maybe : plain.Maybe → ℕ
  of_maybe plain.absent = 0
  of_maybe (plain.present s) = of_statement s

  pub of_statements : plain.Statements → ℕ
  of_statements plain.no_more = 0
  of_statements (plain.more s ss) = max (of_statement s) (of_statements ss)

  pub of_branch : plain.Branch → ℕ
  of_branch (plain.branch p s) = max (if_some of_place p) (of_statement s)

  pub of_branches : plain.Branches → ℕ
  of_branches plain.no_branch = 0
  of_branches (plain.more_branches a bs) = max (of_branch a) (of_branches bs)

  pub of_case : plain.Case → ℕ
  of_case (plain.case p g i ss) = max (if_some of_expression g) (max (if_some of_input i) (of_statements ss))

  pub of_cases : plain.Cases → ℕ
  of_cases plain.no_case = 0
  of_cases (plain.more_cases c cs) = max (of_case c) (of_cases cs)

-- the deepest node of an item: a function's block has depth 1, and so has the outermost node of a port's place
abbrev pub of_item : plain.Item → ℕ
of_item (plain.port p) = if_some of_place p.place
of_item (plain.function h b) = of_statement b

-- the deepest node of a program
abbrev pub of_program : List plain.Item → ℕ
of_program items = highest of_item items
