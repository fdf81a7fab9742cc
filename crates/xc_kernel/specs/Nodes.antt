-- How many nodes of expressions a program has, with each copy of a function's body.
use Rattle.std.specs.Prelude.{ℕ, ◌+◌, ◌-◌, ◌*◌, List, length, Option, Some, None, sum_by}
use Rattle.xc_tree.specs.Depth.{if_some}
use Rattle.xc_tree.specs.Plain as tree
use Rattle.xc_kernel.specs.Programs.{Function, functions, main_of, count_of_call}

abbrev mutual
  pub of_expression : tree.Expression → ℕ
  of_expression (tree.expression form pos) = of_form form + 1

  pub of_form : tree.Form → ℕ
  of_form (tree.number v u) = 0
  of_form (tree.name text) = 0
  of_form (tree.index text i) = of_expression i
  of_form (tree.unary symbol a) = of_expression a
  of_form (tree.binary symbol a b) = of_expression a + of_expression b
  of_form (tree.choice test a b) = of_expression test + of_expression a + of_expression b
  of_form (tree.cast u a) = of_expression a

-- the nodes of the parts of statements
abbrev pub of_argument : tree.Argument → ℕ
of_argument a = of_expression a.value

abbrev pub of_timing : tree.Timing → ℕ
of_timing t = of_expression t.value

abbrev pub of_condition : tree.Condition → ℕ
of_condition w = of_expression w.value

abbrev pub of_output : tree.Output → ℕ
of_output o = if_some of_timing o.time + of_expression o.value + if_some of_timing o.stamp

abbrev pub of_target : tree.Target → ℕ
of_target (tree.to e) = of_expression e
of_target tree.dropped = 0
of_target (tree.fresh u name) = 0

abbrev pub of_input : tree.Input → ℕ
of_input i = if_some of_timing i.time + if_some of_condition i.condition + of_target i.target + if_some of_timing i.stamp

abbrev pub of_place : tree.Place → ℕ
of_place p = of_expression p.value

-- by what the called body of a call counts
module _ (of_call : tree.Call → ℕ) where
  -- of a right side: its expression, or the arguments of a call and the body of what it calls
  abbrev pub of_right : tree.RightSide → ℕ
  of_right (tree.value e) = of_expression e
  of_right (tree.result call) = sum_by of_argument call.arguments + of_call call

  -- of what stands behind the `=` of a declared name
  abbrev pub of_kind : tree.Kind → ℕ
  of_kind (tree.word u r) = if_some of_right r
  of_kind (tree.array u length pos) = 0
  of_kind (tree.channel streaming) = 0
  of_kind tree.timer = 0

  abbrev pub of_declaration : tree.Declaration → ℕ
  of_declaration d = of_kind d.kind

  abbrev mutual
    pub of_statement : tree.Statement → ℕ
    of_statement (tree.statement action pos close own) = of_action action

    pub of_action : tree.Action → ℕ
    of_action tree.empty = 0
    of_action (tree.block ss) = of_statements ss
    of_action (tree.declare ds) = sum_by of_declaration ds
    of_action (tree.assign to symbol at r) = of_expression to + of_right r
    of_action (tree.step to symbol) = of_expression to
    of_action (tree.perform r) = of_right r
    of_action (tree.output o) = of_output o
    of_action (tree.input i) = of_input i
    of_action (tree.if_then test a b) = of_expression test + of_statement a + of_maybe b
    of_action (tree.while_loop test body) = of_expression test + of_statement body
    of_action (tree.do_while body test) = of_statement body + of_expression test
    of_action (tree.for_loop first test next body) = of_maybe first + if_some of_expression test + of_maybe next + of_statement body
    of_action (tree.return_with r) = if_some of_right r
    of_action tree.break_out = 0
    of_action tree.continue_on = 0
    of_action (tree.par bs) = of_branches bs
    of_action (tree.replicated first second third from until b) = (until - from) * of_branch b
    of_action (tree.select cs) = of_cases cs
    of_action (tree.transaction is_master ss) = of_statements ss

    pub of_maybe : tree.Maybe → ℕ
    of_maybe tree.absent = 0
    of_maybe (tree.present s) = of_statement s

    pub of_statements : tree.Statements → ℕ
    of_statements tree.no_more = 0
    of_statements (tree.more s ss) = of_statement s + of_statements ss

    pub of_branch : tree.Branch → ℕ
    of_branch (tree.branch place s) = if_some of_place place + of_statement s

    pub of_branches : tree.Branches → ℕ
    of_branches tree.no_branch = 0
    of_branches (tree.more_branches b bs) = of_branch b + of_branches bs

    pub of_cases : tree.Cases → ℕ
    of_cases tree.no_case = 0
    of_cases (tree.more_cases a cs) = of_case a + of_cases cs

    pub of_case : tree.Case → ℕ
    of_case (tree.case pos guard i ss) = if_some of_expression guard + if_some of_input i + of_statements ss

-- of a function: those of its body
abbrev pub of_function : (tree.Call → ℕ) → Option Function → ℕ
of_function of_call None = 0
of_function of_call (Some f) = of_statement of_call f.body

-- a program has the nodes of main's body
unfoldable pub nodes_of : List tree.Item → ℕ
nodes_of items = of_function (count_of_call of_function (functions items)) (main_of items)
