-- How deep a program's nodes stand, where the nodes of a function that is called stand below the statement that calls it.
use Rattle.std.specs.Prelude.{ℕ, ◌+◌, max, List, length, Option, Some, None}
use Rattle.xc_tree.specs.Depth.{highest, if_some, of_expression, of_argument, of_output, of_input, of_place}
use Rattle.xc_tree.specs.Plain as tree
use Rattle.xc_kernel.specs.Programs.{Function, functions, main_of, count_of_call}

-- by the depth of the function that a call calls
module _ (of_call : tree.Call → ℕ) where
  -- of a right side: its expression, or the arguments of a call and the function that it calls
  abbrev pub of_right : tree.RightSide → ℕ
  of_right (tree.value e) = of_expression e
  of_right (tree.result call) = max (highest of_argument call.arguments) (of_call call)

  -- of what stands behind the `=` of a declared name
  abbrev pub of_kind : tree.Kind → ℕ
  of_kind (tree.word u r) = if_some of_right r
  of_kind (tree.array u length pos) = 0
  of_kind (tree.channel streaming) = 0
  of_kind tree.timer = 0

  abbrev pub of_declaration : tree.Declaration → ℕ
  of_declaration d = of_kind d.kind

  abbrev mutual
    pub of_statement : tree.Statement → ℕ
    of_statement (tree.statement action pos close own) = of_action action + 1

    pub of_action : tree.Action → ℕ
    of_action tree.empty = 0
    of_action (tree.block ss) = of_statements ss
    of_action (tree.declare ds) = highest of_declaration ds
    of_action (tree.assign to symbol at r) = max (of_expression to) (of_right r)
    of_action (tree.step to symbol) = of_expression to
    of_action (tree.perform r) = of_right r
    of_action (tree.output o) = of_output o
    of_action (tree.input i) = of_input i
    of_action (tree.if_then test a b) = max (of_expression test) (max (of_statement a) (of_maybe b))
    of_action (tree.while_loop test body) = max (of_expression test) (of_statement body)
    of_action (tree.do_while body test) = max (of_statement body) (of_expression test)
    of_action (tree.for_loop first test next body) =
        max (of_maybe first) (max (if_some of_expression test) (max (of_maybe next) (of_statement body)))
    of_action (tree.return_with r) = if_some of_right r
    of_action tree.break_out = 0
    of_action tree.continue_on = 0
    of_action (tree.par bs) = of_branches bs
    of_action (tree.replicated first second third from until b) = of_branch b
    of_action (tree.select cs) = of_cases cs
    of_action (tree.transaction is_master ss) = of_statements ss

    pub of_maybe : tree.Maybe → ℕ
    of_maybe tree.absent = 0
    of_maybe (tree.present s) = of_statement s

    pub of_statements : tree.Statements → ℕ
    of_statements tree.no_more = 0
    of_statements (tree.more s ss) = max (of_statement s) (of_statements ss)

    pub of_branch : tree.Branch → ℕ
    of_branch (tree.branch place s) = max (if_some of_place place) (of_statement s)

    pub of_branches : tree.Branches → ℕ
    of_branches tree.no_branch = 0
    of_branches (tree.more_branches b bs) = max (of_branch b) (of_branches bs)

    pub of_cases : tree.Cases → ℕ
    of_cases tree.no_case = 0
    of_cases (tree.more_cases a cs) = max (of_case a) (of_cases cs)

    pub of_case : tree.Case → ℕ
    of_case (tree.case pos guard i ss) = max (if_some of_expression guard) (max (if_some of_input i) (of_statements ss))

-- a function's block has depth 1
abbrev pub of_function : (tree.Call → ℕ) → Option Function → ℕ
of_function of_call None = 0
of_function of_call (Some f) = of_statement of_call f.body

-- a program is as deep as main
unfoldable pub depth_of : List tree.Item → ℕ
depth_of items = of_function (count_of_call of_function (functions items)) (main_of items)
