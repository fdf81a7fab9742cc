-- How many statements a program's kernel has, counted over the program: with each copy of a function's body.
use Rattle.std.specs.Prelude.{ℕ, ◌+◌, ◌-◌, ◌*◌, List, length, Option, Some, None, sum_by}
use Rattle.xc_tree.specs.Depth.{if_some}
use Rattle.xc_tree.specs.Plain as tree
use Rattle.xc_kernel.specs.Programs.{Function, functions, main_of, count_of_call}

-- by what a call counts
module _ (of_call : tree.Call → ℕ) where
  -- a right side counts what the call counts that it is
  abbrev pub of_right : tree.RightSide → ℕ
  of_right (tree.value e) = 0
  of_right (tree.result call) = of_call call

  -- what is declared counts what the call counts behind its `=`
  abbrev pub of_kind : tree.Kind → ℕ
  of_kind (tree.word u r) = if_some of_right r
  of_kind (tree.array u length pos) = 0
  of_kind (tree.channel streaming) = 0
  of_kind tree.timer = 0

  -- a name counts 1, and a call behind its `=` beside it
  abbrev pub of_declaration : tree.Declaration → ℕ
  of_declaration d = of_kind d.kind + 1

  abbrev mutual
    pub of_statement : tree.Statement → ℕ
    of_statement (tree.statement action pos close own) = of_action action

    -- A call by itself counts what it counts; one at a right side counts so beside its statement.
    pub of_action : tree.Action → ℕ
    of_action tree.empty = 0
    of_action (tree.block ss) = of_statements ss
    of_action (tree.declare ds) = sum_by of_declaration ds
    of_action (tree.assign to symbol at r) = of_right r + 1
    of_action (tree.step to symbol) = 1
    of_action (tree.perform r) = of_right r
    of_action (tree.output o) = 1
    of_action (tree.input i) = 1
    of_action (tree.if_then test a b) = of_statement a + of_maybe b + 1
    of_action (tree.while_loop test body) = of_statement body + 1
    of_action (tree.do_while body test) = of_statement body + 1
    of_action (tree.for_loop first test next body) = of_maybe first + of_maybe next + of_statement body + 1
    of_action (tree.return_with r) = if_some of_right r + 1
    of_action tree.break_out = 1
    of_action tree.continue_on = 1
    of_action (tree.par bs) = of_branches bs + 1
    of_action (tree.replicated first second third from until b) = (until - from) * of_branch b + 1
    of_action (tree.select cs) = of_cases cs + 1
    of_action (tree.transaction is_master ss) = of_statements ss + 2

    pub of_maybe : tree.Maybe → ℕ
    of_maybe tree.absent = 0
    of_maybe (tree.present s) = of_statement s

    pub of_statements : tree.Statements → ℕ
    of_statements tree.no_more = 0
    of_statements (tree.more s ss) = of_statement s + of_statements ss

    pub of_branch : tree.Branch → ℕ
    of_branch (tree.branch place s) = of_statement s + 1

    pub of_branches : tree.Branches → ℕ
    of_branches tree.no_branch = 0
    of_branches (tree.more_branches b bs) = of_branch b + of_branches bs

    pub of_cases : tree.Cases → ℕ
    of_cases tree.no_case = 0
    of_cases (tree.more_cases a cs) = of_case a + of_cases cs

    pub of_case : tree.Case → ℕ
    of_case (tree.case pos guard i ss) = of_statements ss + 1

-- a call counts 1, 1 for each parameter, and the function's body
abbrev pub of_function : (tree.Call → ℕ) → Option Function → ℕ
of_function of_call None = 0
of_function of_call (Some f) = of_statement of_call f.body + length f.head.params + 1

-- a function's body by itself
abbrev pub of_body : (tree.Call → ℕ) → Option Function → ℕ
of_body of_call None = 0
of_body of_call (Some f) = of_statement of_call f.body

-- a program counts what main's body counts
unfoldable pub statements_of : List tree.Item → ℕ
statements_of items = of_body (count_of_call of_function (functions items)) (main_of items)
