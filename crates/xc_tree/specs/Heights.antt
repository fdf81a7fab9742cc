-- How deeply statements are nested, by which a walk of a statement comes to its end.
use Rattle.std.specs.Prelude.{ℕ, ◌+◌, max}
use Rattle.xc_tree.specs.Plain as tree

abbrev mutual
  -- a statement is one higher than what it holds
  pub height : tree.Statement → ℕ
  height (tree.statement action pos close own) = height_of_action action + 1

  -- the height of the highest statement that an action holds
  pub height_of_action : tree.Action → ℕ
  height_of_action tree.empty = 0
  height_of_action (tree.block ss) = height_of_statements ss
  height_of_action (tree.declare ds) = 0
  height_of_action (tree.assign to symbol at r) = 0
  height_of_action (tree.step to symbol) = 0
  height_of_action (tree.perform r) = 0
  height_of_action (tree.output o) = 0
  height_of_action (tree.input i) = 0
  height_of_action (tree.if_then test a b) = max (height a) (height_of_maybe b)
  height_of_action (tree.while_loop test body) = height body
  height_of_action (tree.do_while body test) = height body
  height_of_action (tree.for_loop first test next body) = max (height_of_maybe first) (max (height_of_maybe next) (height body))
  height_of_action (tree.return_with r) = 0
  height_of_action tree.break_out = 0
  height_of_action tree.continue_on = 0
  height_of_action (tree.par bs) = height_of_branches bs
  height_of_action (tree.replicated first second third from until b) = height_of_branch b
  height_of_action (tree.select cs) = height_of_cases cs
  height_of_action (tree.transaction is_master ss) = height_of_statements ss

  pub height_of_maybe : tree.Maybe → ℕ
  height_of_maybe tree.absent = 0
  height_of_maybe (tree.present s) = height s

  pub height_of_statements : tree.Statements → ℕ
  height_of_statements tree.no_more = 0
  height_of_statements (tree.more s ss) = max (height s) (height_of_statements ss)

  pub height_of_branch : tree.Branch → ℕ
  height_of_branch (tree.branch place s) = height s

  pub height_of_branches : tree.Branches → ℕ
  height_of_branches tree.no_branch = 0
  height_of_branches (tree.more_branches b bs) = max (height_of_branch b) (height_of_branches bs)

  pub height_of_case : tree.Case → ℕ
  height_of_case (tree.case pos guard i ss) = height_of_statements ss

  pub height_of_cases : tree.Cases → ℕ
  height_of_cases tree.no_case = 0
  height_of_cases (tree.more_cases a cs) = max (height_of_case a) (height_of_cases cs)
