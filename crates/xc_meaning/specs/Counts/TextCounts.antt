-- The greatest count of a text's statements and function heads. One counts its tokens outside the statements that it holds, and
-- the words that it sets to 0.
use Rattle.std.specs.Prelude.{ℕ, ◌+◌, ◌*◌, max, List, sum_by, Option, Some, None}
use Rattle.xc_tree.specs.Depth.{highest}
use Rattle.xc_tree.specs.Plain as tree

-- a word without an initialiser becomes 0
abbrev pub zeroed_word : Option tree.RightSide → ℕ
zeroed_word None = 1
zeroed_word (Some r) = 0

-- the words that a declared name sets to 0
abbrev pub zeroed_kind : tree.Kind → ℕ
zeroed_kind (tree.word u r) = zeroed_word r
zeroed_kind (tree.array u length pos) = length
zeroed_kind (tree.channel is_streaming) = 0
zeroed_kind tree.timer = 0

abbrev pub zeroed_name : tree.Declaration → ℕ
zeroed_name d = zeroed_kind d.kind

-- The words that a statement sets to 0: those that it declares. A call counts none for its result, which makes the bound on
-- instructions the stricter one.
abbrev pub zeroed : tree.Action → ℕ
zeroed (tree.declare ds) = sum_by zeroed_name ds
zeroed other = 0

-- the greatest count among a statement and those that it holds
abbrev mutual
  pub greatest : tree.Statement → ℕ
  greatest (tree.statement action pos close own) = max (own + zeroed action) (greatest_held action)

  pub greatest_held : tree.Action → ℕ
  greatest_held tree.empty = 0
  greatest_held (tree.block ss) = greatest_in ss
  greatest_held (tree.declare ds) = 0
  greatest_held (tree.assign to symbol sign r) = 0
  greatest_held (tree.step to symbol) = 0
  greatest_held (tree.perform r) = 0
  greatest_held (tree.output o) = 0
  greatest_held (tree.input i) = 0
  greatest_held (tree.if_then test a b) = max (greatest a) (greatest_in_maybe b)
  greatest_held (tree.while_loop test body) = greatest body
  greatest_held (tree.do_while body test) = greatest body
  greatest_held (tree.for_loop first test next body) = max (greatest_in_maybe first) (max (greatest_in_maybe next) (greatest body))
  greatest_held (tree.return_with r) = 0
  greatest_held tree.break_out = 0
  greatest_held tree.continue_on = 0
  greatest_held (tree.par bs) = greatest_in_branches bs
  greatest_held (tree.replicated first second third from until b) = greatest_in_branch b
  greatest_held (tree.select cs) = greatest_in_cases cs
  greatest_held (tree.transaction is_master ss) = greatest_in ss

  pub greatest_in_maybe : tree.Maybe → ℕ
  greatest_in_maybe tree.absent = 0
  greatest_in_maybe (tree.present s) = greatest s

  pub greatest_in : tree.Statements → ℕ
  greatest_in tree.no_more = 0
  greatest_in (tree.more s ss) = max (greatest s) (greatest_in ss)

  pub greatest_in_branches : tree.Branches → ℕ
  greatest_in_branches tree.no_branch = 0
  greatest_in_branches (tree.more_branches b bs) = max (greatest_in_branch b) (greatest_in_branches bs)

  pub greatest_in_branch : tree.Branch → ℕ
  greatest_in_branch (tree.branch place s) = greatest s

  pub greatest_in_cases : tree.Cases → ℕ
  greatest_in_cases tree.no_case = 0
  greatest_in_cases (tree.more_cases c cs) = max (greatest_in_case c) (greatest_in_cases cs)

  pub greatest_in_case : tree.Case → ℕ
  greatest_in_case (tree.case pos guard i ss) = greatest_in ss

-- of a function, its head and its body; a port has none
abbrev pub greatest_in_item : tree.Item → ℕ
greatest_in_item (tree.port p) = 0
greatest_in_item (tree.function head body) = max head.own (greatest body)

-- twice the greatest count of a text
abbrev pub twice_greatest : List tree.Item → ℕ
twice_greatest P = 2 * highest greatest_in_item P

-- a life does at most so many instructions for one step of its family, and as many once more
abbrev pub program_bound : List tree.Item → ℕ
program_bound P = 64 * (twice_greatest P + 8)
