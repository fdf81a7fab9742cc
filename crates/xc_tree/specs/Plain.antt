-- The tree as plain data: what the declared types of a tree stand for, without boxes and with lists of their own.
use Rattle.std.specs.Prelude.{ℕ, ◌+◌, Bool, true, false, List, [], ◌∷◌, Option, Some, None}
use Rattle.xw_words.specs.declared.pos.Pos.{Pos}
use Rattle.xc_tree.specs.declared.tree.Id.{Id}
use Rattle.xc_tree.specs.declared.tree.Param.{Param}
use Rattle.xc_tree.specs.declared.tree.TreeDir.{TreeDir}

mutual
  pub data Expression : Type 0 where
    expression : (form : Form) (pos : Pos) → Expression

  -- a symbol is meant by its place in `SYMBOLS`
  pub data Form : Type 0 where
    number : (value : ℕ) (is_unsigned : Bool) → Form
    name : List ℕ → Form
    index : List ℕ → Expression → Form
    unary : (symbol : ℕ) → Expression → Form
    binary : (symbol : ℕ) → Expression → Expression → Form
    choice : (test first second : Expression) → Form
    cast : (is_unsigned : Bool) → Expression → Form

pub record Argument : Type 0 where
  pub value : Expression
  pub first : Pos

pub record Call : Type 0 where
  pub called : Id
  pub arguments : List Argument

pub data RightSide : Type 0 where
  value : Expression → RightSide
  result : Call → RightSide

-- an `@`, and the expression behind it
pub record Timing : Type 0 where
  pub at : Pos
  pub value : Expression

-- a `when`, the place in `WORDS` of its test, and the expression in the test's brackets
pub record Condition : Type 0 where
  pub at : Pos
  pub test : ℕ
  pub value : Expression

pub record Output : Type 0 where
  pub name : Id
  pub time : Option Timing
  pub value : Expression
  pub stamp : Option Timing

-- where the value of an input goes
pub data Target : Type 0 where
  to : Expression → Target
  dropped : Target
  fresh : (is_unsigned : Bool) → Id → Target

pub record Input : Type 0 where
  pub name : Id
  pub time : Option Timing
  pub condition : Option Condition
  pub target : Target
  pub stamp : Option Timing

-- what is declared by one name
pub data Kind : Type 0 where
  word : (is_unsigned : Bool) → Option RightSide → Kind
  array : (is_unsigned : Bool) (length : ℕ) → Pos → Kind
  channel : (is_streaming : Bool) → Kind
  timer : Kind

pub record Declaration : Type 0 where
  pub kind : Kind
  pub name : Id

-- an `on`, the first token of its expression, and that expression
pub record Place : Type 0 where
  pub on : Pos
  pub first : Pos
  pub value : Expression

mutual
  -- with its first and its last token, and how many tokens it has outside the statements that it holds
  pub data Statement : Type 0 where
    statement : (action : Action) (pos close : Pos) (own : ℕ) → Statement

  pub data Action : Type 0 where
    empty : Action
    block : Statements → Action
    declare : List Declaration → Action
    assign : Expression → (symbol : ℕ) → Pos → RightSide → Action
    step : Expression → (symbol : ℕ) → Action
    perform : RightSide → Action
    output : Output → Action
    input : Input → Action
    if_then : Expression → Statement → Maybe → Action
    while_loop : Expression → Statement → Action
    do_while : Statement → Expression → Action
    for_loop : Maybe → Option Expression → Maybe → Statement → Action
    return_with : Option RightSide → Action
    break_out : Action
    continue_on : Action
    par : Branches → Action
    replicated : (first second third : Id) (from until : ℕ) → Branch → Action
    select : Cases → Action
    transaction : (is_master : Bool) → Statements → Action

  pub data Maybe : Type 0 where
    absent : Maybe
    present : Statement → Maybe

  pub data Statements : Type 0 where
    no_more : Statements
    more : Statement → Statements → Statements

  pub data Branch : Type 0 where
    branch : Option Place → Statement → Branch

  pub data Branches : Type 0 where
    no_branch : Branches
    more_branches : Branch → Branches → Branches

  pub data Case : Type 0 where
    case : Pos → (guard : Option Expression) → Option Input → Statements → Case

  pub data Cases : Type 0 where
    no_case : Cases
    more_cases : Case → Cases → Cases

abbrev pub statements : List Statement → Statements
statements [] = no_more
statements (s ∷ ss) = more s (statements ss)

abbrev pub branches : List Branch → Branches
branches [] = no_branch
branches (b ∷ bs) = more_branches b (branches bs)

abbrev pub cases : List Case → Cases
cases [] = no_case
cases (c ∷ cs) = more_cases c (cases cs)

abbrev pub maybe : Option Statement → Maybe
maybe None = absent
maybe (Some s) = present s

pub record Port : Type 0 where
  pub place : Option Place
  pub dir : TreeDir
  pub name : Id
  pub ident : Id

-- what stands before a function's block; no result is `void`
pub record Head : Type 0 where
  pub result : Option Bool
  pub name : Id
  pub params : List Param
  pub own : ℕ

pub data Item : Type 0 where
  port : Port → Item
  function : Head → Statement → Item

-- all tokens of a statement: its own, and those of the statements that it holds
abbrev mutual
  pub tokens : Statement → ℕ
  tokens (statement a p c own) = own + held a

  -- the tokens of the statements that a statement holds
  pub held : Action → ℕ
  held empty = 0
  held (block ss) = all_tokens ss
  held (declare ds) = 0
  held (assign l o p r) = 0
  held (step l o) = 0
  held (perform r) = 0
  held (output o) = 0
  held (input i) = 0
  held (if_then c s o) = tokens s + maybe_tokens o
  held (while_loop c s) = tokens s
  held (do_while s c) = tokens s
  held (for_loop a c b s) = maybe_tokens a + maybe_tokens b + tokens s
  held (return_with r) = 0
  held break_out = 0
  held continue_on = 0
  held (par bs) = branches_tokens bs
  held (replicated a b c f u body) = branch_tokens body
  held (select cs) = cases_tokens cs
  held (transaction m ss) = all_tokens ss

  pub maybe_tokens : Maybe → ℕ
  maybe_tokens absent = 0
  maybe_tokens (present s) = tokens s

  pub all_tokens : Statements → ℕ
  all_tokens no_more = 0
  all_tokens (more s ss) = tokens s + all_tokens ss

  pub branch_tokens : Branch → ℕ
  branch_tokens (branch p s) = tokens s

  pub branches_tokens : Branches → ℕ
  branches_tokens no_branch = 0
  branches_tokens (more_branches b bs) = branch_tokens b + branches_tokens bs

  pub case_tokens : Case → ℕ
  case_tokens (case p g h ss) = all_tokens ss

  pub cases_tokens : Cases → ℕ
  cases_tokens no_case = 0
  cases_tokens (more_cases c cs) = case_tokens c + cases_tokens cs

-- whether a statement ends in an `if` that an `else` behind it would belong to
abbrev mutual
  pub is_open : Statement → Bool
  is_open (statement a p c own) = is_open_action a

  pub is_open_action : Action → Bool
  is_open_action (if_then c s o) = is_open_maybe o
  is_open_action (while_loop c s) = is_open s
  is_open_action (for_loop a c b s) = is_open s
  is_open_action (replicated a b c f u body) = is_open_branch body
  is_open_action _ = false

  pub is_open_maybe : Maybe → Bool
  is_open_maybe absent = true
  is_open_maybe (present s) = is_open s

  pub is_open_branch : Branch → Bool
  is_open_branch (branch p s) = is_open s

-- whether a statement is `break ;`
abbrev pub is_break : Statement → Bool
is_break (statement break_out p c own) = true
is_break _ = false
