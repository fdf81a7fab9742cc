-- The kernel as plain data: what the declared types of a kernel stand for, without boxes and with lists of their own.
use Rattle.std.specs.Prelude.{ℕ, Bool, List, [], ◌∷◌, Option, Some, None}
use Rattle.xw_words.specs.declared.pos.Pos.{Pos}
use Rattle.xc_kernel.specs.declared.statement.KRes.{KRes}
use Rattle.xc_kernel.specs.declared.kernel.Var.{Var}
use Rattle.xc_kernel.specs.declared.kernel.Chan.{Chan}
use Rattle.xc_kernel.specs.declared.kernel.Timer.{Timer}
use Rattle.xc_kernel.specs.declared.kernel.PortUse.{PortUse}
use Rattle.xc_kernel.specs.declared.kernel.Inst.{Inst}

mutual
  pub data Expression : Type 0 where
    number : (value : ℕ) → Expression
    read : Place → Expression
    -- a symbol is meant by its place in `SYMBOLS`
    operation : (symbol : ℕ) (is_unsigned : Bool) → Operands → Pos → Expression

  pub data Operands : Type 0 where
    no_operand : Operands
    more_operands : Expression → Operands → Operands

  -- the word of a variable, or an element of an array; a variable is meant by its place in the kernel's list
  pub data Place : Type 0 where
    word : (variable : ℕ) → Place
    element : (variable : ℕ) (index : Expression) → Pos → Place

-- a test, by the place of its word in `WORDS`, and the expression in its brackets
pub record Condition : Type 0 where
  pub test : ℕ
  pub value : Expression

-- an output: to where, when, what, and where the counter is stored
pub record Output : Type 0 where
  pub resource : KRes
  pub time : Option Expression
  pub value : Expression
  pub stamp : Option Place
  pub pos : Pos

-- an input: from where, what it waits for, and where the word and the counter are stored
pub record Input : Type 0 where
  pub resource : KRes
  pub time : Option Expression
  pub condition : Option Condition
  pub target : Option Place
  pub stamp : Option Place
  pub pos : Pos

mutual
  pub data Statement : Type 0 where
    set_zero : (variable : ℕ) → Statement
    set : Place → Expression → Statement
    output : Output → Statement
    input : Input → Statement
    if_then : Expression → (first second : Statements) → Statement
    loop : Expression → (body next : Statements) → Statement
    block : (number : ℕ) → Statements → Statement
    exit : (number : ℕ) → Statement
    select : Cases → Default → Pos → Statement
    par : Branches → Statement
    transaction : (channel : ℕ) (is_master : Bool) → Statements → (start close : Pos) → Statement

  pub data Statements : Type 0 where
    no_more : Statements
    more : Statement → Statements → Statements

  pub data Case : Type 0 where
    case : (guard : Option Expression) → Input → Statements → Case

  pub data Cases : Type 0 where
    no_case : Cases
    more_cases : Case → Cases → Cases

  -- what a `select` does where no case is ready, if it doesn't wait
  pub data Default : Type 0 where
    no_default : Default
    default : Statements → Default

  -- With the first token of its statement. Rules on branches are answered at that place, and by then the tree is gone.
  pub data Branch : Type 0 where
    branch : Statements → Pos → Branch

  pub data Branches : Type 0 where
    no_branch : Branches
    more_branches : Branch → Branches → Branches

-- a branch that runs from the start
pub record Root : Type 0 where
  pub core : ℕ
  pub place : Pos
  pub body : Statements
  pub pos : Pos

-- all of a kernel; numbers elsewhere are places in these lists
pub record Kernel : Type 0 where
  pub roots : List Root
  pub variables : List Var
  pub channels : List Chan
  pub timers : List Timer
  pub ports : List PortUse
  pub instances : List Inst
  pub main : Pos

-- lists of plain data
abbrev pub operands : List Expression → Operands
operands [] = no_operand
operands (e ∷ es) = more_operands e (operands es)

abbrev pub statements : List Statement → Statements
statements [] = no_more
statements (s ∷ ss) = more s (statements ss)

abbrev pub cases : List Case → Cases
cases [] = no_case
cases (c ∷ cs) = more_cases c (cases cs)

abbrev pub branches : List Branch → Branches
branches [] = no_branch
branches (b ∷ bs) = more_branches b (branches bs)

abbrev pub default_by : Option (List Statement) → Default
default_by None = no_default
default_by (Some ss) = default (statements ss)
