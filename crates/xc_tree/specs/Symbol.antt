-- The symbols of the grammar, and what each of them stands for in the tree.
use Rattle.std.specs.Prelude.{ℕ, Bool, List, [], ◌∷◌, Option}
use Rattle.xw_words.specs.declared.pos.Pos.{Pos}
use Rattle.xc_tree.specs.declared.tree.Id.{Id}
use Rattle.xc_tree.specs.declared.tree.Param.{Param}
use Rattle.xc_tree.specs.declared.tree.TreeDir.{TreeDir}
use Rattle.xc_tree.specs.Plain as plain

pub data Symbol : Type 0 where
  -- tokens: a symbol and a word, by their places in `SYMBOLS` and `WORDS`; a name; a number
  sym : ℕ → Symbol
  key : ℕ → Symbol
  a_name : Symbol
  a_number : Symbol
  -- { s }, [ s ], and s { "," s }
  many : Symbol → Symbol
  maybe : Symbol → Symbol
  commas : Symbol → Symbol
  -- the program and its items
  program : Symbol
  item : Symbol
  portdecl : Symbol
  dir : Symbol
  place : Symbol
  place_value : Symbol
  head : Symbol
  result : Symbol
  word : Symbol
  params : Symbol
  param : Symbol
  body : Symbol
  -- declarations and statements
  block : Symbol
  block_item : Symbol
  decl : Symbol
  dv : Symbol
  initial : Symbol
  statement : Symbol
  closed : Symbol
  case_item : Symbol
  for_start : Symbol
  for_step : Symbol
  branch : Symbol
  case : Symbol
  guard : Symbol
  -- parts of statements
  assign : Symbol
  assign_op : Symbol
  rhs : Symbol
  call : Symbol
  arguments : Symbol
  argument : Symbol
  lval : Symbol
  output : Symbol
  input : Symbol
  time : Symbol
  stamp : Symbol
  waits : Symbol
  test : Symbol
  dest : Symbol
  -- expressions: with `? :`; of a level, from 10 for `||` down to 0 for unary; the operators of a level and before an
  -- operand; the strongest
  expr : Symbol
  level : ℕ → Symbol
  operator : ℕ → Symbol
  sign : Symbol
  atom : Symbol

pub record Numeral : Type 0 where
  pub value : ℕ
  pub is_unsigned : Bool
  pub pos : Pos

-- an operator, by its place in `SYMBOLS`, and where it stands
pub record Marked : Type 0 where
  pub mark : ℕ
  pub pos : Pos

-- what stands between the name of an input and its `:>`
pub data Waits : Type 0 where
  at_once : Waits
  at_time : plain.Timing → Waits
  when_true : plain.Condition → Waits

-- what a declared name is, once the type of the words is known
pub data Declarator : Type 0 where
  a_word : Id → Option plain.RightSide → Declarator
  an_array : Id → (length : ℕ) → Pos → Declarator

-- what a symbol stands for
abbrev pub Value : Symbol → Type 0
Value (sym o) = Pos
Value (key w) = Pos
Value a_name = Id
Value a_number = Numeral
Value (many s) = List (Value s)
Value (maybe s) = Option (Value s)
Value (commas s) = List (Value s)
Value program = List plain.Item
Value item = Option plain.Item
Value portdecl = plain.Port
Value dir = TreeDir
Value place = plain.Place
Value place_value = plain.Argument
Value head = plain.Head
Value result = Option Bool
Value word = Bool
Value params = List Param
Value param = Param
Value body = plain.Statement
Value block = List plain.Statement
Value block_item = plain.Statement
Value decl = plain.Statement
Value dv = Declarator
Value initial = plain.RightSide
Value statement = plain.Statement
Value closed = plain.Statement
Value case_item = plain.Statement
Value for_start = plain.Statement
Value for_step = plain.Statement
Value branch = plain.Branch
Value case = plain.Case
Value guard = plain.Expression
Value assign = plain.Action
Value assign_op = Marked
Value rhs = plain.RightSide
Value call = plain.Call
Value arguments = List plain.Argument
Value argument = plain.Argument
Value lval = plain.Expression
Value output = plain.Output
Value input = plain.Input
Value time = plain.Timing
Value stamp = plain.Timing
Value waits = Waits
Value test = ℕ
Value dest = plain.Target
Value expr = plain.Expression
Value (level m) = plain.Expression
Value (operator m) = Marked
Value sign = Marked
Value atom = plain.Expression

-- the values of a row of symbols
abbrev pub Values : List Symbol → Type 0
Values [] = Unit {0}
Values (s ∷ ss) = Value s × Values ss
