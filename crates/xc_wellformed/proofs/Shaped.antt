-- What the grammar says of a tree that isn't in its type: what holds of each expression, of each place that is assigned to, and
-- of each operator that assigns.
use Rattle.std.specs.Prelude.{◌≡◌, ◌⊎◌, ℕ, zero, suc, Bool, true, false, nat_eq, List, [], ◌∷◌, Option, Some, None}
use Rattle.xc_tree.specs.Plain as tree
use Rattle.xc_tree.specs.Symbols.{equals}
use Rattle.xc_tree.specs.Words.{pinseq_word, pinsneq_word, timerafter_word}
use Rattle.xc_kernel.specs.Operators.{operator_at, operator_of}
use Rattle.xc_wellformed.specs.Operands.{takes, IsProper}
use Rattle.xc_kernel.specs.Programs.{Function, function_named}

-- what can be assigned to is a name or an element
abbrev pub IsLval : tree.Expression → Type 0
IsLval (tree.expression (tree.name t) p) = Unit {0}
IsLval (tree.expression (tree.index t i) p) = Unit {0}
IsLval other = ⊥

-- what can be assigned to, with a proper index
abbrev pub IsProperLval : tree.Expression → Type 0
IsProperLval e = IsLval e × IsProper e

-- a symbol that assigns does so by an operator of two operands
abbrev pub Assigns : ℕ → Type 0
Assigns symbol = takes (operator_at (operator_of symbol)) 2 ≡ true

abbrev pub AnyCall : tree.Call → Type 0
AnyCall call = Unit {0}

-- a `when` asks for pins or for a time
abbrev pub AsksRight : tree.Condition → Type 0
AsksRight w = (w.test ≡ pinseq_word) ⊎ ((w.test ≡ pinsneq_word) ⊎ (w.test ≡ timerafter_word))

-- an input waits for a time, a condition, or neither of both
abbrev pub Waits : Option tree.Timing → Option tree.Condition → Type 0
Waits time None = Unit {0}
Waits None (Some w) = AsksRight w
Waits (Some t) (Some w) = ⊥

abbrev pub WaitsRight : tree.Input → Type 0
WaitsRight i = Waits i.time i.condition

-- X of expressions, V of places, S of operators that assign, and C of calls
module _ (X V : tree.Expression → Type 0) (S : ℕ → Type 0) (C : tree.Call → Type 0) where
  abbrev pub ShapedArguments : List tree.Argument → Type 0
  ShapedArguments [] = Unit {0}
  ShapedArguments (a ∷ rest) = X a.value × ShapedArguments rest

  abbrev pub ShapedRight : tree.RightSide → Type 0
  ShapedRight (tree.value e) = X e
  ShapedRight (tree.result call) = C call × ShapedArguments call.arguments

  abbrev pub ShapedMaybeRight : Option tree.RightSide → Type 0
  ShapedMaybeRight None = Unit {0}
  ShapedMaybeRight (Some r) = ShapedRight r

  abbrev pub ShapedMaybeExpression : Option tree.Expression → Type 0
  ShapedMaybeExpression None = Unit {0}
  ShapedMaybeExpression (Some e) = X e

  abbrev pub ShapedTime : Option tree.Timing → Type 0
  ShapedTime None = Unit {0}
  ShapedTime (Some t) = X t.value

  abbrev pub ShapedStamp : Option tree.Timing → Type 0
  ShapedStamp None = Unit {0}
  ShapedStamp (Some t) = V t.value

  abbrev pub ShapedCondition : Option tree.Condition → Type 0
  ShapedCondition None = Unit {0}
  ShapedCondition (Some w) = X w.value

  abbrev pub ShapedTarget : tree.Target → Type 0
  ShapedTarget (tree.to e) = V e
  ShapedTarget tree.dropped = Unit {0}
  ShapedTarget (tree.fresh u name) = Unit {0}

  abbrev pub ShapedOutput : tree.Output → Type 0
  ShapedOutput o = ShapedTime o.time × (X o.value × ShapedStamp o.stamp)

  abbrev pub ShapedInput : tree.Input → Type 0
  ShapedInput i = WaitsRight i × (ShapedTime i.time × (ShapedCondition i.condition × (ShapedTarget i.target × ShapedStamp i.stamp)))

  abbrev pub ShapedMaybeInput : Option tree.Input → Type 0
  ShapedMaybeInput None = Unit {0}
  ShapedMaybeInput (Some i) = ShapedInput i

  abbrev pub ShapedKind : tree.Kind → Type 0
  ShapedKind (tree.word u r) = ShapedMaybeRight r
  ShapedKind (tree.array u l pos) = Unit {0}
  ShapedKind (tree.channel streaming) = Unit {0}
  ShapedKind tree.timer = Unit {0}

  abbrev pub ShapedDeclarations : List tree.Declaration → Type 0
  ShapedDeclarations [] = Unit {0}
  ShapedDeclarations (d ∷ ds) = ShapedKind d.kind × ShapedDeclarations ds

  -- an operator that assigns has no call at its right
  abbrev pub OnlyValue : Bool → tree.RightSide → Type 0
  OnlyValue true r = Unit {0}
  OnlyValue false (tree.value e) = Unit {0}
  OnlyValue false (tree.result call) = ⊥

  -- what follows each turn of a `for` assigns, and declares nothing
  abbrev pub IsStep : tree.Action → Type 0
  IsStep (tree.assign to symbol at r) = Unit {0}
  IsStep (tree.step to symbol) = Unit {0}
  IsStep other = ⊥

  abbrev pub IsStepAtMost : tree.Maybe → Type 0
  IsStepAtMost tree.absent = Unit {0}
  IsStepAtMost (tree.present (tree.statement a pos close own)) = IsStep a

  abbrev mutual
    pub ShapedStatement : tree.Statement → Type 0
    ShapedStatement (tree.statement a pos close own) = ShapedAction a

    pub ShapedAction : tree.Action → Type 0
    ShapedAction tree.empty = Unit {0}
    ShapedAction (tree.block ss) = ShapedStatements ss
    ShapedAction (tree.declare ds) = ShapedDeclarations ds
    ShapedAction (tree.assign to symbol at r) = V to × (S symbol × (ShapedRight r × OnlyValue (nat_eq symbol equals) r))
    ShapedAction (tree.step to symbol) = V to × S symbol
    ShapedAction (tree.perform r) = ShapedRight r
    ShapedAction (tree.output o) = ShapedOutput o
    ShapedAction (tree.input i) = ShapedInput i
    ShapedAction (tree.if_then test a b) = X test × (ShapedStatement a × ShapedMaybe b)
    ShapedAction (tree.while_loop test body) = X test × ShapedStatement body
    ShapedAction (tree.do_while body test) = ShapedStatement body × X test
    ShapedAction (tree.for_loop first test next body) = ShapedMaybe first × (ShapedMaybeExpression test × ((ShapedMaybe next × IsStepAtMost next) × ShapedStatement body))
    ShapedAction (tree.return_with r) = ShapedMaybeRight r
    ShapedAction tree.break_out = Unit {0}
    ShapedAction tree.continue_on = Unit {0}
    ShapedAction (tree.par bs) = ShapedBranches bs
    ShapedAction (tree.replicated a b c from until body) = ShapedBranch body
    ShapedAction (tree.select cs) = ShapedCases cs
    ShapedAction (tree.transaction is_master ss) = ShapedStatements ss

    pub ShapedMaybe : tree.Maybe → Type 0
    ShapedMaybe tree.absent = Unit {0}
    ShapedMaybe (tree.present s) = ShapedStatement s

    pub ShapedStatements : tree.Statements → Type 0
    ShapedStatements tree.no_more = Unit {0}
    ShapedStatements (tree.more s ss) = ShapedStatement s × ShapedStatements ss

    pub ShapedBranch : tree.Branch → Type 0
    ShapedBranch (tree.branch place s) = ShapedStatement s

    pub ShapedBranches : tree.Branches → Type 0
    ShapedBranches tree.no_branch = Unit {0}
    ShapedBranches (tree.more_branches b bs) = ShapedBranch b × ShapedBranches bs

    pub ShapedCases : tree.Cases → Type 0
    ShapedCases tree.no_case = Unit {0}
    ShapedCases (tree.more_cases (tree.case pos guard i ss) cs) = (ShapedMaybeExpression guard × (ShapedMaybeInput i × ShapedStatements ss)) × ShapedCases cs

-- what holds of a call, and of all calls in the function that it calls, and so on; so deep no function is called any more
module _ (X V : tree.Expression → Type 0) (S : ℕ → Type 0) (fs : List Function) where
  abbrev pub Deep : ℕ → tree.Call → Type 0
  Deep zero call = function_named fs call.called.text ≡ None
  Deep (suc m) call = (f : Function) → function_named fs call.called.text ≡ Some f → ShapedStatement X V S (Deep m) f.body
