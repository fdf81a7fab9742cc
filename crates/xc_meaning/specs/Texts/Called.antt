-- The calls in a statement, and how deep they go.
use Rattle.std.specs.Prelude.{ℕ, zero, suc, List, [], ◌∷◌, length, Option, Some, None, IsNone}
use Rattle.xc_tree.specs.Plain as tree
use Rattle.xc_kernel.specs.Programs.{Function, functions, function_named}

-- something holds of each call in a statement, also where the call is in one that it holds
module _ (Holds : tree.Call → Type 0) where
  abbrev pub EachRight : tree.RightSide → Type 0
  EachRight (tree.value e) = Unit {0}
  EachRight (tree.result call) = Holds call

  abbrev pub EachMaybeRight : Option tree.RightSide → Type 0
  EachMaybeRight None = Unit {0}
  EachMaybeRight (Some r) = EachRight r

  abbrev pub EachKind : tree.Kind → Type 0
  EachKind (tree.word u r) = EachMaybeRight r
  EachKind (tree.array u length pos) = Unit {0}
  EachKind (tree.channel is_streaming) = Unit {0}
  EachKind tree.timer = Unit {0}

  abbrev pub EachName : List tree.Declaration → Type 0
  EachName [] = Unit {0}
  EachName (d ∷ ds) = EachKind d.kind × EachName ds

  abbrev mutual
    pub EachCall : tree.Statement → Type 0
    EachCall (tree.statement action pos close own) = EachIn action

    pub EachIn : tree.Action → Type 0
    EachIn tree.empty = Unit {0}
    EachIn (tree.block ss) = EachOf ss
    EachIn (tree.declare ds) = EachName ds
    EachIn (tree.assign to symbol sign r) = EachRight r
    EachIn (tree.step to symbol) = Unit {0}
    EachIn (tree.perform r) = EachRight r
    EachIn (tree.output o) = Unit {0}
    EachIn (tree.input i) = Unit {0}
    EachIn (tree.if_then test a b) = EachCall a × EachMaybe b
    EachIn (tree.while_loop test body) = EachCall body
    EachIn (tree.do_while body test) = EachCall body
    EachIn (tree.for_loop first test next body) = EachMaybe first × EachMaybe next × EachCall body
    EachIn (tree.return_with r) = EachMaybeRight r
    EachIn tree.break_out = Unit {0}
    EachIn tree.continue_on = Unit {0}
    EachIn (tree.par bs) = EachBranch bs
    EachIn (tree.replicated first second third from until b) = EachOne b
    EachIn (tree.select cs) = EachCase cs
    EachIn (tree.transaction is_master ss) = EachOf ss

    pub EachMaybe : tree.Maybe → Type 0
    EachMaybe tree.absent = Unit {0}
    EachMaybe (tree.present s) = EachCall s

    pub EachOf : tree.Statements → Type 0
    EachOf tree.no_more = Unit {0}
    EachOf (tree.more s ss) = EachCall s × EachOf ss

    pub EachOne : tree.Branch → Type 0
    EachOne (tree.branch place s) = EachCall s

    pub EachBranch : tree.Branches → Type 0
    EachBranch tree.no_branch = Unit {0}
    EachBranch (tree.more_branches b bs) = EachOne b × EachBranch bs

    pub EachCase : tree.Cases → Type 0
    EachCase tree.no_case = Unit {0}
    EachCase (tree.more_cases a cs) = EachOneCase a × EachCase cs

    pub EachOneCase : tree.Case → Type 0
    EachOneCase (tree.case pos guard i ss) = EachOf ss

-- something holds of each call in a function, where there is one
abbrev pub EachInFunction : (tree.Call → Type 0) → Option Function → Type 0
EachInFunction Holds None = Unit {0}
EachInFunction Holds (Some f) = EachCall Holds f.body

-- A call goes at most so deep: it calls a function whose calls go less deep, or none that is there. A call of a function that isn't
-- there, and a value that stands alone, are steps that change nothing. No accepted program has them, and so the copy rule and the
-- meaning agree on all trees.
abbrev pub GoesWithin : List Function → ℕ → tree.Call → Type 0
GoesWithin fs zero call = IsNone (function_named fs call.called.text)
GoesWithin fs (suc n) call = EachInFunction (GoesWithin fs n) (function_named fs call.called.text)

-- No chain of calls is longer than there are functions. So it is where each called name means a function, no name is declared
-- twice in a scope, and no call stands on a cycle of calls.
pub record CallsEnd (P : List tree.Item) : Type 0 where
  pub each : (call : tree.Call) → GoesWithin (functions P) (length (functions P)) call
