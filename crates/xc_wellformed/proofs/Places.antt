-- The places by which paths are made: of the names that are declared and of those that are called, and of the words of loops and cases.
use Rattle.std.specs.Prelude.{◌≡◌, ◌⊎◌, ◌<◌, List, [], ◌∷◌, ◌++◌, Option, Some, None}
use Rattle.xw_words.specs.declared.pos.Pos.{Pos}
use Rattle.xc_tree.specs.declared.tree.Param.{Param}
use Rattle.xc_tree.specs.Plain as tree
use Rattle.xc_kernel.specs.Programs.{Function}

abbrev pub of_right : tree.RightSide → List Pos
of_right (tree.value e) = []
of_right (tree.result call) = call.called.pos ∷ []

abbrev pub of_maybe_right : Option tree.RightSide → List Pos
of_maybe_right None = []
of_maybe_right (Some r) = of_right r

abbrev pub of_kind : tree.Kind → List Pos
of_kind (tree.word u r) = of_maybe_right r
of_kind (tree.array u length pos) = []
of_kind (tree.channel streaming) = []
of_kind tree.timer = []

abbrev pub of_declarations : List tree.Declaration → List Pos
of_declarations [] = []
of_declarations (d ∷ ds) = d.name.pos ∷ (of_kind d.kind ++ of_declarations ds)

abbrev pub of_target : tree.Target → List Pos
of_target (tree.to e) = []
of_target tree.dropped = []
of_target (tree.fresh u name) = name.pos ∷ []

abbrev pub of_maybe_input : Option tree.Input → List Pos
of_maybe_input None = []
of_maybe_input (Some i) = of_target i.target

abbrev mutual
  pub of_statement : tree.Statement → List Pos
  of_statement (tree.statement action pos close own) = of_action pos action

  pub of_action : Pos → tree.Action → List Pos
  of_action pos tree.empty = []
  of_action pos (tree.block ss) = of_statements ss
  of_action pos (tree.declare ds) = of_declarations ds
  of_action pos (tree.assign to symbol at r) = of_right r
  of_action pos (tree.step to symbol) = []
  of_action pos (tree.perform r) = of_right r
  of_action pos (tree.output o) = []
  of_action pos (tree.input i) = of_target i.target
  of_action pos (tree.if_then test a b) = of_statement a ++ of_maybe b
  of_action pos (tree.while_loop test body) = pos ∷ of_statement body
  of_action pos (tree.do_while body test) = pos ∷ of_statement body
  of_action pos (tree.for_loop first test next body) = pos ∷ (of_maybe first ++ (of_maybe next ++ of_statement body))
  of_action pos (tree.return_with r) = of_maybe_right r
  of_action pos tree.break_out = []
  of_action pos tree.continue_on = []
  of_action pos (tree.par bs) = of_branches bs
  of_action pos (tree.replicated first second third from until b) = of_branch b
  of_action pos (tree.select cs) = of_cases cs
  of_action pos (tree.transaction is_master ss) = of_statements ss

  pub of_maybe : tree.Maybe → List Pos
  of_maybe tree.absent = []
  of_maybe (tree.present s) = of_statement s

  pub of_statements : tree.Statements → List Pos
  of_statements tree.no_more = []
  of_statements (tree.more s ss) = of_statement s ++ of_statements ss

  pub of_branch : tree.Branch → List Pos
  of_branch (tree.branch place s) = of_statement s

  pub of_branches : tree.Branches → List Pos
  of_branches tree.no_branch = []
  of_branches (tree.more_branches b bs) = of_branch b ++ of_branches bs

  pub of_case : tree.Case → List Pos
  of_case (tree.case pos guard i ss) = pos ∷ (of_maybe_input i ++ of_statements ss)

  pub of_cases : tree.Cases → List Pos
  of_cases tree.no_case = []
  of_cases (tree.more_cases c cs) = of_case c ++ of_cases cs

abbrev pub of_params : List Param → List Pos
of_params [] = []
of_params (p ∷ ps) = p.name.pos ∷ of_params ps

abbrev pub of_function : Function → List Pos
of_function f = f.head.name.pos ∷ (of_params f.head.params ++ of_statement f.body)

-- places that differ, in lines that count from 1

abbrev pub In : {A : Type 0} → A → List A → Type 0
In x [] = ⊥
In x (y ∷ ys) = (y ≡ x) ⊎ In x ys

abbrev pub Differ : List Pos → Type 0
Differ [] = Unit {0}
Differ (k ∷ ks) = (0 < k.line) × ((In k ks → ⊥) × Differ ks)

abbrev pub FunctionDiffers : Function → Type 0
FunctionDiffers f = Differ (of_function f)
