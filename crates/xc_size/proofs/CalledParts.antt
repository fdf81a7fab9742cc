-- The functions that are called in a program, part by part, and that these are those of the names that are called there.
use Rattle.std.proofs.Common.{◌≡◌, ℕ, List, [], ◌∷◌, ◌++◌, Option, Some, None, refl, ap, ◌∙◌, append-nil}
use Rattle.xw_words.specs.declared.pos.Pos.{Pos}
use Rattle.xc_tree.specs.declared.names.Mark.{Mark}
use Rattle.xc_tree.specs.declared.names.What.TheVariants as what
use Rattle.xc_tree.specs.declared.names.Mark.TheVariants.{Opens, Closes, Declares, Uses, Calls}
use Rattle.xc_tree.specs.Names.Marks as marks
use Rattle.xc_tree.specs.Plain as tree
use Rattle.xc_size.specs.Callees.{called_numbers}

-- what stands in a part that may be absent
abbrev pub optional : {V : Type 0} → (V → List (Option ℕ)) → Option V → List (Option ℕ)
optional f None = []
optional f (Some x) = f x

-- what stands in each of a list
abbrev pub each : {V : Type 0} → (V → List (Option ℕ)) → List V → List (Option ℕ)
each f [] = []
each f (x ∷ xs) = f x ++ each f xs

-- by the numbers of names
module _ (number : List ℕ → Option ℕ) where
  abbrev pub of_right : tree.RightSide → List (Option ℕ)
  of_right (tree.value e) = []
  of_right (tree.result call) = number call.called.text ∷ []

  abbrev pub of_kind : tree.Kind → List (Option ℕ)
  of_kind (tree.word u r) = optional of_right r
  of_kind (tree.array u length pos) = []
  of_kind (tree.channel streaming) = []
  of_kind tree.timer = []

  abbrev pub of_declaration : tree.Declaration → List (Option ℕ)
  of_declaration d = of_kind d.kind

  abbrev mutual
    pub of_statement : tree.Statement → List (Option ℕ)
    of_statement (tree.statement action pos close own) = of_action action

    pub of_action : tree.Action → List (Option ℕ)
    of_action tree.empty = []
    of_action (tree.block ss) = of_statements ss
    of_action (tree.declare ds) = each of_declaration ds
    of_action (tree.assign to symbol at r) = of_right r
    of_action (tree.step to symbol) = []
    of_action (tree.perform r) = of_right r
    of_action (tree.output o) = []
    of_action (tree.input i) = []
    of_action (tree.if_then test a b) = of_statement a ++ of_maybe b
    of_action (tree.while_loop test body) = of_statement body
    of_action (tree.do_while body test) = of_statement body
    of_action (tree.for_loop first test next body) = of_maybe first ++ (of_maybe next ++ of_statement body)
    of_action (tree.return_with r) = optional of_right r
    of_action tree.break_out = []
    of_action tree.continue_on = []
    of_action (tree.par bs) = of_branches bs
    of_action (tree.replicated first second third from until b) = of_branch b
    of_action (tree.select cs) = of_cases cs
    of_action (tree.transaction is_master ss) = of_statements ss

    pub of_maybe : tree.Maybe → List (Option ℕ)
    of_maybe tree.absent = []
    of_maybe (tree.present s) = of_statement s

    pub of_statements : tree.Statements → List (Option ℕ)
    of_statements tree.no_more = []
    of_statements (tree.more s ss) = of_statement s ++ of_statements ss

    pub of_branch : tree.Branch → List (Option ℕ)
    of_branch (tree.branch place s) = of_statement s

    pub of_branches : tree.Branches → List (Option ℕ)
    of_branches tree.no_branch = []
    of_branches (tree.more_branches b bs) = of_branch b ++ of_branches bs

    pub of_cases : tree.Cases → List (Option ℕ)
    of_cases tree.no_case = []
    of_cases (tree.more_cases a cs) = of_case a ++ of_cases cs

    pub of_case : tree.Case → List (Option ℕ)
    of_case (tree.case pos guard i ss) = of_statements ss

module _ (n : List ℕ → Option ℕ) where
  pub numbers_append : (a b : List Mark) → called_numbers n (a ++ b) ≡ called_numbers n a ++ called_numbers n b
  numbers_append [] b = refl
  numbers_append (Opens ∷ ms) b = numbers_append ms b
  numbers_append (Closes ∷ ms) b = numbers_append ms b
  numbers_append (Declares d ∷ ms) b = numbers_append ms b
  numbers_append (Uses i ∷ ms) b = numbers_append ms b
  numbers_append (Calls i ∷ ms) b = ap (λ os. n i.text ∷ os) (numbers_append ms b)

  -- what stands behind a part without a call, and before one
  behind : (a b : List Mark) → called_numbers n a ≡ [] → called_numbers n (a ++ b) ≡ called_numbers n b
  behind a b h = numbers_append a b ∙ ap (λ os. os ++ called_numbers n b) h

  before : (a b : List Mark) → called_numbers n b ≡ [] → called_numbers n (a ++ b) ≡ called_numbers n a
  before a b h = numbers_append a b ∙ ap (λ os. called_numbers n a ++ os) h ∙ append-nil (called_numbers n a)

  joined : (a b : List Mark) (p q : List (Option ℕ)) → called_numbers n a ≡ p → called_numbers n b ≡ q → called_numbers n (a ++ b) ≡ p ++ q
  joined a b p q h k = numbers_append a b ∙ ap (λ os. os ++ called_numbers n b) h ∙ ap (λ os. p ++ os) k

  scope : (ms : List Mark) → called_numbers n (marks.in_scope ms) ≡ called_numbers n ms
  scope ms = before ms (Closes ∷ []) refl

  mutual
    expression : (e : tree.Expression) → called_numbers n (marks.of_expression e) ≡ []
    expression (tree.expression f p) = form p f

    form : (p : Pos) (f : tree.Form) → called_numbers n (marks.of_form p f) ≡ []
    form p (tree.number v u) = refl
    form p (tree.name t) = refl
    form p (tree.index t e) = expression e
    form p (tree.unary o e) = expression e
    form p (tree.binary o a b) = behind (marks.of_expression a) (marks.of_expression b) (expression a) ∙ expression b
    form p (tree.choice c a b) =
        behind (marks.of_expression c) (marks.of_expression a ++ marks.of_expression b) (expression c)
        ∙ behind (marks.of_expression a) (marks.of_expression b) (expression a) ∙ expression b
    form p (tree.cast u e) = expression e

  expression_if_any : (e : Option tree.Expression) → called_numbers n (marks.optional marks.of_expression e) ≡ []
  expression_if_any None = refl
  expression_if_any (Some e) = expression e

  arguments : (xs : List tree.Argument) → called_numbers n (marks.each marks.of_argument xs) ≡ []
  arguments [] = refl
  arguments (x ∷ xs) = behind (marks.of_argument x) (marks.each marks.of_argument xs) (expression x.value) ∙ arguments xs

  timing : (t : Option tree.Timing) → called_numbers n (marks.optional marks.of_timing t) ≡ []
  timing None = refl
  timing (Some t) = expression t.value

  condition : (c : Option tree.Condition) → called_numbers n (marks.optional marks.of_condition c) ≡ []
  condition None = refl
  condition (Some c) = expression c.value

  place : (p : Option tree.Place) → called_numbers n (marks.optional marks.of_place p) ≡ []
  place None = refl
  place (Some p) = expression p.value

  target : (t : tree.Target) → called_numbers n (marks.of_target t) ≡ []
  target (tree.to e) = expression e
  target tree.dropped = refl
  target (tree.fresh u i) = refl

  output : (o : tree.Output) → called_numbers n (marks.of_output o) ≡ []
  output o =
      behind (marks.optional marks.of_timing o.time) (marks.of_expression o.value ++ marks.optional marks.of_timing o.stamp) (timing o.time)
      ∙ behind (marks.of_expression o.value) (marks.optional marks.of_timing o.stamp) (expression o.value) ∙ timing o.stamp

  input : (i : tree.Input) → called_numbers n (marks.of_input i) ≡ []
  input i =
      behind (marks.optional marks.of_timing i.time) (marks.optional marks.of_condition i.condition ++ (marks.of_target i.target ++ marks.optional marks.of_timing i.stamp)) (timing i.time)
      ∙ behind (marks.optional marks.of_condition i.condition) (marks.of_target i.target ++ marks.optional marks.of_timing i.stamp) (condition i.condition)
      ∙ behind (marks.of_target i.target) (marks.optional marks.of_timing i.stamp) (target i.target) ∙ timing i.stamp

  input_if_any : (i : Option tree.Input) → called_numbers n (marks.optional marks.of_input i) ≡ []
  input_if_any None = refl
  input_if_any (Some i) = input i

  right : (r : tree.RightSide) → called_numbers n (marks.of_right r) ≡ of_right n r
  right (tree.value e) = expression e
  right (tree.result c) = ap (λ os. n c.called.text ∷ os) (arguments c.arguments)

  right_if_any : (r : Option tree.RightSide) → called_numbers n (marks.optional marks.of_right r) ≡ optional (of_right n) r
  right_if_any None = refl
  right_if_any (Some r) = right r

  initial : (k : tree.Kind) → called_numbers n (marks.of_initial k) ≡ of_kind n k
  initial (tree.word u r) = right_if_any r
  initial (tree.array u l p) = refl
  initial (tree.channel s) = refl
  initial tree.timer = refl

  declarations : (ds : List tree.Declaration) → called_numbers n (marks.each marks.of_declaration ds) ≡ each (of_declaration n) ds
  declarations [] = refl
  declarations (d ∷ ds) =
      joined (marks.of_declaration d) (marks.each marks.of_declaration ds) (of_declaration n d) (each (of_declaration n) ds) (initial d.kind) (declarations ds)

  mutual
    pub statement : (s : tree.Statement) → called_numbers n (marks.of_statement s) ≡ of_statement n s
    statement (tree.statement a p c own) = action a

    action : (a : tree.Action) → called_numbers n (marks.of_action a) ≡ of_action n a
    action tree.empty = refl
    action (tree.block ss) = scope (marks.of_statements ss) ∙ statements ss
    action (tree.declare ds) = declarations ds
    action (tree.assign l o p r) = behind (marks.of_expression l) (marks.of_right r) (expression l) ∙ right r
    action (tree.step l o) = expression l
    action (tree.perform r) = right r
    action (tree.output o) = output o
    action (tree.input i) = input i
    action (tree.if_then c s o) =
        behind (marks.of_expression c) (marks.of_statement s ++ marks.of_maybe o) (expression c)
        ∙ joined (marks.of_statement s) (marks.of_maybe o) (of_statement n s) (of_maybe n o) (statement s) (maybe o)
    action (tree.while_loop c s) = behind (marks.of_expression c) (marks.of_statement s) (expression c) ∙ statement s
    action (tree.do_while s c) = before (marks.of_statement s) (marks.of_expression c) (expression c) ∙ statement s
    action (tree.for_loop a c b s) =
        scope (marks.of_maybe a ++ (marks.optional marks.of_expression c ++ (marks.of_maybe b ++ marks.of_statement s)))
        ∙ joined (marks.of_maybe a) (marks.optional marks.of_expression c ++ (marks.of_maybe b ++ marks.of_statement s)) (of_maybe n a) (of_maybe n b ++ of_statement n s) (maybe a)
        (behind (marks.optional marks.of_expression c) (marks.of_maybe b ++ marks.of_statement s) (expression_if_any c)
        ∙ joined (marks.of_maybe b) (marks.of_statement s) (of_maybe n b) (of_statement n s) (maybe b) (statement s))
    action (tree.return_with r) = right_if_any r
    action tree.break_out = refl
    action tree.continue_on = refl
    action (tree.par bs) = branches bs
    action (tree.replicated a b c f u body) = scope (marks.declares a what.Index ∷ Uses b ∷ Uses c ∷ marks.of_branch body) ∙ branch body
    action (tree.select cs) = cases cs
    action (tree.transaction m ss) = scope (marks.of_statements ss) ∙ statements ss

    maybe : (m : tree.Maybe) → called_numbers n (marks.of_maybe m) ≡ of_maybe n m
    maybe tree.absent = refl
    maybe (tree.present s) = statement s

    statements : (ss : tree.Statements) → called_numbers n (marks.of_statements ss) ≡ of_statements n ss
    statements tree.no_more = refl
    statements (tree.more s ss) = joined (marks.of_statement s) (marks.of_statements ss) (of_statement n s) (of_statements n ss) (statement s) (statements ss)

    branch : (b : tree.Branch) → called_numbers n (marks.of_branch b) ≡ of_branch n b
    branch (tree.branch p s) = behind (marks.optional marks.of_place p) (marks.of_statement s) (place p) ∙ statement s

    branches : (bs : tree.Branches) → called_numbers n (marks.of_branches bs) ≡ of_branches n bs
    branches tree.no_branch = refl
    branches (tree.more_branches b bs) = joined (marks.of_branch b) (marks.of_branches bs) (of_branch n b) (of_branches n bs) (branch b) (branches bs)

    case : (c : tree.Case) → called_numbers n (marks.of_case c) ≡ of_case n c
    case (tree.case p g i ss) =
        scope (marks.optional marks.of_expression g ++ (marks.optional marks.of_input i ++ marks.of_statements ss))
        ∙ behind (marks.optional marks.of_expression g) (marks.optional marks.of_input i ++ marks.of_statements ss) (expression_if_any g)
        ∙ behind (marks.optional marks.of_input i) (marks.of_statements ss) (input_if_any i) ∙ statements ss

    cases : (cs : tree.Cases) → called_numbers n (marks.of_cases cs) ≡ of_cases n cs
    cases tree.no_case = refl
    cases (tree.more_cases c cs) = joined (marks.of_case c) (marks.of_cases cs) (of_case n c) (of_cases n cs) (case c) (cases cs)
