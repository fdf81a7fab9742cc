-- Each variable of a program's kernel has one word at least: no array of the text has a length of 0.
use Rattle.std.proofs.Common.{◌≡◌, ℕ, zero, suc, ◌+◌, ◌-◌, ◌<◌, Bool, true, false, ◌&&◌, List, [], ◌∷◌, ◌++◌, Option, Some, None, slice_get, nat_eq, nat_le, bytes_eq, refl, sym, subst, arith}
use Rattle.std.specs.Prelude.{Contains}
use Rattle.std.proofs.lemmas.Option.{get_or_from_slice_get, slice_get_within}
use Rattle.xw_words.specs.declared.pos.Broken.{Broken}
use Rattle.xw_words.specs.declared.pos.Pos.{Pos}
use Rattle.xc_tree.specs.Checks.{Breaks, rule}
use Rattle.xc_tree.specs.declared.tree.Param.{Param}
use Rattle.xc_tree.specs.declared.tree.ParamKind.{ParamKind}
use Rattle.xc_tree.specs.declared.tree.ParamKind.TheVariants.{Value, Ref, Array, End, Port}
use Rattle.xc_tree.specs.Names.Marks as marks
use Rattle.xc_tree.specs.Plain as tree
use Rattle.xc_tree.specs.Shapes.Enclosing.{Enclosing, a_block, a_branch, a_case, a_loop, a_transaction, an_if, in_block_of, inside}
use Rattle.xc_tree.specs.Symbols.{equals}
use Rattle.xc_tree.specs.Types.Named.{NamedProgram, past}
use Rattle.xc_tree.specs.Types.Rules.{broken_unless, longest_array, rule_409}
use Rattle.xc_tree.specs.Types.Sites.{Site, sites}
use Rattle.xc_tree.specs.Types.Sites as site
use Rattle.xc_kernel.specs.declared.kernel.Var.{Var}
use Rattle.xc_kernel.specs.Plain as kernel
use Rattle.xc_kernel.specs.Paths.{Path, path_at}
use Rattle.xc_kernel.specs.Scopes.{Scope, Entity, a_word, an_array, an_element, a_channel, a_timer, a_port, a_constant, nothing_known, entity_of, with_name}
use Rattle.xc_kernel.specs.Programs.{Function, function_by, function_named, functions, main_of}
use Rattle.xc_kernel.specs.Copy.{Copy, joined}
use Rattle.xc_kernel.specs.Context.{Context, in_branch, in_case, in_function, in_loop}
use Rattle.xc_kernel.specs.Parameters.{all_passed, by_element, by_name, form_by_reference, passed}
use Rattle.xc_kernel.specs.Calls.{CopiesCall, body_copy, call_by, called, function_copy, path_of_call, result_copy, right_copy}
use Rattle.xc_kernel.specs.Declarations.{declaration_copy, declarations_copy, kind_copy}
use Rattle.xc_kernel.specs.Transfers.{input_names, target_copy}
use Rattle.xc_kernel.specs.Flow.{Cased, and_case, case_scope, numbered_copy, replicated}
use Rattle.xc_kernel.specs.Statements.{action_copy, assign_by, branch_copy, branches_copy, calls_copy, case_copy, cases_copy, maybe_copy, pos_of_branch, return_copy, statement_copy, statements_copy}
use Rattle.xc_kernel.specs.Ports.{core_of}
use Rattle.xc_kernel.specs.Roots.{action_roots, block_has_placed, block_roots, branch_root, branch_roots, context_of, in_block, numbered_roots, roots_by, roots_of}
use Rattle.xc_kernel.specs.Numbering.{Numbering}
use Rattle.xc_kernel.specs.Copies.{calls_of, copy_of, numbering, rooted}
use Rattle.xc_kernel.specs.Sound.{IsOfProgram}
use Rattle.xc_wellformed.proofs.Merged.{none_merged}
use Rattle.xc_wellformed.proofs.Walk.Arguments.{AllIn, both, split}
use Rattle.xl_plan.proofs.Lists.{some_given, none_given}

-- an array of the text is no shorter than 1
abbrev IsLong : Site → Type 0
IsLong (site.array_length l p) = 0 < l
IsLong other = Unit {0}

-- a variable that has a word
abbrev HasWord : Var → Type 0
HasWord v = 0 < v.words

abbrev AllHave : List Var → Type 0
AllHave vs = AllIn HasWord vs

abbrev Have : Copy → Type 0
Have copy = AllHave copy.variables

joined_have : (a b : Copy) → Have a → Have b → Have (joined a b)
joined_have a b h g = both HasWord a.variables b.variables h g

one_word : 0 < 1
one_word = omega arith

-- Parameters and results are words.

element_has : (c : Context) (scope : Scope) (own : Path) (pos : Pos) (i : tree.Expression) (spot : Pos) (x : Entity) → AllHave (by_element c scope own pos i spot x).variables
element_has c scope own pos i spot (an_array path l u) = (one_word, tt)
element_has c scope own pos i spot (a_word path u) = tt
element_has c scope own pos i spot (an_element array index u) = tt
element_has c scope own pos i spot (a_channel path) = tt
element_has c scope own pos i spot (a_timer path) = tt
element_has c scope own pos i spot (a_port number) = tt
element_has c scope own pos i spot (a_constant v) = tt
element_has c scope own pos i spot nothing_known = tt

name_has : (scope : Scope) (f : tree.Form) (spot : Pos) → AllHave (by_name scope (tree.expression f spot)).variables
name_has scope (tree.name text) spot = tt
name_has scope (tree.index text i) spot = tt
name_has scope (tree.number v w) spot = tt
name_has scope (tree.unary o a) spot = tt
name_has scope (tree.binary o a d) spot = tt
name_has scope (tree.choice q a d) spot = tt
name_has scope (tree.cast w a) spot = tt

reference_has : (c : Context) (scope : Scope) (own : Path) (pos : Pos) (f : tree.Form) (spot : Pos) → AllHave (form_by_reference c scope own pos spot f).variables
reference_has c scope own pos (tree.index text i) spot = element_has c scope own pos i spot (entity_of scope text)
reference_has c scope own pos (tree.name text) spot = tt
reference_has c scope own pos (tree.number v w) spot = tt
reference_has c scope own pos (tree.unary o a) spot = tt
reference_has c scope own pos (tree.binary o a d) spot = tt
reference_has c scope own pos (tree.choice q a d) spot = tt
reference_has c scope own pos (tree.cast w a) spot = tt

passed_has : (c : Context) (scope : Scope) (own : Path) (pos : Pos) (kind : ParamKind) (e : tree.Expression) → AllHave (passed c scope own pos kind e).variables
passed_has c scope own pos (Value u) e = (one_word, tt)
passed_has c scope own pos (Ref u) (tree.expression f spot) = reference_has c scope own pos f spot
passed_has c scope own pos (Array u l) (tree.expression f spot) = name_has scope f spot
passed_has c scope own pos (End s) (tree.expression f spot) = name_has scope f spot
passed_has c scope own pos (Port d) (tree.expression f spot) = name_has scope f spot

all_passed_have : (c : Context) (scope : Scope) (own : Path) (ps : List Param) (args : List tree.Argument) → AllHave (all_passed c scope own ps args).variables
all_passed_have c scope own [] args = tt
all_passed_have c scope own (p ∷ ps) [] = tt
all_passed_have c scope own (p ∷ ps) (a ∷ args) =
    both HasWord (passed c scope own p.name.pos p.kind a.value).variables (all_passed c scope own ps args).variables (passed_has c scope own p.name.pos p.kind a.value) (all_passed_have c scope own ps args)

result_has : (c : Context) (path : Path) (pos : Pos) (scope : Scope) (r : Option Bool) → Have (result_copy c path pos scope r)
result_has c path pos scope None = tt
result_has c path pos scope (Some u) = (one_word, tt)

target_has : (c : Context) (scope : Scope) (t : tree.Target) → Have (target_copy c scope t)
target_has c scope (tree.to e) = tt
target_has c scope tree.dropped = tt
target_has c scope (tree.fresh u name) = (one_word, tt)

replicated_has : (copy : ℕ → ℕ → Copy) → ((index number : ℕ) → Have (copy index number)) → (pos : Pos) (scope : Scope) (count index number : ℕ) → Have (replicated copy pos scope count index number).made
replicated_has copy h pos scope zero index number = tt
replicated_has copy h pos scope (suc count) index number =
    joined_have (copy index number) (replicated copy pos scope count (index + 1) (number + 1)).made (h index number) (replicated_has copy h pos scope count (index + 1) (number + 1))

and_case_has : (c : Context) (scope : Scope) (pos : Pos) (guard : Option tree.Expression) (i : Option tree.Input) (body : Copy) (others : Cased) → Have body → Have others.made → Have (and_case c scope pos guard i body others).made
and_case_has c scope pos guard None body others h g = joined_have body others.made h g
and_case_has c scope pos guard (Some i) body others h g =
    let names = input_names c scope i in
    joined_have (joined names body) others.made (joined_have names body (target_has c scope i.target) h) g

-- The code of the text: by its arrays, as its sites name them.
module _ (n : NamedProgram) where
  -- what stands in a function's block has long arrays
  pub record BodyIsLong (f : Function) : Type 0 where
    pub around : Enclosing
    pub names : ℕ
    pub long : AllIn IsLong (site.of_body n around names f.body)

  abbrev SomeBodyIsLong : Option Function → Type 0
  SomeBodyIsLong None = Unit {0}
  SomeBodyIsLong (Some f) = BodyIsLong f

  named_long : (fs : List Function) (name : List ℕ) → AllIn BodyIsLong fs → SomeBodyIsLong (function_named fs name)
  named_long [] name h = tt
  named_long (f ∷ fs) name h = by (bytes_eq f.head.name.text name) (named_long fs name h.1)
    where
      by : (b : Bool) → SomeBodyIsLong (function_named fs name) → SomeBodyIsLong (function_by b f (function_named fs name))
      by true g = h.0
      by false g = g

  module _ (fs : List Function) (all : AllIn BodyIsLong fs) where
    abbrev CallsHave : CopiesCall → Type 0
    CallsHave copies = (c : Context) (scope : Scope) (f : Function) (pos : Pos) (args : List tree.Argument) → c.functions ≡ fs → BodyIsLong f → Have (copies c scope f pos args)

    module _ (copies : CopiesCall) (calls : CallsHave copies) where
      by_has : (c : Context) (scope : Scope) (pos : Pos) (args : List tree.Argument) (f : Option Function) → c.functions ≡ fs → SomeBodyIsLong f → Have (call_by copies c scope pos args f)
      by_has c scope pos args None e h = tt
      by_has c scope pos args (Some f) e h = calls c scope f pos args e h

      right_has : (c : Context) (scope : Scope) (r : tree.RightSide) → c.functions ≡ fs → Have (right_copy copies c scope r)
      right_has c scope (tree.value e) k = tt
      right_has c scope (tree.result call) k =
          by_has c scope call.called.pos call.arguments (called c call) k (subst (λ gs. SomeBodyIsLong (function_named gs call.called.text)) (sym k) (named_long fs call.called.text all))

      kind_has : (c : Context) (scope : Scope) (name : List ℕ) (pos : Pos) (kind : tree.Kind) (around : Enclosing) (k : ℕ) → c.functions ≡ fs → AllIn IsLong (site.of_kind n around k kind) → Have (kind_copy copies c scope name pos kind)
      kind_has c scope name pos (tree.word u None) around k e h = (one_word, tt)
      kind_has c scope name pos (tree.word u (Some r)) around k e h =
          let inner = with_name scope name (a_word (path_at c.path pos) u) in
          (one_word, both HasWord (right_copy copies c inner r).variables [] (right_has c inner r e) tt)
      kind_has c scope name pos (tree.array u l spot) around k e h = (h.0, tt)
      kind_has c scope name pos (tree.channel streaming) around k e h = tt
      kind_has c scope name pos tree.timer around k e h = tt

      declarations_have : (c : Context) (ds : List tree.Declaration) (scope : Scope) (around : Enclosing) (k : ℕ) → c.functions ≡ fs → AllIn IsLong (site.of_declarations n around k ds) → Have (declarations_copy copies c ds scope)
      declarations_have c [] scope around k e h = tt
      declarations_have c (d ∷ ds) scope around k e h =
          let first = declaration_copy copies c scope d in
          let s = split IsLong (site.of_kind n around (k + 1) d.kind) (site.of_declarations n around (past k (marks.of_declaration d)) ds) h in
          joined_have first (declarations_copy copies c ds first.scope) (kind_has c scope d.name.text d.name.pos d.kind around (k + 1) e s.0) (declarations_have c ds first.scope around (past k (marks.of_declaration d)) e s.1)

      assign_has : (c : Context) (scope : Scope) (to : tree.Expression) (symbol : ℕ) (pos : Pos) (r : tree.RightSide) (b : Bool) → c.functions ≡ fs → Have (assign_by copies c scope to symbol pos r b)
      assign_has c scope to symbol pos r true e = both HasWord (right_copy copies c scope r).variables [] (right_has c scope r e) tt
      assign_has c scope to symbol pos r false e = tt

      return_has : (c : Context) (scope : Scope) (r : Option tree.RightSide) → c.functions ≡ fs → Have (return_copy copies c scope r)
      return_has c scope None e = tt
      return_has c scope (Some r) e = both HasWord (right_copy copies c scope r).variables [] (right_has c scope r e) tt

      mutual
        statement_has : (s : tree.Statement) (c : Context) (scope : Scope) (around : Enclosing) (k : ℕ) → c.functions ≡ fs → AllIn IsLong (site.of_statement n around k s) → Have (statement_copy copies s c scope)
        statement_has (tree.statement action pos close own) c scope around k e h = action_has action pos close c scope around k e h

        action_has : (a : tree.Action) (pos close : Pos) (c : Context) (scope : Scope) (around : Enclosing) (k : ℕ) → c.functions ≡ fs → AllIn IsLong (site.of_action n around k pos a) → Have (action_copy copies a pos close c scope)
        action_has tree.empty pos close c scope around k e h = tt
        action_has (tree.block ss) pos close c scope around k e h = statements_have ss c scope (inside a_block around) k e h
        action_has (tree.declare ds) pos close c scope around k e h = declarations_have c ds scope around k e h
        action_has (tree.assign to symbol spot r) pos close c scope around k e h = assign_has c scope to symbol spot r (nat_eq symbol equals) e
        action_has (tree.step to symbol) pos close c scope around k e h = tt
        action_has (tree.perform r) pos close c scope around k e h = right_has c scope r e
        action_has (tree.output o) pos close c scope around k e h = tt
        action_has (tree.input i) pos close c scope around k e h = target_has c scope i.target
        action_has (tree.if_then test a b) pos close c scope around k e h =
            let first = statement_copy copies a c scope in
            let k1 = past k (marks.of_expression test) in
            let s1 = split IsLong (site.of_expression n k test) (site.of_statement n (inside an_if around) k1 a ++ site.of_maybe n (inside an_if around) (past k1 (marks.of_statement a)) b) h in
            let s2 = split IsLong (site.of_statement n (inside an_if around) k1 a) (site.of_maybe n (inside an_if around) (past k1 (marks.of_statement a)) b) s1.1 in
            joined_have first (maybe_copy copies b c first.scope) (statement_has a c scope (inside an_if around) k1 e s2.0) (maybe_has b c first.scope (inside an_if around) (past k1 (marks.of_statement a)) e s2.1)
        action_has (tree.while_loop test body) pos close c scope around k e h =
            let k1 = past k (marks.of_expression test) in
            let s = split IsLong (site.of_expression n k test) (site.of_statement n (inside a_loop around) k1 body) h in
            statement_has body (in_loop c pos) scope (inside a_loop around) k1 e s.1
        action_has (tree.do_while body test) pos close c scope around k e h =
            let s = split IsLong (site.of_statement n (inside a_loop around) k body) (site.of_expression n (past k (marks.of_statement body)) test) h in
            statement_has body (in_loop c pos) scope (inside a_loop around) k e s.0
        action_has (tree.for_loop first test next body) pos close c scope around k e h =
            let f = maybe_copy copies first c scope in
            let m = maybe_copy copies next c f.scope in
            let b = statement_copy copies body (in_loop c pos) f.scope in
            let k1 = past k (marks.of_maybe first) in
            let k2 = past k1 (marks.optional marks.of_expression test) in
            let k3 = past k2 (marks.of_maybe next) in
            let s1 = split IsLong (site.of_maybe n around k first) (site.optional (site.of_expression n k1) test ++ (site.of_maybe n around k2 next ++ site.of_statement n (inside a_loop around) k3 body)) h in
            let s2 = split IsLong (site.optional (site.of_expression n k1) test) (site.of_maybe n around k2 next ++ site.of_statement n (inside a_loop around) k3 body) s1.1 in
            let s3 = split IsLong (site.of_maybe n around k2 next) (site.of_statement n (inside a_loop around) k3 body) s2.1 in
            joined_have f (joined m b) (maybe_has first c scope around k e s1.0) (joined_have m b (maybe_has next c f.scope around k2 e s3.0) (statement_has body (in_loop c pos) f.scope (inside a_loop around) k3 e s3.1))
        action_has (tree.return_with r) pos close c scope around k e h = return_has c scope r e
        action_has tree.break_out pos close c scope around k e h = tt
        action_has tree.continue_on pos close c scope around k e h = tt
        action_has (tree.par bs) pos close c scope around k e h = branches_have bs 0 c scope around k e h.1
        action_has (tree.replicated first second third from until b) pos close c scope around k e h =
            replicated_has (numbered_copy (branch_copy copies b) c scope first.text) (λ index number. branch_has b (in_branch c index) (with_name scope first.text (a_constant number)) around (k + 3) e h.1.1) (pos_of_branch b) scope (until - from) 0 from
        action_has (tree.select cs) pos close c scope around k e h = cases_have cs c scope around k e h.1
        action_has (tree.transaction is_master ss) pos close c scope around k e h = statements_have ss c scope (inside a_transaction around) k e h.1

        maybe_has : (m : tree.Maybe) (c : Context) (scope : Scope) (around : Enclosing) (k : ℕ) → c.functions ≡ fs → AllIn IsLong (site.of_maybe n around k m) → Have (maybe_copy copies m c scope)
        maybe_has tree.absent c scope around k e h = tt
        maybe_has (tree.present s) c scope around k e h = statement_has s c scope around k e h

        statements_have : (ss : tree.Statements) (c : Context) (scope : Scope) (around : Enclosing) (k : ℕ) → c.functions ≡ fs → AllIn IsLong (site.of_statements n around k ss) → Have (statements_copy copies ss c scope)
        statements_have tree.no_more c scope around k e h = tt
        statements_have (tree.more s ss) c scope around k e h =
            let first = statement_copy copies s c scope in
            let k1 = past k (marks.of_statement s) in
            let g = split IsLong (site.of_statement n around k s) (site.of_statements n around k1 ss) h in
            joined_have first (statements_copy copies ss c first.scope) (statement_has s c scope around k e g.0) (statements_have ss c first.scope around k1 e g.1)

        branch_has : (b : tree.Branch) (c : Context) (scope : Scope) (around : Enclosing) (k : ℕ) → c.functions ≡ fs → AllIn IsLong (site.of_branch n around k b) → Have (branch_copy copies b c scope)
        branch_has (tree.branch place s) c scope around k e h =
            let k1 = past k (marks.optional marks.of_place place) in
            let g = split IsLong (site.optional (site.of_branch_place n around k) place) (site.of_statement n (inside a_branch around) k1 s) h in
            statement_has s c scope (inside a_branch around) k1 e g.1

        branches_have : (bs : tree.Branches) (index : ℕ) (c : Context) (scope : Scope) (around : Enclosing) (k : ℕ) → c.functions ≡ fs → AllIn IsLong (site.of_branches n around k bs) → Have (branches_copy copies bs index c scope).made
        branches_have tree.no_branch index c scope around k e h = tt
        branches_have (tree.more_branches b bs) index c scope around k e h =
            let first = branch_copy copies b (in_branch c index) scope in
            let k1 = past k (marks.of_branch b) in
            let g = split IsLong (site.of_branch n around k b) (site.of_branches n around k1 bs) h in
            joined_have first (branches_copy copies bs (index + 1) c first.scope).made (branch_has b (in_branch c index) scope around k e g.0) (branches_have bs (index + 1) c first.scope around k1 e g.1)

        cases_have : (cs : tree.Cases) (c : Context) (scope : Scope) (around : Enclosing) (k : ℕ) → c.functions ≡ fs → AllIn IsLong (site.of_cases n around k cs) → Have (cases_copy copies cs c scope).made
        cases_have tree.no_case c scope around k e h = tt
        cases_have (tree.more_cases a cs) c scope around k e h =
            let k1 = past k (marks.of_case a) in
            let g = split IsLong (site.of_case n around k a) (site.of_cases n around k1 cs) h in
            case_has a c scope (cases_copy copies cs c scope) around k e g.0 (cases_have cs c scope around k1 e g.1)

        case_has : (a : tree.Case) (c : Context) (scope : Scope) (others : Cased) (around : Enclosing) (k : ℕ) → c.functions ≡ fs → AllIn IsLong (site.of_case n around k a) → Have others.made → Have (case_copy copies a c scope others).made
        case_has (tree.case pos guard i ss) c scope others around k e h g =
            let k1 = past k (marks.optional marks.of_expression guard) in
            let k2 = past k1 (marks.optional marks.of_input i) in
            let s1 = split IsLong (site.optional (site.of_expression n k) guard) (site.optional (site.of_input n k1) i ++ site.of_statements n (inside a_case around) k2 ss) h in
            let s2 = split IsLong (site.optional (site.of_input n k1) i) (site.of_statements n (inside a_case around) k2 ss) s1.1 in
            and_case_has c scope pos guard i (statements_copy copies ss (in_case c pos) (case_scope c scope i)) others (statements_have ss (in_case c pos) (case_scope c scope i) (inside a_case around) k2 e s2.1) g

      -- a function's block
      body_has : (s : tree.Statement) (c : Context) (scope : Scope) (around : Enclosing) (k : ℕ) → c.functions ≡ fs → AllIn IsLong (site.of_body n around k s) → Have (statement_copy copies s c scope)
      body_has (tree.statement (tree.block ss) pos close own) c scope around k e h = statements_have ss c scope around k e h
      body_has (tree.statement tree.empty pos close own) c scope around k e h = action_has tree.empty pos close c scope around k e h
      body_has (tree.statement (tree.declare ds) pos close own) c scope around k e h = action_has (tree.declare ds) pos close c scope around k e h
      body_has (tree.statement (tree.assign to symbol spot r) pos close own) c scope around k e h = action_has (tree.assign to symbol spot r) pos close c scope around k e h
      body_has (tree.statement (tree.step to symbol) pos close own) c scope around k e h = action_has (tree.step to symbol) pos close c scope around k e h
      body_has (tree.statement (tree.perform r) pos close own) c scope around k e h = action_has (tree.perform r) pos close c scope around k e h
      body_has (tree.statement (tree.output o) pos close own) c scope around k e h = action_has (tree.output o) pos close c scope around k e h
      body_has (tree.statement (tree.input i) pos close own) c scope around k e h = action_has (tree.input i) pos close c scope around k e h
      body_has (tree.statement (tree.if_then test a b) pos close own) c scope around k e h = action_has (tree.if_then test a b) pos close c scope around k e h
      body_has (tree.statement (tree.while_loop test body) pos close own) c scope around k e h = action_has (tree.while_loop test body) pos close c scope around k e h
      body_has (tree.statement (tree.do_while body test) pos close own) c scope around k e h = action_has (tree.do_while body test) pos close c scope around k e h
      body_has (tree.statement (tree.for_loop first test next body) pos close own) c scope around k e h = action_has (tree.for_loop first test next body) pos close c scope around k e h
      body_has (tree.statement (tree.return_with r) pos close own) c scope around k e h = action_has (tree.return_with r) pos close c scope around k e h
      body_has (tree.statement tree.break_out pos close own) c scope around k e h = action_has tree.break_out pos close c scope around k e h
      body_has (tree.statement tree.continue_on pos close own) c scope around k e h = action_has tree.continue_on pos close c scope around k e h
      body_has (tree.statement (tree.par bs) pos close own) c scope around k e h = action_has (tree.par bs) pos close c scope around k e h
      body_has (tree.statement (tree.replicated first second third from until b) pos close own) c scope around k e h = action_has (tree.replicated first second third from until b) pos close c scope around k e h
      body_has (tree.statement (tree.select cs) pos close own) c scope around k e h = action_has (tree.select cs) pos close c scope around k e h
      body_has (tree.statement (tree.transaction is_master ss) pos close own) c scope around k e h = action_has (tree.transaction is_master ss) pos close c scope around k e h

      function_has : (c : Context) (scope : Scope) (own : Path) (f : Function) (args : List tree.Argument) → c.functions ≡ fs → BodyIsLong f → Have (function_copy (statement_copy copies) c scope own f args)
      function_has c scope own f args e h =
          let r = result_copy c (path_at own f.head.name.pos) f.head.name.pos scope f.head.result in
          let p = all_passed c scope own f.head.params args in
          let b = body_copy (statement_copy copies) c own f p.scope in
          both HasWord r.variables (p.variables ++ b.variables) (result_has c (path_at own f.head.name.pos) f.head.name.pos scope f.head.result)
          (both HasWord p.variables b.variables (all_passed_have c scope own f.head.params args) (body_has f.body (in_function c own f) p.scope h.around h.names e h.long))

      -- The roots.

      root_has : (main : Pos) (b : tree.Branch) (c : Context) (scope : Scope) (around : Enclosing) (k : ℕ) → c.functions ≡ fs → AllIn IsLong (site.of_branch n around k b) → Have (branch_root copies main b c scope).made
      root_has main (tree.branch place s) c scope around k e h =
          let k1 = past k (marks.optional marks.of_place place) in
          let g = split IsLong (site.optional (site.of_branch_place n around k) place) (site.of_statement n (inside a_branch around) k1 s) h in
          statement_has s (record c { core = core_of scope place }) scope (inside a_branch around) k1 e g.1

      roots_have : (main : Pos) (bs : tree.Branches) (index : ℕ) (c : Context) (scope : Scope) (around : Enclosing) (k : ℕ) → c.functions ≡ fs → AllIn IsLong (site.of_branches n around k bs) → Have (branch_roots copies main bs index c scope).made
      roots_have main tree.no_branch index c scope around k e h = tt
      roots_have main (tree.more_branches b bs) index c scope around k e h =
          let first = (branch_root copies main b (in_branch c index) scope).made in
          let k1 = past k (marks.of_branch b) in
          let g = split IsLong (site.of_branch n around k b) (site.of_branches n around k1 bs) h in
          joined_have first (branch_roots copies main bs (index + 1) c first.scope).made (root_has main b (in_branch c index) scope around k e g.0) (roots_have main bs (index + 1) c first.scope around k1 e g.1)

      numbered_have : (main : Pos) (b : tree.Branch) (name : List ℕ) (c : Context) (scope : Scope) (count index number : ℕ) (around : Enclosing) (k : ℕ) → c.functions ≡ fs → AllIn IsLong (site.of_branch n around k b) → Have (numbered_roots copies main b name c scope count index number).made
      numbered_have main b name c scope zero index number around k e h = tt
      numbered_have main b name c scope (suc count) index number around k e h =
          let inner = with_name scope name (a_constant number) in
          joined_have (branch_root copies main b (in_branch c index) inner).made (numbered_roots copies main b name c scope count (index + 1) (number + 1)).made
          (root_has main b (in_branch c index) inner around k e h) (numbered_have main b name c scope count (index + 1) (number + 1) around k e h)

      action_roots_have : (main : Pos) (a : tree.Action) (pos : Pos) (c : Context) (scope : Scope) (around : Enclosing) (k : ℕ) → c.functions ≡ fs → AllIn IsLong (site.of_action n around k pos a) → Have (action_roots copies main a c scope).made
      action_roots_have main (tree.declare ds) pos c scope around k e h = declarations_have c ds scope around k e h
      action_roots_have main (tree.par bs) pos c scope around k e h = roots_have main bs 0 c scope around k e h.1
      action_roots_have main (tree.replicated first second third from until b) pos c scope around k e h = numbered_have main b first.text c scope (until - from) 0 from around (k + 3) e h.1.1
      action_roots_have main tree.empty pos c scope around k e h = tt
      action_roots_have main (tree.block ss) pos c scope around k e h = tt
      action_roots_have main (tree.assign to symbol spot r) pos c scope around k e h = tt
      action_roots_have main (tree.step to symbol) pos c scope around k e h = tt
      action_roots_have main (tree.perform r) pos c scope around k e h = tt
      action_roots_have main (tree.output o) pos c scope around k e h = tt
      action_roots_have main (tree.input i) pos c scope around k e h = tt
      action_roots_have main (tree.if_then test a b) pos c scope around k e h = tt
      action_roots_have main (tree.while_loop test body) pos c scope around k e h = tt
      action_roots_have main (tree.do_while body test) pos c scope around k e h = tt
      action_roots_have main (tree.for_loop first test next body) pos c scope around k e h = tt
      action_roots_have main (tree.return_with r) pos c scope around k e h = tt
      action_roots_have main tree.break_out pos c scope around k e h = tt
      action_roots_have main tree.continue_on pos c scope around k e h = tt
      action_roots_have main (tree.select cs) pos c scope around k e h = tt
      action_roots_have main (tree.transaction is_master ss) pos c scope around k e h = tt

      block_has : (main : Pos) (ss : tree.Statements) (c : Context) (scope : Scope) (around : Enclosing) (k : ℕ) → c.functions ≡ fs → AllIn IsLong (site.of_statements n around k ss) → Have (block_roots copies main ss c scope).made
      block_has main tree.no_more c scope around k e h = tt
      block_has main (tree.more (tree.statement action pos close own) ss) c scope around k e h =
          let first = (action_roots copies main action c scope).made in
          let k1 = past k (marks.of_statement (tree.statement action pos close own)) in
          let g = split IsLong (site.of_action n around k pos action) (site.of_statements n around k1 ss) h in
          joined_have first (block_roots copies main ss c first.scope).made (action_roots_have main action pos c scope around k e g.0) (block_has main ss c first.scope around k1 e g.1)

      in_body_has : (main : Pos) (s : tree.Statement) (c : Context) (scope : Scope) (around : Enclosing) (k : ℕ) → c.functions ≡ fs → AllIn IsLong (site.of_body n around k s) → Have (block_roots copies main (in_block s) c scope).made
      in_body_has main (tree.statement (tree.block ss) pos close own) c scope around k e h = block_has main ss c scope around k e h
      in_body_has main (tree.statement tree.empty pos close own) c scope around k e h = tt
      in_body_has main (tree.statement (tree.declare ds) pos close own) c scope around k e h = tt
      in_body_has main (tree.statement (tree.assign to symbol spot r) pos close own) c scope around k e h = tt
      in_body_has main (tree.statement (tree.step to symbol) pos close own) c scope around k e h = tt
      in_body_has main (tree.statement (tree.perform r) pos close own) c scope around k e h = tt
      in_body_has main (tree.statement (tree.output o) pos close own) c scope around k e h = tt
      in_body_has main (tree.statement (tree.input i) pos close own) c scope around k e h = tt
      in_body_has main (tree.statement (tree.if_then test a b) pos close own) c scope around k e h = tt
      in_body_has main (tree.statement (tree.while_loop test body) pos close own) c scope around k e h = tt
      in_body_has main (tree.statement (tree.do_while body test) pos close own) c scope around k e h = tt
      in_body_has main (tree.statement (tree.for_loop first test next body) pos close own) c scope around k e h = tt
      in_body_has main (tree.statement (tree.return_with r) pos close own) c scope around k e h = tt
      in_body_has main (tree.statement tree.break_out pos close own) c scope around k e h = tt
      in_body_has main (tree.statement tree.continue_on pos close own) c scope around k e h = tt
      in_body_has main (tree.statement (tree.par bs) pos close own) c scope around k e h = tt
      in_body_has main (tree.statement (tree.replicated first second third from until b) pos close own) c scope around k e h = tt
      in_body_has main (tree.statement (tree.select cs) pos close own) c scope around k e h = tt
      in_body_has main (tree.statement (tree.transaction is_master ss) pos close own) c scope around k e h = tt

      main_has : (b : Bool) (f : Function) (c : Context) → c.functions ≡ fs → BodyIsLong f → Have (roots_by copies b f c).made
      main_has true f c e h = in_body_has f.head.name.pos f.body c c.ports h.around h.names e h.long
      main_has false f c e h = function_has c c.ports [] f [] e h

      roots_of_have : (f : Option Function) (c : Context) → c.functions ≡ fs → SomeBodyIsLong f → Have (roots_of copies f c).made
      roots_of_have None c e h = tt
      roots_of_have (Some f) c e h = main_has (block_has_placed (in_block f.body)) f c e h

    -- calls that go at most so deep
    calls_have : (depth : ℕ) → CallsHave (calls_copy depth)
    calls_have zero c scope f pos args e h = tt
    calls_have (suc depth) c scope f pos args e h = function_has (calls_copy depth) (calls_have depth) c scope (path_of_call c pos) f args e h

  -- the functions of a program
  all_bodies : (items : List tree.Item) (i k : ℕ) → AllIn IsLong (site.of_items n i k items) → AllIn BodyIsLong (functions items)
  all_bodies [] i k h = tt
  all_bodies (tree.port p ∷ items) i k h =
      let g = split IsLong (site.of_item n k (tree.port p)) (site.of_items n (i + 1) (past k (marks.of_item i (tree.port p))) items) h in
      all_bodies items (i + 1) (past k (marks.of_item i (tree.port p))) g.1
  all_bodies (tree.function head body ∷ items) i k h =
      let g = split IsLong (site.of_item n k (tree.function head body)) (site.of_items n (i + 1) (past k (marks.of_item i (tree.function head body))) items) h in
      let k1 = past (k + 1) (marks.each marks.of_param head.params) in
      let b = split IsLong (site.each site.of_parameter head.params) (site.of_body n (in_block_of head) k1 body) g.0.1 in
      (record { around = in_block_of head; names = k1; long = b.1 }, all_bodies items (i + 1) (past k (marks.of_item i (tree.function head body))) g.1)

  program_has : (P : List tree.Item) (num : Numbering) → AllIn IsLong (site.of_items n 0 0 P) → Have (rooted P num).made
  program_has P num h =
      let all = all_bodies P 0 0 h in
      roots_of_have (functions P) all (calls_of P) (calls_have (functions P) all _) (main_of P) (context_of P num) refl (named_long (functions P) _ all)

-- No array of a typed program has a length of 0.

unless : (b : Bool) (p : Pos) → (Contains (broken_unless b p) p → ⊥) → b ≡ true
unless true p h = refl
unless false p h = absurd (h (0, omega arith, refl))

at_least : (l : ℕ) → (nat_le 1 l && nat_le l longest_array) ≡ true → 0 < l
at_least l h = grind arith

module _ (named : NamedProgram) (unbroken : (b : Broken) → Breaks named b → ⊥) where
  long_site : (s : Site) → Contains (sites named) s → IsLong s
  long_site (site.array_length l p) h =
      at_least l (unless (nat_le 1 l && nat_le l longest_array) p (λ g. unbroken (record { rule = 409; pos = p }) (record { rule = rule 409 rule_409; among = (8, omega arith, refl); numbered = refl; site = site.array_length l p; there = h; broken = g })))
  long_site other h = tt

  all_sites_long : (xs : List Site) → ((i : ℕ) (s : Site) → slice_get xs i ≡ Some s → IsLong s) → AllIn IsLong xs
  all_sites_long [] k = tt
  all_sites_long (x ∷ xs) k = (k 0 x refl, all_sites_long xs (λ i s e. k (suc i) s e))

  long_sites : AllIn IsLong (sites named)
  long_sites = all_sites_long (sites named) (λ i s e. long_site s (i, slice_get_within (sites named) i s e, get_or_from_slice_get (sites named) i s s e))

at_place : (vs : List Var) (v : ℕ) (x : Var) → AllHave vs → slice_get vs v ≡ Some x → 0 < x.words
at_place [] v x h e = absurd (none_given e)
at_place (y ∷ vs) zero x h e = subst HasWord (some_given e) h.0
at_place (y ∷ vs) (suc v) x h e = at_place vs v x h.1 e

copy_has : (P : List tree.Item) (named : NamedProgram) → AllIn IsLong (sites named) → named.program ≡ P → (numbering P).variables ≡ (rooted P (numbering P)).made.variables → AllHave (copy_of P).variables
unfolding copy_of sites
copy_has P named h e same = subst AllHave (sym same) (program_has named P (numbering P) (subst (λ items. AllIn IsLong (site.of_items named 0 0 items)) e h))

-- Each variable of a kernel has a word.
pub each_has_words : (K : kernel.Kernel) → IsOfProgram K → (v : ℕ) (x : Var) → slice_get K.variables v ≡ Some x → 0 < x.words
each_has_words K o v x e =
    at_place K.variables v x
    (subst (λ (k : kernel.Kernel). AllHave k.variables) (sym o.copies.is_copy)
    (copy_has o.program o.sound.named (long_sites o.sound.named o.sound.typed.types_and_shapes) o.sound.typed.is_named.program_is (none_merged o.program o.sound.typed.text).variables)) e
