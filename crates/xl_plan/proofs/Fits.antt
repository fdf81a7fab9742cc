-- The words of a program's parameters and results are among those that its instances need.
use Rattle.std.proofs.Common.{◌≡◌, ◌≤◌, ℕ, zero, suc, ◌+◌, ◌-◌, Bool, true, false, List, [], ◌∷◌, ◌++◌, length, Option, Some, None, sum_by, nat_eq, refl, sym, ap, subst, arith}
use Rattle.std.proofs.lemmas.List.Sums.{sum_by-append, sum_by-cons}
use Rattle.xw_words.specs.declared.pos.Pos.{Pos}
use Rattle.xc_tree.specs.declared.tree.Param.{Param}
use Rattle.xc_tree.specs.declared.tree.ParamKind.{ParamKind}
use Rattle.xc_tree.specs.declared.tree.ParamKind.TheVariants.{Value, Ref, Array, End, Port}
use Rattle.xc_tree.specs.Plain as tree
use Rattle.xc_tree.specs.Symbols.{equals}
use Rattle.xc_kernel.specs.declared.kernel.Inst.{Inst}
use Rattle.xc_kernel.specs.declared.kernel.Var.{Var}
use Rattle.xc_kernel.specs.Plain as kernel
use Rattle.xc_kernel.specs.Paths.{Path, path_at}
use Rattle.xc_kernel.specs.Numbering.{Numbering}
use Rattle.xc_kernel.specs.Scopes.{Scope, Entity, a_word, an_array, an_element, a_channel, a_timer, a_port, a_constant, nothing_known, entity_of, with_name}
use Rattle.xc_kernel.specs.Programs.{Function, main_of}
use Rattle.xc_kernel.specs.Copy.{Copy, joined}
use Rattle.xc_kernel.specs.Context.{Context, in_branch, in_loop, in_case, in_function, word_variable, array_variable}
use Rattle.xc_kernel.specs.Parameters.{passed, by_element, form_by_reference, by_name, all_passed}
use Rattle.xc_kernel.specs.Calls.{CopiesCall, CopiesStatement, called, call_by, right_copy, result_copy, body_copy, function_copy, instance_of, path_of_call}
use Rattle.xc_kernel.specs.Declarations.{declaration_copy, declarations_copy, kind_copy}
use Rattle.xc_kernel.specs.Transfers.{target_copy, input_names}
use Rattle.xc_kernel.specs.Flow.{Cased, replicated, numbered_copy, case_scope, and_case}
use Rattle.xc_kernel.specs.Statements.{pos_of_branch, statement_copy, action_copy, assign_by, maybe_copy, return_copy, statements_copy, branch_copy, branches_copy, cases_copy, case_copy, calls_copy}
use Rattle.xc_kernel.specs.Ports.{core_of}
use Rattle.xc_kernel.specs.Roots.{branch_root, branch_roots, numbered_roots, action_roots, block_roots, block_has_placed, in_block, roots_by, roots_of, context_of}
use Rattle.xc_kernel.specs.Copies.{calls_of, rooted, numbering, copy_of}
use Rattle.xc_kernel.specs.Sound.{IsOfProgram}
use Rattle.xc_disjoint.specs.Cores.{if_so, on_core}
use Rattle.xc_disjoint.specs.Needs.{words_of_instance, words_of_variable}
use Rattle.xc_wellformed.proofs.Merged.{none_merged}
use Rattle.xl_plan.specs.Layout.{words_here}

module _ (core : ℕ) where
  -- all words of variables are among those that instances and variables need
  abbrev Fit : List Var → List Inst → Type 0
  Fit vs is = sum_by (words_here core) vs ≤ sum_by (words_of_instance core) is + sum_by (words_of_variable core) vs

  abbrev Fits : Copy → Type 0
  Fits copy = Fit copy.variables copy.instances

  both_fit : (vs ws : List Var) (is js : List Inst) → Fit vs is → Fit ws js → Fit (vs ++ ws) (is ++ js)
  both_fit vs ws is js h g =
      let a = sum_by-append (words_here core) vs ws in
      let b = sum_by-append (words_of_instance core) is js in
      let d = sum_by-append (words_of_variable core) vs ws in
      omega arith

  joined_fit : (a b : Copy) → Fits a → Fits b → Fits (joined a b)
  joined_fit a b h g = both_fit a.variables b.variables a.instances b.instances h g

  -- nothing
  none_fit : Fit [] []
  none_fit = omega arith

  -- a variable that counts by itself
  counted_fit : (v : Var) → v.counted ≡ true → Fit (v ∷ []) []
  counted_fit v e =
      let same : words_of_variable core v ≡ words_here core v = ap (λ b. on_core core v.core (if_so b v.words)) e in
      omega arith

  more_fit : (v : Var) (vs : List Var) (is : List Inst) → v.counted ≡ true → Fit vs is → Fit (v ∷ vs) is
  more_fit v vs is e h = both_fit (v ∷ []) vs [] is (counted_fit v e) h

  -- a function's instance, result and parameters

  abbrev words_in : List Var → ℕ
  words_in vs = sum_by (words_here core) vs

  one_more : (b : Bool) (n m : ℕ) → n ≤ if_so b m → if_so b 1 + n ≤ if_so b (suc m)
  one_more true n m h = omega arith
  one_more false n m h = omega arith

  no_less : (b : Bool) (n m : ℕ) → n ≤ if_so b m → 0 + n ≤ if_so b (suc m)
  no_less true n m h = omega arith
  no_less false n m h = omega arith

  -- what a parameter has is a word of its own, or nothing
  abbrev AtMostOne : Bool → List Var → Type 0
  AtMostOne b vs = words_in vs ≤ if_so b 1

  none_or_one : (b : Bool) → 0 ≤ if_so b 1
  none_or_one b = omega arith

  one_only : (b : Bool) → 0 + if_so b 1 ≤ if_so b 1
  one_only b = omega arith

  element_words : (c : Context) (scope : Scope) (own : Path) (pos : Pos) (i : tree.Expression) (spot : Pos) (x : Entity) → AtMostOne (nat_eq c.core core) (by_element c scope own pos i spot x).variables
  element_words c scope own pos i spot (an_array path l u) = one_only (nat_eq c.core core)
  element_words c scope own pos i spot (a_word path u) = none_or_one (nat_eq c.core core)
  element_words c scope own pos i spot (an_element array index u) = none_or_one (nat_eq c.core core)
  element_words c scope own pos i spot (a_channel path) = none_or_one (nat_eq c.core core)
  element_words c scope own pos i spot (a_timer path) = none_or_one (nat_eq c.core core)
  element_words c scope own pos i spot (a_port number) = none_or_one (nat_eq c.core core)
  element_words c scope own pos i spot (a_constant v) = none_or_one (nat_eq c.core core)
  element_words c scope own pos i spot nothing_known = none_or_one (nat_eq c.core core)

  name_words : (b : Bool) (scope : Scope) (f : tree.Form) (spot : Pos) → AtMostOne b (by_name scope (tree.expression f spot)).variables
  name_words b scope (tree.name text) spot = none_or_one b
  name_words b scope (tree.index text i) spot = none_or_one b
  name_words b scope (tree.number v w) spot = none_or_one b
  name_words b scope (tree.unary o a) spot = none_or_one b
  name_words b scope (tree.binary o a d) spot = none_or_one b
  name_words b scope (tree.choice q a d) spot = none_or_one b
  name_words b scope (tree.cast w a) spot = none_or_one b

  reference_words : (c : Context) (scope : Scope) (own : Path) (pos : Pos) (f : tree.Form) (spot : Pos) → AtMostOne (nat_eq c.core core) (form_by_reference c scope own pos spot f).variables
  reference_words c scope own pos (tree.index text i) spot = element_words c scope own pos i spot (entity_of scope text)
  reference_words c scope own pos (tree.name text) spot = none_or_one (nat_eq c.core core)
  reference_words c scope own pos (tree.number v w) spot = none_or_one (nat_eq c.core core)
  reference_words c scope own pos (tree.unary o a) spot = none_or_one (nat_eq c.core core)
  reference_words c scope own pos (tree.binary o a d) spot = none_or_one (nat_eq c.core core)
  reference_words c scope own pos (tree.choice q a d) spot = none_or_one (nat_eq c.core core)
  reference_words c scope own pos (tree.cast w a) spot = none_or_one (nat_eq c.core core)

  passed_words : (c : Context) (scope : Scope) (own : Path) (pos : Pos) (kind : ParamKind) (e : tree.Expression) → AtMostOne (nat_eq c.core core) (passed c scope own pos kind e).variables
  passed_words c scope own pos (Value u) e = one_only (nat_eq c.core core)
  passed_words c scope own pos (Ref u) (tree.expression f spot) = reference_words c scope own pos f spot
  passed_words c scope own pos (Array u l) (tree.expression f spot) = name_words (nat_eq c.core core) scope f spot
  passed_words c scope own pos (End s) (tree.expression f spot) = name_words (nat_eq c.core core) scope f spot
  passed_words c scope own pos (Port d) (tree.expression f spot) = name_words (nat_eq c.core core) scope f spot

  sum_of_two : (b : Bool) (n m k : ℕ) → n ≤ if_so b 1 → m ≤ if_so b k → n + m ≤ if_so b (suc k)
  sum_of_two true n m k h g = omega arith
  sum_of_two false n m k h g = omega arith

  no_words : (b : Bool) (k : ℕ) → 0 ≤ if_so b k
  no_words b k = omega arith

  all_words : (c : Context) (scope : Scope) (own : Path) (ps : List Param) (args : List tree.Argument) → words_in (all_passed c scope own ps args).variables ≤ if_so (nat_eq c.core core) (length ps)
  all_words c scope own [] args = no_words (nat_eq c.core core) 0
  all_words c scope own (p ∷ ps) [] = no_words (nat_eq c.core core) (length (p ∷ ps))
  all_words c scope own (p ∷ ps) (a ∷ args) =
      let own_words = passed c scope own p.name.pos p.kind a.value in
      let others = all_passed c scope own ps args in
      let e = sum_by-append (words_here core) own_words.variables others.variables in
      let h = sum_of_two (nat_eq c.core core) _ _ (length ps) (passed_words c scope own p.name.pos p.kind a.value) (all_words c scope own ps args) in
      omega arith

  result_words : (c : Context) (path : Path) (pos : Pos) (scope : Scope) (r : Option Bool) → AtMostOne (nat_eq c.core core) (result_copy c path pos scope r).variables
  result_words c path pos scope None = none_or_one (nat_eq c.core core)
  result_words c path pos scope (Some u) = one_only (nat_eq c.core core)

  enough : (b : Bool) (r p k : ℕ) → r ≤ if_so b 1 → p ≤ if_so b k → r + p ≤ if_so b (4 + k)
  enough true r p k h g = omega arith
  enough false r p k h g = omega arith

  abbrev FitsCalls : CopiesCall → Type 0
  FitsCalls copies = (c : Context) (scope : Scope) (f : Function) (pos : Pos) (args : List tree.Argument) → Fits (copies c scope f pos args)

  function_fit : (b : Bool) (k : ℕ) (i : Inst) (rs ps bs : List Var) (is js ks : List Inst) → words_of_instance core i ≡ if_so b (4 + k) → words_in rs ≤ if_so b 1 → words_in ps ≤ if_so b k → Fit bs ks → Fit (rs ++ (ps ++ bs)) (i ∷ (is ++ (js ++ ks)))
  function_fit b k i rs ps bs is js ks e h g f =
      let both = enough b (words_in rs) (words_in ps) k h g in
      let a1 = sum_by-append (words_here core) rs (ps ++ bs) in
      let a2 = sum_by-append (words_here core) ps bs in
      let a3 = sum_by-append (words_of_variable core) rs (ps ++ bs) in
      let a4 = sum_by-append (words_of_variable core) ps bs in
      let a5 = sum_by-cons (words_of_instance core) i (is ++ (js ++ ks)) in
      let a6 = sum_by-append (words_of_instance core) is (js ++ ks) in
      let a7 = sum_by-append (words_of_instance core) js ks in
      omega arith

  function_fits : (copies : CopiesStatement) → ((s : tree.Statement) (c : Context) (scope : Scope) → Fits (copies s c scope)) → (c : Context) (scope : Scope) (own : Path) (f : Function) (args : List tree.Argument) → Fits (function_copy copies c scope own f args)
  function_fits copies h c scope own f args =
      let r = result_copy c (path_at own f.head.name.pos) f.head.name.pos scope f.head.result in
      let p = all_passed c scope own f.head.params args in
      let b = body_copy copies c own f p.scope in
      function_fit (nat_eq c.core core) (length f.head.params) (record { core = c.core; params = length f.head.params }) r.variables p.variables b.variables r.instances p.instances b.instances refl
      (result_words c (path_at own f.head.name.pos) f.head.name.pos scope f.head.result) (all_words c scope own f.head.params args) (h f.body (in_function c own f) p.scope)

  module _ (copies : CopiesCall) (calls : FitsCalls copies) where
    by_fits : (c : Context) (scope : Scope) (pos : Pos) (args : List tree.Argument) (f : Option Function) → Fits (call_by copies c scope pos args f)
    by_fits c scope pos args None = none_fit
    by_fits c scope pos args (Some f) = calls c scope f pos args

    right_fits : (c : Context) (scope : Scope) (r : tree.RightSide) → Fits (right_copy copies c scope r)
    right_fits c scope (tree.value e) = none_fit
    right_fits c scope (tree.result call) = by_fits c scope call.called.pos call.arguments (called c call)

    kind_fits : (c : Context) (scope : Scope) (name : List ℕ) (pos : Pos) (kind : tree.Kind) → Fits (kind_copy copies c scope name pos kind)
    kind_fits c scope name pos (tree.word u None) = counted_fit (word_variable c true (path_at c.path pos) pos) refl
    kind_fits c scope name pos (tree.word u (Some r)) =
        let inner = with_name scope name (a_word (path_at c.path pos) u) in
        let rc = right_copy copies c inner r in
        more_fit (word_variable c true (path_at c.path pos) pos) (rc.variables ++ []) (rc.instances ++ []) refl (both_fit rc.variables [] rc.instances [] (right_fits c inner r) none_fit)
    kind_fits c scope name pos (tree.array u l at) = counted_fit (array_variable c l (path_at c.path pos) pos) refl
    kind_fits c scope name pos (tree.channel streaming) = none_fit
    kind_fits c scope name pos tree.timer = none_fit

    declarations_fit : (c : Context) (ds : List tree.Declaration) (scope : Scope) → Fits (declarations_copy copies c ds scope)
    declarations_fit c [] scope = none_fit
    declarations_fit c (d ∷ ds) scope =
        let first = declaration_copy copies c scope d in
        joined_fit first (declarations_copy copies c ds first.scope) (kind_fits c scope d.name.text d.name.pos d.kind) (declarations_fit c ds first.scope)

    assign_fits : (c : Context) (scope : Scope) (to : tree.Expression) (symbol : ℕ) (pos : Pos) (r : tree.RightSide) (b : Bool) → Fits (assign_by copies c scope to symbol pos r b)
    assign_fits c scope to symbol pos r true =
        let rc = right_copy copies c scope r in
        both_fit rc.variables [] rc.instances [] (right_fits c scope r) none_fit
    assign_fits c scope to symbol pos r false = none_fit

    return_fits : (c : Context) (scope : Scope) (r : Option tree.RightSide) → Fits (return_copy copies c scope r)
    return_fits c scope None = none_fit
    return_fits c scope (Some r) =
        let rc = right_copy copies c scope r in
        both_fit rc.variables [] rc.instances [] (right_fits c scope r) none_fit

    target_fits : (c : Context) (scope : Scope) (t : tree.Target) → Fits (target_copy c scope t)
    target_fits c scope (tree.to e) = none_fit
    target_fits c scope tree.dropped = none_fit
    target_fits c scope (tree.fresh u name) = counted_fit (word_variable c true (path_at c.path name.pos) name.pos) refl

    replicated_fit : (copy : ℕ → ℕ → Copy) → ((index number : ℕ) → Fits (copy index number)) → (pos : Pos) (scope : Scope) (count index number : ℕ) → Fits (replicated copy pos scope count index number).made
    replicated_fit copy h pos scope zero index number = none_fit
    replicated_fit copy h pos scope (suc count) index number =
        joined_fit (copy index number) (replicated copy pos scope count (index + 1) (number + 1)).made (h index number) (replicated_fit copy h pos scope count (index + 1) (number + 1))

    and_case_fits : (c : Context) (scope : Scope) (pos : Pos) (guard : Option tree.Expression) (i : Option tree.Input) (body : Copy) (others : Cased) → Fits body → Fits others.made → Fits (and_case c scope pos guard i body others).made
    and_case_fits c scope pos guard None body others h g = joined_fit body others.made h g
    and_case_fits c scope pos guard (Some i) body others h g =
        let names = input_names c scope i in
        joined_fit (joined names body) others.made (joined_fit names body (target_fits c scope i.target) h) g

    mutual
      statement_fits : (s : tree.Statement) (c : Context) (scope : Scope) → Fits (statement_copy copies s c scope)
      statement_fits (tree.statement action pos close own) c scope = action_fits action pos close c scope

      action_fits : (a : tree.Action) (pos close : Pos) (c : Context) (scope : Scope) → Fits (action_copy copies a pos close c scope)
      action_fits tree.empty pos close c scope = none_fit
      action_fits (tree.block ss) pos close c scope = statements_fit ss c scope
      action_fits (tree.declare ds) pos close c scope = declarations_fit c ds scope
      action_fits (tree.assign to symbol spot r) pos close c scope = assign_fits c scope to symbol spot r (nat_eq symbol equals)
      action_fits (tree.step to symbol) pos close c scope = none_fit
      action_fits (tree.perform r) pos close c scope = right_fits c scope r
      action_fits (tree.output o) pos close c scope = none_fit
      action_fits (tree.input i) pos close c scope = target_fits c scope i.target
      action_fits (tree.if_then test a b) pos close c scope =
          let first = statement_copy copies a c scope in
          joined_fit first (maybe_copy copies b c first.scope) (statement_fits a c scope) (maybe_fits b c first.scope)
      action_fits (tree.while_loop test body) pos close c scope = statement_fits body (in_loop c pos) scope
      action_fits (tree.do_while body test) pos close c scope = statement_fits body (in_loop c pos) scope
      action_fits (tree.for_loop first test next body) pos close c scope =
          let f = maybe_copy copies first c scope in
          let n = maybe_copy copies next c f.scope in
          let b = statement_copy copies body (in_loop c pos) f.scope in
          joined_fit f (joined n b) (maybe_fits first c scope) (joined_fit n b (maybe_fits next c f.scope) (statement_fits body (in_loop c pos) f.scope))
      action_fits (tree.return_with r) pos close c scope = return_fits c scope r
      action_fits tree.break_out pos close c scope = none_fit
      action_fits tree.continue_on pos close c scope = none_fit
      action_fits (tree.par bs) pos close c scope = branches_fit bs 0 c scope
      action_fits (tree.replicated first second third from until b) pos close c scope =
          replicated_fit (numbered_copy (branch_copy copies b) c scope first.text) (λ index number. branch_fits b (in_branch c index) (with_name scope first.text (a_constant number))) (pos_of_branch b) scope (until - from) 0 from
      action_fits (tree.select cs) pos close c scope = cases_fit cs c scope
      action_fits (tree.transaction is_master ss) pos close c scope = statements_fit ss c scope

      maybe_fits : (m : tree.Maybe) (c : Context) (scope : Scope) → Fits (maybe_copy copies m c scope)
      maybe_fits tree.absent c scope = none_fit
      maybe_fits (tree.present s) c scope = statement_fits s c scope

      statements_fit : (ss : tree.Statements) (c : Context) (scope : Scope) → Fits (statements_copy copies ss c scope)
      statements_fit tree.no_more c scope = none_fit
      statements_fit (tree.more s ss) c scope =
          let first = statement_copy copies s c scope in
          joined_fit first (statements_copy copies ss c first.scope) (statement_fits s c scope) (statements_fit ss c first.scope)

      branch_fits : (b : tree.Branch) (c : Context) (scope : Scope) → Fits (branch_copy copies b c scope)
      branch_fits (tree.branch place s) c scope = statement_fits s c scope

      branches_fit : (bs : tree.Branches) (index : ℕ) (c : Context) (scope : Scope) → Fits (branches_copy copies bs index c scope).made
      branches_fit tree.no_branch index c scope = none_fit
      branches_fit (tree.more_branches b bs) index c scope =
          let first = branch_copy copies b (in_branch c index) scope in
          joined_fit first (branches_copy copies bs (index + 1) c first.scope).made (branch_fits b (in_branch c index) scope) (branches_fit bs (index + 1) c first.scope)

      cases_fit : (cs : tree.Cases) (c : Context) (scope : Scope) → Fits (cases_copy copies cs c scope).made
      cases_fit tree.no_case c scope = none_fit
      cases_fit (tree.more_cases a cs) c scope = case_fits a c scope (cases_copy copies cs c scope) (cases_fit cs c scope)

      case_fits : (a : tree.Case) (c : Context) (scope : Scope) (others : Cased) → Fits others.made → Fits (case_copy copies a c scope others).made
      case_fits (tree.case pos guard i ss) c scope others g =
          and_case_fits c scope pos guard i (statements_copy copies ss (in_case c pos) (case_scope c scope i)) others (statements_fit ss (in_case c pos) (case_scope c scope i)) g

    -- the roots

    root_fits : (main : Pos) (b : tree.Branch) (c : Context) (scope : Scope) → Fits (branch_root copies main b c scope).made
    root_fits main (tree.branch place s) c scope = statement_fits s (record c { core = core_of scope place }) scope

    roots_fit : (main : Pos) (bs : tree.Branches) (index : ℕ) (c : Context) (scope : Scope) → Fits (branch_roots copies main bs index c scope).made
    roots_fit main tree.no_branch index c scope = none_fit
    roots_fit main (tree.more_branches b bs) index c scope =
        let first = (branch_root copies main b (in_branch c index) scope).made in
        joined_fit first (branch_roots copies main bs (index + 1) c first.scope).made (root_fits main b (in_branch c index) scope) (roots_fit main bs (index + 1) c first.scope)

    numbered_fit : (main : Pos) (b : tree.Branch) (name : List ℕ) (c : Context) (scope : Scope) (count index number : ℕ) → Fits (numbered_roots copies main b name c scope count index number).made
    numbered_fit main b name c scope zero index number = none_fit
    numbered_fit main b name c scope (suc count) index number =
        let inner = with_name scope name (a_constant number) in
        joined_fit (branch_root copies main b (in_branch c index) inner).made (numbered_roots copies main b name c scope count (index + 1) (number + 1)).made (root_fits main b (in_branch c index) inner) (numbered_fit main b name c scope count (index + 1) (number + 1))

    action_roots_fit : (main : Pos) (a : tree.Action) (c : Context) (scope : Scope) → Fits (action_roots copies main a c scope).made
    action_roots_fit main (tree.declare ds) c scope = declarations_fit c ds scope
    action_roots_fit main (tree.par bs) c scope = roots_fit main bs 0 c scope
    action_roots_fit main (tree.replicated first second third from until b) c scope = numbered_fit main b first.text c scope (until - from) 0 from
    action_roots_fit main tree.empty c scope = none_fit
    action_roots_fit main (tree.block ss) c scope = none_fit
    action_roots_fit main (tree.assign to symbol spot r) c scope = none_fit
    action_roots_fit main (tree.step to symbol) c scope = none_fit
    action_roots_fit main (tree.perform r) c scope = none_fit
    action_roots_fit main (tree.output o) c scope = none_fit
    action_roots_fit main (tree.input i) c scope = none_fit
    action_roots_fit main (tree.if_then test a b) c scope = none_fit
    action_roots_fit main (tree.while_loop test body) c scope = none_fit
    action_roots_fit main (tree.do_while body test) c scope = none_fit
    action_roots_fit main (tree.for_loop first test next body) c scope = none_fit
    action_roots_fit main (tree.return_with r) c scope = none_fit
    action_roots_fit main tree.break_out c scope = none_fit
    action_roots_fit main tree.continue_on c scope = none_fit
    action_roots_fit main (tree.select cs) c scope = none_fit
    action_roots_fit main (tree.transaction is_master ss) c scope = none_fit

    block_fits : (main : Pos) (ss : tree.Statements) (c : Context) (scope : Scope) → Fits (block_roots copies main ss c scope).made
    block_fits main tree.no_more c scope = none_fit
    block_fits main (tree.more (tree.statement action pos close own) ss) c scope =
        let first = (action_roots copies main action c scope).made in
        joined_fit first (block_roots copies main ss c first.scope).made (action_roots_fit main action c scope) (block_fits main ss c first.scope)

    main_fits : (b : Bool) (f : Function) (c : Context) → Fits (roots_by copies b f c).made
    main_fits true f c =
        let main = instance_of c f c.ports in
        let branches = (block_roots copies f.head.name.pos (in_block f.body) c c.ports).made in
        joined_fit main branches (omega arith) (block_fits f.head.name.pos (in_block f.body) c c.ports)
    main_fits false f c = function_fits (statement_copy copies) statement_fits c c.ports [] f []

    all_fit : (f : Option Function) (c : Context) → Fits (roots_of copies f c).made
    all_fit None c = none_fit
    all_fit (Some f) c = main_fits (block_has_placed (in_block f.body)) f c

  -- calls that go at most so deep
  calls_fit : (n : ℕ) → FitsCalls (calls_copy n)
  calls_fit zero c scope f pos args = none_fit
  calls_fit (suc n) c scope f pos args = function_fits (statement_copy (calls_copy n)) (statement_fits (calls_copy n) (calls_fit n)) c scope (path_of_call c pos) f args

  -- of a program
  program_fits : (P : List tree.Item) (n : Numbering) → Fits (rooted P n).made
  program_fits P n = all_fit (calls_of P) (calls_fit _) (main_of P) (context_of P n)

of_copy : (core : ℕ) (P : List tree.Item) → (numbering P).variables ≡ (rooted P (numbering P)).made.variables → Fit core (copy_of P).variables (copy_of P).instances
unfolding copy_of
of_copy core P e = subst (λ (vs : List Var). Fit core vs (rooted P (numbering P)).made.instances) (sym e) (program_fits core P (numbering P))

-- In the kernel of a program the words of all variables are among those that its instances and variables need.
pub words_fit : (k : kernel.Kernel) (core : ℕ) → IsOfProgram k → sum_by (words_here core) k.variables ≤ sum_by (words_of_instance core) k.instances + sum_by (words_of_variable core) k.variables
words_fit k core o =
    subst (λ (K : kernel.Kernel). Fit core K.variables K.instances) (sym o.copies.is_copy) (of_copy core o.program (none_merged o.program o.sound.typed.text).variables)
