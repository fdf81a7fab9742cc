-- The kernel of a program that breaks no rule of names, types and shapes leaves blocks of the same branch and transaction alone.
use Rattle.std.proofs.Common.{◌≡◌, ⊎_elim, ℕ, zero, suc, ◌+◌, ◌-◌, Bool, true, false, not, IsTrue, List, [], ◌∷◌, ◌++◌, length, Option, Some, None, slice_get, nat_eq, bytes_eq, refl, sym, subst, true≢false, arith}
use Rattle.xw_words.specs.declared.pos.Pos.{Pos}
use Rattle.xc_tree.specs.declared.tree.Param.{Param}
use Rattle.xc_tree.specs.declared.tree.ParamKind.{ParamKind}
use Rattle.xc_tree.specs.declared.tree.ParamKind.TheVariants as param
use Rattle.xc_tree.specs.Plain as tree
use Rattle.xc_tree.specs.Types.Named.{NamedProgram, past}
use Rattle.xc_tree.specs.Types.Sites.{Site, sites}
use Rattle.xc_tree.specs.Types.Sites as site
use Rattle.xc_tree.specs.Names.Marks as marks
use Rattle.xc_tree.specs.Shapes.Enclosing.{Enclosing, a_block, an_if, a_loop, a_case, a_branch, a_transaction, inside, in_block_of, has_way_out, has_next_turn, in_par_or_transaction}
use Rattle.xc_kernel.specs.Plain as kernel
use Rattle.xc_kernel.specs.Paths.{Path, path_at, path_of_turn}
use Rattle.xc_kernel.specs.Numbering.{block_number}
use Rattle.xc_kernel.specs.Scopes.{Scope, Entity, an_array, entity_of, a_constant, with_name}
use Rattle.xc_kernel.specs.Programs.{Function, functions, function_by, function_named, name_of_main, main_of}
use Rattle.xc_tree.specs.Symbols.{equals}
use Rattle.xc_kernel.specs.Context.{Context, in_branch, in_loop, in_case, in_function, block_at, expression, maybe_expression}
use Rattle.xc_kernel.specs.Parameters.{passed, all_passed, by_element, form_by_reference, by_reference, by_name}
use Rattle.xc_kernel.specs.Calls.{CopiesCall, result_copy, function_copy, path_of_call, called, call_by, right_copy}
use Rattle.xc_kernel.specs.Declarations.{initial_copy, kind_copy, declarations_copy}
use Rattle.xc_kernel.specs.Flow.{test_or_true, leave_unless, numbered_copy, replicated, case_scope}
use Rattle.xc_kernel.specs.Statements.{pos_of_branch, assign_by, return_copy, statement_copy, action_copy, maybe_copy, statements_copy, branch_copy, branches_copy, cases_copy, calls_copy}
use Rattle.xc_kernel.specs.Roots as roots
use Rattle.xc_kernel.specs.Copies.{copy_of, numbering}
use Rattle.xc_meaning.specs.Settings.Channels.{is_among}
use Rattle.std.specs.Prelude.{Contains}
use Rattle.std.proofs.lemmas.Option.{get_or_from_slice_get}
use Rattle.xw_words.specs.declared.pos.Broken.{Broken}
use Rattle.xc_tree.specs.Checks.{rules, rule, Breaks}
use Rattle.xc_tree.specs.Types.Rules.{broken_where}
use Rattle.xc_tree.specs.Shapes.Rules.{rule_501, rule_502}
use Rattle.xc_kernel.specs.Sound.{IsTyped}
use Rattle.xc_kernel.specs.Branches.{branches_of}
use Rattle.xc_invariants.specs.Placed.{AnyBlock, AnyInside, PlacedStatement, PlacedStatements, PlacedCases, PlacedDefault, PlacedBranches, IsPlaced}
use Rattle.xc_wellformed.proofs.FineSites.{all_by_place}
use Rattle.xc_wellformed.proofs.Walk.Arguments.{AllIn, split}
use Rattle.xc_invariants.proofs.Lookups.{within}
use Rattle.xc_meaning.proofs.Basics.{true_or_false, some_given, none_given, same_number, or_left, or_right}

-- what the rules on `break`, `continue` and `return` ask
abbrev pub IsFine : Site → Type 0
IsFine (site.break around p) = IsTrue (has_way_out around.holders)
IsFine (site.continue around p) = IsTrue (has_next_turn around.holders)
IsFine (site.return around v p) = in_par_or_transaction around.holders ≡ false
IsFine other = Unit {0}

-- Code that leaves these blocks alone.

abbrev Leaving : List ℕ → kernel.Statement → Type 0
Leaving free s = (around inside : List ℕ) → PlacedStatement AnyBlock AnyInside around free inside s

abbrev AllLeaving : List ℕ → List kernel.Statement → Type 0
AllLeaving free xs = AllIn (Leaving free) xs

both : (free : List ℕ) (xs ys : List kernel.Statement) → AllLeaving free xs → AllLeaving free ys → AllLeaving free (xs ++ ys)
both free [] ys h g = g
both free (x ∷ xs) ys h g = (h.0, both free xs ys h.1 g)

as_statements : (free : List ℕ) (xs : List kernel.Statement) → AllLeaving free xs → (around inside : List ℕ) → PlacedStatements AnyBlock AnyInside around free inside (kernel.statements xs)
as_statements free [] h around inside = tt
as_statements free (x ∷ xs) h around inside = (h.0 around inside, as_statements free xs h.1 around inside)

-- what a statement in this context may leave, by what stands around it
abbrev Fits : Context → Enclosing → List ℕ → Type 0
Fits c around free =
    (IsTrue (has_way_out around.holders) → IsTrue (is_among (block_number c.numbering c.breaks) free))
    × (IsTrue (has_next_turn around.holders) → IsTrue (is_among (block_number c.numbering c.continues) free))
    × (in_par_or_transaction around.holders ≡ false → IsTrue (is_among (block_number c.numbering c.returns) free))

one_more : (k : ℕ) (free : List ℕ) (n : ℕ) → IsTrue (is_among n free) → IsTrue (is_among n (k ∷ free))
one_more k free n u = or_right (nat_eq n k) (is_among n free) u

the_first : (n : ℕ) (free : List ℕ) → IsTrue (is_among n (n ∷ free))
the_first n free = or_left (nat_eq n n) (is_among n free) (same_number n)

fits_more : (c : Context) (around : Enclosing) (free : List ℕ) (k : ℕ) → Fits c around free → Fits c around (k ∷ free)
fits_more c around free k h =
    (λ u. one_more k free (block_number c.numbering c.breaks) (h.0 u), λ u. one_more k free (block_number c.numbering c.continues) (h.1 u), λ u. one_more k free (block_number c.numbering c.returns) (h.2 u))

never : {A : Type 0} → IsTrue false → A
never u = absurd (true≢false (sym u))

nothing_fits : (c : Context) (around : Enclosing) → Fits (in_branch c 0) (inside a_branch around) []
nothing_fits c around = (λ u. never u, λ u. never u, λ u. never (sym u))

-- a function's body obeys the rules, in some place of the text
abbrev pub IsFineOf : NamedProgram → Function → Type 0
IsFineOf n f = (k : ℕ) × AllIn IsFine (site.of_body n (in_block_of f.head) k f.body)

module _ (n : NamedProgram) (fs : List Function) where
  abbrev IsFineFunction : Function → Type 0
  IsFineFunction f = IsFineOf n f

  module _ (all_fine : AllIn IsFineFunction fs) where
    fine_by : (b : Bool) (g : Function) (o : Option Function) → IsFineFunction g → ((f : Function) → o ≡ Some f → IsFineFunction f) → (f : Function) → function_by b g o ≡ Some f → IsFineFunction f
    fine_by true g o h k f e = subst IsFineFunction (some_given e) h
    fine_by false g o h k f e = k f e

    fine_named : (gs : List Function) → AllIn IsFineFunction gs → (name : List ℕ) (f : Function) → function_named gs name ≡ Some f → IsFineFunction f
    fine_named [] h name f e = none_given e
    fine_named (g ∷ gs) h name f e = fine_by (bytes_eq g.head.name.text name) g (function_named gs name) h.0 (λ f e. fine_named gs h.1 name f e) f e

    CopiesWell : CopiesCall → Type 0
    CopiesWell copies = (c : Context) (scope : Scope) (f : Function) (pos : Pos) (args : List tree.Argument) → c.functions ≡ fs → IsFineFunction f → (free : List ℕ) → AllLeaving free (copies c scope f pos args).code

    module _ (copies : CopiesCall) (well : (c : Context) (scope : Scope) (f : Function) (pos : Pos) (args : List tree.Argument) → c.functions ≡ fs → IsFineFunction f → (free : List ℕ) → AllLeaving free (copies c scope f pos args).code) where
      call_leaves : (c : Context) (scope : Scope) (pos : Pos) (args : List tree.Argument) (o : Option Function) → c.functions ≡ fs → ((f : Function) → o ≡ Some f → IsFineFunction f) → (free : List ℕ) → AllLeaving free (call_by copies c scope pos args o).code
      call_leaves c scope pos args None e k free = tt
      call_leaves c scope pos args (Some f) e k free = well c scope f pos args e (k f refl) free

      right_leaves : (c : Context) (scope : Scope) (r : tree.RightSide) → c.functions ≡ fs → (free : List ℕ) → AllLeaving free (right_copy copies c scope r).code
      right_leaves c scope (tree.value v) e free = tt
      right_leaves c scope (tree.result call) e free =
          call_leaves c scope call.called.pos call.arguments (called c call) e
          (λ f g. fine_named c.functions (subst (AllIn IsFineFunction) (sym e) all_fine) call.called.text f g) free

      initial_leaves : (c : Context) (path : Path) (r : Option tree.RightSide) (scope : Scope) → c.functions ≡ fs → (free : List ℕ) → AllLeaving free (initial_copy copies c path r scope).code
      initial_leaves c path None scope e free = (λ around inside. tt, tt)
      initial_leaves c path (Some r) scope e free = both free (right_copy copies c scope r).code _ (right_leaves c scope r e free) (λ around inside. tt, tt)

      kind_leaves : (c : Context) (scope : Scope) (name : List ℕ) (pos : Pos) (k : tree.Kind) → c.functions ≡ fs → (free : List ℕ) → AllLeaving free (kind_copy copies c scope name pos k).code
      kind_leaves c scope name pos (tree.word u r) e free = initial_leaves c (path_at c.path pos) r _ e free
      kind_leaves c scope name pos (tree.array u l at) e free = (λ around inside. tt, tt)
      kind_leaves c scope name pos (tree.channel s) e free = tt
      kind_leaves c scope name pos tree.timer e free = tt

      declarations_leave : (c : Context) (ds : List tree.Declaration) (scope : Scope) → c.functions ≡ fs → (free : List ℕ) → AllLeaving free (declarations_copy copies c ds scope).code
      declarations_leave c [] scope e free = tt
      declarations_leave c (d ∷ ds) scope e free = both free _ _ (kind_leaves c scope d.name.text d.name.pos d.kind e free) (declarations_leave c ds _ e free)

      assign_leaves : (c : Context) (scope : Scope) (to : tree.Expression) (symbol : ℕ) (pos : Pos) (r : tree.RightSide) (b : Bool) → c.functions ≡ fs → (free : List ℕ) → AllLeaving free (assign_by copies c scope to symbol pos r b).code
      assign_leaves c scope to symbol pos r true e free = both free (right_copy copies c scope r).code _ (right_leaves c scope r e free) (λ around inside. tt, tt)
      assign_leaves c scope to symbol pos r false e free = (λ around inside. tt, tt)

      return_leaves : (c : Context) (scope : Scope) (r : Option tree.RightSide) → c.functions ≡ fs → (free : List ℕ) → IsTrue (is_among (block_number c.numbering c.returns) free) → AllLeaving free (return_copy copies c scope r).code
      return_leaves c scope None e free u = (λ around inside. u, tt)
      return_leaves c scope (Some r) e free u = both free (right_copy copies c scope r).code _ (right_leaves c scope r e free) (λ around inside. tt, (λ around inside. u, tt))

      -- a loop in its blocks
      loop_leaves : (c : Context) (path : Path) (test : kernel.Expression) (body : List kernel.Statement) (more next : List kernel.Statement) (free : List ℕ) →
          AllLeaving (block_number c.numbering (path_of_turn path) ∷ block_number c.numbering path ∷ free) body → AllLeaving (block_number c.numbering path ∷ free) more → AllLeaving (block_number c.numbering path ∷ free) next →
          Leaving free (block_at c path (kernel.loop test (kernel.statements (block_at c (path_of_turn path) body ∷ more)) (kernel.statements next) ∷ []))
      loop_leaves c path test body more next free h g k a i =
          let p = block_number c.numbering path in
          let t = block_number c.numbering (path_of_turn path) in
          (tt, ((((tt, as_statements (t ∷ p ∷ free) body h (t ∷ p ∷ a) i), as_statements (p ∷ free) more g (p ∷ a) i), as_statements (p ∷ free) next k (p ∷ a) i), tt))

      in_loop_fits : (c : Context) (around : Enclosing) (pos : Pos) (free : List ℕ) → Fits c around free → Fits (in_loop c pos) (inside a_loop around) (block_number c.numbering (path_of_turn (path_at c.path pos)) ∷ block_number c.numbering (path_at c.path pos) ∷ free)
      in_loop_fits c around pos free h =
          let p = block_number c.numbering (path_at c.path pos) in
          let t = block_number c.numbering (path_of_turn (path_at c.path pos)) in
          (λ u. one_more t (p ∷ free) p (the_first p free), λ u. the_first t (p ∷ free), λ u. one_more t (p ∷ free) (block_number c.numbering c.returns) (one_more p free (block_number c.numbering c.returns) (h.2 u)))

      in_case_fits : (c : Context) (around : Enclosing) (pos : Pos) (free : List ℕ) → Fits c around free → Fits (in_case c pos) (inside a_case around) (block_number c.numbering (path_at c.path pos) ∷ free)
      in_case_fits c around pos free h =
          let p = block_number c.numbering (path_at c.path pos) in
          (λ u. the_first p free, λ u. one_more p free (block_number c.numbering c.continues) (h.1 u), λ u. one_more p free (block_number c.numbering c.returns) (h.2 u))

      copies_leave : (b : tree.Branch) (c : Context) (scope : Scope) (name : List ℕ) (around : Enclosing) (k : ℕ) (count index number : ℕ) → c.functions ≡ fs →
          ((c : Context) (scope : Scope) → c.functions ≡ fs → AllLeaving [] (branch_copy copies b c scope).code) →
          PlacedBranches AnyBlock AnyInside (replicated (numbered_copy (branch_copy copies b) c scope name) (pos_of_branch b) scope count index number).branches
      copies_leave b c scope name around k zero index number e rec = tt
      copies_leave b c scope name around k (suc count) index number e rec =
          (as_statements [] _ (rec (in_branch c index) (with_name scope name (a_constant number)) e) [] [], copies_leave b c scope name around k count (index + 1) (number + 1) e rec)

      mutual
        statement_leaves : (s : tree.Statement) (c : Context) (scope : Scope) (around : Enclosing) (k : ℕ) (free : List ℕ) → c.functions ≡ fs → Fits c around free → AllIn IsFine (site.of_statement n around k s) → AllLeaving free (statement_copy copies s c scope).code
        statement_leaves (tree.statement a pos close own) c scope around k free e h g = action_leaves a pos close c scope around k free e h g

        action_leaves : (a : tree.Action) (pos close : Pos) (c : Context) (scope : Scope) (around : Enclosing) (k : ℕ) (free : List ℕ) → c.functions ≡ fs → Fits c around free → AllIn IsFine (site.of_action n around k pos a) → AllLeaving free (action_copy copies a pos close c scope).code
        action_leaves tree.empty pos close c scope around k free e h g = tt
        action_leaves (tree.block ss) pos close c scope around k free e h g = statements_leave ss c scope (inside a_block around) k free e h g
        action_leaves (tree.declare ds) pos close c scope around k free e h g = declarations_leave c ds scope e free
        action_leaves (tree.assign to symbol at r) pos close c scope around k free e h g = assign_leaves c scope to symbol at r (nat_eq symbol equals) e free
        action_leaves (tree.step to symbol) pos close c scope around k free e h g = (λ around inside. tt, tt)
        action_leaves (tree.perform r) pos close c scope around k free e h g = right_leaves c scope r e free
        action_leaves (tree.output o) pos close c scope around k free e h g = (λ around inside. tt, tt)
        action_leaves (tree.input i) pos close c scope around k free e h g = (λ around inside. tt, tt)
        action_leaves (tree.if_then test a b) pos close c scope around k free e h g =
            let g1 = split IsFine (site.of_expression n k test) _ g in
            let g2 = split IsFine (site.of_statement n (inside an_if around) _ a) _ g1.1 in
            let x = statement_leaves a c scope (inside an_if around) _ free e h g2.0 in
            let y = maybe_leaves b c _ (inside an_if around) _ free e h g2.1 in
            (λ around inside. (as_statements free _ x around inside, as_statements free _ y around inside), tt)
        action_leaves (tree.while_loop test body) pos close c scope around k free e h g =
            let g1 = split IsFine (site.of_expression n k test) _ g in
            let x = statement_leaves body (in_loop c pos) scope (inside a_loop around) _ _ e (in_loop_fits c around pos free h) g1.1 in
            (loop_leaves c (path_at c.path pos) (expression c scope test) _ [] [] free x tt tt, tt)
        action_leaves (tree.do_while body test) pos close c scope around k free e h g =
            let g1 = split IsFine (site.of_statement n (inside a_loop around) k body) _ g in
            let x = statement_leaves body (in_loop c pos) scope (inside a_loop around) _ _ e (in_loop_fits c around pos free h) g1.0 in
            (loop_leaves c (path_at c.path pos) (kernel.number 1) _ (leave_unless c (path_at c.path pos) (expression c (statement_copy copies body (in_loop c pos) scope).scope test) ∷ []) [] free x (λ a i. (tt, (the_first (block_number c.numbering (path_at c.path pos)) free, tt)), tt) tt, tt)
        action_leaves (tree.for_loop first test next body) pos close c scope around k free e h g =
            let g1 = split IsFine (site.of_maybe n around k first) _ g in
            let g2 = split IsFine (site.optional (site.of_expression n (past k (marks.of_maybe first))) test) _ g1.1 in
            let g3 = split IsFine (site.of_maybe n around _ next) _ g2.1 in
            let x = maybe_leaves first c scope around k free e h g1.0 in
            let y = maybe_leaves next c (maybe_copy copies first c scope).scope around _ (block_number c.numbering (path_at c.path pos) ∷ free) e (fits_more c around free _ h) g3.0 in
            let z = statement_leaves body (in_loop c pos) (maybe_copy copies first c scope).scope (inside a_loop around) _ _ e (in_loop_fits c around pos free h) g3.1 in
            both free (maybe_copy copies first c scope).code _ x (loop_leaves c (path_at c.path pos) (test_or_true (maybe_expression c (maybe_copy copies first c scope).scope test)) _ [] _ free z tt y, tt)
        action_leaves (tree.return_with r) pos close c scope around k free e h g = return_leaves c scope r e free (h.2 g.0)
        action_leaves tree.break_out pos close c scope around k free e h g = (λ around inside. h.0 g.0, tt)
        action_leaves tree.continue_on pos close c scope around k free e h g = (λ around inside. h.1 g.0, tt)
        action_leaves (tree.par bs) pos close c scope around k free e h g = (λ a i. (tt, branches_leave bs 0 c scope around k e g.1), tt)
        action_leaves (tree.replicated first second third from until b) pos close c scope around k free e h g =
            (λ a i. (tt, copies_leave b c scope first.text around (k + 3) (until - from) 0 from e (λ c scope e. branch_leaves b c scope around (k + 3) e g.1.1)), tt)
        action_leaves (tree.select cs) pos close c scope around k free e h g = (λ a i. cases_leave cs c scope around k free e h g.1 a i, tt)
        action_leaves (tree.transaction is_master ss) pos close c scope around k free e h g =
            (λ a i. as_statements [] _ (statements_leave ss c scope (inside a_transaction around) k [] e (λ u. never u, λ u. never u, λ u. never (sym u)) g.1) a _, tt)

        maybe_leaves : (s : tree.Maybe) (c : Context) (scope : Scope) (around : Enclosing) (k : ℕ) (free : List ℕ) → c.functions ≡ fs → Fits c around free → AllIn IsFine (site.of_maybe n around k s) → AllLeaving free (maybe_copy copies s c scope).code
        maybe_leaves tree.absent c scope around k free e h g = tt
        maybe_leaves (tree.present s) c scope around k free e h g = statement_leaves s c scope around k free e h g

        statements_leave : (ss : tree.Statements) (c : Context) (scope : Scope) (around : Enclosing) (k : ℕ) (free : List ℕ) → c.functions ≡ fs → Fits c around free → AllIn IsFine (site.of_statements n around k ss) → AllLeaving free (statements_copy copies ss c scope).code
        statements_leave tree.no_more c scope around k free e h g = tt
        statements_leave (tree.more s ss) c scope around k free e h g =
            let g1 = split IsFine (site.of_statement n around k s) _ g in
            both free (statement_copy copies s c scope).code _ (statement_leaves s c scope around k free e h g1.0) (statements_leave ss c _ around _ free e h g1.1)

        -- a branch leaves no block that it stands in
        branch_leaves : (b : tree.Branch) (c : Context) (scope : Scope) (around : Enclosing) (k : ℕ) → c.functions ≡ fs → AllIn IsFine (site.of_branch n around k b) → AllLeaving [] (branch_copy copies b c scope).code
        branch_leaves (tree.branch place s) c scope around k e g =
            let g1 = split IsFine (site.optional (site.of_branch_place n around k) place) _ g in
            statement_leaves s c scope (inside a_branch around) _ [] e (λ u. never u, λ u. never u, λ u. never (sym u)) g1.1

        branches_leave : (bs : tree.Branches) (index : ℕ) (c : Context) (scope : Scope) (around : Enclosing) (k : ℕ) → c.functions ≡ fs → AllIn IsFine (site.of_branches n around k bs) → PlacedBranches AnyBlock AnyInside (branches_copy copies bs index c scope).branches
        branches_leave tree.no_branch index c scope around k e g = tt
        branches_leave (tree.more_branches b bs) index c scope around k e g =
            let g1 = split IsFine (site.of_branch n around k b) _ g in
            (as_statements [] _ (branch_leaves b (in_branch c index) scope around k e g1.0) [] [], branches_leave bs (index + 1) c _ around _ e g1.1)

        cases_leave : (cs : tree.Cases) (c : Context) (scope : Scope) (around : Enclosing) (k : ℕ) (free : List ℕ) → c.functions ≡ fs → Fits c around free → AllIn IsFine (site.of_cases n around k cs) → (a i : List ℕ) →
            PlacedCases AnyBlock AnyInside a free i (cases_copy copies cs c scope).cases × PlacedDefault AnyBlock AnyInside a free i (cases_copy copies cs c scope).otherwise
        cases_leave tree.no_case c scope around k free e h g a i = (tt, tt)
        cases_leave (tree.more_cases (tree.case pos guard None ss) cs) c scope around k free e h g a i =
            let g1 = split IsFine (site.of_case n around k (tree.case pos guard None ss)) _ g in
            let g2 = split IsFine (site.optional (site.of_expression n k) guard) _ g1.0 in
            let x = statements_leave ss (in_case c pos) scope (inside a_case around) _ _ e (in_case_fits c around pos free h) g2.1 in
            let y = cases_leave cs c scope around _ free e h g1.1 a i in
            (y.0, ((tt, as_statements _ _ x _ i), tt))
        cases_leave (tree.more_cases (tree.case pos guard (Some input) ss) cs) c scope around k free e h g a i =
            let g1 = split IsFine (site.of_case n around k (tree.case pos guard (Some input) ss)) _ g in
            let g2 = split IsFine (site.optional (site.of_expression n k) guard) _ g1.0 in
            let g3 = split IsFine (site.of_input n _ input) _ g2.1 in
            let x = statements_leave ss (in_case c pos) (case_scope c scope (Some input)) (inside a_case around) _ _ e (in_case_fits c around pos free h) g3.1 in
            let y = cases_leave cs c scope around _ free e h g1.1 a i in
            ((((tt, as_statements _ _ x _ i), tt), y.0), y.1)

      -- a call's own block holds all that its function leaves
      body_fits : (c : Context) (own : Path) (f : Function) (free : List ℕ) → Fits (in_function c own f) (in_block_of f.head) (block_number c.numbering own ∷ free)
      body_fits c own f free = (λ u. never u, λ u. never u, λ u. the_first (block_number c.numbering own) free)

      body_leaves : (h : tree.Head) (body : tree.Statement) (c : Context) (scope : Scope) (k : ℕ) (free : List ℕ) → c.functions ≡ fs → Fits c (in_block_of h) free → AllIn IsFine (site.of_body n (in_block_of h) k body) → AllLeaving free (statement_copy copies body c scope).code
      body_leaves h (tree.statement (tree.block ss) pos close own) c scope k free e fit g = statements_leave ss c scope (in_block_of h) k free e fit g
      body_leaves h (tree.statement tree.empty pos close own) c scope k free e fit g = tt
      body_leaves h (tree.statement (tree.declare ds) pos close own) c scope k free e fit g = statement_leaves (tree.statement (tree.declare ds) pos close own) c scope (in_block_of h) k free e fit g
      body_leaves h (tree.statement (tree.assign to symbol at r) pos close own) c scope k free e fit g = statement_leaves (tree.statement (tree.assign to symbol at r) pos close own) c scope (in_block_of h) k free e fit g
      body_leaves h (tree.statement (tree.step to symbol) pos close own) c scope k free e fit g = statement_leaves (tree.statement (tree.step to symbol) pos close own) c scope (in_block_of h) k free e fit g
      body_leaves h (tree.statement (tree.perform r) pos close own) c scope k free e fit g = statement_leaves (tree.statement (tree.perform r) pos close own) c scope (in_block_of h) k free e fit g
      body_leaves h (tree.statement (tree.output o) pos close own) c scope k free e fit g = statement_leaves (tree.statement (tree.output o) pos close own) c scope (in_block_of h) k free e fit g
      body_leaves h (tree.statement (tree.input i) pos close own) c scope k free e fit g = statement_leaves (tree.statement (tree.input i) pos close own) c scope (in_block_of h) k free e fit g
      body_leaves h (tree.statement (tree.if_then test a b) pos close own) c scope k free e fit g = statement_leaves (tree.statement (tree.if_then test a b) pos close own) c scope (in_block_of h) k free e fit g
      body_leaves h (tree.statement (tree.while_loop test a) pos close own) c scope k free e fit g = statement_leaves (tree.statement (tree.while_loop test a) pos close own) c scope (in_block_of h) k free e fit g
      body_leaves h (tree.statement (tree.do_while a test) pos close own) c scope k free e fit g = statement_leaves (tree.statement (tree.do_while a test) pos close own) c scope (in_block_of h) k free e fit g
      body_leaves h (tree.statement (tree.for_loop first test next a) pos close own) c scope k free e fit g = statement_leaves (tree.statement (tree.for_loop first test next a) pos close own) c scope (in_block_of h) k free e fit g
      body_leaves h (tree.statement (tree.return_with r) pos close own) c scope k free e fit g = statement_leaves (tree.statement (tree.return_with r) pos close own) c scope (in_block_of h) k free e fit g
      body_leaves h (tree.statement tree.break_out pos close own) c scope k free e fit g = statement_leaves (tree.statement tree.break_out pos close own) c scope (in_block_of h) k free e fit g
      body_leaves h (tree.statement tree.continue_on pos close own) c scope k free e fit g = statement_leaves (tree.statement tree.continue_on pos close own) c scope (in_block_of h) k free e fit g
      body_leaves h (tree.statement (tree.par bs) pos close own) c scope k free e fit g = statement_leaves (tree.statement (tree.par bs) pos close own) c scope (in_block_of h) k free e fit g
      body_leaves h (tree.statement (tree.replicated first second third from until b) pos close own) c scope k free e fit g = statement_leaves (tree.statement (tree.replicated first second third from until b) pos close own) c scope (in_block_of h) k free e fit g
      body_leaves h (tree.statement (tree.select cs) pos close own) c scope k free e fit g = statement_leaves (tree.statement (tree.select cs) pos close own) c scope (in_block_of h) k free e fit g
      body_leaves h (tree.statement (tree.transaction is_master ss) pos close own) c scope k free e fit g = statement_leaves (tree.statement (tree.transaction is_master ss) pos close own) c scope (in_block_of h) k free e fit g

      result_leaves : (c : Context) (path : Path) (pos : Pos) (scope : Scope) (r : Option Bool) (free : List ℕ) → AllLeaving free (result_copy c path pos scope r).code
      result_leaves c path pos scope None free = tt
      result_leaves c path pos scope (Some u) free = (λ around inside. tt, tt)

      element_leaves : (c : Context) (scope : Scope) (own : Path) (pos : Pos) (i : tree.Expression) (at : Pos) (x : Entity) (free : List ℕ) → AllLeaving free (by_element c scope own pos i at x).code
      element_leaves c scope own pos i at (an_array path l u) free = (λ around inside. tt, tt)
      element_leaves c scope own pos i at other free = tt

      form_leaves : (c : Context) (scope : Scope) (own : Path) (pos at : Pos) (f : tree.Form) (free : List ℕ) → AllLeaving free (form_by_reference c scope own pos at f).code
      form_leaves c scope own pos at (tree.index text i) free = element_leaves c scope own pos i at (entity_of scope text) free
      form_leaves c scope own pos at other free = tt

      named_leaves : (scope : Scope) (v : tree.Expression) (free : List ℕ) → AllLeaving free (by_name scope v).code
      named_leaves scope (tree.expression (tree.name text) at) free = tt
      named_leaves scope other free = tt

      reference_leaves : (c : Context) (scope : Scope) (own : Path) (pos : Pos) (v : tree.Expression) (free : List ℕ) → AllLeaving free (by_reference c scope own pos v).code
      reference_leaves c scope own pos (tree.expression f at) free = form_leaves c scope own pos at f free

      passed_leaves : (c : Context) (scope : Scope) (own : Path) (pos : Pos) (k : ParamKind) (v : tree.Expression) (free : List ℕ) → AllLeaving free (passed c scope own pos k v).code
      passed_leaves c scope own pos (param.Value u) v free = (λ around inside. tt, tt)
      passed_leaves c scope own pos (param.Ref u) v free = reference_leaves c scope own pos v free
      passed_leaves c scope own pos (param.Array u l) v free = named_leaves scope v free
      passed_leaves c scope own pos (param.End s) v free = named_leaves scope v free
      passed_leaves c scope own pos (param.Port d) v free = named_leaves scope v free

      all_passed_leave : (c : Context) (scope : Scope) (own : Path) (ps : List Param) (args : List tree.Argument) (free : List ℕ) → AllLeaving free (all_passed c scope own ps args).code
      all_passed_leave c scope own [] args free = tt
      all_passed_leave c scope own (p ∷ ps) [] free = tt
      all_passed_leave c scope own (p ∷ ps) (a ∷ args) free = both free (passed c scope own p.name.pos p.kind a.value).code _ (passed_leaves c scope own p.name.pos p.kind a.value free) (all_passed_leave c scope own ps args free)

      function_leaves : (c : Context) (scope : Scope) (own : Path) (f : Function) (args : List tree.Argument) (free : List ℕ) → c.functions ≡ fs → IsFineFunction f → AllLeaving free (function_copy (statement_copy copies) c scope own f args).code
      function_leaves c scope own f args free e g =
          let p = block_number c.numbering own in
          both free (result_copy c (path_at own f.head.name.pos) f.head.name.pos scope f.head.result).code _ (result_leaves c (path_at own f.head.name.pos) f.head.name.pos scope f.head.result free)
          (both free (all_passed c scope own f.head.params args).code _ (all_passed_leave c scope own f.head.params args free)
          (λ a i. (tt, as_statements (p ∷ free) _ (body_leaves f.head f.body (in_function c own f) (all_passed c scope own f.head.params args).scope g.0 (p ∷ free) e (body_fits c own f free) g.1) (p ∷ a) i), tt))

    -- calls, as deep as they go
    calls_leave : (depth : ℕ) (c : Context) (scope : Scope) (f : Function) (pos : Pos) (args : List tree.Argument) → c.functions ≡ fs → IsFineFunction f → (free : List ℕ) → AllLeaving free (calls_copy depth c scope f pos args).code
    calls_leave zero c scope f pos args e g free = tt
    calls_leave (suc depth) c scope f pos args e g free = function_leaves (calls_copy depth) (calls_leave depth) c scope (path_of_call c pos) f args free e g

    -- roots
    module _ (depth : ℕ) where
      abbrev calls : CopiesCall
      calls = calls_copy depth

      abbrev RootsLeave : List kernel.Root → Type 0
      RootsLeave [] = Unit {0}
      RootsLeave (r ∷ rs) = PlacedStatements AnyBlock AnyInside [] [] [] r.body × RootsLeave rs

      more_roots : (xs ys : List kernel.Root) → RootsLeave xs → RootsLeave ys → RootsLeave (xs ++ ys)
      more_roots [] ys h g = g
      more_roots (x ∷ xs) ys h g = (h.0, more_roots xs ys h.1 g)

      root_leaves : (main : Pos) (b : tree.Branch) (c : Context) (scope : Scope) (around : Enclosing) (k : ℕ) → c.functions ≡ fs → AllIn IsFine (site.of_branch n around k b) → RootsLeave (roots.branch_root calls main b c scope).roots
      root_leaves main (tree.branch place s) c scope around k e g =
          (as_statements [] _ (branch_leaves calls (calls_leave depth) (tree.branch place s) (record c { core = Rattle.xc_kernel.specs.Ports.core_of scope place }) scope around k e g) [] [], tt)

      branch_roots_leave : (main : Pos) (bs : tree.Branches) (index : ℕ) (c : Context) (scope : Scope) (around : Enclosing) (k : ℕ) → c.functions ≡ fs → AllIn IsFine (site.of_branches n around k bs) → RootsLeave (roots.branch_roots calls main bs index c scope).roots
      branch_roots_leave main tree.no_branch index c scope around k e g = tt
      branch_roots_leave main (tree.more_branches b bs) index c scope around k e g =
          let g1 = split IsFine (site.of_branch n around k b) _ g in
          more_roots _ _ (root_leaves main b (in_branch c index) scope around k e g1.0) (branch_roots_leave main bs (index + 1) c _ around _ e g1.1)

      numbered_roots_leave : (main : Pos) (b : tree.Branch) (name : List ℕ) (c : Context) (scope : Scope) (around : Enclosing) (k count index number : ℕ) → c.functions ≡ fs → AllIn IsFine (site.of_branch n around k b) → RootsLeave (roots.numbered_roots calls main b name c scope count index number).roots
      numbered_roots_leave main b name c scope around k zero index number e g = tt
      numbered_roots_leave main b name c scope around k (suc count) index number e g =
          more_roots _ _ (root_leaves main b (in_branch c index) (with_name scope name (a_constant number)) around k e g) (numbered_roots_leave main b name c scope around k count (index + 1) (number + 1) e g)

      action_roots_leave : (main : Pos) (a : tree.Action) (pos : Pos) (c : Context) (scope : Scope) (around : Enclosing) (k : ℕ) → c.functions ≡ fs → AllIn IsFine (site.of_action n around k pos a) → RootsLeave (roots.action_roots calls main a c scope).roots
      action_roots_leave main (tree.par bs) pos c scope around k e g = branch_roots_leave main bs 0 c scope around k e g.1
      action_roots_leave main (tree.replicated first second third from until b) pos c scope around k e g = numbered_roots_leave main b first.text c scope around (k + 3) (until - from) 0 from e g.1.1
      action_roots_leave main (tree.declare ds) pos c scope around k e g = tt
      action_roots_leave main other pos c scope around k e g = tt

      block_roots_leave : (main : Pos) (ss : tree.Statements) (c : Context) (scope : Scope) (around : Enclosing) (k : ℕ) → c.functions ≡ fs → AllIn IsFine (site.of_statements n around k ss) → RootsLeave (roots.block_roots calls main ss c scope).roots
      block_roots_leave main tree.no_more c scope around k e g = tt
      block_roots_leave main (tree.more (tree.statement a pos close own) ss) c scope around k e g =
          let g1 = split IsFine (site.of_action n around k pos a) _ g in
          more_roots _ _ (action_roots_leave main a pos c scope around k e g1.0) (block_roots_leave main ss c _ around _ e g1.1)

      in_block_leave : (main : Pos) (h : tree.Head) (body : tree.Statement) (c : Context) (k : ℕ) → c.functions ≡ fs → AllIn IsFine (site.of_body n (in_block_of h) k body) → RootsLeave (roots.block_roots calls main (roots.in_block body) c c.ports).roots
      in_block_leave main h (tree.statement (tree.block ss) pos close own) c k e g = block_roots_leave main ss c c.ports (in_block_of h) k e g
      in_block_leave main h other c k e g = tt

      roots_leave_by : (b : Bool) (f : Function) (c : Context) → c.functions ≡ fs → IsFineFunction f → RootsLeave (roots.roots_by calls b f c).roots
      roots_leave_by true f c e g = in_block_leave f.head.name.pos f.head f.body c g.0 e g.1
      roots_leave_by false f c e g = (as_statements [] _ (function_leaves calls (calls_leave depth) c c.ports [] f [] [] e g) [] [], tt)

      roots_leave : (o : Option Function) (c : Context) → c.functions ≡ fs → ((f : Function) → o ≡ Some f → IsFineFunction f) → RootsLeave (roots.roots_of calls o c).roots
      roots_leave None c e g = tt
      roots_leave (Some f) c e g = roots_leave_by (roots.block_has_placed (roots.in_block f.body)) f c e (g f refl)

      placed_roots : (rs : List kernel.Root) → RootsLeave rs → PlacedBranches AnyBlock AnyInside (branches_of rs)
      placed_roots [] h = tt
      placed_roots (r ∷ rs) h = (h.0, placed_roots rs h.1)

-- the functions of a program whose sites are fine
fine_functions : (n : NamedProgram) (items : List tree.Item) (i k : ℕ) → AllIn IsFine (site.of_items n i k items) → AllIn (IsFineOf n) (functions items)
fine_functions n [] i k h = tt
fine_functions n (tree.port p ∷ items) i k h =
    let g = split IsFine (site.of_item n k (tree.port p)) _ h in fine_functions n items (i + 1) _ g.1
fine_functions n (tree.function head body ∷ items) i k h =
    let g = split IsFine (site.of_item n k (tree.function head body)) _ h in
    let b = split IsFine (site.each site.of_parameter head.params) _ g.0.1 in
    ((_, b.1), fine_functions n items (i + 1) _ g.1)

-- the kernel of a program whose sites are fine
copy_placed : (P : List tree.Item) (n : NamedProgram) → AllIn IsFine (site.of_items n 0 0 P) → IsPlaced AnyBlock AnyInside (copy_of P)
unfolding copy_of
copy_placed P n h =
    let fine = fine_functions n P 0 0 h in
    record {
      roots = placed_roots n (functions P) fine (length (functions P)) _
          (roots_leave n (functions P) fine (length (functions P)) (main_of P) (roots.context_of P (numbering P)) refl
          (λ f e. fine_named n (functions P) fine (functions P) fine name_of_main f e));
    }

-- What the rules on `break`, `continue` and `return` promise.

there : {A : Type 0} (xs : List A) (i : ℕ) (x : A) → slice_get xs i ≡ Some x → Contains xs x
there xs i x e = (i, within xs i e, get_or_from_slice_get xs i x x e)

broken_place : (b : Bool) (p : Pos) → b ≡ true → Contains (broken_where b p) p
broken_place true p e = (0, omega arith, refl)
broken_place false p e = absurd (true≢false (sym e))

not_false : (b : Bool) → b ≡ false → not b ≡ true
not_false false e = refl
not_false true e = absurd (true≢false e)

rule_501_there : Contains rules (rule 501 rule_501)
rule_501_there = (16, omega arith, refl)

rule_502_there : Contains rules (rule 502 rule_502)
rule_502_there = (17, omega arith, refl)

module _ (named : NamedProgram) (unbroken : (b : Broken) → Breaks named b → ⊥) where
  never_501 : (s : Site) (p : Pos) → Contains (sites named) s → Contains (rule_501 s) p → ⊥
  never_501 s p h g = unbroken (record { rule = 501; pos = p }) (record { rule = rule 501 rule_501; among = rule_501_there; numbered = refl; site = s; there = h; broken = g })

  never_502 : (s : Site) (p : Pos) → Contains (sites named) s → Contains (rule_502 s) p → ⊥
  never_502 s p h g = unbroken (record { rule = 502; pos = p }) (record { rule = rule 502 rule_502; among = rule_502_there; numbered = refl; site = s; there = h; broken = g })

  fine_site : (s : Site) → Contains (sites named) s → IsFine s
  fine_site (site.break around p) h =
      ⊎_elim (λ t. t) (λ f. absurd (never_501 (site.break around p) p h (broken_place (not (has_way_out around.holders)) p (not_false (has_way_out around.holders) f)))) (true_or_false (has_way_out around.holders))
  fine_site (site.continue around p) h =
      ⊎_elim (λ t. t) (λ f. absurd (never_501 (site.continue around p) p h (broken_place (not (has_next_turn around.holders)) p (not_false (has_next_turn around.holders) f)))) (true_or_false (has_next_turn around.holders))
  fine_site (site.return around v p) h =
      ⊎_elim (λ t. absurd (never_502 (site.return around v p) p h (broken_place (in_par_or_transaction around.holders) p t))) (λ f. f) (true_or_false (in_par_or_transaction around.holders))
  fine_site other h = tt

  fine_sites : AllIn IsFine (sites named)
  fine_sites = all_by_place IsFine (sites named) (λ i s e. fine_site s (there (sites named) i s e))

-- The kernel of a program that breaks no rule of names, types and shapes is well placed.
pub copies_are_placed : (P : List tree.Item) (named : NamedProgram) (types : List Bool) → IsTyped P named types → IsPlaced AnyBlock AnyInside (copy_of P)
unfolding sites
copies_are_placed P named types h =
    copy_placed P named (subst (λ items. AllIn IsFine (site.of_items named 0 0 items)) h.is_named.program_is (fine_sites named h.types_and_shapes))
