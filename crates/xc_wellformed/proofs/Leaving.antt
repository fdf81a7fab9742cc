-- What a copy leaves are blocks around it in the same branch and transaction, and no block has the number of one around it.
use Rattle.std.proofs.Common.{◌≡◌, inl, inr, ℕ, zero, suc, ◌+◌, ◌-◌, Bool, true, false, ◌||◌, List, [], ◌∷◌, ◌++◌, Option, Some, None, slice_get, nat_eq, refl, sym, ap, subst, ◌∙◌, true≢false, arith}
use Rattle.std.proofs.lemmas.Bool.Decides.{nat_tests}
use Rattle.std.specs.Cmp.Lexicographic.{bytes_decides}
use Rattle.xw_words.specs.declared.pos.Pos.{Pos}
use Rattle.xc_tree.specs.declared.tree.Param.{Param}
use Rattle.xc_tree.specs.declared.tree.ParamKind.{ParamKind}
use Rattle.xc_tree.specs.declared.tree.ParamKind.TheVariants as param
use Rattle.xc_tree.specs.Plain as tree
use Rattle.xc_tree.specs.Symbols.{equals}
use Rattle.xc_tree.specs.Names.Marks as marks
use Rattle.xc_tree.specs.Types.Named.{NamedProgram, past}
use Rattle.xc_tree.specs.Types.Words.{is_among}
use Rattle.xc_tree.specs.Types.Sites.{Site}
use Rattle.xc_tree.specs.Types.Sites as site
use Rattle.xc_tree.specs.Shapes.Enclosing.{Enclosing, a_block, an_if, a_loop, a_case, a_branch, a_transaction, inside, in_block_of, has_way_out, has_next_turn, in_par_or_transaction}
use Rattle.xc_kernel.specs.Plain as kernel
use Rattle.xc_kernel.specs.Paths.{Path, path_at, path_of_turn, has_path}
use Rattle.xc_kernel.specs.Numbering.{Numbering, block_number, path_of_block}
use Rattle.xc_kernel.specs.Scopes.{Scope, Entity, an_array, entity_of, a_constant, with_name}
use Rattle.xc_kernel.specs.Programs.{Function, function_named}
use Rattle.xc_kernel.specs.Copy.{Copy, no_copy, one_statement, joined, with_code, with_block, code_of}
use Rattle.xc_kernel.specs.Context.{Context, in_branch, in_loop, in_case, in_function, leave, set_word, set_zero, place, expression, maybe_expression}
use Rattle.xc_kernel.specs.Parameters.{passed, all_passed, by_element, form_by_reference, by_reference, by_name}
use Rattle.xc_kernel.specs.Calls.{CopiesCall, result_copy, as_block, function_copy, path_of_call, called, call_by, right_copy, value_of}
use Rattle.xc_kernel.specs.Declarations.{initial_copy, kind_copy, declarations_copy}
use Rattle.xc_kernel.specs.Transfers.{target_copy}
use Rattle.xc_kernel.specs.Flow.{test_or_true, iteration, loop_at, leave_unless, Branched, numbered_copy, replicated, Cased, case_scope, case_body}
use Rattle.xc_kernel.specs.Statements.{pos_of_branch, assign_by, return_copy, statement_copy, action_copy, maybe_copy, statements_copy, branch_copy, branches_copy, cases_copy, calls_copy}
use Rattle.xc_kernel.specs.Roots as roots
use Rattle.xc_kernel.specs.Ports.{core_of}
use Rattle.xc_wellformed.specs.Exits.{LeavesIn, AllLeaveIn, CasesLeaveIn, DefaultLeavesIn, BranchesLeaveIn, EachRootLeaves}
use Rattle.xc_wellformed.specs.Once.{NoneAt, PathsDiffer}
use Rattle.xc_wellformed.proofs.Places.{In}
use Rattle.xc_wellformed.proofs.Spread.{in_left, in_right}
use Rattle.xc_wellformed.proofs.Walk.Arguments.{AllIn, split, IsFine}
use Rattle.xc_wellformed.proofs.Instances.{First, first}

or_true_left : (a b : Bool) → a ≡ true → (a || b) ≡ true
or_true_left true b e = refl
or_true_left false b e = absurd (true≢false (sym e))

or_true_right : (a b : Bool) → b ≡ true → (a || b) ≡ true
or_true_right true b e = refl
or_true_right false b e = e

or_false : (a b : Bool) → a ≡ false → b ≡ false → (a || b) ≡ false
or_false true b e f = e
or_false false b e f = f

one_more : (k : ℕ) (free : List ℕ) (n : ℕ) → is_among free n ≡ true → is_among (k ∷ free) n ≡ true
one_more k free n u = or_true_right (nat_eq k n) (is_among free n) u

the_first : (n : ℕ) (free : List ℕ) → is_among (n ∷ free) n ≡ true
the_first n free = or_true_left (nat_eq n n) (is_among free n) (itself n)
  where
    itself : (m : ℕ) → nat_eq m m ≡ true
    itself m = grind (arith, nat_tests)

never : {A : Type 0} → false ≡ true → A
never u = absurd (true≢false (sym u))

-- Blocks of a numbering.
module _ (q : Numbering) where
  -- differing paths that are there
  pub record Apart (bs : List Path) : Type 0 where
    pub differ : PathsDiffer path_of_block bs
    pub there : AllIn (λ b. has_path path_of_block q.blocks b ≡ true) bs

  none_left : (path : Path) (xs ys : List Path) → NoneAt path_of_block path (xs ++ ys) → NoneAt path_of_block path xs
  none_left path [] ys h = tt
  none_left path (x ∷ xs) ys h = (h.0, none_left path xs ys h.1)

  none_right : (path : Path) (xs ys : List Path) → NoneAt path_of_block path (xs ++ ys) → NoneAt path_of_block path ys
  none_right path [] ys h = h
  none_right path (x ∷ xs) ys h = none_right path xs ys h.1

  differ_left : (xs ys : List Path) → PathsDiffer path_of_block (xs ++ ys) → PathsDiffer path_of_block xs
  differ_left [] ys h = tt
  differ_left (x ∷ xs) ys h = (none_left x xs ys h.0, differ_left xs ys h.1)

  differ_right : (xs ys : List Path) → PathsDiffer path_of_block (xs ++ ys) → PathsDiffer path_of_block ys
  differ_right [] ys h = h
  differ_right (x ∷ xs) ys h = differ_right xs ys h.1

  apart_left : (xs ys : List Path) → Apart (xs ++ ys) → Apart xs
  apart_left xs ys d = record { differ = differ_left xs ys d.differ; there = (split (λ b. has_path path_of_block q.blocks b ≡ true) xs ys d.there).0 }

  apart_right : (xs ys : List Path) → Apart (xs ++ ys) → Apart ys
  apart_right xs ys d = record { differ = differ_right xs ys d.differ; there = (split (λ b. has_path path_of_block q.blocks b ≡ true) xs ys d.there).1 }

  -- none of these has a number among those around
  abbrev pub Avoids : List ℕ → List Path → Type 0
  Avoids around bs = (b : Path) → In b bs → is_among around (block_number q b) ≡ false

  -- blocks of differing paths have differing numbers
  one_block : (x y : Path) → First path_of_block q.blocks x → First path_of_block q.blocks y → block_number q x ≡ block_number q y → x ≡ y
  one_block x y f g e =
      let a = (bytes_decides f.instance x).0 f.same in
      let b = (bytes_decides g.instance y).0 g.same in
      sym a ∙ (some_same f.instance g.instance (sym f.there ∙ (ap (λ (k : ℕ). slice_get q.blocks k) e ∙ g.there)) ∙ b)
    where
      some_same : (u v : Path) → Some u ≡ Some v → u ≡ v
      some_same u v r = cc

  numbers_differ : (x y : Path) → has_path path_of_block q.blocks x ≡ true → has_path path_of_block q.blocks y ≡ true → (y ≡ x → ⊥) → nat_eq (block_number q x) (block_number q y) ≡ false
  numbers_differ x y h g ne = by (nat_eq (block_number q x) (block_number q y)) refl
    where
      equal : (a b : ℕ) → nat_eq a b ≡ true → a ≡ b
      equal a b e = grind (arith, nat_tests)

      by : (b : Bool) → nat_eq (block_number q x) (block_number q y) ≡ b → b ≡ false
      by false e = refl
      by true e = absurd (ne (sym (one_block x y (first path_of_block q.blocks x h) (first path_of_block q.blocks y g) (equal _ _ e))))

  in_all : (P : Path → Type 0) (bs : List Path) (b : Path) → AllIn P bs → In b bs → P b
  in_all P [] b h i = absurd i
  in_all P (x ∷ bs) b h (inl e) = subst P e h.0
  in_all P (x ∷ bs) b h (inr i) = in_all P bs b h.1 i

  none_of : (path : Path) (bs : List Path) (b : Path) → NoneAt path_of_block path bs → In b bs → b ≡ path → ⊥
  none_of path [] b h i e = i
  none_of path (x ∷ bs) b h (inl f) e = h.0 (f ∙ e)
  none_of path (x ∷ bs) b h (inr i) e = none_of path bs b h.1 i e

  -- behind one more block
  avoids_more : (around : List ℕ) (path : Path) (bs : List Path) → Apart (path ∷ bs) → Avoids around (path ∷ bs) → Avoids (block_number q path ∷ around) bs
  avoids_more around path bs d a b i =
      or_false (nat_eq (block_number q path) (block_number q b)) (is_among around (block_number q b))
      (numbers_differ path b d.there.0 (in_all (λ x. has_path path_of_block q.blocks x ≡ true) bs b d.there.1 i) (none_of path bs b d.differ.0 i)) (a b (inr i))

  -- Code of a copy: it leaves these blocks alone, whatever blocks are around it that are none of its own.
  abbrev pub Leaves : List ℕ → List Path → List kernel.Statement → Type 0
  Leaves free bs xs = (around : List ℕ) → Avoids around bs → AllLeaveIn around free (kernel.statements xs)

  abbrev pub Good : List ℕ → Copy → Type 0
  Good free copy = Apart copy.blocks → Leaves free copy.blocks copy.code

  leave_both : (around free : List ℕ) (xs ys : List kernel.Statement) → AllLeaveIn around free (kernel.statements xs) → AllLeaveIn around free (kernel.statements ys) → AllLeaveIn around free (kernel.statements (xs ++ ys))
  leave_both around free [] ys h g = g
  leave_both around free (x ∷ xs) ys h g = (h.0, leave_both around free xs ys h.1 g)

  good_both : (free : List ℕ) (a b : Copy) → Good free a → Good free b → Good free (joined a b)
  good_both free a b h g d around v =
      leave_both around free a.code b.code (h (apart_left a.blocks b.blocks d) around (λ x i. v x (in_left x a.blocks b.blocks i))) (g (apart_right a.blocks b.blocks d) around (λ x i. v x (in_right x a.blocks b.blocks i)))

  -- the same code with the same blocks
  good_same : (free : List ℕ) (a b : Copy) → a.code ≡ b.code → a.blocks ≡ b.blocks → Good free a → Good free b
  good_same free a b e f h d around v =
      subst (λ (xs : List kernel.Statement). AllLeaveIn around free (kernel.statements xs)) e
      (h (subst Apart (sym f) d) around (subst (Avoids around) (sym f) v))

  good_none : (free : List ℕ) (scope : Scope) → Good free (no_copy scope)
  good_none free scope d around v = tt

  good_one : (free : List ℕ) (scope : Scope) (s : kernel.Statement) → ((around : List ℕ) → LeavesIn around free s) → Good free (one_statement scope s)
  good_one free scope s h d around v = (h around, tt)

  -- a block, and what is in it
  good_block : (free : List ℕ) (path : Path) (copy : Copy) → Good (block_number q path ∷ free) copy → Good free (with_block (with_code copy (kernel.block (block_number q path) (kernel.statements copy.code) ∷ [])) path)
  good_block free path copy h d around v =
      let inner : Apart copy.blocks = record { differ = d.differ.1; there = d.there.1 } in
      ((v path (inl refl), h inner (block_number q path ∷ around) (avoids_more around path copy.blocks d v)), tt)

-- a function's body obeys the rules, in some place of the text
pub record IsFineOf (n : NamedProgram) (f : Function) : Type 0 where
  pub at : ℕ
  pub fine : AllIn IsFine (site.of_body n (in_block_of f.head) at f.body)

-- what a statement in this context may leave, by what stands around it
abbrev Fits : Context → Enclosing → List ℕ → Type 0
Fits c around free =
    (has_way_out around.holders ≡ true → is_among free (block_number c.numbering c.breaks) ≡ true)
    × ((has_next_turn around.holders ≡ true → is_among free (block_number c.numbering c.continues) ≡ true)
    × (in_par_or_transaction around.holders ≡ false → is_among free (block_number c.numbering c.returns) ≡ true))

fits_more : (c : Context) (around : Enclosing) (free : List ℕ) (k : ℕ) → Fits c around free → Fits c around (k ∷ free)
fits_more c around free k h =
    (λ u. one_more k free (block_number c.numbering c.breaks) (h.0 u), (λ u. one_more k free (block_number c.numbering c.continues) (h.1.0 u), λ u. one_more k free (block_number c.numbering c.returns) (h.1.1 u)))

in_loop_fits : (c : Context) (around : Enclosing) (pos : Pos) (free : List ℕ) → Fits c around free → Fits (in_loop c pos) (inside a_loop around) (block_number c.numbering (path_of_turn (path_at c.path pos)) ∷ block_number c.numbering (path_at c.path pos) ∷ free)
in_loop_fits c around pos free h =
    let p = block_number c.numbering (path_at c.path pos) in
    let t = block_number c.numbering (path_of_turn (path_at c.path pos)) in
    (λ u. one_more t (p ∷ free) p (the_first p free), (λ u. the_first t (p ∷ free), λ u. one_more t (p ∷ free) (block_number c.numbering c.returns) (one_more p free (block_number c.numbering c.returns) (h.1.1 u))))

in_case_fits : (c : Context) (around : Enclosing) (pos : Pos) (free : List ℕ) → Fits c around free → Fits (in_case c pos) (inside a_case around) (block_number c.numbering (path_at c.path pos) ∷ free)
in_case_fits c around pos free h =
    let p = block_number c.numbering (path_at c.path pos) in
    (λ u. the_first p free, (λ u. one_more p free (block_number c.numbering c.continues) (h.1.0 u), λ u. one_more p free (block_number c.numbering c.returns) (h.1.1 u)))

module _ (n : NamedProgram) (fs : List Function) (fine_named : (t : List ℕ) (f : Function) → function_named fs t ≡ Some f → IsFineOf n f) where
  abbrev CallsGood : CopiesCall → Type 0
  CallsGood copies = (c : Context) (scope : Scope) (f : Function) (pos : Pos) (args : List tree.Argument) → c.functions ≡ fs → IsFineOf n f → (free : List ℕ) → Good c.numbering free (copies c scope f pos args)

  module _ (copies : CopiesCall) (calls : CallsGood copies) where
    call_good : (c : Context) (scope : Scope) (pos : Pos) (args : List tree.Argument) (o : Option Function) → c.functions ≡ fs → ((f : Function) → o ≡ Some f → IsFineOf n f) → (free : List ℕ) → Good c.numbering free (call_by copies c scope pos args o)
    call_good c scope pos args None e k free = good_none c.numbering free scope
    call_good c scope pos args (Some f) e k free = calls c scope f pos args e (k f refl) free

    right_good : (c : Context) (scope : Scope) (r : tree.RightSide) → c.functions ≡ fs → (free : List ℕ) → Good c.numbering free (right_copy copies c scope r)
    right_good c scope (tree.value v) e free = good_none c.numbering free scope
    right_good c scope (tree.result call) e free =
        call_good c scope call.called.pos call.arguments (called c call) e (λ f g. fine_named call.called.text f (ap (λ (xs : List Function). function_named xs call.called.text) (sym e) ∙ g)) free

    then_one : (c : Context) (scope : Scope) (r : tree.RightSide) (s : kernel.Statement) → c.functions ≡ fs → (free : List ℕ) → ((around : List ℕ) → LeavesIn around free s) → Good c.numbering free (joined (right_copy copies c scope r) (one_statement scope s))
    then_one c scope r s e free h = good_both c.numbering free (right_copy copies c scope r) (one_statement scope s) (right_good c scope r e free) (good_one c.numbering free scope s h)

    initial_good : (c : Context) (path : Path) (r : Option tree.RightSide) (scope : Scope) → c.functions ≡ fs → (free : List ℕ) → Good c.numbering free (initial_copy copies c path r scope)
    initial_good c path None scope e free = good_one c.numbering free scope (set_zero c path) (λ around. tt)
    initial_good c path (Some r) scope e free = then_one c scope r (set_word c path (value_of c scope r)) e free (λ around. tt)

    kind_good : (c : Context) (scope : Scope) (name : List ℕ) (pos : Pos) (k : tree.Kind) → c.functions ≡ fs → (free : List ℕ) → Good c.numbering free (kind_copy copies c scope name pos k)
    kind_good c scope name pos (tree.word u r) e free = initial_good c (path_at c.path pos) r _ e free
    kind_good c scope name pos (tree.array u l at) e free = λ d around v. (tt, tt)
    kind_good c scope name pos (tree.channel s) e free = λ d around v. tt
    kind_good c scope name pos tree.timer e free = λ d around v. tt

    declarations_good : (c : Context) (ds : List tree.Declaration) (scope : Scope) → c.functions ≡ fs → (free : List ℕ) → Good c.numbering free (declarations_copy copies c ds scope)
    declarations_good c [] scope e free = good_none c.numbering free scope
    declarations_good c (x ∷ ds) scope e free =
        let a = kind_copy copies c scope x.name.text x.name.pos x.kind in
        good_both c.numbering free a (declarations_copy copies c ds a.scope) (kind_good c scope x.name.text x.name.pos x.kind e free) (declarations_good c ds a.scope e free)

    assign_good : (c : Context) (scope : Scope) (to : tree.Expression) (symbol : ℕ) (pos : Pos) (r : tree.RightSide) (b : Bool) → c.functions ≡ fs → (free : List ℕ) → Good c.numbering free (assign_by copies c scope to symbol pos r b)
    assign_good c scope to symbol pos r true e free = then_one c scope r (kernel.set (place c scope to) (value_of c scope r)) e free (λ around. tt)
    assign_good c scope to symbol pos r false e free = λ d around v. (tt, tt)

    return_good : (c : Context) (scope : Scope) (r : Option tree.RightSide) → c.functions ≡ fs → (free : List ℕ) → is_among free (block_number c.numbering c.returns) ≡ true → Good c.numbering free (return_copy copies c scope r)
    return_good c scope None e free u = good_one c.numbering free scope (leave c c.returns) (λ around. u)
    return_good c scope (Some r) e free u =
        let stored = one_statement scope (set_word c c.result (value_of c scope r)) in
        let left = one_statement scope (leave c c.returns) in
        good_both c.numbering free (right_copy copies c scope r) (joined stored left) (right_good c scope r e free)
        (good_both c.numbering free stored left (good_one c.numbering free scope (set_word c c.result (value_of c scope r)) (λ around. tt)) (good_one c.numbering free scope (leave c c.returns) (λ around. u)))

    -- a loop in its blocks
    loop_good : (c : Context) (path : Path) (test : kernel.Expression) (rest : List kernel.Statement) (cn cb : Copy) (free : List ℕ) →
        Good c.numbering (block_number c.numbering path ∷ free) cn → Good c.numbering (block_number c.numbering (path_of_turn path) ∷ block_number c.numbering path ∷ free) cb →
        ((around : List ℕ) → AllLeaveIn around (block_number c.numbering path ∷ free) (kernel.statements rest)) → Good c.numbering free (loop_at c path test (iteration c path cb.code rest) (code_of cn) (joined cn cb))
    loop_good c path test rest cn cb free hn hb hr d around v =
        let q = c.numbering in
        let p = block_number q path in
        let t = block_number q (path_of_turn path) in
        let held = cn.blocks ++ cb.blocks in
        let d1 : Apart q (path_of_turn path ∷ held) = record { differ = d.differ.1; there = d.there.1 } in
        let d2 : Apart q held = record { differ = d1.differ.1; there = d1.there.1 } in
        let v1 : Avoids q (p ∷ around) (path_of_turn path ∷ held) = avoids_more q around path (path_of_turn path ∷ held) d v in
        let v2 : Avoids q (t ∷ p ∷ around) held = avoids_more q (p ∷ around) (path_of_turn path) held d1 v1 in
        let body = hb (apart_right q cn.blocks cb.blocks d2) (t ∷ p ∷ around) (λ x i. v2 x (in_right x cn.blocks cb.blocks i)) in
        let next = hn (apart_left q cn.blocks cb.blocks d2) (p ∷ around) (λ x i. v1 x (inr (in_left x cn.blocks cb.blocks i))) in
        ((v path (inl refl), ((((v1 (path_of_turn path) (inl refl), body), hr (p ∷ around)), next), tt)), tt)

    -- branches leave no block around them
    abbrev GoodBranches : Numbering → Branched → Type 0
    GoodBranches q b = Apart q b.made.blocks → (around : List ℕ) → Avoids q around b.made.blocks → BranchesLeaveIn around b.branches

    numbered_good : (b : tree.Branch) (c : Context) (scope : Scope) (name : List ℕ) (count index number : ℕ) → c.functions ≡ fs →
        ((x : Context) (other : Scope) → x.functions ≡ fs → Good x.numbering [] (branch_copy copies b x other)) → GoodBranches c.numbering (replicated (numbered_copy (branch_copy copies b) c scope name) (pos_of_branch b) scope count index number)
    numbered_good b c scope name zero index number e rec d around v = tt
    numbered_good b c scope name (suc count) index number e rec d around v =
        let one = branch_copy copies b (in_branch c index) (with_name scope name (a_constant number)) in
        let rest = replicated (numbered_copy (branch_copy copies b) c scope name) (pos_of_branch b) scope count (index + 1) (number + 1) in (
          rec (in_branch c index) (with_name scope name (a_constant number)) e (apart_left c.numbering one.blocks rest.made.blocks d) around (λ x i. v x (in_left x one.blocks rest.made.blocks i)),
          numbered_good b c scope name count (index + 1) (number + 1) e rec (apart_right c.numbering one.blocks rest.made.blocks d) around (λ x i. v x (in_right x one.blocks rest.made.blocks i)),
        )

    abbrev GoodCases : Numbering → List ℕ → Cased → Type 0
    GoodCases q free s = Apart q s.made.blocks → (around : List ℕ) → Avoids q around s.made.blocks → CasesLeaveIn around free s.cases × DefaultLeavesIn around free s.otherwise

    no_target_blocks : (c : Context) (scope : Scope) (t : tree.Target) → (target_copy c scope t).blocks ≡ []
    no_target_blocks c scope (tree.to e) = refl
    no_target_blocks c scope tree.dropped = refl
    no_target_blocks c scope (tree.fresh u name) = refl

    -- a case's body in its block
    case_good : (c : Context) (pos : Pos) (body : Copy) (free : List ℕ) → Good c.numbering (block_number c.numbering (path_at c.path pos) ∷ free) body → Apart c.numbering (path_at c.path pos ∷ body.blocks) → (around : List ℕ) → Avoids c.numbering around (path_at c.path pos ∷ body.blocks) → AllLeaveIn around free (case_body c pos body)
    case_good c pos body free h d around v = good_block c.numbering free (path_at c.path pos) body h d around v

    mutual
      pub statement_good : (s : tree.Statement) (c : Context) (scope : Scope) (around : Enclosing) (k : ℕ) (free : List ℕ) → c.functions ≡ fs → Fits c around free → AllIn IsFine (site.of_statement n around k s) → Good c.numbering free (statement_copy copies s c scope)
      statement_good (tree.statement a pos close own) c scope around k free e h g = action_good a pos close c scope around k free e h g

      action_good : (a : tree.Action) (pos close : Pos) (c : Context) (scope : Scope) (around : Enclosing) (k : ℕ) (free : List ℕ) → c.functions ≡ fs → Fits c around free → AllIn IsFine (site.of_action n around k pos a) → Good c.numbering free (action_copy copies a pos close c scope)
      action_good tree.empty pos close c scope around k free e h g = good_none c.numbering free scope
      action_good (tree.block ss) pos close c scope around k free e h g = statements_good ss c scope (inside a_block around) k free e h g
      action_good (tree.declare ds) pos close c scope around k free e h g = declarations_good c ds scope e free
      action_good (tree.assign to symbol at r) pos close c scope around k free e h g = assign_good c scope to symbol at r (nat_eq symbol equals) e free
      action_good (tree.step to symbol) pos close c scope around k free e h g = λ d ar v. (tt, tt)
      action_good (tree.perform r) pos close c scope around k free e h g = right_good c scope r e free
      action_good (tree.output o) pos close c scope around k free e h g = λ d ar v. (tt, tt)
      action_good (tree.input i) pos close c scope around k free e h g = λ d ar v. (tt, tt)
      action_good (tree.if_then test a b) pos close c scope around k free e h g = λ d ar v.
          let g1 = split IsFine (site.of_expression n k test) _ g in
          let g2 = split IsFine (site.of_statement n (inside an_if around) (past k (marks.of_expression test)) a) _ g1.1 in
          let ca = statement_copy copies a c scope in
          let cb = maybe_copy copies b c ca.scope in
          let x = statement_good a c scope (inside an_if around) (past k (marks.of_expression test)) free e h g2.0 in
          let y = maybe_good b c ca.scope (inside an_if around) _ free e h g2.1 in
          ((x (apart_left c.numbering ca.blocks cb.blocks d) ar (λ z i. v z (in_left z ca.blocks cb.blocks i)), y (apart_right c.numbering ca.blocks cb.blocks d) ar (λ z i. v z (in_right z ca.blocks cb.blocks i))), tt)
      action_good (tree.while_loop test body) pos close c scope around k free e h g =
          let g1 = split IsFine (site.of_expression n k test) _ g in
          let x = statement_good body (in_loop c pos) scope (inside a_loop around) _ _ e (in_loop_fits c around pos free h) g1.1 in
          loop_good c (path_at c.path pos) (expression c scope test) [] (no_copy scope) (statement_copy copies body (in_loop c pos) scope) free (good_none c.numbering (block_number c.numbering (path_at c.path pos) ∷ free) scope) x (λ ar. tt)
      action_good (tree.do_while body test) pos close c scope around k free e h g =
          let g1 = split IsFine (site.of_statement n (inside a_loop around) k body) _ g in
          let cb = statement_copy copies body (in_loop c pos) scope in
          let x = statement_good body (in_loop c pos) scope (inside a_loop around) k _ e (in_loop_fits c around pos free h) g1.0 in
          loop_good c (path_at c.path pos) (kernel.number 1) (leave_unless c (path_at c.path pos) (expression c cb.scope test) ∷ []) (no_copy scope) cb free (good_none c.numbering (block_number c.numbering (path_at c.path pos) ∷ free) scope) x
          (λ ar. ((tt, (the_first (block_number c.numbering (path_at c.path pos)) free, tt)), tt))
      action_good (tree.for_loop first test next body) pos close c scope around k free e h g =
          let g1 = split IsFine (site.of_maybe n around k first) _ g in
          let g2 = split IsFine (site.optional (site.of_expression n (past k (marks.of_maybe first))) test) _ g1.1 in
          let g3 = split IsFine (site.of_maybe n around (past (past k (marks.of_maybe first)) (marks.optional marks.of_expression test)) next) _ g2.1 in
          let cf = maybe_copy copies first c scope in
          let cn = maybe_copy copies next c cf.scope in
          let cb = statement_copy copies body (in_loop c pos) cf.scope in
          let p = block_number c.numbering (path_at c.path pos) in
          let x = maybe_good first c scope around k free e h g1.0 in
          let y = maybe_good next c cf.scope around _ (p ∷ free) e (fits_more c around free p h) g3.0 in
          let z = statement_good body (in_loop c pos) cf.scope (inside a_loop around) _ _ e (in_loop_fits c around pos free h) g3.1 in
          good_both c.numbering free cf (loop_at c (path_at c.path pos) (test_or_true (maybe_expression c cf.scope test)) (iteration c (path_at c.path pos) cb.code []) (code_of cn) (joined cn cb)) x
          (loop_good c (path_at c.path pos) (test_or_true (maybe_expression c cf.scope test)) [] cn cb free y z (λ ar. tt))
      action_good (tree.return_with r) pos close c scope around k free e h g = return_good c scope r e free (h.1.1 g.0.1)
      action_good tree.break_out pos close c scope around k free e h g = λ d ar v. (h.0 g.0, tt)
      action_good tree.continue_on pos close c scope around k free e h g = λ d ar v. (h.1.0 g.0, tt)
      action_good (tree.par bs) pos close c scope around k free e h g = λ d ar v. (branches_good bs 0 c scope around k e g.1 d ar v, tt)
      action_good (tree.replicated first second third from until b) pos close c scope around k free e h g = λ d ar v.
          (numbered_good b c scope first.text (until - from) 0 from e (λ x other q. branch_good b x other around (k + 3) q g.1.1) d ar v, tt)
      action_good (tree.select cs) pos close c scope around k free e h g = λ d ar v. (cases_good cs c scope around k free e h g.1 d ar v, tt)
      action_good (tree.transaction is_master ss) pos close c scope around k free e h g = λ d ar v.
          (statements_good ss c scope (inside a_transaction around) k [] e (λ u. never u, (λ u. never u, λ u. never (sym u))) g.1 d ar v, tt)

      maybe_good : (s : tree.Maybe) (c : Context) (scope : Scope) (around : Enclosing) (k : ℕ) (free : List ℕ) → c.functions ≡ fs → Fits c around free → AllIn IsFine (site.of_maybe n around k s) → Good c.numbering free (maybe_copy copies s c scope)
      maybe_good tree.absent c scope around k free e h g = good_none c.numbering free scope
      maybe_good (tree.present s) c scope around k free e h g = statement_good s c scope around k free e h g

      statements_good : (ss : tree.Statements) (c : Context) (scope : Scope) (around : Enclosing) (k : ℕ) (free : List ℕ) → c.functions ≡ fs → Fits c around free → AllIn IsFine (site.of_statements n around k ss) → Good c.numbering free (statements_copy copies ss c scope)
      statements_good tree.no_more c scope around k free e h g = good_none c.numbering free scope
      statements_good (tree.more s ss) c scope around k free e h g =
          let g1 = split IsFine (site.of_statement n around k s) _ g in
          let a = statement_copy copies s c scope in
          good_both c.numbering free a (statements_copy copies ss c a.scope) (statement_good s c scope around k free e h g1.0) (statements_good ss c a.scope around (past k (marks.of_statement s)) free e h g1.1)

      -- a branch leaves no block that it stands in
      pub branch_good : (b : tree.Branch) (c : Context) (scope : Scope) (around : Enclosing) (k : ℕ) → c.functions ≡ fs → AllIn IsFine (site.of_branch n around k b) → Good c.numbering [] (branch_copy copies b c scope)
      branch_good (tree.branch place s) c scope around k e g =
          let g1 = split IsFine (site.optional (site.of_branch_place n around k) place) _ g in
          statement_good s c scope (inside a_branch around) _ [] e (λ u. never u, (λ u. never u, λ u. never (sym u))) g1.1

      branches_good : (bs : tree.Branches) (index : ℕ) (c : Context) (scope : Scope) (around : Enclosing) (k : ℕ) → c.functions ≡ fs → AllIn IsFine (site.of_branches n around k bs) → GoodBranches c.numbering (branches_copy copies bs index c scope)
      branches_good tree.no_branch index c scope around k e g d ar v = tt
      branches_good (tree.more_branches b bs) index c scope around k e g d ar v =
          let g1 = split IsFine (site.of_branch n around k b) _ g in
          let a = branch_copy copies b (in_branch c index) scope in
          let rest = branches_copy copies bs (index + 1) c a.scope in (
            branch_good b (in_branch c index) scope around k e g1.0 (apart_left c.numbering a.blocks rest.made.blocks d) ar (λ z i. v z (in_left z a.blocks rest.made.blocks i)),
            branches_good bs (index + 1) c a.scope around (past k (marks.of_branch b)) e g1.1 (apart_right c.numbering a.blocks rest.made.blocks d) ar (λ z i. v z (in_right z a.blocks rest.made.blocks i)),
          )

      cases_good : (cs : tree.Cases) (c : Context) (scope : Scope) (around : Enclosing) (k : ℕ) (free : List ℕ) → c.functions ≡ fs → Fits c around free → AllIn IsFine (site.of_cases n around k cs) → GoodCases c.numbering free (cases_copy copies cs c scope)
      cases_good tree.no_case c scope around k free e h g d ar v = (tt, tt)
      cases_good (tree.more_cases (tree.case pos guard None ss) cs) c scope around k free e h g d ar v =
          let ms = marks.of_case (tree.case pos guard None ss) in
          let g1 = split IsFine (site.of_case n around k (tree.case pos guard None ss)) _ g in
          let g2 = split IsFine (site.optional (site.of_expression n k) guard) _ g1.0 in
          let body = statements_copy copies ss (in_case c pos) scope in
          let rest = cases_copy copies cs c scope in
          let own = path_at c.path pos ∷ body.blocks in
          let x = statements_good ss (in_case c pos) scope (inside a_case around) _ (block_number c.numbering (path_at c.path pos) ∷ free) e (in_case_fits c around pos free h) g2.1 in
          let y = cases_good cs c scope around (past k ms) free e h g1.1 (apart_right c.numbering own rest.made.blocks d) ar (λ z i. v z (in_right z own rest.made.blocks i)) in
          (y.0, case_good c pos body free x (apart_left c.numbering own rest.made.blocks d) ar (λ z i. v z (in_left z own rest.made.blocks i)))
      cases_good (tree.more_cases (tree.case pos guard (Some y) ss) cs) c scope around k free e h g d ar v =
          let ms = marks.of_case (tree.case pos guard (Some y) ss) in
          let g1 = split IsFine (site.of_case n around k (tree.case pos guard (Some y) ss)) _ g in
          let g2 = split IsFine (site.optional (site.of_expression n k) guard) _ g1.0 in
          let g3 = split IsFine (site.of_input n (past k (marks.optional marks.of_expression guard)) y) _ g2.1 in
          let body = statements_copy copies ss (in_case c pos) (case_scope c scope (Some y)) in
          let rest = cases_copy copies cs c scope in
          let own = path_at c.path pos ∷ body.blocks in
          let none = no_target_blocks c scope y.target in
          let d1 = subst (λ (bs : List Path). Apart c.numbering ((bs ++ own) ++ rest.made.blocks)) none d in
          let v1 = subst (λ (bs : List Path). Avoids c.numbering ar ((bs ++ own) ++ rest.made.blocks)) none v in
          let x = statements_good ss (in_case c pos) (case_scope c scope (Some y)) (inside a_case around) _ (block_number c.numbering (path_at c.path pos) ∷ free) e (in_case_fits c around pos free h) g3.1 in
          let z = cases_good cs c scope around (past k ms) free e h g1.1 (apart_right c.numbering own rest.made.blocks d1) ar (λ b i. v1 b (in_right b own rest.made.blocks i)) in
          ((case_good c pos body free x (apart_left c.numbering own rest.made.blocks d1) ar (λ b i. v1 b (in_left b own rest.made.blocks i)), z.0), z.1)

    -- a function's instance

    result_good : (c : Context) (path : Path) (pos : Pos) (scope : Scope) (o : Option Bool) (free : List ℕ) → Good c.numbering free (result_copy c path pos scope o)
    result_good c path pos scope None free = good_none c.numbering free scope
    result_good c path pos scope (Some u) free = λ d ar v. (tt, tt)

    abbrev Plain : List kernel.Statement → Type 0
    Plain xs = (around free : List ℕ) → AllLeaveIn around free (kernel.statements xs)

    element_plain : (c : Context) (scope : Scope) (own : Path) (pos : Pos) (i : tree.Expression) (spot : Pos) (x : Entity) → Plain (by_element c scope own pos i spot x).code
    element_plain c scope own pos i spot (an_array path l u) ar free = (tt, tt)
    element_plain c scope own pos i spot other ar free = tt

    form_plain : (c : Context) (scope : Scope) (own : Path) (pos spot : Pos) (f : tree.Form) → Plain (form_by_reference c scope own pos spot f).code
    form_plain c scope own pos spot (tree.name t) ar free = tt
    form_plain c scope own pos spot (tree.index t i) ar free = element_plain c scope own pos i spot (entity_of scope t) ar free
    form_plain c scope own pos spot other ar free = tt

    reference_plain : (c : Context) (scope : Scope) (own : Path) (pos : Pos) (e : tree.Expression) → Plain (by_reference c scope own pos e).code
    reference_plain c scope own pos (tree.expression f spot) = form_plain c scope own pos spot f

    name_plain : (scope : Scope) (e : tree.Expression) → Plain (by_name scope e).code
    name_plain scope (tree.expression (tree.name t) spot) ar free = tt
    name_plain scope other ar free = tt

    passed_plain : (c : Context) (scope : Scope) (own : Path) (pos : Pos) (kind : ParamKind) (e : tree.Expression) → Plain (passed c scope own pos kind e).code
    passed_plain c scope own pos (param.Value u) e = λ ar free. (tt, tt)
    passed_plain c scope own pos (param.Ref u) e = reference_plain c scope own pos e
    passed_plain c scope own pos (param.Array u l) e = name_plain scope e
    passed_plain c scope own pos (param.End s) e = name_plain scope e
    passed_plain c scope own pos (param.Port d) e = name_plain scope e

    passed_good : (c : Context) (scope : Scope) (own : Path) (ps : List Param) (args : List tree.Argument) (free : List ℕ) → Good c.numbering free (all_passed c scope own ps args)
    passed_good c scope own [] args free d ar v = tt
    passed_good c scope own (p ∷ ps) [] free d ar v = tt
    passed_good c scope own (p ∷ ps) (a ∷ args) free d ar v =
        leave_both c.numbering ar free (passed c scope own p.name.pos p.kind a.value).code _ (passed_plain c scope own p.name.pos p.kind a.value ar free) (passed_good c scope own ps args free d ar v)

    pub body_good : (h : tree.Head) (body : tree.Statement) (c : Context) (scope : Scope) (k : ℕ) (free : List ℕ) → c.functions ≡ fs → Fits c (in_block_of h) free → AllIn IsFine (site.of_body n (in_block_of h) k body) → Good c.numbering free (statement_copy copies body c scope)
    body_good h (tree.statement (tree.block ss) p close own) c scope k free e f g = statements_good ss c scope (in_block_of h) k free e f g
    body_good h (tree.statement tree.empty p close own) c scope k free e f g = good_none c.numbering free scope
    body_good h (tree.statement (tree.declare ds) p close own) c scope k free e f g = statement_good (tree.statement (tree.declare ds) p close own) c scope (in_block_of h) k free e f g
    body_good h (tree.statement (tree.assign to symbol q x) p close own) c scope k free e f g = statement_good (tree.statement (tree.assign to symbol q x) p close own) c scope (in_block_of h) k free e f g
    body_good h (tree.statement (tree.step to symbol) p close own) c scope k free e f g = statement_good (tree.statement (tree.step to symbol) p close own) c scope (in_block_of h) k free e f g
    body_good h (tree.statement (tree.perform x) p close own) c scope k free e f g = statement_good (tree.statement (tree.perform x) p close own) c scope (in_block_of h) k free e f g
    body_good h (tree.statement (tree.output o) p close own) c scope k free e f g = statement_good (tree.statement (tree.output o) p close own) c scope (in_block_of h) k free e f g
    body_good h (tree.statement (tree.input i) p close own) c scope k free e f g = statement_good (tree.statement (tree.input i) p close own) c scope (in_block_of h) k free e f g
    body_good h (tree.statement (tree.if_then t a b) p close own) c scope k free e f g = statement_good (tree.statement (tree.if_then t a b) p close own) c scope (in_block_of h) k free e f g
    body_good h (tree.statement (tree.while_loop t a) p close own) c scope k free e f g = statement_good (tree.statement (tree.while_loop t a) p close own) c scope (in_block_of h) k free e f g
    body_good h (tree.statement (tree.do_while a t) p close own) c scope k free e f g = statement_good (tree.statement (tree.do_while a t) p close own) c scope (in_block_of h) k free e f g
    body_good h (tree.statement (tree.for_loop y t z a) p close own) c scope k free e f g = statement_good (tree.statement (tree.for_loop y t z a) p close own) c scope (in_block_of h) k free e f g
    body_good h (tree.statement (tree.return_with x) p close own) c scope k free e f g = statement_good (tree.statement (tree.return_with x) p close own) c scope (in_block_of h) k free e f g
    body_good h (tree.statement tree.break_out p close own) c scope k free e f g = statement_good (tree.statement tree.break_out p close own) c scope (in_block_of h) k free e f g
    body_good h (tree.statement tree.continue_on p close own) c scope k free e f g = statement_good (tree.statement tree.continue_on p close own) c scope (in_block_of h) k free e f g
    body_good h (tree.statement (tree.par bs) p close own) c scope k free e f g = statement_good (tree.statement (tree.par bs) p close own) c scope (in_block_of h) k free e f g
    body_good h (tree.statement (tree.replicated y a z from until b) p close own) c scope k free e f g = statement_good (tree.statement (tree.replicated y a z from until b) p close own) c scope (in_block_of h) k free e f g
    body_good h (tree.statement (tree.select cs) p close own) c scope k free e f g = statement_good (tree.statement (tree.select cs) p close own) c scope (in_block_of h) k free e f g
    body_good h (tree.statement (tree.transaction is_master ss) p close own) c scope k free e f g = statement_good (tree.statement (tree.transaction is_master ss) p close own) c scope (in_block_of h) k free e f g

    pub function_good : (c : Context) (scope : Scope) (own : Path) (f : Function) (args : List tree.Argument) → c.functions ≡ fs → IsFineOf n f → (free : List ℕ) → Good c.numbering free (function_copy (statement_copy copies) c scope own f args)
    function_good c scope own f args e fine free =
        let cr = result_copy c (path_at own f.head.name.pos) f.head.name.pos scope f.head.result in
        let cp = all_passed c scope own f.head.params args in
        let inner = in_function c own f in
        let cb = statement_copy copies f.body inner cp.scope in
        let o = block_number c.numbering own in
        let body = body_good f.head f.body inner cp.scope fine.at (o ∷ free) e (λ u. never u, (λ u. never u, λ u. the_first o free)) fine.fine in
        good_both c.numbering free cr (joined cp (as_block inner own cb)) (result_good c (path_at own f.head.name.pos) f.head.name.pos scope f.head.result free)
        (good_both c.numbering free cp (as_block inner own cb) (passed_good c scope own f.head.params args free) (good_block c.numbering free own cb body))

  -- calls, as deep as they go
  pub calls_good : (depth : ℕ) → CallsGood (calls_copy depth)
  calls_good zero c scope f pos args e fine free = good_none c.numbering free scope
  calls_good (suc depth) c scope f pos args e fine free = function_good (calls_copy depth) (calls_good depth) c scope (path_of_call c pos) f args e fine free

  -- Roots.

  module _ (copies : CopiesCall) (calls : CallsGood copies) where
    abbrev GoodRoots : Numbering → roots.Rooted → Type 0
    GoodRoots q r = Apart q r.made.blocks → EachRootLeaves r.roots

    nothing_around : (q : Numbering) (bs : List Path) → Avoids q [] bs
    nothing_around q bs b i = refl

    more_roots : (xs ys : List kernel.Root) → EachRootLeaves xs → EachRootLeaves ys → EachRootLeaves (xs ++ ys)
    more_roots [] ys h g = g
    more_roots (x ∷ xs) ys h g = (h.0, more_roots xs ys h.1 g)

    root_good : (main : Pos) (b : tree.Branch) (c : Context) (scope : Scope) (around : Enclosing) (k : ℕ) → c.functions ≡ fs → AllIn IsFine (site.of_branch n around k b) → GoodRoots c.numbering (roots.branch_root copies main b c scope)
    root_good main (tree.branch place s) c scope around k e g d =
        let x = record c { core = core_of scope place } in
        (branch_good copies calls (tree.branch place s) x scope around k e g d [] (nothing_around c.numbering (statement_copy copies s x scope).blocks), tt)

    branch_roots_good : (main : Pos) (bs : tree.Branches) (index : ℕ) (c : Context) (scope : Scope) (around : Enclosing) (k : ℕ) → c.functions ≡ fs → AllIn IsFine (site.of_branches n around k bs) → GoodRoots c.numbering (roots.branch_roots copies main bs index c scope)
    branch_roots_good main tree.no_branch index c scope around k e g d = tt
    branch_roots_good main (tree.more_branches b bs) index c scope around k e g d =
        let g1 = split IsFine (site.of_branch n around k b) _ g in
        let a = roots.branch_root copies main b (in_branch c index) scope in
        let rest = roots.branch_roots copies main bs (index + 1) c a.made.scope in
        more_roots a.roots rest.roots (root_good main b (in_branch c index) scope around k e g1.0 (apart_left c.numbering a.made.blocks rest.made.blocks d))
        (branch_roots_good main bs (index + 1) c a.made.scope around (past k (marks.of_branch b)) e g1.1 (apart_right c.numbering a.made.blocks rest.made.blocks d))

    numbered_roots_good : (main : Pos) (b : tree.Branch) (name : List ℕ) (c : Context) (scope : Scope) (around : Enclosing) (k count index number : ℕ) → c.functions ≡ fs → AllIn IsFine (site.of_branch n around k b) → GoodRoots c.numbering (roots.numbered_roots copies main b name c scope count index number)
    numbered_roots_good main b name c scope around k zero index number e g d = tt
    numbered_roots_good main b name c scope around k (suc count) index number e g d =
        let inner = with_name scope name (a_constant number) in
        let a = roots.branch_root copies main b (in_branch c index) inner in
        let rest = roots.numbered_roots copies main b name c scope count (index + 1) (number + 1) in
        more_roots a.roots rest.roots (root_good main b (in_branch c index) inner around k e g (apart_left c.numbering a.made.blocks rest.made.blocks d))
        (numbered_roots_good main b name c scope around k count (index + 1) (number + 1) e g (apart_right c.numbering a.made.blocks rest.made.blocks d))

    action_roots_good : (main : Pos) (a : tree.Action) (pos : Pos) (c : Context) (scope : Scope) (around : Enclosing) (k : ℕ) → c.functions ≡ fs → AllIn IsFine (site.of_action n around k pos a) → GoodRoots c.numbering (roots.action_roots copies main a c scope)
    action_roots_good main (tree.par bs) pos c scope around k e g d = branch_roots_good main bs 0 c scope around k e g.1 d
    action_roots_good main (tree.replicated first second third from until b) pos c scope around k e g d = numbered_roots_good main b first.text c scope around (k + 3) (until - from) 0 from e g.1.1 d
    action_roots_good main (tree.declare ds) pos c scope around k e g d = tt
    action_roots_good main other pos c scope around k e g d = tt

    block_roots_good : (main : Pos) (ss : tree.Statements) (c : Context) (scope : Scope) (around : Enclosing) (k : ℕ) → c.functions ≡ fs → AllIn IsFine (site.of_statements n around k ss) → GoodRoots c.numbering (roots.block_roots copies main ss c scope)
    block_roots_good main tree.no_more c scope around k e g d = tt
    block_roots_good main (tree.more (tree.statement a pos close own) ss) c scope around k e g d =
        let g1 = split IsFine (site.of_action n around k pos a) _ g in
        let r = roots.action_roots copies main a c scope in
        let rest = roots.block_roots copies main ss c r.made.scope in
        more_roots r.roots rest.roots (action_roots_good main a pos c scope around k e g1.0 (apart_left c.numbering r.made.blocks rest.made.blocks d)) (block_roots_good main ss c r.made.scope around (past k (marks.of_action a)) e g1.1 (apart_right c.numbering r.made.blocks rest.made.blocks d))

    in_block_good : (main : Pos) (h : tree.Head) (body : tree.Statement) (c : Context) (k : ℕ) → c.functions ≡ fs → AllIn IsFine (site.of_body n (in_block_of h) k body) → GoodRoots c.numbering (roots.block_roots copies main (roots.in_block body) c c.ports)
    in_block_good main h (tree.statement (tree.block ss) p close own) c k e g d = block_roots_good main ss c c.ports (in_block_of h) k e g d
    in_block_good main h other c k e g d = tt

    roots_by_good : (b : Bool) (f : Function) (c : Context) → c.functions ≡ fs → IsFineOf n f → GoodRoots c.numbering (roots.roots_by copies b f c)
    roots_by_good true f c e fine d = in_block_good f.head.name.pos f.head f.body c fine.at e fine.fine d
    roots_by_good false f c e fine d =
        let fc = function_copy (statement_copy copies) c c.ports [] f [] in
        (function_good copies calls c c.ports [] f [] e fine [] d [] (nothing_around c.numbering fc.blocks), tt)

    pub roots_good : (o : Option Function) (c : Context) → c.functions ≡ fs → ((f : Function) → o ≡ Some f → IsFineOf n f) → GoodRoots c.numbering (roots.roots_of copies o c)
    roots_good None c e fine d = tt
    roots_good (Some f) c e fine d = roots_by_good (roots.block_has_placed (roots.in_block f.body)) f c e (fine f refl) d
