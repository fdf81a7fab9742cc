-- The transfers of a program's kernel go by channels of the kernel's list.
use Rattle.std.proofs.Common.{◌≡◌, ⊎_elim, ℕ, zero, suc, ◌+◌, ◌-◌, ◌<◌, Bool, true, false, ◌||◌, IsTrue, List, [], ◌∷◌, ◌++◌, length, Option, Some, None, nat_eq, bytes_eq, refl, sym, ap, subst, ◌∙◌, true≢false, arith}
use Rattle.xw_words.specs.declared.pos.Pos.{Pos}
use Rattle.xc_tree.specs.declared.tree.Param.{Param}
use Rattle.xc_tree.specs.declared.tree.ParamKind.{ParamKind}
use Rattle.xc_tree.specs.declared.tree.ParamKind.TheVariants as param
use Rattle.xc_tree.specs.Plain as tree
use Rattle.xc_kernel.specs.declared.kernel.Chan.{Chan}
use Rattle.xc_kernel.specs.declared.statement.KRes.{KRes}
use Rattle.xc_kernel.specs.declared.statement.KRes.TheVariants.{Port, Timer}
use Rattle.xc_kernel.specs.declared.statement.KRes.TheVariants as resource
use Rattle.xc_kernel.specs.Plain as kernel
use Rattle.xc_kernel.specs.Paths.{Path, path_at, path_of_turn, is_same, place_by, place_of_path, has_path, with_by, with_new, with_all, each_once}
use Rattle.xc_kernel.proofs.Paths.{there_before, there_at_end}
use Rattle.xc_kernel.proofs.Roots.{numbering_is_own}
use Rattle.std.proofs.lemmas.Bool.{eqb-true}
use Rattle.xc_invariants.specs.Rules.{AnyThing, AnyPar}
use Rattle.xc_kernel.specs.Branches.{branches_of}
use Rattle.xc_invariants.specs.Every.{EveryStatement, EveryStatements, EveryCases, EveryDefault, EveryBranches}
use Rattle.xc_kernel.specs.Uses as uses
use Rattle.xc_kernel.specs.Uses.{Use, once, count_of}
use Rattle.xc_kernel.specs.Things.{channel, by_resource}
use Rattle.xc_invariants.specs.Channels.{IsListed, TransactionsListed}
use Rattle.xc_kernel.specs.Numbering.{Numbering, path_of_channel}
use Rattle.xc_kernel.specs.Scopes.{Scope, Entity, a_word, an_array, an_element, a_channel, a_timer, a_port, a_constant, nothing_known, entity_by, entity_of, with_name}
use Rattle.xc_kernel.specs.Expressions.{resource_of}
use Rattle.xc_kernel.specs.Programs.{Function, functions, ports, main_of}
use Rattle.xc_tree.specs.Symbols.{equals}
use Rattle.xc_kernel.specs.Copy.{Copy, joined, followed_by}
use Rattle.xc_kernel.specs.Context.{Context, in_branch, in_loop, in_case, in_function, block_at, expression, maybe_expression}
use Rattle.xc_kernel.specs.Parameters.{passed, all_passed, by_element, form_by_reference, by_reference, by_name}
use Rattle.xc_kernel.specs.Calls.{CopiesCall, result_copy, function_copy, path_of_call, called, call_by, right_copy}
use Rattle.xc_kernel.specs.Declarations.{initial_copy, kind_copy, declarations_copy}
use Rattle.xc_kernel.specs.Transfers.{target_copy, input_names}
use Rattle.xc_kernel.specs.Flow.{test_or_true, leave_unless, numbered_copy, replicated, case_scope}
use Rattle.xc_kernel.specs.Statements.{pos_of_branch, assign_by, return_copy, statement_copy, action_copy, maybe_copy, statements_copy, branch_copy, branches_copy, cases_copy, calls_copy}
use Rattle.xc_kernel.specs.Roots as roots
use Rattle.xc_kernel.specs.Ports.{core_of, scope_of_ports}
use Rattle.xc_kernel.specs.Copies.{rooted, numbering, copy_of, Copies}
use Rattle.xc_meaning.proofs.Basics.{true_or_false}
use Rattle.xc_wellformed.proofs.Walk.Arguments.{AllIn, split, both}

-- a path that is there has a place below the length
below_by : (b : Bool) (n m : ℕ) (h : Bool) → (h ≡ true → n < m) → (b || h) ≡ true → place_by b n < suc m
below_by true n m h k e = omega arith
below_by false n m h k e = let l = k e in omega arith

place_below : (xs : List Chan) (path : Path) → has_path path_of_channel xs path ≡ true → place_of_path path_of_channel xs path < length xs
place_below [] path e = absurd (true≢false (sym e))
place_below (x ∷ xs) path e = below_by (is_same (path_of_channel x) path) (place_of_path path_of_channel xs path) (length xs) (has_path path_of_channel xs path) (place_below xs path) e

-- transfers by channels below a number
abbrev pub ByListed : ℕ → KRes → Type 0
ByListed most (Port p) = Unit {0}
ByListed most (Timer t) = Unit {0}
ByListed most (resource.Chan c) = c < most

abbrev mutual
  pub Listed : ℕ → kernel.Statement → Type 0
  Listed most (kernel.set_zero v) = Unit {0}
  Listed most (kernel.set p e) = Unit {0}
  Listed most (kernel.output o) = ByListed most o.resource
  Listed most (kernel.input i) = ByListed most i.resource
  Listed most (kernel.if_then e a b) = AllListed most a × AllListed most b
  Listed most (kernel.loop e a b) = AllListed most a × AllListed most b
  Listed most (kernel.block n a) = AllListed most a
  Listed most (kernel.exit n) = Unit {0}
  Listed most (kernel.select cs d pos) = CasesListed most cs × DefaultListed most d
  Listed most (kernel.par bs) = BranchesListed most bs
  Listed most (kernel.transaction c is_master a start close) = AllListed most a

  pub AllListed : ℕ → kernel.Statements → Type 0
  AllListed most kernel.no_more = Unit {0}
  AllListed most (kernel.more s ss) = Listed most s × AllListed most ss

  pub CasesListed : ℕ → kernel.Cases → Type 0
  CasesListed most kernel.no_case = Unit {0}
  CasesListed most (kernel.more_cases (kernel.case guard i a) cs) = (ByListed most i.resource × AllListed most a) × CasesListed most cs

  pub DefaultListed : ℕ → kernel.Default → Type 0
  DefaultListed most kernel.no_default = Unit {0}
  DefaultListed most (kernel.default a) = AllListed most a

  pub BranchesListed : ℕ → kernel.Branches → Type 0
  BranchesListed most kernel.no_branch = Unit {0}
  BranchesListed most (kernel.more_branches (kernel.branch a pos) bs) = AllListed most a × BranchesListed most bs

as_statements : (most : ℕ) (xs : List kernel.Statement) → AllIn (Listed most) xs → AllListed most (kernel.statements xs)
as_statements most [] h = tt
as_statements most (x ∷ xs) h = (h.0, as_statements most xs h.1)

module _ (chs : List Chan) where
  abbrev most : ℕ
  most = length chs

  -- what a name stands for is no channel, or one of these
  abbrev Known : Entity → Type 0
  Known (a_channel path) = has_path path_of_channel chs path ≡ true
  Known e = Unit {0}

  abbrev AllKnown : Scope → Type 0
  AllKnown [] = Unit {0}
  AllKnown (b ∷ bs) = Known b.entity × AllKnown bs

  abbrev IsThere : Chan → Type 0
  IsThere d = has_path path_of_channel chs d.path ≡ true

  known_by : (b : Bool) (here outside : Entity) → Known here → Known outside → Known (entity_by b here outside)
  known_by true here outside h g = h
  known_by false here outside h g = g

  known_of : (scope : Scope) (name : List ℕ) → AllKnown scope → Known (entity_of scope name)
  known_of [] name h = tt
  known_of (b ∷ bs) name h = known_by (bytes_eq b.name name) b.entity (entity_of bs name) h.0 (known_of bs name h.1)

  resource_listed : (n : Numbering) (e : Entity) → n.channels ≡ chs → Known e → ByListed most (resource_of n e)
  resource_listed n (a_channel path) e h = subst (λ cs. place_of_path path_of_channel cs path < most) (sym e) (place_below chs path h)
  resource_listed n (a_timer path) e h = tt
  resource_listed n (a_port p) e h = tt
  resource_listed n (a_word path u) e h = tt
  resource_listed n (an_array path l u) e h = tt
  resource_listed n (an_element path p u) e h = tt
  resource_listed n (a_constant v) e h = tt
  resource_listed n nothing_known e h = tt

  -- code by listed channels, and known names behind it
  record Well (copy : Copy) : Type 0 where
    code : AllIn (Listed most) copy.code
    scope : AllKnown copy.scope

  abbrev Made : Copy → Type 0
  Made copy = AllIn IsThere copy.channels

  well_joined : (a b : Copy) → Well a → Well b → Well (joined a b)
  well_joined a b h g = record { code = both (Listed most) a.code b.code h.code g.code; scope = g.scope }

  well_followed : (a : Copy) (next : Scope → Copy) → Made (followed_by a next) → (Made a → Well a) → (Well a → Made (next a.scope) → Well (next a.scope)) → Well (followed_by a next)
  well_followed a next m h g =
      let k = split IsThere a.channels (next a.scope).channels m in
      let w = h k.0 in
      well_joined a (next a.scope) w (g w k.1)

  -- where a statement stands
  record Stands (c : Context) (scope : Scope) : Type 0 where
    numbers : c.numbering.channels ≡ chs
    ports : AllKnown c.ports
    known : AllKnown scope

  with_scope : {c : Context} {scope : Scope} (other : Scope) → Stands c scope → AllKnown other → Stands c other
  with_scope other h k = record { numbers = h.numbers; ports = h.ports; known = k }

  in_context : {c : Context} {scope : Scope} (d : Context) → d.numbering ≡ c.numbering → d.ports ≡ c.ports → Stands c scope → Stands d scope
  in_context d e f h = record { numbers = ap (λ n. n.channels) e ∙ h.numbers; ports = subst AllKnown (sym f) h.ports; known = h.known }

  module _ (copies : CopiesCall) (well : (c : Context) (scope : Scope) (f : Function) (pos : Pos) (args : List tree.Argument) → Stands c scope → Made (copies c scope f pos args) → Well (copies c scope f pos args)) where
    call_well : (c : Context) (scope : Scope) (pos : Pos) (args : List tree.Argument) (o : Option Function) → Stands c scope → Made (call_by copies c scope pos args o) → Well (call_by copies c scope pos args o)
    call_well c scope pos args None s m = record { code = tt; scope = s.known }
    call_well c scope pos args (Some f) s m = well c scope f pos args s m

    right_well : (c : Context) (scope : Scope) (r : tree.RightSide) → Stands c scope → Made (right_copy copies c scope r) → Well (right_copy copies c scope r)
    right_well c scope (tree.value v) s m = record { code = tt; scope = s.known }
    right_well c scope (tree.result call) s m = call_well c scope call.called.pos call.arguments (called c call) s m

    initial_well : (c : Context) (path : Path) (r : Option tree.RightSide) (scope : Scope) → Stands c scope → Made (initial_copy copies c path r scope) → Well (initial_copy copies c path r scope)
    initial_well c path None scope s m = record { code = (tt, tt); scope = s.known }
    initial_well c path (Some r) scope s m =
        let k = split IsThere (right_copy copies c scope r).channels [] m in
        well_joined (right_copy copies c scope r) _ (right_well c scope r s k.0) (record { code = (tt, tt); scope = s.known })

    kind_well : (c : Context) (scope : Scope) (name : List ℕ) (pos : Pos) (k : tree.Kind) → Stands c scope → Made (kind_copy copies c scope name pos k) → Well (kind_copy copies c scope name pos k)
    kind_well c scope name pos (tree.word u r) s m =
        let w = initial_well c (path_at c.path pos) r (with_name scope name (a_word (path_at c.path pos) u)) (with_scope _ s (tt, s.known)) m in
        record { code = w.code; scope = w.scope }
    kind_well c scope name pos (tree.array u l at) s m = record { code = (tt, tt); scope = (tt, s.known) }
    kind_well c scope name pos (tree.channel streaming) s m = record { code = tt; scope = (m.0, s.known) }
    kind_well c scope name pos tree.timer s m = record { code = tt; scope = (tt, s.known) }

    declarations_well : (c : Context) (ds : List tree.Declaration) (scope : Scope) → Stands c scope → Made (declarations_copy copies c ds scope) → Well (declarations_copy copies c ds scope)
    declarations_well c [] scope s m = record { code = tt; scope = s.known }
    declarations_well c (d ∷ ds) scope s m =
        well_followed (kind_copy copies c scope d.name.text d.name.pos d.kind) (declarations_copy copies c ds) m
        (λ k. kind_well c scope d.name.text d.name.pos d.kind s k) (λ w k. declarations_well c ds _ (with_scope _ s w.scope) k)

    assign_well : (c : Context) (scope : Scope) (to : tree.Expression) (symbol : ℕ) (pos : Pos) (r : tree.RightSide) (b : Bool) → Stands c scope → Made (assign_by copies c scope to symbol pos r b) → Well (assign_by copies c scope to symbol pos r b)
    assign_well c scope to symbol pos r true s m =
        let k = split IsThere (right_copy copies c scope r).channels [] m in
        well_joined (right_copy copies c scope r) _ (right_well c scope r s k.0) (record { code = (tt, tt); scope = s.known })
    assign_well c scope to symbol pos r false s m = record { code = (tt, tt); scope = s.known }

    return_well : (c : Context) (scope : Scope) (r : Option tree.RightSide) → Stands c scope → Made (return_copy copies c scope r) → Well (return_copy copies c scope r)
    return_well c scope None s m = record { code = (tt, tt); scope = s.known }
    return_well c scope (Some r) s m =
        let k = split IsThere (right_copy copies c scope r).channels [] m in
        well_joined (right_copy copies c scope r) _ (right_well c scope r s k.0) (record { code = (tt, (tt, tt)); scope = s.known })

    target_known : (c : Context) (scope : Scope) (t : tree.Target) → AllKnown scope → AllKnown (target_copy c scope t).scope
    target_known c scope (tree.to e) h = h
    target_known c scope tree.dropped h = h
    target_known c scope (tree.fresh u name) h = (tt, h)

    name_listed : (c : Context) (scope : Scope) (name : List ℕ) → Stands c scope → ByListed most (resource_of c.numbering (entity_of scope name))
    name_listed c scope name s = resource_listed c.numbering (entity_of scope name) s.numbers (known_of scope name s.known)

    -- in the blocks of a loop
    loop_well : (c : Context) (path : Path) (test : kernel.Expression) (body more next : List kernel.Statement) → AllIn (Listed most) body → AllIn (Listed most) more → AllIn (Listed most) next →
        Listed most (block_at c path (kernel.loop test (kernel.statements (block_at c (path_of_turn path) body ∷ more)) (kernel.statements next) ∷ []))
    loop_well c path test body more next h g k = (((as_statements most body h, as_statements most more g), as_statements most next k), tt)

    numbered_well : (b : tree.Branch) (c : Context) (scope : Scope) (name : List ℕ) → Stands c scope → (count index number : ℕ) →
        ((d : Context) (other : Scope) → Stands d other → Made (branch_copy copies b d other) → Well (branch_copy copies b d other)) →
        Made (replicated (numbered_copy (branch_copy copies b) c scope name) (pos_of_branch b) scope count index number).made →
        BranchesListed most (replicated (numbered_copy (branch_copy copies b) c scope name) (pos_of_branch b) scope count index number).branches
        × AllKnown (replicated (numbered_copy (branch_copy copies b) c scope name) (pos_of_branch b) scope count index number).made.scope
    numbered_well b c scope name s zero index number rec m = (tt, s.known)
    numbered_well b c scope name s (suc count) index number rec m =
        let inner = with_name scope name (a_constant number) in
        let k = split IsThere (branch_copy copies b (in_branch c index) inner).channels _ m in
        let x = rec (in_branch c index) inner (in_context (in_branch c index) refl refl (with_scope inner s (tt, s.known))) k.0 in
        let y = numbered_well b c scope name s count (index + 1) (number + 1) rec k.1 in
        ((as_statements most _ x.code, y.0), y.1)

    mutual
      statement_well : (t : tree.Statement) (c : Context) (scope : Scope) → Stands c scope → Made (statement_copy copies t c scope) → Well (statement_copy copies t c scope)
      statement_well (tree.statement a pos close own) c scope s m = action_well a pos close c scope s m

      action_well : (a : tree.Action) (pos close : Pos) (c : Context) (scope : Scope) → Stands c scope → Made (action_copy copies a pos close c scope) → Well (action_copy copies a pos close c scope)
      action_well tree.empty pos close c scope s m = record { code = tt; scope = s.known }
      action_well (tree.block ss) pos close c scope s m = record { code = (statements_well ss c scope s m).code; scope = s.known }
      action_well (tree.declare ds) pos close c scope s m = declarations_well c ds scope s m
      action_well (tree.assign to symbol at r) pos close c scope s m = assign_well c scope to symbol at r (nat_eq symbol equals) s m
      action_well (tree.step to symbol) pos close c scope s m = record { code = (tt, tt); scope = s.known }
      action_well (tree.perform r) pos close c scope s m = right_well c scope r s m
      action_well (tree.output o) pos close c scope s m = record { code = (name_listed c scope o.name.text s, tt); scope = s.known }
      action_well (tree.input i) pos close c scope s m = record { code = (name_listed c scope i.name.text s, tt); scope = target_known c scope i.target s.known }
      action_well (tree.if_then test a b) pos close c scope s m =
          let k = split IsThere (statement_copy copies a c scope).channels (maybe_copy copies b c (statement_copy copies a c scope).scope).channels m in
          let x = statement_well a c scope s k.0 in
          let y = maybe_well b c (statement_copy copies a c scope).scope (with_scope _ s x.scope) k.1 in
          record { code = ((as_statements most _ x.code, as_statements most _ y.code), tt); scope = y.scope }
      action_well (tree.while_loop test body) pos close c scope s m =
          let x = statement_well body (in_loop c pos) scope (in_context (in_loop c pos) refl refl s) m in
          record { code = (loop_well c (path_at c.path pos) (expression c scope test) (statement_copy copies body (in_loop c pos) scope).code [] [] x.code tt tt, tt); scope = x.scope }
      action_well (tree.do_while body test) pos close c scope s m =
          let x = statement_well body (in_loop c pos) scope (in_context (in_loop c pos) refl refl s) m in
          record {
            code = (loop_well c (path_at c.path pos) (kernel.number 1) (statement_copy copies body (in_loop c pos) scope).code (leave_unless c (path_at c.path pos) (expression c (statement_copy copies body (in_loop c pos) scope).scope test) ∷ []) [] x.code ((tt, (tt, tt)), tt) tt, tt);
            scope = x.scope;
          }
      action_well (tree.for_loop first test next body) pos close c scope s m =
          let f = maybe_copy copies first c scope in
          let k = split IsThere f.channels _ m in
          let k2 = split IsThere (maybe_copy copies next c f.scope).channels (statement_copy copies body (in_loop c pos) f.scope).channels k.1 in
          let x = maybe_well first c scope s k.0 in
          let y = maybe_well next c f.scope (with_scope _ s x.scope) k2.0 in
          let z = statement_well body (in_loop c pos) f.scope (in_context (in_loop c pos) refl refl (with_scope f.scope s x.scope)) k2.1 in
          record {
            code = both (Listed most) f.code _ x.code (loop_well c (path_at c.path pos) (test_or_true (maybe_expression c f.scope test)) (statement_copy copies body (in_loop c pos) f.scope).code [] (maybe_copy copies next c f.scope).code z.code tt y.code, tt);
            scope = s.known;
          }
      action_well (tree.return_with r) pos close c scope s m = return_well c scope r s m
      action_well tree.break_out pos close c scope s m = record { code = (tt, tt); scope = s.known }
      action_well tree.continue_on pos close c scope s m = record { code = (tt, tt); scope = s.known }
      action_well (tree.par bs) pos close c scope s m = let x = branches_well bs 0 c scope s m in record { code = (x.0, tt); scope = x.1 }
      action_well (tree.replicated first second third from until b) pos close c scope s m =
          let x = numbered_well b c scope first.text s (until - from) 0 from (λ d other t k. branch_well b d other t k) m in record { code = (x.0, tt); scope = x.1 }
      action_well (tree.select cs) pos close c scope s m = record { code = (cases_well cs c scope s m, tt); scope = s.known }
      action_well (tree.transaction is_master ss) pos close c scope s m = record { code = (as_statements most _ (statements_well ss c scope s m).code, tt); scope = s.known }

      maybe_well : (t : tree.Maybe) (c : Context) (scope : Scope) → Stands c scope → Made (maybe_copy copies t c scope) → Well (maybe_copy copies t c scope)
      maybe_well tree.absent c scope s m = record { code = tt; scope = s.known }
      maybe_well (tree.present t) c scope s m = statement_well t c scope s m

      statements_well : (ss : tree.Statements) (c : Context) (scope : Scope) → Stands c scope → Made (statements_copy copies ss c scope) → Well (statements_copy copies ss c scope)
      statements_well tree.no_more c scope s m = record { code = tt; scope = s.known }
      statements_well (tree.more t ss) c scope s m =
          let k = split IsThere (statement_copy copies t c scope).channels (statements_copy copies ss c (statement_copy copies t c scope).scope).channels m in
          let x = statement_well t c scope s k.0 in
          well_joined (statement_copy copies t c scope) (statements_copy copies ss c (statement_copy copies t c scope).scope) x (statements_well ss c (statement_copy copies t c scope).scope (with_scope _ s x.scope) k.1)

      branch_well : (b : tree.Branch) (c : Context) (scope : Scope) → Stands c scope → Made (branch_copy copies b c scope) → Well (branch_copy copies b c scope)
      branch_well (tree.branch place t) c scope s m = statement_well t c scope s m

      branches_well : (bs : tree.Branches) (index : ℕ) (c : Context) (scope : Scope) → Stands c scope → Made (branches_copy copies bs index c scope).made → BranchesListed most (branches_copy copies bs index c scope).branches × AllKnown (branches_copy copies bs index c scope).made.scope
      branches_well tree.no_branch index c scope s m = (tt, s.known)
      branches_well (tree.more_branches b bs) index c scope s m =
          let k = split IsThere (branch_copy copies b (in_branch c index) scope).channels (branches_copy copies bs (index + 1) c (branch_copy copies b (in_branch c index) scope).scope).made.channels m in
          let x = branch_well b (in_branch c index) scope (in_context (in_branch c index) refl refl s) k.0 in
          let y = branches_well bs (index + 1) c (branch_copy copies b (in_branch c index) scope).scope (with_scope _ s x.scope) k.1 in
          ((as_statements most _ x.code, y.0), y.1)

      cases_well : (cs : tree.Cases) (c : Context) (scope : Scope) → Stands c scope → Made (cases_copy copies cs c scope).made → CasesListed most (cases_copy copies cs c scope).cases × DefaultListed most (cases_copy copies cs c scope).otherwise
      cases_well tree.no_case c scope s m = (tt, tt)
      cases_well (tree.more_cases (tree.case pos guard None ss) cs) c scope s m =
          let k = split IsThere (statements_copy copies ss (in_case c pos) scope).channels (cases_copy copies cs c scope).made.channels m in
          let x = statements_well ss (in_case c pos) scope (in_context (in_case c pos) refl refl s) k.0 in
          let y = cases_well cs c scope s k.1 in
          (y.0, (as_statements most _ x.code, tt))
      cases_well (tree.more_cases (tree.case pos guard (Some input) ss) cs) c scope s m =
          let inner = case_scope c scope (Some input) in
          let k = split IsThere ((input_names c scope input).channels ++ (statements_copy copies ss (in_case c pos) inner).channels) (cases_copy copies cs c scope).made.channels m in
          let k2 = split IsThere (input_names c scope input).channels (statements_copy copies ss (in_case c pos) inner).channels k.0 in
          let x = statements_well ss (in_case c pos) inner (in_context (in_case c pos) refl refl (with_scope inner s (target_known c scope input.target s.known))) k2.1 in
          let y = cases_well cs c scope s k.1 in
          (((name_listed c scope input.name.text s, (as_statements most _ x.code, tt)), y.0), y.1)

    -- the body of a function, behind its parameters
    result_well : (c : Context) (path : Path) (pos : Pos) (scope : Scope) (r : Option Bool) → AllIn (Listed most) (result_copy c path pos scope r).code
    result_well c path pos scope None = tt
    result_well c path pos scope (Some u) = (tt, tt)

    element_well : (c : Context) (scope : Scope) (own : Path) (pos : Pos) (i : tree.Expression) (at : Pos) (x : Entity) → AllIn (Listed most) (by_element c scope own pos i at x).code × Known (by_element c scope own pos i at x).entity
    element_well c scope own pos i at (an_array path l u) = ((tt, tt), tt)
    element_well c scope own pos i at other = (tt, tt)

    form_well : (c : Context) (scope : Scope) (own : Path) (pos at : Pos) (f : tree.Form) → AllKnown scope → AllIn (Listed most) (form_by_reference c scope own pos at f).code × Known (form_by_reference c scope own pos at f).entity
    form_well c scope own pos at (tree.name text) h = (tt, known_of scope text h)
    form_well c scope own pos at (tree.index text i) h = element_well c scope own pos i at (entity_of scope text)
    form_well c scope own pos at other h = (tt, tt)

    named_well : (scope : Scope) (v : tree.Expression) → AllKnown scope → AllIn (Listed most) (by_name scope v).code × Known (by_name scope v).entity
    named_well scope (tree.expression (tree.name text) at) h = (tt, known_of scope text h)
    named_well scope other h = (tt, tt)

    reference_well : (c : Context) (scope : Scope) (own : Path) (pos : Pos) (v : tree.Expression) → AllKnown scope → AllIn (Listed most) (by_reference c scope own pos v).code × Known (by_reference c scope own pos v).entity
    reference_well c scope own pos (tree.expression f at) h = form_well c scope own pos at f h

    passed_well : (c : Context) (scope : Scope) (own : Path) (pos : Pos) (k : ParamKind) (v : tree.Expression) → AllKnown scope → AllIn (Listed most) (passed c scope own pos k v).code × Known (passed c scope own pos k v).entity
    passed_well c scope own pos (param.Value u) v h = ((tt, tt), tt)
    passed_well c scope own pos (param.Ref u) v h = reference_well c scope own pos v h
    passed_well c scope own pos (param.Array u l) v h = named_well scope v h
    passed_well c scope own pos (param.End s) v h = named_well scope v h
    passed_well c scope own pos (param.Port d) v h = named_well scope v h

    all_passed_well : (c : Context) (scope : Scope) (own : Path) (ps : List Param) (args : List tree.Argument) → Stands c scope → Well (all_passed c scope own ps args)
    all_passed_well c scope own [] args s = record { code = tt; scope = s.ports }
    all_passed_well c scope own (p ∷ ps) [] s = record { code = tt; scope = s.ports }
    all_passed_well c scope own (p ∷ ps) (a ∷ args) s =
        let x = passed_well c scope own p.name.pos p.kind a.value s.known in
        let y = all_passed_well c scope own ps args s in
        record { code = both (Listed most) (passed c scope own p.name.pos p.kind a.value).code _ x.0 y.code; scope = (x.1, y.scope) }

    function_well : (c : Context) (scope : Scope) (own : Path) (f : Function) (args : List tree.Argument) → Stands c scope → Made (function_copy (statement_copy copies) c scope own f args) → Well (function_copy (statement_copy copies) c scope own f args)
    function_well c scope own f args s m =
        let passed_all = all_passed c scope own f.head.params args in
        let p = all_passed_well c scope own f.head.params args s in
        let k = split IsThere (result_copy c (path_at own f.head.name.pos) f.head.name.pos scope f.head.result).channels _ m in
        let k2 = split IsThere passed_all.channels _ k.1 in
        let x = statement_well f.body (in_function c own f) passed_all.scope (in_context (in_function c own f) refl refl (with_scope passed_all.scope s p.scope)) k2.1 in
        record {
          code = both (Listed most) (result_copy c (path_at own f.head.name.pos) f.head.name.pos scope f.head.result).code _ (result_well c (path_at own f.head.name.pos) f.head.name.pos scope f.head.result)
              (both (Listed most) passed_all.code _ p.code (as_statements most _ x.code, tt));
          scope = s.known;
        }

  calls_well : (depth : ℕ) (c : Context) (scope : Scope) (f : Function) (pos : Pos) (args : List tree.Argument) → Stands c scope → Made (calls_copy depth c scope f pos args) → Well (calls_copy depth c scope f pos args)
  calls_well zero c scope f pos args s m = record { code = tt; scope = s.known }
  calls_well (suc depth) c scope f pos args s m = function_well (calls_copy depth) (calls_well depth) c scope (path_of_call c pos) f args s m

  -- roots
  abbrev RootsListed : List kernel.Root → Type 0
  RootsListed [] = Unit {0}
  RootsListed (r ∷ rs) = AllListed most r.body × RootsListed rs

  more_roots : (xs ys : List kernel.Root) → RootsListed xs → RootsListed ys → RootsListed (xs ++ ys)
  more_roots [] ys h g = g
  more_roots (x ∷ xs) ys h g = (h.0, more_roots xs ys h.1 g)

  abbrev WellRooted : roots.Rooted → Type 0
  WellRooted r = RootsListed r.roots × AllKnown r.made.scope

  module _ (depth : ℕ) where
    abbrev calls : CopiesCall
    calls = calls_copy depth

    root_well : (main : Pos) (b : tree.Branch) (c : Context) (scope : Scope) → Stands c scope → AllIn IsThere (roots.branch_root calls main b c scope).made.channels → WellRooted (roots.branch_root calls main b c scope)
    root_well main (tree.branch place t) c scope s m =
        let d = record c { core = core_of scope place } in
        let x = statement_well calls (calls_well depth) t d scope (in_context d refl refl s) m in
        ((as_statements most _ x.code, tt), x.scope)

    branch_roots_well : (main : Pos) (bs : tree.Branches) (index : ℕ) (c : Context) (scope : Scope) → Stands c scope → AllIn IsThere (roots.branch_roots calls main bs index c scope).made.channels → WellRooted (roots.branch_roots calls main bs index c scope)
    branch_roots_well main tree.no_branch index c scope s m = (tt, s.known)
    branch_roots_well main (tree.more_branches b bs) index c scope s m =
        let a = roots.branch_root calls main b (in_branch c index) scope in
        let k = split IsThere a.made.channels (roots.branch_roots calls main bs (index + 1) c a.made.scope).made.channels m in
        let x = root_well main b (in_branch c index) scope (in_context (in_branch c index) refl refl s) k.0 in
        let y = branch_roots_well main bs (index + 1) c a.made.scope (with_scope a.made.scope s x.1) k.1 in
        (more_roots a.roots _ x.0 y.0, y.1)

    numbered_roots_well : (main : Pos) (b : tree.Branch) (name : List ℕ) (c : Context) (scope : Scope) (count index number : ℕ) → Stands c scope → AllIn IsThere (roots.numbered_roots calls main b name c scope count index number).made.channels → WellRooted (roots.numbered_roots calls main b name c scope count index number)
    numbered_roots_well main b name c scope zero index number s m = (tt, s.known)
    numbered_roots_well main b name c scope (suc count) index number s m =
        let inner = with_name scope name (a_constant number) in
        let a = roots.branch_root calls main b (in_branch c index) inner in
        let k = split IsThere a.made.channels (roots.numbered_roots calls main b name c scope count (index + 1) (number + 1)).made.channels m in
        let x = root_well main b (in_branch c index) inner (in_context (in_branch c index) refl refl (with_scope inner s (tt, s.known))) k.0 in
        let y = numbered_roots_well main b name c scope count (index + 1) (number + 1) s k.1 in
        (more_roots a.roots _ x.0 y.0, y.1)

    action_roots_well : (main : Pos) (a : tree.Action) (c : Context) (scope : Scope) → Stands c scope → AllIn IsThere (roots.action_roots calls main a c scope).made.channels → WellRooted (roots.action_roots calls main a c scope)
    action_roots_well main (tree.declare ds) c scope s m = (tt, (declarations_well calls (calls_well depth) c ds scope s m).scope)
    action_roots_well main (tree.par bs) c scope s m = branch_roots_well main bs 0 c scope s m
    action_roots_well main (tree.replicated first second third from until b) c scope s m = numbered_roots_well main b first.text c scope (until - from) 0 from s m
    action_roots_well main other c scope s m = (tt, s.known)

    block_roots_well : (main : Pos) (ss : tree.Statements) (c : Context) (scope : Scope) → Stands c scope → AllIn IsThere (roots.block_roots calls main ss c scope).made.channels → WellRooted (roots.block_roots calls main ss c scope)
    block_roots_well main tree.no_more c scope s m = (tt, s.known)
    block_roots_well main (tree.more (tree.statement action pos close own) ss) c scope s m =
        let a = roots.action_roots calls main action c scope in
        let k = split IsThere a.made.channels (roots.block_roots calls main ss c a.made.scope).made.channels m in
        let x = action_roots_well main action c scope s k.0 in
        let y = block_roots_well main ss c a.made.scope (with_scope a.made.scope s x.1) k.1 in
        (more_roots a.roots _ x.0 y.0, y.1)

    roots_well_by : (b : Bool) (f : Function) (c : Context) → Stands c c.ports → AllIn IsThere (roots.roots_by calls b f c).made.channels → RootsListed (roots.roots_by calls b f c).roots
    roots_well_by true f c s m = (block_roots_well f.head.name.pos (roots.in_block f.body) c c.ports s m).0
    roots_well_by false f c s m = (as_statements most _ (function_well calls (calls_well depth) c c.ports [] f [] s m).code, tt)

    roots_well : (o : Option Function) (c : Context) → Stands c c.ports → AllIn IsThere (roots.roots_of calls o c).made.channels → RootsListed (roots.roots_of calls o c).roots
    roots_well None c s m = tt
    roots_well (Some f) c s m = roots_well_by (roots.block_has_placed (roots.in_block f.body)) f c s m

  ports_known : (n : ℕ) (ps : List tree.Port) → AllKnown (scope_of_ports n ps)
  ports_known n [] = tt
  ports_known n (p ∷ ps) = (tt, ports_known (n + 1) ps)

  roots_listed : (rs : List kernel.Root) → RootsListed rs → BranchesListed most (branches_of rs)
  roots_listed [] h = tt
  roots_listed (r ∷ rs) h = (h.0, roots_listed rs h.1)

-- The instances of a list are there when each path is taken once.

stays_by : (b : Bool) (known : List Chan) (x : Chan) (path : Path) → has_path path_of_channel known path ≡ true → has_path path_of_channel (with_by known x b) path ≡ true
stays_by true known x path h = h
stays_by false known x path h = there_before path_of_channel known (x ∷ []) path h

stays_there : (known xs : List Chan) (path : Path) → has_path path_of_channel known path ≡ true → has_path path_of_channel (with_all path_of_channel known xs) path ≡ true
stays_there known [] path h = h
stays_there known (x ∷ xs) path h = stays_there (with_new path_of_channel known x) xs path (stays_by (has_path path_of_channel known (path_of_channel x)) known x path h)

new_by : (b : Bool) (known : List Chan) (x : Chan) → has_path path_of_channel known (path_of_channel x) ≡ b → has_path path_of_channel (with_by known x b) (path_of_channel x) ≡ true
new_by true known x e = e
new_by false known x e = there_at_end path_of_channel known x

all_there : (known xs : List Chan) → AllIn (IsThere (with_all path_of_channel known xs)) xs
all_there known [] = tt
all_there known (x ∷ xs) =
    (stays_there (with_new path_of_channel known x) xs (path_of_channel x) (new_by (has_path path_of_channel known (path_of_channel x)) known x refl), all_there (with_new path_of_channel known x) xs)

-- all transfers of a program's kernel go by channels of its list
pub copy_listed : (P : List tree.Item) → BranchesListed (length (copy_of P).channels) (branches_of (copy_of P).roots)
unfolding copy_of
copy_listed P =
    let n = numbering P in
    let made = (rooted P n).made.channels in
    let own : each_once path_of_channel made ≡ n.channels = ap (λ m. m.channels) (numbering_is_own P n) in
    roots_listed n.channels (rooted P n).roots
    (roots_well n.channels (length (functions P)) (main_of P) (roots.context_of P n)
    (record { numbers = refl; ports = ports_known n.channels 0 (ports P); known = ports_known n.channels 0 (ports P) })
    (subst (λ cs. AllIn (IsThere cs) made) own (all_there [] made)))

-- The uses are those of transfers and transactions.
module _ (most : ℕ) where
  abbrev Bounded : ℕ → kernel.Statements → Type 0
  Bounded c ss = c < most

  abbrev UsesListed : List Use → Type 0
  UsesListed us = AllIn (λ u. ByListed most u.resource) us

  mutual
    uses_of_statement : (s : kernel.Statement) → Listed most s → EveryStatement AnyThing AnyPar Bounded s → UsesListed (uses.of_statement s)
    uses_of_statement (kernel.set_zero v) h g = tt
    uses_of_statement (kernel.set p e) h g = tt
    uses_of_statement (kernel.output o) h g = (h, tt)
    uses_of_statement (kernel.input i) h g = (h, tt)
    uses_of_statement (kernel.if_then e a b) h g = both _ (uses.of_statements a) (uses.of_statements b) (uses_of_statements a h.0 g.1) (uses_of_statements b h.1 g.2)
    uses_of_statement (kernel.loop e a b) h g = both _ (uses.of_statements a) (uses.of_statements b) (uses_of_statements a h.0 g.1) (uses_of_statements b h.1 g.2)
    uses_of_statement (kernel.block n a) h g = uses_of_statements a h g
    uses_of_statement (kernel.exit n) h g = tt
    uses_of_statement (kernel.select cs d pos) h g = both _ (uses.of_cases cs) (uses.of_default d) (uses_of_cases cs h.0 g.0) (uses_of_default d h.1 g.1)
    uses_of_statement (kernel.par bs) h g = uses_of_branches bs h g.1
    uses_of_statement (kernel.transaction c is_master a start close) h g = (g.1, uses_of_statements a h g.2)

    uses_of_statements : (ss : kernel.Statements) → AllListed most ss → EveryStatements AnyThing AnyPar Bounded ss → UsesListed (uses.of_statements ss)
    uses_of_statements kernel.no_more h g = tt
    uses_of_statements (kernel.more s ss) h g = both _ (uses.of_statement s) (uses.of_statements ss) (uses_of_statement s h.0 g.0) (uses_of_statements ss h.1 g.1)

    uses_of_cases : (cs : kernel.Cases) → CasesListed most cs → EveryCases AnyThing AnyPar Bounded cs → UsesListed (uses.of_cases cs)
    uses_of_cases kernel.no_case h g = tt
    uses_of_cases (kernel.more_cases (kernel.case guard i a) cs) h g = (h.0.0, both _ (uses.of_statements a) (uses.of_cases cs) (uses_of_statements a h.0.1 g.0.2) (uses_of_cases cs h.1 g.1))

    uses_of_default : (d : kernel.Default) → DefaultListed most d → EveryDefault AnyThing AnyPar Bounded d → UsesListed (uses.of_default d)
    uses_of_default kernel.no_default h g = tt
    uses_of_default (kernel.default a) h g = uses_of_statements a h g

    uses_of_branches : (bs : kernel.Branches) → BranchesListed most bs → EveryBranches AnyThing AnyPar Bounded bs → UsesListed (uses.of_branches bs)
    uses_of_branches kernel.no_branch h g = tt
    uses_of_branches (kernel.more_branches (kernel.branch a pos) bs) h g = both _ (uses.of_statements a) (uses.of_branches bs) (uses_of_statements a h.0 g.0) (uses_of_branches bs h.1 g.1)

  is_this : (c : ℕ) (r : KRes) → ByListed most r → IsTrue (by_resource (channel c) r) → c < most
  is_this c (Port p) h u = absurd (true≢false (sym u))
  is_this c (Timer t) h u = absurd (true≢false (sym u))
  is_this c (resource.Chan d) h u = let e = eqb-true c d u in let l : d < most = h in omega arith

  counted : (c : ℕ) (us : List Use) → UsesListed us → 0 < count_of c us → c < most
  counted c [] h lt = absurd (omega arith)
  counted c (u ∷ us) h lt =
      ⊎_elim (λ t. is_this c u.resource h.0 t) (λ f. counted c us h.1 (let e = ap once f in omega arith)) (true_or_false (by_resource (channel c) u.resource))

pub copies_are_listed : (P : List tree.Item) (K : kernel.Kernel) → Copies P K → TransactionsListed K → IsListed K
copies_are_listed P K copies t = record {
  listed = λ c lt.
      counted (length K.channels) c (uses.of_branches (branches_of K.roots))
      (uses_of_branches (length K.channels) (branches_of K.roots) (subst (λ k. BranchesListed (length k.channels) (branches_of k.roots)) (sym copies.is_copy) (copy_listed P)) t.listed) lt;
}
