-- Kernels are built so far whose programs are built today: no statement of a later form is in them.
use Rattle.std.proofs.Common.{ℕ, zero, suc, ◌+◌, ◌-◌, Bool, true, false, List, [], ◌∷◌, ◌++◌, length, Option, None, Some, sym, subst}
use Rattle.xw_words.specs.declared.pos.Pos.{Pos}
use Rattle.xc_tree.specs.Derives.{unlimited}
use Rattle.xc_tree.specs.Plain as tree
use Rattle.xc_kernel.specs.declared.kernel.PortUse.{PortUse}
use Rattle.xc_kernel.specs.declared.statement.KRes.{KRes}
use Rattle.xc_kernel.specs.declared.statement.KRes.TheVariants.{Port, Timer as Clock, Chan}
use Rattle.xc_kernel.specs.Plain as kernel
use Rattle.xc_kernel.specs.Numbering.{Numbering}
use Rattle.xc_kernel.specs.Scopes.{Scope, a_constant, with_name}
use Rattle.xc_kernel.specs.Programs.{Function, functions, main_of, name_of_main}
use Rattle.xc_kernel.specs.Context.{Context, in_branch}
use Rattle.xc_kernel.specs.Ports.{core_of}
use Rattle.xc_kernel.specs.Calls.{CopiesCall, function_copy}
use Rattle.xc_kernel.specs.Statements.{branch_copy, statement_copy}
use Rattle.xc_kernel.specs.Roots.{Rooted, action_roots, block_has_placed, block_roots, branch_root, branch_roots, context_of, in_block, numbered_roots, roots_by, roots_of}
use Rattle.xc_kernel.specs.Copies.{calls_of, rooted, copy_of}
use Rattle.xc_wellformed.specs.Each.{AnyExpression, AnyPlace, AnyNumber, EachStatement, EachOf, EachCase, EachDefault, EachBranch, EachRoot}
use Rattle.xc_wellformed.specs.Transfers.{OutputGoes, GoesOut, ComesIn}
use Rattle.xc_wellformed.proofs.Formed.{transfers_right}
use Rattle.xc_wellformed.proofs.Grammar.{AllOf, MaybeOf}
use Rattle.xl_statements.specs.Built.{IsSent, IsBuilt, AreBuilt, BranchesAreBuilt, CasesAreBuilt, DefaultIsBuilt}
use Rattle.xl_image.specs.Roots.{RootsAreBuilt}
use Rattle.xl_image.specs.TodayLaws.{KernelsAreBuilt}
use Rattle.xl_image.proofs.TodayEarly.{IsEarlyAction, IsEarly, AreEarly, IsEarlyBranch, AreEarlyBranches, IsEarlyItem, program_early}
use Rattle.xl_image.proofs.TodayCopied.{IsEarlyCode, AreEarlyCode, HaveEarlyCode, CasesHaveEarlyCode, DefaultHasEarlyCode, IsEarlyFunction, CallsEarly, as_statements, named_early, branch_early, function_early, calls_early}

-- Roots.

abbrev IsEarlyRoot : kernel.Root → Type 0
IsEarlyRoot r = AreEarlyCode r.body

abbrev IsEarlyRooted : Rooted → Type 0
IsEarlyRooted r = AllOf IsEarlyRoot r.roots

both_early : (rs ss : List kernel.Root) → AllOf IsEarlyRoot rs → AllOf IsEarlyRoot ss → AllOf IsEarlyRoot (rs ++ ss)
both_early [] ss h g = g
both_early (r ∷ rs) ss h g = (h.0, both_early rs ss h.1 g)

in_block_early : (s : tree.Statement) → IsEarly s → AreEarly (in_block s)
in_block_early (tree.statement (tree.block ss) pos close own) h = h
in_block_early (tree.statement other pos close own) h = tt

module _ (copies : CopiesCall) (calls : CallsEarly copies) where
  -- placed branches
  branch_rooted : (main : Pos) (b : tree.Branch) (c : Context) (scope : Scope) →
      AllOf IsEarlyFunction c.functions → IsEarlyBranch b → IsEarlyRooted (branch_root copies main b c scope)
  branch_rooted main (tree.branch place s) c scope fs h =
      let d : Context = record c { core = core_of scope place } in
      (as_statements (branch_copy copies (tree.branch place s) d scope).code (branch_early copies calls (tree.branch place s) d scope fs h), tt)

  branches_rooted : (main : Pos) (bs : tree.Branches) (index : ℕ) (c : Context) (scope : Scope) →
      AllOf IsEarlyFunction c.functions → AreEarlyBranches bs → IsEarlyRooted (branch_roots copies main bs index c scope)
  branches_rooted main tree.no_branch index c scope fs h = tt
  branches_rooted main (tree.more_branches b bs) index c scope fs h =
      let first = branch_root copies main b (in_branch c index) scope in
      both_early first.roots (branch_roots copies main bs (index + 1) c first.made.scope).roots
      (branch_rooted main b (in_branch c index) scope fs h.0) (branches_rooted main bs (index + 1) c first.made.scope fs h.1)

  numbered_rooted : (main : Pos) (b : tree.Branch) (name : List ℕ) (c : Context) (scope : Scope) (count index number : ℕ) →
      AllOf IsEarlyFunction c.functions → IsEarlyBranch b → IsEarlyRooted (numbered_roots copies main b name c scope count index number)
  numbered_rooted main b name c scope zero index number fs h = tt
  numbered_rooted main b name c scope (suc count) index number fs h =
      let inner = with_name scope name (a_constant number) in
      both_early (branch_root copies main b (in_branch c index) inner).roots
      (numbered_roots copies main b name c scope count (index + 1) (number + 1)).roots
      (branch_rooted main b (in_branch c index) inner fs h) (numbered_rooted main b name c scope count (index + 1) (number + 1) fs h)

  -- those of main's block
  action_rooted : (main : Pos) (a : tree.Action) (c : Context) (scope : Scope) →
      AllOf IsEarlyFunction c.functions → IsEarlyAction a → IsEarlyRooted (action_roots copies main a c scope)
  action_rooted main (tree.par bs) c scope fs h = branches_rooted main bs 0 c scope fs h
  action_rooted main (tree.replicated first second third from until b) c scope fs h =
      numbered_rooted main b first.text c scope (until - from) 0 from fs h
  action_rooted main other c scope fs h = tt

  block_rooted : (main : Pos) (ss : tree.Statements) (c : Context) (scope : Scope) →
      AllOf IsEarlyFunction c.functions → AreEarly ss → IsEarlyRooted (block_roots copies main ss c scope)
  block_rooted main tree.no_more c scope fs h = tt
  block_rooted main (tree.more (tree.statement a pos close own) ss) c scope fs h =
      let first = action_roots copies main a c scope in
      both_early first.roots (block_roots copies main ss c first.made.scope).roots
      (action_rooted main a c scope fs h.0) (block_rooted main ss c first.made.scope fs h.1)

  -- main itself, or its branches
  main_early : (f : Function) (c : Context) (b : Bool) → AllOf IsEarlyFunction c.functions → IsEarlyFunction f → IsEarlyRooted (roots_by copies b f c)
  main_early f c true fs h = block_rooted f.head.name.pos (in_block f.body) c c.ports fs (in_block_early f.body h)
  main_early f c false fs h =
      let copy = function_copy (statement_copy copies) c c.ports [] f [] in
      (as_statements copy.code (function_early copies calls c c.ports [] f [] fs h), tt)

  some_early : (c : Context) (o : Option Function) → AllOf IsEarlyFunction c.functions → MaybeOf IsEarlyFunction o → IsEarlyRooted (roots_of copies o c)
  some_early c None fs h = tt
  some_early c (Some f) fs h = main_early f c (block_has_placed (in_block f.body)) fs h

rooted_early : (P : List tree.Item) (num : Numbering) → AllOf IsEarlyFunction (functions P) → IsEarlyRooted (rooted P num)
rooted_early P num fs =
    some_early (calls_of P) (calls_early (length (functions P))) (context_of P num) (main_of P) fs (named_early (functions P) name_of_main fs)

functions_early : (P : List tree.Item) → AllOf IsEarlyItem P → AllOf IsEarlyFunction (functions P)
functions_early [] h = tt
functions_early (tree.port p ∷ P) h = functions_early P h.1
functions_early (tree.function head s ∷ P) h = (h.0, functions_early P h.1)

-- The kernel.

copy_roots : (P : List tree.Item) → AllOf IsEarlyFunction (functions P) → AllOf IsEarlyRoot (copy_of P).roots
unfolding copy_of
copy_roots P fs = rooted_early P _ fs

-- Transfers.

-- an output goes to a port or a channel
sent : (ps : List PortUse) (channels timers : ℕ) (r : KRes) (time : Option kernel.Expression) (stamp : Option kernel.Place) →
    OutputGoes ps channels timers r time stamp → IsSent r
sent ps channels timers (Port p) time stamp h = tt
sent ps channels timers (Clock t) time stamp h = absurd h
sent ps channels timers (Chan c) time stamp h = tt

module _ (K : kernel.Kernel) where
  mutual
    statement_built : (s : kernel.Statement) → IsEarlyCode s → EachStatement AnyExpression AnyPlace AnyNumber (GoesOut K) (ComesIn K) AnyNumber s → IsBuilt s
    statement_built (kernel.set_zero v) h g = tt
    statement_built (kernel.set p e) h g = tt
    statement_built (kernel.output o) h g = sent K.ports (length K.channels) (length K.timers) o.resource o.time o.stamp g.0
    statement_built (kernel.input i) h g = tt
    statement_built (kernel.if_then e a b) h g = (statements_built a h.0 g.1.0, statements_built b h.1 g.1.1)
    statement_built (kernel.loop e a b) h g = (statements_built a h.0 g.1.0, statements_built b h.1 g.1.1)
    statement_built (kernel.block n a) h g = statements_built a h g
    statement_built (kernel.exit n) h g = tt
    statement_built (kernel.select cs d pos) h g = (cases_built cs h.0 g.0, default_built d h.1 g.1)
    statement_built (kernel.par bs) h g = branches_built bs h g
    statement_built (kernel.transaction c is_master a start close) h g = absurd h

    statements_built : (ss : kernel.Statements) → AreEarlyCode ss → EachOf AnyExpression AnyPlace AnyNumber (GoesOut K) (ComesIn K) AnyNumber ss → AreBuilt ss
    statements_built kernel.no_more h g = tt
    statements_built (kernel.more s ss) h g = (statement_built s h.0 g.0, statements_built ss h.1 g.1)

    cases_built : (cs : kernel.Cases) → CasesHaveEarlyCode cs → EachCase AnyExpression AnyPlace AnyNumber (GoesOut K) (ComesIn K) AnyNumber cs → CasesAreBuilt cs
    cases_built kernel.no_case h g = tt
    cases_built (kernel.more_cases (kernel.case guard i ss) cs) h g = (statements_built ss h.0 g.0.1.1, cases_built cs h.1 g.1)

    default_built : (d : kernel.Default) → DefaultHasEarlyCode d → EachDefault AnyExpression AnyPlace AnyNumber (GoesOut K) (ComesIn K) AnyNumber d → DefaultIsBuilt d
    default_built kernel.no_default h g = tt
    default_built (kernel.default ss) h g = statements_built ss h g

    branches_built : (bs : kernel.Branches) → HaveEarlyCode bs → EachBranch AnyExpression AnyPlace AnyNumber (GoesOut K) (ComesIn K) AnyNumber bs → BranchesAreBuilt bs
    branches_built kernel.no_branch h g = tt
    branches_built (kernel.more_branches (kernel.branch ss pos) bs) h g = (statements_built ss h.0 g.0, branches_built bs h.1 g.1)

  roots_built : (rs : List kernel.Root) → AllOf IsEarlyRoot rs → EachRoot AnyExpression AnyPlace AnyNumber (GoesOut K) (ComesIn K) AnyNumber rs → RootsAreBuilt rs
  roots_built [] h g = tt
  roots_built (r ∷ rs) h g = (statements_built r.body h.0 g.0, roots_built rs h.1 g.1)

pub kernels_are_built : KernelsAreBuilt
kernels_are_built toks P n types K derived deep today typed copies =
    let early = program_early toks today unlimited 0 (length toks) P derived in
    let fs = functions_early P early in
    let roots : AllOf IsEarlyRoot K.roots = subst (λ (k : kernel.Kernel). AllOf IsEarlyRoot k.roots) (sym copies.is_copy) (copy_roots P fs) in
    record { roots = roots_built K K.roots roots (transfers_right P n types K typed deep copies) }
