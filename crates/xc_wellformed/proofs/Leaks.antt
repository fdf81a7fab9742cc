-- The names behind a statement without declarations are those before it, and words that it inputs.
use Rattle.std.proofs.Common.{◌≡◌, ℕ, zero, suc, ◌+◌, ◌-◌, Bool, true, false, ◌||◌, List, ◌⊎◌, inl, inr, Option, Some, None, nat_eq, bytes_eq, refl, sym, ap, subst, ◌∙◌, true≢false, arith}
use Rattle.std.proofs.lemmas.Bool.Decides.{nat_tests}
use Rattle.xw_words.specs.declared.pos.Pos.{Pos}
use Rattle.xc_tree.specs.Plain as tree
use Rattle.xc_tree.specs.Symbols.{equals}
use Rattle.xc_kernel.specs.Plain as kernel
use Rattle.xc_kernel.specs.Paths.{path_at, path_of_turn}
use Rattle.xc_kernel.specs.Numbering.{Numbering, variable_number, block_number}
use Rattle.xc_kernel.specs.Programs.{Function}
use Rattle.xc_kernel.specs.Scopes.{Scope, Entity, a_word, entity_by, entity_of}
use Rattle.xc_kernel.specs.Things.{change, by_statements, by_branches, by_resource, by_some_expression, by_condition, by_expression, by_input}
use Rattle.xc_kernel.specs.Copy.{Copy}
use Rattle.xc_kernel.specs.Context.{Context, in_branch, in_loop, expression}
use Rattle.xc_kernel.specs.Calls.{CopiesCall, called, call_by, right_copy}
use Rattle.xc_kernel.specs.Transfers.{input_of}
use Rattle.xc_kernel.specs.Flow.{Branched, leave_unless, numbered_copy, replicated}
use Rattle.xc_kernel.specs.Statements.{pos_of_branch, assign_by, return_copy, statement_copy, action_copy, maybe_copy, branch_copy, branches_copy, calls_copy}
use Rattle.xc_wellformed.proofs.Strays.{Stays, ActionStays, MaybeStays, BranchesStay}

-- what statements change, where they change a word
abbrev pub Changed : Numbering → kernel.Statements → Entity → Type 0
Changed n ss (a_word path u) = by_statements (change (variable_number n path)) ss ≡ true
Changed n ss other = ⊥

abbrev ChangedIn : Numbering → kernel.Branches → Entity → Type 0
ChangedIn n bs (a_word path u) = by_branches (change (variable_number n path)) bs ≡ true
ChangedIn n bs other = ⊥

left : (a b : Bool) → a ≡ true → (a || b) ≡ true
left true b e = refl
left false b e = absurd (true≢false (sym e))

right : (a b : Bool) → b ≡ true → (a || b) ≡ true
right true b e = refl
right false b e = e

itself : (a : ℕ) → nat_eq a a ≡ true
itself a = by (nat_eq a a) refl
  where
    by : (b : Bool) → nat_eq a a ≡ b → b ≡ true
    by true e = refl
    by false e = grind (arith, nat_tests)

-- more is changed by more: by an `if`, by loops, and by a `par`
if_first : (n : Numbering) (test : kernel.Expression) (a b : kernel.Statements) (x : Entity) → Changed n a x → Changed n (kernel.more (kernel.if_then test a b) kernel.no_more) x
if_first n test a b (a_word path u) h =
    let th = change (variable_number n path) in
    left (by_expression th test || (by_statements th a || by_statements th b)) false (right (by_expression th test) (by_statements th a || by_statements th b) (left (by_statements th a) (by_statements th b) h))
if_first n test a b other h = absurd h

if_second : (n : Numbering) (test : kernel.Expression) (a b : kernel.Statements) (x : Entity) → Changed n b x → Changed n (kernel.more (kernel.if_then test a b) kernel.no_more) x
if_second n test a b (a_word path u) h =
    let th = change (variable_number n path) in
    left (by_expression th test || (by_statements th a || by_statements th b)) false (right (by_expression th test) (by_statements th a || by_statements th b) (right (by_statements th a) (by_statements th b) h))
if_second n test a b other h = absurd h

-- a loop in its block, whose body is a block
abbrev a_loop : (outer inner : ℕ) → kernel.Expression → (body rest : kernel.Statements) → kernel.Statements
a_loop outer inner test body rest = kernel.more (kernel.block outer (kernel.more (kernel.loop test (kernel.more (kernel.block inner body) rest) kernel.no_more) kernel.no_more)) kernel.no_more

in_a_loop : (n : Numbering) (outer inner : ℕ) (test : kernel.Expression) (body rest : kernel.Statements) (x : Entity) → Changed n body x → Changed n (a_loop outer inner test body rest) x
in_a_loop n outer inner test body rest (a_word path u) h =
    let th = change (variable_number n path) in
    let turn = by_statements th body || by_statements th rest in
    left ((by_expression th test || (turn || false)) || false) false
    (left (by_expression th test || (turn || false)) false (right (by_expression th test) (turn || false) (left turn false (left (by_statements th body) (by_statements th rest) h))))
in_a_loop n outer inner test body rest other h = absurd h

in_a_par : (n : Numbering) (bs : kernel.Branches) (x : Entity) → ChangedIn n bs x → Changed n (kernel.more (kernel.par bs) kernel.no_more) x
in_a_par n bs (a_word path u) h = left (by_branches (change (variable_number n path)) bs) false h
in_a_par n bs other h = absurd h

first_branch : (n : Numbering) (a : kernel.Statements) (pos : Pos) (bs : kernel.Branches) (x : Entity) → Changed n a x → ChangedIn n (kernel.more_branches (kernel.branch a pos) bs) x
first_branch n a pos bs (a_word path u) h = left (by_statements (change (variable_number n path)) a) (by_branches (change (variable_number n path)) bs) h
first_branch n a pos bs other h = absurd h

later_branch : (n : Numbering) (a : kernel.Statements) (pos : Pos) (bs : kernel.Branches) (x : Entity) → ChangedIn n bs x → ChangedIn n (kernel.more_branches (kernel.branch a pos) bs) x
later_branch n a pos bs (a_word path u) h = right (by_statements (change (variable_number n path)) a) (by_branches (change (variable_number n path)) bs) h
later_branch n a pos bs other h = absurd h

-- a name behind a copy
abbrev pub Leaks : Numbering → Scope → Copy → List ℕ → Type 0
Leaks n scope copy t = (entity_of copy.scope t ≡ entity_of scope t) ⊎ Changed n (kernel.statements copy.code) (entity_of copy.scope t)

abbrev LeaksIn : Numbering → Scope → Branched → List ℕ → Type 0
LeaksIn n scope b t = (entity_of b.made.scope t ≡ entity_of scope t) ⊎ ChangedIn n b.branches (entity_of b.made.scope t)

-- calls keep the names
abbrev pub CallsKeep : CopiesCall → Type 0
CallsKeep copies = (c : Context) (scope : Scope) (f : Function) (pos : Pos) (args : List tree.Argument) → (copies c scope f pos args).scope ≡ scope

pub calls_keep : (depth : ℕ) → CallsKeep (calls_copy depth)
calls_keep zero c scope f pos args = refl
calls_keep (suc depth) c scope f pos args = refl

module _ (copies : CopiesCall) (keep : CallsKeep copies) where
  right_keeps : (c : Context) (scope : Scope) (r : tree.RightSide) → (right_copy copies c scope r).scope ≡ scope
  right_keeps c scope (tree.value e) = refl
  right_keeps c scope (tree.result call) = by (called c call)
    where
      by : (o : Option Function) → (call_by copies c scope call.called.pos call.arguments o).scope ≡ scope
      by None = refl
      by (Some f) = keep c scope f call.called.pos call.arguments

  assign_keeps : (c : Context) (scope : Scope) (to : tree.Expression) (symbol : ℕ) (pos : Pos) (r : tree.RightSide) (b : Bool) → (assign_by copies c scope to symbol pos r b).scope ≡ scope
  assign_keeps c scope to symbol pos r true = refl
  assign_keeps c scope to symbol pos r false = refl

  return_keeps : (c : Context) (scope : Scope) (r : Option tree.RightSide) → (return_copy copies c scope r).scope ≡ scope
  return_keeps c scope None = refl
  return_keeps c scope (Some r) = refl

  replicated_keeps : (copy : ℕ → ℕ → Copy) (pos : Pos) (scope : Scope) (count index number : ℕ) → (replicated copy pos scope count index number).made.scope ≡ scope
  replicated_keeps copy pos scope zero index number = refl
  replicated_keeps copy pos scope (suc count) index number = replicated_keeps copy pos scope count (index + 1) (number + 1)

  same : (scope other : Scope) (t : List ℕ) → other ≡ scope → entity_of other t ≡ entity_of scope t
  same scope other t e = ap (λ (s : Scope). entity_of s t) e

  input_leaks : (c : Context) (scope : Scope) (i : tree.Input) (target : tree.Target) → i.target ≡ target → (pos close : Pos) (t : List ℕ) → Leaks c.numbering scope (action_copy copies (tree.input (record i { target = target })) pos close c scope) t
  input_leaks c scope i (tree.to e) q pos close t = inl refl
  input_leaks c scope i tree.dropped q pos close t = inl refl
  input_leaks c scope i (tree.fresh u name) q pos close t = by (bytes_eq name.text t)
    where
      j : tree.Input
      j = record i { target = tree.fresh u name }

      number : ℕ
      number = variable_number c.numbering (path_at c.path name.pos)

      changes : by_input (change number) (input_of c scope j) ≡ true
      changes =
          right (by_resource (change number) (input_of c scope j).resource) _
          (right (by_some_expression (change number) (input_of c scope j).time) _
          (right (by_condition (change number) (input_of c scope j).condition) _ (left (nat_eq number number) _ (itself number))))

      by : (b : Bool) → (entity_by b (a_word (path_at c.path name.pos) u) (entity_of scope t) ≡ entity_of scope t) ⊎ Changed c.numbering (kernel.more (kernel.input (input_of c scope j)) kernel.no_more) (entity_by b (a_word (path_at c.path name.pos) u) (entity_of scope t))
      by true = inr (left _ false changes)
      by false = inl refl

  mutual
    pub statement_leaks : (s : tree.Statement) → Stays s → (c : Context) (scope : Scope) (t : List ℕ) → Leaks c.numbering scope (statement_copy copies s c scope) t
    statement_leaks (tree.statement a pos close own) h c scope t = action_leaks a h pos close c scope t

    action_leaks : (a : tree.Action) → ActionStays a → (pos close : Pos) (c : Context) (scope : Scope) (t : List ℕ) → Leaks c.numbering scope (action_copy copies a pos close c scope) t
    action_leaks tree.empty h pos close c scope t = inl refl
    action_leaks (tree.block ss) h pos close c scope t = inl refl
    action_leaks (tree.declare ds) h pos close c scope t = absurd h
    action_leaks (tree.assign to symbol at r) h pos close c scope t = inl (same scope (assign_by copies c scope to symbol at r (nat_eq symbol equals)).scope t (assign_keeps c scope to symbol at r (nat_eq symbol equals)))
    action_leaks (tree.step to symbol) h pos close c scope t = inl refl
    action_leaks (tree.perform r) h pos close c scope t = inl (same scope (right_copy copies c scope r).scope t (right_keeps c scope r))
    action_leaks (tree.output o) h pos close c scope t = inl refl
    action_leaks (tree.input i) h pos close c scope t = input_leaks c scope i i.target refl pos close t
    action_leaks (tree.if_then test a b) h pos close c scope t =
        let ca = statement_copy copies a c scope in
        let cb = maybe_copy copies b c ca.scope in
        by ca cb (statement_leaks a h.0 c scope t) (maybe_leaks b h.1 c ca.scope t)
      where
        by : (ca cb : Copy) → Leaks c.numbering scope ca t → Leaks c.numbering ca.scope cb t → (entity_of cb.scope t ≡ entity_of scope t) ⊎ Changed c.numbering (kernel.more (kernel.if_then (expression c scope test) (kernel.statements ca.code) (kernel.statements cb.code)) kernel.no_more) (entity_of cb.scope t)
        by ca cb (inl e) (inl f) = inl (f ∙ e)
        by ca cb (inr e) (inl f) = inr (if_first c.numbering (expression c scope test) (kernel.statements ca.code) (kernel.statements cb.code) (entity_of cb.scope t) (subst (Changed c.numbering (kernel.statements ca.code)) (sym f) e))
        by ca cb g (inr f) = inr (if_second c.numbering (expression c scope test) (kernel.statements ca.code) (kernel.statements cb.code) (entity_of cb.scope t) f)
    action_leaks (tree.while_loop test a) h pos close c scope t = by (statement_leaks a h (in_loop c pos) scope t)
      where
        by : Leaks c.numbering scope (statement_copy copies a (in_loop c pos) scope) t → Leaks c.numbering scope (action_copy copies (tree.while_loop test a) pos close c scope) t
        by (inl e) = inl e
        by (inr e) = inr (in_a_loop c.numbering (block_number c.numbering (path_at c.path pos)) (block_number c.numbering (path_of_turn (path_at c.path pos))) (expression c scope test) (kernel.statements (statement_copy copies a (in_loop c pos) scope).code) kernel.no_more (entity_of (statement_copy copies a (in_loop c pos) scope).scope t) e)
    action_leaks (tree.do_while a test) h pos close c scope t = by (statement_leaks a h (in_loop c pos) scope t)
      where
        by : Leaks c.numbering scope (statement_copy copies a (in_loop c pos) scope) t → Leaks c.numbering scope (action_copy copies (tree.do_while a test) pos close c scope) t
        by (inl e) = inl e
        by (inr e) = inr (in_a_loop c.numbering (block_number c.numbering (path_at c.path pos)) (block_number c.numbering (path_of_turn (path_at c.path pos))) (kernel.number 1) (kernel.statements (statement_copy copies a (in_loop c pos) scope).code)
            (kernel.more (leave_unless c (path_at c.path pos) (expression c (statement_copy copies a (in_loop c pos) scope).scope test)) kernel.no_more) (entity_of (statement_copy copies a (in_loop c pos) scope).scope t) e)
    action_leaks (tree.for_loop first test next a) h pos close c scope t = inl refl
    action_leaks (tree.return_with r) h pos close c scope t = inl (same scope (return_copy copies c scope r).scope t (return_keeps c scope r))
    action_leaks tree.break_out h pos close c scope t = inl refl
    action_leaks tree.continue_on h pos close c scope t = inl refl
    action_leaks (tree.par bs) h pos close c scope t = by (branches_leak bs h 0 c scope t)
      where
        by : LeaksIn c.numbering scope (branches_copy copies bs 0 c scope) t → Leaks c.numbering scope (action_copy copies (tree.par bs) pos close c scope) t
        by (inl e) = inl e
        by (inr e) = inr (in_a_par c.numbering (branches_copy copies bs 0 c scope).branches (entity_of (branches_copy copies bs 0 c scope).made.scope t) e)
    action_leaks (tree.replicated x y z from until b) h pos close c scope t =
        let copy = numbered_copy (branch_copy copies b) c scope x.text in
        inl (same scope (replicated copy (pos_of_branch b) scope (until - from) 0 from).made.scope t (replicated_keeps copy (pos_of_branch b) scope (until - from) 0 from))
    action_leaks (tree.select cs) h pos close c scope t = inl refl
    action_leaks (tree.transaction is_master ss) h pos close c scope t = inl refl

    maybe_leaks : (s : tree.Maybe) → MaybeStays s → (c : Context) (scope : Scope) (t : List ℕ) → Leaks c.numbering scope (maybe_copy copies s c scope) t
    maybe_leaks tree.absent h c scope t = inl refl
    maybe_leaks (tree.present s) h c scope t = statement_leaks s h c scope t

    branches_leak : (bs : tree.Branches) → BranchesStay bs → (index : ℕ) (c : Context) (scope : Scope) (t : List ℕ) → LeaksIn c.numbering scope (branches_copy copies bs index c scope) t
    branches_leak tree.no_branch h index c scope t = inl refl
    branches_leak (tree.more_branches (tree.branch place s) bs) h index c scope t =
        let ca = statement_copy copies s (in_branch c index) scope in
        by ca (branches_copy copies bs (index + 1) c ca.scope) (statement_leaks s h.0 (in_branch c index) scope t) (branches_leak bs h.1 (index + 1) c ca.scope t)
      where
        by : (ca : Copy) (cb : Branched) → Leaks c.numbering scope ca t → LeaksIn c.numbering ca.scope cb t → (entity_of cb.made.scope t ≡ entity_of scope t) ⊎ ChangedIn c.numbering (kernel.more_branches (kernel.branch (kernel.statements ca.code) (pos_of_branch (tree.branch place s))) cb.branches) (entity_of cb.made.scope t)
        by ca cb (inl e) (inl f) = inl (f ∙ e)
        by ca cb (inr e) (inl f) = inr (first_branch c.numbering (kernel.statements ca.code) (pos_of_branch (tree.branch place s)) cb.branches (entity_of cb.made.scope t) (subst (Changed c.numbering (kernel.statements ca.code)) (sym f) e))
        by ca cb g (inr f) = inr (later_branch c.numbering (kernel.statements ca.code) (pos_of_branch (tree.branch place s)) cb.branches (entity_of cb.made.scope t) f)
