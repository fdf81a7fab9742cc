-- How many parts the roots of a kernel have, where each has a core, and no core has more words than it may.
use Rattle.std.proofs.Common.{◌≡◌, ◌∙◌, ℕ, zero, suc, ◌+◌, ◌-◌, ◌*◌, ◌≤◌, inl, inr, Bool, true, false, List, [], ◌∷◌, ◌++◌, length, Option, Some, None, nat_le, Contains, slice_get, refl, sym, ap, subst, arith}
use Rattle.std.proofs.Math.Nat.{suc-mul}
use Rattle.std.proofs.lemmas.Bool.{cases_lt, leb-true}
use Rattle.xw_words.specs.declared.pos.Pos.{Pos}
use Rattle.xc_tree.specs.Plain as tree
use Rattle.xc_kernel.specs.declared.kernel.Var.{Var}
use Rattle.xc_kernel.specs.Plain as kernel
use Rattle.xc_kernel.specs.Numbering.{Numbering, no_numbering, path_of_variable, variable_number}
use Rattle.xc_kernel.specs.Values.{Value, word, error}
use Rattle.xc_kernel.specs.Scopes.{Scope, a_constant, with_name}
use Rattle.xc_kernel.specs.Programs.{Function, functions, main_of, count_of_call}
use Rattle.xc_kernel.specs.Counts as counts
use Rattle.xc_kernel.specs.Nodes as nodes
use Rattle.xc_kernel.specs.Size.{most_statements, most_nodes, IsTooLarge}
use Rattle.xc_kernel.specs.Context.{Context, in_branch}
use Rattle.xc_kernel.specs.Calls.{CopiesCall, function_copy}
use Rattle.xc_kernel.specs.Statements.{statement_copy, branch_copy}
use Rattle.xc_kernel.specs.Ports.{core_by, core_of_value, core_of}
use Rattle.xc_kernel.specs.Expressions.{eval_in}
use Rattle.xc_kernel.specs.Roots.{Rooted, and_roots, branch_root, branch_roots, root_in_scope_of, numbered_roots, action_roots, block_roots, in_block, roots_by, roots_of, block_has_placed, context_of}
use Rattle.xc_kernel.specs.Copies.{calls_of, rooted, numbering, copy_of}
use Rattle.xc_kernel.specs.Sound.{IsOfText}
use Rattle.xc_disjoint.specs.Cores.{last_core, no_core}
use Rattle.xc_disjoint.specs.Needs as needs
use Rattle.xc_disjoint.specs.Rules as rules
use Rattle.xc_disjoint.specs.Rules.{most_words}
use Rattle.xc_wellformed.specs.Parts as parts
use Rattle.xc_wellformed.specs.Parts.{PartsAreFew, words_of}
use Rattle.xc_wellformed.specs.Denotes.{AnyPath, HasVariable}
use Rattle.xc_wellformed.proofs.Walk.Arguments.{AllIn, split}
use Rattle.xc_wellformed.proofs.Instances.{all_also, program_variables}
use Rattle.xc_wellformed.specs.Laws.{PartsFew}
use Rattle.xc_wellformed.proofs.Cores.{each_contained}
use Rattle.xc_wellformed.proofs.Merged.{none_twice, none_merged}
use Rattle.xc_wellformed.proofs.Few.{words_on, words_joined, AllListed, CallsFew, branch_few, function_few, unhanded_few, calls_few}

-- the words on all cores
abbrev on_all : List Var → ℕ
on_all xs = words_on 0 xs + words_on 1 xs + words_on 2 xs + words_on 3 xs

some_core : (core : ℕ) (xs : List Var) → core ≤ 3 → words_on core xs ≤ on_all xs
some_core zero xs l = omega arith
some_core (suc zero) xs l = omega arith
some_core (suc (suc zero)) xs l = omega arith
some_core (suc (suc (suc zero))) xs l = omega arith
some_core (suc (suc (suc (suc core)))) xs l = omega arith

all_joined : (a b : List Var) → on_all (a ++ b) ≡ on_all a + on_all b
all_joined a b =
    let x = words_joined 0 a b in
    let y = words_joined 1 a b in
    let z = words_joined 2 a b in
    let w = words_joined 3 a b in
    omega (arith, x, y, z, w)

-- a root has a core
abbrev HasCore : kernel.Root → Type 0
HasCore r = r.core ≡ no_core → ⊥

core_is : (scope : Scope) (place : Option tree.Place) → (core_of scope place ≡ no_core → ⊥) → core_of scope place ≤ 3
core_is scope None h = omega arith
core_is scope (Some p) h = by (eval_in no_numbering scope [] p.value) h
  where
    below : (v : ℕ) (b : Bool) → (b ≡ true → v ≤ 3) → (core_by v b ≡ no_core → ⊥) → core_by v b ≤ 3
    below v true l h = l refl
    below v false l h = absurd (h refl)

    by : (v : Value) → (core_of_value v ≡ no_core → ⊥) → core_of_value v ≤ 3
    by (word v) h = below v (nat_le v 3) (leb-true v 3) h
    by (error kind pos) h = absurd (h refl)

module _ (vs : List Var) where
  roots_joined : (xs ys : List kernel.Root) → parts.of_roots vs (xs ++ ys) ≡ parts.of_roots vs xs + parts.of_roots vs ys
  roots_joined [] ys = omega arith
  roots_joined (x ∷ xs) ys = let h = roots_joined xs ys in omega (arith, h)

  -- roots have few parts, for so many nodes and statements
  abbrev RootsFew : Rooted → (n s : ℕ) → Type 0
  RootsFew r n s = 3 * parts.of_roots vs r.roots ≤ 10 * n + 10 * s + 3 * on_all r.made.variables

  roots_few_joined : (a b : Rooted) (n m s t : ℕ) → RootsFew a n s → RootsFew b m t → RootsFew (and_roots a b) (n + m) (s + t)
  roots_few_joined a b n m s t h g =
      let r = roots_joined a.roots b.roots in
      let w = all_joined a.made.variables b.made.variables in
      omega (arith, h, g, r, w)

  module _ (fs : List Function) (copies : CopiesCall) (N S : tree.Call → ℕ) (calls : CallsFew vs fs copies N S) where
    abbrev ListedIn : Numbering → Rooted → Type 0
    ListedIn num r = AllListed vs num r.made

    abbrev Cored : Rooted → Type 0
    Cored r = AllIn HasCore r.roots

    root_few : (main : Pos) (b : tree.Branch) (c : Context) (scope : Scope) → c.functions ≡ fs → ListedIn c.numbering (branch_root copies main b c scope) → Cored (branch_root copies main b c scope)
        → RootsFew (branch_root copies main b c scope) (nodes.of_branch N b) (counts.of_branch S b)
    root_few main (tree.branch place s) c scope k m l =
        let here = core_of scope place in
        let h = branch_few vs fs copies N S calls (tree.branch place s) (record c { core = here }) scope k m in
        let w = some_core here (branch_copy copies (tree.branch place s) (record c { core = here }) scope).variables (core_is scope place l.0) in
        omega (arith, h, w)

    roots_few : (main : Pos) (bs : tree.Branches) (index : ℕ) (c : Context) (scope : Scope) → c.functions ≡ fs → ListedIn c.numbering (branch_roots copies main bs index c scope) → Cored (branch_roots copies main bs index c scope)
        → RootsFew (branch_roots copies main bs index c scope) (nodes.of_branches N bs) (counts.of_branches S bs)
    roots_few main tree.no_branch index c scope k m l = omega arith
    roots_few main (tree.more_branches b bs) index c scope k m l =
        let first = branch_root copies main b (in_branch c index) scope in
        let others = branch_roots copies main bs (index + 1) c first.made.scope in
        let m2 = split (λ (v : Var). words_of (slice_get vs (variable_number c.numbering v.path)) ≡ v.words) first.made.variables others.made.variables m in
        let l2 = split HasCore first.roots others.roots l in
        roots_few_joined first others (nodes.of_branch N b) (nodes.of_branches N bs) (counts.of_branch S b) (counts.of_branches S bs)
        (root_few main b (in_branch c index) scope k m2.0 l2.0) (roots_few main bs (index + 1) c first.made.scope k m2.1 l2.1)

    numbered_few : (main : Pos) (b : tree.Branch) (name : List ℕ) (c : Context) (scope : Scope) → c.functions ≡ fs
        → (count index number : ℕ) → ListedIn c.numbering (numbered_roots copies main b name c scope count index number) → Cored (numbered_roots copies main b name c scope count index number)
        → RootsFew (numbered_roots copies main b name c scope count index number) (count * nodes.of_branch N b) (count * counts.of_branch S b)
    numbered_few main b name c scope k zero index number m l = omega arith
    numbered_few main b name c scope k (suc count) index number m l =
        let first = root_in_scope_of copies scope (branch_root copies main b (in_branch c index) (with_name scope name (a_constant number))) in
        let others = numbered_roots copies main b name c scope count (index + 1) (number + 1) in
        let m2 = split (λ (v : Var). words_of (slice_get vs (variable_number c.numbering v.path)) ≡ v.words) first.made.variables others.made.variables m in
        let l2 = split HasCore first.roots others.roots l in
        let j = roots_few_joined first others (nodes.of_branch N b) (count * nodes.of_branch N b) (counts.of_branch S b) (count * counts.of_branch S b)
        (root_few main b (in_branch c index) (with_name scope name (a_constant number)) k m2.0 l2.0) (numbered_few main b name c scope k count (index + 1) (number + 1) m2.1 l2.1) in
        let n = suc-mul count (nodes.of_branch N b) in
        let s = suc-mul count (counts.of_branch S b) in
        omega (arith, j, n, s)

    action_roots_few : (main : Pos) (a : tree.Action) (c : Context) (scope : Scope) → c.functions ≡ fs → ListedIn c.numbering (action_roots copies main a c scope) → Cored (action_roots copies main a c scope)
        → RootsFew (action_roots copies main a c scope) (nodes.of_action N a) (counts.of_action S a)
    action_roots_few main (tree.par bs) c scope k m l = let h = roots_few main bs 0 c scope k m l in omega (arith, h)
    action_roots_few main (tree.replicated first second third from until b) c scope k m l =
        let h = numbered_few main b first.text c scope k (until - from) 0 from m l in omega (arith, h)
    action_roots_few main tree.empty c scope k m l = omega arith
    action_roots_few main (tree.block ss) c scope k m l = omega arith
    action_roots_few main (tree.declare ds) c scope k m l = omega arith
    action_roots_few main (tree.assign to symbol at r) c scope k m l = omega arith
    action_roots_few main (tree.step to symbol) c scope k m l = omega arith
    action_roots_few main (tree.perform r) c scope k m l = omega arith
    action_roots_few main (tree.output o) c scope k m l = omega arith
    action_roots_few main (tree.input i) c scope k m l = omega arith
    action_roots_few main (tree.if_then test a b) c scope k m l = omega arith
    action_roots_few main (tree.while_loop test body) c scope k m l = omega arith
    action_roots_few main (tree.do_while body test) c scope k m l = omega arith
    action_roots_few main (tree.for_loop first test next body) c scope k m l = omega arith
    action_roots_few main (tree.return_with r) c scope k m l = omega arith
    action_roots_few main tree.break_out c scope k m l = omega arith
    action_roots_few main tree.continue_on c scope k m l = omega arith
    action_roots_few main (tree.select cs) c scope k m l = omega arith
    action_roots_few main (tree.transaction is_master ss) c scope k m l = omega arith

    block_roots_few : (main : Pos) (ss : tree.Statements) (c : Context) (scope : Scope) → c.functions ≡ fs → ListedIn c.numbering (block_roots copies main ss c scope) → Cored (block_roots copies main ss c scope)
        → RootsFew (block_roots copies main ss c scope) (nodes.of_statements N ss) (counts.of_statements S ss)
    block_roots_few main tree.no_more c scope k m l = omega arith
    block_roots_few main (tree.more (tree.statement action pos close own) ss) c scope k m l =
        let first = action_roots copies main action c scope in
        let others = block_roots copies main ss c first.made.scope in
        let m2 = split (λ (v : Var). words_of (slice_get vs (variable_number c.numbering v.path)) ≡ v.words) first.made.variables others.made.variables m in
        let l2 = split HasCore first.roots others.roots l in
        roots_few_joined first others (nodes.of_action N action) (nodes.of_statements N ss) (counts.of_action S action) (counts.of_statements S ss)
        (action_roots_few main action c scope k m2.0 l2.0) (block_roots_few main ss c first.made.scope k m2.1 l2.1)

    -- those of main's block
    body_roots_few : (main : Pos) (s : tree.Statement) (c : Context) (scope : Scope) → c.functions ≡ fs → ListedIn c.numbering (block_roots copies main (in_block s) c scope) → Cored (block_roots copies main (in_block s) c scope)
        → RootsFew (block_roots copies main (in_block s) c scope) (nodes.of_statement N s) (counts.of_statement S s)
    body_roots_few main (tree.statement (tree.block ss) pos close own) c scope k m l = block_roots_few main ss c scope k m l
    body_roots_few main (tree.statement tree.empty pos close own) c scope k m l = omega arith
    body_roots_few main (tree.statement (tree.declare ds) pos close own) c scope k m l = omega arith
    body_roots_few main (tree.statement (tree.assign to symbol at r) pos close own) c scope k m l = omega arith
    body_roots_few main (tree.statement (tree.step to symbol) pos close own) c scope k m l = omega arith
    body_roots_few main (tree.statement (tree.perform r) pos close own) c scope k m l = omega arith
    body_roots_few main (tree.statement (tree.output o) pos close own) c scope k m l = omega arith
    body_roots_few main (tree.statement (tree.input i) pos close own) c scope k m l = omega arith
    body_roots_few main (tree.statement (tree.if_then test a b) pos close own) c scope k m l = omega arith
    body_roots_few main (tree.statement (tree.while_loop test body) pos close own) c scope k m l = omega arith
    body_roots_few main (tree.statement (tree.do_while body test) pos close own) c scope k m l = omega arith
    body_roots_few main (tree.statement (tree.for_loop first test next body) pos close own) c scope k m l = omega arith
    body_roots_few main (tree.statement (tree.return_with r) pos close own) c scope k m l = omega arith
    body_roots_few main (tree.statement tree.break_out pos close own) c scope k m l = omega arith
    body_roots_few main (tree.statement tree.continue_on pos close own) c scope k m l = omega arith
    body_roots_few main (tree.statement (tree.par bs) pos close own) c scope k m l = omega arith
    body_roots_few main (tree.statement (tree.replicated first second third from until b) pos close own) c scope k m l = omega arith
    body_roots_few main (tree.statement (tree.select cs) pos close own) c scope k m l = omega arith
    body_roots_few main (tree.statement (tree.transaction is_master ss) pos close own) c scope k m l = omega arith

    by_roots_few : (placed : Bool) (f : Function) (c : Context) → c.functions ≡ fs → c.core ≤ 3 → ListedIn c.numbering (roots_by copies placed f c) → Cored (roots_by copies placed f c)
        → RootsFew (roots_by copies placed f c) (nodes.of_statement N f.body) (counts.of_statement S f.body + 2)
    by_roots_few true f c k core m l = let h = body_roots_few f.head.name.pos f.body c c.ports k m l in omega (arith, h)
    by_roots_few false f c k core m l =
        let p = unhanded_few vs c c.ports [] f.head.params in
        let h = function_few vs fs copies N S calls c c.ports [] f [] 0 (let q = p in omega (arith, q)) k m in
        let w = some_core c.core (function_copy (statement_copy copies) c c.ports [] f []).variables core in
        omega (arith, h, w)

    -- the roots of a program
    all_roots_few : (f : Option Function) (c : Context) → c.functions ≡ fs → c.core ≤ 3 → ListedIn c.numbering (roots_of copies f c) → Cored (roots_of copies f c)
        → RootsFew (roots_of copies f c) (nodes.of_function N f) (counts.of_body S f + 2)
    all_roots_few None c k core m l = omega arith
    all_roots_few (Some f) c k core m l = by_roots_few (block_has_placed (in_block f.body)) f c k core m l

-- the words of the variables on a core are few
abbrev WordsFew : kernel.Kernel → Type 0
WordsFew k = (core : ℕ) → core ≤ last_core → words_on core k.variables ≤ most_words

module _ (P : List tree.Item) (text : IsOfText P) (small : IsTooLarge P → ⊥) where
  abbrev num : Numbering
  num = numbering P

  all_listed : AllListed num.variables num (rooted P num).made
  all_listed = all_also path_of_variable (λ (v : Var). HasVariable num AnyPath v.path v.array v.words) (λ (v : Var). words_of (slice_get num.variables (variable_number num v.path)) ≡ v.words) (rooted P num).made.variables
      (λ v h. ap words_of h.there ∙ h.long) (program_variables P (λ k. AnyPath) (λ k. AnyPath) (λ v e. tt) (none_twice P num text))

  few_statements : counts.statements_of P ≤ most_statements
  few_statements = elim (cases_lt most_statements (counts.statements_of P)) [
    | inl h ↦ absurd (small (inl h))
    | inr h ↦ h
  ]

  few_nodes : nodes.nodes_of P ≤ most_nodes
  few_nodes = elim (cases_lt most_nodes (nodes.nodes_of P)) [
    | inl h ↦ absurd (small (inr (inl h)))
    | inr h ↦ h
  ]

  parts_few : WordsFew (copy_of P) → AllIn HasCore (copy_of P).roots → PartsAreFew (copy_of P)
  unfolding copy_of counts.statements_of nodes.nodes_of
  parts_few words cored =
      let fs = functions P in
      let h = all_roots_few num.variables fs (calls_of P) (count_of_call nodes.of_function fs) (count_of_call counts.of_function fs) (calls_few num.variables fs (length fs)) (main_of P) (context_of P num) refl (omega arith) all_listed cored in
      let e = ap on_all (none_merged P text).variables in
      let a = words 0 (omega arith) in
      let b = words 1 (omega arith) in
      let c = words 2 (omega arith) in
      let d = words 3 (omega arith) in
      let s = few_statements in
      let n = few_nodes in
      omega (arith, h, e, a, b, c, d, s, n)

-- so of a kernel that breaks no rule
pub parts_are_few : PartsFew
parts_are_few K h =
    let o = h.of_program in
    let roots = all_also (λ (r : kernel.Root). []) (Contains K.roots) HasCore K.roots (λ r c e. h.unbroken _ (rules.without_core (rules.of_root r c e))) (each_contained K.roots K.roots (λ r c. c)) in
    subst PartsAreFew (sym o.copies.is_copy)
    (parts_few o.program o.sound.typed.text o.sound.small (subst WordsFew o.copies.is_copy words) (subst (λ (k : kernel.Kernel). AllIn HasCore k.roots) o.copies.is_copy roots))
  where
    words : WordsFew K
    words core l = elim (cases_lt most_words (needs.words_on K core)) [
      | inl m ↦ absurd (h.unbroken _ (rules.needs (rules.words (record { core = core; is_core = l; more = m }))))
      | inr m ↦ omega (arith, m)
    ]
