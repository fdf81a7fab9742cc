-- In the copy of a program whose places differ no two instances have one path.
use Rattle.std.proofs.Common.{◌≡◌, inl, inr, ℕ, zero, suc, ◌<◌, ◌+◌, ◌-◌, Bool, true, false, List, [], ◌∷◌, ◌++◌, length, Option, Some, None, bytes_eq, nat_eq, refl, sym, ap, subst}
use Rattle.xw_words.specs.declared.pos.Pos.{Pos}
use Rattle.xc_tree.specs.declared.tree.Param.{Param}
use Rattle.xc_tree.specs.declared.tree.ParamKind.{ParamKind}
use Rattle.xc_tree.specs.declared.tree.ParamKind.TheVariants as param
use Rattle.xc_tree.specs.Plain as tree
use Rattle.xc_tree.specs.Symbols.{equals}
use Rattle.xc_kernel.specs.declared.kernel.Var.{Var}
use Rattle.xc_kernel.specs.Plain as kernel
use Rattle.xc_kernel.specs.Paths.{Path, path_at, path_of_turn, path_of_branch}
use Rattle.xc_kernel.specs.Numbering.{Numbering, path_of_variable, path_of_channel, path_of_timer, path_of_block}
use Rattle.xc_kernel.specs.Scopes.{Scope, Entity, a_word, an_array, a_constant, entity_of, with_name}
use Rattle.xc_kernel.specs.Programs.{Function, functions, function_by, function_named, main_of}
use Rattle.xc_kernel.specs.Copy.{Copy, no_copy, one_statement, joined, in_scope_of, with_code, with_block, with_variable, code_of}
use Rattle.xc_kernel.specs.Context.{Context, in_branch, in_loop, in_case, in_function, declares_word, array_variable, word_variable, maybe_expression}
use Rattle.xc_kernel.specs.Parameters.{Passed, passed, all_passed, by_element, form_by_reference, by_reference, by_name}
use Rattle.xc_kernel.specs.Calls.{CopiesCall, instance_of, result_copy, function_copy, path_of_call, called, call_by, right_copy}
use Rattle.xc_kernel.specs.Declarations.{initial_copy, kind_copy, declarations_copy}
use Rattle.xc_kernel.specs.Transfers.{target_copy, input_names}
use Rattle.xc_kernel.specs.Flow.{loop_at, iteration, test_or_true, for_copy, numbered_copy, replicated, case_scope, case_made}
use Rattle.xc_kernel.specs.Statements.{pos_of_branch, assign_by, return_copy, statement_copy, action_copy, maybe_copy, statements_copy, branch_copy, branches_copy, cases_copy, calls_copy}
use Rattle.xc_kernel.specs.Roots as roots
use Rattle.xc_kernel.specs.Ports.{core_of}
use Rattle.xc_kernel.specs.Copies.{calls_of, rooted}
use Rattle.xc_wellformed.specs.Once.{NoneTwice}
use Rattle.xc_wellformed.proofs.Places.{In, Differ, FunctionDiffers, of_right, of_maybe_right, of_kind, of_declarations, of_target, of_statement, of_action, of_maybe, of_statements, of_branch, of_branches, of_cases, of_params}
use Rattle.xc_wellformed.proofs.Spread.{in_left, in_right, halves, Spread, spread_none, spread_wider, spread_both, spread_branch, Numbered, numbered_none, numbered_next, numbered_spread, Within, spread_within, within_spread, own_within}
use Rattle.xc_wellformed.proofs.Walk.Arguments.{AllIn}

-- the instances of a copy are beneath a path by some places
pub record Apart (p : Path) (ks : List Pos) (copy : Copy) : Type 0 where
  pub variables : Spread path_of_variable p ks copy.variables
  pub channels : Spread path_of_channel p ks copy.channels
  pub timers : Spread path_of_timer p ks copy.timers
  pub blocks : Spread path_of_block p ks copy.blocks

-- the same instances
same : (p : Path) (ks : List Pos) (a b : Copy) → a.variables ≡ b.variables → a.channels ≡ b.channels → a.timers ≡ b.timers → a.blocks ≡ b.blocks → Apart p ks a → Apart p ks b
same p ks a b e f g h s = record {
  variables = subst (Spread path_of_variable p ks) e s.variables;
  channels = subst (Spread path_of_channel p ks) f s.channels;
  timers = subst (Spread path_of_timer p ks) g s.timers;
  blocks = subst (Spread path_of_block p ks) h s.blocks;
}

nothing : (p : Path) (ks : List Pos) (scope : Scope) → Apart p ks (no_copy scope)
nothing p ks scope = record {
  variables = spread_none path_of_variable p ks;
  channels = spread_none path_of_channel p ks;
  timers = spread_none path_of_timer p ks;
  blocks = spread_none path_of_block p ks;
}

statement_only : (p : Path) (ks : List Pos) (scope : Scope) (s : kernel.Statement) → Apart p ks (one_statement scope s)
statement_only p ks scope s = same p ks (no_copy scope) (one_statement scope s) refl refl refl refl (nothing p ks scope)

wider : (p : Path) (ks ms : List Pos) (copy : Copy) → ((k : Pos) → In k ks → In k ms) → Apart p ks copy → Apart p ms copy
wider p ks ms copy f s = record {
  variables = spread_wider path_of_variable p ks ms copy.variables f s.variables;
  channels = spread_wider path_of_channel p ks ms copy.channels f s.channels;
  timers = spread_wider path_of_timer p ks ms copy.timers f s.timers;
  blocks = spread_wider path_of_block p ks ms copy.blocks f s.blocks;
}

two : (p : Path) (ks ls : List Pos) (a b : Copy) → ((k : Pos) → In k ks → In k ls → ⊥) → Apart p ks a → Apart p ls b → Apart p (ks ++ ls) (joined a b)
two p ks ls a b apart s t = record {
  variables = spread_both path_of_variable p ks ls a.variables b.variables apart s.variables t.variables;
  channels = spread_both path_of_channel p ks ls a.channels b.channels apart s.channels t.channels;
  timers = spread_both path_of_timer p ks ls a.timers b.timers apart s.timers t.timers;
  blocks = spread_both path_of_block p ks ls a.blocks b.blocks apart s.blocks t.blocks;
}

-- where a part makes nothing
no_places : (k : Pos) (ks : List Pos) → In k [] → In k ks → ⊥
no_places k ks a b = absurd a

behind_nothing : (p : Path) (ks : List Pos) (a b : Copy) → Apart p ks a → Apart p [] b → Apart p ks (joined a b)
behind_nothing p ks a b s t = wider p (ks ++ []) ks (joined a b) (λ k i. by ks k i) (two p ks [] a b (λ k i j. absurd j) s t)
  where
    by : (ls : List Pos) (k : Pos) → In k (ls ++ []) → In k ls
    by [] k i = i
    by (l ∷ ls) k (inl e) = inl e
    by (l ∷ ls) k (inr i) = inr (by ls k i)

branched : (p : Path) (i : ℕ) (ks : List Pos) (copy : Copy) → Apart (path_of_branch p i) ks copy → Apart p ks copy
branched p i ks copy s = record {
  variables = spread_branch path_of_variable p i ks copy.variables s.variables;
  channels = spread_branch path_of_channel p i ks copy.channels s.channels;
  timers = spread_branch path_of_timer p i ks copy.timers s.timers;
  blocks = spread_branch path_of_block p i ks copy.blocks s.blocks;
}

-- in branches of rising indices
record Copies (p : Path) (from : ℕ) (ks : List Pos) (copy : Copy) : Type 0 where
  pub variables : Numbered path_of_variable p from ks copy.variables
  pub channels : Numbered path_of_channel p from ks copy.channels
  pub timers : Numbered path_of_timer p from ks copy.timers
  pub blocks : Numbered path_of_block p from ks copy.blocks

no_copies : (p : Path) (from : ℕ) (ks : List Pos) (scope : Scope) → Copies p from ks (no_copy scope)
no_copies p from ks scope = record {
  variables = numbered_none path_of_variable p from ks;
  channels = numbered_none path_of_channel p from ks;
  timers = numbered_none path_of_timer p from ks;
  blocks = numbered_none path_of_block p from ks;
}

next_copy : (p : Path) (from : ℕ) (ks : List Pos) (a b : Copy) → Apart (path_of_branch p from) ks a → Copies p (from + 1) ks b → Copies p from ks (joined a b)
next_copy p from ks a b s t = record {
  variables = numbered_next path_of_variable p from ks a.variables b.variables s.variables t.variables;
  channels = numbered_next path_of_channel p from ks a.channels b.channels s.channels t.channels;
  timers = numbered_next path_of_timer p from ks a.timers b.timers s.timers t.timers;
  blocks = numbered_next path_of_block p from ks a.blocks b.blocks s.blocks t.blocks;
}

as_one : (p : Path) (from : ℕ) (ks : List Pos) (copy : Copy) → Copies p from ks copy → Apart p ks copy
as_one p from ks copy s = record {
  variables = numbered_spread path_of_variable p from ks copy.variables s.variables;
  channels = numbered_spread path_of_channel p from ks copy.channels s.channels;
  timers = numbered_spread path_of_timer p from ks copy.timers s.timers;
  blocks = numbered_spread path_of_block p from ks copy.blocks s.blocks;
}

-- behind the path of a function's instance
pub record Inside (own : Path) (copy : Copy) : Type 0 where
  pub variables : Within path_of_variable own copy.variables
  pub channels : Within path_of_channel own copy.channels
  pub timers : Within path_of_timer own copy.timers
  pub blocks : Within path_of_block own copy.blocks

by_place : (p : Path) (k : Pos) (copy : Copy) → 0 < k.line → Inside (path_at p k) copy → Apart p (k ∷ []) copy
by_place p k copy h s = record {
  variables = within_spread path_of_variable p k copy.variables h s.variables;
  channels = within_spread path_of_channel p k copy.channels h s.channels;
  timers = within_spread path_of_timer p k copy.timers h s.timers;
  blocks = within_spread path_of_block p k copy.blocks h s.blocks;
}

no_more : (p : Path) → p ++ [] ≡ p
no_more [] = refl
no_more (a ∷ p) = ap (λ (z : Path). a ∷ z) (no_more p)

-- one instance of a place
module _ {V : Type 0} (path_of : V → Path) where
  one_within : (own : Path) (x : V) → path_of x ≡ own → Within path_of own (x ∷ [])
  one_within own x e = own_within path_of own [] x [] e (spread_none path_of own [])

  one : (p : Path) (k : Pos) (x : V) → 0 < k.line → path_of x ≡ path_at p k → Spread path_of p (k ∷ []) (x ∷ [])
  one p k x h e = within_spread path_of p k (x ∷ []) h (one_within (path_at p k) x e)

a_variable : (p : Path) (k : Pos) (v : Var) (copy : Copy) → 0 < k.line → v.path ≡ path_at p k → Apart p [] copy → Apart p (k ∷ []) (with_variable copy v)
a_variable p k v copy h e s =
    let rest = wider p [] (k ∷ []) copy (λ l i. absurd i) s in
    record {
      variables = spread_both path_of_variable p (k ∷ []) [] (v ∷ []) copy.variables (λ l i j. absurd j) (one path_of_variable p k v h e) s.variables;
      channels = rest.channels;
      timers = rest.timers;
      blocks = rest.blocks;
    }

-- the places of the second part aren't those of one place
not_there : (k : Pos) (ks : List Pos) → (In k ks → ⊥) → (l : Pos) → In l (k ∷ []) → In l ks → ⊥
not_there k ks f l (inl e) j = f (subst (λ (z : Pos). In z ks) (sym e) j)
not_there k ks f l (inr i) j = absurd i

-- the blocks of a loop
loop_apart : (p : Path) (k : Pos) (ks : List Pos) (c : Context) (test : kernel.Expression) (body next : kernel.Statements) (held : Copy) → 0 < k.line → (In k ks → ⊥) → Apart p ks held → Apart p (k ∷ ks) (loop_at c (path_at p k) test body next held)
loop_apart p k ks c test body next held h f s =
    let rest = wider p ks (k ∷ ks) held (λ l i. inr i) s in
    record {
      variables = rest.variables;
      channels = rest.channels;
      timers = rest.timers;
      blocks = spread_both path_of_block p (k ∷ []) ks (path_at p k ∷ path_of_turn (path_at p k) ∷ []) held.blocks (not_there k ks f) (within_spread path_of_block p k (path_at p k ∷ path_of_turn (path_at p k) ∷ []) h (turns (path_at p k))) s.blocks;
    }
  where
    turns : (own : Path) → Within path_of_block own (own ∷ path_of_turn own ∷ [])
    turns own = record {
      behind = (record { rest = []; is = sym (no_more own) }, (record { rest = 0 ∷ []; is = refl }, tt));
      differ = ((longer own, tt), (tt, tt));
    }
      where
        longer : (q : Path) → path_of_turn q ≡ q → ⊥
        longer [] e = cc
        longer (a ∷ q) e = longer q (tail_is a (path_of_turn q) q e)
          where
            tail_is : (b : ℕ) (x y : Path) → b ∷ x ≡ b ∷ y → x ≡ y
            tail_is b x y g = cc

-- one block of a place, and what is in it
block_apart : (p : Path) (k : Pos) (ks : List Pos) (copy : Copy) → 0 < k.line → (In k ks → ⊥) → Apart p ks copy → Apart p (k ∷ ks) (with_block copy (path_at p k))
block_apart p k ks copy h f s =
    let rest = wider p ks (k ∷ ks) copy (λ l i. inr i) s in
    record {
      variables = rest.variables;
      channels = rest.channels;
      timers = rest.timers;
      blocks = spread_both path_of_block p (k ∷ []) ks (path_at p k ∷ []) copy.blocks (not_there k ks f) (one path_of_block p k (path_at p k) h refl) s.blocks;
    }

-- what is declared by a name
declares_apart : (c : Context) (name : List ℕ) (k : Pos) (u : Bool) (scope : Scope) → 0 < k.line → Apart c.path (k ∷ []) (declares_word c name k u scope)
declares_apart c name k u scope h =
    let inner = with_name scope name (a_word (path_at c.path k) u) in
    a_variable c.path k (word_variable c true (path_at c.path k) k) (no_copy inner) h refl (nothing c.path [] inner)

target_apart : (c : Context) (scope : Scope) (t : tree.Target) → Differ (of_target t) → Apart c.path (of_target t) (target_copy c scope t)
target_apart c scope (tree.to e) d = nothing c.path [] scope
target_apart c scope tree.dropped d = nothing c.path [] scope
target_apart c scope (tree.fresh u name) d = declares_apart c name.text name.pos u scope d.0

input_apart : (c : Context) (scope : Scope) (i : tree.Input) → Differ (of_target i.target) → Apart c.path (of_target i.target) (input_names c scope i)
input_apart c scope i d = same c.path _ (target_copy c scope i.target) (input_names c scope i) refl refl refl refl (target_apart c scope i.target d)

-- a place in front of both parts
first_apart : (ks ls : List Pos) (k : Pos) → (In k (ks ++ ls) → ⊥) → ((l : Pos) → In l ks → In l ls → ⊥) → (l : Pos) → In l ks → In l (k ∷ ls) → ⊥
first_apart ks ls k f g l i (inl e) = f (in_left k ks ls (subst (λ (z : Pos). In z ks) (sym e) i))
first_apart ks ls k f g l i (inr j) = g l i j

moved : (ks ls : List Pos) (k l : Pos) → In l (ks ++ (k ∷ ls)) → In l (k ∷ (ks ++ ls))
moved [] ls k l i = i
moved (x ∷ ks) ls k l (inl e) = inr (inl e)
moved (x ∷ ks) ls k l (inr i) = by (moved ks ls k l i)
  where
    by : In l (k ∷ (ks ++ ls)) → In l (k ∷ (x ∷ (ks ++ ls)))
    by (inl e) = inl e
    by (inr j) = inr (inr j)

-- one of some functions
pub differs_named : (fs : List Function) → AllIn FunctionDiffers fs → (t : List ℕ) (f : Function) → function_named fs t ≡ Some f → FunctionDiffers f
differs_named [] h t f e = absurd (none_some f e)
  where
    none_some : (x : Function) → None ≡ Some x → ⊥
    none_some x q = cc
differs_named (g ∷ fs) h t f e = by (bytes_eq g.head.name.text t) e (differs_named fs h.1 t f)
  where
    some_same : (x y : Function) → Some x ≡ Some y → x ≡ y
    some_same x y q = cc

    by : (b : Bool) → function_by b g (function_named fs t) ≡ Some f → (function_named fs t ≡ Some f → FunctionDiffers f) → FunctionDiffers f
    by true q k = subst FunctionDiffers (some_same g f q) h.0
    by false q k = k q

-- calls whose instances are beneath the places of the calls
abbrev pub CallsApart : CopiesCall → Type 0
CallsApart copies = (c : Context) (scope : Scope) (f : Function) (k : Pos) (args : List tree.Argument) → AllIn FunctionDiffers c.functions → FunctionDiffers f → 0 < k.line → Apart c.path (k ∷ []) (copies c scope f k args)

module _ (copies : CopiesCall) (calls : CallsApart copies) where
  call_apart : (c : Context) (scope : Scope) (k : Pos) (args : List tree.Argument) (o : Option Function) → ((f : Function) → o ≡ Some f → FunctionDiffers f) → AllIn FunctionDiffers c.functions → 0 < k.line → Apart c.path (k ∷ []) (call_by copies c scope k args o)
  call_apart c scope k args None g fs h = nothing c.path (k ∷ []) scope
  call_apart c scope k args (Some f) g fs h = calls c scope f k args fs (g f refl) h

  right_apart : (c : Context) (scope : Scope) (r : tree.RightSide) → AllIn FunctionDiffers c.functions → Differ (of_right r) → Apart c.path (of_right r) (right_copy copies c scope r)
  right_apart c scope (tree.value e) fs d = nothing c.path [] scope
  right_apart c scope (tree.result call) fs d = call_apart c scope call.called.pos call.arguments (called c call) (λ f e. differs_named c.functions fs call.called.text f e) fs d.0

  then_statement : (c : Context) (scope : Scope) (r : tree.RightSide) (s : kernel.Statement) → AllIn FunctionDiffers c.functions → Differ (of_right r) → Apart c.path (of_right r) (joined (right_copy copies c scope r) (one_statement scope s))
  then_statement c scope r s fs d = behind_nothing c.path (of_right r) (right_copy copies c scope r) (one_statement scope s) (right_apart c scope r fs d) (statement_only c.path [] scope s)

  initial_apart : (c : Context) (path : Path) (r : Option tree.RightSide) (scope : Scope) → AllIn FunctionDiffers c.functions → Differ (of_maybe_right r) → Apart c.path (of_maybe_right r) (initial_copy copies c path r scope)
  initial_apart c path None scope fs d = statement_only c.path [] scope _
  initial_apart c path (Some r) scope fs d = then_statement c scope r _ fs d

  kind_apart : (c : Context) (scope : Scope) (name : List ℕ) (k : Pos) (kind : tree.Kind) → AllIn FunctionDiffers c.functions → Differ (k ∷ of_kind kind) → Apart c.path (k ∷ of_kind kind) (kind_copy copies c scope name k kind)
  kind_apart c scope name k (tree.word u r) fs d =
      let inner = with_name scope name (a_word (path_at c.path k) u) in
      two c.path (k ∷ []) (of_maybe_right r) (declares_word c name k u scope) (initial_copy copies c (path_at c.path k) r inner) (not_there k (of_maybe_right r) d.1.0)
      (declares_apart c name k u scope d.0) (initial_apart c (path_at c.path k) r inner fs d.1.1)
  kind_apart c scope name k (tree.array u l at) fs d =
      let inner = with_name scope name (an_array (path_at c.path k) l u) in
      a_variable c.path k (array_variable c l (path_at c.path k) k) (one_statement inner _) d.0 refl (statement_only c.path [] inner _)
  kind_apart c scope name k (tree.channel streaming) fs d =
      record {
        variables = spread_none path_of_variable c.path (k ∷ []);
        channels = one path_of_channel c.path k _ d.0 refl;
        timers = spread_none path_of_timer c.path (k ∷ []);
        blocks = spread_none path_of_block c.path (k ∷ []);
      }
  kind_apart c scope name k tree.timer fs d =
      record {
        variables = spread_none path_of_variable c.path (k ∷ []);
        channels = spread_none path_of_channel c.path (k ∷ []);
        timers = one path_of_timer c.path k _ d.0 refl;
        blocks = spread_none path_of_block c.path (k ∷ []);
      }

  declarations_apart : (c : Context) (ds : List tree.Declaration) (scope : Scope) → AllIn FunctionDiffers c.functions → Differ (of_declarations ds) → Apart c.path (of_declarations ds) (declarations_copy copies c ds scope)
  declarations_apart c [] scope fs d = nothing c.path [] scope
  declarations_apart c (x ∷ ds) scope fs d =
      let h = halves (x.name.pos ∷ of_kind x.kind) (of_declarations ds) d in
      let a = kind_copy copies c scope x.name.text x.name.pos x.kind in
      two c.path (x.name.pos ∷ of_kind x.kind) (of_declarations ds) a (declarations_copy copies c ds a.scope) h.apart
      (kind_apart c scope x.name.text x.name.pos x.kind fs h.left) (declarations_apart c ds a.scope fs h.right)

  assign_apart : (c : Context) (scope : Scope) (to : tree.Expression) (symbol : ℕ) (pos : Pos) (r : tree.RightSide) (b : Bool) → AllIn FunctionDiffers c.functions → Differ (of_right r) → Apart c.path (of_right r) (assign_by copies c scope to symbol pos r b)
  assign_apart c scope to symbol pos r true fs d = then_statement c scope r _ fs d
  assign_apart c scope to symbol pos r false fs d = statement_only c.path (of_right r) scope _

  return_apart : (c : Context) (scope : Scope) (r : Option tree.RightSide) → AllIn FunctionDiffers c.functions → Differ (of_maybe_right r) → Apart c.path (of_maybe_right r) (return_copy copies c scope r)
  return_apart c scope None fs d = statement_only c.path [] scope _
  return_apart c scope (Some r) fs d =
      behind_nothing c.path (of_right r) (right_copy copies c scope r) _ (right_apart c scope r fs d) (two c.path [] [] (one_statement scope _) (one_statement scope _) (λ k i j. absurd i) (statement_only c.path [] scope _) (statement_only c.path [] scope _))

  -- so many copies of a branch
  numbered_apart : (p : Path) (ks : List Pos) (copy : Context → Scope → Copy) (c : Context) (scope : Scope) (name : List ℕ) (pos : Pos) (count index number : ℕ) → ((i : ℕ) (inner : Scope) → Apart (path_of_branch p i) ks (copy (in_branch c i) inner)) →
      Copies p index ks (replicated (numbered_copy copy c scope name) pos scope count index number).made
  numbered_apart p ks copy c scope name pos zero index number f = no_copies p index ks scope
  numbered_apart p ks copy c scope name pos (suc count) index number f =
      let inner = with_name scope name (a_constant number) in
      let one = with_code (numbered_copy copy c scope name index number) [] in
      next_copy p index ks one (replicated (numbered_copy copy c scope name) pos scope count (index + 1) (number + 1)).made
      (same (path_of_branch p index) ks (copy (in_branch c index) inner) one refl refl refl refl (f index inner))
      (numbered_apart p ks copy c scope name pos count (index + 1) (number + 1) f)

  mutual
    pub statement_apart : (s : tree.Statement) (c : Context) (scope : Scope) → AllIn FunctionDiffers c.functions → Differ (of_statement s) → Apart c.path (of_statement s) (statement_copy copies s c scope)
    statement_apart (tree.statement a pos close own) c scope fs d = action_apart a pos close c scope fs d

    pub action_apart : (a : tree.Action) (pos close : Pos) (c : Context) (scope : Scope) → AllIn FunctionDiffers c.functions → Differ (of_action pos a) → Apart c.path (of_action pos a) (action_copy copies a pos close c scope)
    action_apart tree.empty pos close c scope fs d = nothing c.path [] scope
    action_apart (tree.block ss) pos close c scope fs d = same c.path _ (statements_copy copies ss c scope) _ refl refl refl refl (statements_apart ss c scope fs d)
    action_apart (tree.declare ds) pos close c scope fs d = declarations_apart c ds scope fs d
    action_apart (tree.assign to symbol spot r) pos close c scope fs d = assign_apart c scope to symbol spot r (nat_eq symbol equals) fs d
    action_apart (tree.step to symbol) pos close c scope fs d = statement_only c.path [] scope _
    action_apart (tree.perform r) pos close c scope fs d = right_apart c scope r fs d
    action_apart (tree.output o) pos close c scope fs d = same c.path [] (no_copy scope) _ refl refl refl refl (nothing c.path [] scope)
    action_apart (tree.input i) pos close c scope fs d = same c.path _ (input_names c scope i) _ refl refl refl refl (input_apart c scope i d)
    action_apart (tree.if_then test a b) pos close c scope fs d =
        let h = halves (of_statement a) (of_maybe b) d in
        let ca = statement_copy copies a c scope in
        same c.path _ (joined ca (maybe_copy copies b c ca.scope)) _ refl refl refl refl
        (two c.path (of_statement a) (of_maybe b) ca (maybe_copy copies b c ca.scope) h.apart (statement_apart a c scope fs h.left) (maybe_apart b c ca.scope fs h.right))
    action_apart (tree.while_loop test body) pos close c scope fs d =
        loop_apart c.path pos (of_statement body) c _ _ _ (statement_copy copies body (in_loop c pos) scope) d.0 d.1.0 (statement_apart body (in_loop c pos) scope fs d.1.1)
    action_apart (tree.do_while body test) pos close c scope fs d =
        loop_apart c.path pos (of_statement body) c _ _ _ (statement_copy copies body (in_loop c pos) scope) d.0 d.1.0 (statement_apart body (in_loop c pos) scope fs d.1.1)
    action_apart (tree.for_loop first test next body) pos close c scope fs d =
        let ff = of_maybe first in
        let nb = of_maybe next ++ of_statement body in
        let h = halves ff nb d.1.1 in
        let g = halves (of_maybe next) (of_statement body) h.right in
        let cf = maybe_copy copies first c scope in
        let cn = maybe_copy copies next c cf.scope in
        let cb = statement_copy copies body (in_loop c pos) cf.scope in
        let inner = two c.path (of_maybe next) (of_statement body) cn cb g.apart (maybe_apart next c cf.scope fs g.left) (statement_apart body (in_loop c pos) cf.scope fs g.right) in
        let looped = loop_apart c.path pos nb c (test_or_true (maybe_expression c cf.scope test)) (iteration c (path_at c.path pos) cb.code []) (code_of cn) (joined cn cb) d.0 (λ i. d.1.0 (in_right pos ff nb i)) inner in
        let whole = two c.path ff (pos ∷ nb) cf (for_copy c pos cf.scope test cn cb) (first_apart ff nb pos d.1.0 h.apart) (maybe_apart first c scope fs h.left) looped in
        same c.path (pos ∷ (ff ++ nb)) _ _ refl refl refl refl (wider c.path (ff ++ (pos ∷ nb)) (pos ∷ (ff ++ nb)) _ (moved ff nb pos) whole)
    action_apart (tree.return_with r) pos close c scope fs d = return_apart c scope r fs d
    action_apart tree.break_out pos close c scope fs d = statement_only c.path [] scope _
    action_apart tree.continue_on pos close c scope fs d = statement_only c.path [] scope _
    action_apart (tree.par bs) pos close c scope fs d = same c.path _ (branches_copy copies bs 0 c scope).made _ refl refl refl refl (branches_apart bs 0 c scope fs d)
    action_apart (tree.replicated first second third from until b) pos close c scope fs d =
        same c.path _ (replicated (numbered_copy (branch_copy copies b) c scope first.text) (pos_of_branch b) scope (until - from) 0 from).made _ refl refl refl refl
        (as_one c.path 0 (of_branch b) _ (numbered_apart c.path (of_branch b) (branch_copy copies b) c scope first.text (pos_of_branch b) (until - from) 0 from (λ i inner. branch_apart b (in_branch c i) inner fs d)))
    action_apart (tree.select cs) pos close c scope fs d = same c.path _ (cases_copy copies cs c scope).made _ refl refl refl refl (cases_apart cs c scope fs d)
    action_apart (tree.transaction is_master ss) pos close c scope fs d = same c.path _ (statements_copy copies ss c scope) _ refl refl refl refl (statements_apart ss c scope fs d)

    maybe_apart : (m : tree.Maybe) (c : Context) (scope : Scope) → AllIn FunctionDiffers c.functions → Differ (of_maybe m) → Apart c.path (of_maybe m) (maybe_copy copies m c scope)
    maybe_apart tree.absent c scope fs d = nothing c.path [] scope
    maybe_apart (tree.present s) c scope fs d = statement_apart s c scope fs d

    statements_apart : (ss : tree.Statements) (c : Context) (scope : Scope) → AllIn FunctionDiffers c.functions → Differ (of_statements ss) → Apart c.path (of_statements ss) (statements_copy copies ss c scope)
    statements_apart tree.no_more c scope fs d = nothing c.path [] scope
    statements_apart (tree.more s ss) c scope fs d =
        let h = halves (of_statement s) (of_statements ss) d in
        let a = statement_copy copies s c scope in
        two c.path (of_statement s) (of_statements ss) a (statements_copy copies ss c a.scope) h.apart (statement_apart s c scope fs h.left) (statements_apart ss c a.scope fs h.right)

    pub branch_apart : (b : tree.Branch) (c : Context) (scope : Scope) → AllIn FunctionDiffers c.functions → Differ (of_branch b) → Apart c.path (of_branch b) (branch_copy copies b c scope)
    branch_apart (tree.branch place s) c scope fs d = statement_apart s c scope fs d

    branches_apart : (bs : tree.Branches) (index : ℕ) (c : Context) (scope : Scope) → AllIn FunctionDiffers c.functions → Differ (of_branches bs) → Apart c.path (of_branches bs) (branches_copy copies bs index c scope).made
    branches_apart tree.no_branch index c scope fs d = nothing c.path [] scope
    branches_apart (tree.more_branches b bs) index c scope fs d =
        let h = halves (of_branch b) (of_branches bs) d in
        let a = branch_copy copies b (in_branch c index) scope in
        let one = branched c.path index (of_branch b) (with_code a []) (same (path_of_branch c.path index) (of_branch b) a (with_code a []) refl refl refl refl (branch_apart b (in_branch c index) scope fs h.left)) in
        two c.path (of_branch b) (of_branches bs) (with_code a []) (branches_copy copies bs (index + 1) c a.scope).made h.apart one (branches_apart bs (index + 1) c a.scope fs h.right)

    cases_apart : (cs : tree.Cases) (c : Context) (scope : Scope) → AllIn FunctionDiffers c.functions → Differ (of_cases cs) → Apart c.path (of_cases cs) (cases_copy copies cs c scope).made
    cases_apart tree.no_case c scope fs d = nothing c.path [] scope
    cases_apart (tree.more_cases (tree.case pos guard None ss) cs) c scope fs d =
        let h = halves (pos ∷ of_statements ss) (of_cases cs) d in
        let body = statements_copy copies ss (in_case c pos) scope in
        let inner = same c.path (of_statements ss) body (with_code body []) refl refl refl refl (statements_apart ss (in_case c pos) scope fs h.left.1.1) in
        two c.path (pos ∷ of_statements ss) (of_cases cs) (case_made c pos body) (cases_copy copies cs c scope).made h.apart
        (block_apart c.path pos (of_statements ss) (with_code body []) h.left.0 h.left.1.0 inner) (cases_apart cs c scope fs h.right)
    cases_apart (tree.more_cases (tree.case pos guard (Some i) ss) cs) c scope fs d =
        let ti = of_target i.target in
        let ks = pos ∷ (ti ++ of_statements ss) in
        let h = halves ks (of_cases cs) d in
        let g = halves ti (of_statements ss) h.left.1.1 in
        let body = statements_copy copies ss (in_case c pos) (case_scope c scope (Some i)) in
        let inner = same c.path (of_statements ss) body (with_code body []) refl refl refl refl (statements_apart ss (in_case c pos) (case_scope c scope (Some i)) fs g.right) in
        let made = block_apart c.path pos (of_statements ss) (with_code body []) h.left.0 (λ q. h.left.1.0 (in_right pos ti (of_statements ss) q)) inner in
        let names = input_apart c scope i g.left in
        let one = two c.path ti (pos ∷ of_statements ss) (input_names c scope i) (case_made c pos body) (first_apart ti (of_statements ss) pos h.left.1.0 g.apart) names made in
        let placed = wider c.path (ti ++ (pos ∷ of_statements ss)) ks (joined (input_names c scope i) (case_made c pos body)) (moved ti (of_statements ss) pos) one in
        two c.path ks (of_cases cs) (joined (input_names c scope i) (case_made c pos body)) (cases_copy copies cs c scope).made h.apart placed (cases_apart cs c scope fs h.right)

  -- a function's instance

  result_apart : (c : Context) (own : Path) (k : Pos) (scope : Scope) (o : Option Bool) → 0 < k.line → Apart own (k ∷ []) (result_copy c (path_at own k) k scope o)
  result_apart c own k scope None h = nothing own (k ∷ []) scope
  result_apart c own k scope (Some u) h = a_variable own k (word_variable c false (path_at own k) k) (one_statement scope _) h refl (statement_only own [] scope _)

  -- what is passed has at most one variable, that of the parameter
  abbrev OneAtMost : Path → Pos → Passed → Type 0
  OneAtMost own k p = Spread path_of_variable own (k ∷ []) p.variables

  element_one : (c : Context) (scope : Scope) (own : Path) (k : Pos) (i : tree.Expression) (spot : Pos) (x : Entity) → 0 < k.line → OneAtMost own k (by_element c scope own k i spot x)
  element_one c scope own k i spot (an_array path l u) h = one path_of_variable own k _ h refl
  element_one c scope own k i spot other h = spread_none path_of_variable own (k ∷ [])

  form_one : (c : Context) (scope : Scope) (own : Path) (k spot : Pos) (f : tree.Form) → 0 < k.line → OneAtMost own k (form_by_reference c scope own k spot f)
  form_one c scope own k spot (tree.name t) h = spread_none path_of_variable own (k ∷ [])
  form_one c scope own k spot (tree.index t i) h = element_one c scope own k i spot (entity_of scope t) h
  form_one c scope own k spot other h = spread_none path_of_variable own (k ∷ [])

  reference_one : (c : Context) (scope : Scope) (own : Path) (k : Pos) (e : tree.Expression) → 0 < k.line → OneAtMost own k (by_reference c scope own k e)
  reference_one c scope own k (tree.expression f spot) h = form_one c scope own k spot f h

  name_one : (own : Path) (k : Pos) (scope : Scope) (e : tree.Expression) → OneAtMost own k (by_name scope e)
  name_one own k scope (tree.expression (tree.name t) spot) = spread_none path_of_variable own (k ∷ [])
  name_one own k scope other = spread_none path_of_variable own (k ∷ [])

  passed_one : (c : Context) (scope : Scope) (own : Path) (k : Pos) (kind : ParamKind) (e : tree.Expression) → 0 < k.line → OneAtMost own k (passed c scope own k kind e)
  passed_one c scope own k (param.Value u) e h = one path_of_variable own k _ h refl
  passed_one c scope own k (param.Ref u) e h = reference_one c scope own k e h
  passed_one c scope own k (param.Array u l) e h = name_one own k scope e
  passed_one c scope own k (param.End s) e h = name_one own k scope e
  passed_one c scope own k (param.Port d) e h = name_one own k scope e

  passed_apart : (c : Context) (scope : Scope) (own : Path) (ps : List Param) (args : List tree.Argument) → Differ (of_params ps) → Apart own (of_params ps) (all_passed c scope own ps args)
  passed_apart c scope own [] args d = nothing own [] c.ports
  passed_apart c scope own (p ∷ ps) [] d = nothing own (of_params (p ∷ ps)) c.ports
  passed_apart c scope own (p ∷ ps) (a ∷ args) d =
      let rest = passed_apart c scope own ps args d.1.1 in
      let others = all_passed c scope own ps args in
      let more = wider own (of_params ps) (of_params (p ∷ ps)) others (λ l i. inr i) rest in
      record {
        variables = spread_both path_of_variable own (p.name.pos ∷ []) (of_params ps) (passed c scope own p.name.pos p.kind a.value).variables others.variables (not_there p.name.pos (of_params ps) d.1.0) (passed_one c scope own p.name.pos p.kind a.value d.0) rest.variables;
        channels = more.channels;
        timers = more.timers;
        blocks = more.blocks;
      }

  no_blocks_passed : (c : Context) (scope : Scope) (own : Path) (ps : List Param) (args : List tree.Argument) → [] ≡ (all_passed c scope own ps args).blocks
  no_blocks_passed c scope own [] args = refl
  no_blocks_passed c scope own (p ∷ ps) [] = refl
  no_blocks_passed c scope own (p ∷ ps) (a ∷ args) = no_blocks_passed c scope own ps args

  no_blocks_result : (c : Context) (path : Path) (k : Pos) (scope : Scope) (o : Option Bool) → [] ≡ (result_copy c path k scope o).blocks
  no_blocks_result c path k scope None = refl
  no_blocks_result c path k scope (Some u) = refl

  pub function_inside : (c : Context) (scope : Scope) (own : Path) (f : Function) (args : List tree.Argument) → AllIn FunctionDiffers c.functions → FunctionDiffers f → Inside own (function_copy (statement_copy copies) c scope own f args)
  function_inside c scope own f args fs d =
      let k = f.head.name.pos in
      let qs = of_params f.head.params in
      let bs = of_statement f.body in
      let h = halves qs bs d.1.1 in
      let cr = result_copy c (path_at own k) k scope f.head.result in
      let cp = all_passed c scope own f.head.params args in
      let cb = statement_copy copies f.body (in_function c own f) cp.scope in
      let r = result_apart c own k scope f.head.result d.0 in
      let p = passed_apart c scope own f.head.params args h.left in
      let b = statement_apart f.body (in_function c own f) cp.scope fs h.right in
      let all = two own (k ∷ []) (qs ++ bs) cr (joined cp cb) (not_there k (qs ++ bs) d.1.0) r (two own qs bs cp cb h.apart p b) in
      record {
        variables = spread_within path_of_variable own _ _ all.variables;
        channels = spread_within path_of_channel own _ _ all.channels;
        timers = spread_within path_of_timer own _ _ all.timers;
        blocks = subst (λ (xs : List Path). Within path_of_block own (xs ++ (cp.blocks ++ (own ∷ cb.blocks)))) (no_blocks_result c (path_at own k) k scope f.head.result)
            (subst (λ (xs : List Path). Within path_of_block own (xs ++ (own ∷ cb.blocks))) (no_blocks_passed c scope own f.head.params args) (own_within path_of_block own bs own cb.blocks refl b.blocks));
      }

-- calls, as deep as they go
pub calls_apart : (depth : ℕ) → CallsApart (calls_copy depth)
calls_apart zero c scope f k args fs d h = nothing c.path (k ∷ []) scope
calls_apart (suc depth) c scope f k args fs d h =
    by_place c.path k (function_copy (statement_copy (calls_copy depth)) c scope (path_of_call c k) f args) h (function_inside (calls_copy depth) (calls_apart depth) c scope (path_of_call c k) f args fs d)

-- Roots.

module _ (copies : CopiesCall) (calls : CallsApart copies) where
  root_apart : (main : Pos) (b : tree.Branch) (c : Context) (scope : Scope) → AllIn FunctionDiffers c.functions → Differ (of_branch b) → Apart c.path (of_branch b) (roots.branch_root copies main b c scope).made
  root_apart main (tree.branch place s) c scope fs d =
      let e = record c { core = core_of scope place } in
      same c.path (of_statement s) (statement_copy copies s e scope) _ refl refl refl refl (statement_apart copies calls s e scope fs d)

  branch_roots_apart : (main : Pos) (bs : tree.Branches) (index : ℕ) (c : Context) (scope : Scope) → AllIn FunctionDiffers c.functions → Differ (of_branches bs) → Apart c.path (of_branches bs) (roots.branch_roots copies main bs index c scope).made
  branch_roots_apart main tree.no_branch index c scope fs d = same c.path [] (no_copy scope) _ refl refl refl refl (nothing c.path [] scope)
  branch_roots_apart main (tree.more_branches b bs) index c scope fs d =
      let h = halves (of_branch b) (of_branches bs) d in
      let a = roots.branch_root copies main b (in_branch c index) scope in
      two c.path (of_branch b) (of_branches bs) a.made (roots.branch_roots copies main bs (index + 1) c a.made.scope).made h.apart
      (branched c.path index (of_branch b) a.made (root_apart main b (in_branch c index) scope fs h.left)) (branch_roots_apart main bs (index + 1) c a.made.scope fs h.right)

  numbered_roots_apart : (main : Pos) (b : tree.Branch) (name : List ℕ) (c : Context) (scope : Scope) (count index number : ℕ) → AllIn FunctionDiffers c.functions → Differ (of_branch b) → Copies c.path index (of_branch b) (roots.numbered_roots copies main b name c scope count index number).made
  numbered_roots_apart main b name c scope zero index number fs d = no_copies c.path index (of_branch b) scope
  numbered_roots_apart main b name c scope (suc count) index number fs d =
      let inner = with_name scope name (a_constant number) in
      let a = roots.branch_root copies main b (in_branch c index) inner in
      next_copy c.path index (of_branch b) (in_scope_of scope a.made) (roots.numbered_roots copies main b name c scope count (index + 1) (number + 1)).made
      (same (path_of_branch c.path index) (of_branch b) a.made (in_scope_of scope a.made) refl refl refl refl (root_apart main b (in_branch c index) inner fs d))
      (numbered_roots_apart main b name c scope count (index + 1) (number + 1) fs d)

  action_roots_apart : (main : Pos) (a : tree.Action) (pos : Pos) (c : Context) (scope : Scope) → AllIn FunctionDiffers c.functions → Differ (of_action pos a) → Apart c.path (of_action pos a) (roots.action_roots copies main a c scope).made
  action_roots_apart main (tree.declare ds) pos c scope fs d = same c.path _ (declarations_copy copies c ds scope) _ refl refl refl refl (declarations_apart copies calls c ds scope fs d)
  action_roots_apart main (tree.par bs) pos c scope fs d = branch_roots_apart main bs 0 c scope fs d
  action_roots_apart main (tree.replicated first second third from until b) pos c scope fs d = as_one c.path 0 (of_branch b) _ (numbered_roots_apart main b first.text c scope (until - from) 0 from fs d)
  action_roots_apart main other pos c scope fs d = same c.path _ (no_copy scope) _ refl refl refl refl (nothing c.path _ scope)

  block_roots_apart : (main : Pos) (ss : tree.Statements) (c : Context) (scope : Scope) → AllIn FunctionDiffers c.functions → Differ (of_statements ss) → Apart c.path (of_statements ss) (roots.block_roots copies main ss c scope).made
  block_roots_apart main tree.no_more c scope fs d = same c.path [] (no_copy scope) _ refl refl refl refl (nothing c.path [] scope)
  block_roots_apart main (tree.more (tree.statement a pos close own) ss) c scope fs d =
      let h = halves (of_action pos a) (of_statements ss) d in
      let r = roots.action_roots copies main a c scope in
      two c.path (of_action pos a) (of_statements ss) r.made (roots.block_roots copies main ss c r.made.scope).made h.apart (action_roots_apart main a pos c scope fs h.left) (block_roots_apart main ss c r.made.scope fs h.right)

  in_block_differs : (s : tree.Statement) → Differ (of_statement s) → Differ (of_statements (roots.in_block s))
  in_block_differs (tree.statement (tree.block ss) pos close own) d = d
  in_block_differs other d = tt

  differing : (p : Path) (ks : List Pos) (copy : Copy) → Apart p ks copy → NoneTwice copy
  differing p ks copy s = record { variables = s.variables.differ; channels = s.channels.differ; timers = s.timers.differ; blocks = s.blocks.differ }

  inside_differing : (p : Path) (copy : Copy) → Inside p copy → NoneTwice copy
  inside_differing p copy s = record { variables = s.variables.differ; channels = s.channels.differ; timers = s.timers.differ; blocks = s.blocks.differ }

  roots_by_differ : (b : Bool) (f : Function) (c : Context) → AllIn FunctionDiffers c.functions → FunctionDiffers f → NoneTwice (roots.roots_by copies b f c).made
  roots_by_differ true f c fs d =
      let h = halves (of_params f.head.params) (of_statement f.body) d.1.1 in
      let rest = roots.block_roots copies f.head.name.pos (roots.in_block f.body) c c.ports in
      let inst = roots.no_roots (instance_of c f c.ports) in
      differing c.path _ (joined inst.made rest.made)
      (two c.path [] (of_statements (roots.in_block f.body)) inst.made rest.made (λ k i j. absurd i) (same c.path [] (no_copy c.ports) inst.made refl refl refl refl (nothing c.path [] c.ports))
      (block_roots_apart f.head.name.pos (roots.in_block f.body) c c.ports fs (in_block_differs f.body h.right)))
  roots_by_differ false f c fs d =
      let g = function_inside copies calls c c.ports [] f [] fs d in
      record { variables = g.variables.differ; channels = g.channels.differ; timers = g.timers.differ; blocks = g.blocks.differ }

  roots_differ : (o : Option Function) (c : Context) → ((f : Function) → o ≡ Some f → FunctionDiffers f) → AllIn FunctionDiffers c.functions → NoneTwice (roots.roots_of copies o c).made
  roots_differ None c g fs = record { variables = tt; channels = tt; timers = tt; blocks = tt }
  roots_differ (Some f) c g fs = roots_by_differ (roots.block_has_placed (roots.in_block f.body)) f c fs (g f refl)

-- no two instances of a program whose functions have differing places have one path
pub program_differs : (P : List tree.Item) (n : Numbering) → AllIn FunctionDiffers (functions P) → NoneTwice (rooted P n).made
program_differs P n fs = roots_differ (calls_of P) (calls_apart (length (functions P))) (main_of P) (roots.context_of P n) (λ f e. differs_named (functions P) fs Rattle.xc_kernel.specs.Programs.name_of_main f e) fs
