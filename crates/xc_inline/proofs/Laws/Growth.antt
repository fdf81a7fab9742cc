-- The names that are known behind a copy are those before it, and new ones before them.
use Rattle.std.proofs.Common.{◌≡◌, ℕ, zero, suc, ◌+◌, ◌-◌, ◌≤◌, Bool, true, false, List, [], ◌∷◌, ◌++◌, length, drop, Option, Some, None, nat_eq, arith, refl, ap, sym, subst, ◌∙◌, append_assoc, append-nil}
use Rattle.xw_words.proofs.Lists.{drop_front}
use Rattle.xw_words.specs.declared.pos.Pos.{Pos}
use Rattle.xc_tree.specs.Plain as tree
use Rattle.xc_tree.specs.Symbols.{equals}
use Rattle.xc_kernel.specs.Paths.{Path, path_at}
use Rattle.xc_kernel.specs.Scopes.{Scope, Entity, with_name}
use Rattle.xc_kernel.specs.Programs.{Function}
use Rattle.xc_inline.specs.Growth.{Grows}
use Rattle.xc_kernel.specs.Copy.{Copy, no_copy, joined, followed_by}
use Rattle.xc_kernel.specs.Context.{Context, in_branch, in_loop}
use Rattle.xc_kernel.specs.Calls.{CopiesCall, called, call_by, right_copy}
use Rattle.xc_kernel.specs.Declarations.{initial_copy, kind_copy, declarations_copy}
use Rattle.xc_kernel.specs.Transfers.{target_copy}
use Rattle.xc_kernel.specs.Flow.{replicated, numbered_copy}
use Rattle.xc_kernel.specs.Statements.{assign_by, return_copy, statement_copy, action_copy, maybe_copy, statements_copy, branch_copy, branches_copy, calls_copy, pos_of_branch}

pub as_before : (scope : Scope) → Grows scope scope
as_before scope = record { more = []; is = refl }

pub with_one : (scope : Scope) (name : List ℕ) (e : Entity) → Grows scope (with_name scope name e)
with_one scope name e = record { more = record { name = name; entity = e } ∷ []; is = refl }

pub further : {a b c : Scope} → Grows a b → Grows b c → Grows a c
further {a} g h = record { more = h.more ++ g.more; is = h.is ∙ ap (λ x. h.more ++ x) g.is ∙ sym (append_assoc h.more g.more a) }

length_both : {X : Type 0} (xs ys : List X) → length (xs ++ ys) ≡ length xs + length ys
length_both [] ys = omega arith
length_both (x ∷ xs) ys = let h = length_both xs ys in omega (arith, h)

-- without the new ones the names are those before
pub grown_length : {a b : Scope} → Grows a b → length a ≤ length b
grown_length {a} g = let h = ap length g.is in let l = length_both g.more a in omega (arith, h, l)

pub grown_left : {a b : Scope} → Grows a b → drop (length b - length a) b ≡ a
grown_left {a} {b} g =
    let l = length_both g.more a in
    let n : ◌≡◌ {A = ℕ} (length (g.more ++ a) - length a) (length g.more) = omega (arith, l) in
    ap (λ x. drop (length x - length a) x) g.is ∙ ap (λ k. drop k (g.more ++ a)) n ∙ drop_front g.more a

pub grown_fits : {a b : Scope} {n : ℕ} → Grows a b → n ≡ length a → n ≤ length b
grown_fits {a} {b} g e = let l = grown_length g in omega (arith, e, l)

-- a scope is left for the names that were known before it
pub left_as : {a b after : Scope} {n : ℕ} → Grows a b → n ≡ length a → after ≡ drop (length b - n) b → after ≡ a
left_as {a} {b} g e left = left ∙ ap (λ n. drop (length b - n) b) e ∙ grown_left g

-- a copy's names are those of its equal
pub grown_by : (a : Scope) {x y : Copy} → x ≡ y → Grows a y.scope → Grows a x.scope
grown_by a e g = subst (λ z. Grows a z.scope) (sym e) g

-- a call leaves the names as they are
pub record KeepsNames (copies : CopiesCall) : Type 0 where
  pub keeps : (c : Context) (scope : Scope) (f : Function) (pos : Pos) (args : List tree.Argument) → (copies c scope f pos args).scope ≡ scope

pub calls_keep : (n : ℕ) → KeepsNames (calls_copy n)
calls_keep zero = record { keeps = λ c scope f pos args. refl }
calls_keep (suc n) = record { keeps = λ c scope f pos args. refl }

module _ (copies : CopiesCall) (keep : KeepsNames copies) where
  call_keeps : (c : Context) (scope : Scope) (pos : Pos) (args : List tree.Argument) (f : Option Function) → (call_by copies c scope pos args f).scope ≡ scope
  call_keeps c scope pos args None = refl
  call_keeps c scope pos args (Some f) = keep.keeps c scope f pos args

  pub right_keeps : (c : Context) (scope : Scope) (r : tree.RightSide) → (right_copy copies c scope r).scope ≡ scope
  right_keeps c scope (tree.value e) = refl
  right_keeps c scope (tree.result call) = call_keeps c scope call.called.pos call.arguments (called c call)

  initial_keeps : (c : Context) (path : Path) (r : Option tree.RightSide) (scope : Scope) → (initial_copy copies c path r scope).scope ≡ scope
  initial_keeps c path None scope = refl
  initial_keeps c path (Some r) scope = refl

  kind_grows : (c : Context) (scope : Scope) (name : List ℕ) (pos : Pos) (k : tree.Kind) → Grows scope (kind_copy copies c scope name pos k).scope
  kind_grows c scope name pos (tree.word u r) = subst (λ s. Grows scope s) (sym (initial_keeps c (path_at c.path pos) r _)) (with_one scope name _)
  kind_grows c scope name pos (tree.array u length at) = with_one scope name _
  kind_grows c scope name pos (tree.channel streaming) = with_one scope name _
  kind_grows c scope name pos tree.timer = with_one scope name _

  pub declarations_grow : (c : Context) (ds : List tree.Declaration) (scope : Scope) → Grows scope (declarations_copy copies c ds scope).scope
  declarations_grow c [] scope = as_before scope
  declarations_grow c (d ∷ ds) scope = further (kind_grows c scope d.name.text d.name.pos d.kind) (declarations_grow c ds _)

  pub target_grows : (c : Context) (scope : Scope) (t : tree.Target) → Grows scope (target_copy c scope t).scope
  target_grows c scope (tree.to e) = as_before scope
  target_grows c scope tree.dropped = as_before scope
  target_grows c scope (tree.fresh u name) = with_one scope name.text _

  assign_keeps : (c : Context) (scope : Scope) (to : tree.Expression) (symbol : ℕ) (pos : Pos) (r : tree.RightSide) (b : Bool) → (assign_by copies c scope to symbol pos r b).scope ≡ scope
  assign_keeps c scope to symbol pos r true = refl
  assign_keeps c scope to symbol pos r false = refl

  return_keeps : (c : Context) (scope : Scope) (r : Option tree.RightSide) → (return_copy copies c scope r).scope ≡ scope
  return_keeps c scope None = refl
  return_keeps c scope (Some r) = refl

  same : {a b : Scope} → b ≡ a → Grows a b
  same {a} e = record { more = []; is = e }

  replicated_keeps : (copy : ℕ → ℕ → Copy) (pos : Pos) (scope : Scope) (count index number : ℕ) → (replicated copy pos scope count index number).made.scope ≡ scope
  replicated_keeps copy pos scope zero index number = refl
  replicated_keeps copy pos scope (suc count) index number = replicated_keeps copy pos scope count (index + 1) (number + 1)

  mutual
    pub statement_grows : (s : tree.Statement) (c : Context) (scope : Scope) → Grows scope (statement_copy copies s c scope).scope
    statement_grows (tree.statement action pos close own) c scope = action_grows action pos close c scope

    action_grows : (a : tree.Action) (pos close : Pos) (c : Context) (scope : Scope) → Grows scope (action_copy copies a pos close c scope).scope
    action_grows tree.empty pos close c scope = as_before scope
    action_grows (tree.block ss) pos close c scope = as_before scope
    action_grows (tree.declare ds) pos close c scope = declarations_grow c ds scope
    action_grows (tree.assign to symbol at r) pos close c scope = same (assign_keeps c scope to symbol at r (nat_eq symbol equals))
    action_grows (tree.step to symbol) pos close c scope = as_before scope
    action_grows (tree.perform r) pos close c scope = same (right_keeps c scope r)
    action_grows (tree.output o) pos close c scope = as_before scope
    action_grows (tree.input i) pos close c scope = target_grows c scope i.target
    action_grows (tree.if_then test a b) pos close c scope = further (statement_grows a c scope) (maybe_grows b c _)
    action_grows (tree.while_loop test body) pos close c scope = statement_grows body (in_loop c pos) scope
    action_grows (tree.do_while body test) pos close c scope = statement_grows body (in_loop c pos) scope
    action_grows (tree.for_loop first test next body) pos close c scope = as_before scope
    action_grows (tree.return_with r) pos close c scope = same (return_keeps c scope r)
    action_grows tree.break_out pos close c scope = as_before scope
    action_grows tree.continue_on pos close c scope = as_before scope
    action_grows (tree.par bs) pos close c scope = branches_grow bs 0 c scope
    action_grows (tree.replicated first second third from until b) pos close c scope = same (replicated_keeps (numbered_copy (branch_copy copies b) c scope first.text) (pos_of_branch b) scope (until - from) 0 from)
    action_grows (tree.select cs) pos close c scope = as_before scope
    action_grows (tree.transaction is_master ss) pos close c scope = as_before scope

    pub maybe_grows : (s : tree.Maybe) (c : Context) (scope : Scope) → Grows scope (maybe_copy copies s c scope).scope
    maybe_grows tree.absent c scope = as_before scope
    maybe_grows (tree.present s) c scope = statement_grows s c scope

    pub statements_grow : (ss : tree.Statements) (c : Context) (scope : Scope) → Grows scope (statements_copy copies ss c scope).scope
    statements_grow tree.no_more c scope = as_before scope
    statements_grow (tree.more s ss) c scope = further (statement_grows s c scope) (statements_grow ss c _)

    pub branch_grows : (b : tree.Branch) (c : Context) (scope : Scope) → Grows scope (branch_copy copies b c scope).scope
    branch_grows (tree.branch place s) c scope = statement_grows s c scope

    pub branches_grow : (bs : tree.Branches) (index : ℕ) (c : Context) (scope : Scope) → Grows scope (branches_copy copies bs index c scope).made.scope
    branches_grow tree.no_branch index c scope = as_before scope
    branches_grow (tree.more_branches b bs) index c scope = further (branch_grows b (in_branch c index) scope) (branches_grow bs (index + 1) c _)

-- Copies one behind the other.

pub joined_assoc : (a b c : Copy) → joined (joined a b) c ≡ joined a (joined b c)
joined_assoc a b c = λ i. record {
  code = append_assoc a.code b.code c.code i;
  scope = c.scope;
  variables = append_assoc a.variables b.variables c.variables i;
  channels = append_assoc a.channels b.channels c.channels i;
  timers = append_assoc a.timers b.timers c.timers i;
  blocks = append_assoc a.blocks b.blocks c.blocks i;
  instances = append_assoc a.instances b.instances c.instances i;
  named = append_assoc a.named b.named c.named i;
}

pub joined_last : (a : Copy) → joined a (no_copy a.scope) ≡ a
joined_last a = λ i. record {
  code = append-nil a.code i;
  scope = a.scope;
  variables = append-nil a.variables i;
  channels = append-nil a.channels i;
  timers = append-nil a.timers i;
  blocks = append-nil a.blocks i;
  instances = append-nil a.instances i;
  named = append-nil a.named i;
}

-- one more copy behind others
pub behind : (before : Copy) {after next : Copy} (rest : Scope → Copy) {copy : Copy} → copy ≡ next → after ≡ joined before copy → followed_by before (λ s. followed_by next rest) ≡ followed_by after rest
behind before {after} {next} rest {copy} e f = sym (joined_assoc before next (rest next.scope)) ∙ λ i. followed_by (sym (f ∙ ap (joined before) e) i) rest
