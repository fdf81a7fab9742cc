-- Roots, one behind the other.
use Rattle.std.proofs.Common.{◌≡◌, ℕ, suc, ◌+◌, ◌-◌, ◌<◌, ◌≤◌, Bool, true, false, ◌||◌, List, length, drop, get_or, map, Option, Some, None, refl, ap, sym, subst, ◌∙◌, append_assoc, append-nil}
use Rattle.xw_words.specs.declared.pos.Pos.{Pos}
use Rattle.xc_tree.specs.declared.tree.Branch.{Branch}
use Rattle.xc_tree.specs.declared.tree.Stmt.{Stmt}
use Rattle.xc_tree.specs.Plain as tree
use Rattle.std.specs.Prelude.{option_map, is_some}
use Rattle.std.proofs.lemmas.List.{drop_all}
use Rattle.xw_words.proofs.Lists.{drop_item}
use Rattle.xc_tree.specs.declared.tree.At.{At}
use Rattle.xc_tree.specs.Trees.{statement_of, action_of, branch_of, place_of}
use Rattle.xc_tree.proofs.Forms.{statement-Stmt, branch-Branch}
use Rattle.xc_kernel.specs.Context.{Context, in_branch}
use Rattle.xc_kernel.specs.Calls.{CopiesCall}
use Rattle.xc_kernel.specs.Copy.{Copy, no_copy}
use Rattle.xc_kernel.specs.Ports.{core_of, pos_of_place}
use Rattle.xc_kernel.specs.Statements.{calls_copy, pos_of, statement_copy}
use Rattle.xc_kernel.specs.Roots.{Rooted, no_roots, and_roots, roots_then, action_roots, block_roots, branch_root, branch_roots, numbered_roots, root_in_scope_of, root_of, is_placed, has_placed, action_has_placed, block_has_placed}
use Rattle.xc_kernel.specs.Scopes.{Scope, a_constant, with_name}
use Rattle.xc_inline.proofs.Laws.Growth.{joined_assoc, joined_last, calls_keep, further, grown_left, statement_grows, with_one}
use Rattle.xc_inline.specs.Growth.{Grows}

and_assoc : (a b c : Rooted) → and_roots (and_roots a b) c ≡ and_roots a (and_roots b c)
and_assoc a b c = λ i. record { made = joined_assoc a.made b.made c.made i; roots = append_assoc a.roots b.roots c.roots i }

-- with no roots behind them they are as they are
pub and_none : (a : Rooted) → and_roots a (no_roots (no_copy a.made.scope)) ≡ a
and_none a = λ i. record { made = joined_last a.made i; roots = append-nil a.roots i }

-- some roots, the next behind them, and then the rest
pub then_next : (before : Rooted) (next rest : Scope → Rooted) {after : Rooted} → after ≡ roots_then before next → roots_then after rest ≡ roots_then before (λ s. roots_then (next s) rest)
then_next before next rest e = ap (λ a. roots_then a rest) e ∙ and_assoc before (next before.made.scope) (rest (next before.made.scope).made.scope)

-- roots that are these know the names that these know
pub own_scope : (of : Scope → Rooted) {scope : Scope} {whole : Rooted} → of scope ≡ whole → ((s : Scope) → (of s).made.scope ≡ s) → of whole.made.scope ≡ whole
own_scope of {scope} e own = sym (ap of (sym (own scope) ∙ ap (λ r. r.made.scope) e)) ∙ e

-- whether the statement at a place, or one behind it, has a placed branch
pub block_placed_step : (ss : List Stmt) (i : ℕ) (s : Stmt) → s ≡ get_or ss i s → i < length ss → block_has_placed (tree.statements (map statement_of (drop i ss))) ≡ (action_has_placed (action_of s.kind.value) || block_has_placed (tree.statements (map statement_of (drop (i + 1) ss))))
block_placed_step ss i s e h =
    let rest = tree.statements (map statement_of (drop (i + 1) ss)) in
    ap (λ xs. block_has_placed (tree.statements (map statement_of xs))) (drop_item ss i s e h) ∙ ap (λ x. block_has_placed (tree.more x rest)) (statement-Stmt s)

placed_as : (place : Option At) → is_some (option_map place_of place) ≡ is_some place
placed_as None = refl
placed_as (Some at) = refl

pub is_placed_as : (b : Branch) → is_placed (branch_of b) ≡ is_some b.place
is_placed_as b = ap is_placed (branch-Branch b) ∙ placed_as b.place

-- whether the branch at a place is placed, or one behind it
pub placed_step : (bs : List Branch) (i : ℕ) (b : Branch) → b ≡ get_or bs i b → i < length bs → has_placed (tree.branches (map branch_of (drop i bs))) ≡ (is_some b.place || has_placed (tree.branches (map branch_of (drop (i + 1) bs))))
placed_step bs i b e h =
    ap (λ xs. has_placed (tree.branches (map branch_of xs))) (drop_item bs i b e h)
    ∙ ap (λ x. x || has_placed (tree.branches (map branch_of (drop (i + 1) bs)))) (is_placed_as b)

-- whether main's roots are by a statement
abbrev pub makes_roots : tree.Action → Bool
makes_roots (tree.declare ds) = true
makes_roots (tree.par bs) = true
makes_roots (tree.replicated first second third from until b) = true
makes_roots other = false

module _ (copies : CopiesCall) (main : Pos) where
  -- the statement at a place of main's block, before those behind it
  pub block_step : (c : Context) (ss : List Stmt) (i : ℕ) (s : Stmt) (before : Rooted) {after whole : Rooted} → s ≡ get_or ss i s → i < length ss →
      after ≡ roots_then before (action_roots copies main (action_of s.kind.value) c) →
      roots_then before (block_roots copies main (tree.statements (map statement_of (drop i ss))) c) ≡ whole →
      roots_then after (block_roots copies main (tree.statements (map statement_of (drop (i + 1) ss))) c) ≡ whole
  block_step c ss i s before e h after whole =
      let rest = tree.statements (map statement_of (drop (i + 1) ss)) in
      let here : tree.statements (map statement_of (drop i ss)) ≡ tree.more (tree.statement (action_of s.kind.value) s.pos s.close s.own) rest =
      ap (λ xs. tree.statements (map statement_of xs)) (drop_item ss i s e h) ∙ ap (λ x. tree.more x rest) (statement-Stmt s) in
      then_next before (action_roots copies main (action_of s.kind.value) c) (block_roots copies main rest c) after
      ∙ sym (ap (λ xs. roots_then before (block_roots copies main xs c)) here) ∙ whole

  pub block_done : (c : Context) (ss : List Stmt) (i : ℕ) (a : Rooted) → length ss ≤ i → roots_then a (block_roots copies main (tree.statements (map statement_of (drop i ss))) c) ≡ a
  block_done c ss i a h = ap (λ xs. roots_then a (block_roots copies main (tree.statements (map statement_of xs)) c)) (drop_all i ss h) ∙ and_none a

  -- the branch at a place, before those behind it
  pub branch_step : (c : Context) (bs : List Branch) (i : ℕ) (b : Branch) (before : Rooted) {after whole : Rooted} → b ≡ get_or bs i b → i < length bs →
      after ≡ roots_then before (branch_root copies main (branch_of b) (in_branch c i)) →
      roots_then before (branch_roots copies main (tree.branches (map branch_of (drop i bs))) i c) ≡ whole →
      roots_then after (branch_roots copies main (tree.branches (map branch_of (drop (i + 1) bs))) (i + 1) c) ≡ whole
  branch_step c bs i b before e h after whole =
      then_next before (branch_root copies main (branch_of b) (in_branch c i)) (branch_roots copies main (tree.branches (map branch_of (drop (i + 1) bs))) (i + 1) c) after
      ∙ sym (ap (λ xs. roots_then before (branch_roots copies main (tree.branches (map branch_of xs)) i c)) (drop_item bs i b e h)) ∙ whole

  pub branches_done : (c : Context) (bs : List Branch) (i : ℕ) (a : Rooted) → length bs ≤ i → roots_then a (branch_roots copies main (tree.branches (map branch_of (drop i bs))) i c) ≡ a
  branches_done c bs i a h = ap (λ xs. roots_then a (branch_roots copies main (tree.branches (map branch_of xs)) i c)) (drop_all i bs h) ∙ and_none a

  -- the copy for one number, before those for the rest
  pub numbered_step : (b : tree.Branch) (name : List ℕ) (c : Context) (scope : Scope) (left count index number : ℕ) (before : Rooted) {after whole : Rooted} → left ≡ suc count →
      after ≡ and_roots before (root_in_scope_of copies scope (branch_root copies main b (in_branch c index) (with_name scope name (a_constant number)))) →
      and_roots before (numbered_roots copies main b name c scope left index number) ≡ whole →
      and_roots after (numbered_roots copies main b name c scope count (index + 1) (number + 1)) ≡ whole
  numbered_step b name c scope left count index number before e after whole =
      let one = root_in_scope_of copies scope (branch_root copies main b (in_branch c index) (with_name scope name (a_constant number))) in
      let rest = numbered_roots copies main b name c scope count (index + 1) (number + 1) in
      ap (λ a. and_roots a rest) after ∙ and_assoc before one rest
      ∙ sym (ap (λ n. and_roots before (numbered_roots copies main b name c scope n index number)) e) ∙ whole

  pub numbered_done : (b : tree.Branch) (name : List ℕ) (c : Context) (scope : Scope) (left index number : ℕ) (a : Rooted) → left ≡ 0 → a.made.scope ≡ scope → and_roots a (numbered_roots copies main b name c scope left index number) ≡ a
  numbered_done b name c scope left index number a e s =
      ap (λ n. and_roots a (numbered_roots copies main b name c scope n index number)) e ∙ sym (ap (λ x. and_roots a (no_roots (no_copy x))) s) ∙ and_none a

  -- other statements make no roots
  pub nothing_made : (c : Context) (r : Rooted) (a : tree.Action) → makes_roots a ≡ false → r ≡ roots_then r (action_roots copies main a c)
  nothing_made c r (tree.declare ds) h = cc
  nothing_made c r (tree.par bs) h = cc
  nothing_made c r (tree.replicated first second third from until b) h = cc
  nothing_made c r other h = sym (and_none r)

  -- a branch on its core
  pub branch_done : (c : Context) (scope : Scope) (b : Branch) {core : ℕ} {place : Pos} {on : Context} {copy : Copy} → core ≡ core_of scope (option_map place_of b.place) → place ≡ pos_of_place main (option_map place_of b.place) →
      on ≡ record c { core = core } → copy ≡ statement_copy copies (statement_of b.body) on scope → root_of core place b.body.pos copy ≡ branch_root copies main (branch_of b) c scope
  branch_done c scope b core place on copy =
      (λ i. root_of (core i) (place i) b.body.pos ((copy ∙ λ j. statement_copy copies (statement_of b.body) ((on ∙ λ k. record c { core = core k }) j) scope) i))
      ∙ ap (λ p. root_of (core_of scope (option_map place_of b.place)) (pos_of_place main (option_map place_of b.place)) p (statement_copy copies (statement_of b.body) (record c { core = core_of scope (option_map place_of b.place) }) scope)) (sym (ap pos_of (statement-Stmt b.body)))
      ∙ sym (ap (λ x. branch_root copies main x c scope) (branch-Branch b))

-- what a branch declares is known behind its root
root_grows : (n : ℕ) (main : Pos) (b : tree.Branch) (c : Context) (scope : Scope) → Grows scope (branch_root (calls_copy n) main b c scope).made.scope
root_grows n main (tree.branch place s) c scope = statement_grows (calls_copy n) (calls_keep n) s (record c { core = core_of scope place }) scope

-- and in the copy for a number the number's name too
pub number_grows : (n : ℕ) (main : Pos) (b : tree.Branch) (c : Context) (before : Rooted) {scope inside behind : Scope} {name : List ℕ} {number : ℕ} {after : Rooted} → inside ≡ with_name scope name (a_constant number) →
    after ≡ and_roots before (branch_root (calls_copy n) main b c inside) → after.made.scope ≡ behind → Grows scope behind
number_grows n main b c before {scope} {inside} {behind} {name} {number} inside' after' behind' =
    let both = further (subst (λ s. Grows scope s) (sym inside') (with_one scope name (a_constant number))) (root_grows n main b c inside) in
    subst (λ s. Grows scope s) (sym (ap (λ r. r.made.scope) after') ∙ behind') both

-- without them the names are those before
pub names_left : {scope behind after : Scope} {known : ℕ} → Grows scope behind → known ≡ length scope → after ≡ drop (length behind - known) behind → after ≡ scope
names_left {scope} {behind} grows known after = after ∙ ap (λ k. drop (length behind - k) behind) known ∙ grown_left grows
