-- What the walk meets in a loop is nearer the end, and leaves the names that were known before it; and cases, by their parts.
use Rattle.std.proofs.Common.{◌≡◌, ℕ, ◌<◌, List, length, get_or, map, Option, true, Result, Ok, Err, is_ok, IfOk, arith, refl, ap, sym, subst, ◌∙◌}
use Rattle.std.specs.Option.{option_map}
use Rattle.xc_tree.proofs.Forms.{case-Case}
use Rattle.xc_tree.specs.declared.tree.Branch.{Branch}
use Rattle.xc_tree.specs.declared.tree.Case.{Case, out-Case}
use Rattle.xc_tree.specs.declared.tree.Head.{Head}
use Rattle.xc_tree.specs.declared.tree.Stmt.{Stmt}
use Rattle.xc_tree.specs.Plain as tree
use Rattle.xc_tree.specs.Trees as trees
use Rattle.xc_kernel.specs.Calls.{CopiesCall, as_block}
use Rattle.xc_kernel.specs.Context.{Context, in_case, in_loop}
use Rattle.xc_kernel.specs.Copy.{Copy, joined, followed_by}
use Rattle.xc_kernel.specs.Flow as flow
use Rattle.xc_kernel.specs.Paths.{Path, path_at}
use Rattle.xc_kernel.specs.Scopes.{Scope, Entity, with_name}
use Rattle.xc_kernel.specs.Statements.{statement_copy, statements_copy, maybe_copy, branch_copy, case_copy, calls_copy}
use Rattle.xw_words.specs.declared.memory.Memory.{Memory}
use Rattle.xw_words.specs.declared.pos.Pos.{Pos}
use Rattle.xc_inline.specs.Copied.{copy_of}
use Rattle.xc_inline.specs.declared.cases.Opened.{Opened}
use Rattle.xc_inline.specs.declared.copied.Copied.{Copied}
use Rattle.xc_inline.specs.declared.parts.Cased.{Cased}
use Rattle.xc_inline.specs.Cases.{case_by}
use Rattle.xc_inline.specs.Growth.{Grows}
use Rattle.xc_tree.specs.Heights.{height, height_of_statements, height_of_branch, height_of_branches, height_of_case, height_of_cases}
use Rattle.xc_inline.specs.Parts.{cased_before}
use Rattle.xc_inline.proofs.Laws.Actions.{in_branch_of, height_in_statements, height_in_branches, height_in_branch, height_in_cases, height_in_case}
use Rattle.xc_inline.proofs.Laws.Depths.{distance, down}
use Rattle.xc_inline.proofs.Laws.Growth.{calls_keep, further, grown_by, maybe_grows, statement_grows, with_one}

-- Further down.

pub statement_below : (n d : ℕ) (ss : List Stmt) (i : ℕ) (s : Stmt) {t : ℕ} → distance n d (height_of_statements (tree.statements (map trees.statement_of ss))) 1 ≡ t → s ≡ get_or ss i s → i < length ss → distance n d (height (trees.statement_of s)) 0 < t
statement_below n d ss i s left e h =
    let high = height_in_statements ss i s e h in
    down n d d (height_of_statements (tree.statements (map trees.statement_of ss))) 1 (height (trees.statement_of s)) 0 left refl (omega (arith, high))

-- the statement of a branch
pub branch_below : (n d e : ℕ) (b : Branch) {t : ℕ} → distance n d (height_of_branch (trees.branch_of b)) 1 ≡ t → e ≡ d → distance n e (height (trees.statement_of b.body)) 0 < t
branch_below n d e b left same =
    let high = height_in_branch b in
    down n d e (height_of_branch (trees.branch_of b)) 1 (height (trees.statement_of b.body)) 0 left same (omega (arith, high))

-- one of some branches
pub branches_below : (n d : ℕ) (bs : List Branch) (i : ℕ) (b : Branch) {t : ℕ} → distance n d (height_of_branches (tree.branches (map trees.branch_of bs))) 2 ≡ t → b ≡ get_or bs i b → i < length bs → distance n d (height_of_branch (trees.branch_of b)) 1 < t
branches_below n d bs i b left is h =
    let high = height_in_branches bs i b is h in
    down n d d (height_of_branches (tree.branches (map trees.branch_of bs))) 2 (height_of_branch (trees.branch_of b)) 1 left refl (omega (arith, high))

pub case_below : (n d : ℕ) (cs : List Case) (i : ℕ) (x : Case) {t : ℕ} → distance n d (height_of_cases (tree.cases (map trees.case_of cs))) 3 ≡ t → x ≡ get_or cs i x → i < length cs → distance n d (height_of_case (trees.case_of x)) 2 < t
case_below n d cs i x left is h =
    let high = height_in_cases cs i x is h in
    down n d d (height_of_cases (tree.cases (map trees.case_of cs))) 3 (height_of_case (trees.case_of x)) 2 left refl (omega (arith, high))

-- the statements of a case
pub body_below : (n d e : ℕ) (x : Case) (ss : List Stmt) {t : ℕ} → distance n d (height_of_case (trees.case_of x)) 2 ≡ t → e ≡ d → ss ≡ (out-Case x).body → distance n e (height_of_statements (tree.statements (map trees.statement_of ss))) 1 < t
body_below n d e x ss left same is =
    let high = height_in_case x in
    let body = ap (λ xs. height_of_statements (tree.statements (map trees.statement_of xs))) is in
    down n d e (height_of_case (trees.case_of x)) 2 (height_of_statements (tree.statements (map trees.statement_of ss))) 1 left same (omega (arith, high, body))

-- Names.

-- the names at a turn's beginning are those before the loop
pub grown_from : {first now after : Scope} → now ≡ first → Grows now after → Grows first after
grown_from {after = after} e g = subst (λ s. Grows s after) e g

-- a branch in which a name stands for a number
pub numbered_grows : (n : ℕ) (b : Branch) (c : Context) (name : List ℕ) (e : Entity) {first named : Scope} {copy : Copy} → named ≡ with_name first name e → copy ≡ branch_copy (calls_copy n) (trees.branch_of b) c named → Grows first copy.scope
numbered_grows n b c name e {first} {named} is copied =
    grown_by first (copied ∙ sym (in_branch_of (calls_copy n) b c named))
    (further
    (subst (λ x. Grows first x) (sym is) (with_one first name e))
    (statement_grows (calls_copy n) (calls_keep n) (trees.statement_of b.body) c named))

-- a `for`, within its scope
pub for_grows : (n : ℕ) (c : Context) (pos : Pos) (scope : Scope) (test : Option tree.Expression) (next : Scope → Copy) (first : tree.Maybe) (s : tree.Statement) {f copy : Copy} →
    f ≡ maybe_copy (calls_copy n) first c scope → copy ≡ joined f (flow.for_parts c pos test next (statement_copy (calls_copy n) s (in_loop c pos)) f.scope) → Grows scope copy.scope
for_grows n c pos scope test next first s f copied =
    grown_by scope (copied ∙ λ i. followed_by (f i) (flow.for_parts c pos test next (statement_copy (calls_copy n) s (in_loop c pos))))
    (further (maybe_grows (calls_copy n) (calls_keep n) first c scope) (statement_grows (calls_copy n) (calls_keep n) s (in_loop c pos) _))

-- the names behind what was made
pub grown_where : (r : Result Copied Memory) (before after : Scope) (whole : Copy) → is_ok r ≡ true → IfOk r (λ x. copy_of x after ≡ whole) → Grows before whole.scope → Grows before after
grown_where (Ok x) before after whole made is grows = grown_by before is grows
grown_where (Err e) before after whole made is grows = let never : ⊥ = cc in absurd never

-- Cases.

module _ (copies : CopiesCall) (c : Context) (scope : Scope) (x : Case) where
  case_as : {head : Option Head} → (out-Case x).head ≡ head → (others : flow.Cased) →
      case_copy copies (trees.case_of x) c scope others
      ≡ flow.and_case c scope (out-Case x).pos (option_map trees.expression_of (out-Case x).guard) (option_map trees.input_of head) (statements_copy copies (tree.statements (map trees.statement_of (out-Case x).body)) (in_case c (out-Case x).pos) (flow.case_scope c scope (option_map trees.input_of head))) others
  case_as e others =
      ap (λ y. case_copy copies y c scope others) (case-Case x)
      ∙ ap (λ h. flow.and_case c scope (out-Case x).pos (option_map trees.expression_of (out-Case x).guard) (option_map trees.input_of h) (statements_copy copies (tree.statements (map trees.statement_of (out-Case x).body)) (in_case c (out-Case x).pos) (flow.case_scope c scope (option_map trees.input_of h))) others) e

  -- a case, or the `default`, by what came of it before its body
  pub case_done : {path slice : Path} {inner : Context} {mid : Scope} {ss : List Stmt} {body : Copy} (opened : Option Opened) (before after : Cased) →
      path ≡ path_at c.path (out-Case x).pos → slice ≡ path → inner ≡ record c { breaks = slice } → ss ≡ (out-Case x).body →
      mid ≡ flow.case_scope c scope (option_map trees.input_of (out-Case x).head) →
      ((whole : Copy) (others : flow.Cased) → case_by opened mid (as_block c (path_at c.path (out-Case x).pos) whole) others ≡ flow.and_case c scope (out-Case x).pos (option_map trees.expression_of (out-Case x).guard) (option_map trees.input_of (out-Case x).head) whole others) →
      body ≡ statements_copy copies (tree.statements (map trees.statement_of ss)) inner mid →
      ((others : flow.Cased) → cased_before after others ≡ cased_before before (case_by opened mid (as_block c path body) others)) →
      (others : flow.Cased) → cased_before after others ≡ cased_before before (case_copy copies (trees.case_of x) c scope others)
  case_done {mid = mid} {body = body} opened before after path slice inner ss known by body' made others =
      let pos = (out-Case x).pos in
      let head = option_map trees.input_of (out-Case x).head in
      let guard = option_map trees.expression_of (out-Case x).guard in
      let here = inner ∙ ap (λ p. record c { breaks = p }) (slice ∙ path) in
      let whole = body' ∙ λ i. statements_copy copies (tree.statements (map trees.statement_of (ss i))) (here i) (known i) in
      made others
      ∙ ap (λ p. cased_before before (case_by opened mid (as_block c p body) others)) path
      ∙ ap (cased_before before) (by body others)
      ∙ ap (λ b. cased_before before (flow.and_case c scope pos guard head b others)) whole
      ∙ sym (ap (cased_before before) (case_as refl others))
