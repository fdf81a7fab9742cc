-- Loops over the pieces of a program: what has been copied, before the copy of the rest, is the copy of all.
use Rattle.std.proofs.Common.{◌≡◌, ℕ, suc, ◌+◌, ◌-◌, ◌<◌, ◌≤◌, List, [], ◌∷◌, length, drop, get_or, map, arith, ap, sym, ◌∙◌}
use Rattle.std.proofs.lemmas.List.{drop_all}
use Rattle.xw_words.proofs.Lists.{drop_item}
use Rattle.xw_words.specs.declared.pos.Pos.{Pos}
use Rattle.xc_tree.specs.declared.tree.Branch.{Branch}
use Rattle.xc_tree.specs.declared.tree.Case.{Case}
use Rattle.xc_tree.specs.declared.tree.Declared.{Declared}
use Rattle.xc_tree.specs.declared.tree.Stmt.{Stmt}
use Rattle.xc_tree.specs.Plain as tree
use Rattle.xc_tree.specs.Trees.{branch_of, case_of, declaration_of, statement_of}
use Rattle.xc_kernel.specs.Calls.{CopiesCall}
use Rattle.xc_kernel.specs.Context.{Context, in_branch}
use Rattle.xc_kernel.specs.Copy.{Copy, joined, followed_by}
use Rattle.xc_kernel.specs.Declarations.{declaration_copy, declarations_copy}
use Rattle.xc_kernel.specs.Flow as flow
use Rattle.xc_kernel.specs.Scopes.{Scope}
use Rattle.xc_kernel.specs.Statements.{pos_of_branch, statement_copy, statements_copy, branch_copy, branches_copy, case_copy, cases_copy}
use Rattle.xc_inline.specs.declared.parts.Branched.{Branched}
use Rattle.xc_inline.specs.declared.parts.Cased.{Cased}
use Rattle.xc_inline.specs.Parts.{branched_before, cased_before}
use Rattle.xc_inline.proofs.Laws.Growth.{behind, joined_last}

statements_at : (ss : List Stmt) (i : ℕ) (s : Stmt) → s ≡ get_or ss i s → i < length ss → tree.statements (map statement_of (drop i ss)) ≡ tree.more (statement_of s) (tree.statements (map statement_of (drop (i + 1) ss)))
statements_at ss i s e h = ap (λ xs. tree.statements (map statement_of xs)) (drop_item ss i s e h)

statements_end : (ss : List Stmt) (i : ℕ) → length ss ≤ i → tree.statements (map statement_of (drop i ss)) ≡ tree.no_more
statements_end ss i h = ap (λ xs. tree.statements (map statement_of xs)) (drop_all i ss h)

declarations_at : (ds : List Declared) (i : ℕ) (d : Declared) → d ≡ get_or ds i d → i < length ds → map declaration_of (drop i ds) ≡ declaration_of d ∷ map declaration_of (drop (i + 1) ds)
declarations_at ds i d e h = ap (map declaration_of) (drop_item ds i d e h)

declarations_end : (ds : List Declared) (i : ℕ) → length ds ≤ i → map declaration_of (drop i ds) ≡ []
declarations_end ds i h = ap (map declaration_of) (drop_all i ds h)

branches_at : (bs : List Branch) (i : ℕ) (b : Branch) → b ≡ get_or bs i b → i < length bs → tree.branches (map branch_of (drop i bs)) ≡ tree.more_branches (branch_of b) (tree.branches (map branch_of (drop (i + 1) bs)))
branches_at bs i b e h = ap (λ xs. tree.branches (map branch_of xs)) (drop_item bs i b e h)

branches_end : (bs : List Branch) (i : ℕ) → length bs ≤ i → tree.branches (map branch_of (drop i bs)) ≡ tree.no_branch
branches_end bs i h = ap (λ xs. tree.branches (map branch_of xs)) (drop_all i bs h)

cases_at : (cs : List Case) (i : ℕ) (x : Case) → x ≡ get_or cs i x → i < length cs → tree.cases (map case_of (drop i cs)) ≡ tree.more_cases (case_of x) (tree.cases (map case_of (drop (i + 1) cs)))
cases_at cs i x e h = ap (λ xs. tree.cases (map case_of xs)) (drop_item cs i x e h)

cases_end : (cs : List Case) (i : ℕ) → length cs ≤ i → tree.cases (map case_of (drop i cs)) ≡ tree.no_case
cases_end cs i h = ap (λ xs. tree.cases (map case_of xs)) (drop_all i cs h)

module _ (copies : CopiesCall) (c : Context) where
  -- statements

  pub statements_more : (ss : List Stmt) (i : ℕ) (s : Stmt) → s ≡ get_or ss i s → i < length ss → (before : Copy) {after copy whole : Copy} →
      copy ≡ statement_copy copies (statement_of s) c before.scope → after ≡ joined before copy →
      followed_by before (statements_copy copies (tree.statements (map statement_of (drop i ss))) c) ≡ whole →
      followed_by after (statements_copy copies (tree.statements (map statement_of (drop (i + 1) ss))) c) ≡ whole
  statements_more ss i s e h before copied after so_far =
      sym (ap (λ xs. followed_by before (statements_copy copies xs c)) (statements_at ss i s e h)
      ∙ behind before (statements_copy copies (tree.statements (map statement_of (drop (i + 1) ss))) c) copied after)
      ∙ so_far

  pub statements_all : (ss : List Stmt) (i : ℕ) → length ss ≤ i → (all : Copy) {whole : Copy} → followed_by all (statements_copy copies (tree.statements (map statement_of (drop i ss))) c) ≡ whole → all ≡ whole
  statements_all ss i h all so_far =
      sym (ap (λ xs. followed_by all (statements_copy copies xs c)) (statements_end ss i h) ∙ joined_last all) ∙ so_far

  -- declared names

  pub declarations_more : (ds : List Declared) (i : ℕ) (d : Declared) → d ≡ get_or ds i d → i < length ds → (before : Copy) {after copy whole : Copy} →
      copy ≡ declaration_copy copies c before.scope (declaration_of d) → after ≡ joined before copy →
      followed_by before (declarations_copy copies c (map declaration_of (drop i ds))) ≡ whole →
      followed_by after (declarations_copy copies c (map declaration_of (drop (i + 1) ds))) ≡ whole
  declarations_more ds i d e h before copied after so_far =
      sym (ap (λ xs. followed_by before (declarations_copy copies c xs)) (declarations_at ds i d e h)
      ∙ behind before (declarations_copy copies c (map declaration_of (drop (i + 1) ds))) copied after)
      ∙ so_far

  pub declarations_all : (ds : List Declared) (i : ℕ) → length ds ≤ i → (all : Copy) {whole : Copy} → followed_by all (declarations_copy copies c (map declaration_of (drop i ds))) ≡ whole → all ≡ whole
  declarations_all ds i h all so_far =
      sym (ap (λ xs. followed_by all (declarations_copy copies c xs)) (declarations_end ds i h) ∙ joined_last all) ∙ so_far

  -- branches

  pub branches_more : (bs : List Branch) (i : ℕ) (b : Branch) → b ≡ get_or bs i b → i < length bs → (scope : Scope) (before after : Branched) {copy : Copy} {whole : flow.Branched} →
      copy ≡ branch_copy copies (branch_of b) (in_branch c i) scope →
      ((others : flow.Branched) → branched_before after others ≡ branched_before before (flow.and_branch (pos_of_branch (branch_of b)) copy others)) →
      branched_before before (branches_copy copies (tree.branches (map branch_of (drop i bs))) i c scope) ≡ whole →
      branched_before after (branches_copy copies (tree.branches (map branch_of (drop (i + 1) bs))) (i + 1) c copy.scope) ≡ whole
  branches_more bs i b e h scope before after {copy} copied more so_far =
      let rest = tree.branches (map branch_of (drop (i + 1) bs)) in
      more (branches_copy copies rest (i + 1) c copy.scope)
      ∙ (λ j. branched_before before (flow.branch_then (pos_of_branch (branch_of b)) (copied j) (branches_copy copies rest (i + 1) c)))
      ∙ sym (ap (λ xs. branched_before before (branches_copy copies xs i c scope)) (branches_at bs i b e h))
      ∙ so_far

  pub branches_all : (bs : List Branch) (i : ℕ) → length bs ≤ i → (scope : Scope) (all : Branched) {whole : flow.Branched} →
      branched_before all (branches_copy copies (tree.branches (map branch_of (drop i bs))) i c scope) ≡ whole → branched_before all (flow.no_branches scope) ≡ whole
  branches_all bs i h scope all so_far =
      sym (ap (λ xs. branched_before all (branches_copy copies xs i c scope)) (branches_end bs i h)) ∙ so_far

  -- cases

  pub cases_more : (cs : List Case) (i : ℕ) (x : Case) → x ≡ get_or cs i x → i < length cs → (scope : Scope) (before after : Cased) {whole : flow.Cased} →
      ((others : flow.Cased) → cased_before after others ≡ cased_before before (case_copy copies (case_of x) c scope others)) →
      cased_before before (cases_copy copies (tree.cases (map case_of (drop i cs))) c scope) ≡ whole →
      cased_before after (cases_copy copies (tree.cases (map case_of (drop (i + 1) cs))) c scope) ≡ whole
  cases_more cs i x e h scope before after more so_far =
      more (cases_copy copies (tree.cases (map case_of (drop (i + 1) cs))) c scope)
      ∙ sym (ap (λ xs. cased_before before (cases_copy copies xs c scope)) (cases_at cs i x e h))
      ∙ so_far

  pub cases_all : (cs : List Case) (i : ℕ) → length cs ≤ i → (scope : Scope) (all : Cased) {whole : flow.Cased} →
      cased_before all (cases_copy copies (tree.cases (map case_of (drop i cs))) c scope) ≡ whole → cased_before all (flow.no_cases scope) ≡ whole
  cases_all cs i h scope all so_far =
      sym (ap (λ xs. cased_before all (cases_copy copies xs c scope)) (cases_end cs i h)) ∙ so_far

-- one more branch behind those that were held
pub and_made : (after : Branched) (copy : Copy) {held before : Branched} {pos start : Pos} → held ≡ before → pos ≡ start →
    ((others : flow.Branched) → branched_before after others ≡ branched_before held (flow.and_branch pos copy others)) →
    (others : flow.Branched) → branched_before after others ≡ branched_before before (flow.and_branch start copy others)
and_made after copy held pos made others = made others ∙ λ i. branched_before (held i) (flow.and_branch (pos i) copy others)

-- numbered copies of a branch

module _ (copy : ℕ → ℕ → Copy) (pos : Pos) (scope : Scope) (from until : ℕ) where
  numbered_at : (number : ℕ) → from ≤ number → number < until → flow.replicated copy pos scope (until - number) (number - from) number ≡ flow.and_branch pos (copy (number - from) number) (flow.replicated copy pos scope (until - (number + 1)) (number + 1 - from) (number + 1))
  numbered_at number above below =
      let left : ◌≡◌ {A = ℕ} (until - number) (suc (until - (number + 1))) = omega (arith, below) in
      let index : ◌≡◌ {A = ℕ} (number - from + 1) (number + 1 - from) = omega (arith, above) in
      ap (λ n. flow.replicated copy pos scope n (number - from) number) left
      ∙ ap (λ n. flow.and_branch pos (copy (number - from) number) (flow.replicated copy pos scope (until - (number + 1)) n (number + 1))) index

  pub numbered_begun : flow.replicated copy pos scope (until - from) (from - from) from ≡ flow.replicated copy pos scope (until - from) 0 from
  numbered_begun =
      let none : ◌≡◌ {A = ℕ} (from - from) 0 = omega arith in
      ap (λ n. flow.replicated copy pos scope (until - from) n from) none

  pub numbered_more : (number : ℕ) → from ≤ number → number < until → (before after : Branched) {one : Copy} {whole : flow.Branched} →
      one ≡ copy (number - from) number →
      ((others : flow.Branched) → branched_before after others ≡ branched_before before (flow.and_branch pos one others)) →
      branched_before before (flow.replicated copy pos scope (until - number) (number - from) number) ≡ whole →
      branched_before after (flow.replicated copy pos scope (until - (number + 1)) (number + 1 - from) (number + 1)) ≡ whole
  numbered_more number above below before after made more so_far =
      let rest = flow.replicated copy pos scope (until - (number + 1)) (number + 1 - from) (number + 1) in
      more rest
      ∙ ap (λ x. branched_before before (flow.and_branch pos x rest)) made
      ∙ sym (ap (branched_before before) (numbered_at number above below))
      ∙ so_far

  pub numbered_all : (number : ℕ) → until ≤ number → (all : Branched) {whole : flow.Branched} →
      branched_before all (flow.replicated copy pos scope (until - number) (number - from) number) ≡ whole → branched_before all (flow.no_branches scope) ≡ whole
  numbered_all number above all so_far =
      let none : ◌≡◌ {A = ℕ} (until - number) 0 = omega (arith, above) in
      sym (ap (λ n. branched_before all (flow.replicated copy pos scope n (number - from) number)) none) ∙ so_far
