-- What each form of statement marks, by what its parts mark.
use Rattle.std.proofs.Common.{◌≡◌, ℕ, ◌+◌, ◌<◌, Bool, false, ◌||◌, List, length, map, drop, get_or, sym, ap, ◌∙◌}
use Rattle.std.proofs.lemmas.List.{at_drop_more}
use Rattle.xc_kernel.specs.declared.statement.Kst.{Kst}
use Rattle.xc_kernel.specs.declared.statement.KBranch.{KBranch}
use Rattle.xc_kernel.specs.declared.statement.KCase.{KCase}
use Rattle.std.specs.Prelude.{option_map}
use Rattle.xc_kernel.specs.Kernels.{branch_of, case_of, expression_of, input_of, statement_of}
use Rattle.xc_kernel.specs.Plain as kernel
use Rattle.xc_kernel.specs.Things.{channel, by_branches, by_cases, by_expression, by_input, by_resource, by_statement, by_statements}
use Rattle.xc_kernel.proofs.Forms.{branch-KBranch, case-KCase}
use Rattle.xc_kernel.proofs.Used.{by_resource_of, no_expression, no_some_expression}
use Rattle.xl_ends.specs.Uses.{marked}
use Rattle.xl_ends.proofs.Marks.{marks_as, marks_both, marks_none, marks_on}

-- the statements that a list stands for
abbrev pub code_of : List Kst → kernel.Statements
code_of ss = kernel.statements (map statement_of ss)

-- a statement that uses no channel
pub none_used : (us : List Bool) (s t : kernel.Statement) → s ≡ t → ((c : ℕ) → by_statement (channel c) t ≡ false) → us ≡ marked (λ c. by_statement (channel c) s) us
none_used us s t is none = marks_none (λ c. by_statement (channel c) s) us (λ c. ap (by_statement (channel c)) is ∙ none c)

-- a statement that uses what a test says
pub use_of : (f : ℕ → Bool) (us new : List Bool) (s t : kernel.Statement) → s ≡ t → new ≡ marked f us → ((c : ℕ) → f c ≡ by_statement (channel c) t) → new ≡ marked (λ c. by_statement (channel c) s) us
use_of f us new s t is h same = marks_as f (λ c. by_statement (channel c) s) us new h (λ c. same c ∙ ap (by_statement (channel c)) (sym is))

-- behind an expression, which uses none
pub past_expression : (c : ℕ) (x : kernel.Expression) (b : Bool) → b ≡ (by_expression (channel c) x || b)
past_expression c x b = ap (λ (a : Bool). a || b) (sym (no_expression c x))

module _ (all new us : List Bool) where
  -- the next of some statements
  pub next_statement : (ss : List Kst) (i : ℕ) (s : Kst) → s ≡ get_or ss i s → i < length ss → all ≡ marked (λ c. by_statements (channel c) (code_of (drop i ss))) us → new ≡ marked (λ c. by_statement (channel c) (statement_of s)) us → all ≡ marked (λ c. by_statements (channel c) (code_of (drop (i + 1) ss))) new
  next_statement ss i s is lt whole h =
      marks_on (λ c. by_statement (channel c) (statement_of s)) (λ c. by_statements (channel c) (code_of (drop (i + 1) ss))) (λ c. by_statements (channel c) (code_of (drop i ss))) all us new whole same h
    where
      same : (c : ℕ) → by_statements (channel c) (code_of (drop i ss)) ≡ (by_statement (channel c) (statement_of s) || by_statements (channel c) (code_of (drop (i + 1) ss)))
      same c = at_drop_more (λ xs. by_statements (channel c) (code_of xs)) ss i s lt ∙ ap (λ (x : Kst). by_statement (channel c) (statement_of x) || by_statements (channel c) (code_of (drop (i + 1) ss))) (sym is)

  -- the next of some branches
  pub next_branch : (bs : List KBranch) (i : ℕ) (b : KBranch) (body : List Kst) → b ≡ get_or bs i b → i < length bs → body ≡ b.body → all ≡ marked (λ c. by_branches (channel c) (kernel.branches (map branch_of (drop i bs)))) us → new ≡ marked (λ c. by_statements (channel c) (code_of body)) us → all ≡ marked (λ c. by_branches (channel c) (kernel.branches (map branch_of (drop (i + 1) bs)))) new
  next_branch bs i b body is lt body_is whole h =
      marks_on (λ c. by_statements (channel c) (code_of body)) (λ c. by_branches (channel c) (kernel.branches (map branch_of (drop (i + 1) bs)))) (λ c. by_branches (channel c) (kernel.branches (map branch_of (drop i bs)))) all us new whole same h
    where
      same : (c : ℕ) → by_branches (channel c) (kernel.branches (map branch_of (drop i bs))) ≡ (by_statements (channel c) (code_of body) || by_branches (channel c) (kernel.branches (map branch_of (drop (i + 1) bs))))
      same c =
          at_drop_more (λ xs. by_branches (channel c) (kernel.branches (map branch_of xs))) bs i b lt
          ∙ ap (λ (x : KBranch). by_branches (channel c) (kernel.more_branches (branch_of x) (kernel.branches (map branch_of (drop (i + 1) bs))))) (sym is)
          ∙ ap (λ (x : kernel.Branch). by_branches (channel c) (kernel.more_branches x (kernel.branches (map branch_of (drop (i + 1) bs))))) (branch-KBranch b)
          ∙ ap (λ (ss : List Kst). by_statements (channel c) (code_of ss) || by_branches (channel c) (kernel.branches (map branch_of (drop (i + 1) bs)))) (sym body_is)

  -- the next of some cases: its input's resource, and then its body
  pub next_case : (mid : List Bool) (cs : List KCase) (i : ℕ) (x : KCase) (body : List Kst) → x ≡ get_or cs i x → i < length cs → body ≡ x.body → all ≡ marked (λ c. by_cases (channel c) (kernel.cases (map case_of (drop i cs)))) us → mid ≡ marked (λ c. by_resource (channel c) x.head.res) us → new ≡ marked (λ c. by_statements (channel c) (code_of body)) mid → all ≡ marked (λ c. by_cases (channel c) (kernel.cases (map case_of (drop (i + 1) cs)))) new
  next_case mid cs i x body is lt body_is whole first second =
      marks_on (λ c. by_resource (channel c) x.head.res || by_statements (channel c) (code_of body)) (λ c. by_cases (channel c) (kernel.cases (map case_of (drop (i + 1) cs)))) (λ c. by_cases (channel c) (kernel.cases (map case_of (drop i cs)))) all us new whole same
      (marks_both (λ c. by_resource (channel c) x.head.res) (λ c. by_statements (channel c) (code_of body)) us mid new first second)
    where
      same : (c : ℕ) → by_cases (channel c) (kernel.cases (map case_of (drop i cs))) ≡ ((by_resource (channel c) x.head.res || by_statements (channel c) (code_of body)) || by_cases (channel c) (kernel.cases (map case_of (drop (i + 1) cs))))
      same c =
          at_drop_more (λ ys. by_cases (channel c) (kernel.cases (map case_of ys))) cs i x lt
          ∙ ap (λ (y : KCase). by_cases (channel c) (kernel.more_cases (case_of y) (kernel.cases (map case_of (drop (i + 1) cs))))) (sym is)
          ∙ ap (λ (y : kernel.Case). by_cases (channel c) (kernel.more_cases y (kernel.cases (map case_of (drop (i + 1) cs))))) (case-KCase x)
          ∙ ap (λ (b : Bool). (b || (by_input (channel c) (input_of x.head) || by_statements (channel c) (code_of x.body))) || by_cases (channel c) (kernel.cases (map case_of (drop (i + 1) cs)))) (no_some_expression c (option_map expression_of x.guard))
          ∙ ap (λ (b : Bool). (b || by_statements (channel c) (code_of x.body)) || by_cases (channel c) (kernel.cases (map case_of (drop (i + 1) cs)))) (by_resource_of c (input_of x.head))
          ∙ ap (λ (ss : List Kst). (by_resource (channel c) x.head.res || by_statements (channel c) (code_of ss)) || by_cases (channel c) (kernel.cases (map case_of (drop (i + 1) cs)))) (sym body_is)
