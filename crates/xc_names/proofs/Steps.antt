-- How a walk's list of marks grows by what stands at its place.
use Rattle.std.proofs.Common.{◌≡◌, ℕ, ◌+◌, ◌<◌, List, [], ◌∷◌, ◌++◌, length, drop, get_or, map, sym, ap, ◌∙◌, append_assoc}
use Rattle.xw_words.proofs.Lists.{drop_item}
use Rattle.xc_tree.specs.declared.tree.Stmt.{Stmt}
use Rattle.xc_tree.specs.declared.tree.Branch.{Branch}
use Rattle.xc_tree.specs.declared.tree.Case.{Case}
use Rattle.xc_tree.specs.declared.names.Mark.{Mark}
use Rattle.xc_tree.specs.declared.names.Mark.TheVariants.{Opens, Closes}
use Rattle.xc_tree.specs.Names.Marks.{each, in_scope, of_statement, of_statements, of_branch, of_branches, of_case, of_cases}
use Rattle.xc_tree.specs.Plain.{statements, branches, cases}
use Rattle.xc_tree.specs.Trees.{statement_of, branch_of, case_of}

pub each_step : {V W : Type 0} (of : W → List Mark) (plain_of : V → W) (xs : List V) (i : ℕ) (x : V) →
    x ≡ get_or xs i x → i < length xs → each of (map plain_of (drop i xs)) ≡ of (plain_of x) ++ each of (map plain_of (drop (i + 1) xs))
each_step of plain_of xs i x e h = ap (λ ys. each of (map plain_of ys)) (drop_item xs i x e h)

pub statements_step : (xs : List Stmt) (i : ℕ) (x : Stmt) → x ≡ get_or xs i x → i < length xs → of_statements (statements (map statement_of (drop i xs))) ≡ of_statement (statement_of x) ++ of_statements (statements (map statement_of (drop (i + 1) xs)))
statements_step xs i x e h = ap (λ ys. of_statements (statements (map statement_of ys))) (drop_item xs i x e h)

pub branches_step : (xs : List Branch) (i : ℕ) (x : Branch) → x ≡ get_or xs i x → i < length xs → of_branches (branches (map branch_of (drop i xs))) ≡ of_branch (branch_of x) ++ of_branches (branches (map branch_of (drop (i + 1) xs)))
branches_step xs i x e h = ap (λ ys. of_branches (branches (map branch_of ys))) (drop_item xs i x e h)

pub cases_step : (xs : List Case) (i : ℕ) (x : Case) → x ≡ get_or xs i x → i < length xs → of_cases (cases (map case_of (drop i xs))) ≡ of_case (case_of x) ++ of_cases (cases (map case_of (drop (i + 1) xs)))
cases_step xs i x e h = ap (λ ys. of_cases (cases (map case_of ys))) (drop_item xs i x e h)

-- marks behind one mark, which was added before them
pub behind_one : (before : List Mark) (m : Mark) (after : List Mark) → before ++ m ∷ after ≡ (before ++ m ∷ []) ++ after
behind_one before m after = sym (append_assoc before (m ∷ []) after)

pub behind_two : (before xs ys : List Mark) → before ++ (xs ++ ys) ≡ (before ++ xs) ++ ys
behind_two before xs ys = sym (append_assoc before xs ys)

pub behind_three : (before xs ys zs : List Mark) → before ++ (xs ++ (ys ++ zs)) ≡ ((before ++ xs) ++ ys) ++ zs
behind_three before xs ys zs = behind_two before xs (ys ++ zs) ∙ behind_two (before ++ xs) ys zs

pub behind_four : (before xs ys zs ws : List Mark) → before ++ (xs ++ (ys ++ (zs ++ ws))) ≡ (((before ++ xs) ++ ys) ++ zs) ++ ws
behind_four before xs ys zs ws = behind_two before xs (ys ++ (zs ++ ws)) ∙ behind_three (before ++ xs) ys zs ws

pub behind_scope : (before inner : List Mark) → before ++ in_scope inner ≡ ((before ++ Opens ∷ []) ++ inner) ++ Closes ∷ []
behind_scope before inner = behind_one before Opens (inner ++ Closes ∷ []) ∙ behind_two (before ++ Opens ∷ []) inner (Closes ∷ [])

-- the scope of a replicated `par`, which begins with three names
pub behind_replicated : (before : List Mark) (a b c : Mark) (inner : List Mark) → before ++ in_scope (a ∷ b ∷ c ∷ inner) ≡ (((((before ++ Opens ∷ []) ++ a ∷ []) ++ b ∷ []) ++ c ∷ []) ++ inner) ++ Closes ∷ []
behind_replicated before a b c inner =
    let opened = before ++ Opens ∷ [] in
    behind_one before Opens (a ∷ b ∷ c ∷ (inner ++ Closes ∷ []))
    ∙ behind_one opened a (b ∷ c ∷ (inner ++ Closes ∷ []))
    ∙ behind_one (opened ++ a ∷ []) b (c ∷ (inner ++ Closes ∷ []))
    ∙ behind_one ((opened ++ a ∷ []) ++ b ∷ []) c (inner ++ Closes ∷ [])
    ∙ behind_two (((opened ++ a ∷ []) ++ b ∷ []) ++ c ∷ []) inner (Closes ∷ [])
