-- What is measured by the heights of statements falls, where a walk goes from a statement to what it holds.
use Rattle.std.proofs.Common.{◌≡◌, refl, ℕ, zero, suc, ◌+◌, ◌*◌, ◌<◌, ◌≤◌, max, List, [], ◌∷◌, length, get_or, map, sym, subst, arith}
use Rattle.xc_tree.specs.Heights.{height, height_of_statements, height_of_branch, height_of_branches, height_of_case, height_of_cases}
use Rattle.xc_tree.specs.declared.tree.Branch.{Branch}
use Rattle.xc_tree.specs.declared.tree.Case.{Case}
use Rattle.xc_tree.specs.declared.tree.Stmt.{Stmt}
use Rattle.xc_tree.specs.Plain as tree
use Rattle.xc_tree.specs.Trees.{branch_of, case_of, statement_of}

-- a part of this height is measured below what is left, where it is no higher
pub falls : (h r i q : ℕ) {t : ℕ} → 5 * h + r ≡ t → 5 * i + q < 5 * h + r → 5 * i + q < t
falls h r i q left less = subst (λ (t : ℕ). 5 * i + q < t) left less

pub same_height : (h i r q k : ℕ) → h ≡ i → q + suc k ≡ r → 5 * i + q < 5 * h + r
same_height h i r q k e l = omega arith

pub no_higher : (h i r q k : ℕ) → i ≤ h → q + suc k ≡ r → 5 * i + q < 5 * h + r
no_higher h i r q k e l = omega arith

-- what stands in a list is no higher than the list
-- the highest of two and of three is no lower than each
pub in_left : (a b : ℕ) → a ≤ max a b
in_left a b = omega arith

pub in_right : (a b : ℕ) → b ≤ max a b
in_right a b = omega arith

pub in_middle : (a b c : ℕ) → b ≤ max a (max b c)
in_middle a b c = omega arith

pub in_last : (a b c : ℕ) → c ≤ max a (max b c)
in_last a b c = omega arith

behind : (a b c : ℕ) → a ≤ c → a ≤ max b c
behind a b c h = omega arith

before : (n i : ℕ) → suc i < suc n → i < n
before n i h = omega arith

none : {A : Type 0} (i : ℕ) → i < 0 → A
none i h = absurd (omega arith)

-- an item of a list is no higher than the list, by whatever measure goes by the items
pub item_within : {V : Type 0} (of : V → ℕ) (all : List V → ℕ) → ((y : V) (ys : List V) → max (of y) (all ys) ≡ all (y ∷ ys)) →
    (xs : List V) (i : ℕ) (x : V) → x ≡ get_or xs i x → i < length xs → of x ≤ all xs
item_within of all more [] i x e h = none i h
item_within of all more (y ∷ ys) zero x e h =
    subst (λ (z : _). of z ≤ all (y ∷ ys)) (sym e) (subst (λ (n : ℕ). of y ≤ n) (more y ys) (in_left (of y) (all ys)))
item_within of all more (y ∷ ys) (suc i) x e h =
    subst (λ (n : ℕ). of x ≤ n) (more y ys) (behind (of x) (of y) (all ys) (item_within of all more ys i x e (before (length ys) i h)))

pub statement_within : (xs : List Stmt) (i : ℕ) (x : Stmt) → x ≡ get_or xs i x → i < length xs → height (statement_of x) ≤ height_of_statements (tree.statements (map statement_of xs))
statement_within = item_within (λ x. height (statement_of x)) (λ xs. height_of_statements (tree.statements (map statement_of xs))) (λ y ys. refl)

pub branch_within : (xs : List Branch) (i : ℕ) (x : Branch) → x ≡ get_or xs i x → i < length xs → height_of_branch (branch_of x) ≤ height_of_branches (tree.branches (map branch_of xs))
branch_within = item_within (λ x. height_of_branch (branch_of x)) (λ xs. height_of_branches (tree.branches (map branch_of xs))) (λ y ys. refl)

pub case_within : (xs : List Case) (i : ℕ) (x : Case) → x ≡ get_or xs i x → i < length xs → height_of_case (case_of x) ≤ height_of_cases (tree.cases (map case_of xs))
case_within = item_within (λ x. height_of_case (case_of x)) (λ xs. height_of_cases (tree.cases (map case_of xs))) (λ y ys. refl)
