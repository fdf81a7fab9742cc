-- The first clash of code by those of its parts, and of branches one behind the other.
use Rattle.std.proofs.Common.{◌≡◌, ◌⊎◌, inl, inr, ⊎_elim, ℕ, zero, suc, ◌+◌, ◌<◌, IsTrue, List, [], ◌∷◌, ◌++◌, length, drop, get_or, map, slice_get, Option, Some, None, refl, sym, ap, subst, ◌∙◌, arith}
use Rattle.std.proofs.lemmas.Bool.{or_cases, or_left, or_right}
use Rattle.xw_words.specs.declared.pos.Pos.{Pos}
use Rattle.xw_words.specs.declared.pos.Broken.{Broken}
use Rattle.xc_tree.specs.Least.{IsLeastOf, first_of}
use Rattle.xc_tree.proofs.Leasts.{either, of_same, none_broken}
use Rattle.xc_kernel.specs.declared.statement.Kst.{Kst}
use Rattle.xc_kernel.specs.declared.kernel.Root.{Root}
use Rattle.xc_kernel.specs.declared.statement.KCase.{KCase}
use Rattle.xc_kernel.specs.declared.statement.KBranch.{KBranch}
use Rattle.xc_kernel.proofs.Forms.{branch-KBranch}
use Rattle.xc_kernel.specs.Kernels.{branch_of, case_of, root_of, statement_of}
use Rattle.xc_kernel.specs.Plain as kernel
use Rattle.xc_kernel.specs.Things.{Thing, by_branch}
use Rattle.xc_kernel.specs.Pars as pars
use Rattle.xc_kernel.specs.Branches.{branch_at, branches_of, pos_of}
use Rattle.xc_disjoint.specs.Clashes.{Clash, rule_against, Clashes}
use Rattle.xc_disjoint.specs.Footprints.{Uses, nothing, both, of_statement, of_statements, of_case, of_cases}
use Rattle.xc_disjoint.proofs.FootprintSteps.{both_each}
use Rattle.xc_disjoint.specs.Behind.{ClashesBy, ClashesBehind}
use Rattle.xc_disjoint.proofs.FirstSoFar.{some_same, none_same, Goes, goes_on}
use Rattle.xc_disjoint.proofs.Covered.{covered_first, covered_second}
use Rattle.xw_words.proofs.Lists.{drop_item}

-- Lists of `par`s.

in_first : {A : Type 0} (xs ys : List A) (i : ℕ) (a : A) → slice_get xs i ≡ Some a → slice_get (xs ++ ys) i ≡ Some a
in_first [] ys i a e = none_same a e
in_first (x ∷ xs) ys zero a e = e
in_first (x ∷ xs) ys (suc i) a e = in_first xs ys i a e

in_second : {A : Type 0} (xs ys : List A) (i : ℕ) (a : A) → slice_get ys i ≡ Some a → (j : ℕ) × (slice_get (xs ++ ys) j ≡ Some a)
in_second [] ys i a e = (i, e)
in_second (x ∷ xs) ys i a e = let h = in_second xs ys i a e in (suc h.0, h.1)

split : {A : Type 0} (xs ys : List A) (i : ℕ) (a : A) → slice_get (xs ++ ys) i ≡ Some a → ((j : ℕ) × (slice_get xs j ≡ Some a)) ⊎ ((j : ℕ) × (slice_get ys j ≡ Some a))
split [] ys i a e = inr (i, e)
split (x ∷ xs) ys zero a e = inl (0, e)
split (x ∷ xs) ys (suc i) a e = ⊎_elim (λ h. inl (suc h.0, h.1)) inr (split xs ys i a e)

pub moved : (ps qs : List kernel.Branches) (b : Broken) (h : Clashes ps b) (place : ℕ) → slice_get qs place ≡ Some h.bs → Clashes qs b
moved ps qs b h place e = record {
  place = place;
  bs = h.bs;
  is_par = e;
  i = h.i;
  j = h.j;
  before = h.before;
  earlier = h.earlier;
  earlier_is = h.earlier_is;
  later = h.later;
  later_is = h.later_is;
  one = h.one;
  other = h.other;
  clash = h.clash;
  earlier_uses = h.earlier_uses;
  later_uses = h.later_uses;
  is = h.is;
}

module _ (ps qs : List kernel.Branches) where
  pub of_both : (b : Broken) → Clashes ps b ⊎ Clashes qs b → Clashes (ps ++ qs) b
  of_both b (inl h) = moved ps (ps ++ qs) b h h.place (in_first ps qs h.place h.bs h.is_par)
  of_both b (inr h) = let g = in_second ps qs h.place h.bs h.is_par in moved qs (ps ++ qs) b h g.0 g.1

  pub of_parts : (b : Broken) → Clashes (ps ++ qs) b → Clashes ps b ⊎ Clashes qs b
  of_parts b h = ⊎_elim (λ g. inl (moved (ps ++ qs) ps b h g.0 g.1)) (λ g. inr (moved (ps ++ qs) qs b h g.0 g.1)) (split ps qs h.place h.bs h.is_par)

  pub least_of_both : (x y : Option Broken) → IsLeastOf (Clashes ps) x → IsLeastOf (Clashes qs) y → IsLeastOf (Clashes (ps ++ qs)) (first_of x y)
  least_of_both x y h k = of_same (λ b. Clashes ps b ⊎ Clashes qs b) (Clashes (ps ++ qs)) (first_of x y) of_both of_parts (either (Clashes ps) (Clashes qs) x y h k)

pub no_clash : (b : Broken) → Clashes [] b → ⊥
no_clash b h = none_same h.bs h.is_par

pub nothing_broken : IsLeastOf (Clashes []) None
nothing_broken = none_broken (Clashes []) no_clash

-- Branches behind others.

-- a branch uses what clashes with what is used before all of them
record Outside (before : Uses) (bs : kernel.Branches) (b : Broken) : Type 0 where
  pub j : ℕ
  pub later : kernel.Branch
  pub later_is : branch_at bs j ≡ Some later
  pub one : Thing
  pub other : Thing
  pub clash : Clash one other
  pub is_before : IsTrue (before one)
  pub later_uses : IsTrue (by_branch other later)
  pub is : b ≡ record { rule = rule_against other; pos = pos_of later }

-- or with what an earlier one of them uses
record Inside (bs : kernel.Branches) (b : Broken) : Type 0 where
  pub i : ℕ
  pub earlier : kernel.Branch
  pub earlier_is : branch_at bs i ≡ Some earlier
  pub j : ℕ
  pub before : i < j
  pub later : kernel.Branch
  pub later_is : branch_at bs j ≡ Some later
  pub one : Thing
  pub other : Thing
  pub clash : Clash one other
  pub earlier_uses : IsTrue (by_branch one earlier)
  pub later_uses : IsTrue (by_branch other later)
  pub is : b ≡ record { rule = rule_against other; pos = pos_of later }

abbrev Any : Uses → kernel.Branches → Broken → Type 0
Any before bs b = Outside before bs b ⊎ (Inside bs b ⊎ Clashes (pars.of_branches bs) b)

module _ (before : Uses) (ss : kernel.Statements) (pos : Pos) (bs : kernel.Branches) where
  abbrev first : kernel.Branch
  first = kernel.branch ss pos

  of_first : (b : Broken) → ClashesBy before ss pos b → Any before (kernel.more_branches first bs) b
  of_first b (inl h) = inl (record {
    j = 0;
    later = first;
    later_is = refl;
    one = h.one;
    other = h.other;
    clash = h.clash;
    is_before = h.is_before;
    later_uses = sym (covered_second h.one h.other h.clash ss) ∙ h.is_here;
    is = h.is;
  })
  of_first b (inr h) = inr (inr (of_both (pars.of_statements ss) (pars.of_branches bs) b (inl h)))

  of_rest : (b : Broken) → Any (both before (of_statements ss)) bs b → Any before (kernel.more_branches first bs) b
  unfolding both
  of_rest b (inl h) = by (or_cases (before h.one) (of_statements ss h.one) h.is_before)
    where
      by : IsTrue (before h.one) ⊎ IsTrue (of_statements ss h.one) → Any before (kernel.more_branches first bs) b
      by (inl u) = inl (record { j = suc h.j; later = h.later; later_is = h.later_is; one = h.one; other = h.other; clash = h.clash; is_before = u; later_uses = h.later_uses; is = h.is })
      by (inr u) = inr (inl (record {
        i = 0;
        earlier = first;
        earlier_is = refl;
        j = suc h.j;
        before = omega arith;
        later = h.later;
        later_is = h.later_is;
        one = h.one;
        other = h.other;
        clash = h.clash;
        earlier_uses = sym (covered_first h.one ss h.clash) ∙ u;
        later_uses = h.later_uses;
        is = h.is;
      }))
  of_rest b (inr (inl h)) = inr (inl (record {
    i = suc h.i;
    earlier = h.earlier;
    earlier_is = h.earlier_is;
    j = suc h.j;
    before = let l = h.before in omega arith;
    later = h.later;
    later_is = h.later_is;
    one = h.one;
    other = h.other;
    clash = h.clash;
    earlier_uses = h.earlier_uses;
    later_uses = h.later_uses;
    is = h.is;
  }))
  of_rest b (inr (inr h)) = inr (inr (of_both (pars.of_statements ss) (pars.of_branches bs) b (inr h)))

  abbrev Split : Broken → Type 0
  Split b = ClashesBy before ss pos b ⊎ Any (both before (of_statements ss)) bs b

  outside : (b : Broken) → Outside before (kernel.more_branches first bs) b → Split b
  unfolding both
  outside b h = by h.j h.later_is
    where
      by : (j : ℕ) → branch_at (kernel.more_branches first bs) j ≡ Some h.later → Split b
      by zero e =
          let f = some_same first h.later e in
          inl (inl (record {
            one = h.one;
            other = h.other;
            clash = h.clash;
            is_before = h.is_before;
            is_here = covered_second h.one h.other h.clash ss ∙ subst (λ x. IsTrue (by_branch h.other x)) (sym f) h.later_uses;
            is = h.is ∙ ap (λ x. record { rule = rule_against h.other; pos = pos_of x }) (sym f);
          }))
      by (suc j) e = inr (inl (record { j = j; later = h.later; later_is = e; one = h.one; other = h.other; clash = h.clash; is_before = or_left (before h.one) _ h.is_before; later_uses = h.later_uses; is = h.is }))

  inside : (b : Broken) → Inside (kernel.more_branches first bs) b → Split b
  unfolding both
  inside b h = by h.i h.j h.before h.earlier_is h.later_is
    where
      by : (i j : ℕ) → i < j → branch_at (kernel.more_branches first bs) i ≡ Some h.earlier → branch_at (kernel.more_branches first bs) j ≡ Some h.later → Split b
      by i zero lt e f = absurd (omega arith)
      by zero (suc j) lt e f =
          let u = covered_first h.one ss h.clash ∙ subst (λ x. IsTrue (by_branch h.one x)) (sym (some_same first h.earlier e)) h.earlier_uses in
          inr (inl (record { j = j; later = h.later; later_is = f; one = h.one; other = h.other; clash = h.clash; is_before = or_right (before h.one) _ u; later_uses = h.later_uses; is = h.is }))
      by (suc i) (suc j) lt e f =
          inr (inr (inl (record { i = i; earlier = h.earlier; earlier_is = e; j = j; before = omega arith; later = h.later; later_is = f; one = h.one; other = h.other; clash = h.clash; earlier_uses = h.earlier_uses; later_uses = h.later_uses; is = h.is })))

  to_split : (b : Broken) → Any before (kernel.more_branches first bs) b → Split b
  to_split b (inl h) = outside b h
  to_split b (inr (inl h)) = inside b h
  to_split b (inr (inr h)) = ⊎_elim (λ g. inl (inr g)) (λ g. inr (inr (inr g))) (of_parts (pars.of_statements ss) (pars.of_branches bs) b h)

any_of : (before : Uses) (bs : kernel.Branches) (b : Broken) → ClashesBehind before bs b → Any before bs b
any_of before kernel.no_branch b h = absurd h
any_of before (kernel.more_branches (kernel.branch ss pos) bs) b (inl h) = of_first before ss pos bs b h
any_of before (kernel.more_branches (kernel.branch ss pos) bs) b (inr h) = of_rest before ss pos bs b (any_of (both before (of_statements ss)) bs b h)

behind_of : (before : Uses) (bs : kernel.Branches) (b : Broken) → Any before bs b → ClashesBehind before bs b
behind_of before kernel.no_branch b (inl h) = none_same h.later h.later_is
behind_of before kernel.no_branch b (inr (inl h)) = none_same h.later h.later_is
behind_of before kernel.no_branch b (inr (inr h)) = no_clash b h
behind_of before (kernel.more_branches (kernel.branch ss pos) bs) b h = ⊎_elim inl (λ g. inr (behind_of (both before (of_statements ss)) bs b g)) (to_split before ss pos bs b h)

-- of a whole `par`

to_par : (bs : kernel.Branches) (b : Broken) → Any nothing bs b → Clashes (bs ∷ pars.of_branches bs) b
unfolding nothing
to_par bs b (inl h) = absurd cc
to_par bs b (inr (inl h)) = record { place = 0; bs = bs; is_par = refl; i = h.i; j = h.j; before = h.before; earlier = h.earlier; earlier_is = h.earlier_is; later = h.later; later_is = h.later_is; one = h.one; other = h.other; clash = h.clash; earlier_uses = h.earlier_uses; later_uses = h.later_uses; is = h.is }
to_par bs b (inr (inr h)) = moved (pars.of_branches bs) (bs ∷ pars.of_branches bs) b h (suc h.place) h.is_par

from_par : (bs : kernel.Branches) (b : Broken) → Clashes (bs ∷ pars.of_branches bs) b → Any nothing bs b
from_par bs b h = by h.place h.is_par
  where
    by : (place : ℕ) → slice_get (bs ∷ pars.of_branches bs) place ≡ Some h.bs → Any nothing bs b
    by zero e =
        let f = sym (some_same bs h.bs e) in
        inr (inl (record { i = h.i; j = h.j; before = h.before; earlier = h.earlier; earlier_is = subst (λ x. branch_at x h.i ≡ Some h.earlier) f h.earlier_is; later = h.later; later_is = subst (λ x. branch_at x h.j ≡ Some h.later) f h.later_is; one = h.one; other = h.other; clash = h.clash; earlier_uses = h.earlier_uses; later_uses = h.later_uses; is = h.is }))
    by (suc place) e = inr (inr (moved (bs ∷ pars.of_branches bs) (pars.of_branches bs) b h place e))

pub least_par : (bs : kernel.Branches) (x : Option Broken) → IsLeastOf (ClashesBehind nothing bs) x → IsLeastOf (Clashes (bs ∷ pars.of_branches bs)) x
least_par bs x h = of_same (ClashesBehind nothing bs) (Clashes (bs ∷ pars.of_branches bs)) x (λ b k. to_par bs b (any_of nothing bs b k)) (λ b k. behind_of nothing bs b (from_par bs b k)) h

-- One more item of a walk.

pub statements_go : (P : Broken → Type 0) (xs : List Kst) (i : ℕ) (x : Kst) → x ≡ get_or xs i x → i < length xs → (best r : Option Broken) → IsLeastOf (Clashes (pars.of_statement (statement_of x))) r →
    Goes P (Clashes (pars.of_statements (kernel.statements (map statement_of (drop i xs))))) best → Goes P (Clashes (pars.of_statements (kernel.statements (map statement_of (drop (i + 1) xs))))) (first_of best r)
statements_go P xs i x e lt best r k h =
    goes_on P (Clashes (pars.of_statement (statement_of x) ++ pars.of_statements (kernel.statements (map statement_of (drop (i + 1) xs)))))
    (Clashes (pars.of_statement (statement_of x))) (Clashes (pars.of_statements (kernel.statements (map statement_of (drop (i + 1) xs))))) best r
    (of_both (pars.of_statement (statement_of x)) (pars.of_statements (kernel.statements (map statement_of (drop (i + 1) xs)))))
    (of_parts (pars.of_statement (statement_of x)) (pars.of_statements (kernel.statements (map statement_of (drop (i + 1) xs))))) k
    (subst (λ (ys : List Kst). Goes P (Clashes (pars.of_statements (kernel.statements (map statement_of ys)))) best) (drop_item xs i x e lt) h)

pub cases_go : (P : Broken → Type 0) (xs : List KCase) (i : ℕ) (x : KCase) → x ≡ get_or xs i x → i < length xs → (best r : Option Broken) → IsLeastOf (Clashes (pars.of_case (case_of x))) r →
    Goes P (Clashes (pars.of_cases (kernel.cases (map case_of (drop i xs))))) best → Goes P (Clashes (pars.of_cases (kernel.cases (map case_of (drop (i + 1) xs))))) (first_of best r)
cases_go P xs i x e lt best r k h =
    goes_on P (Clashes (pars.of_case (case_of x) ++ pars.of_cases (kernel.cases (map case_of (drop (i + 1) xs)))))
    (Clashes (pars.of_case (case_of x))) (Clashes (pars.of_cases (kernel.cases (map case_of (drop (i + 1) xs))))) best r
    (of_both (pars.of_case (case_of x)) (pars.of_cases (kernel.cases (map case_of (drop (i + 1) xs)))))
    (of_parts (pars.of_case (case_of x)) (pars.of_cases (kernel.cases (map case_of (drop (i + 1) xs))))) k
    (subst (λ (ys : List KCase). Goes P (Clashes (pars.of_cases (kernel.cases (map case_of ys)))) best) (drop_item xs i x e lt) h)

-- a branch by its code, behind what is used before it
pub branches_go : (P : Broken → Type 0) (bs : kernel.Branches) (before after : Uses) (ss : kernel.Statements) (pos : Pos) → after ≡ both before (of_statements ss) → (best r : Option Broken) → IsLeastOf (ClashesBy before ss pos) r →
    Goes P (ClashesBehind before (kernel.more_branches (kernel.branch ss pos) bs)) best → Goes P (ClashesBehind after bs) (first_of best r)
branches_go P bs before after ss pos e best r k h =
    subst (λ (f : Uses). Goes P (ClashesBehind f bs) (first_of best r)) (sym e)
    (goes_on P (ClashesBehind before (kernel.more_branches (kernel.branch ss pos) bs)) (ClashesBy before ss pos) (ClashesBehind (both before (of_statements ss)) bs) best r (λ b g. g) (λ b g. g) k h)

pub statements_more : (f g : Uses) (xs : List Kst) (i : ℕ) (x : Kst) → x ≡ get_or xs i x → i < length xs → g ≡ both f (of_statement (statement_of x)) →
    both f (of_statements (kernel.statements (map statement_of (drop i xs)))) ≡ both g (of_statements (kernel.statements (map statement_of (drop (i + 1) xs))))
statements_more f g xs i x e lt h =
    ap (λ (ys : List Kst). both f (of_statements (kernel.statements (map statement_of ys)))) (drop_item xs i x e lt)
    ∙ sym (both_each f (of_statement (statement_of x)) (of_statements (kernel.statements (map statement_of (drop (i + 1) xs)))))
    ∙ ap (λ (k : Uses). both k (of_statements (kernel.statements (map statement_of (drop (i + 1) xs))))) (sym h)

pub cases_more : (f g : Uses) (xs : List KCase) (i : ℕ) (x : KCase) → x ≡ get_or xs i x → i < length xs → g ≡ both f (of_case (case_of x)) →
    both f (of_cases (kernel.cases (map case_of (drop i xs)))) ≡ both g (of_cases (kernel.cases (map case_of (drop (i + 1) xs))))
cases_more f g xs i x e lt h =
    ap (λ (ys : List KCase). both f (of_cases (kernel.cases (map case_of ys)))) (drop_item xs i x e lt)
    ∙ sym (both_each f (of_case (case_of x)) (of_cases (kernel.cases (map case_of (drop (i + 1) xs)))))
    ∙ ap (λ (k : Uses). both k (of_cases (kernel.cases (map case_of (drop (i + 1) xs))))) (sym h)

pub branches_next : (xs : List KBranch) (i : ℕ) (x : KBranch) → x ≡ get_or xs i x → i < length xs →
    kernel.branches (map branch_of (drop i xs)) ≡ kernel.more_branches (kernel.branch (kernel.statements (map statement_of x.body)) x.pos) (kernel.branches (map branch_of (drop (i + 1) xs)))
branches_next xs i x e lt =
    ap (λ (ys : List KBranch). kernel.branches (map branch_of ys)) (drop_item xs i x e lt)
    ∙ ap (λ (b : kernel.Branch). kernel.more_branches b (kernel.branches (map branch_of (drop (i + 1) xs)))) (branch-KBranch x)

pub roots_next : (xs : List Root) (i : ℕ) (x : Root) → x ≡ get_or xs i x → i < length xs →
    branches_of (map root_of (drop i xs)) ≡ kernel.more_branches (kernel.branch (kernel.statements (map statement_of x.body)) x.pos) (branches_of (map root_of (drop (i + 1) xs)))
roots_next xs i x e lt = ap (λ (ys : List Root). branches_of (map root_of ys)) (drop_item xs i x e lt)
