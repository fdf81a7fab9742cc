-- The branches behind a step, by their numbers.
use Rattle.std.proofs.Common.{◌≡◌, ◌≢◌, ◌⊎◌, inl, inr, ⊎_elim, ℕ, zero, suc, ◌+◌, ◌<◌, List, [], ◌∷◌, ◌++◌, length, Some, slice_get, slice_set, refl, sym, ap, subst, ◌∙◌, arith}
use Rattle.xc_kernel.specs.Plain as kernel
use Rattle.xc_meaning.specs.States.Items.{Item, ends}
use Rattle.xc_meaning.specs.States.Branches.{Branch}
use Rattle.xc_meaning.specs.Settings.Setting.{Setting}
use Rattle.xc_meaning.specs.Settings.Sides.{sides_in}
use Rattle.xc_meaning.specs.Settings.Par.{Begun, codes_of, all_begun, child, children}
use Rattle.xc_invariants.specs.Every.{AllItems, AllBranches}
use Rattle.xc_meaning.proofs.Basics.{some_given, none_given}
use Rattle.xc_invariants.proofs.Inherited.{all_todo}

-- the branch that made the step, another one that was there, or a new one
pub data Behind (bs : List Branch) (n : ℕ) (now : Branch) (more : List Branch) (k : ℕ) (c : Branch) : Type 0 where
  itself : k ≡ n → c ≡ now → Behind bs n now more k c
  there : k ≢ n → slice_get bs k ≡ Some c → Behind bs n now more k c
  new : (j : ℕ) → k ≡ length bs + j → slice_get more j ≡ Some c → Behind bs n now more k c

pub within : {A : Type 0} (xs : List A) (k : ℕ) {a : A} → slice_get xs k ≡ Some a → k < length xs
within [] k e = none_given e
within (x ∷ xs) zero e = omega arith
within (x ∷ xs) (suc k) e = let h = within xs k e in omega arith

appended : (xs more : List Branch) (k : ℕ) (c : Branch) → slice_get (xs ++ more) k ≡ Some c → (slice_get xs k ≡ Some c) ⊎ ((j : ℕ) × (k ≡ length xs + j) × (slice_get more j ≡ Some c))
appended [] more k c e = inr (k, omega arith, e)
appended (x ∷ xs) more zero c e = inl e
appended (x ∷ xs) more (suc k) c e = ⊎_elim inl (λ h. let l = h.1 in inr (h.0, omega arith, h.2)) (appended xs more k c e)

one_behind : (x now : Branch) (xs more : List Branch) (k : ℕ) (c : Branch) → (slice_get xs k ≡ Some c) ⊎ ((j : ℕ) × (k ≡ length xs + j) × (slice_get more j ≡ Some c)) → Behind (x ∷ xs) 0 now more (suc k) c
one_behind x now xs more k c (inl h) = there (omega arith) h
one_behind x now xs more k c (inr h) = let l = h.1 in new h.0 (omega arith) h.2

one_more : (x now : Branch) (xs more : List Branch) (n k : ℕ) (c : Branch) → Behind xs n now more k c → Behind (x ∷ xs) (suc n) now more (suc k) c
one_more x now xs more n k c (itself e f) = itself (ap suc e) f
one_more x now xs more n k c (there h e) = there (omega arith) e
one_more x now xs more n k c (new j e f) = new j (omega arith) f

pub behind : (bs : List Branch) (n : ℕ) (b now : Branch) (more : List Branch) (k : ℕ) (c : Branch) → slice_get bs n ≡ Some b → slice_get (slice_set bs n now ++ more) k ≡ Some c → Behind bs n now more k c
behind [] n b now more k c e f = none_given e
behind (x ∷ xs) zero b now more zero c e f = itself refl (sym (some_given f))
behind (x ∷ xs) zero b now more (suc k) c e f = one_behind x now xs more k c (appended xs more k c f)
behind (x ∷ xs) (suc n) b now more zero c e f = there (omega arith) f
behind (x ∷ xs) (suc n) b now more (suc k) c e f = one_more x now xs more n k c (behind xs n b now more k c e f)

pub at_itself : (bs : List Branch) (n : ℕ) (b now : Branch) (more : List Branch) → slice_get bs n ≡ Some b → slice_get (slice_set bs n now ++ more) n ≡ Some now
at_itself [] n b now more e = none_given e
at_itself (x ∷ xs) zero b now more e = refl
at_itself (x ∷ xs) (suc n) b now more e = at_itself xs n b now more e

before_more : (xs more : List Branch) (k : ℕ) (c : Branch) → slice_get xs k ≡ Some c → slice_get (xs ++ more) k ≡ Some c
before_more [] more k c e = none_given e
before_more (x ∷ xs) more zero c e = e
before_more (x ∷ xs) more (suc k) c e = before_more xs more k c e

pub at_other : (bs : List Branch) (n : ℕ) (now : Branch) (more : List Branch) (k : ℕ) (c : Branch) → k ≢ n → slice_get bs k ≡ Some c → slice_get (slice_set bs n now ++ more) k ≡ Some c
at_other [] n now more k c h e = none_given e
at_other (x ∷ xs) zero now more zero c h e = absurd (h refl)
at_other (x ∷ xs) zero now more (suc k) c h e = before_more xs more k c e
at_other (x ∷ xs) (suc n) now more zero c h e = e
at_other (x ∷ xs) (suc n) now more (suc k) c h e = at_other xs n now more k c (λ f. h (ap suc f)) e

in_more : (xs more : List Branch) (j : ℕ) (c : Branch) → slice_get more j ≡ Some c → slice_get (xs ++ more) (length xs + j) ≡ Some c
in_more [] more j c e = subst (λ k. slice_get more k ≡ Some c) (let l : j ≡ 0 + j = omega arith in l) e
in_more (x ∷ xs) more j c e = subst (λ k. slice_get ((x ∷ xs) ++ more) k ≡ Some c) (let l : suc (length xs + j) ≡ suc (length xs) + j = omega arith in l) (in_more xs more j c e)

pub set_length : (xs : List Branch) (n : ℕ) (b : Branch) → length (slice_set xs n b) ≡ length xs
set_length [] n b = refl
set_length (x ∷ xs) zero b = refl
set_length (x ∷ xs) (suc n) b = ap suc (set_length xs n b)

pub at_new : (bs : List Branch) (n : ℕ) (now : Branch) (more : List Branch) (j : ℕ) (c : Branch) → slice_get more j ≡ Some c → slice_get (slice_set bs n now ++ more) (length bs + j) ≡ Some c
at_new bs n now more j c e =
    subst (λ l. slice_get (slice_set bs n now ++ more) (l + j) ≡ Some c) (set_length bs n now) (in_more (slice_set bs n now) more j c e)

-- the code in front of a place, the nearest first, and the code behind it
abbrev pub front_of : List kernel.Statements → List kernel.Statements → ℕ → List kernel.Statements
front_of before cs zero = before
front_of before [] (suc j) = before
front_of before (a ∷ cs) (suc j) = front_of (a ∷ before) cs j

abbrev pub next_of : List kernel.Statements → ℕ → List kernel.Statements
next_of [] j = []
next_of (a ∷ cs) zero = cs
next_of (a ∷ cs) (suc j) = next_of cs j

-- a branch of a `par`, with its code in front of and behind the code of the others
pub record Born (s : Setting) (among index : ℕ) (before : List kernel.Statements) (bs : List Begun) (j : ℕ) (c : Branch) : Type 0 where
  pub begun : Begun
  pub is_there : slice_get bs j ≡ Some begun
  pub code_there : slice_get (codes_of bs) j ≡ Some begun.code
  pub is : c ≡ child s among (index + j) (sides_in 0 (front_of before (codes_of bs) j) begun.code (next_of (codes_of bs) j) s.branch.sides) begun.items

pub born : (s : Setting) (among index : ℕ) (before : List kernel.Statements) (bs : List Begun) (j : ℕ) (c : Branch) → slice_get (children s among index before bs) j ≡ Some c → Born s among index before bs j c
born s among index before [] j c e = none_given e
born s among index before (b ∷ bs) zero c e = record {
  begun = b;
  is_there = refl;
  code_there = refl;
  is = sym (some_given e) ∙ ap (λ n. child s among n (sides_in 0 before b.code (codes_of bs) s.branch.sides) b.items) (let l : index ≡ index + 0 = omega arith in l);
}
born s among index before (b ∷ bs) (suc j) c e =
    let h = born s among (index + 1) (b.code ∷ before) bs j c e in record {
      begun = h.begun;
      is_there = h.is_there;
      code_there = h.code_there;
      is = h.is ∙ ap (λ n. child s among n (sides_in 0 (front_of (b.code ∷ before) (codes_of bs) j) h.begun.code (next_of (codes_of bs) j) s.branch.sides) h.begun.items) (let l : index + 1 + j ≡ index + suc j = omega arith in l);
    }

-- what holds of all branches of a `par` holds of what each of them has to do
pub all_of_begun : (P : Item → Type 0) (bs : kernel.Branches) (j : ℕ) (b : Begun) → slice_get (all_begun bs) j ≡ Some b → AllBranches P bs → P ends → AllItems P b.items
all_of_begun P kernel.no_branch j b e h g = none_given e
all_of_begun P (kernel.more_branches (kernel.branch ss pos) bs) zero b e h g =
    subst (λ c. AllItems P c.items) (some_given e) (all_todo P ss (ends ∷ []) h.0 (g, tt))
all_of_begun P (kernel.more_branches (kernel.branch ss pos) bs) (suc j) b e h g = all_of_begun P bs j b e h.1 g
