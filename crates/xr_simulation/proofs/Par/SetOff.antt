-- The branches of a `par` as they are set off: each thread has its code, and uses what the `par` does; none is a root's.
use Rattle.std.proofs.Common.{◌≡◌, ◌≢◌, ℕ, zero, suc, ◌+◌, ◌-◌, ◌<◌, Bool, true, false, List, [], ◌∷◌, length, Some, refl, sym, ap, ◌∙◌, subst, ⊎_elim, arith}
use Rattle.std.specs.Prelude.{nat_eq, slice_get, ◌&&◌, ◌++◌, ◌||◌}
use Rattle.std.proofs.lemmas.Bool.{cases_eq, or_left, or_right}
use Rattle.xs_instr.specs.declared.state.CoreState.{CoreState}
use Rattle.xc_kernel.specs.Plain as kernel
use Rattle.xc_kernel.specs.Things.{Thing, by_branches, by_statement, by_statements}
use Rattle.xc_invariants.specs.Rules.{code_at}
use Rattle.xc_meaning.specs.States.Branches.{Branch}
use Rattle.xc_meaning.specs.Settings.Par.{Begun, children}
use Rattle.xc_meaning.specs.Settings.Setting.{Setting as Step'}
use Rattle.xc_meaning.specs.States.Items.{Item, does, ends, todo}
use Rattle.xc_meaning.specs.Uses.{by_items}
use Rattle.xl_ends.specs.Ends.{codes_in}
use Rattle.xr_simulation.specs.Runners.{Setting, Runner, footprint_of}
use Rattle.xr_simulation.specs.MatchStates.{living_on, one_where}
use Rattle.xr_simulation.specs.NextStep.{AreSetOff, IsSetOff, Placed, backwards_on}
use Rattle.xr_simulation.proofs.Par.Indices.{index_among, index_further, index_here, index_within}
use Rattle.xr_simulation.proofs.RelyGuarantee.Footprints.{IsWithin, within_of_uses}

-- Codes the last one first.

back_behind : {X : Type 0} (xs acc : List X) (k : ℕ) → slice_get (backwards_on xs acc) (length xs + k) ≡ slice_get acc k
back_behind [] acc k = let e : 0 + k ≡ k = omega arith in ap (slice_get acc) e
back_behind (x ∷ xs) acc k = let e : length (x ∷ xs) + k ≡ length xs + suc k = omega arith in ap (slice_get (backwards_on xs (x ∷ acc))) e ∙ back_behind xs (x ∷ acc) (suc k)

pub back_at : {X : Type 0} (xs acc : List X) (m : ℕ) → m < length xs → slice_get (backwards_on xs acc) (length xs - suc m) ≡ slice_get xs m
back_at [] acc m lt = absurd (omega arith)
back_at (x ∷ xs) acc zero lt = let e : length (x ∷ xs) - 1 ≡ length xs + 0 = omega arith in ap (slice_get (backwards_on xs (x ∷ acc))) e ∙ back_behind xs (x ∷ acc) 0
back_at (x ∷ xs) acc (suc m) lt = let e : length (x ∷ xs) - suc (suc m) ≡ length xs - suc m = omega arith in ap (slice_get (backwards_on xs (x ∷ acc))) e ∙ back_at xs (x ∷ acc) m (omega arith)

pub back_length : {X : Type 0} (xs acc : List X) → length (backwards_on xs acc) ≡ length xs + length acc
back_length [] acc = omega arith
back_length (x ∷ xs) acc = let e = back_length xs (x ∷ acc) in omega (arith, e)

-- each thread that is set off is so with its code
pub off_length : (g : Setting) (r : Runner) (left : CoreState) (sync : ℕ) (us : List ℕ) (others : List Placed) → AreSetOff g r left sync us others → length us ≡ length others
off_length g r left sync [] [] h = refl
off_length g r left sync [] (placed ∷ others) h = absurd h
off_length g r left sync (u ∷ us) [] h = absurd h
off_length g r left sync (u ∷ us) (placed ∷ others) h = ap suc (off_length g r left sync us others h.1)

pub off_at : (g : Setting) (r : Runner) (left : CoreState) (sync : ℕ) (us : List ℕ) (others : List Placed) → AreSetOff g r left sync us others → (u i : ℕ) → index_among us u ≡ Some i → (placed : Placed) × IsSetOff g r left sync u placed × (slice_get others (length us - i) ≡ Some placed)
off_at g r left sync [] [] h u i e = absurd (let z : ⊥ = cc in z)
off_at g r left sync [] (placed ∷ others) h u i e = absurd h
off_at g r left sync (v ∷ us) [] h u i e = absurd h
off_at g r left sync (v ∷ us) (placed ∷ others) h u i e =
    ⊎_elim
    (λ (here : u ≡ v).
    let both : Some (suc (length us)) ≡ Some i = sym (index_here v u us here) ∙ e in
    let same : suc (length us) ≡ i = cc in
    let place : length (v ∷ us) - i ≡ 0 = omega arith in
    (placed, subst (λ k. IsSetOff g r left sync k placed) (sym here) h.0, ap (slice_get (placed ∷ others)) place))
    (λ (ne : u ≢ v).
    let further : index_among us u ≡ Some i = sym (index_further v u us ne) ∙ e in
    let on = off_at g r left sync us others h.1 u i further in
    let le = (index_within us u i further).2 in
    let place : length (v ∷ us) - i ≡ suc (length us - i) = omega arith in
    (on.0, on.1, ap (slice_get (placed ∷ others)) place ∙ on.2))
    (cases_eq u v)

pub code_of : (bs : kernel.Branches) (i : ℕ) (ss : kernel.Statements) → slice_get (codes_in bs) i ≡ Some ss → code_at bs i ≡ Some ss
code_of kernel.no_branch i ss e = absurd (let z : ⊥ = cc in z)
code_of (kernel.more_branches (kernel.branch body pos) bs) zero ss e = e
code_of (kernel.more_branches (kernel.branch body pos) bs) (suc i) ss e = code_of bs i ss e

-- What a branch of a `par` uses the `par` does.

or_then : (a b c : Bool) → (a || b) ≡ true → (a ≡ true → c ≡ true) → (b ≡ true → c ≡ true) → c ≡ true
or_then true b c h f k = f refl
or_then false b c h f k = k h

todo_uses : (th : Thing) (ss : kernel.Statements) → by_items th (todo ss (ends ∷ [])) ≡ true → by_statements th ss ≡ true
todo_uses th kernel.no_more h = h
todo_uses th (kernel.more s ss) h =
    or_then (by_statement th s) (by_items th (todo ss (ends ∷ []))) (by_statements th (kernel.more s ss)) h
    (λ e. or_left (by_statement th s) (by_statements th ss) e)
    (λ e. or_right (by_statement th s) (by_statements th ss) (todo_uses th ss e))

code_uses : (th : Thing) (bs : kernel.Branches) (i : ℕ) (ss : kernel.Statements) → slice_get (codes_in bs) i ≡ Some ss → by_statements th ss ≡ true → by_branches th bs ≡ true
code_uses th kernel.no_branch i ss e h = absurd (let z : ⊥ = cc in z)
code_uses th (kernel.more_branches (kernel.branch body pos) bs) zero ss e h =
    let same : body ≡ ss = cc in
    or_left (by_statements th body) (by_branches th bs) (ap (by_statements th) same ∙ h)
code_uses th (kernel.more_branches (kernel.branch body pos) bs) (suc i) ss e h = or_right (by_statements th body) (by_branches th bs) (code_uses th bs i ss e h)

pub branch_within : (bs : kernel.Branches) (rest : List Item) (i : ℕ) (ss : kernel.Statements) → slice_get (codes_in bs) i ≡ Some ss → IsWithin (footprint_of (todo ss (ends ∷ []))) (footprint_of (does (kernel.par bs) ∷ rest))
branch_within bs rest i ss e = within_of_uses (todo ss (ends ∷ [])) (does (kernel.par bs) ∷ rest) (λ th h. or_left (by_branches th bs) (by_items th rest) (code_uses th bs i ss e (todo_uses th ss h)))

-- Branches of roots: new ones are none.

pub living_both : (k : ℕ) (xs ys : List Branch) → living_on k (xs ++ ys) ≡ living_on k xs + living_on k ys
living_both k [] ys = omega arith
living_both k (x ∷ xs) ys = let e = living_both k xs ys in omega (arith, e)

both_false : (a b : Bool) → one_where (a && (b && false)) ≡ 0
both_false true true = refl
both_false true false = refl
both_false false b = refl

pub living_new : (k : ℕ) (s : Step') (among index : ℕ) (before : List kernel.Statements) (bs : List Begun) → living_on k (children s among index before bs) ≡ 0
living_new k s among index before [] = refl
living_new k s among index before (b ∷ bs) =
    let e = living_new k s among (index + 1) (b.code ∷ before) bs in
    let none = both_false (nat_eq s.branch.core k) true in
    omega (arith, e, none)
