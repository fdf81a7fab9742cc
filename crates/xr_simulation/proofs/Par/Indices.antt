-- Threads that were got for a `par`, the last one first, each by its index from 1 on.
use Rattle.std.proofs.Common.{◌≡◌, ◌≢◌, ℕ, suc, ◌≤◌, Bool, true, false, List, [], ◌∷◌, length, Option, Some, None, refl, sym, ap, ◌∙◌, subst, inl, inr, ⊎_elim, arith, eq-eqb}
use Rattle.std.specs.Prelude.{nat_eq}
use Rattle.std.proofs.lemmas.Bool.{cases_eq, ne_eqb}
use Rattle.xl_par.specs.Acquired.{IsAmong}
use Rattle.xr_simulation.specs.Roles.{IsOnce}

abbrev pub index_by : Bool → (here : ℕ) → (others : Option ℕ) → Option ℕ
index_by true here others = Some here
index_by false here others = others

abbrev pub index_among : List ℕ → ℕ → Option ℕ
index_among [] u = None
index_among (v ∷ vs) u = index_by (nat_eq u v) (suc (length vs)) (index_among vs u)

pub index_here : (v u : ℕ) (vs : List ℕ) → u ≡ v → index_among (v ∷ vs) u ≡ Some (suc (length vs))
index_here v u vs e = ap (λ b. index_by b (suc (length vs)) (index_among vs u)) (eq-eqb u v e)

pub index_further : (v u : ℕ) (vs : List ℕ) → u ≢ v → index_among (v ∷ vs) u ≡ index_among vs u
index_further v u vs ne = ap (λ b. index_by b (suc (length vs)) (index_among vs u)) (ne_eqb u v ne)

-- one that has an index is among them
pub index_within : (us : List ℕ) (u i : ℕ) → index_among us u ≡ Some i → IsAmong us u × (1 ≤ i) × (i ≤ length us)
index_within [] u i e = absurd (let z : ⊥ = cc in z)
index_within (v ∷ vs) u i e =
    ⊎_elim
    (λ (here : u ≡ v).
    let both : Some (suc (length vs)) ≡ Some i = sym (index_here v u vs here) ∙ e in
    let same : suc (length vs) ≡ i = cc in
    (inl here, (omega arith), omega arith))
    (λ (ne : u ≢ v).
    let on = index_within vs u i (sym (index_further v u vs ne) ∙ e) in
    (inr on.0, on.1, (let le = on.2 in omega arith)))
    (cases_eq u v)

pub among_index : (us : List ℕ) (u : ℕ) → IsAmong us u → (i : ℕ) × (index_among us u ≡ Some i)
among_index [] u m = absurd m
among_index (v ∷ vs) u m =
    ⊎_elim
    (λ (here : u ≡ v). (suc (length vs), index_here v u vs here))
    (λ (ne : u ≢ v).
    let on = among_index vs u (⊎_elim (λ (e : u ≡ v). absurd (ne e)) (λ (k : IsAmong vs u). k) m) in
    (on.0, index_further v u vs ne ∙ on.1))
    (cases_eq u v)

-- no two have the same index
pub index_once : (us : List ℕ) (u v i : ℕ) → index_among us u ≡ Some i → index_among us v ≡ Some i → v ≡ u
index_once [] u v i e f = absurd (let z : ⊥ = cc in z)
index_once (w ∷ ws) u v i e f =
    ⊎_elim
    (λ (here : u ≡ w).
    ⊎_elim
    (λ (there : v ≡ w). there ∙ sym here)
    (λ (ne : v ≢ w).
    let both : Some (suc (length ws)) ≡ Some i = sym (index_here w u ws here) ∙ e in
    let same : suc (length ws) ≡ i = cc in
    let le = (index_within ws v i (sym (index_further w v ws ne) ∙ f)).2 in absurd (omega arith))
    (cases_eq v w))
    (λ (ne : u ≢ w).
    ⊎_elim
    (λ (there : v ≡ w).
    let both : Some (suc (length ws)) ≡ Some i = sym (index_here w v ws there) ∙ f in
    let same : suc (length ws) ≡ i = cc in
    let le = (index_within ws u i (sym (index_further w u ws ne) ∙ e)).2 in absurd (omega arith))
    (λ (nv : v ≢ w). index_once ws u v i (sym (index_further w u ws ne) ∙ e) (sym (index_further w v ws nv) ∙ f))
    (cases_eq v w))
    (cases_eq u w)

-- and each index is one's
pub index_of : (us : List ℕ) (i : ℕ) → IsOnce us → 1 ≤ i → i ≤ length us → (u : ℕ) × (index_among us u ≡ Some i)
index_of [] i once some few = absurd (omega arith)
index_of (w ∷ ws) i once some few =
    ⊎_elim
    (λ (last : i ≡ suc (length ws)). (w, index_here w w ws refl ∙ ap Some (sym last)))
    (λ (before : i ≢ suc (length ws)).
    let on = index_of ws i once.1 some (let ne = before in omega (arith, few, ne)) in
    let there = (index_within ws on.0 i on.1).0 in
    (on.0, index_further w on.0 ws (λ e. once.0 (subst (IsAmong ws) e there)) ∙ on.1))
    (cases_eq i (suc (length ws)))
