-- Records in the order of their ticks, cut at a tick.
use Rattle.std.proofs.Common.{◌≡◌, ℕ, suc, ◌+◌, ◌<◌, ◌≤◌, ◌≢◌, List, [], ◌∷◌, Bool, true, false, length, get_or, drop, refl, ap, sym, subst, ◌∙◌, add-one, drop-cons, nat_eq, arith, eq-eqb}
use Rattle.std.proofs.lemmas.Bool.{eqb-true, eqb-false, ne_eqb}
use Rattle.xr_windows.specs.declared.stamped.Stamped.{Stamped}
use Rattle.xr_windows.specs.Merge.{at_by, at_tick}
use Rattle.xr_windows.specs.Cut.{first_at, first_by, rest_at, rest_by, Left}
use Rattle.xr_windows.specs.Rising.{Rising}

-- a bound may be lower
pub lower : (j k : ℕ) (rs : List Stamped) → j ≤ k → Rising k rs → Rising j rs
lower j k [] le up = tt
lower j k (r ∷ rs) le up = (let h = up.0 in omega arith, up.1)

-- nothing is of a tick below all
pub above_none : (t k : ℕ) (rs : List Stamped) → t < k → Rising k rs → at_tick t rs ≡ []
above_none t k [] lt up = refl
above_none t k (r ∷ rs) lt up =
    let h = up.0 in
    ap (at_by r.made (at_tick t rs)) (ne_eqb r.tick t (λ e. absurd (omega arith))) ∙ above_none t r.tick rs (omega arith) up.1

first_here : (t : ℕ) (r : Stamped) (rs : List Stamped) (b : Bool) → nat_eq r.tick t ≡ b → t ≤ r.tick → Rising r.tick rs → at_tick t rs ≡ first_at t rs → at_by r.made (at_tick t rs) b ≡ first_by r.made (first_at t rs) b
first_here t r rs true is le up same = ap (λ xs. r.made ∷ xs) same
first_here t r rs false is le up same =
    let ne : r.tick ≢ t = eqb-false r.tick t is in above_none t r.tick rs (omega arith) up

-- what is of the least tick comes first
pub first_all : (t : ℕ) (rs : List Stamped) → Rising t rs → at_tick t rs ≡ first_at t rs
first_all t [] up = refl
first_all t (r ∷ rs) up = first_here t r rs (nat_eq r.tick t) refl up.0 up.1 (first_all t rs (lower t r.tick rs up.0 up.1))

rest_here : (t : ℕ) (r : Stamped) (rs : List Stamped) (b : Bool) → nat_eq r.tick t ≡ b → t ≤ r.tick → Rising r.tick rs → Rising (t + 1) (rest_at t rs) → Rising (t + 1) (rest_by (r ∷ rs) (rest_at t rs) b)
rest_here t r rs true is le up more = more
rest_here t r rs false is le up more =
    let ne : r.tick ≢ t = eqb-false r.tick t is in (omega arith, up)

-- what is left is above the tick
pub rest_rises : (t : ℕ) (rs : List Stamped) → Rising t rs → Rising (t + 1) (rest_at t rs)
rest_rises t [] up = tt
rest_rises t (r ∷ rs) up = rest_here t r rs (nat_eq r.tick t) refl up.0 up.1 (rest_rises t rs (lower t r.tick rs up.0 up.1))

keep_here : (t u : ℕ) (r : Stamped) (rs : List Stamped) (b : Bool) → nat_eq r.tick t ≡ b → t < u → at_tick u rs ≡ at_tick u (rest_at t rs) → at_tick u (r ∷ rs) ≡ at_tick u (rest_by (r ∷ rs) (rest_at t rs) b)
keep_here t u r rs true is lt more =
    let e : r.tick ≡ t = eqb-true r.tick t is in
    ap (at_by r.made (at_tick u rs)) (ne_eqb r.tick u (λ f. absurd (omega arith))) ∙ more
keep_here t u r rs false is lt more = refl

-- and has all that is of a later one
pub rest_keeps : (t u : ℕ) (rs : List Stamped) → t < u → at_tick u rs ≡ at_tick u (rest_at t rs)
rest_keeps t u [] lt = refl
rest_keeps t u (r ∷ rs) lt = keep_here t u r rs (nat_eq r.tick t) refl lt (rest_keeps t u rs lt)

pub left_none : (all : List Stamped) → Rising 1 all → Left 0 all all
left_none all up = record { rises = up; keeps = λ u lt. refl }

pub left_now : (t : ℕ) (all left : List Stamped) → Left t all left → first_at (t + 1) left ≡ at_tick (t + 1) all
left_now t all left h = sym (h.keeps (t + 1) (omega arith) ∙ first_all (t + 1) left h.rises)

pub left_next : (t : ℕ) (all left : List Stamped) → Left t all left → Left (t + 1) all (rest_at (t + 1) left)
left_next t all left h = record {
  rises = rest_rises (t + 1) left h.rises;
  keeps = λ u lt. h.keeps u (omega arith) ∙ rest_keeps (t + 1) u left lt;
}

-- one record more of the tick
pub first_more : (t : ℕ) (rs : List Stamped) (k : ℕ) (d : Stamped) → k < length rs → (get_or rs k d).tick ≡ t → first_at t (drop k rs) ≡ (get_or rs k d).made ∷ first_at t (drop (k + 1) rs)
first_more t rs k d lt is = rw (add-one, drop-cons rs k d lt) (ap (first_by (get_or rs k d).made (first_at t (drop (suc k) rs))) (eq-eqb (get_or rs k d).tick t is))

pub rest_more : (t : ℕ) (rs : List Stamped) (k : ℕ) (d : Stamped) → k < length rs → (get_or rs k d).tick ≡ t → rest_at t (drop k rs) ≡ rest_at t (drop (k + 1) rs)
rest_more t rs k d lt is = rw (add-one, drop-cons rs k d lt) (ap (rest_by (get_or rs k d ∷ drop (suc k) rs) (rest_at t (drop (suc k) rs))) (eq-eqb (get_or rs k d).tick t is))

-- the next record is of another tick
pub first_none : (t : ℕ) (rs : List Stamped) (k : ℕ) (d : Stamped) → k < length rs → (get_or rs k d).tick ≢ t → first_at t (drop k rs) ≡ []
first_none t rs k d lt is = rw (drop-cons rs k d lt) (ap (first_by (get_or rs k d).made (first_at t (drop (suc k) rs))) (ne_eqb (get_or rs k d).tick t is))

pub rest_all : (t : ℕ) (rs : List Stamped) (k : ℕ) (d : Stamped) → k < length rs → (get_or rs k d).tick ≢ t → rest_at t (drop k rs) ≡ drop k rs
rest_all t rs k d lt is = rw (drop-cons rs k d lt) (ap (rest_by (get_or rs k d ∷ drop (suc k) rs) (rest_at t (drop (suc k) rs))) (ne_eqb (get_or rs k d).tick t is))

pub ruleset cuts = (first_more, rest_more, first_none, rest_all)

pub left_at : (t : ℕ) (all left next : List Stamped) → Left t all left → next ≡ rest_at (t + 1) left → Left (t + 1) all next
left_at t all left next h is = subst (Left (t + 1) all) (sym is) (left_next t all left h)
