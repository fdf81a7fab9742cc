-- The numbers of a row are those of the longest ways, one index by those that its instruction leads to.
use Rattle.std.proofs.Common.{◌≡◌, ◌≤◌, ◌<◌, ◌⊎◌, inl, inr, ℕ, suc, ◌+◌, Bool, true, false, Option, Some, None, refl, sym, ap, ◌∙◌, subst, arith}
use Rattle.std.proofs.lemmas.Bool.{cases_lt}
use Rattle.std.specs.Prelude.{max, min}
use Rattle.xs_fabric.specs.OwnTurns.{Onward, GoesOn, Waits, MayBranch, Branches, MayBranchBack, BranchesBack, EndsThread, AwaitsEvent, LeadsElsewhere}
use Rattle.xf_time.proofs.Lengths.{HasTarget}
use Rattle.xf_time.specs.Rows.{IsLongestFrom, IsNumber, longer, number_by, one_more}
use Rattle.xf_time.specs.Ways.{Flow, LeadsTo, goes_on, not_branched, branched, branches, not_branched_back, branched_back, branches_back, must_branch_back, Way, last, more, holds_up, MeetsHold, held_here, held_later}

one_seen : (flow : Flow) (i : ℕ) (x y : Onward) → flow i ≡ Some x → flow i ≡ Some y → y ≡ x
one_seen flow i x y e f = let h : Some y ≡ Some x = sym f ∙ e in cc

-- what a way from i is, where x stands there
data From (flow : Flow) (x : Onward) (i n l : ℕ) : Type 0 where
  ends_here : n ≡ must_branch_back x → l ≡ 1 → From flow x i n l
  goes_to : (t j m k : ℕ) → LeadsTo x i t j → Way flow j m k → n ≡ t + m → l ≡ suc k → From flow x i n l

way_from : (flow : Flow) (x : Onward) (i n l : ℕ) → flow i ≡ Some x → Way flow i n l → From flow x i n l
way_from flow x i _ _ e (last y f) = ends_here (ap must_branch_back (one_seen flow i x y e f)) refl
way_from flow x i _ _ e (more {i = _} {j} {u = t} {n} {l} y f d w) =
    goes_to t j n l (subst (λ (z : Onward). LeadsTo z i t j) (one_seen flow i x y e f) d) w refl refl

data MeetsFrom (flow : Flow) (x : Onward) (i n : ℕ) : Type 0 where
  meets_here : holds_up x ≡ true → MeetsFrom flow x i n
  meets_on : (t j m : ℕ) → LeadsTo x i t j → MeetsHold flow j m → n ≡ t + m → MeetsFrom flow x i n

meets_from : (flow : Flow) (x : Onward) (i n : ℕ) → flow i ≡ Some x → MeetsHold flow i n → MeetsFrom flow x i n
meets_from flow x i _ e (held_here y f h) = meets_here (subst (λ (z : Onward). holds_up z ≡ true) (one_seen flow i x y e f) h)
meets_from flow x i _ e (held_later {i = _} {j} {u = t} {n} y f d w) =
    meets_on t j n (subst (λ (z : Onward). LeadsTo z i t j) (one_seen flow i x y e f) d) w refl

not_held : (x : Onward) → holds_up x ≡ false → holds_up x ≡ true → ⊥
not_held x e f = let h : true ≡ false = sym f ∙ e in cc

-- the number of one step more, without a bound
up : Option ℕ → Option ℕ
up None = None
up (Some v) = Some (suc v)

-- one step leads on, with t branches
module _ (flow : Flow) (i t j c : ℕ) (x : Onward) (there : flow i ≡ Some x) (no_hold : holds_up x ≡ false) (step : LeadsTo x i t j) (all : (t' j' : ℕ) → LeadsTo x i t' j' → (t' ≡ t) × (j' ≡ j)) (least : must_branch_back x ≡ t) where
  one_held : (n : ℕ) → n ≤ c → MeetsHold flow j n → IsNumber flow (t + c) i None
  one_held n h m = (t + n, omega (arith, h), held_later x there step m)

  free_one : (v : ℕ) → IsLongestFrom flow c j v → (n : ℕ) → n ≤ t + c → MeetsHold flow i n → ⊥
  free_one v f n h m = by (meets_from flow x i n there m)
    where
      by : MeetsFrom flow x i n → ⊥
      by (meets_here e) = not_held x no_hold e
      by (meets_on t' j' k d w e) =
          let a = all t' j' d in
          let a0 = a.0 in
          f.free k (omega (arith, h, e, a0)) (subst (λ (z : ℕ). MeetsHold flow z k) a.1 w)

  long_one : (v : ℕ) → IsLongestFrom flow c j v → (n l : ℕ) → n ≤ t + c → Way flow i n l → l ≤ suc v
  long_one v f n l h w = by (way_from flow x i n l there w)
    where
      by : From flow x i n l → l ≤ suc v
      by (ends_here e g) = omega (arith, g)
      by (goes_to t' j' m k d u e g) =
          let a = all t' j' d in
          let a0 = a.0 in
          let s = f.most m k (omega (arith, h, e, a0)) (subst (λ (z : ℕ). Way flow z m k) a.1 u) in
          omega (arith, s, g)

  reach_one : (v : ℕ) → (v ≡ 0) ⊎ ((n : ℕ) × (n ≤ c) × Way flow j n v) → (suc v ≡ 0) ⊎ ((n : ℕ) × (n ≤ t + c) × Way flow i n (suc v))
  reach_one v (inl e) = inr (t, omega arith, subst (λ (z : ℕ). Way flow i z (suc v)) least (subst (λ (z : ℕ). Way flow i (must_branch_back x) (suc z)) (sym e) (last x there)))
  reach_one v (inr (n, h, w)) = inr (t + n, omega (arith, h), more x there step w)

  one : (r : Option ℕ) → IsNumber flow c j r → IsNumber flow (t + c) i (up r)
  unfolding up
  one None m = one_held m.0 m.1 m.2
  one (Some v) f = record { free = free_one v f; most = long_one v f; reached = reach_one v f.reached }

-- two steps lead on, the first without a branch
module _ (flow : Flow) (i t k b c : ℕ) (x : Onward) (there : flow i ≡ Some x) (no_hold : holds_up x ≡ false) (first : LeadsTo x i 0 (i + 1)) (second : LeadsTo x i t k)
    (all : (t' j' : ℕ) → LeadsTo x i t' j' → ((t' ≡ 0) × (j' ≡ i + 1)) ⊎ ((t' ≡ t) × (j' ≡ k))) (least : must_branch_back x ≡ 0) (room : b ≡ t + c) where
  free_two : (v w : ℕ) → IsLongestFrom flow b (i + 1) v → IsLongestFrom flow c k w → (n : ℕ) → n ≤ b → MeetsHold flow i n → ⊥
  free_two v w f g n h m = by (meets_from flow x i n there m)
    where
      by : MeetsFrom flow x i n → ⊥
      by (meets_here e) = not_held x no_hold e
      by (meets_on t' j' q d u e) =
          elim (all t' j' d) [
            | inl a ↦ let a0 = a.0 in f.free q (omega (arith, h, e, a0)) (subst (λ (z : ℕ). MeetsHold flow z q) a.1 u)
            | inr a ↦ let a0 = a.0 in g.free q (omega (arith, h, e, a0, room)) (subst (λ (z : ℕ). MeetsHold flow z q) a.1 u)
          ]

  left_of : (v w : ℕ) → v ≤ max v w
  left_of v w = omega arith

  right_of : (v w : ℕ) → w ≤ max v w
  right_of v w = omega arith

  long_two : (v w : ℕ) → IsLongestFrom flow b (i + 1) v → IsLongestFrom flow c k w → (n l : ℕ) → n ≤ b → Way flow i n l → l ≤ suc (max v w)
  long_two v w f g n l h u = by (way_from flow x i n l there u)
    where
      by : From flow x i n l → l ≤ suc (max v w)
      by (ends_here e y) = omega (arith, y)
      by (goes_to t' j' m q d y e z) =
          elim (all t' j' d) [
            | inl a ↦
                let a0 = a.0 in
                let s = f.most m q (omega (arith, h, e, a0)) (subst (λ (p : ℕ). Way flow p m q) a.1 y) in
                let up = left_of v w in
                omega (arith, s, z, up)
            | inr a ↦
                let a0 = a.0 in
                let s = g.most m q (omega (arith, h, e, a0, room)) (subst (λ (p : ℕ). Way flow p m q) a.1 y) in
                let up = right_of v w in
                omega (arith, s, z, up)
          ]

  is_one : (v w : ℕ) → (max v w ≡ v) ⊎ (max v w ≡ w)
  is_one v w = elim (cases_lt v w) [ inl l ↦ inr (omega (arith, l)) | inr l ↦ inl (omega (arith, l)) ]

  Reached : ℕ → Type 0
  Reached v = (suc v ≡ 0) ⊎ ((n : ℕ) × (n ≤ b) × Way flow i n (suc v))

  alone : (v : ℕ) → v ≡ 0 → Reached v
  unfolding Reached
  alone v e = inr (0, omega arith, subst (λ (z : ℕ). Way flow i z (suc v)) least (subst (λ (z : ℕ). Way flow i (must_branch_back x) (suc z)) (sym e) (last x there)))

  by_first : (v : ℕ) → (v ≡ 0) ⊎ ((n : ℕ) × (n ≤ b) × Way flow (i + 1) n v) → Reached v
  unfolding Reached
  by_first v (inl e) = alone v e
  by_first v (inr (n, h, w)) = inr (0 + n, omega (arith, h), more x there first w)

  by_second : (v : ℕ) → (v ≡ 0) ⊎ ((n : ℕ) × (n ≤ c) × Way flow k n v) → Reached v
  unfolding Reached
  by_second v (inl e) = alone v e
  by_second v (inr (n, h, w)) = inr (t + n, omega (arith, h, room), more x there second w)

  reach_two : (v w : ℕ) → IsLongestFrom flow b (i + 1) v → IsLongestFrom flow c k w → Reached (max v w)
  reach_two v w f g =
      elim (is_one v w) [
        | inl e ↦ subst Reached (sym e) (by_first v f.reached)
        | inr e ↦ subst Reached (sym e) (by_second w g.reached)
      ]

  two : (r s : Option ℕ) → IsNumber flow b (i + 1) r → IsNumber flow c k s → IsNumber flow b i (up (longer r s))
  unfolding Reached up
  two None s m g = (0 + m.0, let h = m.1 in omega (arith, h), held_later x there first m.2)
  two (Some v) None f m = (t + m.0, let h = m.1 in omega (arith, h, room), held_later x there second m.2)
  two (Some v) (Some w) f g = record { free = free_two v w f g; most = long_two v w f g; reached = reach_two v w f g }

no_way_off : (flow : Flow) (i n l : ℕ) → flow i ≡ None → Way flow i n l → ⊥
no_way_off flow i _ _ e (last x f) = let h : Some x ≡ None = sym f ∙ e in cc
no_way_off flow i _ _ e (more x f d w) = let h : Some x ≡ None = sym f ∙ e in cc

meets_none_off : (flow : Flow) (i n : ℕ) → flow i ≡ None → MeetsHold flow i n → ⊥
meets_none_off flow i _ e (held_here x f h) = let h : Some x ≡ None = sym f ∙ e in cc
meets_none_off flow i _ e (held_later x f d w) = let h : Some x ≡ None = sym f ∙ e in cc

on_all : (i t j : ℕ) → LeadsTo GoesOn i t j → (t ≡ 0) × (j ≡ i + 1)
on_all i _ _ goes_on = (refl, refl)

branch_all : (i k t j : ℕ) → LeadsTo (Branches k) i t j → (t ≡ 0) × (j ≡ k)
branch_all i k _ _ branches = (refl, refl)

back_all : (i k t j : ℕ) → LeadsTo (BranchesBack k) i t j → (t ≡ 1) × (j ≡ k)
back_all i k _ _ branches_back = (refl, refl)

may_branch_all : (i k t j : ℕ) → LeadsTo (MayBranch k) i t j → ((t ≡ 0) × (j ≡ i + 1)) ⊎ ((t ≡ 0) × (j ≡ k))
may_branch_all i k _ _ not_branched = inl (refl, refl)
may_branch_all i k _ _ branched = inr (refl, refl)

may_back_all : (i k t j : ℕ) → LeadsTo (MayBranchBack k) i t j → ((t ≡ 0) × (j ≡ i + 1)) ⊎ ((t ≡ 1) × (j ≡ k))
may_back_all i k _ _ not_branched_back = inl (refl, refl)
may_back_all i k _ _ branched_back = inr (refl, refl)

end_none : (i t j : ℕ) → LeadsTo EndsThread i t j → ⊥
end_none i t j d = elim d [ ]

module _ (flow : Flow) where
  -- where ways end
  pub off : (b i : ℕ) → flow i ≡ None → IsNumber flow b i (Some 0)
  off b i e = record {
    free = λ n h m. meets_none_off flow i n e m;
    most = λ n l h w. absurd (no_way_off flow i n l e w);
    reached = inl refl;
  }

  -- there the number is 0 for each count of branches
  pub off_all : (b c i : ℕ) (r : Option ℕ) → flow i ≡ None → IsNumber flow b i r → IsNumber flow c i r
  off_all b c i None e m = absurd (meets_none_off flow i m.0 e m.2)
  off_all b c i (Some v) e f = by f.reached
    where
      by : (v ≡ 0) ⊎ ((n : ℕ) × (n ≤ b) × Way flow i n v) → IsNumber flow c i (Some v)
      by (inl z) = subst (λ (q : ℕ). IsLongestFrom flow c i q) (sym z) (off c i e)
      by (inr (n, h, w)) = absurd (no_way_off flow i n v e w)

  held : (b i : ℕ) (x : Onward) → flow i ≡ Some x → holds_up x ≡ true → IsNumber flow b i None
  held b i x e h = (0, omega arith, held_here x e h)

  ends_free : (i n : ℕ) → flow i ≡ Some EndsThread → MeetsHold flow i n → ⊥
  ends_free i n e m = by (meets_from flow EndsThread i n e m)
    where
      by : MeetsFrom flow EndsThread i n → ⊥
      by (meets_here h) = not_held EndsThread refl h
      by (meets_on t j q d u y) = end_none i t j d

  ends_long : (i n l : ℕ) → flow i ≡ Some EndsThread → Way flow i n l → l ≤ 1
  ends_long i n l e w = by (way_from flow EndsThread i n l e w)
    where
      by : From flow EndsThread i n l → l ≤ 1
      by (ends_here h g) = omega (arith, g)
      by (goes_to t j m q d u y z) = absurd (end_none i t j d)

  ended : (b i : ℕ) → flow i ≡ Some EndsThread → IsNumber flow b i (Some 1)
  ended b i e = record {
    free = λ n h m. ends_free i n e m;
    most = λ n l h w. ends_long i n l e w;
    reached = inr (0, omega arith, last EndsThread e);
  }

  back_free : (i k n : ℕ) → flow i ≡ Some (BranchesBack k) → n ≤ 0 → MeetsHold flow i n → ⊥
  back_free i k n e h m = by (meets_from flow (BranchesBack k) i n e m)
    where
      by : MeetsFrom flow (BranchesBack k) i n → ⊥
      by (meets_here q) = not_held (BranchesBack k) refl q
      by (meets_on t j q d u y) = let a = (back_all i k t j d).0 in omega (arith, h, y, a)

  back_long : (i k n l : ℕ) → flow i ≡ Some (BranchesBack k) → n ≤ 0 → Way flow i n l → l ≤ 0
  back_long i k n l e h w = by (way_from flow (BranchesBack k) i n l e w)
    where
      by : From flow (BranchesBack k) i n l → l ≤ 0
      by (ends_here q g) = omega (arith, h, q)
      by (goes_to t j m q d u y z) = let a = (back_all i k t j d).0 in omega (arith, h, y, a)

  no_branch_left : (i k : ℕ) → flow i ≡ Some (BranchesBack k) → IsNumber flow 0 i (Some 0)
  no_branch_left i k e = record {
    free = λ n h m. back_free i k n e h m;
    most = λ n l h w. back_long i k n l e h w;
    reached = inl refl;
  }

  same_by : (a b i : ℕ) (r : Option ℕ) → a ≡ b → IsNumber flow a i r → IsNumber flow b i r
  same_by a b i r e h = subst (λ (z : ℕ). IsNumber flow z i r) e h

  -- a conditional backward branch with none left
  not_free : (i k v : ℕ) → flow i ≡ Some (MayBranchBack k) → IsLongestFrom flow 0 (i + 1) v → (n : ℕ) → n ≤ 0 → MeetsHold flow i n → ⊥
  not_free i k v e f n h m = by (meets_from flow (MayBranchBack k) i n e m)
    where
      by : MeetsFrom flow (MayBranchBack k) i n → ⊥
      by (meets_here q) = not_held (MayBranchBack k) refl q
      by (meets_on t j q d u y) = elim (may_back_all i k t j d) [
        | inl a ↦ let a0 = a.0 in f.free q (omega (arith, h, y, a0)) (subst (λ (z : ℕ). MeetsHold flow z q) a.1 u)
        | inr a ↦ let a0 = a.0 in omega (arith, h, y, a0)
      ]

  not_long : (i k v : ℕ) → flow i ≡ Some (MayBranchBack k) → IsLongestFrom flow 0 (i + 1) v → (n l : ℕ) → n ≤ 0 → Way flow i n l → l ≤ suc v
  not_long i k v e f n l h w = by (way_from flow (MayBranchBack k) i n l e w)
    where
      by : From flow (MayBranchBack k) i n l → l ≤ suc v
      by (ends_here q g) = omega (arith, g)
      by (goes_to t j m q d u y z) = elim (may_back_all i k t j d) [
        | inl a ↦ let a0 = a.0 in let s = f.most m q (omega (arith, h, y, a0)) (subst (λ (p : ℕ). Way flow p m q) a.1 u) in omega (arith, s, z)
        | inr a ↦ let a0 = a.0 in absurd (omega (arith, h, y, a0))
      ]

  not_reached : (i k v : ℕ) → flow i ≡ Some (MayBranchBack k) → (v ≡ 0) ⊎ ((n : ℕ) × (n ≤ 0) × Way flow (i + 1) n v) → (suc v ≡ 0) ⊎ ((n : ℕ) × (n ≤ 0) × Way flow i n (suc v))
  not_reached i k v e (inl q) = inr (0, omega arith, subst (λ (z : ℕ). Way flow i 0 (suc z)) (sym q) (last (MayBranchBack k) e))
  not_reached i k v e (inr (n, h, w)) = inr (0 + n, omega (arith, h), more (MayBranchBack k) e not_branched_back w)

  not_back : (i k : ℕ) (r : Option ℕ) → flow i ≡ Some (MayBranchBack k) → IsNumber flow 0 (i + 1) r → IsNumber flow 0 i (up r)
  unfolding up
  not_back i k None e m = (0 + m.0, let h = m.1 in omega (arith, h), held_later (MayBranchBack k) e not_branched_back m.2)
  not_back i k (Some v) e f = record { free = not_free i k v e f; most = not_long i k v e f; reached = not_reached i k v e f.reached }

-- each number is below the greatest of 64 bits
pub IsSmall : Option ℕ → Type 0
IsSmall None = Unit {0}
IsSmall (Some v) = v < 18446744073709551615

fits : (r : Option ℕ) → IsSmall r → up r ≡ one_more r
unfolding up IsSmall
fits None h = refl
fits (Some v) h = let e : suc v ≡ min (v + 1) 18446744073709551615 = omega arith in ap Some e

longer_small : (r s : Option ℕ) → IsSmall r → IsSmall s → IsSmall (longer r s)
unfolding IsSmall
longer_small None s h g = tt
longer_small (Some v) None h g = tt
longer_small (Some v) (Some w) h g = let m : max v w < 18446744073709551615 = omega arith in m

pub small_by : (flow : Flow) (b j : ℕ) (r : Option ℕ) → ((n l : ℕ) → n ≤ b → Way flow j n l → l < 18446744073709551615) → IsNumber flow b j r → IsSmall r
unfolding IsSmall
small_by flow b j None short f = tt
small_by flow b j (Some v) short f = by f.reached
  where
    by : (v ≡ 0) ⊎ ((n : ℕ) × (n ≤ b) × Way flow j n v) → v < 18446744073709551615
    by (inl e) = omega (arith, e)
    by (inr (n, h, w)) = short n v h w

-- the row's number at an index, by what stands there: where those ahead have numbers for b backward branches, and those back for one less
module _ (flow : Flow) (b i size : ℕ) (number : ℕ → Option ℕ)
    (short : (c j n l : ℕ) → c ≤ b → n ≤ c → Way flow j n l → l < 18446744073709551615)
    (new : (j : ℕ) → i + 1 ≤ j → IsNumber flow b j (number j)) (old : (j c : ℕ) → j < i + 1 → b ≡ suc c → IsNumber flow c j (number j)) where
  new_small : (j : ℕ) → i + 1 ≤ j → IsSmall (number j)
  new_small j h = small_by flow b j (number j) (λ n l g w. short b j n l (omega arith) g w) (new j h)

  old_small : (j c : ℕ) → j < i + 1 → b ≡ suc c → IsSmall (number j)
  old_small j c h e = small_by flow c j (number j) (λ n l g w. short c j n l (omega arith) g w) (old j c h e)

  one_on : (x : Onward) (t j c : ℕ) → flow i ≡ Some x → holds_up x ≡ false → LeadsTo x i t j → ((t' j' : ℕ) → LeadsTo x i t' j' → (t' ≡ t) × (j' ≡ j)) →
      must_branch_back x ≡ t → t + c ≡ b → IsNumber flow c j (number j) → IsSmall (number j) → IsNumber flow b i (one_more (number j))
  one_on x t j c e h d all least sum is small =
      subst (IsNumber flow b i) (fits (number j) small) (same_by flow (t + c) b i (up (number j)) sum (one flow i t j c x e h d all least (number j) is))

  two_on : (x : Onward) (t k c : ℕ) → flow i ≡ Some x → holds_up x ≡ false → LeadsTo x i 0 (i + 1) → LeadsTo x i t k →
      ((t' j' : ℕ) → LeadsTo x i t' j' → ((t' ≡ 0) × (j' ≡ i + 1)) ⊎ ((t' ≡ t) × (j' ≡ k))) →
      must_branch_back x ≡ 0 → b ≡ t + c → IsNumber flow c k (number k) → IsSmall (number k) → IsNumber flow b i (one_more (longer (number (i + 1)) (number k)))
  two_on x t k c e h d f all least sum is small =
      subst (IsNumber flow b i) (fits (longer (number (i + 1)) (number k)) (longer_small (number (i + 1)) (number k) (new_small (i + 1) (omega arith)) small))
      (two flow i t k b c x e h d f all least sum (number (i + 1)) (number k) (new (i + 1) (omega arith)) is)

  not_back_on : (k : ℕ) → flow i ≡ Some (MayBranchBack k) → b ≡ 0 → IsNumber flow b i (one_more (number (i + 1)))
  not_back_on k e none =
      subst (IsNumber flow b i) (fits (number (i + 1)) (new_small (i + 1) (omega arith)))
      (same_by flow 0 b i (up (number (i + 1))) (sym none)
      (not_back flow i k (number (i + 1)) e (same_by flow b 0 (i + 1) (number (i + 1)) none (new (i + 1) (omega arith)))))

  pub number_by_way : (way : Onward) (is_left : Bool) → flow i ≡ Some way → HasTarget size i way → (is_left ≡ false → b ≡ 0) → (is_left ≡ true → (c : ℕ) × (b ≡ suc c)) →
      IsNumber flow b i (number_by way i is_left number)
  number_by_way GoesOn left e t none some =
      one_on GoesOn 0 (i + 1) b e refl goes_on (on_all i) refl (omega arith) (new (i + 1) (omega arith)) (new_small (i + 1) (omega arith))
  number_by_way (MayBranch k) left e t none some =
      let far : i + 1 ≤ k = let h = t.0 in omega arith in
      two_on (MayBranch k) 0 k b e refl not_branched branched (may_branch_all i k) refl (omega arith) (new k far) (new_small k far)
  number_by_way (Branches k) left e t none some =
      let far : i + 1 ≤ k = let h = t.0 in omega arith in
      one_on (Branches k) 0 k b e refl branches (branch_all i k) refl (omega arith) (new k far) (new_small k far)
  number_by_way (MayBranchBack k) true e t none some =
      let c = (some refl).0 in
      let is : b ≡ suc c = (some refl).1 in
      let near : k < i + 1 = let h = t.0 in omega arith in
      two_on (MayBranchBack k) 1 k c e refl not_branched_back branched_back (may_back_all i k) refl (omega (arith, is)) (old k c near is) (old_small k c near is)
  number_by_way (MayBranchBack k) false e t none some = not_back_on k e (none refl)
  number_by_way (BranchesBack k) true e t none some =
      let c = (some refl).0 in
      let is : b ≡ suc c = (some refl).1 in
      let near : k < i + 1 = let h = t.0 in omega arith in
      one_on (BranchesBack k) 1 k c e refl branches_back (back_all i k) refl (omega (arith, is)) (old k c near is) (old_small k c near is)
  number_by_way (BranchesBack k) false e t none some = same_by flow 0 b i (Some 0) (sym (none refl)) (no_branch_left flow i k e)
  number_by_way EndsThread left e t none some = ended flow b i e
  number_by_way Waits left e t none some = held flow b i Waits e refl
  number_by_way AwaitsEvent left e t none some = held flow b i AwaitsEvent e refl
  number_by_way LeadsElsewhere left e t none some = held flow b i LeadsElsewhere e refl
