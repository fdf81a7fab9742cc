-- Branches that are added behind others leave the names of the families that are there, and a new `par` is the next one of its maker's.
use Rattle.std.proofs.Common.{◌≡◌, ℕ, zero, suc, ◌+◌, ◌-◌, ◌<◌, ◌≤◌, ◌≢◌, Bool, true, false, List, [], ◌∷◌, ◌++◌, Option, Some, None, refl, sym, ap, ◌∙◌, subst, arith, eq-eqb}
use Rattle.std.specs.Prelude.{slice_get, slice_set, length, nat_eq, nat_lt, ◌&&◌, if◌then◌else◌}
use Rattle.std.proofs.lemmas.Bool.{ne_eqb, lt-ltb}
use Rattle.std.proofs.lemmas.Option.{none-some}
use Rattle.xs_instr.specs.Machine.{and_then}
use Rattle.xc_kernel.specs.Plain as kernel
use Rattle.xc_meaning.specs.Counts.Families.{child_among, child_by, child_family, child_of, is_second, one_if}
use Rattle.xc_meaning.specs.Settings.Par.{Begun, children}
use Rattle.xc_meaning.specs.Settings.Setting.{Setting}
use Rattle.xc_meaning.specs.States.Branches.{Birth, Branch}
use Rattle.xc_meaning.specs.States.Worlds.{World}
use Rattle.xr_match.specs.Lives.{Family, of_child, of_root}
use Rattle.xr_match.specs.Meanings.{family_in}
use Rattle.xr_simulation.specs.Living.{AreBornBelow, IsBornBelow, pars_of}

-- The branches of a state are each of the same birth as before, and there are more behind them.
abbrev pub Grown : (bs bs' more : List Branch) → Type 0
Grown [] bs' more = bs' ≡ more
Grown (b ∷ bs) [] more = ⊥
Grown (b ∷ bs) (b' ∷ bs') more = (b'.birth ≡ b.birth) × Grown bs bs' more

pub grown_same : (bs : List Branch) → Grown bs bs []
grown_same [] = refl
grown_same (b ∷ bs) = (refl, grown_same bs)

-- one branch changes
pub grown_set : (bs : List Branch) (n : ℕ) (old new : Branch) → slice_get bs n ≡ Some old → new.birth ≡ old.birth → Grown bs (slice_set bs n new) []
grown_set [] n old new h e = absurd (none-some old h)
grown_set (b ∷ bs) zero old new h e = let s : b ≡ old = cc in (e ∙ ap (λ (i : Branch). i.birth) (sym s), grown_same bs)
grown_set (b ∷ bs) (suc n) old new h e = (refl, grown_set bs n old new h e)

-- and then others are added
pub grown_append : (bs bs' more : List Branch) → Grown bs bs' [] → Grown bs (bs' ++ more) more
grown_append [] [] more g = refl
grown_append [] (b ∷ bs') more g = cc
grown_append (b ∷ bs) [] more g = absurd g
grown_append (b ∷ bs) (b' ∷ bs') more g = (g.0, grown_append bs bs' more g.1)

pub grown_length : (bs bs' more : List Branch) → Grown bs bs' more → length bs' ≡ length bs + length more
grown_length [] bs' more g = let e = ap length g in omega (arith, e)
grown_length (b ∷ bs) [] more g = absurd g
grown_length (b ∷ bs) (b' ∷ bs') more g = let e = grown_length bs bs' more g.1 in omega (arith, e)

-- the `par`s that a family has made
pub grown_pars : (f : ℕ) (bs bs' more : List Branch) → Grown bs bs' more → pars_of f bs' ≡ pars_of f bs + pars_of f more
grown_pars f [] bs' more g = let e = ap (pars_of f) g in omega (arith, e)
grown_pars f (b ∷ bs) [] more g = absurd g
grown_pars f (b ∷ bs) (b' ∷ bs') more g =
    let e = grown_pars f bs bs' more g.1 in let h = ap (λ o. one_if (is_second f o)) g.0 in omega (arith, e, h)

-- what is found by others is found by those that find no less
child_by_still : (s : Bool) (here : Option ℕ) (j k : ℕ) (others others' : ℕ → Option ℕ) → ((i : ℕ) → others i ≡ Some k → others' i ≡ Some k) → child_by s here j others ≡ Some k → child_by s here j others' ≡ Some k
child_by_still true here zero k others others' f h = h
child_by_still true here (suc j) k others others' f h = f j h
child_by_still false here j k others others' f h = f j h

-- a branch that was found is found
pub grown_child : (f i n j k : ℕ) (bs bs' more : List Branch) → Grown bs bs' more → child_among f i n bs j ≡ Some k → child_among f i n bs' j ≡ Some k
grown_child f i n j k [] bs' more g h = absurd (none-some k h)
grown_child f i n j k (b ∷ bs) [] more g h = absurd g
grown_child f i n j k (b ∷ bs) (b' ∷ bs') more g h =
    subst (λ o. child_by (is_second f o) (child_of i n o) j (child_among f i (n + 1) bs') ≡ Some k) (sym g.0)
    (child_by_still (is_second f b.birth) (child_of i n b.birth) j k (child_among f i (n + 1) bs) (child_among f i (n + 1) bs') (λ l e. grown_child f i (n + 1) l k bs bs' more g.1 e) h)

-- behind those that are there
child_by_skips : (s : Bool) (here : Option ℕ) (p j : ℕ) (others : ℕ → Option ℕ) → child_by s here (one_if s + p + j) others ≡ others (p + j)
child_by_skips true here p j others = let e : 1 + p + j ≡ suc (p + j) = omega arith in ap (λ k. child_by true here k others) e
child_by_skips false here p j others = let e : 0 + p + j ≡ p + j = omega arith in ap others e

-- the `par`s behind those that the family had made are found among the new ones
pub grown_new : (f i n j : ℕ) (bs bs' more : List Branch) → Grown bs bs' more → child_among f i n bs' (pars_of f bs + j) ≡ child_among f i (n + length bs) more j
grown_new f i n j [] bs' more g =
    let e : 0 + j ≡ j = omega arith in let s : n ≡ n + 0 = omega arith in
    ap (child_among f i n bs') e ∙ ap (λ l. child_among f i n l j) g ∙ ap (λ k. child_among f i k more j) s
grown_new f i n j (b ∷ bs) [] more g = absurd g
grown_new f i n j (b ∷ bs) (b' ∷ bs') more g =
    let p = one_if (is_second f b.birth) + pars_of f bs + j in
    let s : n + 1 + length bs ≡ n + length (b ∷ bs) = omega arith in
    ap (λ o. child_by (is_second f o) (child_of i n o) p (child_among f i (n + 1) bs')) g.0
    ∙ child_by_skips (is_second f b.birth) (child_of i n b.birth) (pars_of f bs) j (child_among f i (n + 1) bs')
    ∙ grown_new f i (n + 1) j bs bs' more g.1
    ∙ ap (λ k. child_among f i k more j) s

-- Births.

pub born_more : (n m : ℕ) (bs : List Branch) → n ≤ m → AreBornBelow n bs → AreBornBelow m bs
born_more n m [] le h = tt
born_more n m (b ∷ bs) le h = (one b.birth h.0, born_more n m bs le h.1)
  where
    one : (o : Option Birth) → IsBornBelow n o → IsBornBelow m o
    one None k = tt
    one (Some birth) k = omega arith

pub born_grown : (n : ℕ) (bs bs' more : List Branch) → Grown bs bs' more → AreBornBelow n bs → AreBornBelow n more → AreBornBelow n bs'
born_grown n [] bs' more g h k = subst (AreBornBelow n) (sym g) k
born_grown n (b ∷ bs) [] more g h k = absurd g
born_grown n (b ∷ bs) (b' ∷ bs') more g h k = (subst (IsBornBelow n) (sym g.0) h.0, born_grown n bs bs' more g.1 h.1 k)

-- a branch of another family's `par` is no second one of this family
not_second : (f : ℕ) (birth : Birth) → birth.family ≢ f → one_if (is_second f (Some birth)) ≡ 0
not_second f birth ne = ap (λ b. one_if (b && nat_eq birth.index 1)) (ne_eqb birth.family f ne)

-- a family with a number that none of these has made none
pub born_none : (n f : ℕ) (bs : List Branch) → n ≤ f → AreBornBelow n bs → pars_of f bs ≡ 0
born_none n f [] le h = refl
born_none n f (b ∷ bs) le h = let e = one b.birth h.0 in let k = born_none n f bs le h.1 in omega (arith, e, k)
  where
    one : (o : Option Birth) → IsBornBelow n o → one_if (is_second f o) ≡ 0
    one None k = refl
    one (Some birth) k = not_second f birth (λ e. absurd (omega arith))

-- The branches of a `par` that a family made, from an index on.
abbrev pub AreBornOf : (family among index : ℕ) → List Branch → Type 0
AreBornOf f n i [] = i ≡ n
AreBornOf f n i (b ∷ bs) = (b.birth ≡ Some (record { family = f; index = i; among = n })) × AreBornOf f n (i + 1) bs

pub children_born : (s : Setting) (n i : ℕ) (before : List kernel.Statements) (begun : List Begun) → i + length begun ≡ n → AreBornOf s.branch.family n i (children s n i before begun)
children_born s n i before [] e = omega arith
children_born s n i before (b ∷ bs) e = (refl, children_born s n (i + 1) (b.code ∷ before) bs (omega arith))

pub born_of_length : (f n i : ℕ) (bs : List Branch) → AreBornOf f n i bs → i + length bs ≡ n
born_of_length f n i [] h = omega arith
born_of_length f n i (b ∷ bs) h = let e = born_of_length f n (i + 1) bs h.1 in omega (arith, e)

pub born_of_below : (m f n i : ℕ) (bs : List Branch) → f < m → AreBornOf f n i bs → AreBornBelow m bs
born_of_below m f n i [] lt h = tt
born_of_below m f n i (b ∷ bs) lt h = (subst (IsBornBelow m) (sym h.0) lt, born_of_below m f n (i + 1) bs lt h.1)

-- they are no `par` of another family
pub born_of_others : (f f' n i : ℕ) (bs : List Branch) → f ≢ f' → AreBornOf f n i bs → pars_of f' bs ≡ 0
born_of_others f f' n i [] ne h = refl
born_of_others f f' n i (b ∷ bs) ne h =
    let e = born_of_others f f' n (i + 1) bs ne h.1 in
    let k = ap (λ o. one_if (is_second f' o)) h.0 in
    let l = not_second f' (record { family = f; index = i; among = n }) ne in
    omega (arith, e, k, l)

-- only one with index 1 counts
is_second_at : (f n i : ℕ) → is_second f (Some (record { family = f; index = i; among = n })) ≡ nat_eq i 1
is_second_at f n i = ap (λ b. b && nat_eq i 1) (eq-eqb f f refl)

-- from index 2 on none counts
pub born_of_late : (f n i : ℕ) (bs : List Branch) → 2 ≤ i → AreBornOf f n i bs → pars_of f bs ≡ 0
born_of_late f n i [] le h = refl
born_of_late f n i (b ∷ bs) le h =
    let ne : i ≢ 1 = λ e. absurd (omega arith) in
    let k = ap (λ o. one_if (is_second f o)) h.0 ∙ ap one_if (is_second_at f n i ∙ ne_eqb i 1 ne) in
    let e = born_of_late f n (i + 1) bs (omega arith) h.1 in
    omega (arith, k, e)

-- one `par` of one branch counts as none
pub born_of_one : (f : ℕ) (f' : ℕ) (bs : List Branch) → AreBornOf f 1 0 bs → pars_of f' bs ≡ 0
born_of_one f f' [] h = refl
born_of_one f f' (b ∷ []) h =
    let k = ap (λ o. one_if (is_second f' o)) h.0 ∙ first_counts (nat_eq f f') in omega (arith, k)
  where
    first_counts : (s : Bool) → one_if (s && nat_eq 0 1) ≡ 0
    first_counts true = refl
    first_counts false = refl
born_of_one f f' (b ∷ d ∷ bs) h = let e = born_of_length f 1 (0 + 1 + 1) bs h.1.1 in absurd (omega (arith, e))

-- one of two or more counts as one
pub born_of_several : (f n : ℕ) (bs : List Branch) → 2 ≤ n → AreBornOf f n 0 bs → pars_of f bs ≡ 1
born_of_several f n [] le h = absurd (omega arith)
born_of_several f n (b ∷ []) le h = let e : 0 + 1 ≡ n = h.1 in absurd (omega arith)
born_of_several f n (b ∷ d ∷ bs) le h =
    let k = ap (λ o. one_if (is_second f o)) h.0 ∙ ap one_if (is_second_at f n 0) in
    let l = ap (λ o. one_if (is_second f o)) h.1.0 ∙ ap one_if (is_second_at f n (0 + 1)) in
    let e = born_of_late f n (0 + 1 + 1) bs (omega arith) h.1.1 in
    omega (arith, k, l, e)

-- and its branch with an index behind the first is found
pub born_of_child : (f n from i : ℕ) (bs : List Branch) → 1 ≤ i → i < n → AreBornOf f n 0 bs → child_among f i from bs 0 ≡ Some (from + i)
born_of_child f n from i [] le lt h = absurd (omega arith)
born_of_child f n from i (b ∷ []) le lt h = let e : 0 + 1 ≡ n = h.1 in absurd (omega arith)
born_of_child f n from i (b ∷ d ∷ bs) le lt h =
    let rest = child_among f i (from + 1) (d ∷ bs) in
    let others = child_among f i (from + 1 + 1) bs in
    ap (λ o. child_by (is_second f o) (child_of i from o) 0 rest) h.0
    ∙ ap (λ s. child_by s (child_of i from (Some (record { family = f; index = 0; among = n }))) 0 rest) (is_second_at f n 0)
    ∙ ap (λ o. child_by (is_second f o) (child_of i (from + 1) o) 0 others) h.1.0
    ∙ ap (λ s. child_by s (child_of i (from + 1) (Some (record { family = f; index = 0 + 1; among = n }))) 0 others) (is_second_at f n (0 + 1))
    ∙ here (nat_lt i n) (lt-ltb i n lt)
  where
    here : (s : Bool) → s ≡ true → (if s then Some (from + 1 + i - 1) else None) ≡ Some (from + i)
    here true e = let k : from + 1 + i - 1 ≡ from + i = omega arith in ap Some k
    here false e = cc

-- Names.

module _ (K : kernel.Kernel) (x x' : World) (more : List Branch) (grown : Grown x.branches x'.branches more) where
  child_then : (maker : Family) (par index k : ℕ) (o : Option ℕ) → ((m : ℕ) → o ≡ Some m → family_in K x' maker ≡ Some m) → and_then o (λ f. child_family x f par index) ≡ Some k →
      and_then (family_in K x' maker) (λ f. child_family x' f par index) ≡ Some k
  child_then maker par index k None f h = absurd (none-some k h)
  child_then maker par index k (Some m) f h =
      ap (λ o. and_then o (λ i. child_family x' i par index)) (f m refl) ∙ grown_child m index 0 par k x.branches x'.branches more grown h

  -- a family that has a number keeps it
  pub grown_names : (name : Family) (f : ℕ) → family_in K x name ≡ Some f → family_in K x' name ≡ Some f
  grown_names (of_root core place) f h = h
  grown_names (of_child maker par index) f h = child_then maker par index f (family_in K x maker) (grown_names maker) h
