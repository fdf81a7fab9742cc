-- A running branch that uses a channel on a side stands in a transaction on it exactly where some branch on that side does.
use Rattle.std.proofs.Common.{◌++◌, ◌≡◌, ◌≢◌, ◌⊎◌, inl, inr, ⊎_elim, ℕ, zero, suc, ◌<◌, Bool, true, false, not, ◌&&◌, IsTrue, List, [], ◌∷◌, length, append-nil, Option, Some, None, slice_get, slice_set, slice_index_or, nat_eq, refl, sym, ap, subst, ◌∙◌, true≢false}
use Rattle.xs_instr.specs.declared.image.Stim.{Stim}
use Rattle.xc_kernel.specs.Plain as kernel
use Rattle.xc_kernel.specs.Things.{channel}
use Rattle.xc_meaning.specs.States.Channels.{Side, first, second, other_side}
use Rattle.xw_words.specs.declared.pos.Pos.{Pos}
use Rattle.xc_meaning.specs.States.Items.{Item, transaction_end, ends}
use Rattle.xc_meaning.specs.States.Branches.{Mode, runs, waits, ended, erred, has_ended, Branch, side_of}
use Rattle.xc_meaning.specs.States.Worlds.{World, Action}
use Rattle.xc_meaning.specs.Settings.Channels.{is_among}
use Rattle.xc_meaning.specs.Settings.Transactions.{without_innermost}
use Rattle.xc_meaning.specs.Settings.Par.{codes_of}
use Rattle.xc_meaning.specs.Outline as outline
use Rattle.xc_meaning.specs.Outline.{Becomes, goes, enters, exits, errs, ends_it, makes, Moved, ticked, stepped, joined}
use Rattle.xc_meaning.specs.Runs.{step_of, kernel_run, kernel_start}
use Rattle.xc_meaning.specs.Quiet.{is_side}
use Rattle.xc_meaning.specs.Uses.{by_items}
use Rattle.std.proofs.lemmas.Bool.{eqb-true}
use Rattle.xc_meaning.proofs.Basics.{some_given, none_given, same_or_not, or_left, or_right, or_cases}
use Rattle.xc_disjoint.specs.Checked.{IsChecked}
use Rattle.xc_invariants.specs.Rules.{AnyPar, AnyTransaction}
use Rattle.xc_invariants.specs.Tree.{Above}
use Rattle.xc_invariants.specs.Placed.{AnyBlock, AnyInside, EndsWell, WellPlaced, ends_of, IfLively}
use Rattle.xc_invariants.specs.Nested.{StandsInside, EachInside, EndIsBehind, its_own, above}
use Rattle.xc_invariants.specs.Lawful.{Lawful, Listed, ErredAloneHolds, InsideAgrees, InsideStays}
use Rattle.xc_invariants.specs.Within.{stands_within, inside_on, KeepsSide, ErredWithin, alone, below, EachErredAlone, IsTransaction, BeginsOrEnds}
use Rattle.xc_invariants.proofs.Always.{along, laws_begin, laws_hold}
use Rattle.xc_invariants.proofs.Checked.{checked_obey, checked_listed, users_are_inside}
use Rattle.xc_invariants.proofs.Links.{items_have}
use Rattle.xc_invariants.proofs.Nested.{inside_kept, inside_begins, end_is_behind, innermost_of, ends_inside, above_stands}
use Rattle.xc_invariants.proofs.Trees.{running_waits_not, above_waits}
use Rattle.xc_invariants.proofs.Tidy.{not_true, never}
use Rattle.xc_invariants.proofs.Lookups.{Behind, itself, there, new, behind, at_itself, at_other, born, front_of, next_of}
use Rattle.xc_invariants.proofs.Sides.{sides_stay}
use Rattle.xc_invariants.proofs.Uses.{no_text}
use Rattle.xc_meaning.proofs.Moved.{moved}
use Rattle.xc_invariants.proofs.Within.{EachInherits, sides_inherited, inherits_kept, inherits_begins, side_below, side_there, erred_kept, erred_begins}

-- what is kept together
record Stands (K : kernel.Kernel) (c : ℕ) (x : World) : Type 0 where
  inside : EachInside (length K.roots) x.branches
  inherits : EachInherits c x.branches
  erred : EachErredAlone c x.branches

all_stand : (K : kernel.Kernel) (s : Stim) (ms : List Action) (x : World) → IsChecked K → kernel_run K s ms ≡ Some x → (c : ℕ) → c < length K.channels → Stands K c x
all_stand K s ms x k e c lt =
    along (Stands K c) K s
    (λ a b m h t. record { inside = inside_kept K s a (length K.roots) h.forest h.placed t.inside m; inherits = inherits_kept c K s (length K.roots) a h.forest t.inherits m; erred = erred_kept c K s a h lt t.inside t.erred m }) ms (Some (kernel_start K)) x
    (λ z f. (subst (Lawful K) (some_given f) (laws_begin K (checked_obey K k)), subst (Stands K c) (some_given f) (record { inside = inside_begins K (checked_obey K k).placed; inherits = inherits_begins c K; erred = erred_begins c K }))) e

pub erred_alone_holds : ErredAloneHolds
erred_alone_holds K s ms x k e c lt = (all_stand K s ms x k e c lt).erred

-- One of some branches.

and_both : (a b : Bool) → (a && b) ≡ true → (a ≡ true) × (b ≡ true)
and_both true b e = (refl, e)
and_both false b e = never e refl

side_is : (side : Side) (o : Option Side) → is_side side o ≡ true → o ≡ Some side
side_is first (Some first) e = refl
side_is first (Some second) e = never e refl
side_is first None e = never e refl
side_is second (Some second) e = refl
side_is second (Some first) e = never e refl
side_is second None e = never e refl

pub is_its_side : (side : Side) → is_side side (Some side) ≡ true
is_its_side first = refl
is_its_side second = refl

-- a branch that stands so
pub record Within (bs : List Branch) (c : ℕ) (side : Side) : Type 0 where
  pub number : ℕ
  pub branch : Branch
  pub there : slice_get bs number ≡ Some branch
  pub going : has_ended branch.mode ≡ false
  pub side_is : side_of branch c ≡ Some side
  pub within : IsTrue (is_among c branch.inside)

pub some_within : (bs : List Branch) (c : ℕ) (side : Side) → inside_on bs c side ≡ true → Within bs c side
some_within [] c side e = never e refl
some_within (b ∷ bs) c side e = ⊎_elim here (λ r. let w = some_within bs c side r in record { number = suc w.number; branch = w.branch; there = w.there; going = w.going; side_is = w.side_is; within = w.within }) (or_cases (stands_within c side b) (inside_on bs c side) e)
  where
    not_so : (u : Bool) → not u ≡ true → u ≡ false
    not_so true q = never q refl
    not_so false q = refl

    here : stands_within c side b ≡ true → Within (b ∷ bs) c side
    here h =
        let p = and_both (not (has_ended b.mode)) _ h in
        let q = and_both (is_side side (side_of b c)) (is_among c b.inside) p.1 in
        record { number = 0; branch = b; there = refl; going = not_so (has_ended b.mode) p.0; side_is = side_is side (side_of b c) q.0; within = q.1 }

pub within_some : (bs : List Branch) (c : ℕ) (side : Side) → Within bs c side → inside_on bs c side ≡ true
within_some bs c side w = by bs w.number w.there
  where
    here : (b : Branch) → b ≡ w.branch → stands_within c side b ≡ true
    here b e =
        ap (λ (z : Branch). stands_within c side z) e
        ∙ (ap (λ u. not u && (is_side side (side_of w.branch c) && is_among c w.branch.inside)) w.going
        ∙ (ap (λ o. is_side side o && is_among c w.branch.inside) w.side_is ∙ (ap (λ u. u && is_among c w.branch.inside) (is_its_side side) ∙ w.within)))

    by : (bs : List Branch) (n : ℕ) → slice_get bs n ≡ Some w.branch → inside_on bs c side ≡ true
    by [] n e = none_given e
    by (b ∷ bs) zero e = or_left (stands_within c side b) (inside_on bs c side) (here b (some_given e))
    by (b ∷ bs) (suc n) e = or_right (stands_within c side b) (inside_on bs c side) (by bs n e)

other_is_not : (side : Side) → Some side ≡ Some (other_side side) → ⊥
other_is_not first e = cc
other_is_not second e = cc

same_truth : (a b : Bool) → (a ≡ true → b ≡ true) → (b ≡ true → a ≡ true) → a ≡ b
same_truth true b f g = sym (f refl)
same_truth false true f g = g refl
same_truth false false f g = refl

module _ (K : kernel.Kernel) (s : Stim) (ms : List Action) (x : World) (k : IsChecked K) (e : kernel_run K s ms ≡ Some x) (c : ℕ) (lt : c < length K.channels) (side : Side) where
  lawful : Lawful K x
  lawful = laws_hold K s ms x (checked_obey K k) e

  stand : Stands K c x
  stand = all_stand K s ms x k e c lt

  -- An end is among the items of a branch on this side.
  pub record EndThere (m : ℕ) (w : Branch) : Type 0 where
    pub number : ℕ
    pub branch : Branch
    pub there : slice_get x.branches number ≡ Some branch
    pub side_is : side_of branch c ≡ Some side
    pub end : IsTrue (is_among c (ends_of branch.items))
    pub stands : StandsInside (length K.roots) x.branches number branch
    pub over : (number ≡ m) × (branch ≡ w) ⊎ Above x.branches number m

  from_above : (m : ℕ) (w : Branch) → slice_get x.branches m ≡ Some w → side_of w c ≡ Some side → (p : ℕ) (q : Branch) → Above x.branches p m → slice_get x.branches p ≡ Some q → IsTrue (is_among c (ends_of q.items)) → EndThere m w
  from_above m w at es p q a ep u =
      let t = side_there c (side_of q c) q.items ((lawful.sided c lt).all p q ep) u in
      let same : Some t.0 ≡ Some side = sym (side_below c x.branches stand.inherits p m q w a ep at t.0 t.1) ∙ es in
      record { number = p; branch = q; there = ep; side_is = t.1 ∙ same; end = u; stands = above_stands (length K.roots) x.branches lawful.forest stand.inside c p m q a ep; over = inr a }

  behind_of : (m : ℕ) (w : Branch) → slice_get x.branches m ≡ Some w → side_of w c ≡ Some side → StandsInside (length K.roots) x.branches m w → EndIsBehind x.branches c m w → EndThere m w
  behind_of m w at es t (its_own u) = record { number = m; branch = w; there = at; side_is = es; end = u; stands = t; over = inl (refl, refl) }
  behind_of m w at es t (above p q a ep u) = from_above m w at es p q a ep u

  -- that of a branch that stands in the transaction, or it has erred and keeps the side to itself
  pub ends_there : (w : Within x.branches c side) → EndThere w.number w.branch ⊎ ((w.branch.mode ≡ erred) × KeepsSide x.branches c side w.number)
  ends_there w = by w.branch.mode refl
    where
      lively : IfLively w.branch.mode (StandsInside (length K.roots) x.branches w.number w.branch)
      lively = stand.inside.each w.number w.branch w.there

      of_standing : StandsInside (length K.roots) x.branches w.number w.branch → EndThere w.number w.branch
      of_standing t = behind_of w.number w.branch w.there w.side_is t (end_is_behind (length K.roots) x.branches lawful.forest stand.inside w.number w.branch t c w.within)

      of_erred : w.branch.mode ≡ erred → ErredWithin x.branches c w.number w.branch → EndThere w.number w.branch ⊎ ((w.branch.mode ≡ erred) × KeepsSide x.branches c side w.number)
      of_erred em (alone t f h) = inr (em, subst (λ (z : Side). KeepsSide x.branches c z w.number) (some_given (sym f ∙ w.side_is)) h)
      of_erred em (below p q a ep u) = inl (from_above w.number w.branch w.there w.side_is p q a ep u)

      by : (m : Mode) → w.branch.mode ≡ m → EndThere w.number w.branch ⊎ ((w.branch.mode ≡ erred) × KeepsSide x.branches c side w.number)
      by runs em = inl (of_standing (subst (λ m. IfLively m (StandsInside (length K.roots) x.branches w.number w.branch)) em lively))
      by (waits from count) em = inl (of_standing (subst (λ m. IfLively m (StandsInside (length K.roots) x.branches w.number w.branch)) em lively))
      by ended em = absurd (true≢false (sym (ap has_ended em) ∙ w.going))
      by erred em = of_erred em (stand.erred.each w.number w.branch w.there em w.within)

  module _ (n : ℕ) (b : Branch) (is : slice_get x.branches n ≡ Some b) (em : b.mode ≡ runs) (es : side_of b c ≡ Some side) (uses : IsTrue (by_items (channel c) b.items)) where
    -- none that has erred keeps the side of a running branch that uses the channel
    pub not_kept : (m : ℕ) (w : Branch) → slice_get x.branches m ≡ Some w → w.mode ≡ erred → KeepsSide x.branches c side m → ⊥
    not_kept m w at over h =
        let ne : n ≢ m = λ q. let z : runs ≡ erred = sym em ∙ (ap (λ (d : Branch). d.mode) (some_given (sym is ∙ (ap (slice_get x.branches) q ∙ at))) ∙ over) in absurd cc in
        ⊎_elim (λ a. running_waits_not em (above_waits x.branches n m b is a)) (λ r. other_is_not side (sym es ∙ r uses)) (h.others n b is ne)

    pub stands_in_it : Within x.branches c side → ((t : Within x.branches c side) → EndThere t.number t.branch → IsTrue (is_among c b.inside)) → IsTrue (is_among c b.inside)
    stands_in_it w f = ⊎_elim (f w) (λ h. absurd (not_kept w.number w.branch w.there h.0 h.1)) (ends_there w)

    pub agrees : is_among c b.inside ≡ inside_on x.branches c side
    agrees = same_truth (is_among c b.inside) (inside_on x.branches c side)
        (λ u. within_some x.branches c side (record { number = n; branch = b; there = is; going = ap has_ended em; side_is = es; within = u }))
        (λ h. stands_in_it (some_within x.branches c side h) (λ t d. (users_are_inside K s ms x k e d.number n d.branch b d.there is em c d.end (d.side_is ∙ sym es) uses).1))

-- what the items of a branch that has ended are
ended_is : (m : Mode) → has_ended m ≡ true → m ≡ ended
ended_is runs e = never e refl
ended_is (waits from count) e = never e refl
ended_is ended e = refl
ended_is erred e = never e refl

no_end : (c : ℕ) (rest : List Item) → EndsWell (ends ∷ rest) → IsTrue (is_among c (ends_of (ends ∷ rest))) → ⊥
no_end c [] h u = true≢false (sym u)
no_end c (item ∷ rest) h u = h

in_rest : (c : ℕ) (xs : List ℕ) → IsTrue (is_among c (without_innermost xs)) → IsTrue (is_among c xs)
in_rest c [] u = u
in_rest c (x ∷ xs) u = or_right (nat_eq c x) (is_among c xs) u

module _ (K : kernel.Kernel) (s : Stim) (ms : List Action) (x : World) (k : IsChecked K) (e : kernel_run K s ms ≡ Some x) (c : ℕ) (lt : c < length K.channels) (side : Side) where
  abbrev by_laws : Lawful K x
  by_laws = laws_hold K s ms x (checked_obey K k) e

  abbrev they : Stands K c x
  they = all_stand K s ms x k e c lt

  -- what a step leaves of a branch in whose items the transaction ends
  record Left (b0 now : Branch) : Type 0 where
    going : has_ended now.mode ≡ false
    side_is : side_of now c ≡ side_of b0 c
    within : IsTrue (is_among c now.inside)

  module _ (n0 : ℕ) (b0 : Branch) (rest : List Item) (is : slice_get x.branches n0 ≡ Some b0) (em : b0.mode ≡ runs) where
    abbrev stands_now : StandsInside (length K.roots) x.branches n0 b0
    stands_now = subst (λ m. IfLively m (StandsInside (length K.roots) x.branches n0 b0)) em (they.inside.each n0 b0 is)

    abbrev well : WellPlaced AnyBlock AnyInside b0
    well = subst (λ m. IfLively m (WellPlaced AnyBlock AnyInside b0)) em (by_laws.placed.each n0 b0 is)

    left_out : (d : ℕ) (is_master : Bool) (pos : Pos) → b0.items ≡ transaction_end d is_master pos ∷ rest → IsTrue (is_among c b0.inside) → IsTrue (is_among c (without_innermost b0.inside)) ⊎ ((d ≡ c) × (b0.inside ≡ c ∷ without_innermost b0.inside))
    left_out d is_master pos ei u =
        let o = innermost_of (length K.roots) x.branches n0 b0 rest d stands_now (ap ends_of ei) in
        ⊎_elim (λ v. let q = eqb-true c d v in inr (sym q, o.1 ∙ (ap (λ z. z ∷ o.0) (sym q) ∙ ap (λ i. c ∷ without_innermost i) (sym o.1))))
        (λ v. inl (subst (λ i. IsTrue (is_among c (without_innermost i))) (sym o.1) v)) (or_cases (nat_eq c d) (is_among c o.0) (subst (λ i. IsTrue (is_among c i)) o.1 u))

    -- the transactions on the channel change
    abbrev Changed : Item → Branch → Type 0
    Changed item now = IsTransaction c item × ((now.inside ≡ c ∷ b0.inside) ⊎ (b0.inside ≡ c ∷ now.inside))

    left_by : (item : Item) (now : Branch) (more : List Branch) → Becomes (step_of K s x n0 b0 rest) item now more → b0.items ≡ item ∷ rest → IsTrue (is_among c (ends_of b0.items)) → IsTrue (is_among c b0.inside) → Left b0 now ⊎ Changed item now
    left_by item now more (goes one items l) ei u v = inl (record { going = ap has_ended em; side_is = refl; within = v })
    left_by item now more (enters one d items l) ei u v = inl (record { going = ap has_ended em; side_is = refl; within = or_right (nat_eq c d) (is_among c b0.inside) v })
    left_by item now more (exits one items (outline.Exits.as_master d pos)) ei u v = ⊎_elim (λ w. inl (record { going = ap has_ended em; side_is = refl; within = w })) (λ q. inr (q.0, inr q.1)) (left_out d true pos ei v)
    left_by item now more (exits one items (outline.Exits.as_slave d pos)) ei u v = ⊎_elim (λ w. inl (record { going = ap has_ended em; side_is = refl; within = w })) (λ q. inr (q.0, inr q.1)) (left_out d false pos ei v)
    left_by item now more (errs one) ei u v = inl (record { going = refl; side_is = refl; within = v })
    left_by item now more ends_it ei u v = absurd (no_end c rest (subst EndsWell ei well.ended) (subst (λ i. IsTrue (is_among c (ends_of i))) ei u))
    left_by item now more (makes bs b others f) ei u v = inl (record { going = refl; side_is = refl; within = v })

    -- what was before
    was_by : (item : Item) (now : Branch) (more : List Branch) → Becomes (step_of K s x n0 b0 rest) item now more → b0.items ≡ item ∷ rest → IsTrue (is_among c now.inside) → IsTrue (is_among c b0.inside) ⊎ Changed item now
    was_by item now more (goes one items l) ei v = inl v
    was_by item now more (enters one d items (outline.Enters.as_master z ss start close)) ei v = ⊎_elim (λ w. let q = eqb-true c d w in inr (sym q, inl (ap (λ z. z ∷ b0.inside) (sym q)))) (λ w. inl w) (or_cases (nat_eq c d) (is_among c b0.inside) v)
    was_by item now more (enters one d items (outline.Enters.as_slave z ss start close)) ei v = ⊎_elim (λ w. let q = eqb-true c d w in inr (sym q, inl (ap (λ z. z ∷ b0.inside) (sym q)))) (λ w. inl w) (or_cases (nat_eq c d) (is_among c b0.inside) v)
    was_by item now more (exits one items l) ei v = inl (in_rest c b0.inside v)
    was_by item now more (errs one) ei v = inl v
    was_by item now more ends_it ei v = inl v
    was_by item now more (makes bs b others f) ei v = inl v

    -- a branch that stands in the transaction has a side
    side_inside : IsTrue (is_among c b0.inside) → (t : Side) × (side_of b0 c ≡ Some t)
    side_inside v = by (end_is_behind (length K.roots) x.branches by_laws.forest they.inside n0 b0 stands_now c v)
      where
        by : EndIsBehind x.branches c n0 b0 → (t : Side) × (side_of b0 c ≡ Some t)
        by (its_own u) = side_there c (side_of b0 c) b0.items ((by_laws.sided c lt).all n0 b0 is) u
        by (above p q a ep u) =
            let t = side_there c (side_of q c) q.items ((by_laws.sided c lt).all p q ep) u in
            (t.0, side_below c x.branches they.inherits p n0 q b0 a ep is t.0 t.1)

    made_of : (item : Item) (now : Branch) (more : List Branch) → Becomes (step_of K s x n0 b0 rest) item now more → (j : ℕ) (d : Branch) → slice_get more j ≡ Some d → (d.inside ≡ b0.inside) × ((t : Side) → side_of b0 c ≡ Some t → side_of d c ≡ Some t)
    made_of item now more (goes one items l) j d q = none_given q
    made_of item now more (enters one z items l) j d q = none_given q
    made_of item now more (exits one items l) j d q = none_given q
    made_of item now more (errs one) j d q = none_given q
    made_of item now more ends_it j d q = none_given q
    made_of item now more (makes bs b others f) j d q =
        let g = born (step_of K s x n0 b0 rest) (length (b ∷ others)) 0 [] (b ∷ others) j d q in
        (ap (λ (z : Branch). z.inside) g.is, λ t f. ap (λ (z : Branch). side_of z c) g.is ∙ sides_inherited 0 (front_of [] (codes_of (b ∷ others)) j) g.begun.code (next_of (codes_of (b ∷ others)) j) b0.sides c t f)

  -- it stands so behind a step, too
  module _ (w : Within x.branches c side) where
    forward : {y : World} → Moved K s x y → Within y.branches c side ⊎ BeginsOrEnds x.branches y.branches c side
    forward (ticked clocks) = inl (record { number = w.number; branch = w.branch; there = w.there; going = w.going; side_is = w.side_is; within = w.within })
    forward (stepped n b item rest z is em ei o) =
        ⊎_elim by_end (λ h. inl (by_erred h.0)) (ends_there K s ms x k e c lt side w)
      where
        by_erred : w.branch.mode ≡ erred → Within z.branches c side
        by_erred over =
            let ne : w.number ≢ n = λ q. let v : runs ≡ erred = sym em ∙ (ap (λ (d : Branch). d.mode) (some_given (sym is ∙ (ap (slice_get x.branches) (sym q) ∙ w.there))) ∙ over) in absurd cc in
            record { number = w.number; branch = w.branch; there = ap (λ l. slice_get l w.number) o.branches ∙ at_other x.branches n o.now o.more w.number w.branch ne w.there; going = w.going; side_is = w.side_is; within = w.within }

        by_end : EndThere K s ms x k e c lt side w.number w.branch → Within z.branches c side ⊎ BeginsOrEnds x.branches z.branches c side
        by_end t =
            let inside = ends_inside (length K.roots) x.branches t.number t.branch c t.stands t.end in
            let going = not_true (has_ended t.branch.mode) (λ h. let q = by_laws.forest.stopped t.number t.branch t.there (inl (ended_is t.branch.mode h)) in true≢false (sym (subst (λ i. IsTrue (is_among c (ends_of i))) q t.end))) in
            ⊎_elim
            (λ (q : t.number ≡ n).
            let same : t.branch ≡ b = some_given (sym t.there ∙ (ap (slice_get x.branches) q ∙ is)) in
            ⊎_elim (λ l. inl (record { number = n; branch = o.now; there = ap (λ l. slice_get l n) o.branches ∙ at_itself x.branches n b o.now o.more is; going = l.going; side_is = l.side_is ∙ (sym (ap (λ (d : Branch). side_of d c) same) ∙ t.side_is); within = l.within }))
            (λ i. inr (record { number = n; branch = b; there = is; running = em; side_is = sym (ap (λ (d : Branch). side_of d c) same) ∙ t.side_is; item = item; rest = rest; items = ei; is = i.0; now = o.now; then = ap (λ l. slice_get l n) o.branches ∙ at_itself x.branches n b o.now o.more is; inside = i.1 }))
            (left_by n b rest is em item o.now o.more o.becomes ei (subst (λ (d : Branch). IsTrue (is_among c (ends_of d.items))) same t.end) (subst (λ (d : Branch). IsTrue (is_among c d.inside)) same inside)))
            (λ ne. inl (record { number = t.number; branch = t.branch; there = ap (λ l. slice_get l t.number) o.branches ∙ at_other x.branches n o.now o.more t.number t.branch ne t.there; going = going; side_is = t.side_is; within = inside }))
            (same_or_not t.number n)
    forward (joined n b from count is ew d) =
        ⊎_elim
        (λ (q : w.number ≡ n).
        let same : w.branch ≡ b = some_given (sym w.there ∙ (ap (slice_get x.branches) q ∙ is)) in
        inl (record {
          number = n;
          branch = record b { mode = runs };
          there = ap (λ l. slice_get l n) (sym (append-nil (slice_set x.branches n (record b { mode = runs })))) ∙ at_itself x.branches n b (record b { mode = runs }) [] is;
          going = refl;
          side_is = sym (ap (λ (d : Branch). side_of d c) same) ∙ w.side_is;
          within = subst (λ (d : Branch). IsTrue (is_among c d.inside)) same w.within;
        }))
        (λ ne. inl (record { number = w.number; branch = w.branch; there = ap (λ l. slice_get l w.number) (sym (append-nil (slice_set x.branches n (record b { mode = runs })))) ∙ at_other x.branches n (record b { mode = runs }) [] w.number w.branch ne w.there; going = w.going; side_is = w.side_is; within = w.within }))
        (same_or_not w.number n)

  -- and did before it
  back_stepped : (n : ℕ) (b : Branch) (item : Item) (rest : List Item) → slice_get x.branches n ≡ Some b → b.mode ≡ runs → b.items ≡ item ∷ rest → (now : Branch) (more : List Branch) → Becomes (step_of K s x n b rest) item now more →
      (m : ℕ) (w : Branch) → Behind x.branches n now more m w → has_ended w.mode ≡ false → side_of w c ≡ Some side → IsTrue (is_among c w.inside) → Within x.branches c side ⊎ BeginsOrEnds x.branches (slice_set x.branches n now ++ more) c side
  back_stepped n b item rest is em ei now more g m w (there ne at) going es v = inl (record { number = m; branch = w; there = at; going = going; side_is = es; within = v })
  back_stepped n b item rest is em ei now more g m w (itself ek ed) going es v =
      let side_was : side_of b c ≡ Some side = sym (ap (λ l. slice_index_or l c None) (sides_stay (step_of K s x n b rest) item now more g)) ∙ (sym (ap (λ (d : Branch). side_of d c) ed) ∙ es) in
      ⊎_elim (λ u. inl (record { number = n; branch = b; there = is; going = ap has_ended em; side_is = side_was; within = u })) (λ i. inr (record { number = n; branch = b; there = is; running = em; side_is = side_was; item = item; rest = rest; items = ei; is = i.0; now = now; then = at_itself x.branches n b now more is; inside = i.1 }))
      (was_by n b rest is em item now more g ei (subst (λ (d : Branch). IsTrue (is_among c d.inside)) ed v))
  back_stepped n b item rest is em ei now more g m w (new j ek at) going es v =
      let a = made_of n b rest is em item now more g j w at in
      let u = subst (λ i. IsTrue (is_among c i)) a.0 v in
      let t = side_inside n b rest is em u in
      inl (record { number = n; branch = b; there = is; going = ap has_ended em; side_is = t.1 ∙ (sym (a.1 t.0 t.1) ∙ es); within = u })

  back_joined : (n : ℕ) (b : Branch) (from count : ℕ) → slice_get x.branches n ≡ Some b → b.mode ≡ waits from count → (m : ℕ) (w : Branch) → Behind x.branches n (record b { mode = runs }) [] m w → has_ended w.mode ≡ false → side_of w c ≡ Some side → IsTrue (is_among c w.inside) → Within x.branches c side
  back_joined n b from count is ew m w (there ne at) going es v = record { number = m; branch = w; there = at; going = going; side_is = es; within = v }
  back_joined n b from count is ew m w (itself ek ed) going es v = record { number = n; branch = b; there = is; going = ap has_ended ew; side_is = sym (ap (λ (d : Branch). side_of d c) ed) ∙ es; within = subst (λ (d : Branch). IsTrue (is_among c d.inside)) ed v }
  back_joined n b from count is ew m w (new j ek at) going es v = none_given at

  back : {y : World} → Moved K s x y → Within y.branches c side → Within x.branches c side ⊎ BeginsOrEnds x.branches y.branches c side
  back (ticked clocks) w = inl (record { number = w.number; branch = w.branch; there = w.there; going = w.going; side_is = w.side_is; within = w.within })
  back (stepped n b item rest z is em ei o) w =
      subst (λ l. Within x.branches c side ⊎ BeginsOrEnds x.branches l c side) (sym o.branches)
      (back_stepped n b item rest is em ei o.now o.more o.becomes w.number w.branch (behind x.branches n b o.now o.more w.number w.branch is (ap (λ l. slice_get l w.number) (sym o.branches) ∙ w.there)) w.going w.side_is w.within)
  back (joined n b from count is ew d) w =
      inl (back_joined n b from count is ew w.number w.branch (behind x.branches n b (record b { mode = runs }) [] w.number w.branch is (ap (λ l. slice_get l w.number) (append-nil (slice_set x.branches n (record b { mode = runs }))) ∙ w.there)) w.going w.side_is w.within)

  pub stays : {y : World} → Moved K s x y → (inside_on y.branches c side ≡ inside_on x.branches c side) ⊎ BeginsOrEnds x.branches y.branches c side
  stays {y = y} m = by (inside_on x.branches c side) (inside_on y.branches c side) refl refl
    where
      by : (u v : Bool) → inside_on x.branches c side ≡ u → inside_on y.branches c side ≡ v → (inside_on y.branches c side ≡ inside_on x.branches c side) ⊎ BeginsOrEnds x.branches y.branches c side
      by true true p q = inl (q ∙ sym p)
      by false false p q = inl (q ∙ sym p)
      by true false p q = ⊎_elim (λ w. never (within_some y.branches c side w) q) (λ t. inr t) (forward (some_within x.branches c side p) m)
      by false true p q = ⊎_elim (λ w. never (within_some x.branches c side w) p) (λ t. inr t) (back m (some_within y.branches c side q))

pub inside_stays : InsideStays
inside_stays K s ms x y m k e f c lt side = stays K s ms x k e c lt side (moved K s x (no_text K s x (laws_hold K s ms x (checked_obey K k) e).kernels) m f)

pub inside_agrees : InsideAgrees
inside_agrees K s ms x k e n b is em c side es u =
    let lt : c < length K.channels = items_have (Listed K) AnyPar AnyTransaction (channel c) b.items ((checked_listed K s ms x k e).all n b is) u in
    agrees K s ms x k e c lt side n b is em es u
