-- The channel ends of a core, as its plan has them: those of the sides that are there.
use Rattle.std.proofs.Common.{◌≡◌, ◌≢◌, ⊎_elim, ℕ, zero, suc, ◌<◌, ◌≤◌, true, List, [], ◌∷◌, ◌++◌, length, Some, nat_eq, slice_get, refl, sym, ap, ◌∙◌, arith}
use Rattle.std.proofs.lemmas.Bool.{cases_lt}
use Rattle.xc_kernel.specs.Plain as kernel
use Rattle.xc_disjoint.specs.Checked.{IsChecked}
use Rattle.xc_disjoint.specs.Cores.{if_so, on_core}
use Rattle.xc_disjoint.specs.Needs.{ends_on}
use Rattle.xc_meaning.proofs.Basics.{same_or_not}
use Rattle.xc_meaning.specs.States.Channels.{Side, first, second}
use Rattle.xl_expr.specs.declared.plan.ResAt.TheVariants.{Fixed}
use Rattle.xl_expr.specs.Plans.{end_in}
use Rattle.xl_image.specs.Images.{IsPlan}
use Rattle.xl_plan.specs.declared.channels.SideCores.{SideCores}
use Rattle.xl_plan.specs.Layout.{core_in, core_of, end_name, end_places, ends_before, ends_below, first_there, places_on, second_there, side_cores}
use Rattle.xl_plan.proofs.Ends.{ends_are_used, few_ends}
use Rattle.xl_ends.specs.Ends.{end_of_side, place_of}
use Rattle.xr_simulation.specs.Runners.{EndIsPlanned, IsChannel, Runner, Setting, end_place, home, plan}
use Rattle.xr_simulation.specs.Sizes.{most_watches}
use Rattle.xr_simulation.proofs.Image.Places.{order}
use Rattle.xr_simulation.proofs.Image.Sides.{known}
use Rattle.xr_simulation.proofs.Image.ResourceNames.{end_named}

-- what is put behind a list stands there
at_end : {A : Type 0} (xs : List A) (x : A) (n : ℕ) → n ≡ length xs → slice_get (xs ++ x ∷ []) n ≡ Some x
at_end [] x zero e = refl
at_end [] x (suc n) e = absurd (let z : ⊥ = omega (arith, e) in z)
at_end (y ∷ ys) x zero e = absurd (let z : ⊥ = omega (arith, e) in z)
at_end (y ∷ ys) x (suc n) e = at_end ys x n (omega (arith, e))

before_end : {A : Type 0} (xs more : List A) (n : ℕ) (x : A) → slice_get xs n ≡ Some x → slice_get (xs ++ more) n ≡ Some x
before_end [] more n x e = absurd cc
before_end (y ∷ ys) more zero x e = e
before_end (y ∷ ys) more (suc n) x e = before_end ys more n x e

long : {A : Type 0} (xs : List A) (x : A) → length (xs ++ x ∷ []) ≡ suc (length xs)
long [] x = refl
long (y ∷ ys) x = ap suc (long ys x)

-- the identifiers of ends are as many as these
ends_long : (core n : ℕ) → length (ends_below core n) ≡ n
ends_long core zero = refl
ends_long core (suc n) = long (ends_below core n) (Fixed (end_name core n)) ∙ ap suc (ends_long core n)

-- each end has its identifier
end_at : (core n e : ℕ) → e < n → slice_get (ends_below core n) e ≡ Some (Fixed (end_name core e))
end_at core zero e lt = absurd (omega (arith, lt))
end_at core (suc n) e lt =
    ⊎_elim
    (λ (less : e < n). before_end (ends_below core n) (Fixed (end_name core n) ∷ []) e (Fixed (end_name core e)) (end_at core n e less))
    (λ (le : n ≤ e).
    let same : e ≡ n = omega (arith, lt, le) in
    at_end (ends_below core n) (Fixed (end_name core n)) e (same ∙ sym (ends_long core n)) ∙ ap (λ k. Some (Fixed (end_name core k))) (sym same))
    (cases_lt e n)

module _ (K : kernel.Kernel) (core : ℕ) where
  places_long : (n : ℕ) → length (end_places K core n) ≡ n
  places_long zero = refl
  places_long (suc n) = long (end_places K core n) (places_on K core n) ∙ ap suc (places_long n)

  -- each channel has the numbers of its ends
  places_at : (n c : ℕ) → c < n → slice_get (end_places K core n) c ≡ Some (places_on K core c)
  places_at zero c lt = absurd (omega (arith, lt))
  places_at (suc n) c lt =
      ⊎_elim
      (λ (less : c < n). before_end (end_places K core n) (places_on K core n ∷ []) c (places_on K core c) (places_at n c less))
      (λ (le : n ≤ c).
      let same : c ≡ n = omega (arith, lt, le) in
      at_end (end_places K core n) (places_on K core n) c (same ∙ sym (places_long n)) ∙ ap (λ k. Some (places_on K core k)) (sym same))
      (cases_lt c n)

  -- its ends are among those of the channels behind it
  more : (c n : ℕ) → c < n → ends_before K core (suc c) ≤ ends_before K core n
  more c zero lt = absurd (omega (arith, lt))
  more c (suc n) lt =
      ⊎_elim
      (λ (less : c < n). let before = more c n less in omega (arith, before))
      (λ (le : n ≤ c).
      let same : c ≡ n = omega (arith, lt, le) in
      let here = ap (λ k. ends_before K core (suc k)) same in
      omega (arith, here))
      (cases_lt c n)

-- an end on the core is one
one_there : (core its : ℕ) → its ≡ core → on_core core its 1 ≡ 1
one_there core its e = ap (λ b. if_so b 1) (let z : nat_eq its core ≡ true = grind (arith, e) in z)

module _ (g : Setting) (checked : IsChecked g.program) (r : Runner) (is_core : r.core < 4) (planned : IsPlan g.program r.core (plan g r))
    (counted : (home g r).parts.ends ≡ ends_on g.program r.core) where
  abbrev all : ℕ
  all = ends_before g.program r.core (length g.program.channels)

  few : all ≤ 32
  few = few_ends g.program r.core checked (omega (arith, is_core))

  -- where the ends of a channel begin
  least : (c : ℕ) (side : Side) → ends_before g.program r.core c ≤ end_place g r c side
  least c first = omega arith
  least c second = omega arith

  -- A side of a channel has its end on its core.
  module _ (c : ℕ) (is : IsChannel g r c) where
    abbrev cores : SideCores
    cores = (known g.program r.core c is.used).cores

    are : side_cores c g.program.roots ≡ Some cores
    are = (known g.program r.core c is.used).are

    first_one : core_of g.program c first ≡ r.core → first_there r.core (side_cores c g.program.roots) ≡ 1
    first_one here =
        ap (first_there r.core) are ∙ one_there r.core cores.first (ap (λ o. core_in o first) (sym are) ∙ here)

    second_one : core_of g.program c second ≡ r.core → second_there r.core (side_cores c g.program.roots) ≡ 1
    second_one here =
        ap (second_there r.core) are ∙ one_there r.core cores.second (ap (λ o. core_in o second) (sym are) ∙ here)

    -- it is before those of the channels behind it
    most : (side : Side) → core_of g.program c side ≡ r.core → end_place g r c side < ends_before g.program r.core (suc c)
    most first here = let a = first_one here in omega (arith, a)
    most second here = let a = second_one here in omega (arith, a)

    inside : (side : Side) → core_of g.program c side ≡ r.core → end_place g r c side < all
    inside side here =
        let behind = more g.program r.core c (length g.program.channels) is.known in
        let below = most side here in
        omega (arith, behind, below)

    places_are : slice_get (plan g r).channels c ≡ Some (places_on g.program r.core c)
    places_are = ap (λ l. slice_get l c) planned.channels ∙ places_at g.program r.core (length g.program.channels) c is.known

    -- an end has its identifier
    identified : (e : ℕ) → e < all → end_in (plan g r).ends e ≡ Some (Fixed (end_name r.core e))
    identified e lt = ap (λ l. slice_get l e) planned.ends ∙ end_at r.core all e lt

    place_is : (side : Side) → place_of (places_on g.program r.core c) side ≡ end_place g r c side
    place_is first = refl
    place_is second = refl

    -- The plan has its identifier.
    pub ends_planned : (side : Side) → core_of g.program c side ≡ r.core → EndIsPlanned g r c side
    ends_planned side here =
        let lt = inside side here in
        let small = few in
        record {
          place = end_place g r c side;
          is = ap (λ o. end_of_side o (Some side)) places_are ∙ ap Some (place_is side);
          identifier = identified (end_place g r c side) lt;
          names = end_named r.core (end_place g r c side) (omega (arith, lt, small));
          there =
              let as_many = ends_are_used g.program r.core checked in
              let there = counted in
              omega (arith, lt, as_many, there);
        }

    pub few_ends_there : (side : Side) → core_of g.program c side ≡ r.core → end_place g r c side < most_watches
    few_ends_there side here = let lt = inside side here in let small = few in omega (arith, lt, small)

  -- Of two channels the one behind has its ends behind the other's.
  later_differ : (c d : ℕ) (side other : Side) → IsChannel g r c → core_of g.program c side ≡ r.core → c < d →
      end_place g r c side ≢ end_place g r d other
  later_differ c d side other is here lt same =
      let a = most c is side here in
      let b = more g.program r.core c d lt in
      let e = least d other in
      omega (arith, a, b, e, same)

  pub ends_differ : (c d : ℕ) (side other : Side) → IsChannel g r c → core_of g.program c side ≡ r.core → IsChannel g r d →
      core_of g.program d other ≡ r.core → end_place g r c side ≡ end_place g r d other → c ≡ d
  ends_differ c d side other is here is' here' same =
      ⊎_elim (λ e. e)
      (λ ne. ⊎_elim
      (λ lt. absurd (later_differ c d side other is here lt same))
      (λ lt. absurd (later_differ d c other side is' here' lt (sym same)))
      (order c d ne))
      (same_or_not c d)
