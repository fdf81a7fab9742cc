-- Each end that a channel names is there, and each that is there is named once.
use Rattle.std.proofs.Common.{◌≡◌, ◌∙◌, ◌⊎◌, inl, inr, ℕ, zero, suc, ◌+◌, ◌<◌, ◌≤◌, Bool, true, false, List, [], ◌∷◌, ◌++◌, length, map, Option, Some, None, slice_get, sum_by, take, refl, sym, ap, ap₂, subst, true≢false, arith, eq-eqb, length-append}
use Rattle.std.proofs.lemmas.Bool.{eqb-true}
use Rattle.std.specs.Prelude.{◌&&◌, nat_eq}
use Rattle.std.specs.List.{All}
use Rattle.std.proofs.lemmas.List.Elements.{All-head, All-tail}
use Rattle.xs_instr.specs.declared.image.CoreImage.{CoreImage}
use Rattle.xs_instr.specs.declared.image.Pair.{Pair}
use Rattle.xs_instr.specs.Ends.{is_first, is_second}
use Rattle.xs_instr.specs.Machine.{parts_by, parts_in}
use Rattle.xs_instr.specs.Valid.{AreGoodPairs, IsThere, count_by, times_named}
use Rattle.xc_kernel.specs.Plain as kernel
use Rattle.xc_disjoint.specs.Checked.{IsChecked}
use Rattle.xc_disjoint.specs.Cores.{if_so}
use Rattle.xc_disjoint.specs.Needs.{ends_on}
use Rattle.xc_disjoint.specs.Rules.{most_ends}
use Rattle.xl_expr.specs.declared.plan.ResAt.{ResAt}
use Rattle.xl_expr.specs.declared.plan.ResAt.TheVariants.{Fixed}
use Rattle.xl_plan.specs.declared.channels.SideCores.{SideCores}
use Rattle.xl_plan.specs.Layout.{end_name, ends_before, ends_below, ends_there, cores_of_channels, first_there, side_cores}
use Rattle.xl_plan.specs.Planned.{HasEnds}
use Rattle.xl_plan.proofs.Ends.{ends_are_used, few_ends}
use Rattle.xl_plan.proofs.Lists.{some_given, none_given}
use Rattle.xl_image.specs.Images.{pairs_below}
use Rattle.xl_image.specs.Parts.{IsPartOf, cores_of, has_root, number_of}
use Rattle.xl_image.proofs.Rooted.{core_is_low, core_listed}
use Rattle.xl_image.proofs.Users.{before_need, channel_count, first_rooted, no_pair_more, one_pair_more, pair_at, second_rooted}

-- How often an end is named: once below a number, and from there on never.
record Named (times end number : ℕ) : Type 0 where
  pub below : end < number → times ≡ 1
  pub above : number ≤ end → times ≡ 0

differ : (a b : ℕ) → nat_eq a b ≡ false → a ≡ b → ⊥
differ a b e same = true≢false (sym (eq-eqb a b same) ∙ e)

neither : (e m : ℕ) → e < m + 1 → (m ≡ e → ⊥) → e < m
neither e m lt f = grind arith

-- a side that is there has one end more, which is named
side_more : (t e m : ℕ) → Named t e m → (here is : Bool) → nat_eq m e ≡ is → Named (t + count_by 0 (here && is)) e (m + if_so here 1)
side_more t e m h false is p = record {
  below = λ lt. let t_is = h.below (omega (arith, lt)) in omega (arith, t_is);
  above = λ le. let t_is = h.above (omega (arith, le)) in omega (arith, t_is);
}
side_more t e m h true true p =
    let x = eqb-true m e p in
    let t_is : t ≡ 0 = h.above (omega (arith, x)) in
    record { below = λ lt. omega (arith, t_is); above = λ le. absurd (let z : ⊥ = omega (arith, x, le) in z) }
side_more t e m h true false p = record {
  below = λ lt. let t_is = h.below (neither e m lt (differ m e p)) in omega (arith, t_is);
  above = λ le. let t_is = h.above (omega (arith, le)) in omega (arith, t_is);
}

-- a side's number tells only where the side is there
where_there : (here : Bool) (n m e : ℕ) → (here ≡ true → n ≡ m) → (here && nat_eq n e) ≡ (here && nat_eq m e)
where_there true n m e same = ap (λ x. nat_eq x e) (same refl)
where_there false n m e same = refl

count_more : (t u : ℕ) (a b : Bool) → count_by (count_by (t + u) b) a ≡ count_by (count_by t b) a + u
count_more t u true true = omega arith
count_more t u true false = omega arith
count_more t u false true = omega arith
count_more t u false false = omega arith

times_append : (ps qs : List Pair) (core e : ℕ) → times_named (ps ++ qs) core e ≡ times_named ps core e + times_named qs core e
times_append [] qs core e = omega arith
times_append (p ∷ ps) qs core e =
    ap (λ n. count_by (count_by n (is_second p core e)) (is_first p core e)) (times_append ps qs core e)
    ∙ count_more (times_named ps core e) (times_named qs core e) (is_first p core e) (is_second p core e)

good_append : (cores : List CoreImage) (ps qs : List Pair) → AreGoodPairs cores ps → AreGoodPairs cores qs → AreGoodPairs cores (ps ++ qs)
good_append cores [] qs h g = g
good_append cores (p ∷ ps) qs h g = (h.0, h.1, good_append cores ps qs h.2 g)

-- A plan lists the ends that its core needs.
ends_below_number : (core n : ℕ) → length (ends_below core n) ≡ n
ends_below_number core zero = refl
ends_below_number core (suc n) =
    let h = ends_below_number core n in
    let l = length-append (ends_below core n) (Fixed (end_name core n) ∷ []) in
    omega (arith, h, l)

pub ends_listed : (k : kernel.Kernel) (core : ℕ) → IsChecked k → (ends : List ResAt) → HasEnds k core ends → length ends ≡ ends_on k core
ends_listed k core checked ends has =
    ap length has ∙ ends_below_number core (ends_before k core (length k.channels)) ∙ sym (ends_are_used k core checked)

-- The ends of a core's part.
module _ (k : kernel.Kernel) where
  abbrev AreParts : List CoreImage → Type 0
  AreParts = All (λ (part : CoreImage). IsPartOf k part.number part)

  ends_in : (part : CoreImage) (core : ℕ) → IsPartOf k part.number part → nat_eq part.number core ≡ true → part.ends ≡ ends_on k core
  ends_in part core is e = is.ends ∙ ap (ends_on k) (eqb-true part.number core e)

  within_need : (cores : List CoreImage) (core : ℕ) → AreParts cores → (parts_in cores core).ends ≤ ends_on k core
  within_need [] core parts = omega arith
  within_need (part ∷ cores) core parts = by (nat_eq part.number core) refl (within_need cores core (All-tail (λ (p : CoreImage). IsPartOf k p.number p) part cores parts))
    where
      by : (b : Bool) → nat_eq part.number core ≡ b → (parts_in cores core).ends ≤ ends_on k core → (parts_by part (parts_in cores core) b).ends ≤ ends_on k core
      by true e others = let h = ends_in part core (All-head (λ (p : CoreImage). IsPartOf k p.number p) part cores parts) e in omega (arith, h)
      by false e others = others

  all_needed : (cores : List CoreImage) (core j : ℕ) → AreParts cores → slice_get (map number_of cores) j ≡ Some core → (parts_in cores core).ends ≡ ends_on k core
  all_needed [] core j parts at = absurd (none_given at)
  all_needed (part ∷ cores) core zero parts at =
      let same = eq-eqb part.number core (some_given at) in
      ap (λ b. (parts_by part (parts_in cores core) b).ends) same
      ∙ ends_in part core (All-head (λ (p : CoreImage). IsPartOf k p.number p) part cores parts) same
  all_needed (part ∷ cores) core (suc j) parts at = by (nat_eq part.number core) refl (all_needed cores core j (All-tail (λ (p : CoreImage). IsPartOf k p.number p) part cores parts) at)
    where
      by : (b : Bool) → nat_eq part.number core ≡ b → (parts_in cores core).ends ≡ ends_on k core → (parts_by part (parts_in cores core) b).ends ≡ ends_on k core
      by true e others = ends_in part core (All-head (λ (p : CoreImage). IsPartOf k p.number p) part cores parts) e
      by false e others = others

-- The channels of a kernel.
module _ (k : kernel.Kernel) where
  -- a channel more has an end for each side that is there
  more_ends : (core c : ℕ) (cores : Option SideCores) → side_cores c k.roots ≡ cores → ends_before k core (suc c) ≡ ends_before k core c + ends_there core cores
  more_ends core c cores e = ap (λ x. ends_before k core c + ends_there core x) e

  pub grows : (core n m : ℕ) → n ≤ m → ends_before k core n ≤ ends_before k core m
  grows core n zero le = ap_le (let z : n ≡ 0 = omega (arith, le) in z)
    where
      ap_le : n ≡ 0 → ends_before k core n ≤ 0
      ap_le e = let s = ap (ends_before k core) e in omega (arith, s)
  grows core n (suc m) le = by (grows core n m) (last_or_less n m le)
    where
      last_or_less : (n m : ℕ) → n ≤ suc m → (n ≤ m) ⊎ (n ≡ suc m)
      last_or_less n m le = grind arith

      by : (n ≤ m → ends_before k core n ≤ ends_before k core m) → (n ≤ m) ⊎ (n ≡ suc m) → ends_before k core n ≤ ends_before k core (suc m)
      by others (inl l) = let h = others l in omega (arith, h)
      by others (inr e) = let s = ap (ends_before k core) e in omega (arith, s)

  -- the two ends of a channel more
  pair_named : (core e c : ℕ) (cores : SideCores) (t : ℕ) → Named t e (ends_before k core c) →
      Named (t + count_by (count_by 0 (is_second (pair_at k c cores) core e)) (is_first (pair_at k c cores) core e)) e (ends_before k core c + ends_there core (Some cores))
  pair_named core e c cores t h =
      let m = ends_before k core c in
      let here = nat_eq cores.first core in
      let there = nat_eq cores.second core in
      let next = m + if_so here 1 in
      let one = side_more t e m h here (nat_eq m e) refl in
      let two = side_more (t + count_by 0 (here && nat_eq m e)) e next one there (nat_eq next e) refl in
      let is_one = where_there here (ends_before k cores.first c) m e (λ same. ap (λ x. ends_before k x c) (eqb-true cores.first core same)) in
      let is_two = where_there there (ends_before k cores.second c + first_there cores.second (Some cores)) next e
      (λ same. ap (λ x. ends_before k x c + first_there x (Some cores)) (eqb-true cores.second core same)) in
      let times = counted t (here && nat_eq m e) (there && nat_eq next e) ∙ ap₂ (λ a b. t + count_by (count_by 0 b) a) (sym is_one) (sym is_two) in
      let ends : next + if_so there 1 ≡ m + ends_there core (Some cores) = omega arith in
      subst (λ n. Named n e (m + ends_there core (Some cores))) times
      (subst (Named (t + count_by 0 (here && nat_eq m e) + count_by 0 (there && nat_eq next e)) e) ends two)
    where
      counted : (t : ℕ) (a b : Bool) → t + count_by 0 a + count_by 0 b ≡ t + count_by (count_by 0 b) a
      counted t true true = omega arith
      counted t true false = omega arith
      counted t false true = omega arith
      counted t false false = omega arith

  named : (n core e : ℕ) → Named (times_named (pairs_below k n) core e) e (ends_before k core n)
  named zero core e = record { below = λ lt. absurd (let z : ⊥ = omega (arith, lt) in z); above = λ le. refl }
  named (suc n) core e = by (side_cores n k.roots) refl (named n core e)
    where
      by : (cores : Option SideCores) → side_cores n k.roots ≡ cores → Named (times_named (pairs_below k n) core e) e (ends_before k core n) →
          Named (times_named (pairs_below k (suc n)) core e) e (ends_before k core (suc n))
      by None u h =
          let times = ap (λ ps. times_named ps core e) (no_pair_more k n u) in
          let ends = more_ends core n None u in
          record {
            below = λ lt. let x = h.below (omega (arith, lt, ends)) in omega (arith, times, x);
            above = λ le. let x = h.above (omega (arith, le, ends)) in omega (arith, times, x);
          }
      by (Some cores) u h =
          let times = ap (λ ps. times_named ps core e) (one_pair_more k n cores u) ∙ times_append (pairs_below k n) (pair_at k n cores ∷ []) core e in
          subst (λ t. Named t e (ends_before k core (suc n))) (sym times)
          (subst (Named (times_named (pairs_below k n) core e + times_named (pair_at k n cores ∷ []) core e) e) (sym (more_ends core n (Some cores) u))
          (pair_named core e n cores (times_named (pairs_below k n) core e) h))

module _ (k : kernel.Kernel) (checked : IsChecked k) (cores : List CoreImage) (numbers : map number_of cores ≡ cores_of k) (parts : AreParts k cores) where
  -- each end that is there is named once
  pub named_once : (core e : ℕ) → IsThere cores core e → times_named (pairs_below k (length k.channels)) core e ≡ 1
  named_once core e there =
      let need = ends_are_used k core checked in
      let within = within_need k cores core parts in
      (named k (length k.channels) core e).below (omega (arith, there, need, within))

  -- so many ends of a core with a root are there
  ends_within : (core n : ℕ) → has_root k core ≡ true → n ≤ length k.channels → ends_before k core n ≤ (parts_in cores core).ends
  ends_within core n rooted le =
      let listed = core_listed k checked core rooted in
      let there = all_needed k cores core listed.0 parts (ap (λ ns. slice_get ns listed.0) numbers ∙ listed.1) in
      let need = ends_are_used k core checked in
      let grown = grows k core n (length k.channels) le in
      omega (arith, there, need, grown)

  pub all_good : (n : ℕ) → n ≤ length k.channels → AreGoodPairs cores (pairs_below k n)
  all_good zero le = tt
  all_good (suc n) le = by (side_cores n k.roots) refl (all_good n (omega (arith, le)))
    where
      by : (sides : Option SideCores) → side_cores n k.roots ≡ sides → AreGoodPairs cores (pairs_below k n) → AreGoodPairs cores (pairs_below k (suc n))
      by None u others = subst (AreGoodPairs cores) (sym (no_pair_more k n u)) others
      by (Some sides) u others =
          let first = ends_within sides.first (suc n) (first_rooted k n sides u) le in
          let second = ends_within sides.second (suc n) (second_rooted k n sides u) le in
          let more = more_ends k sides.first n (Some sides) u in
          let and_more = more_ends k sides.second n (Some sides) u in
          let here = ap (λ b. if_so b 1) (eq-eqb sides.first sides.first refl) in
          let there = ap (λ b. if_so b 1) (eq-eqb sides.second sides.second refl) in
          subst (AreGoodPairs cores) (sym (one_pair_more k n sides u))
          (good_append cores (pairs_below k n) (pair_at k n sides ∷ []) others (omega (arith, first, more, here), omega (arith, second, and_more, there), tt))

-- the ends of the channels before one are few, on a core with a root
pub few_before : (k : kernel.Kernel) → IsChecked k → (channels : List (Option SideCores)) → channels ≡ cores_of_channels k → (core c : ℕ) → has_root k core ≡ true → c < length channels → sum_by (ends_there core) (take c channels) ≤ most_ends
few_before k checked channels is core c rooted lt =
    let need = before_need k channels is core c lt in
    let count = channel_count k channels is in
    let grown = grows k core c (length k.channels) (omega (arith, count, lt)) in
    let few = few_ends k core checked (core_is_low k checked core rooted) in
    omega (arith, need, grown, few)
