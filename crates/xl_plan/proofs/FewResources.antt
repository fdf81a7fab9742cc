-- A root of a checked kernel uses few different resources: they are on its core, and each has a place of its own among the core's.
use Rattle.std.specs.List.{AllByRecursion, IsDistinct, list_any}
use Rattle.std.proofs.Common.{◌≡◌, ⊎_elim, ℕ, suc, ◌+◌, ◌<◌, ◌≤◌, Bool, true, false, List, [], ◌∷◌, length, map, sum_by, take, Contains, Some, None, slice_get, nat_eq, eqb, refl, sym, ap, ◌∙◌, true≢false, arith}
use Rattle.std.specs.Prelude.{◌||◌}
use Rattle.std.proofs.lemmas.Bool.{cases_order}
use Rattle.std.proofs.lemmas.List.FromFn.{get_or-map-range_with_len, length-map-range_with_len}
use Rattle.std.proofs.lemmas.Map.Steps.{length-le_from_distinct_below}
use Rattle.std.proofs.lemmas.Option.{slice_get-get_or}
use Rattle.xw_words.specs.Ports.{port_count}
use Rattle.xc_kernel.specs.declared.statement.KRes.{KRes}
use Rattle.xc_kernel.specs.declared.statement.KRes.TheVariants.{Port, Timer, Chan}
use Rattle.xc_kernel.specs.Plain as kernel
use Rattle.xc_kernel.specs.Things.{Thing, port, timer, channel, by_statements}
use Rattle.xc_meaning.specs.Settings.Select.{same_resource}
use Rattle.xc_disjoint.specs.Checked.{IsChecked}
use Rattle.xc_disjoint.specs.Cores.{if_so, last_core, on_core}
use Rattle.xc_disjoint.specs.Needs.{timers_of}
use Rattle.xc_disjoint.specs.Rules.{most_ends, most_timers}
use Rattle.xc_wellformed.specs.Transfers.{InputComes, ComesIn}
use Rattle.xl_plan.specs.Layout.{ends_there, ports_here, side_cores}
use Rattle.xl_plan.proofs.Ends.{few_ends, used_end}
use Rattle.xl_plan.proofs.FewPorts.{few_ports}
use Rattle.xl_plan.proofs.Lists.{before_later, within_all}
use Rattle.xl_plan.proofs.PortsDiffer.{ports_apart}
use Rattle.xl_plan.proofs.Sizes.{few_timers}
use Rattle.xl_plan.proofs.UsedResources.{port_used, timer_used}
use Rattle.xl_plan.proofs.Users.{cores_below, cores_need}

-- what code uses where it uses a resource
abbrev pub thing_of : KRes → Thing
thing_of (Port p) = port p
thing_of (Timer t) = timer t
thing_of (Chan c) = channel c

-- Items of a list that count something.
module _ {X : Type 0} (f : X → ℕ) (xs : List X) where
  pub record Counts (i : ℕ) : Type 0 where
    pub item : X
    pub there : slice_get xs i ≡ Some item
    pub some : 1 ≤ f item

  -- what those before a place count
  abbrev before : ℕ → ℕ
  before i = sum_by f (take i xs)

  before_below : (i : ℕ) → Counts i → before i < sum_by f xs
  before_below i h =
      let within = within_all f xs i h.item h.there in
      let some = h.some in
      omega (arith, within, some)

  not_earlier : (i j : ℕ) → i < j → Counts i → before i ≡ before j → ⊥
  not_earlier i j lt h same =
      let later = before_later f xs i j h.item lt h.there in
      let some = h.some in
      omega (arith, later, some, same)

  -- so different ones have different numbers before them
  same_before : (i j : ℕ) → Counts i → Counts j → before i ≡ before j → i ≡ j
  same_before i j h g same =
      ⊎_elim (λ e. e)
      (λ o. ⊎_elim (λ lt. absurd (not_earlier i j lt h same)) (λ lt. absurd (not_earlier j i lt g (sym same))) o)
      (cases_order i j)

one_where : (a b : ℕ) → a ≡ b → 1 ≤ on_core b a 1
one_where a b e =
    let on : nat_eq a b ≡ true = grind (arith, e) in
    let one : on_core b a 1 ≡ 1 = ap (λ c. if_so c 1) on in
    omega (arith, one)

not_same : (a b : ℕ) → nat_eq a b ≡ false → a ≡ b → ⊥
not_same a b e same = grind (arith, e, same)

module _ (k : kernel.Kernel) where
  module _ (core : ℕ) where
    -- a resource is one of the core's
    abbrev pub IsHere : KRes → Type 0
    IsHere (Port p) = Counts (ports_here core) k.ports p
    IsHere (Timer t) = Counts (timers_of core) k.timers t
    IsHere (Chan c) = Counts (ends_there core) (cores_below k (length k.channels)) c

    -- its place among these: ports come first, then timers, then channels by their ends
    abbrev place : KRes → ℕ
    place (Port p) = before (ports_here core) k.ports p
    place (Timer t) = port_count + before (timers_of core) k.timers t
    place (Chan c) = port_count + (most_timers + before (ends_there core) (cores_below k (length k.channels)) c)

    module _ (checked : IsChecked k) (is_core : core ≤ last_core) where
      port_below : (p : ℕ) → IsHere (Port p) → place (Port p) < port_count
      port_below p h =
          let below = before_below (ports_here core) k.ports p h in
          let few = few_ports core k.ports (ports_apart k core is_core checked.of_program) in
          omega (arith, below, few)

      timer_below : (t : ℕ) → IsHere (Timer t) → place (Timer t) < port_count + most_timers
      timer_below t h =
          let below = before_below (timers_of core) k.timers t h in
          let few = few_timers k core checked is_core in
          omega (arith, below, few)

      channel_below : (c : ℕ) → IsHere (Chan c) → place (Chan c) < port_count + (most_timers + most_ends)
      channel_below c h =
          let below = before_below (ends_there core) (cores_below k (length k.channels)) c h in
          let all = cores_need k core (length k.channels) in
          let few = few_ends k core checked is_core in
          omega (arith, below, all, few)

      place_below : (q : KRes) → IsHere q → place q < port_count + (most_timers + most_ends)
      place_below (Port p) h = let b = port_below p h in omega (arith, b)
      place_below (Timer t) h = let b = timer_below t h in omega (arith, b)
      place_below (Chan c) h = channel_below c h

      -- different resources have different places
      differ : (q s : KRes) → IsHere q → IsHere s → same_resource q s ≡ false → place q ≡ place s → ⊥
      differ (Port p) (Port r) h g apart same = not_same p r apart (same_before (ports_here core) k.ports p r h g same)
      differ (Timer t) (Timer u) h g apart same =
          not_same t u apart (same_before (timers_of core) k.timers t u h g (omega (arith, same)))
      differ (Chan c) (Chan d) h g apart same =
          not_same c d apart (same_before (ends_there core) (cores_below k (length k.channels)) c d h g (omega (arith, same)))
      differ (Port p) (Timer t) h g apart same = let b = port_below p h in omega (arith, b, same)
      differ (Port p) (Chan c) h g apart same = let b = port_below p h in omega (arith, b, same)
      differ (Timer t) (Port p) h g apart same = let b = port_below p g in omega (arith, b, same)
      differ (Timer t) (Chan c) h g apart same = let b = timer_below t h in omega (arith, b, same)
      differ (Chan c) (Port p) h g apart same = let b = port_below p g in omega (arith, b, same)
      differ (Chan c) (Timer t) h g apart same = let b = timer_below t g in omega (arith, b, same)

      other_place : (q s : KRes) → IsHere q → IsHere s → same_resource q s ≡ false → (b : Bool) → eqb (place q) (place s) ≡ b → b ≡ false
      other_place q s h g apart true e = absurd (differ q s h g apart (let z : place q ≡ place s = grind (arith, e) in z))
      other_place q s h g apart false e = refl

      other_places : (q : KRes) (qs : List KRes) → IsHere q → AllByRecursion IsHere qs → AllByRecursion (λ s. same_resource q s ≡ false) qs → AllByRecursion (λ n. eqb (place q) n ≡ false) (map place qs)
      other_places q [] h g apart = tt
      other_places q (s ∷ qs) h g apart =
          let b = eqb (place q) (place s) in
          (other_place q s h g.0 apart.0 b refl, other_places q qs h g.1 apart.1)

      distinct_places : (qs : List KRes) → AllByRecursion IsHere qs → IsDistinct same_resource qs → IsDistinct eqb (map place qs)
      unfolding IsDistinct
      distinct_places [] h d = tt
      distinct_places (q ∷ qs) h d = (other_places q qs h.0 h.1 d.0, distinct_places qs h.1 d.1)

      places_below : (qs : List KRes) → AllByRecursion IsHere qs → (n : ℕ) → list_any (eqb n) (map place qs) ≡ true → n < port_count + (most_timers + most_ends)
      places_below [] h n e = absurd (true≢false (sym e))
      places_below (q ∷ qs) h n e = by (eqb n (place q)) refl (places_below qs h.1 n) e
        where
          by : (b : Bool) → eqb n (place q) ≡ b → (list_any (eqb n) (map place qs) ≡ true → n < port_count + (most_timers + most_ends)) →
              (b || list_any (eqb n) (map place qs)) ≡ true → n < port_count + (most_timers + most_ends)
          by true is others f =
              let same : n ≡ place q = grind (arith, is) in
              let below = place_below q h.0 in
              omega (arith, same, below)
          by false is others f = others f

      as_long : (qs : List KRes) → length (map place qs) ≡ length qs
      as_long [] = refl
      as_long (q ∷ qs) = ap (λ n. suc n) (as_long qs)

      -- there are no more of them than the core has
      pub few_resources : (qs : List KRes) → AllByRecursion IsHere qs → IsDistinct same_resource qs → length qs ≤ port_count + (most_timers + most_ends)
      few_resources qs h d =
          let few = length-le_from_distinct_below (map place qs) (port_count + (most_timers + most_ends)) (distinct_places qs h d) (places_below qs h) in
          let same = as_long qs in
          omega (arith, few, same)

  -- the resource of an input of a root is on the root's core
  module _ (checked : IsChecked k) (r : kernel.Root) (among : Contains k.roots r) where
    channel_there : (c : ℕ) → c < length k.channels → slice_get (cores_below k (length k.channels)) c ≡ Some (side_cores c k.roots)
    channel_there c lt =
        let n = length-map-range_with_len (λ d. side_cores d k.roots) 0 (length k.channels) in
        slice_get-get_or (cores_below k (length k.channels)) c None (omega (arith, lt, n))
        ∙ ap (λ x. Some x) (get_or-map-range_with_len (λ d. side_cores d k.roots) 0 (length k.channels) c c None lt (let z : 0 + c ≡ c = omega arith in z))

    pub input_here : (i : kernel.Input) → ComesIn k i → by_statements (thing_of i.resource) r.body ≡ true → IsHere r.core i.resource
    input_here i comes used = by i.resource comes used
      where
        by : (q : KRes) → InputComes k.ports (length k.channels) (length k.timers) q i.time i.condition i.stamp → by_statements (thing_of q) r.body ≡ true → IsHere r.core q
        by (Port p) h u =
            let x = port_used k checked r among p u in
            record { item = x.0; there = x.1; some = one_where x.0.core r.core x.2 }
        by (Timer t) h u =
            let x = timer_used k checked r among t u in
            record { item = x.timer; there = x.there; some = one_where x.timer.core r.core x.place }
        by (Chan c) h u = record { item = side_cores c k.roots; there = channel_there c h.0; some = used_end k checked c h.0 r among u }
