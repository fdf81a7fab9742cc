-- What the cores of channels' sides tell of a core's ends.
use Rattle.std.specs.List.{range_with_len}
use Rattle.std.proofs.Common.{◌≡◌, ℕ, zero, suc, ◌+◌, ◌<◌, false, List, [], ◌∷◌, ◌++◌, cond, map, Option, Some, None, slice_index_or, sum_by, refl, ap, ◌∙◌, arith}
use Rattle.std.proofs.lemmas.List.FromFn.{get_or-map-range_with_len, map-range_with_len_more, sum_by-map-range_with_len_more}
use Rattle.std.proofs.lemmas.List.Sums.{sum_by-cons}
use Rattle.xc_kernel.specs.Plain as kernel
use Rattle.xc_kernel.specs.Things.{channel, by_statements}
use Rattle.xl_ends.specs.Uses.{uses_among}
use Rattle.xl_expr.specs.declared.plan.EndPlaces.{EndPlaces}
use Rattle.xl_plan.specs.declared.channels.SideCores.{SideCores}
use Rattle.xl_plan.specs.Layout.{end_places, end_places_from, ends_before, ends_there, first_there, second_or, side_cores}
use Rattle.xl_plan.specs.Users.{cores_among, uses_of_root}
use Rattle.xl_plan.proofs.Together.{with_first}

-- the answers of roots tell the cores
pub cores_found : (n c : ℕ) (rs : List kernel.Root) → c < n → cores_among c (map (uses_of_root n) rs) ≡ side_cores c rs
cores_found n c [] lt = refl
cores_found n c (r ∷ rs) lt =
    let here : slice_index_or (uses_among n r.body) c false ≡ by_statements (channel c) r.body =
    get_or-map-range_with_len (λ d. by_statements (channel d) r.body) 0 n c c false lt (let z : 0 + c ≡ c = omega arith in z) in
    ap (λ b. cond b (Some (with_first r.core (cores_among c (map (uses_of_root n) rs)))) (cores_among c (map (uses_of_root n) rs))) here
    ∙ ap (λ cores. cond (by_statements (channel c) r.body) (Some (with_first r.core cores)) cores) (cores_found n c rs lt)

-- the cores of a channel's sides, by those of roots and of the roots behind them
abbrev pub joined : Option SideCores → Option SideCores → Option SideCores
joined None others = others
joined (Some cores) others = Some (record { first = cores.first; second = second_or cores.second others })

-- where the ends of a channel stand from a number on
abbrev places_at : (core number : ℕ) → Option SideCores → EndPlaces
places_at core n cores = record { first = n; second = n + first_there core cores }

places_append : (core n : ℕ) (others : List (Option SideCores)) (cores : Option SideCores) →
    end_places_from core n (others ++ cores ∷ []) ≡ end_places_from core n others ++ places_at core (n + sum_by (ends_there core) others) cores ∷ []
places_append core n [] cores = ap (λ m. places_at core m cores ∷ []) (let z : n ≡ n + 0 = omega arith in z)
places_append core n (o ∷ others) cores =
    let s = sum_by-cons (ends_there core) o others in
    let e : n + ends_there core o + sum_by (ends_there core) others ≡ n + sum_by (ends_there core) (o ∷ others) = omega (arith, s) in
    ap (λ l. places_at core n o ∷ l)
    (places_append core (n + ends_there core o) others cores ∙ ap (λ m. end_places_from core (n + ends_there core o) others ++ places_at core m cores ∷ []) e)

module _ (k : kernel.Kernel) where
  -- the cores of the channels below a number
  abbrev pub cores_below : ℕ → List (Option SideCores)
  cores_below n = map (λ c. side_cores c k.roots) (range_with_len 0 n)

  one_more : (n : ℕ) → cores_below (suc n) ≡ cores_below n ++ side_cores n k.roots ∷ []
  one_more n =
      ap cores_below (let z : suc n ≡ n + 1 = omega arith in z)
      ∙ map-range_with_len_more (λ c. side_cores c k.roots) 0 n n (let z : 0 + n ≡ n = omega arith in z)

  pub cores_need : (core n : ℕ) → sum_by (ends_there core) (cores_below n) ≡ ends_before k core n
  cores_need core zero = refl
  cores_need core (suc n) =
      let before = cores_need core n in
      let sum = ap (λ m. sum_by (ends_there core) (cores_below m)) (let z : suc n ≡ n + 1 = omega arith in z)
      ∙ sum_by-map-range_with_len_more (ends_there core) (λ c. side_cores c k.roots) 0 n n (let z : 0 + n ≡ n = omega arith in z) in
      omega (arith, before, sum)

  pub places_are : (core n : ℕ) → end_places_from core 0 (cores_below n) ≡ end_places k core n
  places_are core zero = refl
  places_are core (suc n) =
      let sum = cores_need core n in
      ap (end_places_from core 0) (one_more n)
      ∙ places_append core 0 (cores_below n) (side_cores n k.roots)
      ∙ ap (λ m. end_places_from core 0 (cores_below n) ++ places_at core m (side_cores n k.roots) ∷ [])
      (let z : 0 + sum_by (ends_there core) (cores_below n) ≡ ends_before k core n = omega (arith, sum) in z)
      ∙ ap (λ l. l ++ places_at core (ends_before k core n) (side_cores n k.roots) ∷ []) (places_are core n)
