-- The channels of an image by the cores of their sides.
use Rattle.std.proofs.Common.{◌≡◌, ◌∙◌, ℕ, suc, ◌+◌, ◌<◌, Bool, true, false, ◌||◌, List, [], ◌∷◌, ◌++◌, get_or, length, map, sum_by, take, Option, Some, None, refl, sym, ap, ap₂, subst, append-nil, arith, eq-eqb}
use Rattle.std.specs.Prelude.{cond, nat_eq, replicate}
use Rattle.std.proofs.lemmas.List.FromFn.{get_or-map-range_with_len, length-map-range_with_len, take-map-range_with_len}
use Rattle.xc_kernel.specs.declared.kernel.Chan.{Chan}
use Rattle.xc_kernel.specs.Plain as kernel
use Rattle.xc_kernel.specs.Things.{channel, by_branches, by_statements}
use Rattle.xc_kernel.specs.Branches.{branches_of, has_two_sides}
use Rattle.xc_disjoint.specs.Checked.{IsChecked}
use Rattle.xc_disjoint.specs.Rules.{apart}
use Rattle.xc_meaning.specs.Runs.{no_side}
use Rattle.xc_meaning.specs.States.Channels.{first, second}
use Rattle.xs_instr.specs.declared.image.Pair.{Pair}
use Rattle.xl_ends.specs.Ends.{Sides}
use Rattle.xl_plan.specs.declared.channels.SideCores.{SideCores}
use Rattle.xl_plan.specs.Layout.{core_in, cores_of_channels, ends_before, ends_there, first_there, side_cores}
use Rattle.xl_plan.proofs.Lists.{some_given, none_given}
use Rattle.xl_plan.proofs.Together.{met, passed, with_first}
use Rattle.xl_plan.proofs.TwoSides.{two_sides}
use Rattle.xl_plan.proofs.Users.{cores_need}
use Rattle.xl_image.specs.Images.{is_used, no_sides, one_root_uses, pair_of, pair_where, pairs_below, roots_on}
use Rattle.xl_image.specs.Parts.{has_root, is_some_root, pair_behind}

module _ (c : ℕ) where
  abbrev uses : kernel.Root → Bool
  uses r = by_statements (channel c) r.body

  -- what is so of a channel whose sides are on these cores
  abbrev SidesAre : List kernel.Root → SideCores → Type 0
  SidesAre rs cores = (one_root_uses c rs ≡ true) × (is_some_root (roots_on cores.first rs) ≡ true) × (is_some_root (roots_on cores.second rs) ≡ true)

  rooted_by : (r : kernel.Root) (rs : List kernel.Root) (b : Bool) → is_some_root rs ≡ true → is_some_root (cond b (r ∷ rs) rs) ≡ true
  rooted_by r rs true e = refl
  rooted_by r rs false e = e

  -- a root's core has a root
  rooted_here : (r : kernel.Root) (rs : List kernel.Root) → is_some_root (roots_on r.core (r ∷ rs)) ≡ true
  rooted_here r rs = ap (λ b. is_some_root (cond b (r ∷ roots_on r.core rs) (roots_on r.core rs))) (eq-eqb r.core r.core refl)

  sides_are : (rs : List kernel.Root) (cores : SideCores) → side_cores c rs ≡ Some cores → SidesAre rs cores
  sides_are [] cores e = absurd (none_given e)
  sides_are (r ∷ rs) cores e = by (uses r) refl (sides_are rs) (side_cores c rs) refl
    where
      by : (b : Bool) → uses r ≡ b → ((its : SideCores) → side_cores c rs ≡ Some its → SidesAre rs its) → (others : Option SideCores) → side_cores c rs ≡ others → SidesAre (r ∷ rs) cores
      by true u are None o =
          let same = some_given (sym (met c r rs u ∙ ap (λ x. Some (with_first r.core x)) o) ∙ e) in
          subst (SidesAre (r ∷ rs)) same (ap (λ b. b || one_root_uses c rs) u, rooted_here r rs, rooted_here r rs)
      by true u are (Some others) o =
          let same = some_given (sym (met c r rs u ∙ ap (λ x. Some (with_first r.core x)) o) ∙ e) in
          let h = are others o in
          subst (SidesAre (r ∷ rs)) same
          (ap (λ b. b || one_root_uses c rs) u, rooted_here r rs, rooted_by r (roots_on others.second rs) (nat_eq r.core others.second) h.2)
      by false u are others o =
          let h = are cores (sym (passed c r rs u) ∙ e) in (
            ap (λ b. b || one_root_uses c rs) u ∙ h.0,
            rooted_by r (roots_on cores.first rs) (nat_eq r.core cores.first) h.1,
            rooted_by r (roots_on cores.second rs) (nat_eq r.core cores.second) h.2,
          )

  unused_is : (rs : List kernel.Root) → side_cores c rs ≡ None → one_root_uses c rs ≡ false
  unused_is [] e = refl
  unused_is (r ∷ rs) e = by (uses r) refl (unused_is rs)
    where
      by : (b : Bool) → uses r ≡ b → (side_cores c rs ≡ None → one_root_uses c rs ≡ false) → one_root_uses c (r ∷ rs) ≡ false
      by true u others = absurd (none_given (sym e ∙ met c r rs u))
      by false u others = ap (λ b. b || one_root_uses c rs) u ∙ others (sym (passed c r rs u) ∙ e)

  used_is : (rs : List kernel.Root) → one_root_uses c rs ≡ by_branches (channel c) (branches_of rs)
  used_is [] = refl
  used_is (r ∷ rs) = ap (λ b. uses r || b) (used_is rs)

-- A channel has two sides where a root uses it.
pub two_sided_is_used : (k : kernel.Kernel) → IsChecked k → (c : ℕ) → c < length k.channels → has_two_sides k c ≡ is_used k c
two_sided_is_used k checked c is_channel =
    two_sides k (λ b h. checked.unbroken b (apart h)) c is_channel ∙ sym (used_is c k.roots)

-- the ends of a channel whose sides are on these cores
abbrev pub pair_at : kernel.Kernel → (channel : ℕ) → SideCores → Pair
pair_at k c cores = record {
  core = cores.first;
  end = ends_before k cores.first c;
  peer_core = cores.second;
  peer_end = ends_before k cores.second c + first_there cores.second (Some cores);
}

module _ (k : kernel.Kernel) (c : ℕ) where
  -- the cores of its sides have roots
  pub first_rooted : (cores : SideCores) → side_cores c k.roots ≡ Some cores → has_root k cores.first ≡ true
  first_rooted cores e = (sides_are c k.roots cores e).1

  pub second_rooted : (cores : SideCores) → side_cores c k.roots ≡ Some cores → has_root k cores.second ≡ true
  second_rooted cores e = (sides_are c k.roots cores e).2

  -- `pair_of`, by the cores
  abbrev pair_by : Option SideCores → Pair
  pair_by x = record {
    core = core_in x first;
    end = ends_before k (core_in x first) c;
    peer_core = core_in x second;
    peer_end = ends_before k (core_in x second) c + first_there (core_in x second) x;
  }

  pub one_pair_more : (cores : SideCores) → side_cores c k.roots ≡ Some cores → pairs_below k (suc c) ≡ pairs_below k c ++ pair_at k c cores ∷ []
  one_pair_more cores e =
      ap (λ b. pairs_below k c ++ pair_where b (pair_of k c)) (sides_are c k.roots cores e).0
      ∙ ap (λ x. pairs_below k c ++ pair_by x ∷ []) e

  pub no_pair_more : side_cores c k.roots ≡ None → pairs_below k (suc c) ≡ pairs_below k c
  no_pair_more e = ap (λ b. pairs_below k c ++ pair_where b (pair_of k c)) (unused_is c k.roots e) ∙ append-nil (pairs_below k c)

-- The list of the sides' cores.
module _ (k : kernel.Kernel) (channels : List (Option SideCores)) (is : channels ≡ cores_of_channels k) where
  pub channel_count : length channels ≡ length k.channels
  channel_count = ap length is ∙ length-map-range_with_len (λ c. side_cores c k.roots) 0 (length k.channels)

  pub cores_at : (c : ℕ) → c < length channels → get_or channels c None ≡ side_cores c k.roots
  cores_at c lt =
      let n = channel_count in
      ap (λ cs. get_or cs c None) is
      ∙ get_or-map-range_with_len (λ d. side_cores d k.roots) 0 (length k.channels) c c None (omega (arith, lt, n)) (let z : 0 + c ≡ c = omega arith in z)

  -- those before a channel tell where its ends begin
  pub before_need : (core c : ℕ) → c < length channels → sum_by (ends_there core) (take c channels) ≡ ends_before k core c
  before_need core c lt =
      let n = channel_count in
      ap (λ cs. sum_by (ends_there core) (take c cs)) is
      ∙ ap (sum_by (ends_there core)) (take-map-range_with_len (λ d. side_cores d k.roots) 0 (length k.channels) c (omega (arith, lt, n)))
      ∙ cores_need k core c

  pub pair_is : (cores : SideCores) (c : ℕ) → c < length channels → pair_behind (take c channels) cores ≡ pair_at k c cores
  pair_is cores c lt =
      ap₂ (λ n m. record { core = cores.first; end = n; peer_core = cores.second; peer_end = m + first_there cores.second (Some cores) })
      (before_need cores.first c lt) (before_need cores.second c lt)

-- No side of any channel.
none_each : (xs : List Chan) → replicate (length xs) None ≡ map no_side xs
none_each [] = refl
none_each (x ∷ xs) = ap (λ l. None ∷ l) (none_each xs)

pub no_sides_are : (k : kernel.Kernel) (n : ℕ) (sides : Sides) → sides ≡ replicate n None → n ≡ length k.channels → sides ≡ no_sides k
no_sides_are k n sides e same = e ∙ ap (λ m. replicate m None) same ∙ none_each k.channels
