-- A core needs an end for each side of a channel that is there.
use Rattle.std.proofs.Common.{◌≡◌, ◌⊎◌, ⊎_elim, ℕ, zero, suc, ◌+◌, ◌<◌, ◌≤◌, Bool, true, false, List, [], ◌∷◌, length, Contains, Some, slice_get, sum_by, nat_eq, refl, sym, ap, subst, ◌∙◌, true≢false, arith}
use Rattle.std.proofs.lemmas.List.Sums.{sum_by-cons}
use Rattle.xw_words.specs.declared.pos.Broken.{Broken}
use Rattle.xc_kernel.specs.Plain as kernel
use Rattle.xc_kernel.specs.Things.{channel, by_branches}
use Rattle.xc_kernel.specs.Uses.{once}
use Rattle.xc_kernel.specs.Branches.{branches_of, uses_in, users, some_has_sides}
use Rattle.xc_kernel.specs.Pars as pars
use Rattle.xc_disjoint.proofs.WholeUses as settled
use Rattle.xc_disjoint.proofs.Users.{Has, has_split, has_none}
use Rattle.xc_disjoint.specs.Checked.{IsChecked}
use Rattle.xc_disjoint.specs.Cores.{if_so, last_core, on_core}
use Rattle.xc_disjoint.specs.Disjoint.{NotApart}
use Rattle.xc_disjoint.specs.Ends.{ends_by, ends_of, ends_below}
use Rattle.xc_disjoint.specs.Needs.{ends_on}
use Rattle.xc_disjoint.specs.Rules.{apart, ends, most_ends, needs}
use Rattle.xl_plan.specs.Layout.{ends_before, ends_there, side_cores}
use Rattle.xl_plan.proofs.Lists.{some_given, contained_at, within_all}
use Rattle.xl_plan.proofs.Together.{cores_of_one, no_cores, sum_of_none, sum_of_one, two_users, unused_by, used_among, uses}
use Rattle.xl_plan.proofs.TwoSides.{SidesOf, sides_of, some_sided}
use Rattle.xl_plan.proofs.Unused.{in_statements, none_has_sides}

-- a `par` among those of roots is one of a root's
in_root : (rs : List kernel.Root) (p : kernel.Branches) → Has (pars.of_branches (branches_of rs)) p → (j : ℕ) × (r : kernel.Root) × (slice_get rs j ≡ Some r) × Has (pars.of_statements r.body) p
in_root [] p h = has_none p h
in_root (r ∷ rs) p h =
    ⊎_elim (λ g. (0, r, refl, g)) (λ g. let t = in_root rs p g in (suc t.0, t.1, t.2, t.3))
    (has_split (pars.of_statements r.body) (pars.of_branches (branches_of rs)) p h)

sum_of_two : (f g h : kernel.Root → ℕ) (rs : List kernel.Root) → ((r : kernel.Root) → h r ≡ f r + g r) → sum_by h rs ≡ sum_by f rs + sum_by g rs
sum_of_two f g h [] e = refl
sum_of_two f g h (r ∷ rs) e =
    let a = sum_by-cons f r rs in
    let b = sum_by-cons g r rs in
    let c = sum_by-cons h r rs in
    let own = e r in
    let others = sum_of_two f g h rs e in
    omega (arith, a, b, c, own, others)

if_both : (b : Bool) (n m : ℕ) → if_so b (n + m) ≡ if_so b n + if_so b m
if_both true n m = refl
if_both false n m = refl

if_none : (b : Bool) → if_so b 0 ≡ 0
if_none true = refl
if_none false = refl

-- the ends that the roots on a core need for a channel
abbrev ends_here : kernel.Kernel → (core channel : ℕ) → Bool → ℕ
ends_here k core c is_shared = sum_by (λ (r : kernel.Root). on_core core r.core (ends_by k r c is_shared)) k.roots

-- a root that doesn't use it needs none
no_ends : (k : kernel.Kernel) (c : ℕ) (is_shared : Bool) (r : kernel.Root) → uses c r ≡ false → ends_by k r c is_shared ≡ 0
no_ends k c true r none = ap once none
no_ends k c false r none = ap (λ b. if_so b 2) (none_has_sides c (uses_in c (branches_of k.roots)) (pars.of_statements r.body) (in_statements c r.body none))

no_ends_here : (k : kernel.Kernel) (core c : ℕ) (is_shared : Bool) (r : kernel.Root) → uses c r ≡ false → on_core core r.core (ends_by k r c is_shared) ≡ 0
no_ends_here k core c is_shared r none = ap (if_so (nat_eq r.core core)) (no_ends k c is_shared r none) ∙ if_none (nat_eq r.core core)

module _ (k : kernel.Kernel) (unbroken : (b : Broken) → NotApart k b → ⊥) (core : ℕ) where
  module _ (c : ℕ) (is_channel : c < length k.channels) where
    -- where the sides are in a root, no other uses the channel
    both_inside : nat_eq (users c (branches_of k.roots)) 2 ≡ false → (h : SidesOf k c) (place : ℕ) →
        slice_get (branches_of k.roots ∷ pars.of_branches (branches_of k.roots)) place ≡ Some h.par → ends_here k core c false ≡ ends_there core (side_cores c k.roots)
    both_inside not_two h zero e =
        let same = ap (users c) (some_given e) in
        let two = h.two in
        absurd (let z : ⊥ = grind (arith, not_two, same, two) in z)
    both_inside not_two h (suc place) e =
        let t = in_root k.roots h.par (place, e) in
        let r = t.1 in
        let all = h.all in
        let most = (settled.of_statements c r.body).most h.par t.3 in
        let has = some_sided c (uses_in c (branches_of k.roots)) (pars.of_statements r.body) t.3.0 h.par t.3.1 h.two h.all in
        sum_of_one c (λ (r : kernel.Root). on_core core r.core (ends_by k r c false)) (no_ends_here k core c false) k.roots t.0 r t.2 (omega (arith, all, most))
        ∙ ap (λ b. on_core core r.core (if_so b 2)) has
        ∙ if_both (nat_eq r.core core) 1 1
        ∙ ap (ends_there core) (sym (cores_of_one c k.roots t.0 r t.2 (used r has (uses c r) refl) (omega (arith, all, most))))
      where
        used : (r : kernel.Root) → some_has_sides c (uses_in c (branches_of k.roots)) (pars.of_statements r.body) ≡ true → (b : Bool) → uses c r ≡ b → uses c r ≡ true
        used r has true u = u
        used r has false u = absurd (true≢false (sym has ∙ none_has_sides c (uses_in c (branches_of k.roots)) (pars.of_statements r.body) (in_statements c r.body u)))

    ends_where_used : (is_shared : Bool) → nat_eq (users c (branches_of k.roots)) 2 ≡ is_shared → SidesOf k c → ends_here k core c is_shared ≡ ends_there core (side_cores c k.roots)
    ends_where_used true e h = two_users c core k.roots (let two : users c (branches_of k.roots) ≡ 2 = grind (arith, e) in two)
    ends_where_used false e h = both_inside e h h.among.0 h.among.1

    -- for a channel they need one for each of its sides that is there
    ends_for_channel : sum_by (λ (r : kernel.Root). on_core core r.core (ends_of k r c)) k.roots ≡ ends_there core (side_cores c k.roots)
    ends_for_channel = by (by_branches (channel c) (branches_of k.roots)) refl
      where
        by : (b : Bool) → by_branches (channel c) (branches_of k.roots) ≡ b → sum_by (λ (r : kernel.Root). on_core core r.core (ends_of k r c)) k.roots ≡ ends_there core (side_cores c k.roots)
        by true e = ends_where_used (nat_eq (users c (branches_of k.roots)) 2) refl (sides_of k unbroken c is_channel e)
        by false e =
            sum_of_none (λ (r : kernel.Root). on_core core r.core (ends_of k r c)) k.roots (λ i r at. no_ends_here k core c (nat_eq (users c (branches_of k.roots)) 2) r (unused_by c k.roots e i r at))
            ∙ ap (ends_there core) (sym (no_cores c k.roots (unused_by c k.roots e)))

    -- A root on the core that uses it.
    module _ (place : ℕ) (r : kernel.Root) (at : slice_get k.roots place ≡ Some r) (here : r.core ≡ core) (used : uses c r ≡ true) where
      -- a root counts where it is on the core and uses the channel
      abbrev user : kernel.Root → ℕ
      user q = on_core core q.core (once (uses c q))

      no_user : (q : kernel.Root) → uses c q ≡ false → user q ≡ 0
      no_user q none = ap (λ b. on_core core q.core (once b)) none ∙ if_none (nat_eq q.core core)

      some_user : 1 ≤ sum_by user k.roots
      some_user =
          let on : nat_eq r.core core ≡ true = grind (arith, here) in
          let own : user r ≡ 1 = ap (λ b. if_so b (once (uses c r))) on ∙ ap once used in
          let within = within_all user k.roots place r at in
          omega (arith, own, within)

      is_user : (q : kernel.Root) → 1 ≤ user q → (b : Bool) → uses c q ≡ b → uses c q ≡ true
      is_user q some true u = u
      is_user q some false u = let none = no_user q u in absurd (let z : ⊥ = omega (arith, some, none) in z)

      both_here : (b : Bool) (n : ℕ) → 1 ≤ if_so b n → 1 ≤ if_so b 1 + if_so b 1
      both_here true n h = omega arith
      both_here false n h = absurd (let z : ⊥ = omega (arith, h) in z)

      -- where the sides are in one root, that is on the core
      end_inside : nat_eq (users c (branches_of k.roots)) 2 ≡ false → (h : SidesOf k c) (i : ℕ) →
          slice_get (branches_of k.roots ∷ pars.of_branches (branches_of k.roots)) i ≡ Some h.par → 1 ≤ ends_there core (side_cores c k.roots)
      end_inside not_two h zero e =
          let same = ap (users c) (some_given e) in
          let two = h.two in
          absurd (let z : ⊥ = grind (arith, not_two, same, two) in z)
      end_inside not_two h (suc i) e =
          let t = in_root k.roots h.par (i, e) in
          let q = t.1 in
          let all = h.all in
          let most = (settled.of_statements c q.body).most h.par t.3 in
          let sum = sum_of_one c user no_user k.roots t.0 q t.2 (omega (arith, all, most)) in
          let some = some_user in
          let own : 1 ≤ user q = omega (arith, sum, some) in
          subst (λ cores. 1 ≤ ends_there core cores)
          (sym (cores_of_one c k.roots t.0 q t.2 (is_user q own (uses c q) refl) (omega (arith, all, most))))
          (both_here (nat_eq q.core core) (once (uses c q)) own)

      -- a side is there
      pub end_there : 1 ≤ ends_there core (side_cores c k.roots)
      end_there = by (nat_eq (users c (branches_of k.roots)) 2) refl
        where
          by : (b : Bool) → nat_eq (users c (branches_of k.roots)) 2 ≡ b → 1 ≤ ends_there core (side_cores c k.roots)
          by true e =
              let two : users c (branches_of k.roots) ≡ 2 = grind (arith, e) in
              let same = two_users c core k.roots two in
              let some = some_user in
              omega (arith, same, some)
          by false e =
              let h = sides_of k unbroken c is_channel (used_among c k.roots place r at used) in
              end_inside e h h.among.0 h.among.1

  ends_for_channels : (n : ℕ) → n ≤ length k.channels → sum_by (λ (r : kernel.Root). on_core core r.core (ends_below k r n)) k.roots ≡ ends_before k core n
  ends_for_channels zero le = sum_of_none (λ (r : kernel.Root). on_core core r.core 0) k.roots (λ i r at. if_none (nat_eq r.core core))
  ends_for_channels (suc n) le =
      let before = ends_for_channels n (omega (arith, le)) in
      let one = ends_for_channel n (omega (arith, le)) in
      let both = sum_of_two (λ (r : kernel.Root). on_core core r.core (ends_below k r n)) (λ (r : kernel.Root). on_core core r.core (ends_of k r n)) (λ (r : kernel.Root). on_core core r.core (ends_below k r (suc n))) k.roots
      (λ r. if_both (nat_eq r.core core) (ends_below k r n) (ends_of k r n)) in
      omega (arith, before, one, both)

-- A core needs one for each side of a channel that is there.
pub ends_are_used : (k : kernel.Kernel) (core : ℕ) → IsChecked k → ends_on k core ≡ ends_before k core (length k.channels)
ends_are_used k core checked = ends_for_channels k (λ b h. checked.unbroken b (apart h)) core (length k.channels) (omega arith)

within_or_not : (n most : ℕ) → (n ≤ most) ⊎ (most < n)
within_or_not n most = grind arith

-- and these are few
pub few_ends : (k : kernel.Kernel) (core : ℕ) → IsChecked k → core ≤ last_core → ends_before k core (length k.channels) ≤ most_ends
few_ends k core checked is_core =
    let e = ends_are_used k core checked in
    ⊎_elim (λ le. omega (arith, e, le))
    (λ lt. absurd (checked.unbroken _ (needs (ends (record { core = core; is_core = is_core; more = lt })))))
    (within_or_not (ends_on k core) most_ends)

-- A root that uses a channel has a side of it on its core.
pub used_end : (k : kernel.Kernel) → IsChecked k → (c : ℕ) → c < length k.channels → (r : kernel.Root) → Contains k.roots r → uses c r ≡ true → 1 ≤ ends_there r.core (side_cores c k.roots)
used_end k checked c is_channel r among used =
    let at = contained_at k.roots r among in
    end_there k (λ b h. checked.unbroken b (apart h)) r.core c is_channel at.0 r at.1 refl used
