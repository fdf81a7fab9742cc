-- In a kernel that breaks no rule each channel that is used has its two sides in one `par`.
use Rattle.std.proofs.Common.{◌≡◌, inl, inr, ℕ, zero, suc, ◌<◌, Bool, true, false, ◌&&◌, ◌||◌, List, [], ◌∷◌, length, Option, Some, None, slice_get, nat_eq, nat_lt, refl, ap, ap₂, ◌∙◌, arith}
use Rattle.xw_words.specs.declared.pos.Broken.{Broken}
use Rattle.xc_kernel.specs.declared.kernel.Chan.{Chan}
use Rattle.xc_kernel.specs.Plain as kernel
use Rattle.xc_kernel.specs.Things.{channel, by_branches}
use Rattle.xc_kernel.specs.Branches.{branches_of, all_pars, uses_in, users, some_has_sides, has_two_sides}
use Rattle.xc_kernel.proofs.Used.{branches_use}
use Rattle.xc_disjoint.specs.declared.uses.Held.{Held}
use Rattle.xc_disjoint.specs.declared.uses.Held.TheVariants.{Apart, Two, Many}
use Rattle.xc_disjoint.specs.declared.uses.Use.{Use}
use Rattle.xc_disjoint.specs.SideRules.{IsInnermost, third, one_sided}
use Rattle.xc_disjoint.proofs.Holding.{Holder, HeldBy, UsedBy}
use Rattle.xc_disjoint.proofs.WholeUses.{of_whole}
use Rattle.xc_disjoint.proofs.Users.{Has}
use Rattle.xc_disjoint.specs.Disjoint.{NotApart, without_sides}
use Rattle.xl_plan.proofs.Lists.{some_given, none_given}
use Rattle.xl_plan.proofs.Unused.{in_par, none_has_sides}

channel_at : (xs : List Chan) (n : ℕ) → n < length xs → (d : Chan) × (slice_get xs n ≡ Some d)
channel_at [] n l = absurd (let z : ⊥ = omega (arith, l) in z)
channel_at (x ∷ xs) zero l = (x, refl)
channel_at (x ∷ xs) (suc n) l = channel_at xs n (omega (arith, l))

or_left : (a b : Bool) → a ≡ true → (a || b) ≡ true
or_left true b e = refl
or_left false b e = cc

or_right : (a b : Bool) → b ≡ true → (a || b) ≡ true
or_right true b e = refl
or_right false b e = e

-- where one of some `par`s has the sides, some has
pub some_sided : (c count : ℕ) (ps : List kernel.Branches) (place : ℕ) (p : kernel.Branches) → slice_get ps place ≡ Some p → users c p ≡ 2 → uses_in c p ≡ count → some_has_sides c count ps ≡ true
some_sided c count [] place p e two all = absurd (none_given e)
some_sided c count (q ∷ ps) zero p e two all =
    let has : users c q ≡ 2 = ap (users c) (some_given e) ∙ two in
    let holds : uses_in c q ≡ count = ap (uses_in c) (some_given e) ∙ all in
    let a : nat_eq (users c q) 2 ≡ true = grind arith in
    let b : nat_eq (uses_in c q) count ≡ true = grind arith in
    or_left (nat_eq (users c q) 2 && nat_eq (uses_in c q) count) (some_has_sides c count ps) (ap₂ ◌&&◌ a b)
some_sided c count (q ∷ ps) (suc place) p e two all =
    or_right (nat_eq (users c q) 2 && nat_eq (uses_in c q) count) (some_has_sides c count ps) (some_sided c count ps place p e two all)

-- the `par` with a channel's sides
pub record SidesOf (k : kernel.Kernel) (c : ℕ) : Type 0 where
  pub par : kernel.Branches
  pub among : Has (all_pars k) par
  pub two : users c par ≡ 2
  pub all : uses_in c par ≡ uses_in c (branches_of k.roots)

module _ (k : kernel.Kernel) (unbroken : (b : Broken) → NotApart k b → ⊥) (c : ℕ) (is_channel : c < length k.channels) where
  abbrev roots : kernel.Branches
  roots = branches_of k.roots

  innermost : (p : kernel.Branches) → Holder c (uses_in c roots) (all_pars k) p → 0 < uses_in c roots → IsInnermost k c p
  innermost p h used = record {
    place = h.among.0;
    is_par = h.among.1;
    used = let e = h.holds in omega (arith, e, used);
    holds = h.holds;
    innermost = λ i q e f. h.innermost q (i, e) f;
  }

  by_held : (held : Held) → HeldBy c (uses_in c roots) (all_pars k) held → 0 < uses_in c roots → SidesOf k c
  by_held Apart (inl none) used = absurd (none roots (0, refl) refl)
  by_held Apart (inr h) used =
      let d = channel_at k.channels c is_channel in
      absurd (unbroken _ (without_sides (one_sided d.0 (record { c = c; bs = h.0; innermost = innermost h.0 h.1 used; alone = h.2; is_channel = d.1 }))))
  by_held (Two inside) h used = record { par = h.0; among = h.1.among; two = h.2; all = h.1.holds }
  by_held (Many at) h used =
      absurd (unbroken _ (without_sides (third h.2 (record { c = c; bs = h.0; innermost = innermost h.0 h.1 used; user = h.3 }))))

  by_use : (u : Option Use) → UsedBy c (uses_in c roots) (all_pars k) u → 0 < uses_in c roots → SidesOf k c
  by_use None e used = absurd (let z : ⊥ = omega (arith, e, used) in z)
  by_use (Some u) h used = by_held u.held h.2 used

  pub sides_of : by_branches (channel c) roots ≡ true → SidesOf k c
  sides_of uses =
      let e : nat_lt 0 (uses_in c roots) ≡ true = branches_use c roots ∙ uses in
      by_use _ (of_whole c roots).is (grind (arith, e))

  has_by : (b : Bool) → by_branches (channel c) roots ≡ b → has_two_sides k c ≡ b
  has_by false e = none_has_sides c (uses_in c roots) (all_pars k) (in_par c roots e)
  has_by true e = let h = sides_of e in some_sided c (uses_in c roots) (all_pars k) h.among.0 h.par h.among.1 h.two h.all

  -- a channel has two sides where some root uses it
  pub two_sides : has_two_sides k c ≡ by_branches (channel c) roots
  two_sides = has_by (by_branches (channel c) roots) refl
