-- The ends that roots need by their tables are those that they need by the definition.
use Rattle.std.proofs.Common.{◌≡◌, ℕ, zero, suc, ◌+◌, ◌<◌, ◌≤◌, ◌⊎◌, inl, inr, Bool, true, false, ◌&&◌, List, [], ◌∷◌, Option, Some, None}
use Rattle.std.proofs.Common.{map, length, nat_lt, nat_eq, slice_get, sum_by, refl, sym, ap, subst, ◌∙◌, arith, eq-eqb, eqb-true}
use Rattle.std.proofs.lemmas.Bool.Decides.{nat_tests}
use Rattle.std.proofs.lemmas.Bool.{ne_eqb, or_from, or_left, or_right}
use Rattle.std.proofs.lemmas.List.Sums.{sum_by-cons}
use Rattle.xc_kernel.specs.Plain as kernel
use Rattle.xc_kernel.specs.Uses as uses
use Rattle.xc_kernel.specs.Uses.{once, count_of}
use Rattle.xc_kernel.specs.Things.{channel, by_statements}
use Rattle.xc_kernel.specs.Branches.{branches_of, users, uses_in, has_sides, some_has_sides}
use Rattle.xc_kernel.specs.Pars as pars
use Rattle.xc_kernel.proofs.Used.{count_append, statements_use}
use Rattle.xc_disjoint.specs.declared.uses.Held.{Held}
use Rattle.xc_disjoint.specs.declared.uses.Held.TheVariants.{Apart, Two, Many}
use Rattle.xc_disjoint.specs.declared.uses.Use.{Use}
use Rattle.xc_disjoint.specs.declared.uses.Share.{Share}
use Rattle.xc_disjoint.specs.declared.uses.Share.TheVariants as share
use Rattle.xc_disjoint.specs.Cores.{if_so, on_core}
use Rattle.xc_disjoint.specs.Ends as ends
use Rattle.xc_disjoint.specs.Needs.{ends_on, ends_on_of_root}
use Rattle.xc_disjoint.specs.RootUses.{RootUse, seen_of, ends_held, ends_by, ends_below, ends_at}
use Rattle.xc_disjoint.specs.Sums.{capped}
use Rattle.xc_disjoint.specs.Uses.{Shares, no_shares, of_statements, with_branches}
use Rattle.xc_disjoint.proofs.FirstSoFar.{some_same}
use Rattle.xc_disjoint.proofs.Users.{Has, has_none, user_bound}
use Rattle.xc_disjoint.proofs.Users as user
use Rattle.xc_disjoint.proofs.Holding.{Holder, HeldBy, UsedBy, SharedBy, Fits}
use Rattle.xc_disjoint.proofs.WholeUses as whole

-- one of the roots
abbrev In : kernel.Root → List kernel.Root → Type 0
In r [] = ⊥
In r (x ∷ xs) = (r ≡ x) ⊎ In r xs

-- how often a root uses the channel, and whether it does
abbrev own : ℕ → kernel.Root → ℕ
own c r = count_of c (uses.of_statements r.body)

abbrev uses_it : ℕ → kernel.Root → ℕ
uses_it c r = once (by_statements (channel c) r.body)

its_use : (c : ℕ) (r : kernel.Root) (n : ℕ) → own c r ≡ n → uses_it c r ≡ once (nat_lt 0 n)
its_use c r n e = ap once (sym (statements_use c r.body) ∙ ap (nat_lt 0) e)

positive : (m : ℕ) → nat_lt 0 (suc m) ≡ true
positive m = grind (arith, nat_tests)

used_by : (c : ℕ) (r : kernel.Root) → ((own c r ≡ 0) × (uses_it c r ≡ 0)) ⊎ ((0 < own c r) × (uses_it c r ≡ 1))
used_by c r = by (own c r) refl
  where
    by : (n : ℕ) → own c r ≡ n → ((own c r ≡ 0) × (uses_it c r ≡ 0)) ⊎ ((0 < own c r) × (uses_it c r ≡ 1))
    by zero e = inl (e, its_use c r zero e)
    by (suc n) e = inr (omega arith, its_use c r (suc n) e ∙ ap once (positive n))

abbrev all : ℕ → List kernel.Root → ℕ
all c rs = count_of c (uses.of_branches (branches_of rs))

abbrev all_users : ℕ → List kernel.Root → ℕ
all_users c rs = users c (branches_of rs)

all_more : (c : ℕ) (r : kernel.Root) (rs : List kernel.Root) → all c (r ∷ rs) ≡ own c r + all c rs
all_more c r rs = count_append c (uses.of_statements r.body) (uses.of_branches (branches_of rs))

at_most_once : (c : ℕ) (r : kernel.Root) → uses_it c r ≤ own c r
at_most_once c r = by (used_by c r)
  where
    by : ((own c r ≡ 0) × (uses_it c r ≡ 0)) ⊎ ((0 < own c r) × (uses_it c r ≡ 1)) → uses_it c r ≤ own c r
    by (inl h) = let e = h.1 in omega arith
    by (inr h) = let l = h.0 in let e = h.1 in omega arith

unused_none : (c : ℕ) (r : kernel.Root) → uses_it c r ≡ 0 → own c r ≡ 0
unused_none c r z = by (used_by c r)
  where
    by : ((own c r ≡ 0) × (uses_it c r ≡ 0)) ⊎ ((0 < own c r) × (uses_it c r ≡ 1)) → own c r ≡ 0
    by (inl h) = h.0
    by (inr h) = let e = h.1 in absurd (omega arith)

users_below : (c : ℕ) (rs : List kernel.Root) → all_users c rs ≤ all c rs
users_below c [] = omega arith
users_below c (r ∷ rs) = let a = all_more c r rs in let b = at_most_once c r in let d = users_below c rs in omega arith

none_used : (c : ℕ) (rs : List kernel.Root) → all_users c rs ≡ 0 → all c rs ≡ 0
none_used c [] z = refl
none_used c (r ∷ rs) z =
    let a = all_more c r rs in
    let b : uses_it c r ≡ 0 = omega arith in
    let d : all_users c rs ≡ 0 = omega arith in
    let e = unused_none c r b in
    let f = none_used c rs d in
    omega arith

-- a root has no more uses than all
within : (c : ℕ) (r : kernel.Root) (rs : List kernel.Root) → In r rs → own c r ≤ all c rs
within c r [] h = absurd h
within c r (x ∷ xs) (inl e) = subst (λ (y : kernel.Root). own c y ≤ all c (x ∷ xs)) (sym e) (let a = all_more c x xs in omega arith)
within c r (x ∷ xs) (inr h) = let a = all_more c x xs in let b = within c r xs h in omega arith

one_user : (c : ℕ) (r : kernel.Root) (rs : List kernel.Root) → In r rs → uses_it c r ≤ all_users c rs
one_user c r [] h = absurd h
one_user c r (x ∷ xs) (inl e) = subst (λ (y : kernel.Root). uses_it c y ≤ all_users c (x ∷ xs)) (sym e) (omega arith)
one_user c r (x ∷ xs) (inr h) = let b = one_user c r xs h in omega arith

-- each other root that uses the channel has a use
others : (c : ℕ) (r : kernel.Root) (rs : List kernel.Root) → In r rs → all_users c rs + own c r ≤ all c rs + uses_it c r
others c r [] h = absurd h
others c r (x ∷ xs) (inl e) =
    subst (λ (y : kernel.Root). all_users c (x ∷ xs) + own c y ≤ all c (x ∷ xs) + uses_it c y) (sym e)
    (let a = all_more c x xs in let b = users_below c xs in omega arith)
others c r (x ∷ xs) (inr h) = let a = all_more c x xs in let b = others c r xs h in let d = at_most_once c x in omega arith

-- where no other root uses it, all uses are its own
alone : (c : ℕ) (r : kernel.Root) (rs : List kernel.Root) → In r rs → all_users c rs ≤ uses_it c r → all c rs ≤ own c r
alone c r [] h l = absurd h
alone c r (x ∷ xs) (inl e) l = subst (λ (y : kernel.Root). all c (x ∷ xs) ≤ own c y) (sym e) (first (subst (λ (y : kernel.Root). all_users c (x ∷ xs) ≤ uses_it c y) e l))
  where
    first : all_users c (x ∷ xs) ≤ uses_it c x → all c (x ∷ xs) ≤ own c x
    first m =
        let a = all_more c x xs in
        let b : all_users c xs ≡ 0 = omega arith in
        let d = none_used c xs b in
        omega arith
alone c r (x ∷ xs) (inr h) l =
    let a = all_more c x xs in
    let b = one_user c r xs h in
    let d : uses_it c x ≡ 0 = omega arith in
    let e = unused_none c x d in
    let f = alone c r xs h (omega arith) in
    omega arith

-- How a channel's use in code says whether some `par` in it has its sides.
module _ (c : ℕ) where
  -- of two branches that use the channel none holds a `par` with all their uses
  less_inside : (q : kernel.Branches) → users c q ≡ 2 → (r : kernel.Branches) → Has (pars.of_branches q) r → uses_in c r < uses_in c q
  less_inside q two r h = by (with_branches no_shares q c) (whole.of_shares c q).is
    where
      by : (s : Option Share) → SharedBy c q s → uses_in c r < uses_in c q
      by None z = let l = user.users_below c q in absurd (omega arith)
      by (Some (share.One u)) k = let one = k.0 in absurd (omega arith)
      by (Some (share.Two second inside)) k = k.1 r h
      by (Some (share.Many third seconds)) k = k.0 r h

  neither : (m : ℕ) (p : kernel.Branches) → (users c p ≡ 2 → uses_in c p ≡ m → ⊥) → has_sides c m p ≡ false
  neither m p never = by (nat_eq (users c p) 2) (nat_eq (uses_in c p) m) refl refl
    where
      by : (a b : Bool) → nat_eq (users c p) 2 ≡ a → nat_eq (uses_in c p) m ≡ b → (nat_eq (users c p) 2 && nat_eq (uses_in c p) m) ≡ false
      by true true e f = absurd (never (eqb-true (users c p) 2 e) (eqb-true (uses_in c p) m f))
      by true false e f = rw (e, f) refl
      by false b e f = rw e refl

  in_none : (m : ℕ) (ps : List kernel.Branches) → ((p : kernel.Branches) → Has ps p → users c p ≡ 2 → uses_in c p ≡ m → ⊥) →
      some_has_sides c m ps ≡ false
  in_none m [] never = refl
  in_none m (p ∷ ps) never =
      or_from (has_sides c m p) (some_has_sides c m ps) (neither m p (never p (0, refl)))
      (in_none m ps (λ q h. never q (suc h.0, h.1)))

  in_one : (m : ℕ) (ps : List kernel.Branches) (i : ℕ) (p : kernel.Branches) → slice_get ps i ≡ Some p → has_sides c m p ≡ true →
      some_has_sides c m ps ≡ true
  in_one m [] i p e h = has_none p (i, e)
  in_one m (q ∷ ps) zero p e h = or_left (has_sides c m q) (some_has_sides c m ps) (ap (has_sides c m) (some_same q p e) ∙ h)
  in_one m (q ∷ ps) (suc i) p e h = or_right (has_sides c m q) (some_has_sides c m ps) (in_one m ps i p e h)

  -- a channel without a use has its sides nowhere, nor has one in code with fewer uses
  unused : (ps : List kernel.Branches) → some_has_sides c 0 ps ≡ false
  unused ps = in_none 0 ps (λ p h two z. let l = user.users_below c p in absurd (omega arith))

  few : (n m : ℕ) (ps : List kernel.Branches) → ((p : kernel.Branches) → Has ps p → uses_in c p ≤ n) → n < m → some_has_sides c m ps ≡ false
  few n m ps most l = in_none m ps (λ p h two e. let k = most p h in absurd (omega arith))

  -- the innermost `par` with all uses is the only one that may have the sides
  only_one : (n : ℕ) (ps : List kernel.Branches) (p q : kernel.Branches) → Holder c n ps p → Has ps q →
      users c q ≡ 2 → uses_in c q ≡ n → q ≡ p
  only_one n ps p q holder h two e = holder.only q h e (λ r g f. let l = less_inside q two r g in absurd (omega arith))

  held : (n : ℕ) (ps : List kernel.Branches) (how : Held) → HeldBy c n ps how → ends_held how ≡ if_so (some_has_sides c n ps) 2
  held n ps Apart (inl none) = rw (in_none n ps (λ p h two e. none p h e)) refl
  held n ps Apart (inr h) =
      rw (in_none n ps (λ q g two e.
      let s = ap (users c) (only_one n ps h.0 q h.1 g two e) in let one = h.2 in absurd (omega arith))) refl
  held n ps (Two inside) h = rw (in_one n ps h.1.among.0 h.0 h.1.among.1 (rw (h.2, h.1.holds, eq-eqb n n refl) refl)) refl
  held n ps (Many third) h =
      rw (in_none n ps (λ q g two e.
      let s = ap (users c) (only_one n ps h.0 q h.1 g two e) in let l = user_bound c h.0 2 h.2 h.3 in absurd (omega arith))) refl

-- For a channel a root needs by the tables what it needs by the definition.
module _ (k : kernel.Kernel) (c : ℕ) (r : kernel.Root) (there : In r k.roots) where
  inside : List kernel.Branches
  inside = pars.of_statements r.body

  fits : Fits c (own c r) (pars.of_statements r.body) (of_statements r.body c)
  fits = whole.of_statements c r.body

  -- where all uses are more than its own
  none_here : own c r < all c k.roots → if_so (some_has_sides c (all c k.roots) (pars.of_statements r.body)) 2 ≡ 0
  none_here l = rw (few c (own c r) (all c k.roots) (pars.of_statements r.body) fits.most l) refl

  used_once : 0 < own c r → uses_it c r ≡ 1
  used_once l = by (used_by c r)
    where
      by : ((own c r ≡ 0) × (uses_it c r ≡ 0)) ⊎ ((0 < own c r) × (uses_it c r ≡ 1)) → uses_it c r ≡ 1
      by (inl h) = let z = h.0 in absurd (omega arith)
      by (inr h) = h.1

  less_of_many : 2 < all_users c k.roots → own c r < all c k.roots
  less_of_many many = by (used_by c r)
    where
      by : ((own c r ≡ 0) × (uses_it c r ≡ 0)) ⊎ ((0 < own c r) × (uses_it c r ≡ 1)) → own c r < all c k.roots
      by (inl h) = let a = others c r k.roots there in let e = h.1 in omega arith
      by (inr h) = let a = others c r k.roots there in let e = h.1 in omega arith

  -- where these are not the uses of two roots
  not_two : (n : ℕ) → all_users c k.roots ≡ n → nat_eq n 2 ≡ false →
      ends.ends_of k r c ≡ if_so (some_has_sides c (all c k.roots) (pars.of_statements r.body)) 2
  not_two n e f = rw (e, f) refl

  pub same_ends : ends_by (with_branches no_shares (branches_of k.roots) c) (of_statements r.body c) ≡ ends.ends_of k r c
  same_ends =
      by (with_branches no_shares (branches_of k.roots) c) (of_statements r.body c) (whole.of_shares c (branches_of k.roots)).is fits.is
    where
      by : (s : Option Share) (u : Option Use) → SharedBy c (branches_of k.roots) s → UsedBy c (own c r) (pars.of_statements r.body) u →
          ends_by s u ≡ ends.ends_of k r c
      by None u z h =
          let l = users_below c k.roots in
          let none : all_users c k.roots ≡ 0 = omega arith in
          sym (not_two 0 none refl ∙ rw (z, unused c (pars.of_statements r.body)) refl)
      by (Some (share.One first)) None one z =
          let e = one.0 in
          let l = users_below c k.roots in
          sym (not_two 1 one.0 refl ∙ none_here (omega arith))
      by (Some (share.One first)) (Some u) one h =
          let e = one.0 in
          let o = used_once h.0 in
          let a = alone c r k.roots there (omega arith) in
          let b = within c r k.roots there in
          let same : all c k.roots ≡ own c r = omega arith in
          sym (not_two 1 one.0 refl ∙ rw same (sym (held c (own c r) (pars.of_statements r.body) u.held h.2)))
      by (Some (share.Two second within)) None two z = rw two.0 (sym (its_use c r 0 z))
      by (Some (share.Two second within)) (Some u) two h = rw two.0 (sym (used_once h.0))
      by (Some (share.Many third seconds)) u many h =
          let l = user_bound c (branches_of k.roots) 2 many.1.0 many.1.1 in
          sym (not_two (all_users c k.roots) refl (ne_eqb (all_users c k.roots) 2 (λ g. absurd (omega arith))) ∙ none_here (less_of_many l))

-- for all channels
same_below : (k : kernel.Kernel) (r : kernel.Root) → In r k.roots → (n : ℕ) →
    ends_below (with_branches no_shares (branches_of k.roots)) (of_statements r.body) n ≡ ends.ends_below k r n
same_below k r there zero = refl
same_below k r there (suc n) = λ j. same_below k r there n j + same_ends k n r there j

sums : (k : kernel.Kernel) (core : ℕ) (rs : List kernel.Root) → ((r : kernel.Root) → In r rs → In r k.roots) →
    sum_by (ends_at (with_branches no_shares (branches_of k.roots)) (length k.channels) core) (map seen_of rs)
    ≡ sum_by (ends_on_of_root k core) rs
sums k core [] h = refl
sums k core (r ∷ rs) h =
    sum_by-cons (ends_at (with_branches no_shares (branches_of k.roots)) (length k.channels) core) (seen_of r) (map seen_of rs)
    ∙ (λ j. on_core core r.core (same_below k r (h r (inl refl)) (length k.channels) j) + sums k core rs (λ x i. h x (inr i)) j)
    ∙ sym (sum_by-cons (ends_on_of_root k core) r rs)

-- the ends that a core needs, as a number that was computed by tables
pub needs_by : (k : kernel.Kernel) (core : ℕ) (shares : Shares) (seen : List RootUse) (count n : ℕ) →
    n ≡ capped (sum_by (ends_at shares count core) seen) → shares ≡ with_branches no_shares (branches_of k.roots) →
    seen ≡ map seen_of k.roots → count ≡ length k.channels → n ≡ capped (ends_on k core)
needs_by k core shares seen count n e p q l =
    e ∙ (λ j. capped (sum_by (ends_at (p j) (l j) core) (q j))) ∙ ap capped (sums k core k.roots (λ r i. i))
