-- A channel's use in code, as the walk takes it, is that by the `par`s that hold its uses.
use Rattle.std.proofs.Common.{◌≡◌, ◌⊎◌, inl, inr, ⊎_elim, ℕ, zero, suc, ◌+◌, ◌<◌, ◌≤◌, true, false, List, [], ◌∷◌, ◌++◌, Option, Some, None, option_map, slice_get, refl, sym, ap, subst, ◌∙◌, arith}
use Rattle.xw_words.specs.declared.pos.Pos.{Pos}
use Rattle.xw_words.specs.declared.pos.Broken.{Broken}
use Rattle.xc_tree.specs.Least.{IsLeastOf, first_of}
use Rattle.xc_tree.proofs.Leasts.{either, of_same, none_broken, one_broken}
use Rattle.xc_kernel.specs.Plain as kernel
use Rattle.xc_kernel.specs.Things.{channel, by_branch}
use Rattle.xc_kernel.specs.Uses as uses
use Rattle.xc_kernel.specs.Uses.{once, count_of}
use Rattle.xc_kernel.specs.Pars as pars
use Rattle.xc_kernel.specs.Branches.{pos_of, uses_in, users}
use Rattle.xc_disjoint.specs.declared.uses.Use.{Use}
use Rattle.xc_disjoint.specs.declared.uses.Held.{Held}
use Rattle.xc_disjoint.specs.declared.uses.Held.TheVariants.{Apart, Two, Many}
use Rattle.xc_disjoint.specs.declared.uses.Share.{Share}
use Rattle.xc_disjoint.specs.declared.uses.Share.TheVariants as share
use Rattle.xc_disjoint.specs.SideRules.{IsUser}
use Rattle.xc_disjoint.specs.Uses.{at, with_use, use_of, some_after, some_with}
use Rattle.xc_disjoint.proofs.Users.{Has, has_first, has_second, has_split, has_none, snoc, pars_snoc, count_snoc, users_snoc, used_by, users_below, user_bound, user_same, user_first, user_last, user_at}

module _ (c : ℕ) where
  -- the second branch of one of these `par`s that uses the channel
  pub record Seconds (ps : List kernel.Branches) (x : Broken) : Type 0 where
    pub bs : kernel.Branches
    pub among : Has ps bs
    pub later : kernel.Branch
    pub user : IsUser c bs 1 later
    pub is : x ≡ at 605 (pos_of later)

  abbrev pub OwnSecond : kernel.Branches → Broken → Type 0
  OwnSecond bs x = (b : kernel.Branch) × IsUser c bs 1 b × (x ≡ at 605 (pos_of b))

  -- the innermost of these `par`s that holds so many uses
  pub record Holder (n : ℕ) (ps : List kernel.Branches) (p : kernel.Branches) : Type 0 where
    pub among : Has ps p
    pub holds : uses_in c p ≡ n
    pub innermost : (q : kernel.Branches) → Has (pars.of_branches p) q → uses_in c q ≡ n → ⊥
    pub only : (q : kernel.Branches) → Has ps q → uses_in c q ≡ n → ((r : kernel.Branches) → Has (pars.of_branches q) r → uses_in c r ≡ n → ⊥) → q ≡ p

  abbrev pub HeldBy : ℕ → List kernel.Branches → Held → Type 0
  HeldBy n ps Apart = ((p : kernel.Branches) → Has ps p → uses_in c p ≡ n → ⊥) ⊎ ((p : kernel.Branches) × Holder n ps p × (users c p ≡ 1))
  HeldBy n ps (Two inside) = (p : kernel.Branches) × Holder n ps p × (users c p ≡ 2) × IsLeastOf (Seconds (pars.of_branches p)) inside
  HeldBy n ps (Many third) = (p : kernel.Branches) × Holder n ps p × (b : kernel.Branch) × IsUser c p 2 b × (third ≡ at 603 (pos_of b))

  abbrev pub UsedBy : ℕ → List kernel.Branches → Option Use → Type 0
  UsedBy n ps None = n ≡ 0
  UsedBy n ps (Some u) = (0 < n) × IsLeastOf (Seconds ps) u.second × HeldBy n ps u.held

  -- the use in code with so many uses and these `par`s
  pub record Fits (n : ℕ) (ps : List kernel.Branches) (u : Option Use) : Type 0 where
    pub most : (p : kernel.Branches) → Has ps p → uses_in c p ≤ n
    pub is : UsedBy n ps u

  -- more `par`s, which don't use the channel
  pub record Widens (ps rs : List kernel.Branches) : Type 0 where
    pub up : (p : kernel.Branches) → Has ps p → Has rs p
    pub down : (q : kernel.Branches) → Has rs q → 0 < uses_in c q → Has ps q

  abbrev Idle : List kernel.Branches → Type 0
  Idle ps = (p : kernel.Branches) → Has ps p → uses_in c p ≤ 0

  behind_idle : (ps qs : List kernel.Branches) → Idle ps → Widens qs (ps ++ qs)
  behind_idle ps qs z = record {
    up = λ p h. has_second ps qs p h;
    down = λ q h l. ⊎_elim (λ g. let k = z q g in absurd (omega arith)) (λ g. g) (has_split ps qs q h);
  }

  before_idle : (ps qs : List kernel.Branches) → Idle qs → Widens ps (ps ++ qs)
  before_idle ps qs z = record {
    up = λ p h. has_first ps qs p h;
    down = λ q h l. ⊎_elim (λ g. g) (λ g. let k = z q g in absurd (omega arith)) (has_split ps qs q h);
  }

  user_uses : (bs : kernel.Branches) (k : ℕ) (b : kernel.Branch) → IsUser c bs k b → 0 < uses_in c bs
  user_uses bs k b h = let l = user_bound c bs k b h in let m = users_below c bs in omega arith

  module _ (ps rs : List kernel.Branches) (w : Widens ps rs) where
    wide_seconds : (x : Option Broken) → IsLeastOf (Seconds ps) x → IsLeastOf (Seconds rs) x
    wide_seconds x h = of_same (Seconds ps) (Seconds rs) x to from h
      where
        to : (b : Broken) → Seconds ps b → Seconds rs b
        to b s = record { bs = s.bs; among = w.up s.bs s.among; later = s.later; user = s.user; is = s.is }

        from : (b : Broken) → Seconds rs b → Seconds ps b
        from b s = record { bs = s.bs; among = w.down s.bs s.among (user_uses s.bs 1 s.later s.user); later = s.later; user = s.user; is = s.is }

    wide_holder : (n : ℕ) → 0 < n → (p : kernel.Branches) → Holder n ps p → Holder n rs p
    wide_holder n l p h = record {
      among = w.up p h.among;
      holds = h.holds;
      innermost = h.innermost;
      only = λ q g e k. h.only q (w.down q g (let z = e in omega arith)) e k;
    }

    wide_held : (n : ℕ) → 0 < n → (held : Held) → HeldBy n ps held → HeldBy n rs held
    wide_held n l Apart (inl h) = inl (λ p g e. h p (w.down p g (let z = e in omega arith)) e)
    wide_held n l Apart (inr h) = inr (h.0, wide_holder n l h.0 h.1, h.2)
    wide_held n l (Two inside) h = (h.0, wide_holder n l h.0 h.1, h.2, h.3)
    wide_held n l (Many third) h = (h.0, wide_holder n l h.0 h.1, h.2, h.3, h.4)

    wide_used : (n : ℕ) (u : Option Use) → UsedBy n ps u → UsedBy n rs u
    wide_used n None h = h
    wide_used n (Some u) h = (h.0, wide_seconds u.second h.1, wide_held n h.0 u.held h.2)

  -- two pieces of code, one behind the other

  seconds_both : (ps qs : List kernel.Branches) (x y : Option Broken) → IsLeastOf (Seconds ps) x → IsLeastOf (Seconds qs) y → IsLeastOf (Seconds (ps ++ qs)) (first_of x y)
  seconds_both ps qs x y h g = of_same (λ b. Seconds ps b ⊎ Seconds qs b) (Seconds (ps ++ qs)) (first_of x y) to from (either (Seconds ps) (Seconds qs) x y h g)
    where
      to : (b : Broken) → Seconds ps b ⊎ Seconds qs b → Seconds (ps ++ qs) b
      to b (inl s) = record { bs = s.bs; among = has_first ps qs s.bs s.among; later = s.later; user = s.user; is = s.is }
      to b (inr s) = record { bs = s.bs; among = has_second ps qs s.bs s.among; later = s.later; user = s.user; is = s.is }

      from : (b : Broken) → Seconds (ps ++ qs) b → Seconds ps b ⊎ Seconds qs b
      from b s =
          ⊎_elim
          (λ g. inl (record { bs = s.bs; among = g; later = s.later; user = s.user; is = s.is }))
          (λ g. inr (record { bs = s.bs; among = g; later = s.later; user = s.user; is = s.is }))
          (has_split ps qs s.bs s.among)

  most_both : (n m : ℕ) (ps qs : List kernel.Branches) → ((p : kernel.Branches) → Has ps p → uses_in c p ≤ n) → ((p : kernel.Branches) → Has qs p → uses_in c p ≤ m) → (p : kernel.Branches) → Has (ps ++ qs) p → uses_in c p ≤ n + m
  most_both n m ps qs h g p k = ⊎_elim (λ x. let l = h p x in omega arith) (λ x. let l = g p x in omega arith) (has_split ps qs p k)

  pub both : (n m : ℕ) (ps qs : List kernel.Branches) (s t : Option Use) → Fits n ps s → Fits m qs t → Fits (n + m) (ps ++ qs) (some_after s t)
  both n m ps qs s t f g = record { most = most_both n m ps qs f.most g.most; is = by s t f.is g.is }
    where
      by : (s t : Option Use) → UsedBy n ps s → UsedBy m qs t → UsedBy (n + m) (ps ++ qs) (some_after s t)
      by None t z h =
          let e : n + m ≡ m = omega arith in
          subst (λ k. UsedBy k (ps ++ qs) t) (sym e) (wide_used qs (ps ++ qs) (behind_idle ps qs (λ p x. let l = f.most p x in omega arith)) m t h)
      by (Some a) None h z =
          let e : n + m ≡ n = omega arith in
          subst (λ k. UsedBy k (ps ++ qs) (Some a)) (sym e) (wide_used ps (ps ++ qs) (before_idle ps qs (λ p x. let l = g.most p x in omega arith)) n (Some a) h)
      by (Some a) (Some b) h k =
          let l = h.0 in
          let m = k.0 in
          (omega arith, seconds_both ps qs a.second b.second h.1 k.1, inl (λ p x e. ⊎_elim (λ y. let q = f.most p y in absurd (omega arith)) (λ y. let q = g.most p y in absurd (omega arith)) (has_split ps qs p x)))

  pub nothing : Fits 0 [] None
  nothing = record { most = λ p h. has_none p h; is = refl }

  no_seconds : IsLeastOf (Seconds []) None
  no_seconds = none_broken (Seconds []) (λ b s. has_none s.bs s.among)

  pub one_use_fits : Fits 1 [] (Some (record { held = Apart; second = None }))
  one_use_fits = record { most = λ p h. has_none p h; is = (omega arith, no_seconds, inl (λ p h e. has_none p h)) }

  -- the first branches of a `par`

  abbrev Less : kernel.Branches → Type 0
  Less front = (p : kernel.Branches) → Has (pars.of_branches front) p → uses_in c p < uses_in c front

  abbrev pub SharedBy : kernel.Branches → Option Share → Type 0
  SharedBy front None = uses_in c front ≡ 0
  SharedBy front (Some (share.One u)) = (users c front ≡ 1) × UsedBy (uses_in c front) (pars.of_branches front) (Some u)
  SharedBy front (Some (share.Two second inside)) = (users c front ≡ 2) × Less front × OwnSecond front second × IsLeastOf (Seconds (pars.of_branches front)) inside
  SharedBy front (Some (share.Many third seconds)) =
      Less front × ((b : kernel.Branch) × IsUser c front 2 b × (third ≡ at 603 (pos_of b))) × IsLeastOf (λ x. Seconds (pars.of_branches front) x ⊎ OwnSecond front x) seconds

  pub record Shared (front : kernel.Branches) (s : Option Share) : Type 0 where
    pub most : (p : kernel.Branches) → Has (pars.of_branches front) p → uses_in c p ≤ uses_in c front
    pub is : SharedBy front s

  pub no_branch_yet : Shared kernel.no_branch None
  no_branch_yet = record { most = λ p h. has_none p h; is = refl }

  -- all second users of a `par` of which this is one
  own_second : (bs : kernel.Branches) (second : Broken) → OwnSecond bs second → IsLeastOf (OwnSecond bs) (Some second)
  own_second bs second h =
      one_broken (OwnSecond bs) second h (λ x g. g.2 ∙ ap (λ b. at 605 (pos_of b)) (user_same c bs 1 g.0 h.0 g.1 h.1) ∙ sym h.2)

  -- a `par` before those in it

  is_same : {A : Type 0} (a b : A) → Some a ≡ Some b → a ≡ b
  is_same a b e = cc

  module _ (bs : kernel.Branches) where
    abbrev inner : List kernel.Branches
    inner = pars.of_branches bs

    abbrev whole : List kernel.Branches
    whole = bs ∷ pars.of_branches bs

    abbrev n : ℕ
    n = uses_in c bs

    in_whole : (p : kernel.Branches) → Has whole p → (bs ≡ p) ⊎ Has inner p
    in_whole p h = by h.0 h.1
      where
        by : (i : ℕ) → slice_get whole i ≡ Some p → (bs ≡ p) ⊎ Has inner p
        by zero e = inl (is_same bs p e)
        by (suc i) e = inr (i, e)

    below : (p : kernel.Branches) → Has inner p → Has whole p
    below p h = (suc h.0, h.1)

    -- where no `par` in it holds all uses
    holds_itself : ((p : kernel.Branches) → Has inner p → uses_in c p ≡ n → ⊥) → Holder n whole bs
    holds_itself none = record {
      among = (0, refl);
      holds = refl;
      innermost = none;
      only = λ q h e k. ⊎_elim (λ s. sym s) (λ g. absurd (none q g e)) (in_whole q h);
    }

    -- where one in it does
    held_inside : (p : kernel.Branches) → Holder n inner p → Holder n whole p
    held_inside p h = record {
      among = below p h.among;
      holds = h.holds;
      innermost = h.innermost;
      only = λ q g e k. ⊎_elim (λ s. absurd (subst (λ x. (r : kernel.Branches) → Has (pars.of_branches x) r → uses_in c r ≡ n → ⊥) (sym s) k p h.among h.holds)) (λ x. h.only q x e k) (in_whole q g);
    }

    lone_held : (held : Held) → users c bs ≡ 1 → HeldBy n inner held → HeldBy n whole held
    lone_held Apart one (inl none) = inr (bs, holds_itself none, one)
    lone_held Apart one (inr h) = inr (h.0, held_inside h.0 h.1, h.2)
    lone_held (Two inside) one h = (h.0, held_inside h.0 h.1, h.2, h.3)
    lone_held (Many third) one h = (h.0, held_inside h.0 h.1, h.2, h.3, h.4)

    second_of_whole : (x : Broken) → Seconds inner x ⊎ OwnSecond bs x → Seconds whole x
    second_of_whole x (inl s) = record { bs = s.bs; among = below s.bs s.among; later = s.later; user = s.user; is = s.is }
    second_of_whole x (inr h) = record { bs = bs; among = (0, refl); later = h.0; user = h.1; is = h.2 }

    second_in_whole : (x : Broken) → Seconds whole x → Seconds inner x ⊎ OwnSecond bs x
    second_in_whole x s =
        ⊎_elim
        (λ e. inr (s.later, subst (λ p. IsUser c p 1 s.later) (sym e) s.user, s.is))
        (λ g. inl (record { bs = s.bs; among = g; later = s.later; user = s.user; is = s.is }))
        (in_whole s.bs s.among)

    no_own : users c bs ≡ 1 → (x : Broken) → OwnSecond bs x → ⊥
    no_own one x h = let l = user_bound c bs 1 h.0 h.1 in absurd (omega arith)

    used_par : (s : Share) → SharedBy bs (Some s) → UsedBy n whole (Some (use_of s))
    used_par (share.One u) k = (
      k.1.0,
      of_same (Seconds inner) (Seconds whole) u.second (λ x s. second_of_whole x (inl s)) (λ x s. ⊎_elim (λ g. g) (λ g. absurd (no_own k.0 x g)) (second_in_whole x s)) k.1.1,
      lone_held u.held k.0 k.1.2,
    )
    used_par (share.Two second inside) k =
        let l = users_below c bs in
        let two = k.0 in (
          omega arith,
          of_same (λ x. Seconds inner x ⊎ OwnSecond bs x) (Seconds whole) (first_of inside (Some second)) second_of_whole second_in_whole (either (Seconds inner) (OwnSecond bs) inside (Some second) k.3 (own_second bs second k.2)),
          (bs, holds_itself (λ p h e. let m = k.1 p h in absurd (omega arith)), k.0, k.3),
        )
    used_par (share.Many third seconds) k = (
      user_uses bs 2 k.1.0 k.1.1,
      of_same (λ x. Seconds inner x ⊎ OwnSecond bs x) (Seconds whole) seconds second_of_whole second_in_whole k.2,
      (bs, holds_itself (λ p h e. let m = k.0 p h in absurd (omega arith)), k.1.0, k.1.1, k.1.2),
    )

    -- the use in the whole `par`
    pub of_par : (s : Option Share) → Shared bs s → Fits n whole (option_map use_of s)
    of_par s h = record { most = λ p g. ⊎_elim (λ e. subst (λ x. uses_in c x ≤ n) e (omega arith)) (λ x. h.most p x) (in_whole p g); is = by s h.is }
      where
        by : (s : Option Share) → SharedBy bs s → UsedBy n whole (option_map use_of s)
        by None k = k
        by (Some s) k = used_par s k

  -- one more branch

  module _ (front : kernel.Branches) (ss : kernel.Statements) (pos : Pos) where
    abbrev last : kernel.Branch
    last = kernel.branch ss pos

    abbrev all : kernel.Branches
    all = snoc front last

    abbrev m : ℕ
    m = count_of c (uses.of_statements ss)

    abbrev front_pars : List kernel.Branches
    front_pars = pars.of_branches front

    abbrev last_pars : List kernel.Branches
    last_pars = pars.of_statements ss

    count_all : uses_in c all ≡ uses_in c front + m
    count_all = count_snoc c front last

    split : (p : kernel.Branches) → Has (pars.of_branches all) p → Has front_pars p ⊎ Has last_pars p
    split p h = has_split front_pars last_pars p (subst (λ xs. Has xs p) (pars_snoc front last) h)

    joined : (P : List kernel.Branches → Type 0) → P (front_pars ++ last_pars) → P (pars.of_branches all)
    joined P h = subst P (sym (pars_snoc front last)) h

    second_to : (x : Broken) → (Seconds front_pars x ⊎ OwnSecond front x) ⊎ Seconds last_pars x → Seconds (pars.of_branches all) x ⊎ OwnSecond all x
    second_to x (inl (inl s)) = inl (joined (λ ps. Seconds ps x) (record { bs = s.bs; among = has_first front_pars last_pars s.bs s.among; later = s.later; user = s.user; is = s.is }))
    second_to x (inl (inr h)) = inr (h.0, user_first c front last 1 h.0 h.1, h.2)
    second_to x (inr s) = inl (joined (λ ps. Seconds ps x) (record { bs = s.bs; among = has_second front_pars last_pars s.bs s.among; later = s.later; user = s.user; is = s.is }))

    -- where a second branch is known
    second_from : (b : kernel.Branch) → IsUser c front 1 b → (x : Broken) → Seconds (pars.of_branches all) x ⊎ OwnSecond all x → (Seconds front_pars x ⊎ OwnSecond front x) ⊎ Seconds last_pars x
    second_from b u x (inl s) =
        ⊎_elim
        (λ g. inl (inl (record { bs = s.bs; among = g; later = s.later; user = s.user; is = s.is })))
        (λ g. inr (record { bs = s.bs; among = g; later = s.later; user = s.user; is = s.is }))
        (split s.bs s.among)
    second_from b u x (inr h) =
        let e = user_same c all 1 h.0 b h.1 (user_first c front last 1 b u) in
        inl (inr (b, u, h.2 ∙ ap (λ y. at 605 (pos_of y)) e))

    unused : m ≡ 0 → by_branch (channel c) last ≡ false
    unused z = ⊎_elim (λ h. h.0) (λ h. let l = h.1 in absurd (omega arith)) (used_by c last)

    used : 0 < m → by_branch (channel c) last ≡ true
    used l = ⊎_elim (λ h. let z = h.1 in absurd (omega arith)) (λ h. h.0) (used_by c last)

    users_unused : m ≡ 0 → users c all ≡ users c front
    users_unused z = let e = users_snoc c front last in let o = ap once (unused z) in omega arith

    users_used : 0 < m → users c all ≡ users c front + 1
    users_used l = let e = users_snoc c front last in let o = ap once (used l) in omega arith

    module _ (f : (p : kernel.Branches) → Has front_pars p → uses_in c p ≤ uses_in c front) (g : (p : kernel.Branches) → Has last_pars p → uses_in c p ≤ m) where
      less_all : 0 < m → 0 < uses_in c front → Less all
      less_all l k p h = let e = count_all in ⊎_elim (λ x. let q = f p x in omega arith) (λ x. let q = g p x in omega arith) (split p h)

      less_more : m ≡ 0 → 0 < uses_in c front → Less front → Less all
      less_more z k h p i = let e = count_all in ⊎_elim (λ x. let q = h p x in omega arith) (λ x. let q = g p x in omega arith) (split p i)

      wide_front : m ≡ 0 → Widens front_pars (pars.of_branches all)
      wide_front z = joined (Widens front_pars) (before_idle front_pars last_pars (λ p x. let l = g p x in omega arith))

      not_used : m ≡ 0 → (s : Option Share) → SharedBy front s → SharedBy all s
      not_used z None k = let e = count_all in omega arith
      not_used z (Some (share.One u)) k =
          let e : uses_in c all ≡ uses_in c front = (let a = count_all in omega arith) in
          let w = wide_used front_pars (pars.of_branches all) (wide_front z) (uses_in c front) (Some u) k.1 in
          let v = subst (λ i. UsedBy i (pars.of_branches all) (Some u)) (sym e) w in
          (users_unused z ∙ k.0, v)
      not_used z (Some (share.Two second inside)) k =
          let l = users_below c front in
          let two = k.0 in
          (users_unused z ∙ k.0, less_more z (omega arith) k.1, (k.2.0, user_first c front last 1 k.2.0 k.2.1, k.2.2), wide_seconds front_pars (pars.of_branches all) (wide_front z) inside k.3)
      not_used z (Some (share.Many third seconds)) k =
          let l = user_bound c front 2 k.1.0 k.1.1 in
          let second = user_at c front 1 (omega arith) in (
            less_more z (user_uses front 2 k.1.0 k.1.1) k.0,
            (k.1.0, user_first c front last 2 k.1.0 k.1.1, k.1.2),
            of_same (λ x. Seconds front_pars x ⊎ OwnSecond front x) (λ x. Seconds (pars.of_branches all) x ⊎ OwnSecond all x) seconds (λ x h. second_to x (inl h))
                (λ x h. ⊎_elim (λ y. y) (λ s. let a = g s.bs s.among in let b = user_uses s.bs 1 s.later s.user in absurd (omega arith)) (second_from second.0 second.1 x h)) k.2,
          )

      is_used : (u : Use) → UsedBy m last_pars (Some u) → (s : Option Share) → SharedBy front s → SharedBy all (Some (with_use pos s u))
      is_used u h None k =
          let l = users_below c front in
          let e : uses_in c all ≡ m = (let a = count_all in omega arith) in
          let w = wide_used last_pars (pars.of_branches all) (joined (Widens last_pars) (behind_idle front_pars last_pars (λ p x. let q = f p x in omega arith))) m (Some u) h in
          let v = subst (λ i. UsedBy i (pars.of_branches all) (Some u)) (sym e) w in
          let a = users_used h.0 in
          (omega arith, v)
      is_used u h (Some (share.One w)) k =
          let a = users_used h.0 in
          let one = k.0 in
          (omega arith, less_all h.0 k.1.0, (last, user_last c front last (used h.0) 1 k.0, refl), joined (λ ps. IsLeastOf (Seconds ps) (first_of w.second u.second)) (seconds_both front_pars last_pars w.second u.second k.1.1 h.1))
      is_used u h (Some (share.Two second inside)) k =
          let l = users_below c front in
          let two = k.0 in (
            less_all h.0 (omega arith),
            (last, user_last c front last (used h.0) 2 k.0, refl),
            of_same (λ x. (Seconds front_pars x ⊎ OwnSecond front x) ⊎ Seconds last_pars x) (λ x. Seconds (pars.of_branches all) x ⊎ OwnSecond all x) (first_of (first_of inside (Some second)) u.second) second_to (second_from k.2.0 k.2.1)
                (either (λ x. Seconds front_pars x ⊎ OwnSecond front x) (Seconds last_pars) (first_of inside (Some second)) u.second
                (either (Seconds front_pars) (OwnSecond front) inside (Some second) k.3 (own_second front second k.2)) h.1),
          )
      is_used u h (Some (share.Many third seconds)) k =
          let l = user_bound c front 2 k.1.0 k.1.1 in
          let second = user_at c front 1 (omega arith) in (
            less_all h.0 (user_uses front 2 k.1.0 k.1.1),
            (k.1.0, user_first c front last 2 k.1.0 k.1.1, k.1.2),
            of_same (λ x. (Seconds front_pars x ⊎ OwnSecond front x) ⊎ Seconds last_pars x) (λ x. Seconds (pars.of_branches all) x ⊎ OwnSecond all x) (first_of seconds u.second) second_to (second_from second.0 second.1)
                (either (λ x. Seconds front_pars x ⊎ OwnSecond front x) (Seconds last_pars) seconds u.second k.2 h.1),
          )

    pub one_more : (s : Option Share) (u : Option Use) → Shared front s → Fits m last_pars u → Shared all (some_with pos s u)
    one_more s u h k = record { most = λ p x. let e = count_all in ⊎_elim (λ y. let q = h.most p y in omega arith) (λ y. let q = k.most p y in omega arith) (split p x); is = by u k.is }
      where
        by : (u : Option Use) → UsedBy m last_pars u → SharedBy all (some_with pos s u)
        by None z = not_used h.most k.most z s h.is
        by (Some v) g = is_used h.most k.most v g s h.is
