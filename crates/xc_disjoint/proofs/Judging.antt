-- The rule that a channel breaks, by its use in the whole kernel.
use Rattle.std.proofs.Common.{◌≡◌, ◌⊎◌, inl, inr, ℕ, zero, suc, ◌+◌, ◌<◌, Bool, true, false, cond, List, [], ◌∷◌, drop, Option, Some, None, slice_get, nat_eq, refl, sym, ap, subst, ◌∙◌, arith, eq-eqb, eqb-true}
use Rattle.std.specs.List.{IsDistinct, AllByRecursion}
use Rattle.std.specs.Map.{lookup, keys_of}
use Rattle.xw_words.specs.declared.pos.Broken.{Broken}
use Rattle.xc_tree.specs.Least.{IsLeastOf, first_of}
use Rattle.xc_tree.proofs.Leasts.{of_same, none_broken, one_broken}
use Rattle.xc_kernel.specs.declared.kernel.Chan.{Chan}
use Rattle.xc_kernel.specs.Plain as kernel
use Rattle.xc_kernel.specs.Pars as pars
use Rattle.xc_kernel.specs.Branches.{branches_of, all_pars, pos_of, uses_in, users}
use Rattle.xc_disjoint.proofs.FirstSoFar.{some_same, none_same, Goes, goes_on}
use Rattle.xc_disjoint.specs.declared.uses.Use.{Use}
use Rattle.xc_disjoint.specs.declared.uses.Held.{Held}
use Rattle.xc_disjoint.specs.declared.uses.Held.TheVariants.{Apart, Two, Many}
use Rattle.xc_disjoint.specs.SideRules as rules
use Rattle.xc_disjoint.specs.SideRules.{IsUser, IsInnermost, WithoutSides}
use Rattle.xc_disjoint.specs.Uses as own
use Rattle.xc_disjoint.specs.Uses.{at}
use Rattle.xc_disjoint.specs.UseTables.{found}
use Rattle.xc_disjoint.specs.Judged.{one_sided_at, rule_by, rule_of}
use Rattle.xc_disjoint.proofs.Users.{Has, user_bound, user_same}
use Rattle.xc_disjoint.proofs.Holding.{Seconds, Holder, HeldBy, UsedBy}
use Rattle.xc_disjoint.proofs.WholeUses.{of_whole}
use Rattle.xw_words.proofs.Lists.{drop_found}

module _ (k : kernel.Kernel) where
  abbrev roots : kernel.Branches
  roots = branches_of k.roots

  -- a rule is broken by this channel
  pub data ByChannel (c : ℕ) : Broken → Type 0 where
    third : (bs : kernel.Branches) → IsInnermost k c bs → (b : kernel.Branch) → IsUser c bs 2 b → ByChannel c (at 603 (pos_of b))
    one_sided : (bs : kernel.Branches) → IsInnermost k c bs → users c bs ≡ 1 → (d : Chan) → slice_get k.channels c ≡ Some d → ByChannel c (at 604 d.pos)
    second : (bs : kernel.Branches) → IsInnermost k c bs → users c bs ≡ 2 → (inner : kernel.Branches) → Has (pars.of_branches bs) inner → (b : kernel.Branch) → IsUser c inner 1 b → ByChannel c (at 605 (pos_of b))

  module _ (c : ℕ) (used : 0 < uses_in c roots) where
    abbrev Held_by : kernel.Branches → Type 0
    Held_by p = Holder c (uses_in c roots) (all_pars k) p

    is_innermost : (p : kernel.Branches) → Held_by p → IsInnermost k c p
    is_innermost p h = record {
      place = h.among.0;
      is_par = h.among.1;
      used = let e = h.holds in omega arith;
      holds = h.holds;
      innermost = λ i q e f. h.innermost q (i, e) f;
    }

    the_same : (p : kernel.Branches) → Held_by p → (bs : kernel.Branches) → IsInnermost k c bs → bs ≡ p
    the_same p h bs g = h.only bs (g.place, g.is_par) g.holds (λ r x e. g.innermost x.0 r x.1 e)

    users_of : (p : kernel.Branches) → Held_by p → (bs : kernel.Branches) → IsInnermost k c bs → users c bs ≡ users c p
    users_of p h bs g = ap (users c) (the_same p h bs g)

    -- one branch alone
    lone : (p : kernel.Branches) → Held_by p → users c p ≡ 1 → (declared : Option Chan) → slice_get k.channels c ≡ declared → IsLeastOf (ByChannel c) (one_sided_at declared)
    lone p h one None e = none_broken (ByChannel c) none
      where
        none : (x : Broken) → ByChannel c x → ⊥
        none x (third bs g b u) = let l = user_bound c bs 2 b u in let f = users_of p h bs g in absurd (omega arith)
        none x (one_sided bs g o d f) = none_same d (sym e ∙ f)
        none x (second bs g t inner a b u) = let f = users_of p h bs g in absurd (omega arith)
    lone p h one (Some d) e = one_broken (ByChannel c) (at 604 d.pos) (one_sided p (is_innermost p h) one d e) only
      where
        only : (x : Broken) → ByChannel c x → x ≡ at 604 d.pos
        only x (third bs g b u) = let l = user_bound c bs 2 b u in let f = users_of p h bs g in absurd (omega arith)
        only x (one_sided bs g o d' f) = ap (λ (y : Chan). at 604 y.pos) (some_same d' d (sym f ∙ e))
        only x (second bs g t inner a b u) = let f = users_of p h bs g in absurd (omega arith)

    -- two of them
    two : (p : kernel.Branches) → Held_by p → users c p ≡ 2 → (inside : Option Broken) → IsLeastOf (Seconds c (pars.of_branches p)) inside → IsLeastOf (ByChannel c) inside
    two p h both inside least = of_same (Seconds c (pars.of_branches p)) (ByChannel c) inside to from least
      where
        to : (x : Broken) → Seconds c (pars.of_branches p) x → ByChannel c x
        to x s = subst (ByChannel c) (sym s.is) (second p (is_innermost p h) both s.bs s.among s.later s.user)

        from : (x : Broken) → ByChannel c x → Seconds c (pars.of_branches p) x
        from x (third bs g b u) = let l = user_bound c bs 2 b u in let f = users_of p h bs g in absurd (omega arith)
        from x (one_sided bs g o d f) = let f = users_of p h bs g in absurd (omega arith)
        from x (second bs g t inner a b u) = record { bs = inner; among = subst (λ y. Has (pars.of_branches y) inner) (the_same p h bs g) a; later = b; user = u; is = refl }

    -- more
    many : (p : kernel.Branches) → Held_by p → (b : kernel.Branch) → IsUser c p 2 b → (third_at : Broken) → third_at ≡ at 603 (pos_of b) → IsLeastOf (ByChannel c) (Some third_at)
    many p h b u third_at e = one_broken (ByChannel c) third_at (subst (ByChannel c) (sym e) (third p (is_innermost p h) b u)) only
      where
        only : (x : Broken) → ByChannel c x → x ≡ third_at
        only x (third bs g b' v) = ap (λ y. at 603 (pos_of y)) (user_same c p 2 b' b (subst (λ y. IsUser c y 2 b') (the_same p h bs g) v) u) ∙ sym e
        only x (one_sided bs g o d f) = let l = user_bound c p 2 b u in let f = users_of p h bs g in absurd (omega arith)
        only x (second bs g t inner a b' v) = let l = user_bound c p 2 b u in let f = users_of p h bs g in absurd (omega arith)

    by_held : (held : Held) → HeldBy c (uses_in c roots) (all_pars k) held → IsLeastOf (ByChannel c) (rule_by (slice_get k.channels c) held)
    by_held Apart (inl none) = absurd (none roots (0, refl) refl)
    by_held Apart (inr h) = lone h.0 h.1 h.2 (slice_get k.channels c) refl
    by_held (Two inside) h = two h.0 h.1 h.2 inside h.3
    by_held (Many third_at) h = many h.0 h.1 h.2 h.3 third_at h.4

  -- by the use of the channel in the roots
  pub least_of : (c : ℕ) (u : Use) → own.of_statement (kernel.par roots) c ≡ Some u → IsLeastOf (ByChannel c) (rule_of k.channels c u)
  least_of c u e = by (subst (UsedBy c (uses_in c roots) (all_pars k)) e (of_whole c roots).is)
    where
      by : UsedBy c (uses_in c roots) (all_pars k) (Some u) → IsLeastOf (ByChannel c) (rule_of k.channels c u)
      by h = by_held c h.0 u.held h.2

  pub is_used : (c : ℕ) (x : Broken) → ByChannel c x → (u : Use) × (own.of_statement (kernel.par roots) c ≡ Some u)
  is_used c x h = by (own.of_statement (kernel.par roots) c) refl
    where
      positive : (y : Broken) → ByChannel c y → 0 < uses_in c roots
      positive y (third bs g b u) = let l = g.used in let e = g.holds in omega arith
      positive y (one_sided bs g o d f) = let l = g.used in let e = g.holds in omega arith
      positive y (second bs g t inner a b u) = let l = g.used in let e = g.holds in omega arith

      by : (o : Option Use) → own.of_statement (kernel.par roots) c ≡ o → (u : Use) × (own.of_statement (kernel.par roots) c ≡ Some u)
      by None e =
          let z : uses_in c roots ≡ 0 = subst (UsedBy c (uses_in c roots) (all_pars k)) e (of_whole c roots).is in
          let l = positive x h in
          absurd (omega arith)
      by (Some u) e = (u, e)

  -- by one of the channels of a table
  abbrev pub AnyOf : List (ℕ × Use) → Broken → Type 0
  AnyOf [] x = ⊥
  AnyOf (e ∷ es) x = ByChannel e.0 x ⊎ AnyOf es x

  to_rule : (c : ℕ) (x : Broken) → ByChannel c x → WithoutSides k x
  to_rule c x (third bs g b u) = rules.third b (record { c = c; bs = bs; innermost = g; user = u })
  to_rule c x (one_sided bs g o d e) = rules.one_sided d (record { c = c; bs = bs; innermost = g; alone = o; is_channel = e })
  to_rule c x (second bs g t inner a b u) = rules.second_inside b (record { c = c; bs = bs; innermost = g; both = t; place = a.0; inner = inner; inside = a.1; user = u })

  from_rule : (x : Broken) → WithoutSides k x → (c : ℕ) × ByChannel c x
  from_rule x (rules.third b h) = (h.c, third h.bs h.innermost b h.user)
  from_rule x (rules.one_sided d h) = (h.c, one_sided h.bs h.innermost h.alone d h.is_channel)
  from_rule x (rules.second_inside b h) = (h.c, second h.bs h.innermost h.both h.inner (h.place, h.inside) b h.user)

  any_rule : (es : List (ℕ × Use)) (x : Broken) → AnyOf es x → WithoutSides k x
  any_rule [] x h = absurd h
  any_rule (e ∷ es) x (inl h) = to_rule e.0 x h
  any_rule (e ∷ es) x (inr h) = any_rule es x h

  at_entry : (c : ℕ) (x : Broken) → ByChannel c x → (es : List (ℕ × Use)) (u : Use) → lookup (nat_eq c) es ≡ Some u → AnyOf es x
  at_entry c x h [] u e = none_same u e
  at_entry c x h (e ∷ es) u g = by (λ f. at_entry c x h es u f) (nat_eq c e.0) refl g
    where
      by : (lookup (nat_eq c) es ≡ Some u → AnyOf es x) → (b : Bool) → nat_eq c e.0 ≡ b → cond (nat_eq c e.0) (Some e.1) (lookup (nat_eq c) es) ≡ Some u → AnyOf (e ∷ es) x
      by rec true f g = inl (subst (λ n. ByChannel n x) (eqb-true c e.0 f) h)
      by rec false f g = inr (rec (sym (ap (λ b. cond b (Some e.1) (lookup (nat_eq c) es)) f) ∙ g))

  -- of all channels that a table of the roots' uses holds
  pub of_all : (es : List (ℕ × Use)) → found es ≡ own.of_statement (kernel.par roots) → (best : Option Broken) → IsLeastOf (AnyOf es) best → IsLeastOf (WithoutSides k) best
  unfolding found
  of_all es e best h = of_same (AnyOf es) (WithoutSides k) best (any_rule es) from h
    where
      from : (x : Broken) → WithoutSides k x → AnyOf es x
      from x g = let c = from_rule x g in let u = is_used c.0 x c.1 in at_entry c.0 x c.1 es u.0 (ap (λ f. f c.0) e ∙ u.1)

  key_at : (c : ℕ) (es : List (ℕ × Use)) (i : ℕ) (e : ℕ × Use) → AllByRecursion (λ y. nat_eq c y ≡ false) (keys_of es) → slice_get es i ≡ Some e → nat_eq c e.0 ≡ false
  key_at c [] i e h g = none_same e g
  key_at c (x ∷ es) zero e h g = subst (λ (y : ℕ × Use). nat_eq c y.0 ≡ false) (some_same x e g) h.0
  key_at c (x ∷ es) (suc i) e h g = key_at c es i e h.1 g

  symmetric : (a b : ℕ) → nat_eq a b ≡ nat_eq b a
  symmetric a b = grind arith

  entry_found : (es : List (ℕ × Use)) (i : ℕ) (e : ℕ × Use) → IsDistinct nat_eq (keys_of es) → slice_get es i ≡ Some e → lookup (nat_eq e.0) es ≡ Some e.1
  unfolding IsDistinct
  entry_found [] i e d g = none_same e g
  entry_found (x ∷ es) zero e d g = subst (λ (y : ℕ × Use). lookup (nat_eq y.0) (x ∷ es) ≡ Some y.1) (some_same x e g) (rw (eq-eqb x.0 x.0 refl) refl)
  entry_found (x ∷ es) (suc i) e d g = rw (symmetric e.0 x.0, key_at x.0 es i e d.0 g) (entry_found es i e d.1 g)

  -- one more channel
  pub channel_go : (es : List (ℕ × Use)) → found es ≡ own.of_statement (kernel.par roots) → IsDistinct nat_eq (keys_of es) → (i : ℕ) (e : ℕ × Use) → slice_get es i ≡ Some e → (best r : Option Broken) → r ≡ rule_of k.channels e.0 e.1 →
      Goes (AnyOf es) (AnyOf (drop i es)) best → Goes (AnyOf es) (AnyOf (drop (i + 1) es)) (first_of best r)
  unfolding found
  channel_go es f d i e g best r s h =
      goes_on (AnyOf es) (AnyOf (e ∷ drop (i + 1) es)) (ByChannel e.0) (AnyOf (drop (i + 1) es)) best r (λ b x. x) (λ b x. x)
      (subst (IsLeastOf (ByChannel e.0)) (sym s) (least_of e.0 e.1 (sym (ap (λ h. h e.0) f) ∙ entry_found es i e d g)))
      (subst (λ xs. Goes (AnyOf es) (AnyOf xs) best) (drop_found es i e g) h)
