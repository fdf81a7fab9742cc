-- The first of all the rules that a kernel breaks.
use Rattle.std.proofs.Common.{◌≡◌, ℕ, ◌⊎◌, inl, inr, Bool, true, false, not, List, [], ◌∷◌, slice_get, Contains, nat_eq, Option, Some, None, refl, sym, ap, subst, ◌∙◌, arith}
use Rattle.std.proofs.lemmas.Bool.{eqb-true, eqb-false, ne_eqb, eq-eqb}
use Rattle.std.proofs.lemmas.List.Elements.{Contains-append_right}
use Rattle.xw_words.specs.declared.pos.Pos.{Pos}
use Rattle.xw_words.specs.declared.pos.Broken.{Broken}
use Rattle.xc_tree.specs.Lexes.{IsNotAfter}
use Rattle.xc_tree.specs.Least.{IsLeastOf, first_of}
use Rattle.xc_tree.proofs.Leasts.{either, of_same, none_broken}
use Rattle.xc_kernel.specs.declared.kernel.PortUse.{PortUse}
use Rattle.xc_kernel.specs.declared.statement.KRes.{KRes}
use Rattle.xc_kernel.specs.declared.statement.KRes.TheVariants.{Port, Timer, Chan}
use Rattle.xc_kernel.specs.Plain as kernel
use Rattle.xc_kernel.specs.Branches.{all_pars}
use Rattle.xc_disjoint.specs.Clashes.{Clashes}
use Rattle.xc_disjoint.specs.SideRules.{WithoutSides}
use Rattle.xc_disjoint.specs.Disjoint.{NotApart, clash, without_sides}
use Rattle.xc_disjoint.specs.Cores.{no_core}
use Rattle.xc_disjoint.specs.Leasts.{first_among, IsBrokenBy}
use Rattle.xc_disjoint.specs.Needs.{threads_on, ends_on, timers_on, words_on}
use Rattle.xc_disjoint.specs.Places.{rule_if, rule_of_root, rule_of_port, rule_by_port, rule_of_resource, rule_of_use, first_in_roots}
use Rattle.xc_disjoint.specs.Rules.{IsAbove, most_threads, most_ends, most_timers, most_words, NeedsMore, threads, ends, timers, words, HasNoCore, of_root, of_port, UsesElsewhere, Breaks, apart, needs, without_core, elsewhere}
use Rattle.xc_kernel.specs.Uses as uses
use Rattle.xc_kernel.specs.Uses.{Use}
use Rattle.xc_disjoint.proofs.Firsts.{least_among, first_is, split}

some_same : {A : Type 0} (a b : A) → Some a ≡ Some b → a ≡ b
some_same a b e = cc

none_there : {A : Type 0} (x : A) → None ≡ Some x → ⊥
none_there x e = cc

-- branches don't keep apart by what they use, or by the sides of channels
pub least_apart : (k : kernel.Kernel) (x y : Option Broken) → IsLeastOf (Clashes (all_pars k)) x → IsLeastOf (WithoutSides k) y → IsLeastOf (NotApart k) (first_of x y)
least_apart k x y h g = of_same (λ b. Clashes (all_pars k) b ⊎ WithoutSides k b) (NotApart k) (first_of x y) to from (either (Clashes (all_pars k)) (WithoutSides k) x y h g)
  where
    to : (b : Broken) → Clashes (all_pars k) b ⊎ WithoutSides k b → NotApart k b
    to b (inl h) = clash h
    to b (inr h) = without_sides h

    from : (b : Broken) → NotApart k b → Clashes (all_pars k) b ⊎ WithoutSides k b
    from b (clash h) = inl h
    from b (without_sides h) = inr h

-- a use in some root breaks this rule
pub record IsBrokenInRoots (ports : List PortUse) (rs : List kernel.Root) (b : Broken) : Type 0 where
  pub root : kernel.Root
  pub among : Contains rs root
  pub broken : IsBrokenBy (rule_of_use ports root.core) (uses.of_statements root.body) b

pub least_in_roots : (ports : List PortUse) (P : Broken → Type 0) (best : Option Broken) (rs : List kernel.Root) → IsLeastOf P best → IsLeastOf (λ b. P b ⊎ IsBrokenInRoots ports rs b) (first_in_roots ports best rs)
least_in_roots ports P best [] h = of_same P (λ b. P b ⊎ IsBrokenInRoots ports [] b) best (λ b p. inl p) (λ b k. by b k) h
  where
    by : (b : Broken) → P b ⊎ IsBrokenInRoots ports [] b → P b
    by b (inl p) = p
    by b (inr k) = let l = k.among.1 in absurd (omega arith)
least_in_roots ports P best (r ∷ rs) h =
    of_same (λ b. (P b ⊎ IsBrokenBy (rule_of_use ports r.core) (uses.of_statements r.body) b) ⊎ IsBrokenInRoots ports rs b) (λ b. P b ⊎ IsBrokenInRoots ports (r ∷ rs) b)
    (first_in_roots ports (first_among (rule_of_use ports r.core) best (uses.of_statements r.body)) rs) to from
    (least_in_roots ports (λ b. P b ⊎ IsBrokenBy (rule_of_use ports r.core) (uses.of_statements r.body) b) (first_among (rule_of_use ports r.core) best (uses.of_statements r.body)) rs
    (least_among (rule_of_use ports r.core) P best (uses.of_statements r.body) h))
  where
    to : (b : Broken) → (P b ⊎ IsBrokenBy (rule_of_use ports r.core) (uses.of_statements r.body) b) ⊎ IsBrokenInRoots ports rs b → P b ⊎ IsBrokenInRoots ports (r ∷ rs) b
    to b (inl (inl p)) = inl p
    to b (inl (inr k)) = inr (record { root = r; among = first_is rule_of_root r rs; broken = k })
    to b (inr k) = inr (record { root = k.root; among = Contains-append_right (r ∷ []) rs k.root k.among; broken = k.broken })

    from : (b : Broken) → P b ⊎ IsBrokenInRoots ports (r ∷ rs) b → (P b ⊎ IsBrokenBy (rule_of_use ports r.core) (uses.of_statements r.body) b) ⊎ IsBrokenInRoots ports rs b
    from b (inl p) = inl (inl p)
    from b (inr k) = by (split rule_of_root r rs k.root k.among)
      where
        by : (r ≡ k.root) ⊎ Contains rs k.root → (P b ⊎ IsBrokenBy (rule_of_use ports r.core) (uses.of_statements r.body) b) ⊎ IsBrokenInRoots ports rs b
        by (inl e) = inl (inr (subst (λ (x : kernel.Root). IsBrokenBy (rule_of_use ports x.core) (uses.of_statements x.body) b) (sym e) k.broken))
        by (inr c) = inr (record { root = k.root; among = c; broken = k.broken })

-- at a place a rule is broken where the test holds
broken_if : (t : Bool) (rule : ℕ) (pos : Pos) (b : Broken) → rule_if t rule pos ≡ Some b → (t ≡ true) × (b ≡ record { rule = rule; pos = pos })
broken_if true rule pos b e = (refl, sym (some_same (record { rule = rule; pos = pos }) b e))
broken_if false rule pos b e = absurd (none_there b e)

module _ (k : kernel.Kernel) where
  -- the kinds of broken rules, as they are looked at
  abbrev IsAny : Broken → Type 0
  IsAny b = (((NotApart k b ⊎ NeedsMore k b) ⊎ IsBrokenBy rule_of_root k.roots b) ⊎ IsBrokenBy rule_of_port k.ports b) ⊎ IsBrokenInRoots k.ports k.roots b

  root_place : (b : Broken) → IsBrokenBy rule_of_root k.roots b → Breaks k b
  root_place b h =
      let g = broken_if (nat_eq h.item.core no_core) 705 h.item.place b h.broken in
      subst (Breaks k) (sym g.1) (without_core (of_root h.item h.among (eqb-true h.item.core no_core g.0)))

  port_place : (b : Broken) → IsBrokenBy rule_of_port k.ports b → Breaks k b
  port_place b h =
      let g = broken_if (nat_eq h.item.core no_core) 705 h.item.place b h.broken in
      subst (Breaks k) (sym g.1) (without_core (of_port h.item h.among (eqb-true h.item.core no_core g.0)))

  use_place : (b : Broken) → IsBrokenInRoots k.ports k.roots b → Breaks k b
  unfolding rule_of_use
  use_place b h = by h.broken.item.resource refl h.broken.broken
    where
      not_true : (t : Bool) → not t ≡ true → t ≡ false
      not_true true e = absurd cc
      not_true false e = refl

      at_port : (n : ℕ) → h.broken.item.resource ≡ Port n → (p : Option PortUse) → slice_get k.ports n ≡ p → rule_by_port h.root.core h.broken.item.pos p ≡ Some b → Breaks k b
      at_port n e None f g = absurd (none_there b g)
      at_port n e (Some p) f g =
          let t = broken_if (not (nat_eq p.core h.root.core)) 706 h.broken.item.pos b g in
          subst (Breaks k) (sym t.1) (elsewhere (record {
            root = h.root;
            among = h.among;
            used = h.broken.item;
            elsewhere = record {
              among = h.broken.among;
              number = n;
              resource = e;
              port = p;
              is_port = f;
              other_core = eqb-false p.core h.root.core (not_true (nat_eq p.core h.root.core) t.0);
            };
            place = refl;
          }))

      by : (r : KRes) → h.broken.item.resource ≡ r → rule_of_resource k.ports h.root.core h.broken.item.pos h.broken.item.resource ≡ Some b → Breaks k b
      by (Port n) e g = at_port n e (slice_get k.ports n) refl (ap (rule_of_resource k.ports h.root.core h.broken.item.pos) (sym e) ∙ g)
      by (Timer n) e g = absurd (none_there b (ap (rule_of_resource k.ports h.root.core h.broken.item.pos) (sym e) ∙ g))
      by (Chan n) e g = absurd (none_there b (ap (rule_of_resource k.ports h.root.core h.broken.item.pos) (sym e) ∙ g))

  to_breaks : (b : Broken) → IsAny b → Breaks k b
  to_breaks b (inl (inl (inl (inl h)))) = apart h
  to_breaks b (inl (inl (inl (inr h)))) = needs h
  to_breaks b (inl (inl (inr h))) = root_place b h
  to_breaks b (inl (inr h)) = port_place b h
  to_breaks b (inr h) = use_place b h

  no_core_at : (core : ℕ) (pos : Pos) → core ≡ no_core → rule_if (nat_eq core no_core) 705 pos ≡ Some (record { rule = 705; pos = pos })
  no_core_at core pos e = rw (eq-eqb core no_core e) refl

  place_any : (p : Pos) → HasNoCore k p → IsAny (record { rule = 705; pos = p })
  place_any p (of_root r among e) = inl (inl (inr (record { item = r; among = among; broken = no_core_at r.core r.place e })))
  place_any p (of_port q among e) = inl (inr (record { item = q; among = among; broken = no_core_at q.core q.place e }))

  use_any : (p : Pos) → UsesElsewhere k p → IsAny (record { rule = 706; pos = p })
  unfolding rule_of_use
  use_any p h = inr (record {
    root = h.root;
    among = h.among;
    broken = record { item = h.used; among = h.elsewhere.among; broken = broken };
  })
    where
      broken : rule_of_resource k.ports h.root.core h.used.pos h.used.resource ≡ Some (record { rule = 706; pos = p })
      broken =
          rw (h.elsewhere.resource, h.elsewhere.is_port, ne_eqb h.elsewhere.port.core h.root.core h.elsewhere.other_core, h.place) refl

  from_breaks : (b : Broken) → Breaks k b → IsAny b
  from_breaks b (apart h) = inl (inl (inl (inl h)))
  from_breaks b (needs h) = inl (inl (inl (inr h)))
  from_breaks b (without_core {pos = p} h) = place_any p h
  from_breaks b (elsewhere {pos = p} h) = use_any p h

  -- the first of all, by the first of what is needed
  pub first_of_all : (best : Option Broken) → IsLeastOf (λ b. NotApart k b ⊎ NeedsMore k b) best → IsLeastOf (Breaks k) (first_in_roots k.ports (first_among rule_of_port (first_among rule_of_root best k.roots) k.ports) k.roots)
  first_of_all best h =
      of_same IsAny (Breaks k) (first_in_roots k.ports (first_among rule_of_port (first_among rule_of_root best k.roots) k.ports) k.roots) to_breaks from_breaks
      (least_in_roots k.ports (λ b. ((NotApart k b ⊎ NeedsMore k b) ⊎ IsBrokenBy rule_of_root k.roots b) ⊎ IsBrokenBy rule_of_port k.ports b) (first_among rule_of_port (first_among rule_of_root best k.roots) k.ports) k.roots
      (least_among rule_of_port (λ b. (NotApart k b ⊎ NeedsMore k b) ⊎ IsBrokenBy rule_of_root k.roots b) (first_among rule_of_root best k.roots) k.ports
      (least_among rule_of_root (λ b. NotApart k b ⊎ NeedsMore k b) best k.roots h)))

  -- what a core needs too much of, in the order of the rules

  at_main : ℕ → Broken
  at_main rule = record { rule = rule; pos = k.main }

  least_at : (rule : ℕ) → NeedsMore k (record { rule = rule; pos = k.main }) → ((b : Broken) → NeedsMore k b → IsNotAfter (record { rule = rule; pos = k.main }) b) → IsLeastOf (NeedsMore k) (Some (record { rule = rule; pos = k.main }))
  least_at rule h least = record {
    among = λ a e. subst (NeedsMore k) (some_same (record { rule = rule; pos = k.main }) a e) h;
    least = λ b g. (record { rule = rule; pos = k.main }, refl, least b g);
  }

  pub by_threads : IsAbove most_threads (threads_on k) → IsLeastOf (NeedsMore k) (Some (record { rule = 701; pos = k.main }))
  by_threads h = least_at 701 (threads h) least
    where
      least : (b : Broken) → NeedsMore k b → IsNotAfter (record { rule = 701; pos = k.main }) b
      least b (threads g) = inr (refl, omega arith)
      least b (ends g) = inr (refl, omega arith)
      least b (timers g) = inr (refl, omega arith)
      least b (words g) = inr (refl, omega arith)

  pub by_ends : (IsAbove most_threads (threads_on k) → ⊥) → IsAbove most_ends (ends_on k) → IsLeastOf (NeedsMore k) (Some (record { rule = 702; pos = k.main }))
  by_ends no_threads h = least_at 702 (ends h) least
    where
      least : (b : Broken) → NeedsMore k b → IsNotAfter (record { rule = 702; pos = k.main }) b
      least b (threads g) = absurd (no_threads g)
      least b (ends g) = inr (refl, omega arith)
      least b (timers g) = inr (refl, omega arith)
      least b (words g) = inr (refl, omega arith)

  pub by_timers : (IsAbove most_threads (threads_on k) → ⊥) → (IsAbove most_ends (ends_on k) → ⊥) → IsAbove most_timers (timers_on k) → IsLeastOf (NeedsMore k) (Some (record { rule = 703; pos = k.main }))
  by_timers no_threads no_ends h = least_at 703 (timers h) least
    where
      least : (b : Broken) → NeedsMore k b → IsNotAfter (record { rule = 703; pos = k.main }) b
      least b (threads g) = absurd (no_threads g)
      least b (ends g) = absurd (no_ends g)
      least b (timers g) = inr (refl, omega arith)
      least b (words g) = inr (refl, omega arith)

  pub by_words : (IsAbove most_threads (threads_on k) → ⊥) → (IsAbove most_ends (ends_on k) → ⊥) → (IsAbove most_timers (timers_on k) → ⊥) → IsAbove most_words (words_on k) → IsLeastOf (NeedsMore k) (Some (record { rule = 704; pos = k.main }))
  by_words no_threads no_ends no_timers h = least_at 704 (words h) least
    where
      least : (b : Broken) → NeedsMore k b → IsNotAfter (record { rule = 704; pos = k.main }) b
      least b (threads g) = absurd (no_threads g)
      least b (ends g) = absurd (no_ends g)
      least b (timers g) = absurd (no_timers g)
      least b (words g) = inr (refl, omega arith)

  pub by_nothing : (IsAbove most_threads (threads_on k) → ⊥) → (IsAbove most_ends (ends_on k) → ⊥) → (IsAbove most_timers (timers_on k) → ⊥) → (IsAbove most_words (words_on k) → ⊥) → IsLeastOf (NeedsMore k) None
  by_nothing no_threads no_ends no_timers no_words = none_broken (NeedsMore k) none
    where
      none : (b : Broken) → NeedsMore k b → ⊥
      none b (threads g) = no_threads g
      none b (ends g) = no_ends g
      none b (timers g) = no_timers g
      none b (words g) = no_words g
