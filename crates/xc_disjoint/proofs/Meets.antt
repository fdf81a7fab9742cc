-- The clash of a footprint with a later one.
use Rattle.std.proofs.Common.{◌≡◌, ◌⊎◌, inl, inr, ⊎_elim, ℕ, ◌≤◌, Bool, true, false, not, IsTrue, List, [], ◌∷◌, nat_eq, Some, None, refl, sym, subst, ◌∙◌, true≢false, arith, eqb-true, eq-eqb}
use Rattle.std.specs.List.{list_any}
use Rattle.std.specs.Bool.{Decides}
use Rattle.std.proofs.lemmas.Bool.{or_cases, or_left, or_right}
use Rattle.xw_words.specs.declared.pos.Pos.{Pos}
use Rattle.xw_words.specs.declared.pos.Broken.{Broken}
use Rattle.xc_tree.specs.Lexes.{IsNotAfter}
use Rattle.xc_tree.specs.Least.{IsLeastOf}
use Rattle.xc_tree.proofs.Leasts.{none_broken}
use Rattle.xc_kernel.specs.Things.{Thing, variable, change, port, timer}
use Rattle.xc_disjoint.specs.declared.footprint.Footprint.{Footprint}
use Rattle.xc_disjoint.specs.Clashes.{Clash, changed, used, of_port, of_timer, rule_against}
use Rattle.xc_disjoint.specs.Footprints.{members, Meet, uses_in}
use Rattle.xc_disjoint.specs.Behind.{ClashesAt}

some_same : {A : Type 0} (a b : A) → Some a ≡ Some b → a ≡ b
some_same a b e = cc

-- two sets have a number in common, or none
meeting : (xs ys : List ℕ) → Meet xs ys ⊎ ((q : ℕ) → IsTrue (members xs q) → members ys q ≡ false)
unfolding members
meeting [] ys = inr (λ q h. absurd (true≢false (sym h)))
meeting (x ∷ xs) ys = by (meeting xs ys) (list_any (nat_eq x) ys) refl
  where
    or_none : (b : Bool) → list_any (nat_eq x) ys ≡ false → Meet xs ys ⊎ ((q : ℕ) → IsTrue (members xs q) → members ys q ≡ false) → Meet (x ∷ xs) ys ⊎ ((q : ℕ) → IsTrue (members (x ∷ xs) q) → members ys q ≡ false)
    or_none b e (inl m) = inl (record { n = m.n; one = or_right (nat_eq m.n x) _ m.one; other = m.other })
    or_none b e (inr k) = inr (λ q h. ⊎_elim (λ s. subst (λ (n : ℕ). list_any (nat_eq n) ys ≡ false) (sym (eqb-true q x s)) e) (λ s. k q s) (or_cases (nat_eq q x) _ h))

    by : Meet xs ys ⊎ ((q : ℕ) → IsTrue (members xs q) → members ys q ≡ false) → (b : Bool) → list_any (nat_eq x) ys ≡ b → Meet (x ∷ xs) ys ⊎ ((q : ℕ) → IsTrue (members (x ∷ xs) q) → members ys q ≡ false)
    by rest true e = inl (record { n = x; one = or_left (nat_eq x x) _ (eq-eqb x x refl); other = e })
    by rest false e = or_none true e rest

-- by a test whether they have none
pub decides : (xs ys : List ℕ) (apart : Bool) → (IsTrue apart → (q : ℕ) → IsTrue (list_any (nat_eq q) xs) → list_any (nat_eq q) ys ≡ false) → (((q : ℕ) → IsTrue (list_any (nat_eq q) xs) → list_any (nat_eq q) ys ≡ false) → IsTrue apart) → Decides (not apart) (Meet xs ys)
unfolding members
decides xs ys true to from = (λ e. absurd (true≢false (sym e)), λ m. absurd (true≢false (sym m.other ∙ to refl m.n m.one)))
decides xs ys false to from = (λ e. ⊎_elim (λ m. m) (λ k. absurd (true≢false (sym (from k)))) (meeting xs ys), λ m. refl)

module _ (f g : Footprint) (pos : Pos) where
  abbrev at : ℕ → Broken
  at rule = record { rule = rule; pos = pos }

  abbrev Here : Broken → Type 0
  Here = ClashesAt (uses_in f) (uses_in g) pos

  first_here : (rule : ℕ) → Here (at rule) → ((one other : Thing) → Clash one other → IsTrue (uses_in f one) → IsTrue (uses_in g other) → rule ≤ rule_against other) → IsLeastOf Here (Some (at rule))
  first_here rule h least = record {
    among = λ a e. subst Here (some_same (at rule) a e) h;
    least = λ b k. (at rule, refl, subst (IsNotAfter (at rule)) (sym k.is) (inr (refl, least k.one k.other k.clash k.is_before k.is_here)));
  }

  pub by_changed : Meet f.changed.keys g.used.keys → IsLeastOf Here (Some (at 601))
  unfolding uses_in
  by_changed m = first_here 601 (record { one = change m.n; other = variable m.n; clash = changed m.n; is_before = m.one; is_here = m.other; is = refl }) least
    where
      least : (one other : Thing) → Clash one other → IsTrue (uses_in f one) → IsTrue (uses_in g other) → 601 ≤ rule_against other
      least one other (changed v) a b = omega arith
      least one other (used v) a b = omega arith
      least one other (of_port p) a b = omega arith
      least one other (of_timer t) a b = omega arith

  pub by_used : Meet f.used.keys g.changed.keys → IsLeastOf Here (Some (at 601))
  unfolding uses_in
  by_used m = first_here 601 (record { one = variable m.n; other = change m.n; clash = used m.n; is_before = m.one; is_here = m.other; is = refl }) least
    where
      least : (one other : Thing) → Clash one other → IsTrue (uses_in f one) → IsTrue (uses_in g other) → 601 ≤ rule_against other
      least one other (changed v) a b = omega arith
      least one other (used v) a b = omega arith
      least one other (of_port p) a b = omega arith
      least one other (of_timer t) a b = omega arith

  module _ (no_changed : Meet f.changed.keys g.used.keys → ⊥) (no_used : Meet f.used.keys g.changed.keys → ⊥) where
    pub by_port : Meet f.ports.keys g.ports.keys → IsLeastOf Here (Some (at 602))
    unfolding uses_in
    by_port m = first_here 602 (record { one = port m.n; other = port m.n; clash = of_port m.n; is_before = m.one; is_here = m.other; is = refl }) least
      where
        least : (one other : Thing) → Clash one other → IsTrue (uses_in f one) → IsTrue (uses_in g other) → 602 ≤ rule_against other
        least one other (changed v) a b = absurd (no_changed (record { n = v; one = a; other = b }))
        least one other (used v) a b = absurd (no_used (record { n = v; one = a; other = b }))
        least one other (of_port p) a b = omega arith
        least one other (of_timer t) a b = omega arith

    module _ (no_port : Meet f.ports.keys g.ports.keys → ⊥) where
      pub by_timer : Meet f.timers.keys g.timers.keys → IsLeastOf Here (Some (at 606))
      unfolding uses_in
      by_timer m = first_here 606 (record { one = timer m.n; other = timer m.n; clash = of_timer m.n; is_before = m.one; is_here = m.other; is = refl }) least
        where
          least : (one other : Thing) → Clash one other → IsTrue (uses_in f one) → IsTrue (uses_in g other) → 606 ≤ rule_against other
          least one other (changed v) a b = absurd (no_changed (record { n = v; one = a; other = b }))
          least one other (used v) a b = absurd (no_used (record { n = v; one = a; other = b }))
          least one other (of_port p) a b = absurd (no_port (record { n = p; one = a; other = b }))
          least one other (of_timer t) a b = omega arith

      pub by_nothing : (Meet f.timers.keys g.timers.keys → ⊥) → IsLeastOf Here None
      unfolding uses_in
      by_nothing no_timer = none_broken Here (λ b k. none k.one k.other k.clash k.is_before k.is_here)
        where
          none : (one other : Thing) → Clash one other → IsTrue (uses_in f one) → IsTrue (uses_in g other) → ⊥
          none one other (changed v) a b = no_changed (record { n = v; one = a; other = b })
          none one other (used v) a b = no_used (record { n = v; one = a; other = b })
          none one other (of_port p) a b = no_port (record { n = p; one = a; other = b })
          none one other (of_timer t) a b = no_timer (record { n = t; one = a; other = b })

pub not_so : (r : Bool) (P : Type 0) → (P → r ≡ true) → r ≡ false → P → ⊥
not_so r P h e p = true≢false (sym (h p) ∙ e)
