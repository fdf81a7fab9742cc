-- Which function a name calls.
use Rattle.std.proofs.Common.{◌≡◌, ℕ, ◌<◌, List, length, get_or, slice_get, Option, None, Some, refl, sym, ap, subst, ◌∙◌, arith}
use Rattle.std.proofs.lemmas.Option.{slice_get-get_or, slice_get_within, none-some}
use Rattle.xw_words.proofs.Lists.{some_same}
use Rattle.xw_words.specs.declared.pos.Pos.{Pos}
use Rattle.xc_tree.specs.declared.names.Mark.{Mark}
use Rattle.xc_tree.specs.declared.names.Mark.TheVariants.{Opens, Closes, Declares, Uses, Calls}
use Rattle.xc_names.specs.Meanings.{AreMeanings, Meaning, means, unknown}
use Rattle.xc_names.specs.Callees.{called_at, declared_function, FoundCall, a_call, no_call}
use Rattle.xc_names.proofs.NameRules.{spelled_here}

pub is_none : {A : Type 0} (r : Option A) → ((x : A) → r ≡ Some x → ⊥) → r ≡ None
is_none None h = refl
is_none (Some x) h = absurd (h x refl)

module _ (ms : List Mark) (meant : List (Option ℕ)) (u : ℕ) (m : Mark) (there : slice_get ms u ≡ Some m) where
  pub none_called : called_at m ≡ None → FoundCall ms meant u None
  none_called e = no_call (λ p g c. none-some p (sym e ∙ ap called_at (some_same m c.mark (sym there ∙ c.there)) ∙ c.called))

  module _ (a : AreMeanings ms meant) where
    meant_read : slice_get meant u ≡ Some (get_or meant u None)
    meant_read = slice_get-get_or meant u None (inside (slice_get_within ms u m there) a.one_each)
      where
        inside : {i j k : ℕ} → i < j → k ≡ j → i < k
        inside h e = omega arith

    pub none_meant : get_or meant u None ≡ None → FoundCall ms meant u None
    none_meant e = no_call (λ p g c. none-some c.place (sym e ∙ some_same _ _ (sym meant_read ∙ c.means)))

    pub meant_inside : (p : Pos) → called_at m ≡ Some p → (d : ℕ) → get_or meant u None ≡ Some d → d < length ms
    meant_inside p e d f = by m there e
      where
        of_meaning : (t : List ℕ) (o : Option ℕ) → Meaning ms u t o → o ≡ Some d → d < length ms
        of_meaning t o (means {d = x} k) q = subst (λ (j : ℕ). j < length ms) (some_same x d q) (slice_get_within ms x _ k.declared.there)
        of_meaning t o (unknown no_one) q = absurd (none-some d q)

        by : (x : Mark) → slice_get ms u ≡ Some x → called_at x ≡ Some p → d < length ms
        by Opens g h = absurd (none-some p h)
        by Closes g h = absurd (none-some p h)
        by (Declares y) g h = absurd (none-some p h)
        by (Uses y) g h = absurd (none-some p h)
        by (Calls n) g h = of_meaning n.text (get_or meant u None) (spelled_here ms u (Calls n) n.text meant (get_or meant u None) a g refl meant_read) f

    module _ (d : ℕ) (dm : Mark) (e : get_or meant u None ≡ Some d) (declared : slice_get ms d ≡ Some dm) where
      means_it : slice_get meant u ≡ Some (Some d)
      means_it = meant_read ∙ ap Some e

      pub none_function : declared_function dm ≡ None → FoundCall ms meant u None
      none_function f = no_call (λ p g c. none-some g (sym f ∙ ap declared_function (some_same dm c.declaration (sym declared ∙ ap (slice_get ms) (same c.place (some_same _ _ (sym means_it ∙ c.means))) ∙ c.declared)) ∙ c.function))
        where
          same : (x : ℕ) → Some d ≡ Some x → d ≡ x
          same x q = some_same d x q

      pub some_function : (p : Pos) (g : ℕ) → called_at m ≡ Some p → declared_function dm ≡ Some g → FoundCall ms meant u (Some (record { callee = g; pos = p }))
      some_function p g f h = a_call (record { mark = m; there = there; called = f; place = d; means = means_it; declaration = dm; declared = declared; function = h })
