-- What a window needs, place by place and as one list.
use Rattle.std.proofs.Common.{◌≡◌, ◌<◌, ◌++◌, ℕ, zero, suc, List, [], ◌∷◌, Option, None, length, get_or, refl, sym, ap, ◌∙◌, arith}
use Rattle.std.specs.Prelude.{nat_eq, remove}
use Rattle.xr_windows.specs.Coming.{items_from}
use Rattle.xr_windows.specs.Sending.{AreNeeded, Sending, batches_to, items_in, later_by, latest, needed}
use Rattle.xr_windows.specs.Windows.{batch}
use Rattle.xs_core.proofs.Lists.{append_nothing}
use Rattle.xs_instr.specs.declared.image.Image.{Image}
use Rattle.xs_instr.specs.declared.image.Stim.{Stim}

-- the first batch, and the others
pub latest_first : (j : ℕ) (old new : Option Sending) (bs : List Sending) (b : Sending) → 0 < length bs → b ≡ get_or bs 0 b → new ≡ latest j old (b ∷ []) → latest j new (remove bs 0) ≡ latest j old bs
latest_first j old new [] b lt is e = absurd (omega arith)
latest_first j old new (x ∷ bs) b lt is e =
    ap (λ o. latest j o bs) e ∙ ap (λ y. latest j (later_by old y (nat_eq y.from j)) bs) is

module _ (L : Image) (s : Stim) (n : ℕ) where
  -- of what a window needs the last one of a core is what it needs of it
  of_list : (i j k : ℕ) → i < 4 → j < 4 → latest j None (batches_to L s n i k) ≡ needed L s n j i k
  of_list i j zero li lj = refl
  of_list zero zero (suc k) li lj = refl
  of_list zero (suc zero) (suc k) li lj = refl
  of_list zero (suc (suc zero)) (suc k) li lj = refl
  of_list zero (suc (suc (suc zero))) (suc k) li lj = refl
  of_list (suc zero) zero (suc k) li lj = refl
  of_list (suc zero) (suc zero) (suc k) li lj = refl
  of_list (suc zero) (suc (suc zero)) (suc k) li lj = refl
  of_list (suc zero) (suc (suc (suc zero))) (suc k) li lj = refl
  of_list (suc (suc zero)) zero (suc k) li lj = refl
  of_list (suc (suc zero)) (suc zero) (suc k) li lj = refl
  of_list (suc (suc zero)) (suc (suc zero)) (suc k) li lj = refl
  of_list (suc (suc zero)) (suc (suc (suc zero))) (suc k) li lj = refl
  of_list (suc (suc (suc zero))) zero (suc k) li lj = refl
  of_list (suc (suc (suc zero))) (suc zero) (suc k) li lj = refl
  of_list (suc (suc (suc zero))) (suc (suc zero)) (suc k) li lj = refl
  of_list (suc (suc (suc zero))) (suc (suc (suc zero))) (suc k) li lj = refl
  of_list (suc (suc (suc (suc i)))) j (suc k) li lj = absurd (omega arith)
  of_list i (suc (suc (suc (suc j)))) (suc k) li lj = absurd (omega arith)

  pub are_needed : (i k : ℕ) (batches : List Sending) (a b c d : Option Sending) → i < 4 → batches ≡ batches_to L s n i k → a ≡ latest 0 None batches → b ≡ latest 1 None batches → c ≡ latest 2 None batches → d ≡ latest 3 None batches → AreNeeded L s n i k a b c d
  are_needed i k batches a b c d li is e0 e1 e2 e3 = record {
    first = e0 ∙ ap (latest 0 None) is ∙ of_list i 0 k li (omega arith);
    second = e1 ∙ ap (latest 1 None) is ∙ of_list i 1 k li (omega arith);
    third = e2 ∙ ap (latest 2 None) is ∙ of_list i 2 k li (omega arith);
    fourth = e3 ∙ ap (latest 3 None) is ∙ of_list i 3 k li (omega arith);
  }

  other : (j i k : ℕ) → batch L s n j i k ≡ batch L s n j i k ++ []
  other j i k = sym (append_nothing (batch L s n j i k))

  -- it brings what the list brings
  pub needed_items : (i j k : ℕ) → i < 4 → j < 4 → items_in (needed L s n j i k) ≡ items_from j (batches_to L s n i k)
  needed_items i j zero li lj = refl
  needed_items zero zero (suc k) li lj = refl
  needed_items zero (suc zero) (suc k) li lj = other 1 0 k
  needed_items zero (suc (suc zero)) (suc k) li lj = other 2 0 k
  needed_items zero (suc (suc (suc zero))) (suc k) li lj = other 3 0 k
  needed_items (suc zero) zero (suc k) li lj = other 0 1 k
  needed_items (suc zero) (suc zero) (suc k) li lj = refl
  needed_items (suc zero) (suc (suc zero)) (suc k) li lj = other 2 1 k
  needed_items (suc zero) (suc (suc (suc zero))) (suc k) li lj = other 3 1 k
  needed_items (suc (suc zero)) zero (suc k) li lj = other 0 2 k
  needed_items (suc (suc zero)) (suc zero) (suc k) li lj = other 1 2 k
  needed_items (suc (suc zero)) (suc (suc zero)) (suc k) li lj = refl
  needed_items (suc (suc zero)) (suc (suc (suc zero))) (suc k) li lj = other 3 2 k
  needed_items (suc (suc (suc zero))) zero (suc k) li lj = other 0 3 k
  needed_items (suc (suc (suc zero))) (suc zero) (suc k) li lj = other 1 3 k
  needed_items (suc (suc (suc zero))) (suc (suc zero)) (suc k) li lj = other 2 3 k
  needed_items (suc (suc (suc zero))) (suc (suc (suc zero))) (suc k) li lj = refl
  needed_items (suc (suc (suc (suc i)))) j (suc k) li lj = absurd (omega arith)
  needed_items i (suc (suc (suc (suc j)))) (suc k) li lj = absurd (omega arith)
