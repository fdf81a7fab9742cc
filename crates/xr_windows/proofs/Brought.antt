-- What the batches of the window before bring, by the number of the sender.
use Rattle.std.proofs.Common.{◌≡◌, ◌<◌, ◌^◌, ◌++◌, ℕ, zero, suc, false, List, [], ◌∷◌, refl, sym, ap, ◌∙◌, arith}
use Rattle.std.specs.Prelude.{nat_eq}
use Rattle.xr_windows.specs.Alone.{AllSent, coming_to, for_by, sent_for}
use Rattle.xr_windows.specs.Coming.{items_from}
use Rattle.xr_windows.specs.Sending.{batches_to}
use Rattle.xr_windows.specs.Windows.{batch, batches_before, core_after, ticks_in, window_start}
use Rattle.xr_windows.proofs.PartNext.{few, sent_is, within_run}
use Rattle.xr_windows.proofs.SentTicks.{alone_to}
use Rattle.xs_core.proofs.Lists.{append_nothing}
use Rattle.xs_fabric.specs.Lockstep.{lockstep}
use Rattle.xs_instr.specs.declared.image.Image.{Image}
use Rattle.xs_instr.specs.declared.image.Stim.{Stim}
use Rattle.xs_instr.specs.declared.state.Sent.{Sent}
use Rattle.xs_instr.specs.Machine.{home_of}

none_for : (i : ℕ) (ss : List Sent) → AllSent (λ s. nat_eq s.to i ≡ false) ss → sent_for i ss ≡ []
none_for i [] all = refl
none_for i (s ∷ ss) all =
    ap (for_by (record { tick = s.tick; moved = s.moved }) (sent_for i ss)) all.0 ∙ none_for i ss all.1

module _ (L : Image) (s : Stim) (n : ℕ) (small : n < 2 ^ 32) where
  -- a core sends nothing to itself
  pub own_batch : (i k : ℕ) → i < 4 → batch L s n i i k ≡ []
  own_batch i k li =
      ap (sent_for i) (sent_is L s (window_start n k) (ticks_in n k) i li (few L s n small k) (within_run L s n small k))
      ∙ none_for i _ (alone_to (λ d. nat_eq d i ≡ false) (home_of L s i) (core_after L s i (window_start n k)) (coming_to (lockstep L s (window_start n k)).links i) (ticks_in n k) (λ e far. far))

  other : (a i k : ℕ) → batch L s n a i k ++ [] ≡ batch L s n a i k
  other a i k = append_nothing (batch L s n a i k)

  after_first : (i a k : ℕ) → i < 4 → a < 4 → items_from a (batches_to L s n i (suc k)) ≡ batch L s n a i k
  after_first zero zero k li la = sym (own_batch 0 k li)
  after_first zero (suc zero) k li la = other 1 0 k
  after_first zero (suc (suc zero)) k li la = other 2 0 k
  after_first zero (suc (suc (suc zero))) k li la = other 3 0 k
  after_first (suc zero) zero k li la = other 0 1 k
  after_first (suc zero) (suc zero) k li la = sym (own_batch 1 k li)
  after_first (suc zero) (suc (suc zero)) k li la = other 2 1 k
  after_first (suc zero) (suc (suc (suc zero))) k li la = other 3 1 k
  after_first (suc (suc zero)) zero k li la = other 0 2 k
  after_first (suc (suc zero)) (suc zero) k li la = other 1 2 k
  after_first (suc (suc zero)) (suc (suc zero)) k li la = sym (own_batch 2 k li)
  after_first (suc (suc zero)) (suc (suc (suc zero))) k li la = other 3 2 k
  after_first (suc (suc (suc zero))) zero k li la = other 0 3 k
  after_first (suc (suc (suc zero))) (suc zero) k li la = other 1 3 k
  after_first (suc (suc (suc zero))) (suc (suc zero)) k li la = other 2 3 k
  after_first (suc (suc (suc zero))) (suc (suc (suc zero))) k li la = sym (own_batch 3 k li)
  after_first (suc (suc (suc (suc i)))) a k li la = absurd (omega arith)
  after_first i (suc (suc (suc (suc a)))) k li la = absurd (omega arith)

  pub brought : (i a k : ℕ) → i < 4 → a < 4 → items_from a (batches_to L s n i k) ≡ batches_before L s n i k a
  brought i a zero li la = refl
  brought i a (suc k) li la = after_first i a k li la
