-- The law of credits while nothing is on a link: it holds at the start, and where ends stay.
use Rattle.std.proofs.Common.{◌≡◌, ◌<◌, ◌≢◌, ℕ, suc, zero, List, length, Some, refl, sym, ap, ◌∙◌, subst, arith, inl, inr}
use Rattle.std.specs.Prelude.{◌⊎◌, slice_get, slice_set, replicate}
use Rattle.std.proofs.lemmas.List.{length-replicate}
use Rattle.xs_instr.specs.declared.image.Image.{Image}
use Rattle.xs_instr.specs.declared.image.Pair.{Pair}
use Rattle.xs_instr.specs.declared.state.CoreState.{CoreState}
use Rattle.xs_instr.specs.Ends.{Peer}
use Rattle.xs_instr.specs.Machine.{boot, boot_end, parts_in}
use Rattle.xs_instr.specs.Valid.{Valid}
use Rattle.xc_meaning.specs.States.Channels.{Side, other_side}
use Rattle.xr_channels.specs.Channels.{ends_in, tokens_in, end_of_side}
use Rattle.xr_channels.specs.Balance.{credits_in, IsEight, Balanced}
use Rattle.xr_channels.proofs.Tokens.Views.{get_set, get_set_other, same_num}
use Rattle.xr_channels.proofs.All.Begins.{boot_tokens}
use Rattle.xr_channels.proofs.All.Wired.{there_in, valid_wired}

module _ (pairs : List Pair) (cores : List CoreState) (b : Balanced pairs cores) where
  -- a trap, a tick and each step that leaves the ends of its core
  pub balanced_still : (c : ℕ) (core left : CoreState) → slice_get cores c ≡ Some core → left.ends ≡ core.ends → Balanced pairs (slice_set cores c left)
  balanced_still c core left at_c same = record {
    ends = λ k p side at_k. let old = b.ends k p side at_k in let size = ap length (ends_same (end_of_side p side).core) in omega (arith, old, size);
    eight = λ k p side at_k. eight_at (end_of_side p side) (end_of_side p (other_side side)) (b.eight k p side at_k);
  }
    where
      ends_same : (x : ℕ) → ends_in (slice_get (slice_set cores c left) x) ≡ ends_in (slice_get cores x)
      ends_same x = by (same_num c x)
        where
          by : (c ≡ x) ⊎ (c ≢ x) → ends_in (slice_get (slice_set cores c left) x) ≡ ends_in (slice_get cores x)
          by (inl y) = subst (λ z. ends_in (slice_get (slice_set cores c left) z) ≡ ends_in (slice_get cores z)) y (ap ends_in (get_set cores c core left at_c) ∙ same ∙ sym (ap ends_in at_c))
          by (inr ne) = ap ends_in (get_set_other cores c x left ne)

      eight_at : (here there : Peer) → IsEight cores here there → IsEight (slice_set cores c left) here there
      eight_at here there old =
          let credits = ap (λ l. credits_in (slice_get l here.end)) (ends_same here.core) in
          let tokens = ap (λ l. length (tokens_in (slice_get l there.end))) (ends_same there.core) in
          omega (arith, old, credits, tokens)

-- At the start each end has eight credits and no token.

-- the ends of a core
boot_ends : (L : Image) (c : ℕ) → c < 4 → ends_in (slice_get (boot L).cores c) ≡ replicate (parts_in L.cores c).ends boot_end
boot_ends L zero lt = refl
boot_ends L (suc zero) lt = refl
boot_ends L (suc (suc zero)) lt = refl
boot_ends L (suc (suc (suc zero))) lt = refl
boot_ends L (suc (suc (suc (suc c)))) lt = absurd (omega (arith, lt))

-- each has eight credits
boot_credits : (n e : ℕ) → e < n → credits_in (slice_get (replicate n boot_end) e) ≡ 8
boot_credits zero e lt = absurd (omega (arith, lt))
boot_credits (suc n) zero lt = refl
boot_credits (suc n) (suc e) lt = boot_credits n e (omega (arith, lt))

-- so the law holds at the start
pub balanced_begins : (L : Image) → Valid L → Balanced L.chans (boot L).cores
balanced_begins L valid = record {
  ends = λ k p side at_k. let there = there_in L.cores L.chans k p side valid.pairs at_k in let size = ap length (ends_are k p side at_k) in let all = length-replicate (parts_in L.cores (end_of_side p side).core).ends boot_end in omega (arith, there, size, all);
  eight = λ k p side at_k.
      let none = ap length (boot_tokens L (end_of_side p (other_side side)).core (end_of_side p (other_side side)).end) in
      let credits = ap (λ l. credits_in (slice_get l (end_of_side p side).end)) (ends_are k p side at_k) in
      let full = boot_credits (parts_in L.cores (end_of_side p side).core).ends (end_of_side p side).end (there_in L.cores L.chans k p side valid.pairs at_k) in
      omega (arith, none, credits, full);
}
  where
    ends_are : (k : ℕ) (p : Pair) (side : Side) → slice_get L.chans k ≡ Some p → ends_in (slice_get (boot L).cores (end_of_side p side).core) ≡ replicate (parts_in L.cores (end_of_side p side).core).ends boot_end
    ends_are k p side at_k = boot_ends L (end_of_side p side).core ((valid_wired L valid).core k p side at_k)
