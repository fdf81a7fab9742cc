-- What the four parts have in the end.
use Rattle.std.proofs.Common.{◌≡◌, ◌||◌, ℕ, Bool, not, sym, ap, subst, ◌∙◌, arith}
use Rattle.std.specs.Prelude.{nat_eq}
use Rattle.xr_windows.specs.Ending.{four_sights, last_sight}
use Rattle.xr_windows.specs.Merge.{rounds_of}
use Rattle.xr_windows.specs.Parts.{IsLast, Standing, state_of}
use Rattle.xr_windows.specs.Pending.{pending, some_pending}
use Rattle.xr_windows.specs.Rising.{Rising}
use Rattle.xr_windows.specs.Windows.{Between, part, window_start, windows_of}
use Rattle.xr_windows.proofs.Ends.{end_is, trap_is}
use Rattle.xr_windows.proofs.Merged.{parts_merged}
use Rattle.xr_windows.proofs.Rises.{made_rises}
use Rattle.xs_fabric.proofs.FourPeers.{valid_peers}
use Rattle.xs_fabric.specs.EndWord.{end_of, end_word, has_trap, no_sight, sight_sum}
use Rattle.xs_fabric.specs.Lockstep.{lockstep}
use Rattle.xs_instr.specs.declared.image.Image.{Image}
use Rattle.xs_instr.specs.declared.image.Stim.{Stim}
use Rattle.xs_instr.specs.declared.trace.Sight.{Sight}
use Rattle.xs_instr.specs.Sight.{sight}
use Rattle.xs_instr.specs.Machine.{home_of}

module _ (L : Image) (s : Stim) (n i : ℕ) (p : Standing) (h : IsLast L s n i p) where
  state_is : state_of p ≡ part L s n i (windows_of n)
  state_is = h.part.state ∙ (λ j. part L s n (h.number j) (h.all j))

  pub records_are : p.records ≡ (part L s n i (windows_of n)).records
  records_are = ap (λ (b : Between). b.records) state_is

  pub sight_is : sight p.home p.core ≡ last_sight L s n i
  sight_is = (λ j. sight ((h.part.home ∙ ap (home_of L s) h.number) j) (state_is j).core)

  pub pending_is : pending (state_of p) ≡ pending (part L s n i (windows_of n))
  pending_is = ap pending state_is

  records_rise : Rising 1 (part L s n i (windows_of n)).records
  unfolding part
  records_rise = (made_rises L s i (window_start n (windows_of n))).0

  pub last_rises : Rising 1 p.records
  last_rises = subst (Rising 1) (sym records_are) records_rise

module _ (L : Image) (s : Stim) (n : ℕ) (a b c d : Standing) (ha : IsLast L s n 0 a) (hb : IsLast L s n 1 b) (hc : IsLast L s n 2 c) (hd : IsLast L s n 3 d) where
  pub trace_is : rounds_of a.records b.records c.records d.records a.ticks ≡ (lockstep L s n).trace
  trace_is =
      (λ j. rounds_of (records_are L s n 0 a ha j) (records_are L s n 1 b hb j) (records_are L s n 2 c hc j) (records_are L s n 3 d hd j) (ha.part.ticks j))
      ∙ sym (parts_merged L s n)

  sights_are : sight_sum (sight_sum (sight_sum (sight_sum no_sight (sight a.home a.core)) (sight b.home b.core)) (sight c.home c.core)) (sight d.home d.core) ≡ four_sights L s n
  sights_are =
      (λ j. sight_sum (sight_sum (sight_sum (sight_sum no_sight (sight_is L s n 0 a ha j)) (sight_is L s n 1 b hb j)) (sight_is L s n 2 c hc j)) (sight_is L s n 3 d hd j))

  some_is : (pending (state_of a) || (pending (state_of b) || (pending (state_of c) || pending (state_of d)))) ≡ some_pending L s n
  some_is = (λ j. pending_is L s n 0 a ha j || (pending_is L s n 1 b hb j || (pending_is L s n 2 c hc j || pending_is L s n 3 d hd j)))

  pub word_is : (all : Sight) (some : Bool)
      → all ≡ sight_sum (sight_sum (sight_sum (sight_sum no_sight (sight a.home a.core)) (sight b.home b.core)) (sight c.home c.core)) (sight d.home d.core)
      → some ≡ (pending (state_of a) || (pending (state_of b) || (pending (state_of c) || pending (state_of d))))
      → end_word all (not some) ≡ end_of L s (lockstep L s n)
  word_is all some sums any =
      let few = ha.part.few in
      (λ j. end_word ((sums ∙ sights_are) j) (not ((any ∙ some_is) j)))
      ∙ sym (end_is L s n ha.part.some (omega arith) (valid_peers L ha.part.valid))

  pub trapped_is : (all : Sight)
      → all ≡ sight_sum (sight_sum (sight_sum (sight_sum no_sight (sight a.home a.core)) (sight b.home b.core)) (sight c.home c.core)) (sight d.home d.core)
      → not (nat_eq all.trapped 0) ≡ has_trap L s (lockstep L s n)
  trapped_is all sums = ap (λ (k : Sight). not (nat_eq k.trapped 0)) (sums ∙ sights_are) ∙ sym (trap_is L s n)
