-- The end word of the four parts is that of the machine.
use Rattle.std.proofs.Common.{◌≡◌, ◌≤◌, ◌<◌, ◌^◌, ℕ, not, sym, ap, ◌∙◌, arith}
use Rattle.std.specs.Prelude.{nat_eq, slice_get}
use Rattle.xs_instr.specs.declared.image.Image.{Image}
use Rattle.xs_instr.specs.declared.image.Stim.{Stim}
use Rattle.xs_instr.specs.declared.trace.Sight.{Sight}
use Rattle.xs_instr.specs.Machine.{home_of}
use Rattle.xs_instr.specs.Sight.{sight}
use Rattle.xs_fabric.specs.EndWord.{end_of, end_word, has_trap, no_sight, sight_at, sight_sum, sights}
use Rattle.xr_windows.specs.Ending.{four_sights, last_sight}
use Rattle.xs_fabric.specs.Lockstep.{lockstep}
use Rattle.xr_windows.specs.Pending.{some_pending}
use Rattle.xr_windows.specs.Windows.{core_after, part, window_start, windows_of}
use Rattle.xr_windows.proofs.Empty.{PeersAmongFour, empty_in_the_end}
use Rattle.xr_windows.proofs.EightTicks.{core_there}

module _ (L : Image) (s : Stim) (n : ℕ) where
  sight_is : (i : ℕ) → i < 4 → sight_at L s i (slice_get (lockstep L s n).cores i) ≡ last_sight L s n i
  unfolding part
  sight_is i li =
      let e : window_start n (windows_of n) ≡ n = omega arith in
      ap (sight_at L s i) (core_there L s n i li) ∙ ap (λ t. sight (home_of L s i) (core_after L s i t)) (sym e)

  sights_are : sights L s (lockstep L s n) 4 ≡ four_sights L s n
  sights_are = (λ j. sight_sum (sight_sum (sight_sum (sight_sum no_sight (sight_is 0 (omega arith) j)) (sight_is 1 (omega arith) j)) (sight_is 2 (omega arith) j)) (sight_is 3 (omega arith) j))

  pub end_is : 1 ≤ n → n < 2 ^ 32 → PeersAmongFour L → end_of L s (lockstep L s n) ≡ end_word (four_sights L s n) (not (some_pending L s n))
  unfolding end_of
  end_is some small peers = (λ j. end_word (sights_are j) (empty_in_the_end L s n some small peers j))

  pub trap_is : has_trap L s (lockstep L s n) ≡ not (nat_eq (four_sights L s n).trapped 0)
  unfolding has_trap
  trap_is = ap (λ (k : Sight). not (nat_eq k.trapped 0)) sights_are
