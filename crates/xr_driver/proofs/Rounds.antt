-- What a run tells is the run in lockstep.
use Rattle.std.proofs.Common.{◌≡◌, ℕ, zero, suc, List, [], ◌∷◌, Some, refl, ap, sym, ◌∙◌}
use Rattle.std.specs.Prelude.{slice_get}
use Rattle.xs_instr.specs.declared.image.Image.{Image}
use Rattle.xs_instr.specs.declared.image.Stim.{Stim}
use Rattle.xs_instr.specs.declared.state.CoreState.{CoreState}
use Rattle.xs_instr.specs.Valid.{Valid}
use Rattle.xr_windows.specs.Telling.{IsLockstep}
use Rattle.xr_windows.specs.declared.run.Run.{Run}
use Rattle.xs_fabric.specs.Lockstep.{lockstep}
use Rattle.xs_fabric.proofs.LockstepLeads.{lockstep_leads}
use Rattle.xs_fabric.proofs.Unsynchronised.{run_finished, run_trapped}
use Rattle.xr_match.specs.Implements.{AllRootsEnded}
use Rattle.xr_driver.specs.Runs.{IsRunFor}

-- that each core has no root left, along the list and place by place
roots_ended : (cores : List CoreState) → ((c : ℕ) (core : CoreState) → slice_get cores c ≡ Some core → core.roots ≡ 0) → AllRootsEnded cores
roots_ended [] h = tt
roots_ended (core ∷ cores) h = (h 0 core refl, roots_ended cores (λ c k there. h (suc c) k there))

each_root_ended : (cores : List CoreState) → AllRootsEnded cores → (c : ℕ) (core : CoreState) → slice_get cores c ≡ Some core → core.roots ≡ 0
each_root_ended [] h c core there = cc
each_root_ended (k ∷ cores) h zero core there = let is : k ≡ core = cc in ap (λ (x : CoreState). x.roots) (sym is) ∙ h.0
each_root_ended (k ∷ cores) h (suc c) core there = each_root_ended cores h.1 c core there

-- by what a run tells
pub run_for : (L : Image) (s : Stim) → Valid L → (rounds : ℕ) (run : Run) → IsLockstep L s rounds run →
    IsRunFor L s rounds run.trace run.end run.trapped
run_for L s valid rounds run is =
    let leads = lockstep_leads L s rounds in
    let ends = run_finished L s leads.events (lockstep L s rounds) valid leads.to in
    let traps = run_trapped L s leads.events (lockstep L s rounds) valid leads.to in
    record {
      lines_are = is.trace;
      word_is = is.end;
      trapped_is = is.trapped;
      finished_exactly_where_ended = (
        λ h. roots_ended (lockstep L s rounds).cores (ends.0 (sym is.end ∙ h)),
        λ h. is.end ∙ ends.1 (each_root_ended (lockstep L s rounds).cores h),
      );
      trapped_only_with_a_trap = λ h. is.trapped ∙ traps (sym is.end ∙ h);
    }
