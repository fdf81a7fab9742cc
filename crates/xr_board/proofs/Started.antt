-- A core as it starts in the run of an image that is the same.
use Rattle.std.proofs.Common.{◌≡◌, ◌<◌, ℕ, sym, subst, ap, ◌∙◌}
use Rattle.xr_windows.specs.Parts.{IsStart}
use Rattle.xs_core.specs.Core.{Seen as Core}
use Rattle.xs_instr.specs.declared.image.Home.{Home}
use Rattle.xs_instr.specs.declared.image.Image.{Image}
use Rattle.xs_instr.specs.declared.image.Stim.{Stim}
use Rattle.xs_instr.specs.Machine.{boot_core, home_of, parts_in}
use Rattle.xs_instr.specs.Valid.{IsGoodStim, Valid}

pub starts : (L L' : Image) (s s' : Stim) (core : Core) (i : ℕ) → L ≡ L' → s ≡ s' → Valid L → IsGoodStim s → i < 4 → core.home ≡ home_of L s i → core.state ≡ boot_core (parts_in L.cores i) → IsStart L' s' core
starts L L' s s' core i image stim valid good lt home state =
    let number : core.home.number ≡ i = ap (λ (h : Home). h.number) home in
    subst (λ M. IsStart M s' core) image (subst (λ t. IsStart L t core) stim (record {
      valid = valid;
      good = good;
      number = subst (λ k. k < 4) (sym number) lt;
      home = home ∙ ap (home_of L s) (sym number);
      state = state ∙ ap (λ k. boot_core (parts_in L.cores k)) (sym number);
    }))
