-- Registers that code leaves: those that name dp's and sp's words, and the synchronisers of the branches that wait.
use Rattle.std.proofs.Common.{◌≡◌, ℕ, zero, suc, Bool, false, refl, ◌∙◌}
use Rattle.xs_instr.specs.declared.instr.Reg.{Reg}
use Rattle.xs_instr.specs.declared.instr.Reg.TheVariants.{Dp, Sp}
use Rattle.xs_instr.specs.declared.state.Regs.{Regs}
use Rattle.xs_instr.specs.Registers.{reg_get}
use Rattle.xl_expr.specs.Stores.{is_working}
use Rattle.xl_expr.specs.Works.{is_scratch}
use Rattle.xl_select.specs.Opening.{is_arming}
use Rattle.xr_simulation.specs.Runners.{Setting, Runner}
use Rattle.xr_simulation.specs.NextStep.{HasBases, name_register}

-- no name stands in a working register
pub not_working : (k : ℕ) → is_working (name_register k) ≡ false
not_working zero = refl
not_working (suc zero) = refl
not_working (suc (suc zero)) = refl
not_working (suc (suc (suc zero))) = refl
not_working (suc (suc (suc (suc zero)))) = refl
not_working (suc (suc (suc (suc (suc zero))))) = refl
not_working (suc (suc (suc (suc (suc (suc k)))))) = refl

-- nor in one that expressions use
pub not_scratch : (k : ℕ) → is_scratch (name_register k) ≡ false
not_scratch zero = refl
not_scratch (suc zero) = refl
not_scratch (suc (suc zero)) = refl
not_scratch (suc (suc (suc zero))) = refl
not_scratch (suc (suc (suc (suc zero)))) = refl
not_scratch (suc (suc (suc (suc (suc zero))))) = refl
not_scratch (suc (suc (suc (suc (suc (suc k)))))) = refl

-- nor in one that the opening of a select uses
pub not_arming : (k : ℕ) → is_arming (name_register k) ≡ false
not_arming zero = refl
not_arming (suc zero) = refl
not_arming (suc (suc zero)) = refl
not_arming (suc (suc (suc zero))) = refl
not_arming (suc (suc (suc (suc zero)))) = refl
not_arming (suc (suc (suc (suc (suc zero))))) = refl
not_arming (suc (suc (suc (suc (suc (suc k)))))) = refl

module _ (g : Setting) (r : Runner) (old new : Regs) where
  -- where no register is changed but some
  pub bases_but : (some : Reg → Bool) → some Dp ≡ false → some Sp ≡ false → ((k : ℕ) → some (name_register k) ≡ false) →
      ((x : Reg) → some x ≡ false → reg_get new x ≡ reg_get old x) → HasBases g r old → HasBases g r new
  bases_but some no_dp no_sp no_name others h = record {
    base = others Dp no_dp ∙ h.base;
    stack = others Sp no_sp ∙ h.stack;
    names = record { by = λ place n there lt. others (name_register place) (no_name place) ∙ h.names.by place n there lt };
  }

  -- none but the working ones
  pub bases_worked : ((x : Reg) → is_working x ≡ false → reg_get new x ≡ reg_get old x) → HasBases g r old → HasBases g r new
  bases_worked others h = bases_but is_working refl refl not_working others h

  -- none but those that expressions use
  pub bases_scratched : ((x : Reg) → is_scratch x ≡ false → reg_get new x ≡ reg_get old x) → HasBases g r old → HasBases g r new
  bases_scratched others h = bases_but is_scratch refl refl not_scratch others h

  -- none but those that the opening of a select uses
  pub bases_armed : ((x : Reg) → is_arming x ≡ false → reg_get new x ≡ reg_get old x) → HasBases g r old → HasBases g r new
  bases_armed others h = bases_but is_arming refl refl not_arming others h
