-- Steps that change registers alone.
use Rattle.std.proofs.Common.{◌≡◌, ℕ, ◌+◌, Bool, List, Some, refl, ap, ◌∙◌}
use Rattle.std.specs.Prelude.{slice_get}
use Rattle.std.specs.Int.Bits.{or_self}
use Rattle.xs_instr.specs.declared.image.Code.{Code}
use Rattle.xs_instr.specs.declared.instr.Instr.{Instr}
use Rattle.xs_instr.specs.declared.instr.Instr.TheVariants.{Or}
use Rattle.xs_instr.specs.declared.instr.Reg.{Reg}
use Rattle.xs_instr.specs.declared.state.CoreState.{CoreState}
use Rattle.xs_instr.specs.declared.state.Regs.{Regs}
use Rattle.xs_instr.specs.declared.state.Thread.{Thread}
use Rattle.xs_instr.specs.OwnSteps.{RunsAt}
use Rattle.xs_instr.specs.Did.{makes}
use Rattle.xs_instr.specs.Registers.{reg_get, reg_set}
use Rattle.xs_instr.specs.Rows.{local_row, sets}
use Rattle.xl_expr.proofs.Ways.{Fits, IsPlain, Sure, at_pc, own}

-- no step may change a word
abbrev pub everywhere : ℕ → Type 0
everywhere w = Unit {0}

module _ (code : Code) (relied : ℕ → Bool) (words : List ℕ) where
  pub by_regs : (i : Instr) (pc : ℕ) (regs regs' : Regs) → slice_get code.instrs pc ≡ Some i → IsPlain i → ((ws : List ℕ) → local_row (own pc regs ws) i ≡ makes (own (pc + 1) regs' ws)) → Sure code relied everywhere (own pc regs words) (own (pc + 1) regs' words)
  by_regs i pc regs regs' stands plain row = record {
    instr = i;
    stands = stands;
    plain = plain;
    goes = λ ws g. record { words = ws; made = row ws; agree = g; apart = λ w l. refl };
  }

  -- a register gets what another one holds
  pub by_or : (d s : Reg) (pc : ℕ) (regs : Regs) → slice_get code.instrs pc ≡ Some (Or d s s) → Sure code relied everywhere (own pc regs words) (own (pc + 1) (reg_set regs d (reg_get regs s)) words)
  by_or d s pc regs stands =
      by_regs (Or d s s) pc regs (reg_set regs d (reg_get regs s)) stands (record { row_is = λ h c t th. refl; no_event = refl })
      (λ ws. ap (λ v. sets (own pc regs ws) d v) (or_self (reg_get regs s)))

-- a thread that runs has its own pc and registers
pub fits_there : (code : Code) (relied : ℕ → Bool) (t pc : ℕ) (thread : Thread) (a : CoreState) → RunsAt t pc thread a → Fits code relied everywhere t thread (own pc thread.regs a.words) a
fits_there code relied t pc thread a h = record {
  here = h.here ∙ ap (λ k. Some (at_pc thread k thread.regs)) h.pc_is;
  words = record { by = λ w r. refl };
}
