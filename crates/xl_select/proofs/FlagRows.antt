-- What the instructions of a flag do: a temporary word gets a register's word, and is read again, and a jump goes by a register.
use Rattle.std.proofs.Common.{◌≡◌, ℕ, ◌+◌, ◌*◌, ◌/◌, ◌%◌, ◌<◌, Bool, true, false, List, Some, get_or, refl, ap, ◌∙◌, arith}
use Rattle.std.specs.Prelude.{nat_eq, not, slice_get, slice_set}
use Rattle.std.proofs.lemmas.Option.{slice_get-get_or}
use Rattle.xs_instr.specs.declared.image.Home.{Home}
use Rattle.xs_instr.specs.declared.instr.Instr.TheVariants.{Brff, Brft, Ldc, Ldwsp, Stwsp}
use Rattle.xs_instr.specs.declared.instr.Reg.{Reg}
use Rattle.xs_instr.specs.declared.state.CoreState.{CoreState}
use Rattle.xs_instr.specs.declared.state.Regs.{Regs}
use Rattle.xs_instr.specs.declared.state.Thread.{Thread}
use Rattle.xs_instr.specs.Did.{makes, map_did}
use Rattle.xs_instr.specs.Memory.{address_at, word_at, word_by}
use Rattle.xs_instr.specs.OwnSteps.{HasRoom, temporary}
use Rattle.xs_instr.specs.Registers.{reg_get, reg_set}
use Rattle.xs_instr.specs.Rows.{jumps_by, loads, put_local, row, stores, stores_at}
use Rattle.xl_expr.proofs.Ways.{at_pc, own}
use Rattle.xl_select.proofs.Moves.{behind, Left}

-- a step that changes words alone
abbrev pub words_left : CoreState → List ℕ → Left
words_left c words = record { ports = c.ports; timers = c.timers; events = c.events; words = words }

module _ (home : Home) (relied : ℕ → Bool) (s t : ℕ) (thread : Thread) (pc : ℕ) (regs : Regs) (c : CoreState) (room : HasRoom relied s regs c.words) where
  abbrev th : Thread
  th = at_pc thread pc regs

  module _ (f : ℕ) (lt : f < temporary) where
    -- the address of a temporary word
    place_of_flag : (address_at (4 * s) f % 4 ≡ 0) × (address_at (4 * s) f / 4 ≡ s + f)
    place_of_flag =
        let small = room.small in
        let e : address_at (4 * s) f ≡ 4 * (s + f) = omega arith in
        (omega arith, omega arith)

    word_of_flag : word_at c.words (address_at (4 * s) f) ≡ slice_get c.words (s + f)
    word_of_flag =
        ap (λ n. word_by c.words (address_at (4 * s) f) (nat_eq n 0)) place_of_flag.0 ∙ ap (slice_get c.words) place_of_flag.1

    pub stwsp_row : (from : Reg) → row home c t th (Stwsp from f) ≡ makes (behind c t th (pc + 1) regs (words_left c (slice_set c.words (s + f) (reg_get regs from))))
    stwsp_row from =
        let v = reg_get regs from in
        let n = room.within in
        let there : slice_get c.words (s + f) ≡ Some (get_or c.words (s + f) 0) = slice_get-get_or c.words (s + f) 0 (omega arith) in
        ap (map_did (put_local c t th))
        (ap (λ p. stores_at (own pc regs c.words) v (address_at p f)) room.sp_is
        ∙ ap (stores (own pc regs c.words) v (address_at (4 * s) f)) (word_of_flag ∙ there)
        ∙ ap (λ w. makes (own (pc + 1) regs (slice_set c.words w v))) place_of_flag.1)

    pub ldwsp_row : (to : Reg) (v : ℕ) → slice_get c.words (s + f) ≡ Some v → row home c t th (Ldwsp to f) ≡ makes (behind c t th (pc + 1) (reg_set regs to v) (words_left c c.words))
    ldwsp_row to v there =
        ap (map_did (put_local c t th))
        (ap (λ p. loads (own pc regs c.words) to (word_at c.words (address_at p f))) room.sp_is
        ∙ ap (loads (own pc regs c.words) to) (word_of_flag ∙ there))

  -- a jump where a register's word is not 0, and one where it is

  abbrev pub behind_jump : (is_taken : Bool) → (target : ℕ) → ℕ
  behind_jump true target = target
  behind_jump false target = pc + 1

  jump_by : (b : Bool) (target : ℕ) → map_did (put_local c t th) (jumps_by (own pc regs c.words) target b) ≡ makes (behind c t th (behind_jump b target) regs (words_left c c.words))
  jump_by true target = refl
  jump_by false target = refl

  pub brft_row : (a : Reg) (target : ℕ) (b : Bool) → not (nat_eq (reg_get regs a) 0) ≡ b → row home c t th (Brft a target) ≡ makes (behind c t th (behind_jump b target) regs (words_left c c.words))
  brft_row a target b e = ap (λ x. map_did (put_local c t th) (jumps_by (own pc regs c.words) target x)) e ∙ jump_by b target

  pub brff_row : (a : Reg) (target : ℕ) (b : Bool) → nat_eq (reg_get regs a) 0 ≡ b → row home c t th (Brff a target) ≡ makes (behind c t th (behind_jump b target) regs (words_left c c.words))
  brff_row a target b e = ap (λ x. map_did (put_local c t th) (jumps_by (own pc regs c.words) target x)) e ∙ jump_by b target

  pub ldc_row : (to : Reg) (n : ℕ) → row home c t th (Ldc to n) ≡ makes (behind c t th (pc + 1) (reg_set regs to n) (words_left c c.words))
  ldc_row to n = refl
