-- What the code of an identifier does.
use Rattle.std.proofs.Common.{◌≡◌, ℕ, ◌+◌, ◌*◌, ◌/◌, ◌%◌, ◌^◌, ◌≤◌, Bool, length, Some, refl, sym, ap, ◌∙◌, arith}
use Rattle.xs_instr.specs.Lines.{at_pos}
use Rattle.std.specs.Prelude.{nat_eq}
use Rattle.xw_words.specs.declared.pos.Pos.{Pos}
use Rattle.xs_instr.specs.declared.image.Code.{Code}
use Rattle.xs_instr.specs.declared.image.Home.{Home}
use Rattle.xs_instr.specs.declared.instr.Instr.TheVariants.{Addi, Ldc, Ldwdp}
use Rattle.xs_instr.specs.declared.instr.Reg.TheVariants.{R11}
use Rattle.xs_instr.specs.declared.state.CoreState.{CoreState}
use Rattle.xs_instr.specs.declared.state.Regs.{Regs}
use Rattle.xs_instr.specs.declared.state.Thread.{Thread}
use Rattle.xs_instr.specs.Memory.{address_at}
use Rattle.xs_instr.specs.OwnSteps.{IsApart, RunsAt, StandAt, Within}
use Rattle.xs_instr.specs.Registers.{reg_set}
use Rattle.xs_instr.specs.Rows.{loads}
use Rattle.xl_expr.specs.declared.plan.ResAt.{ResAt}
use Rattle.xl_expr.specs.declared.plan.ResAt.TheVariants.{Fixed, Held}
use Rattle.xl_expr.specs.Identifiers.{Identifies, IsIdentifier, Named, identifier_instrs}
use Rattle.xl_expr.specs.Targets.{AreAimed}
use Rattle.xl_expr.proofs.GoodCode.{plain_aimed}
use Rattle.xl_expr.proofs.Lists.{word_by_same}
use Rattle.xl_expr.proofs.Runs.{by_quiet}
use Rattle.xl_expr.proofs.Ways.{own, Fits, Way, way_leads}

pub at_most_two : (pos : Pos) (place : ResAt) → length (at_pos pos (identifier_instrs place)) ≤ 2
at_most_two pos (Fixed id) = omega arith
at_most_two pos (Held n j) = omega arith

module _ (home : Home) (relied : ℕ → Bool) (s t name pc : ℕ) (pos : Pos) (thread : Thread) (a : CoreState) (at_work : RunsAt t pc thread a) where
  abbrev my_code : Code
  my_code = home.parts.code

  abbrev named_regs : Regs
  named_regs = reg_set thread.regs R11 name

  starts : Fits my_code relied (IsApart s) t thread (own pc thread.regs a.words) a
  starts = record { here = at_work.here ∙ ap (λ p. Some (record thread { pc = p })) at_work.pc_is; words = record { by = λ w r. refl } }

  -- a way to there is all that is wanted
  by_way : (n pc' : ℕ) → n ≤ 2 → Way my_code relied (IsApart s) n (own pc thread.regs a.words) (own pc' named_regs a.words) → Within home relied (IsApart s) t (Named relied t thread a.words name pc') 2 a
  by_way n pc' few way =
      way_leads my_code relied (IsApart s) home t thread at_work.runs at_work.no_events refl (Named relied t thread a.words name pc') n 2 (own pc thread.regs a.words) (own pc' named_regs a.words) few way (λ b f. record { here = f.here; words = f.words.by }) a starts

  pub identifies : (place : ResAt) → StandAt my_code pc (at_pos pos (identifier_instrs place)) → IsIdentifier relied s thread.regs.dp a.words place name → Within home relied (IsApart s) t (Named relied t thread a.words name (pc + length (at_pos pos (identifier_instrs place)))) 2 a
  identifies (Fixed id) st is =
      by_way 1 (pc + 1) (omega arith) (
        own (pc + 1) named_regs a.words,
        by_quiet my_code relied s (Ldc R11 id) thread.regs named_regs a.words pc (pc + 1) st.0 (record { row_is = λ h c u th. refl; no_event = refl })
            (λ ws g. ap (λ v. loads (own pc thread.regs ws) R11 (Some v)) (sym is)),
        refl,
      )
  identifies (Held n j) st is =
      let regs1 = reg_set thread.regs R11 is.0 in
      let there = is.1 in
      let address = address_at thread.regs.dp n in
      let e : pc + 1 + 1 ≡ pc + 2 = omega arith in
      by_way 2 (pc + 2) (omega arith) (
        own (pc + 1) regs1 a.words,
        by_quiet my_code relied s (Ldwdp R11 n) thread.regs regs1 a.words pc (pc + 1) st.0 (record { row_is = λ h c u th. refl; no_event = refl })
            (λ ws g. ap (loads (own pc thread.regs ws) R11) (word_by_same a.words ws address (nat_eq (address % 4) 0) (g.by (address / 4) there.relied_on) ∙ there.there)),
        (
          own (pc + 1 + 1) named_regs a.words,
          by_quiet my_code relied s (Addi R11 R11 (j * 256 % 2 ^ 32)) regs1 named_regs a.words (pc + 1) (pc + 1 + 1) st.2.0 (record { row_is = λ h c u th. refl; no_event = refl })
              (λ ws g. ap (λ v. loads (own (pc + 1) regs1 ws) R11 (Some v)) (sym is.2)),
          ap (λ p. own p named_regs a.words) e,
        ),
      )

-- the public clause, from the code alone
pub code_identifies : (place : ResAt) (pc : ℕ) (pos : Pos) → Identifies place pc (at_pos pos (identifier_instrs place))
code_identifies place pc pos = record {
  by = λ home relied s t name thread a st at_work is. identifies home relied s t name pc pos thread a at_work place st is;
}

pub identifier_aimed : (place : ResAt) (pc : ℕ) (pos : Pos) → AreAimed pc (at_pos pos (identifier_instrs place))
identifier_aimed (Fixed id) pc pos = plain_aimed pos (identifier_instrs (Fixed id)) pc ((λ size n. tt), tt)
identifier_aimed (Held n j) pc pos = plain_aimed pos (identifier_instrs (Held n j)) pc ((λ size i. tt), ((λ size i. tt), tt))
