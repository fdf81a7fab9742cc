-- The end that code of a transfer uses is that of the side in which its branch stands.
use Rattle.std.proofs.Common.{◌≡◌, ℕ, List, Some, None, sym, ap, ◌∙◌, subst}
use Rattle.std.specs.Prelude.{slice_get, slice_index_or}
use Rattle.xs_instr.specs.declared.state.Regs.{Regs}
use Rattle.xs_instr.specs.Lines.{Line}
use Rattle.xc_meaning.specs.States.Channels.{Side}
use Rattle.xl_chan.specs.Transfers.{EndStands}
use Rattle.xl_expr.specs.Identifiers.{IsIdentifier}
use Rattle.xl_plan.specs.Layout.{end_name}
use Rattle.xl_ends.specs.Ends.{end_at, end_of_side}
use Rattle.xl_statements.specs.Pieces.{ByEndAt, LinesAt}
use Rattle.xr_simulation.specs.Runners.{Setting, Runner, code, end_place, home, plan, relied}
use Rattle.xr_simulation.specs.ThreadViews.{ThreadView}
use Rattle.xr_simulation.specs.NextStep.{HasBases}
use Rattle.xr_simulation.proofs.Image.Identifiers.{EndIsNamed}

module _ (g : Setting) (r : Runner) (c : ℕ) (side : Side) (z : ThreadView) (named : EndIsNamed g r c side z) where
  -- its identifier is where the code looks for it
  pub end_stands : (regs : Regs) → HasBases g r regs →
      EndStands (home g r) (relied g r) r.stack regs.dp (plan g r) named.end (end_place g r c side) z.core.words
  end_stands regs bases =
      let name = end_name r.core (end_place g r c side) in
      record {
        place = named.at;
        planned = named.planned;
        name = name;
        name_is = subst (λ dp. IsIdentifier (relied g r) r.stack dp z.core.words named.at name) (sym bases.base) named.is;
        names = named.names;
      }

  -- and there the lines of the transfer stand
  pub on_end : slice_index_or r.sides c None ≡ Some side → (P : (end : ℕ) → ℕ → List Line → Type 0) (pc pc' : ℕ) →
      ByEndAt (code g r) (plan g r) P (end_at (plan g r).channels r.sides c) pc pc' → LinesAt (code g r) (P named.end) pc pc'
  on_end stands_in P pc pc' h =
      subst (λ end. ByEndAt (code g r) (plan g r) P end pc pc')
      (ap (end_of_side (slice_get (plan g r).channels c)) stands_in ∙ named.is_end) h
