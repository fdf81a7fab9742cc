use Rattle.std.proofs.Common.{◌≡◌, ◌∙◌, Some, Option, sym, subst, rules}
use Rattle.std.specs.Prelude.{IfSome, slice_get}
use Rattle.xs_core.proofs.OwnRows.{all_some, made_runs, ok_some}
use Rattle.xs_core.proofs.Turning.{goes_on}
use Rattle.xs_core.proofs.slots.run_alone.Goals as goal
use Rattle.xs_core.specs.declared.local_rows.LocalStep.{LocalStep}
use Rattle.xs_core.specs.declared.slot_result.SlotResult.TheVariants.{Local}
use Rattle.xs_core.specs.Local.{LocalFits, local_in}
use Rattle.xs_core.specs.Seen.{home_of, state_of}
use Rattle.xs_core.specs.SlotResults.{denote}
use Rattle.xs_instr.specs.Slot.{instr_at, runs_on}

pub returns-clause-means : goal.returns-clause-means
returns-clause-means c = λ t.
    let home = home_of c.args.state.now in
    let core = state_of c.args.state.now in
    let x = c.args.thread.now in
    let i = c.in_ok-instr.field-0.now in
    let found : slice_get c.args.state.now.fixed.parts.code.instrs x.pc ≡ Some i = search rules in
    subst (λ (o : Option LocalStep). IfSome o (λ step. denote home core t x (Local step) ≡ runs_on home core t x (instr_at home x.pc))) (sym c.ok.ensures.value)
    (made_runs home core t x (instr_at home x.pc) i c.step.result c.if-thread.false found (sym c.is_local.ensures ∙ c.if-not-is_local.false) c.step.ensures.row)

pub returns-clause-fits : goal.returns-clause-fits
returns-clause-fits c = λ t.
    subst (λ (o : Option LocalStep). IfSome o (LocalFits (local_in c.args.thread.now c.args.state.now.words))) (sym c.ok.ensures.value)
    (ok_some (LocalFits (local_in c.args.thread.now c.args.state.now.words)) c.step.result c.step.ensures.fits)

pub returns-clause-room : goal.returns-clause-room
returns-clause-room c =
    let found : slice_get c.args.state.now.fixed.parts.code.instrs c.args.thread.now.pc ≡ Some c.in_ok-instr.field-0.now = search rules in
    all_some _ c.ok.result (λ step. goes_on c.args.state.now.fixed.parts.code.instrs c.args.thread.now.pc c.in_ok-instr.field-0.now c.requires.order.code found)
