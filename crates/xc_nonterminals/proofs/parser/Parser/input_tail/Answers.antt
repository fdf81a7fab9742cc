use Rattle.std.proofs.Common.{inl, inr}
use Rattle.xc_nonterminals.proofs.Reading.Exits.{handed_on}
use Rattle.xc_nonterminals.proofs.Stating.Tails.{input_sign_stops, target_stops, input_stamp_stops, input_close_stops, input_row_read}
use Rattle.xc_nonterminals.proofs.parser.Parser.input_tail.Goals as goal

pub returns-in_err-receives-clause-stopped : goal.returns-in_err-receives-clause-stopped
returns-in_err-receives-clause-stopped c =
    handed_on _ c.from_residual.result c.from_residual.ensures.1
    (input_sign_stops c.args.self.now.toks.now c.args.room c.args.at _ (c.in_err-receives.ensures.stopped _))

pub returns-in_err-goal-clause-stopped : goal.returns-in_err-goal-clause-stopped
returns-in_err-goal-clause-stopped c =
    handed_on _ c.from_residual-in_err-goal.result c.from_residual-in_err-goal.ensures.1
    (elim c.in_err-goal.ensures.stopped.stops [
      | inl x ↦ target_stops c.args.self.now.toks.now c.args.room c.args.at (c.in_ok-receives.ensures.read _) _ x
      | inr y ↦ input_stamp_stops c.args.self.now.toks.now c.args.room c.args.at (c.in_ok-receives.ensures.read _) y.2 _ y.3
    ])

pub returns-in_err-closed-clause-stopped : goal.returns-in_err-closed-clause-stopped
returns-in_err-closed-clause-stopped c =
    let r = c.in_ok-goal.ensures.read in
    handed_on _ c.from_residual-in_err-closed.result c.from_residual-in_err-closed.ensures.1
    (input_close_stops c.args.self.now.toks.now c.args.room c.args.at (c.in_ok-receives.ensures.read _) r.target r.stored _ (c.in_err-closed.ensures.stopped _))

pub returns-clause-read : goal.returns-clause-read
returns-clause-read c =
    let r = c.in_ok-goal.ensures.read in
    rw c.in_ok-closed.ensures.value
    (c.in_ok-receives.receives.value, c.in_ok-closed.ensures.read.0, input_row_read c.args.self.now.toks.now c.args.room c.args.at (c.in_ok-receives.ensures.read _) r.target r.stored (c.in_ok-closed.ensures.read.1 _))
