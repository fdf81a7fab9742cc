use Rattle.xc_nonterminals.proofs.Reading.Exits.{handed_on}
use Rattle.xc_nonterminals.proofs.Stating.Tails.{output_sign_stops, value_stops, output_stamp_stops, output_close_stops, output_row_read}
use Rattle.xc_nonterminals.proofs.parser.Parser.output_tail.Goals as goal

pub returns-in_err-sends-clause-stopped : goal.returns-in_err-sends-clause-stopped
returns-in_err-sends-clause-stopped c =
    handed_on _ c.from_residual.result c.from_residual.ensures.1
    (output_sign_stops c.args.self.now.toks.now c.args.room c.args.at _ (c.in_err-sends.ensures.stopped _))

pub returns-in_err-value-clause-stopped : goal.returns-in_err-value-clause-stopped
returns-in_err-value-clause-stopped c =
    handed_on _ c.from_residual-in_err-value.result c.from_residual-in_err-value.ensures.1
    (value_stops c.args.self.now.toks.now c.args.room c.args.at (c.in_ok-sends.ensures.read _) _ c.in_err-value.ensures.stopped)

pub returns-in_err-value-2-clause-stopped : goal.returns-in_err-value-2-clause-stopped
returns-in_err-value-2-clause-stopped c =
    let stopped = rw c.in_err-value-2.ensures.failed at c.maybe_stamp.ensures.stopped in
    handed_on _ c.from_residual-in_err-value-2.result c.from_residual-in_err-value-2.ensures.1
    (output_stamp_stops c.args.self.now.toks.now c.args.room c.args.at (c.in_ok-sends.ensures.read _) c.in_ok-value.ensures.read _ stopped)

pub returns-in_err-value-3-clause-stopped : goal.returns-in_err-value-3-clause-stopped
returns-in_err-value-3-clause-stopped c =
    let stamp = rw c.in_ok-value-2.ensures.made at c.maybe_stamp.ensures.read in
    let stopped = rw c.in_err-value-3.ensures.failed at c.closed.ensures.stopped in
    handed_on _ c.from_residual-in_err-value-3.result c.from_residual-in_err-value-3.ensures.1
    (output_close_stops c.args.self.now.toks.now c.args.room c.args.at (c.in_ok-sends.ensures.read _) c.in_ok-value.ensures.read stamp _ (stopped _))

pub returns-clause-read : goal.returns-clause-read
returns-clause-read c =
    let stamp = rw c.in_ok-value-2.ensures.made at c.maybe_stamp.ensures.read in
    let same = rw c.in_ok-value-3.ensures.made at c.closed.ensures.value in
    let closed = rw c.in_ok-value-3.ensures.made at c.closed.ensures.read in
    rw (c.in_ok-value-3.ensures.value, c.in_ok-value-2.ensures.value, same)
    (c.in_ok-sends.sends.value, closed.0, output_row_read c.args.self.now.toks.now c.args.room c.args.at (c.in_ok-sends.ensures.read _) c.in_ok-value.ensures.read stamp (closed.1 _))
