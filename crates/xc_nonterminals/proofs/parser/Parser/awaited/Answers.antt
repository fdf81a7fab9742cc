use Rattle.xc_nonterminals.proofs.Reading.Exits.{handed_on}
use Rattle.xc_nonterminals.proofs.Stating.CaseSteps.{input_stops, colon_stops, input_reads}
use Rattle.xc_nonterminals.proofs.parser.Parser.awaited.Goals as goal

pub returns-in_err-input-clause-stopped : goal.returns-in_err-input-clause-stopped
returns-in_err-input-clause-stopped c =
    handed_on _ c.from_residual.result c.from_residual.ensures.1
    (input_stops c.args.self.now.toks.now c.args.room c.args.at _ c.in_err-input.ensures.stopped)

pub returns-in_err-closed-clause-stopped : goal.returns-in_err-closed-clause-stopped
returns-in_err-closed-clause-stopped c =
    handed_on _ c.from_residual-in_err-closed.result c.from_residual-in_err-closed.ensures.1
    (colon_stops c.args.self.now.toks.now c.args.room c.args.at _ c.in_ok-input.ensures.read (c.in_err-closed.ensures.stopped _))

pub returns-clause-read : goal.returns-clause-read
returns-clause-read c =
    rw c.in_ok-closed.ensures.value
    (c.in_ok-closed.ensures.read.0, input_reads c.args.self.now.toks.now c.args.room c.args.at c.in_ok-input.ensures.read (c.in_ok-closed.ensures.read.1 _))
