use Rattle.xc_nonterminals.proofs.Reading.Exits.{handed_on}
use Rattle.xc_nonterminals.proofs.Stating.Counting.{step_name_stops, step_symbol_stops, step_end_stops, step_read}
use Rattle.xc_nonterminals.proofs.parser.Parser.step.Goals as goal

pub returns-in_err-name-clause-stopped : goal.returns-in_err-name-clause-stopped
returns-in_err-name-clause-stopped c =
    handed_on _ c.from_residual.result c.from_residual.ensures.1
    (λ room. step_name_stops c.args.self.now.toks.now room c.args.at _ (c.in_err-name.ensures.stopped room))

pub returns-in_err-stepped-clause-stopped : goal.returns-in_err-stepped-clause-stopped
returns-in_err-stepped-clause-stopped c =
    handed_on _ c.from_residual-in_err-stepped.result c.from_residual-in_err-stepped.ensures.1
    (λ room. step_symbol_stops c.args.self.now.toks.now room c.args.at (c.in_ok-name.ensures.read room) _ (c.in_err-stepped.ensures.stopped room))

pub returns-in_err-closed-clause-stopped : goal.returns-in_err-closed-clause-stopped
returns-in_err-closed-clause-stopped c =
    handed_on _ c.from_residual-in_err-closed.result c.from_residual-in_err-closed.ensures.1
    (λ room. step_end_stops c.args.self.now.toks.now room c.args.at (c.in_ok-name.ensures.read room) (c.in_ok-stepped.ensures.read.1 room) _ (c.in_err-closed.ensures.stopped room))

pub returns-clause-read : goal.returns-clause-read
returns-clause-read c =
    rw (c.in_ok-closed.ensures.value, c.in_ok-stepped.ensures.value)
    (c.in_ok-stepped.ensures.read.0, c.in_ok-closed.ensures.read.0, λ room. step_read c.args.self.now.toks.now room c.args.at (c.in_ok-name.ensures.read room) (c.in_ok-stepped.ensures.read.1 room) (c.in_ok-closed.ensures.read.1 room))
