use Rattle.xc_nonterminals.proofs.Reading.Exits.{handed_on}
use Rattle.xc_nonterminals.proofs.Stating.Counting.{bound_name_stops, bound_symbol_stops, bound_number_stops, bound_end_stops, bound_read}
use Rattle.xc_nonterminals.proofs.parser.Parser.bound.Goals as goal

pub returns-in_err-name-clause-stopped : goal.returns-in_err-name-clause-stopped
returns-in_err-name-clause-stopped c =
    handed_on _ c.from_residual.result c.from_residual.ensures.1
    (λ room. bound_name_stops c.args.self.now.toks.now room c.args.wanted c.args.at _ (c.in_err-name.ensures.stopped room))

pub returns-in_err-closed-clause-stopped : goal.returns-in_err-closed-clause-stopped
returns-in_err-closed-clause-stopped c =
    handed_on _ c.from_residual-in_err-closed.result c.from_residual-in_err-closed.ensures.1
    (λ room. bound_symbol_stops c.args.self.now.toks.now room c.args.wanted c.args.at (c.in_ok-name.ensures.read room) _ (c.in_err-closed.ensures.stopped room))

pub returns-in_err-number-clause-stopped : goal.returns-in_err-number-clause-stopped
returns-in_err-number-clause-stopped c =
    handed_on _ c.from_residual-in_err-number.result c.from_residual-in_err-number.ensures.1
    (λ room. bound_number_stops c.args.self.now.toks.now room c.args.wanted c.args.at (c.in_ok-name.ensures.read room) (c.in_ok-closed.ensures.read.1 room) _ (c.in_err-number.ensures.stopped room))

pub returns-in_err-semicolon-clause-stopped : goal.returns-in_err-semicolon-clause-stopped
returns-in_err-semicolon-clause-stopped c =
    handed_on _ c.from_residual-in_err-semicolon.result c.from_residual-in_err-semicolon.ensures.1
    (λ room. bound_end_stops c.args.self.now.toks.now room c.args.wanted c.args.at (c.in_ok-name.ensures.read room) (c.in_ok-closed.ensures.read.1 room) (c.in_ok-number.ensures.read room) _ (c.in_err-semicolon.ensures.stopped room))

pub returns-clause-read : goal.returns-clause-read
returns-clause-read c =
    rw c.in_ok-closed.ensures.value
    (c.in_ok-closed.ensures.read.0, c.in_ok-semicolon.semicolon.value, λ room. bound_read c.args.self.now.toks.now room c.args.wanted c.args.at (c.in_ok-name.ensures.read room) (c.in_ok-closed.ensures.read.1 room) (c.in_ok-number.ensures.read room) (c.in_ok-semicolon.ensures.read room))
