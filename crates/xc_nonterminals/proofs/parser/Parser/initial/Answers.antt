use Rattle.xc_nonterminals.proofs.Valued.RightSides.{if_ok, if_err, no_initial, reads_initial, stops_initial}
use Rattle.xc_nonterminals.proofs.parser.Parser.initial.Goals as goal

pub returns-then-not-is_symbol-clause-stopped : goal.returns-then-not-is_symbol-clause-stopped
returns-then-not-is_symbol-clause-stopped c = no_initial c.args.self.now.toks.now c.args.room c.args.at (c.is_symbol.ensures.no c.if-not-is_symbol.true)

pub returns-clause-read : goal.returns-clause-read
returns-clause-read c =
    let y = c.is_symbol.ensures.yes c.if-not-is_symbol.false in
    if_ok c.rhs.result (λ r h. reads_initial c.args.self.now.toks.now c.args.room c.args.at r.end r.value y.1.1 h) c.rhs.ensures.read

pub returns-clause-stopped : goal.returns-clause-stopped
returns-clause-stopped c =
    let y = c.is_symbol.ensures.yes c.if-not-is_symbol.false in
    if_err c.rhs.result (λ e h. stops_initial c.args.self.now.toks.now c.args.room c.args.at e y.1.1 h) c.rhs.ensures.stopped
