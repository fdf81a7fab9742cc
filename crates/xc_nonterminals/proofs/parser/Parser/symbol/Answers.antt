use Rattle.std.proofs.Common.{◌+◌, subst}
use Rattle.xc_tree.specs.Symbol.{sym}
use Rattle.xc_nonterminals.specs.Reading.{Reads}
use Rattle.xc_nonterminals.proofs.Derivations.Single.{sym_reads, sym_refuses, on_pos}
use Rattle.xc_nonterminals.proofs.parser.Parser.symbol.Goals as goal

pub returns-then-not-is_symbol-clause-stopped : goal.returns-then-not-is_symbol-clause-stopped
returns-then-not-is_symbol-clause-stopped c = sym_refuses (c.is_symbol.ensures.no c.if-not-is_symbol.true)

pub returns-clause-read : goal.returns-clause-read
returns-clause-read c = λ room.
    let on = (c.is_symbol.ensures.yes c.if-not-is_symbol.false).1.1 in
    subst (λ p. Reads c.args.self.now.toks.now room (sym c.args.wanted) c.args.at (c.args.at + 1) p) (on_pos on _) (sym_reads on room)
