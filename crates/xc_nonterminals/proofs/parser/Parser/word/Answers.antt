use Rattle.std.proofs.Common.{◌+◌, subst}
use Rattle.xc_tree.specs.Symbol.{key}
use Rattle.xc_nonterminals.specs.Reading.{Reads}
use Rattle.xc_nonterminals.proofs.Derivations.Single.{key_reads, key_refuses, on_pos}
use Rattle.xc_nonterminals.proofs.parser.Parser.word.Goals as goal

pub returns-then-not-is_word-clause-stopped : goal.returns-then-not-is_word-clause-stopped
returns-then-not-is_word-clause-stopped c = key_refuses (c.is_word.ensures.no c.if-not-is_word.true)

pub returns-clause-read : goal.returns-clause-read
returns-clause-read c = λ room.
    let on = (c.is_word.ensures.yes c.if-not-is_word.false).1.1 in
    subst (λ p. Reads c.args.self.now.toks.now room (key c.args.wanted) c.args.at (c.args.at + 1) p) (on_pos on _) (key_reads on room)
