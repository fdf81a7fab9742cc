use Rattle.std.proofs.Common.{◌≤◌, ◌<◌, ◌-◌, length}
use Rattle.xc_nonterminals.proofs.Declaring.DeclaredRows.{Words}
use Rattle.xc_nonterminals.proofs.parser.Parser.word_declaration.Given as goal

abbrev pub invariant-declared : goal.invariant-declared
invariant-declared l = record {
  after : l.at < l.end;
  within : l.end ≤ length l.self.toks.now;
  words : Words l.self.toks.now l.room l.at l.end l.word.value l.declared;
}

abbrev pub decreases-declared : goal.decreases-declared
decreases-declared l = length l.self.toks.now - l.end
