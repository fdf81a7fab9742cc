use Rattle.std.proofs.Common.{◌-◌, length}
use Rattle.xc_nonterminals.proofs.Reading.Runs.{Run}
use Rattle.xc_nonterminals.proofs.parser.Parser.brackets_end.Given as goal

abbrev pub invariant-brackets : goal.invariant-brackets
invariant-brackets l = Run l.self.toks.now l.at l.end

abbrev pub decreases-brackets : goal.decreases-brackets
decreases-brackets l = length l.self.toks.now - l.end
