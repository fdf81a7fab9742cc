use Rattle.std.proofs.Common.{◌+◌, ◌-◌, ◌*◌, length}
use Rattle.xc_nonterminals.proofs.Reading.Runs.{Inside, Climbs}
use Rattle.xc_nonterminals.proofs.parser.Parser.+expression.Given as goal

abbrev pub decreases-bare : goal.decreases-bare
decreases-bare l = 4 * l.room + 1

abbrev pub decreases-cast : goal.decreases-cast
decreases-cast l = 4 * l.room

abbrev pub decreases-choice : goal.decreases-choice
decreases-choice l = 4 * l.room

abbrev pub decreases-climb : goal.decreases-climb
decreases-climb l = 4 * l.room

abbrev pub decreases-expression : goal.decreases-expression
decreases-expression l = 4 * l.room + 3

abbrev pub decreases-level : goal.decreases-level
decreases-level l = 4 * l.room + 3

abbrev pub decreases-operand : goal.decreases-operand
decreases-operand l = 4 * l.room + 2

abbrev pub decreases-rest : goal.decreases-rest
decreases-rest l = 4 * l.room + 1

abbrev pub decreases-signed : goal.decreases-signed
decreases-signed l = 4 * l.room

abbrev pub decreases-variable : goal.decreases-variable
decreases-variable l = 4 * l.room

abbrev pub invariant-climb-operators : goal.invariant-climb-operators
invariant-climb-operators l = Climbs l.self.toks.now l.room l.level l.fn.first l.left

abbrev pub decreases-climb-operators : goal.decreases-climb-operators
decreases-climb-operators l = length l.self.toks.now - l.left.end

abbrev pub invariant-operand-brackets : goal.invariant-operand-brackets
invariant-operand-brackets l = Inside l.self.toks.now l.room l.at l.start l.operand

abbrev pub decreases-operand-brackets : goal.decreases-operand-brackets
decreases-operand-brackets l = l.start - l.at
