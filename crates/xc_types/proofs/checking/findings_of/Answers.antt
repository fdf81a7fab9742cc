use Rattle.xc_tree.specs.Names.Marks as marks
use Rattle.xc_tree.specs.Trees.{program_of}
use Rattle.xc_tree.specs.Types.Named.{named_of}
use Rattle.xc_types.proofs.Whole.{all_rules, all_types}
use Rattle.xc_types.proofs.checking.findings_of.Goals as goal

pub returns-clause-types : goal.returns-clause-types
returns-clause-types c = all_types (named_of c.args.named.now) c.new-found.result c.program.new.found (marks.of_items 0 (program_of c.args.named.now.tree)) c.new-found.ensures.names c.new-found.ensures.types c.in_ok-program.ensures

pub returns-clause-best : goal.returns-clause-best
returns-clause-best c = all_rules (named_of c.args.named.now) c.new-found.result c.program.new.found (marks.of_items 0 (program_of c.args.named.now.tree)) c.new-found.ensures.names c.new-found.ensures.best c.in_ok-program.ensures
