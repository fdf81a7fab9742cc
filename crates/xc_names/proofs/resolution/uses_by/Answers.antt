use Rattle.std.proofs.Common.{subst}
use Rattle.xc_tree.specs.Names.Rules.{Breaks}
use Rattle.xc_tree.specs.Trees.{program_of}
use Rattle.xc_tree.specs.Least.{IsLeastOf}
use Rattle.xc_tree.proofs.Leasts.{none_of}
use Rattle.xc_names.proofs.Together.{no_name}
use Rattle.xc_names.proofs.resolution.uses_by.Goals as goal

pub uses-requires-clause-unbroken : goal.uses-requires-clause-unbroken
uses-requires-clause-unbroken c =
    no_name (program_of c.args.tree.now) c.args.marks.now c.requires.marks
    (none_of (Breaks (program_of c.args.tree.now)) (subst (IsLeastOf (Breaks (program_of c.args.tree.now))) c.in-None.is c.in_ok-broken.ensures))
