use Rattle.std.proofs.Common.{◌≡◌, List, OnOk, subst}
use Rattle.xc_tree.specs.Names.Marks as marks
use Rattle.xc_tree.specs.Trees.{expression_of}
use Rattle.xc_tree.specs.Types.Named.{named_of}
use Rattle.xc_tree.specs.Types.Sites.{Site}
use Rattle.xc_types.specs.Checker.{saw}
use Rattle.xc_types.proofs.Unnamed.{unnamed_whole}
use Rattle.xc_types.proofs.lvals.whole.Goals as goal

pub returns-in_default : goal.returns-in_default
returns-in_default c =
    let found = c.args.found.now in
    subst (λ (ss : List Site). OnOk c.part.result (c.part.new.found ≡ saw found (marks.of_expression (expression_of c.args.e.now)) ss)) (unnamed_whole (named_of c.args.named.now) found.names c.args.e.now c.in_default.not-Name) c.part.ensures
