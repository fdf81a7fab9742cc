use Rattle.std.proofs.Common.{◌≡◌, drop, map}
use Rattle.xc_tree.specs.Names.Marks as marks
use Rattle.xc_tree.specs.Trees.{declaration_of}
use Rattle.xc_tree.specs.Types.Named.{named_of}
use Rattle.xc_tree.specs.Types.Sites as sites
use Rattle.xc_types.specs.Enclosing.{around_of}
use Rattle.xc_types.specs.Checker.{saw}
use Rattle.xc_types.proofs.declarations.declarations.Given as goal

abbrev pub invariant-loop-d : goal.invariant-loop-d
invariant-loop-d l =
    saw l.initial.found (marks.each marks.of_declaration (map declaration_of l.declared)) (sites.of_declarations (named_of l.named) (around_of l.around) l.initial.found.names (map declaration_of l.declared))
    ≡ saw l.found (marks.each marks.of_declaration (map declaration_of (drop l.d-index l.declared))) (sites.of_declarations (named_of l.named) (around_of l.around) l.found.names (map declaration_of (drop l.d-index l.declared)))
