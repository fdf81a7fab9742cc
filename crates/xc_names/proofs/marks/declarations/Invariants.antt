use Rattle.std.proofs.Common.{◌≡◌, ◌++◌, drop, map}
use Rattle.xc_tree.specs.Names.Marks.{each, of_declaration}
use Rattle.xc_tree.specs.Trees.{declaration_of}
use Rattle.xc_names.proofs.marks.declarations.Given as goal

abbrev pub invariant-loop-d : goal.invariant-loop-d
invariant-loop-d l =
    l.initial.out ++ each of_declaration (map declaration_of l.declared) ≡ l.out ++ each of_declaration (map declaration_of (drop l.d-index l.declared))
