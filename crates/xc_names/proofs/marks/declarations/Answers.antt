use Rattle.std.proofs.Common.{◌+◌, ◌++◌, List, drop, map, sym, ap, ◌∙◌, append-nil}
use Rattle.std.proofs.lemmas.List.{drop_all}
use Rattle.xc_tree.specs.declared.tree.Declared.{Declared}
use Rattle.xc_tree.specs.Names.Marks.{each, of_declaration, of_initial}
use Rattle.xc_tree.specs.Trees.{declaration_of, kind_of}
use Rattle.xc_names.proofs.Steps.{behind_one, behind_two, each_step}
use Rattle.xc_names.proofs.marks.declarations.Goals as goal

pub loop-d-preserved : goal.loop-d-preserved
loop-d-preserved c =
    let d = c.d-item.result in
    let rest = each of_declaration (map declaration_of (drop (c.loop-d.d-index + 1) c.args.declared.now)) in
    c.loop-d.invariant
    ∙ rw (
      each_step of_declaration declaration_of c.args.declared.now c.loop-d.d-index d c.d-item.is c.loop-d-test.true,
      ← c.what_of.ensures,
      behind_one,
      ← c.in_ok-add_declaration.ensures,
      behind_two c.add_declaration.new.out (of_initial (kind_of d.kind)) rest,
      ← c.in_ok-initial.ensures,
    )

pub returns : goal.returns
returns c =
    sym (c.loop-d.invariant
    ∙ ap (λ (ds : List Declared). c.loop-d.out ++ each of_declaration (map declaration_of ds))
    (drop_all c.loop-d.d-index c.args.declared.now c.loop-d-test.false)
    ∙ append-nil c.loop-d.out)
