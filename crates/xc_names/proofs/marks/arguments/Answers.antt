use Rattle.std.proofs.Common.{◌++◌, List, map, sym, ap, ◌∙◌, append-nil}
use Rattle.std.proofs.lemmas.List.{drop_all}
use Rattle.xc_tree.specs.declared.tree.Arg.{Arg}
use Rattle.xc_tree.specs.Names.Marks.{each, of_argument}
use Rattle.xc_tree.specs.Trees.{argument_of}
use Rattle.xc_names.proofs.Steps.{behind_two, each_step}
use Rattle.xc_names.proofs.marks.arguments.Goals as goal

pub loop-arg-preserved : goal.loop-arg-preserved
loop-arg-preserved c =
    c.loop-arg.invariant
    ∙ rw (
      each_step of_argument argument_of c.args.args.now c.loop-arg.arg-index c.arg-item.result c.arg-item.is c.loop-arg-test.true,
      behind_two,
      ← c.in_ok-expression.ensures,
    )

pub returns : goal.returns
returns c =
    sym (c.loop-arg.invariant
    ∙ ap (λ (args : List Arg). c.loop-arg.out ++ each of_argument (map argument_of args))
    (drop_all c.loop-arg.arg-index c.args.args.now c.loop-arg-test.false)
    ∙ append-nil c.loop-arg.out)
