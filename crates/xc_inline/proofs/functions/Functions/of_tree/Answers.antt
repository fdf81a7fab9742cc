use Rattle.std.proofs.Common.{List, subst, sym}
use Rattle.std.specs.List.{All}
use Rattle.xc_kernel.specs.Programs.{Function}
use Rattle.xc_inline.specs.Functions.{HasFewParameters, functions_among}
use Rattle.xc_inline.proofs.Laws.Functions.{functions_all, functions_more}
use Rattle.xc_inline.proofs.functions.Functions.of_tree.Goals as goal

pub loop-item-preserved : goal.loop-item-preserved
loop-item-preserved c =
    functions_more c.args.tree.now.items c.as_slice-item-items.result.now c.loop-item.item-index c.item-item.result (functions_among c.loop-item.all.items)
    c.as_slice-item-items.ensures c.item-item.is c.loop-item-test.true c.in_ok-add_function.ensures c.loop-item.invariant

pub invariant_of-result : goal.invariant_of-result
invariant_of-result c = record {
  few_parameters = subst (λ (fs : List Function). All HasFewParameters fs)
      (sym (functions_all c.args.tree.now.items c.as_slice-item-items.result.now c.loop-item.item-index (functions_among c.loop-item.all.items) c.as_slice-item-items.ensures c.loop-item-test.false c.loop-item.invariant))
      c.requires.parameters;
}

pub returns : goal.returns
returns c = functions_all c.args.tree.now.items c.as_slice-item-items.result.now c.loop-item.item-index (functions_among c.loop-item.all.items) c.as_slice-item-items.ensures c.loop-item-test.false c.loop-item.invariant
