use Rattle.std.proofs.Common.{List, bytes_eq, ap, subst, sym, ◌∙◌}
use Rattle.std.specs.Borrow.{Bor}
use Rattle.std.specs.List.{All}
use Rattle.xc_tree.specs.declared.tree.FuncItem.{FuncItem}
use Rattle.xc_inline.specs.Functions.{HasFewParameters, functions_among, deepest}
use Rattle.xc_inline.proofs.Laws.Functions.{few_at, named_here, named_behind, named_nowhere, deep_here, deep_behind}
use Rattle.xc_inline.proofs.functions.Functions.named.Goals as goal

pub returns-then-eq-clause-parameters : goal.returns-then-eq-clause-parameters
returns-then-eq-clause-parameters c =
    let few = subst (λ (fs : List (Bor FuncItem)). All HasFewParameters (functions_among fs)) (sym c.deref-function-items.ensures.value) c.args.self.now.few_parameters in
    few_at c.deref-function-items.result.now c.loop-function.function-index c.function-item.result few c.function-item.is c.loop-function-test.true

pub returns-then-eq-clause-function : goal.returns-then-eq-clause-function
returns-then-eq-clause-function c =
    named_here c.args.self.now.all.items c.deref-function-items.result.now c.loop-function.function-index c.function-item.result
    c.deref-function-items.ensures.value c.function-item.is c.loop-function-test.true c.args.name.now
    (c.if-eq.ensures ∙ ap (λ t. bytes_eq t c.args.name.now) c.as_slice.ensures) c.loop-function.invariant.0

pub returns-then-eq-clause-depth : goal.returns-then-eq-clause-depth
returns-then-eq-clause-depth c =
    deep_here c.args.self.now.all.items c.deref-function-items.result.now c.loop-function.function-index c.function-item.result
    c.deref-function-items.ensures.value c.function-item.is c.loop-function-test.true (deepest c.args.self.now.all.items) c.loop-function.invariant.1

pub loop-function-preserved : goal.loop-function-preserved
loop-function-preserved c = (
  named_behind c.args.self.now.all.items c.deref-function-items.result.now c.loop-function.function-index c.function-item.result
      c.deref-function-items.ensures.value c.function-item.is c.loop-function-test.true c.args.name.now
      (c.if-eq.ensures ∙ ap (λ t. bytes_eq t c.args.name.now) c.as_slice.ensures) c.loop-function.invariant.0,
  deep_behind c.args.self.now.all.items c.deref-function-items.result.now c.loop-function.function-index c.function-item.result
      c.deref-function-items.ensures.value c.function-item.is c.loop-function-test.true (deepest c.args.self.now.all.items) c.loop-function.invariant.1,
)

pub returns-clause-function : goal.returns-clause-function
returns-clause-function c =
    named_nowhere c.args.self.now.all.items c.deref-function-items.result.now c.loop-function.function-index c.args.name.now
    c.deref-function-items.ensures.value c.loop-function-test.false c.loop-function.invariant.0
