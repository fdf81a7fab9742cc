use Rattle.std.proofs.Common.{◌≡◌, length, replicate, Some, refl, ◌∙◌}
use Rattle.xc_size.specs.Sizes.{no_size}
use Rattle.xc_size.proofs.Filled.{empty_at, of_empty, at_more, of_next}
use Rattle.xc_size.proofs.filling.add_by_rounds.Goals as goal

pub loop-init : goal.loop-init
loop-init c =
    let e : c.from_vec.result ≡ replicate (length c.args.sizes.now.all) (Some no_size) = c.from_vec.ensures ∙ rw (c.len.ensures, c.none.ensures) at c.in_ok-repeated.ensures in
    record {
      all = refl;
      functions = of_empty c.args.sizes.now c.from_vec.result c.requires.functions e;
      right = empty_at c.args.sizes.now c.from_vec.result c.requires.functions e;
    }

pub loop-preserved : goal.loop-preserved
loop-preserved c = record {
  all = c.loop.invariant.all;
  functions = of_next c.loop.sizes c.in_ok-sizes.field-0 c.loop.invariant.functions c.in_ok-sizes.ensures;
  right = at_more c.loop.sizes c.in_ok-sizes.field-0 c.loop.counter c.loop.invariant.functions c.loop.invariant.right c.in_ok-sizes.ensures;
}
