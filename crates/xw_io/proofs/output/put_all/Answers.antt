use Rattle.std.proofs.Common.{arith, drop}
use Rattle.xw_io.proofs.Sinks.{gained-on, passed-front, rose-later, within-on}
use Rattle.xw_io.proofs.output.put_all.Goals as goal

pub loop-start-preserved : goal.loop-start-preserved
loop-start-preserved g c = record {
  within = within-on c.args.text.now c.loop-start.start c.in-Took.n c.loop-start.invariant.within c.in-Took.ensures.put.1;
  counts = omega (arith, c.in-Took.ensures.faults);
  told = gained-on _ _ _ c.args.text.now c.loop-start.start c.in-Took.n c.loop-start.invariant.within c.loop-start.invariant.told c.in-Took.ensures.put.2;
}

pub returns-in-Failed-clause-err : goal.returns-in-Failed-clause-err
returns-in-Failed-clause-err g c = (
  rose-later _ _ _ c.loop-start.invariant.counts c.in-Failed.ensures.put.0,
  (drop c.loop-start.start c.args.text.now, passed-front _ _ _ _ _ c.loop-start.invariant.told c.in-Failed.ensures.put.1),
)
