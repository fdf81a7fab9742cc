use Rattle.std.proofs.Common.{◌∙◌}
use Rattle.std.proofs.lemmas.Result.{err_from_is_err_and}
use Rattle.xw_io.proofs.Sinks.{went-on, fell-on, within-on}
use Rattle.xw_io.proofs.output.Out.write.Goals as goal

pub returns-in_err-start-clause-wrote : goal.returns-in_err-start-clause-wrote
returns-in_err-start-clause-wrote g c =
    let p = err_from_is_err_and c.from_residual.result c.from_residual.ensures.1 in
    rw p.1
    (c.in_err-start.ensures.wrote.0, fell-on _ _ _ _ _ c.args.piece.now c.loop-start.start c.loop-start.invariant.went c.in_err-start.ensures.wrote.1)

pub loop-start-preserved : goal.loop-start-preserved
loop-start-preserved g c = record {
  within = within-on c.args.piece.now c.loop-start.start c.in_ok-start.field-0 c.loop-start.invariant.within c.in_ok-start.ensures.wrote.3;
  same_sink = c.in_ok-start.ensures.same_sink ∙ c.loop-start.invariant.same_sink;
  usable = c.in_ok-start.ensures.wrote.0;
  went = went-on _ _ _ _ _ c.args.piece.now c.loop-start.start c.in_ok-start.field-0 c.loop-start.invariant.went c.in_ok-start.ensures.wrote.1;
}
