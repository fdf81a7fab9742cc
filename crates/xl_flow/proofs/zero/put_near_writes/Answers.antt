use Rattle.std.proofs.Common.{ap, arith, length, length-append}
use Rattle.xs_instr.specs.Lines.{at_pos}
use Rattle.xl_expr.proofs.Emitted.{behind_extends, on_err}
use Rattle.xl_flow.specs.Zeros.{near_write, writes}
use Rattle.xl_flow.proofs.ZeroSteps.{near-length, none_yet, one_more}
use Rattle.xl_flow.proofs.zero.put_near_writes.Goals as goal

pub words-init : goal.words-init
words-init c = none_yet c.args.e.now

pub put_all-requires : goal.put_all-requires
put_all-requires c =
    let e = ap length c.words.invariant in
    omega (arith, e, length-append c.args.e.now (at_pos c.args.pos (writes (near_write c.args.n) c.words.i)), near-length c.args.pos c.args.n c.words.i)

pub returns-in_err-put_all-clause-refused : goal.returns-in_err-put_all-clause-refused
returns-in_err-put_all-clause-refused c = on_err _ _ (behind_extends c.args.e.now c.words.e _ _ c.words.invariant c.in_err-put_all.ensures.refused)

pub words-preserved : goal.words-preserved
words-preserved c = one_more (near_write c.args.n) c.args.pos c.words.i c.args.e.now c.words.e _ c.words.invariant c.in_ok-put_all.ensures.ok
