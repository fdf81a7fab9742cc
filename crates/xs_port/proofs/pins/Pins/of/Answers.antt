use Rattle.std.proofs.Common.{◌+◌, sym, ◌∙◌, drop, get_or, arith}
use Rattle.xs_port.proofs.LineLemmas.{later_same}
use Rattle.xs_port.proofs.pins.Pins.of.Goals as goal

pub returns : goal.returns
returns c =
    let p = c.self.inside in
    rw (← c.self.view_is)
    (sym (c.self.invariant.current p.clock c.args.id (omega arith) (omega arith)
    ∙ later_same (p.clock + 1) (drop p.used p.lines) p.core c.args.id p.clock (get_or p.values c.args.id 0) (omega arith) c.self.invariant.later))
