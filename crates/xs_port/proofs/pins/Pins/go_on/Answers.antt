use Rattle.std.proofs.Common.{◌+◌, arith}
use Rattle.xs_port.proofs.LineLemmas.{good_from}
use Rattle.xs_port.proofs.pins.Pins.go_on.Goals as goal

pub advance-self-inside-requires : goal.advance-self-inside-requires
advance-self-inside-requires c = rw c.as_slice.ensures (good_from 0 (c.self.inside.clock + 1) _ (omega arith) c.self.invariant.later)
