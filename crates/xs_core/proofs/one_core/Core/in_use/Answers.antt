use Rattle.std.proofs.Common.{◌≡◌, subst}
use Rattle.xs_core.proofs.Unused.{no_turn}
use Rattle.xs_core.proofs.one_core.Core.in_use.Goals as goal
use Rattle.xs_core.specs.Core.{Seen}
use Rattle.xs_core.specs.Seen.{home_of, state_of}
use Rattle.xs_instr.specs.Did.{Idle}
use Rattle.xs_instr.specs.Slot.{slot}

pub returns-clause-rest : goal.returns-clause-rest
returns-clause-rest c t from =
    let s = c.self.inside.state in
    subst (λ (v : Seen). slot v.home v.state t ≡ Idle) c.self.view_is (no_turn (home_of s) (state_of s) c.self.inside.in_use c.self.invariant.unused t from)
