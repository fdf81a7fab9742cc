use Rattle.std.proofs.Common.{◌≤◌, length, sym, subst}
use Rattle.xs_core.proofs.boot.state_for.Goals as goal
use Rattle.xs_core.proofs.Starting.{good_part, boots_in_order}
use Rattle.xs_instr.specs.declared.image.CoreImage.{CoreImage}
use Rattle.xs_instr.specs.Valid.{AreGoodPorts}

pub parts_for-requires-clause-ports : goal.parts_for-requires-clause-ports
parts_for-requires-clause-ports c =
    subst (λ (k : CoreImage). AreGoodPorts k.ports) (sym c.in_ok-fixed.ensures.parts) (good_part c.args.image.now.cores 0 c.args.number c.requires.image.cores).ports

pub parts_for-requires-clause-roots : goal.parts_for-requires-clause-roots
parts_for-requires-clause-roots c =
    subst (λ (k : CoreImage). length k.roots ≤ 8) (sym c.in_ok-fixed.ensures.parts) (good_part c.args.image.now.cores 0 c.args.number c.requires.image.cores).roots

pub returns-clause-order : goal.returns-clause-order
returns-clause-order c =
    boots_in_order c.args.image.now c.requires.image c.args.number c.in_ok-fixed.fixed c.in_ok-fixed.ensures.parts c.in_ok-fixed.ensures.pairs c.in_ok-fixed.ensures.peers
    c.parts_for.result c.parts_for.ensures.fixed c.parts_for.ensures.core c.parts_for.ensures.state
