use Rattle.std.proofs.Common.{subst}
use Rattle.xr_board.proofs.Started.{starts}
use Rattle.xr_board.proofs.parts.part_of.Goals as goal
use Rattle.xr_windows.specs.Parts.{IsPartOf}

pub returns-clause-part : goal.returns-clause-part
returns-clause-part g c =
    let core = c.in_ok-core.core in
    let e = c.in_ok-core.ensures in
    subst (λ n. IsPartOf g.U.RunName.listing g.U.RunName.stimulus n c.new-2.result) c.requires.task.length
    (c.new-2.ensures.part g.U.RunName.listing g.U.RunName.stimulus
    (starts c.args.image.now g.U.RunName.listing c.args.stim.now g.U.RunName.stimulus core c.args.number c.requires.task.listing c.requires.task.stimulus c.requires.task.valid c.requires.task.good c.requires.number e.home e.state))
