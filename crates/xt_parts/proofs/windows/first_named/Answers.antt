use Rattle.std.proofs.Common.{arith, subst}
use Rattle.xr_board.proofs.Started.{starts}
use Rattle.xr_windows.specs.Parts.{IsPartOf}
use Rattle.xt_parts.proofs.windows.first_named.Goals as goal

pub run_window-requires-clause-part : goal.run_window-requires-clause-part
run_window-requires-clause-part g c =
    let core = c.in_ok-core.core in
    let e = c.in_ok-core.ensures in
    subst (λ n. IsPartOf g.U.RunName.listing g.U.RunName.stimulus n c.new-part.result) c.requires.ticks
    (c.new-part.ensures.part g.U.RunName.listing g.U.RunName.stimulus
    (starts c.args.image.now g.U.RunName.listing c.args.stim.now g.U.RunName.stimulus core 1 c.requires.image c.requires.stim c.requires.valid c.requires.good (omega arith) e.home e.state))
