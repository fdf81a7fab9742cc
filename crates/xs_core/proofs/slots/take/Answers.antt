use Rattle.std.proofs.Common.{List, sym, subst}
use Rattle.xs_core.proofs.Unused.{others_stay, still_unused}
use Rattle.xs_core.proofs.slots.take.Goals as goal
use Rattle.xs_core.specs.Idle.{KeepsOthers}
use Rattle.xs_instr.specs.declared.state.Thread.{Thread}

pub returns-in-Some-clause-rest : goal.returns-in-Some-clause-rest
returns-in-Some-clause-rest c =
    let threads = c.args.state.now.threads in
    still_unused c.args.in_use.now c.args.t threads c.apply.new.threads c.requires.used c.requires.unused
    (subst (λ (l : List Thread). KeepsOthers c.args.t threads l) (sym c.apply.ensures.threads) (others_stay threads c.args.t _))
