use Rattle.std.proofs.Common.{false, sym, subst}
use Rattle.xt_core.proofs.turns.core_with.Goals as goal
use Rattle.xs_core.specs.Deliver.{HasRoomAt}
use Rattle.xs_core.specs.Room.{Credits, Tokens}
use Rattle.xs_instr.specs.declared.image.Home.{Home}
use Rattle.xs_instr.specs.declared.state.CoreState.{CoreState}
use Rattle.xs_instr.specs.Machine.{home_of}

pub deliver-requires : goal.deliver-requires
deliver-requires c =
    subst (λ (h : Home). HasRoomAt h Tokens Credits c.in_ok-core.core.state.ends 2) (sym c.in_ok-core.ensures.home)
    (subst (λ (s : CoreState). HasRoomAt (home_of c.args.image.now c.args.stim.now 0) Tokens Credits s.ends 2) (sym c.in_ok-core.ensures.state) (c.requires.far (record { control = false; byte = 0 })))
