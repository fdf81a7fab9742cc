use Rattle.xr_windows.specs.Coming.{coming_of}
use Rattle.xr_windows.proofs.Comings.{late_all}
use Rattle.xr_windows.proofs.OneRound.{round_goes, up_room}
use Rattle.xr_windows.proofs.rounds.one_round.Goals as goal

pub deliver-requires : goal.deliver-requires
deliver-requires c =
    up_room c.args.core.now c.tick.new.self (coming_of c.args.coming.now) c.clock-clock.result c.tick.ensures c.clock-clock.ensures c.requires.can

pub returns-clause-goes : goal.returns-clause-goes
returns-clause-goes c a records0 h =
    round_goes a records0 c.args.core.now c.tick.new.self c.deliver.new.core c.take_turns.new.core (coming_of c.args.coming.now) (coming_of c.deliver.new.self) _ _ c.clock-clock.result h
    c.requires.can.clock c.tick.ensures c.clock-clock.ensures c.deliver.ensures.core
    (late_all c.clock-clock.result c.args.coming.now c.deliver.new.self c.deliver.ensures.from0 c.deliver.ensures.from1 c.deliver.ensures.from2 c.deliver.ensures.from3) c.take_turns.ensures.turns
