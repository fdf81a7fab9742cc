use Rattle.std.proofs.Common.{◌∙◌, ap, length, refl, arith}
use Rattle.xr_windows.specs.Alone.{alone, begins}
use Rattle.xr_windows.specs.Coming.{coming_of}
use Rattle.xr_windows.proofs.AllRounds.{can_go, no_rounds, rounds_more}
use Rattle.xr_windows.proofs.rounds.run_ticks.Goals as goal

pub loop-round-init : goal.loop-round-init
loop-round-init c =
    let none = ap length c.requires.outbox in
    record {
      goes = no_rounds c.args.core.now.home c.args.core.now (coming_of c.args.coming.now) _ c.requires.outbox;
      home = refl;
      few = omega (arith, none);
      spare = omega (arith, none);
      len = omega arith;
      capacity = omega arith;
    }

pub one_round-requires-clause-can : goal.one_round-requires-clause-can
one_round-requires-clause-can c =
    can_go c.args.core.now.home _ _ c.loop-round.core _ _ c.loop-round.invariant.home c.loop-round.invariant.goes (c.requires.can c.loop-round.round (omega arith))

pub loop-round-preserved : goal.loop-round-preserved
loop-round-preserved c =
    let inv = c.loop-round.invariant in
    let home = c.args.core.now.home in
    let a0 = begins c.args.core.now.state (coming_of c.args.coming.now) in
    let few_before = inv.few in
    let few_now = c.one_round.ensures.few in
    let spare_before = inv.spare in
    let spare_now = c.one_round.ensures.spare in
    let len_before = inv.len in
    let len_now = c.one_round.ensures.len in
    let room_before = inv.capacity in
    let room_now = c.one_round.ensures.capacity in
    record {
      goes = rounds_more home _ a0 c.loop-round.round _ _ _ _ inv.home (c.one_round.ensures.goes (alone home a0 c.loop-round.round) _ inv.goes);
      home = c.one_round.ensures.home ∙ inv.home;
      few = omega (arith, few_before, few_now);
      spare = omega (arith, spare_before, spare_now);
      len = omega (arith, len_before, len_now);
      capacity = omega (arith, room_before, room_now);
    }
