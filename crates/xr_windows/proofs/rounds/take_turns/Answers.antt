use Rattle.std.proofs.Common.{◌∙◌, refl, arith}
use Rattle.xr_windows.proofs.Ticking.{begun, no_turns, turns_more}
use Rattle.xr_windows.proofs.rounds.take_turns.Goals as goal
use Rattle.xs_fabric.specs.Lockstep.{turns}

pub loop-thread-init : goal.loop-thread-init
loop-thread-init c = record {
  turns = no_turns c.args.core.now.home c.args.core.now c.args.tick c.args.records.now.items;
  home = refl;
  few = omega arith;
  spare = refl;
  len = omega arith;
  capacity = omega arith;
}

pub loop-thread-preserved : goal.loop-thread-preserved
loop-thread-preserved c =
    let inv = c.loop-thread.invariant in
    let home = c.args.core.now.home in
    let t = c.loop-thread.thread in
    let few_before = inv.few in
    let few_now = c.take_turn.ensures.few in
    let spare_before = inv.spare in
    let spare_now = c.take_turn.ensures.spare in
    let len_before = inv.len in
    let len_now = c.take_turn.ensures.len in
    let room_before = inv.capacity in
    let room_now = c.take_turn.ensures.capacity in
    record {
      turns = turns_more home _ (begun c.args.core.now.state) t _ _ _ _ _ inv.home (c.take_turn.ensures.turn (turns home (begun c.args.core.now.state) t) _ _ inv.turns);
      home = c.take_turn.ensures.home ∙ inv.home;
      few = omega (arith, few_before, few_now);
      spare = omega (arith, spare_before, spare_now);
      len = omega (arith, len_before, len_now);
      capacity = omega (arith, room_before, room_now);
    }
