use Rattle.std.proofs.Common.{◌≡◌, ◌∙◌, ap, length, sym, arith}
use Rattle.xs_event.proofs.Cleared.{cleared_to, cleared_to-length, cleared_to-none, cleared_to-set, length-cleared_to}
use Rattle.xs_event.proofs.events.clear_in.Goals as goal
use Rattle.xs_event.proofs.events.clear_in.Goals.{in-Some, in_default}

pub loop-n-preserved : goal.loop-n-preserved
loop-n-preserved c =
    elim c.match-copied.branch [
      | in-Some w ↦
          cleared_to-set c.args.watches.now c.loop-n.watches c.match-copied.watches c.args.thread c.loop-n.n w.in-Some.watch w.without.result
          c.loop-n.invariant (sym c.get.ensures ∙ sym c.copied.ensures ∙ w.in-Some.is) w.without.ensures (w.watches-is ∙ w.set.ensures)
      | in_default w ↦
          cleared_to-none c.args.watches.now c.loop-n.watches c.match-copied.watches c.args.thread c.loop-n.n
          c.loop-n.invariant (sym c.get.ensures ∙ sym c.copied.ensures ∙ w.in_default.is) w.watches-is
    ]

pub returns-clause-cleared : goal.returns-clause-cleared
returns-clause-cleared c =
    let all : c.loop-n.n ≡ length c.args.watches.now = omega arith in
    c.loop-n.invariant ∙ ap (cleared_to c.args.watches.now c.args.thread) all ∙ cleared_to-length c.args.watches.now c.args.thread

pub returns-clause-as_many : goal.returns-clause-as_many
returns-clause-as_many c =
    ap length c.loop-n.invariant ∙ length-cleared_to c.args.watches.now c.args.thread c.loop-n.n
