use Rattle.xs_instr.specs.Machine.{Step}
use Rattle.xs_fabric.proofs.Running.{event_running}
use Rattle.xs_fabric.proofs.machine.Machine.step.Goals as goal

pub invariant_of-self : goal.invariant_of-self
invariant_of-self c =
    let m = c.self.inside in
    let r = c.self.invariant in
    let stepped = c.step_core.ensures in
    event_running m.cores.items m.links m.trace.items r (Step c.args.core c.args.thread) c.step_core.result c.step_core.new.cores.items c.step_core.new.links c.step_core.new.trace.items (stepped.event r.image r.stim r.of) stepped.homes stepped.idle
