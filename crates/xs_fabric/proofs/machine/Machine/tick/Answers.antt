use Rattle.xs_instr.specs.Machine.{Tick}
use Rattle.xs_fabric.proofs.Running.{event_running}
use Rattle.xs_fabric.proofs.machine.Machine.tick.Goals as goal

pub invariant_of-self : goal.invariant_of-self
invariant_of-self c =
    let m = c.self.inside in
    let r = c.self.invariant in
    let ticked = c.tick_core.ensures in
    event_running m.cores.items m.links m.trace.items r (Tick c.args.core) c.tick_core.result c.tick_core.new.cores.items m.links m.trace.items (ticked.event r.image r.stim m.links m.trace.items r.of) ticked.homes (ticked.idle r.idle)
