use Rattle.xs_core.proofs.port_rows.read_port.Goals as goal
use Rattle.xs_core.proofs.port_rows.read_port.Goals.{then-not-has-via-then-not-has, then-not-has-via-else-not-has+then-not-receives}
use Rattle.xs_core.proofs.Found.{absent, found, found_step}
use Rattle.xs_core.proofs.FoundPorts.{read_step, read_traps, read_waits}
use Rattle.xs_core.specs.Seen.{home_of}
use Rattle.xs_port.specs.Ports.{no_port, port_at}
use Rattle.xs_instr.specs.declared.trace.Trap.TheVariants.{Resource}
use Rattle.xs_instr.specs.Did.{Paused, Traps}

pub returns-then-not-has-clause-means : goal.returns-then-not-has-clause-means
returns-then-not-has-clause-means c t name x = elim c.then-not-has.branch [
  | then-not-has-via-then-not-has w ↦ absent _ _ _ _ w.if-not-has.ensures
  | then-not-has-via-else-not-has+then-not-receives w ↦ found _ _ _ _ no_port (Traps Resource) w.if-not-has.ensures (read_traps (home_of c.args.state.now) c.args.state.now.ports.clock c.args.state.now.ports.ports c.args.p (port_at c.args.state.now.ports c.args.p) w.decl.result w.decl.ensures w.if-not-receives.ensures)
]

pub returns-then-can_read-clause-steps : goal.returns-then-can_read-clause-steps
returns-then-can_read-clause-steps c t x = found_step _ _ _ _ no_port c.if-not-has.ensures (read_step (home_of c.args.state.now) c.args.state.now.ports.clock c.args.state.now.ports.ports c.args.p (port_at c.args.state.now.ports c.args.p) c.decl.result c.decl.ensures c.if-not-receives.ensures c.if-can_read.ensures)

pub returns-else-can_read-clause-means : goal.returns-else-can_read-clause-means
returns-else-can_read-clause-means c t name x = found _ _ _ _ no_port Paused c.if-not-has.ensures (read_waits (home_of c.args.state.now) c.args.state.now.ports.clock c.args.state.now.ports.ports c.args.p (port_at c.args.state.now.ports c.args.p) c.decl.result c.decl.ensures c.if-not-receives.ensures c.if-can_read.ensures)
