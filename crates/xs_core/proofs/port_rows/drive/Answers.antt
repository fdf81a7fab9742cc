use Rattle.xs_core.proofs.port_rows.drive.Goals as goal
use Rattle.xs_core.proofs.port_rows.drive.Goals.{then-not-has-via-then-not-has, then-not-has-via-else-not-has+then-not-sends}
use Rattle.xs_core.proofs.Found.{absent, found, found_step}
use Rattle.xs_core.proofs.FoundPorts.{drive_step, drive_traps, drive_waits}
use Rattle.xs_core.specs.Seen.{home_of}
use Rattle.xs_port.specs.Ports.{no_port, port_at}
use Rattle.xs_instr.specs.declared.trace.Trap.TheVariants.{Resource}
use Rattle.xs_instr.specs.Did.{Paused, Traps}

pub returns-then-not-has-clause-means : goal.returns-then-not-has-clause-means
returns-then-not-has-clause-means c t x = elim c.then-not-has.branch [
  | then-not-has-via-then-not-has w ↦ absent _ _ _ _ w.if-not-has.ensures
  | then-not-has-via-else-not-has+then-not-sends w ↦ found _ _ _ _ no_port (Traps Resource) w.if-not-has.ensures (drive_traps (home_of c.args.state.now) c.args.state.now.ports.clock c.args.value c.args.state.now.ports.ports c.args.p (port_at c.args.state.now.ports c.args.p) w.decl.result w.decl.ensures w.if-not-sends.ensures)
]

pub returns-then-can_drive-clause-steps : goal.returns-then-can_drive-clause-steps
returns-then-can_drive-clause-steps c t x = found_step _ _ _ _ no_port c.if-not-has.ensures (drive_step (home_of c.args.state.now) c.args.state.now.ports.clock c.args.value c.args.state.now.ports.ports c.args.p (port_at c.args.state.now.ports c.args.p) c.decl.result c.decl.ensures c.if-not-sends.ensures c.if-can_drive.ensures)

pub returns-else-can_drive-clause-means : goal.returns-else-can_drive-clause-means
returns-else-can_drive-clause-means c t x = found _ _ _ _ no_port Paused c.if-not-has.ensures (drive_waits (home_of c.args.state.now) c.args.state.now.ports.clock c.args.value c.args.state.now.ports.ports c.args.p (port_at c.args.state.now.ports c.args.p) c.decl.result c.decl.ensures c.if-not-sends.ensures c.if-can_drive.ensures)
