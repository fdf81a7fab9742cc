-- Rows by the port that is there.
use Rattle.std.proofs.Common.{◌≡◌, ◌||◌, ℕ, Bool, true, false, List, Option, Some, None, refl, sym, ap, ◌∙◌}
use Rattle.xs_instr.specs.declared.image.Home.{Home}
use Rattle.xs_instr.specs.declared.image.PortDecl.{PortDecl}
use Rattle.xs_instr.specs.declared.state.Port.{Port}
use Rattle.xs_instr.specs.declared.state.PortGot.{PortGot}
use Rattle.xs_instr.specs.declared.trace.Trap.TheVariants.{Resource}
use Rattle.xs_instr.specs.Did.{Paused, Traps, is_step}
use Rattle.xs_instr.specs.Ports.{can_receive, can_send, counter, drives, drives_by, drives_on, meets, reads, reads_latched, reads_now, reads_on, time_meets}
use Rattle.xs_instr.specs.Slot.{is_there}

pub drive_traps : (home : Home) (clock v : ℕ) (ports : List Port) (p : ℕ) (port : Port) (decl : PortDecl) → decl ≡ port.decl → false ≡ can_send decl.dir → drives home clock v ports p port ≡ Traps Resource
drive_traps home clock v ports p port decl is way = ap (λ (d : PortDecl). drives_on home (counter clock) v ports p port (can_send d.dir)) (sym is) ∙ ap (drives_on home (counter clock) v ports p port) (sym way)

drive_by : (home : Home) (clock v : ℕ) (ports : List Port) (p : ℕ) (port : Port) (decl : PortDecl) (b : Bool) → decl ≡ port.decl → true ≡ can_send decl.dir → b ≡ time_meets port.time (counter clock) → drives home clock v ports p port ≡ drives_by home (counter clock) v ports p port b
drive_by home clock v ports p port decl b is way time = ap (λ (d : PortDecl). drives_on home (counter clock) v ports p port (can_send d.dir)) (sym is) ∙ ap (drives_on home (counter clock) v ports p port) (sym way) ∙ ap (drives_by home (counter clock) v ports p port) (sym time)

pub drive_step : (home : Home) (clock v : ℕ) (ports : List Port) (p : ℕ) (port : Port) (decl : PortDecl) → decl ≡ port.decl → true ≡ can_send decl.dir → true ≡ time_meets port.time (counter clock) → is_step (drives home clock v ports p port) ≡ true
drive_step home clock v ports p port decl is way time = ap is_step (drive_by home clock v ports p port decl true is way time)

pub drive_waits : (home : Home) (clock v : ℕ) (ports : List Port) (p : ℕ) (port : Port) (decl : PortDecl) → decl ≡ port.decl → true ≡ can_send decl.dir → false ≡ time_meets port.time (counter clock) → drives home clock v ports p port ≡ Paused
drive_waits home clock v ports p port decl is way time = drive_by home clock v ports p port decl false is way time

pub read_traps : (home : Home) (clock : ℕ) (ports : List Port) (p : ℕ) (port : Port) (decl : PortDecl) → decl ≡ port.decl → false ≡ can_receive decl.dir → reads home clock ports p port ≡ Traps Resource
read_traps home clock ports p port decl is way = ap (λ (d : PortDecl). reads_on home clock ports p port (can_receive d.dir)) (sym is) ∙ ap (reads_on home clock ports p port) (sym way)

read_by : (home : Home) (clock : ℕ) (ports : List Port) (p : ℕ) (port : Port) (decl : PortDecl) → decl ≡ port.decl → true ≡ can_receive decl.dir → reads home clock ports p port ≡ reads_latched home clock ports p port port.latch
read_by home clock ports p port decl is way = ap (λ (d : PortDecl). reads_on home clock ports p port (can_receive d.dir)) (sym is) ∙ ap (reads_on home clock ports p port) (sym way)

-- what is latched or meets is a step
pub latched_step : (home : Home) (clock : ℕ) (ports : List Port) (p : ℕ) (port : Port) (got : Option PortGot) →
    true ≡ (is_there got || meets home clock port) → is_step (reads_latched home clock ports p port got) ≡ true
latched_step home clock ports p port (Some got) h = refl
latched_step home clock ports p port None h = ap (λ b. is_step (reads_now home clock ports p port b)) (sym h)

latched_waits : (home : Home) (clock : ℕ) (ports : List Port) (p : ℕ) (port : Port) (got : Option PortGot) → false ≡ (is_there got || meets home clock port) → reads_latched home clock ports p port got ≡ Paused
latched_waits home clock ports p port (Some got) h = cc
latched_waits home clock ports p port None h = ap (reads_now home clock ports p port) (sym h)

pub read_step : (home : Home) (clock : ℕ) (ports : List Port) (p : ℕ) (port : Port) (decl : PortDecl) → decl ≡ port.decl → true ≡ can_receive decl.dir → true ≡ (is_there port.latch || meets home clock port) → is_step (reads home clock ports p port) ≡ true
read_step home clock ports p port decl is way h = ap is_step (read_by home clock ports p port decl is way) ∙ latched_step home clock ports p port port.latch h

pub read_waits : (home : Home) (clock : ℕ) (ports : List Port) (p : ℕ) (port : Port) (decl : PortDecl) → decl ≡ port.decl → true ≡ can_receive decl.dir → false ≡ (is_there port.latch || meets home clock port) → reads home clock ports p port ≡ Paused
read_waits home clock ports p port decl is way h = read_by home clock ports p port decl is way ∙ latched_waits home clock ports p port port.latch h
