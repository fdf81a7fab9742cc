-- Ports. The clock is 70000, so the counter is 4464, and the pins of 4A are 5.
use Rattle.std.specs.Prelude.{◌≡◌, ℕ, true, [], ◌∷◌, Some, None, refl}
use Rattle.xs_instr.specs.declared.image.Dir.TheVariants.{In as DirIn, Out as DirOut, Both as DirBoth}
use Rattle.xs_instr.specs.declared.instr.Cond.TheVariants.{None as CondNone, Eq as CondEq, Neq as CondNeq, After as CondAfter}
use Rattle.xs_instr.specs.declared.instr.Instr.TheVariants.{Out, In, Setc, Setd, Setpt, Getts}
use Rattle.xs_instr.specs.declared.instr.Reg.TheVariants.{R0, R1, R2}
use Rattle.xs_instr.specs.declared.state.CoreState.{CoreState}
use Rattle.xs_instr.specs.declared.state.Port.{Port}
use Rattle.xs_instr.specs.declared.state.Regs.{Regs}
use Rattle.xs_instr.specs.declared.trace.Record.TheVariants.{PortOut, PortIn}
use Rattle.xs_instr.specs.declared.trace.Trap.TheVariants.{Resource}
use Rattle.xs_instr.specs.Did.{makes, Made, Paused, Traps}
use Rattle.xt_rows.proofs.Sample.{comes_of, port_0, running, sample, sync_0, three, timer_0}

-- thread 0 at an index with these registers, and port 0
abbrev with_port : ℕ → Regs → Port → CoreState
with_port pc regs port = record sample { threads = running pc regs ∷ []; ports = port ∷ [] }

-- the port 4A, whose last transfer was at counter 11
abbrev pins_4a : Port
pins_4a = record { decl = record { port = 16; dir = DirBoth }; cond = CondNone; datum = 0; time = None; latch = None; stamp = 11 }

-- OUT: the low four bits of 30 are 14

out-port :
    comes_of (Out R1 R2) (with_port 2 (three 7 port_0 30) pins_4a)
    ≡ Made (with_port 3 (three 7 port_0 30) (record pins_4a { stamp = 4464 })) (Some (PortOut 1 16 4464 14)) []
out-port = refl

out-port-due :
    comes_of (Out R1 R2) (with_port 2 (three 7 port_0 30) (record pins_4a { time = Some 4464 }))
    ≡ Made (with_port 3 (three 7 port_0 30) (record pins_4a { stamp = 4464 })) (Some (PortOut 1 16 4464 14)) []
out-port-due = refl

out-port-early : comes_of (Out R1 R2) (with_port 2 (three 7 port_0 30) (record pins_4a { time = Some 4465 })) ≡ Paused
out-port-early = refl

out-port-late : comes_of (Out R1 R2) (with_port 2 (three 7 port_0 30) (record pins_4a { time = Some 4463 })) ≡ Paused
out-port-late = refl

out-port-input :
    comes_of (Out R1 R2) (with_port 2 (three 7 port_0 30) (record pins_4a { decl = record { port = 16; dir = DirIn } }))
    ≡ Traps Resource
out-port-input = refl

out-port-none : comes_of (Out R1 R2) (with_port 2 (three 7 16777472 30) pins_4a) ≡ Traps Resource
out-port-none = refl

-- it looks at no condition, and leaves condition and latch

out-port-latched :
    comes_of (Out R1 R2) (with_port 2 (three 7 port_0 30) (record pins_4a { cond = CondEq; latch = Some (record { value = 9; stamp = 40 }) }))
    ≡ Made (with_port 3 (three 7 port_0 30) (record pins_4a { cond = CondEq; latch = Some (record { value = 9; stamp = 40 }); stamp = 4464 })) (Some (PortOut 1 16 4464 14)) []
out-port-latched = refl

-- IN: the pins

in-port :
    comes_of (In R0 R1) (with_port 2 (three 7 port_0 1) pins_4a)
    ≡ Made (with_port 3 (three 5 port_0 1) (record pins_4a { stamp = 4464 })) (Some (PortIn 1 16 4464 5)) []
in-port = refl

in-port-due :
    comes_of (In R0 R1) (with_port 2 (three 7 port_0 1) (record pins_4a { time = Some 4464 }))
    ≡ Made (with_port 3 (three 5 port_0 1) (record pins_4a { stamp = 4464 })) (Some (PortIn 1 16 4464 5)) []
in-port-due = refl

in-port-early : comes_of (In R0 R1) (with_port 2 (three 7 port_0 1) (record pins_4a { time = Some 4465 })) ≡ Paused
in-port-early = refl

in-port-output :
    comes_of (In R0 R1) (with_port 2 (three 7 port_0 1) (record pins_4a { decl = record { port = 16; dir = DirOut } }))
    ≡ Traps Resource
in-port-output = refl

in-port-none : comes_of (In R0 R1) (with_port 2 (three 7 16777472 1) pins_4a) ≡ Traps Resource
in-port-none = refl

-- the pins of 4B, of which the stimulus doesn't speak, are 0

in-port-unset :
    comes_of (In R0 R1) (with_port 2 (three 7 port_0 1) (record pins_4a { decl = record { port = 17; dir = DirIn } }))
    ≡ Made (with_port 3 (three 0 port_0 1) (record pins_4a { decl = record { port = 17; dir = DirIn }; stamp = 4464 })) (Some (PortIn 1 17 4464 0)) []
in-port-unset = refl

-- a condition compares with the low four bits of its data: those of 21 are 5

in-port-eq :
    comes_of (In R0 R1) (with_port 2 (three 7 port_0 1) (record pins_4a { cond = CondEq; datum = 21 }))
    ≡ Made (with_port 3 (three 5 port_0 1) (record pins_4a { cond = CondEq; datum = 21; stamp = 4464 })) (Some (PortIn 1 16 4464 5)) []
in-port-eq = refl

in-port-eq-not : comes_of (In R0 R1) (with_port 2 (three 7 port_0 1) (record pins_4a { cond = CondEq; datum = 6 })) ≡ Paused
in-port-eq-not = refl

in-port-neq :
    comes_of (In R0 R1) (with_port 2 (three 7 port_0 1) (record pins_4a { cond = CondNeq; datum = 6 }))
    ≡ Made (with_port 3 (three 5 port_0 1) (record pins_4a { cond = CondNeq; datum = 6; stamp = 4464 })) (Some (PortIn 1 16 4464 5)) []
in-port-neq = refl

in-port-neq-not : comes_of (In R0 R1) (with_port 2 (three 7 port_0 1) (record pins_4a { cond = CondNeq; datum = 21 })) ≡ Paused
in-port-neq-not = refl

in-port-eq-early :
    comes_of (In R0 R1) (with_port 2 (three 7 port_0 1) (record pins_4a { cond = CondEq; datum = 5; time = Some 4463 }))
    ≡ Paused
in-port-eq-early = refl

-- what is latched comes first, with its counter, and leaves time and condition

in-port-latched :
    comes_of (In R0 R1) (with_port 2 (three 7 port_0 1) (record pins_4a { cond = CondEq; datum = 6; time = Some 4465; latch = Some (record { value = 9; stamp = 40 }) }))
    ≡ Made (with_port 3 (three 9 port_0 1) (record pins_4a { cond = CondEq; datum = 6; time = Some 4465; stamp = 40 })) (Some (PortIn 1 16 40 9)) []
in-port-latched = refl

-- SETC clears time and latch

setc-port-eq :
    comes_of (Setc R1 CondEq) (with_port 2 (three 7 port_0 1) (record pins_4a { datum = 8; time = Some 3; latch = Some (record { value = 9; stamp = 40 }) }))
    ≡ makes (with_port 3 (three 7 port_0 1) (record pins_4a { datum = 8; cond = CondEq }))
setc-port-eq = refl

setc-port-neq :
    comes_of (Setc R1 CondNeq) (with_port 2 (three 7 port_0 1) (record pins_4a { time = Some 3 }))
    ≡ makes (with_port 3 (three 7 port_0 1) (record pins_4a { cond = CondNeq }))
setc-port-neq = refl

setc-port-none :
    comes_of (Setc R1 CondNone) (with_port 2 (three 7 port_0 1) (record pins_4a { cond = CondEq; latch = Some (record { value = 9; stamp = 40 }) }))
    ≡ makes (with_port 3 (three 7 port_0 1) pins_4a)
setc-port-none = refl

setc-port-after : comes_of (Setc R1 CondAfter) (with_port 2 (three 7 port_0 1) pins_4a) ≡ Traps Resource
setc-port-after = refl

setc-sync : comes_of (Setc R1 CondNone) (record (with_port 2 (three 7 sync_0 30) pins_4a) { syncs = true ∷ [] }) ≡ Traps Resource
setc-sync = refl

-- SETD keeps the whole word, SETPT its low 16 bits

setd-port :
    comes_of (Setd R1 R2) (with_port 2 (three 7 port_0 70000) (record pins_4a { latch = Some (record { value = 9; stamp = 40 }) }))
    ≡ makes (with_port 3 (three 7 port_0 70000) (record pins_4a { latch = Some (record { value = 9; stamp = 40 }); datum = 70000 }))
setd-port = refl

setd-sync : comes_of (Setd R1 R2) (record (with_port 2 (three 7 sync_0 30) pins_4a) { syncs = true ∷ [] }) ≡ Traps Resource
setd-sync = refl

setpt :
    comes_of (Setpt R1 R2) (with_port 2 (three 7 port_0 70000) (record pins_4a { latch = Some (record { value = 9; stamp = 40 }) }))
    ≡ makes (with_port 3 (three 7 port_0 70000) (record pins_4a { latch = Some (record { value = 9; stamp = 40 }); time = Some 4464 }))
setpt = refl

setpt-timer :
    comes_of (Setpt R1 R2) (record (with_port 2 (three 7 timer_0 30) pins_4a) { timers = record { cond = CondNone; datum = 0; latch = None } ∷ [] })
    ≡ Traps Resource
setpt-timer = refl

-- GETTS: the counter of the last transfer

getts :
    comes_of (Getts R0 R1) (with_port 2 (three 7 port_0 1) (record pins_4a { latch = Some (record { value = 9; stamp = 40 }) }))
    ≡ makes (with_port 3 (three 11 port_0 1) (record pins_4a { latch = Some (record { value = 9; stamp = 40 }) }))
getts = refl

getts-timer :
    comes_of (Getts R0 R1) (record (with_port 2 (three 7 timer_0 30) pins_4a) { timers = record { cond = CondNone; datum = 0; latch = None } ∷ [] })
    ≡ Traps Resource
getts-timer = refl
