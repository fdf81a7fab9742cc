-- Words of memory.
use Rattle.std.specs.Prelude.{◌≡◌, [], ◌∷◌, refl}
use Rattle.xs_instr.specs.declared.instr.Instr.TheVariants.{Ldwdp, Stwdp, Ldawdp, Ldwsp, Stwsp, Ldawsp, Ldw, Stw, Setdp, Setsp}
use Rattle.xs_instr.specs.declared.instr.Reg.TheVariants.{R0, R1, R2}
use Rattle.xs_instr.specs.declared.trace.Trap.TheVariants.{Address}
use Rattle.xs_instr.specs.Did.{Traps}
use Rattle.xs_instr.specs.Registers.{no_regs}
use Rattle.xt_rows.proofs.Sample.{done_with, goes_to, goes_to_with, three}

-- dp + 4n: words stand at 0, 4 and 8

ldwdp : done_with (Ldwdp R0 1) (record no_regs { r0 = 7; dp = 4 }) ≡ goes_to 3 (record no_regs { r0 = 30; dp = 4 })
ldwdp = refl

ldwdp-wraps : done_with (Ldwdp R0 2) (record no_regs { r0 = 7; dp = 4294967292 }) ≡ goes_to 3 (record no_regs { r0 = 20; dp = 4294967292 })
ldwdp-wraps = refl

ldwdp-past : done_with (Ldwdp R0 2) (record no_regs { r0 = 7; dp = 4 }) ≡ Traps Address
ldwdp-past = refl

ldwdp-between : done_with (Ldwdp R0 1) (record no_regs { r0 = 7; dp = 2 }) ≡ Traps Address
ldwdp-between = refl

stwdp : done_with (Stwdp R0 1) (record no_regs { r0 = 7; dp = 4 }) ≡ goes_to_with 3 (record no_regs { r0 = 7; dp = 4 }) (10 ∷ 20 ∷ 7 ∷ [])
stwdp = refl

stwdp-past : done_with (Stwdp R0 2) (record no_regs { r0 = 7; dp = 4 }) ≡ Traps Address
stwdp-past = refl

stwdp-between : done_with (Stwdp R0 1) (record no_regs { r0 = 7; dp = 1 }) ≡ Traps Address
stwdp-between = refl

ldawdp : done_with (Ldawdp R0 2) (record no_regs { r0 = 7; dp = 5 }) ≡ goes_to 3 (record no_regs { r0 = 13; dp = 5 })
ldawdp = refl

ldawdp-wraps : done_with (Ldawdp R0 2) (record no_regs { r0 = 7; dp = 4294967292 }) ≡ goes_to 3 (record no_regs { r0 = 4; dp = 4294967292 })
ldawdp-wraps = refl

-- the same with sp

ldwsp : done_with (Ldwsp R0 1) (record no_regs { r0 = 7; sp = 4 }) ≡ goes_to 3 (record no_regs { r0 = 30; sp = 4 })
ldwsp = refl

ldwsp-wraps : done_with (Ldwsp R0 2) (record no_regs { r0 = 7; sp = 4294967292 }) ≡ goes_to 3 (record no_regs { r0 = 20; sp = 4294967292 })
ldwsp-wraps = refl

ldwsp-past : done_with (Ldwsp R0 2) (record no_regs { r0 = 7; sp = 4 }) ≡ Traps Address
ldwsp-past = refl

ldwsp-between : done_with (Ldwsp R0 1) (record no_regs { r0 = 7; sp = 2 }) ≡ Traps Address
ldwsp-between = refl

stwsp : done_with (Stwsp R0 1) (record no_regs { r0 = 7; sp = 4 }) ≡ goes_to_with 3 (record no_regs { r0 = 7; sp = 4 }) (10 ∷ 20 ∷ 7 ∷ [])
stwsp = refl

stwsp-past : done_with (Stwsp R0 2) (record no_regs { r0 = 7; sp = 4 }) ≡ Traps Address
stwsp-past = refl

stwsp-between : done_with (Stwsp R0 1) (record no_regs { r0 = 7; sp = 1 }) ≡ Traps Address
stwsp-between = refl

ldawsp : done_with (Ldawsp R0 2) (record no_regs { r0 = 7; sp = 5 }) ≡ goes_to 3 (record no_regs { r0 = 13; sp = 5 })
ldawsp = refl

ldawsp-wraps : done_with (Ldawsp R0 2) (record no_regs { r0 = 7; sp = 4294967292 }) ≡ goes_to 3 (record no_regs { r0 = 4; sp = 4294967292 })
ldawsp-wraps = refl

-- b + 4i: 4294967295 is -1

ldw : done_with (Ldw R0 R1 R2) (three 7 4 1) ≡ goes_to 3 (three 30 4 1)
ldw = refl

ldw-back : done_with (Ldw R0 R1 R2) (three 7 4 4294967295) ≡ goes_to 3 (three 10 4 4294967295)
ldw-back = refl

ldw-past : done_with (Ldw R0 R1 R2) (three 7 4 2) ≡ Traps Address
ldw-past = refl

ldw-between : done_with (Ldw R0 R1 R2) (three 7 3 1) ≡ Traps Address
ldw-between = refl

stw : done_with (Stw R0 R1 R2) (three 7 4 4294967295) ≡ goes_to_with 3 (three 7 4 4294967295) (7 ∷ 20 ∷ 30 ∷ [])
stw = refl

stw-past : done_with (Stw R0 R1 R2) (three 7 4 2) ≡ Traps Address
stw-past = refl

stw-between : done_with (Stw R0 R1 R2) (three 7 3 1) ≡ Traps Address
stw-between = refl

-- the registers that addresses are counted from

setdp : done_with (Setdp R0) (record no_regs { r0 = 7; dp = 4 }) ≡ goes_to 3 (record no_regs { r0 = 7; dp = 7 })
setdp = refl

setsp : done_with (Setsp R0) (record no_regs { r0 = 7; sp = 4 }) ≡ goes_to 3 (record no_regs { r0 = 7; sp = 7 })
setsp = refl
