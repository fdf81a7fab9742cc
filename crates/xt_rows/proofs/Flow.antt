-- Branches, calls and returns.
use Rattle.std.specs.Prelude.{◌≡◌, [], ◌∷◌, refl}
use Rattle.xs_instr.specs.declared.instr.Instr.TheVariants.{Brft, Brff, Brfu, Brbt, Brbf, Brbu, Blrf, Blrb, Entsp, Retsp}
use Rattle.xs_instr.specs.declared.instr.Reg.TheVariants.{R1}
use Rattle.xs_instr.specs.declared.trace.Trap.TheVariants.{Address}
use Rattle.xs_instr.specs.Did.{Traps}
use Rattle.xs_instr.specs.Registers.{no_regs}
use Rattle.xt_rows.proofs.Sample.{done_with, goes_to, goes_to_with, three}

-- forwards

brft : done_with (Brft R1 5) (three 7 5 1) ≡ goes_to 5 (three 7 5 1)
brft = refl

brft-zero : done_with (Brft R1 5) (three 7 0 1) ≡ goes_to 3 (three 7 0 1)
brft-zero = refl

brff : done_with (Brff R1 5) (three 7 0 1) ≡ goes_to 5 (three 7 0 1)
brff = refl

brff-other : done_with (Brff R1 5) (three 7 5 1) ≡ goes_to 3 (three 7 5 1)
brff-other = refl

brfu : done_with (Brfu 5) (three 7 5 1) ≡ goes_to 5 (three 7 5 1)
brfu = refl

-- backwards, or to the instruction itself

brbt : done_with (Brbt R1 0) (three 7 5 1) ≡ goes_to 0 (three 7 5 1)
brbt = refl

brbt-zero : done_with (Brbt R1 0) (three 7 0 1) ≡ goes_to 3 (three 7 0 1)
brbt-zero = refl

brbf : done_with (Brbf R1 0) (three 7 0 1) ≡ goes_to 0 (three 7 0 1)
brbf = refl

brbf-other : done_with (Brbf R1 0) (three 7 5 1) ≡ goes_to 3 (three 7 5 1)
brbf-other = refl

brbu : done_with (Brbu 2) (three 7 5 1) ≡ goes_to 2 (three 7 5 1)
brbu = refl

-- lr is the next index

blrf : done_with (Blrf 5) (record no_regs { lr = 77 }) ≡ goes_to 5 (record no_regs { lr = 3 })
blrf = refl

blrb : done_with (Blrb 1) (record no_regs { lr = 77 }) ≡ goes_to 1 (record no_regs { lr = 3 })
blrb = refl

-- lr is stored at sp, and then sp goes down by n words

entsp : done_with (Entsp 2) (record no_regs { sp = 8; lr = 77 }) ≡ goes_to_with 3 (record no_regs { sp = 0; lr = 77 }) (10 ∷ 20 ∷ 77 ∷ [])
entsp = refl

entsp-wraps :
    done_with (Entsp 2) (record no_regs { sp = 4; lr = 77 })
    ≡ goes_to_with 3 (record no_regs { sp = 4294967292; lr = 77 }) (10 ∷ 77 ∷ 30 ∷ [])
entsp-wraps = refl

entsp-zero : done_with (Entsp 0) (record no_regs { sp = 8; lr = 77 }) ≡ goes_to 3 (record no_regs { sp = 8; lr = 77 })
entsp-zero = refl

entsp-past : done_with (Entsp 2) (record no_regs { sp = 12; lr = 77 }) ≡ Traps Address
entsp-past = refl

entsp-between : done_with (Entsp 2) (record no_regs { sp = 6; lr = 77 }) ≡ Traps Address
entsp-between = refl

-- sp goes up by n words, then lr is loaded from sp, and the way goes on at lr

retsp : done_with (Retsp 1) (record no_regs { sp = 4; lr = 77 }) ≡ goes_to 30 (record no_regs { sp = 8; lr = 30 })
retsp = refl

retsp-wraps : done_with (Retsp 2) (record no_regs { sp = 4294967292; lr = 77 }) ≡ goes_to 20 (record no_regs { sp = 4; lr = 20 })
retsp-wraps = refl

retsp-zero : done_with (Retsp 0) (record no_regs { sp = 8; lr = 77 }) ≡ goes_to 77 (record no_regs { sp = 8; lr = 77 })
retsp-zero = refl

retsp-past : done_with (Retsp 1) (record no_regs { sp = 8; lr = 77 }) ≡ Traps Address
retsp-past = refl

retsp-between : done_with (Retsp 1) (record no_regs { sp = 2; lr = 77 }) ≡ Traps Address
retsp-between = refl
