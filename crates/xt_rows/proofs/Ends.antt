-- Channel ends. Ends 0 and 1 are each other's peer, and end 2 has its peer on core 0.
use Rattle.std.specs.Prelude.{◌≡◌, ℕ, List, [], ◌∷◌, Some, None, refl}
use Rattle.xs_instr.specs.declared.instr.Instr.TheVariants.{Out, Outt, Outct, In, Int, Chkct}
use Rattle.xs_instr.specs.declared.instr.Reg.TheVariants.{R0, R1, R2}
use Rattle.xs_instr.specs.declared.state.ChanEnd.{ChanEnd}
use Rattle.xs_instr.specs.declared.state.CoreState.{CoreState}
use Rattle.xs_instr.specs.declared.state.Moved.{Moved}
use Rattle.xs_instr.specs.declared.state.Moved.TheVariants.{Tok, Credit}
use Rattle.xs_instr.specs.declared.state.Regs.{Regs}
use Rattle.xs_instr.specs.declared.state.Sent.{Sent}
use Rattle.xs_instr.specs.declared.state.Token.{Token}
use Rattle.xs_instr.specs.declared.trace.Record.TheVariants.{Com}
use Rattle.xs_instr.specs.declared.trace.Trap.TheVariants.{Mismatch, Resource}
use Rattle.xs_instr.specs.Did.{makes, Made, Paused, Traps}
use Rattle.xs_instr.specs.Ends.{control_token, data_token}
use Rattle.xt_rows.proofs.Sample.{comes_of, end_0, end_1, end_2, lock_0, running, sample, three}

-- thread 0 at an index with these registers, and the ends
abbrev ends : ℕ → Regs → List ChanEnd → CoreState
ends pc regs all = record sample { threads = running pc regs ∷ []; ends = all }

-- an end with its tokens and credits
abbrev end : List Token → ℕ → ChanEnd
end tokens credits = record { tokens = tokens; credits = credits }

-- what goes to core 0 at the core's clock
abbrev away : Moved → Sent
away moved = record { to = 0; tick = 70000; moved = moved }

-- OUT: 16909060 is the bytes 1, 2, 3, 4

out-end :
    comes_of (Out R1 R2) (ends 2 (three 7 end_0 16909060) (end [] 8 ∷ end [] 8 ∷ []))
    ≡ makes (ends 3 (three 7 end_0 16909060) (end [] 4 ∷ end (data_token 1 ∷ data_token 2 ∷ data_token 3 ∷ data_token 4 ∷ []) 8 ∷ []))
out-end = refl

out-end-behind :
    comes_of (Out R1 R2) (ends 2 (three 7 end_0 16909060) (end (data_token 5 ∷ []) 4 ∷ end (data_token 9 ∷ []) 8 ∷ []))
    ≡ makes (ends 3 (three 7 end_0 16909060) (end (data_token 5 ∷ []) 0 ∷ end (data_token 9 ∷ data_token 1 ∷ data_token 2 ∷ data_token 3 ∷ data_token 4 ∷ []) 8 ∷ []))
out-end-behind = refl

out-end-short : comes_of (Out R1 R2) (ends 2 (three 7 end_0 16909060) (end [] 3 ∷ end [] 8 ∷ [])) ≡ Paused
out-end-short = refl

out-end-away :
    comes_of (Out R1 R2) (ends 2 (three 7 end_2 16909060) (end [] 8 ∷ end [] 8 ∷ end [] 8 ∷ []))
    ≡ Made (ends 3 (three 7 end_2 16909060) (end [] 8 ∷ end [] 8 ∷ end [] 4 ∷ [])) None (away (Tok 5 (data_token 1)) ∷ away (Tok 5 (data_token 2)) ∷ away (Tok 5 (data_token 3)) ∷ away (Tok 5 (data_token 4)) ∷ [])
out-end-away = refl

out-end-none : comes_of (Out R1 R2) (ends 2 (three 7 end_2 16909060) (end [] 8 ∷ end [] 8 ∷ [])) ≡ Traps Resource
out-end-none = refl

out-end-elsewhere : comes_of (Out R1 R2) (ends 2 (three 7 2 1) (end [] 8 ∷ end [] 8 ∷ [])) ≡ Traps Resource
out-end-elsewhere = refl

-- OUTT: the low byte of 259 is 3

outt :
    comes_of (Outt R1 R2) (ends 2 (three 7 end_0 259) (end [] 1 ∷ end [] 8 ∷ []))
    ≡ makes (ends 3 (three 7 end_0 259) (end [] 0 ∷ end (data_token 3 ∷ []) 8 ∷ []))
outt = refl

outt-short : comes_of (Outt R1 R2) (ends 2 (three 7 end_0 16909060) (end [] 0 ∷ end [] 8 ∷ [])) ≡ Paused
outt-short = refl

outt-away :
    comes_of (Outt R1 R2) (ends 2 (three 7 end_2 16909060) (end [] 8 ∷ end [] 8 ∷ end [] 8 ∷ []))
    ≡ Made (ends 3 (three 7 end_2 16909060) (end [] 8 ∷ end [] 8 ∷ end [] 7 ∷ [])) None (away (Tok 5 (data_token 4)) ∷ [])
outt-away = refl

outt-lock : comes_of (Outt R1 R2) (ends 2 (three 7 lock_0 1) (end [] 8 ∷ end [] 8 ∷ [])) ≡ Traps Resource
outt-lock = refl

-- OUTCT

outct :
    comes_of (Outct R1 2) (ends 2 (three 7 end_0 16909060) (end [] 1 ∷ end [] 8 ∷ []))
    ≡ makes (ends 3 (three 7 end_0 16909060) (end [] 0 ∷ end (control_token 2 ∷ []) 8 ∷ []))
outct = refl

outct-short : comes_of (Outct R1 2) (ends 2 (three 7 end_0 16909060) (end [] 0 ∷ end [] 8 ∷ [])) ≡ Paused
outct-short = refl

outct-away :
    comes_of (Outct R1 2) (ends 2 (three 7 end_2 16909060) (end [] 8 ∷ end [] 8 ∷ end [] 8 ∷ []))
    ≡ Made (ends 3 (three 7 end_2 16909060) (end [] 8 ∷ end [] 8 ∷ end [] 7 ∷ [])) None (away (Tok 5 (control_token 2)) ∷ [])
outct-away = refl

outct-lock : comes_of (Outct R1 2) (ends 2 (three 7 lock_0 1) (end [] 8 ∷ end [] 8 ∷ [])) ≡ Traps Resource
outct-lock = refl

-- IN: the peer has its four credits back

in-end :
    comes_of (In R0 R1) (ends 2 (three 7 end_1 1) (end [] 3 ∷ end (data_token 1 ∷ data_token 2 ∷ data_token 3 ∷ data_token 4 ∷ data_token 5 ∷ []) 8 ∷ []))
    ≡ Made (ends 3 (three 16909060 end_1 1) (end [] 7 ∷ end (data_token 5 ∷ []) 8 ∷ [])) (Some (Com 1 16909060)) []
in-end = refl

in-end-away :
    comes_of (In R0 R1) (ends 2 (three 7 end_2 1) (end [] 8 ∷ end [] 8 ∷ end (data_token 1 ∷ data_token 2 ∷ data_token 3 ∷ data_token 4 ∷ []) 6 ∷ []))
    ≡ Made (ends 3 (three 16909060 end_2 1) (end [] 8 ∷ end [] 8 ∷ end [] 6 ∷ [])) (Some (Com 1 16909060)) (away (Credit 5) ∷ away (Credit 5) ∷ away (Credit 5) ∷ away (Credit 5) ∷ [])
in-end-away = refl

in-end-short :
    comes_of (In R0 R1) (ends 2 (three 7 end_1 1) (end [] 8 ∷ end (data_token 1 ∷ data_token 2 ∷ data_token 3 ∷ []) 8 ∷ []))
    ≡ Paused
in-end-short = refl

in-end-control :
    comes_of (In R0 R1) (ends 2 (three 7 end_1 1) (end [] 8 ∷ end (data_token 1 ∷ data_token 2 ∷ data_token 3 ∷ control_token 4 ∷ []) 8 ∷ []))
    ≡ Traps Mismatch
in-end-control = refl

in-end-control-early :
    comes_of (In R0 R1) (ends 2 (three 7 end_1 1) (end [] 8 ∷ end (data_token 1 ∷ control_token 1 ∷ []) 8 ∷ []))
    ≡ Traps Mismatch
in-end-control-early = refl

in-end-control-fifth :
    comes_of (In R0 R1) (ends 2 (three 7 end_1 1) (end [] 3 ∷ end (data_token 1 ∷ data_token 2 ∷ data_token 3 ∷ data_token 4 ∷ control_token 1 ∷ []) 8 ∷ []))
    ≡ Made (ends 3 (three 16909060 end_1 1) (end [] 7 ∷ end (control_token 1 ∷ []) 8 ∷ [])) (Some (Com 1 16909060)) []
in-end-control-fifth = refl

in-end-none : comes_of (In R0 R1) (ends 2 (three 7 end_2 1) (end [] 8 ∷ end [] 8 ∷ [])) ≡ Traps Resource
in-end-none = refl

-- INT: no record

int :
    comes_of (Int R0 R1) (ends 2 (three 7 end_1 1) (end [] 6 ∷ end (data_token 200 ∷ data_token 3 ∷ []) 8 ∷ []))
    ≡ makes (ends 3 (three 200 end_1 1) (end [] 7 ∷ end (data_token 3 ∷ []) 8 ∷ []))
int = refl

int-away :
    comes_of (Int R0 R1) (ends 2 (three 7 end_2 1) (end [] 8 ∷ end [] 8 ∷ end (data_token 200 ∷ []) 8 ∷ []))
    ≡ Made (ends 3 (three 200 end_2 1) (end [] 8 ∷ end [] 8 ∷ end [] 8 ∷ [])) None (away (Credit 5) ∷ [])
int-away = refl

int-short : comes_of (Int R0 R1) (ends 2 (three 7 end_1 1) (end [] 8 ∷ end [] 8 ∷ [])) ≡ Paused
int-short = refl

int-control : comes_of (Int R0 R1) (ends 2 (three 7 end_1 1) (end [] 8 ∷ end (control_token 1 ∷ []) 8 ∷ [])) ≡ Traps Mismatch
int-control = refl

int-lock : comes_of (Int R0 R1) (ends 2 (three 7 lock_0 1) (end [] 8 ∷ end [] 8 ∷ [])) ≡ Traps Resource
int-lock = refl

-- CHKCT

chkct :
    comes_of (Chkct R1 2) (ends 2 (three 7 end_1 1) (end [] 7 ∷ end (control_token 2 ∷ data_token 9 ∷ []) 8 ∷ []))
    ≡ makes (ends 3 (three 7 end_1 1) (end [] 8 ∷ end (data_token 9 ∷ []) 8 ∷ []))
chkct = refl

chkct-away :
    comes_of (Chkct R1 2) (ends 2 (three 7 end_2 1) (end [] 8 ∷ end [] 8 ∷ end (control_token 2 ∷ []) 8 ∷ []))
    ≡ Made (ends 3 (three 7 end_2 1) (end [] 8 ∷ end [] 8 ∷ end [] 8 ∷ [])) None (away (Credit 5) ∷ [])
chkct-away = refl

chkct-short : comes_of (Chkct R1 2) (ends 2 (three 7 end_1 1) (end [] 8 ∷ end [] 8 ∷ [])) ≡ Paused
chkct-short = refl

chkct-other : comes_of (Chkct R1 2) (ends 2 (three 7 end_1 1) (end [] 8 ∷ end (control_token 1 ∷ []) 8 ∷ [])) ≡ Traps Mismatch
chkct-other = refl

chkct-data : comes_of (Chkct R1 2) (ends 2 (three 7 end_1 1) (end [] 8 ∷ end (data_token 2 ∷ []) 8 ∷ [])) ≡ Traps Mismatch
chkct-data = refl

chkct-lock : comes_of (Chkct R1 2) (ends 2 (three 7 lock_0 1) (end [] 8 ∷ end [] 8 ∷ [])) ≡ Traps Resource
chkct-lock = refl
