-- Instructions as words of a line: a name, and the operands with a comma behind all but the last. A number of 2^32 or more may stand
-- there, since only the form of a line decides whether it is an instruction's; 0 stands for it, and it is told that it is too large.
use Rattle.std.specs.Prelude.{ℕ, Bool, true, ◌&&◌, List, [], ◌∷◌, Option, Some, None, option_and_then, unwrap_or}
use Rattle.std.specs.Option.{is_some}
use Rattle.xr_assembly.specs.Cuts.{before_last, numeral, the_one_named}
use Rattle.xr_assembly.specs.declared.instructions.Operand.{Operand}
use Rattle.xr_assembly.specs.declared.instructions.Operand.TheVariants.{Register, Number, Condition, Kind}
use Rattle.xr_assembly.specs.declared.instructions.Spoken.{Spoken}
use Rattle.xr_text.specs.Names.{name_of}
use Rattle.xs_instr.specs.declared.instr.Cond.{Cond}
use Rattle.xs_instr.specs.declared.instr.Cond.TheVariants.{None as CondNone, Eq as CondEq, Neq as CondNeq, After as CondAfter}
use Rattle.xs_instr.specs.declared.instr.GetKind.{GetKind}
use Rattle.xs_instr.specs.declared.instr.GetKind.TheVariants.{Sync as GetSync, Lock as GetLock}
use Rattle.xs_instr.specs.declared.instr.Instr.{Instr}
use Rattle.xs_instr.specs.declared.instr.Instr.TheVariants.{Add, Sub, Mul, And, Or, Xor, Addi, Neg, Not, Eq, Lss, Lsu, Shl, Shr, Ashr, Divs, Rems, Divu, Remu, Ecallf, Ecallt, Ldc, Ldwdp, Stwdp, Ldawdp, Ldwsp, Stwsp, Ldawsp, Ldw, Stw, Setdp, Setsp, Brft, Brff, Brfu, Brbt, Brbf, Brbu, Blrf, Blrb, Entsp, Retsp, Getr, Freer, Getst, Tinitpc, Tinitdp, Tinitsp, Msync, Ssync, Mjoin, Freet, Out, Outt, Outct, In, Int, Chkct, Setc, Setd, Setpt, Getts, Setv, Eeu, Edu, Clre, Waiteu, Setsr, Clrsr}
use Rattle.xs_instr.specs.declared.instr.Reg.{Reg}
use Rattle.xs_instr.specs.declared.instr.Reg.TheVariants.{R0, R1, R2, R3, R4, R5, R6, R7, R8, R9, R10, R11, Cp, Dp, Sp, Lr}
use Rattle.xs_instr.specs.Texts.{cond_text, get_text, reg_text}

-- all registers
abbrev pub registers : List Reg
registers = R0 ∷ R1 ∷ R2 ∷ R3 ∷ R4 ∷ R5 ∷ R6 ∷ R7 ∷ R8 ∷ R9 ∷ R10 ∷ R11 ∷ Cp ∷ Dp ∷ Sp ∷ Lr ∷ []

-- all conditions
abbrev pub conditions : List Cond
conditions = CondNone ∷ CondEq ∷ CondNeq ∷ CondAfter ∷ []

-- all that GETR takes
abbrev pub kinds : List GetKind
kinds = GetSync ∷ GetLock ∷ []

-- `operand`, by what the word is as a register, a condition, a kind and a number
abbrev pub operand_by : Option Reg → Option Cond → Option GetKind → Option (Option ℕ) → Option Operand
operand_by (Some a) _ _ _ = Some (Register a)
operand_by None (Some cond) _ _ = Some (Condition cond)
operand_by None None (Some kind) _ = Some (Kind kind)
operand_by None None None (Some n) = Some (Number n)
operand_by None None None None = None

-- the operand that a word is, if it is one
abbrev pub operand : List ℕ → Option Operand
operand word =
    operand_by (the_one_named reg_text registers word) (the_one_named cond_text conditions word) (the_one_named get_text kinds word)
    (numeral word)

-- the operand that a word is with a comma behind it
abbrev pub operand_before_comma : List ℕ → Option Operand
operand_before_comma word = option_and_then operand (before_last 44 word)

-- it isn't a number of 2^32 or more
abbrev pub fits : Operand → Bool
fits (Number n) = is_some n
fits (Register a) = true
fits (Condition cond) = true
fits (Kind kind) = true

-- a number, or 0 for one of 2^32 or more
abbrev pub value : Option ℕ → ℕ
value n = unwrap_or n 0

-- the instructions without operands
abbrev pub bare : List Instr
bare = Ssync ∷ Freet ∷ Clre ∷ Waiteu ∷ []

-- those on a register
abbrev pub on_register : Reg → List Instr
on_register a = Ecallf a ∷ Ecallt a ∷ Setdp a ∷ Setsp a ∷ Freer a ∷ Msync a ∷ Mjoin a ∷ Eeu a ∷ Edu a ∷ []

-- those on a number
abbrev pub on_number : ℕ → List Instr
on_number n = Brfu n ∷ Brbu n ∷ Blrf n ∷ Blrb n ∷ Entsp n ∷ Retsp n ∷ Setsr n ∷ Clrsr n ∷ []

-- those on two registers
abbrev pub on_two_registers : Reg → Reg → List Instr
on_two_registers a b =
    Neg a b ∷ Not a b ∷ Getst a b ∷ Tinitdp a b ∷ Tinitsp a b ∷ Out a b ∷ Outt a b ∷ In a b ∷ Int a b ∷ Setd a b ∷ Setpt a b
    ∷ Getts a b ∷ []

-- those on a register and a number
abbrev pub on_register_and_number : Reg → ℕ → List Instr
on_register_and_number a n =
    Ldc a n ∷ Ldwdp a n ∷ Stwdp a n ∷ Ldawdp a n ∷ Ldwsp a n ∷ Stwsp a n ∷ Ldawsp a n ∷ Brft a n ∷ Brff a n ∷ Brbt a n ∷ Brbf a n
    ∷ Tinitpc a n ∷ Outct a n ∷ Chkct a n ∷ Setv a n ∷ []

-- those on three registers
abbrev pub on_three_registers : Reg → Reg → Reg → List Instr
on_three_registers a b c =
    Add a b c ∷ Sub a b c ∷ Mul a b c ∷ And a b c ∷ Or a b c ∷ Xor a b c ∷ Eq a b c ∷ Lss a b c ∷ Lsu a b c ∷ Shl a b c ∷ Shr a b c
    ∷ Ashr a b c ∷ Divs a b c ∷ Rems a b c ∷ Divu a b c ∷ Remu a b c ∷ Ldw a b c ∷ Stw a b c ∷ []

-- the instructions that have this one operand
abbrev pub on_one : Operand → List Instr
on_one (Register a) = on_register a
on_one (Number n) = on_number (value n)
on_one (Condition cond) = []
on_one (Kind kind) = []

-- the instructions whose operands are a register and this one
abbrev pub on_register_and : Reg → Operand → List Instr
on_register_and a (Register b) = on_two_registers a b
on_register_and a (Number n) = on_register_and_number a (value n)
on_register_and a (Condition cond) = Setc a cond ∷ []
on_register_and a (Kind kind) = Getr a kind ∷ []

-- the instructions that have these two operands
abbrev pub on_two : Operand → Operand → List Instr
on_two (Register a) b = on_register_and a b
on_two (Number n) b = []
on_two (Condition cond) b = []
on_two (Kind kind) b = []

-- the instructions whose operands are two registers and this one
abbrev pub on_two_registers_and : Reg → Reg → Operand → List Instr
on_two_registers_and a b (Register c) = on_three_registers a b c
on_two_registers_and a b (Number n) = Addi a b (value n) ∷ []
on_two_registers_and a b (Condition cond) = []
on_two_registers_and a b (Kind kind) = []

-- the instructions that have these three operands
abbrev pub on_three : Operand → Operand → Operand → List Instr
on_three (Register a) (Register b) c = on_two_registers_and a b c
on_three _ _ c = []

-- an instruction, and whether its number fits
abbrev pub spoken : Bool → Option Instr → Option Spoken
spoken fits None = None
spoken fits (Some instr) = Some (record { instr = instr; fits = fits })

-- the instruction of this name without operands
abbrev pub with_none : List ℕ → Option Spoken
with_none name = spoken true (the_one_named name_of bare name)

-- `with_one`, by the operand
abbrev pub with_one_by : List ℕ → Option Operand → Option Spoken
with_one_by name (Some a) = spoken (fits a) (the_one_named name_of (on_one a) name)
with_one_by name None = None

-- the instruction of this name with this operand
abbrev pub with_one : List ℕ → List ℕ → Option Spoken
with_one name a = with_one_by name (operand a)

-- `with_two`, by the operands
abbrev pub with_two_by : List ℕ → Option Operand → Option Operand → Option Spoken
with_two_by name (Some a) (Some b) = spoken (fits a && fits b) (the_one_named name_of (on_two a b) name)
with_two_by name _ _ = None

-- the instruction of this name with these two operands
abbrev pub with_two : List ℕ → List ℕ → List ℕ → Option Spoken
with_two name a b = with_two_by name (operand_before_comma a) (operand b)

-- `with_three`, by the operands
abbrev pub with_three_by : List ℕ → Option Operand → Option Operand → Option Operand → Option Spoken
with_three_by name (Some a) (Some b) (Some c) = spoken (fits a && fits b && fits c) (the_one_named name_of (on_three a b c) name)
with_three_by name _ _ _ = None

-- the instruction of this name with these three operands
abbrev pub with_three : List ℕ → List ℕ → List ℕ → List ℕ → Option Spoken
with_three name a b c = with_three_by name (operand_before_comma a) (operand_before_comma b) (operand c)
