-- The numbers of an image that no rule bounds but their type, `u32`. A law over all images states the bound, since a clause's
-- numbers have none, and `decimal` writes the last 64 digits of a number at most.
use Rattle.std.specs.Prelude.{◌<◌, ◌^◌, List, [], ◌∷◌}
use Rattle.xs_instr.specs.declared.image.CoreImage.{CoreImage}
use Rattle.xs_instr.specs.declared.image.Image.{Image}
use Rattle.xs_instr.specs.declared.instr.Instr.{Instr}
use Rattle.xs_instr.specs.declared.instr.Instr.TheVariants.{Addi, Ldc, Ldwdp, Stwdp, Ldawdp, Ldwsp, Stwsp, Ldawsp, Brft, Brff, Brfu, Brbt, Brbf, Brbu, Blrf, Blrb, Entsp, Retsp, Tinitpc, Outct, Chkct, Setv, Setsr, Clrsr}
use Rattle.xw_words.specs.declared.pos.Pos.{Pos}

-- the number of an instruction, where it has one, is a word
abbrev pub IsWordInstr : Instr → Type 0
IsWordInstr (Addi a b c) = c < 2 ^ 32
IsWordInstr (Ldc a b) = b < 2 ^ 32
IsWordInstr (Ldwdp a b) = b < 2 ^ 32
IsWordInstr (Stwdp a b) = b < 2 ^ 32
IsWordInstr (Ldawdp a b) = b < 2 ^ 32
IsWordInstr (Ldwsp a b) = b < 2 ^ 32
IsWordInstr (Stwsp a b) = b < 2 ^ 32
IsWordInstr (Ldawsp a b) = b < 2 ^ 32
IsWordInstr (Brft a b) = b < 2 ^ 32
IsWordInstr (Brff a b) = b < 2 ^ 32
IsWordInstr (Brfu a) = a < 2 ^ 32
IsWordInstr (Brbt a b) = b < 2 ^ 32
IsWordInstr (Brbf a b) = b < 2 ^ 32
IsWordInstr (Brbu a) = a < 2 ^ 32
IsWordInstr (Blrf a) = a < 2 ^ 32
IsWordInstr (Blrb a) = a < 2 ^ 32
IsWordInstr (Entsp a) = a < 2 ^ 32
IsWordInstr (Retsp a) = a < 2 ^ 32
IsWordInstr (Tinitpc a b) = b < 2 ^ 32
IsWordInstr (Outct a b) = b < 2 ^ 32
IsWordInstr (Chkct a b) = b < 2 ^ 32
IsWordInstr (Setv a b) = b < 2 ^ 32
IsWordInstr (Setsr a) = a < 2 ^ 32
IsWordInstr (Clrsr a) = a < 2 ^ 32
IsWordInstr _ = Unit {0}

-- so is that of each instruction
abbrev pub AreWordInstrs : List Instr → Type 0
AreWordInstrs [] = Unit {0}
AreWordInstrs (x ∷ xs) = IsWordInstr x × AreWordInstrs xs

-- the line and the column of each place are words
abbrev pub AreWordPlaces : List Pos → Type 0
AreWordPlaces [] = Unit {0}
AreWordPlaces (p ∷ ps) = (p.line < 2 ^ 32) × (p.col < 2 ^ 32) × AreWordPlaces ps

-- so are the numbers of each core's code
abbrev pub AreWordCores : List CoreImage → Type 0
AreWordCores [] = Unit {0}
AreWordCores (k ∷ ks) = AreWordInstrs k.code.instrs × AreWordPlaces k.code.«at» × AreWordCores ks

-- the numbers of the code are words, as they are in each image that a program holds
abbrev pub HasWords : Image → Type 0
HasWords L = AreWordCores L.cores
