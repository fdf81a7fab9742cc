-- Arithmetic, comparisons, shifts, divisions and checks.
use Rattle.std.specs.Prelude.{◌≡◌, refl}
use Rattle.xs_instr.specs.declared.instr.Instr.TheVariants.{Add, Sub, Mul, And, Or, Xor, Addi, Neg, Not, Eq, Lss, Lsu, Shl, Shr, Ashr, Divs, Rems, Divu, Remu, Ecallf, Ecallt, Ldc}
use Rattle.xs_instr.specs.declared.instr.Reg.TheVariants.{R0, R1, R2, R11}
use Rattle.xs_instr.specs.declared.trace.Trap.TheVariants.{Arithmetic, Index}
use Rattle.xs_instr.specs.Did.{Traps}
use Rattle.xt_rows.proofs.Sample.{done_with, goes_to, three}

-- sums, differences and products wrap

add : done_with (Add R0 R1 R2) (three 7 4294967295 3) ≡ goes_to 3 (three 2 4294967295 3)
add = refl

sub : done_with (Sub R0 R1 R2) (three 7 3 5) ≡ goes_to 3 (three 4294967294 3 5)
sub = refl

mul : done_with (Mul R0 R1 R2) (three 7 65536 65537) ≡ goes_to 3 (three 65536 65536 65537)
mul = refl

-- an operand may be the destination

add-itself : done_with (Add R1 R1 R1) (three 7 5 8) ≡ goes_to 3 (three 7 10 8)
add-itself = refl

-- bit by bit: 1100 and 1010

and : done_with (And R0 R1 R2) (three 7 12 10) ≡ goes_to 3 (three 8 12 10)
and = refl

or : done_with (Or R0 R1 R2) (three 7 12 10) ≡ goes_to 3 (three 14 12 10)
or = refl

xor : done_with (Xor R0 R1 R2) (three 7 12 10) ≡ goes_to 3 (three 6 12 10)
xor = refl

addi : done_with (Addi R0 R1 4) (three 7 4294967295 1) ≡ goes_to 3 (three 3 4294967295 1)
addi = refl

neg : done_with (Neg R0 R1) (three 7 5 1) ≡ goes_to 3 (three 4294967291 5 1)
neg = refl

neg-least : done_with (Neg R0 R1) (three 7 2147483648 1) ≡ goes_to 3 (three 2147483648 2147483648 1)
neg-least = refl

not : done_with (Not R0 R1) (three 7 5 1) ≡ goes_to 3 (three 4294967290 5 1)
not = refl

-- comparisons: 4294967295 is -1 where it is signed

eq : done_with (Eq R0 R1 R2) (three 7 5 5) ≡ goes_to 3 (three 1 5 5)
eq = refl

eq-not : done_with (Eq R0 R1 R2) (three 7 5 6) ≡ goes_to 3 (three 0 5 6)
eq-not = refl

lss : done_with (Lss R0 R1 R2) (three 7 4294967295 1) ≡ goes_to 3 (three 1 4294967295 1)
lss = refl

lss-not : done_with (Lss R0 R1 R2) (three 7 1 4294967295) ≡ goes_to 3 (three 0 1 4294967295)
lss-not = refl

lss-equal : done_with (Lss R0 R1 R2) (three 7 5 5) ≡ goes_to 3 (three 0 5 5)
lss-equal = refl

lsu : done_with (Lsu R0 R1 R2) (three 7 1 4294967295) ≡ goes_to 3 (three 1 1 4294967295)
lsu = refl

lsu-not : done_with (Lsu R0 R1 R2) (three 7 4294967295 1) ≡ goes_to 3 (three 0 4294967295 1)
lsu-not = refl

lsu-equal : done_with (Lsu R0 R1 R2) (three 7 5 5) ≡ goes_to 3 (three 0 5 5)
lsu-equal = refl

-- shifts: by 32 or more 0, or all sign bits

shl : done_with (Shl R0 R1 R2) (three 7 3 31) ≡ goes_to 3 (three 2147483648 3 31)
shl = refl

shl-32 : done_with (Shl R0 R1 R2) (three 7 3 32) ≡ goes_to 3 (three 0 3 32)
shl-32 = refl

shr : done_with (Shr R0 R1 R2) (three 7 2147483648 31) ≡ goes_to 3 (three 1 2147483648 31)
shr = refl

shr-32 : done_with (Shr R0 R1 R2) (three 7 2147483648 32) ≡ goes_to 3 (three 0 2147483648 32)
shr-32 = refl

ashr : done_with (Ashr R0 R1 R2) (three 7 2147483648 30) ≡ goes_to 3 (three 4294967294 2147483648 30)
ashr = refl

ashr-32 : done_with (Ashr R0 R1 R2) (three 7 2147483648 32) ≡ goes_to 3 (three 4294967295 2147483648 32)
ashr-32 = refl

ashr-33 : done_with (Ashr R0 R1 R2) (three 7 2147483647 33) ≡ goes_to 3 (three 0 2147483647 33)
ashr-33 = refl

-- quotients are cut toward 0, and a remainder has the sign of the first: -7 by 2

divs : done_with (Divs R0 R1 R2) (three 7 4294967289 2) ≡ goes_to 3 (three 4294967293 4294967289 2)
divs = refl

divs-zero : done_with (Divs R0 R1 R2) (three 7 5 0) ≡ Traps Arithmetic
divs-zero = refl

divs-least : done_with (Divs R0 R1 R2) (three 7 2147483648 4294967295) ≡ Traps Arithmetic
divs-least = refl

rems : done_with (Rems R0 R1 R2) (three 7 4294967289 2) ≡ goes_to 3 (three 4294967295 4294967289 2)
rems = refl

rems-zero : done_with (Rems R0 R1 R2) (three 7 5 0) ≡ Traps Arithmetic
rems-zero = refl

rems-least : done_with (Rems R0 R1 R2) (three 7 2147483648 4294967295) ≡ Traps Arithmetic
rems-least = refl

divu : done_with (Divu R0 R1 R2) (three 7 4294967289 2) ≡ goes_to 3 (three 2147483644 4294967289 2)
divu = refl

divu-zero : done_with (Divu R0 R1 R2) (three 7 5 0) ≡ Traps Arithmetic
divu-zero = refl

remu : done_with (Remu R0 R1 R2) (three 7 4294967289 10) ≡ goes_to 3 (three 9 4294967289 10)
remu = refl

remu-zero : done_with (Remu R0 R1 R2) (three 7 5 0) ≡ Traps Arithmetic
remu-zero = refl

-- checks

ecallf : done_with (Ecallf R1) (three 7 5 1) ≡ goes_to 3 (three 7 5 1)
ecallf = refl

ecallf-zero : done_with (Ecallf R1) (three 7 0 1) ≡ Traps Index
ecallf-zero = refl

ecallt : done_with (Ecallt R1) (three 7 0 1) ≡ goes_to 3 (three 7 0 1)
ecallt = refl

ecallt-other : done_with (Ecallt R1) (three 7 5 1) ≡ Traps Index
ecallt-other = refl

ldc : done_with (Ldc R11 4294967295) (three 7 5 1) ≡ goes_to 3 (record (three 7 5 1) { r11 = 4294967295 })
ldc = refl
