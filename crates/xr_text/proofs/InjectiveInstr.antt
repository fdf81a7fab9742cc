-- An instruction's text, before a space and an at sign, tells the instruction.
use Rattle.std.proofs.Common.{◌≡◌, ℕ, true, List, [], ◌∷◌, ◌++◌, get_or, refl, sym, ◌∙◌, ap, arith, if◌then◌else◌, bytes_eq}
use Rattle.std.proofs.lemmas.List.{append_assoc}
use Rattle.std.specs.Prelude.{codes, decimal}
use Rattle.xr_text.specs.Names.{name_of}
use Rattle.xr_text.proofs.InjectiveTokens.{Apart, all_inside, is_inside, at_apart, comma_apart, space_apart, cond_inside, cond_of, cond_of-text, cut, decimal_inside, head_is, kind_inside, kind_of, kind_of-text, number_of, number_of-decimal, reg_inside, reg_of, reg_of-text, tail_is, word_wide}
use Rattle.xs_instr.specs.Words.{IsWordInstr}
use Rattle.xs_instr.specs.declared.instr.Instr.{Instr}
use Rattle.xs_instr.specs.declared.instr.Instr.TheVariants.{Add, Sub, Mul, And, Or, Xor, Addi, Neg, Not, Eq, Lss, Lsu, Shl, Shr, Ashr, Divs, Rems, Divu, Remu, Ecallf, Ecallt, Ldc, Ldwdp, Stwdp, Ldawdp, Ldwsp, Stwsp, Ldawsp, Ldw, Stw, Setdp, Setsp, Brft, Brff, Brfu, Brbt, Brbf, Brbu, Blrf, Blrb, Entsp, Retsp, Getr, Freer, Getst, Tinitpc, Tinitdp, Tinitsp, Msync, Ssync, Mjoin, Freet, Out, Outt, Outct, In, Int, Chkct, Setc, Setd, Setpt, Getts, Setv, Eeu, Edu, Clre, Waiteu, Setsr, Clrsr}
use Rattle.xs_instr.specs.Texts.{cond_text, get_text, instr_text, one_operand, reg_text, three_operands, two_operands}

-- the operands after the first, and what stands behind the instruction
abbrev pub more_operands : List (List ℕ) → List ℕ → List ℕ
more_operands [] z = 32 ∷ z
more_operands (o ∷ os) z = 44 ∷ 32 ∷ (o ++ more_operands os z)

-- the operands, and what stands behind the instruction and a space
abbrev pub then_operands : List (List ℕ) → List ℕ → List ℕ
then_operands [] z = z
then_operands (o ∷ os) z = o ++ more_operands os z

-- no operand has a separator
abbrev pub EachInside : List (List ℕ) → Type 0
EachInside [] = Unit {0}
EachInside (o ∷ os) = (all_inside o ≡ true) × EachInside os

more_apart : (os : List (List ℕ)) (z : List ℕ) → Apart (more_operands os z)
more_apart [] z = space_apart
more_apart (o ∷ os) z = comma_apart

space_comma : (x y : List ℕ) → 32 ∷ x ≡ 44 ∷ y → ⊥
space_comma x y e = let h : ◌≡◌ {A = ℕ} 32 44 = head_is 32 44 x y e in absurd (omega arith)

more_cut : (os ps : List (List ℕ)) (z y : List ℕ) → EachInside os → EachInside ps → more_operands os z ≡ more_operands ps y → (os ≡ ps) × (z ≡ y)
more_cut [] [] z y p q e = (refl, tail_is 32 32 z y e)
more_cut [] (o ∷ ps) z y p q e = absurd (space_comma z (32 ∷ (o ++ more_operands ps y)) e)
more_cut (o ∷ os) [] z y p q e = absurd (space_comma y (32 ∷ (o ++ more_operands os z)) (sym e))
more_cut (o ∷ os) (o' ∷ ps) z y p q e =
    let e' : 32 ∷ (o ++ more_operands os z) ≡ 32 ∷ (o' ++ more_operands ps y) = tail_is 44 44 (32 ∷ (o ++ more_operands os z)) (32 ∷ (o' ++ more_operands ps y)) e in
    let e'' : o ++ more_operands os z ≡ o' ++ more_operands ps y = tail_is 32 32 (o ++ more_operands os z) (o' ++ more_operands ps y) e' in
    let first : (o ≡ o') × (more_operands os z ≡ more_operands ps y) = cut o o' (more_operands os z) (more_operands ps y) p.0 q.0 (more_apart os z) (more_apart ps y) e'' in
    let rest : (os ≡ ps) × (z ≡ y) = more_cut os ps z y p.1 q.1 first.1 in
    let o_is : o ≡ o' = first.0 in
    let os_is : os ≡ ps = rest.0 in (cc, rest.1)

at_more : (ps : List (List ℕ)) (z y : List ℕ) → 64 ∷ z ≡ more_operands ps y → ⊥
at_more [] z y e = let h : ◌≡◌ {A = ℕ} 64 32 = head_is 64 32 z y e in absurd (omega arith)
at_more (p ∷ ps) z y e = let h : ◌≡◌ {A = ℕ} 64 44 = head_is 64 44 z (32 ∷ (p ++ more_operands ps y)) e in absurd (omega arith)

operands_cut : (os ps : List (List ℕ)) (z y : List ℕ) → EachInside os → EachInside ps → then_operands os (64 ∷ z) ≡ then_operands ps (64 ∷ y) → (os ≡ ps) × (z ≡ y)
operands_cut [] [] z y p q e = (refl, tail_is 64 64 z y e)
operands_cut [] (o ∷ ps) z y p q e =
    absurd (at_more ps z (64 ∷ y) (cut [] o (64 ∷ z) (more_operands ps (64 ∷ y)) refl q.0 at_apart (more_apart ps (64 ∷ y)) e).1)
operands_cut (o ∷ os) [] z y p q e =
    absurd (at_more os y (64 ∷ z) (cut [] o (64 ∷ y) (more_operands os (64 ∷ z)) refl p.0 at_apart (more_apart os (64 ∷ z)) (sym e)).1)
operands_cut (o ∷ os) (o' ∷ ps) z y p q e =
    let first : (o ≡ o') × (more_operands os (64 ∷ z) ≡ more_operands ps (64 ∷ y)) =
    cut o o' (more_operands os (64 ∷ z)) (more_operands ps (64 ∷ y)) p.0 q.0 (more_apart os (64 ∷ z)) (more_apart ps (64 ∷ y)) e in
    let rest : (os ≡ ps) × (64 ∷ z ≡ 64 ∷ y) = more_cut os ps (64 ∷ z) (64 ∷ y) p.1 q.1 first.1 in
    let o_is : o ≡ o' = first.0 in
    let os_is : os ≡ ps = rest.0 in (cc, tail_is 64 64 z y rest.1)

-- an instruction's operands' texts
abbrev operands_of : Instr → List (List ℕ)
operands_of (Add a b c) = reg_text a ∷ reg_text b ∷ reg_text c ∷ []
operands_of (Sub a b c) = reg_text a ∷ reg_text b ∷ reg_text c ∷ []
operands_of (Mul a b c) = reg_text a ∷ reg_text b ∷ reg_text c ∷ []
operands_of (And a b c) = reg_text a ∷ reg_text b ∷ reg_text c ∷ []
operands_of (Or a b c) = reg_text a ∷ reg_text b ∷ reg_text c ∷ []
operands_of (Xor a b c) = reg_text a ∷ reg_text b ∷ reg_text c ∷ []
operands_of (Addi a b c) = reg_text a ∷ reg_text b ∷ decimal c ∷ []
operands_of (Neg a b) = reg_text a ∷ reg_text b ∷ []
operands_of (Not a b) = reg_text a ∷ reg_text b ∷ []
operands_of (Eq a b c) = reg_text a ∷ reg_text b ∷ reg_text c ∷ []
operands_of (Lss a b c) = reg_text a ∷ reg_text b ∷ reg_text c ∷ []
operands_of (Lsu a b c) = reg_text a ∷ reg_text b ∷ reg_text c ∷ []
operands_of (Shl a b c) = reg_text a ∷ reg_text b ∷ reg_text c ∷ []
operands_of (Shr a b c) = reg_text a ∷ reg_text b ∷ reg_text c ∷ []
operands_of (Ashr a b c) = reg_text a ∷ reg_text b ∷ reg_text c ∷ []
operands_of (Divs a b c) = reg_text a ∷ reg_text b ∷ reg_text c ∷ []
operands_of (Rems a b c) = reg_text a ∷ reg_text b ∷ reg_text c ∷ []
operands_of (Divu a b c) = reg_text a ∷ reg_text b ∷ reg_text c ∷ []
operands_of (Remu a b c) = reg_text a ∷ reg_text b ∷ reg_text c ∷ []
operands_of (Ecallf a) = reg_text a ∷ []
operands_of (Ecallt a) = reg_text a ∷ []
operands_of (Ldc a b) = reg_text a ∷ decimal b ∷ []
operands_of (Ldwdp a b) = reg_text a ∷ decimal b ∷ []
operands_of (Stwdp a b) = reg_text a ∷ decimal b ∷ []
operands_of (Ldawdp a b) = reg_text a ∷ decimal b ∷ []
operands_of (Ldwsp a b) = reg_text a ∷ decimal b ∷ []
operands_of (Stwsp a b) = reg_text a ∷ decimal b ∷ []
operands_of (Ldawsp a b) = reg_text a ∷ decimal b ∷ []
operands_of (Ldw a b c) = reg_text a ∷ reg_text b ∷ reg_text c ∷ []
operands_of (Stw a b c) = reg_text a ∷ reg_text b ∷ reg_text c ∷ []
operands_of (Setdp a) = reg_text a ∷ []
operands_of (Setsp a) = reg_text a ∷ []
operands_of (Brft a b) = reg_text a ∷ decimal b ∷ []
operands_of (Brff a b) = reg_text a ∷ decimal b ∷ []
operands_of (Brfu a) = decimal a ∷ []
operands_of (Brbt a b) = reg_text a ∷ decimal b ∷ []
operands_of (Brbf a b) = reg_text a ∷ decimal b ∷ []
operands_of (Brbu a) = decimal a ∷ []
operands_of (Blrf a) = decimal a ∷ []
operands_of (Blrb a) = decimal a ∷ []
operands_of (Entsp a) = decimal a ∷ []
operands_of (Retsp a) = decimal a ∷ []
operands_of (Getr a b) = reg_text a ∷ get_text b ∷ []
operands_of (Freer a) = reg_text a ∷ []
operands_of (Getst a b) = reg_text a ∷ reg_text b ∷ []
operands_of (Tinitpc a b) = reg_text a ∷ decimal b ∷ []
operands_of (Tinitdp a b) = reg_text a ∷ reg_text b ∷ []
operands_of (Tinitsp a b) = reg_text a ∷ reg_text b ∷ []
operands_of (Msync a) = reg_text a ∷ []
operands_of Ssync = []
operands_of (Mjoin a) = reg_text a ∷ []
operands_of Freet = []
operands_of (Out a b) = reg_text a ∷ reg_text b ∷ []
operands_of (Outt a b) = reg_text a ∷ reg_text b ∷ []
operands_of (Outct a b) = reg_text a ∷ decimal b ∷ []
operands_of (In a b) = reg_text a ∷ reg_text b ∷ []
operands_of (Int a b) = reg_text a ∷ reg_text b ∷ []
operands_of (Chkct a b) = reg_text a ∷ decimal b ∷ []
operands_of (Setc a b) = reg_text a ∷ cond_text b ∷ []
operands_of (Setd a b) = reg_text a ∷ reg_text b ∷ []
operands_of (Setpt a b) = reg_text a ∷ reg_text b ∷ []
operands_of (Getts a b) = reg_text a ∷ reg_text b ∷ []
operands_of (Setv a b) = reg_text a ∷ decimal b ∷ []
operands_of (Eeu a) = reg_text a ∷ []
operands_of (Edu a) = reg_text a ∷ []
operands_of Clre = []
operands_of Waiteu = []
operands_of (Setsr a) = decimal a ∷ []
operands_of (Clrsr a) = decimal a ∷ []

one_front : (name a z : List ℕ) → one_operand name a ++ 32 ∷ z ≡ name ++ 32 ∷ (a ++ 32 ∷ z)
unfolding one_operand
one_front name a z = simp append_assoc

two_front : (name a b z : List ℕ) → two_operands name a b ++ 32 ∷ z ≡ name ++ 32 ∷ (a ++ 44 ∷ 32 ∷ (b ++ 32 ∷ z))
unfolding two_operands
two_front name a b z = simp append_assoc

three_front : (name a b c z : List ℕ) → three_operands name a b c ++ 32 ∷ z ≡ name ++ 32 ∷ (a ++ 44 ∷ 32 ∷ (b ++ 44 ∷ 32 ∷ (c ++ 32 ∷ z)))
unfolding three_operands
three_front name a b c z = simp append_assoc

instr_front : (x : Instr) (z : List ℕ) → instr_text x ++ 32 ∷ z ≡ name_of x ++ 32 ∷ then_operands (operands_of x) z
instr_front (Add a b c) z = three_front (codes "ADD") (reg_text a) (reg_text b) (reg_text c) z
instr_front (Sub a b c) z = three_front (codes "SUB") (reg_text a) (reg_text b) (reg_text c) z
instr_front (Mul a b c) z = three_front (codes "MUL") (reg_text a) (reg_text b) (reg_text c) z
instr_front (And a b c) z = three_front (codes "AND") (reg_text a) (reg_text b) (reg_text c) z
instr_front (Or a b c) z = three_front (codes "OR") (reg_text a) (reg_text b) (reg_text c) z
instr_front (Xor a b c) z = three_front (codes "XOR") (reg_text a) (reg_text b) (reg_text c) z
instr_front (Addi a b c) z = three_front (codes "ADDI") (reg_text a) (reg_text b) (decimal c) z
instr_front (Neg a b) z = two_front (codes "NEG") (reg_text a) (reg_text b) z
instr_front (Not a b) z = two_front (codes "NOT") (reg_text a) (reg_text b) z
instr_front (Eq a b c) z = three_front (codes "EQ") (reg_text a) (reg_text b) (reg_text c) z
instr_front (Lss a b c) z = three_front (codes "LSS") (reg_text a) (reg_text b) (reg_text c) z
instr_front (Lsu a b c) z = three_front (codes "LSU") (reg_text a) (reg_text b) (reg_text c) z
instr_front (Shl a b c) z = three_front (codes "SHL") (reg_text a) (reg_text b) (reg_text c) z
instr_front (Shr a b c) z = three_front (codes "SHR") (reg_text a) (reg_text b) (reg_text c) z
instr_front (Ashr a b c) z = three_front (codes "ASHR") (reg_text a) (reg_text b) (reg_text c) z
instr_front (Divs a b c) z = three_front (codes "DIVS") (reg_text a) (reg_text b) (reg_text c) z
instr_front (Rems a b c) z = three_front (codes "REMS") (reg_text a) (reg_text b) (reg_text c) z
instr_front (Divu a b c) z = three_front (codes "DIVU") (reg_text a) (reg_text b) (reg_text c) z
instr_front (Remu a b c) z = three_front (codes "REMU") (reg_text a) (reg_text b) (reg_text c) z
instr_front (Ecallf a) z = one_front (codes "ECALLF") (reg_text a) z
instr_front (Ecallt a) z = one_front (codes "ECALLT") (reg_text a) z
instr_front (Ldc a b) z = two_front (codes "LDC") (reg_text a) (decimal b) z
instr_front (Ldwdp a b) z = two_front (codes "LDWDP") (reg_text a) (decimal b) z
instr_front (Stwdp a b) z = two_front (codes "STWDP") (reg_text a) (decimal b) z
instr_front (Ldawdp a b) z = two_front (codes "LDAWDP") (reg_text a) (decimal b) z
instr_front (Ldwsp a b) z = two_front (codes "LDWSP") (reg_text a) (decimal b) z
instr_front (Stwsp a b) z = two_front (codes "STWSP") (reg_text a) (decimal b) z
instr_front (Ldawsp a b) z = two_front (codes "LDAWSP") (reg_text a) (decimal b) z
instr_front (Ldw a b c) z = three_front (codes "LDW") (reg_text a) (reg_text b) (reg_text c) z
instr_front (Stw a b c) z = three_front (codes "STW") (reg_text a) (reg_text b) (reg_text c) z
instr_front (Setdp a) z = one_front (codes "SETDP") (reg_text a) z
instr_front (Setsp a) z = one_front (codes "SETSP") (reg_text a) z
instr_front (Brft a b) z = two_front (codes "BRFT") (reg_text a) (decimal b) z
instr_front (Brff a b) z = two_front (codes "BRFF") (reg_text a) (decimal b) z
instr_front (Brfu a) z = one_front (codes "BRFU") (decimal a) z
instr_front (Brbt a b) z = two_front (codes "BRBT") (reg_text a) (decimal b) z
instr_front (Brbf a b) z = two_front (codes "BRBF") (reg_text a) (decimal b) z
instr_front (Brbu a) z = one_front (codes "BRBU") (decimal a) z
instr_front (Blrf a) z = one_front (codes "BLRF") (decimal a) z
instr_front (Blrb a) z = one_front (codes "BLRB") (decimal a) z
instr_front (Entsp a) z = one_front (codes "ENTSP") (decimal a) z
instr_front (Retsp a) z = one_front (codes "RETSP") (decimal a) z
instr_front (Getr a b) z = two_front (codes "GETR") (reg_text a) (get_text b) z
instr_front (Freer a) z = one_front (codes "FREER") (reg_text a) z
instr_front (Getst a b) z = two_front (codes "GETST") (reg_text a) (reg_text b) z
instr_front (Tinitpc a b) z = two_front (codes "TINITPC") (reg_text a) (decimal b) z
instr_front (Tinitdp a b) z = two_front (codes "TINITDP") (reg_text a) (reg_text b) z
instr_front (Tinitsp a b) z = two_front (codes "TINITSP") (reg_text a) (reg_text b) z
instr_front (Msync a) z = one_front (codes "MSYNC") (reg_text a) z
instr_front Ssync z = refl
instr_front (Mjoin a) z = one_front (codes "MJOIN") (reg_text a) z
instr_front Freet z = refl
instr_front (Out a b) z = two_front (codes "OUT") (reg_text a) (reg_text b) z
instr_front (Outt a b) z = two_front (codes "OUTT") (reg_text a) (reg_text b) z
instr_front (Outct a b) z = two_front (codes "OUTCT") (reg_text a) (decimal b) z
instr_front (In a b) z = two_front (codes "IN") (reg_text a) (reg_text b) z
instr_front (Int a b) z = two_front (codes "INT") (reg_text a) (reg_text b) z
instr_front (Chkct a b) z = two_front (codes "CHKCT") (reg_text a) (decimal b) z
instr_front (Setc a b) z = two_front (codes "SETC") (reg_text a) (cond_text b) z
instr_front (Setd a b) z = two_front (codes "SETD") (reg_text a) (reg_text b) z
instr_front (Setpt a b) z = two_front (codes "SETPT") (reg_text a) (reg_text b) z
instr_front (Getts a b) z = two_front (codes "GETTS") (reg_text a) (reg_text b) z
instr_front (Setv a b) z = two_front (codes "SETV") (reg_text a) (decimal b) z
instr_front (Eeu a) z = one_front (codes "EEU") (reg_text a) z
instr_front (Edu a) z = one_front (codes "EDU") (reg_text a) z
instr_front Clre z = refl
instr_front Waiteu z = refl
instr_front (Setsr a) z = one_front (codes "SETSR") (decimal a) z
instr_front (Clrsr a) z = one_front (codes "CLRSR") (decimal a) z

name_inside : (x : Instr) → all_inside (name_of x) ≡ true
unfolding is_inside
name_inside (Add a b c) = refl
name_inside (Sub a b c) = refl
name_inside (Mul a b c) = refl
name_inside (And a b c) = refl
name_inside (Or a b c) = refl
name_inside (Xor a b c) = refl
name_inside (Addi a b c) = refl
name_inside (Neg a b) = refl
name_inside (Not a b) = refl
name_inside (Eq a b c) = refl
name_inside (Lss a b c) = refl
name_inside (Lsu a b c) = refl
name_inside (Shl a b c) = refl
name_inside (Shr a b c) = refl
name_inside (Ashr a b c) = refl
name_inside (Divs a b c) = refl
name_inside (Rems a b c) = refl
name_inside (Divu a b c) = refl
name_inside (Remu a b c) = refl
name_inside (Ecallf a) = refl
name_inside (Ecallt a) = refl
name_inside (Ldc a b) = refl
name_inside (Ldwdp a b) = refl
name_inside (Stwdp a b) = refl
name_inside (Ldawdp a b) = refl
name_inside (Ldwsp a b) = refl
name_inside (Stwsp a b) = refl
name_inside (Ldawsp a b) = refl
name_inside (Ldw a b c) = refl
name_inside (Stw a b c) = refl
name_inside (Setdp a) = refl
name_inside (Setsp a) = refl
name_inside (Brft a b) = refl
name_inside (Brff a b) = refl
name_inside (Brfu a) = refl
name_inside (Brbt a b) = refl
name_inside (Brbf a b) = refl
name_inside (Brbu a) = refl
name_inside (Blrf a) = refl
name_inside (Blrb a) = refl
name_inside (Entsp a) = refl
name_inside (Retsp a) = refl
name_inside (Getr a b) = refl
name_inside (Freer a) = refl
name_inside (Getst a b) = refl
name_inside (Tinitpc a b) = refl
name_inside (Tinitdp a b) = refl
name_inside (Tinitsp a b) = refl
name_inside (Msync a) = refl
name_inside Ssync = refl
name_inside (Mjoin a) = refl
name_inside Freet = refl
name_inside (Out a b) = refl
name_inside (Outt a b) = refl
name_inside (Outct a b) = refl
name_inside (In a b) = refl
name_inside (Int a b) = refl
name_inside (Chkct a b) = refl
name_inside (Setc a b) = refl
name_inside (Setd a b) = refl
name_inside (Setpt a b) = refl
name_inside (Getts a b) = refl
name_inside (Setv a b) = refl
name_inside (Eeu a) = refl
name_inside (Edu a) = refl
name_inside Clre = refl
name_inside Waiteu = refl
name_inside (Setsr a) = refl
name_inside (Clrsr a) = refl

operands_inside : (x : Instr) → IsWordInstr x → EachInside (operands_of x)
operands_inside (Add a b c) h = (reg_inside a, (reg_inside b, (reg_inside c, tt)))
operands_inside (Sub a b c) h = (reg_inside a, (reg_inside b, (reg_inside c, tt)))
operands_inside (Mul a b c) h = (reg_inside a, (reg_inside b, (reg_inside c, tt)))
operands_inside (And a b c) h = (reg_inside a, (reg_inside b, (reg_inside c, tt)))
operands_inside (Or a b c) h = (reg_inside a, (reg_inside b, (reg_inside c, tt)))
operands_inside (Xor a b c) h = (reg_inside a, (reg_inside b, (reg_inside c, tt)))
operands_inside (Addi a b c) h = (reg_inside a, (reg_inside b, (decimal_inside c (word_wide c h), tt)))
operands_inside (Neg a b) h = (reg_inside a, (reg_inside b, tt))
operands_inside (Not a b) h = (reg_inside a, (reg_inside b, tt))
operands_inside (Eq a b c) h = (reg_inside a, (reg_inside b, (reg_inside c, tt)))
operands_inside (Lss a b c) h = (reg_inside a, (reg_inside b, (reg_inside c, tt)))
operands_inside (Lsu a b c) h = (reg_inside a, (reg_inside b, (reg_inside c, tt)))
operands_inside (Shl a b c) h = (reg_inside a, (reg_inside b, (reg_inside c, tt)))
operands_inside (Shr a b c) h = (reg_inside a, (reg_inside b, (reg_inside c, tt)))
operands_inside (Ashr a b c) h = (reg_inside a, (reg_inside b, (reg_inside c, tt)))
operands_inside (Divs a b c) h = (reg_inside a, (reg_inside b, (reg_inside c, tt)))
operands_inside (Rems a b c) h = (reg_inside a, (reg_inside b, (reg_inside c, tt)))
operands_inside (Divu a b c) h = (reg_inside a, (reg_inside b, (reg_inside c, tt)))
operands_inside (Remu a b c) h = (reg_inside a, (reg_inside b, (reg_inside c, tt)))
operands_inside (Ecallf a) h = (reg_inside a, tt)
operands_inside (Ecallt a) h = (reg_inside a, tt)
operands_inside (Ldc a b) h = (reg_inside a, (decimal_inside b (word_wide b h), tt))
operands_inside (Ldwdp a b) h = (reg_inside a, (decimal_inside b (word_wide b h), tt))
operands_inside (Stwdp a b) h = (reg_inside a, (decimal_inside b (word_wide b h), tt))
operands_inside (Ldawdp a b) h = (reg_inside a, (decimal_inside b (word_wide b h), tt))
operands_inside (Ldwsp a b) h = (reg_inside a, (decimal_inside b (word_wide b h), tt))
operands_inside (Stwsp a b) h = (reg_inside a, (decimal_inside b (word_wide b h), tt))
operands_inside (Ldawsp a b) h = (reg_inside a, (decimal_inside b (word_wide b h), tt))
operands_inside (Ldw a b c) h = (reg_inside a, (reg_inside b, (reg_inside c, tt)))
operands_inside (Stw a b c) h = (reg_inside a, (reg_inside b, (reg_inside c, tt)))
operands_inside (Setdp a) h = (reg_inside a, tt)
operands_inside (Setsp a) h = (reg_inside a, tt)
operands_inside (Brft a b) h = (reg_inside a, (decimal_inside b (word_wide b h), tt))
operands_inside (Brff a b) h = (reg_inside a, (decimal_inside b (word_wide b h), tt))
operands_inside (Brfu a) h = (decimal_inside a (word_wide a h), tt)
operands_inside (Brbt a b) h = (reg_inside a, (decimal_inside b (word_wide b h), tt))
operands_inside (Brbf a b) h = (reg_inside a, (decimal_inside b (word_wide b h), tt))
operands_inside (Brbu a) h = (decimal_inside a (word_wide a h), tt)
operands_inside (Blrf a) h = (decimal_inside a (word_wide a h), tt)
operands_inside (Blrb a) h = (decimal_inside a (word_wide a h), tt)
operands_inside (Entsp a) h = (decimal_inside a (word_wide a h), tt)
operands_inside (Retsp a) h = (decimal_inside a (word_wide a h), tt)
operands_inside (Getr a b) h = (reg_inside a, (kind_inside b, tt))
operands_inside (Freer a) h = (reg_inside a, tt)
operands_inside (Getst a b) h = (reg_inside a, (reg_inside b, tt))
operands_inside (Tinitpc a b) h = (reg_inside a, (decimal_inside b (word_wide b h), tt))
operands_inside (Tinitdp a b) h = (reg_inside a, (reg_inside b, tt))
operands_inside (Tinitsp a b) h = (reg_inside a, (reg_inside b, tt))
operands_inside (Msync a) h = (reg_inside a, tt)
operands_inside Ssync h = tt
operands_inside (Mjoin a) h = (reg_inside a, tt)
operands_inside Freet h = tt
operands_inside (Out a b) h = (reg_inside a, (reg_inside b, tt))
operands_inside (Outt a b) h = (reg_inside a, (reg_inside b, tt))
operands_inside (Outct a b) h = (reg_inside a, (decimal_inside b (word_wide b h), tt))
operands_inside (In a b) h = (reg_inside a, (reg_inside b, tt))
operands_inside (Int a b) h = (reg_inside a, (reg_inside b, tt))
operands_inside (Chkct a b) h = (reg_inside a, (decimal_inside b (word_wide b h), tt))
operands_inside (Setc a b) h = (reg_inside a, (cond_inside b, tt))
operands_inside (Setd a b) h = (reg_inside a, (reg_inside b, tt))
operands_inside (Setpt a b) h = (reg_inside a, (reg_inside b, tt))
operands_inside (Getts a b) h = (reg_inside a, (reg_inside b, tt))
operands_inside (Setv a b) h = (reg_inside a, (decimal_inside b (word_wide b h), tt))
operands_inside (Eeu a) h = (reg_inside a, tt)
operands_inside (Edu a) h = (reg_inside a, tt)
operands_inside Clre h = tt
operands_inside Waiteu h = tt
operands_inside (Setsr a) h = (decimal_inside a (word_wide a h), tt)
operands_inside (Clrsr a) h = (decimal_inside a (word_wide a h), tt)

-- the instruction of that name and operands
unfoldable build : List ℕ → List (List ℕ) → Instr
build name ops =
    if bytes_eq name (codes "ADD") then Add (reg_of (get_or ops 0 [])) (reg_of (get_or ops 1 [])) (reg_of (get_or ops 2 []))
    else if bytes_eq name (codes "SUB") then Sub (reg_of (get_or ops 0 [])) (reg_of (get_or ops 1 [])) (reg_of (get_or ops 2 []))
    else if bytes_eq name (codes "MUL") then Mul (reg_of (get_or ops 0 [])) (reg_of (get_or ops 1 [])) (reg_of (get_or ops 2 []))
    else if bytes_eq name (codes "AND") then And (reg_of (get_or ops 0 [])) (reg_of (get_or ops 1 [])) (reg_of (get_or ops 2 []))
    else if bytes_eq name (codes "OR") then Or (reg_of (get_or ops 0 [])) (reg_of (get_or ops 1 [])) (reg_of (get_or ops 2 []))
    else if bytes_eq name (codes "XOR") then Xor (reg_of (get_or ops 0 [])) (reg_of (get_or ops 1 [])) (reg_of (get_or ops 2 []))
    else if bytes_eq name (codes "ADDI") then Addi (reg_of (get_or ops 0 [])) (reg_of (get_or ops 1 [])) (number_of (get_or ops 2 []))
    else if bytes_eq name (codes "NEG") then Neg (reg_of (get_or ops 0 [])) (reg_of (get_or ops 1 []))
    else if bytes_eq name (codes "NOT") then Not (reg_of (get_or ops 0 [])) (reg_of (get_or ops 1 []))
    else if bytes_eq name (codes "EQ") then Eq (reg_of (get_or ops 0 [])) (reg_of (get_or ops 1 [])) (reg_of (get_or ops 2 []))
    else if bytes_eq name (codes "LSS") then Lss (reg_of (get_or ops 0 [])) (reg_of (get_or ops 1 [])) (reg_of (get_or ops 2 []))
    else if bytes_eq name (codes "LSU") then Lsu (reg_of (get_or ops 0 [])) (reg_of (get_or ops 1 [])) (reg_of (get_or ops 2 []))
    else if bytes_eq name (codes "SHL") then Shl (reg_of (get_or ops 0 [])) (reg_of (get_or ops 1 [])) (reg_of (get_or ops 2 []))
    else if bytes_eq name (codes "SHR") then Shr (reg_of (get_or ops 0 [])) (reg_of (get_or ops 1 [])) (reg_of (get_or ops 2 []))
    else if bytes_eq name (codes "ASHR") then Ashr (reg_of (get_or ops 0 [])) (reg_of (get_or ops 1 [])) (reg_of (get_or ops 2 []))
    else if bytes_eq name (codes "DIVS") then Divs (reg_of (get_or ops 0 [])) (reg_of (get_or ops 1 [])) (reg_of (get_or ops 2 []))
    else if bytes_eq name (codes "REMS") then Rems (reg_of (get_or ops 0 [])) (reg_of (get_or ops 1 [])) (reg_of (get_or ops 2 []))
    else if bytes_eq name (codes "DIVU") then Divu (reg_of (get_or ops 0 [])) (reg_of (get_or ops 1 [])) (reg_of (get_or ops 2 []))
    else if bytes_eq name (codes "REMU") then Remu (reg_of (get_or ops 0 [])) (reg_of (get_or ops 1 [])) (reg_of (get_or ops 2 []))
    else if bytes_eq name (codes "ECALLF") then Ecallf (reg_of (get_or ops 0 []))
    else if bytes_eq name (codes "ECALLT") then Ecallt (reg_of (get_or ops 0 []))
    else if bytes_eq name (codes "LDC") then Ldc (reg_of (get_or ops 0 [])) (number_of (get_or ops 1 []))
    else if bytes_eq name (codes "LDWDP") then Ldwdp (reg_of (get_or ops 0 [])) (number_of (get_or ops 1 []))
    else if bytes_eq name (codes "STWDP") then Stwdp (reg_of (get_or ops 0 [])) (number_of (get_or ops 1 []))
    else if bytes_eq name (codes "LDAWDP") then Ldawdp (reg_of (get_or ops 0 [])) (number_of (get_or ops 1 []))
    else if bytes_eq name (codes "LDWSP") then Ldwsp (reg_of (get_or ops 0 [])) (number_of (get_or ops 1 []))
    else if bytes_eq name (codes "STWSP") then Stwsp (reg_of (get_or ops 0 [])) (number_of (get_or ops 1 []))
    else if bytes_eq name (codes "LDAWSP") then Ldawsp (reg_of (get_or ops 0 [])) (number_of (get_or ops 1 []))
    else if bytes_eq name (codes "LDW") then Ldw (reg_of (get_or ops 0 [])) (reg_of (get_or ops 1 [])) (reg_of (get_or ops 2 []))
    else if bytes_eq name (codes "STW") then Stw (reg_of (get_or ops 0 [])) (reg_of (get_or ops 1 [])) (reg_of (get_or ops 2 []))
    else if bytes_eq name (codes "SETDP") then Setdp (reg_of (get_or ops 0 []))
    else if bytes_eq name (codes "SETSP") then Setsp (reg_of (get_or ops 0 []))
    else if bytes_eq name (codes "BRFT") then Brft (reg_of (get_or ops 0 [])) (number_of (get_or ops 1 []))
    else if bytes_eq name (codes "BRFF") then Brff (reg_of (get_or ops 0 [])) (number_of (get_or ops 1 []))
    else if bytes_eq name (codes "BRFU") then Brfu (number_of (get_or ops 0 []))
    else if bytes_eq name (codes "BRBT") then Brbt (reg_of (get_or ops 0 [])) (number_of (get_or ops 1 []))
    else if bytes_eq name (codes "BRBF") then Brbf (reg_of (get_or ops 0 [])) (number_of (get_or ops 1 []))
    else if bytes_eq name (codes "BRBU") then Brbu (number_of (get_or ops 0 []))
    else if bytes_eq name (codes "BLRF") then Blrf (number_of (get_or ops 0 []))
    else if bytes_eq name (codes "BLRB") then Blrb (number_of (get_or ops 0 []))
    else if bytes_eq name (codes "ENTSP") then Entsp (number_of (get_or ops 0 []))
    else if bytes_eq name (codes "RETSP") then Retsp (number_of (get_or ops 0 []))
    else if bytes_eq name (codes "GETR") then Getr (reg_of (get_or ops 0 [])) (kind_of (get_or ops 1 []))
    else if bytes_eq name (codes "FREER") then Freer (reg_of (get_or ops 0 []))
    else if bytes_eq name (codes "GETST") then Getst (reg_of (get_or ops 0 [])) (reg_of (get_or ops 1 []))
    else if bytes_eq name (codes "TINITPC") then Tinitpc (reg_of (get_or ops 0 [])) (number_of (get_or ops 1 []))
    else if bytes_eq name (codes "TINITDP") then Tinitdp (reg_of (get_or ops 0 [])) (reg_of (get_or ops 1 []))
    else if bytes_eq name (codes "TINITSP") then Tinitsp (reg_of (get_or ops 0 [])) (reg_of (get_or ops 1 []))
    else if bytes_eq name (codes "MSYNC") then Msync (reg_of (get_or ops 0 []))
    else if bytes_eq name (codes "SSYNC") then Ssync
    else if bytes_eq name (codes "MJOIN") then Mjoin (reg_of (get_or ops 0 []))
    else if bytes_eq name (codes "FREET") then Freet
    else if bytes_eq name (codes "OUT") then Out (reg_of (get_or ops 0 [])) (reg_of (get_or ops 1 []))
    else if bytes_eq name (codes "OUTT") then Outt (reg_of (get_or ops 0 [])) (reg_of (get_or ops 1 []))
    else if bytes_eq name (codes "OUTCT") then Outct (reg_of (get_or ops 0 [])) (number_of (get_or ops 1 []))
    else if bytes_eq name (codes "IN") then In (reg_of (get_or ops 0 [])) (reg_of (get_or ops 1 []))
    else if bytes_eq name (codes "INT") then Int (reg_of (get_or ops 0 [])) (reg_of (get_or ops 1 []))
    else if bytes_eq name (codes "CHKCT") then Chkct (reg_of (get_or ops 0 [])) (number_of (get_or ops 1 []))
    else if bytes_eq name (codes "SETC") then Setc (reg_of (get_or ops 0 [])) (cond_of (get_or ops 1 []))
    else if bytes_eq name (codes "SETD") then Setd (reg_of (get_or ops 0 [])) (reg_of (get_or ops 1 []))
    else if bytes_eq name (codes "SETPT") then Setpt (reg_of (get_or ops 0 [])) (reg_of (get_or ops 1 []))
    else if bytes_eq name (codes "GETTS") then Getts (reg_of (get_or ops 0 [])) (reg_of (get_or ops 1 []))
    else if bytes_eq name (codes "SETV") then Setv (reg_of (get_or ops 0 [])) (number_of (get_or ops 1 []))
    else if bytes_eq name (codes "EEU") then Eeu (reg_of (get_or ops 0 []))
    else if bytes_eq name (codes "EDU") then Edu (reg_of (get_or ops 0 []))
    else if bytes_eq name (codes "CLRE") then Clre
    else if bytes_eq name (codes "WAITEU") then Waiteu
    else if bytes_eq name (codes "SETSR") then Setsr (number_of (get_or ops 0 []))
    else Clrsr (number_of (get_or ops 0 []))

build_back : (x : Instr) → IsWordInstr x → build (name_of x) (operands_of x) ≡ x
unfolding build
build_back (Add a b c) h = rw (reg_of-text a, reg_of-text b, reg_of-text c) refl
build_back (Sub a b c) h = rw (reg_of-text a, reg_of-text b, reg_of-text c) refl
build_back (Mul a b c) h = rw (reg_of-text a, reg_of-text b, reg_of-text c) refl
build_back (And a b c) h = rw (reg_of-text a, reg_of-text b, reg_of-text c) refl
build_back (Or a b c) h = rw (reg_of-text a, reg_of-text b, reg_of-text c) refl
build_back (Xor a b c) h = rw (reg_of-text a, reg_of-text b, reg_of-text c) refl
build_back (Addi a b c) h = rw (reg_of-text a, reg_of-text b, number_of-decimal c (word_wide c h)) refl
build_back (Neg a b) h = rw (reg_of-text a, reg_of-text b) refl
build_back (Not a b) h = rw (reg_of-text a, reg_of-text b) refl
build_back (Eq a b c) h = rw (reg_of-text a, reg_of-text b, reg_of-text c) refl
build_back (Lss a b c) h = rw (reg_of-text a, reg_of-text b, reg_of-text c) refl
build_back (Lsu a b c) h = rw (reg_of-text a, reg_of-text b, reg_of-text c) refl
build_back (Shl a b c) h = rw (reg_of-text a, reg_of-text b, reg_of-text c) refl
build_back (Shr a b c) h = rw (reg_of-text a, reg_of-text b, reg_of-text c) refl
build_back (Ashr a b c) h = rw (reg_of-text a, reg_of-text b, reg_of-text c) refl
build_back (Divs a b c) h = rw (reg_of-text a, reg_of-text b, reg_of-text c) refl
build_back (Rems a b c) h = rw (reg_of-text a, reg_of-text b, reg_of-text c) refl
build_back (Divu a b c) h = rw (reg_of-text a, reg_of-text b, reg_of-text c) refl
build_back (Remu a b c) h = rw (reg_of-text a, reg_of-text b, reg_of-text c) refl
build_back (Ecallf a) h = rw (reg_of-text a) refl
build_back (Ecallt a) h = rw (reg_of-text a) refl
build_back (Ldc a b) h = rw (reg_of-text a, number_of-decimal b (word_wide b h)) refl
build_back (Ldwdp a b) h = rw (reg_of-text a, number_of-decimal b (word_wide b h)) refl
build_back (Stwdp a b) h = rw (reg_of-text a, number_of-decimal b (word_wide b h)) refl
build_back (Ldawdp a b) h = rw (reg_of-text a, number_of-decimal b (word_wide b h)) refl
build_back (Ldwsp a b) h = rw (reg_of-text a, number_of-decimal b (word_wide b h)) refl
build_back (Stwsp a b) h = rw (reg_of-text a, number_of-decimal b (word_wide b h)) refl
build_back (Ldawsp a b) h = rw (reg_of-text a, number_of-decimal b (word_wide b h)) refl
build_back (Ldw a b c) h = rw (reg_of-text a, reg_of-text b, reg_of-text c) refl
build_back (Stw a b c) h = rw (reg_of-text a, reg_of-text b, reg_of-text c) refl
build_back (Setdp a) h = rw (reg_of-text a) refl
build_back (Setsp a) h = rw (reg_of-text a) refl
build_back (Brft a b) h = rw (reg_of-text a, number_of-decimal b (word_wide b h)) refl
build_back (Brff a b) h = rw (reg_of-text a, number_of-decimal b (word_wide b h)) refl
build_back (Brfu a) h = rw (number_of-decimal a (word_wide a h)) refl
build_back (Brbt a b) h = rw (reg_of-text a, number_of-decimal b (word_wide b h)) refl
build_back (Brbf a b) h = rw (reg_of-text a, number_of-decimal b (word_wide b h)) refl
build_back (Brbu a) h = rw (number_of-decimal a (word_wide a h)) refl
build_back (Blrf a) h = rw (number_of-decimal a (word_wide a h)) refl
build_back (Blrb a) h = rw (number_of-decimal a (word_wide a h)) refl
build_back (Entsp a) h = rw (number_of-decimal a (word_wide a h)) refl
build_back (Retsp a) h = rw (number_of-decimal a (word_wide a h)) refl
build_back (Getr a b) h = rw (reg_of-text a, kind_of-text b) refl
build_back (Freer a) h = rw (reg_of-text a) refl
build_back (Getst a b) h = rw (reg_of-text a, reg_of-text b) refl
build_back (Tinitpc a b) h = rw (reg_of-text a, number_of-decimal b (word_wide b h)) refl
build_back (Tinitdp a b) h = rw (reg_of-text a, reg_of-text b) refl
build_back (Tinitsp a b) h = rw (reg_of-text a, reg_of-text b) refl
build_back (Msync a) h = rw (reg_of-text a) refl
build_back Ssync h = refl
build_back (Mjoin a) h = rw (reg_of-text a) refl
build_back Freet h = refl
build_back (Out a b) h = rw (reg_of-text a, reg_of-text b) refl
build_back (Outt a b) h = rw (reg_of-text a, reg_of-text b) refl
build_back (Outct a b) h = rw (reg_of-text a, number_of-decimal b (word_wide b h)) refl
build_back (In a b) h = rw (reg_of-text a, reg_of-text b) refl
build_back (Int a b) h = rw (reg_of-text a, reg_of-text b) refl
build_back (Chkct a b) h = rw (reg_of-text a, number_of-decimal b (word_wide b h)) refl
build_back (Setc a b) h = rw (reg_of-text a, cond_of-text b) refl
build_back (Setd a b) h = rw (reg_of-text a, reg_of-text b) refl
build_back (Setpt a b) h = rw (reg_of-text a, reg_of-text b) refl
build_back (Getts a b) h = rw (reg_of-text a, reg_of-text b) refl
build_back (Setv a b) h = rw (reg_of-text a, number_of-decimal b (word_wide b h)) refl
build_back (Eeu a) h = rw (reg_of-text a) refl
build_back (Edu a) h = rw (reg_of-text a) refl
build_back Clre h = refl
build_back Waiteu h = refl
build_back (Setsr a) h = rw (number_of-decimal a (word_wide a h)) refl
build_back (Clrsr a) h = rw (number_of-decimal a (word_wide a h)) refl

-- an instruction's text ends where a space and an at sign stand
pub instr_cut : (x y : Instr) (z w : List ℕ) → IsWordInstr x → IsWordInstr y → instr_text x ++ 32 ∷ 64 ∷ z ≡ instr_text y ++ 32 ∷ 64 ∷ w → (x ≡ y) × (z ≡ w)
instr_cut x y z w p q e =
    let fx = then_operands (operands_of x) (64 ∷ z) in
    let fy = then_operands (operands_of y) (64 ∷ w) in
    let e' : name_of x ++ 32 ∷ fx ≡ name_of y ++ 32 ∷ fy = sym (instr_front x (64 ∷ z)) ∙ e ∙ instr_front y (64 ∷ w) in
    let names : (name_of x ≡ name_of y) × (32 ∷ fx ≡ 32 ∷ fy) = cut (name_of x) (name_of y) (32 ∷ fx) (32 ∷ fy) (name_inside x) (name_inside y) space_apart space_apart e' in
    let rest : (operands_of x ≡ operands_of y) × (z ≡ w) = operands_cut (operands_of x) (operands_of y) z w (operands_inside x p) (operands_inside y q) (tail_is 32 32 fx fy names.1) in
    (sym (build_back x p) ∙ ap (λ n. build n (operands_of x)) names.0 ∙ ap (build (name_of y)) rest.0 ∙ build_back y q, rest.1)
