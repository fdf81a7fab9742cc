-- The line of each instruction, as it is written, is read as what it says.
use Rattle.std.proofs.Common.{◌≡◌, ℕ, ◌+◌, ◌-◌, ◌<◌, ◌^◌, Bool, true, false, ◌&&◌, if◌then◌else◌, List, [], ◌∷◌, ◌++◌, length, take, get_or, Option, Some, None, refl, ap, ◌∙◌, arith, append_assoc, length-append}
use Rattle.std.proofs.lemmas.Bool.{ltb-true, ne_eqb, eq-eqb}
use Rattle.std.proofs.lemmas.Bool.Decides.{nat_tests}
use Rattle.std.proofs.lemmas.Fmt.{decimal_nonempty}
use Rattle.std.specs.Char.{is_ascii_digit}
use Rattle.std.specs.List.{list_all}
use Rattle.std.specs.Prelude.{◌==◌, bytes_eq, codes, decimal, nat_lt, option_and_then, slice_index}
use Rattle.xr_assembly.proofs.Written.{and_second, decimal_digits, free, free-append, inside-free, numeral-decimal, parts-last, parts-more}
use Rattle.xr_assembly.proofs.WrittenLines.{feed-decimal, line-is, space-decimal}
use Rattle.xr_assembly.specs.Cuts.{before_last, numeral, parts, the_one_named}
use Rattle.xr_assembly.specs.Forms.{chan, code, code_by, form_of_words, index, place_of_numbers, place_of_parts, place_of_word, port}
use Rattle.xr_assembly.specs.Instructions.{conditions, kinds, operand, operand_before_comma, operand_by, registers, with_none, with_one, with_one_by, with_three, with_three_by, with_two, with_two_by}
use Rattle.xr_assembly.specs.Written.{IsLine}
use Rattle.xr_assembly.specs.declared.instructions.Operand.{Operand}
use Rattle.xr_assembly.specs.declared.instructions.Operand.TheVariants.{Register, Number, Condition, Kind}
use Rattle.xr_assembly.specs.declared.instructions.Spoken.{Spoken}
use Rattle.xr_assembly.specs.declared.lines.Line.{Line}
use Rattle.xr_assembly.specs.declared.lines.Line.TheVariants.{Code}
use Rattle.xr_text.proofs.InjectiveTokens.{all_inside, and_first, colon_apart, cond_inside, decimal_inside, feed_apart, kind_inside, reg_inside, space_apart}
use Rattle.xs_instr.specs.Texts.{code_line, cond_text, get_text, instr_text, one_operand, reg_text, three_operands, two_operands}
use Rattle.xs_instr.specs.Words.{IsWordInstr}
use Rattle.xs_instr.specs.declared.instr.Cond.{Cond}
use Rattle.xs_instr.specs.declared.instr.Cond.TheVariants.{None as CondNone, Eq as CondEq, Neq as CondNeq, After as CondAfter}
use Rattle.xs_instr.specs.declared.instr.GetKind.{GetKind}
use Rattle.xs_instr.specs.declared.instr.GetKind.TheVariants.{Sync as GetSync, Lock as GetLock}
use Rattle.xs_instr.specs.declared.instr.Instr.{Instr}
use Rattle.xs_instr.specs.declared.instr.Instr.TheVariants.{Add, Sub, Mul, And, Or, Xor, Addi, Neg, Not, Eq, Lss, Lsu, Shl, Shr, Ashr, Divs, Rems, Divu, Remu, Ecallf, Ecallt, Ldc, Ldwdp, Stwdp, Ldawdp, Ldwsp, Stwsp, Ldawsp, Ldw, Stw, Setdp, Setsp, Brft, Brff, Brfu, Brbt, Brbf, Brbu, Blrf, Blrb, Entsp, Retsp, Getr, Freer, Getst, Tinitpc, Tinitdp, Tinitsp, Msync, Ssync, Mjoin, Freet, Out, Outt, Outct, In, Int, Chkct, Setc, Setd, Setpt, Getts, Setv, Eeu, Edu, Clre, Waiteu, Setsr, Clrsr}
use Rattle.xs_instr.specs.declared.instr.Reg.{Reg}
use Rattle.xs_instr.specs.declared.instr.Reg.TheVariants.{R0, R1, R2, R3, R4, R5, R6, R7, R8, R9, R10, R11, Cp, Dp, Sp, Lr}
use Rattle.xw_words.specs.declared.pos.Pos.{Pos}

-- its first byte is above the digits
abbrev is_high : List ℕ → Bool
is_high [] = false
is_high (a ∷ more) = nat_lt 57 a

high_ne : (t : List ℕ) (d : ℕ) (ds : List ℕ) → d < 58 → is_high t ≡ true → bytes_eq t (d ∷ ds) ≡ false
high_ne [] d ds small e = absurd (cc)
high_ne (a ∷ more) d ds small e = ap (λ b. b && bytes_eq more ds) (ne_eqb a d (λ s. omega (arith, ltb-true 57 a e)))

named_none : {A : Type 0} → (text : A → List ℕ) (xs : List A) (d : ℕ) (ds : List ℕ) → d < 58 → list_all (λ x. is_high (text x)) xs ≡ true →
    the_one_named text xs (d ∷ ds) ≡ None
named_none text [] d ds small e = refl
named_none text (x ∷ xs) d ds small e =
    ap (λ b. if b then Some x else the_one_named text xs (d ∷ ds)) (high_ne (text x) d ds small (and_first (is_high (text x)) (list_all (λ y. is_high (text y)) xs) e))
    ∙ named_none text xs d ds small (and_second (is_high (text x)) (list_all (λ y. is_high (text y)) xs) e)

digit_small : (d : ℕ) → is_ascii_digit d ≡ true → d < 58
digit_small d h = grind (arith, nat_tests)

digit_large : (d : ℕ) → is_ascii_digit d ≡ true → 47 < d
digit_large d h = grind (arith, nat_tests)

operand_digits : (w : List ℕ) (n : Option ℕ) → 0 < length w → list_all is_ascii_digit w ≡ true → numeral w ≡ Some n → operand w ≡ Some (Number n)
operand_digits [] n l h num = absurd (omega arith)
operand_digits (d ∷ ds) n l h num =
    let small : d < 58 = digit_small d (and_first (is_ascii_digit d) (list_all is_ascii_digit ds) h) in
    let w = d ∷ ds in
    ap (λ o. operand_by o (the_one_named cond_text conditions w) (the_one_named get_text kinds w) (numeral w)) (named_none reg_text registers d ds small refl)
    ∙ ap (λ o. operand_by None o (the_one_named get_text kinds w) (numeral w)) (named_none cond_text conditions d ds small refl)
    ∙ ap (λ o. operand_by None None o (numeral w)) (named_none get_text kinds d ds small refl)
    ∙ ap (operand_by None None None) num

number_is : (n : ℕ) → n < 2 ^ 32 → operand (decimal n) ≡ Some (Number (Some n))
number_is n small =
    let wide : n < 2 ^ 64 = omega arith in
    operand_digits (decimal n) (Some n) (decimal_nonempty n wide) (decimal_digits n wide) (numeral-decimal n small)

reg_is : (r : Reg) → operand (reg_text r) ≡ Some (Register r)
reg_is R0 = refl
reg_is R1 = refl
reg_is R2 = refl
reg_is R3 = refl
reg_is R4 = refl
reg_is R5 = refl
reg_is R6 = refl
reg_is R7 = refl
reg_is R8 = refl
reg_is R9 = refl
reg_is R10 = refl
reg_is R11 = refl
reg_is Cp = refl
reg_is Dp = refl
reg_is Sp = refl
reg_is Lr = refl

cond_is : (c : Cond) → operand (cond_text c) ≡ Some (Condition c)
cond_is CondNone = refl
cond_is CondEq = refl
cond_is CondNeq = refl
cond_is CondAfter = refl

kind_is : (k : GetKind) → operand (get_text k) ≡ Some (Kind k)
kind_is GetSync = refl
kind_is GetLock = refl

last_is : (w : List ℕ) (x : ℕ) → get_or (w ++ x ∷ []) (length w) 0 ≡ x
last_is [] x = refl
last_is (b ∷ w) x = last_is w x

front_is : (w : List ℕ) (x : ℕ) → take (length w) (w ++ x ∷ []) ≡ w
front_is [] x = refl
front_is (b ∷ w) x = ap (λ t. b ∷ t) (front_is w x)

before_is : (sep : ℕ) (w : List ℕ) → before_last sep (w ++ sep ∷ []) ≡ Some w
before_is sep w =
    let v = w ++ sep ∷ [] in
    let size : length v ≡ length w + 1 = length-append w (sep ∷ []) in
    let k : length v - 1 ≡ length w = omega arith in
    ap (λ z. if z then None else (if slice_index v (length v - 1) == sep then Some (take (length v - 1) v) else None)) (ne_eqb (length v) 0 (λ e. omega arith))
    ∙ ap (λ n. if slice_index v n == sep then Some (take n v) else None) k
    ∙ ap (λ z. if z then Some (take (length w) v) else None) (eq-eqb (get_or v (length w) 0) sep (last_is w sep))
    ∙ ap Some (front_is w sep)

comma_is : (w : List ℕ) (o : Option Operand) → operand w ≡ o → operand_before_comma (w ++ 44 ∷ []) ≡ o
comma_is w o e = ap (option_and_then operand) (before_is 44 w) ∙ e

-- the words in front of an instruction and behind it
index_word : ℕ → List ℕ
index_word i = decimal i ++ 58 ∷ []

place_word : Pos → List ℕ
place_word p = 64 ∷ (decimal p.line ++ 58 ∷ decimal p.col)

record AreSmall (i : ℕ) (p : Pos) : Type 0 where
  index : i < 2 ^ 32
  line : p.line < 2 ^ 32
  col : p.col < 2 ^ 32

index_is : (i : ℕ) → i < 2 ^ 32 → index (index_word i) ≡ Some (Some i)
unfolding index_word
index_is i small = ap (option_and_then numeral) (before_is 58 (decimal i)) ∙ numeral-decimal i small

place_is : (p : Pos) → p.line < 2 ^ 32 → p.col < 2 ^ 32 → place_of_word (place_word p) ≡ Some (record { pos = p; fits = true })
unfolding place_word
place_is p hl hc =
    let l = decimal p.line in
    let c = decimal p.col in
    ap place_of_parts (parts-more 58 l c (inside-free 58 l colon_apart (decimal_inside p.line (omega arith)))
    ∙ ap (λ ps. l ∷ ps) (parts-last 58 c (inside-free 58 c colon_apart (decimal_inside p.col (omega arith)))))
    ∙ ap (λ o. place_of_numbers o (numeral c)) (numeral-decimal p.line hl) ∙ ap (place_of_numbers (Some (Some p.line))) (numeral-decimal p.col hc)

abbrev spoken_as : Instr → Option Spoken
spoken_as x = Some (record { instr = x; fits = true })

abbrev line_as : ℕ → Instr → Pos → Line
line_as i x p = Code (record { index = i; instr = x; pos = p })

code_is : (i : ℕ) (x : Instr) (p : Pos) (o : Option Spoken) → AreSmall i p → o ≡ spoken_as x →
    code (index_word i) o (place_word p) ≡ Some (record { line = line_as i x p; fits = true })
code_is i x p o s e =
    ap (λ a. code_by a o (place_of_word (place_word p))) (index_is i s.index)
    ∙ ap (λ a. code_by (Some (Some i)) a (place_of_word (place_word p))) e
    ∙ ap (code_by (Some (Some i)) (spoken_as x)) (place_is p s.line s.col)

digits_not : (w v t : List ℕ) → 0 < length w → list_all is_ascii_digit w ≡ true → bytes_eq (w ++ v) (46 ∷ t) ≡ false
digits_not [] v t l h = absurd (omega arith)
digits_not (d ∷ ds) v t l h =
    ap (λ b. b && bytes_eq (ds ++ v) t) (ne_eqb d 46 (λ e. omega (arith, digit_large d (and_first (is_ascii_digit d) (list_all is_ascii_digit ds) h))))

index_not : (i : ℕ) (t : List ℕ) → i < 2 ^ 32 → bytes_eq (index_word i) (46 ∷ t) ≡ false
unfolding index_word
index_not i t small = digits_not (decimal i) (58 ∷ []) t (decimal_nonempty i (omega arith)) (decimal_digits i (omega arith))

-- a word without spaces and line feeds
record IsWord (w : List ℕ) : Type 0 where
  feed : free 10 w ≡ true
  space : free 32 w ≡ true

word_of : (w : List ℕ) → all_inside w ≡ true → IsWord w
word_of w h = record { feed = inside-free 10 w feed_apart h; space = inside-free 32 w space_apart h }

with_comma : (w : List ℕ) → IsWord w → IsWord (w ++ 44 ∷ [])
with_comma w h = record { feed = free-append 10 w (44 ∷ []) h.feed refl; space = free-append 32 w (44 ∷ []) h.space refl }

index_is_word : (i : ℕ) → i < 2 ^ 32 → IsWord (index_word i)
unfolding index_word
index_is_word i small = record {
  feed = free-append 10 (decimal i) (58 ∷ []) (feed-decimal i small) refl;
  space = free-append 32 (decimal i) (58 ∷ []) (space-decimal i small) refl;
}

place_is_word : (p : Pos) → p.line < 2 ^ 32 → p.col < 2 ^ 32 → IsWord (place_word p)
unfolding place_word
place_is_word p hl hc = record {
  feed = free-append 10 (decimal p.line) (58 ∷ decimal p.col) (feed-decimal p.line hl) (feed-decimal p.col hc);
  space = free-append 32 (decimal p.line) (58 ∷ decimal p.col) (space-decimal p.line hl) (space-decimal p.col hc);
}

-- words with a space between any two
abbrev spaced : List (List ℕ) → List ℕ → List ℕ
spaced [] last = last
spaced (w ∷ ws) last = w ++ 32 ∷ spaced ws last

abbrev AreSpaced : List (List ℕ) → Type 0
AreSpaced [] = Unit {0}
AreSpaced (w ∷ ws) = IsWord w × AreSpaced ws

spaced_feed : (ws : List (List ℕ)) (last : List ℕ) → AreSpaced ws → IsWord last → free 10 (spaced ws last) ≡ true
spaced_feed [] last h g = g.feed
spaced_feed (w ∷ ws) last h g = free-append 10 w (32 ∷ spaced ws last) h.0.feed (spaced_feed ws last h.1 g)

spaced_parts : (ws : List (List ℕ)) (last : List ℕ) → AreSpaced ws → IsWord last → parts 32 (spaced ws last) ≡ ws ++ last ∷ []
spaced_parts [] last h g = parts-last 32 last g.space
spaced_parts (w ∷ ws) last h g = parts-more 32 w (spaced ws last) h.0.space ∙ ap (λ ps. w ∷ ps) (spaced_parts ws last h.1 g)

none_is : (i : ℕ) (x : Instr) (p : Pos) (name : List ℕ) → AreSmall i p → IsWord name → instr_text x ≡ name → with_none name ≡ spoken_as x →
    IsLine (code_line i x p) (line_as i x p)
unfolding code_line index_word place_word
none_is i x p name s n e says =
    let I = index_word i in
    let P = place_word p in
    let words : AreSpaced (I ∷ name ∷ []) = (index_is_word i s.index, (n, tt)) in
    let last : IsWord P = place_is_word p s.line s.col in
    line-is (code_line i x p) (spaced (I ∷ name ∷ []) P) (line_as i x p) (rw e (simp append_assoc)) (spaced_feed (I ∷ name ∷ []) P words last)
    (ap form_of_words (spaced_parts (I ∷ name ∷ []) P words last)
    ∙ ap (λ z. if z then port name P else code I (with_none name) P) (index_not i (112 ∷ 111 ∷ 114 ∷ 116 ∷ []) s.index) ∙ code_is i x p (with_none name) s says)

one_is : (i : ℕ) (x : Instr) (p : Pos) (name a : List ℕ) → AreSmall i p → IsWord name → IsWord a → instr_text x ≡ one_operand name a →
    with_one name a ≡ spoken_as x → IsLine (code_line i x p) (line_as i x p)
unfolding code_line one_operand index_word place_word
one_is i x p name a s n wa e says =
    let I = index_word i in
    let P = place_word p in
    let words : AreSpaced (I ∷ name ∷ a ∷ []) = (index_is_word i s.index, (n, (wa, tt))) in
    let last : IsWord P = place_is_word p s.line s.col in
    line-is (code_line i x p) (spaced (I ∷ name ∷ a ∷ []) P) (line_as i x p) (rw e (simp append_assoc)) (spaced_feed (I ∷ name ∷ a ∷ []) P words last)
    (ap form_of_words (spaced_parts (I ∷ name ∷ a ∷ []) P words last) ∙ code_is i x p (with_one name a) s says)

two_is : (i : ℕ) (x : Instr) (p : Pos) (name a b : List ℕ) → AreSmall i p → IsWord name → IsWord a → IsWord b → instr_text x ≡ two_operands name a b →
    with_two name (a ++ 44 ∷ []) b ≡ spoken_as x → IsLine (code_line i x p) (line_as i x p)
unfolding code_line two_operands index_word place_word
two_is i x p name a b s n wa wb e says =
    let I = index_word i in
    let P = place_word p in
    let ws = I ∷ name ∷ (a ++ 44 ∷ []) ∷ b ∷ [] in
    let words : AreSpaced ws = (index_is_word i s.index, (n, (with_comma a wa, (wb, tt)))) in
    let last : IsWord P = place_is_word p s.line s.col in
    line-is (code_line i x p) (spaced ws P) (line_as i x p) (rw e (simp append_assoc)) (spaced_feed ws P words last)
    (ap form_of_words (spaced_parts ws P words last)
    ∙ ap (λ z. if z then chan name (a ++ 44 ∷ []) b P else code I (with_two name (a ++ 44 ∷ []) b) P) (index_not i (99 ∷ 104 ∷ 97 ∷ 110 ∷ []) s.index) ∙ code_is i x p (with_two name (a ++ 44 ∷ []) b) s says)

three_is : (i : ℕ) (x : Instr) (p : Pos) (name a b c : List ℕ) → AreSmall i p → IsWord name → IsWord a → IsWord b → IsWord c →
    instr_text x ≡ three_operands name a b c → with_three name (a ++ 44 ∷ []) (b ++ 44 ∷ []) c ≡ spoken_as x → IsLine (code_line i x p) (line_as i x p)
unfolding code_line three_operands index_word place_word
three_is i x p name a b c s n wa wb wc e says =
    let I = index_word i in
    let P = place_word p in
    let ws = I ∷ name ∷ (a ++ 44 ∷ []) ∷ (b ++ 44 ∷ []) ∷ c ∷ [] in
    let words : AreSpaced ws = (index_is_word i s.index, (n, (with_comma a wa, (with_comma b wb, (wc, tt))))) in
    let last : IsWord P = place_is_word p s.line s.col in
    line-is (code_line i x p) (spaced ws P) (line_as i x p) (rw e (simp append_assoc)) (spaced_feed ws P words last)
    (ap form_of_words (spaced_parts ws P words last) ∙ code_is i x p (with_three name (a ++ 44 ∷ []) (b ++ 44 ∷ []) c) s says)

reg_word : (r : Reg) → IsWord (reg_text r)
reg_word r = word_of (reg_text r) (reg_inside r)

number_word : (n : ℕ) → n < 2 ^ 32 → IsWord (decimal n)
number_word n small = record { feed = feed-decimal n small; space = space-decimal n small }

by_instr : (i : ℕ) (x : Instr) (p : Pos) → AreSmall i p → IsWordInstr x → IsLine (code_line i x p) (line_as i x p)
by_instr i (Add a b c) p s h = three_is i (Add a b c) p (codes "ADD") (reg_text a) (reg_text b) (reg_text c) s (record { feed = refl; space = refl }) (reg_word a) (reg_word b) (reg_word c) refl (ap (λ o. with_three_by (codes "ADD") o (operand_before_comma ((reg_text b) ++ 44 ∷ [])) (operand (reg_text c))) (comma_is (reg_text a) (Some (Register a)) (reg_is a)) ∙ ap (λ o. with_three_by (codes "ADD") (Some (Register a)) o (operand (reg_text c))) (comma_is (reg_text b) (Some (Register b)) (reg_is b)) ∙ ap (with_three_by (codes "ADD") (Some (Register a)) (Some (Register b))) (reg_is c))
by_instr i (Sub a b c) p s h = three_is i (Sub a b c) p (codes "SUB") (reg_text a) (reg_text b) (reg_text c) s (record { feed = refl; space = refl }) (reg_word a) (reg_word b) (reg_word c) refl (ap (λ o. with_three_by (codes "SUB") o (operand_before_comma ((reg_text b) ++ 44 ∷ [])) (operand (reg_text c))) (comma_is (reg_text a) (Some (Register a)) (reg_is a)) ∙ ap (λ o. with_three_by (codes "SUB") (Some (Register a)) o (operand (reg_text c))) (comma_is (reg_text b) (Some (Register b)) (reg_is b)) ∙ ap (with_three_by (codes "SUB") (Some (Register a)) (Some (Register b))) (reg_is c))
by_instr i (Mul a b c) p s h = three_is i (Mul a b c) p (codes "MUL") (reg_text a) (reg_text b) (reg_text c) s (record { feed = refl; space = refl }) (reg_word a) (reg_word b) (reg_word c) refl (ap (λ o. with_three_by (codes "MUL") o (operand_before_comma ((reg_text b) ++ 44 ∷ [])) (operand (reg_text c))) (comma_is (reg_text a) (Some (Register a)) (reg_is a)) ∙ ap (λ o. with_three_by (codes "MUL") (Some (Register a)) o (operand (reg_text c))) (comma_is (reg_text b) (Some (Register b)) (reg_is b)) ∙ ap (with_three_by (codes "MUL") (Some (Register a)) (Some (Register b))) (reg_is c))
by_instr i (And a b c) p s h = three_is i (And a b c) p (codes "AND") (reg_text a) (reg_text b) (reg_text c) s (record { feed = refl; space = refl }) (reg_word a) (reg_word b) (reg_word c) refl (ap (λ o. with_three_by (codes "AND") o (operand_before_comma ((reg_text b) ++ 44 ∷ [])) (operand (reg_text c))) (comma_is (reg_text a) (Some (Register a)) (reg_is a)) ∙ ap (λ o. with_three_by (codes "AND") (Some (Register a)) o (operand (reg_text c))) (comma_is (reg_text b) (Some (Register b)) (reg_is b)) ∙ ap (with_three_by (codes "AND") (Some (Register a)) (Some (Register b))) (reg_is c))
by_instr i (Or a b c) p s h = three_is i (Or a b c) p (codes "OR") (reg_text a) (reg_text b) (reg_text c) s (record { feed = refl; space = refl }) (reg_word a) (reg_word b) (reg_word c) refl (ap (λ o. with_three_by (codes "OR") o (operand_before_comma ((reg_text b) ++ 44 ∷ [])) (operand (reg_text c))) (comma_is (reg_text a) (Some (Register a)) (reg_is a)) ∙ ap (λ o. with_three_by (codes "OR") (Some (Register a)) o (operand (reg_text c))) (comma_is (reg_text b) (Some (Register b)) (reg_is b)) ∙ ap (with_three_by (codes "OR") (Some (Register a)) (Some (Register b))) (reg_is c))
by_instr i (Xor a b c) p s h = three_is i (Xor a b c) p (codes "XOR") (reg_text a) (reg_text b) (reg_text c) s (record { feed = refl; space = refl }) (reg_word a) (reg_word b) (reg_word c) refl (ap (λ o. with_three_by (codes "XOR") o (operand_before_comma ((reg_text b) ++ 44 ∷ [])) (operand (reg_text c))) (comma_is (reg_text a) (Some (Register a)) (reg_is a)) ∙ ap (λ o. with_three_by (codes "XOR") (Some (Register a)) o (operand (reg_text c))) (comma_is (reg_text b) (Some (Register b)) (reg_is b)) ∙ ap (with_three_by (codes "XOR") (Some (Register a)) (Some (Register b))) (reg_is c))
by_instr i (Addi a b c) p s h = three_is i (Addi a b c) p (codes "ADDI") (reg_text a) (reg_text b) (decimal c) s (record { feed = refl; space = refl }) (reg_word a) (reg_word b) (number_word c h) refl (ap (λ o. with_three_by (codes "ADDI") o (operand_before_comma ((reg_text b) ++ 44 ∷ [])) (operand (decimal c))) (comma_is (reg_text a) (Some (Register a)) (reg_is a)) ∙ ap (λ o. with_three_by (codes "ADDI") (Some (Register a)) o (operand (decimal c))) (comma_is (reg_text b) (Some (Register b)) (reg_is b)) ∙ ap (with_three_by (codes "ADDI") (Some (Register a)) (Some (Register b))) (number_is c h))
by_instr i (Neg a b) p s h = two_is i (Neg a b) p (codes "NEG") (reg_text a) (reg_text b) s (record { feed = refl; space = refl }) (reg_word a) (reg_word b) refl (ap (λ o. with_two_by (codes "NEG") o (operand (reg_text b))) (comma_is (reg_text a) (Some (Register a)) (reg_is a)) ∙ ap (with_two_by (codes "NEG") (Some (Register a))) (reg_is b))
by_instr i (Not a b) p s h = two_is i (Not a b) p (codes "NOT") (reg_text a) (reg_text b) s (record { feed = refl; space = refl }) (reg_word a) (reg_word b) refl (ap (λ o. with_two_by (codes "NOT") o (operand (reg_text b))) (comma_is (reg_text a) (Some (Register a)) (reg_is a)) ∙ ap (with_two_by (codes "NOT") (Some (Register a))) (reg_is b))
by_instr i (Eq a b c) p s h = three_is i (Eq a b c) p (codes "EQ") (reg_text a) (reg_text b) (reg_text c) s (record { feed = refl; space = refl }) (reg_word a) (reg_word b) (reg_word c) refl (ap (λ o. with_three_by (codes "EQ") o (operand_before_comma ((reg_text b) ++ 44 ∷ [])) (operand (reg_text c))) (comma_is (reg_text a) (Some (Register a)) (reg_is a)) ∙ ap (λ o. with_three_by (codes "EQ") (Some (Register a)) o (operand (reg_text c))) (comma_is (reg_text b) (Some (Register b)) (reg_is b)) ∙ ap (with_three_by (codes "EQ") (Some (Register a)) (Some (Register b))) (reg_is c))
by_instr i (Lss a b c) p s h = three_is i (Lss a b c) p (codes "LSS") (reg_text a) (reg_text b) (reg_text c) s (record { feed = refl; space = refl }) (reg_word a) (reg_word b) (reg_word c) refl (ap (λ o. with_three_by (codes "LSS") o (operand_before_comma ((reg_text b) ++ 44 ∷ [])) (operand (reg_text c))) (comma_is (reg_text a) (Some (Register a)) (reg_is a)) ∙ ap (λ o. with_three_by (codes "LSS") (Some (Register a)) o (operand (reg_text c))) (comma_is (reg_text b) (Some (Register b)) (reg_is b)) ∙ ap (with_three_by (codes "LSS") (Some (Register a)) (Some (Register b))) (reg_is c))
by_instr i (Lsu a b c) p s h = three_is i (Lsu a b c) p (codes "LSU") (reg_text a) (reg_text b) (reg_text c) s (record { feed = refl; space = refl }) (reg_word a) (reg_word b) (reg_word c) refl (ap (λ o. with_three_by (codes "LSU") o (operand_before_comma ((reg_text b) ++ 44 ∷ [])) (operand (reg_text c))) (comma_is (reg_text a) (Some (Register a)) (reg_is a)) ∙ ap (λ o. with_three_by (codes "LSU") (Some (Register a)) o (operand (reg_text c))) (comma_is (reg_text b) (Some (Register b)) (reg_is b)) ∙ ap (with_three_by (codes "LSU") (Some (Register a)) (Some (Register b))) (reg_is c))
by_instr i (Shl a b c) p s h = three_is i (Shl a b c) p (codes "SHL") (reg_text a) (reg_text b) (reg_text c) s (record { feed = refl; space = refl }) (reg_word a) (reg_word b) (reg_word c) refl (ap (λ o. with_three_by (codes "SHL") o (operand_before_comma ((reg_text b) ++ 44 ∷ [])) (operand (reg_text c))) (comma_is (reg_text a) (Some (Register a)) (reg_is a)) ∙ ap (λ o. with_three_by (codes "SHL") (Some (Register a)) o (operand (reg_text c))) (comma_is (reg_text b) (Some (Register b)) (reg_is b)) ∙ ap (with_three_by (codes "SHL") (Some (Register a)) (Some (Register b))) (reg_is c))
by_instr i (Shr a b c) p s h = three_is i (Shr a b c) p (codes "SHR") (reg_text a) (reg_text b) (reg_text c) s (record { feed = refl; space = refl }) (reg_word a) (reg_word b) (reg_word c) refl (ap (λ o. with_three_by (codes "SHR") o (operand_before_comma ((reg_text b) ++ 44 ∷ [])) (operand (reg_text c))) (comma_is (reg_text a) (Some (Register a)) (reg_is a)) ∙ ap (λ o. with_three_by (codes "SHR") (Some (Register a)) o (operand (reg_text c))) (comma_is (reg_text b) (Some (Register b)) (reg_is b)) ∙ ap (with_three_by (codes "SHR") (Some (Register a)) (Some (Register b))) (reg_is c))
by_instr i (Ashr a b c) p s h = three_is i (Ashr a b c) p (codes "ASHR") (reg_text a) (reg_text b) (reg_text c) s (record { feed = refl; space = refl }) (reg_word a) (reg_word b) (reg_word c) refl (ap (λ o. with_three_by (codes "ASHR") o (operand_before_comma ((reg_text b) ++ 44 ∷ [])) (operand (reg_text c))) (comma_is (reg_text a) (Some (Register a)) (reg_is a)) ∙ ap (λ o. with_three_by (codes "ASHR") (Some (Register a)) o (operand (reg_text c))) (comma_is (reg_text b) (Some (Register b)) (reg_is b)) ∙ ap (with_three_by (codes "ASHR") (Some (Register a)) (Some (Register b))) (reg_is c))
by_instr i (Divs a b c) p s h = three_is i (Divs a b c) p (codes "DIVS") (reg_text a) (reg_text b) (reg_text c) s (record { feed = refl; space = refl }) (reg_word a) (reg_word b) (reg_word c) refl (ap (λ o. with_three_by (codes "DIVS") o (operand_before_comma ((reg_text b) ++ 44 ∷ [])) (operand (reg_text c))) (comma_is (reg_text a) (Some (Register a)) (reg_is a)) ∙ ap (λ o. with_three_by (codes "DIVS") (Some (Register a)) o (operand (reg_text c))) (comma_is (reg_text b) (Some (Register b)) (reg_is b)) ∙ ap (with_three_by (codes "DIVS") (Some (Register a)) (Some (Register b))) (reg_is c))
by_instr i (Rems a b c) p s h = three_is i (Rems a b c) p (codes "REMS") (reg_text a) (reg_text b) (reg_text c) s (record { feed = refl; space = refl }) (reg_word a) (reg_word b) (reg_word c) refl (ap (λ o. with_three_by (codes "REMS") o (operand_before_comma ((reg_text b) ++ 44 ∷ [])) (operand (reg_text c))) (comma_is (reg_text a) (Some (Register a)) (reg_is a)) ∙ ap (λ o. with_three_by (codes "REMS") (Some (Register a)) o (operand (reg_text c))) (comma_is (reg_text b) (Some (Register b)) (reg_is b)) ∙ ap (with_three_by (codes "REMS") (Some (Register a)) (Some (Register b))) (reg_is c))
by_instr i (Divu a b c) p s h = three_is i (Divu a b c) p (codes "DIVU") (reg_text a) (reg_text b) (reg_text c) s (record { feed = refl; space = refl }) (reg_word a) (reg_word b) (reg_word c) refl (ap (λ o. with_three_by (codes "DIVU") o (operand_before_comma ((reg_text b) ++ 44 ∷ [])) (operand (reg_text c))) (comma_is (reg_text a) (Some (Register a)) (reg_is a)) ∙ ap (λ o. with_three_by (codes "DIVU") (Some (Register a)) o (operand (reg_text c))) (comma_is (reg_text b) (Some (Register b)) (reg_is b)) ∙ ap (with_three_by (codes "DIVU") (Some (Register a)) (Some (Register b))) (reg_is c))
by_instr i (Remu a b c) p s h = three_is i (Remu a b c) p (codes "REMU") (reg_text a) (reg_text b) (reg_text c) s (record { feed = refl; space = refl }) (reg_word a) (reg_word b) (reg_word c) refl (ap (λ o. with_three_by (codes "REMU") o (operand_before_comma ((reg_text b) ++ 44 ∷ [])) (operand (reg_text c))) (comma_is (reg_text a) (Some (Register a)) (reg_is a)) ∙ ap (λ o. with_three_by (codes "REMU") (Some (Register a)) o (operand (reg_text c))) (comma_is (reg_text b) (Some (Register b)) (reg_is b)) ∙ ap (with_three_by (codes "REMU") (Some (Register a)) (Some (Register b))) (reg_is c))
by_instr i (Ecallf a) p s h = one_is i (Ecallf a) p (codes "ECALLF") (reg_text a) s (record { feed = refl; space = refl }) (reg_word a) refl (ap (with_one_by (codes "ECALLF")) (reg_is a))
by_instr i (Ecallt a) p s h = one_is i (Ecallt a) p (codes "ECALLT") (reg_text a) s (record { feed = refl; space = refl }) (reg_word a) refl (ap (with_one_by (codes "ECALLT")) (reg_is a))
by_instr i (Ldc a b) p s h = two_is i (Ldc a b) p (codes "LDC") (reg_text a) (decimal b) s (record { feed = refl; space = refl }) (reg_word a) (number_word b h) refl (ap (λ o. with_two_by (codes "LDC") o (operand (decimal b))) (comma_is (reg_text a) (Some (Register a)) (reg_is a)) ∙ ap (with_two_by (codes "LDC") (Some (Register a))) (number_is b h))
by_instr i (Ldwdp a b) p s h = two_is i (Ldwdp a b) p (codes "LDWDP") (reg_text a) (decimal b) s (record { feed = refl; space = refl }) (reg_word a) (number_word b h) refl (ap (λ o. with_two_by (codes "LDWDP") o (operand (decimal b))) (comma_is (reg_text a) (Some (Register a)) (reg_is a)) ∙ ap (with_two_by (codes "LDWDP") (Some (Register a))) (number_is b h))
by_instr i (Stwdp a b) p s h = two_is i (Stwdp a b) p (codes "STWDP") (reg_text a) (decimal b) s (record { feed = refl; space = refl }) (reg_word a) (number_word b h) refl (ap (λ o. with_two_by (codes "STWDP") o (operand (decimal b))) (comma_is (reg_text a) (Some (Register a)) (reg_is a)) ∙ ap (with_two_by (codes "STWDP") (Some (Register a))) (number_is b h))
by_instr i (Ldawdp a b) p s h = two_is i (Ldawdp a b) p (codes "LDAWDP") (reg_text a) (decimal b) s (record { feed = refl; space = refl }) (reg_word a) (number_word b h) refl (ap (λ o. with_two_by (codes "LDAWDP") o (operand (decimal b))) (comma_is (reg_text a) (Some (Register a)) (reg_is a)) ∙ ap (with_two_by (codes "LDAWDP") (Some (Register a))) (number_is b h))
by_instr i (Ldwsp a b) p s h = two_is i (Ldwsp a b) p (codes "LDWSP") (reg_text a) (decimal b) s (record { feed = refl; space = refl }) (reg_word a) (number_word b h) refl (ap (λ o. with_two_by (codes "LDWSP") o (operand (decimal b))) (comma_is (reg_text a) (Some (Register a)) (reg_is a)) ∙ ap (with_two_by (codes "LDWSP") (Some (Register a))) (number_is b h))
by_instr i (Stwsp a b) p s h = two_is i (Stwsp a b) p (codes "STWSP") (reg_text a) (decimal b) s (record { feed = refl; space = refl }) (reg_word a) (number_word b h) refl (ap (λ o. with_two_by (codes "STWSP") o (operand (decimal b))) (comma_is (reg_text a) (Some (Register a)) (reg_is a)) ∙ ap (with_two_by (codes "STWSP") (Some (Register a))) (number_is b h))
by_instr i (Ldawsp a b) p s h = two_is i (Ldawsp a b) p (codes "LDAWSP") (reg_text a) (decimal b) s (record { feed = refl; space = refl }) (reg_word a) (number_word b h) refl (ap (λ o. with_two_by (codes "LDAWSP") o (operand (decimal b))) (comma_is (reg_text a) (Some (Register a)) (reg_is a)) ∙ ap (with_two_by (codes "LDAWSP") (Some (Register a))) (number_is b h))
by_instr i (Ldw a b c) p s h = three_is i (Ldw a b c) p (codes "LDW") (reg_text a) (reg_text b) (reg_text c) s (record { feed = refl; space = refl }) (reg_word a) (reg_word b) (reg_word c) refl (ap (λ o. with_three_by (codes "LDW") o (operand_before_comma ((reg_text b) ++ 44 ∷ [])) (operand (reg_text c))) (comma_is (reg_text a) (Some (Register a)) (reg_is a)) ∙ ap (λ o. with_three_by (codes "LDW") (Some (Register a)) o (operand (reg_text c))) (comma_is (reg_text b) (Some (Register b)) (reg_is b)) ∙ ap (with_three_by (codes "LDW") (Some (Register a)) (Some (Register b))) (reg_is c))
by_instr i (Stw a b c) p s h = three_is i (Stw a b c) p (codes "STW") (reg_text a) (reg_text b) (reg_text c) s (record { feed = refl; space = refl }) (reg_word a) (reg_word b) (reg_word c) refl (ap (λ o. with_three_by (codes "STW") o (operand_before_comma ((reg_text b) ++ 44 ∷ [])) (operand (reg_text c))) (comma_is (reg_text a) (Some (Register a)) (reg_is a)) ∙ ap (λ o. with_three_by (codes "STW") (Some (Register a)) o (operand (reg_text c))) (comma_is (reg_text b) (Some (Register b)) (reg_is b)) ∙ ap (with_three_by (codes "STW") (Some (Register a)) (Some (Register b))) (reg_is c))
by_instr i (Setdp a) p s h = one_is i (Setdp a) p (codes "SETDP") (reg_text a) s (record { feed = refl; space = refl }) (reg_word a) refl (ap (with_one_by (codes "SETDP")) (reg_is a))
by_instr i (Setsp a) p s h = one_is i (Setsp a) p (codes "SETSP") (reg_text a) s (record { feed = refl; space = refl }) (reg_word a) refl (ap (with_one_by (codes "SETSP")) (reg_is a))
by_instr i (Brft a b) p s h = two_is i (Brft a b) p (codes "BRFT") (reg_text a) (decimal b) s (record { feed = refl; space = refl }) (reg_word a) (number_word b h) refl (ap (λ o. with_two_by (codes "BRFT") o (operand (decimal b))) (comma_is (reg_text a) (Some (Register a)) (reg_is a)) ∙ ap (with_two_by (codes "BRFT") (Some (Register a))) (number_is b h))
by_instr i (Brff a b) p s h = two_is i (Brff a b) p (codes "BRFF") (reg_text a) (decimal b) s (record { feed = refl; space = refl }) (reg_word a) (number_word b h) refl (ap (λ o. with_two_by (codes "BRFF") o (operand (decimal b))) (comma_is (reg_text a) (Some (Register a)) (reg_is a)) ∙ ap (with_two_by (codes "BRFF") (Some (Register a))) (number_is b h))
by_instr i (Brfu a) p s h = one_is i (Brfu a) p (codes "BRFU") (decimal a) s (record { feed = refl; space = refl }) (number_word a h) refl (ap (with_one_by (codes "BRFU")) (number_is a h))
by_instr i (Brbt a b) p s h = two_is i (Brbt a b) p (codes "BRBT") (reg_text a) (decimal b) s (record { feed = refl; space = refl }) (reg_word a) (number_word b h) refl (ap (λ o. with_two_by (codes "BRBT") o (operand (decimal b))) (comma_is (reg_text a) (Some (Register a)) (reg_is a)) ∙ ap (with_two_by (codes "BRBT") (Some (Register a))) (number_is b h))
by_instr i (Brbf a b) p s h = two_is i (Brbf a b) p (codes "BRBF") (reg_text a) (decimal b) s (record { feed = refl; space = refl }) (reg_word a) (number_word b h) refl (ap (λ o. with_two_by (codes "BRBF") o (operand (decimal b))) (comma_is (reg_text a) (Some (Register a)) (reg_is a)) ∙ ap (with_two_by (codes "BRBF") (Some (Register a))) (number_is b h))
by_instr i (Brbu a) p s h = one_is i (Brbu a) p (codes "BRBU") (decimal a) s (record { feed = refl; space = refl }) (number_word a h) refl (ap (with_one_by (codes "BRBU")) (number_is a h))
by_instr i (Blrf a) p s h = one_is i (Blrf a) p (codes "BLRF") (decimal a) s (record { feed = refl; space = refl }) (number_word a h) refl (ap (with_one_by (codes "BLRF")) (number_is a h))
by_instr i (Blrb a) p s h = one_is i (Blrb a) p (codes "BLRB") (decimal a) s (record { feed = refl; space = refl }) (number_word a h) refl (ap (with_one_by (codes "BLRB")) (number_is a h))
by_instr i (Entsp a) p s h = one_is i (Entsp a) p (codes "ENTSP") (decimal a) s (record { feed = refl; space = refl }) (number_word a h) refl (ap (with_one_by (codes "ENTSP")) (number_is a h))
by_instr i (Retsp a) p s h = one_is i (Retsp a) p (codes "RETSP") (decimal a) s (record { feed = refl; space = refl }) (number_word a h) refl (ap (with_one_by (codes "RETSP")) (number_is a h))
by_instr i (Getr a b) p s h = two_is i (Getr a b) p (codes "GETR") (reg_text a) (get_text b) s (record { feed = refl; space = refl }) (reg_word a) (word_of (get_text b) (kind_inside b)) refl (ap (λ o. with_two_by (codes "GETR") o (operand (get_text b))) (comma_is (reg_text a) (Some (Register a)) (reg_is a)) ∙ ap (with_two_by (codes "GETR") (Some (Register a))) (kind_is b))
by_instr i (Freer a) p s h = one_is i (Freer a) p (codes "FREER") (reg_text a) s (record { feed = refl; space = refl }) (reg_word a) refl (ap (with_one_by (codes "FREER")) (reg_is a))
by_instr i (Getst a b) p s h = two_is i (Getst a b) p (codes "GETST") (reg_text a) (reg_text b) s (record { feed = refl; space = refl }) (reg_word a) (reg_word b) refl (ap (λ o. with_two_by (codes "GETST") o (operand (reg_text b))) (comma_is (reg_text a) (Some (Register a)) (reg_is a)) ∙ ap (with_two_by (codes "GETST") (Some (Register a))) (reg_is b))
by_instr i (Tinitpc a b) p s h = two_is i (Tinitpc a b) p (codes "TINITPC") (reg_text a) (decimal b) s (record { feed = refl; space = refl }) (reg_word a) (number_word b h) refl (ap (λ o. with_two_by (codes "TINITPC") o (operand (decimal b))) (comma_is (reg_text a) (Some (Register a)) (reg_is a)) ∙ ap (with_two_by (codes "TINITPC") (Some (Register a))) (number_is b h))
by_instr i (Tinitdp a b) p s h = two_is i (Tinitdp a b) p (codes "TINITDP") (reg_text a) (reg_text b) s (record { feed = refl; space = refl }) (reg_word a) (reg_word b) refl (ap (λ o. with_two_by (codes "TINITDP") o (operand (reg_text b))) (comma_is (reg_text a) (Some (Register a)) (reg_is a)) ∙ ap (with_two_by (codes "TINITDP") (Some (Register a))) (reg_is b))
by_instr i (Tinitsp a b) p s h = two_is i (Tinitsp a b) p (codes "TINITSP") (reg_text a) (reg_text b) s (record { feed = refl; space = refl }) (reg_word a) (reg_word b) refl (ap (λ o. with_two_by (codes "TINITSP") o (operand (reg_text b))) (comma_is (reg_text a) (Some (Register a)) (reg_is a)) ∙ ap (with_two_by (codes "TINITSP") (Some (Register a))) (reg_is b))
by_instr i (Msync a) p s h = one_is i (Msync a) p (codes "MSYNC") (reg_text a) s (record { feed = refl; space = refl }) (reg_word a) refl (ap (with_one_by (codes "MSYNC")) (reg_is a))
by_instr i Ssync p s h = none_is i Ssync p (codes "SSYNC") s (record { feed = refl; space = refl }) refl refl
by_instr i (Mjoin a) p s h = one_is i (Mjoin a) p (codes "MJOIN") (reg_text a) s (record { feed = refl; space = refl }) (reg_word a) refl (ap (with_one_by (codes "MJOIN")) (reg_is a))
by_instr i Freet p s h = none_is i Freet p (codes "FREET") s (record { feed = refl; space = refl }) refl refl
by_instr i (Out a b) p s h = two_is i (Out a b) p (codes "OUT") (reg_text a) (reg_text b) s (record { feed = refl; space = refl }) (reg_word a) (reg_word b) refl (ap (λ o. with_two_by (codes "OUT") o (operand (reg_text b))) (comma_is (reg_text a) (Some (Register a)) (reg_is a)) ∙ ap (with_two_by (codes "OUT") (Some (Register a))) (reg_is b))
by_instr i (Outt a b) p s h = two_is i (Outt a b) p (codes "OUTT") (reg_text a) (reg_text b) s (record { feed = refl; space = refl }) (reg_word a) (reg_word b) refl (ap (λ o. with_two_by (codes "OUTT") o (operand (reg_text b))) (comma_is (reg_text a) (Some (Register a)) (reg_is a)) ∙ ap (with_two_by (codes "OUTT") (Some (Register a))) (reg_is b))
by_instr i (Outct a b) p s h = two_is i (Outct a b) p (codes "OUTCT") (reg_text a) (decimal b) s (record { feed = refl; space = refl }) (reg_word a) (number_word b h) refl (ap (λ o. with_two_by (codes "OUTCT") o (operand (decimal b))) (comma_is (reg_text a) (Some (Register a)) (reg_is a)) ∙ ap (with_two_by (codes "OUTCT") (Some (Register a))) (number_is b h))
by_instr i (In a b) p s h = two_is i (In a b) p (codes "IN") (reg_text a) (reg_text b) s (record { feed = refl; space = refl }) (reg_word a) (reg_word b) refl (ap (λ o. with_two_by (codes "IN") o (operand (reg_text b))) (comma_is (reg_text a) (Some (Register a)) (reg_is a)) ∙ ap (with_two_by (codes "IN") (Some (Register a))) (reg_is b))
by_instr i (Int a b) p s h = two_is i (Int a b) p (codes "INT") (reg_text a) (reg_text b) s (record { feed = refl; space = refl }) (reg_word a) (reg_word b) refl (ap (λ o. with_two_by (codes "INT") o (operand (reg_text b))) (comma_is (reg_text a) (Some (Register a)) (reg_is a)) ∙ ap (with_two_by (codes "INT") (Some (Register a))) (reg_is b))
by_instr i (Chkct a b) p s h = two_is i (Chkct a b) p (codes "CHKCT") (reg_text a) (decimal b) s (record { feed = refl; space = refl }) (reg_word a) (number_word b h) refl (ap (λ o. with_two_by (codes "CHKCT") o (operand (decimal b))) (comma_is (reg_text a) (Some (Register a)) (reg_is a)) ∙ ap (with_two_by (codes "CHKCT") (Some (Register a))) (number_is b h))
by_instr i (Setc a b) p s h = two_is i (Setc a b) p (codes "SETC") (reg_text a) (cond_text b) s (record { feed = refl; space = refl }) (reg_word a) (word_of (cond_text b) (cond_inside b)) refl (ap (λ o. with_two_by (codes "SETC") o (operand (cond_text b))) (comma_is (reg_text a) (Some (Register a)) (reg_is a)) ∙ ap (with_two_by (codes "SETC") (Some (Register a))) (cond_is b))
by_instr i (Setd a b) p s h = two_is i (Setd a b) p (codes "SETD") (reg_text a) (reg_text b) s (record { feed = refl; space = refl }) (reg_word a) (reg_word b) refl (ap (λ o. with_two_by (codes "SETD") o (operand (reg_text b))) (comma_is (reg_text a) (Some (Register a)) (reg_is a)) ∙ ap (with_two_by (codes "SETD") (Some (Register a))) (reg_is b))
by_instr i (Setpt a b) p s h = two_is i (Setpt a b) p (codes "SETPT") (reg_text a) (reg_text b) s (record { feed = refl; space = refl }) (reg_word a) (reg_word b) refl (ap (λ o. with_two_by (codes "SETPT") o (operand (reg_text b))) (comma_is (reg_text a) (Some (Register a)) (reg_is a)) ∙ ap (with_two_by (codes "SETPT") (Some (Register a))) (reg_is b))
by_instr i (Getts a b) p s h = two_is i (Getts a b) p (codes "GETTS") (reg_text a) (reg_text b) s (record { feed = refl; space = refl }) (reg_word a) (reg_word b) refl (ap (λ o. with_two_by (codes "GETTS") o (operand (reg_text b))) (comma_is (reg_text a) (Some (Register a)) (reg_is a)) ∙ ap (with_two_by (codes "GETTS") (Some (Register a))) (reg_is b))
by_instr i (Setv a b) p s h = two_is i (Setv a b) p (codes "SETV") (reg_text a) (decimal b) s (record { feed = refl; space = refl }) (reg_word a) (number_word b h) refl (ap (λ o. with_two_by (codes "SETV") o (operand (decimal b))) (comma_is (reg_text a) (Some (Register a)) (reg_is a)) ∙ ap (with_two_by (codes "SETV") (Some (Register a))) (number_is b h))
by_instr i (Eeu a) p s h = one_is i (Eeu a) p (codes "EEU") (reg_text a) s (record { feed = refl; space = refl }) (reg_word a) refl (ap (with_one_by (codes "EEU")) (reg_is a))
by_instr i (Edu a) p s h = one_is i (Edu a) p (codes "EDU") (reg_text a) s (record { feed = refl; space = refl }) (reg_word a) refl (ap (with_one_by (codes "EDU")) (reg_is a))
by_instr i Clre p s h = none_is i Clre p (codes "CLRE") s (record { feed = refl; space = refl }) refl refl
by_instr i Waiteu p s h = none_is i Waiteu p (codes "WAITEU") s (record { feed = refl; space = refl }) refl refl
by_instr i (Setsr a) p s h = one_is i (Setsr a) p (codes "SETSR") (decimal a) s (record { feed = refl; space = refl }) (number_word a h) refl (ap (with_one_by (codes "SETSR")) (number_is a h))
by_instr i (Clrsr a) p s h = one_is i (Clrsr a) p (codes "CLRSR") (decimal a) s (record { feed = refl; space = refl }) (number_word a h) refl (ap (with_one_by (codes "CLRSR")) (number_is a h))

-- the line of an instruction
pub code_line-is : (i : ℕ) (x : Instr) (p : Pos) → i < 2 ^ 32 → IsWordInstr x → p.line < 2 ^ 32 → p.col < 2 ^ 32 → IsLine (code_line i x p) (line_as i x p)
code_line-is i x p hi h hl hc = by_instr i x p (record { index = hi; line = hl; col = hc }) h
