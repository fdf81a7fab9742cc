use Rattle.std.proofs.Common.{◌≡◌, ◌∙◌, ℕ, ap, nat_eq, nat_lt, refl, sym, bit_and, bit_or, bit_xor}
use Rattle.xs_core.specs.declared.local_rows.LocalStep.TheVariants.{Set}
use Rattle.xs_core.specs.Local.{local_after}
use Rattle.xs_core.proofs.local_rows.value.Goals as goal
use Rattle.xs_instr.specs.declared.instr.Reg.{Reg}
use Rattle.xs_instr.specs.declared.instr.Reg.TheVariants.{Dp, Sp}
use Rattle.xs_instr.specs.declared.state.Regs.{Regs}
use Rattle.xs_instr.specs.Did.{makes}
use Rattle.xs_instr.specs.Memory.{address_at}
use Rattle.xs_instr.specs.Registers.{reg_get}
use Rattle.xs_instr.specs.Rows.{Local, reg, local_row, sets}
use Rattle.xw_words.specs.Words.{word_sum, word_difference, word_product, truth, shifted_up, shifted_down, shifted_signed, signed_less}

-- what is got of a register is what it holds
is_held : (own : Local) (regs : Regs) (a : Reg) (x : ℕ) → own.regs ≡ regs → x ≡ reg_get regs a → x ≡ reg own a
is_held own regs a x same is = is ∙ ap (λ rs. reg_get rs a) (sym same)

-- a register is set to what one register gives
set_of_one : (f : ℕ → ℕ) (own : Local) (regs : Regs) (d a : Reg) (x v : ℕ) → own.regs ≡ regs → x ≡ reg_get regs a → v ≡ f x →
    makes (local_after own (Set d v)) ≡ sets own d (f (reg own a))
set_of_one f own regs d a x v same is_x is = ap (λ z. makes (local_after own (Set d z))) (is ∙ ap f (is_held own regs a x same is_x))

-- a register is set to what two registers give
set_of_two : (f : ℕ → ℕ → ℕ) (own : Local) (regs : Regs) (d a b : Reg) (x y v : ℕ) → own.regs ≡ regs → x ≡ reg_get regs a →
    y ≡ reg_get regs b → v ≡ f x y →
    makes (local_after own (Set d v)) ≡ sets own d (f (reg own a) (reg own b))
set_of_two f own regs d a b x y v same is_x is_y is =
    ap (λ z. makes (local_after own (Set d z)))
    (is ∙ ap (λ z. f z y) (is_held own regs a x same is_x) ∙ ap (f (reg own a)) (is_held own regs b y same is_y))

pub returns-in-Add-clause-row : goal.returns-in-Add-clause-row
returns-in-Add-clause-row c = λ own same.
    set_of_two word_sum own c.args.regs.now c.in-Add.d c.in-Add.a c.in-Add.b _ _ _ same c.get.ensures c.get-in-Add.ensures refl
    ∙ sym (ap (local_row own) c.in-Add.is)

pub returns-in-Sub-clause-row : goal.returns-in-Sub-clause-row
returns-in-Sub-clause-row c = λ own same.
    set_of_two word_difference own c.args.regs.now c.in-Sub.d c.in-Sub.a c.in-Sub.b _ _ _ same c.get-in-Sub.ensures c.get-in-Sub-2.ensures refl
    ∙ sym (ap (local_row own) c.in-Sub.is)

pub returns-in-Mul-clause-row : goal.returns-in-Mul-clause-row
returns-in-Mul-clause-row c = λ own same.
    set_of_two word_product own c.args.regs.now c.in-Mul.d c.in-Mul.a c.in-Mul.b _ _ _ same c.get-in-Mul.ensures c.get-in-Mul-2.ensures refl
    ∙ sym (ap (local_row own) c.in-Mul.is)

pub returns-in-And-clause-row : goal.returns-in-And-clause-row
returns-in-And-clause-row c = λ own same.
    set_of_two bit_and own c.args.regs.now c.in-And.d c.in-And.a c.in-And.b _ _ _ same c.get-in-And.ensures c.get-in-And-2.ensures refl
    ∙ sym (ap (local_row own) c.in-And.is)

pub returns-in-Or-clause-row : goal.returns-in-Or-clause-row
returns-in-Or-clause-row c = λ own same.
    set_of_two bit_or own c.args.regs.now c.in-Or.d c.in-Or.a c.in-Or.b _ _ _ same c.get-in-Or.ensures c.get-in-Or-2.ensures refl
    ∙ sym (ap (local_row own) c.in-Or.is)

pub returns-in-Xor-clause-row : goal.returns-in-Xor-clause-row
returns-in-Xor-clause-row c = λ own same.
    set_of_two bit_xor own c.args.regs.now c.in-Xor.d c.in-Xor.a c.in-Xor.b _ _ _ same c.get-in-Xor.ensures c.get-in-Xor-2.ensures refl
    ∙ sym (ap (local_row own) c.in-Xor.is)

pub returns-in-Eq-clause-row : goal.returns-in-Eq-clause-row
returns-in-Eq-clause-row c = λ own same.
    set_of_two (λ x y. truth (nat_eq x y)) own c.args.regs.now c.in-Eq.d c.in-Eq.a c.in-Eq.b
    _ _ _ same c.get-in-Eq.ensures c.get-in-Eq-2.ensures c.one_if.ensures
    ∙ sym (ap (local_row own) c.in-Eq.is)

pub returns-in-Lss-clause-row : goal.returns-in-Lss-clause-row
returns-in-Lss-clause-row c = λ own same.
    set_of_two (λ x y. truth (signed_less x y)) own c.args.regs.now c.in-Lss.d c.in-Lss.a c.in-Lss.b
    _ _ _ same c.get-in-Lss.ensures c.get-in-Lss-2.ensures (c.one_if-in-Lss.ensures ∙ ap truth c.less_s.ensures)
    ∙ sym (ap (local_row own) c.in-Lss.is)

pub returns-in-Lsu-clause-row : goal.returns-in-Lsu-clause-row
returns-in-Lsu-clause-row c = λ own same.
    set_of_two (λ x y. truth (nat_lt x y)) own c.args.regs.now c.in-Lsu.d c.in-Lsu.a c.in-Lsu.b
    _ _ _ same c.get-in-Lsu.ensures c.get-in-Lsu-2.ensures c.one_if-in-Lsu.ensures
    ∙ sym (ap (local_row own) c.in-Lsu.is)

pub returns-in-Shl-clause-row : goal.returns-in-Shl-clause-row
returns-in-Shl-clause-row c = λ own same.
    set_of_two shifted_up own c.args.regs.now c.in-Shl.d c.in-Shl.a c.in-Shl.b _ _ _ same c.get-in-Shl.ensures c.get-in-Shl-2.ensures c.shl.ensures
    ∙ sym (ap (local_row own) c.in-Shl.is)

pub returns-in-Shr-clause-row : goal.returns-in-Shr-clause-row
returns-in-Shr-clause-row c = λ own same.
    set_of_two shifted_down own c.args.regs.now c.in-Shr.d c.in-Shr.a c.in-Shr.b _ _ _ same c.get-in-Shr.ensures c.get-in-Shr-2.ensures c.shr.ensures
    ∙ sym (ap (local_row own) c.in-Shr.is)

pub returns-in-Ashr-clause-row : goal.returns-in-Ashr-clause-row
returns-in-Ashr-clause-row c = λ own same.
    set_of_two shifted_signed own c.args.regs.now c.in-Ashr.d c.in-Ashr.a c.in-Ashr.b
    _ _ _ same c.get-in-Ashr.ensures c.get-in-Ashr-2.ensures c.ashr.ensures
    ∙ sym (ap (local_row own) c.in-Ashr.is)

pub returns-in-Addi-clause-row : goal.returns-in-Addi-clause-row
returns-in-Addi-clause-row c = λ own same.
    set_of_one (λ x. word_sum x c.in-Addi.n) own c.args.regs.now c.in-Addi.d c.in-Addi.a _ _ same c.get-in-Addi.ensures refl
    ∙ sym (ap (local_row own) c.in-Addi.is)

pub returns-in-Ldawdp-clause-row : goal.returns-in-Ldawdp-clause-row
returns-in-Ldawdp-clause-row c = λ own same.
    ap (λ z. makes (local_after own (Set c.in-Ldawdp.d z))) (c.address.ensures ∙ ap (λ (rs : Regs). address_at rs.dp c.in-Ldawdp.n) (sym same))
    ∙ sym (ap (local_row own) c.in-Ldawdp.is)

pub returns-in-Ldawsp-clause-row : goal.returns-in-Ldawsp-clause-row
returns-in-Ldawsp-clause-row c = λ own same.
    ap (λ z. makes (local_after own (Set c.in-Ldawsp.d z)))
    (c.address-in-Ldawsp.ensures ∙ ap (λ (rs : Regs). address_at rs.sp c.in-Ldawsp.n) (sym same))
    ∙ sym (ap (local_row own) c.in-Ldawsp.is)

pub returns-in-Setdp-clause-row : goal.returns-in-Setdp-clause-row
returns-in-Setdp-clause-row c = λ own same.
    set_of_one (λ x. x) own c.args.regs.now Dp c.in-Setdp.s _ _ same c.get-in-Setdp.ensures refl
    ∙ sym (ap (local_row own) c.in-Setdp.is)

pub returns-in-Setsp-clause-row : goal.returns-in-Setsp-clause-row
returns-in-Setsp-clause-row c = λ own same.
    set_of_one (λ x. x) own c.args.regs.now Sp c.in-Setsp.s _ _ same c.get-in-Setsp.ensures refl
    ∙ sym (ap (local_row own) c.in-Setsp.is)
