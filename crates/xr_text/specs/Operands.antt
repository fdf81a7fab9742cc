-- What stands behind an instruction's name.
use Rattle.std.specs.Prelude.{ℕ, List, decimal}
use Rattle.xr_text.specs.declared.instruction.Operand.{Operand}
use Rattle.xr_text.specs.declared.instruction.Operand.TheVariants.{Register, Number, Condition, Kind}
use Rattle.xr_text.specs.declared.instruction.Operands.{Operands}
use Rattle.xr_text.specs.declared.instruction.Operands.TheVariants.{None, One, Two, Three}
use Rattle.xs_instr.specs.Texts.{cond_text, get_text, one_operand, reg_text, three_operands, two_operands}

-- an operand, as it stands in a listing
abbrev pub operand_text : Operand → List ℕ
operand_text (Register r) = reg_text r
operand_text (Number n) = decimal n
operand_text (Condition c) = cond_text c
operand_text (Kind k) = get_text k

-- an instruction's name with its operands behind it
abbrev pub with_operands : List ℕ → Operands → List ℕ
with_operands name None = name
with_operands name (One a) = one_operand name (operand_text a)
with_operands name (Two a b) = two_operands name (operand_text a) (operand_text b)
with_operands name (Three a b c) = three_operands name (operand_text a) (operand_text b) (operand_text c)
