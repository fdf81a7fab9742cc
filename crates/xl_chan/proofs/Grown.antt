-- How long the code of a transfer is at the most.
use Rattle.std.proofs.Common.{◌≡◌, ℕ, ◌+◌, ◌≤◌, Bool, true, false, List, ◌++◌, length, length-append, arith}
use Rattle.xw_words.specs.declared.pos.Pos.{Pos}
use Rattle.xs_instr.specs.declared.instr.Reg.{Reg}
use Rattle.xs_instr.specs.declared.instr.Reg.TheVariants.{R11}
use Rattle.xs_instr.specs.Lines.{Line, at_pos}
use Rattle.xl_chan.specs.Protocols.{input_instrs, kept_from_r11, output_instrs}

-- lines that are longer by so many at the most
pub grown : (old new ls : List Line) (n : ℕ) → new ≡ old ++ ls → length ls ≤ n → length new ≤ length old + n
grown old new ls n e h = rw (e, length-append old ls) (omega arith)

pub kept_most : (pos : Pos) (r : Reg) → length (at_pos pos (kept_from_r11 r)) ≤ 1
kept_most pos R11 = omega arith
kept_most pos other = omega arith

pub output_most : (pos : Pos) (from : Reg) (plain : Bool) → length (at_pos pos (output_instrs from plain)) ≤ 3
output_most pos from true = omega arith
output_most pos from false = omega arith

pub input_most : (pos : Pos) (name to : Reg) (plain : Bool) → length (at_pos pos (input_instrs name to plain)) ≤ 3
input_most pos name to true = omega arith
input_most pos name to false = omega arith
