-- The code of statements, while what stands around them has not ended: a jump out of such a block is a jump to its end, by its number, and
-- one behind a case of a select is a jump to the end of that select.
use Rattle.std.specs.Prelude.{ℕ, ◌+◌, Bool, true, false, List, [], ◌∷◌, map, nat_eq}
use Rattle.xw_words.specs.declared.pos.Pos.{Pos}
use Rattle.xs_instr.specs.declared.instr.Instr.TheVariants.{Brfu}
use Rattle.xs_instr.specs.Lines.{Line, line, open_line, last_or}
use Rattle.xl_statements.specs.declared.leaving.JumpTarget.{JumpTarget}
use Rattle.xl_statements.specs.declared.leaving.JumpTarget.TheVariants.{BlockEnd, SelectEnd}
use Rattle.xl_statements.specs.declared.leaving.Leaving.{Leaving}

-- whether two jumps lead to one end: to that of a block, or of the innermost select around them
abbrev pub same_target : JumpTarget → JumpTarget → Bool
same_target (BlockEnd n) (BlockEnd m) = nat_eq n m
same_target (BlockEnd n) SelectEnd = false
same_target SelectEnd (BlockEnd m) = false
same_target SelectEnd SelectEnd = true

-- a line, or a jump to an end, with its place
pub data Cell : Type 0 where
  known : Line → Cell
  leaving : JumpTarget → Pos → Cell

-- what the emitter holds of it
abbrev pub line_of : Cell → Line
line_of (known l) = l
line_of (leaving target pos) = open_line (Brfu 0) pos

-- the jumps to ends, of cells that stand from an index on
abbrev pub leaves : List Cell → (index : ℕ) → List Leaving
leaves [] k = []
leaves (known l ∷ cells) k = leaves cells (k + 1)
leaves (leaving target pos ∷ cells) k = record { target = target; hole = record { index = k } } ∷ leaves cells (k + 1)

-- `closed`, by cases
abbrev pub closed_by : Bool → JumpTarget → (end : ℕ) → Pos → Cell
closed_by true target end pos = known (line (Brfu end) pos)
closed_by false target end pos = leaving target pos

-- where a block or select ends at an index, the jumps to its end are known
abbrev pub closed : JumpTarget → (end : ℕ) → Cell → Cell
closed ended end (known l) = known l
closed ended end (leaving target pos) = closed_by (same_target target ended) target end pos

-- the place of the last cell, or that of what stands in front
abbrev pub behind : Pos → List Cell → Pos
behind last cells = last_or last (map line_of cells)
