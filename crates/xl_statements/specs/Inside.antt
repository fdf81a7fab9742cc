-- Code whose jumps all lie inside it.
use Rattle.std.specs.Prelude.{◌≡◌, ℕ, ◌+◌, ◌≤◌, Bool, true, false, ◌||◌, List, [], ◌∷◌, length}
use Rattle.xc_tree.specs.Types.Words.{is_among}
use Rattle.xs_instr.specs.Lines.{Line}
use Rattle.xs_instr.specs.Valid.{IsGoodInstr}
use Rattle.xc_kernel.specs.Plain as kernel
use Rattle.xl_expr.specs.Targets.{AreGoodLines}
use Rattle.xl_statements.specs.declared.leaving.JumpTarget.{JumpTarget}
use Rattle.xl_statements.specs.Cells.{Cell, known, leaving, same_target}

-- each `exit` leaves a block around it, by the numbers of the blocks around the code; of what isn't built nothing is said
abbrev mutual
  pub IsInside : (around : List ℕ) → kernel.Statement → Type 0
  IsInside around (kernel.if_then x a b) = AreInside around a × AreInside around b
  IsInside around (kernel.loop x a b) = AreInside around a × AreInside around b
  IsInside around (kernel.block n a) = AreInside (n ∷ around) a
  IsInside around (kernel.exit n) = is_among around n ≡ true
  IsInside around (kernel.select cs otherwise pos) = CasesAreInside around cs × DefaultIsInside around otherwise
  IsInside around (kernel.par bs) = BranchesAreInside bs
  IsInside around other = Unit {0}

  pub AreInside : (around : List ℕ) → kernel.Statements → Type 0
  AreInside around kernel.no_more = Unit {0}
  AreInside around (kernel.more s ss) = IsInside around s × AreInside around ss

  pub CasesAreInside : (around : List ℕ) → kernel.Cases → Type 0
  CasesAreInside around kernel.no_case = Unit {0}
  CasesAreInside around (kernel.more_cases (kernel.case guard i ss) cs) = AreInside around ss × CasesAreInside around cs

  pub DefaultIsInside : (around : List ℕ) → kernel.Default → Type 0
  DefaultIsInside around kernel.no_default = Unit {0}
  DefaultIsInside around (kernel.default ss) = AreInside around ss

  -- no `exit` leaves a branch
  pub BranchesAreInside : kernel.Branches → Type 0
  BranchesAreInside kernel.no_branch = Unit {0}
  BranchesAreInside (kernel.more_branches (kernel.branch ss pos) bs) = AreInside [] ss × BranchesAreInside bs

-- The lines may stand in any code from an index on, alone or with others around them: their targets lie among them, and none is open.
pub record StandAlone (pc : ℕ) (lines : List Line) : Type 0 where
  pub by : (size : ℕ) → pc + length lines ≤ size → AreGoodLines size pc lines

-- an end is among those that jumps may lead to
abbrev pub is_target_among : List JumpTarget → JumpTarget → Bool
is_target_among [] target = false
is_target_among (t ∷ ts) target = same_target target t || is_target_among ts target

-- cells that may stand in code of this size, with jumps to these ends alone
abbrev pub AreGoodCells : (around : List JumpTarget) (size i : ℕ) → List Cell → Type 0
AreGoodCells around size i [] = Unit {0}
AreGoodCells around size i (known l ∷ cells) =
    IsGoodInstr size i l.instr × (l.is_open ≡ false) × AreGoodCells around size (i + 1) cells
AreGoodCells around size i (leaving target pos ∷ cells) =
    (is_target_among around target ≡ true) × AreGoodCells around size (i + 1) cells
