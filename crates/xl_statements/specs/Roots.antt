-- The code of a root.
use Rattle.std.specs.Prelude.{◌≡◌, ℕ, ◌+◌, List, [], ◌∷◌, ◌++◌, length, map}
use Rattle.xw_words.specs.declared.pos.Pos.{Pos}
use Rattle.xs_instr.specs.declared.instr.Instr.TheVariants.{Freet}
use Rattle.xs_instr.specs.Lines.{Line, line}
use Rattle.xc_kernel.specs.Plain as kernel
use Rattle.xl_expr.specs.declared.plan.Plan.{Plan}
use Rattle.xl_par.specs.Roots.{EndsRoot}
use Rattle.xl_ends.specs.Ends.{Sides}
use Rattle.xl_statements.specs.Cells.{known}
use Rattle.xl_statements.specs.Emits.{AllEmit}
use Rattle.xl_statements.specs.Inside.{AreInside}

-- The code of its statements, of which no jump is open and no `exit` leaves a branch, and behind it the instruction that ends the
-- root. What sets the root's stack (in xl_image), and what ends the root, has the root's place: that of its branch's statement, or of
-- main's name. What has no place and stands at the begin of a root has it too, and not 1:1. No block is open in a branch of a `par`,
-- since no exit leaves one.
pub record IsRoot
    (plan : Plan) (sides : Sides) (body : kernel.Statements) (pos last : Pos) (pc : ℕ) (lines : List Line) : Type 0 where
  pub front : List Line
  pub is : lines ≡ front ++ line Freet pos ∷ []
  pub body_is : AllEmit plan sides body last pc (map known front)
  pub inside : AreInside [] body
  pub ends : EndsRoot (pc + length front) (line Freet pos ∷ [])
