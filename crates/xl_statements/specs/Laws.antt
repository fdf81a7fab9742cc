-- What holds of the code of statements wherever it stands.
use Rattle.std.specs.Prelude.{ℕ, List}
use Rattle.xw_words.specs.declared.pos.Pos.{Pos}
use Rattle.xs_instr.specs.declared.image.Code.{Code}
use Rattle.xs_instr.specs.Lines.{Line}
use Rattle.xs_instr.specs.OwnSteps.{StandAt}
use Rattle.xc_kernel.specs.Plain as kernel
use Rattle.xl_expr.specs.declared.plan.Plan.{Plan}
use Rattle.xl_ends.specs.Ends.{Sides}
use Rattle.xl_statements.specs.Pieces.{RootAt}
use Rattle.xl_statements.specs.Roots.{IsRoot}

-- where a root's lines stand in a code, each statement's piece stands there
abbrev pub RootsStand : Type 0
RootsStand =
    (code : Code) (plan : Plan) (sides : Sides) (body : kernel.Statements) (pos last : Pos) (pc : ℕ) (lines : List Line) →
    IsRoot plan sides body pos last pc lines → StandAt code pc lines → RootAt code plan sides body pos pc
