-- The code of a select's case, and where the code of cases and default begins.
use Rattle.std.specs.Prelude.{ℕ, Bool, true, List, ◌++◌, Option, option_map}
use Rattle.xc_kernel.specs.declared.statement.KCase.{KCase}
use Rattle.xc_kernel.specs.declared.statement.KHead.{KHead}
use Rattle.xc_kernel.specs.declared.statement.Kst.{Kst}
use Rattle.xc_kernel.specs.Kernels.{default_of, input_of}
use Rattle.xs_instr.specs.declared.emitter.Hole.{Hole}
use Rattle.xl_ends.specs.declared.sides.Side.{Side}
use Rattle.xl_ends.specs.Sides.{sides_of}
use Rattle.xl_expr.specs.declared.plan.Plan.{Plan}
use Rattle.xl_par.specs.Opening.{indices_of}
use Rattle.xl_select.specs.Entry.{EntersCase}
use Rattle.xl_select.specs.Holes.{listed}
use Rattle.xl_select.specs.OpeningCode.{cases_of, index_of}
use Rattle.xl_statements.specs.Built.{statements_of}
use Rattle.xl_statements.specs.CaseEnds.{case_end}
use Rattle.xl_statements.specs.Emits.{AllEmit, CaseCode, Coded, InsideEmits}

-- the code of a case of a select that stands in these sides
abbrev pub CaseEmits : Plan → List (Option Side) → KHead → List Kst → (ends_select : Bool) → Coded
CaseEmits plan sides head body ends_select =
    CaseCode (EntersCase plan (input_of head) (case_end plan.channels (sides_of sides) head.res) true)
    (AllEmit plan (sides_of sides) (statements_of body)) ends_select

-- and that of all cases and of the default, by where they start
abbrev pub CasesEmitIn : Plan → List (Option Side) → List KCase → Option (List Kst) → List ℕ → Coded
CasesEmitIn plan sides cases otherwise = InsideEmits plan (sides_of sides) (default_of otherwise) (cases_of cases)

-- the holes of the cases, and that of the default, where there is one
abbrev pub starts_of : List Hole → Option Hole → List ℕ
starts_of cases otherwise = indices_of cases ++ listed (option_map index_of otherwise)
