-- Which ends of channels a select looks at.
use Rattle.std.specs.Prelude.{ℕ, List, [], ◌∷◌, Option, Some, None}
use Rattle.xc_kernel.specs.declared.statement.KRes.{KRes}
use Rattle.xc_kernel.specs.declared.statement.KRes.TheVariants.{Port, Timer, Chan}
use Rattle.xc_kernel.specs.Plain as kernel
use Rattle.xl_expr.specs.declared.plan.EndPlaces.{EndPlaces}
use Rattle.xl_ends.specs.Ends.{Sides, end_at}

-- `case_end`, by cases
abbrev pub end_or_first : Option ℕ → ℕ
end_or_first (Some end) = end
end_or_first None = 0

-- The end of a case: of a channel that of the side in which the select stands. Of a port or timer none is looked at, and a select of a
-- checked kernel stands in a side of each channel that its cases name.
abbrev pub case_end : (channels : List EndPlaces) → Sides → KRes → ℕ
case_end channels sides (Port p) = 0
case_end channels sides (Timer t) = 0
case_end channels sides (Chan c) = end_or_first (end_at channels sides c)

-- those of all cases
abbrev pub case_ends : (channels : List EndPlaces) → Sides → kernel.Cases → List ℕ
case_ends channels sides kernel.no_case = []
case_ends channels sides (kernel.more_cases (kernel.case guard i ss) cs) =
    case_end channels sides i.resource ∷ case_ends channels sides cs
