-- The code of branches behind the first, by the sides of channels in which each of them stands.
use Rattle.std.specs.Prelude.{◌≡◌, ℕ, List, [], ◌∷◌}
use Rattle.xc_kernel.specs.Plain as kernel
use Rattle.xl_expr.specs.declared.plan.Plan.{Plan}
use Rattle.xl_ends.specs.Ends.{Sides}
use Rattle.xl_statements.specs.Emits.{AllEmit, Coded, FromStarts, Slave}

-- of as many sides as branches
abbrev pub SlavesEmitIn : Plan → (each : List Sides) → kernel.Branches → (starts : List ℕ) → Coded
SlavesEmitIn plan each kernel.no_branch starts last pc cells = (starts ≡ []) × (cells ≡ [])
SlavesEmitIn plan [] (kernel.more_branches b bs) starts last pc cells = ⊥
SlavesEmitIn plan (own ∷ each) (kernel.more_branches (kernel.branch ss pos) bs) starts last pc cells =
    FromStarts (Slave (AllEmit plan own ss)) (SlavesEmitIn plan each bs) starts last pc cells
