-- Where the word of a transfer goes: to a place, or nowhere.
use Rattle.std.specs.Prelude.{◌≡◌, ℕ, List, [], Option, Some, None}
use Rattle.xs_instr.specs.declared.instr.Reg.TheVariants.{R0}
use Rattle.xs_instr.specs.Lines.{Line}
use Rattle.xc_kernel.specs.Plain as kernel
use Rattle.xl_expr.specs.declared.plan.VarPlan.{VarPlan}
use Rattle.xl_expr.specs.Measures.{depth_at, nodes_at}
use Rattle.xl_expr.specs.Stores.{Stores}

-- the lines write r0's word to a place, where there is one
abbrev pub WritesTo : List (Option VarPlan) → Option kernel.Place → (pc : ℕ) → List Line → Type 0
WritesTo vars None pc lines = lines ≡ []
WritesTo vars (Some place) pc lines = Stores vars place R0 pc lines

-- how many nodes it has, and how deep it is

abbrev pub dest_nodes : Option kernel.Place → ℕ
dest_nodes None = 0
dest_nodes (Some place) = nodes_at place

abbrev pub dest_depth : Option kernel.Place → ℕ
dest_depth None = 0
dest_depth (Some place) = depth_at place
