-- What a plan says.
use Rattle.std.specs.Prelude.{ℕ, List, Option, Some, None, slice_get}
use Rattle.xc_kernel.specs.declared.statement.KRes.{KRes}
use Rattle.xc_kernel.specs.declared.statement.KRes.TheVariants.{Port, Timer, Chan}
use Rattle.xl_expr.specs.declared.plan.VarAt.{VarAt}
use Rattle.xl_expr.specs.declared.plan.VarPlan.{VarPlan}
use Rattle.xl_expr.specs.declared.plan.ResAt.{ResAt}

-- one of a list of places that may be missing
abbrev pub joined : {A : Type 0} → Option (Option A) → Option A
joined None = None
joined (Some x) = x

-- where a variable stands, and how many words it has, if the plan has it
abbrev pub var_in : List (Option VarPlan) → ℕ → Option VarPlan
var_in vars v = joined (slice_get vars v)

-- where it stands
abbrev pub at_of : Option VarPlan → Option VarAt
at_of None = None
at_of (Some found) = Some found.place

-- the identifier of a port, or of a timer, by its place in the list
abbrev pub resource_at : List (Option ResAt) → ℕ → Option ResAt
resource_at places p = joined (slice_get places p)

-- the identifier of a port or timer; a channel has none
abbrev pub resource_in : List (Option ResAt) → List (Option ResAt) → KRes → Option ResAt
resource_in ports timers (Port p) = resource_at ports p
resource_in ports timers (Timer t) = resource_at timers t
resource_in ports timers (Chan c) = None

-- the identifier of a channel end
abbrev pub end_in : List ResAt → ℕ → Option ResAt
end_in ends end = slice_get ends end
