-- What the code does that stores the counter of a port's last transfer.
use Rattle.std.specs.Prelude.{◌≡◌, ℕ, ◌+◌, ◌*◌, Bool, List, [], length, Option, Some, None}
use Rattle.xs_instr.specs.declared.image.Home.{Home}
use Rattle.xs_instr.specs.declared.state.CoreState.{CoreState}
use Rattle.xs_instr.specs.declared.state.Port.{Port}
use Rattle.xs_instr.specs.declared.state.Thread.{Thread}
use Rattle.xs_instr.specs.Lines.{Line}
use Rattle.xs_instr.specs.OwnSteps.{HasRoom, IsApart, RunsAt, StandAt}
use Rattle.xc_kernel.specs.declared.statement.KRes.{KRes}
use Rattle.xc_kernel.specs.Plain as kernel
use Rattle.xc_kernel.specs.Eval.{Store}
use Rattle.xl_expr.specs.declared.plan.Plan.{Plan}
use Rattle.xl_expr.specs.Measures.{nodes_at}
use Rattle.xl_expr.specs.PartSteps.{WithinParts}
use Rattle.xl_expr.specs.Plans.{resource_in}
use Rattle.xl_expr.specs.ResourceParts.{port_alone}
use Rattle.xl_expr.specs.Stores.{StoreOutcome, index_in}
use Rattle.xl_expr.specs.Works.{PlaceIsLaid}
use Rattle.xl_port.specs.Resources.{PortStands}

-- The port is named again for its stamp, since the store of an element uses r11. So the stamp's code is the same behind an output, an input
-- with a target and one without.

-- The lines write the stamp of a port to a place: wherever they stand from index pc on, in each state of the core in which the plan's
-- layout holds, and whatever other threads do in between that leaves what this one relies on, the thread stands after at most 8 own steps
-- for each node and two more where its next step writes the stamp that the port has at the beginning, or traps with the error of the
-- place's index.
pub record Stamps (plan : Plan) (resource : KRes) (place : kernel.Place) (pc : ℕ) (lines : List Line) : Type 0 where
  pub by : (home : Home) (relied : ℕ → Bool) (s t p : ℕ) (port : Port) (thread : Thread) (store : Store) (a : CoreState) →
      StandAt home.parts.code pc lines → RunsAt t pc thread a → HasRoom relied s thread.regs a.words →
      PlaceIsLaid plan.vars relied s thread.regs.dp a.words store place →
      PortStands home relied s thread.regs.dp (resource_in plan.ports plan.timers resource) p port a →
      WithinParts home relied (IsApart s) (port_alone p) t
      (StoreOutcome plan.vars home relied s t thread a.words place port.stamp (pc + length lines) (index_in store place))
      (8 * nodes_at place + 2) a

-- where there is a place for it
abbrev pub StampsTo : Plan → KRes → Option kernel.Place → (pc : ℕ) → List Line → Type 0
StampsTo plan resource None pc lines = lines ≡ []
StampsTo plan resource (Some place) pc lines = Stamps plan resource place pc lines
