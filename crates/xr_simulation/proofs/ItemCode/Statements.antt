-- Each kind of statement that has an instruction of its own: from its code the thread comes soon to that instruction.
use Rattle.std.proofs.Common.{◌<◌}
use Rattle.std.specs.Prelude.{List, ◌∷◌}
use Rattle.xc_kernel.specs.Plain as kernel
use Rattle.xc_meaning.specs.States.Items.{Item, does}
use Rattle.xr_simulation.specs.Runners.{Setting, Runner}
use Rattle.xr_simulation.specs.Settled.{IsOwn}
use Rattle.xr_simulation.specs.NextStep.{StatementLeads}
use Rattle.xr_simulation.proofs.ItemCode.Jumps.{exit_item_leads}
use Rattle.xr_simulation.proofs.ItemCode.Outputs.{output_leads}
use Rattle.xr_simulation.proofs.ItemCode.ParOpens.{par_leads}
use Rattle.xr_simulation.proofs.ItemCode.Assignments.{set_leads}
use Rattle.xr_simulation.proofs.ItemCode.Inputs.{input_leads}
use Rattle.xr_simulation.proofs.ItemCode.SelectOpens.{select_leads}
use Rattle.xr_simulation.proofs.ItemCode.Tests.{if_leads, loop_leads}
use Rattle.xr_simulation.proofs.ItemCode.Zeros.{zero_leads}

-- what has no code here, or no instruction of its own, is left out by its own premise
pub statement_leads : (g : Setting) (r : Runner) → r.core < 4 → (t : kernel.Statement) (rest : List Item) → IsOwn r.parents (does t ∷ rest) → StatementLeads g r t
statement_leads g r core (kernel.set_zero v) rest own = zero_leads g r v
statement_leads g r core (kernel.set place x) rest own = set_leads g r place x
statement_leads g r core (kernel.output o) rest own = output_leads g r o
statement_leads g r core (kernel.if_then x a b) rest own = if_leads g r x a b
statement_leads g r core (kernel.loop x a b) rest own = loop_leads g r x a b
statement_leads g r core (kernel.exit n) rest own = exit_item_leads g r n
statement_leads g r core (kernel.block n a) rest own = absurd own
statement_leads g r core (kernel.par bs) rest own = par_leads g r core bs own
statement_leads g r core (kernel.input i) rest own = input_leads g r i
statement_leads g r core (kernel.select cases otherwise pos) rest own = select_leads g r cases otherwise pos
statement_leads g r core (kernel.transaction c is_master ss start close) rest own = λ behind exits pc pc' j z regs laid piece. absurd piece
