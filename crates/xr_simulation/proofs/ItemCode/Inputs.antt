-- An input, by what it comes from.
use Rattle.std.proofs.Common.{◌≡◌, refl}
use Rattle.xc_kernel.specs.declared.statement.KRes.{KRes}
use Rattle.xc_kernel.specs.declared.statement.KRes.TheVariants.{Port, Timer, Chan}
use Rattle.xc_kernel.specs.Plain as kernel
use Rattle.xl_statements.specs.Pieces.{InputAt}
use Rattle.xr_simulation.specs.Fits.{TakesInAt}
use Rattle.xr_simulation.specs.Runners.{Setting, Runner, code, plan}
use Rattle.xr_simulation.specs.NextStep.{IsOnSide, Leads, StatementLeads, cost}
use Rattle.xr_simulation.proofs.ItemCode.ChannelInputs.{take_leads}
use Rattle.xr_simulation.proofs.ItemCode.PortInputs.{port_input_leads}
use Rattle.xr_simulation.proofs.ItemCode.TimerInputs.{timer_input_leads}

module _ (g : Setting) (r : Runner) where
  pub input_leads : (i : kernel.Input) → StatementLeads g r (kernel.input i)
  input_leads i rest exits pc pc' j z regs laid piece fits sided behind rest_fits has sized here bases no_hand =
      from i.resource refl piece fits.0.from sided
    where
      from : (res : KRes) → i.resource ≡ res → InputAt (code g r) (plan g r) r.sides i res pc pc' → TakesInAt g r res → IsOnSide g r res →
          Leads g r (cost g r) j z
      from (Port p) e h used on =
          port_input_leads g r i p e used rest exits pc pc' j z regs laid h fits behind rest_fits has here bases no_hand
      from (Timer t) e h used on =
          timer_input_leads g r i t e used rest exits pc pc' j z regs laid h fits behind rest_fits has sized here bases no_hand
      from (Chan c) e h used on =
          take_leads g r i c e used rest exits pc pc' j z regs laid h fits on behind rest_fits has here bases no_hand
