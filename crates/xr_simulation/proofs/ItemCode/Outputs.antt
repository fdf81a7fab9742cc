-- An output, by what it goes to.
use Rattle.std.proofs.Common.{◌≡◌, refl}
use Rattle.xc_kernel.specs.declared.statement.KRes.{KRes}
use Rattle.xc_kernel.specs.declared.statement.KRes.TheVariants.{Port, Timer, Chan}
use Rattle.xc_kernel.specs.Plain as kernel
use Rattle.xl_statements.specs.Pieces.{OutputAt}
use Rattle.xr_simulation.specs.Fits.{PutsOutAt}
use Rattle.xr_simulation.specs.Runners.{Setting, Runner, code, plan}
use Rattle.xr_simulation.specs.NextStep.{IsOnSide, Leads, StatementLeads, cost}
use Rattle.xr_simulation.proofs.ItemCode.ChannelOutputs.{offer_leads}
use Rattle.xr_simulation.proofs.ItemCode.PortOutputs.{port_output_leads}

-- From the code of an output the thread comes to the instruction that puts the word out, or to the first step of the protocol.
module _ (g : Setting) (r : Runner) where
  pub output_leads : (o : kernel.Output) → StatementLeads g r (kernel.output o)
  output_leads o rest exits pc pc' j z regs laid piece fits sided behind rest_fits has sized here bases no_hand =
      to o.resource refl piece fits.0.to sided
    where
      to : (res : KRes) → o.resource ≡ res → OutputAt (code g r) (plan g r) r.sides o res pc pc' → PutsOutAt g r res → IsOnSide g r res →
          Leads g r (cost g r) j z
      to (Port p) e h out on =
          port_output_leads g r o p e out rest exits pc pc' j z regs laid h fits behind rest_fits has here bases no_hand
      to (Timer t) e h out on = absurd h
      to (Chan c) e h out on =
          offer_leads g r o c e out rest exits pc pc' j z regs laid h fits on behind rest_fits has here bases no_hand
