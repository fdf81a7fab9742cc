-- The input of a case that was taken, by its resource.
use Rattle.std.proofs.Common.{◌≡◌, ℕ, List, ◌∷◌, None, refl}
use Rattle.xs_instr.specs.declared.state.Regs.{Regs}
use Rattle.xc_kernel.specs.declared.statement.KRes.{KRes}
use Rattle.xc_kernel.specs.declared.statement.KRes.TheVariants.{Port, Timer, Chan}
use Rattle.xc_kernel.specs.Plain as kernel
use Rattle.xc_meaning.specs.States.Items.{Item, fixed}
use Rattle.xl_statements.specs.Pieces.{Exit}
use Rattle.xr_events.specs.Latches.{HasLatched}
use Rattle.xr_simulation.specs.Fits.{ItemsFit, TakesInAt}
use Rattle.xr_simulation.specs.Runners.{Setting, Runner, IsLaidOut}
use Rattle.xr_simulation.specs.ThreadViews.{ThreadView}
use Rattle.xr_simulation.specs.NextStep.{EntersAt, Has, HasBases, IsAt, IsPlacedAt, ItemsFrom, Leads, cost, resources_here}
use Rattle.xr_simulation.proofs.ItemCode.FixedPorts.{fixed_port_leads}
use Rattle.xr_simulation.proofs.ItemCode.FixedTimers.{fixed_timer_leads}

module _ (g : Setting) (r : Runner) (laid : IsLaidOut g r) (i : kernel.Input) (v counter : ℕ) (rest : List Item) (j pc : ℕ) (regs : Regs)
    (z : ThreadView) (bases : HasBases g r regs) (here : IsAt g r z pc regs) (has : Has g r (fixed i v counter ∷ rest) z)
    (fits : ItemsFit g r (fixed i v counter ∷ rest)) (no_hand : z.hand ≡ None) where
  leads_by : (entered : ℕ) (exits : List Exit) → ItemsFrom g r rest exits entered j → (res : KRes) → i.resource ≡ res →
      HasLatched (resources_here g r) z.core res v counter → EntersAt g r res i pc entered → TakesInAt g r res → Leads g r (cost g r) j z
  leads_by entered exits behind (Port p) is (port, there, latch) lines from =
      fixed_port_leads g r i p is from rest exits pc entered j v counter z regs laid lines fits.0 behind fits.1 has port there latch here
      bases no_hand
  leads_by entered exits behind (Timer t) is (timer, there, latch) lines from =
      fixed_timer_leads g r i t is from rest exits pc entered j v counter z regs laid lines fits.0 behind fits.1 has timer there latch here
      bases no_hand
  leads_by entered exits behind (Chan c) is latch lines from = absurd lines

  -- from the case's code to the instruction that reads what was latched
  pub fixed_leads : IsPlacedAt g r (fixed i v counter ∷ rest) j pc regs z.core → Leads g r (cost g r) j z
  fixed_leads (entered, exits, latch, lines, behind) = leads_by entered exits behind i.resource refl latch lines fits.0.0.from
