-- A runner is in another phase of a transfer, or in none: what it stands on is the same.
use Rattle.std.proofs.Common.{◌≡◌, ℕ, List, Option, refl}
use Rattle.xs_instr.specs.declared.state.Regs.{Regs}
use Rattle.xc_kernel.specs.declared.kernel.PortUse.{PortUse}
use Rattle.xc_meaning.specs.States.Channels.{Side}
use Rattle.xc_meaning.specs.States.Items.{Item}
use Rattle.xl_chan.specs.Protocols.{Act}
use Rattle.xw_words.specs.declared.pos.Pos.{Pos}
use Rattle.xr_simulation.specs.Fits.{ItemsFit}
use Rattle.xr_simulation.specs.Runners.{IsPort, Runner, Setting, end_place, footprint_of, home}
use Rattle.xr_simulation.specs.ThreadViews.{ThreadView, running}
use Rattle.xr_simulation.specs.Transfers.{Transfer, acts_left, items_behind}
use Rattle.xr_simulation.specs.NextStep.{Has, HoldsStore, InTransfer, IsBehind, PortsStand, Rest, TakesSteps}
use Rattle.xr_simulation.proofs.RelyGuarantee.Footprints.{acts_map, fits_moved}
use Rattle.xr_simulation.proofs.RelyGuarantee.Stands.{stands_on}

module _ (g : Setting) (r : Runner) (transfer : Option Transfer) where
  abbrev pub s : Runner
  s = record r { transfer = transfer }

  port_of : (p : ℕ) (listed : PortUse) → IsPort g s p listed → IsPort g r p listed
  port_of p listed is = record { mine = is.mine; known = is.known; core = is.core }

  store_as : (z : ThreadView) → HoldsStore g r z → HoldsStore g s z
  store_as z h = record { holds = h.holds; room = h.room }

  ports_as : (z : ThreadView) → PortsStand g r z → PortsStand g s z
  ports_as z h p listed is = let q = h p listed (port_of p listed is) in record { port = q.port; there = q.there; declared = q.declared }

  pub has_as : (items : List Item) (z : ThreadView) → Has g r items z → Has g s items z
  has_as items z h = record { branch = h.branch; runs = h.runs; core = h.core; holds = store_as z h.holds; ports = ports_as z h.ports }

  pub fits_as : (items : List Item) → r.footprint ≡ footprint_of items → ItemsFit g r items → ItemsFit g s items
  fits_as items same h = fits_moved g r s items refl refl same h

  pub rest_as : (items : List Item) (j : ℕ) (z : ThreadView) → r.footprint ≡ footprint_of items → Rest g r items j z → Rest g s items j z
  rest_as items j z same h = record {
    pc = h.pc;
    regs = h.regs;
    here = h.here;
    bases = h.bases;
    stands = stands_on g r r.footprint transfer items j h.pc h.regs z.core h.stands;
    fits = fits_as items same h.fits;
    has = has_as items z h.has;
  }

  -- what stands behind the transfer
  pub behind_as : (items : List Item) (j index : ℕ) (regs : Regs) → IsBehind g r items j index regs → IsBehind g s items j index regs
  behind_as items j index regs h = (h.0, h.1, λ core. stands_on g r r.footprint transfer items j index regs core (h.2 core))

  pub steps_as : (channel : ℕ) (side : Side) (pos : Pos) (acts : List Act) (items : List Item) (j pc : ℕ) (regs : Regs) → TakesSteps g r channel side pos acts (IsBehind g r items j) pc regs → TakesSteps g s channel side pos acts (IsBehind g s items j) pc regs
  steps_as channel side pos acts items j pc regs h = acts_map (home g r) r.thread (end_place g r channel side) (running r.tie pc regs) pos acts (IsBehind g r items j) (IsBehind g s items j) (behind_as items j) pc regs h

  -- the thread is inside some transfer
  pub inside_as : (which : Transfer) (items : List Item) (j : ℕ) (z : ThreadView) → r.footprint ≡ footprint_of items →
      InTransfer g r which items j z → InTransfer g s which items j z
  inside_as which items j z same h = record {
    pos = h.pos;
    left = h.left;
    stands_in = h.stands_in;
    no_hand = h.no_hand;
    pc = h.pc;
    regs = h.regs;
    here = h.here;
    steps = steps_as which.channel which.side h.pos (acts_left which.phase) (items_behind which.phase items) j h.pc h.regs h.steps;
    fits = fits_as items same h.fits;
    has = has_as items z h.has;
  }
