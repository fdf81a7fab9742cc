-- The input of a port's case that was taken: from the case's code the thread comes to the instruction that reads what the port has latched,
-- which the program has fixed; behind that the value and the counter of the event are stored, where there are places for them.
use Rattle.std.proofs.Common.{◌≡◌, ℕ, ◌+◌, ◌++◌, true, List, ◌∷◌, length, Option, Some, None, refl, sym, ap, ◌∙◌, subst, arith}
use Rattle.std.specs.Prelude.{slice_get, slice_set}
use Rattle.xs_instr.specs.declared.image.PortDecl.{PortDecl}
use Rattle.xs_instr.specs.declared.instr.Reg.TheVariants.{R0}
use Rattle.xs_instr.specs.declared.state.CoreState.{CoreState}
use Rattle.xs_instr.specs.declared.state.Port.{Port as PortState}
use Rattle.xs_instr.specs.declared.state.PortGot.{PortGot}
use Rattle.xs_instr.specs.declared.state.Regs.{Regs}
use Rattle.xs_instr.specs.declared.state.Res.{Res}
use Rattle.xs_instr.specs.declared.trace.Record.{Record}
use Rattle.xs_instr.specs.declared.trace.Record.TheVariants.{PortIn}
use Rattle.xs_instr.specs.OwnSteps.{StandAt}
use Rattle.xs_instr.specs.Ports.{can_receive}
use Rattle.xs_instr.specs.Registers.{reg_set}
use Rattle.xc_kernel.specs.declared.statement.KRes.TheVariants.{Port}
use Rattle.xc_kernel.specs.Plain as kernel
use Rattle.xc_meaning.proofs.Basics.{some_given}
use Rattle.xc_meaning.specs.Runs.{does_item}
use Rattle.xc_meaning.specs.Settings.Setting as source
use Rattle.xc_meaning.specs.Settings.Time.{identifier_of}
use Rattle.xc_meaning.specs.Settings.Transfers.{inputs_fixed, samples}
use Rattle.xc_meaning.specs.States.Items.{Item, fixed, stamping, storing}
use Rattle.xc_meaning.specs.States.Worlds.{World, with_record}
use Rattle.xl_expr.specs.PartSteps.{KeptParts}
use Rattle.xl_expr.specs.ResourceParts.{port_alone}
use Rattle.xl_expr.proofs.Lists.{get_set_same, stand_front}
use Rattle.xl_expr.proofs.Runs.{r0_alone}
use Rattle.xl_select.specs.Entry.{AtPortLatch, EntersPortCase, latch_record}
use Rattle.xl_statements.specs.Pieces.{Exit, LinesAt}
use Rattle.xr_simulation.specs.Fits.{CountedInputFits, IsInPort, ItemsFit}
use Rattle.xr_simulation.specs.Runners.{Setting, Runner, IsLaidOut, code, home, plan, port_place, relied}
use Rattle.xr_simulation.specs.ThreadViews.{ThreadView, running}
use Rattle.xr_simulation.specs.NextStep.{Has, HasBases, IsAt, ItemsFrom, Leads, NextStep, PortIs, cost}
use Rattle.xr_simulation.proofs.Image.Bases.{bases_scratched, bases_worked}
use Rattle.xr_simulation.proofs.ItemCode.Evaluations.{with_items}
use Rattle.xr_simulation.proofs.ItemCode.InputsLeft.{Leaves, left_by, left_fits, left_stands, left_unwatched}
use Rattle.xr_simulation.proofs.ItemCode.OnResources.{port_stands}
use Rattle.xr_simulation.proofs.ItemCode.ResourceTurns.{AtTransfer, Passes, has_still, passed, port_moves, setting, transfer_leads, transfer_passes}
use Rattle.xr_simulation.proofs.ItemCode.Timings.{identifier_is}
use Rattle.xr_simulation.proofs.RelyGuarantee.Arrival.{alone_mine}
use Rattle.xr_simulation.proofs.RelyGuarantee.Layouts.{room_of, runs_at}

-- The code of the case of an input from port p of the kernel, which has latched a value and a counter.
module _ (g : Setting) (r : Runner) (laid : IsLaidOut g r) (i : kernel.Input) (p : ℕ) (from_port : i.resource ≡ Port p)
    (in_port : IsInPort g r p) (fits : CountedInputFits g r i) (rest : List Item) (exits : List Exit) (pc pc' j : ℕ)
    (lines : LinesAt (code g r) (EntersPortCase (plan g r) i) pc pc') (behind : ItemsFrom g r rest exits pc' j)
    (rest_fits : ItemsFit g r rest) (v counter : ℕ) (z : ThreadView) (regs : Regs) (bases : HasBases g r regs)
    (has : Has g r (fixed i v counter ∷ rest) z) (port : PortState)
    (there : slice_get z.core.ports (port_place g r p) ≡ Some port)
    (latch : port.latch ≡ Some (record { value = v; stamp = counter })) where
  abbrev place : ℕ
  place = port_place g r p

  abbrev mine : Res → Type 0
  mine = port_alone place

  abbrev its : PortIs g r p in_port.listed z
  its = has.ports p in_port.listed in_port.is

  abbrev got : PortGot
  got = record { value = v; stamp = counter }

  -- it is declared as its place has it
  same_port : its.port ≡ port
  same_port = some_given (sym its.there ∙ there)

  abbrev parts : EntersPortCase (plan g r) i pc lines.lines
  parts = lines.so

  abbrev at_write : ℕ
  at_write = pc + length parts.transfer

  all_stand : StandAt (code g r) pc (parts.transfer ++ (parts.write ++ parts.stamp))
  all_stand = subst (StandAt (code g r) pc) parts.is lines.stand

  leaves : Leaves g r i p rest exits pc pc' j parts.transfer
  leaves = record {
    fits = fits;
    from_port = from_port;
    in_port = in_port;
    write = parts.write;
    stamp = parts.stamp;
    stand = all_stand;
    end = lines.end ∙ ap (λ l. pc + length l) parts.is;
    writes = parts.writes;
    stamps = parts.stamps;
    behind = behind;
    rest_fits = rest_fits;
  }

  abbrev all_left : List Item
  all_left = left_by g r leaves v counter

  abbrev outcome : CoreState → Type 0
  outcome c =
      AtPortLatch (home g r) (relied g r) r.stack r.thread (running r.tie pc regs) z.core.words place port got i.pos at_write c

  -- At the end of its way the thread is at the instruction that reads the latch.
  module _ (q : ThreadView) (at : AtTransfer g r mine (fixed i v counter) rest z q) (w : outcome q.core) where
    abbrev s : source.Setting
    s = setting g r at

    abbrev made : Option Record
    made = Some (latch_record (home g r) port got)

    abbrev left_with : Record → World
    left_with = with_record (with_items q.world r.branch (has_still g r at).branch all_left)

    id_is : port.decl.port ≡ identifier_of s p
    id_is =
        ap (λ (x : PortState). x.decl.port) (sym same_port)
        ∙ ap (λ (d : PortDecl). d.port) its.declared ∙ sym (identifier_is g.program.ports p in_port.listed in_port.is.known)

    -- the branch stores what the thread reads, and both make the same record
    passing_is : samples s i p v counter ≡ passed g r at all_left made
    passing_is =
        ap (λ res. with_record
        (with_items q.world r.branch (has_still g r at).branch (storing i.target v (stamping res i.stamp counter rest)))
        (PortIn (has_still g r at).branch.core (identifier_of s p) counter v)) from_port
        ∙ ap (λ (c : ℕ). left_with (PortIn c (identifier_of s p) counter v)) (has_still g r at).core
        ∙ ap (λ (d : ℕ). left_with (PortIn r.core d counter v)) (sym id_is)

    step_is : does_item s (fixed i v counter) ≡ Some (passed g r at all_left made)
    step_is = ap (inputs_fixed s i v counter) from_port ∙ ap (λ (x : World). Some x) passing_is

    abbrev moved : PortState
    moved = record port { latch = None; stamp = counter }

    abbrev last : Regs
    last = reg_set w.regs R0 v

    reads_it : Passes g r j q all_left made
    reads_it = record {
      pc = at_write;
      regs = last;
      ports = slice_set q.core.ports place moved;
      timers = q.core.timers;
      moves = port_moves g r p in_port.listed in_port.is q w.index at_write w.regs last moved made w.here w.goes;
      bases = bases';
      unwatched = left_unwatched g r leaves v counter;
      stands = left_stands g r leaves v counter last _ bases' refl (moved, get_set_same q.core.ports place port moved w.port_is, refl);
      fits = left_fits g r leaves v counter;
    }
      where
        bases' : HasBases g r last
        bases' = bases_scratched g r w.regs last (r0_alone w.regs v) (bases_worked g r regs w.regs w.others bases)

    latch_turn : NextStep g r j q
    latch_turn = transfer_passes g r at j all_left made step_is reads_it

  latch_leads : IsAt g r z pc regs → z.hand ≡ None → Leads g r (cost g r) j z
  latch_leads here no_hand =
      let receives : can_receive port.decl.dir ≡ true =
      ap (λ (x : PortState). can_receive x.decl.dir) (sym same_port)
      ∙ ap (λ (d : PortDecl). can_receive d.dir) its.declared ∙ in_port.receives in
      transfer_leads g r mine (alone_mine g r p in_port.listed in_port.is)
      (λ b. (c : CoreState) → KeptParts (relied g r) mine r.thread b c → outcome c) 2 j z pc regs (omega arith) here
      (parts.reads.by (home g r) (relied g r) r.stack r.thread place port got (running r.tie pc regs) z.core
      (stand_front (code g r) pc parts.transfer (parts.write ++ parts.stamp) all_stand) (runs_at g r z pc regs here)
      (room_of g r laid z regs bases has.holds) (port_stands g r laid z regs i.resource p in_port.listed port from_port in_port.is there bases)
      receives latch)
      laid (fixed i v counter) rest has no_hand (λ y q h kept at. latch_turn q at (h q.core kept))

-- from the case's code to that instruction
pub fixed_port_leads : (g : Setting) (r : Runner) (i : kernel.Input) (p : ℕ) → i.resource ≡ Port p → IsInPort g r p →
    (rest : List Item) (exits : List Exit) (pc pc' j v counter : ℕ) (z : ThreadView) (regs : Regs) →
    IsLaidOut g r → LinesAt (code g r) (EntersPortCase (plan g r) i) pc pc' → CountedInputFits g r i →
    ItemsFrom g r rest exits pc' j → ItemsFit g r rest → Has g r (fixed i v counter ∷ rest) z → (port : PortState) →
    slice_get z.core.ports (port_place g r p) ≡ Some port → port.latch ≡ Some (record { value = v; stamp = counter }) →
    IsAt g r z pc regs → HasBases g r regs → z.hand ≡ None → Leads g r (cost g r) j z
fixed_port_leads g r i p from_port in_port rest exits pc pc' j v counter z regs laid lines fits behind rest_fits has port there latch here
    bases no_hand =
    latch_leads g r laid i p from_port in_port fits rest exits pc pc' j lines behind rest_fits v counter z regs bases has port there latch
    here no_hand
