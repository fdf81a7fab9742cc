-- What an input from a port leaves to its branch behind the transfer: the stores of the value and of the port's counter, where there are
-- places for them; and where the thread stands then.
use Rattle.std.proofs.Common.{◌≡◌, ℕ, ◌+◌, ◌++◌, false, List, length, subst, arith}
use Rattle.std.proofs.lemmas.List.{length-append}
use Rattle.xs_instr.specs.declared.state.CoreState.{CoreState}
use Rattle.xs_instr.specs.declared.state.Regs.{Regs}
use Rattle.xs_instr.specs.Lines.{Line}
use Rattle.xs_instr.specs.OwnSteps.{StandAt}
use Rattle.xc_kernel.specs.declared.statement.KRes.TheVariants.{Port}
use Rattle.xc_kernel.specs.Plain as kernel
use Rattle.xc_meaning.specs.States.Items.{Item, stamping, storing}
use Rattle.xl_expr.specs.Destinations.{WritesTo}
use Rattle.xl_expr.proofs.Lists.{stand_back, stand_front}
use Rattle.xl_port.specs.Stamps.{StampsTo}
use Rattle.xl_statements.specs.Pieces.{Exit}
use Rattle.xr_simulation.specs.Fits.{CountedInputFits, IsInPort, ItemsFit}
use Rattle.xr_simulation.specs.Runners.{Setting, Runner, code, plan}
use Rattle.xr_simulation.specs.NextStep.{HasBases, HasStamp, ItemsFrom, IsPlacedAt, is_watching}
use Rattle.xr_simulation.proofs.ItemCode.Items.{storing_fits}
use Rattle.xr_simulation.proofs.ItemCode.OnResources.{stamping_fits, stamping_stands, stamping_unwatched, storing_stands, storing_unwatched}
use Rattle.xr_simulation.proofs.RelyGuarantee.Events.{items_unwatched}
use Rattle.xr_simulation.proofs.RelyGuarantee.Stands.{stands_kept}

module _ (g : Setting) (r : Runner) where
  -- The code of an input from port p stands from one index to another: these lines transfer, and then come those that write.
  pub record Leaves
      (i : kernel.Input) (p : ℕ) (rest : List Item) (exits : List Exit) (pc pc' j : ℕ) (transfer : List Line) : Type 0 where
    pub fits : CountedInputFits g r i
    pub from_port : i.resource ≡ Port p
    pub in_port : IsInPort g r p
    pub write : List Line
    pub stamp : List Line
    pub stand : StandAt (code g r) pc (transfer ++ (write ++ stamp))
    pub end : pc' ≡ pc + length (transfer ++ (write ++ stamp))
    pub writes : WritesTo (plan g r).vars i.target (pc + length transfer) write
    pub stamps : StampsTo (plan g r) i.resource i.stamp (pc + length transfer + length write) stamp
    pub behind : ItemsFrom g r rest exits pc' j
    pub rest_fits : ItemsFit g r rest

  module _ {i : kernel.Input} {p : ℕ} {rest : List Item} {exits : List Exit} {pc pc' j : ℕ} {transfer : List Line}
      (its : Leaves i p rest exits pc pc' j transfer) where
    -- where those begin that write

    abbrev at_write : ℕ
    at_write = pc + length transfer

    abbrev at_stamp : ℕ
    at_stamp = at_write + length its.write

    writes_stand : StandAt (code g r) at_write (its.write ++ its.stamp)
    writes_stand = stand_back (code g r) pc transfer (its.write ++ its.stamp) its.stand

    stamp_end : pc' ≡ at_stamp + length its.stamp
    stamp_end =
        let a = its.end in
        let b = length-append transfer (its.write ++ its.stamp) in
        let c = length-append its.write its.stamp in
        omega (arith, a, b, c)

    -- With this value and this counter.
    module _ (value count : ℕ) where
      abbrev stamp_left : List Item
      stamp_left = stamping (Port p) i.stamp count rest

      abbrev pub left_by : List Item
      left_by = storing i.target value stamp_left

      pub left_fits : ItemsFit g r left_by
      left_fits =
          let counted = its.fits.1 in
          storing_fits g r i.target value stamp_left its.fits.0.target (omega (arith, counted))
          (stamping_fits g r p its.in_port.listed its.in_port.is i.stamp count rest its.fits.0.stamp (omega (arith, counted)) its.rest_fits)

      stamp_unwatched : is_watching stamp_left ≡ false
      stamp_unwatched = stamping_unwatched g r (Port p) i.stamp count rest (items_unwatched g r rest exits pc' j its.behind)

      pub left_unwatched : is_watching left_by ≡ false
      left_unwatched = storing_unwatched g r i.target value stamp_left stamp_unwatched

      stamp_stands : (later : Regs) (core : CoreState) → HasStamp g r p count core → IsPlacedAt g r stamp_left j at_stamp later core
      stamp_stands later core has_stamp =
          stamping_stands g r p count rest exits at_stamp pc' j its.stamp
          (stand_back (code g r) at_write its.write its.stamp writes_stand) stamp_end its.behind i.stamp
          (subst (λ res. StampsTo (plan g r) res i.stamp at_stamp its.stamp) its.from_port its.stamps) later core has_stamp

      pub left_stands : (last : Regs) (core : CoreState) → HasBases g r last → last.r0 ≡ value → HasStamp g r p count core →
          IsPlacedAt g r left_by j at_write last core
      left_stands last core bases' in_r0 has_stamp =
          storing_stands g r stamp_left at_write j its.write (stand_front (code g r) at_write its.write its.stamp writes_stand) core
          stamp_unwatched
          (λ later other bases_then same. stands_kept g r stamp_left j at_stamp later core other stamp_unwatched same (stamp_stands later core has_stamp))
          i.target its.writes value last bases' in_r0
