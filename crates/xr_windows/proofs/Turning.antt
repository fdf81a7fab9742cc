-- A thread's turn, on what its core's round has so far.
use Rattle.std.proofs.Common.{◌≡◌, ℕ, List, [], ◌∷◌, ◌++◌, Option, Some, None, refl, sym, ap, subst, ◌∙◌, append_assoc}
use Rattle.xr_windows.specs.Alone.{stamped}
use Rattle.xr_windows.specs.Goes.{Holds}
use Rattle.xr_windows.specs.declared.stamped.Stamped.{Stamped}
use Rattle.xs_core.specs.Core.{Seen as Core}
use Rattle.xs_core.specs.declared.did.Did.{Did as Answer}
use Rattle.xs_core.specs.declared.did.Did.TheVariants.{Made as DidMake, Paused as DidPause, Trapped as DidTrap, Idle as DidRest}
use Rattle.xs_core.specs.Slots.{IsTurn}
use Rattle.xs_fabric.specs.Lockstep.{Part, after, turn}
use Rattle.xs_instr.specs.declared.image.Home.{Home}
use Rattle.xs_instr.specs.declared.state.CoreState.{CoreState}
use Rattle.xs_instr.specs.declared.state.Sent.{Sent}
use Rattle.xs_instr.specs.declared.trace.Record.{Record}
use Rattle.xs_instr.specs.declared.trace.Record.TheVariants.{Fault}
use Rattle.xs_instr.specs.Did.{Did, Made, Paused, Traps, Idle}
use Rattle.xs_instr.specs.Machine.{noted}
use Rattle.xs_instr.specs.Slot.{slot, trapped, fault_of}

abbrev pub stamp : ℕ → Record → Stamped
stamp tick r = record { tick = tick; made = r }

-- the records, and one where there is one
abbrev pub noted_at : ℕ → List Stamped → Option Record → List Stamped
noted_at tick records None = records
noted_at tick records (Some r) = records ++ stamp tick r ∷ []

-- the records after an answer of core c
abbrev pub told_by : ℕ → ℕ → List Stamped → Answer → List Stamped
told_by c tick records (DidMake made) = noted_at tick records made
told_by c tick records DidPause = records
told_by c tick records (DidTrap kind pos) = records ++ stamp tick (Fault c pos kind) ∷ []
told_by c tick records DidRest = records

stamped_last : (tick : ℕ) (rs : List Record) (r : Record) → stamped tick (rs ++ r ∷ []) ≡ stamped tick rs ++ stamp tick r ∷ []
stamped_last tick [] r = refl
stamped_last tick (x ∷ rs) r = ap (λ ys. stamp tick x ∷ ys) (stamped_last tick rs r)

written_last : (tick : ℕ) (base recs : List Stamped) (rs : List Record) (r : Record) → recs ≡ base ++ stamped tick rs → recs ++ stamp tick r ∷ [] ≡ base ++ stamped tick (rs ++ r ∷ [])
written_last tick base recs rs r is =
    ap (λ x. x ++ stamp tick r ∷ []) is ∙ append_assoc base (stamped tick rs) (stamp tick r ∷ []) ∙ ap (λ x. base ++ x) (sym (stamped_last tick rs r))

written_more : (tick : ℕ) (base recs : List Stamped) (rs : List Record) (o : Option Record) → recs ≡ base ++ stamped tick rs → noted_at tick recs o ≡ base ++ stamped tick (noted rs o)
written_more tick base recs rs None is = is
written_more tick base recs rs (Some r) is = written_last tick base recs rs r is

module _ (home : Home) (t tick : ℕ) (p : Part) (box0 : List Sent) (base : List Stamped) (old new : Core) (recs : List Stamped) (h : Holds p tick box0 base old recs) where
  held : (d : Did CoreState) (answer : Answer) → IsTurn d home old.state t answer new.state old.outbox new.outbox → Holds (after home p t d) tick box0 base new (told_by home.number tick recs answer)
  held (Made core made sent) (DidMake told) k = record {
    state = k.0;
    outgoing = k.2 ∙ ap (λ b. b ++ sent) h.outgoing ∙ append_assoc box0 p.sent sent;
    written = ap (noted_at tick recs) k.1 ∙ written_more tick base recs p.made made h.written;
  }
  held Paused DidPause k = record { state = k.0 ∙ h.state; outgoing = k.1 ∙ h.outgoing; written = h.written }
  held (Traps kind) (DidTrap trap pos) k =
      let fault : Fault home.number pos trap ≡ fault_of home p.core t kind =
      (λ j. Fault home.number (k.2 j) (k.1 j)) ∙ ap (λ c. fault_of home c t kind) h.state in
      record {
        state = k.0 ∙ ap (λ c. trapped c t) h.state;
        outgoing = k.3 ∙ h.outgoing;
        written = ap (λ f. recs ++ stamp tick f ∷ []) fault ∙ written_last tick base recs p.made (fault_of home p.core t kind) h.written;
      }
  held Idle DidRest k = record { state = k.0 ∙ h.state; outgoing = k.1 ∙ h.outgoing; written = h.written }
  held (Made core made sent) DidPause k = absurd k
  held (Made core made sent) (DidTrap trap pos) k = absurd k
  held (Made core made sent) DidRest k = absurd k
  held Paused (DidMake told) k = absurd k
  held Paused (DidTrap trap pos) k = absurd k
  held Paused DidRest k = absurd k
  held (Traps kind) (DidMake told) k = absurd k
  held (Traps kind) DidPause k = absurd k
  held (Traps kind) DidRest k = absurd k
  held Idle (DidMake told) k = absurd k
  held Idle DidPause k = absurd k
  held Idle (DidTrap trap pos) k = absurd k

  -- the turn that was taken is the next one of the definitions
  pub turn_holds : (answer : Answer) (recs' : List Stamped) → IsTurn (slot home old.state t) home old.state t answer new.state old.outbox new.outbox → recs' ≡ told_by home.number tick recs answer → Holds (turn home p t) tick box0 base new recs'
  unfolding turn
  turn_holds answer recs' taken told =
      let at_p = subst (λ (c : CoreState). Holds (after home p t (slot home c t)) tick box0 base new (told_by home.number tick recs answer)) h.state (held (slot home old.state t) answer taken) in
      subst (λ (r : List Stamped). Holds (after home p t (slot home p.core t)) tick box0 base new r) (sym told) at_p
