-- A round, on how far the core by itself is.
use Rattle.std.proofs.Common.{◌≡◌, ◌<◌, ℕ, List, ◌++◌, refl, sym, ap, subst, ◌∙◌, append_assoc}
use Rattle.xr_windows.specs.Alone.{Alone, after_round, due_in, own_part, stamped}
use Rattle.xr_windows.specs.Goes.{CanGo, Goes, Holds}
use Rattle.xr_windows.specs.declared.stamped.Stamped.{Stamped}
use Rattle.xr_windows.proofs.Delivered.{given, tick_is}
use Rattle.xr_windows.proofs.Ticking.{begun}
use Rattle.xs_core.specs.Core.{Seen as Core}
use Rattle.xs_fabric.specs.Lockstep.{Part, all_came, core_round, late_of, tick_once, turns}
use Rattle.xs_fabric.specs.Rooms.{AllHaveRoom}
use Rattle.xs_instr.specs.declared.image.Home.{Home}
use Rattle.xs_instr.specs.declared.state.CoreState.{CoreState}
use Rattle.xs_instr.specs.declared.state.Item.{Item}
use Rattle.xs_instr.specs.Slot.{last_clock, ticked}

-- the core, its clock a tick further
abbrev pub upped : Core → Core
upped core = record core { state = ticked core.state }

-- a round by itself is the turns after what came
own_turns : (home : Home) (a : Alone) → own_part home a ≡ turns home (begun (all_came (tick_once a.core) (due_in a.coming (tick_once a.core).clock 4))) 8
unfolding core_round
own_turns home a = refl

-- what is due then has room
pub up_room : (core up : Core) (coming : ℕ → List Item) (clock : ℕ) → up ≡ upped core → clock ≡ up.state.clock → CanGo core.home core.state coming → AllHaveRoom up.home up.state (due_in coming clock 4)
up_room core up coming clock ticks at_clock can =
    let ups : tick_once core.state ≡ up.state = tick_is core.state can.clock ∙ sym (ap (λ (k : Core). k.state) ticks) in
    let homes : core.home ≡ up.home = sym (ap (λ (k : Core). k.home) ticks) in
    let clocks : (tick_once core.state).clock ≡ clock = ap (λ (k : CoreState). k.clock) ups ∙ sym at_clock in
    subst (λ (h : Home). AllHaveRoom h up.state (due_in coming clock 4)) homes
    (subst (λ (k : CoreState). AllHaveRoom core.home k (due_in coming clock 4)) ups
    (subst (λ t. AllHaveRoom core.home (tick_once core.state) (due_in coming t 4)) clocks can.room))

module _ (a : Alone) (records0 : List Stamped) (core up came next : Core) (coming coming' : ℕ → List Item) (records records' : List Stamped) (clock : ℕ) (h : Goes a records0 core coming records) (lt : core.state.clock < last_clock) (ticks : up ≡ upped core) (at_clock : clock ≡ up.state.clock) (delivered : came ≡ given up (due_in coming clock 4)) (late : (b : ℕ) → coming' b ≡ late_of clock (coming b)) (turned : Holds (turns came.home (begun came.state) 8) clock came.outbox records next records') where
  ups : up.state ≡ tick_once a.core
  ups = ap (λ (k : Core). k.state) ticks ∙ sym (tick_is core.state lt) ∙ ap tick_once h.state

  clocks : clock ≡ (tick_once a.core).clock
  clocks = at_clock ∙ ap (λ (k : CoreState). k.clock) ups

  dues : due_in coming clock 4 ≡ due_in a.coming (tick_once a.core).clock 4
  dues = (λ j. due_in (λ b. h.on_way b j) (clocks j) 4)

  states : came.state ≡ all_came (tick_once a.core) (due_in a.coming (tick_once a.core).clock 4)
  states = ap (λ (k : Core). k.state) delivered ∙ (λ j. all_came (ups j) (dues j))

  homes : came.home ≡ core.home
  homes = ap (λ (k : Core). k.home) delivered ∙ ap (λ (k : Core). k.home) ticks

  outboxes : came.outbox ≡ a.sent
  outboxes = ap (λ (k : Core). k.outbox) delivered ∙ ap (λ (k : Core). k.outbox) ticks ∙ h.outgoing

  parts : turns came.home (begun came.state) 8 ≡ own_part core.home a
  parts = (λ j. turns (homes j) (begun (states j)) 8) ∙ sym (own_turns core.home a)

  pub round_goes : Goes (after_round a (tick_once a.core).clock (own_part core.home a)) records0 next coming' records'
  round_goes = record {
    state = turned.state ∙ ap (λ (p : Part). p.core) parts;
    on_way = λ b. late b ∙ (λ j. late_of (clocks j) (h.on_way b j));
    outgoing = turned.outgoing ∙ (λ j. outboxes j ++ (parts j).sent);
    written =
        turned.written
        ∙ (λ j. h.written j ++ stamped (clocks j) (parts j).made)
        ∙ append_assoc records0 a.made (stamped (tick_once a.core).clock (own_part core.home a).made);
  }
