-- A core's part of a round, from its tick to what it sent.
use Rattle.std.proofs.Common.{◌≡◌, ℕ, ◌+◌, List, [], ◌++◌, length, sym, ap, subst, ◌∙◌, arith}
use Rattle.std.specs.Prelude.{nat_lt}
use Rattle.xs_core.specs.Core.{Seen as Core}
use Rattle.xs_core.proofs.Lists.{append_nothing}
use Rattle.xs_instr.specs.declared.image.Home.{Home}
use Rattle.xs_instr.specs.declared.state.Sent.{Sent}
use Rattle.xs_instr.specs.declared.trace.Record.{Record}
use Rattle.xs_instr.specs.Machine.{on_links}
use Rattle.xs_instr.specs.Slot.{last_clock}
use Rattle.xw_words.specs.Words.{truth}
use Rattle.xs_fabric.specs.Lockstep.{Part, all_came, core_round, late_from, steps_in, tick_once, turns}
use Rattle.xs_fabric.specs.Rooms.{CanSend}
use Rattle.xs_fabric.specs.Rounds.{Links, begun, due_at, links_after, own_round, part, round_events}
use Rattle.xs_fabric.proofs.Turns.{behind, steps_in-behind, turns-behind}

-- a core after its tick, and then after what was due
module _ (old up full : Core) (links links2 : Links) (ticks : up ≡ record old { state = tick_once old.state }) (came : full ≡ record up { state = all_came up.state (due_at up.home links up.state) }) (late : links2 ≡ late_from links up.home.number up.state.clock 4) where
  full_is : full ≡ record old { state = (begun old.home links old.state).core }
  full_is = came ∙ ap (λ (k : Core). record k { state = all_came k.state (due_at k.home links k.state) }) ticks

  late_is : links2 ≡ late_from links old.home.number (tick_once old.state).clock 4
  late_is = late ∙ ap (λ (k : Core). late_from links k.home.number k.state.clock 4) ticks

  part_is : (trace : List Record) → old.outbox ≡ [] → part full trace ≡ behind trace (begun old.home links old.state)
  part_is trace none =
      ap (λ (k : Core). part k trace) full_is
      ∙ ap (λ (x : List Sent). record { core = (begun old.home links old.state).core; made = trace; sent = x }) none
      ∙ ap (λ (x : List Record). record { core = (begun old.home links old.state).core; made = x; sent = [] }) (sym (append_nothing trace))

  -- the turns, and with them the round
  module _ (last : Core) (trace trace' : List Record) (none : old.outbox ≡ []) (turned : part last trace' ≡ turns full.home (part full trace) 8) (home : last.home ≡ full.home) where
    round_is : part last trace' ≡ behind trace (own_round old.home links old.state)
    unfolding core_round
    round_is =
        turned
        ∙ ap (λ (k : Core). turns k.home (part full trace) 8) full_is
        ∙ ap (λ (p : Part). turns old.home p 8) (part_is trace none)
        ∙ turns-behind old.home trace (begun old.home links old.state) 8

    pub state_is : (new : Core) → new.state ≡ last.state → new.state ≡ (own_round old.home links old.state).core
    state_is new same = same ∙ ap (λ (p : Part). p.core) round_is

    pub trace_is : trace' ≡ trace ++ (own_round old.home links old.state).made
    trace_is = ap (λ (p : Part). p.made) round_is

    sent_is : last.outbox ≡ (own_round old.home links old.state).sent
    sent_is = ap (λ (p : Part). p.sent) round_is

    number_is : last.home.number ≡ old.home.number
    number_is = ap (λ (h : Home). h.number) home ∙ ap (λ (k : Core). k.home.number) full_is

    pub links_are : (links' : Links) → links' ≡ on_links links2 last.home.number last.outbox → links' ≡ links_after old.home links old.state
    links_are links' h =
        h
        ∙ ap (λ c. on_links links2 c last.outbox) number_is
        ∙ ap (λ l. on_links l old.home.number last.outbox) late_is
        ∙ ap (on_links (late_from links old.home.number (tick_once old.state).clock 4) old.home.number) sent_is

    pub can_send : CanSend old.home.number (late_from links old.home.number (tick_once old.state).clock 4) (own_round old.home links old.state).sent → CanSend last.home.number links2 last.outbox
    can_send h =
        subst (λ c. CanSend c links2 last.outbox) (sym number_is)
        (subst (λ l. CanSend old.home.number l last.outbox) (sym late_is)
        (subst (CanSend old.home.number (late_from links old.home.number (tick_once old.state).clock 4)) (sym sent_is) h))

    pub events_are : (one moves steps : ℕ) → one ≡ truth (nat_lt old.state.clock last_clock) → moves ≡ length (due_at up.home links up.state) → steps ≡ steps_in full.home (part full trace) 8 → one + moves + steps ≡ round_events old.home links old.state
    events_are one moves steps a b d =
        let moved = b ∙ ap (λ (k : Core). length (due_at k.home links k.state)) ticks in
        let stepped =
        d
        ∙ ap (λ (k : Core). steps_in k.home (part full trace) 8) full_is
        ∙ ap (λ (p : Part). steps_in old.home p 8) (part_is trace none)
        ∙ steps_in-behind old.home trace (begun old.home links old.state) 8 in
        omega (arith, a, moved, stepped)
