-- Rounds of the cores, one after the other.
use Rattle.std.proofs.Common.{◌≡◌, ◌<◌, ◌+◌, ℕ, List, ◌++◌, map, Some, refl, sym, ap, ◌∙◌, add-one}
use Rattle.std.specs.Prelude.{slice_get, slice_set}
use Rattle.xs_core.specs.Core.{Seen as Core}
use Rattle.xs_instr.specs.declared.image.Home.{Home}
use Rattle.xs_instr.specs.declared.image.Image.{Image}
use Rattle.xs_instr.specs.declared.image.Stim.{Stim}
use Rattle.xs_instr.specs.declared.trace.Record.{Record}
use Rattle.xs_instr.specs.Machine.{Machine as State, boot, home_of}
use Rattle.xs_fabric.specs.Kept.{IsRunning}
use Rattle.xs_fabric.specs.Lockstep.{events_in, events_there, part_at, round_at, round_there, rounds_at}
use Rattle.xs_fabric.specs.Rooms.{IsIdle}
use Rattle.xs_fabric.specs.Rounds.{Links, links_after, own_round, round_events}
use Rattle.xs_fabric.specs.Seen.{home_in, homes, state_in, together}
use Rattle.xs_fabric.proofs.Among.{home_at, same_homes, state_at, states_set}
use Rattle.xs_fabric.proofs.LockstepLeads.{leads_at, machine, round_leads, then_leads}
use Rattle.xs_fabric.proofs.Running.{idle_set}

pub no_rounds : (L : Image) (s : Stim) (m : State) → m ≡ rounds_at L s m 0
unfolding rounds_at
no_rounds L s m = refl

pub no_events : (L : Image) (s : Stim) (m : State) → 0 ≡ events_in L s m 0
unfolding events_in
no_events L s m = refl

module _ (cores : List Core) (links links' : Links) (trace trace' : List Record) (i : ℕ) (core new : Core) (lt : i < 4) (there : slice_get cores i ≡ Some core)
    (state : new.state ≡ (own_round core.home links core.state).core) (onto : links' ≡ links_after core.home links core.state) (told : trace' ≡ trace ++ (own_round core.home links core.state).made) where
  module _ (L : Image) (s : Stim) (of : map home_in cores ≡ homes L s) where
    home : core.home ≡ home_of L s i
    home = home_at L s cores i core lt of there

    put_is : together (slice_set cores i new) links' trace' ≡ round_there (home_of L s i) (together cores links trace) i (Some core.state)
    unfolding part_at
    put_is =
        ap (λ l. machine l links' trace') (states_set cores i new ∙ ap (slice_set (map state_in cores) i) state)
        ∙ ap (λ l. machine (slice_set (map state_in cores) i (own_round core.home links core.state).core) l trace') onto
        ∙ ap (λ l. machine (slice_set (map state_in cores) i (own_round core.home links core.state).core) (links_after core.home links core.state) l) told
        ∙ ap (λ (h : Home). machine (slice_set (map state_in cores) i (own_round h links core.state).core) (links_after h links core.state) (trace ++ (own_round h links core.state).made)) home

    round_is : together (slice_set cores i new) links' trace' ≡ round_at L s (together cores links trace) i
    unfolding round_at
    round_is = put_is ∙ ap (round_there (home_of L s i) (together cores links trace) i) (sym (state_at cores i core there))

    pub next_rounds : (m : State) → together cores links trace ≡ rounds_at L s m i → together (slice_set cores i new) links' trace' ≡ rounds_at L s m (i + 1)
    unfolding rounds_at
    next_rounds m before = rw add-one (round_is ∙ ap (λ x. round_at L s x i) before)

    pub next_events : (m : State) (events more : ℕ) → together cores links trace ≡ rounds_at L s m i → events ≡ events_in L s m i → more ≡ round_events core.home links core.state → events + more ≡ events_in L s m (i + 1)
    unfolding events_in
    next_events m events more before is one =
        let here : more ≡ events_there (home_of L s i) (together cores links trace) i (slice_get (map state_in cores) i) =
        one ∙ ap (λ (h : Home). round_events h links core.state) home ∙ ap (events_there (home_of L s i) (together cores links trace) i) (sym (state_at cores i core there)) in
        rw add-one
        (ap (λ k. k + more) is
        ∙ ap (λ k. events_in L s m i + k) here
        ∙ ap (λ (x : State). events_in L s m i + events_there (home_of L s i) x i (slice_get x.cores i)) before)

  pub next_running : IsRunning cores links trace → new.home ≡ core.home → IsIdle new → IsRunning (slice_set cores i new) links' trace'
  next_running r same idle = record {
    image = r.image;
    stim = r.stim;
    valid = r.valid;
    of = same_homes cores i core new there same ∙ r.of;
    reached =
        leads_at r.image r.stim (boot r.image) _ _
        (then_leads r.image r.stim (boot r.image) (together cores links trace) _ r.reached
        (round_leads r.image r.stim i (together cores links trace) (Some core.state) (state_at cores i core there)))
        (sym (put_is r.image r.stim r.of));
    idle = idle_set cores i core new there r.idle idle;
  }
