-- What a machine keeps between events: room for what is due, and for what is sent.
use Rattle.std.proofs.Common.{◌≡◌, ◌≤◌, ◌<◌, ℕ, List, map, length, Option, Some, None, refl, sym, ap, subst, ◌∙◌, inl, inr, arith}
use Rattle.std.specs.Prelude.{nat_lt, slice_get, slice_set, ◌≢◌, ◌⊎◌}
use Rattle.std.proofs.lemmas.List.{length-map}
use Rattle.xs_core.specs.Core.{Seen as Core}
use Rattle.xs_core.specs.Deliver.{HasRoomFrom}
use Rattle.xs_core.proofs.Lists.{get_set, get_set_other}
use Rattle.xs_core.proofs.Weights.{get_below, same_num}
use Rattle.xs_instr.specs.declared.image.Home.{Home}
use Rattle.xs_instr.specs.declared.image.Image.{Image}
use Rattle.xs_instr.specs.declared.image.Stim.{Stim}
use Rattle.xs_instr.specs.declared.state.CoreState.{CoreState}
use Rattle.xs_instr.specs.declared.trace.Record.{Record}
use Rattle.xs_instr.specs.Machine.{Event, Machine as State, boot, does, home_of, link_of, on_links}
use Rattle.xs_instr.specs.Slot.{last_clock}
use Rattle.xs_fabric.specs.declared.machine.Event.{Event as Answer}
use Rattle.xs_fabric.specs.declared.machine.Event.TheVariants.{Done, NotEnabled}
use Rattle.xs_fabric.specs.Kept.{AreIdle, IsRunning}
use Rattle.xs_fabric.specs.Lockstep.{late_from, part_at, round_there, tick_once}
use Rattle.xs_fabric.specs.Rooms.{CanGo, FirstHasRoom, IsIdle}
use Rattle.xs_fabric.specs.Rounds.{Links, own_round}
use Rattle.xs_fabric.specs.Runs.{Leads}
use Rattle.xs_fabric.specs.Seen.{IsEvent, home_in, homes, state_in, together}
use Rattle.xs_fabric.proofs.Among.{home_at, state_at}
use Rattle.xs_fabric.proofs.Deliveries.{first_has_room_from, led_sound, link_room}
use Rattle.xs_fabric.proofs.LockstepLeads.{leads_at, machine, one_event, round_leads, then_leads, tick_leads}
use Rattle.xs_fabric.proofs.Places.{link_has_places}
use Rattle.xs_fabric.proofs.Sendings.{round_goes_to_cores}
use Rattle.xs_fabric.proofs.Sound.{Sound}
use Rattle.xs_fabric.proofs.Ways.{some_is}

pub four_of : (cores : List Core) (L : Image) (s : Stim) → map home_in cores ≡ homes L s → length cores ≡ 4
four_of cores L s of = sym (length-map cores home_in) ∙ ap length of

-- cores of which one is changed to an idle one
pub idle_set : (cores : List Core) (i : ℕ) (core new : Core) → slice_get cores i ≡ Some core → AreIdle cores → IsIdle new → AreIdle (slice_set cores i new)
idle_set cores i core new there all one j k h = go (same_num i j)
  where
    go : (i ≡ j) ⊎ (i ≢ j) → IsIdle k
    go (inr ne) = all j k (sym (get_set_other cores i j new ne) ∙ h)
    go (inl e) =
        let h' = subst (λ v. slice_get (slice_set cores i new) v ≡ Some k) (sym e) h in
        let is = some_is new k (sym (get_set cores i core new there) ∙ h') in
        subst (λ (x : Core). IsIdle x) is one

module _ (cores : List Core) (links : Links) (trace : List Record) (r : IsRunning cores links trace) where
  pub sound : Sound r.image (together cores links trace)
  sound = led_sound r.image r.valid r.stim (together cores links trace) r.reached

  -- an event, which may be one that is not enabled, and what it leaves
  pub event_running : (e : Event) (answer : Answer) (cores' : List Core) (links' : Links) (trace' : List Record) → IsEvent (does r.image r.stim (together cores links trace) e) (together cores links trace) answer (together cores' links' trace') → map home_in cores' ≡ map home_in cores → AreIdle cores' → IsRunning cores' links' trace'
  event_running e answer cores' links' trace' event same idle = record {
    image = r.image;
    stim = r.stim;
    valid = r.valid;
    of = same ∙ r.of;
    reached = go (does r.image r.stim (together cores links trace) e) refl answer event;
    idle = idle;
  }
    where
      go : (o : Option State) → does r.image r.stim (together cores links trace) e ≡ o → (a : Answer) → IsEvent o (together cores links trace) a (together cores' links' trace') → Leads r.image r.stim (boot r.image) (together cores' links' trace')
      go (Some next) h Done is =
          leads_at r.image r.stim (boot r.image) next _
          (then_leads r.image r.stim (boot r.image) (together cores links trace) next r.reached (one_event r.image r.stim (together cores links trace) next e h)) (sym is)
      go None h NotEnabled is = leads_at r.image r.stim (boot r.image) (together cores links trace) _ r.reached (sym is)
      go (Some next) h NotEnabled is = absurd is
      go None h Done is = absurd is

  -- a link's first item has room
  pub first_room : (from to : ℕ) → FirstHasRoom cores links from to
  first_room from to item rest core link there =
      let four = four_of cores r.image r.stim r.of in
      let below = get_below cores to core there in
      let lt : to < 4 = omega (arith, four, below) in
      subst (λ (h : Home). HasRoomFrom h core.state.ends item.moved) (sym (home_at r.image r.stim cores to core lt r.of there))
      (first_has_room_from r.image r.valid r.stim (together cores links trace) sound from to item rest link core.state (state_at cores to core there))

  -- events that lead on from here have places on the links for what they send
  pub led_places : (next : State) → Leads r.image r.stim (together cores links trace) next → (a b : ℕ) → a < 4 → length (link_of next.links a b) ≤ 512
  led_places next way a b la =
      let all = then_leads r.image r.stim (boot r.image) (together cores links trace) next r.reached way in
      link_has_places r.image r.valid next (led_sound r.image r.valid r.stim next all) a b la

  module _ (i : ℕ) (core : Core) (lt : i < 4) (there : slice_get cores i ≡ Some core) where
    home : core.home ≡ home_of r.image r.stim i
    home = home_at r.image r.stim cores i core lt r.of there

    abbrev up : CoreState
    up = tick_once core.state

    ticked : Leads r.image r.stim (boot r.image) (machine (slice_set (map state_in cores) i (tick_once core.state)) links trace)
    ticked =
        then_leads r.image r.stim (boot r.image) (together cores links trace) _ r.reached
        (tick_leads r.image r.stim i (together cores links trace) core.state (nat_lt core.state.clock last_clock) (state_at cores i core there) refl)

    round_led : Leads r.image r.stim (together cores links trace) (round_there (home_of r.image r.stim i) (together cores links trace) i (Some core.state))
    round_led = round_leads r.image r.stim i (together cores links trace) (Some core.state) (state_at cores i core there)

    places : (b : ℕ) → b < 4 → length (link_of (on_links (late_from links i (tick_once core.state).clock 4) i (own_round (home_of r.image r.stim i) links core.state).sent) i b) ≤ 512
    unfolding part_at
    places b lb = led_places _ round_led i b lt

    can_go_at : (h : Home) → h ≡ home_of r.image r.stim i → IsIdle core → CanGo (record core { home = h }) links
    can_go_at h e idle =
        subst (λ (x : Home). CanGo (record core { home = x }) links) (sym e) (record {
          number = lt;
          idle = record { outgoing = idle.outgoing; spare = idle.spare };
          few = λ a la. link_has_places r.image r.valid (together cores links trace) sound a i la;
          due = λ a la.
              link_room r.image r.valid r.stim i (machine (slice_set (map state_in cores) i (tick_once core.state)) links trace) (tick_once core.state) (tick_once core.state).clock a ticked
              (get_set (map state_in cores) i core.state (tick_once core.state) (state_at cores i core there));
          sent = record {
            to = round_goes_to_cores r.image r.valid r.stim i lt links core.state;
            places = places;
          };
        })

    pub can_go : CanGo core links
    can_go = can_go_at core.home home (r.idle i core there)
