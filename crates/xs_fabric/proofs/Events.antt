-- Single events of a core among the four.
use Rattle.std.proofs.Common.{◌≡◌, ◌≤◌, ◌<◌, ℕ, Bool, true, false, List, [], ◌∷◌, ◌++◌, map, length, Option, Some, None, refl, sym, ap, subst, ◌∙◌, arith}
use Rattle.std.specs.Prelude.{nat_lt, slice_get, slice_set}
use Rattle.std.proofs.lemmas.Option.{same_Some}
use Rattle.xs_core.specs.Core.{Seen as Core}
use Rattle.xs_core.proofs.Lists.{set_same}
use Rattle.xs_instr.specs.declared.image.Home.{Home}
use Rattle.xs_instr.specs.declared.image.Image.{Image}
use Rattle.xs_instr.specs.declared.image.Stim.{Stim}
use Rattle.xs_instr.specs.declared.state.CoreState.{CoreState}
use Rattle.xs_instr.specs.declared.state.Item.{Item}
use Rattle.xs_instr.specs.declared.trace.Record.{Record}
use Rattle.xs_instr.specs.Did.{Did, Made, Paused, Traps, Idle, is_step}
use Rattle.xs_instr.specs.Machine.{Machine as State, Step, came, does, home_of, link_in, link_of, move_at, move_to, noted, on_links, step_at, stepped, tick_at, tick_by}
use Rattle.xs_instr.specs.Slot.{fault_of, last_clock, slot, ticked, trapped, turn_at}
use Rattle.xs_fabric.specs.declared.machine.Event.{Event as Answer}
use Rattle.xs_fabric.specs.declared.machine.Event.TheVariants.{Done, NotEnabled}
use Rattle.xs_fabric.specs.Kept.{AreIdle, IsRunning}
use Rattle.xs_fabric.specs.Lockstep.{Part, after, turn}
use Rattle.xs_fabric.specs.OnLinks.{IsTaken}
use Rattle.xs_fabric.specs.Rooms.{AllGoToCores, CanSend, IsIdle}
use Rattle.xs_fabric.specs.Rounds.{Links, part}
use Rattle.xs_fabric.specs.Seen.{IsEvent, answer_of, home_in, homes, state_in, together}
use Rattle.xs_fabric.proofs.Among.{home_at, no_core, none_past, state_at, states_set}
use Rattle.xs_fabric.proofs.LockstepLeads.{machine, one_event, stays}
use Rattle.xs_fabric.proofs.Running.{idle_set, led_places}
use Rattle.xs_fabric.proofs.Sendings.{turn_goes_to_cores}

-- a core that is set to what it is
pub unchanged : (cores : List Core) (links : Links) (trace : List Record) (i : ℕ) (core : Core) (o : Option State) → slice_get cores i ≡ Some core → IsEvent o (together cores links trace) NotEnabled (together cores links trace) → IsEvent o (together cores links trace) NotEnabled (together (slice_set cores i core) links trace)
unchanged cores links trace i core o there h =
    subst (λ (l : List Core). IsEvent o (together cores links trace) NotEnabled (together l links trace)) (sym (set_same cores i core there)) h

-- a core or a thread that isn't there has no step
no_step_of : (home : Home) (m : State) (c t : ℕ) (o : Option CoreState) → slice_get m.cores c ≡ o → ((old : CoreState) → o ≡ Some old → slice_get old.threads t ≡ None) → IsEvent (step_at home m c t (slice_get m.cores c)) m NotEnabled m
no_step_of home m c t None e h = subst (λ o. IsEvent (step_at home m c t o) m NotEnabled m) (sym e) refl
no_step_of home m c t (Some old) e h =
    subst (λ o. IsEvent (step_at home m c t o) m NotEnabled m) (sym e)
    (subst (λ o. IsEvent (stepped home m c t old (turn_at home old t o)) m NotEnabled m) (sym (h old refl)) refl)

pub no_core_step : (L : Image) (s : Stim) (cores : List Core) (links : Links) (trace : List Record) (i t : ℕ) → length cores ≡ 4 → 4 ≤ i → IsEvent (does L s (together cores links trace) (Step i t)) (together cores links trace) NotEnabled (together cores links trace)
no_core_step L s cores links trace i t four far =
    no_step_of (home_of L s i) (together cores links trace) i t (slice_get (map state_in cores) i) refl
    (λ old e. let none = no_core cores i four far in absurd (cc))

pub no_thread_step : (L : Image) (s : Stim) (cores : List Core) (links : Links) (trace : List Record) (i t : ℕ) (core : Core) → slice_get cores i ≡ Some core → length core.state.threads ≡ 8 → 8 ≤ t → IsEvent (does L s (together cores links trace) (Step i t)) (together cores links trace) NotEnabled (together cores links trace)
no_thread_step L s cores links trace i t core there eight far =
    no_step_of (home_of L s i) (together cores links trace) i t (slice_get (map state_in cores) i) refl
    (λ old e.
    let same : core.state ≡ old = same_Some core.state old (sym (state_at cores i core there) ∙ e) in
    none_past old.threads t (let n = ap (λ (x : CoreState). length x.threads) same in omega (arith, n, eight, far)))

-- a core that isn't there has no tick, and nothing comes to it
pub no_core_tick : (cores : List Core) (links : Links) (trace : List Record) (i : ℕ) → length cores ≡ 4 → 4 ≤ i → IsEvent (tick_at (together cores links trace) i (slice_get (map state_in cores) i)) (together cores links trace) NotEnabled (together cores links trace)
no_core_tick cores links trace i four far =
    subst (λ o. IsEvent (tick_at (together cores links trace) i o) (together cores links trace) NotEnabled (together cores links trace)) (sym (no_core cores i four far)) refl

pub no_core_move : (cores : List Core) (links : Links) (trace : List Record) (from to : ℕ) → length cores ≡ 4 → 4 ≤ to → IsEvent (move_at (together cores links trace) from to (link_of links from to)) (together cores links trace) NotEnabled (together cores links trace)
no_core_move cores links trace from to four far = go (link_of links from to)
  where
    go : (items : List Item) → IsEvent (move_at (together cores links trace) from to items) (together cores links trace) NotEnabled (together cores links trace)
    go [] = refl
    go (i ∷ rest) =
        subst (λ o. IsEvent (move_to (together cores links trace) from to i rest o) (together cores links trace) NotEnabled (together cores links trace)) (sym (no_core cores to four far)) refl

-- nothing is on a link that is empty, or from a core that isn't there
pub no_move : (cores : List Core) (links : Links) (trace : List Record) (from to : ℕ) → link_of links from to ≡ [] → IsEvent (move_at (together cores links trace) from to (link_of links from to)) (together cores links trace) NotEnabled (together cores links trace)
no_move cores links trace from to none =
    subst (λ items. IsEvent (move_at (together cores links trace) from to items) (together cores links trace) NotEnabled (together cores links trace)) (sym none) refl

pub no_link_from : (links : Links) (from to : ℕ) → length links ≡ 4 → 4 ≤ from → link_of links from to ≡ []
no_link_from links from to four far = ap (λ o. link_in o to) (none_past links from (omega (arith, four, far)))

-- a core that stays idle
pub still_idle : (cores : List Core) (i : ℕ) (core new : Core) (state : CoreState) → slice_get cores i ≡ Some core → new ≡ record core { state = state } → AreIdle cores → AreIdle (slice_set cores i new)
still_idle cores i core new state there is all =
    let idle = all i core there in
    idle_set cores i core new there all (subst (λ (k : Core). IsIdle k) (sym is) (record { outgoing = idle.outgoing; spare = idle.spare }))

-- a tick of a core that can tick, and of one that can't
pub core_ticks : (cores : List Core) (links : Links) (trace : List Record) (i : ℕ) (core new : Core) → slice_get cores i ≡ Some core → nat_lt core.state.clock last_clock ≡ true → new ≡ record core { state = ticked core.state } → IsEvent (tick_at (together cores links trace) i (slice_get (map state_in cores) i)) (together cores links trace) Done (together (slice_set cores i new) links trace)
core_ticks cores links trace i core new there can is =
    subst (λ o. IsEvent (tick_at (together cores links trace) i o) (together cores links trace) Done (together (slice_set cores i new) links trace)) (sym (state_at cores i core there))
    (subst (λ b. IsEvent (tick_by (together cores links trace) i core.state b) (together cores links trace) Done (together (slice_set cores i new) links trace)) (sym can)
    (ap (λ l. machine l links trace) (states_set cores i new ∙ ap (λ (k : Core). slice_set (map state_in cores) i k.state) is)))

pub core_waits : (cores : List Core) (links : Links) (trace : List Record) (i : ℕ) (core : Core) → slice_get cores i ≡ Some core → nat_lt core.state.clock last_clock ≡ false → IsEvent (tick_at (together cores links trace) i (slice_get (map state_in cores) i)) (together cores links trace) NotEnabled (together cores links trace)
core_waits cores links trace i core there cannot =
    subst (λ o. IsEvent (tick_at (together cores links trace) i o) (together cores links trace) NotEnabled (together cores links trace)) (sym (state_at cores i core there))
    (subst (λ b. IsEvent (tick_by (together cores links trace) i core.state b) (together cores links trace) NotEnabled (together cores links trace)) (sym cannot) refl)

-- a link's first item comes to its end
pub core_gets : (cores : List Core) (links links' : Links) (trace : List Record) (from to : ℕ) (core new : Core) (item : Item) → slice_get cores to ≡ Some core → new ≡ record core { state = came core.state item.moved } → IsTaken links from to item links' → IsEvent (move_at (together cores links trace) from to (link_of links from to)) (together cores links trace) Done (together (slice_set cores to new) links' trace)
core_gets cores links links' trace from to core new item there is taken =
    subst (λ items. IsEvent (move_at (together cores links trace) from to items) (together cores links trace) Done (together (slice_set cores to new) links' trace)) (sym taken.0)
    (subst (λ o. IsEvent (move_to (together cores links trace) from to item (link_of links' from to) o) (together cores links trace) Done (together (slice_set cores to new) links' trace)) (sym (state_at cores to core there))
    (ap (λ l. machine l links' trace) (states_set cores to new ∙ ap (λ (k : Core). slice_set (map state_in cores) to k.state) is)
    ∙ ap (λ l. machine (slice_set (map state_in cores) to (came core.state item.moved)) l trace) taken.1))

-- the turn of a thread, after which what it sent goes onto the links
module _ (cores : List Core) (links : Links) (trace trace' : List Record) (i t : ℕ) (core turned : Core) (lt : i < 4) (there : slice_get cores i ≡ Some core) (none : core.outbox ≡ []) (took : part turned trace' ≡ turn core.home (part core trace) t) (same : turned.home ≡ core.home) where
  module _ (L : Image) (s : Stim) (of : map home_in cores ≡ homes L s) where
    home : core.home ≡ home_of L s i
    home = home_at L s cores i core lt of there

    took_at : part turned trace' ≡ after (home_of L s i) (part core trace) t (slot (home_of L s i) core.state t)
    unfolding turn
    took_at = subst (λ (h : Home). part turned trace' ≡ after h (part core trace) t (slot h core.state t)) home took

    pub number_is : turned.home.number ≡ i
    number_is = ap (λ (h : Home). h.number) (same ∙ home)

    same_by : part turned trace' ≡ part core trace → machine (slice_set (map state_in cores) i turned.state) (on_links links i turned.outbox) trace' ≡ together cores links trace
    same_by h =
        let state : turned.state ≡ core.state = ap (λ (p : Part). p.core) h in
        let told : trace' ≡ trace = ap (λ (p : Part). p.made) h in
        let box : turned.outbox ≡ [] = ap (λ (p : Part). p.sent) h ∙ none in
        ap (λ x. machine (slice_set (map state_in cores) i x) (on_links links i turned.outbox) trace') state
        ∙ ap (λ x. machine (slice_set (map state_in cores) i core.state) (on_links links i turned.outbox) x) told
        ∙ ap (λ x. machine (slice_set (map state_in cores) i core.state) (on_links links i x) trace) box
        ∙ ap (λ x. machine x links trace) (set_same (map state_in cores) i core.state (state_at cores i core there))

    event_by : (d : Did CoreState) → part turned trace' ≡ after (home_of L s i) (part core trace) t d → IsEvent (stepped (home_of L s i) (together cores links trace) i t core.state d) (together cores links trace) (answer_of (is_step d)) (machine (slice_set (map state_in cores) i turned.state) (on_links links i turned.outbox) trace')
    event_by (Made new made sent) h =
        let state : turned.state ≡ new = ap (λ (p : Part). p.core) h in
        let told : trace' ≡ noted trace made = ap (λ (p : Part). p.made) h in
        let box : turned.outbox ≡ sent = ap (λ (p : Part). p.sent) h ∙ ap (λ x. x ++ sent) none in
        ap (λ x. machine (slice_set (map state_in cores) i x) (on_links links i turned.outbox) trace') state
        ∙ ap (λ x. machine (slice_set (map state_in cores) i new) (on_links links i turned.outbox) x) told
        ∙ ap (λ x. machine (slice_set (map state_in cores) i new) (on_links links i x) (noted trace made)) box
    event_by (Traps kind) h =
        let fault = fault_of (home_of L s i) core.state t kind in
        let state : turned.state ≡ trapped core.state t = ap (λ (p : Part). p.core) h in
        let told : trace' ≡ trace ++ fault ∷ [] = ap (λ (p : Part). p.made) h in
        let box : turned.outbox ≡ [] = ap (λ (p : Part). p.sent) h ∙ none in
        ap (λ x. machine (slice_set (map state_in cores) i x) (on_links links i turned.outbox) trace') state
        ∙ ap (λ x. machine (slice_set (map state_in cores) i (trapped core.state t)) (on_links links i turned.outbox) x) told
        ∙ ap (λ x. machine (slice_set (map state_in cores) i (trapped core.state t)) (on_links links i x) (trace ++ fault ∷ [])) box
    event_by Paused h = same_by h
    event_by Idle h = same_by h

    module _ (links' : Links) (last : Core) (state : last.state ≡ turned.state) (onto : links' ≡ on_links links turned.home.number turned.outbox) where
      left_is : machine (slice_set (map state_in cores) i turned.state) (on_links links i turned.outbox) trace' ≡ together (slice_set cores i last) links' trace'
      left_is =
          ap (λ x. machine (slice_set (map state_in cores) i x) (on_links links i turned.outbox) trace') (sym state)
          ∙ ap (λ l. machine l (on_links links i turned.outbox) trace') (sym (states_set cores i last))
          ∙ ap (λ l. machine (map state_in (slice_set cores i last)) l trace') (sym (onto ∙ ap (λ n. on_links links n turned.outbox) number_is))

      pub step_is : (result : Bool) (answer : Answer) → result ≡ is_step (slot core.home core.state t) → answer ≡ answer_of result → IsEvent (does L s (together cores links trace) (Step i t)) (together cores links trace) answer (together (slice_set cores i last) links' trace')
      step_is result answer step is =
          let steps : answer_of (is_step (slot (home_of L s i) core.state t)) ≡ answer = ap (λ (h : Home). answer_of (is_step (slot h core.state t))) (sym home) ∙ ap answer_of (sym step) ∙ sym is in
          subst (λ o. IsEvent (step_at (home_of L s i) (together cores links trace) i t o) (together cores links trace) answer (together (slice_set cores i last) links' trace')) (sym (state_at cores i core there))
          (subst (λ a. IsEvent (stepped (home_of L s i) (together cores links trace) i t core.state (slot (home_of L s i) core.state t)) (together cores links trace) a (together (slice_set cores i last) links' trace')) steps
          (subst (IsEvent (stepped (home_of L s i) (together cores links trace) i t core.state (slot (home_of L s i) core.state t)) (together cores links trace) (answer_of (is_step (slot (home_of L s i) core.state t)))) left_is
          (event_by (slot (home_of L s i) core.state t) took_at)))

  module _ (r : IsRunning cores links trace) where
    nothing : (b : ℕ) → turned.outbox ≡ [] → length (link_of (on_links links i turned.outbox) i b) ≤ 512
    nothing b box =
        let m = together cores links trace in
        subst (λ x. length (link_of (on_links links i x) i b) ≤ 512) (sym box) (led_places cores links trace r m (stays r.image r.stim m m refl) i b lt)

    places : (d : Did CoreState) → slot (home_of r.image r.stim i) core.state t ≡ d → part turned trace' ≡ after (home_of r.image r.stim i) (part core trace) t d → (b : ℕ) → b < 4 → length (link_of (on_links links i turned.outbox) i b) ≤ 512
    places (Made new made sent) e h b lb =
        let m = together cores links trace in
        let next = machine (slice_set (map state_in cores) i new) (on_links links i sent) (noted trace made) in
        let box : turned.outbox ≡ sent = ap (λ (p : Part). p.sent) h ∙ ap (λ x. x ++ sent) none in
        let way = one_event r.image r.stim m next (Step i t) (rw (state_at cores i core there, e) refl) in
        subst (λ x. length (link_of (on_links links i x) i b) ≤ 512) (sym box) (led_places cores links trace r next way i b lt)
    places (Traps kind) e h b lb = nothing b (ap (λ (p : Part). p.sent) h ∙ none)
    places Paused e h b lb = nothing b (ap (λ (p : Part). p.sent) h ∙ none)
    places Idle e h b lb = nothing b (ap (λ (p : Part). p.sent) h ∙ none)

    pub can_send : CanSend turned.home.number links turned.outbox
    can_send =
        let L = r.image in
        let s = r.stim in
        let after_it = took_at L s r.of in
        let to = subst (λ (h : Home). part turned trace' ≡ turn h (part core trace) t) (home L s r.of) took in
        subst (λ n. CanSend n links turned.outbox) (sym (number_is L s r.of)) (record {
          to = subst (λ x. AllGoToCores x) (sym (ap (λ (p : Part). p.sent) to)) (turn_goes_to_cores L r.valid s i lt (part core trace) t none);
          places = places (slot (home_of L s i) core.state t) refl after_it;
        })
