-- Where the two sides stand so, they have the same clocks and trace, and have ended together; and they are quiet together.
use Rattle.std.proofs.Common.{◌≡◌, ℕ, zero, suc, ◌+◌, ◌<◌, inl, inr, List, [], ◌∷◌, length, Option, Some, None, refl, sym, ap, ◌∙◌, subst, arith}
use Rattle.std.specs.Prelude.{Bool, true, false, ◌&&◌, map, nat_lt, slice_get, slice_set}
use Rattle.std.proofs.lemmas.Option.{same_Some, slice_get-map}
use Rattle.xs_instr.specs.declared.image.Pair.{Pair}
use Rattle.xs_instr.specs.declared.state.CoreState.{CoreState}
use Rattle.xs_instr.specs.declared.state.Token.{Token}
use Rattle.xs_instr.specs.Machine.{Machine, Tick, and_then, does, runs, tick_at, tick_by}
use Rattle.xs_instr.specs.Slot.{last_clock, ticked}
use Rattle.xc_invariants.specs.Tree.{IsChild}
use Rattle.xc_meaning.specs.Quiet.{IsQuiet}
use Rattle.xc_meaning.specs.Runs.{acts}
use Rattle.xc_meaning.specs.Settings.Time.{ticks}
use Rattle.xc_meaning.specs.States.Branches.{Branch, all_ended, has_ended}
use Rattle.xc_meaning.specs.States.Channels.{Parcel, Side, first, second}
use Rattle.xc_meaning.specs.States.Worlds.{World, clock, only_if}
use Rattle.xr_match.specs.Implements.{AgreeNow, AllRootsEnded, ArrivalsAgree, Arrives, ArrivesAt, Begins, IsQuietBehind, QuietAgree, of_data, of_open}
use Rattle.xr_match.specs.Lives.{Watched}
use Rattle.xr_match.specs.Meanings.{HasParcel, of_kernel}
use Rattle.xr_match.specs.Sources.{Counted, allowed}
use Rattle.xr_simulation.specs.Images.{IsImageOf}
use Rattle.xr_simulation.specs.Roles.{Roles}
use Rattle.xr_simulation.specs.Runners.{Setting}
use Rattle.xr_simulation.specs.MatchStates.{IsMade, MatchStates, none_rests}
use Rattle.xr_simulation.specs.Wired.{IsLine, boxes_in}
use Rattle.xr_simulation.proofs.Channels.Inboxes.{line_parcels}
use Rattle.xr_simulation.proofs.Relation.Counts.{living_some, none_living, root_counts}
use Rattle.xr_simulation.proofs.Relation.Moments.{moment_of}
use Rattle.xr_simulation.proofs.Quiet.Branches.{quiet_together}
use Rattle.xr_simulation.proofs.Relation.Lasting.{clock_at, core_at}
use Rattle.xr_simulation.proofs.Relation.Ticks.{has_acted, stands_after_tick, told_ticked, watched_ticked}
use Rattle.xr_channels.specs.Channels.{ends_in, end_of_side, tokens_at, tokens_in}
use Rattle.xr_channels.proofs.All.Frames.{parcels}
use Rattle.xr_channels.proofs.Laws.Ready.{token_has_parcel}
use Rattle.xr_channels.proofs.Sides.Found.{Has, counts_as_parcel}

-- all roots have ended, so those of a core have
roots_at : (cores : List CoreState) (c : ℕ) (a : CoreState) → AllRootsEnded cores → slice_get cores c ≡ Some a → a.roots ≡ 0
roots_at [] c a h e = cc
roots_at (d ∷ cores) zero a h e = ap (λ (i : CoreState). i.roots) (sym (same_Some d a e)) ∙ h.0
roots_at (d ∷ cores) (suc c) a h e = roots_at cores c a h.1 e

-- those of each core have ended, so all have
roots_all : (cores : List CoreState) → ((c : ℕ) (a : CoreState) → slice_get cores c ≡ Some a → a.roots ≡ 0) → AllRootsEnded cores
roots_all [] h = tt
roots_all (d ∷ cores) h = (h 0 d refl, roots_all cores (λ c a e. h (suc c) a e))

-- each branch has ended, so all have
ended_all : (bs : List Branch) → ((b : ℕ) (branch : Branch) → slice_get bs b ≡ Some branch → has_ended branch.mode ≡ true) → all_ended bs ≡ true
ended_all [] h = refl
ended_all (d ∷ bs) h = ap (λ b. b && all_ended bs) (h 0 d refl) ∙ ended_all bs (λ b branch e. h (suc b) branch e)

-- a token that begins something is of a parcel
begins_parcel : (k : Token) → Begins k → counts_as_parcel k ≡ true
begins_parcel k (of_data byte) = refl
begins_parcel k of_open = refl

-- it is among those that stand somewhere
has_at : (ks : List Token) (i : ℕ) (k : Token) → slice_get ks i ≡ Some k → counts_as_parcel k ≡ true → Has counts_as_parcel ks
has_at [] i k e counts = cc
has_at (h ∷ ks) zero k e counts = inl (ap counts_as_parcel (same_Some h k e) ∙ counts)
has_at (h ∷ ks) (suc i) k e counts = inr (has_at ks i k e counts)

-- such a token stands at an end
has_token : (m : Machine) (core end : ℕ) → Arrives m core end → Has counts_as_parcel (tokens_at m.cores core end)
has_token m core end h =
    let same : tokens_at m.cores core end ≡ h.of_end.tokens = ap (λ o. tokens_in (slice_get (ends_in o) end)) h.at_core ∙ ap tokens_in h.at_end in
    subst (Has counts_as_parcel) (sym same) (has_at h.of_end.tokens h.place h.token h.stands (begins_parcel h.token h.begins))

-- and at that of a line's side
has_token_at : (m : Machine) (pair : Pair) (side : Side) → ArrivesAt m pair side → Has counts_as_parcel (tokens_at m.cores (end_of_side pair side).core (end_of_side pair side).end)
has_token_at m pair first h = has_token m pair.core pair.end h
has_token_at m pair second h = has_token m pair.peer_core pair.peer_end h

module _ (g : Setting) (who : Roles) (w : Watched) (x : Counted (of_kernel g.program)) (st : MatchStates g none_rests who w x) where
  module _ (over : AllRootsEnded w.machine.cores) where
    -- a root's branch has ended
    root_over : (b : ℕ) (branch : Branch) → slice_get x.state.branches b ≡ Some branch → b < length g.program.roots → has_ended branch.mode ≡ false → ⊥
    root_over b branch known root goes_on =
        let placed = st.placed b branch known in
        let four = st.cores in
        let a = core_at w.machine.cores branch.core (omega arith) in
        let living = st.roots branch.core a.0 a.1 in
        let none = roots_at w.machine.cores branch.core a.0 over a.1 in
        let one = root_counts branch goes_on (st.lawful.forest.born b branch known root) in
        let some = living_some branch.core x.state.branches b branch known in
        omega (arith, living, none, one, some)

    -- and so has one for which another waits, since that one would have ended before
    child_over : (n b : ℕ) → ((m : ℕ) (branch : Branch) → m < b → slice_get x.state.branches m ≡ Some branch → has_ended branch.mode ≡ true) → IsChild x.state.branches n b → ⊥
    child_over n b before child =
        let less = (st.lawful.forest.family n b child.parent child.from child.count child.is child.waiting).0 in
        let least = child.least in
        let clash : true ≡ false = sym (before n child.parent (omega (arith, less, least)) child.is) ∙ ap has_ended child.waiting in
        let z : ⊥ = cc in z

    made_over : (b : ℕ) (branch : Branch) → slice_get x.state.branches b ≡ Some branch → ((m : ℕ) (other : Branch) → m < b → slice_get x.state.branches m ≡ Some other → has_ended other.mode ≡ true) → has_ended branch.mode ≡ false → IsMade (length g.program.roots) x.state.branches b → ⊥
    made_over b branch known before goes_on (inl root) = root_over b branch known root goes_on
    made_over b branch known before goes_on (inr (n, child)) = child_over n b before child

    -- a branch has ended where all before it have
    over_by : (b : ℕ) (branch : Branch) → slice_get x.state.branches b ≡ Some branch → ((m : ℕ) (other : Branch) → m < b → slice_get x.state.branches m ≡ Some other → has_ended other.mode ≡ true) → (d : Bool) → has_ended branch.mode ≡ d → has_ended branch.mode ≡ true
    over_by b branch known before true e = e
    over_by b branch known before false e = absurd (made_over b branch known before e (st.made b branch known e))

    -- so each has, by its number
    over_below : (most b : ℕ) (branch : Branch) → b < most → slice_get x.state.branches b ≡ Some branch → has_ended branch.mode ≡ true
    over_below zero b branch lt known = absurd (omega arith)
    over_below (suc most) b branch lt known = over_by b branch known (λ m other less there. over_below most m other (omega (arith, lt, less)) there) (has_ended branch.mode) refl

    branches_over : all_ended x.state.branches ≡ true
    branches_over = ended_all x.state.branches (λ b branch known. over_below (b + 1) b branch (omega arith) known)

  -- where something has arrived at a side's end, the side's inbox isn't empty
  arrivals_agree : (first : Roles) → IsImageOf g first → ArrivalsAgree g.image (of_kernel g.program) w.machine x.state
  arrivals_agree first_roles is line pair side listed arrives =
      let channel = is.lines.channel line pair listed in
      by channel.0 channel.1 (parcels x.state.inboxes channel.0 side) refl
    where
      not_empty : parcels (boxes_in g.program x.state.inboxes) line side ≡ [] → ⊥
      not_empty none =
          token_has_parcel g.image.chans is.lines.wired w.machine.cores w.machine.links (boxes_in g.program x.state.inboxes) st.wired.ghosts st.wired.over.wires line pair side listed
          (has_token_at w.machine pair side arrives) none

      by : (c : ℕ) → IsLine g.program line c → (ps : List Parcel) → parcels x.state.inboxes c side ≡ ps → HasParcel g.program x.state line side
      by c is_line [] e = absurd (not_empty (line_parcels g.program line c is_line x.state.inboxes side ∙ e))
      by c is_line (p ∷ ps) e = record { channel = c; is_channel = is_line; oldest = p; others = ps; stand = e }

  -- the clocks and the trace are the same, what has arrived has arrived in the program, and all has ended on both sides or on none
  pub agrees_now : (first : Roles) → IsImageOf g first → AgreeNow g.image (of_kernel g.program) w x
  agrees_now first_roles is = record {
    clocks = st.clocks;
    trace = st.trace;
    arrivals = arrivals_agree first_roles is;
    ended = (branches_over, λ h. roots_all w.machine.cores (λ c a e. st.roots c a e ∙ none_living c x.state.branches h));
  }

module _ (g : Setting) (who : Roles) (first_roles : Roles) (is : IsImageOf g first_roles) where
  -- A tick of the program is one of the machine, behind which the two stand as before.
  ticked_by : (w : Watched) (x : Counted (of_kernel g.program)) (st : MatchStates g none_rests who w x) (c : ℕ) (a : CoreState) (at_c : slice_get w.machine.cores c ≡ Some a) (cores : List ℕ) (y : World) →
      ((w' : Watched) (x' : Counted (of_kernel g.program)) → MatchStates g none_rests who w' x' → IsQuietBehind g.image g.stimulus w'.machine cores → allowed (of_kernel g.program) g.stimulus x'.state (map clock cores) ≡ Some y → IsQuiet g.program g.stimulus y) →
      IsQuietBehind g.image g.stimulus w.machine (c ∷ cores) → allowed (of_kernel g.program) g.stimulus x.state (clock c ∷ map clock cores) ≡ Some y →
      (below : Bool) → nat_lt a.clock last_clock ≡ below → IsQuiet g.program g.stimulus y
  ticked_by w x st c a at_c cores y next still e true lt =
      let program = has_acted (moment_of g first_roles is who w x st) c a at_c lt in
      let machine : does g.image g.stimulus w.machine (Tick c) ≡ Some (record w.machine { cores = slice_set w.machine.cores c (ticked a) }) = ap (tick_at w.machine c) at_c ∙ ap (tick_by w.machine c a) lt in
      next (watched_ticked (moment_of g first_roles is who w x st) c a at_c)
      (told_ticked (moment_of g first_roles is who w x st) c a at_c)
      (stands_after_tick (moment_of g first_roles is who w x st) c a at_c lt)
      (record { quiet = λ m runs_to. still.quiet m (ap (λ (o : Option Machine). and_then o (λ n. runs g.image g.stimulus n (map Tick cores))) machine ∙ runs_to) })
      (sym (ap (λ (o : Option World). and_then o (λ z. allowed (of_kernel g.program) g.stimulus z (map clock cores))) program) ∙ e)
  ticked_by w x st c a at_c cores y next still e false ge =
      let none : acts g.program g.stimulus x.state (clock c) ≡ None =
      ap (λ o. and_then o (ticks x.state c)) (clock_at g none_rests who w x c a st at_c) ∙ ap (λ b. only_if b (record x.state { clocks = slice_set x.state.clocks c (a.clock + 1) })) ge in
      absurd (nothing (sym (ap (λ (o : Option World). and_then o (λ z. allowed (of_kernel g.program) g.stimulus z (map clock cores))) none) ∙ e))
    where
      nothing : ◌≡◌ {A = Option World} None (Some y) → ⊥
      nothing f = cc

  ticks_by : (w : Watched) (x : Counted (of_kernel g.program)) (st : MatchStates g none_rests who w x) (c : ℕ) (cores : List ℕ) (y : World) →
      ((w' : Watched) (x' : Counted (of_kernel g.program)) → MatchStates g none_rests who w' x' → IsQuietBehind g.image g.stimulus w'.machine cores → allowed (of_kernel g.program) g.stimulus x'.state (map clock cores) ≡ Some y → IsQuiet g.program g.stimulus y) →
      IsQuietBehind g.image g.stimulus w.machine (c ∷ cores) → allowed (of_kernel g.program) g.stimulus x.state (clock c ∷ map clock cores) ≡ Some y →
      (o : Option CoreState) → slice_get w.machine.cores c ≡ o → IsQuiet g.program g.stimulus y
  ticks_by w x st c cores y next still e (Some a) at_c = ticked_by w x st c a at_c cores y next still e (nat_lt a.clock last_clock) refl
  ticks_by w x st c cores y next still e None at_c =
      let no_clock : slice_get x.state.clocks c ≡ None = rw (← st.clocks, slice_get-map, at_c) in
      absurd (nothing (sym (ap (λ o. and_then (and_then o (ticks x.state c)) (λ z. allowed (of_kernel g.program) g.stimulus z (map clock cores))) no_clock) ∙ e))
    where
      nothing : ◌≡◌ {A = Option World} None (Some y) → ⊥
      nothing f = cc

  quiet_behind : (cores : List ℕ) (y : World) (w : Watched) (x : Counted (of_kernel g.program)) → MatchStates g none_rests who w x → IsQuietBehind g.image g.stimulus w.machine cores → allowed (of_kernel g.program) g.stimulus x.state (map clock cores) ≡ Some y → IsQuiet g.program g.stimulus y
  quiet_behind [] y w x st still e = subst (IsQuiet g.program g.stimulus) (same_Some _ _ e)
      (quiet_together (moment_of g first_roles is who w x st) (still.quiet w.machine refl))
  quiet_behind (c ∷ cores) y w x st still e = ticks_by w x st c cores y (quiet_behind cores y) still e (slice_get w.machine.cores c) refl

-- where the machine is quiet behind some ticks, so is the program
pub quiet_agree : (g : Setting) (who : Roles) (w : Watched) (x : Counted (of_kernel g.program)) → MatchStates g none_rests who w x → (first_roles : Roles) → IsImageOf g first_roles → QuietAgree g.image (of_kernel g.program) g.stimulus w.machine x.state
quiet_agree g who w x st first_roles is cores still y e = quiet_behind g who first_roles is cores y w x st still e
