-- A tick is followed by the program's tick.
use Rattle.std.proofs.Common.{◌≡◌, ℕ, ◌+◌, ◌≢◌, [], ◌∷◌, Option, Some, None, refl, ap, ◌∙◌, subst}
use Rattle.std.specs.Prelude.{Bool, true, false, nat_lt, slice_get, slice_set}
use Rattle.std.proofs.lemmas.List.{length-set, map-set}
use Rattle.std.proofs.lemmas.Option.{same_Some}
use Rattle.xs_instr.specs.declared.state.CoreState.{CoreState}
use Rattle.xs_instr.specs.Machine.{Machine, Tick, and_then, tick_at, tick_by}
use Rattle.xs_instr.specs.Slot.{last_clock, ticked}
use Rattle.xc_meaning.specs.Runs.{acts, acts_all}
use Rattle.xc_meaning.specs.Settings.Time.{ticks}
use Rattle.xc_meaning.specs.States.Worlds.{World, only_if, clock}
use Rattle.xl_expr.proofs.Lists.{get_set_same, get_set_other}
use Rattle.xl_expr.proofs.ResourceParts.{own_same}
use Rattle.xl_par.specs.Acquired.{Acquired}
use Rattle.xr_match.specs.Implements.{clock_of}
use Rattle.xr_match.specs.Lives.{Watched, watched_after}
use Rattle.xr_match.specs.Meanings.{of_kernel}
use Rattle.xr_match.specs.Sources.{Counted}
use Rattle.xr_simulation.specs.Roles.{AreUsedSo, Roles, used_by}
use Rattle.xr_simulation.specs.Runners.{Runner, anyone, port_place}
use Rattle.xr_simulation.specs.ThreadViews.{Rely, SpareFor}
use Rattle.xr_simulation.specs.MatchStates.{AreLoose, MatchStates, none_rests}
use Rattle.xr_simulation.proofs.Relation.Moments.{Moment}
use Rattle.xr_simulation.proofs.Relation.CoreSteps.{HasStepped, kept_now, moves, other_same}
use Rattle.xr_simulation.proofs.Relation.Reserves.{reserves_behind}
use Rattle.xr_simulation.proofs.Lives.Links.{alike_linked, told_same}
use Rattle.xr_simulation.proofs.Relation.Lasting.{Follows, clock_at, told_by}
use Rattle.xr_simulation.proofs.Channels.Wiring.{TransfersAsBefore, wired_still}

-- no machine is none
pub no_machine : {A : Type 0} (m : Machine) → ◌≡◌ {A = Option Machine} None (Some m) → A
no_machine m e = cc

-- the clock alone has gone up
spare_ticked : (hand : Option Acquired) (a : CoreState) → SpareFor hand a → SpareFor hand (ticked a)
spare_ticked None a h = tt
spare_ticked (Some hand) a h = record { threads = h.threads; sync = h.sync; few_threads = h.few_threads; few_syncs = h.few_syncs; no_events = h.no_events; untied = h.untied }

used_ticked : (who : Roles) (c : ℕ) (a : CoreState) → AreUsedSo who c a → AreUsedSo who c (ticked a)
used_ticked who c a h = record { threads = h.threads; syncs = h.syncs; unused = h.unused; got = h.got; taken = h.taken; owned = h.owned }

module _ (moment : Moment none_rests)
    (c : ℕ) (a : CoreState) (at_c : slice_get moment.watched.machine.cores c ≡ Some a) where
  open moment use {setting as g, image as is, roles as who, watched as w, told as x, standing as st}

  -- the program's state after the tick
  abbrev pub later : World
  later = record x.state { clocks = slice_set x.state.clocks c (a.clock + 1) }

  loose_later : (d : ℕ) (e b : CoreState) → b.words ≡ e.words → b.ports ≡ e.ports → AreLoose g who d e x.state → AreLoose g who d b later
  loose_later d e b words ports h = record {
    variables = λ v nobody want.
        let k = h.variables v nobody want in
        record { lengths = k.lengths; values = λ u n i y found near uses there. ap (λ l. slice_get l (0 + n + i)) words ∙ k.values u n i y found near uses there };
    ports = λ p listed its nobody. let k = h.ports p listed its nobody in record { port = k.port; there = ap (λ l. slice_get l (port_place g (anyone d) p)) ports ∙ k.there; declared = k.declared };
  }

  abbrev pub watched_ticked : Watched
  watched_ticked = watched_after w (Tick c) (record w.machine { cores = slice_set w.machine.cores c (ticked a) })

  kept_here : (u : ℕ) (s : Runner) (hand : Option Acquired) → who c u ≡ used_by s hand →
      Rely g s (record { core = a; world = x.state; hand = hand }) (record { core = ticked a; world = later; hand = hand })
  kept_here u s hand runs =
      let k = kept_now moment c u a s hand at_c runs in
      let core = st.roles.core c u s hand runs in
      record {
        thread = refl;
        words = λ v m. refl;
        resources = own_same _ _ _ _ refl refl refl;
        sizes = refl;
        branch = refl;
        parents = λ b m. refl;
        store = λ v uses. refl;
        clock = ap (slice_get later.clocks) core ∙ get_set_same x.state.clocks c a.clock (a.clock + 1) (clock_at g none_rests who w x c a st at_c);
        hand = refl;
        syncs = λ n owns. refl;
        held = λ v m. refl;
        tied = λ n v thread sync there tied. there;
        spare = spare_ticked hand a k.spare;
      }

  kept_far : (d u : ℕ) (e : CoreState) (s : Runner) (hand : Option Acquired) → d ≢ c → slice_get w.machine.cores d ≡ Some e →
      who d u ≡ used_by s hand → Rely g s (record { core = e; world = x.state; hand = hand })
      (record { core = e; world = later; hand = hand })
  kept_far d u e s hand ne at runs =
      let k = kept_now moment d u e s hand at runs in
      let core = st.roles.core d u s hand runs in
      record {
        thread = refl;
        words = λ v m. refl;
        resources = own_same _ _ _ _ refl refl refl;
        sizes = refl;
        branch = refl;
        parents = λ b m. refl;
        store = λ v uses. refl;
        clock = ap (slice_get later.clocks) core ∙ get_set_other x.state.clocks c d (a.clock + 1) ne ∙ clock_at g none_rests who w x d e st at;
        hand = refl;
        syncs = λ n owns. refl;
        held = λ v m. refl;
        tied = λ n v thread sync there tied. there;
        spare = k.spare;
      }

  has_ticked : HasStepped w watched_ticked c a (ticked a)
  has_ticked = record {
    was = at_c;
    is = get_set_same w.machine.cores c a (ticked a) at_c;
    others = λ d e ne at. other_same w watched_ticked d e (get_set_other w.machine.cores c d (ticked a) ne) at;
    as_many = length-set w.machine.cores c (ticked a);
    sizes = refl;
  }

  same_transfers : TransfersAsBefore who who
  same_transfers = record { before = λ d u i other transfer at its. (i, other, at, its); still = λ d u i other transfer at its. (i, other, at, its) }

  -- where the clock is not at its last value the program can tick too
  pub has_acted : nat_lt a.clock last_clock ≡ true → acts g.program g.stimulus x.state (clock c) ≡ Some later
  has_acted e = ap (λ o. and_then o (ticks x.state c)) (clock_at g none_rests who w x c a st at_c) ∙ ap (λ b. only_if b later) e

  all_ticked : nat_lt a.clock last_clock ≡ true → acts_all g.program g.stimulus (Some x.state) (clock c ∷ []) ≡ Some later
  all_ticked e = ap (λ o. acts_all g.program g.stimulus o []) (has_acted e)

  -- and behind that the two stand as before
  abbrev pub told_ticked : Counted (of_kernel g.program)
  told_ticked = told_by g.program g.stimulus x (clock c ∷ []) later

  pub stands_after_tick : nat_lt a.clock last_clock ≡ true → MatchStates g none_rests who watched_ticked told_ticked
  stands_after_tick e =
      moves g none_rests none_rests who who w watched_ticked x c a (ticked a) (λ u. false) (clock c ∷ []) later st has_ticked
      (record {
        acted = all_ticked e;
        clocks = map-set clock_of w.machine.cores c (ticked a) ∙ ap (λ l. slice_set l c (a.clock + 1)) st.clocks;
        trace = st.trace;
        roles = st.roles;
        reserves = reserves_behind g who x.state st.lawful st.reserves (clock c ∷ []) later (all_ticked e);
        used = used_ticked who c a (st.used c a at_c);
        same_role = λ u m. refl;
        far_role = λ d u ne. refl;
        rests = λ u m none. none;
        far_rests = λ d u ne none. none;
        steps = λ u m. refl;
        far_steps = λ d u ne. refl;
        stand = λ u m. absurd (false_true m);
        wired = wired_still g who who w.machine watched_ticked.machine c a (ticked a) x.state later same_transfers at_c refl refl refl
            refl st.wired;
        alone = λ u s hand transfer m at its. absurd (false_true m);
        rely = λ u s hand m runs. kept_here u s hand runs;
        far_rely = λ d u e s hand ne at runs. kept_far d u e s hand ne at runs;
        loose = λ some. loose_later c a (ticked a) refl refl (st.loose c a at_c some);
        far_loose = λ d e ne at loose. loose_later d e e refl refl loose;
        roots = st.roots c a at_c;
        far_roots = λ d ne. refl;
        placed = st.placed;
        run = st.run;
        made = λ n branch there goes_on. st.made n branch there goes_on;
      })
    where
      false_true : false ≡ true → ⊥
      false_true f = cc

  after_tick : nat_lt a.clock last_clock ≡ true → Follows g none_rests who w x watched_ticked
  after_tick e = record {
    who = who;
    piece = clock c ∷ [];
    world = later;
    acted = all_ticked e;
    standing = stands_after_tick e;
    named = λ names. alike_linked g none_rests who w x st names watched_ticked told_ticked (told_same g x (clock c ∷ []) later refl) (λ d u. refl);
  }

  -- the same, by whether it is
  tick_by_followed : (below : Bool) → nat_lt a.clock last_clock ≡ below → (m : Machine) → tick_by w.machine c a below ≡ Some m → Follows g none_rests who w x (watched_after w (Tick c) m)
  tick_by_followed true e m h = subst (λ n. Follows g none_rests who w x (watched_after w (Tick c) n)) (same_Some _ m h) (after_tick e)
  tick_by_followed false e m h = no_machine m h

  -- where the tick is an event, the program follows
  pub tick_followed : (m : Machine) → tick_at w.machine c (Some a) ≡ Some m → Follows g none_rests who w x (watched_after w (Tick c) m)
  tick_followed m h = tick_by_followed (nat_lt a.clock last_clock) refl m h
