-- A late offer is put: the branch does its output while its thread stands where it is, and the machine stands still or something has
-- come over a link.
use Rattle.std.proofs.Common.{◌≡◌, ◌⊎◌, ℕ, ◌+◌, ◌*◌, ◌≤◌, inl, inr, List, [], ◌∷◌, length, map, Option, Some, None, refl, sym, ap, ◌∙◌, subst, ⊎_elim, arith}
use Rattle.std.specs.Prelude.{false, slice_get, slice_index_or}
use Rattle.std.proofs.Math.Nat.{mul-le-mul_left}
use Rattle.std.proofs.lemmas.Option.{same_Some}
use Rattle.xs_instr.specs.declared.state.CoreState.{CoreState}
use Rattle.xs_instr.specs.declared.state.Mode.TheVariants.{Running}
use Rattle.xs_instr.specs.declared.state.Thread.{Thread}
use Rattle.xs_instr.specs.Machine.{parts_in}
use Rattle.xc_meaning.specs.Counts.Families.{steps_of}
use Rattle.xc_meaning.specs.Counts.KernelCounts.{greatest_count, kernel_bound}
use Rattle.xc_kernel.specs.Plain as kernel
use Rattle.xc_meaning.specs.Runs.{acts, acts_all}
use Rattle.xc_meaning.specs.States.Branches.{ended, erred, runs, side_of}
use Rattle.xc_meaning.specs.States.Channels.{Side, offer}
use Rattle.xc_meaning.specs.States.Items.{Item, awaits, does}
use Rattle.xc_meaning.specs.States.Worlds.{World, go}
use Rattle.xl_expr.proofs.Lists.{get_set_same}
use Rattle.xl_expr.proofs.ResourceParts.{others_same}
use Rattle.xr_match.specs.Implements.{clock_of}
use Rattle.xr_match.specs.Lives.{Life, Watched}
use Rattle.xr_simulation.specs.Fits.{ItemsFit, PutsOutAt}
use Rattle.xr_simulation.specs.Roles.{empty, used_by}
use Rattle.xr_simulation.specs.Runners.{Runner, footprint_of, shrunk}
use Rattle.xr_simulation.specs.ThreadViews.{ThreadView, running}
use Rattle.xr_simulation.specs.MatchStates.{MatchStates, ProgressBy, RunsBranch, ThreadIs, none_rests}
use Rattle.xr_simulation.specs.Living.{AreNamed}
use Rattle.xr_simulation.specs.Transfers.{GoesWith, Transfer, acts_left, all_but_first, in_phase, items_behind, spared, steps_left}
use Rattle.xr_simulation.specs.NextStep.{Has, InTransfer, IsBehind, IsUnput, Runs, TakesSteps, cost, on_time, own_go}
use Rattle.xr_simulation.specs.Wired.{AreWired, HasAlone, IsTransferring}
use Rattle.xr_simulation.proofs.Channels.EndRows as row
use Rattle.xr_simulation.proofs.Channels.OwnSide.{alone_behind}
use Rattle.xr_simulation.proofs.Channels.WiredMoves.{wired_so}
use Rattle.xr_simulation.proofs.Channels.Worlds.{offered, offers_word}
use Rattle.xr_simulation.proofs.Image.Lines.{line_known}
use Rattle.xr_simulation.proofs.Lives.OwnEvents.{IsSameRole, role_same, settled_named}
use Rattle.xr_simulation.proofs.OwnSteps.Answers as answers
use Rattle.xr_simulation.proofs.OwnSteps.AnsweredTurns.{parents_behind}
use Rattle.xr_simulation.proofs.OwnSteps.Events.{OwnStep, event_stands, own_goes, who_on}
use Rattle.xr_simulation.proofs.Relation.CoreSteps.{HasStepped}
use Rattle.xr_simulation.proofs.Relation.Counts.{counts_own}
use Rattle.xr_simulation.proofs.Relation.Lasting.{Follows, told_by}
use Rattle.xr_simulation.proofs.Relation.Moments.{BranchAt, Moment, ThreadAt}
use Rattle.xr_simulation.proofs.Relation.Seats.{role_cases}
use Rattle.xr_simulation.proofs.RelyGuarantee.Events.{events_on}
use Rattle.xr_simulation.proofs.RelyGuarantee.Footprints.{IsWithin, transfer_shrinks, within_of_uses}
use Rattle.xr_simulation.proofs.RelyGuarantee.Less.{uses_less}
use Rattle.xr_simulation.proofs.RelyGuarantee.Phases.{inside_as}
use Rattle.xr_channels.specs.ChannelsOverLinks.{ChannelsOverLinks}
use Rattle.xr_channels.specs.Phases.{Phase, awaits_ack, offers, sends_end, side_state}
use Rattle.xr_channels.proofs.All.Frames.{length_box}
use Rattle.xr_channels.proofs.Sides.Updates.{moved_to}

-- an action of the family pays for the silent steps behind the transfer
pays_put : (most greatest steps left spare actions more : ℕ) → most ≡ 8 * (greatest + 16) → steps + (left + spare) ≤ most * (actions + 1) →
    1 ≤ more → steps + (left + (8 * greatest + 8) + 3) ≤ most * (actions + more + 1)
pays_put most greatest steps left spare actions more is bound some =
    let le : actions + 1 + 1 ≤ actions + more + 1 = omega arith in
    let grown = mul-le-mul_left most le in
    omega (arith, grown)

module _ {moment : Moment none_rests} {thread_at : ThreadAt moment None} (branch_at : BranchAt thread_at)
    (on : branch_at.branch.mode ≡ runs) (transfer : Transfer) (its : thread_at.runner.transfer ≡ Some transfer) (j : ℕ)
    (few : steps_left transfer.phase + j ≤ branch_at.stand.left)
    (h : InTransfer moment.setting thread_at.runner transfer branch_at.branch.items j
    (record { core = thread_at.state; world = moment.told.state; hand = None }))
    (u : IsUnput transfer h.pos branch_at.branch.items moment.told.state) where
  open moment use {setting as g, image as is, roles as who, watched as w, told as x, standing as st}
  open thread_at use {core as c, thread as t, state as a, at_core as at_c, runner as r, runs as runs_r}
  open branch_at use {branch, known, stand}

  abbrev channel : ℕ
  channel = transfer.channel

  abbrev side : Side
  side = transfer.side

  abbrev now : ThreadView
  now = record { core = a; world = x.state; hand = None }

  pub stands : side_of branch channel ≡ Some side
  stands = ap (λ l. slice_index_or l channel None) stand.sides ∙ h.stands_in

  pub outside : branch.inside ≡ []
  outside = st.plain.outside r.branch branch known

  to_do : Runs x.state r.branch branch (does (kernel.output u.output) ∷ u.rest)
  to_do = record { known = known; running = on; items_are = u.items_are }

  -- the branch offers its word, and waits
  abbrev pub world : World
  world = offered g.program g.stimulus r.branch x.state branch channel side u.rest stands outside u.output.pos u.value

  pub acted : acts g.program g.stimulus x.state (go r.branch) ≡ Some world
  acted = offers_word g.program g.stimulus r.branch x.state branch channel side u.rest stands outside u.output u.value u.on_channel u.ready to_do

  abbrev pub items : List Item
  items = awaits channel u.output.pos ∷ u.rest

  -- its thread is where it was, and nothing is late
  abbrev pub put : Transfer
  put = in_phase channel side transfer.phase

  abbrev pub behind : ThreadView
  behind = record { core = a; world = world; hand = None }

  abbrev pub s : Runner
  s = record r { footprint = footprint_of items; transfer = Some put }

  pub own_branch : slice_get world.branches r.branch ≡ Some (record branch { items = items })
  own_branch = get_set_same x.state.branches r.branch branch (record branch { items = items }) known

  less : IsWithin (footprint_of items) r.footprint
  less = subst (IsWithin (footprint_of items)) (sym stand.footprint)
      (within_of_uses items branch.items (uses_less g.program g.stimulus x.state world (go r.branch) st.lawful acted r.branch branch (record branch { items = items }) known own_branch))

  pub has_behind : Has g r items behind
  has_behind = record {
    branch = record branch { items = items };
    runs = record { known = own_branch; running = on; items_are = refl };
    core = stand.core;
    holds = answers.store_as g r c a x.state now behind refl refl h.has.holds;
    ports = answers.ports_as g r c a x.state now behind (λ p listed is. refl) h.has.ports;
  }

  -- by where in the output the thread is
  goes_by : (phase : Phase) → (phase ≡ sends_end u.value) ⊎ (phase ≡ awaits_ack (offers u.value)) → GoesWith phase channel h.pos items
  goes_by phase (inl e) = subst (λ f. GoesWith f channel h.pos items) (sym e) (u.rest, ap (λ p. awaits channel p ∷ u.rest) u.place)
  goes_by phase (inr e) = subst (λ f. GoesWith f channel h.pos items) (sym e) (u.rest, ap (λ p. awaits channel p ∷ u.rest) u.place)

  same_behind : (phase : Phase) → (phase ≡ sends_end u.value) ⊎ (phase ≡ awaits_ack (offers u.value)) →
      items_behind phase branch.items ≡ items_behind phase items
  same_behind phase (inl e) = subst (λ f. items_behind f branch.items ≡ items_behind f items) (sym e) (ap all_but_first u.items_are)
  same_behind phase (inr e) = subst (λ f. items_behind f branch.items ≡ items_behind f items) (sym e) (ap all_but_first u.items_are)

  put_inside : InTransfer g r put items j behind
  put_inside = record {
    pos = h.pos;
    left = on_time refl (goes_by transfer.phase u.phase);
    stands_in = h.stands_in;
    no_hand = refl;
    pc = h.pc;
    regs = h.regs;
    here = h.here;
    steps = subst (λ l. TakesSteps g r channel side h.pos (acts_left transfer.phase) (IsBehind g r l j) h.pc h.regs)
        (same_behind transfer.phase u.phase) h.steps;
    fits =
        let fit = subst (ItemsFit g r) u.items_are h.fits in
        (subst (PutsOutAt g r) u.on_channel fit.0.0.to, fit.1);
    has = has_behind;
  }

  -- for the runner with what is left
  pub put_settled : InTransfer g s put items j behind
  put_settled = inside_as g (shrunk r items) (Some put) put items j behind refl (transfer_shrinks g r items less put j behind put_inside)

  abbrev pub own_step : OwnStep g r c a x.state
  own_step = record {
    left = a;
    made = None;
    branch = branch;
    known = known;
    running = on;
    world = world;
    piece = go r.branch ∷ [];
    acted = ap (λ o. acts_all g.program g.stimulus o []) acted;
    paid = counts_own g r.branch x.state branch (go r.branch) [] known own_go;
    next = record branch { items = items };
    birth = refl;
    is_next = record { clocks = refl; branches = refl; store = λ k e. refl; trace = refl };
    core = refl;
    guarantee = record {
      clock = refl;
      others = λ n ne free. refl;
      as_many = refl;
      words = λ n no. refl;
      sizes = refl;
      resources = others_same _ _ _ _ refl refl refl;
    };
    syncs = refl;
    tie = λ thread there. inl (ap (λ (k : Thread). k.tie) (same_Some thread (running r.tie h.pc h.regs) (sym there ∙ h.here)));
    roots = refl;
    holds = has_behind.holds;
    ports = has_behind.ports;
    transfer = Some put;
  }

  abbrev more : ℕ → ℕ
  more = (told_by g.program g.stimulus x (go r.branch ∷ []) world).actions

  -- the thread is on its way as before, for as long as its new action pays
  abbrev left : ℕ
  left = branch_at.stand.left + cost g r

  pub own_stand : (life : Life) → life.steps ≡ (w.lives c t).steps → RunsBranch g s false None a world life more (record branch { items = items })
  own_stand life as_long = record {
    core = stand.core;
    family = stand.family;
    footprint = refl;
    parents = parents_behind branch_at own_step;
    thread = record {
      thread = running r.tie h.pc h.regs;
      there = h.here;
      tied = refl;
      events = events_on branch.mode items false on refl;
      is = subst (λ m. ThreadIs r.parents m Running) (sym on) refl;
    };
    in_hand = empty refl;
    sides = stand.sides;
    inside = stand.inside;
    done = λ over. absurd (runs_ended (sym on ∙ over));
    stops = λ over. absurd (runs_erred (sym on ∙ over));
    ends_tied = λ over. absurd (runs_ended (sym on ∙ over));
    left = left;
    bound =
        let one : 1 ≤ steps_of g.program g.stimulus branch.family (Some x.state) (go r.branch ∷ []) = counts_own g r.branch x.state branch (go r.branch) [] known own_go in
        let one' : 1 ≤ steps_of g.program g.stimulus r.family (Some x.state) (go r.branch ∷ []) = subst (λ f. 1 ≤ steps_of g.program g.stimulus f (Some x.state) (go r.branch ∷ [])) stand.family one in
        subst (λ n. n + (left + 3) ≤ kernel_bound g.program * (more r.family + 1)) (sym as_long)
        (pays_put (kernel_bound g.program) (greatest_count g.program) (w.lives c t).steps stand.left (spared r.transfer) (x.actions r.family)
        (steps_of g.program g.stimulus r.family (Some x.state) (go r.branch ∷ [])) refl stand.bound one');
    by = subst (λ m. ProgressBy g s false items m left behind) (sym on) (
      j,
      omega (arith, few),
      put_settled,
    );
  }
    where
      runs_ended : runs ≡ ended → ⊥
      runs_ended f = cc

      runs_erred : runs ≡ erred → ⊥
      runs_erred f = cc

  -- the channel's line
  is_in : IsTransferring who c t channel side
  is_in = record { runner = r; hand = None; runs = runs_r; transfer = transfer; is = its; channel_is = refl; side_is = refl }

  abbrev pub at_end : row.AtEnd thread_at channel side transfer.phase transfer.late
  at_end = row.inside_there thread_at channel side transfer.phase transfer.late its

  abbrev pub line : ℕ
  line = at_end.line

  -- What is known of the machine then: core c is what it was, and so are all lives; the channels stand with the offer put.
  pub record IsBehindPut (w' : Watched) : Type 0 where
    pub stepped : HasStepped w w' c a a
    pub clocks : map clock_of w'.machine.cores ≡ x.state.clocks
    pub trace : w'.machine.trace ≡ w.machine.trace
    pub lives : (d u : ℕ) → w'.lives d u ≡ w.lives d u
    pub ends : (d : ℕ) (b : CoreState) → slice_get w'.machine.cores d ≡ Some b → length b.ends ≡ (parts_in g.image.cores d).ends
    pub over : ChannelsOverLinks g.image.chans w'.machine.cores w'.machine.links (row.put_there branch_at at_end (offer u.value))
        (moved_to st.wired.ghosts line side (side_state transfer.phase false) [])

  module _ (w' : Watched) (b : IsBehindPut w') where
    wired : AreWired g (who_on thread_at own_step none_rests) w'.machine world
    wired =
        wired_so g is.lines who w.machine x.state st.wired c t a at_c r None runs_r s None channel side line at_end.is_line at_end.on_core
        transfer.phase [] (at_end.moves s transfer.phase [] (row.stays_in refl)) w'.machine world
        (length_box x.state.inboxes channel _) b.ends
        (subst (λ l. ChannelsOverLinks g.image.chans w'.machine.cores w'.machine.links l
        (moved_to st.wired.ghosts line side (side_state transfer.phase false) [])) (sym (row.boxes_put branch_at at_end (offer u.value))) b.over)

    alone : (which : Transfer) → ◌≡◌ {A = Option Transfer} (Some put) (Some which) → HasAlone world.branches which.channel which.side r.branch
    alone which e =
        subst (λ (k : Transfer). HasAlone world.branches k.channel k.side r.branch) (same_Some put which e)
        (alone_behind channel side g x.state st.lawful (line_known g.program line channel at_end.is_line) r.branch branch
        (record branch { items = items }) known (st.alone c t r None transfer runs_r its) (go r.branch ∷ []) world
        (ap (λ o. acts_all g.program g.stimulus o []) acted) own_branch (λ over. runs_ended (sym on ∙ over)))
      where
        runs_ended : runs ≡ ended → ⊥
        runs_ended f = cc

    same_roles : (d n : ℕ) → IsSameRole (who d n) (who_on thread_at own_step none_rests d n)
    same_roles d n =
        ⊎_elim
        (λ here.
        subst (IsSameRole (who d n)) (sym here.2)
        (subst (λ role. IsSameRole role (used_by s None)) (sym (ap (λ k. who k n) here.0 ∙ ap (who c) here.1 ∙ runs_r)) (refl, inl refl)))
        (λ there. subst (IsSameRole (who d n)) (sym there.1) (role_same (who d n)))
        (role_cases who c t (used_by s None) d n)

    pub put_named : AreNamed g who w x → AreNamed g (who_on thread_at own_step none_rests) w' (told_by g.program g.stimulus x (go r.branch ∷ []) world)
    put_named names =
        let goes = own_goes thread_at own_step in
        settled_named g who (who_on thread_at own_step none_rests) w w' x (told_by g.program g.stimulus x (go r.branch ∷ []) world) st.roles
        names goes.longer b.lives goes.pars same_roles

    -- so the two sides stand so again, behind the offer
    pub put_stands : MatchStates g none_rests (who_on thread_at own_step none_rests) w' (told_by g.program g.stimulus x (go r.branch ∷ []) world)
    put_stands =
        event_stands thread_at own_step none_rests w' (record {
          stepped = b.stepped;
          clocks = b.clocks;
          trace = b.trace ∙ refl;
          steps = λ n m. ap (λ (l : Life). l.steps) (b.lives c n);
          far_steps = λ d n ne. ap (λ (l : Life). l.steps) (b.lives d n);
          named = put_named;
        }) wired alone (own_stand (w'.lives c t) (ap (λ (l : Life). l.steps) (b.lives c t)))

    abbrev pub put_follows : Follows g none_rests who w x w'
    put_follows = record {
      who = who_on thread_at own_step none_rests;
      piece = go r.branch ∷ [];
      world = world;
      acted = ap (λ o. acts_all g.program g.stimulus o []) acted;
      standing = put_stands;
      named = put_named;
    }
