-- An item of a link comes to its end. The program does nothing, and each thread is on its way as before; or a branch puts the offer that was
-- late, of which this is the first token.
use Rattle.std.proofs.Common.{◌≡◌, ◌≢◌, ◌⊎◌, ℕ, ◌+◌, ◌≤◌, inl, inr, List, [], ◌∷◌, length, map, Option, Some, None, refl, sym, ap, ◌∙◌, subst, ⊎_elim, arith}
use Rattle.std.specs.Prelude.{Bool, true, false, slice_get, slice_set}
use Rattle.std.proofs.lemmas.Bool.{cases_eq}
use Rattle.std.proofs.lemmas.List.{length-set}
use Rattle.std.proofs.lemmas.Option.{get_or_from_slice_get, none-some, same_Some}
use Rattle.std.proofs.Math.Seq.{map-set_same}
use Rattle.xs_instr.specs.declared.image.Pair.{Pair}
use Rattle.xs_instr.specs.declared.state.ChanEnd.{ChanEnd}
use Rattle.xs_instr.specs.declared.state.CoreState.{CoreState}
use Rattle.xs_instr.specs.declared.state.Item.{Item}
use Rattle.xs_instr.specs.declared.state.Moved.{Moved}
use Rattle.xs_instr.specs.declared.state.Moved.TheVariants.{Credit, Tok}
use Rattle.xs_instr.specs.Ends.{arrives, credit_at, token_at}
use Rattle.xs_instr.specs.Machine.{Machine, Move, came, link_of, link_put, parts_in}
use Rattle.xc_meaning.specs.States.Branches.{Branch, Mode, ended, erred, runs, waits}
use Rattle.xc_meaning.specs.States.Channels.{Inboxes, Parcel, Side, first, offer, other_side, second}
use Rattle.xl_expr.proofs.Lists.{get_set_other, get_set_same}
use Rattle.xl_image.specs.Images.{pair_of}
use Rattle.xl_plan.specs.Layout.{core_of as plan_core}
use Rattle.xr_match.specs.Implements.{clock_of}
use Rattle.xr_match.specs.Lives.{Watched, watched_after}
use Rattle.xr_match.specs.Meanings.{of_kernel}
use Rattle.xr_match.specs.Sources.{Counted}
use Rattle.xr_simulation.specs.Roles.{used_by}
use Rattle.xr_simulation.specs.Runners.{Setting}
use Rattle.xr_simulation.specs.MatchStates.{MatchStates, ProgressBy, ProgressWith, RunsBranch, none_rests}
use Rattle.xr_simulation.specs.NextStep.{InTransfer, IsUnput, LeftTo, on_time, unput}
use Rattle.xr_simulation.specs.ThreadViews.{ThreadView}
use Rattle.xr_simulation.specs.Transfers.{StopsIn, steps_left}
use Rattle.xr_simulation.specs.Wired.{AreWired, IsLine, IsTransferring, SideIs, boxes_in, idle, in_transfer}
use Rattle.xr_simulation.proofs.Channels.Puts as puts
use Rattle.xr_simulation.proofs.Channels.Puts.{IsBehindPut, put_follows}
use Rattle.xr_simulation.proofs.Channels.WiredMoves.{one_line}
use Rattle.xr_simulation.proofs.Lives.Links.{alike_linked, told_same}
use Rattle.xr_simulation.proofs.OwnSteps.Branch.{some_is}
use Rattle.xr_simulation.proofs.Relation.CoreSteps.{HasStepped, IsSameButEnds, core_of, kept_ends, kept_now, loose_ends, moves, other_same, stands_at, used_ends}
use Rattle.xr_simulation.proofs.Relation.Lasting.{Follows, get_set_cases, stand_as, told_by}
use Rattle.xr_simulation.proofs.Relation.Moments.{BranchAt, Moment, ThreadAt, branch_of, thread_of}
use Rattle.xr_simulation.proofs.Relation.Sizes.{ends_sized}
use Rattle.xr_channels.specs.Channels.{Links, end_of_side}
use Rattle.xr_channels.specs.ChannelsOverLinks.{ChannelsOverLinks, Delivered, putting, silently}
use Rattle.xr_channels.specs.ChannelSteps.{LateKind, late_offer, late_opening, late_word, moved_to, put_at}
use Rattle.xr_channels.specs.Phases.{Phase, SideState, side_state}
use Rattle.xr_channels.proofs.All.Moves.{delivered}

-- what comes leaves as many ends
ends_at : (ends : List ChanEnd) (moved : Moved) → length (arrives ends moved) ≡ length ends
ends_at ends (Tok e k) = by (slice_get ends e)
  where
    by : (o : Option ChanEnd) → length (token_at ends e k o) ≡ length ends
    by None = refl
    by (Some end) = length-set ends e _
ends_at ends (Credit e) = by (slice_get ends e)
  where
    by : (o : Option ChanEnd) → length (credit_at ends e o) ≡ length ends
    by None = refl
    by (Some end) = length-set ends e _

-- an offer that is put leaves its side outside of transactions
pub offer_outside : (phase : Phase) (inside : Bool) (p : Parcel) (rest : List Parcel) (then_inside : Bool) (v : ℕ) →
    LateKind phase inside p rest then_inside → p ≡ offer v → then_inside ≡ false
offer_outside phase inside p rest then_inside v (late_offer n at outside) e = refl
offer_outside phase inside p rest then_inside v (late_opening at outside) e = let no : ⊥ = cc in absurd no
offer_outside phase inside p rest then_inside v (late_word n others at within) e = let no : ⊥ = cc in absurd no

-- where a side's end is
side_core : (g : Setting) (channel : ℕ) (side : Side) → plan_core g.program channel side ≡ (end_of_side (pair_of g.program channel) side).core
side_core g channel first = refl
side_core g channel second = refl

module _ (moment : Moment none_rests) where
  open moment use {setting as g, image as is, roles as who, watched as w, told as x, standing as st}

  -- An item comes from a core to core c.
  module _ (from c : ℕ) (a : CoreState) (at_c : slice_get w.machine.cores c ≡ Some a) (i : Item) (rest : List Item)
      (on_link : link_of w.machine.links from c ≡ i ∷ rest) where
    abbrev boxes : List Inboxes
    boxes = boxes_in g.program x.state.inboxes

    abbrev left : CoreState
    left = came a i.moved

    abbrev links : Links
    links = link_put w.machine.links from c rest

    abbrev pub machine_moved : Machine
    machine_moved = record w.machine { cores = slice_set w.machine.cores c left; links = links }

    abbrev pub watched_moved : Watched
    watched_moved = watched_after w (Move from c) machine_moved

    abbrev told_moved : Counted (of_kernel g.program)
    told_moved = told_by g.program g.stimulus x [] x.state

    -- its ends alone are others
    but_ends : IsSameButEnds a left
    but_ends = record { is = refl; as_many = ends_at a.ends i.moved }

    has_moved : HasStepped w watched_moved c a left
    has_moved = record {
      was = at_c;
      is = get_set_same w.machine.cores c a left at_c;
      others = λ d e ne at. other_same w watched_moved d e (get_set_other w.machine.cores c d left ne) at;
      as_many = length-set w.machine.cores c left;
      sizes = ends_sized a left.ends (ends_at a.ends i.moved);
    }

    -- as many ends are there as the image has
    ends_moved : (d : ℕ) (e : CoreState) → slice_get machine_moved.cores d ≡ Some e → length e.ends ≡ (parts_in g.image.cores d).ends
    ends_moved d e at =
        ⊎_elim
        (λ (set : (d ≡ c) × (e ≡ left)). ap (λ (f : CoreState). length f.ends) set.1 ∙ ends_at a.ends i.moved ∙ st.wired.ends c a at_c
        ∙ ap (λ k. (parts_in g.image.cores k).ends) (sym set.0))
        (λ (old : (d ≢ c) × (slice_get w.machine.cores d ≡ Some e)). st.wired.ends d e old.1)
        (get_set_cases w.machine.cores c d a left e at_c at)

    -- no clock has gone up
    clocks_moved : map clock_of machine_moved.cores ≡ x.state.clocks
    clocks_moved =
        map-set_same clock_of w.machine.cores c left a (ap clock_of (sym (get_or_from_slice_get w.machine.cores c a a at_c))) ∙ st.clocks

    -- 1. The program does nothing.
    module _ (over : ChannelsOverLinks g.image.chans machine_moved.cores links boxes st.wired.ghosts) where
      wired_moved : AreWired g who machine_moved x.state
      wired_moved = record {
        ghosts = st.wired.ghosts;
        over = over;
        long = st.wired.long;
        ends = ends_moved;
        listed = st.wired.listed;
        stances = st.wired.stances;
        one = st.wired.one;
      }

      stands_moved : MatchStates g none_rests who watched_moved told_moved
      stands_moved =
          moves g none_rests none_rests who who w watched_moved x c a left (λ u. false) [] x.state st has_moved
          (record {
            acted = refl;
            clocks = clocks_moved;
            trace = st.trace;
            roles = st.roles;
            reserves = st.reserves;
            used = used_ends who c a left but_ends (st.used c a at_c);
            same_role = λ u m. refl;
            far_role = λ d u ne. refl;
            rests = λ u m none. none;
            far_rests = λ d u ne none. none;
            steps = λ u m. refl;
            far_steps = λ d u ne. refl;
            stand = λ u m. absurd (false_true m);
            wired = wired_moved;
            alone = λ u s hand transfer m at its. absurd (false_true m);
            rely = λ u s hand m runs_s. kept_ends g s (record { core = a; world = x.state; hand = hand }) a left x.state hand but_ends
                (kept_now moment c u a s hand at_c runs_s);
            far_rely = λ d u e s hand ne at runs_s. kept_now moment d u e s hand at runs_s;
            loose = λ some. loose_ends g who c a left x.state but_ends (st.loose c a at_c some);
            far_loose = λ d e ne at loose. loose;
            roots = st.roots c a at_c;
            far_roots = λ d ne. refl;
            placed = st.placed;
            run = st.run;
            made = st.made;
          })
        where
          false_true : false ≡ true → ⊥
          false_true f = cc

      -- so the program follows by doing nothing
      silently_followed : Follows g none_rests who w x watched_moved
      silently_followed = record {
        who = who;
        piece = [];
        world = x.state;
        acted = refl;
        standing = stands_moved;
        named = λ names. alike_linked g none_rests who w x st names watched_moved told_moved (told_same g x [] x.state refl) (λ d u. refl);
      }

    -- 2. A branch puts its offer.
    module _ (line : ℕ) (channel : ℕ) (is_line : IsLine g.program line channel) (side : Side) (parcel : Parcel) (others : List Parcel)
        (late : st.wired.ghosts.late line (other_side side) ≡ parcel ∷ others) (from_core : plan_core g.program channel side ≡ from)
        (then_inside : Bool)
        (kind : LateKind (st.wired.ghosts.side_states line side).phase (st.wired.ghosts.side_states line side).inside parcel others then_inside)
        (over : ChannelsOverLinks g.image.chans machine_moved.cores links (put_at boxes line (other_side side) parcel)
        (moved_to st.wired.ghosts line side (side_state (st.wired.ghosts.side_states line side).phase then_inside) others)) where
      -- something is late
      some_late : (ps : List Parcel) → st.wired.ghosts.late line (other_side side) ≡ ps → ps ≡ [] → ⊥
      some_late ps is none = not_empty (sym none ∙ sym is ∙ late)
        where
          not_empty : ◌≡◌ {A = List Parcel} [] (parcel ∷ others) → ⊥
          not_empty e = cc

      -- the sender's core is another one
      apart : from ≢ c
      apart same =
          let none : link_of w.machine.links from c ≡ [] = ap (λ k. link_of w.machine.links k c) same ∙ st.wired.over.balanced.selves c in
          not_empty (sym none ∙ on_link)
        where
          not_empty : ◌≡◌ {A = List Item} [] (i ∷ rest) → ⊥
          not_empty e = cc

      -- by the thread that sends on the side
      module _ (d u : ℕ) (t : IsTransferring who d u channel side) (on_core : plan_core g.program channel side ≡ d)
          (stands : st.wired.ghosts.side_states line side ≡ side_state t.transfer.phase false)
          (late_is : st.wired.ghosts.late line (other_side side) ≡ t.transfer.late) (e : CoreState)
          (at_d : slice_get w.machine.cores d ≡ Some e) where
        d_apart : d ≢ c
        d_apart same = apart (sym from_core ∙ on_core ∙ same)

        abbrev now : ThreadView
        now = record { core = e; world = x.state; hand = None }

        module _ (none : t.hand ≡ None) (branch : Branch) (known : slice_get x.state.branches t.runner.branch ≡ Some branch)
            (stand : RunsBranch g t.runner false t.hand e x.state (w.lives d u) x.actions branch) (on : branch.mode ≡ runs) (j : ℕ)
            (few : steps_left t.transfer.phase + j ≤ stand.left) (h : InTransfer g t.runner t.transfer branch.items j now)
            (offer_of : IsUnput t.transfer h.pos branch.items x.state) where
          abbrev thread_there : ThreadAt moment None
          thread_there = thread_of moment d u e at_d t.runner None (t.runs ∙ ap (used_by t.runner) none)

          abbrev branch_there : BranchAt thread_there
          branch_there = branch_of thread_there branch known
              (stand_as g t.runner false t.hand None e x.state (w.lives d u) x.actions branch none stand)

          -- what is late is the offer alone
          offer_is : ◌≡◌ {A = List Parcel} (parcel ∷ others) (offer offer_of.value ∷ [])
          offer_is = sym late ∙ late_is ∙ offer_of.late

          parcel_is : parcel ≡ offer offer_of.value
          parcel_is = let both = offer_is in cc

          others_are : others ≡ []
          others_are = let both = offer_is in cc

          -- its line is this one
          line_there : puts.line branch_there on t.transfer t.is j few h offer_of ≡ line
          line_there = one_line g is.lines (puts.line branch_there on t.transfer t.is j few h offer_of) line channel
              (subst (IsLine g.program (puts.line branch_there on t.transfer t.is j few h offer_of)) t.channel_is
              (puts.at_end branch_there on t.transfer t.is j few h offer_of).is_line) is_line

          -- what stands between the sides then, by each part
          abbrev Stands : ℕ → Side → Phase → Bool → Parcel → List Parcel → Type 0
          Stands k y f inside p ps = ChannelsOverLinks g.image.chans machine_moved.cores links (put_at boxes k (other_side y) p)
              (moved_to st.wired.ghosts k y (side_state f inside) ps)

          over_there : Stands (puts.line branch_there on t.transfer t.is j few h offer_of) t.transfer.side t.transfer.phase false
              (offer offer_of.value) []
          over_there =
              subst (λ k. Stands k t.transfer.side t.transfer.phase false (offer offer_of.value) []) (sym line_there)
              (subst (λ y. Stands line y t.transfer.phase false (offer offer_of.value) []) (sym t.side_is)
              (subst (λ ps. Stands line side t.transfer.phase false (offer offer_of.value) ps) others_are
              (subst (λ p. Stands line side t.transfer.phase false p others) parcel_is
              (subst (λ b. Stands line side t.transfer.phase b parcel others) (offer_outside _ _ parcel others then_inside offer_of.value kind parcel_is)
              (subst (λ f. Stands line side f then_inside parcel others) (ap (λ (z : SideState). z.phase) stands) over)))))

          other_core : (k : ℕ) (f : CoreState) → slice_get w.machine.cores k ≡ Some f → (k ≡ c) ⊎ (k ≢ c) →
              (b : CoreState) × (slice_get machine_moved.cores k ≡ Some b) × IsSameButEnds f b
          other_core k f at (inl here) =
              let same : a ≡ f = same_Some a f (sym at_c ∙ ap (slice_get w.machine.cores) (sym here) ∙ at) in
              (left, ap (slice_get machine_moved.cores) here ∙ get_set_same w.machine.cores c a left at_c, subst (λ b. IsSameButEnds b left) same but_ends)
          other_core k f at (inr ne) = other_same w watched_moved k f (get_set_other w.machine.cores c k left ne) at

          put_behind : IsBehindPut branch_there on t.transfer t.is j few h offer_of watched_moved
          put_behind = record {
            stepped = record {
              was = at_d;
              is = get_set_other w.machine.cores c d left d_apart ∙ at_d;
              others = λ k f ne at. other_core k f at (cases_eq k c);
              as_many = length-set w.machine.cores c left;
              sizes = refl;
            };
            clocks = clocks_moved;
            trace = refl;
            lives = λ k n. refl;
            ends = ends_moved;
            over = over_there;
          }

          offer_put : Follows g none_rests who w x watched_moved
          offer_put = put_follows branch_there on t.transfer t.is j few h offer_of watched_moved put_behind

        -- its branch goes on, and has the offer to put
        by_left : (none : t.hand ≡ None) (branch : Branch) (known : slice_get x.state.branches t.runner.branch ≡ Some branch)
            (stand : RunsBranch g t.runner false t.hand e x.state (w.lives d u) x.actions branch) → branch.mode ≡ runs → (j : ℕ) →
            steps_left t.transfer.phase + j ≤ stand.left → (h : InTransfer g t.runner t.transfer branch.items j now) →
            LeftTo t.transfer h.pos branch.items x.state → Follows g none_rests who w x watched_moved
        by_left none branch known stand on j few h (on_time nothing goes) = absurd (some_late t.transfer.late late_is nothing)
        by_left none branch known stand on j few h (unput offer_of) = offer_put none branch known stand on j few h offer_of

        by_mode : (branch : Branch) → slice_get x.state.branches t.runner.branch ≡ Some branch →
            (stand : RunsBranch g t.runner false t.hand e x.state (w.lives d u) x.actions branch) → (mode : Mode) → branch.mode ≡ mode →
            Follows g none_rests who w x watched_moved
        by_mode branch known stand runs on =
            let q = subst (λ o. ProgressWith g t.runner false o branch.items stand.left (record { core = e; world = x.state; hand = t.hand })) t.is
            (subst (λ m. ProgressBy g t.runner false branch.items m stand.left (record { core = e; world = x.state; hand = t.hand })) on stand.by) in
            let h = subst (λ k. InTransfer g t.runner t.transfer branch.items q.0 (record { core = e; world = x.state; hand = k })) q.2.no_hand q.2 in
            by_left q.2.no_hand branch known stand on q.0 (let few = q.1 in omega (arith, few)) h h.left
        by_mode branch known stand (waits from_branch count) on =
            absurd (subst (λ m. ProgressBy g t.runner false branch.items m stand.left (record { core = e; world = x.state; hand = t.hand })) on stand.by)
        by_mode branch known stand ended on = absurd (none-some t.transfer (sym (stand.done on) ∙ t.is))
        by_mode branch known stand erred on = absurd (some_late t.transfer.late late_is (subst StopsIn t.is (stand.stops on)).1)

        sender_puts : Follows g none_rests who w x watched_moved
        sender_puts =
            let s = some_is (RunsBranch g t.runner false t.hand e x.state (w.lives d u) x.actions) (slice_get x.state.branches t.runner.branch)
            (stands_at moment d u e t.runner t.hand at_d t.runs) in
            by_mode s.0 s.1 s.2 s.0.mode refl

      -- somebody is in mid-piece on the side
      late_put : Follows g none_rests who w x watched_moved
      late_put = by (st.wired.stances line channel side is_line)
        where
          by : SideIs g who channel side (st.wired.ghosts.side_states line side) (st.wired.ghosts.late line (other_side side)) →
              Follows g none_rests who w x watched_moved
          by (in_transfer d u t on_core stands late_is) =
              let at = core_of moment d u t.runner t.hand t.runs in
              sender_puts d u t on_core stands late_is at.0 at.1
          by (idle nobody stands late_is) = absurd (some_late [] late_is refl)

    -- By what comes.
    by_delivery : Delivered g.image.chans from c machine_moved.cores links boxes st.wired.ghosts → Follows g none_rests who w x watched_moved
    by_delivery (silently over) = silently_followed over
    by_delivery (putting line p side parcel others inside at_line from_there to_here late kind over) =
        let channel = is.lines.channel line p at_line in
        let pair_is : p ≡ pair_of g.program channel.0 = same_Some p (pair_of g.program channel.0) (sym at_line ∙ is.lines.line line channel.0 channel.1) in
        late_put line channel.0 channel.1 side parcel others late
        (side_core g channel.0 side ∙ ap (λ (q : Pair). (end_of_side q side).core) (sym pair_is) ∙ from_there) inside kind over

    pub move_followed : Follows g none_rests who w x watched_moved
    move_followed =
        by_delivery (delivered g.image.chans is.lines.wired w.machine.cores w.machine.links boxes st.wired.ghosts st.wired.over from c a at_c rest i
        on_link)
