-- One core steps, or none, and the program goes on by a piece: what is to be shown so that the two sides stand so again.
use Rattle.std.proofs.Common.{◌≡◌, ℕ, ◌<◌, ◌≤◌, ◌≢◌, ◌⊎◌, inl, inr, [], ◌∷◌, List, map, length, Option, Some, None, refl, sym, ap, ◌∙◌, subst, ⊎_elim, arith}
use Rattle.std.specs.Prelude.{Bool, true, false, slice_get}
use Rattle.std.proofs.lemmas.Bool.{cases_eq}
use Rattle.std.proofs.lemmas.Option.{same_Some, slice_get_within}
use Rattle.xs_instr.specs.declared.state.CoreState.{CoreState}
use Rattle.xs_instr.specs.declared.state.Thread.{Thread}
use Rattle.xs_instr.specs.Machine.{Machine, parts_in}
use Rattle.xs_instr.specs.Pool.{is_tied}
use Rattle.xc_disjoint.specs.Needs.{threads_on}
use Rattle.xc_kernel.specs.Eval.{words_of}
use Rattle.xc_meaning.specs.Runs.{acts_all}
use Rattle.xc_meaning.specs.States.Branches.{Branch, has_ended}
use Rattle.xc_meaning.specs.States.Worlds.{World, Action}
use Rattle.xl_par.specs.Acquired.{Acquired, IsAmong}
use Rattle.xr_match.specs.Implements.{clock_of}
use Rattle.xr_match.specs.Lives.{Life, Watched}
use Rattle.xr_match.specs.Meanings.{of_kernel}
use Rattle.xr_match.specs.Sources.{Counted}
use Rattle.xr_simulation.specs.Parents.{Parent, branches_of, sync_before, syncs_of}
use Rattle.xr_simulation.specs.Roles.{AreRoles, AreUsedSo, HasReserves, IsParent, ParentsWait, Role, Roles, got_by, own_branches, unused, used_by}
use Rattle.xr_simulation.specs.Runners.{IsMine, Setting, Runner, IsLaidOut, MayChange}
use Rattle.xr_simulation.specs.Sizes.{sizes_in, sizes_of}
use Rattle.xr_simulation.specs.ThreadViews.{Owns, Rely, SpareFor, ThreadView, sync_in}
use Rattle.xr_simulation.specs.MatchStates.{AreLoose, IsMade, IsRun, MatchStates, ThreadRel, living_on}
use Rattle.xr_simulation.specs.Transfers.{Transfer}
use Rattle.xr_simulation.specs.Wired.{AreWired, HasAlone}
use Rattle.xr_simulation.proofs.Channels.OwnSide.{alone_behind}
use Rattle.xr_simulation.proofs.RelyGuarantee.Apartness.{apart_of_runners, laid_of_role, own_variables}
use Rattle.xr_simulation.proofs.RelyGuarantee.Holding.{far_wanted, loose_far}
use Rattle.xr_simulation.proofs.Image.Lines.{line_known}
use Rattle.xr_simulation.proofs.Relation.Moments.{Moment, ThreadAt}
use Rattle.xr_simulation.proofs.Start.PlainRuns.{plain_behind}
use Rattle.xr_simulation.proofs.Relation.Reserves.{laws_behind}
use Rattle.xr_simulation.proofs.Par.Rooms.{spare_for}
use Rattle.xr_simulation.proofs.Relation.Sizes.{ends_sized}
use Rattle.xr_simulation.proofs.Relation.Lasting.{clock_at, core_at, runner_still, told_by}
use Rattle.xr_simulation.proofs.OwnSteps.Branch.{Crew, Works, crew_of, works_of}
use Rattle.xl_expr.proofs.ResourceParts.{others_keep, own_same, own_then}
use Rattle.xl_expr.specs.ResourceParts.{OtherPartsStay}

-- another core is what it was but for its channel ends, which are as many
pub record IsSameButEnds (e f : CoreState) : Type 0 where
  pub is : f ≡ record e { ends = f.ends }
  pub as_many : length f.ends ≡ length e.ends

-- what the machine is behind an event, or where there was none: core c was a and is b, and of the others no more has changed than their
-- channel ends; what is on links is told elsewhere
pub record HasStepped (w w' : Watched) (c : ℕ) (a b : CoreState) : Type 0 where
  pub was : slice_get w.machine.cores c ≡ Some a
  pub is : slice_get w'.machine.cores c ≡ Some b
  pub others : (d : ℕ) (e : CoreState) → d ≢ c → slice_get w.machine.cores d ≡ Some e →
      (f : CoreState) × (slice_get w'.machine.cores d ≡ Some f) × IsSameButEnds e f
  pub as_many : length w'.machine.cores ≡ length w.machine.cores
  pub sizes : sizes_of b ≡ sizes_of a

-- another core that has stayed
pub other_same : (w w' : Watched) (d : ℕ) (e : CoreState) → slice_get w'.machine.cores d ≡ slice_get w.machine.cores d →
    slice_get w.machine.cores d ≡ Some e → (f : CoreState) × (slice_get w'.machine.cores d ≡ Some f) × IsSameButEnds e f
other_same w w' d e same at = (e, same ∙ at, record { is = refl; as_many = refl })

-- Of some threads of the core it is shown how they stand; the others have the roles that they had, and what their runners stand on is kept.
pub record IsNextStanding
    (g : Setting) (may_rest may_rest' : (core thread : ℕ) → Bool) (who who' : Roles) (w w' : Watched) (x : Counted (of_kernel g.program))
    (c : ℕ) (a b : CoreState) (moved : (thread : ℕ) → Bool) (piece : List Action) (y : World) : Type 0 where
  pub acted : acts_all g.program g.stimulus (Some x.state) piece ≡ Some y
  pub clocks : map clock_of w'.machine.cores ≡ y.clocks
  pub trace : w'.machine.trace ≡ y.trace
  pub roles : AreRoles g who'
  pub reserves : HasReserves g who' y
  pub used : AreUsedSo who' c b
  pub same_role : (t : ℕ) → moved t ≡ false → who' c t ≡ who c t
  pub far_role : (d t : ℕ) → d ≢ c → who' d t ≡ who d t
  pub rests : (t : ℕ) → moved t ≡ false → may_rest c t ≡ true → may_rest' c t ≡ true
  pub far_rests : (d t : ℕ) → d ≢ c → may_rest d t ≡ true → may_rest' d t ≡ true
  pub steps : (t : ℕ) → moved t ≡ false → (w'.lives c t).steps ≡ (w.lives c t).steps
  pub far_steps : (d t : ℕ) → d ≢ c → (w'.lives d t).steps ≡ (w.lives d t).steps
  pub stand : (t : ℕ) → moved t ≡ true →
      ThreadRel g (may_rest' c t) b y (w'.lives c t) (told_by g.program g.stimulus x piece y).actions (who' c t)
  pub rely : (t : ℕ) (s : Runner) (hand : Option Acquired) → moved t ≡ false → who c t ≡ used_by s hand →
      Rely g s (record { core = a; world = x.state; hand = hand }) (record { core = b; world = y; hand = hand })
  pub far_rely : (d t : ℕ) (e : CoreState) (s : Runner) (hand : Option Acquired) → d ≢ c → slice_get w.machine.cores d ≡ Some e → who d t ≡ used_by s hand →
      Rely g s (record { core = e; world = x.state; hand = hand }) (record { core = e; world = y; hand = hand })
  pub wired : AreWired g who' w'.machine y
  pub alone : (u : ℕ) (s : Runner) (hand : Option Acquired) (transfer : Transfer) → moved u ≡ true → who' c u ≡ used_by s hand → s.transfer ≡ Some transfer →
      HasAlone y.branches transfer.channel transfer.side s.branch
  pub loose : 1 ≤ threads_on g.program c → AreLoose g who' c b y
  pub far_loose : (d : ℕ) (e : CoreState) → d ≢ c → slice_get w.machine.cores d ≡ Some e → AreLoose g who d e x.state → AreLoose g who' d e y
  pub roots : b.roots ≡ living_on c y.branches
  pub far_roots : (d : ℕ) → d ≢ c → living_on d y.branches ≡ living_on d x.state.branches
  pub placed : (n : ℕ) (branch : Branch) → slice_get y.branches n ≡ Some branch → branch.core < 4
  pub run : (n : ℕ) (branch : Branch) → slice_get y.branches n ≡ Some branch → has_ended branch.mode ≡ false → IsRun who' n
  pub made : (n : ℕ) (branch : Branch) → slice_get y.branches n ≡ Some branch → has_ended branch.mode ≡ false → IsMade (length g.program.roots) y.branches n

-- how a thread stands that has the role that it had, where what its runner stands on is kept
role_still : (g : Setting) (rests rests' : Bool) (a b : CoreState) (x y : World) (life life' : Life) (actions more : ℕ → ℕ)
    (role : Role) → (rests ≡ true → rests' ≡ true) →
    ((s : Runner) (hand : Option Acquired) → role ≡ used_by s hand →
    Rely g s (record { core = a; world = x; hand = hand }) (record { core = b; world = y; hand = hand })) → life'.steps ≡ life.steps →
    ((f : ℕ) → actions f ≤ more f) → ThreadRel g rests a x life actions role → ThreadRel g rests' b y life' more role
role_still g rests rests' a b x y life life' actions more unused may k same le h = h
role_still g rests rests' a b x y life life' actions more (got_by t) may k same le h = same ∙ h
role_still g rests rests' a b x y life life' actions more (used_by s hand) may k same le h = runner_still g s rests rests' hand a b x y life life' actions more may (k s hand refl) same le h

-- a core's threads and synchronisers are used as before, where its threads have the roles that they had
used_still : (who who' : Roles) (d : ℕ) (e : CoreState) → ((t : ℕ) → who' d t ≡ who d t) → AreUsedSo who d e → AreUsedSo who' d e
used_still who who' d e same h = record {
  threads = h.threads;
  syncs = h.syncs;
  unused = λ u few is. h.unused u few (sym (same u) ∙ is);
  got = λ u t n r hand is its sync. h.got u t n r hand (sym (same u) ∙ is) (sym (same t) ∙ its) sync;
  taken = λ n is. let k = h.taken n is in (k.0, k.1, k.2, same k.0 ∙ k.3, k.4);
  owned = λ t n r hand is owns. h.owned t n r hand (sym (same t) ∙ is) owns;
}

-- Where a core has other ends, what threads stand on is as it was.

pub kept_ends : (g : Setting) (s : Runner) (z : ThreadView) (e f : CoreState) (y : World) (hand : Option Acquired) → IsSameButEnds e f →
    Rely g s z (record { core = e; world = y; hand = hand }) → Rely g s z (record { core = f; world = y; hand = hand })
kept_ends g s z e f y hand same k = subst (λ b. Rely g s z (record { core = b; world = y; hand = hand })) (sym same.is) (record {
  thread = k.thread;
  words = k.words;
  resources = own_then (IsMine g s) s.thread _ _ _ k.resources (own_same _ _ _ _ refl refl refl);
  sizes = ends_sized e f.ends same.as_many ∙ k.sizes;
  branch = k.branch;
  parents = k.parents;
  store = k.store;
  clock = k.clock;
  hand = k.hand;
  syncs = k.syncs;
  held = k.held;
  tied = k.tied;
  spare = spare_ends z.hand k.spare;
})
  where
    spare_ends : (hand : Option Acquired) → SpareFor hand e → SpareFor hand (record e { ends = f.ends })
    spare_ends None h = tt
    spare_ends (Some hand) h = record {
      threads = h.threads;
      sync = h.sync;
      few_threads = h.few_threads;
      few_syncs = h.few_syncs;
      no_events = h.no_events;
      untied = h.untied;
    }

pub used_ends : (who : Roles) (d : ℕ) (e f : CoreState) → IsSameButEnds e f → AreUsedSo who d e → AreUsedSo who d f
used_ends who d e f same h = subst (AreUsedSo who d) (sym same.is)
    (record { threads = h.threads; syncs = h.syncs; unused = h.unused; got = h.got; taken = h.taken; owned = h.owned })

pub loose_ends : (g : Setting) (who : Roles) (d : ℕ) (e f : CoreState) (y : World) → IsSameButEnds e f → AreLoose g who d e y →
    AreLoose g who d f y
loose_ends g who d e f y same h = subst (λ b. AreLoose g who d b y) (sym same.is) (record {
  variables = h.variables;
  ports = λ p listed is nobody. let k = h.ports p listed is nobody in record { port = k.port; there = k.there; declared = k.declared };
})

-- a thread is inside a transfer on a channel of the program's
pub channel_known : (g : Setting) (who : Roles) (m : Machine) (x : World) → AreWired g who m x →
    (d u : ℕ) (s : Runner) (hand : Option Acquired) (transfer : Transfer) → who d u ≡ used_by s hand → s.transfer ≡ Some transfer →
    transfer.channel < length g.program.channels
channel_known g who m x wired d u s hand transfer is its =
    let k = wired.listed d u transfer.channel transfer.side (record { runner = s; hand = hand; runs = is; transfer = transfer; is = its; channel_is = refl; side_is = refl }) in
    line_known g.program k.0 transfer.channel k.1

-- then the two sides stand so again
pub moves : (g : Setting) (may_rest may_rest' : (core thread : ℕ) → Bool) (who who' : Roles) (w w' : Watched) (x : Counted (of_kernel g.program))
    (c : ℕ) (a b : CoreState) (moved : (thread : ℕ) → Bool) (piece : List Action) (y : World) →
    MatchStates g may_rest who w x → HasStepped w w' c a b → IsNextStanding g may_rest may_rest' who who' w w' x c a b moved piece y →
    MatchStates g may_rest' who' w' (told_by g.program g.stimulus x piece y)
moves g may_rest may_rest' who who' w w' x c a b moved piece y st step next =
    let more : ℕ → ℕ = (told_by g.program g.stimulus x piece y).actions in
    record {
      clocks = next.clocks;
      trace = next.trace;
      cores = step.as_many ∙ st.cores;
      lawful = laws_behind g x.state st.lawful piece y next.acted;
      plain = plain_behind g x.state st.lawful st.plain piece y next.acted;
      roles = next.roles;
      reserves = next.reserves;
      used = λ d e at.
          ⊎_elim
          (λ (h : d ≡ c). subst (λ k. AreUsedSo who' k e) (sym h) (subst (AreUsedSo who' c) (is_b d e h at) next.used))
          (λ (ne : d ≢ c). let o = far d e ne at in used_ends who' d o.0 e o.2
          (used_still who who' d o.0 (λ t. next.far_role d t ne) (st.used d o.0 o.1)))
          (cases_eq d c);
      threads = λ d t e at.
          ⊎_elim
          (λ (h : d ≡ c). subst (λ k. ThreadRel g (may_rest' k t) e y (w'.lives k t) more (who' k t)) (sym h)
          (subst (λ f. ThreadRel g (may_rest' c t) f y (w'.lives c t) more (who' c t)) (is_b d e h at) (here t)))
          (λ (ne : d ≢ c). let o = far d e ne at in there d t o.0 e ne o.1 o.2)
          (cases_eq d c);
      loose = λ d e at some.
          ⊎_elim
          (λ (h : d ≡ c). subst (λ k. AreLoose g who' k e y) (sym h) (subst (λ f. AreLoose g who' c f y) (is_b d e h at) (next.loose (subst (λ k. 1 ≤ threads_on g.program k) h some))))
          (λ (ne : d ≢ c). let o = far d e ne at in loose_ends g who' d o.0 e y o.2 (next.far_loose d o.0 ne o.1 (st.loose d o.0 o.1 some)))
          (cases_eq d c);
      sizes = λ d e at.
          ⊎_elim
          (λ (h : d ≡ c). ap sizes_of (sym (is_b d e h at)) ∙ step.sizes ∙ st.sizes c a step.was ∙ ap
          (λ k. sizes_in (parts_in g.image.cores k)) (sym h))
          (λ (ne : d ≢ c). let o = far d e ne at in ap sizes_of o.2.is ∙ ends_sized o.0 e.ends o.2.as_many ∙ st.sizes d o.0 o.1)
          (cases_eq d c);
      wired = next.wired;
      alone = λ d u s hand transfer is its.
          ⊎_elim
          (λ (h : d ≡ c). alone_here u s hand transfer (ap (λ k. who' k u) (sym h) ∙ is) its (moved u) refl)
          (λ (ne : d ≢ c). alone_there d u s hand transfer ne (sym (next.far_role d u ne) ∙ is) its)
          (cases_eq d c);
      roots = λ d e at.
          ⊎_elim
          (λ (h : d ≡ c). ap (λ (f : CoreState). f.roots) (sym (is_b d e h at)) ∙ next.roots ∙ ap (λ k. living_on k y.branches) (sym h))
          (λ (ne : d ≢ c). let o = far d e ne at in ap (λ (f : CoreState). f.roots) o.2.is ∙ st.roots d o.0 o.1 ∙ sym (next.far_roots d ne))
          (cases_eq d c);
      placed = next.placed;
      run = next.run;
      made = next.made;
    }
  where
    -- this core is b
    is_b : (d : ℕ) (e : CoreState) → d ≡ c → slice_get w'.machine.cores d ≡ Some e → b ≡ e
    is_b d e h at = same_Some b e (sym step.is ∙ ap (slice_get w'.machine.cores) (sym h) ∙ at)

    -- and another one what it was, but for its ends
    far : (d : ℕ) (f : CoreState) → d ≢ c → slice_get w'.machine.cores d ≡ Some f →
        (e : CoreState) × (slice_get w.machine.cores d ≡ Some e) × IsSameButEnds e f
    far d f ne at =
        let many = step.as_many in
        let within = slice_get_within w'.machine.cores d f at in
        let e = core_at w.machine.cores d (omega arith) in
        let o = step.others d e.0 ne e.1 in
        (e.0, e.1, subst (IsSameButEnds e.0) (same_Some o.0 f (sym o.1 ∙ at)) o.2)

    -- no family has done less
    not_less : (f : ℕ) → x.actions f ≤ (told_by g.program g.stimulus x piece y).actions f
    not_less f = omega arith

    -- a thread of another core
    there : (d t : ℕ) (e f : CoreState) → d ≢ c → slice_get w.machine.cores d ≡ Some e → IsSameButEnds e f →
        ThreadRel g (may_rest' d t) f y (w'.lives d t) (told_by g.program g.stimulus x piece y).actions (who' d t)
    there d t e f ne at same =
        subst (ThreadRel g (may_rest' d t) f y (w'.lives d t) (told_by g.program g.stimulus x piece y).actions) (sym (next.far_role d t ne))
        (role_still g (may_rest d t) (may_rest' d t) e f x.state y (w.lives d t) (w'.lives d t) x.actions
        (told_by g.program g.stimulus x piece y).actions (who d t) (next.far_rests d t ne)
        (λ s hand is. kept_ends g s (record { core = e; world = x.state; hand = hand }) e f y hand same
        (next.far_rely d t e s hand ne at is)) (next.far_steps d t ne) not_less (st.threads d t e at))

    -- a thread of this core, by whether it is one of those that are shown
    by_moved : (t : ℕ) (m : Bool) → moved t ≡ m → ThreadRel g (may_rest' c t) b y (w'.lives c t) (told_by g.program g.stimulus x piece y).actions (who' c t)
    by_moved t true m = next.stand t m
    by_moved t false m =
        subst (ThreadRel g (may_rest' c t) b y (w'.lives c t) (told_by g.program g.stimulus x piece y).actions) (sym (next.same_role t m))
        (role_still g (may_rest c t) (may_rest' c t) a b x.state y (w.lives c t) (w'.lives c t) x.actions (told_by g.program g.stimulus x piece y).actions (who c t) (next.rests t m) (λ s hand is. next.rely t s hand m is) (next.steps t m) not_less (st.threads c t a step.was))

    here : (t : ℕ) → ThreadRel g (may_rest' c t) b y (w'.lives c t) (told_by g.program g.stimulus x piece y).actions (who' c t)
    here t = by_moved t (moved t) refl

    -- a branch whose thread is inside a transfer, and which is what it was, has its side for itself still
    alone_kept : (d u : ℕ) (e : CoreState) (s : Runner) (hand : Option Acquired) (transfer : Transfer) → slice_get w.machine.cores d ≡ Some e → who d u ≡ used_by s hand → s.transfer ≡ Some transfer →
        slice_get y.branches s.branch ≡ slice_get x.state.branches s.branch → HasAlone y.branches transfer.channel transfer.side s.branch
    alone_kept d u e s hand transfer at is its same =
        let works = works_of g s (may_rest d u) hand e x.state (w.lives d u) x.actions (subst (ThreadRel g (may_rest d u) e x.state (w.lives d u) x.actions) is (st.threads d u e at)) in
        alone_behind transfer.channel transfer.side g x.state st.lawful
        (channel_known g who w.machine x.state st.wired d u s hand transfer is its) s.branch works.branch works.branch works.known
        (st.alone d u s hand transfer is its)
        piece y next.acted (same ∙ works.known)
        (λ over. none_some (sym (works.done over) ∙ its))
      where
        none_some : ◌≡◌ {A = Option Transfer} None (Some transfer) → ⊥
        none_some f = cc

    alone_here : (u : ℕ) (s : Runner) (hand : Option Acquired) (transfer : Transfer) → who' c u ≡ used_by s hand → s.transfer ≡ Some transfer → (m : Bool) → moved u ≡ m → HasAlone y.branches transfer.channel transfer.side s.branch
    alone_here u s hand transfer is its true m = next.alone u s hand transfer m is its
    alone_here u s hand transfer is its false m =
        let old = sym (next.same_role u m) ∙ is in
        alone_kept c u a s hand transfer step.was old its (next.rely u s hand m old).branch

    alone_there : (d u : ℕ) (s : Runner) (hand : Option Acquired) (transfer : Transfer) → d ≢ c → who d u ≡ used_by s hand → s.transfer ≡ Some transfer → HasAlone y.branches transfer.channel transfer.side s.branch
    alone_there d u s hand transfer ne is its =
        let lt = st.roles.there d u s hand is in
        let four = st.cores in
        let e = core_at w.machine.cores d (omega arith) in
        alone_kept d u e.0 s hand transfer e.1 is its (next.far_rely d u e.0 s hand ne e.1 is).branch

-- What an event of one runner leaves as it was for all others: it changes threads that are its own, that it got or that are unused; ties them
-- to synchronisers of its own; takes synchronisers that are free and gives back its own ones; and changes words, ports and variables within its
-- footprint, and its own branches. Others may be made.
pub record Effect
    (g : Setting) (who : Roles) (c t : ℕ) (r : Runner) (hand : Option Acquired) (moved : (thread : ℕ) → Bool) (a b : CoreState) (x y : World) : Type 0 where
  pub clock : b.clock ≡ a.clock
  pub sizes : sizes_of b ≡ sizes_of a
  pub threads : (u : ℕ) → moved u ≡ false → slice_get b.threads u ≡ slice_get a.threads u
  pub not_held : (u s : ℕ) → who c u ≡ got_by s → s ≢ t → moved u ≡ false
  pub ties : (u n : ℕ) (thread : Thread) → moved u ≡ true → slice_get b.threads u ≡ Some thread → is_tied thread n ≡ true →
      Owns r hand n ⊎ (r.tie ≡ Some n)
  pub syncs : (n : ℕ) → (Owns r hand n → ⊥) → slice_get a.syncs n ≡ Some true → slice_get b.syncs n ≡ Some true
  pub words : (k : ℕ) → (MayChange g r k → ⊥) → slice_get b.words k ≡ slice_get a.words k
  pub resources : OtherPartsStay (IsMine g r) r.thread a b
  pub clocks : y.clocks ≡ x.clocks
  pub branches : (n : ℕ) (branch : Branch) → (IsAmong (own_branches r) n → ⊥) → slice_get x.branches n ≡ Some branch → slice_get y.branches n ≡ Some branch
  pub store : (v : ℕ) → r.footprint.changes v ≡ false → words_of y.store v ≡ words_of x.store v

-- a branch that waits is there
pub parent_there : (g : Setting) (x : World) (core family first : ℕ) (ps : List Parent) (n : ℕ) → ParentsWait g x core family ps first → IsAmong (branches_of ps) n → (branch : Branch) × (slice_get x.branches n ≡ Some branch)
parent_there g x core family first [] n h m = absurd m
parent_there g x core family first (p ∷ ps) n h (inl e) = (h.0.branch, ap (slice_get x.branches) e ∙ h.0.known)
parent_there g x core family first (p ∷ ps) n h (inr m) = parent_there g x core family p.branch ps n h.1 m

-- the synchroniser of one that waits is among theirs
pub parent_sync : (ps : List Parent) (p : Parent) (n : ℕ) → IsParent ps p → p.sync ≡ Some n → IsAmong (syncs_of ps) n
parent_sync [] p n h e = absurd h
parent_sync (q ∷ qs) p n (inl h) e = subst (λ o. IsAmong (sync_before o (syncs_of qs)) n) (sym e ∙ ap (λ (k : Parent). k.sync) h) (inl refl)
parent_sync (q ∷ qs) p n (inr h) e = among_before q.sync (syncs_of qs) n (parent_sync qs p n h e)
  where
    among_before : (o : Option ℕ) (ns : List ℕ) (n : ℕ) → IsAmong ns n → IsAmong (sync_before o ns) n
    among_before None ns n m = m
    among_before (Some k) ns n m = inr m

-- a role has one runner, with one hand
abbrev runner_in : Runner → Role → Runner
runner_in r unused = r
runner_in r (got_by t) = r
runner_in r (used_by s hand) = s

abbrev hand_in : Role → Option Acquired
hand_in unused = None
hand_in (got_by t) = None
hand_in (used_by s hand) = hand

pub same_runner : (r s : Runner) (hand other : Option Acquired) → used_by r hand ≡ used_by s other → r ≡ s
same_runner r s hand other e = ap (runner_in r) e

pub same_hand : (r s : Runner) (hand other : Option Acquired) → used_by r hand ≡ used_by s other → hand ≡ other
same_hand r s hand other e = ap hand_in e

module _ {may_rest : (core thread : ℕ) → Bool} (moment : Moment may_rest) where
  open moment use {setting as g, first, image as is, roles as who, watched as w, told as x, standing as st}

  -- each core that has a runner is there
  pub core_of : (d u : ℕ) (s : Runner) (other : Option Acquired) → who d u ≡ used_by s other → (e : CoreState) × (slice_get w.machine.cores d ≡ Some e)
  core_of d u s other runs_s =
      let lt = st.roles.there d u s other runs_s in
      let four = st.cores in
      core_at w.machine.cores d (omega arith)

  -- how a runner's thread stands
  pub stands_at : (d u : ℕ) (e : CoreState) (s : Runner) (other : Option Acquired) → slice_get w.machine.cores d ≡ Some e → who d u ≡ used_by s other → ThreadRel g (may_rest d u) e x.state (w.lives d u) x.actions (used_by s other)
  stands_at d u e s other at runs_s = subst (ThreadRel g (may_rest d u) e x.state (w.lives d u) x.actions) runs_s (st.threads d u e at)

  pub works_at : (d u : ℕ) (s : Runner) (other : Option Acquired) → who d u ≡ used_by s other → Works g x.state s other
  works_at d u s other runs_s =
      let e = core_of d u s other runs_s in
      works_of g s (may_rest d u) other e.0 x.state (w.lives d u) x.actions (stands_at d u e.0 s other e.1 runs_s)

  pub laid_at : (d u : ℕ) (s : Runner) (other : Option Acquired) → who d u ≡ used_by s other → IsLaidOut g s
  laid_at d u s other runs_s = laid_of_role g first who is st.roles d u s other runs_s x.state (works_at d u s other runs_s)

  pub crew_at : (d : ℕ) (e : CoreState) → slice_get w.machine.cores d ≡ Some e → Crew g who x.state d e
  crew_at d e at = crew_of g first who may_rest w x d e is st at

  -- nothing has happened yet
  pub kept_now : (d u : ℕ) (e : CoreState) (s : Runner) (other : Option Acquired) → slice_get w.machine.cores d ≡ Some e →
      who d u ≡ used_by s other → Rely g s (record { core = e; world = x.state; hand = other })
      (record { core = e; world = x.state; hand = other })
  kept_now d u e s other at runs_s = record {
    thread = refl;
    words = λ k m. refl;
    resources = own_same _ _ _ _ refl refl refl;
    sizes = refl;
    branch = refl;
    parents = λ b m. refl;
    store = λ v uses. refl;
    clock = ap (slice_get x.state.clocks) (st.roles.core d u s other runs_s) ∙ clock_at g may_rest who w x d e st at;
    hand = refl;
    syncs = λ n owns. refl;
    held = λ v m. refl;
    tied = λ n v thread sync there tied. there;
    spare = spare_for g who x.state d e (crew_at d e at) u s other runs_s;
  }

  module _ {hand : Option Acquired} (thread_at : ThreadAt moment hand) (moved : (thread : ℕ) → Bool) (b : CoreState) (y : World)
      (effect : Effect g who thread_at.core thread_at.thread thread_at.runner hand moved thread_at.state b x.state y) where
    open thread_at use {core as c, thread as t, state as a, at_core as at_c, runner as r, runs as runs_r}

    -- a branch of another runner's, which runs or waits, is there still
    pub own_still : (d u : ℕ) (s : Runner) (other : Option Acquired) → ((d ≡ c) × (u ≡ t) → ⊥) → who d u ≡ used_by s other → (n : ℕ) (branch : Branch) → IsAmong (own_branches s) n → slice_get x.state.branches n ≡ Some branch → slice_get y.branches n ≡ slice_get x.state.branches n
    own_still d u s other ne runs_s n branch m known =
        effect.branches n branch (λ k. ne (st.roles.branches c t d u n r s hand other runs_r runs_s k m)) known ∙ sym known

    pub parents_left : (d u : ℕ) (s : Runner) (other : Option Acquired) → ((d ≡ c) × (u ≡ t) → ⊥) → who d u ≡ used_by s other → (n : ℕ) → IsAmong (branches_of s.parents) n → slice_get y.branches n ≡ slice_get x.state.branches n
    parents_left d u s other ne runs_s n m =
        let there = parent_there g x.state s.core s.family s.branch s.parents n (works_at d u s other runs_s).parents m in
        own_still d u s other ne runs_s n there.0 (inr m) there.1

    store_left : (d u : ℕ) (s : Runner) (other : Option Acquired) → ((d ≡ c) × (u ≡ t) → ⊥) → who d u ≡ used_by s other → (v : ℕ) → s.footprint.uses v ≡ true → words_of y.store v ≡ words_of x.state.store v
    store_left d u s other ne runs_s v uses =
        effect.store v (own_variables g who x.state st.lawful st.roles c t d u r s hand other runs_r runs_s ne (works_at c t r hand runs_r) (works_at d u s other runs_s) v uses)

    -- a thread that the event changes is tied to nothing of another runner's
    not_tied : (u : ℕ) (s : Runner) (other : Option Acquired) → u ≢ t → who c u ≡ used_by s other → (n v : ℕ) (thread : Thread) → sync_in other ≡ Some n → slice_get b.threads v ≡ Some thread → is_tied thread n ≡ true → moved v ≡ true → ⊥
    not_tied u s other ne runs_s n v thread sync there tied m =
        ⊎_elim
        (λ (owns : Owns r hand n). ne (st.roles.owner c t u n r s hand other runs_r runs_s owns (inr sync)))
        (λ (tie : r.tie ≡ Some n).
        let k = st.roles.tied c t n r hand runs_r tie in
        let q = k.2 in
        let p = k.4 in
        let is_parent : IsParent q.parents p = k.6 in
        let of_p : p.sync ≡ Some n = k.7 in
        let at : u ≡ k.0 = st.roles.owner c k.0 u n q s k.3 other k.5 runs_s (inl (parent_sync q.parents p n is_parent of_p)) (inr sync) in
        let both : used_by q k.3 ≡ used_by s other = sym k.5 ∙ ap (who c) (sym at) ∙ runs_s in
        st.roles.owned_apart c u n s other runs_s (subst (λ (i : Runner). IsAmong (syncs_of i.parents) n) (same_runner q s k.3 other both) (parent_sync q.parents p n is_parent of_p)) sync)
        (effect.ties v n thread m there tied)

    -- what another runner of the core stands on is kept, where what it lacks for a `par` is there
    pub kept_others : (u : ℕ) (s : Runner) (other : Option Acquired) → u ≢ t → moved u ≡ false → who c u ≡ used_by s other → SpareFor other b →
        Rely g s (record { core = a; world = x.state; hand = other }) (record { core = b; world = y; hand = other })
    kept_others u s other ne still runs_s spare =
        let s_core = st.roles.core c u s other runs_s in
        let s_thread = st.roles.thread c u s other runs_s in
        let works = works_at c u s other runs_s in
        let not_both : (c ≡ c) × (u ≡ t) → ⊥ = λ h. ne h.1 in
        let apart = apart_of_runners g who x.state st.lawful st.roles is.lines c t u r s hand other runs_r runs_s ne
        (works_at c t r hand runs_r) works (laid_at c t r hand runs_r) (laid_at c u s other runs_s) in
        record {
          thread = effect.threads s.thread (ap moved s_thread ∙ still);
          words = λ k m. effect.words k (λ change. apart.words k m change);
          resources = others_keep (IsMine g r) (IsMine g s) r.thread s.thread a b
              (λ e. ne (sym s_thread ∙ e ∙ st.roles.thread c t r hand runs_r)) apart.resources effect.resources;
          sizes = effect.sizes;
          branch = own_still c u s other not_both runs_s s.branch works.branch (inl refl) works.known;
          parents = parents_left c u s other not_both runs_s;
          store = store_left c u s other not_both runs_s;
          clock = ap (λ l. slice_get l s.core) effect.clocks ∙ ap (slice_get x.state.clocks) s_core ∙ clock_at g may_rest who w x c a st at_c ∙ ap Some (sym effect.clock);
          hand = refl;
          syncs = λ n owns.
              let taken = (st.used c a at_c).owned u n s other runs_s owns in
              effect.syncs n (λ owns_r. ne (st.roles.owner c t u n r s hand other runs_r runs_s owns_r owns)) taken ∙ sym taken;
          held = λ v m. effect.threads v (effect.not_held v u (st.roles.held c u v s other runs_s m) ne);
          tied = λ n v thread sync there tied. not_changed n v thread sync there tied (moved v) refl;
          spare = spare;
        }
      where
        not_changed : (n v : ℕ) (thread : Thread) → sync_in other ≡ Some n → slice_get b.threads v ≡ Some thread → is_tied thread n ≡ true → (m : Bool) → moved v ≡ m → slice_get a.threads v ≡ Some thread
        not_changed n v thread sync there tied true m = absurd (not_tied u s other ne runs_s n v thread sync there tied m)
        not_changed n v thread sync there tied false m = sym (effect.threads v m) ∙ there

    -- and that of a runner of another core
    pub far_others : (d u : ℕ) (e : CoreState) (s : Runner) (other : Option Acquired) → d ≢ c → slice_get w.machine.cores d ≡ Some e → who d u ≡ used_by s other →
        Rely g s (record { core = e; world = x.state; hand = other }) (record { core = e; world = y; hand = other })
    far_others d u e s other ne at_d runs_s =
        let s_core = st.roles.core d u s other runs_s in
        let works = works_at d u s other runs_s in
        let not_both : (d ≡ c) × (u ≡ t) → ⊥ = λ h. ne h.0 in
        record {
          thread = refl;
          words = λ k m. refl;
          resources = own_same _ _ _ _ refl refl refl;
          sizes = refl;
          branch = own_still d u s other not_both runs_s s.branch works.branch (inl refl) works.known;
          parents = parents_left d u s other not_both runs_s;
          store = store_left d u s other not_both runs_s;
          clock = ap (λ l. slice_get l s.core) effect.clocks ∙ ap (slice_get x.state.clocks) s_core ∙ clock_at g may_rest who w x d e st at_d;
          hand = refl;
          syncs = λ n owns. refl;
          held = λ v m. refl;
          tied = λ n v thread sync there tied. there;
          spare = spare_for g who x.state d e (crew_at d e at_d) u s other runs_s;
        }

    -- what was loose on another core is so still
    pub far_loose_still : (who' : Roles) → ((d u : ℕ) → d ≢ c → who' d u ≡ who d u) → (d : ℕ) (e : CoreState) → d ≢ c → AreLoose g who d e x.state → AreLoose g who' d e y
    far_loose_still who' same d e ne loose =
        loose_far g who who' d e x.state y loose (λ u. same d u ne)
        (λ v wanted. effect.store v (far_wanted g who x.state st.lawful works_at c t d r hand runs_r (st.roles.core c t r hand runs_r) ne st.roles.core v wanted))
