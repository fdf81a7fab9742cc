-- The branches of a `par` are set off: who runs what behind that.
use Rattle.std.proofs.Common.{◌≡◌, ◌≢◌, ℕ, suc, ◌+◌, ◌<◌, ◌≤◌, Bool, true, false, List, [], ◌∷◌, length, Option, Some, None, refl, sym, ap, ◌∙◌, subst, inl, inr, ⊎_elim, arith, eq-eqb}
use Rattle.std.specs.Prelude.{nat_eq}
use Rattle.std.proofs.lemmas.Bool.{cases_eq, ne_eqb}
use Rattle.xc_meaning.specs.States.Items.{Item}
use Rattle.xl_par.specs.Acquired.{Acquired, IsAmong}
use Rattle.xl_plan.specs.Layout.{temporary_of}
use Rattle.xl_ends.specs.Ends.{Sides}
use Rattle.xr_simulation.specs.Parents.{Parent, syncs_of}
use Rattle.xr_simulation.specs.Roles.{AreRoles, IsOnce, IsParent, Role, Roles, got_by, outermost, own_branches, unused, used_by}
use Rattle.xr_simulation.specs.Runners.{Setting, Runner, footprint_of, outside}
use Rattle.xr_simulation.specs.ThreadViews.{Owns, held_in, sync_in}
use Rattle.xr_simulation.specs.Transfers.{Transfer}
use Rattle.xr_simulation.proofs.Relation.CoreSteps.{same_hand, same_runner}
use Rattle.xr_simulation.proofs.Channels.Wiring.{TransfersAsBefore}
use Rattle.xr_simulation.proofs.Par.Indices.{among_index, index_among, index_of, index_once, index_within}

module _ (g : Setting) (who : Roles) (c t : ℕ) (roles : AreRoles g who) (r : Runner) (h : Acquired) (was : who c t ≡ used_by r (Some h)) (sync : ℕ) (sync_is : h.sync ≡ Some sync) (from : ℕ) (first rest : List Item) (items_of : (index : ℕ) → List Item) (sides_of : (index : ℕ) → Sides) where
  abbrev pub parent : Parent
  parent = record {
    branch = r.branch;
    from = from;
    count = suc (length h.threads);
    sync = Some sync;
    items = rest;
    sides = r.sides;
    inside = r.inside;
  }

  -- the thread itself runs the first branch
  abbrev pub own : Runner
  own = record r { branch = from; parents = parent ∷ r.parents; footprint = footprint_of first; sides = sides_of 0; transfer = None }

  -- and each that was got another one
  abbrev pub kid : (index thread : ℕ) → Runner
  kid i u = record {
    core = r.core;
    thread = u;
    tie = Some sync;
    branch = from + i;
    family = from + i;
    block = r.block;
    stack = temporary_of g.program c u;
    footprint = footprint_of (items_of i);
    parents = [];
    sides = sides_of i;
    inside = r.inside;
    transfer = None;
  }

  abbrev pub kid_role : (thread : ℕ) → Option ℕ → Role → Role
  kid_role u None old = old
  kid_role u (Some i) old = used_by (kid i u) None

  abbrev pub own_role : Bool → (here there : Role) → Role
  own_role true here there = here
  own_role false here there = there

  abbrev pub core_roles : (thread : ℕ) → Role
  core_roles u = own_role (nat_eq u t) (used_by own None) (kid_role u (index_among h.threads u) (who c u))

  abbrev pub opens : Roles
  opens = λ d u. own_role (nat_eq d c) (core_roles u) (who d u)

  -- where a role is
  pub data Place (d u : ℕ) : Type 0 where
    at_own : d ≡ c → u ≡ t → opens d u ≡ used_by own None → Place d u
    at_kid : (i : ℕ) → d ≡ c → index_among h.threads u ≡ Some i → opens d u ≡ used_by (kid i u) None → who d u ≡ got_by t → Place d u
    elsewhere : opens d u ≡ who d u → ((d ≡ c) × (u ≡ t) → ⊥) → (d ≡ c → IsAmong h.threads u → ⊥) → Place d u

  here_core : (d u : ℕ) → d ≡ c → opens d u ≡ core_roles u
  here_core d u e = ap (λ b. own_role b (core_roles u) (who d u)) (eq-eqb d c e)

  pub own_there : opens c t ≡ used_by own None
  own_there = here_core c t refl ∙ ap (λ b. own_role b (used_by own None) (kid_role t (index_among h.threads t) (who c t))) (eq-eqb t t refl)

  kid_core : (u : ℕ) (o : Option ℕ) → u ≢ t → index_among h.threads u ≡ o → core_roles u ≡ kid_role u o (who c u)
  kid_core u o ne e = ap (λ b. own_role b (used_by own None) (kid_role u (index_among h.threads u) (who c u))) (ne_eqb u t ne) ∙ ap (λ k. kid_role u k (who c u)) e

  -- a thread that was got is another one
  pub not_own : (u : ℕ) → IsAmong h.threads u → u ≢ t
  not_own u m e = let both : got_by t ≡ used_by r (Some h) = sym (roles.held c t u r (Some h) was m) ∙ ap (who c) e ∙ was in cc

  pub kid_there : (u i : ℕ) → index_among h.threads u ≡ Some i → opens c u ≡ used_by (kid i u) None
  kid_there u i e = here_core c u refl ∙ kid_core u (Some i) (not_own u (index_within h.threads u i e).0) e

  place_by : (d u : ℕ) (o : Option ℕ) → d ≡ c → u ≢ t → index_among h.threads u ≡ o → Place d u
  place_by d u None e ne is = elsewhere (here_core d u e ∙ kid_core u None ne is ∙ ap (λ k. who k u) (sym e)) (λ k. ne k.1) (λ f m. let k = among_index h.threads u m in let both : None ≡ Some k.0 = sym is ∙ k.1 in cc)
  place_by d u (Some i) e ne is = at_kid i e is (ap (λ k. opens k u) e ∙ kid_there u i is) (ap (λ k. who k u) e ∙ roles.held c t u r (Some h) was (index_within h.threads u i is).0)

  pub place : (d u : ℕ) → Place d u
  place d u =
      ⊎_elim
      (λ (same : d ≡ c).
      ⊎_elim
      (λ (here : u ≡ t). at_own same here (ap (λ k. opens k u) same ∙ ap (opens c) here ∙ own_there))
      (λ (ne : u ≢ t). place_by d u (index_among h.threads u) same ne refl)
      (cases_eq u t))
      (λ (ne : d ≢ c). elsewhere (ap (λ b. own_role b (core_roles u) (who d u)) (ne_eqb d c ne)) (λ k. ne k.0) (λ e m. ne e))
      (cases_eq d c)

  was_own : (d u : ℕ) → d ≡ c → u ≡ t → who d u ≡ used_by r (Some h)
  was_own d u e f = ap (λ k. who k u) e ∙ ap (who c) f ∙ was

  -- Each role is a runner's own, a new one's, or what it was.

  in_use : (d u : ℕ) → opens d u ≢ unused → Place d u → who d u ≢ unused
  in_use d u some (at_own e f now) is = let both : used_by r (Some h) ≡ unused = sym (was_own d u e f) ∙ is in cc
  in_use d u some (at_kid i e among now old) is = let both : got_by t ≡ unused = sym old ∙ is in cc
  in_use d u some (elsewhere same not_own no_kid) is = some (same ∙ is)

  -- who owns a synchroniser owned it before
  owned_by : (d u n : ℕ) (s : Runner) (other : Option Acquired) → opens d u ≡ used_by s other → Owns s other n → Place d u → (q : Runner) × (hand : Option Acquired) × (who d u ≡ used_by q hand) × Owns q hand n
  owned_by d u n s other is owns (at_own e f now) =
      let both : used_by own None ≡ used_by s other = sym now ∙ is in
      let owns' : Owns own None n = subst (λ i. Owns i None n) (sym (same_runner own s None other both)) (subst (λ k. Owns s k n) (sym (same_hand own s None other both)) owns) in
      (r, Some h, was_own d u e f, by owns')
    where
      by : Owns own None n → Owns r (Some h) n
      by (inl (inl same)) = inr (sync_is ∙ ap Some (sym same))
      by (inl (inr further)) = inl further
      by (inr none) = let z : None ≡ Some n = none in absurd (let y : ⊥ = cc in y)
  owned_by d u n s other is owns (at_kid i e among now old) =
      let both : used_by (kid i u) None ≡ used_by s other = sym now ∙ is in
      let owns' : Owns (kid i u) None n = subst (λ q. Owns q None n) (sym (same_runner (kid i u) s None other both)) (subst (λ k. Owns s k n) (sym (same_hand (kid i u) s None other both)) owns) in
      absurd (⊎_elim (λ (m : IsAmong [] n). m) (λ (none : None ≡ Some n). let y : ⊥ = cc in y) owns')
  owned_by d u n s other is owns (elsewhere same not_own no_kid) = (s, other, sym same ∙ is, owns)

  pub owned_before : (d u n : ℕ) (s : Runner) (other : Option Acquired) → opens d u ≡ used_by s other → Owns s other n → (q : Runner) × (hand : Option Acquired) × (who d u ≡ used_by q hand) × Owns q hand n
  owned_before d u n s other is owns = owned_by d u n s other is owns (place d u)

  -- a runner is there still, with those that wait for it
  pub record IsStill (d u : ℕ) (s : Runner) : Type 0 where
    pub runner : Runner
    pub hand : Option Acquired
    pub is : opens d u ≡ used_by runner hand
    pub tie : runner.tie ≡ s.tie
    pub family : runner.family ≡ s.family
    pub parents : (q : Parent) → IsParent s.parents q → IsParent runner.parents q

  still_by : (d u : ℕ) (s : Runner) (other : Option Acquired) → who d u ≡ used_by s other → Place d u → IsStill d u s
  still_by d u s other is (at_own e f now) =
      let same = same_runner r s (Some h) other (sym (was_own d u e f) ∙ is) in
      record {
        runner = own;
        hand = None;
        is = now;
        tie = ap (λ (i : Runner). i.tie) same;
        family = ap (λ (i : Runner). i.family) same;
        parents = λ q m. inr (subst (λ (i : Runner). IsParent i.parents q) (sym same) m);
      }
  still_by d u s other is (at_kid i e among now old) = let both : got_by t ≡ used_by s other = sym old ∙ is in absurd (let z : ⊥ = cc in z)
  still_by d u s other is (elsewhere same not_own no_kid) = record { runner = s; hand = other; is = same ∙ is; tie = refl; family = refl; parents = λ q m. m }

  pub still : (d u : ℕ) (s : Runner) (other : Option Acquired) → who d u ≡ used_by s other → IsStill d u s
  still d u s other is = still_by d u s other is (place d u)

  -- Each thread is in the transfer in which it was, where the runner is in none.
  pub opens_transfers : r.transfer ≡ None → TransfersAsBefore who opens
  opens_transfers none = record {
    before = λ d u i other transfer at its. before_by d u i other transfer at its (place d u);
    still = λ d u i other transfer at its. still_inside d u i other transfer at its (place d u);
  }
    where
      before_by : (d u : ℕ) (i : Runner) (other : Option Acquired) (transfer : Transfer) → opens d u ≡ used_by i other → i.transfer ≡ Some transfer → Place d u → (j : Runner) × (old : Option Acquired) × (who d u ≡ used_by j old) × (j.transfer ≡ Some transfer)
      before_by d u i other transfer at its (at_own e f now) = let in_none : None ≡ Some transfer = ap (λ (k : Runner). k.transfer) (same_runner own i None other (sym now ∙ at)) ∙ its in absurd (let z : ⊥ = cc in z)
      before_by d u i other transfer at its (at_kid k e among now old) = let in_none : None ≡ Some transfer = ap (λ (q : Runner). q.transfer) (same_runner (kid k u) i None other (sym now ∙ at)) ∙ its in absurd (let z : ⊥ = cc in z)
      before_by d u i other transfer at its (elsewhere same apart no_kid) = (i, other, sym same ∙ at, its)

      still_inside : (d u : ℕ) (i : Runner) (other : Option Acquired) (transfer : Transfer) → who d u ≡ used_by i other → i.transfer ≡ Some transfer → Place d u → (j : Runner) × (now : Option Acquired) × (opens d u ≡ used_by j now) × (j.transfer ≡ Some transfer)
      still_inside d u i other transfer at its (at_own e f now) = let in_none : None ≡ Some transfer = sym none ∙ ap (λ (k : Runner). k.transfer) (same_runner r i (Some h) other (sym (was_own d u e f) ∙ at)) ∙ its in absurd (let z : ⊥ = cc in z)
      still_inside d u i other transfer at its (at_kid k e among now old) = let both : got_by t ≡ used_by i other = sym old ∙ at in absurd (let z : ⊥ = cc in z)
      still_inside d u i other transfer at its (elsewhere same apart no_kid) = (i, other, same ∙ at, its)

  -- The new branches are nobody's yet.
  module _ (below : (d u b : ℕ) (s : Runner) (other : Option Acquired) → who d u ≡ used_by s other → IsAmong (own_branches s) b → b < from) where
    -- whose a branch is
    data Whose (d u b : ℕ) (s : Runner) : Type 0 where
      old_one : (q : Runner) (hand : Option Acquired) → who d u ≡ used_by q hand → IsAmong (own_branches q) b → b < from → Whose d u b s
      new_first : d ≡ c → u ≡ t → b ≡ from → Whose d u b s
      new_other : (i : ℕ) → d ≡ c → index_among h.threads u ≡ Some i → b ≡ from + i → Whose d u b s

    whose_by : (d u b : ℕ) (s : Runner) (other : Option Acquired) → opens d u ≡ used_by s other → IsAmong (own_branches s) b → Place d u → Whose d u b s
    whose_by d u b s other is m (at_own e f now) =
        ⊎_elim
        (λ (same : b ≡ from). new_first e f same)
        (λ (more : IsAmong (own_branches r) b). old_one r (Some h) (was_own d u e f) more (below d u b r (Some h) (was_own d u e f) more))
        (subst (λ i. IsAmong (own_branches i) b) (sym (same_runner own s None other (sym now ∙ is))) m)
    whose_by d u b s other is m (at_kid i e among now old) =
        ⊎_elim
        (λ (same : b ≡ from + i). new_other i e among same)
        (λ (none : IsAmong [] b). absurd none)
        (subst (λ q. IsAmong (own_branches q) b) (sym (same_runner (kid i u) s None other (sym now ∙ is))) m)
    whose_by d u b s other is m (elsewhere same not_own no_kid) = old_one s other (sym same ∙ is) m (below d u b s other (sym same ∙ is) m)

    branches_by : (d u d' u' b : ℕ) (s q : Runner) → Whose d u b s → Whose d' u' b q → (d' ≡ d) × (u' ≡ u)
    branches_by d u d' u' b s q (old_one i hand is m lt) (old_one k other its also lt') = roles.branches d u d' u' b i k hand other is its m also
    branches_by d u d' u' b s q (old_one i hand is m lt) (new_first e f same) = absurd (omega arith)
    branches_by d u d' u' b s q (old_one i hand is m lt) (new_other k e among same) = absurd (omega arith)
    branches_by d u d' u' b s q (new_first e f same) (old_one k other its also lt') = absurd (omega arith)
    branches_by d u d' u' b s q (new_first e f same) (new_first e' f' same') = (e' ∙ sym e, f' ∙ sym f)
    branches_by d u d' u' b s q (new_first e f same) (new_other k e' among same') = let some = (index_within h.threads u' k among).1 in absurd (omega arith)
    branches_by d u d' u' b s q (new_other i e among same) (old_one k other its also lt') = absurd (omega arith)
    branches_by d u d' u' b s q (new_other i e among same) (new_first e' f' same') = let some = (index_within h.threads u i among).1 in absurd (omega arith)
    branches_by d u d' u' b s q (new_other i e among same) (new_other k e' among' same') =
        let one : k ≡ i = omega arith in
        (e' ∙ sym e, index_once h.threads u u' i among (among' ∙ ap Some one))

    -- what each field says, by where a role is

    core_by : (d u : ℕ) (s : Runner) (other : Option Acquired) → opens d u ≡ used_by s other → Place d u →
        (s.core ≡ d) × (d < 4) × (s.thread ≡ u) × (s.block ≡ outside) × (s.stack ≡ temporary_of g.program d u)
    core_by d u s other is (at_own e f now) =
        let w = was_own d u e f in
        subst (λ (i : Runner). (i.core ≡ d) × (d < 4) × (i.thread ≡ u) × (i.block ≡ outside) × (i.stack ≡ temporary_of g.program d u))
        (same_runner own s None other (sym now ∙ is)) (
          roles.core d u r (Some h) w,
          roles.there d u r (Some h) w,
          roles.thread d u r (Some h) w,
          roles.block d u r (Some h) w,
          roles.stack d u r (Some h) w,
        )
    core_by d u s other is (at_kid i e among now old) =
        subst (λ (q : Runner). (q.core ≡ d) × (d < 4) × (q.thread ≡ u) × (q.block ≡ outside) × (q.stack ≡ temporary_of g.program d u))
        (same_runner (kid i u) s None other (sym now ∙ is)) (
          roles.core c t r (Some h) was ∙ sym e,
          subst (λ k. k < 4) (sym e) (roles.there c t r (Some h) was),
          refl,
          roles.block c t r
              (Some h) was,
          ap (λ k. temporary_of g.program k u) (sym e),
        )
    core_by d u s other is (elsewhere same not_own no_kid) =
        let w = sym same ∙ is in (
          roles.core d u s other w,
          roles.there d u s other w,
          roles.thread d u s other w,
          roles.block d u s other w,
          roles.stack
              d u s other w,
        )

    started_by : (d u : ℕ) (s : Runner) (other : Option Acquired) → opens d u ≡ used_by s other → Place d u → outermost s.branch s.parents ≡ s.family
    started_by d u s other is (at_own e f now) =
        subst (λ (i : Runner). outermost i.branch i.parents ≡ i.family) (same_runner own s None other (sym now ∙ is)) (roles.started d u r (Some h) (was_own d u e f))
    started_by d u s other is (at_kid i e among now old) = subst (λ (q : Runner). outermost q.branch q.parents ≡ q.family) (same_runner (kid i u) s None other (sym now ∙ is)) refl
    started_by d u s other is (elsewhere same not_own no_kid) = roles.started d u s other (sym same ∙ is)

    -- who got threads that are not run yet
    got_by_other : (d u v : ℕ) → opens d u ≡ got_by v → Place d u → (s : Runner) × (other : Option Acquired) × (opens d v ≡ used_by s other) × IsAmong (held_in other) u
    got_by_other d u v is (at_own e f now) = let both : used_by own None ≡ got_by v = sym now ∙ is in absurd (let z : ⊥ = cc in z)
    got_by_other d u v is (at_kid i e among now old) = let both : used_by (kid i u) None ≡ got_by v = sym now ∙ is in absurd (let z : ⊥ = cc in z)
    got_by_other d u v is (elsewhere same not_own no_kid) =
        let k = roles.got d u v (sym same ∙ is) in
        holder k.0 k.1 k.2 k.3 (place d v)
      where
        holder : (s : Runner) (other : Option Acquired) → who d v ≡ used_by s other → IsAmong (held_in other) u → Place d v → (q : Runner) × (more : Option Acquired) × (opens d v ≡ used_by q more) × IsAmong (held_in more) u
        holder s other its m (at_own e f now) =
            let hands = same_hand r s (Some h) other (sym (was_own d v e f) ∙ its) in
            absurd (no_kid e (subst (λ k. IsAmong (held_in k) u) (sym hands) m))
        holder s other its m (at_kid i e among now old) = let both : got_by t ≡ used_by s other = sym old ∙ its in absurd (let z : ⊥ = cc in z)
        holder s other its m (elsewhere there away free) = (s, other, there ∙ its, m)

    held_by_other : (d k u : ℕ) (s : Runner) (other : Option Acquired) → opens d k ≡ used_by s other → IsAmong (held_in other) u → Place d k → opens d u ≡ got_by k
    held_by_other d k u s other is m (at_own e f now) = absurd (subst (λ i. IsAmong (held_in i) u) (sym (same_hand own s None other (sym now ∙ is))) m)
    held_by_other d k u s other is m (at_kid i e among now old) = absurd (subst (λ q. IsAmong (held_in q) u) (sym (same_hand (kid i k) s None other (sym now ∙ is))) m)
    held_by_other d k u s other is m (elsewhere same not_own no_kid) = by (roles.held d k u s other (sym same ∙ is) m) (place d u)
      where
        by : who d u ≡ got_by k → Place d u → opens d u ≡ got_by k
        by got (at_own e f now) = let both : used_by r (Some h) ≡ got_by k = sym (was_own d u e f) ∙ got in absurd (let z : ⊥ = cc in z)
        by got (at_kid i e among now old) = let both : got_by t ≡ got_by k = sym old ∙ got in absurd (not_own (e, (let z : k ≡ t = cc in z)))
        by got (elsewhere there away free) = there ∙ got

    once_by : (d k : ℕ) (s : Runner) (other : Option Acquired) → opens d k ≡ used_by s other → Place d k → IsOnce (held_in other)
    once_by d k s other is (at_own e f now) = subst (λ i. IsOnce (held_in i)) (same_hand own s None other (sym now ∙ is)) tt
    once_by d k s other is (at_kid i e among now old) = subst (λ q. IsOnce (held_in q)) (same_hand (kid i k) s None other (sym now ∙ is)) tt
    once_by d k s other is (elsewhere same not_own no_kid) = roles.held_once d k s other (sym same ∙ is)

    owned_once_by : (d u : ℕ) (s : Runner) (other : Option Acquired) → opens d u ≡ used_by s other → Place d u → IsOnce (syncs_of s.parents)
    owned_once_by d u s other is (at_own e f now) =
        subst (λ (i : Runner). IsOnce (syncs_of i.parents)) (same_runner own s None other (sym now ∙ is))
        ((λ m. roles.owned_apart c t sync r (Some h) was m sync_is), roles.owned_once c t r (Some h) was)
    owned_once_by d u s other is (at_kid i e among now old) = subst (λ (q : Runner). IsOnce (syncs_of q.parents)) (same_runner (kid i u) s None other (sym now ∙ is)) tt
    owned_once_by d u s other is (elsewhere same not_own no_kid) = roles.owned_once d u s other (sym same ∙ is)

    apart_by : (d u n : ℕ) (s : Runner) (other : Option Acquired) → opens d u ≡ used_by s other → IsAmong (syncs_of s.parents) n → Place d u → sync_in other ≢ Some n
    apart_by d u n s other is m (at_own e f now) is_sync = let none : None ≡ Some n = ap sync_in (same_hand own s None other (sym now ∙ is)) ∙ is_sync in let z : ⊥ = cc in z
    apart_by d u n s other is m (at_kid i e among now old) is_sync = let none : None ≡ Some n = ap sync_in (same_hand (kid i u) s None other (sym now ∙ is)) ∙ is_sync in let z : ⊥ = cc in z
    apart_by d u n s other is m (elsewhere same not_own no_kid) is_sync = roles.owned_apart d u n s other (sym same ∙ is) m is_sync

    abbrev HasKid : (d n family : ℕ) → Type 0
    HasKid d n family = (u : ℕ) × (s : Runner) × (other : Option Acquired) × (opens d u ≡ used_by s other) × (s.tie ≡ Some n) × (s.family ≡ family)

    -- a branch behind the first has its thread
    old_kid : (d u n j : ℕ) (s : Runner) (other : Option Acquired) (p : Parent) → who d u ≡ used_by s other → IsParent s.parents p → p.sync ≡ Some n → 1 ≤ j → j < p.count → HasKid d n (p.from + j)
    old_kid d u n j s other p is parent_is its some few =
        let k = roles.kids d u n j s other p is parent_is its some few in
        let there = still d k.0 k.1 k.2 k.3 in
        (k.0, there.runner, there.hand, there.is, there.tie ∙ k.4, there.family ∙ k.5)

    kids_by : (d u n j : ℕ) (s : Runner) (other : Option Acquired) (p : Parent) → opens d u ≡ used_by s other → IsParent s.parents p → p.sync ≡ Some n → 1 ≤ j → j < p.count → Place d u → HasKid d n (p.from + j)
    kids_by d u n j s other p is parent_is its some few (at_own e f now) =
        ⊎_elim
        (λ (same : p ≡ parent).
        let count : p.count ≡ suc (length h.threads) = ap (λ (i : Parent). i.count) same in
        let k = index_of h.threads j (roles.held_once c t r (Some h) was) some (omega arith) in
        let sync_now : Some sync ≡ Some n = sym (ap (λ (i : Parent). i.sync) same) ∙ its in
        (k.0, kid j k.0, None, ap (λ i. opens i k.0) e ∙ kid_there k.0 j k.1, sync_now, ap (λ (i : Parent). i.from + j) (sym same)))
        (λ (further : IsParent r.parents p). old_kid d u n j r (Some h) p (was_own d u e f) further its some few)
        (subst (λ (i : Runner). IsParent i.parents p) (sym (same_runner own s None other (sym now ∙ is))) parent_is)
    kids_by d u n j s other p is parent_is its some few (at_kid i e among now old) = absurd (subst (λ (q : Runner). IsParent q.parents p) (sym (same_runner (kid i u) s None other (sym now ∙ is))) parent_is)
    kids_by d u n j s other p is parent_is its some few (elsewhere same not_own no_kid) = old_kid d u n j s other p (sym same ∙ is) parent_is its some few

    abbrev HasOwner : (d n family : ℕ) → Type 0
    HasOwner d n family =
        (u : ℕ) × (j : ℕ) × (q : Runner) × (hand : Option Acquired) × (p : Parent) × (opens d u ≡ used_by q hand) × IsParent q.parents p
        × (p.sync ≡ Some n) × (1 ≤ j) × (j < p.count) × (family ≡ p.from + j)

    -- and the other way round
    old_owner : (d u n : ℕ) (s : Runner) (other : Option Acquired) → who d u ≡ used_by s other → s.tie ≡ Some n → HasOwner d n s.family
    old_owner d u n s other is tie =
        let k = roles.tied d u n s other is tie in
        let there = still d k.0 k.2 k.3 k.5 in
        (k.0, k.1, there.runner, there.hand, k.4, there.is, there.parents k.4 k.6, k.7, k.8, k.9, k.10)

    tied_by : (d u n : ℕ) (s : Runner) (other : Option Acquired) → opens d u ≡ used_by s other → s.tie ≡ Some n → Place d u → HasOwner d n s.family
    tied_by d u n s other is tie (at_own e f now) =
        let same = same_runner own s None other (sym now ∙ is) in
        subst (λ (i : Runner). HasOwner d n i.family) same (old_owner d u n r (Some h) (was_own d u e f) (ap (λ (i : Runner). i.tie) same ∙ tie))
    tied_by d u n s other is tie (at_kid i e among now old) =
        let same = same_runner (kid i u) s None other (sym now ∙ is) in
        let sync_now : Some sync ≡ Some n = ap (λ (q : Runner). q.tie) same ∙ tie in
        let within = index_within h.threads u i among in
        subst (λ (q : Runner). HasOwner d n q.family) same
        (t, i, own, None, parent, ap (λ k. opens k t) e ∙ own_there, inl refl, sync_now, within.1, (let le = within.2 in omega arith), refl)
    tied_by d u n s other is tie (elsewhere same not_own no_kid) = old_owner d u n s other (sym same ∙ is) tie

    untied_by : (d u : ℕ) (s : Runner) (other : Option Acquired) → opens d u ≡ used_by s other → s.tie ≡ None → Place d u → s.family < length g.program.roots
    untied_by d u s other is tie (at_own e f now) =
        let same = same_runner own s None other (sym now ∙ is) in
        subst (λ (i : Runner). i.family < length g.program.roots) same (roles.untied d u r (Some h) (was_own d u e f) (ap (λ (i : Runner). i.tie) same ∙ tie))
    untied_by d u s other is tie (at_kid i e among now old) =
        let none : Some sync ≡ None = ap (λ (q : Runner). q.tie) (same_runner (kid i u) s None other (sym now ∙ is)) ∙ tie in
        absurd (let z : ⊥ = cc in z)
    untied_by d u s other is tie (elsewhere same not_own no_kid) = roles.untied d u s other (sym same ∙ is) tie

    -- so the roles go with each other behind that
    pub roles_open : AreRoles g opens
    roles_open = record {
      core = λ d u s other is. (core_by d u s other is (place d u)).0;
      there = λ d u s other is. (core_by d u s other is (place d u)).1;
      thread = λ d u s other is. (core_by d u s other is (place d u)).2;
      few = λ d u some. roles.few d u (in_use d u some (place d u));
      inside = λ d u some. roles.inside d u (in_use d u some (place d u));
      block = λ d u s other is. (core_by d u s other is (place d u)).3;
      stack = λ d u s other is. (core_by d u s other is (place d u)).4;
      started = λ d u s other is. started_by d u s other is (place d u);
      branches = λ d u d' u' b s q hand other is its m also. branches_by d u d' u' b s q (whose_by d u b s hand is m (place d u)) (whose_by d' u' b q other its also (place d' u'));
      got = λ d u v is. got_by_other d u v is (place d u);
      held = λ d k u s other is m. held_by_other d k u s other is m (place d k);
      held_once = λ d k s other is. once_by d k s other is (place d k);
      owner = λ d u v n s q hand other is its owns also.
          let a = owned_before d u n s hand is owns in
          let b = owned_before d v n q other its also in
          roles.owner d u v n a.0 b.0 a.1 b.1 a.2 b.2 a.3 b.3;
      owned_once = λ d u s other is. owned_once_by d u s other is (place d u);
      owned_apart = λ d u n s other is m. apart_by d u n s other is m (place d u);
      kids = λ d u n j s other p is parent_is its some few. kids_by d u n j s other p is parent_is its some few (place d u);
      tied = λ d u n s other is tie. tied_by d u n s other is tie (place d u);
      untied = λ d u s other is tie. untied_by d u s other is tie (place d u);
    }
