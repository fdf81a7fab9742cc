-- Threads keep their places while the branches that they run go on.
use Rattle.std.proofs.Common.{◌≡◌, ℕ, ◌<◌, ◌≢◌, ◌⊎◌, inl, inr, [], length, Option, Some, None, refl, sym, ap, ◌∙◌, subst, ⊎_elim, eq-eqb}
use Rattle.std.specs.Prelude.{Bool, true, false, ◌&&◌, nat_eq}
use Rattle.std.proofs.lemmas.Bool.{cases_eq, ne_eqb}
use Rattle.xc_disjoint.specs.Needs.{threads_on}
use Rattle.xl_par.specs.Acquired.{Acquired, IsAmong}
use Rattle.xr_simulation.specs.Parents.{Parent, syncs_of}
use Rattle.xr_simulation.specs.Roles.{AreRoles, IsOnce, IsParent, Role, Roles, got_by, outermost, own_branches, unused, used_by}
use Rattle.xr_simulation.specs.Runners.{Setting, Runner}
use Rattle.xr_simulation.specs.ThreadViews.{Owns, held_in, sync_in}
use Rattle.xr_simulation.proofs.Relation.CoreSteps.{same_hand, same_runner}

-- one thread has another role
abbrev pub role_by : Bool → (here there : Role) → Role
role_by true here there = here
role_by false here there = there

abbrev pub with_role : Roles → (core thread : ℕ) → Role → Roles
with_role who c t role = λ d u. role_by (nat_eq d c && nat_eq u t) role (who d u)

pub role_here : (who : Roles) (c t : ℕ) (role : Role) → with_role who c t role c t ≡ role
role_here who c t role = ap (λ b. role_by (b && nat_eq t t) role (who c t)) (eq-eqb c c refl) ∙ ap (λ b. role_by b role (who c t)) (eq-eqb t t refl)

pub role_far : (who : Roles) (c t : ℕ) (role : Role) (d u : ℕ) → d ≢ c → with_role who c t role d u ≡ who d u
role_far who c t role d u ne = ap (λ b. role_by (b && nat_eq u t) role (who d u)) (ne_eqb d c ne)

pub role_other : (who : Roles) (c t : ℕ) (role : Role) (u : ℕ) → u ≢ t → with_role who c t role c u ≡ who c u
role_other who c t role u ne = ap (λ b. role_by (b && nat_eq u t) role (who c u)) (eq-eqb c c refl) ∙ ap (λ b. role_by b role (who c u)) (ne_eqb u t ne)

-- a role is the new one, or an old one elsewhere
pub role_cases : (who : Roles) (c t : ℕ) (role : Role) (d u : ℕ) →
    ((d ≡ c) × (u ≡ t) × (with_role who c t role d u ≡ role)) ⊎ (((d ≡ c) × (u ≡ t) → ⊥) × (with_role who c t role d u ≡ who d u))
role_cases who c t role d u =
    ⊎_elim
    (λ (same : d ≡ c).
    ⊎_elim
    (λ (at : u ≡ t). inl (same, at, ap (λ k. with_role who c t role k u) same ∙ ap (with_role who c t role c) at ∙ role_here who c t role))
    (λ (ne : u ≢ t). inr ((λ h. ne h.1), ap (λ k. with_role who c t role k u) same ∙ role_other who c t role u ne ∙ ap (λ k. who k u) (sym same)))
    (cases_eq u t))
    (λ (ne : d ≢ c). inr ((λ h. ne h.0), role_far who c t role d u ne))
    (cases_eq d c)

-- nobody's branch, and nobody's synchroniser on a core
abbrev pub IsNobodys : Roles → (branch : ℕ) → Type 0
IsNobodys who b = (d u : ℕ) (s : Runner) (other : Option Acquired) → who d u ≡ used_by s other → IsAmong (own_branches s) b → ⊥

abbrev pub IsUnowned : Roles → (core sync : ℕ) → Type 0
IsUnowned who c n = (u : ℕ) (s : Runner) (other : Option Acquired) → who c u ≡ used_by s other → Owns s other n → ⊥

-- a runner in the place of another: the same thread in the same life, whose branches are those of the same branch
pub record IsSeated (s r : Runner) : Type 0 where
  pub core : s.core ≡ r.core
  pub thread : s.thread ≡ r.thread
  pub tie : s.tie ≡ r.tie
  pub family : s.family ≡ r.family
  pub block : s.block ≡ r.block
  pub stack : s.stack ≡ r.stack
  pub outermost_is : outermost s.branch s.parents ≡ outermost r.branch r.parents
  pub syncs : syncs_of s.parents ≡ syncs_of r.parents
  pub there : (p : Parent) (n : ℕ) → p.sync ≡ Some n → IsParent s.parents p → IsParent r.parents p
  pub still : (p : Parent) (n : ℕ) → p.sync ≡ Some n → IsParent r.parents p → IsParent s.parents p

pub seated_itself : (r : Runner) → IsSeated r r
seated_itself r = record {
  core = refl;
  thread = refl;
  tie = refl;
  family = refl;
  block = refl;
  stack = refl;
  outermost_is = refl;
  syncs = refl;
  there = λ p n e h. h;
  still = λ p n e h. h;
}

-- a runner in the place of one that stood there; what it has beside that is new
pub record Seat (who : Roles) (c t d u : ℕ) (s : Runner) (other : Option Acquired) : Type 0 where
  pub runner : Runner
  pub hand : Option Acquired
  pub was : who d u ≡ used_by runner hand
  pub seated : IsSeated s runner
  pub sync : (n : ℕ) → sync_in other ≡ Some n → (sync_in hand ≡ Some n) ⊎ (((d ≡ c) × (u ≡ t)) × IsUnowned who d n)
  pub branches : (b : ℕ) → IsAmong (own_branches s) b → IsAmong (own_branches runner) b ⊎ (((d ≡ c) × (u ≡ t)) × IsNobodys who b)

-- and one in whose place there is one still
pub record SeatStill (who' : Roles) (d u : ℕ) (r : Runner) : Type 0 where
  pub runner : Runner
  pub hand : Option Acquired
  pub is : who' d u ≡ used_by runner hand
  pub seated : IsSeated runner r

-- Thread t of core c alone may have branches and a synchroniser that are new. A runner that leaves its place was tied to nothing, and nobody
-- waited on its thread.
pub record AreSeated (who who' : Roles) (c t : ℕ) : Type 0 where
  pub before : (d u : ℕ) (s : Runner) (other : Option Acquired) → who' d u ≡ used_by s other → Seat who c t d u s other
  pub behind : (d u : ℕ) (r : Runner) (hand : Option Acquired) → who d u ≡ used_by r hand → ((r.tie ≡ None) × (r.parents ≡ [])) ⊎ SeatStill who' d u r

-- who got which threads goes with who holds them, and all are within the core's need
pub record AreHeld (g : Setting) (who : Roles) : Type 0 where
  pub few : (c t : ℕ) → who c t ≢ unused → t < 8
  pub inside : (c t : ℕ) → who c t ≢ unused → t < threads_on g.program c
  pub got : (c u t : ℕ) → who c u ≡ got_by t → (r : Runner) × (hand : Option Acquired) × (who c t ≡ used_by r hand) × IsAmong (held_in hand) u
  pub held : (c t u : ℕ) (r : Runner) (hand : Option Acquired) → who c t ≡ used_by r hand → IsAmong (held_in hand) u → who c u ≡ got_by t
  pub held_once : (c t : ℕ) (r : Runner) (hand : Option Acquired) → who c t ≡ used_by r hand → IsOnce (held_in hand)

module _ (g : Setting) (who who' : Roles) (c t : ℕ) (roles : AreRoles g who) (seated : AreSeated who who' c t) where
  -- what a runner owns it owned, or nobody did
  owned_before : (d u n : ℕ) (s : Runner) (other : Option Acquired) → who' d u ≡ used_by s other → Owns s other n →
      ((r : Runner) × (hand : Option Acquired) × (who d u ≡ used_by r hand) × Owns r hand n) ⊎ (((d ≡ c) × (u ≡ t)) × IsUnowned who d n)
  owned_before d u n s other is (inl m) =
      let q = seated.before d u s other is in
      inl (q.runner, q.hand, q.was, inl (subst (λ l. IsAmong l n) q.seated.syncs m))
  owned_before d u n s other is (inr e) =
      let q = seated.before d u s other is in
      ⊎_elim (λ (old : sync_in q.hand ≡ Some n). inl (q.runner, q.hand, q.was, inr old)) (λ new. inr new) (q.sync n e)

  owner_still : (d u v n : ℕ) (s i : Runner) (other hand : Option Acquired) → who' d u ≡ used_by s other → who' d v ≡ used_by i hand → Owns s other n → Owns i hand n → v ≡ u
  owner_still d u v n s i other hand is its owns also =
      ⊎_elim
      (λ old.
      ⊎_elim
      (λ older. roles.owner d u v n old.0 older.0 old.1 older.1 old.2 older.2 old.3 older.3)
      (λ new. absurd (new.1 u old.0 old.1 old.2 old.3))
      (owned_before d v n i hand its also))
      (λ new.
      ⊎_elim
      (λ older. absurd (new.1 v older.0 older.1 older.2 older.3))
      (λ newer. newer.0.1 ∙ sym new.0.1)
      (owned_before d v n i hand its also))
      (owned_before d u n s other is owns)

  branches_still : (d u d' u' b : ℕ) (s i : Runner) (other hand : Option Acquired) → who' d u ≡ used_by s other → who' d' u' ≡ used_by i hand → IsAmong (own_branches s) b → IsAmong (own_branches i) b → (d' ≡ d) × (u' ≡ u)
  branches_still d u d' u' b s i other hand is its m also =
      let q = seated.before d u s other is in
      let k = seated.before d' u' i hand its in
      ⊎_elim
      (λ (old : IsAmong (own_branches q.runner) b).
      ⊎_elim
      (λ (older : IsAmong (own_branches k.runner) b). roles.branches d u d' u' b q.runner k.runner q.hand k.hand q.was k.was old older)
      (λ new. absurd (new.1 d u q.runner q.hand q.was old))
      (k.branches b also))
      (λ new.
      ⊎_elim
      (λ (older : IsAmong (own_branches k.runner) b). absurd (new.1 d' u' k.runner k.hand k.was older))
      (λ newer. (newer.0.0 ∙ sym new.0.0, newer.0.1 ∙ sym new.0.1))
      (k.branches b also))
      (q.branches b m)

  -- then the roles go with each other as before
  pub roles_seated : AreHeld g who' → AreRoles g who'
  roles_seated held = record {
    core = λ d u s other is. let q = seated.before d u s other is in q.seated.core ∙ roles.core d u q.runner q.hand q.was;
    there = λ d u s other is. let q = seated.before d u s other is in roles.there d u q.runner q.hand q.was;
    thread = λ d u s other is. let q = seated.before d u s other is in q.seated.thread ∙ roles.thread d u q.runner q.hand q.was;
    few = held.few;
    inside = held.inside;
    block = λ d u s other is. let q = seated.before d u s other is in q.seated.block ∙ roles.block d u q.runner q.hand q.was;
    stack = λ d u s other is. let q = seated.before d u s other is in q.seated.stack ∙ roles.stack d u q.runner q.hand q.was;
    started = λ d u s other is. let q = seated.before d u s other is in q.seated.outermost_is ∙ roles.started d u q.runner q.hand q.was ∙ sym q.seated.family;
    branches = λ d u d' u' b s i other hand is its m also. branches_still d u d' u' b s i other hand is its m also;
    got = held.got;
    held = held.held;
    held_once = held.held_once;
    owner = λ d u v n s i other hand is its owns also. owner_still d u v n s i other hand is its owns also;
    owned_once = λ d u s other is. let q = seated.before d u s other is in subst IsOnce (sym q.seated.syncs) (roles.owned_once d u q.runner q.hand q.was);
    owned_apart = λ d u n s other is m e.
        let q = seated.before d u s other is in
        let old = subst (λ l. IsAmong l n) q.seated.syncs m in
        ⊎_elim
        (λ (f : sync_in q.hand ≡ Some n). roles.owned_apart d u n q.runner q.hand q.was old f)
        (λ new. new.1 u q.runner q.hand q.was (inl old))
        (q.sync n e);
    kids = λ d u n j s other p is parent sync some few.
        let q = seated.before d u s other is in
        let k = roles.kids d u n j q.runner q.hand p q.was (q.seated.there p n sync parent) sync some few in
        let tie : k.1.tie ≡ Some n = k.4 in
        ⊎_elim
        (λ bare. let none : None ≡ Some n = sym bare.0 ∙ tie in absurd (none_is_some n none))
        (λ (still : SeatStill who' d k.0 k.1). (k.0, still.runner, still.hand, still.is, still.seated.tie ∙ tie, still.seated.family ∙ k.5))
        (seated.behind d k.0 k.1 k.2 k.3);
    tied = λ d u n s other is tie.
        let q = seated.before d u s other is in
        let k = roles.tied d u n q.runner q.hand q.was (sym q.seated.tie ∙ tie) in
        ⊎_elim
        (λ bare. absurd (subst (λ l. IsParent l k.4) bare.1 k.6))
        (λ (still : SeatStill who' d k.0 k.2).
        (k.0, k.1, still.runner, still.hand, k.4, still.is, still.seated.still k.4 n k.7 k.6, k.7, k.8, k.9, q.seated.family ∙ k.10))
        (seated.behind d k.0 k.2 k.3 k.5);
    untied = λ d u s other is tie.
        let q = seated.before d u s other is in
        subst (λ f. f < length g.program.roots) (sym q.seated.family) (roles.untied d u q.runner q.hand q.was (sym q.seated.tie ∙ tie));
  }
    where
      none_is_some : (n : ℕ) → ◌≡◌ {A = Option ℕ} None (Some n) → ⊥
      none_is_some n e = cc

-- One runner goes on where it was, with as many threads in hand; its synchroniser is the one that it had, or nobody's.
module _ (g : Setting) (who : Roles) (c t : ℕ) (roles : AreRoles g who) (r : Runner) (hand : Option Acquired) (was : who c t ≡ used_by r hand) (s : Runner) (hand' : Option Acquired) where
  abbrev pub goes_on : Roles
  goes_on = with_role who c t (used_by s hand')

  pub record GoesOn : Type 0 where
    pub seated : IsSeated s r
    pub held : held_in hand' ≡ held_in hand
    pub sync : (n : ℕ) → sync_in hand' ≡ Some n → (sync_in hand ≡ Some n) ⊎ IsUnowned who c n
    pub branches : (b : ℕ) → IsAmong (own_branches s) b → IsAmong (own_branches r) b ⊎ IsNobodys who b

  -- who got a thread did so before, and the other way round
  pub got_as_before : (d u v : ℕ) → goes_on d u ≡ got_by v → who d u ≡ got_by v
  got_as_before d u v is =
      ⊎_elim
      (λ here. let both : used_by s hand' ≡ got_by v = sym here.2 ∙ is in cc)
      (λ other. sym other.1 ∙ is)
      (role_cases who c t (used_by s hand') d u)

  pub got_still : (d u v : ℕ) → who d u ≡ got_by v → goes_on d u ≡ got_by v
  got_still d u v is =
      ⊎_elim
      (λ here. let both : used_by r hand ≡ got_by v = sym was ∙ sym (ap (λ k. who k u) here.0 ∙ ap (who c) here.1) ∙ is in cc)
      (λ other. other.1 ∙ is)
      (role_cases who c t (used_by s hand') d u)

  pub in_use_before : (d u : ℕ) → goes_on d u ≢ unused → who d u ≢ unused
  in_use_before d u h is =
      ⊎_elim
      (λ here. let both : used_by r hand ≡ unused = sym was ∙ sym (ap (λ k. who k u) here.0 ∙ ap (who c) here.1) ∙ is in cc)
      (λ other. h (other.1 ∙ is))
      (role_cases who c t (used_by s hand') d u)

  module _ (on : GoesOn) where
    -- each runner was there before
    before : (d u : ℕ) (i : Runner) (other : Option Acquired) → goes_on d u ≡ used_by i other → Seat who c t d u i other
    before d u i other is =
        ⊎_elim
        (λ here.
        let both : used_by s hand' ≡ used_by i other = sym here.2 ∙ is in
        let same = same_runner s i hand' other both in
        let hands = same_hand s i hand' other both in
        record {
          runner = r;
          hand = hand;
          was = ap (λ k. who k u) here.0 ∙ ap (who c) here.1 ∙ was;
          seated = subst (λ k. IsSeated k r) same on.seated;
          sync = λ n e. ⊎_elim (λ (old : sync_in hand ≡ Some n). inl old) (λ new. inr ((here.0, here.1), subst (λ k. IsUnowned who k n) (sym here.0) new)) (on.sync n (ap sync_in hands ∙ e));
          branches = λ b m. ⊎_elim (λ (old : IsAmong (own_branches r) b). inl old) (λ new. inr ((here.0, here.1), new)) (on.branches b (subst (λ k. IsAmong (own_branches k) b) (sym same) m));
        })
        (λ there. record {
          runner = i;
          hand = other;
          was = sym there.1 ∙ is;
          seated = seated_itself i;
          sync = λ n e. inl e;
          branches = λ b m. inl m;
        })
        (role_cases who c t (used_by s hand') d u)

    -- and each is there still
    behind : (d u : ℕ) (i : Runner) (other : Option Acquired) → who d u ≡ used_by i other → ((i.tie ≡ None) × (i.parents ≡ [])) ⊎ SeatStill goes_on d u i
    behind d u i other is =
        ⊎_elim
        (λ here.
        let both : used_by r hand ≡ used_by i other = sym was ∙ sym (ap (λ k. who k u) here.0 ∙ ap (who c) here.1) ∙ is in
        inr (record { runner = s; hand = hand'; is = here.2; seated = subst (IsSeated s) (same_runner r i hand other both) on.seated }))
        (λ there. inr (record { runner = i; hand = other; is = there.1 ∙ is; seated = seated_itself i }))
        (role_cases who c t (used_by s hand') d u)

    -- who holds what is as before
    holds : (d u v : ℕ) (i : Runner) (other : Option Acquired) → goes_on d u ≡ used_by i other → (j : Runner) × (old : Option Acquired) × (who d u ≡ used_by j old) × (held_in other ≡ held_in old)
    holds d u v i other is =
        ⊎_elim
        (λ here. (r, hand, ap (λ k. who k u) here.0 ∙ ap (who c) here.1 ∙ was, ap held_in (sym (same_hand s i hand' other (sym here.2 ∙ is))) ∙ on.held))
        (λ there. (i, other, sym there.1 ∙ is, refl))
        (role_cases who c t (used_by s hand') d u)

    holder : (d u v : ℕ) (i : Runner) (other : Option Acquired) → who d u ≡ used_by i other → IsAmong (held_in other) v → (j : Runner) × (new : Option Acquired) × (goes_on d u ≡ used_by j new) × IsAmong (held_in new) v
    holder d u v i other is m =
        ⊎_elim
        (λ here.
        let both : used_by r hand ≡ used_by i other = sym was ∙ sym (ap (λ k. who k u) here.0 ∙ ap (who c) here.1) ∙ is in
        (s, hand', here.2, subst (λ l. IsAmong l v) (sym on.held) (subst (λ k. IsAmong (held_in k) v) (sym (same_hand r i hand other both)) m)))
        (λ there. (i, other, there.1 ∙ is, m))
        (role_cases who c t (used_by s hand') d u)

    pub roles_go_on : AreRoles g goes_on
    roles_go_on = roles_seated g who goes_on c t roles (record { before = before; behind = behind }) (record {
      few = λ d u h. roles.few d u (in_use_before d u h);
      inside = λ d u h. roles.inside d u (in_use_before d u h);
      got = λ d u v is. let k = roles.got d u v (got_as_before d u v is) in holder d v u k.0 k.1 k.2 k.3;
      held = λ d u v i other is m. let k = holds d u v i other is in got_still d v u (roles.held d u v k.0 k.1 k.2 (subst (λ l. IsAmong l v) k.3 m));
      held_once = λ d u i other is. let k = holds d u 0 i other is in subst IsOnce (sym k.3) (roles.held_once d u k.0 k.1 k.2);
    })
