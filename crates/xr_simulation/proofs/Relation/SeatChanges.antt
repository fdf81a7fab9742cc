-- A thread leaves its place, or gets another thread.
use Rattle.std.proofs.Common.{◌≡◌, ℕ, ◌<◌, ◌≢◌, ◌⊎◌, inl, inr, [], Option, Some, None, sym, ap, ◌∙◌, subst, ⊎_elim}
use Rattle.xc_disjoint.specs.Needs.{threads_on}
use Rattle.xl_par.specs.Acquired.{Acquired, IsAmong, with_thread_got}
use Rattle.xr_simulation.specs.Roles.{AreRoles, IsOnce, Role, Roles, got_by, own_branches, unused, used_by}
use Rattle.xr_simulation.specs.Runners.{Setting, Runner}
use Rattle.xr_simulation.specs.ThreadViews.{held_in, sync_in}
use Rattle.xr_simulation.proofs.Relation.CoreSteps.{same_hand, same_runner}
use Rattle.xr_simulation.proofs.Relation.Seats.{IsSeated, Seat, SeatStill, role_cases, role_here, role_other, roles_seated, seated_itself, with_role}

-- a runner that is tied to nothing, with nothing in hand, leaves its place
module _ (g : Setting) (who : Roles) (c t : ℕ) (roles : AreRoles g who) (r : Runner) (was : who c t ≡ used_by r None) (tie : r.tie ≡ None) (parents : r.parents ≡ []) where
  abbrev pub leaves : Roles
  leaves = with_role who c t unused

  -- a role that is none of unused was there before
  there_before : (d u : ℕ) (role : Role) → leaves d u ≡ role → role ≢ unused → who d u ≡ role
  there_before d u role is ne = ⊎_elim (λ here. absurd (ne (sym is ∙ here.2))) (λ other. sym other.1 ∙ is) (role_cases who c t unused d u)

  -- and one that is not the runner's is there still
  there_still : (d u : ℕ) (role : Role) → who d u ≡ role → role ≢ used_by r None → leaves d u ≡ role
  there_still d u role is ne = ⊎_elim (λ here. absurd (ne (sym is ∙ ap (λ k. who k u) here.0 ∙ ap (who c) here.1 ∙ was))) (λ other. other.1 ∙ is) (role_cases who c t unused d u)

  runs_not_unused : (s : Runner) (other : Option Acquired) → used_by s other ≢ unused
  runs_not_unused s other e = cc

  got_not_unused : (v : ℕ) → got_by v ≢ unused
  got_not_unused v e = cc

  got_not_run : (v : ℕ) → got_by v ≢ used_by r None
  got_not_run v e = cc

  before : (d u : ℕ) (s : Runner) (other : Option Acquired) → leaves d u ≡ used_by s other → Seat who c t d u s other
  before d u s other is = record {
    runner = s;
    hand = other;
    was = there_before d u (used_by s other) is (runs_not_unused s other);
    seated = seated_itself s;
    sync = λ n e. inl e;
    branches = λ b m. inl m;
  }

  behind : (d u : ℕ) (s : Runner) (other : Option Acquired) → who d u ≡ used_by s other → ((s.tie ≡ None) × (s.parents ≡ [])) ⊎ SeatStill leaves d u s
  behind d u s other is =
      ⊎_elim
      (λ here.
      let same = same_runner r s None other (sym was ∙ sym (ap (λ k. who k u) here.0 ∙ ap (who c) here.1) ∙ is) in
      inl (ap (λ (i : Runner). i.tie) (sym same) ∙ tie, ap (λ (i : Runner). i.parents) (sym same) ∙ parents))
      (λ there. inr (record { runner = s; hand = other; is = there.1 ∙ is; seated = seated_itself s }))
      (role_cases who c t unused d u)

  -- one that holds something is another one
  holder_still : (d u v : ℕ) (s : Runner) (other : Option Acquired) → who d u ≡ used_by s other → IsAmong (held_in other) v → leaves d u ≡ used_by s other
  holder_still d u v s other is m = there_still d u (used_by s other) is (λ e. subst (λ h. IsAmong (held_in h) v) (same_hand s r other None e) m)

  in_use_before : (d u : ℕ) → leaves d u ≢ unused → who d u ≢ unused
  in_use_before d u h is = h (⊎_elim (λ here. here.2) (λ other. other.1 ∙ is) (role_cases who c t unused d u))

  pub roles_leave : AreRoles g leaves
  roles_leave = roles_seated g who leaves c t roles (record { before = before; behind = behind }) (record {
    few = λ d u h. roles.few d u (in_use_before d u h);
    inside = λ d u h. roles.inside d u (in_use_before d u h);
    got = λ d u v is. let k = roles.got d u v (there_before d u (got_by v) is (got_not_unused v)) in (k.0, k.1, holder_still d v u k.0 k.1 k.2 k.3, k.3);
    held = λ d u v s other is m. there_still d v (got_by u) (roles.held d u v s other (there_before d u (used_by s other) is (runs_not_unused s other)) m) (got_not_run u);
    held_once = λ d u s other is. roles.held_once d u s other (there_before d u (used_by s other) is (runs_not_unused s other));
  })

-- who got a thread
abbrev got_in : Role → ℕ
got_in unused = 0
got_in (got_by n) = n
got_in (used_by s other) = 0

pub got_same : (m n : ℕ) → got_by m ≡ got_by n → m ≡ n
got_same m n e = ap got_in e

-- a runner gets a thread that was unused
module _ (g : Setting) (who : Roles) (c t v : ℕ) (roles : AreRoles g who) (r : Runner) (hand : Acquired) (was : who c t ≡ used_by r (Some hand)) (free : who c v ≡ unused) (few : v < 8) (inside : v < threads_on g.program c) where
  abbrev holds_more : Option Acquired
  holds_more = Some (with_thread_got hand v)

  abbrev pub gets : Roles
  gets = with_role (with_role who c t (used_by r holds_more)) c v (got_by t)

  not_own : v ≢ t
  not_own e = let both : unused ≡ used_by r (Some hand) = sym free ∙ ap (who c) e ∙ was in cc

  -- the roles, by where they are
  pub data Place (d u : ℕ) : Type 0 where
    own : d ≡ c → u ≡ t → gets d u ≡ used_by r holds_more → who d u ≡ used_by r (Some hand) → Place d u
    new : d ≡ c → u ≡ v → gets d u ≡ got_by t → who d u ≡ unused → Place d u
    old : gets d u ≡ who d u → Place d u

  pub place : (d u : ℕ) → Place d u
  place d u =
      ⊎_elim
      (λ here. new here.0 here.1 here.2 (ap (λ k. who k u) here.0 ∙ ap (who c) here.1 ∙ free))
      (λ there.
      ⊎_elim
      (λ here. own here.0 here.1 (there.1 ∙ here.2) (ap (λ k. who k u) here.0 ∙ ap (who c) here.1 ∙ was))
      (λ other. old (there.1 ∙ other.1))
      (role_cases who c t (used_by r holds_more) d u))
      (role_cases (with_role who c t (used_by r holds_more)) c v (got_by t) d u)

  pub own_now : gets c t ≡ used_by r holds_more
  own_now = role_other (with_role who c t (used_by r holds_more)) c v (got_by t) t (λ e. not_own (sym e)) ∙ role_here who c t (used_by r holds_more)

  -- each runner was there before
  seat_before : (d u : ℕ) (s : Runner) (other : Option Acquired) → gets d u ≡ used_by s other → Place d u → Seat who c t d u s other
  seat_before d u s other is (own dc ut now old_is) = record {
    runner = r;
    hand = Some hand;
    was = old_is;
    seated = subst (λ k. IsSeated k r) (same_runner r s holds_more other (sym now ∙ is)) (seated_itself r);
    sync = λ n e. inl (ap sync_in (same_hand r s holds_more other (sym now ∙ is)) ∙ e);
    branches = λ b m. inl (subst (λ k. IsAmong (own_branches k) b) (sym (same_runner r s holds_more other (sym now ∙ is))) m);
  }
  seat_before d u s other is (new dc uv now old_is) = let both : got_by t ≡ used_by s other = sym now ∙ is in cc
  seat_before d u s other is (old same) = record {
    runner = s;
    hand = other;
    was = sym same ∙ is;
    seated = seated_itself s;
    sync = λ n e. inl e;
    branches = λ b m. inl m;
  }

  seat_behind : (d u : ℕ) (s : Runner) (other : Option Acquired) → who d u ≡ used_by s other → Place d u → ((s.tie ≡ None) × (s.parents ≡ [])) ⊎ SeatStill gets d u s
  seat_behind d u s other is (own dc ut now old_is) =
      inr (record { runner = r; hand = holds_more; is = now; seated = subst (IsSeated r) (same_runner r s (Some hand) other (sym old_is ∙ is)) (seated_itself r) })
  seat_behind d u s other is (new dc uv now old_is) = let both : unused ≡ used_by s other = sym old_is ∙ is in cc
  seat_behind d u s other is (old same) = inr (record { runner = s; hand = other; is = same ∙ is; seated = seated_itself s })

  -- who got threads
  got_still : (d u k : ℕ) → who d u ≡ got_by k → Place d u → gets d u ≡ got_by k
  got_still d u k is (own dc ut now old_is) = let both : used_by r (Some hand) ≡ got_by k = sym old_is ∙ is in cc
  got_still d u k is (new dc uv now old_is) = let both : unused ≡ got_by k = sym old_is ∙ is in cc
  got_still d u k is (old same) = same ∙ is

  -- who holds threads holds them still
  holder : (d k u : ℕ) (s : Runner) (other : Option Acquired) → who d k ≡ used_by s other → IsAmong (held_in other) u → Place d k → (i : Runner) × (more : Option Acquired) × (gets d k ≡ used_by i more) × IsAmong (held_in more) u
  holder d k u s other is m (own dc kt now old_is) = (r, holds_more, now, inr (subst (λ h. IsAmong (held_in h) u) (sym (same_hand r s (Some hand) other (sym old_is ∙ is))) m))
  holder d k u s other is m (new dc kv now old_is) = let both : unused ≡ used_by s other = sym old_is ∙ is in cc
  holder d k u s other is m (old same) = (s, other, same ∙ is, m)

  got_now : (d u k : ℕ) → gets d u ≡ got_by k → Place d u → (i : Runner) × (more : Option Acquired) × (gets d k ≡ used_by i more) × IsAmong (held_in more) u
  got_now d u k is (own dc ut now old_is) = let both : used_by r holds_more ≡ got_by k = sym now ∙ is in cc
  got_now d u k is (new dc uv now old_is) =
      let both : got_by t ≡ got_by k = sym now ∙ is in
      let at : t ≡ k = got_same t k both in
      (r, holds_more, ap (λ i. gets i k) dc ∙ ap (gets c) (sym at) ∙ own_now, inl uv)
  got_now d u k is (old same) = let h = roles.got d u k (sym same ∙ is) in holder d k u h.0 h.1 h.2 h.3 (place d k)

  held_now : (d k u : ℕ) (s : Runner) (other : Option Acquired) → gets d k ≡ used_by s other → IsAmong (held_in other) u → Place d k → gets d u ≡ got_by k
  held_now d k u s other is m (own dc kt now old_is) =
      ⊎_elim
      (λ (e : u ≡ v). ap (λ i. gets i u) dc ∙ ap (gets c) e ∙ role_here (with_role who c t (used_by r holds_more)) c v (got_by t) ∙ ap got_by (sym kt))
      (λ (n : IsAmong hand.threads u). got_still d u k (roles.held d k u r (Some hand) old_is n) (place d u))
      (subst (λ h. IsAmong (held_in h) u) (sym (same_hand r s holds_more other (sym now ∙ is))) m)
  held_now d k u s other is m (new dc kv now old_is) = let both : got_by t ≡ used_by s other = sym now ∙ is in cc
  held_now d k u s other is m (old same) = got_still d u k (roles.held d k u s other (sym same ∙ is) m) (place d u)

  once_now : (d k : ℕ) (s : Runner) (other : Option Acquired) → gets d k ≡ used_by s other → Place d k → IsOnce (held_in other)
  once_now d k s other is (own dc kt now old_is) =
      subst (λ h. IsOnce (held_in h)) (same_hand r s holds_more other (sym now ∙ is))
      ((λ m. let both : unused ≡ got_by t = sym free ∙ roles.held c t v r (Some hand) was m in cc), roles.held_once c t r (Some hand) was)
  once_now d k s other is (new dc kv now old_is) = let both : got_by t ≡ used_by s other = sym now ∙ is in cc
  once_now d k s other is (old same) = roles.held_once d k s other (sym same ∙ is)

  in_use : (d u : ℕ) → gets d u ≢ unused → Place d u → (u < 8) × (u < threads_on g.program d)
  in_use d u h (own dc ut now old_is) = let used : who d u ≢ unused = (λ e. let both : used_by r (Some hand) ≡ unused = sym old_is ∙ e in cc) in (roles.few d u used, roles.inside d u used)
  in_use d u h (new dc uv now old_is) = (subst (λ k. k < 8) (sym uv) few, subst (λ k. k < threads_on g.program d) (sym uv) (subst (λ k. v < threads_on g.program k) (sym dc) inside))
  in_use d u h (old same) = let used : who d u ≢ unused = (λ e. h (same ∙ e)) in (roles.few d u used, roles.inside d u used)

  pub roles_get : AreRoles g gets
  roles_get = roles_seated g who gets c t roles
      (record { before = λ d u s other is. seat_before d u s other is (place d u); behind = λ d u s other is. seat_behind d u s other is (place d u) })
      (record {
        few = λ d u h. (in_use d u h (place d u)).0;
        inside = λ d u h. (in_use d u h (place d u)).1;
        got = λ d u k is. got_now d u k is (place d u);
        held = λ d k u s other is m. held_now d k u s other is m (place d k);
        held_once = λ d k s other is. once_now d k s other is (place d k);
      })
