-- The branches of a `par` are joined: who runs what behind that.
use Rattle.std.proofs.Common.{◌≡◌, ◌≢◌, ℕ, ◌<◌, Bool, true, false, List, [], ◌∷◌, length, Option, Some, None, refl, sym, ap, ◌∙◌, subst, inl, inr, ⊎_elim, eq-eqb}
use Rattle.std.specs.Prelude.{nat_eq}
use Rattle.std.proofs.lemmas.Bool.{cases_eq, ne_eqb}
use Rattle.xs_instr.specs.Resources.{is_num}
use Rattle.xl_par.specs.Acquired.{Acquired, IsAmong}
use Rattle.xr_simulation.specs.Parents.{Parent, branches_of, sync_before, syncs_of}
use Rattle.xr_simulation.specs.Roles.{AreRoles, IsOnce, IsParent, Role, Roles, got_by, outermost, own_branches, unused, used_by}
use Rattle.xr_simulation.specs.Runners.{Setting, Runner, footprint_of}
use Rattle.xr_simulation.specs.ThreadViews.{Owns, giving_back, held_in, sync_in}
use Rattle.xr_simulation.specs.Transfers.{Transfer}
use Rattle.xr_simulation.proofs.Relation.CoreSteps.{parent_sync, same_hand, same_runner}
use Rattle.xr_simulation.proofs.Relation.Pools.{num_is, num_same}
use Rattle.xr_simulation.proofs.Channels.Wiring.{TransfersAsBefore}

module _ (g : Setting) (who : Roles) (c t : ℕ) (roles : AreRoles g who) (r : Runner) (was : who c t ≡ used_by r None) (p : Parent) (ps : List Parent) (chain : r.parents ≡ p ∷ ps) (n : ℕ) (sync : p.sync ≡ Some n) where
  -- the thread runs the maker again, with the synchroniser to be given back
  abbrev pub own : Runner
  own = record r { branch = p.branch; parents = ps; footprint = footprint_of p.items; sides = p.sides; inside = p.inside; transfer = None }

  -- a role of a thread that is tied to the synchroniser
  abbrev pub is_tied_role : Role → Bool
  is_tied_role unused = false
  is_tied_role (got_by k) = false
  is_tied_role (used_by s other) = is_num s.tie n

  abbrev pub freed_role : Bool → Role → Role
  freed_role true old = unused
  freed_role false old = old

  abbrev pub own_role : Bool → (here there : Role) → Role
  own_role true here there = here
  own_role false here there = there

  abbrev pub core_roles : (thread : ℕ) → Role
  core_roles u = own_role (nat_eq u t) (used_by own (giving_back n)) (freed_role (is_tied_role (who c u)) (who c u))

  abbrev pub joins : Roles
  joins = λ d u. own_role (nat_eq d c) (core_roles u) (who d u)

  abbrev IsTiedTo : Role → Type 0
  IsTiedTo role = (s : Runner) × (other : Option Acquired) × (role ≡ used_by s other) × (s.tie ≡ Some n)

  -- where a role is
  pub data Place (d u : ℕ) : Type 0 where
    at_own : d ≡ c → u ≡ t → joins d u ≡ used_by own (giving_back n) → Place d u
    freed : d ≡ c → u ≢ t → joins d u ≡ unused → IsTiedTo (who d u) → Place d u
    elsewhere : joins d u ≡ who d u → ((d ≡ c) × (u ≡ t) → ⊥) → (d ≡ c → IsTiedTo (who d u) → ⊥) → Place d u

  here_core : (d u : ℕ) → d ≡ c → joins d u ≡ core_roles u
  here_core d u e = ap (λ b. own_role b (core_roles u) (who d u)) (eq-eqb d c e)

  pub own_there : joins c t ≡ used_by own (giving_back n)
  own_there = here_core c t refl ∙ ap (λ b. own_role b (used_by own (giving_back n)) (freed_role (is_tied_role (who c t)) (who c t))) (eq-eqb t t refl)

  other_core : (u : ℕ) (b : Bool) → u ≢ t → is_tied_role (who c u) ≡ b → core_roles u ≡ freed_role b (who c u)
  other_core u b ne e = ap (λ k. own_role k (used_by own (giving_back n)) (freed_role (is_tied_role (who c u)) (who c u))) (ne_eqb u t ne) ∙ ap (λ k. freed_role k (who c u)) e

  pub tied_then : (role : Role) → is_tied_role role ≡ true → IsTiedTo role
  tied_then unused e = absurd (let z : ⊥ = cc in z)
  tied_then (got_by k) e = absurd (let z : ⊥ = cc in z)
  tied_then (used_by s other) e = (s, other, refl, num_is s.tie n e)

  not_tied_then : (role : Role) → is_tied_role role ≡ false → IsTiedTo role → ⊥
  not_tied_then role e (s, other, is, tie) = let both : true ≡ false = sym (num_same s.tie n tie) ∙ ap is_tied_role (sym is) ∙ e in let z : ⊥ = cc in z

  place_by : (d u : ℕ) (b : Bool) → d ≡ c → u ≢ t → is_tied_role (who c u) ≡ b → Place d u
  place_by d u true e ne is = freed e ne (here_core d u e ∙ other_core u true ne is) (subst (λ k. IsTiedTo (who k u)) (sym e) (tied_then (who c u) is))
  place_by d u false e ne is =
      elsewhere (here_core d u e ∙ other_core u false ne is ∙ ap (λ k. who k u) (sym e)) (λ k. ne k.1)
      (λ f tied. not_tied_then (who c u) is (subst (λ k. IsTiedTo (who k u)) e tied))

  pub place : (d u : ℕ) → Place d u
  place d u =
      ⊎_elim
      (λ (same : d ≡ c).
      ⊎_elim
      (λ (here : u ≡ t). at_own same here (ap (λ k. joins k u) same ∙ ap (joins c) here ∙ own_there))
      (λ (ne : u ≢ t). place_by d u (is_tied_role (who c u)) same ne refl)
      (cases_eq u t))
      (λ (ne : d ≢ c). elsewhere (ap (λ b. own_role b (core_roles u) (who d u)) (ne_eqb d c ne)) (λ k. ne k.0) (λ e tied. ne e))
      (cases_eq d c)

  was_own : (d u : ℕ) → d ≡ c → u ≡ t → who d u ≡ used_by r None
  was_own d u e f = ap (λ k. who k u) e ∙ ap (who c) f ∙ was

  -- Each thread is in the transfer in which it was, where the runner and those that are joined are in none.
  pub joins_transfers : r.transfer ≡ None → ((u : ℕ) (s : Runner) (other : Option Acquired) → who c u ≡ used_by s other → s.tie ≡ Some n → s.transfer ≡ None) → TransfersAsBefore who joins
  joins_transfers none tied_none = record {
    before = λ d u i other transfer at its. before_by d u i other transfer at its (place d u);
    still = λ d u i other transfer at its. still_by d u i other transfer at its (place d u);
  }
    where
      before_by : (d u : ℕ) (i : Runner) (other : Option Acquired) (transfer : Transfer) → joins d u ≡ used_by i other → i.transfer ≡ Some transfer → Place d u → (j : Runner) × (old : Option Acquired) × (who d u ≡ used_by j old) × (j.transfer ≡ Some transfer)
      before_by d u i other transfer at its (at_own e f now) = let in_none : None ≡ Some transfer = ap (λ (k : Runner). k.transfer) (same_runner own i (giving_back n) other (sym now ∙ at)) ∙ its in absurd (let z : ⊥ = cc in z)
      before_by d u i other transfer at its (freed e ne now tied) = let both : unused ≡ used_by i other = sym now ∙ at in absurd (let z : ⊥ = cc in z)
      before_by d u i other transfer at its (elsewhere same apart no_tie) = (i, other, sym same ∙ at, its)

      still_by : (d u : ℕ) (i : Runner) (other : Option Acquired) (transfer : Transfer) → who d u ≡ used_by i other → i.transfer ≡ Some transfer → Place d u → (j : Runner) × (now : Option Acquired) × (joins d u ≡ used_by j now) × (j.transfer ≡ Some transfer)
      still_by d u i other transfer at its (at_own e f now) = let in_none : None ≡ Some transfer = sym none ∙ ap (λ (k : Runner). k.transfer) (same_runner r i None other (sym (was_own d u e f) ∙ at)) ∙ its in absurd (let z : ⊥ = cc in z)
      still_by d u i other transfer at its (freed e ne now tied) =
          let tie : i.tie ≡ Some n = ap (λ (k : Runner). k.tie) (sym (same_runner tied.0 i tied.1 other (sym tied.2 ∙ at))) ∙ tied.3 in
          let in_none : None ≡ Some transfer = sym (tied_none u i other (ap (λ k. who k u) (sym e) ∙ at) tie) ∙ its in absurd (let z : ⊥ = cc in z)
      still_by d u i other transfer at its (elsewhere same apart no_tie) = (i, other, same ∙ at, its)

  -- the synchroniser and those of the outer ones
  pub syncs_are : syncs_of r.parents ≡ n ∷ syncs_of ps
  syncs_are = ap syncs_of chain ∙ ap (λ o. sync_before o (syncs_of ps)) sync

  once : (IsAmong (syncs_of ps) n → ⊥) × IsOnce (syncs_of ps)
  once = subst IsOnce syncs_are (roles.owned_once c t r None was)

  is_parent : (q : Parent) → IsParent ps q → IsParent r.parents q
  is_parent q m = subst (λ l. IsParent l q) (sym chain) (inr m)

  pub owns_sync : Owns r None n
  owns_sync = inl (subst (λ l. IsAmong l n) (sym syncs_are) (inl refl))

  -- Those that are joined have ended: nobody waited on their threads, and they had nothing in hand. The thread itself isn't among them.
  module _ (bare : (u : ℕ) (s : Runner) (other : Option Acquired) → who c u ≡ used_by s other → s.tie ≡ Some n → (s.parents ≡ []) × (other ≡ None)) (own_tie : r.tie ≡ Some n → ⊥) where
    in_use : (d u : ℕ) → joins d u ≢ unused → Place d u → who d u ≢ unused
    in_use d u some (at_own e f now) is = let both : used_by r None ≡ unused = sym (was_own d u e f) ∙ is in let z : ⊥ = cc in z
    in_use d u some (freed e ne now tied) is = some now
    in_use d u some (elsewhere same not_own no_tie) is = some (same ∙ is)

    -- a runner was there before, and had all that it has
    pub record Before (d u : ℕ) (s : Runner) (other : Option Acquired) : Type 0 where
      pub runner : Runner
      pub hand : Option Acquired
      pub is : who d u ≡ used_by runner hand
      pub core : s.core ≡ runner.core
      pub thread : s.thread ≡ runner.thread
      pub tie : s.tie ≡ runner.tie
      pub family : s.family ≡ runner.family
      pub block : s.block ≡ runner.block
      pub stack : s.stack ≡ runner.stack
      pub outermost_is : outermost s.branch s.parents ≡ outermost runner.branch runner.parents
      pub branches : (b : ℕ) → IsAmong (own_branches s) b → IsAmong (own_branches runner) b
      pub owns : (m : ℕ) → Owns s other m → Owns runner hand m
      pub held : (v : ℕ) → IsAmong (held_in other) v → IsAmong (held_in hand) v
      pub parents : (q : Parent) → IsParent s.parents q → IsParent runner.parents q
      pub other_syncs : (q : Parent) (m : ℕ) → d ≡ c → IsParent s.parents q → q.sync ≡ Some m → m ≢ n
      pub other_tie : d ≡ c → s.tie ≡ Some n → ⊥

    own_owns : (m : ℕ) → Owns own (giving_back n) m → Owns r None m
    own_owns m (inl outer) = inl (subst (λ l. IsAmong l m) (sym syncs_are) (inr outer))
    own_owns m (inr same) = let e : n ≡ m = cc in subst (λ k. Owns r None k) e owns_sync

    own_before : (d u : ℕ) → d ≡ c → u ≡ t → Before d u own (giving_back n)
    own_before d u e f = record {
      runner = r;
      hand = None;
      is = was_own d u e f;
      core = refl;
      thread = refl;
      tie = refl;
      family = refl;
      block = refl;
      stack = refl;
      outermost_is = ap (outermost r.branch) (sym chain);
      branches = λ b m. inr (subst (λ l. IsAmong (branches_of l) b) (sym chain) m);
      owns = own_owns;
      held = λ v m. m;
      parents = is_parent;
      other_syncs = λ q m same_core there its same. once.0 (subst (IsAmong (syncs_of ps)) same (parent_sync ps q m there its));
      other_tie = λ same_core tie. own_tie tie;
    }

    before_by : (d u : ℕ) (s : Runner) (other : Option Acquired) → joins d u ≡ used_by s other → Place d u → Before d u s other
    before_by d u s other is (at_own e f now) =
        let both : used_by own (giving_back n) ≡ used_by s other = sym now ∙ is in
        subst (λ i. Before d u i other) (same_runner own s (giving_back n) other both) (subst (λ k. Before d u own k) (same_hand own s (giving_back n) other both) (own_before d u e f))
    before_by d u s other is (freed e ne now tied) = let both : unused ≡ used_by s other = sym now ∙ is in absurd (let z : ⊥ = cc in z)
    before_by d u s other is (elsewhere same not_own no_tie) =
        let w = sym same ∙ is in
        record {
          runner = s;
          hand = other;
          is = w;
          core = refl;
          thread = refl;
          tie = refl;
          family = refl;
          block = refl;
          stack = refl;
          outermost_is = refl;
          branches = λ b m. m;
          owns = λ m k. k;
          held = λ v m. m;
          parents = λ q m. m;
          other_syncs = λ q m same_core there its same_sync.
              not_own (same_core, roles.owner c t u n r s None other was (ap (λ k. who k u) (sym same_core) ∙ w) owns_sync (inl (parent_sync s.parents q n there (its ∙ ap Some same_sync))));
          other_tie = λ same_core tie. no_tie same_core (s, other, w, tie);
        }

    pub before : (d u : ℕ) (s : Runner) (other : Option Acquired) → joins d u ≡ used_by s other → Before d u s other
    before d u s other is = before_by d u s other is (place d u)

    -- one that isn't tied to the synchroniser is there still, with the outer ones that wait
    pub record IsStill (d u : ℕ) (s : Runner) : Type 0 where
      pub runner : Runner
      pub hand : Option Acquired
      pub is : joins d u ≡ used_by runner hand
      pub tie : runner.tie ≡ s.tie
      pub family : runner.family ≡ s.family
      pub parents : (q : Parent) (m : ℕ) → IsParent s.parents q → q.sync ≡ Some m → (d ≡ c → m ≢ n) → IsParent runner.parents q

    still_by : (d u : ℕ) (s : Runner) (other : Option Acquired) → who d u ≡ used_by s other → (d ≡ c → u ≢ t → s.tie ≡ Some n → ⊥) → Place d u → IsStill d u s
    still_by d u s other is no_tie (at_own e f now) =
        let same = same_runner r s None other (sym (was_own d u e f) ∙ is) in
        record {
          runner = own;
          hand = giving_back n;
          is = now;
          tie = ap (λ (i : Runner). i.tie) same;
          family = ap (λ (i : Runner). i.family) same;
          parents = λ q m there its ne.
              ⊎_elim
              (λ (one : q ≡ p). let both : Some n ≡ Some m = sym sync ∙ ap (λ (i : Parent). i.sync) (sym one) ∙ its in absurd (ne e (let z : m ≡ n = cc in z)))
              (λ (further : IsParent ps q). further)
              (subst (λ l. IsParent l q) chain (subst (λ (i : Runner). IsParent i.parents q) (sym same) there));
        }
    still_by d u s other is no_tie (freed e ne now tied) =
        let same = same_runner tied.0 s tied.1 other (sym tied.2 ∙ is) in
        absurd (no_tie e ne (ap (λ (i : Runner). i.tie) (sym same) ∙ tied.3))
    still_by d u s other is no_tie (elsewhere same not_own free) = record { runner = s; hand = other; is = same ∙ is; tie = refl; family = refl; parents = λ q m there its ne. there }

    pub still : (d u : ℕ) (s : Runner) (other : Option Acquired) → who d u ≡ used_by s other → (d ≡ c → u ≢ t → s.tie ≡ Some n → ⊥) → IsStill d u s
    still d u s other is no_tie = still_by d u s other is no_tie (place d u)

    -- one that holds something, or on which others wait, isn't joined
    holds_not_tied : (d u : ℕ) (s : Runner) (other : Option Acquired) → who d u ≡ used_by s other → (s.parents ≡ [] → other ≡ None → ⊥) → d ≡ c → u ≢ t → s.tie ≡ Some n → ⊥
    holds_not_tied d u s other is some e ne tie = let k = bare u s other (ap (λ i. who i u) (sym e) ∙ is) tie in some k.0 k.1

    got_still : (d u v : ℕ) → who d u ≡ got_by v → Place d u → joins d u ≡ got_by v
    got_still d u v is (at_own e f now) = let both : used_by r None ≡ got_by v = sym (was_own d u e f) ∙ is in absurd (let z : ⊥ = cc in z)
    got_still d u v is (freed e ne now tied) = let both : used_by tied.0 tied.1 ≡ got_by v = sym tied.2 ∙ is in absurd (let z : ⊥ = cc in z)
    got_still d u v is (elsewhere same not_own no_tie) = same ∙ is

    got_before : (d u v : ℕ) → joins d u ≡ got_by v → Place d u → who d u ≡ got_by v
    got_before d u v is (at_own e f now) = let both : used_by own (giving_back n) ≡ got_by v = sym now ∙ is in absurd (let z : ⊥ = cc in z)
    got_before d u v is (freed e ne now tied) = let both : unused ≡ got_by v = sym now ∙ is in absurd (let z : ⊥ = cc in z)
    got_before d u v is (elsewhere same not_own no_tie) = sym same ∙ is

    holder_by : (d v u : ℕ) (s : Runner) (other : Option Acquired) → who d v ≡ used_by s other → IsAmong (held_in other) u → Place d v → (q : Runner) × (more : Option Acquired) × (joins d v ≡ used_by q more) × IsAmong (held_in more) u
    holder_by d v u s other is m (at_own e f now) = absurd (subst (λ k. IsAmong (held_in k) u) (sym (same_hand r s None other (sym (was_own d v e f) ∙ is))) m)
    holder_by d v u s other is m (freed e ne now tied) =
        let hands = same_hand tied.0 s tied.1 other (sym tied.2 ∙ is) in
        let none = bare v tied.0 tied.1 (ap (λ k. who k v) (sym e) ∙ tied.2) tied.3 in
        absurd (subst (λ k. IsAmong (held_in k) u) none.1 (subst (λ k. IsAmong (held_in k) u) (sym hands) m))
    holder_by d v u s other is m (elsewhere same not_own no_tie) = (s, other, same ∙ is, m)

    once_by : (d k : ℕ) (s : Runner) (other : Option Acquired) → joins d k ≡ used_by s other → Place d k → IsOnce (held_in other)
    once_by d k s other is (at_own e f now) = subst (λ i. IsOnce (held_in i)) (same_hand own s (giving_back n) other (sym now ∙ is)) tt
    once_by d k s other is (freed e ne now tied) = let both : unused ≡ used_by s other = sym now ∙ is in absurd (let z : ⊥ = cc in z)
    once_by d k s other is (elsewhere same not_own no_tie) = roles.held_once d k s other (sym same ∙ is)

    owned_once_by : (d u : ℕ) (s : Runner) (other : Option Acquired) → joins d u ≡ used_by s other → Place d u → IsOnce (syncs_of s.parents)
    owned_once_by d u s other is (at_own e f now) = subst (λ (i : Runner). IsOnce (syncs_of i.parents)) (same_runner own s (giving_back n) other (sym now ∙ is)) once.1
    owned_once_by d u s other is (freed e ne now tied) = let both : unused ≡ used_by s other = sym now ∙ is in absurd (let z : ⊥ = cc in z)
    owned_once_by d u s other is (elsewhere same not_own no_tie) = roles.owned_once d u s other (sym same ∙ is)

    apart_by : (d u m : ℕ) (s : Runner) (other : Option Acquired) → joins d u ≡ used_by s other → IsAmong (syncs_of s.parents) m → Place d u → sync_in other ≢ Some m
    apart_by d u m s other is among (at_own e f now) is_sync =
        let both : used_by own (giving_back n) ≡ used_by s other = sym now ∙ is in
        let its : Some n ≡ Some m = ap sync_in (same_hand own s (giving_back n) other both) ∙ is_sync in
        let same : m ≡ n = cc in
        once.0 (subst (IsAmong (syncs_of ps)) same (subst (λ (i : Runner). IsAmong (syncs_of i.parents) m) (sym (same_runner own s (giving_back n) other both)) among))
    apart_by d u m s other is among (freed e ne now tied) is_sync = let both : unused ≡ used_by s other = sym now ∙ is in let z : ⊥ = cc in z
    apart_by d u m s other is among (elsewhere same not_own no_tie) is_sync = roles.owned_apart d u m s other (sym same ∙ is) among is_sync

    -- so the roles go with each other behind that
    pub roles_join : AreRoles g joins
    roles_join = record {
      core = λ d u s other is. let b = before d u s other is in b.core ∙ roles.core d u b.runner b.hand b.is;
      there = λ d u s other is. let b = before d u s other is in roles.there d u b.runner b.hand b.is;
      thread = λ d u s other is. let b = before d u s other is in b.thread ∙ roles.thread d u b.runner b.hand b.is;
      few = λ d u some. roles.few d u (in_use d u some (place d u));
      inside = λ d u some. roles.inside d u (in_use d u some (place d u));
      block = λ d u s other is. let b = before d u s other is in b.block ∙ roles.block d u b.runner b.hand b.is;
      stack = λ d u s other is. let b = before d u s other is in b.stack ∙ roles.stack d u b.runner b.hand b.is;
      started = λ d u s other is. let b = before d u s other is in b.outermost_is ∙ roles.started d u b.runner b.hand b.is ∙ sym b.family;
      branches = λ d u d' u' k s q hand other is its m also.
          let b = before d u s hand is in
          let b' = before d' u' q other its in
          roles.branches d u d' u' k b.runner b'.runner b.hand b'.hand b.is b'.is (b.branches k m) (b'.branches k also);
      got = λ d u v is.
          let k = roles.got d u v (got_before d u v is (place d u)) in
          holder_by d v u k.0 k.1 k.2 k.3 (place d v);
      held = λ d k u s other is m.
          let b = before d k s other is in
          got_still d u k (roles.held d k u b.runner b.hand b.is (b.held u m)) (place d u);
      held_once = λ d k s other is. once_by d k s other is (place d k);
      owner = λ d u v m s q hand other is its owns also.
          let b = before d u s hand is in
          let b' = before d v q other its in
          roles.owner d u v m b.runner b'.runner b.hand b'.hand b.is b'.is (b.owns m owns) (b'.owns m also);
      owned_once = λ d u s other is. owned_once_by d u s other is (place d u);
      owned_apart = λ d u m s other is among. apart_by d u m s other is among (place d u);
      kids = λ d u m j s other q is there its some few.
          let b = before d u s other is in
          let k = roles.kids d u m j b.runner b.hand q b.is (b.parents q there) its some few in
          let kid : IsStill d k.0 k.1 = still d k.0 k.1 k.2 k.3 (λ e ne tie. b.other_syncs q m e there its (let both : Some m ≡ Some n = sym k.4 ∙ tie in let z : m ≡ n = cc in z)) in
          (k.0, kid.runner, kid.hand, kid.is, kid.tie ∙ k.4, kid.family ∙ k.5);
      tied = λ d u m s other is tie.
          let b = before d u s other is in
          let k = roles.tied d u m b.runner b.hand b.is (sym b.tie ∙ tie) in
          let q : Parent = k.4 in
          let q_there : IsParent k.2.parents q = k.6 in
          let q_sync : q.sync ≡ Some m = k.7 in
          let owner : IsStill d k.0 k.2 = still d k.0 k.2 k.3 k.5 (holds_not_tied d k.0 k.2 k.3 k.5 (λ none empty. subst (λ l. IsParent l q) none q_there)) in
          (k.0, k.1, owner.runner, owner.hand, q, owner.is, owner.parents q m q_there q_sync (λ e same. b.other_tie e (tie ∙ ap Some same)), q_sync, k.8, k.9, b.family ∙ k.10);
      untied = λ d u s other is tie.
          let b = before d u s other is in
          subst (λ f. f < length g.program.roots) (sym b.family) (roles.untied d u b.runner b.hand b.is (sym b.tie ∙ tie));
    }
