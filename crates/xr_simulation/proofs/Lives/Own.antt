-- The names behind each event of one thread that is seen, or ends a `par`: its own instruction, a trap, the end of a root, a join, what is given back, and a `par` that begins.
use Rattle.std.proofs.Common.{◌≡◌, ℕ, ◌+◌, ◌*◌, ◌<◌, ◌≤◌, ◌≢◌, ◌⊎◌, inl, inr, Bool, true, false, List, [], ◌∷◌, length, Option, Some, None, refl, sym, ap, ◌∙◌, subst, ⊎_elim, arith}
use Rattle.std.specs.Prelude.{slice_get, slice_set}
use Rattle.std.proofs.Math.Nat.{mul-le-mul_left}
use Rattle.std.proofs.lemmas.Option.{slice_get_within}
use Rattle.xs_instr.specs.declared.state.CoreState.{CoreState}
use Rattle.xs_instr.specs.declared.state.Thread.{Thread}
use Rattle.xs_instr.specs.Machine.{Machine}
use Rattle.xs_instr.specs.Pool.{all_joined, all_started, is_tied}
use Rattle.xc_meaning.specs.Counts.KernelCounts.{kernel_bound}
use Rattle.xc_meaning.specs.States.Branches.{Branch}
use Rattle.xc_meaning.specs.States.Worlds.{World}
use Rattle.xl_par.specs.Acquired.{Acquired, IsAmong}
use Rattle.xr_match.specs.Lives.{Watched, in_use, life_after}
use Rattle.xr_match.specs.Meanings.{of_kernel}
use Rattle.xr_match.specs.Sources.{Counted}
use Rattle.xr_simulation.specs.Transfers.{spared}
use Rattle.xr_simulation.specs.Living.{AreNamed}
use Rattle.xr_simulation.specs.Parents.{Parent}
use Rattle.xr_simulation.specs.Roles.{ParentsWait, Roles, got_by, outermost, unused, used_by}
use Rattle.xr_simulation.specs.Runners.{Setting, Runner}
use Rattle.xr_simulation.specs.ThreadViews.{giving_back}
use Rattle.xr_simulation.specs.MatchStates.{MatchStates}
use Rattle.xr_simulation.proofs.Lives.Quiet.{HandStays}
use Rattle.xr_simulation.proofs.Lives.ParBegins.{AreBegun, begins_named}
use Rattle.xr_simulation.proofs.Lives.Bound.{in_use_now, stand_of, steps_within}
use Rattle.xr_simulation.proofs.Lives.OwnEvents.{step_named}
use Rattle.xr_simulation.proofs.Lives.Families.{AreBornOf, Grown}
use Rattle.xr_simulation.proofs.Lives.Pieces.{Goes}
use Rattle.xr_simulation.proofs.Lives.Uses.{gets_nothing, gives_sync, joins_tied, starts_tied}

-- the branch with which a thread began is there
outermost_there : (g : Setting) (x : World) (core family first : ℕ) (ps : List Parent) → ParentsWait g x core family ps first → first < length x.branches → outermost first ps < length x.branches
outermost_there g x core family first [] h lt = lt
outermost_there g x core family first (p ∷ ps) h lt = outermost_there g x core family p.branch ps h.1 (slice_get_within x.branches p.branch h.0.branch h.0.known)

-- an action pays for a step
pays_for : (steps left bound actions more : ℕ) → 1 ≤ bound → steps + left ≤ bound * (actions + 1) → actions + 1 ≤ more → steps + 1 ≤ bound * (more + 1)
pays_for steps left bound actions more some h le =
    let k : actions + 1 + 1 ≤ more + 1 = omega arith in let grown = mul-le-mul_left bound k in omega (arith, grown)

-- What a thread gave back, or has still to, opens no `par`.
pub gives_back_stays : (n : ℕ) → HandStays (giving_back n) None
gives_back_stays n = inr (refl, refl)

pub joins_stays : (n : ℕ) → HandStays None (giving_back n)
joins_stays n = inr (refl, refl)

module _ (g : Setting) (may_rest : (core thread : ℕ) → Bool) (who who' : Roles) (w : Watched) (m' : Machine) (x x' : Counted (of_kernel g.program)) (st : MatchStates g may_rest who w x) (named : AreNamed g who w x) (c t : ℕ) (a b : CoreState) (at_a : slice_get w.machine.cores c ≡ Some a) (at_b : slice_get m'.cores c ≡ Some b) (r : Runner) (hand : Option Acquired) (runs : who c t ≡ used_by r hand) where
  abbrev w' : Watched
  w' = record { machine = m'; lives = life_after w m' c t }

  -- the thread was in use
  own_in_use : in_use (slice_get a.threads t) ≡ true
  own_in_use = in_use_now g may_rest who w x st c a at_a t (λ e. let both : used_by r hand ≡ unused = sym runs ∙ e in cc)

  -- The thread goes on for its family, and only its own thread is another: its own instruction, a trap, or a tied thread that waits.
  pub goes_named : Goes g x x' → b.syncs ≡ a.syncs → ((u : ℕ) → u ≢ t → slice_get b.threads u ≡ slice_get a.threads u) → (r' : Runner) (hand' : Option Acquired) → who' c t ≡ used_by r' hand' → r'.family ≡ r.family → HandStays hand hand' →
      ((c' t' : ℕ) → ((c' ≡ c) × (t' ≡ t) → ⊥) → who' c' t' ≡ who c' t') → AreNamed g who' w' x'
  goes_named goes syncs threads r' hand' own family stays others =
      step_named g who who' w m' x x' st.roles named goes.longer c t a b at_a at_b r hand runs (gets_nothing a b t syncs own_in_use threads) goes.pars
      (inl (record { runner = r'; left_in_hand = hand'; is = own; family = family; stays = stays })) (λ c' t' ne. inl (others c' t' ne))

  -- The thread of a root is freed.
  pub freed_named : Goes g x x' → b.syncs ≡ a.syncs → ((u : ℕ) → u ≢ t → slice_get b.threads u ≡ slice_get a.threads u) → who' c t ≡ unused → x.actions r.family + 1 ≤ x'.actions r.family →
      ((c' t' : ℕ) → ((c' ≡ c) × (t' ≡ t) → ⊥) → who' c' t' ≡ who c' t') → AreNamed g who' w' x'
  freed_named goes syncs threads own acted others =
      let stand = stand_of g may_rest who w x st c a at_a t r hand runs in
      step_named g who who' w m' x x' st.roles named goes.longer c t a b at_a at_b r hand runs (gets_nothing a b t syncs own_in_use threads) goes.pars
      (inr (own, pays_for (w.lives c t).steps (stand.2.left + spared r.transfer) (kernel_bound g.program) (x.actions r.family) (x'.actions r.family) (omega arith) stand.2.bound acted)) (λ c' t' ne. inl (others c' t' ne))

  -- A synchroniser is given back.
  pub resumed_named : (n : ℕ) → Goes g x x' → slice_get a.syncs n ≡ Some true → b.syncs ≡ slice_set a.syncs n false → ((u : ℕ) → u ≢ t → slice_get b.threads u ≡ slice_get a.threads u) → (r' : Runner) (hand' : Option Acquired) → who' c t ≡ used_by r' hand' → r'.family ≡ r.family → HandStays hand hand' →
      ((c' t' : ℕ) → ((c' ≡ c) × (t' ≡ t) → ⊥) → who' c' t' ≡ who c' t') → AreNamed g who' w' x'
  resumed_named n goes taken syncs threads r' hand' own family stays others =
      step_named g who who' w m' x x' st.roles named goes.longer c t a b at_a at_b r hand runs (gives_sync a b t n taken syncs own_in_use threads) goes.pars
      (inl (record { runner = r'; left_in_hand = hand'; is = own; family = family; stays = stays })) (λ c' t' ne. inl (others c' t' ne))

  -- The threads that are tied to a synchroniser are joined: some roles end.
  pub joined_named : (n : ℕ) (own_thread : Thread) → Goes g x x' → b.syncs ≡ a.syncs → b.threads ≡ slice_set (all_joined a.threads n) t own_thread → (r' : Runner) (hand' : Option Acquired) → who' c t ≡ used_by r' hand' → r'.family ≡ r.family → HandStays hand hand' →
      ((c' t' : ℕ) → ((c' ≡ c) × (t' ≡ t) → ⊥) → (who' c' t' ≡ who c' t') ⊎ ((c' ≡ c) × (who' c' t' ≡ unused) × ((s : Runner) × (other : Option Acquired) × (who c' t' ≡ used_by s other)))) → AreNamed g who' w' x'
  joined_named n own_thread goes syncs threads r' hand' own family stays others =
      step_named g who who' w m' x x' st.roles named goes.longer c t a b at_a at_b r hand runs (joins_tied a b t n own_thread syncs own_in_use threads) goes.pars
      (inl (record { runner = r'; left_in_hand = hand'; is = own; family = family; stays = stays }))
      (λ c' t' ne.
      ⊎_elim
      (λ (same : who' c' t' ≡ who c' t'). inl same)
      (λ (h : (c' ≡ c) × (who' c' t' ≡ unused) × ((s : Runner) × (other : Option Acquired) × (who c' t' ≡ used_by s other))).
      let here : who c t' ≡ used_by h.2.0 h.2.1 = ap (λ k. who k t') (sym h.0) ∙ h.2.2 in
      inr
      (record {
        runner = h.2.0;
        hand = h.2.1;
        was = h.2.2;
        is = h.1;
        bound =
            subst (λ k. (w.lives k t').steps ≤ kernel_bound g.program * (x.actions h.2.0.family + 1)) (sym h.0)
            (steps_within g may_rest who w x st c a at_a t' h.2.0 h.2.1 here);
      }))
      (others c' t' ne))

-- a runner's family is there
pub family_there : (g : Setting) (may_rest : (core thread : ℕ) → Bool) (who : Roles) (w : Watched) (x : Counted (of_kernel g.program)) → MatchStates g may_rest who w x → (c t : ℕ) (a : CoreState) → slice_get w.machine.cores c ≡ Some a → (r : Runner) (hand : Option Acquired) →
    who c t ≡ used_by r hand → r.family < length x.state.branches
family_there g may_rest who w x st c t a at_a r hand runs =
    let stand = stand_of g may_rest who w x st c a at_a t r hand runs in
    let lt = slice_get_within x.state.branches r.branch stand.0 stand.1 in
    let there = outermost_there g x.state r.core r.family r.branch r.parents stand.2.parents lt in
    let started = st.roles.started c t r hand runs in
    omega (arith, there, started)

-- A `par` of several branches begins.
module _ (g : Setting) (may_rest : (core thread : ℕ) → Bool) (who who' : Roles) (w : Watched) (m' : Machine) (x x' : Counted (of_kernel g.program)) (st : MatchStates g may_rest who w x) (named : AreNamed g who w x) (c t : ℕ) (a b : CoreState) (at_a : slice_get w.machine.cores c ≡ Some a) (at_b : slice_get m'.cores c ≡ Some b) (r : Runner) (h : Acquired) (runs : who c t ≡ used_by r (Some h)) (n : ℕ) (is : h.sync ≡ Some n) where
  pub started_named : (own_thread : Thread) → b.syncs ≡ a.syncs → b.threads ≡ slice_set (all_started a.threads n) t own_thread → ((u : ℕ) (i : Thread) → slice_get a.threads u ≡ Some i → is_tied i n ≡ true → IsAmong h.threads u) →
      ((f : ℕ) → x.actions f ≤ x'.actions f) → (more : List Branch) (count : ℕ) → Grown x.state.branches x'.state.branches more → AreBornOf r.family count 0 more → 2 ≤ count → 1 + length h.threads ≡ count →
      (r' : Runner) → who' c t ≡ used_by r' None → r'.family ≡ r.family → AreBegun who' c (length x.state.branches) h.threads →
      ((c' t' : ℕ) → ((c' ≡ c) × (t' ≡ t) → ⊥) → (c' ≡ c → IsAmong h.threads t' → ⊥) → who' c' t' ≡ who c' t') → AreNamed g who' (record { machine = m'; lives = life_after w m' c t }) x'
  started_named own_thread syncs threads tied actions more count grown born several all r' own family begun others =
      let mine = in_use_now g may_rest who w x st c a at_a t (λ e. let both : used_by r (Some h) ≡ unused = sym runs ∙ e in cc) in
      begins_named g who who' w m' x x' st.roles named c t a b at_a at_b r h runs
      (starts_tied a b t n own_thread syncs mine threads
      (λ u i at tie. in_use_now g may_rest who w x st c a at_a u (λ e. let both : got_by t ≡ unused = sym (st.roles.held c t u r (Some h) runs (tied u i at tie)) ∙ e in cc)))
      actions more count n grown born (family_there g may_rest who w x st c t a at_a r (Some h) runs) is several all r' own family begun others
