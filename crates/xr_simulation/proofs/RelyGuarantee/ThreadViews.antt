-- Ways of silent steps: joined, made longer, and left as they are by what others do.
use Rattle.std.proofs.Common.{◌≡◌, ℕ, zero, suc, ◌+◌, ◌≤◌, List, inl, inr, ⊎_elim, sym, ap, ◌∙◌, subst, arith}
use Rattle.xl_par.specs.Acquired.{IsAmong}
use Rattle.xr_simulation.specs.Parents.{Parent}
use Rattle.xr_simulation.specs.Runners.{IsMine, Setting, Runner}
use Rattle.xr_simulation.specs.ThreadViews.{ThreadView, Rely, LeadsIn, IsStable, Owns, SpareFor, held_in, sync_in}
use Rattle.xr_simulation.specs.NextStep.{IsJoining, Joins, StableNextStep}
use Rattle.xl_expr.proofs.ResourceParts.{own_then}

module _ (g : Setting) (r : Runner) where
  -- what is kept twice is kept
  pub kept_twice : {z y x : ThreadView} → Rely g r z y → Rely g r y x → Rely g r z x
  kept_twice {x = x} h k = record {
    thread = k.thread ∙ h.thread;
    words = λ w m. k.words w m ∙ h.words w m;
    resources = own_then (IsMine g r) r.thread _ _ _ h.resources k.resources;
    sizes = k.sizes ∙ h.sizes;
    branch = k.branch ∙ h.branch;
    parents = λ b m. k.parents b m ∙ h.parents b m;
    store = λ v u. k.store v u ∙ h.store v u;
    clock = k.clock;
    hand = k.hand ∙ h.hand;
    syncs = λ n o. k.syncs n (subst (λ hand. Owns r hand n) (sym h.hand) o) ∙ h.syncs n o;
    held = λ u m. k.held u (subst (λ hand. IsAmong (held_in hand) u) (sym h.hand) m) ∙ h.held u m;
    tied = λ n u t is there tied. h.tied n u t is (k.tied n u t (ap sync_in h.hand ∙ is) there tied) tied;
    spare = subst (λ hand. SpareFor hand x.core) h.hand k.spare;
  }

  -- a way lasts, where what it leads to does
  pub leads_in_stable : (Q : ThreadView → Type 0) → IsStable g r Q → (n : ℕ) → IsStable g r (LeadsIn g r Q n)
  leads_in_stable Q q zero z y k h = q z y k h
  leads_in_stable Q q (suc n) z y k h = ⊎_elim (λ (here : Q z). inl (q z y k here)) (λ on. inr (λ x l. on x (kept_twice k l))) h

  -- a turn that is to come is to come still
  pub turns_stable : (j : ℕ) → IsStable g r (StableNextStep g r j)
  turns_stable j z y k h = λ x l. h x (kept_twice k l)

  -- and so is a join
  pub joins_stable : (p : Parent) (ps : List Parent) (j : ℕ) → IsStable g r (Joins g r p ps j)
  joins_stable p ps j z y k h = λ x l. h x (kept_twice k l)

  -- a thread on its way to one is on it still
  pub joining_stable : (p : Parent) (ps : List Parent) (most : ℕ) → IsStable g r (IsJoining g r p ps most)
  joining_stable p ps most z y k h = (h.0, h.1, h.2, leads_in_stable (Joins g r p ps h.1) (joins_stable p ps h.1) h.0 z y k h.3)

  -- where it holds already, no step is needed
  pub leads_now : (Q : ThreadView → Type 0) (n : ℕ) (z : ThreadView) → Q z → LeadsIn g r Q n z
  leads_now Q zero z h = h
  leads_now Q (suc n) z h = inl h

  -- more steps are allowed
  pub leads_more : (Q : ThreadView → Type 0) (n m : ℕ) (z : ThreadView) → n ≤ m → LeadsIn g r Q n z → LeadsIn g r Q m z
  leads_more Q zero m z le h = leads_now Q m z h
  leads_more Q (suc n) zero z le h = absurd (omega arith)
  leads_more Q (suc n) (suc m) z le h =
      ⊎_elim
      (λ (here : Q z). inl here)
      (λ on. inr (λ y k. let s = on y k in (s.0, s.1, leads_more Q n m s.0 (omega arith) s.2)))
      h

  -- one way after another
  pub then_leads : (P Q : ThreadView → Type 0) (n m : ℕ) (z : ThreadView) → LeadsIn g r P n z →
      ((y : ThreadView) → P y → LeadsIn g r Q m y) → LeadsIn g r Q (n + m) z
  then_leads P Q zero m z h next = let e : m ≡ 0 + m = omega arith in subst (λ k. LeadsIn g r Q k z) e (next z h)
  then_leads P Q (suc n) m z h next =
      let e : suc (n + m) ≡ suc n + m = omega arith in
      let all : LeadsIn g r Q (suc (n + m)) z =
      ⊎_elim
      (λ (here : P z). leads_more Q m (suc (n + m)) z (omega arith) (next z here))
      (λ on. inr (λ y k. let s = on y k in (s.0, s.1, then_leads P Q n m s.0 s.2 next)))
      h in
      subst (λ k. LeadsIn g r Q k z) e all

  -- what it leads to may be said in another way
  pub leads_as : (P Q : ThreadView → Type 0) (n : ℕ) (z : ThreadView) → ((y : ThreadView) → P y → Q y) → LeadsIn g r P n z →
      LeadsIn g r Q n z
  leads_as P Q zero z f h = f z h
  leads_as P Q (suc n) z f h =
      ⊎_elim
      (λ (here : P z). inl (f z here))
      (λ on. inr (λ y k. let s = on y k in (s.0, s.1, leads_as P Q n s.0 f s.2)))
      h
