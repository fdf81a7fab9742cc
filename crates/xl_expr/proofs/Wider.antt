-- A clause in the words of a larger rely and a weaker guarantee.
use Rattle.std.proofs.Common.{◌≤◌, ℕ, zero, suc, ◌+◌, inl, inr, Bool, arith, subst, ◌≡◌}
use Rattle.xs_instr.specs.declared.image.Home.{Home}
use Rattle.xs_instr.specs.declared.state.CoreState.{CoreState}
use Rattle.xs_instr.specs.OwnSteps.{Kept, OwnStep, Within}
use Rattle.xl_expr.specs.Leads.{Leads}

module _ (Keeps : CoreState → CoreState → Type 0) (Steps : CoreState → CoreState → Type 0) where
  -- where more is kept between the steps, and less is asked of each step
  pub within_leads : (home : Home) (relied : ℕ → Bool) (leaves : ℕ → Type 0) (t : ℕ) (Q : CoreState → Type 0) → ((a b : CoreState) → Keeps a b → Kept relied t a b) → ((a b : CoreState) → OwnStep home leaves t a b → Steps a b) → (n : ℕ) (a : CoreState) → Within home relied leaves t Q n a → Leads Keeps Steps Q n a
  within_leads home relied leaves t Q f g zero a h = h
  within_leads home relied leaves t Q f g (suc n) a (inl h) = inl h
  within_leads home relied leaves t Q f g (suc n) a (inr h) = inr (λ b k. let x = h b (f a b k) in (x.0, g b x.0 x.1, within_leads home relied leaves t Q f g n x.0 x.2))

  -- more steps may be taken
  pub leads_more : (Q : CoreState → Type 0) (m n : ℕ) → m ≤ n → (a : CoreState) → Leads Keeps Steps Q m a → Leads Keeps Steps Q n a
  leads_more Q zero zero le a h = h
  leads_more Q zero (suc n) le a h = inl h
  leads_more Q (suc m) zero le a h = absurd (omega arith)
  leads_more Q (suc m) (suc n) le a (inl h) = inl h
  leads_more Q (suc m) (suc n) le a (inr h) = inr (λ b k. let x = h b k in (x.0, x.1, leads_more Q m n (omega arith) x.0 x.2))

  -- one way after another
  pub then_leads : (P Q : CoreState → Type 0) (m n : ℕ) (a : CoreState) → Leads Keeps Steps P m a → ((b : CoreState) → P b → Leads Keeps Steps Q n b) → Leads Keeps Steps Q (m + n) a
  then_leads P Q zero n a h next = leads_more Q n (0 + n) (omega arith) a (next a h)
  then_leads P Q (suc m) n a (inl h) next = leads_more Q n (suc m + n) (omega arith) a (next a h)
  then_leads P Q (suc m) n a (inr h) next =
      let e : suc (m + n) ≡ suc m + n = omega arith in
      let all : Leads Keeps Steps Q (suc (m + n)) a = inr (λ b k. let x = h b k in (x.0, x.1, then_leads P Q m n x.0 x.2 next)) in
      subst (λ i. Leads Keeps Steps Q i a) e all

  -- another way to say where it leads
  pub leads_map : (P Q : CoreState → Type 0) → ((b : CoreState) → P b → Q b) → (n : ℕ) (a : CoreState) → Leads Keeps Steps P n a → Leads Keeps Steps Q n a
  leads_map P Q f zero a h = f a h
  leads_map P Q f (suc n) a (inl h) = inl (f a h)
  leads_map P Q f (suc n) a (inr h) = inr (λ b k. let x = h b k in (x.0, x.1, leads_map P Q f n x.0 x.2))
