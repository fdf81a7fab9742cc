-- Behind the clearing nothing is set up, and one case more is set up once its resource is set, has its vector, and is enabled.
use Rattle.std.proofs.Common.{◌≡◌, ◌≢◌, ◌⊎◌, ℕ, zero, suc, inl, inr, List, [], ◌∷◌, ◌++◌, length, Some, refl, sym, ap, ◌∙◌, subst, ⊎_elim}
use Rattle.std.specs.Prelude.{slice_get}
use Rattle.std.proofs.lemmas.Bool.{cases_eq}
use Rattle.std.proofs.lemmas.Option.{same_Some}
use Rattle.xs_instr.specs.declared.state.CoreState.{CoreState}
use Rattle.xs_instr.specs.declared.state.Events.{Events}
use Rattle.xs_instr.specs.declared.state.Res.{Res}
use Rattle.xs_instr.specs.declared.state.Res.TheVariants.{Port as ResPort, Timer as ResTimer, End as ResEnd}
use Rattle.xs_instr.specs.declared.state.Watch.{Watch}
use Rattle.xs_instr.specs.Events.{cleared, enabled, vector_in, vector_of, watch_of}
use Rattle.xc_kernel.specs.declared.statement.KRes.{KRes}
use Rattle.xc_kernel.specs.Plain as kernel
use Rattle.xc_meaning.specs.States.Items.{Choice, When}
use Rattle.xl_expr.specs.ResourceParts.{IsEnabledFor, owner_in}
use Rattle.xl_select.specs.Armed.{Armed, IsSetFor, LeadsTo}
use Rattle.xl_select.proofs.Watching.{enabled_other, enabled_same, none_enabled}

-- two resources are one or not
pub same_or_not : (a b : Res) → (a ≡ b) ⊎ (a ≢ b)
same_or_not (ResPort n) (ResPort m) = ⊎_elim (λ (e : n ≡ m). inl (ap (λ (x : ℕ). ResPort x) e)) (λ (ne : n ≢ m). inr (λ e. ne (let f = e in cc))) (cases_eq n m)
same_or_not (ResTimer n) (ResTimer m) = ⊎_elim (λ (e : n ≡ m). inl (ap (λ (x : ℕ). ResTimer x) e)) (λ (ne : n ≢ m). inr (λ e. ne (let f = e in cc))) (cases_eq n m)
same_or_not (ResEnd n) (ResEnd m) = ⊎_elim (λ (e : n ≡ m). inl (ap (λ (x : ℕ). ResEnd x) e)) (λ (ne : n ≢ m). inr (λ e. ne (let f = e in cc))) (cases_eq n m)
same_or_not (ResPort n) (ResTimer m) = inr (λ e. cc)
same_or_not (ResPort n) (ResEnd m) = inr (λ e. cc)
same_or_not (ResTimer n) (ResPort m) = inr (λ e. cc)
same_or_not (ResTimer n) (ResEnd m) = inr (λ e. cc)
same_or_not (ResEnd n) (ResPort m) = inr (λ e. cc)
same_or_not (ResEnd n) (ResTimer m) = inr (λ e. cc)

-- an item of a list with one more at its end is one of the list or that one
pub in_one_more : {X : Type 0} (xs : List X) (x y : X) (n : ℕ) → slice_get (xs ++ x ∷ []) n ≡ Some y → (slice_get xs n ≡ Some y) ⊎ (y ≡ x)
in_one_more [] x y zero h = inr (sym (same_Some x y h))
in_one_more [] x y (suc n) h = cc
in_one_more (z ∷ xs) x y zero h = inl h
in_one_more (z ∷ xs) x y (suc n) h = in_one_more xs x y n h

pub still_in : {X : Type 0} (xs : List X) (x y : X) (n : ℕ) → slice_get xs n ≡ Some y → slice_get (xs ++ x ∷ []) n ≡ Some y
still_in [] x y n h = cc
still_in (z ∷ xs) x y zero h = h
still_in (z ∷ xs) x y (suc n) h = still_in xs x y n h

pub last_in : {X : Type 0} (xs : List X) (x : X) → slice_get (xs ++ x ∷ []) (length xs) ≡ Some x
last_in [] x = refl
last_in (z ∷ xs) x = last_in xs x

module _ (places : KRes → Res) (t : ℕ) (cases : kernel.Cases) (targets : List ℕ) where
  -- nothing is set up where all of the thread's are cleared, whatever was enabled before
  pub none_armed : (core core' : CoreState) → core'.events ≡ cleared core.events t → Armed places t cases targets [] core'
  none_armed core core' is = record {
    only = λ res own. absurd (none_enabled core.events t res (subst (λ (e : Events). IsEnabledFor t e res) is own));
    enabled = λ n c h. absurd (none n c h);
    set = λ n c h. absurd (none n c h);
    leads = λ n c h. absurd (none n c h);
  }
    where
      none : (n : ℕ) (c : Choice) → slice_get [] n ≡ Some c → ⊥
      none n c h = cc

  -- one more is
  module _ (core core' : CoreState) (done : List Choice) (c : Choice) (k : ℕ) (w : Watch) (armed : Armed places t cases targets done core) (there : watch_of core.events (places c.input.resource) ≡ Some w) (vector : w.vector ≡ k) (events : core'.events ≡ enabled core.events (places c.input.resource) t) (apart : (n : ℕ) (d : Choice) → slice_get done n ≡ Some d → places d.input.resource ≢ places c.input.resource) (mine : IsSetFor core' c.when (places c.input.resource)) (others : (when : When) (res : Res) → res ≢ places c.input.resource → IsSetFor core when res → IsSetFor core' when res) (leading : LeadsTo cases targets c k) where
    abbrev at : Res
    at = places c.input.resource

    watch_here : watch_of core'.events at ≡ Some (record w { owner = Some t })
    watch_here = ap (λ e. watch_of e at) events ∙ enabled_same core.events at t w there

    watch_elsewhere : (res : Res) → res ≢ at → watch_of core'.events res ≡ watch_of core.events res
    watch_elsewhere res ne = ap (λ e. watch_of e res) events ∙ enabled_other core.events at res t w there ne

    abbrev Found : Res → Type 0
    Found res = (n : ℕ) × (d : Choice) × (slice_get (done ++ c ∷ []) n ≡ Some d) × (res ≡ places d.input.resource)

    by_only : (res : Res) → IsEnabledFor t core'.events res → (res ≡ at) ⊎ (res ≢ at) → Found res
    by_only res own (inl e) = (length done, c, last_in done c, e)
    by_only res own (inr ne) =
        let (n, d, h, is) = armed.only res (sym (ap owner_in (watch_elsewhere res ne)) ∙ own) in
        (n, d, still_in done c d n h, is)

    enabled_by : (n : ℕ) (d : Choice) → (slice_get done n ≡ Some d) ⊎ (d ≡ c) → IsEnabledFor t core'.events (places d.input.resource)
    enabled_by n d (inl h) = ap owner_in (watch_elsewhere (places d.input.resource) (apart n d h)) ∙ armed.enabled n d h
    enabled_by n d (inr e) = subst (λ (x : Choice). IsEnabledFor t core'.events (places x.input.resource)) (sym e) (ap owner_in watch_here)

    set_by : (n : ℕ) (d : Choice) → (slice_get done n ≡ Some d) ⊎ (d ≡ c) → IsSetFor core' d.when (places d.input.resource)
    set_by n d (inl h) = others d.when (places d.input.resource) (apart n d h) (armed.set n d h)
    set_by n d (inr e) = subst (λ (x : Choice). IsSetFor core' x.when (places x.input.resource)) (sym e) mine

    leads_by : (n : ℕ) (d : Choice) → (slice_get done n ≡ Some d) ⊎ (d ≡ c) → LeadsTo cases targets d (vector_of core'.events (places d.input.resource))
    leads_by n d (inl h) = subst (LeadsTo cases targets d) (sym (ap vector_in (watch_elsewhere (places d.input.resource) (apart n d h)))) (armed.leads n d h)
    leads_by n d (inr e) =
        subst (λ (x : Choice). LeadsTo cases targets x (vector_of core'.events (places x.input.resource))) (sym e)
        (subst (LeadsTo cases targets c) (sym (ap vector_in watch_here ∙ vector)) leading)

    pub armed_on : Armed places t cases targets (done ++ c ∷ []) core'
    armed_on = record {
      only = λ res own. by_only res own (same_or_not res at);
      enabled = λ n d h. enabled_by n d (in_one_more done c d n h);
      set = λ n d h. set_by n d (in_one_more done c d n h);
      leads = λ n d h. leads_by n d (in_one_more done c d n h);
    }
