-- What is so of the core on the way: the cases that are done are set up, and ports are declared as they were.
use Rattle.std.proofs.Common.{◌≡◌, ◌≢◌, ℕ, List, Some, refl, sym, ap, ◌∙◌, subst}
use Rattle.std.specs.Prelude.{slice_get}
use Rattle.xs_instr.specs.declared.state.CoreState.{CoreState}
use Rattle.xs_instr.specs.declared.state.Port.{Port}
use Rattle.xs_instr.specs.declared.state.Res.{Res}
use Rattle.xs_instr.specs.declared.state.Res.TheVariants.{Port as ResPort, Timer as ResTimer, End as ResEnd}
use Rattle.xs_instr.specs.Events.{vector_in, vector_of, watch_of}
use Rattle.xc_meaning.specs.States.Items.{Choice, When}
use Rattle.xl_expr.specs.ResourceParts.{IsEnabledFor, OwnPartsStay, ResourceState, owner_in, resource_state}
use Rattle.xl_expr.proofs.ResourceParts.{own_same, port_same, timer_same}
use Rattle.xl_select.specs.Armed.{Armed, IsSetFor, LeadsTo}
use Rattle.xl_select.specs.Opening.{IsNamedBy}
use Rattle.xl_select.proofs.Moves.{Opener, its_own}
use Rattle.xl_select.proofs.Values.{LastsBeside}

-- a resource is set as before where its part is the same, or all ports and timers are

pub set_kept : (when : When) (res : Res) (a b : CoreState) → resource_state b res ≡ resource_state a res → IsSetFor a when res →
    IsSetFor b when res
set_kept when (ResPort n) a b same h = (h.0, port_same a b n same ∙ h.1)
set_kept when (ResTimer n) a b same h = (h.0, timer_same a b n same ∙ h.1)
set_kept when (ResEnd n) a b same h = tt

pub set_same : (when : When) (res : Res) (a b : CoreState) → b.ports ≡ a.ports → b.timers ≡ a.timers → IsSetFor a when res →
    IsSetFor b when res
set_same when (ResPort n) a b ports timers h = (h.0, ap (λ l. slice_get l n) ports ∙ h.1)
set_same when (ResTimer n) a b ports timers h = (h.0, ap (λ l. slice_get l n) timers ∙ h.1)
set_same when (ResEnd n) a b ports timers h = tt

-- and its event leads where it led
pub vector_kept : (res : Res) (a b : CoreState) → resource_state b res ≡ resource_state a res →
    vector_of b.events res ≡ vector_of a.events res
vector_kept (ResPort n) a b same = ap (λ (x : ResourceState). x.vector) same
vector_kept (ResTimer n) a b same = ap (λ (x : ResourceState). x.vector) same
vector_kept (ResEnd n) a b same = ap (λ (x : ResourceState). x.vector) same

-- ports are declared as they were
pub record Declared (o : Opener) (b : CoreState) : Type 0 where
  pub by : (n : ℕ) (port : Port) → its_own o (ResPort n) → slice_get o.first.ports n ≡ Some port →
      (port' : Port) × (slice_get b.ports n ≡ Some port') × (port'.decl ≡ port.decl)

pub record SetUp (o : Opener) (done : List Choice) (b : CoreState) : Type 0 where
  pub armed : Armed o.places o.t o.cases o.targets done b
  pub declared : Declared o b

module _ (o : Opener) where
  -- the resource of a choice is the thread's own
  named_of : (c : Choice) (vector : ℕ) → LeadsTo o.cases o.targets c vector → IsNamedBy o.cases c.input.resource
  named_of c vector h = (h.place, h.guard, c.input, h.body, h.case_is, refl)

  pub named_in : (done : List Choice) (b : CoreState) → Armed o.places o.t o.cases o.targets done b → (n : ℕ) (c : Choice) →
      slice_get done n ≡ Some c → IsNamedBy o.cases c.input.resource
  named_in done b armed n c h = named_of c (vector_of b.events (o.places c.input.resource)) (armed.leads n c h)

  own_in : (done : List Choice) (b : CoreState) → Armed o.places o.t o.cases o.targets done b → (n : ℕ) (c : Choice) →
      slice_get done n ≡ Some c → its_own o (o.places c.input.resource)
  own_in done b armed n c h = (c.input.resource, named_in done b armed n c h, refl)

  -- what is set up stays so where others leave the thread's own resources
  armed_kept : (done : List Choice) (a b : CoreState) → OwnPartsStay (its_own o) o.t a b → Armed o.places o.t o.cases o.targets done a →
      Armed o.places o.t o.cases o.targets done b
  armed_kept done a b k h = record {
    only = λ res e. h.only res (k.no_more_enabled res e);
    enabled = λ n c g. k.enabled (o.places c.input.resource) (own_in done a h n c g) (h.enabled n c g);
    set = λ n c g. set_kept c.when (o.places c.input.resource) a b (k.parts (o.places c.input.resource) (own_in done a h n c g)) (h.set n c g);
    leads = λ n c g.
        subst (LeadsTo o.cases o.targets c) (sym (vector_kept (o.places c.input.resource) a b (k.parts (o.places c.input.resource) (own_in done a h n c g))))
        (h.leads n c g);
  }

  declared_kept : (a b : CoreState) → OwnPartsStay (its_own o) o.t a b → Declared o a → Declared o b
  declared_kept a b k h = record {
    by = λ n port own is. let x = h.by n port own is in (x.0, port_same a b n (k.parts (ResPort n) own) ∙ x.1, x.2);
  }

  pub declared_lasts : LastsBeside o (Declared o)
  declared_lasts = record {
    kept = λ a b k h. declared_kept a b k.resources h;
    still = λ a b ports timers events h. declared_kept a b (own_same (its_own o) o.t a b ports timers events) h;
  }

  set_up_kept : (done : List Choice) (a b : CoreState) → OwnPartsStay (its_own o) o.t a b → SetUp o done a → SetUp o done b
  set_up_kept done a b k h = record { armed = armed_kept done a b k h.armed; declared = declared_kept a b k h.declared }

  pub set_up_lasts : (done : List Choice) → LastsBeside o (SetUp o done)
  set_up_lasts done = record {
    kept = λ a b k h. set_up_kept done a b k.resources h;
    still = λ a b ports timers events h. set_up_kept done a b (own_same (its_own o) o.t a b ports timers events) h;
  }

  -- beside what is said of one of its resources
  pub record OfPart (at : Res) (Extra : CoreState → Type 0) : Type 0 where
    pub by : (a b : CoreState) → resource_state b at ≡ resource_state a at → Extra a → Extra b

  abbrev pub With : List Choice → (CoreState → Type 0) → CoreState → Type 0
  With done Extra b = SetUp o done b × Extra b

  pub with_lasts : (done : List Choice) (at : Res) → its_own o at → (Extra : CoreState → Type 0) → OfPart at Extra →
      LastsBeside o (With done Extra)
  with_lasts done at own Extra part = record {
    kept = λ a b k h. (set_up_kept done a b k.resources h.0, part.by a b (k.resources.parts at own) h.1);
    still = λ a b ports timers events h.
        let k = own_same (its_own o) o.t a b ports timers events in
        (set_up_kept done a b k h.0, part.by a b (k.parts at own) h.1);
  }

  -- a step that changes a resource apart from those that are done leaves these
  pub armed_beside : (done : List Choice) (at : Res) (a b : CoreState) →
      ((n : ℕ) (d : Choice) → slice_get done n ≡ Some d → o.places d.input.resource ≢ at) →
      ((res : Res) → IsEnabledFor o.t b.events res → IsEnabledFor o.t a.events res) →
      ((res : Res) → res ≢ at → watch_of b.events res ≡ watch_of a.events res) →
      ((when : When) (res : Res) → res ≢ at → IsSetFor a when res → IsSetFor b when res) → Armed o.places o.t o.cases o.targets done a →
      Armed o.places o.t o.cases o.targets done b
  armed_beside done at a b apart no_more same others h = record {
    only = λ res e. h.only res (no_more res e);
    enabled = λ n c g. ap owner_in (same (o.places c.input.resource) (apart n c g)) ∙ h.enabled n c g;
    set = λ n c g. others c.when (o.places c.input.resource) (apart n c g) (h.set n c g);
    leads = λ n c g. subst (LeadsTo o.cases o.targets c) (sym (ap vector_in (same (o.places c.input.resource) (apart n c g)))) (h.leads n c g);
  }
