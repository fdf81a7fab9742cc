-- What others leave to a thread keeps its select set up, and what it has latched.
use Rattle.std.proofs.Common.{◌≡◌, ℕ, List, Some, refl, ap, ◌∙◌}
use Rattle.std.specs.Prelude.{slice_get}
use Rattle.xs_instr.specs.declared.state.CoreState.{CoreState}
use Rattle.xs_instr.specs.declared.state.Res.{Res}
use Rattle.xs_instr.specs.declared.state.Res.TheVariants.{Port as ResPort, Timer as ResTimer, End as ResEnd}
use Rattle.xs_instr.specs.Events.{vector_of}
use Rattle.xc_kernel.specs.declared.statement.KRes.{KRes}
use Rattle.xc_kernel.specs.declared.statement.KRes.TheVariants.{Port, Timer, Chan}
use Rattle.xc_kernel.specs.Plain as kernel
use Rattle.xc_meaning.specs.States.Items.{Choice, When, fixed}
use Rattle.xl_expr.specs.ResourceParts.{OwnPartsStay, ResourceState, resource_state}
use Rattle.xl_expr.proofs.ResourceParts.{own_same, port_same, timer_same}
use Rattle.xr_events.specs.Armed.{IsArmed, IsOfCase, IsSetFor, Places, res_of}
use Rattle.xr_events.specs.Latches.{HasLatched, LatchIsOf}
use Rattle.xr_events.specs.Takings.{alone}

-- Where its part is the same the event of a resource leads to the same index.
pub vector_stays : (a b : CoreState) (res : Res) → resource_state b res ≡ resource_state a res → vector_of b.events res ≡ vector_of a.events res
vector_stays a b (ResPort n) same = ap (λ (x : ResourceState). x.vector) same
vector_stays a b (ResTimer n) same = ap (λ (x : ResourceState). x.vector) same
vector_stays a b (ResEnd n) same = ap (λ (x : ResourceState). x.vector) same

module _ (places : Places) (a b : CoreState) where
  -- a resource whose part is the same is set as before
  pub set_stays : (when : When) (res : KRes) → resource_state b (res_of places res) ≡ resource_state a (res_of places res) → IsSetFor places a when res → IsSetFor places b when res
  set_stays when (Port p) same (port, there) = (port, port_same a b (places.port p) same ∙ there)
  set_stays when (Timer t) same (timer, there) = (timer, timer_same a b (places.timer t) same ∙ there)
  set_stays when (Chan c) same none = none

  -- and has the same latch
  pub latch_stays : (res : KRes) (v counter : ℕ) → resource_state b (res_of places res) ≡ resource_state a (res_of places res) → HasLatched places a res v counter → HasLatched places b res v counter
  latch_stays (Port p) v counter same (port, there, latch) = (port, port_same a b (places.port p) same ∙ there, latch)
  latch_stays (Timer t) v counter same (timer, there, latch) = (timer, timer_same a b (places.timer t) same ∙ there, latch)
  latch_stays (Chan c) v counter same none = none

  module _ (mine : Res → Type 0) (t : ℕ) (stay : OwnPartsStay mine t a b) where
    -- The select stays set up where the resources of its cases are the thread's.
    pub armed_stays : (choices : List Choice) → ((n : ℕ) (c : Choice) → slice_get choices n ≡ Some c → mine (res_of places c.input.resource)) → IsArmed places t choices a → IsArmed places t choices b
    armed_stays choices own armed = record {
      only = λ res enabled. armed.only res (stay.no_more_enabled res enabled);
      enabled = λ n c listed. stay.enabled (res_of places c.input.resource) (own n c listed) (armed.enabled n c listed);
      set = λ n c listed. set_stays c.when c.input.resource (stay.parts (res_of places c.input.resource) (own n c listed)) (armed.set n c listed);
    }

-- These alone need be left to it.
pub cases_stay : (places : Places) (t : ℕ) (choices : List Choice) (a b : CoreState) → OwnPartsStay (IsOfCase places choices) t a b → IsArmed places t choices a → IsArmed places t choices b
cases_stay places t choices a b stay =
    armed_stays places a b (IsOfCase places choices) t stay choices (λ n c listed. (n, c, listed, refl))

-- What a case has latched stays where its resource alone is left to the thread.
pub latches_stay : (places : Places) (t : ℕ) (i : kernel.Input) (v counter : ℕ) (a b : CoreState) → OwnPartsStay (alone (res_of places i.resource)) t a b → LatchIsOf places a (fixed i v counter) → LatchIsOf places b (fixed i v counter)
latches_stay places t i v counter a b stay h =
    latch_stays places a b i.resource v counter (stay.parts (res_of places i.resource) refl) h

-- So it stays where ports, timers and events do, as behind a step of the thread's own that sets its event bit.
pub armed_same : (places : Places) (t : ℕ) (a b : CoreState) (choices : List Choice) → b.ports ≡ a.ports → b.timers ≡ a.timers → b.events ≡ a.events → IsArmed places t choices a → IsArmed places t choices b
armed_same places t a b choices ports timers events =
    armed_stays places a b (λ res. Unit {0}) t (own_same (λ res. Unit {0}) t a b ports timers events) choices (λ n c listed. tt)
