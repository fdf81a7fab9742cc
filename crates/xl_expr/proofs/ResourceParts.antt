-- Steps that leave resources, and what lasts with more or fewer of them.
use Rattle.std.proofs.Common.{◌≡◌, ◌≢◌, ℕ, None, sym, ap, ◌∙◌}
use Rattle.std.specs.Prelude.{slice_get}
use Rattle.xs_instr.specs.declared.state.CoreState.{CoreState}
use Rattle.xs_instr.specs.declared.state.Events.{Events}
use Rattle.xs_instr.specs.declared.state.Res.{Res}
use Rattle.xs_instr.specs.declared.state.Res.TheVariants.{Port as ResPort, Timer as ResTimer, End as ResEnd}
use Rattle.xs_instr.specs.Events.{vector_of, watch_of}
use Rattle.xl_expr.specs.ResourceParts.{IsEnabledFor, OtherPartsStay, OwnPartsStay, ResourceState, owner_in, resource_state, port_alone, timer_alone}

-- where ports, timers and events are the same, each resource is
pub part_same : (a b : CoreState) → b.ports ≡ a.ports → b.timers ≡ a.timers → b.events ≡ a.events → (res : Res) → resource_state b res ≡ resource_state a res
part_same a b ports timers events (ResPort n) =
    ap (λ l. record { port = slice_get l n; timer = None; vector = vector_of b.events (ResPort n) }) ports
    ∙ ap (λ e. record { port = slice_get a.ports n; timer = None; vector = vector_of e (ResPort n) }) events
part_same a b ports timers events (ResTimer n) =
    ap (λ l. record { port = None; timer = slice_get l n; vector = vector_of b.events (ResTimer n) }) timers
    ∙ ap (λ e. record { port = None; timer = slice_get a.timers n; vector = vector_of e (ResTimer n) }) events
part_same a b ports timers events (ResEnd n) = ap (λ e. record { port = None; timer = None; vector = vector_of e (ResEnd n) }) events

-- and enabled as before
pub enabled_same : (u : ℕ) (old new : Events) (res : Res) → new ≡ old → IsEnabledFor u old res → IsEnabledFor u new res
enabled_same u old new res same h = ap (λ e. owner_in (watch_of e res)) same ∙ h

module _ (mine : Res → Type 0) (t : ℕ) (a b : CoreState) where
  -- nothing of them has changed
  pub others_same : b.ports ≡ a.ports → b.timers ≡ a.timers → b.events ≡ a.events → OtherPartsStay mine t a b
  others_same ports timers events = record {
    parts = λ res n. part_same a b ports timers events res;
    enabled = λ u res ne n h. enabled_same u a.events b.events res events h;
    no_more_enabled = λ u res ne h. enabled_same u b.events a.events res (sym events) h;
  }

  pub own_same : b.ports ≡ a.ports → b.timers ≡ a.timers → b.events ≡ a.events → OwnPartsStay mine t a b
  own_same ports timers events = record {
    parts = λ res m. part_same a b ports timers events res;
    enabled = λ res m h. enabled_same t a.events b.events res events h;
    no_more_enabled = λ res h. enabled_same t b.events a.events res (sym events) h;
  }

  -- what is left of all but fewer is left of all but more
  pub others_fewer : (more : Res → Type 0) → ((res : Res) → mine res → more res) → OtherPartsStay mine t a b → OtherPartsStay more t a b
  others_fewer more within h = record {
    parts = λ res n. h.parts res (λ m. n (within res m));
    enabled = λ u res ne n e. h.enabled u res ne (λ m. n (within res m)) e;
    no_more_enabled = h.no_more_enabled;
  }

  -- what is kept of more is kept of fewer
  pub own_fewer : (fewer : Res → Type 0) → ((res : Res) → fewer res → mine res) → OwnPartsStay mine t a b → OwnPartsStay fewer t a b
  own_fewer fewer within h = record {
    parts = λ res m. h.parts res (within res m);
    enabled = λ res m e. h.enabled res (within res m) e;
    no_more_enabled = h.no_more_enabled;
  }

-- one after the other
pub own_then : (mine : Res → Type 0) (t : ℕ) (a b c : CoreState) → OwnPartsStay mine t a b → OwnPartsStay mine t b c → OwnPartsStay mine t a c
own_then mine t a b c h k = record {
  parts = λ res m. k.parts res m ∙ h.parts res m;
  enabled = λ res m e. k.enabled res m (h.enabled res m e);
  no_more_enabled = λ res e. h.no_more_enabled res (k.no_more_enabled res e);
}

-- what a step of one thread leaves is what another one relies on, where they have no resource both
pub others_keep : (mine theirs : Res → Type 0) (t u : ℕ) (a b : CoreState) → u ≢ t → ((res : Res) → theirs res → mine res → ⊥) → OtherPartsStay mine t a b → OwnPartsStay theirs u a b
others_keep mine theirs t u a b ne apart h = record {
  parts = λ res m. h.parts res (apart res m);
  enabled = λ res m e. h.enabled u res ne (apart res m) e;
  no_more_enabled = λ res e. h.no_more_enabled u res ne e;
}

-- a port is as its part is
pub port_same : (a b : CoreState) (p : ℕ) → resource_state b (ResPort p) ≡ resource_state a (ResPort p) → slice_get b.ports p ≡ slice_get a.ports p
port_same a b p same = ap (λ (x : ResourceState). x.port) same

-- and so is a timer
pub timer_same : (a b : CoreState) (n : ℕ) → resource_state b (ResTimer n) ≡ resource_state a (ResTimer n) → slice_get b.timers n ≡ slice_get a.timers n
timer_same a b n same = ap (λ (x : ResourceState). x.timer) same

-- a step that sets one port alone
pub others_of_port : (t p : ℕ) (a b : CoreState) → ((q : ℕ) → (q ≡ p → ⊥) → slice_get b.ports q ≡ slice_get a.ports q) → b.timers ≡ a.timers → b.events ≡ a.events → OtherPartsStay (port_alone p) t a b
others_of_port t p a b others timers events = record {
  parts = by;
  enabled = λ u res ne n h. enabled_same u a.events b.events res events h;
  no_more_enabled = λ u res ne h. enabled_same u b.events a.events res (sym events) h;
}
  where
    by : (res : Res) → (port_alone p res → ⊥) → resource_state b res ≡ resource_state a res
    by (ResPort q) n =
        ap (λ o. record { port = o; timer = None; vector = vector_of b.events (ResPort q) }) (others q (λ e. n (ap ResPort e)))
        ∙ ap (λ e. record { port = slice_get a.ports q; timer = None; vector = vector_of e (ResPort q) }) events
    by (ResTimer q) n =
        ap (λ l. record { port = None; timer = slice_get l q; vector = vector_of b.events (ResTimer q) }) timers
        ∙ ap (λ e. record { port = None; timer = slice_get a.timers q; vector = vector_of e (ResTimer q) }) events
    by (ResEnd q) n = ap (λ e. record { port = None; timer = None; vector = vector_of e (ResEnd q) }) events

-- a step that sets one timer alone
pub others_of_timer : (t n : ℕ) (a b : CoreState) → ((m : ℕ) → (m ≡ n → ⊥) → slice_get b.timers m ≡ slice_get a.timers m) → b.ports ≡ a.ports → b.events ≡ a.events → OtherPartsStay (timer_alone n) t a b
others_of_timer t n a b others ports events = record {
  parts = by;
  enabled = λ u res ne m h. enabled_same u a.events b.events res events h;
  no_more_enabled = λ u res ne h. enabled_same u b.events a.events res (sym events) h;
}
  where
    by : (res : Res) → (timer_alone n res → ⊥) → resource_state b res ≡ resource_state a res
    by (ResTimer m) ne =
        ap (λ o. record { port = None; timer = o; vector = vector_of b.events (ResTimer m) }) (others m (λ e. ne (ap ResTimer e)))
        ∙ ap (λ e. record { port = None; timer = slice_get a.timers m; vector = vector_of e (ResTimer m) }) events
    by (ResPort q) ne =
        ap (λ l. record { port = slice_get l q; timer = None; vector = vector_of b.events (ResPort q) }) ports
        ∙ ap (λ e. record { port = slice_get a.ports q; timer = None; vector = vector_of e (ResPort q) }) events
    by (ResEnd m) ne = ap (λ e. record { port = None; timer = None; vector = vector_of e (ResEnd m) }) events
