-- What CLRE, SETV and EEU leave: the clearing leaves all resources and what others have enabled; a vector and an enabling change one resource.
use Rattle.std.proofs.Common.{◌≡◌, ◌≢◌, ℕ, ◌+◌, ◌⊎◌, inl, inr, Some, None, refl, sym, ap, ◌∙◌, subst}
use Rattle.std.specs.Prelude.{slice_get}
use Rattle.std.proofs.lemmas.Option.{same_Some}
use Rattle.xs_instr.specs.declared.image.Home.{Home}
use Rattle.xs_instr.specs.declared.instr.Instr.TheVariants.{Clre, Eeu, Setv}
use Rattle.xs_instr.specs.declared.instr.Reg.TheVariants.{R11}
use Rattle.xs_instr.specs.declared.state.CoreState.{CoreState}
use Rattle.xs_instr.specs.declared.state.Events.{Events}
use Rattle.xs_instr.specs.declared.state.Regs.{Regs}
use Rattle.xs_instr.specs.declared.state.Res.{Res}
use Rattle.xs_instr.specs.declared.state.Res.TheVariants.{Port as ResPort, Timer as ResTimer, End as ResEnd}
use Rattle.xs_instr.specs.declared.state.Thread.{Thread}
use Rattle.xs_instr.specs.declared.state.Watch.{Watch}
use Rattle.xs_instr.specs.Did.{Did, makes, map_did}
use Rattle.xs_instr.specs.Events.{cleared, enable_row, enabled, on_evented, there, vector_in, vector_of, vector_row, vector_set, watch_of}
use Rattle.xs_instr.specs.Resources.{named}
use Rattle.xs_instr.specs.Rows.{goes_with, put_events, row}
use Rattle.xl_expr.specs.ResourceParts.{IsEnabledFor, OtherPartsStay, owner_in, resource_state}
use Rattle.xl_expr.proofs.Ways.{at_pc}
use Rattle.xl_select.specs.Opening.{IsThere, named_at}
use Rattle.xl_select.proofs.Arming.{same_or_not}
use Rattle.xl_select.proofs.Moves.{behind, Left}
use Rattle.xl_select.proofs.Watching.{enabled_other, enabled_same, enabled_stays, nothing_more_enabled, vector_other, vector_same, vectors_stay}

-- a step that changes events alone
abbrev pub events_left : CoreState → Events → Left
events_left c events = record { ports = c.ports; timers = c.timers; events = events; words = c.words }

-- resources are as they were where their vectors are
pub state_by_vector : (c : CoreState) (t : ℕ) (th : Thread) (pc : ℕ) (regs : Regs) (events : Events) (res : Res) → vector_of events res ≡ vector_of c.events res → resource_state (behind c t th pc regs (events_left c events)) res ≡ resource_state c res
state_by_vector c t th pc regs events (ResPort n) h = ap (λ v. record { port = slice_get c.ports n; timer = None; vector = v }) h
state_by_vector c t th pc regs events (ResTimer n) h = ap (λ v. record { port = None; timer = slice_get c.timers n; vector = v }) h
state_by_vector c t th pc regs events (ResEnd n) h = ap (λ v. record { port = None; timer = None; vector = v }) h

module _ (mine : Res → Type 0) (t : ℕ) (c : CoreState) (th : Thread) (pc : ℕ) (regs : Regs) where
  abbrev After : Events → CoreState
  After events = behind c t th pc regs (events_left c events)

  -- CLRE
  pub clearing_leaves : OtherPartsStay mine t c (After (cleared c.events t))
  clearing_leaves = record {
    parts = λ res n. state_by_vector c t th pc regs (cleared c.events t) res (vectors_stay c.events t res);
    enabled = λ u res ne n h. enabled_stays c.events t u res ne h;
    no_more_enabled = λ u res ne h. nothing_more_enabled c.events t u res h;
  }

  module _ (at : Res) (own : mine at) (w : Watch) (is : watch_of c.events at ≡ Some w) where
    elsewhere : (res : Res) → (mine res → ⊥) → res ≢ at
    elsewhere res n e = n (subst mine (sym e) own)

    -- SETV
    pub vector_leaves : (k : ℕ) → OtherPartsStay mine t c (After (vector_set c.events at k))
    vector_leaves k = record {
      parts = λ res n. state_by_vector c t th pc regs (vector_set c.events at k) res (ap vector_in (vector_other c.events at res k w is (elsewhere res n)));
      enabled = λ u res ne n h. ap owner_in (vector_other c.events at res k w is (elsewhere res n)) ∙ h;
      no_more_enabled = λ u res ne h. before u res h (same_or_not res at);
    }
      where
        owner_same : owner_in (watch_of (vector_set c.events at k) at) ≡ owner_in (watch_of c.events at)
        owner_same = ap owner_in (vector_same c.events at k w is) ∙ sym (ap owner_in is)

        before : (u : ℕ) (res : Res) → IsEnabledFor u (vector_set c.events at k) res → (res ≡ at) ⊎ (res ≢ at) → IsEnabledFor u c.events res
        before u res h (inl e) = ap (λ r. owner_in (watch_of c.events r)) e ∙ sym owner_same ∙ ap (λ r. owner_in (watch_of (vector_set c.events at k) r)) (sym e) ∙ h
        before u res h (inr ne) = sym (ap owner_in (vector_other c.events at res k w is ne)) ∙ h

    -- EEU
    pub enabling_leaves : OtherPartsStay mine t c (After (enabled c.events at t))
    enabling_leaves = record {
      parts = λ res n. state_by_vector c t th pc regs (enabled c.events at t) res (ap vector_in (enabled_other c.events at res t w is (elsewhere res n)));
      enabled = λ u res ne n h. ap owner_in (enabled_other c.events at res t w is (elsewhere res n)) ∙ h;
      no_more_enabled = λ u res ne h. before u res ne h (same_or_not res at);
    }
      where
        owner_is : owner_in (watch_of (enabled c.events at t) at) ≡ Some t
        owner_is = ap owner_in (enabled_same c.events at t w is)

        before : (u : ℕ) (res : Res) → u ≢ t → IsEnabledFor u (enabled c.events at t) res → (res ≡ at) ⊎ (res ≢ at) → IsEnabledFor u c.events res
        before u res ne h (inl e) =
            let both : Some t ≡ Some u = sym owner_is ∙ ap (λ r. owner_in (watch_of (enabled c.events at t) r)) (sym e) ∙ h in
            absurd (ne (sym (same_Some t u both)))
        before u res ne h (inr apart) = sym (ap owner_in (enabled_other c.events at res t w is apart)) ∙ h

-- the rows, where r11 names a resource that is there

pub clre_row : (home : Home) (c : CoreState) (t : ℕ) (thread : Thread) (pc : ℕ) (regs : Regs) → row home c t (at_pc thread pc regs) Clre ≡ makes (behind c t (at_pc thread pc regs) (pc + 1) regs (events_left c (cleared c.events t)))
clre_row home c t thread pc regs = refl

pub evented : {B : Type 0} (c : CoreState) (go : Res → Did B) (res : Res) → IsThere c res → on_evented c go (named_at res) ≡ go res
evented c go (ResPort n) h = ap (there (go (ResPort n))) h.1
evented c go (ResTimer n) h = ap (there (go (ResTimer n))) h.1
evented c go (ResEnd n) h = ap (there (go (ResEnd n))) h.1

module _ (home : Home) (c : CoreState) (t : ℕ) (thread : Thread) (pc : ℕ) (regs : Regs) (at : Res) (there_is : IsThere c at) (names : named home.number regs.r11 ≡ named_at at) where
  abbrev standing : Thread
  standing = at_pc thread pc regs

  pub setv_row : (k : ℕ) → row home c t standing (Setv R11 k) ≡ makes (behind c t standing (pc + 1) regs (events_left c (vector_set c.events at k)))
  setv_row k =
      ap (λ x. map_did (goes_with put_events c t standing) (on_evented c (vector_row c.events k) x)) names
      ∙ ap (map_did (goes_with put_events c t standing)) (evented c (vector_row c.events k) at there_is)

  pub eeu_row : row home c t standing (Eeu R11) ≡ makes (behind c t standing (pc + 1) regs (events_left c (enabled c.events at t)))
  eeu_row =
      ap (λ x. map_did (goes_with put_events c t standing) (on_evented c (enable_row c.events t) x)) names
      ∙ ap (map_did (goes_with put_events c t standing)) (evented c (enable_row c.events t) at there_is)
