-- The cases of a select that is set up, beside the thread's events: what is picked is a case that the branch may take, and where nothing is
-- picked no case is ready.
use Rattle.std.proofs.Common.{◌≡◌, ℕ, suc, true, false, List, [], ◌∷◌, Option, Some, None, refl, sym, ap, ◌∙◌, subst}
use Rattle.std.specs.Prelude.{slice_get, not, ◌&&◌}
use Rattle.xs_instr.specs.declared.image.Home.{Home}
use Rattle.xs_instr.specs.declared.state.CoreState.{CoreState}
use Rattle.xs_instr.specs.declared.state.Res.{Res}
use Rattle.xs_instr.specs.declared.state.Thread.{Thread}
use Rattle.xs_instr.specs.Events.{pick}
use Rattle.xs_instr.specs.Machine.{and_then}
use Rattle.xs_instr.specs.Slot.{event_taken}
use Rattle.xc_meaning.specs.Settings.Select.{default_body, input_taken, is_ready, none_ready, takes, takes_case, takes_default}
use Rattle.xc_meaning.specs.Settings.Setting.{Setting, goes_to}
use Rattle.xc_meaning.specs.States.Items.{Body, Choice, body_items, chooses}
use Rattle.xc_meaning.specs.States.Worlds.{only_if}
use Rattle.xr_events.specs.Armed.{IsArmed, Places, StandsFor, res_of}
use Rattle.xr_events.specs.Latches.{LatchIsOf}
use Rattle.xr_events.specs.Readiness.{SameMoment, is_ready_for}
use Rattle.xr_events.proofs.Picks.{pick_none, pick_some}
use Rattle.xr_events.proofs.Readiness.{case_agrees}
use Rattle.xr_events.proofs.Takings.{taken_is_fixed}

-- where each of some cases isn't ready, none is
none_of : (s : Setting) (choices : List Choice) → ((n : ℕ) (c : Choice) → slice_get choices n ≡ Some c → is_ready s c ≡ false) → none_ready s choices ≡ true
none_of s [] h = refl
none_of s (c ∷ choices) h =
    ap (λ b. not b && none_ready s choices) (h 0 c refl) ∙ none_of s choices (λ n d e. h (suc n) d e)

module _ (home : Home) (core : CoreState) (s : Setting) (places : Places) (t : ℕ) (choices : List Choice) (moment : SameMoment home core s) (armed : IsArmed places t choices core)
    (stands : (n : ℕ) (c : Choice) → slice_get choices n ≡ Some c → StandsFor core s places c.input.resource) where
  -- an enabled case is ready where its resource is
  pub ready_as : (n : ℕ) (c : Choice) → slice_get choices n ≡ Some c → is_ready_for home core (res_of places c.input.resource) ≡ is_ready s c
  ready_as n c listed = case_agrees home core s moment places c c.input.resource (armed.set n c listed) (stands n c listed)

  -- The case of an event that is picked may be taken, and what the event latches is what is fixed.
  pub record IsCase (otherwise : Option Body) (res : Res) : Type 0 where
    pub place : ℕ
    pub choice : Choice
    pub listed : slice_get choices place ≡ Some choice
    pub resource : res ≡ res_of places choice.input.resource
    pub taken : takes s place (chooses choices otherwise) ≡
        Some (goes_to s (input_taken s choice.input choice.input.resource ∷ body_items choice.body s.rest))
    pub latched : (x : Thread) →
        LatchIsOf places (event_taken home core t x res) (input_taken s choice.input choice.input.resource)

  pub event_is_case : (otherwise : Option Body) (res : Res) → pick home core t ≡ Some res → IsCase otherwise res
  event_is_case otherwise res is =
      let (owned, ready) = pick_some home core t res is in
      let (n, c, listed, same) = armed.only res owned in
      let case_ready : is_ready s c ≡ true = sym (ready_as n c listed) ∙ ap (is_ready_for home core) (sym same) ∙ ready in
      record {
        place = n;
        choice = c;
        listed = listed;
        resource = same;
        taken =
            ap (λ o. and_then o (takes_case s)) listed
            ∙ ap (λ b. only_if b (goes_to s (input_taken s c.input c.input.resource ∷ body_items c.body s.rest))) case_ready;
        latched = λ x. subst
            (λ (r : Res). LatchIsOf places (event_taken home core t x r) (input_taken s c.input c.input.resource))
            (sym same)
            (taken_is_fixed home core s moment places c.when c.input (armed.set n c listed) (stands n c listed) t x);
      }

  module _ (is : pick home core t ≡ None) where
    -- where nothing is picked, no case is ready
    pub not_ready : (n : ℕ) (c : Choice) → slice_get choices n ≡ Some c → is_ready s c ≡ false
    not_ready n c listed =
        sym (ready_as n c listed) ∙ pick_none home core t is (res_of places c.input.resource) (armed.enabled n c listed)

    pub nothing_ready : none_ready s choices ≡ true
    nothing_ready = none_of s choices not_ready

    -- none may be taken
    pub no_case : (otherwise : Option Body) (n : ℕ) → takes s n (chooses choices otherwise) ≡ None
    no_case otherwise n = by (slice_get choices n) refl
      where
        by : (o : Option Choice) → slice_get choices n ≡ o → takes s n (chooses choices otherwise) ≡ None
        by None e = ap (λ o. and_then o (takes_case s)) e
        by (Some c) e =
            ap (λ o. and_then o (takes_case s)) e
            ∙ ap (λ b. only_if b (goes_to s (input_taken s c.input c.input.resource ∷ body_items c.body s.rest))) (not_ready n c e)

    -- and the default may, where there is one
    pub by_default : (otherwise : Option Body) (body : Body) → otherwise ≡ Some body → takes_default s (chooses choices otherwise) ≡ Some (goes_to s (body_items body s.rest))
    by_default otherwise body e =
        ap (default_body s choices) e ∙ ap (λ b. only_if b (goes_to s (body_items body s.rest))) nothing_ready
