-- The turn of a thread at its select goes with an action of its branch, or both wait.
use Rattle.std.proofs.Common.{◌≡◌, ℕ, ◌+◌, true, false, List, ◌∷◌, Option, Some, None, refl, sym, ap, ◌∙◌, subst}
use Rattle.std.specs.Prelude.{slice_get}
use Rattle.xw_words.specs.declared.pos.Pos.{Pos}
use Rattle.xs_instr.specs.declared.image.Home.{Home}
use Rattle.xs_instr.specs.declared.image.Stim.{Stim}
use Rattle.xs_instr.specs.declared.instr.Instr.TheVariants.{Setsr}
use Rattle.xs_instr.specs.declared.state.CoreState.{CoreState}
use Rattle.xs_instr.specs.declared.state.Mode.TheVariants.{Running}
use Rattle.xs_instr.specs.declared.state.Res.{Res}
use Rattle.xs_instr.specs.declared.state.Thread.{Thread}
use Rattle.xs_instr.specs.Did.{is_step}
use Rattle.xs_instr.specs.Events.{pick}
use Rattle.xs_instr.specs.Machine.{and_then}
use Rattle.xs_instr.specs.Rows.{with_thread}
use Rattle.xs_instr.specs.Slot.{instr_at, slot}
use Rattle.xc_kernel.specs.Plain as kernel
use Rattle.xc_kernel.specs.Values.{ErrorKind}
use Rattle.xc_meaning.specs.Runs.{acts, does_first, does_item, goes, goes_by, selects, selects_by, step_of}
use Rattle.xc_meaning.specs.Settings.Select as source
use Rattle.xc_meaning.specs.Settings.Select.{these, wrong}
use Rattle.xc_meaning.specs.Settings.Setting.{Setting, errs, kind_of}
use Rattle.xc_meaning.specs.States.Branches.{Branch}
use Rattle.xc_meaning.specs.States.Items.{Body, Choice, Item, chooses, does}
use Rattle.xc_meaning.specs.States.Worlds.{World, default, go, take}
use Rattle.xr_events.specs.Armed.{IsArmed, Places}
use Rattle.xr_events.specs.Turns.{BranchRuns, SelectBegins, SelectTurn, ThreadAtSelect, Waits, WaitsAt, takes_case, takes_default, waits}
use Rattle.xr_events.proofs.Cases.{by_default, event_is_case, no_case}
use Rattle.xr_events.proofs.Lasting.{armed_same}
use Rattle.xr_events.proofs.Takings as takings

-- A branch that runs does its first item.
pub acts_go : (K : kernel.Kernel) (stim : Stim) (world : World) (b : ℕ) (branch : Branch) (item : Item) (rest : List Item) → BranchRuns world b branch (item ∷ rest) → acts K stim world (go b) ≡ does_item (step_of K stim world b branch rest) item
acts_go K stim world b branch item rest h =
    ap (λ o. and_then o (goes K stim world b)) h.known
    ∙ ap (goes_by K stim world b branch) h.running
    ∙ ap (does_first K stim world b branch does_item) h.items_are

-- The first step of a select.
pub begins_agree : (K : kernel.Kernel) (stim : Stim) (world : World) (b : ℕ) (branch : Branch) (cases : kernel.Cases) (otherwise : kernel.Default) (pos : Pos) (rest : List Item) → BranchRuns world b branch (does (kernel.select cases otherwise pos) ∷ rest) → (choices : List Choice) → source.enabled world.store cases ≡ these choices → (home : Home) (core : CoreState) (places : Places) (t : ℕ) (x : Thread) → slice_get core.threads t ≡ Some x → x.mode ≡ Running → x.event_bit ≡ false → instr_at home x.pc ≡ Some (Setsr 1) → IsArmed places t choices core → SelectBegins home core places t x (step_of K stim world b branch rest) choices (source.default_of otherwise)
begins_agree K stim world b branch cases otherwise pos rest h choices enabled home core places t x here running bit code armed = record {
  turn = takings.begins home core t x here running bit code;
  armed = armed_same places t core (with_thread core t (record x { pc = x.pc + 1; event_bit = true })) choices refl refl refl armed;
  action =
      acts_go K stim world b branch (does (kernel.select cases otherwise pos)) rest h
      ∙ ap (source.begins_select (step_of K stim world b branch rest) (source.default_of otherwise)) enabled;
}

-- One whose guard, time or condition errs stops the branch as that does.
pub select_errs : (K : kernel.Kernel) (stim : Stim) (world : World) (b : ℕ) (branch : Branch) (cases : kernel.Cases) (otherwise : kernel.Default) (pos : Pos) (rest : List Item) → BranchRuns world b branch (does (kernel.select cases otherwise pos) ∷ rest) → (kind : ErrorKind) (place : Pos) → source.enabled world.store cases ≡ wrong kind place → acts K stim world (go b) ≡ errs (step_of K stim world b branch rest) (kind_of kind) place
select_errs K stim world b branch cases otherwise pos rest h kind place is =
    acts_go K stim world b branch (does (kernel.select cases otherwise pos)) rest h
    ∙ ap (source.begins_select (step_of K stim world b branch rest) (source.default_of otherwise)) is

module _ (K : kernel.Kernel) (stim : Stim) (world : World) (b : ℕ) (branch : Branch) (choices : List Choice) (otherwise : Option Body) (rest : List Item)
    (h : BranchRuns world b branch (chooses choices otherwise ∷ rest)) where
  abbrev setting : Setting
  setting = step_of K stim world b branch rest

  by_select : (step : Setting → Item → Option World) → and_then (slice_get world.branches b) (selects K stim world b step) ≡ step setting (chooses choices otherwise)
  by_select step =
      ap (λ o. and_then o (selects K stim world b step)) h.known
      ∙ ap (selects_by K stim world b step branch) h.running
      ∙ ap (does_first K stim world b branch step) h.items_are

  -- the branch takes a case
  pub acts_take : (n : ℕ) → acts K stim world (take b n) ≡ source.takes setting n (chooses choices otherwise)
  acts_take n = by_select (λ step. source.takes step n)

  -- or its default
  pub acts_default : acts K stim world (default b) ≡ source.takes_default setting (chooses choices otherwise)
  acts_default = by_select source.takes_default

  pub turn_agrees : (home : Home) (core : CoreState) (places : Places) (t : ℕ) (x : Thread) → ThreadAtSelect home core places t x setting choices otherwise → SelectTurn home core places t x setting choices otherwise
  turn_agrees home core places t x k = by (pick home core t) refl otherwise refl
    where
      by : (o : Option Res) → pick home core t ≡ o → (d : Option Body) → otherwise ≡ d → SelectTurn home core places t x setting choices otherwise
      by (Some res) is d e =
          let case = event_is_case home core setting places t choices k.moment k.armed k.stands otherwise res is in
          takes_case
          case.place
          case.choice
          res
          case.listed
          (record {
            resource = case.resource;
            turn = takings.takes home core t x k.here k.running k.takes_events res is;
            leads = (takings.event_leaves home core t x res k.here).goes;
            latched = case.latched x;
            action = acts_take case.place ∙ case.taken;
          })
      by None is None e =
          waits
          e
          (record {
            turn = takings.waits home core t x k.here k.running k.takes_events is (subst (λ o. WaitsAt home x.pc o) e k.code);
            no_go = acts_go K stim world b branch (chooses choices otherwise) rest h;
            no_take = λ n. acts_take n ∙ no_case home core setting places t choices k.moment k.armed k.stands is otherwise n;
            no_default = acts_default ∙ ap (source.default_body setting choices) e;
          })
      by None is (Some body) e =
          takes_default
          body
          e
          (record {
            turn = takings.goes_on home core t x k.here k.running k.takes_events is (subst (λ o. WaitsAt home x.pc o) e k.code);
            action = acts_default ∙ by_default home core setting places t choices k.moment k.armed k.stands is otherwise body e;
          })

-- Where the thread's turn is no step, the branch can do nothing.
pub still_waits : (home : Home) (core : CoreState) (places : Places) (t : ℕ) (x : Thread) (s : Setting) (choices : List Choice) (otherwise : Option Body) → SelectTurn home core places t x s choices otherwise → is_step (slot home core t) ≡ false → Waits home core places t x s
still_waits home core places t x s choices otherwise (takes_case n c res listed h) still =
    let both : true ≡ false = sym (ap is_step h.turn) ∙ still in cc
still_waits home core places t x s choices otherwise (waits e h) still = h
still_waits home core places t x s choices otherwise (takes_default body e h) still =
    let both : true ≡ false = sym (ap is_step h.turn) ∙ still in cc
