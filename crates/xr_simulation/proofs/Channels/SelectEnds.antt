-- A thread at its select, as the machine and the program stand: for each case on a channel the end of the branch's side is ready exactly
-- where something has arrived, so the turn is the same on both sides.
use Rattle.std.proofs.Common.{◌≡◌, ℕ, zero, suc, IsTrue, List, [], ◌∷◌, Option, Some, None, sym, ap, ◌∙◌, subst}
use Rattle.std.specs.Prelude.{slice_get, slice_index_or}
use Rattle.std.proofs.lemmas.Option.{same_Some}
use Rattle.xs_instr.specs.Events.{end_ready}
use Rattle.xc_kernel.specs.declared.statement.KRes.TheVariants.{Chan}
use Rattle.xc_kernel.specs.Things.{by_input, by_resource, channel}
use Rattle.xc_invariants.proofs.Choices.{choice_each}
use Rattle.xc_meaning.proofs.Basics.{none_given, or_left, or_right, same_number, some_given}
use Rattle.xc_meaning.specs.Runs.{step_of}
use Rattle.xc_meaning.specs.Settings.Select.{has_arrived}
use Rattle.xc_meaning.specs.Settings.Setting as source
use Rattle.xc_meaning.specs.States.Branches.{Branch, side_of}
use Rattle.xc_meaning.specs.States.Channels.{Side}
use Rattle.xc_meaning.specs.States.Items.{Choice, Item, chooses}
use Rattle.xc_meaning.specs.Uses.{by_body, by_choices, by_items}
use Rattle.xl_image.specs.Images.{pair_of}
use Rattle.xl_par.specs.Acquired.{Acquired}
use Rattle.xr_channels.specs.Channels.{end_of_side}
use Rattle.xr_channels.proofs.Laws.ReadyEnds.{case_agrees}
use Rattle.xr_simulation.specs.Fits.{AllFit, CountedInputFits, TakesInAt}
use Rattle.xr_simulation.specs.MatchStates.{none_rests}
use Rattle.xr_simulation.specs.NextStep.{ChoicesOnSides, IsOnSide, Selects, end_on}
use Rattle.xr_simulation.specs.Runners.{IsChannel, Setting, Runner}
use Rattle.xr_simulation.specs.ThreadViews.{ThreadView}
use Rattle.xl_plan.specs.Layout.{core_of}
use Rattle.xr_simulation.specs.Wired.{IsLine, boxes_in}
use Rattle.xr_simulation.proofs.Channels.Ends.{is_end, place_end}
use Rattle.xr_simulation.proofs.Channels.Inboxes.{line_box}
use Rattle.xr_simulation.proofs.Channels.TransferBegins as begins
use Rattle.xr_simulation.proofs.Channels.TransferBegins.{core_there, line_there, spot_there}
use Rattle.xr_simulation.proofs.ItemCode.SelectTurns.{SelectGoes, select_turn}
use Rattle.xr_simulation.proofs.Relation.CoreSteps.{kept_now, works_at}
use Rattle.xr_simulation.proofs.Relation.Moments.{Moment, ThreadAt}
use Rattle.xr_simulation.proofs.Relation.Sides.{first_sided}

-- a case on a channel uses it
choices_use : (cs : List Choice) (n : ℕ) (c : Choice) (d : ℕ) → slice_get cs n ≡ Some c → c.input.resource ≡ Chan d →
    IsTrue (by_choices (channel d) cs)
choices_use [] n c d listed is = absurd (none_given listed)
choices_use (a ∷ cs) zero c d listed is =
    let same : a ≡ c = some_given listed in
    let on = ap (λ (b : Choice). by_resource (channel d) b.input.resource) same ∙ ap (by_resource (channel d)) is ∙ same_number d in
    or_left (by_input (channel d) a.input) _ (or_left (by_resource (channel d) a.input.resource) _ on)
choices_use (a ∷ cs) (suc n) c d listed is =
    or_right (by_input (channel d) a.input) _ (or_right (by_body (channel d) a.body) _ (choices_use cs n c d listed is))

module _ (g : Setting) (r : Runner) where
  -- and is on a side of it
  choice_on_side : (cs : List Choice) (n : ℕ) (c : Choice) → slice_get cs n ≡ Some c → ChoicesOnSides g r cs →
      IsOnSide g r c.input.resource
  choice_on_side [] n c listed sides = absurd (none_given listed)
  choice_on_side (a ∷ cs) zero c listed sides = subst (λ (b : Choice). IsOnSide g r b.input.resource) (some_given listed) sides.0
  choice_on_side (a ∷ cs) (suc n) c listed sides = choice_on_side cs n c listed sides.1

module _ {moment : Moment none_rests} {hand : Option Acquired} (thread_at : ThreadAt moment hand)
    (outside : thread_at.runner.transfer ≡ None) (j : ℕ)
    (h : Selects moment.setting thread_at.runner j
    (record { core = thread_at.state; world = moment.told.state; hand = hand })) where
  open moment use {setting as g, image as is, roles as who, watched as w, told as x, standing as st}
  open thread_at use {core as c, thread as t, state as a, at_core as at_c, runner as r, runs as runs_r}

  abbrev now : ThreadView
  now = record { core = a; world = x.state; hand = hand }

  abbrev branch : Branch
  branch = h.has.branch

  abbrev items : List Item
  items = chooses h.choices h.otherwise ∷ h.rest

  -- the setting of its step
  abbrev s : source.Setting
  s = step_of g.program g.stimulus x.state r.branch branch h.rest

  branch_is : branch ≡ (works_at moment c t r hand runs_r).branch
  branch_is = let works = works_at moment c t r hand runs_r in same_Some branch works.branch (sym h.has.runs.known ∙ works.known)

  sides_are : branch.sides ≡ r.sides
  sides_are = ap (λ (b : Branch). b.sides) branch_is ∙ (works_at moment c t r hand runs_r).sides

  core_is : branch.core ≡ r.core
  core_is = ap (λ (b : Branch). b.core) branch_is ∙ (works_at moment c t r hand runs_r).core

  on_sides : ChoicesOnSides g r h.choices
  on_sides = first_sided g r x.state st.lawful branch h.has.runs.known sides_are core_is items h.has.runs.items_are h.fits

  -- a case on a channel
  module _ (n : ℕ) (choice : Choice) (listed : slice_get h.choices n ≡ Some choice) (d : ℕ) (on : choice.input.resource ≡ Chan d) where
    is_channel : IsChannel g r d
    is_channel =
        subst (TakesInAt g r) on (choice_each (CountedInputFits g r) (AllFit g r) h.choices n choice listed h.fits.0.0).0.0.from

    uses : IsTrue (by_items (channel d) branch.items)
    uses = subst (λ l. IsTrue (by_items (channel d) l)) (sym h.has.runs.items_are)
        (or_left _ _ (or_left (by_choices (channel d) h.choices) _ (choices_use h.choices n choice d listed on)))

    its_side : IsOnSide g r (Chan d)
    its_side = subst (IsOnSide g r) on (choice_on_side g r h.choices n choice listed on_sides)

    abbrev side : Side
    side = its_side.0

    stands : side_of branch d ≡ Some side
    stands = ap (λ l. slice_index_or l d None) sides_are ∙ its_side.1

    here : core_of g.program d side ≡ r.core
    here = its_side.2

    abbrev line : ℕ
    line = begins.line thread_at outside branch h.has.runs.known h.has.runs.running d side is_channel uses stands here

    is_line : IsLine g.program line d
    is_line = line_there thread_at outside branch h.has.runs.known h.has.runs.running d side is_channel uses stands here

    on_core : core_of g.program d side ≡ c
    on_core = core_there thread_at outside branch h.has.runs.known h.has.runs.running d side is_channel uses stands here

    ready_is : end_ready a (end_of_side (pair_of g.program d) side).end
        ≡ has_arrived s d (side_of branch d)
    ready_is =
        case_agrees g.image.chans is.lines.wired w.machine.cores w.machine.links (boxes_in g.program x.state.inboxes) st.wired.ghosts
        st.wired.over.wires line (pair_of g.program d) side (is_end thread_at d side line is_line on_core).channel a
        (is_end thread_at d side line is_line on_core).at_core
        (spot_there thread_at outside branch h.has.runs.known h.has.runs.running d side is_channel uses stands here) s d stands
        (line_box g.program line d is_line x.state.inboxes)

    end_agrees : end_ready a (end_on g r (slice_index_or r.sides d None) d) ≡ has_arrived s d (side_of branch d)
    end_agrees =
        ap (λ o. end_ready a (end_on g r o d)) its_side.1
        ∙ ap (end_ready a) (sym (place_end thread_at d side line is_line on_core)) ∙ ready_is

  abbrev clock : slice_get x.state.clocks r.core ≡ Some a.clock
  clock = (kept_now moment c t a r hand at_c runs_r).clock

  -- The thread waits, and its branch can do nothing; or both go on.
  pub selects_alike : SelectGoes g r j now
  selects_alike = select_turn g r j now h clock (λ n choice listed d on. end_agrees n choice listed d on)
