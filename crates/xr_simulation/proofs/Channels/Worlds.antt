-- The program's steps over a channel outside transactions, by what stands first in the inbox, and what they leave.
use Rattle.std.proofs.Common.{◌≡◌, ◌<◌, ℕ, false, List, [], ◌∷◌, ◌++◌, length, Option, Some, refl, ap, ◌∙◌}
use Rattle.xw_words.specs.declared.pos.Pos.{Pos}
use Rattle.xs_instr.specs.declared.image.Stim.{Stim}
use Rattle.xc_kernel.specs.declared.statement.KRes.TheVariants.{Chan}
use Rattle.xc_kernel.specs.Eval.{eval}
use Rattle.xc_kernel.specs.Plain as kernel
use Rattle.xc_kernel.specs.Values.{word}
use Rattle.xc_meaning.specs.Runs.{acts, does_item, step_of}
use Rattle.xc_meaning.specs.Settings.Channels.{is_among, outputs_word, receives}
use Rattle.xc_meaning.specs.Settings.Setting as source
use Rattle.xc_meaning.specs.Settings.Setting.{goes_on, goes_to, mismatches, with_value}
use Rattle.xc_meaning.specs.Settings.Transfers.{inputs_from, outputs_to}
use Rattle.xc_meaning.specs.States.Branches.{Branch, side_of}
use Rattle.xc_meaning.specs.States.Channels.{Parcel, Side, offer, other_side, taken}
use Rattle.xc_meaning.specs.States.Items.{Item, awaits, does, storing}
use Rattle.xc_meaning.specs.States.Worlds.{World, go, put, without_parcel}
use Rattle.xr_simulation.specs.NextStep.{Runs}
use Rattle.xr_simulation.proofs.ItemCode.Evaluations.{item_acts}
use Rattle.xr_channels.proofs.All.Frames.{boxed, parcels}
use Rattle.xr_channels.proofs.Sides.Found.{is_offer, is_taken}
use Rattle.xr_channels.proofs.Sides.Sources.{answer_comes, answer_errs, answers_boxes, input_plain, input_plain_errs, output_plain, takes_boxes}

-- A branch that stands on a side of a channel, in no transaction.
module _ (K : kernel.Kernel) (s : Stim) (b : ℕ) (x : World) (branch : Branch) (c : ℕ) (side : Side) (rest : List Item) (stands : side_of branch c ≡ Some side) (outside : branch.inside ≡ []) where
  abbrev pub step : source.Setting
  step = step_of K s x b branch rest

  is_outside : is_among c branch.inside ≡ false
  is_outside = ap (is_among c) outside

  -- an output puts its offer, and waits
  abbrev pub offered : Pos → (v : ℕ) → World
  offered pos v = put (goes_to step (awaits c pos ∷ rest)) c (other_side side) (offer v)

  pub offers_word : (o : kernel.Output) (v : ℕ) → o.resource ≡ Chan c → eval x.store o.value ≡ word v → Runs x b branch (does (kernel.output o) ∷ rest) → acts K s x (go b) ≡ Some (offered o.pos v)
  offers_word o v on value h =
      item_acts K s b x branch (does (kernel.output o)) rest h
      ∙ ap (outputs_to step o) on
      ∙ ap (λ e. with_value step e (outputs_word step c o.pos)) value
      ∙ output_plain step c side false stands is_outside o.pos v refl

  -- an input takes the offer that stands first, and answers it
  abbrev pub received : Option kernel.Place → (v : ℕ) → World
  received target v = put (receives step c target side v) c (other_side side) taken

  pub takes_offer : (i : kernel.Input) (v : ℕ) (ps : List Parcel) → i.resource ≡ Chan c → parcels x.inboxes c side ≡ offer v ∷ ps → Runs x b branch (does (kernel.input i) ∷ rest) → acts K s x (go b) ≡ Some (received i.target v)
  takes_offer i v ps on found h =
      item_acts K s b x branch (does (kernel.input i)) rest h
      ∙ ap (inputs_from step i) on
      ∙ input_plain step c side false stands is_outside i.target i.pos v ps refl found

  pub received_boxes : (target : Option kernel.Place) (v : ℕ) (ps : List Parcel) → c < length x.inboxes → parcels x.inboxes c side ≡ offer v ∷ ps → (received target v).inboxes ≡ boxed (boxed x.inboxes c side ps) c (other_side side) (parcels x.inboxes c (other_side side) ++ taken ∷ [])
  received_boxes target v ps lt found = answers_boxes (goes_to step (storing target v rest)) c side (offer v) ps lt found

  -- and errs where another parcel stands first
  pub input_errs : (i : kernel.Input) (p : Parcel) (ps : List Parcel) → i.resource ≡ Chan c → parcels x.inboxes c side ≡ p ∷ ps → is_offer p ≡ false → does_item step (does (kernel.input i)) ≡ mismatches step i.pos
  input_errs i p ps on found other = ap (inputs_from step i) on ∙ input_plain_errs step c side false stands is_outside i.target i.pos p ps refl found other

  -- an answer that stands first is taken
  abbrev pub answered : World
  answered = without_parcel (goes_on step) c side

  pub takes_answer : (pos : Pos) (ps : List Parcel) → parcels x.inboxes c side ≡ taken ∷ ps → Runs x b branch (awaits c pos ∷ rest) → acts K s x (go b) ≡ Some answered
  takes_answer pos ps found h =
      item_acts K s b x branch (awaits c pos) rest h
      ∙ answer_comes step c side false stands is_outside pos ps found

  pub answered_boxes : (ps : List Parcel) → parcels x.inboxes c side ≡ taken ∷ ps → answered.inboxes ≡ boxed x.inboxes c side ps
  answered_boxes ps found = takes_boxes (goes_on step) c side taken ps found

  -- and the branch errs where another parcel stands first
  pub awaiting_errs : (pos : Pos) (p : Parcel) (ps : List Parcel) → parcels x.inboxes c side ≡ p ∷ ps → is_taken p ≡ false → does_item step (awaits c pos) ≡ mismatches step pos
  awaiting_errs pos p ps found other = answer_errs step c side false stands is_outside pos p ps found other
