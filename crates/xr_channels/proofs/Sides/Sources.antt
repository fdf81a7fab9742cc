-- The program's steps on a channel, by what stands in the inbox, and what they leave of the inboxes.
use Rattle.std.proofs.Common.{◌≡◌, ◌<◌, ℕ, zero, suc, Bool, true, false, List, [], ◌∷◌, length, ◌++◌, Option, Some, None, refl, ap, ◌∙◌, arith}
use Rattle.std.specs.Prelude.{nat_lt}
use Rattle.xw_words.specs.declared.pos.Pos.{Pos}
use Rattle.xs_instr.specs.Machine.{and_then}
use Rattle.xc_kernel.specs.Plain as kernel
use Rattle.xc_meaning.specs.States.Channels.{Parcel, offer, opening, word, closing, taken, Side, other_side, Inboxes, oldest, without_oldest, words_among}
use Rattle.xc_meaning.specs.States.Items.{Item, awaits}
use Rattle.xc_meaning.specs.States.Branches.{side_of}
use Rattle.xc_meaning.specs.States.Worlds.{World, only_if, inbox, put, without_parcel}
use Rattle.xc_meaning.specs.Settings.Setting.{Setting, goes_to, goes_on, mismatches}
use Rattle.xc_meaning.specs.Settings.Channels.{Manner, plain, inside, manner_by, manner_of, is_among, on_side, parcel_at, outputs, outputs_word, receives, inputs_parcel, inputs_word, awaits_parcel, awaits_answer}
use Rattle.xc_meaning.specs.Settings.Transactions.{enters, exits, is_opened, opens_by, opens, is_closed, closes_by, closes}
use Rattle.xr_channels.proofs.Sides.Found.{is_taken, is_opening, is_closing, is_offer, is_word}
use Rattle.xr_channels.proofs.All.Frames.{parcels, boxed, boxed_there}

-- a number below two
less : (n : ℕ) → n < 2 → nat_lt n 2 ≡ true
less zero lt = refl
less (suc zero) lt = refl
less (suc (suc n)) lt = absurd (omega arith)

-- A branch steps on the side of a channel where it stands, inside a transaction on the channel or not.
module _ (s : Setting) (k : ℕ) (side : Side) (in_it : Bool) (is_side : side_of s.branch k ≡ Some side) (is_inside : is_among k s.branch.inside ≡ in_it) where
  -- on the side where it stands
  on_it : (go : Side → Option World) → on_side s k go ≡ go side
  on_it go = ap (λ o. and_then o go) is_side

  -- in the manner of the transaction
  manner_is : manner_of s k ≡ manner_by in_it
  manner_is = ap manner_by is_inside

  -- the inboxes
  abbrev pub boxes : List Inboxes
  boxes = s.world.inboxes

  -- an output begins: its offer is put
  pub output_plain : (pos : Pos) (v : ℕ) → in_it ≡ false → outputs_word s k pos v ≡ Some (put (goes_to s (awaits k pos ∷ s.rest)) k (other_side side) (offer v))
  output_plain pos v e = on_it (outputs s k pos v (manner_of s k)) ∙ ap (λ m. outputs s k pos v m side) (manner_is ∙ ap manner_by e)

  -- an output inside: its word is put, where there is room
  pub output_inside : (pos : Pos) (v : ℕ) → in_it ≡ true → words_among (inbox s.world k (other_side side)) < 2 → outputs_word s k pos v ≡ Some (put (goes_on s) k (other_side side) (word v))
  output_inside pos v e room = on_it (outputs s k pos v (manner_of s k)) ∙ ap (λ m. outputs s k pos v m side) (manner_is ∙ ap manner_by e) ∙ ap (λ b. only_if b (put (goes_on s) k (other_side side) (word v))) (less (words_among (inbox s.world k (other_side side))) room)

  -- the parcel that is looked at first
  first_is : (p : Parcel) (ps : List Parcel) → parcels boxes k side ≡ p ∷ ps → parcel_at s k side ≡ Some p
  first_is p ps e = ap oldest e

  -- a plain input: an offer is taken, recorded and answered, and another parcel is a mismatch
  pub input_plain : (target : Option kernel.Place) (pos : Pos) (v : ℕ) (ps : List Parcel) → in_it ≡ false → parcels boxes k side ≡ offer v ∷ ps → inputs_word s k target pos ≡ Some (put (receives s k target side v) k (other_side side) taken)
  input_plain target pos v ps e found =
      on_it (λ x. inputs_parcel s k target pos x (manner_of s k) (parcel_at s k x))
      ∙ ap (λ m. inputs_parcel s k target pos side m (parcel_at s k side)) (manner_is ∙ ap manner_by e)
      ∙ ap (λ o. inputs_parcel s k target pos side plain o) (first_is (offer v) ps found)

  -- another parcel
  pub input_plain_errs : (target : Option kernel.Place) (pos : Pos) (p : Parcel) (ps : List Parcel) → in_it ≡ false → parcels boxes k side ≡ p ∷ ps → is_offer p ≡ false → inputs_word s k target pos ≡ mismatches s pos
  input_plain_errs target pos p ps e found wrong =
      on_it (λ x. inputs_parcel s k target pos x (manner_of s k) (parcel_at s k x))
      ∙ ap (λ m. inputs_parcel s k target pos side m (parcel_at s k side)) (manner_is ∙ ap manner_by e)
      ∙ ap (λ o. inputs_parcel s k target pos side plain o) (first_is p ps found)
      ∙ by p wrong
    where
      by : (x : Parcel) → is_offer x ≡ false → inputs_parcel s k target pos side plain (Some x) ≡ mismatches s pos
      by (offer v) z = cc
      by opening z = refl
      by (word v) z = refl
      by closing z = refl
      by taken z = refl

  -- an input inside
  pub input_inside : (target : Option kernel.Place) (pos : Pos) (v : ℕ) (ps : List Parcel) → in_it ≡ true → parcels boxes k side ≡ word v ∷ ps → inputs_word s k target pos ≡ Some (receives s k target side v)
  input_inside target pos v ps e found =
      on_it (λ x. inputs_parcel s k target pos x (manner_of s k) (parcel_at s k x))
      ∙ ap (λ m. inputs_parcel s k target pos side m (parcel_at s k side)) (manner_is ∙ ap manner_by e)
      ∙ ap (λ o. inputs_parcel s k target pos side inside o) (first_is (word v) ps found)

  -- another parcel
  pub input_inside_errs : (target : Option kernel.Place) (pos : Pos) (p : Parcel) (ps : List Parcel) → in_it ≡ true → parcels boxes k side ≡ p ∷ ps → is_word p ≡ false → inputs_word s k target pos ≡ mismatches s pos
  input_inside_errs target pos p ps e found wrong =
      on_it (λ x. inputs_parcel s k target pos x (manner_of s k) (parcel_at s k x))
      ∙ ap (λ m. inputs_parcel s k target pos side m (parcel_at s k side)) (manner_is ∙ ap manner_by e)
      ∙ ap (λ o. inputs_parcel s k target pos side inside o) (first_is p ps found)
      ∙ by p wrong
    where
      by : (x : Parcel) → is_word x ≡ false → inputs_parcel s k target pos side inside (Some x) ≡ mismatches s pos
      by (offer v) z = refl
      by opening z = refl
      by (word v) z = cc
      by closing z = refl
      by taken z = refl

  -- nothing is done while the inbox is empty
  pub input_waits : (target : Option kernel.Place) (pos : Pos) → parcels boxes k side ≡ [] → inputs_word s k target pos ≡ None
  input_waits target pos none =
      on_it (λ x. inputs_parcel s k target pos x (manner_of s k) (parcel_at s k x))
      ∙ ap (λ o. inputs_parcel s k target pos side (manner_of s k) o) (ap oldest none)
      ∙ by (manner_of s k)
    where
      by : (m : Manner) → inputs_parcel s k target pos side m None ≡ None
      by plain = refl
      by inside = refl

  -- an answer is waited for
  pub answer_waits : (pos : Pos) → parcels boxes k side ≡ [] → awaits_answer s k pos ≡ None
  answer_waits pos none = on_it (λ x. awaits_parcel s k pos x (parcel_at s k x)) ∙ ap (λ o. awaits_parcel s k pos side o) (ap oldest none)

  -- the answer is there
  pub answer_comes : (pos : Pos) (ps : List Parcel) → parcels boxes k side ≡ taken ∷ ps → awaits_answer s k pos ≡ Some (without_parcel (goes_on s) k side)
  answer_comes pos ps found = on_it (λ x. awaits_parcel s k pos x (parcel_at s k x)) ∙ ap (λ o. awaits_parcel s k pos side o) (first_is taken ps found)

  -- another parcel is there
  pub answer_errs : (pos : Pos) (p : Parcel) (ps : List Parcel) → parcels boxes k side ≡ p ∷ ps → is_taken p ≡ false → awaits_answer s k pos ≡ mismatches s pos
  answer_errs pos p ps found wrong = on_it (λ x. awaits_parcel s k pos x (parcel_at s k x)) ∙ ap (λ o. awaits_parcel s k pos side o) (first_is p ps found) ∙ by p wrong
    where
      by : (x : Parcel) → is_taken x ≡ false → awaits_parcel s k pos side (Some x) ≡ mismatches s pos
      by (offer v) z = refl
      by opening z = refl
      by (word v) z = refl
      by closing z = refl
      by taken z = cc

  -- starts of transactions
  pub master_opens : (items : List Item) (pos : Pos) → opens s k true items pos ≡ Some (put (enters s k (awaits k pos ∷ items)) k (other_side side) opening)
  master_opens items pos = on_it (opens_by true s k items pos)

  -- a slave takes the opening and answers
  pub slave_opens : (items : List Item) (pos : Pos) (ps : List Parcel) → parcels boxes k side ≡ opening ∷ ps → opens s k false items pos ≡ Some (put (without_parcel (enters s k items) k side) k (other_side side) taken)
  slave_opens items pos ps found = on_it (opens_by false s k items pos) ∙ ap (λ o. is_opened s k items pos side o) (first_is opening ps found)

  -- nothing is there
  pub slave_open_waits : (items : List Item) (pos : Pos) → parcels boxes k side ≡ [] → opens s k false items pos ≡ None
  slave_open_waits items pos none = on_it (opens_by false s k items pos) ∙ ap (λ o. is_opened s k items pos side o) (ap oldest none)

  -- another parcel is there
  pub slave_open_errs : (items : List Item) (pos : Pos) (p : Parcel) (ps : List Parcel) → parcels boxes k side ≡ p ∷ ps → is_opening p ≡ false → opens s k false items pos ≡ mismatches s pos
  slave_open_errs items pos p ps found wrong = on_it (opens_by false s k items pos) ∙ ap (λ o. is_opened s k items pos side o) (first_is p ps found) ∙ by p wrong
    where
      by : (x : Parcel) → is_opening x ≡ false → is_opened s k items pos side (Some x) ≡ mismatches s pos
      by (offer v) z = refl
      by opening z = cc
      by (word v) z = refl
      by closing z = refl
      by taken z = refl

  -- ends of transactions
  pub master_closes : (pos : Pos) → words_among (inbox s.world k (other_side side)) < 2 → closes s k true pos ≡ Some (put (exits s (awaits k pos ∷ s.rest)) k (other_side side) closing)
  master_closes pos room = on_it (closes_by true s k pos) ∙ ap (λ b. only_if b (put (exits s (awaits k pos ∷ s.rest)) k (other_side side) closing)) (less (words_among (inbox s.world k (other_side side))) room)

  -- a slave takes the closing and answers
  pub slave_closes : (pos : Pos) (ps : List Parcel) → parcels boxes k side ≡ closing ∷ ps → closes s k false pos ≡ Some (put (without_parcel (exits s s.rest) k side) k (other_side side) taken)
  slave_closes pos ps found = on_it (closes_by false s k pos) ∙ ap (λ o. is_closed s k pos side o) (first_is closing ps found)

  -- nothing is there
  pub slave_close_waits : (pos : Pos) → parcels boxes k side ≡ [] → closes s k false pos ≡ None
  slave_close_waits pos none = on_it (closes_by false s k pos) ∙ ap (λ o. is_closed s k pos side o) (ap oldest none)

  -- another parcel is there
  pub slave_close_errs : (pos : Pos) (p : Parcel) (ps : List Parcel) → parcels boxes k side ≡ p ∷ ps → is_closing p ≡ false → closes s k false pos ≡ mismatches s pos
  slave_close_errs pos p ps found wrong = on_it (closes_by false s k pos) ∙ ap (λ o. is_closed s k pos side o) (first_is p ps found) ∙ by p wrong
    where
      by : (x : Parcel) → is_closing x ≡ false → is_closed s k pos side (Some x) ≡ mismatches s pos
      by (offer v) z = refl
      by opening z = refl
      by (word v) z = refl
      by closing z = cc
      by taken z = refl

-- what these steps leave of the inboxes
pub puts_boxes : (x : World) (k : ℕ) (side : Side) (p : Parcel) → (put x k side p).inboxes ≡ boxed x.inboxes k side (parcels x.inboxes k side ++ p ∷ [])
puts_boxes x k side p = refl

-- the first parcel is taken
pub takes_boxes : (x : World) (k : ℕ) (side : Side) (p : Parcel) (ps : List Parcel) → parcels x.inboxes k side ≡ p ∷ ps → (without_parcel x k side).inboxes ≡ boxed x.inboxes k side ps
takes_boxes x k side p ps found = ap (λ l. boxed x.inboxes k side (without_oldest l)) found

-- a parcel is taken and answered
pub answers_boxes : (x : World) (k : ℕ) (side : Side) (p : Parcel) (ps : List Parcel) → k < length x.inboxes → parcels x.inboxes k side ≡ p ∷ ps → (put (without_parcel x k side) k (other_side side) taken).inboxes ≡ boxed (boxed x.inboxes k side ps) k (other_side side) (parcels x.inboxes k (other_side side) ++ taken ∷ [])
answers_boxes x k side p ps lt found =
    ap (λ b. boxed b k (other_side side) (parcels b k (other_side side) ++ taken ∷ [])) (takes_boxes x k side p ps found)
    ∙ ap (λ l. boxed (boxed x.inboxes k side ps) k (other_side side) (l ++ taken ∷ [])) (boxed_there x.inboxes k side ps lt)
