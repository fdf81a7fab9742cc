-- The inboxes of the channels with two sides, by the image's lines: what is read and written of one channel is so at its line.
use Rattle.std.proofs.Common.{◌≡◌, ◌<◌, ℕ, zero, suc, List, [], ◌∷◌, map, length, Some, refl, sym, ap, ◌∙◌, arith}
use Rattle.std.specs.Prelude.{slice_get, slice_set, slice_index_or}
use Rattle.std.proofs.lemmas.Option.{same_Some}
use Rattle.xc_kernel.specs.Plain as kernel
use Rattle.xc_meaning.specs.States.Channels.{Inboxes, Parcel, Side, no_parcels, with_parcels}
use Rattle.xr_match.specs.Sides.{two_sided}
use Rattle.xr_simulation.specs.Wired.{IsLine, boxes_in}
use Rattle.xr_channels.proofs.All.Frames.{boxed, get_box, get_box_other, parcels}

-- the inboxes of listed channels
abbrev listed_boxes : List ℕ → List Inboxes → List Inboxes
listed_boxes cs boxes = map (λ c. slice_index_or boxes c no_parcels) cs

-- nothing is listed at a place of no list
none_listed : {A : Type 0} (line c : ℕ) → slice_get {X = ℕ} [] line ≡ Some c → A
none_listed line c e = absurd cc

-- the inboxes of a listed channel stand at its place
box_at : (cs : List ℕ) (boxes : List Inboxes) (line c : ℕ) → slice_get cs line ≡ Some c → slice_index_or (listed_boxes cs boxes) line no_parcels ≡ slice_index_or boxes c no_parcels
box_at [] boxes line c e = none_listed line c e
box_at (d ∷ cs) boxes zero c e = ap (λ k. slice_index_or boxes k no_parcels) (same_Some d c e)
box_at (d ∷ cs) boxes (suc line) c e = box_at cs boxes line c e

-- what is written of a channel that isn't listed is seen nowhere
box_unlisted : (cs : List ℕ) (boxes : List Inboxes) (c : ℕ) (b : Inboxes) → ((j : ℕ) → slice_get cs j ≡ Some c → ⊥) → listed_boxes cs (slice_set boxes c b) ≡ listed_boxes cs boxes
box_unlisted [] boxes c b none = refl
box_unlisted (d ∷ cs) boxes c b none =
    ap (λ x. x ∷ listed_boxes cs (slice_set boxes c b)) (get_box_other boxes c d b (λ e. none 0 (ap Some (sym e))))
    ∙ ap (λ l. slice_index_or boxes d no_parcels ∷ l) (box_unlisted cs boxes c b (λ j e. none (suc j) e))

-- what is written of one that is listed once is so at its place
box_listed : (cs : List ℕ) (boxes : List Inboxes) (line c : ℕ) (b : Inboxes) → c < length boxes → slice_get cs line ≡ Some c → ((j : ℕ) → slice_get cs j ≡ Some c → j ≡ line) → listed_boxes cs (slice_set boxes c b) ≡ slice_set (listed_boxes cs boxes) line b
box_listed [] boxes line c b lt e once = none_listed line c e
box_listed (d ∷ cs) boxes zero c b lt e once =
    ap (λ x. x ∷ listed_boxes cs (slice_set boxes c b)) (ap (λ k. slice_index_or (slice_set boxes c b) k no_parcels) (same_Some d c e) ∙ get_box boxes c b lt)
    ∙ ap (λ l. b ∷ l) (box_unlisted cs boxes c b (λ j at. let no : suc j ≡ 0 = once (suc j) at in absurd (omega (arith, no))))
box_listed (d ∷ cs) boxes (suc line) c b lt e once =
    ap (λ x. x ∷ listed_boxes cs (slice_set boxes c b)) (get_box_other boxes c d b (λ same. let no : 0 ≡ suc line = once 0 (ap Some (sym same)) in absurd (omega (arith, no))))
    ∙ ap (λ l. slice_index_or boxes d no_parcels ∷ l) (box_listed cs boxes line c b lt e (λ j at. let next : suc j ≡ suc line = once (suc j) at in omega (arith, next)))

-- A channel of the kernel's at its only line.
module _ (K : kernel.Kernel) (line c : ℕ) (is_line : IsLine K line c) where
  pub line_box : (boxes : List Inboxes) → slice_index_or (boxes_in K boxes) line no_parcels ≡ slice_index_or boxes c no_parcels
  line_box boxes = box_at (two_sided K) boxes line c is_line

  pub line_parcels : (boxes : List Inboxes) (side : Side) → parcels (boxes_in K boxes) line side ≡ parcels boxes c side
  line_parcels boxes side = ap (λ b. Rattle.xc_meaning.specs.States.Channels.parcels_at b side) (line_box boxes)

  pub line_boxed : (boxes : List Inboxes) (side : Side) (ps : List Parcel) → c < length boxes → ((j : ℕ) → IsLine K j c → j ≡ line) → boxes_in K (boxed boxes c side ps) ≡ boxed (boxes_in K boxes) line side ps
  line_boxed boxes side ps lt once =
      box_listed (two_sided K) boxes line c (with_parcels (slice_index_or boxes c no_parcels) side ps) lt is_line once
      ∙ ap (λ b. slice_set (boxes_in K boxes) line (with_parcels b side ps)) (sym (box_at (two_sided K) boxes line c is_line))
