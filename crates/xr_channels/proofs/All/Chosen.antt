-- The inboxes of some of the channels alone, in an order of their own: what is put or taken in a program's inboxes, and what in these.
use Rattle.std.proofs.Common.{◌≡◌, ◌<◌, ℕ, suc, zero, List, [], ◌∷◌, ◌++◌, length, map, Some, refl, sym, ap, ◌∙◌, arith}
use Rattle.std.specs.Prelude.{slice_get, slice_set, slice_index_or}
use Rattle.xc_meaning.specs.States.Channels.{Parcel, taken, Side, other_side, Inboxes, no_parcels, parcels_at, with_parcels}
use Rattle.xr_channels.proofs.All.Frames.{parcels, boxed, get_box, get_box_other, length_box}

-- the inboxes of these channels
abbrev pub chosen : List ℕ → List Inboxes → List Inboxes
chosen channels boxes = map (λ c. slice_index_or boxes c no_parcels) channels

-- a channel is one
number_is : (a b : ℕ) → Some a ≡ Some b → a ≡ b
number_is a b e = cc

-- the inboxes of a channel by its place
pub chosen_at : (channels : List ℕ) (boxes : List Inboxes) (k c : ℕ) → slice_get channels k ≡ Some c → slice_index_or (chosen channels boxes) k no_parcels ≡ slice_index_or boxes c no_parcels
chosen_at [] boxes k c e = cc
chosen_at (x ∷ channels) boxes zero c e = ap (λ y. slice_index_or boxes y no_parcels) (number_is x c e)
chosen_at (x ∷ channels) boxes (suc k) c e = chosen_at channels boxes k c e

-- and its parcels at a side
pub chosen_parcels : (channels : List ℕ) (boxes : List Inboxes) (k c : ℕ) (side : Side) → slice_get channels k ≡ Some c → parcels (chosen channels boxes) k side ≡ parcels boxes c side
chosen_parcels channels boxes k c side e = ap (λ b. parcels_at b side) (chosen_at channels boxes k c e)

-- there are as many
pub chosen_length : (channels : List ℕ) (boxes : List Inboxes) → length (chosen channels boxes) ≡ length channels
chosen_length [] boxes = refl
chosen_length (x ∷ channels) boxes = ap suc (chosen_length channels boxes)

-- another channel's inboxes
pub chosen_away : (channels : List ℕ) (boxes : List Inboxes) (c : ℕ) (d : Inboxes) → ((j : ℕ) → slice_get channels j ≡ Some c → ⊥) → chosen channels (slice_set boxes c d) ≡ chosen channels boxes
chosen_away [] boxes c d away = refl
chosen_away (x ∷ channels) boxes c d away =
    ap (λ b. b ∷ chosen channels (slice_set boxes c d)) (get_box_other boxes c x d (λ e. away zero (ap Some (sym e))))
    ∙ ap (λ bs. slice_index_or boxes x no_parcels ∷ bs) (chosen_away channels boxes c d (λ j e. away (suc j) e))

-- no channel stands twice
abbrev pub StandOnce : List ℕ → Type 0
StandOnce channels = (i j c : ℕ) → slice_get channels i ≡ Some c → slice_get channels j ≡ Some c → i ≡ j

-- the inboxes of one of these channels
pub chosen_set : (channels : List ℕ) (boxes : List Inboxes) (k c : ℕ) (d : Inboxes) → StandOnce channels → slice_get channels k ≡ Some c → c < length boxes → chosen channels (slice_set boxes c d) ≡ slice_set (chosen channels boxes) k d
chosen_set [] boxes k c d once e lt = cc
chosen_set (x ∷ channels) boxes zero c d once e lt =
    let same = number_is x c e in
    ap (λ b. b ∷ chosen channels (slice_set boxes c d)) (ap (λ y. slice_index_or (slice_set boxes c d) y no_parcels) same ∙ get_box boxes c d lt)
    ∙ ap (λ bs. d ∷ bs) (chosen_away channels boxes c d (λ j f. let no_more = once zero (suc j) c e f in omega (arith, no_more)))
chosen_set (x ∷ channels) boxes (suc k) c d once e lt =
    ap (λ b. b ∷ chosen channels (slice_set boxes c d)) (get_box_other boxes c x d (λ f. let no_more = once zero (suc k) c (ap Some (sym f)) e in omega (arith, no_more)))
    ∙ ap (λ bs. slice_index_or boxes x no_parcels ∷ bs) (chosen_set channels boxes k c d (λ i j y p q. let same = once (suc i) (suc j) y p q in omega (arith, same)) e lt)

module _ (channels : List ℕ) (once : StandOnce channels) (boxes : List Inboxes) (k c : ℕ) (at_k : slice_get channels k ≡ Some c) (lt : c < length boxes) where
  -- an inbox is written
  pub chosen_boxed : (side : Side) (ps : List Parcel) → chosen channels (boxed boxes c side ps) ≡ boxed (chosen channels boxes) k side ps
  chosen_boxed side ps =
      chosen_set channels boxes k c (with_parcels (slice_index_or boxes c no_parcels) side ps) once at_k lt
      ∙ ap (λ b. slice_set (chosen channels boxes) k (with_parcels b side ps)) (sym (chosen_at channels boxes k c at_k))

  -- a parcel is put
  pub chosen_put : (side : Side) (x : Parcel) → chosen channels (boxed boxes c side (parcels boxes c side ++ x ∷ [])) ≡ boxed (chosen channels boxes) k side (parcels (chosen channels boxes) k side ++ x ∷ [])
  chosen_put side x =
      chosen_boxed side (parcels boxes c side ++ x ∷ [])
      ∙ ap (λ ps. boxed (chosen channels boxes) k side (ps ++ x ∷ [])) (sym (chosen_parcels channels boxes k c side at_k))

-- a parcel is taken and answered
pub chosen_answered : (channels : List ℕ) → StandOnce channels → (boxes : List Inboxes) (k c : ℕ) → slice_get channels k ≡ Some c → c < length boxes → (side : Side) (ps : List Parcel) → chosen channels (boxed (boxed boxes c side ps) c (other_side side) (parcels boxes c (other_side side) ++ taken ∷ [])) ≡ boxed (boxed (chosen channels boxes) k side ps) k (other_side side) (parcels (chosen channels boxes) k (other_side side) ++ taken ∷ [])
chosen_answered channels once boxes k c at_k lt side ps =
    let size = length_box boxes c (with_parcels (slice_index_or boxes c no_parcels) side ps) in
    chosen_boxed channels once (boxed boxes c side ps) k c at_k (omega (arith, size, lt)) (other_side side) (parcels boxes c (other_side side) ++ taken ∷ [])
    ∙ ap (λ b. boxed b k (other_side side) (parcels boxes c (other_side side) ++ taken ∷ [])) (chosen_boxed channels once boxes k c at_k lt side ps)
    ∙ ap (λ qs. boxed (boxed (chosen channels boxes) k side ps) k (other_side side) (qs ++ taken ∷ [])) (sym (chosen_parcels channels boxes k c (other_side side) at_k))
