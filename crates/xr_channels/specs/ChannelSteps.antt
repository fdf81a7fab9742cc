-- What a step writes down of a channel: where a side stands, what is late, and the parcels.
use Rattle.std.specs.Prelude.{◌≡◌, ◌⊎◌, ℕ, Bool, true, false, ◌&&◌, List, [], ◌∷◌, ◌++◌, nat_eq, slice_set, slice_index_or}
use Rattle.xc_meaning.specs.States.Channels.{Parcel, offer, opening, word, closing, taken, Side, first, second, other_side, Inboxes, no_parcels, parcels_at, with_parcels}
use Rattle.xr_channels.specs.Phases.{Phase, offers, opens, sends_end, awaits_ack, streams, SideState}
use Rattle.xr_channels.specs.Channels.{Ghosts}

-- the parcels at a side of a channel
abbrev pub parcels : List Inboxes → (channel : ℕ) → Side → List Parcel
parcels boxes k side = parcels_at (slice_index_or boxes k no_parcels) side

-- an inbox is written
abbrev pub boxed : List Inboxes → (channel : ℕ) → Side → List Parcel → List Inboxes
boxed boxes k side ps = slice_set boxes k (with_parcels (slice_index_or boxes k no_parcels) side ps)

-- a parcel is put at a side
abbrev pub put_at : List Inboxes → (channel : ℕ) → Side → Parcel → List Inboxes
put_at boxes k side x = boxed boxes k side (parcels boxes k side ++ x ∷ [])

-- what a row awaits: an answer, an opening, a closing, an offer or a word
abbrev pub is_answer : Parcel → Bool
is_answer taken = true
is_answer p = false

abbrev pub is_opening : Parcel → Bool
is_opening opening = true
is_opening p = false

abbrev pub is_closing : Parcel → Bool
is_closing closing = true
is_closing p = false

abbrev pub is_offer : Parcel → Bool
is_offer (offer v) = true
is_offer p = false

abbrev pub is_sent_word : Parcel → Bool
is_sent_word (word v) = true
is_sent_word p = false

-- whether two sides are one
abbrev pub same_side : Side → Side → Bool
same_side first first = true
same_side first second = false
same_side second first = false
same_side second second = true

-- one of two, by a test
abbrev pub pick : {A : Type 0} → Bool → A → A → A
pick true new old = new
pick false new old = old

-- A side of a channel stands elsewhere, and other parcels are late to the other side.
abbrev pub moved_to : Ghosts → (channel : ℕ) → Side → SideState → List Parcel → Ghosts
moved_to g k side s late = record {
  side_states = λ j x. pick (nat_eq j k && same_side x side) s (g.side_states j x);
  late = λ j x. pick (nat_eq j k && same_side x (other_side side)) late (g.late j x);
}

-- What a late parcel is, by where its sender stands. Once it is put these are still late, and the sender is inside a transaction or not.
pub data LateKind (phase : Phase) (inside : Bool) : Parcel → (rest : List Parcel) → (then_inside : Bool) → Type 0 where
  late_offer : (v : ℕ) → (phase ≡ sends_end v) ⊎ (phase ≡ awaits_ack (offers v)) → inside ≡ false →
      LateKind phase inside (offer v) [] false
  late_opening : phase ≡ awaits_ack opens → inside ≡ false → LateKind phase inside opening [] true
  late_word : (v : ℕ) (rest : List Parcel) → phase ≡ streams → inside ≡ true → LateKind phase inside (word v) rest true
