-- What has arrived at the two sides of a channel.
use Rattle.std.specs.Prelude.{ℕ, suc, List, [], ◌∷◌, Option, Some, None}

-- what one side of a channel puts into the inbox of the other
pub data Parcel : Type 0 where
  -- a word of a plain output, which waits until it is taken
  offer : (value : ℕ) → Parcel
  -- a master begins a transaction
  opening : Parcel
  -- a word inside a transaction
  word : (value : ℕ) → Parcel
  -- a master ends a transaction
  closing : Parcel
  -- the answer to an offer, an opening or a closing
  taken : Parcel

-- the two sides of a channel, in the order of their branches
pub data Side : Type 0 where
  first : Side
  second : Side

abbrev pub other_side : Side → Side
other_side first = second
other_side second = first

-- the parcels that have arrived at each side of a channel, the oldest first
pub record Inboxes : Type 0 where
  pub first : List Parcel
  pub second : List Parcel

abbrev pub no_parcels : Inboxes
no_parcels = record { first = []; second = [] }

-- the parcels at a side
abbrev pub parcels_at : Inboxes → Side → List Parcel
parcels_at i first = i.first
parcels_at i second = i.second

-- other parcels at a side
abbrev pub with_parcels : Inboxes → Side → List Parcel → Inboxes
with_parcels i first parcels = record i { first = parcels }
with_parcels i second parcels = record i { second = parcels }

-- the oldest of some parcels, and the others
abbrev pub oldest : List Parcel → Option Parcel
oldest [] = None
oldest (p ∷ ps) = Some p

abbrev pub without_oldest : List Parcel → List Parcel
without_oldest [] = []
without_oldest (p ∷ ps) = ps

-- how many words of transactions are among some parcels
abbrev pub words_among : List Parcel → ℕ
words_among [] = 0
words_among (word v ∷ ps) = suc (words_among ps)
words_among (p ∷ ps) = words_among ps
