-- Communications: a plain output waits until its word is taken, and inside a transaction none is waited for.
use Rattle.std.specs.Prelude.{ℕ, Bool, true, false, ◌||◌, List, [], ◌∷◌, Option, Some, None, nat_eq, nat_lt}
use Rattle.xs_instr.specs.Machine.{and_then}
use Rattle.xw_words.specs.declared.pos.Pos.{Pos}
use Rattle.xs_instr.specs.declared.trace.Record.TheVariants.{Com}
use Rattle.xc_kernel.specs.Plain as kernel
use Rattle.xc_meaning.specs.States.Channels.{Parcel, offer, word, taken, Side, other_side, oldest, words_among}
use Rattle.xc_meaning.specs.States.Items.{awaits, storing}
use Rattle.xc_meaning.specs.States.Branches.{side_of}
use Rattle.xc_meaning.specs.States.Worlds.{World, only_if, inbox, put, without_parcel, with_record}
use Rattle.xc_meaning.specs.Settings.Setting.{Setting, goes_to, goes_on, mismatches}

-- how a communication goes
pub data Manner : Type 0 where
  plain : Manner
  inside : Manner

abbrev pub is_among : ℕ → List ℕ → Bool
is_among c [] = false
is_among c (d ∷ ds) = nat_eq c d || is_among c ds

abbrev pub manner_by : Bool → Manner
manner_by true = inside
manner_by false = plain

-- inside a transaction on this very channel, or not
abbrev pub manner_of : Setting → (channel : ℕ) → Manner
manner_of s c = manner_by (is_among c s.branch.inside)

-- what the branch does as the side that it is of a channel
abbrev pub on_side : Setting → (channel : ℕ) → (Side → Option World) → Option World
on_side s c go = and_then (side_of s.branch c) go

-- the parcel that a side looks at first
abbrev pub parcel_at : Setting → (channel : ℕ) → Side → Option Parcel
parcel_at s c side = oldest (inbox s.world c side)

-- fewer than two of a side's words are unread
abbrev pub has_room : Setting → (channel : ℕ) → Side → Bool
has_room s c side = nat_lt (words_among (inbox s.world c (other_side side))) 2

-- a plain output offers its word and then waits, one inside a transaction puts it and goes on
abbrev pub outputs : Setting → (channel : ℕ) → Pos → ℕ → Manner → Side → Option World
outputs s c pos v plain side = Some (put (goes_to s (awaits c pos ∷ s.rest)) c (other_side side) (offer v))
outputs s c pos v inside side = only_if (has_room s c side) (put (goes_on s) c (other_side side) (word v))

-- a word is output to a channel
abbrev pub outputs_word : Setting → (channel : ℕ) → Pos → ℕ → Option World
outputs_word s c pos v = on_side s c (outputs s c pos v (manner_of s c))

-- the word is taken and recorded, and is to be stored next
abbrev pub receives : Setting → (channel : ℕ) → Option kernel.Place → Side → ℕ → World
receives s c target side v =
    with_record (without_parcel (goes_to s (storing target v s.rest)) c side) (Com s.branch.core v)

-- a plain input takes an offer and answers it, one inside a transaction takes a word
abbrev pub inputs_parcel : Setting → (channel : ℕ) → Option kernel.Place → Pos → Side → Manner → Option Parcel → Option World
inputs_parcel s c target pos side manner None = None
inputs_parcel s c target pos side plain (Some (offer v)) = Some (put (receives s c target side v) c (other_side side) taken)
inputs_parcel s c target pos side inside (Some (word v)) = Some (receives s c target side v)
inputs_parcel s c target pos side manner (Some parcel) = mismatches s pos

-- a word is input from a channel
abbrev pub inputs_word : Setting → (channel : ℕ) → Option kernel.Place → Pos → Option World
inputs_word s c target pos =
    on_side s c (λ side. inputs_parcel s c target pos side (manner_of s c) (parcel_at s c side))

-- the answer is taken
abbrev pub awaits_parcel : Setting → (channel : ℕ) → Pos → Side → Option Parcel → Option World
awaits_parcel s c pos side None = None
awaits_parcel s c pos side (Some taken) = Some (without_parcel (goes_on s) c side)
awaits_parcel s c pos side (Some parcel) = mismatches s pos

-- an answer is waited for
abbrev pub awaits_answer : Setting → (channel : ℕ) → Pos → Option World
awaits_answer s c pos = on_side s c (λ side. awaits_parcel s c pos side (parcel_at s c side))
