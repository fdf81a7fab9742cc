-- The state of a program's run, and the steps that there are.
use Rattle.std.specs.Prelude.{ℕ, Bool, true, false, List, [], ◌∷◌, ◌++◌, map, Option, Some, None, slice_set, slice_index_or}
use Rattle.xs_instr.specs.declared.trace.Record.{Record}
use Rattle.xc_kernel.specs.Eval.{Store, words_of}
use Rattle.xc_meaning.specs.States.Channels.{Parcel, Side, Inboxes, no_parcels, parcels_at, with_parcels, without_oldest}
use Rattle.xc_meaning.specs.States.Branches.{Branch}

-- Variables and channels are meant by their numbers in the kernel, branches by their order of birth. A branch's name is its number in
-- that order, as a path can come again in a later iteration of a loop.
pub record World : Type 0 where
  -- of each core
  pub clocks : List ℕ
  pub branches : List Branch
  pub store : Store
  -- of each channel
  pub inboxes : List Inboxes
  pub trace : List Record

-- An action: a step of the program, by whose it is and what it chooses. The events of the machine are no actions; those over a link
-- are called moves.
pub data Action : Type 0 where
  -- a core's clock goes up
  clock : (core : ℕ) → Action
  -- a branch does its first item, or goes on behind a `par`
  go : (branch : ℕ) → Action
  -- a branch takes one of the enabled cases of its select, by its place among them, or the default
  take : (branch choice : ℕ) → Action
  default : (branch : ℕ) → Action

-- the state, where that is so
abbrev pub only_if : Bool → World → Option World
only_if true x = Some x
only_if false x = None

-- the parcels at a side of a channel
abbrev pub inboxes_of : World → ℕ → Inboxes
inboxes_of x channel = slice_index_or x.inboxes channel no_parcels

abbrev pub inbox : World → ℕ → Side → List Parcel
inbox x channel side = parcels_at (inboxes_of x channel) side

abbrev pub with_inbox : World → ℕ → Side → List Parcel → World
with_inbox x channel side parcels =
    record x { inboxes = slice_set x.inboxes channel (with_parcels (inboxes_of x channel) side parcels) }

-- a parcel arrives at a side
abbrev pub put : World → ℕ → Side → Parcel → World
put x channel side parcel = with_inbox x channel side (inbox x channel side ++ parcel ∷ [])

-- the oldest parcel of a side is taken
abbrev pub without_parcel : World → ℕ → Side → World
without_parcel x channel side = with_inbox x channel side (without_oldest (inbox x channel side))

abbrev pub with_record : World → Record → World
with_record x made = record x { trace = x.trace ++ made ∷ [] }

-- a word is stored in a variable, at an index
abbrev pub with_word : World → (variable index : ℕ) → ℕ → World
with_word x variable i v = record x { store = slice_set x.store variable (slice_set (words_of x.store variable) i v) }

abbrev pub zero_for : ℕ → ℕ
zero_for word = 0

-- all words of a variable become 0
abbrev pub with_zeros : World → (variable : ℕ) → World
with_zeros x variable = record x { store = slice_set x.store variable (map zero_for (words_of x.store variable)) }
