-- A branch of a run.
use Rattle.std.specs.Prelude.{ℕ, Bool, true, false, ◌&&◌, List, [], ◌∷◌, Option, None, slice_index_or}
use Rattle.xc_meaning.specs.States.Channels.{Side}
use Rattle.xc_meaning.specs.States.Items.{Item}

-- whether a branch runs, waits for the branches of its `par`, which have successive numbers, has ended or has erred
pub data Mode : Type 0 where
  runs : Mode
  waits : (from count : ℕ) → Mode
  ended : Mode
  erred : Mode

-- the family whose `par` made a branch, the branch's index in it, and how many branches it made
pub record Birth : Type 0 where
  pub family : ℕ
  pub index : ℕ
  pub among : ℕ

pub record Branch : Type 0 where
  pub core : ℕ
  pub mode : Mode
  pub items : List Item
  -- for each channel, by its number, the side that the branch is of it or stands in
  pub sides : List (Option Side)
  -- the channels of the transactions that it stands in, the innermost first
  pub inside : List ℕ
  -- A family is a branch with the family of the first branch of each `par` that it makes. It has the number of that branch.
  pub family : ℕ
  -- a root has none
  pub birth : Option Birth

-- A branch that ends or errs has no items left.
abbrev pub has_ended : Mode → Bool
has_ended ended = true
has_ended mode = false

abbrev pub has_erred : Mode → Bool
has_erred erred = true
has_erred mode = false

abbrev pub all_ended : List Branch → Bool
all_ended [] = true
all_ended (b ∷ bs) = has_ended b.mode && all_ended bs

-- how each branch was made, by its number, and a root wasn't: this tells each family's number
abbrev pub births : List Branch → List (Option Birth)
births [] = []
births (b ∷ bs) = b.birth ∷ births bs

-- the side that a branch is of a channel or stands in, if it is on one
abbrev pub side_of : Branch → ℕ → Option Side
side_of branch channel = slice_index_or branch.sides channel None
