-- What goes onto a link, and what is taken from it.
use Rattle.std.specs.Prelude.{◌≡◌, ◌++◌, ◌&&◌, Bool, ℕ, List, [], ◌∷◌, slice_get, slice_set}
use Rattle.xs_instr.specs.declared.state.Item.{Item}
use Rattle.xs_instr.specs.declared.state.Sent.{Sent}
use Rattle.xs_instr.specs.Machine.{items_in, link_of, link_put}
use Rattle.xs_fabric.specs.EndWord.{no_items}
use Rattle.xs_fabric.specs.Rounds.{Links}

-- what core c sends stands last on its link
abbrev pub put_on : Links → ℕ → Sent → Links
put_on links c s = link_put links c s.to (link_of links c s.to ++ record { tick = s.tick; moved = s.moved } ∷ [])

-- the item was the link's first, and the others stay
abbrev pub IsTaken : Links → ℕ → ℕ → Item → Links → Type 0
IsTaken links a b item links' =
    (link_of links a b ≡ item ∷ link_of links' a b) × (links' ≡ link_put links a b (link_of links' a b))

-- what is on one of the links out of a core
abbrev pub items_at : List (List Item) → ℕ → List Item
items_at out b = items_in (slice_get out b)

-- the item was that link's first, and the others stay
abbrev pub IsTakenFrom : List (List Item) → ℕ → Item → List (List Item) → Type 0
IsTakenFrom out b item out' = (items_at out b ≡ item ∷ items_at out' b) × (out' ≡ slice_set out b (items_at out' b))

-- nothing is on its way to core b from any of the four
abbrev pub none_to : Links → ℕ → Bool
none_to links b =
    no_items (link_of links 0 b) && no_items (link_of links 1 b) && no_items (link_of links 2 b) && no_items (link_of links 3 b)
