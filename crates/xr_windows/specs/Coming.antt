-- What is on its way to a core.
use Rattle.std.specs.Prelude.{ℕ, ◌+◌, ◌≤◌, Bool, true, false, List, [], ◌∷◌, ◌++◌, Option, length, nat_eq, vec_len, vec_capacity}
use Rattle.std.specs.declared.alloc.Global.{Global}
use Rattle.std.specs.declared.vec.Vec.{Vec}
use Rattle.xr_windows.specs.declared.coming.Coming.{Coming}
use Rattle.xr_windows.specs.Sending.{Sending, items_in}
use Rattle.xs_fabric.specs.OnLinks.{items_at}
use Rattle.xs_instr.specs.declared.state.Item.{Item}

-- what is on its way, in a list by the number of the sender
abbrev pub lists_of : Coming → List (List Item)
lists_of c = c.from0.items ∷ c.from1.items ∷ c.from2.items ∷ c.from3.items ∷ []

-- the same, by the number of the sender
abbrev pub coming_of : Coming → ℕ → List Item
coming_of c = items_at (lists_of c)

-- `items_from`, by cases
abbrev pub items_by : List Item → List Item → Bool → List Item
items_by items rest true = items ++ rest
items_by items rest false = rest

-- the items of the batches of core a
abbrev pub items_from : ℕ → List Sending → List Item
items_from a [] = []
items_from a (b ∷ bs) = items_by b.items (items_from a bs) (nat_eq b.from a)

-- what waits has room for what a batch brings
abbrev pub HasRoomFor : Vec Item Global → Option Sending → Type 0
HasRoomFor waiting came = vec_len waiting + length (items_in came) ≤ vec_capacity waiting
