-- The room at the ends: what is counted for each pair of ends.
use Rattle.std.specs.Prelude.{◌<◌, ◌+◌, ℕ, zero, suc, List, [], ◌∷◌, length, Option, Some, None, nat_eq, slice_get}
use Rattle.xs_instr.specs.declared.state.ChanEnd.{ChanEnd}
use Rattle.xs_instr.specs.declared.state.CoreState.{CoreState}
use Rattle.xs_instr.specs.declared.state.Item.{Item}
use Rattle.xs_instr.specs.declared.state.Moved.{Moved}
use Rattle.xs_instr.specs.declared.state.Moved.TheVariants.{Tok, Credit}
use Rattle.xw_words.specs.Words.{truth}
use Rattle.xs_instr.specs.Ends.{arrives}
use Rattle.xs_instr.specs.Machine.{Machine, link_of}

-- tokens are counted, or credits
pub data Kind : Type 0 where
  Tokens : Kind
  Credits : Kind

-- 1 where it is of that kind and for end e
abbrev pub weight : Kind → ℕ → Moved → ℕ
weight Tokens e (Tok f k) = truth (nat_eq f e)
weight Tokens e (Credit f) = 0
weight Credits e (Tok f k) = 0
weight Credits e (Credit f) = truth (nat_eq f e)

-- how many of these are of that kind and for end e
abbrev pub weights : Kind → ℕ → List Moved → ℕ
weights k e [] = 0
weights k e (m ∷ ms) = weight k e m + weights k e ms

-- the same of items on a link
abbrev pub items_weight : Kind → ℕ → List Item → ℕ
items_weight k e [] = 0
items_weight k e (i ∷ items) = weight k e i.moved + items_weight k e items

-- how many are on their way to end e of core c from the cores below n
abbrev pub on_way : Kind → ℕ → List (List (List Item)) → ℕ → ℕ → ℕ
on_way k e links c zero = 0
on_way k e links c (suc n) = on_way k e links c n + items_weight k e (link_of links n c)

-- how many an end has
abbrev pub level : Kind → Option ChanEnd → ℕ
level Tokens None = 0
level Tokens (Some end) = length end.tokens
level Credits None = 0
level Credits (Some end) = end.credits

abbrev pub ends_in : Option CoreState → List ChanEnd
ends_in None = []
ends_in (Some core) = core.ends

-- the ends of core c
abbrev pub ends_of : Machine → ℕ → List ChanEnd
ends_of m c = ends_in (slice_get m.cores c)

-- how many end e of core c has, and how many are on their way to it
abbrev pub total : Kind → Machine → ℕ → ℕ → ℕ
total k m c e = level k (slice_get (ends_of m c) e) + on_way k e m.links c 4

-- the end is there, and has fewer than 8
pub record HasRoomFor (k : Kind) (ends : List ChanEnd) (e : ℕ) : Type 0 where
  pub there : e < length ends
  pub room : level k (slice_get ends e) < 8

-- room for what goes over a link
abbrev pub HasRoom : List ChanEnd → Moved → Type 0
HasRoom ends (Tok e k) = HasRoomFor Tokens ends e
HasRoom ends (Credit e) = HasRoomFor Credits ends e

-- so, one after the other
abbrev pub HasRoomAlong : List ChanEnd → List Moved → Type 0
HasRoomAlong ends [] = Unit {0}
HasRoomAlong ends (m ∷ ms) = HasRoom ends m × HasRoomAlong (arrives ends m) ms
