-- What is left of a symbol that was read up to a place: the rests of its alternatives that are still open.
use Rattle.std.proofs.Common.{◌≡◌, ℕ, zero, suc, ◌-◌, ◌≤◌, ◌⊎◌, Bool, true, List, [], ◌∷◌}
use Rattle.xc_tree.specs.declared.token.Tok.{Tok}
use Rattle.xc_tree.specs.Symbol.{Symbol, Value}
use Rattle.xc_tree.specs.Grammar.{Extent}
use Rattle.xc_tree.specs.Derives.{Derives, Prefix, Room, unlimited, at_most, HasRoom, below, extent}
use Rattle.xc_nonterminals.specs.Reading.{IsFront}

-- a symbol, and how many nodes stand above it
pub record Part : Type 0 where
  pub above : ℕ
  pub symbol : Symbol

abbrev pub ValuesOf : List Part → Type 0
ValuesOf [] = Unit {0}
ValuesOf (p ∷ ps) = Value p.symbol × ValuesOf ps

-- What is left of an alternative: the nodes that it needs so far, its parts, what their values must fulfil, and its value.
pub record Rest (V : Type 0) : Type 0 where
  pub need : ℕ
  pub parts : List Part
  pub fits : ValuesOf parts → Bool
  pub make : Extent → ValuesOf parts → V

-- the room inside some nodes
abbrev pub inside : Room → ℕ → Room
inside room zero = room
inside room (suc n) = below room (suc n)

abbrev pub left : ℕ → ℕ → ℕ
left room zero = room
left room (suc n) = room - suc n

-- the tokens from i up to j derive these parts one after the other
abbrev pub RowOf : List Tok → Room → (ps : List Part) → ℕ → ℕ → ValuesOf ps → Type 0
RowOf toks room [] i j vs = j ≡ i
RowOf toks room (p ∷ ps) i j vs =
    (m : ℕ) × HasRoom room p.above × Derives toks (inside room p.above) p.symbol i m vs.0 × RowOf toks room ps m j vs.1

-- those up to n are a prefix of them
abbrev pub BeginsOf : List Tok → Room → List Part → ℕ → ℕ → Type 0
BeginsOf toks room [] i n = ⊥
BeginsOf toks room (p ∷ ps) i n =
    (HasRoom room p.above × Prefix toks (inside room p.above) p.symbol i n) ⊎
    ((m : ℕ) × (v : Value p.symbol) × HasRoom room p.above × Derives toks (inside room p.above) p.symbol i m v × BeginsOf toks room ps m n)

-- a rest goes from k up to j, with this value of a symbol from i on
abbrev pub EndsBy : {V : Type 0} → List Tok → Room → Rest V → ℕ → ℕ → ℕ → V → Type 0
EndsBy toks room r i k j v =
    (vs : ValuesOf r.parts) × HasRoom room r.need × RowOf toks room r.parts k j vs × (r.fits vs ≡ true) × (v ≡ r.make (extent toks i j) vs)

abbrev pub Ends : {V : Type 0} → List Tok → Room → List (Rest V) → ℕ → ℕ → ℕ → V → Type 0
Ends toks room [] i k j v = ⊥
Ends toks room (r ∷ rs) i k j v = EndsBy toks room r i k j v ⊎ Ends toks room rs i k j v

abbrev pub StartsBy : {V : Type 0} → List Tok → Room → Rest V → ℕ → ℕ → Type 0
StartsBy toks room r k n = HasRoom room r.need × BeginsOf toks room r.parts k n

abbrev pub Starts : {V : Type 0} → List Tok → Room → List (Rest V) → ℕ → ℕ → Type 0
Starts toks room [] k n = ⊥
Starts toks room (r ∷ rs) k n = StartsBy toks room r k n ⊎ Starts toks room rs k n

-- A symbol that began at i was read up to k, and with this room these rests of it are open. What no rest accounts for ends
-- before token m.
pub record Open (toks : List Tok) (room : Room) (s : Symbol) (i k m : ℕ) (rs : List (Rest (Value s))) : Type 0 where
  pub derives : (j : ℕ) (v : Value s) → Ends toks room rs i k j v → Derives toks room s i j v
  pub only : (j : ℕ) (v : Value s) → Derives toks room s i j v → IsFront toks s j v ⊎ Ends toks room rs i k j v
  pub prefix : (n : ℕ) → Starts toks room rs k n → Prefix toks room s i n
  pub here : Prefix toks room s i k
  pub most : (n : ℕ) → Prefix toks room s i n → (n ≤ m) ⊎ Starts toks room rs k n

-- It is so without a limit, and with room for so many nodes.
pub record Stands (toks : List Tok) (room : ℕ) (s : Symbol) (i k : ℕ) (rs : List (Rest (Value s))) : Type 0 where
  pub free : Open toks unlimited s i k k rs
  pub held : Open toks (at_most room) s i k k rs

-- the room that some rests need
abbrev pub FitsIn : {V : Type 0} → ℕ → List (Rest V) → Type 0
FitsIn room [] = Unit {0}
FitsIn room (r ∷ rs) = (r.need ≤ room) × FitsIn room rs
