-- What a list of tokens derives, and which lists are the beginning of one that derives something.
use Rattle.std.specs.Prelude.{◌≡◌, ℕ, ◌+◌, ◌-◌, ◌≤◌, Bool, true, List, [], ◌∷◌, length, slice_get, Option, Some, None}
use Rattle.xw_words.specs.declared.pos.Pos.{Pos}
use Rattle.xc_tree.specs.declared.token.Tok.{Tok}
use Rattle.xc_tree.specs.declared.token.Kind.{Kind}
use Rattle.xc_tree.specs.declared.token.Kind.TheVariants.{Name, Num, Key, Sym}
use Rattle.xc_tree.specs.Symbol.{Symbol, sym, key, a_name, a_number, program, Value, Values}
use Rattle.xc_tree.specs.Grammar.{Rule, Extent, rules}
use Rattle.xc_tree.specs.Plain.{Item}

-- the token at place i
pub record On (toks : List Tok) (i : ℕ) (k : Kind) (p : Pos) : Type 0 where
  pub there : slice_get toks i ≡ Some (record { kind = k; pos = p })

-- one of the alternatives of a symbol
pub record Among {V : Type 0} (rs : List (Rule V)) (r : Rule V) : Type 0 where
  pub at : ℕ
  pub there : slice_get rs at ≡ Some r

abbrev pub position : Option Tok → Pos
position None = record { line = 0; col = 0 }
position (Some t) = t.pos

-- the tokens from i up to j
abbrev pub extent : List Tok → ℕ → ℕ → Extent
extent toks i j = record { first = position (slice_get toks i); last = position (slice_get toks (j - 1)); count = j - i }

-- how many nodes of the tree may stand one below the other: any number, or so many
pub data Room : Type 0 where
  unlimited : Room
  at_most : ℕ → Room

-- n nodes, one below the other, have room
abbrev pub HasRoom : Room → ℕ → Type 0
HasRoom unlimited n = Unit {0}
HasRoom (at_most r) n = n ≤ r

-- What is left below n nodes. An alternative that makes a node leaves its parts room for one node less, and it may begin only where
-- there is room for one.
abbrev pub below : Room → ℕ → Room
below unlimited n = unlimited
below (at_most r) n = at_most (r - n)

mutual
  -- the tokens from i up to j derive the symbol with this value, by cases that have room for their nodes
  pub data Derives (toks : List Tok) : Room → (s : Symbol) → ℕ → ℕ → Value s → Type 0 where
    a_sym : {room : Room} {i o : ℕ} {p : Pos} → On toks i (Sym o) p → Derives toks room (sym o) i (i + 1) p
    a_key : {room : Room} {i w : ℕ} {p : Pos} → On toks i (Key w) p → Derives toks room (key w) i (i + 1) p
    named : {room : Room} {i : ℕ} {t : List ℕ} {p : Pos} → On toks i (Name t) p → Derives toks room a_name i (i + 1) (record { text = t; pos = p })
    counted : {room : Room} {i n : ℕ} {u : Bool} {p : Pos} → On toks i (Num n u) p → Derives toks room a_number i (i + 1) (record { value = n; is_unsigned = u; pos = p })
    by_rule : {room : Room} {s : Symbol} {i j : ℕ} {r : Rule (Value s)} {vs : Values r.parts} → Among (rules s) r → HasRoom room r.nodes → Row toks (below room r.nodes) r.parts i j vs → r.fits vs ≡ true → Derives toks room s i j (r.make (extent toks i j) vs)

  -- they derive these symbols one after the other
  pub data Row (toks : List Tok) : Room → (ss : List Symbol) → ℕ → ℕ → Values ss → Type 0 where
    done : {room : Room} {i : ℕ} → Row toks room [] i i tt
    next : {room : Room} {s : Symbol} {ss : List Symbol} {i j k : ℕ} {v : Value s} {vs : Values ss} → Derives toks room s i j v → Row toks room ss j k vs → Row toks room (s ∷ ss) i k (v, vs)

mutual
  -- the tokens from i up to n are a prefix of the symbol: nothing, the whole, or a beginning of an alternative
  pub data Prefix (toks : List Tok) : Room → Symbol → ℕ → ℕ → Type 0 where
    nothing : {room : Room} {s : Symbol} {i : ℕ} → Prefix toks room s i i
    whole : {room : Room} {s : Symbol} {i n : ℕ} {v : Value s} → Derives toks room s i n v → Prefix toks room s i n
    begins : {room : Room} {s : Symbol} {i n : ℕ} {r : Rule (Value s)} → Among (rules s) r → HasRoom room r.nodes → Begins toks (below room r.nodes) r.parts i n → Prefix toks room s i n

  -- what the first symbols derive, followed by a prefix of the next one
  pub data Begins (toks : List Tok) : Room → List Symbol → ℕ → ℕ → Type 0 where
    in_this : {room : Room} {s : Symbol} {ss : List Symbol} {i n : ℕ} → Prefix toks room s i n → Begins toks room (s ∷ ss) i n
    after : {room : Room} {s : Symbol} {ss : List Symbol} {i j n : ℕ} {v : Value s} → Derives toks room s i j v → Begins toks room ss j n → Begins toks room (s ∷ ss) i n

-- the tokens are this program
abbrev pub IsProgram : List Tok → List Item → Type 0
IsProgram toks items = Derives toks unlimited program 0 (length toks) items

-- the first i tokens are the beginning of a program
abbrev pub IsBeginning : List Tok → ℕ → Type 0
IsBeginning toks i = Prefix toks unlimited program 0 i

-- how many nodes of the tree of a program may stand one below the other
abbrev pub deepest : ℕ
deepest = 200

-- they are so by cases that leave each node that has begun at a depth of 200 or less
abbrev pub IsShallow : List Tok → ℕ → Type 0
IsShallow toks i = Prefix toks (at_most deepest) program 0 i
