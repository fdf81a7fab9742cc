-- What it means that a function has read a symbol from a place on, or refused it, with room for so many nodes.
use Rattle.std.specs.Prelude.{◌≡◌, ℕ, ◌+◌, ◌≤◌, ◌⊎◌, Bool, true, List}
use Rattle.xc_tree.specs.declared.token.Tok.{Tok}
use Rattle.xc_tree.specs.Plain.{is_open, is_open_branch}
use Rattle.xc_tree.specs.Symbol.{Symbol, statement, block_item, case_item, branch, Value}
use Rattle.xc_tree.specs.Derives.{unlimited, at_most, Derives, Prefix}
use Rattle.xc_nonterminals.specs.Follows.{OneOf, follows}

-- at this place stands a token that a longer reading of the symbol can go on with
abbrev pub GoesOn : List Tok → Symbol → ℕ → Type 0
GoesOn toks s k = OneOf toks k (follows s)

-- whether what was read may be a front of a longer reading: a statement only where an `else` behind it belongs to it
abbrev pub may_go_on : (s : Symbol) → Value s → Bool
may_go_on statement v = is_open v
may_go_on block_item v = is_open v
may_go_on case_item v = is_open v
may_go_on branch v = is_open_branch v
may_go_on _ v = true

-- a reading up to k with this value, which goes on there
pub record IsFront (toks : List Tok) (s : Symbol) (k : ℕ) (v : Value s) : Type 0 where
  pub goes_on : GoesOn toks s k
  pub may : may_go_on s v ≡ true

-- It is read up to j with this value, and there is room. Each other reading goes on at its end, and no prefix is longer.
pub record Reads (toks : List Tok) (room : ℕ) (s : Symbol) (i j : ℕ) (v : Value s) : Type 0 where
  pub derives : Derives toks (at_most room) s i j v
  pub only : (k : ℕ) (w : Value s) → Derives toks unlimited s i k w → ((k ≡ j) × (w ≡ v)) ⊎ IsFront toks s k w
  pub most : (n : ℕ) → Prefix toks unlimited s i n → n ≤ j

-- Up to m it can be read, with room, and no prefix is longer. Each reading goes on at its end.
pub record Refuses (toks : List Tok) (room : ℕ) (s : Symbol) (i m : ℕ) : Type 0 where
  pub prefix : Prefix toks (at_most room) s i m
  pub never : (k : ℕ) (w : Value s) → Derives toks unlimited s i k w → IsFront toks s k w
  pub most : (n : ℕ) → Prefix toks unlimited s i n → n ≤ m

-- Up to m it can be read with room, and with token m only without. Each reading with room goes on at its end.
pub record TooDeep (toks : List Tok) (room : ℕ) (s : Symbol) (i m : ℕ) : Type 0 where
  pub prefix : Prefix toks (at_most room) s i m
  pub begins : Prefix toks unlimited s i (m + 1)
  pub never : (k : ℕ) (w : Value s) → Derives toks (at_most room) s i k w → IsFront toks s k w
  pub most : (n : ℕ) → Prefix toks (at_most room) s i n → n ≤ m

-- It is read up to j, but with room only its beginning is: what stands at j decides whether it is too deep or no such
-- symbol at all. So it is with a name without room behind `=` or `return`, which may begin a call. Where a `(` follows, it does. Where
-- a token follows that a value could go on or end with there, as `+`, `[` or `;`, that token breaks 202. Where any other follows, it
-- breaks 201.
pub record Unfit (toks : List Tok) (room : ℕ) (s : Symbol) (i j : ℕ) : Type 0 where
  pub value : Value s
  pub derives : Derives toks unlimited s i j value
  pub only : (k : ℕ) (w : Value s) → Derives toks unlimited s i k w → ((k ≡ j) × (w ≡ value)) ⊎ IsFront toks s k w
  pub most : (n : ℕ) → Prefix toks unlimited s i n → n ≤ j
  pub prefix : Prefix toks (at_most room) s i j
  pub never : (k : ℕ) (w : Value s) → Derives toks (at_most room) s i k w → IsFront toks s k w
