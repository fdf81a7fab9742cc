-- What it means that a function has read a row of symbols from a place on, or refused it, with room for so many nodes. A
-- reading of such a row goes on nowhere.
use Rattle.std.specs.Prelude.{◌≡◌, ℕ, ◌+◌, ◌≤◌, List}
use Rattle.xc_tree.specs.declared.token.Tok.{Tok}
use Rattle.xc_tree.specs.Symbol.{Symbol, Values}
use Rattle.xc_tree.specs.Derives.{unlimited, at_most, Row, Begins}
use Rattle.xc_nonterminals.specs.declared.stop.Stop.{Stop}
use Rattle.xc_nonterminals.specs.declared.stop.Stop.TheVariants.{Wrong, Deep, Memory}

-- It is read up to j with these values, and there is room. There is no other reading, and no prefix is longer.
pub record ReadsRow (toks : List Tok) (room : ℕ) (ss : List Symbol) (i j : ℕ) (vs : Values ss) : Type 0 where
  pub derives : Row toks (at_most room) ss i j vs
  pub only : (k : ℕ) (ws : Values ss) → Row toks unlimited ss i k ws → (k ≡ j) × (ws ≡ vs)
  pub most : (n : ℕ) → Begins toks unlimited ss i n → n ≤ j

-- Up to m it can be read, with room, and no prefix is longer. There is no reading.
pub record RefusesRow (toks : List Tok) (room : ℕ) (ss : List Symbol) (i m : ℕ) : Type 0 where
  pub prefix : Begins toks (at_most room) ss i m
  pub never : (k : ℕ) (ws : Values ss) → Row toks unlimited ss i k ws → ⊥
  pub most : (n : ℕ) → Begins toks unlimited ss i n → n ≤ m

-- Up to m it can be read with room, and with token m only without. There is no reading with room.
pub record TooDeepRow (toks : List Tok) (room : ℕ) (ss : List Symbol) (i m : ℕ) : Type 0 where
  pub prefix : Begins toks (at_most room) ss i m
  pub begins : Begins toks unlimited ss i (m + 1)
  pub never : (k : ℕ) (ws : Values ss) → Row toks (at_most room) ss i k ws → ⊥
  pub most : (n : ℕ) → Begins toks (at_most room) ss i n → n ≤ m

-- the row, from i on and with room for so many nodes, was refused so; want of memory says nothing
abbrev pub StoppedRow : List Tok → ℕ → List Symbol → ℕ → Stop → Type 0
StoppedRow toks room ss i (Wrong m) = RefusesRow toks room ss i m
StoppedRow toks room ss i (Deep m) = TooDeepRow toks room ss i m
StoppedRow toks room ss i Memory = Unit {0}
