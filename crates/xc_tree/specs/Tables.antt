-- The tables of words and symbols, and what of them stands in a text.
use Rattle.std.specs.Prelude.{◌≡◌, ℕ, ◌<◌, ◌≤◌, List, map, length, Some, None}
use Rattle.xw_words.specs.Tables.{place_in}
use Rattle.xc_tree.specs.declared.token.TheConstants.{WORDS, SYMBOLS}
use Rattle.xc_tree.specs.Bytes.{part}

-- the words, by their bytes
unfoldable pub words : List (List ℕ)
words = map (λ w. w.now) WORDS

-- the symbols, by their bytes
unfoldable pub symbols : List (List ℕ)
symbols = map (λ w. w.now) SYMBOLS

-- the bytes from i up to j are the symbol k, and no longer row of bytes from i on is a symbol
pub record Longest (text : List ℕ) (i j k : ℕ) : Type 0 where
  pub within : j ≤ length text
  pub spells : place_in symbols (part text i j) ≡ Some k
  pub no_longer : (n : ℕ) → j < n → n ≤ length text → place_in symbols (part text i n) ≡ None

-- no row of bytes from i on is a symbol
pub record NoSymbol (text : List ℕ) (i : ℕ) : Type 0 where
  pub never : (n : ℕ) → n ≤ length text → place_in symbols (part text i n) ≡ None
