-- Symbols in a text.
use Rattle.std.specs.Prelude.{ℕ, if◌then◌else◌, List, length, Option, None, nat_le}
use Rattle.xc_tree.specs.Bytes.{part}
use Rattle.xc_tree.specs.Tables.{symbols}
use Rattle.xw_words.specs.Tables.{place_in}

-- the symbol that the bytes from i up to j are, if they stand in the text
abbrev pub symbol_to : List ℕ → ℕ → ℕ → Option ℕ
symbol_to text i j = if nat_le j (length text) then place_in symbols (part text i j) else None
