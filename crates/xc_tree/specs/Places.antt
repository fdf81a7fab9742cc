-- Lines and columns, which count from 1. A column counts bytes, and a line feed ends a line.
use Rattle.std.specs.Prelude.{ℕ, ◌+◌, if◌then◌else◌, nat_eq, List, [], ◌∷◌, take}
use Rattle.xw_words.specs.declared.pos.Pos.{Pos}

-- the place behind a byte
unfoldable pub next_pos : Pos → ℕ → Pos
next_pos p b = if nat_eq b 10 then record { line = p.line + 1; col = 1 } else record { line = p.line; col = p.col + 1 }

-- the place behind some bytes
unfoldable pub pos_behind : Pos → List ℕ → Pos
pos_behind p [] = p
pos_behind p (b ∷ bs) = pos_behind (next_pos p b) bs

-- the line and column of a place
abbrev pub pos_at : List ℕ → ℕ → Pos
pos_at text i = pos_behind (record { line = 1; col = 1 }) (take i text)
