-- Where words stand in a memory.
use Rattle.std.specs.Prelude.{◌≡◌, ℕ, ◌*◌, ◌%◌, ◌<◌, List, length}

-- a word stands at the address: a multiple of 4, below four times the words
abbrev pub IsWordAddress : List ℕ → ℕ → Type 0
IsWordAddress words address = (address % 4 ≡ 0) × (address < 4 * length words)
