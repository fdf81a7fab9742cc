-- Lines and words. The lines of a text are `lines` of std: a line ends with a line feed, which the last line may lack, and a line feed
-- at the end begins no further line. A carriage return right before a line feed is dropped.
use Rattle.std.specs.Prelude.{ℕ, Bool, true, not, if◌then◌else◌, List, [], ◌∷◌, length, filter, ◌==◌}
use Rattle.std.specs.List.{slice_split}

-- whether a byte is a line feed
abbrev pub is_feed : ℕ → Bool
is_feed b = b == 10

-- whether a byte is a space
abbrev pub is_space : ℕ → Bool
is_space b = b == 32

-- what stands from the first byte on that is no space
abbrev pub past_spaces : List ℕ → List ℕ
past_spaces [] = []
past_spaces (b ∷ bs) = if is_space b then past_spaces bs else b ∷ bs

-- whether there is nothing, or a `#` first
abbrev pub is_empty_or_hash : List ℕ → Bool
is_empty_or_hash [] = true
is_empty_or_hash (b ∷ bs) = b == 35

-- whether a line is skipped: a blank line is empty or of spaces alone, and a `#` line has `#` as its first byte past spaces
abbrev pub is_skipped : List ℕ → Bool
is_skipped line = is_empty_or_hash (past_spaces line)

-- whether something stands there
abbrev pub is_some_bytes : List ℕ → Bool
is_some_bytes part = not (length part == 0)

-- the words of a line: what stands between its spaces, of which several may stand in a row and at both ends
abbrev pub words : List ℕ → List (List ℕ)
words line = filter is_some_bytes (slice_split is_space line)
