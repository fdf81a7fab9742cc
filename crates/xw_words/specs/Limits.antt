-- Limits that more than one phase keeps.
use Rattle.std.specs.Prelude.{ℕ}

-- the most bytes that a program's text may have
abbrev pub longest_text : ℕ
longest_text = 4194304
