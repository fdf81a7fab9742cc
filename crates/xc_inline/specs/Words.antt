-- The words of values.
use Rattle.std.specs.Prelude.{ℕ, Option, Some, None}
use Rattle.xc_kernel.specs.Values.{Value, word, error}

-- the word that a value is, if it is one
abbrev pub word_in : Value → Option ℕ
word_in (word v) = Some v
word_in (error kind pos) = None
