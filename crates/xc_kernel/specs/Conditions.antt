-- What a condition asks for: a port's for its pins, a timer's for its time.
use Rattle.std.specs.Prelude.{◌≡◌, ◌⊎◌, Option, Some, None}
use Rattle.xc_tree.specs.Words.{pinseq_word, pinsneq_word, timerafter_word}
use Rattle.xc_kernel.specs.Plain as kernel

abbrev pub AsksForPins : Option kernel.Condition → Type 0
AsksForPins None = Unit {0}
AsksForPins (Some w) = (w.test ≡ pinseq_word) ⊎ (w.test ≡ pinsneq_word)

abbrev pub AsksForTime : Option kernel.Condition → Type 0
AsksForTime None = Unit {0}
AsksForTime (Some w) = w.test ≡ timerafter_word
