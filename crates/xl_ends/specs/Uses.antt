-- Which channels code uses, as lists with one answer for each channel.
use Rattle.std.specs.List.{range_with_len}
use Rattle.std.specs.Prelude.{ℕ, ◌+◌, Bool, ◌||◌, List, [], ◌∷◌, map}
use Rattle.xc_kernel.specs.Plain as kernel
use Rattle.xc_kernel.specs.Things.{channel, by_statements}

-- whether statements use each of so many channels
abbrev pub uses_among : (channels : ℕ) → kernel.Statements → List Bool
uses_among n ss = map (λ c. by_statements (channel c) ss) (range_with_len 0 n)

-- answers for the channels from a number on, once those that pass a test are marked too
abbrev pub marked_from : ℕ → (test : ℕ → Bool) → List Bool → List Bool
marked_from c test [] = []
marked_from c test (is_used ∷ used) = (is_used || test c) ∷ marked_from (c + 1) test used

abbrev pub marked : (test : ℕ → Bool) → List Bool → List Bool
marked test used = marked_from 0 test used
