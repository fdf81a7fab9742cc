-- Truth values as the bits of a word.
use Rattle.std.specs.Prelude.{◌≡◌, ◌+◌, ◌-◌, ◌<◌, ◌^◌, ℕ, Bool}
use Rattle.xs_event.specs.Readiness.{is_set}

-- a word of n bits, which say of the last n numbers below 32 whether they are ready
pub record HasBits (ready : ℕ → Bool) (word n : ℕ) : Type 0 where
  pub small : word < 2 ^ n
  pub all : (m : ℕ) → m < n → is_set word m ≡ ready (32 - n + m)
