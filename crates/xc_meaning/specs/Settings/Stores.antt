-- Words are stored.
use Rattle.std.specs.Prelude.{ℕ, length, Option, Some}
use Rattle.xc_kernel.specs.Plain as kernel
use Rattle.xc_kernel.specs.Values.{Value, tested}
use Rattle.xc_kernel.specs.Eval.{words_of}
use Rattle.xc_meaning.specs.States.Worlds.{World, with_word, with_zeros}
use Rattle.xc_meaning.specs.Settings.Setting.{Setting, goes_on, with_value, with_word_of}

-- a word is stored in a variable, at an index
abbrev pub stored_in : Setting → (variable : ℕ) → ℕ → (index : ℕ) → Option World
stored_in s variable v i = Some (with_word (goes_on s) variable i v)

-- where a word is stored: in a variable, at an index, which may be an error
pub record Spot : Type 0 where
  pub variable : ℕ
  pub index : Value

-- a word is stored there
abbrev pub stored_at : Setting → Spot → ℕ → Option World
stored_at s spot v = with_value s spot.index (stored_in s spot.variable v)

-- a value is stored there; what it errs by comes first
abbrev pub assigned_at : Setting → Spot → Value → Option World
assigned_at s spot v = with_value s v (stored_at s spot)

-- a word is stored at a place of the kernel; the index of an element is evaluated now, and tested
abbrev pub stored : Setting → kernel.Place → ℕ → Option World
stored s (kernel.word variable) v = stored_in s variable v 0
stored s (kernel.element variable index pos) v =
    with_word_of s index (λ i. with_value s (tested i (length (words_of s.world.store variable)) pos) (stored_in s variable v))

-- an assignment: the right side comes first
abbrev pub assigned : Setting → kernel.Place → kernel.Expression → Option World
assigned s place e = with_word_of s e (stored s place)

-- a variable's words become 0
abbrev pub zeroed : Setting → (variable : ℕ) → Option World
zeroed s variable = Some (with_zeros (goes_on s) variable)
