-- The cores, which have the numbers 0 to 3, and what is needed on one of them.
use Rattle.std.specs.Prelude.{ℕ, Bool, true, false, nat_eq}

-- the number of the last core
abbrev pub last_core : ℕ
last_core = 3

-- what stands for a core where a place gives none
abbrev pub no_core : ℕ
no_core = 255

-- so many where something is so, and else none
abbrev pub if_so : Bool → ℕ → ℕ
if_so true n = n
if_so false n = 0

-- what something on a core needs on another, or on the same
abbrev pub on_core : (core : ℕ) → (its_core : ℕ) → ℕ → ℕ
on_core core its_core n = if_so (nat_eq its_core core) n
