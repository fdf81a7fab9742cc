-- How many levels of operations and readings stand one below the other in an expression.
use Rattle.std.specs.Prelude.{ℕ, ◌+◌, ◌≤◌, max}
use Rattle.xc_kernel.specs.Plain as kernel
use Rattle.xc_wellformed.specs.Each.{AnyNumber, AnyOutput, AnyInput, EachRoot}

-- a reading and its place are one level
abbrev mutual
  pub levels : kernel.Expression → ℕ
  levels (kernel.number v) = 1
  levels (kernel.read place) = levels_below place + 1
  levels (kernel.operation symbol is_unsigned es pos) = levels_of_all es + 1

  pub levels_of_all : kernel.Operands → ℕ
  levels_of_all kernel.no_operand = 0
  levels_of_all (kernel.more_operands e es) = max (levels e) (levels_of_all es)

  -- those below the reading of a place
  pub levels_below : kernel.Place → ℕ
  levels_below (kernel.word v) = 0
  levels_below (kernel.element v i pos) = levels i

-- the most levels
abbrev pub most_levels : ℕ
most_levels = 400

abbrev pub IsLow : kernel.Expression → Type 0
IsLow e = levels e ≤ most_levels

-- A place is as its reading. So what stores and what loads ask the same.
abbrev pub IsLowPlace : kernel.Place → Type 0
IsLowPlace p = levels (kernel.read p) ≤ most_levels

-- each expression and place of a kernel is low
abbrev pub LevelsAreFew : kernel.Kernel → Type 0
LevelsAreFew k = EachRoot IsLow IsLowPlace AnyNumber AnyOutput AnyInput AnyNumber k.roots
