-- The word that an expression of a kernel has, or its first error.
use Rattle.std.specs.Prelude.{ℕ, Bool, true, false, List, [], ◌∷◌, length, nat_lt, slice_index, slice_index_or}
use Rattle.xw_words.specs.declared.pos.Pos.{Pos}
use Rattle.xc_kernel.specs.Operators.{operator_at}
use Rattle.xc_kernel.specs.Values.{Value, word, error, index, applied}
use Rattle.xc_kernel.specs.Plain as kernel

-- the words of each variable, by its place in the kernel's list
abbrev pub Store : Type 0
Store = List (List ℕ)

abbrev pub words_of : Store → ℕ → List ℕ
words_of store variable = slice_index_or store variable []

-- `element_at`, by cases
abbrev pub element_by : List ℕ → Pos → ℕ → Bool → Value
element_by words pos i true = word (slice_index words i)
element_by words pos i false = error index pos

-- the element at an index, where that is below the length
abbrev pub element_at : List ℕ → Pos → Value → Value
element_at words pos (error kind at) = error kind at
element_at words pos (word i) = element_by words pos i (nat_lt i (length words))

abbrev mutual
  -- An expression errs in two ways, `arithmetic` and `index`. A mismatch is no matter of expressions.
  pub eval : Store → kernel.Expression → Value
  eval store (kernel.number v) = word v
  eval store (kernel.read place) = eval_place store place
  eval store (kernel.operation symbol is_unsigned es pos) = applied (operator_at symbol) is_unsigned pos (eval_all store es)

  -- from left to right; without effects, so that to leave an operand out is not to look at its value
  pub eval_all : Store → kernel.Operands → List Value
  eval_all store kernel.no_operand = []
  eval_all store (kernel.more_operands e es) = eval store e ∷ eval_all store es

  -- what stands at a place
  pub eval_place : Store → kernel.Place → Value
  eval_place store (kernel.word variable) = word (slice_index (words_of store variable) 0)
  eval_place store (kernel.element variable i pos) = element_at (words_of store variable) pos (eval store i)
