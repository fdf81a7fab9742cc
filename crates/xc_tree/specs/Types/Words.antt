-- Which expressions are `unsigned`; the others that are words are `int`.
use Rattle.std.specs.Prelude.{ℕ, Bool, false, ◌||◌, nat_eq, if◌then◌else◌, List, [], ◌∷◌, slice_get}
use Rattle.xc_tree.specs.Plain as plain
use Rattle.xc_tree.specs.Symbols as symbols
use Rattle.xc_tree.specs.Names.Marks as marks
use Rattle.xc_tree.specs.Types.Named.{NamedProgram, what_at, past}
use Rattle.xc_tree.specs.Types.Entities.{word_is_unsigned, elements_are_unsigned}

-- whether a number is one of these
abbrev pub is_among : List ℕ → ℕ → Bool
is_among [] o = false
is_among (x ∷ xs) o = nat_eq x o || is_among xs o

-- the shifts
abbrev pub shifts : List ℕ
shifts = symbols.shift_up ∷ symbols.shift_down ∷ []

-- `! < > == != <= >= && ||`, which give the `int` 1 or 0
abbrev pub tests : List ℕ
tests =
    symbols.bang ∷ symbols.below ∷ symbols.above ∷ symbols.equals_equals ∷ symbols.bang_equals ∷ symbols.below_equals
    ∷ symbols.above_equals ∷ symbols.and_and ∷ symbols.or_or ∷ []

-- what an operator gives is `unsigned` where one of its operands is, but a test gives an `int`, and a shift what its left
-- operand is
abbrev pub gives_unsigned : (symbol : ℕ) → (first second : Bool) → Bool
gives_unsigned o a b = if is_among tests o then false else (if is_among shifts o then a else a || b)

abbrev mutual
  -- Whether an expression, before which the text has k names, is a word that is `unsigned`. `? :` has the type of its last two
  -- operands together: `unsigned` where one of them is.
  pub is_unsigned : NamedProgram → ℕ → plain.Expression → Bool
  is_unsigned n k (plain.expression f p) = form_is_unsigned n k f

  pub form_is_unsigned : NamedProgram → ℕ → plain.Form → Bool
  form_is_unsigned n k (plain.number v u) = u
  form_is_unsigned n k (plain.name t) = word_is_unsigned (what_at n (slice_get n.uses k))
  form_is_unsigned n k (plain.index t e) = elements_are_unsigned (what_at n (slice_get n.uses k))
  form_is_unsigned n k (plain.unary o a) = gives_unsigned o (is_unsigned n k a) false
  form_is_unsigned n k (plain.binary o a b) = gives_unsigned o (is_unsigned n k a) (is_unsigned n (past k (marks.of_expression a)) b)
  form_is_unsigned n k (plain.choice c a b) =
      is_unsigned n (past k (marks.of_expression c)) a
      || is_unsigned n (past (past k (marks.of_expression c)) (marks.of_expression a)) b
  form_is_unsigned n k (plain.cast u a) = u
