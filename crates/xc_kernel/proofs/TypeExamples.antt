-- Types of expressions, and cores of places, that were worked out by hand.
use Rattle.std.specs.Prelude.{◌≡◌, ℕ, Bool, true, false, [], ◌∷◌, Some, None, refl, codes}
use Rattle.xc_tree.specs.Plain as tree
use Rattle.xc_kernel.specs.Plain as kernel
use Rattle.xc_kernel.specs.Numbering.{no_numbering}
use Rattle.xc_kernel.specs.Scopes.{Scope, a_word, an_array, a_constant, is_unsigned}
use Rattle.xc_kernel.specs.Expressions.{expression_in}
use Rattle.xc_kernel.specs.Ports.{core_of}
use Rattle.xc_kernel.proofs.Written.{at, number, name, index, unary, binary, choice, cast}

-- `int x`, `unsigned u`, `unsigned w[2]`, and the index i, which is 2
abbrev scope : Scope
scope =
    record { name = codes "x"; entity = a_word (1 ∷ []) false }
    ∷ record { name = codes "u"; entity = a_word (2 ∷ []) true }
    ∷ record { name = codes "w"; entity = an_array (3 ∷ []) 2 true }
    ∷ record { name = codes "i"; entity = a_constant 2 }
    ∷ []

abbrev x : tree.Expression
x = name (codes "x") 1 1

abbrev u : tree.Expression
u = name (codes "u") 1 2

abbrev i : tree.Expression
i = name (codes "i") 1 3

abbrev has_type : tree.Expression → Bool
has_type e = is_unsigned scope e

-- x + i is an `int`, x + u and w[i] are `unsigned`
of_ints : has_type (binary 15 x i 1 9) ≡ false
of_ints = refl

of_both : has_type (binary 15 x u 1 9) ≡ true
of_both = refl

of_element : has_type (index (codes "w") i 1 9) ≡ true
of_element = refl

-- a whole array is no word
of_array : has_type (name (codes "w") 1 9) ≡ false
of_array = refl

-- x << u is an `int`, and u >> x is `unsigned`
of_left_shift : has_type (binary 33 x u 1 9) ≡ false
of_left_shift = refl

of_right_shift : has_type (binary 34 u x 1 9) ≡ true
of_right_shift = refl

-- u < u, u && u and !u are `int`s, and ~u is `unsigned`
of_less : has_type (binary 20 u u 1 9) ≡ false
of_less = refl

of_and : has_type (binary 31 u u 1 9) ≡ false
of_and = refl

of_not : has_type (unary 14 u 1 9) ≡ false
of_not = refl

of_flipped : has_type (unary 13 u 1 9) ≡ true
of_flipped = refl

-- u ? x : i is an `int`, and x ? i : u is `unsigned`
of_choice : has_type (choice u x i 1 9) ≡ false
of_choice = refl

of_other_choice : has_type (choice x i u 1 9) ≡ true
of_other_choice = refl

-- (int) u
of_cast : has_type (cast false u 1 9) ≡ false
of_cast = refl

-- the operation of x < u is one on `unsigned` words, that of x << u is not
abbrev operation_of : tree.Form → kernel.Expression
operation_of form = expression_in no_numbering scope (tree.expression form (at 1 9))

less_is_unsigned : operation_of (tree.binary 20 i u) ≡ kernel.operation 20 true (kernel.operands (kernel.number 2 ∷ kernel.read (kernel.word 0) ∷ [])) (at 1 9)
less_is_unsigned = refl

shift_is_signed : operation_of (tree.binary 33 i u) ≡ kernel.operation 33 false (kernel.operands (kernel.number 2 ∷ kernel.read (kernel.word 0) ∷ [])) (at 1 9)
shift_is_signed = refl

-- (unsigned) i / i is an `unsigned` operation of the same words
cast_shows : operation_of (tree.binary 18 (cast true i 1 9) i) ≡ kernel.operation 18 true (kernel.operands (kernel.number 2 ∷ kernel.number 2 ∷ [])) (at 1 9)
cast_shows = refl

-- i ? i : u
choice_is_unsigned : operation_of (tree.choice i i u) ≡ kernel.operation 9 true (kernel.operands (kernel.number 2 ∷ kernel.number 2 ∷ kernel.read (kernel.word 0) ∷ [])) (at 1 9)
choice_is_unsigned = refl

-- the cores of `on tile[i + 1]`, `on tile[4]`, `on tile[1 - 2]`, and of what has no place
abbrev core_at : tree.Expression → ℕ
core_at e = core_of scope (Some (record { on = at 1 1; first = at 1 2; value = e }))

third_core : core_at (binary 15 i (number 1 false 1 1) 1 9) ≡ 3
third_core = refl

no_fourth_core : core_at (number 4 false 1 1) ≡ 255
no_fourth_core = refl

none_below_0 : core_at (binary 16 (number 1 false 1 1) (number 2 false 1 1) 1 9) ≡ 255
none_below_0 = refl

core_of_no_place : core_of scope None ≡ 0
core_of_no_place = refl
