-- Words and errors of expressions that were worked out by hand.
use Rattle.std.specs.Prelude.{◌≡◌, ℕ, ◌-◌, ◌^◌, true, false, [], ◌∷◌, refl}
use Rattle.xc_kernel.specs.Plain as kernel
use Rattle.xc_kernel.specs.Values.{Value, word, error, arithmetic, index}
use Rattle.xc_kernel.specs.Eval.{Store, eval}
use Rattle.xc_kernel.proofs.Written.{at, word_in, on_two}

-- variable 0 is the word 10, and variable 1 an array of three words
abbrev store : Store
store = (10 ∷ []) ∷ (4 ∷ 5 ∷ 6 ∷ []) ∷ []

abbrev num : ℕ → kernel.Expression
num v = kernel.number v

abbrev element : kernel.Expression → kernel.Expression
element i = kernel.read (kernel.element 1 i (at 1 1))

-- an operation at 2:2, of `int` or `unsigned` words
abbrev of_int : (symbol : ℕ) → kernel.Expression → kernel.Expression → kernel.Expression
of_int o a b = on_two o false a b 2 2

abbrev of_unsigned : (symbol : ℕ) → kernel.Expression → kernel.Expression → kernel.Expression
of_unsigned o a b = on_two o true a b 2 2

abbrev choice : kernel.Expression → kernel.Expression → kernel.Expression → kernel.Expression
choice c a b = kernel.operation 9 false (kernel.operands (c ∷ a ∷ b ∷ [])) (at 3 3)

abbrev evals : kernel.Expression → Value
evals e = eval store e

abbrev least : ℕ
least = 2 ^ 31

abbrev minus_one : ℕ
minus_one = 2 ^ 32 - 1

-- a[2], and a[3] is an error at the array's name
last_element : evals (element (num 2)) ≡ word 6
last_element = refl

behind_the_last : evals (element (num 3)) ≡ error index (at 1 1)
behind_the_last = refl

-- the test of an index gives the index or the error at its own place
test_passes : evals (of_unsigned 4 (num 2) (num 3)) ≡ word 2
test_passes = refl

test_fails : evals (of_unsigned 4 (num minus_one) (num 3)) ≡ error index (at 2 2)
test_fails = refl

-- - 7 / 2 and - 7 % 2 of `int` words, and of the same words as `unsigned` ones
quotient : evals (of_int 18 (num (2 ^ 32 - 7)) (num 2)) ≡ word (2 ^ 32 - 3)
quotient = refl

remainder : evals (of_int 19 (num (2 ^ 32 - 7)) (num 2)) ≡ word minus_one
remainder = refl

unsigned_quotient : evals (of_unsigned 18 (num (2 ^ 32 - 7)) (num 2)) ≡ word (2 ^ 31 - 4)
unsigned_quotient = refl

by_zero : evals (of_int 19 (word_in 0) (num 0)) ≡ error arithmetic (at 2 2)
by_zero = refl

least_by_minus_one : evals (of_int 18 (num least) (num minus_one)) ≡ error arithmetic (at 2 2)
least_by_minus_one = refl

unsigned_least : evals (of_unsigned 18 (num least) (num minus_one)) ≡ word 0
unsigned_least = refl

-- - 1 < 1, but not as `unsigned` words
less : evals (of_int 20 (num minus_one) (num 1)) ≡ word 1
less = refl

unsigned_less : evals (of_unsigned 20 (num minus_one) (num 1)) ≡ word 0
unsigned_less = refl

-- shifts by 32 or more
all_sign_bits : evals (of_int 34 (num least) (num 40)) ≡ word minus_one
all_sign_bits = refl

no_bits : evals (of_unsigned 34 (num least) (num 32)) ≡ word 0
no_bits = refl

-- `&&` and `||` look at their second operand only where they need it, and give 1 or 0
and_stops : evals (of_int 31 (num 0) (element (num 3))) ≡ word 0
and_stops = refl

and_goes_on : evals (of_int 31 (num 4) (num 8)) ≡ word 1
and_goes_on = refl

or_stops : evals (of_int 32 (num 5) (element (num 3))) ≡ word 1
or_stops = refl

or_goes_on : evals (of_int 32 (num 0) (element (num 3))) ≡ error index (at 1 1)
or_goes_on = refl

-- `? :` looks at one of its two
choice_of_second : evals (choice (num 7) (word_in 0) (element (num 3))) ≡ word 10
choice_of_second = refl

-- the first error counts, in the index of an element too
first_error : evals (of_int 15 (element (of_int 18 (num 1) (num 0))) (element (num 3))) ≡ error arithmetic (at 2 2)
first_error = refl
