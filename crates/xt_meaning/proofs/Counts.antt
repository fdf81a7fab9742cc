-- The counts of small programs, and the steps of families.
use Rattle.std.specs.Prelude.{◌≡◌, ℕ, List, [], ◌∷◌, ◌++◌, Option, Some, None, option_map, refl}
use Rattle.xc_kernel.specs.Copies.{copy_of}
use Rattle.xc_meaning.specs.States.Worlds.{World, Action, take, default}
use Rattle.xc_meaning.specs.Runs.{kernel_start, kernel_run}
use Rattle.xc_meaning.specs.Counts.Families.{steps_of, child_family}
use Rattle.xc_meaning.specs.Counts.KernelCounts.{greatest_count, kernel_bound}
use Rattle.xc_meaning.specs.Counts.TextCounts.{twice_greatest, program_bound}
use Rattle.xt_meaning.proofs.Programs.{timed_output, hand_over, conditional_input, agreed, out_of_range, timer_case, guard_off, divided, three_pars, four_parameters, three_words, held_array, long_test, inner_elements}
use Rattle.xt_meaning.proofs.Running.{no_stimulus, steps, wait}

-- the output counts 2, a time and a value, as does the assignment of the result
timed_count : greatest_count (copy_of timed_output) ≡ 2
unfolding copy_of
timed_count = refl

timed_bound : kernel_bound (copy_of timed_output) ≡ 144
unfolding copy_of
timed_bound = refl

-- ten words become 0
array_count : greatest_count (copy_of out_of_range) ≡ 10
unfolding copy_of
array_count = refl

-- a quotient of two reads, stored at a place
divided_count : greatest_count (copy_of divided) ≡ 4
unfolding copy_of
divided_count = refl

-- two cases, with a guard of three nodes, a place and a condition
select_count : greatest_count (copy_of timer_case) ≡ 7
unfolding copy_of
select_count = refl

-- a condition, a destination and a stamp
input_count : greatest_count (copy_of conditional_input) ≡ 3
unfolding copy_of
input_count = refl

-- a transaction counts nothing, and what it holds counts by itself: two branches are the most
transaction_count : greatest_count (copy_of agreed) ≡ 2
unfolding copy_of
transaction_count = refl

-- three branches
branch_count : greatest_count (copy_of three_pars) ≡ 3
unfolding copy_of
branch_count = refl

-- the test has seven nodes
test_count : greatest_count (copy_of long_test) ≡ 7
unfolding copy_of
test_count = refl

-- a place of three nodes, and a read of three
element_count : greatest_count (copy_of inner_elements) ≡ 6
unfolding copy_of
element_count = refl

-- nine words become 0 in the default of a select in a branch
held_count : greatest_count (copy_of held_array) ≡ 9
unfolding copy_of
held_count = refl

-- `p @ 100 <: 1 ;` has six tokens
timed_twice : twice_greatest timed_output ≡ 12
timed_twice = refl

timed_program_bound : program_bound timed_output ≡ 1280
timed_program_bound = refl

-- `int a [ 10 ] ;` has six tokens and ten words
array_twice : twice_greatest out_of_range ≡ 32
array_twice = refl

-- `int x = 1 , y , z ;` has nine tokens and two words that become 0
words_twice : twice_greatest three_words ≡ 22
words_twice = refl

-- `int a [ 9 ] ;`, six tokens and nine words, is held by a select in a branch
held_twice : twice_greatest held_array ≡ 30
held_twice = refl

-- `while ( x + 1 < 3 - x )` has ten tokens
test_twice : twice_greatest long_test ≡ 20
test_twice = refl

-- the head `void f ( int u , int v , int w , int z )` has fifteen tokens, and its call eleven
head_twice : twice_greatest four_parameters ≡ 30
head_twice = refl

-- in the kernel main does four steps and its `par`'s first branch one; the second branch, with the number 2, begins a family
main_steps : steps_of (copy_of hand_over) no_stimulus 0 (Some (kernel_start (copy_of hand_over))) (steps 4 0 ++ steps 1 1 ++ steps 1 2) ≡ 5
unfolding copy_of
main_steps = refl

second_steps : steps_of (copy_of hand_over) no_stimulus 2 (Some (kernel_start (copy_of hand_over))) (steps 4 0 ++ steps 1 1 ++ steps 1 2) ≡ 1
unfolding copy_of
second_steps = refl

-- the taking of a case and that of a default count too
case_steps : steps_of (copy_of timer_case) no_stimulus 2 (Some (kernel_start (copy_of timer_case))) (steps 3 0 ++ steps 1 1 ++ steps 7 2 ++ wait 2001 ++ take 2 1 ∷ steps 2 2) ≡ 10
unfolding copy_of
case_steps = refl

default_steps : steps_of (copy_of guard_off) no_stimulus 2 (Some (kernel_start (copy_of guard_off))) (steps 3 0 ++ steps 1 1 ++ steps 3 2 ++ default 2 ∷ []) ≡ 4
unfolding copy_of
default_steps = refl

abbrev second_child : World → Option ℕ
second_child x = child_family x 0 0 1

second_family : option_map second_child (kernel_run (copy_of hand_over) no_stimulus (steps 4 0)) ≡ Some (Some 2)
unfolding copy_of
second_family = refl

-- The `par`s of two and of three branches count, the one between them doesn't: its branch has the number 3.
abbrev to_last_par : List Action
to_last_par = steps 3 0 ++ steps 1 1 ++ steps 1 2 ++ steps 2 0 ++ steps 1 3 ++ steps 2 0

abbrev children : World → List (Option ℕ)
children x = child_family x 0 0 1 ∷ child_family x 0 0 2 ∷ child_family x 0 1 1 ∷ child_family x 0 1 2 ∷ child_family x 0 2 1 ∷ []

child_families : option_map children (kernel_run (copy_of three_pars) no_stimulus to_last_par) ≡ Some (Some 2 ∷ None ∷ Some 5 ∷ Some 6 ∷ None ∷ [])
unfolding copy_of
child_families = refl
