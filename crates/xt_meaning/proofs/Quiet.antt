-- States in which nothing is left but to wait, and one in which something is.
use Rattle.std.specs.Prelude.{◌≡◌, zero, suc, Bool, true, false, List, [], ◌∷◌, ◌++◌, Option, Some, None, is_some, IsSome, IsTrue, unwrap_or, refl}
use Rattle.xc_tree.specs.Plain as tree
use Rattle.xc_kernel.specs.Plain as kernel
use Rattle.xc_kernel.specs.Copies.{copy_of}
use Rattle.xc_meaning.specs.States.Worlds.{World, Action, clock, go, take, default}
use Rattle.xc_meaning.specs.Runs.{acts, kernel_start, program_start, kernel_run, program_run}
use Rattle.xc_meaning.specs.Quiet.{is_idle, IsQuiet}
use Rattle.xt_meaning.proofs.Programs.{word_too_many, both_input, both_err, partner_errs, slave_errs, master_errs, both_output, child_errs}
use Rattle.xt_meaning.proofs.Running.{no_stimulus, steps, Part, advance, step, parts_done}

-- where a run of a program's kernel leads, and one of its text
abbrev led : List tree.Item → List Action → World
led P ms = unwrap_or (kernel_run (copy_of P) no_stimulus ms) (kernel_start (copy_of P))

abbrev text_led : List tree.Item → List Action → World
text_led P ms = unwrap_or (program_run P no_stimulus ms) (program_start P)

-- main waits for its branches, and each of these for the other
both_wait : IsQuiet (copy_of both_input) no_stimulus (led both_input (steps 5 0))
unfolding copy_of
both_wait = record { idle = idle }
  where
    idle : (m : Action) → IsSome (acts (copy_of both_input) no_stimulus (led both_input (steps 5 0)) m) → IsTrue (is_idle (led both_input (steps 5 0)) m)
    idle (clock c) h = refl
    idle (go zero) h = h
    idle (go (suc zero)) h = h
    idle (go (suc (suc zero))) h = h
    idle (go (suc (suc (suc b)))) h = h
    idle (take zero n) h = h
    idle (take (suc zero) n) h = h
    idle (take (suc (suc zero)) n) h = h
    idle (take (suc (suc (suc b))) n) h = h
    idle (default zero) h = h
    idle (default (suc zero)) h = h
    idle (default (suc (suc zero))) h = h
    idle (default (suc (suc (suc b)))) h = h

-- the same of the text
both_wait_in_text : IsQuiet (copy_of both_input) no_stimulus (text_led both_input (steps 6 0))
unfolding copy_of
both_wait_in_text = record { idle = idle }
  where
    idle : (m : Action) → IsSome (acts (copy_of both_input) no_stimulus (text_led both_input (steps 6 0)) m) → IsTrue (is_idle (text_led both_input (steps 6 0)) m)
    idle (clock c) h = refl
    idle (go zero) h = h
    idle (go (suc zero)) h = h
    idle (go (suc (suc zero))) h = h
    idle (go (suc (suc (suc b)))) h = h
    idle (take zero n) h = h
    idle (take (suc zero) n) h = h
    idle (take (suc (suc zero)) n) h = h
    idle (take (suc (suc (suc b))) n) h = h
    idle (default zero) h = h
    idle (default (suc zero)) h = h
    idle (default (suc (suc zero))) h = h
    idle (default (suc (suc (suc b)))) h = h

-- The slave has erred, and the master stands before the end of its transaction: it could put its closing, and no one would
-- answer it.
abbrev after_mismatch : List Action
after_mismatch = steps 3 0 ++ steps 2 1 ++ steps 3 2 ++ steps 3 1 ++ steps 2 2 ++ steps 1 1 ++ steps 3 2

slave_lost : IsQuiet (copy_of word_too_many) no_stimulus (led word_too_many after_mismatch)
unfolding copy_of
slave_lost = record { idle = idle }
  where
    idle : (m : Action) → IsSome (acts (copy_of word_too_many) no_stimulus (led word_too_many after_mismatch) m) → IsTrue (is_idle (led word_too_many after_mismatch) m)
    idle (clock c) h = refl
    idle (go zero) h = h
    idle (go (suc zero)) h = refl
    idle (go (suc (suc zero))) h = h
    idle (go (suc (suc (suc b)))) h = h
    idle (take zero n) h = h
    idle (take (suc zero) n) h = h
    idle (take (suc (suc zero)) n) h = h
    idle (take (suc (suc (suc b))) n) h = h
    idle (default zero) h = h
    idle (default (suc zero)) h = h
    idle (default (suc (suc zero))) h = h
    idle (default (suc (suc (suc b)))) h = h

closing_possible : IsSome (acts (copy_of word_too_many) no_stimulus (led word_too_many after_mismatch) (go 1))
unfolding copy_of
closing_possible = refl

-- at the start main has something to do
starts : is_idle (kernel_start (copy_of both_input)) (go 0) ≡ false
unfolding copy_of
starts = refl

-- whether a step isn't possible, leaves a state quiet, or doesn't
data Sort : Type 0 where
  impossible_now : Sort
  idle : Sort
  busy : Sort

abbrev sort_by : (is_possible leaves_quiet : Bool) → Sort
sort_by false leaves_quiet = impossible_now
sort_by true false = busy
sort_by true true = idle

abbrev sort_of : kernel.Kernel → Action → Option World → Sort
sort_of K m None = impossible_now
sort_of K m (Some x) = sort_by (is_some (acts K no_stimulus x m)) (is_idle x m)

-- the same behind these parts of a run, of a program's text and of its kernel
record Sorts : Type 0 where
  of_text : Sort
  of_kernel : Sort

abbrev sorts_of : List tree.Item → List Part → Action → Sorts
sorts_of P parts m = record {
  of_text = sort_of (copy_of P) m (parts_done (copy_of P) no_stimulus (Some (program_start P)) parts);
  of_kernel = sort_of (copy_of P) m (parts_done (copy_of P) no_stimulus (Some (kernel_start (copy_of P))) parts);
}

abbrev both : Sort → Sorts
both sort = record { of_text = sort; of_kernel = sort }

-- an output is idle once the other side has erred
output_kept : sorts_of partner_errs (advance 0 ∷ []) (go 1) ≡ both busy
unfolding copy_of
output_kept = refl

output_lost : sorts_of partner_errs (advance 0 ∷ advance 2 ∷ []) (go 1) ≡ both idle
unfolding copy_of
output_lost = refl

-- but not where its value is an error, since that step is not on the channel
value_wrong : sorts_of both_err (advance 0 ∷ advance 2 ∷ []) (go 1) ≡ both busy
unfolding copy_of
value_wrong = refl

-- so is the start of a transaction
start_lost : sorts_of slave_errs (advance 0 ∷ advance 2 ∷ []) (go 1) ≡ both idle
unfolding copy_of
start_lost = refl

-- an input, though a word is there
input_lost : sorts_of master_errs (advance 0 ∷ advance 2 ∷ advance 1 ∷ advance 2 ∷ []) (go 1) ≡ both idle
unfolding copy_of
input_lost = refl

-- the mismatch of what was awaited
answer_lost : sorts_of both_output (advance 0 ∷ advance 1 ∷ advance 2 ∷ []) (go 1) ≡ both idle
unfolding copy_of
answer_lost = refl

-- the taking of a case, and the case's input, where a branch that the other side made has erred
case_kept : sorts_of child_errs (advance 0 ∷ advance 1 ∷ advance 2 ∷ advance 3 ∷ []) (take 1 0) ≡ both busy
unfolding copy_of
case_kept = refl

case_lost : sorts_of child_errs (advance 0 ∷ advance 1 ∷ advance 2 ∷ advance 3 ∷ advance 4 ∷ []) (take 1 0) ≡ both idle
unfolding copy_of
case_lost = refl

case_input_lost : sorts_of child_errs (advance 0 ∷ advance 1 ∷ advance 2 ∷ advance 3 ∷ advance 4 ∷ step (take 1 0) ∷ []) (go 1) ≡ both idle
unfolding copy_of
case_input_lost = refl

-- the branch that erred does nothing more
erred_done : sorts_of child_errs (advance 0 ∷ advance 1 ∷ advance 2 ∷ advance 3 ∷ advance 4 ∷ []) (go 4) ≡ both impossible_now
unfolding copy_of
erred_done = refl
