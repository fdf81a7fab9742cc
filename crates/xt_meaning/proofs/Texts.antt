-- Runs of the texts of small programs, and lists of steps that are none.
use Rattle.std.specs.Prelude.{◌≡◌, replicate, List, [], ◌∷◌, ◌++◌, None, refl}
use Rattle.xw_words.specs.Tables.{place_from}
use Rattle.xw_words.specs.Ports.{identifiers}
use Rattle.xs_instr.specs.declared.trace.Trap.TheVariants.{Arithmetic, Index, Mismatch}
use Rattle.xs_instr.specs.declared.trace.Record.TheVariants.{Com, PortOut, PortIn, Fault}
use Rattle.xc_kernel.specs.Copies.{copy_of}
use Rattle.xc_kernel.proofs.Written.{at}
use Rattle.xc_meaning.specs.States.Worlds.{Action, clock, take, default}
use Rattle.xt_meaning.proofs.Programs.{timed_output, hand_over, conditional_input, timer_case, guard_off, divided, out_of_range, word_too_many, two_cores}
use Rattle.xt_meaning.proofs.Running.{no_stimulus, pulse, steps, wait, program_seen, going, finished}

-- the result and the body; then the output, the `return`, the mark and the end
timed : program_seen timed_output no_stimulus (steps 2 0 ++ wait 100 ++ steps 4 0) ≡ finished (PortOut 0 0 100 1 ∷ [])
unfolding copy_of identifiers place_from
timed = refl

timed_early : program_seen timed_output no_stimulus (steps 2 0 ++ wait 99 ++ steps 1 0) ≡ None
unfolding copy_of
timed_early = refl

-- the input waits for its pins
pulsed : program_seen conditional_input pulse (steps 4 0 ++ wait 500 ++ steps 6 0) ≡ finished (PortIn 0 1 500 1 ∷ [])
unfolding copy_of identifiers place_from
pulsed = refl

-- the result, the body, two names and the `par`; the hand over; the timed output, the `return`, the mark and the end
abbrev handed : List Action
handed = steps 5 0 ++ steps 1 1 ++ steps 1 2 ++ steps 2 1 ++ steps 2 2 ++ steps 1 0

handed_over : program_seen hand_over no_stimulus (handed ++ wait 30000 ++ steps 4 0) ≡ finished (Com 0 7 ∷ PortOut 0 22 30000 7 ∷ [])
unfolding copy_of identifiers place_from
handed_over = refl

handed_ahead : program_seen hand_over no_stimulus (steps 5 0 ++ steps 2 1) ≡ None
unfolding copy_of
handed_ahead = refl

-- each branch calls a function: the call, its parameter, its body and the names; then the first turn
abbrev to_select : List Action
to_select = steps 4 0 ++ steps 4 1 ++ steps 9 2

abbrev by_timer : List Action
by_timer = wait 2001 ++ take 2 1 ∷ [] ++ steps 2 2 ++ wait 2999 ++ steps 7 2

abbrev by_channel : List Action
by_channel = wait 4001 ++ steps 2 1 ++ take 2 0 ∷ [] ++ steps 10 2 ++ steps 3 1 ++ steps 4 0

timer_then_channel : program_seen timer_case no_stimulus (to_select ++ by_timer ++ by_channel) ≡ finished (PortOut 0 0 5000 1 ∷ Com 0 4 ∷ [])
unfolding copy_of identifiers place_from
timer_then_channel = refl

timer_early : program_seen timer_case no_stimulus (to_select ++ wait 2000 ++ take 2 1 ∷ []) ≡ None
unfolding copy_of
timer_early = refl

-- the result, the body, two names and the assignment
quotient : program_seen divided no_stimulus (steps 5 0) ≡ going (Fault 0 (at 3 9) Arithmetic ∷ [])
unfolding copy_of
quotient = refl

quotient_on : program_seen divided no_stimulus (steps 6 0) ≡ None
unfolding copy_of
quotient_on = refl

-- the default, though the offer is there
guarded : program_seen guard_off no_stimulus (steps 4 0 ++ steps 1 1 ++ steps 5 2 ++ default 2 ∷ [] ++ wait 5000 ++ steps 7 2 ++ steps 2 1 ++ steps 4 0)
    ≡ finished (PortOut 0 0 5000 1 ∷ Com 0 3 ∷ [])
unfolding copy_of identifiers place_from
guarded = refl

-- an index out of range; the other branch goes on
index_error : program_seen out_of_range no_stimulus (steps 5 0 ++ steps 1 1 ++ wait 40000 ++ steps 2 2) ≡ going (Fault 0 (at 5 5) Index ∷ PortOut 0 0 40000 1 ∷ [])
unfolding copy_of identifiers place_from
index_error = refl

-- both sides begin, and two words are put; a third one isn't put while two are unread
abbrev two_words : List Action
two_words = steps 4 0 ++ steps 4 1 ++ steps 5 2 ++ steps 3 1

third_word : program_seen word_too_many no_stimulus (two_words ++ steps 1 1) ≡ None
unfolding copy_of
third_word = refl

too_many : program_seen word_too_many no_stimulus (two_words ++ steps 2 2 ++ steps 1 1 ++ steps 3 2)
    ≡ going (Com 0 1 ∷ Com 0 2 ∷ Fault 0 (at 6 3) Mismatch ∷ [])
unfolding copy_of
too_many = refl

-- roots on two cores: each calls a function
apart : program_seen two_cores no_stimulus (steps 4 0 ++ steps 7 1 ++ replicate 700 (clock 1) ++ steps 3 1 ++ steps 3 0) ≡ finished (Com 1 20 ∷ PortOut 1 16 700 4 ∷ [])
unfolding copy_of identifiers place_from
apart = refl
