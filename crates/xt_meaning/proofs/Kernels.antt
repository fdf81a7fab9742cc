-- Runs of the kernels of small programs, and lists of steps that are none.
use Rattle.std.specs.Prelude.{◌≡◌, replicate, List, [], ◌∷◌, ◌++◌, None, refl}
use Rattle.xw_words.specs.Tables.{place_from}
use Rattle.xw_words.specs.Ports.{identifiers}
use Rattle.xs_instr.specs.declared.trace.Trap.TheVariants.{Arithmetic, Index, Mismatch}
use Rattle.xs_instr.specs.declared.trace.Record.TheVariants.{Com, PortOut, PortIn, Fault}
use Rattle.xc_kernel.specs.Copies.{copy_of}
use Rattle.xc_kernel.proofs.Written.{at}
use Rattle.xc_meaning.specs.States.Worlds.{Action, clock, take, default}
use Rattle.xt_meaning.proofs.Programs.{timed_output, hand_over, conditional_input, timer_case, guard_off, divided, out_of_range, word_too_many, agreed, two_cores, sampled}
use Rattle.xt_meaning.proofs.Running.{no_stimulus, pulse, short_pulse, steps, wait, kernel_seen, going, finished}

-- a timed output: the result becomes 0, the block begins, and behind the output come the result, the block's end and the end
timed : kernel_seen timed_output no_stimulus (steps 2 0 ++ wait 100 ++ steps 5 0) ≡ finished (PortOut 0 0 100 1 ∷ [])
unfolding copy_of identifiers place_from
timed = refl

-- not a tick earlier or later
timed_early : kernel_seen timed_output no_stimulus (steps 2 0 ++ wait 99 ++ steps 1 0) ≡ None
unfolding copy_of
timed_early = refl

timed_late : kernel_seen timed_output no_stimulus (steps 2 0 ++ wait 101 ++ steps 1 0) ≡ None
unfolding copy_of
timed_late = refl

-- a word is handed over: the offer, its taking with the answer, the rest of both branches, and the join
abbrev handed : List Action
handed = steps 4 0 ++ steps 1 1 ++ steps 1 2 ++ steps 2 1 ++ steps 2 2 ++ steps 1 0

handed_over : kernel_seen hand_over no_stimulus (handed ++ wait 30000 ++ steps 5 0) ≡ finished (Com 0 7 ∷ PortOut 0 22 30000 7 ∷ [])
unfolding copy_of identifiers place_from
handed_over = refl

-- an output doesn't go on before its input, nor an input before its output, nor the `par` before both
handed_ahead : kernel_seen hand_over no_stimulus (steps 4 0 ++ steps 2 1) ≡ None
unfolding copy_of
handed_ahead = refl

handed_empty : kernel_seen hand_over no_stimulus (steps 4 0 ++ steps 1 2) ≡ None
unfolding copy_of
handed_empty = refl

handed_join : kernel_seen hand_over no_stimulus (steps 4 0 ++ steps 1 1 ++ steps 1 2 ++ steps 2 1 ++ steps 1 2 ++ steps 1 0) ≡ None
unfolding copy_of
handed_join = refl

-- an input waits for its pins
pulsed : kernel_seen conditional_input pulse (steps 4 0 ++ wait 500 ++ steps 7 0) ≡ finished (PortIn 0 1 500 1 ∷ [])
unfolding copy_of identifiers place_from
pulsed = refl

pulsed_early : kernel_seen conditional_input pulse (steps 4 0 ++ wait 499 ++ steps 1 0) ≡ None
unfolding copy_of identifiers place_from
pulsed_early = refl

-- a timer's case, the next turn's select, and then the channel's case
abbrev to_select : List Action
to_select = steps 3 0 ++ steps 1 1 ++ steps 7 2

abbrev by_timer : List Action
by_timer = wait 2001 ++ take 2 1 ∷ [] ++ steps 2 2 ++ wait 2999 ++ steps 7 2

abbrev by_channel : List Action
by_channel = wait 4001 ++ steps 2 1 ++ take 2 0 ∷ [] ++ steps 10 2 ++ steps 3 1 ++ steps 5 0

timer_then_channel : kernel_seen timer_case no_stimulus (to_select ++ by_timer ++ by_channel) ≡ finished (PortOut 0 0 5000 1 ∷ Com 0 4 ∷ [])
unfolding copy_of identifiers place_from
timer_then_channel = refl

-- neither before its time, nor before something has arrived
timer_early : kernel_seen timer_case no_stimulus (to_select ++ wait 2000 ++ take 2 1 ∷ []) ≡ None
unfolding copy_of
timer_early = refl

channel_early : kernel_seen timer_case no_stimulus (to_select ++ take 2 0 ∷ []) ≡ None
unfolding copy_of
channel_early = refl

-- in the second turn the timer's guard doesn't hold
timer_again : kernel_seen timer_case no_stimulus (to_select ++ by_timer ++ take 2 1 ∷ []) ≡ None
unfolding copy_of
timer_again = refl

-- a case whose guard is off isn't taken, though its offer is there: the default is
abbrev offered : List Action
offered = steps 3 0 ++ steps 1 1 ++ steps 3 2

guarded : kernel_seen guard_off no_stimulus (offered ++ default 2 ∷ [] ++ wait 5000 ++ steps 6 2 ++ steps 2 1) ≡ going (PortOut 0 0 5000 1 ∷ Com 0 3 ∷ [])
unfolding copy_of identifiers place_from
guarded = refl

guarded_ended : kernel_seen guard_off no_stimulus (offered ++ default 2 ∷ [] ++ wait 5000 ++ steps 7 2 ++ steps 2 1 ++ steps 5 0) ≡ finished (PortOut 0 0 5000 1 ∷ Com 0 3 ∷ [])
unfolding copy_of identifiers place_from
guarded_ended = refl

guarded_taken : kernel_seen guard_off no_stimulus (offered ++ take 2 0 ∷ []) ≡ None
unfolding copy_of
guarded_taken = refl

-- a quotient that is no word, and nothing more
quotient : kernel_seen divided no_stimulus (steps 5 0) ≡ going (Fault 0 (at 3 9) Arithmetic ∷ [])
unfolding copy_of
quotient = refl

quotient_on : kernel_seen divided no_stimulus (steps 6 0) ≡ None
unfolding copy_of
quotient_on = refl

-- an index out of range; the other branch goes on, and the `par` waits for ever
abbrev erred : List Action
erred = steps 5 0 ++ steps 1 1

index_error : kernel_seen out_of_range no_stimulus (erred ++ wait 40000 ++ steps 2 2) ≡ going (Fault 0 (at 5 5) Index ∷ PortOut 0 0 40000 1 ∷ [])
unfolding copy_of identifiers place_from
index_error = refl

index_join : kernel_seen out_of_range no_stimulus (erred ++ wait 40000 ++ steps 2 2 ++ steps 1 0) ≡ None
unfolding copy_of
index_join = refl

-- Both sides begin, and two words are put. A third one isn't put while two are unread.
abbrev two_words : List Action
two_words = steps 3 0 ++ steps 2 1 ++ steps 3 2 ++ steps 3 1

third_word : kernel_seen word_too_many no_stimulus (two_words ++ steps 1 1) ≡ None
unfolding copy_of
third_word = refl

too_many : kernel_seen word_too_many no_stimulus (two_words ++ steps 2 2 ++ steps 1 1 ++ steps 3 2)
    ≡ going (Com 0 1 ∷ Com 0 2 ∷ Fault 0 (at 6 3) Mismatch ∷ [])
unfolding copy_of
too_many = refl

-- the closing isn't put while two words are unread, and then both sides end
agreeing : kernel_seen agreed no_stimulus (two_words ++ steps 2 2 ++ steps 1 1 ++ steps 3 2 ++ steps 3 1 ++ steps 2 2 ++ steps 5 0) ≡ finished (Com 0 1 ∷ Com 0 2 ∷ [])
unfolding copy_of
agreeing = refl

closing_waits : kernel_seen agreed no_stimulus (two_words ++ steps 1 1) ≡ None
unfolding copy_of
closing_waits = refl

-- roots on two cores, each by its own clock
apart : kernel_seen two_cores no_stimulus (steps 2 0 ++ steps 4 1 ++ replicate 700 (clock 1) ++ steps 3 1 ++ steps 3 0) ≡ finished (Com 1 20 ∷ PortOut 1 16 700 4 ∷ [])
unfolding copy_of identifiers place_from
apart = refl

other_clock : kernel_seen two_cores no_stimulus (steps 2 0 ++ steps 4 1 ++ replicate 700 (clock 0) ++ steps 1 1) ≡ None
unfolding copy_of
other_clock = refl

-- a select's case takes its value and counter when it is taken, and its record comes later
sampled_then : kernel_seen sampled short_pulse (steps 5 0 ++ wait 500 ++ take 0 0 ∷ [] ++ wait 10 ++ steps 9 0) ≡ finished (PortIn 0 1 500 1 ∷ [])
unfolding copy_of identifiers place_from
sampled_then = refl

sampled_early : kernel_seen sampled short_pulse (steps 5 0 ++ wait 499 ++ take 0 0 ∷ []) ≡ None
unfolding copy_of identifiers place_from
sampled_early = refl

sampled_late : kernel_seen sampled short_pulse (steps 5 0 ++ wait 501 ++ take 0 0 ∷ []) ≡ None
unfolding copy_of identifiers place_from
sampled_late = refl
