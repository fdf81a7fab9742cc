-- What a sink in memory holds, and what it answers.
use Rattle.std.specs.Prelude.{ℕ, List, Bool, true, false, ◌||◌, min, nat_eq, length}
use Rattle.xw_io.specs.Counting.{raised, is_among}
use Rattle.xw_io.specs.declared.sink.Put.{Put}
use Rattle.xw_io.specs.declared.sink.Put.TheVariants.{Took, Failed}
use Rattle.xw_io.specs.declared.memory_sink.MemSink.{MemSink}

-- the bytes that it took
abbrev pub bytes_of : MemSink → List ℕ
bytes_of sink = sink.taken.items

-- how many bytes it takes yet
abbrev pub room_of : MemSink → ℕ
room_of sink = sink.room

-- the numbers, from 1, of the puts that fail
abbrev pub fails_of : MemSink → List ℕ
fails_of sink = sink.fails

-- how many puts there were
abbrev pub calls_of : MemSink → ℕ
calls_of sink = sink.calls

-- how many puts failed
abbrev pub faults_of : MemSink → ℕ
faults_of sink = sink.faults

-- whether the next put fails: it is listed, or no room is left
abbrev pub is_next_to_fail : MemSink → Bool
is_next_to_fail sink = is_among sink.fails (raised sink.calls) || nat_eq sink.room 0

-- `answer_to`, by cases
abbrev pub answer_by : Bool → ℕ → ℕ → Put
answer_by true room len = Failed
answer_by false room len = Took (min len room)

-- the answer to the next put: a failure, or as many bytes as there is room for
abbrev pub answer_to : MemSink → List ℕ → Put
answer_to sink piece = answer_by (is_next_to_fail sink) sink.room (length piece)

-- how many bytes an answer says were taken
abbrev pub taken_by : Put → ℕ
taken_by (Took n) = n
taken_by Failed = 0
