-- What a sink of the system counts.
use Rattle.std.specs.Prelude.{ℕ}
use Rattle.xw_io.specs.declared.real_sink.StdSink.{StdSink}

-- how many puts failed
abbrev pub faults_of : {W : Type 0} → StdSink W → ℕ
faults_of sink = sink.faults
