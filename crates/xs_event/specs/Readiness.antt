-- Ready resources, as bits.
use Rattle.std.specs.Prelude.{ℕ, ◌/◌, ◌%◌, ◌^◌, Bool, nat_eq}
use Rattle.xs_event.specs.declared.ready.Ready.{Ready}
use Rattle.xs_instr.specs.Events.{Readiness}

-- whether bit n of a word is set
abbrev pub is_set : ℕ → ℕ → Bool
is_set word n = nat_eq (word / 2 ^ n % 2) 1

-- resource n of a kind is ready where its bit n is set
abbrev pub readiness_of : Ready → Readiness
readiness_of ready = record { ports = is_set ready.ports; timers = is_set ready.timers; ends = is_set ready.ends }
