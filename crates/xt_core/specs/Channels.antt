-- The channels of the cores that are tried.
use Rattle.xs_instr.specs.declared.image.Pair.{Pair}

-- ends 0 and 1 of core 0
abbrev pub within : Pair
within = record { core = 0; end = 0; peer_core = 0; peer_end = 1 }

-- end 2 of core 0, and end 0 of core 1
abbrev pub across : Pair
across = record { core = 0; end = 2; peer_core = 1; peer_end = 0 }
