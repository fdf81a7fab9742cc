use Rattle.std.proofs.Common.{◌≡◌, length, Some}
use Rattle.std.specs.List.{list_any}
use Rattle.xf_time.proofs.timing.has_instr_at.Given as goal
use Rattle.xf_time.specs.Routes.{is_place}

-- none of those that were passed is there
abbrev pub invariant-each : goal.invariant-each
invariant-each l =
    list_any (λ pos. is_place (Some pos) l.fn.place) l.rest ≡ list_any (λ pos. is_place (Some pos) l.fn.place) l.fn.code.«at»

abbrev pub decreases-each : goal.decreases-each
decreases-each l = length l.rest
