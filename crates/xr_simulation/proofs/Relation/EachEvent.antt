-- Each event of the machine is followed by a piece of the program's run, and the two stand as before.
use Rattle.std.proofs.Common.{◌≡◌, Some}
use Rattle.xs_instr.specs.Machine.{Event, Machine, does}
use Rattle.xr_match.specs.Lives.{Watched, watched_after}
use Rattle.xr_match.specs.Meanings.{of_kernel}
use Rattle.xr_match.specs.Sources.{Counted}
use Rattle.xr_simulation.specs.Images.{IsImageOf}
use Rattle.xr_simulation.specs.Roles.{Roles}
use Rattle.xr_simulation.specs.Runners.{Setting}
use Rattle.xr_simulation.specs.MatchStates.{MatchStates, none_rests}
use Rattle.xr_simulation.proofs.OwnSteps.EachTurn.{event_answered}
use Rattle.xr_simulation.proofs.Relation.Moments.{moment_of}
use Rattle.xr_simulation.proofs.Settling.All.{settles_behind}
use Rattle.xr_simulation.proofs.Relation.Lasting.{Follows}

-- the event's own piece, and then what its threads do without an instruction
pub event_followed : (g : Setting) (first : Roles) (is : IsImageOf g first) (who : Roles) (w : Watched) (m : Machine) (x : Counted (of_kernel g.program)) (st : MatchStates g none_rests who w x) (event : Event) → does g.image g.stimulus w.machine event ≡ Some m → Follows g none_rests who w x (watched_after w event m)
event_followed g first is who w m x st event h =
    let answer = event_answered (moment_of g first is who w x st) m event h in
    settles_behind g first is (watched_after w event m) who w answer.may_rest x answer.core answer.there answer.elsewhere answer.follows
