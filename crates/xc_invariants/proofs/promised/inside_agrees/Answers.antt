use Rattle.xc_invariants.proofs.Agreed.{erred_alone_holds, inside_agrees, inside_stays}
use Rattle.xc_invariants.proofs.Ended.{ends_once_holds, end_leaves_none, held_outside}
use Rattle.xc_invariants.proofs.promised.inside_agrees.Goals as goal

pub returns : goal.returns
returns c = record { erred = erred_alone_holds; agrees = inside_agrees; stays = inside_stays; once = ends_once_holds; none_left = end_leaves_none; outside = held_outside }
