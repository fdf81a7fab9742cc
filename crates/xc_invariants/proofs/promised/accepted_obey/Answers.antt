use Rattle.xc_invariants.proofs.Copied.{copies_are_placed}
use Rattle.xc_invariants.proofs.Always.{ports_are_here, accepted_obey}
use Rattle.xc_invariants.proofs.Checked.{checked_obey}
use Rattle.xc_invariants.proofs.promised.accepted_obey.Goals as goal

pub returns : goal.returns
returns c = record { placed = copies_are_placed; ports = ports_are_here; obey = accepted_obey; checked = checked_obey }
