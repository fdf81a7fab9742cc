use Rattle.xc_names.specs.Latest.{latest_of}
use Rattle.xc_names.specs.Reads.{HasRead}
use Rattle.xc_names.proofs.meanings.read_all.Given as goal

abbrev pub invariant-loop-at : goal.invariant-loop-at
invariant-loop-at l = HasRead l.marks l.ends (latest_of l.walk.latest) l.walk.outer l.walk.meant l.at
