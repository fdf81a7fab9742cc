use Rattle.xc_names.specs.Latest.{latest_of}
use Rattle.xc_names.specs.Reads.{HasGlobals}
use Rattle.xc_names.proofs.meanings.globals.Given as goal

abbrev pub invariant-loop-at : goal.invariant-loop-at
invariant-loop-at l = HasGlobals l.marks (latest_of l.latest) l.at
