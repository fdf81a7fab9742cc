use Rattle.std.proofs.Common.{◌≡◌, ◌+◌, ◌++◌, drop, sum_by}
use Rattle.xl_plan.specs.Layout.{end_places_from, ends_there}
use Rattle.xl_plan.proofs.channels.end_places.Given as goal

abbrev pub invariant-loop-cores : goal.invariant-loop-cores
invariant-loop-cores l = record {
  numbered : end_places_from l.core 0 l.channels ≡ l.places ++ end_places_from l.core l.next (drop l.cores-index l.channels);
  left : l.next + sum_by (ends_there l.core) (drop l.cores-index l.channels) ≡ sum_by (ends_there l.core) l.channels;
}
