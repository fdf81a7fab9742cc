-- How a walk goes on by what stands at its place: its footprint, and the first clash so far.
use Rattle.std.proofs.Common.{◌≡◌, ℕ, ◌+◌, ◌<◌, inl, inr, List, [], ◌∷◌, ◌++◌, length, drop, get_or, map, Option, Some, None, refl, sym, ap, subst, append-nil}
use Rattle.xc_disjoint.proofs.FootprintSteps as footprint
use Rattle.xc_disjoint.proofs.Clashing.{nothing_broken, least_of_both, least_par}

pub ruleset steps = (footprint.steps, append-nil, nothing_broken, least_of_both, least_par)
