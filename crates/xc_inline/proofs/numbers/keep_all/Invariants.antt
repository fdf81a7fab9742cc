use Rattle.std.proofs.Common.{◌≡◌, ◌+◌, ◌≤◌, length, map}
use Rattle.std.specs.VecDeque.{deque_len}
use Rattle.xc_kernel.specs.Paths.{with_all}
use Rattle.xc_inline.specs.PathSets.{paths_in}
use Rattle.xc_inline.proofs.numbers.keep_all.Given as goal

abbrev pub invariant-sights : goal.invariant-sights
invariant-sights g l =
    (with_all g.T.HasPath.path_of l.once.items.items l.seen.items ≡ with_all g.T.HasPath.path_of l.fn.once.items.items l.fn.seen.items)
    × (paths_in l.once.paths ≡ map g.T.HasPath.path_of l.once.items.items)
    × (length (paths_in l.once.paths) + length l.seen.items ≤ length (paths_in l.fn.once.paths) + length l.fn.seen.items)

abbrev pub decreases-sights : goal.decreases-sights
decreases-sights g l = deque_len l.seen
