use Rattle.std.proofs.Common.{◌≡◌, ◌++◌}
use Rattle.std.specs.VecDeque.{deque_len}
use Rattle.xw_words.proofs.allocation.put_before.Given as goal

abbrev pub invariant-moved : goal.invariant-moved
invariant-moved g l = l.short.items ++ l.items.items ≡ l.fn.short.items ++ l.fn.items.items

abbrev pub decreases-moved : goal.decreases-moved
decreases-moved g l = deque_len l.short
