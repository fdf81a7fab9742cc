use Rattle.std.proofs.Common.{◌≡◌, ◌++◌, length}
use Rattle.xl_par.specs.Opening.{indices_of, slaves_lines, starts_from}
use Rattle.xl_par.proofs.opening.put_slaves.Given as goal

abbrev pub invariant-slaves : goal.invariant-slaves
invariant-slaves l =
    (l.e ≡ l.initial.e ++ slaves_lines l.offset l.pos l.counter)
    × (indices_of l.starts.items ≡ indices_of l.initial.starts.items ++ starts_from (length l.initial.e) l.counter)
