use Rattle.std.proofs.Common.{refl, sym, ◌∙◌}
use Rattle.xc_names.proofs.Graphs.{none_level, one_level}
use Rattle.xc_names.proofs.recursion.broken_by_numbers.Goals as goal

pub returns-in_default : goal.returns-in_default
returns-in_default c =
    none_level c.args.marks.now c.args.meant.now c.args.starts.now c.args.edges.now c.args.numbers.now c.requires.calls
    (c.if-not-never_rises.ensures refl) c.in_default.ensures

pub returns-then-is_no_later : goal.returns-then-is_no_later
returns-then-is_no_later c =
    one_level c.args.marks.now c.args.meant.now c.args.starts.now c.args.edges.now c.args.numbers.now c.requires.calls
    (c.if-not-never_rises.ensures refl) c.in-Some.first c.in_ok-found.found c.in-Some.ensures c.if-first-starts.true c.in_ok-found.ensures (sym c.is_no_later.ensures ∙ c.if-is_no_later.true)
