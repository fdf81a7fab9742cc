use Rattle.std.proofs.Common.{◌≡◌, ℕ, ◌<◌, length, List, get_or, slice_get, Option, Some, None, arith}
use Rattle.std.proofs.lemmas.Option.{slice_get-get_or}
use Rattle.xc_names.specs.NameRules.{broken_by}
use Rattle.xc_names.proofs.News.{mark_at}
use Rattle.xc_names.proofs.NameRules.{mark_rule, one_further}
use Rattle.xc_names.proofs.names.broken_name.Goals as goal

read : (meant : List (Option ℕ)) (n i : ℕ) → i < n → length meant ≡ n → slice_get meant i ≡ Some (get_or meant i None)
read meant n i h e = slice_get-get_or meant i None (omega arith)

pub loop-at-preserved : goal.loop-at-preserved
loop-at-preserved c =
    let less = c.loop-at-test.true in
    rw (c.earlier-best.ensures, c.broken_by.ensures)
    (one_further c.args.marks.now c.loop-at.at c.loop-at.best (broken_by c.index-marks-at.result c.loop-at.at (get_or c.args.meant.now c.loop-at.at None)) c.loop-at.invariant
    (mark_rule c.args.marks.now c.args.meant.now c.requires c.loop-at.at c.index-marks-at.result (get_or c.args.meant.now c.loop-at.at None) (mark_at _ _ _ c.index-marks-at.is less) (read c.args.meant.now (length c.args.marks.now) c.loop-at.at less c.requires.one_each)))
