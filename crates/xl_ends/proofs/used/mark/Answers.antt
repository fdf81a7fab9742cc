use Rattle.std.proofs.Common.{true, sym, ◌∙◌}
use Rattle.std.proofs.lemmas.List.{set_past}
use Rattle.xl_ends.proofs.Marks.{marks_one}
use Rattle.xl_ends.proofs.used.mark.Goals as goal

pub returns-then-at-used : goal.returns-then-at-used
returns-then-at-used c = marks_one c.args.channel c.args.used.now

pub returns-else-at-used : goal.returns-else-at-used
returns-else-at-used c = sym (set_past c.args.used.now c.args.channel true c.if-at-used.false) ∙ marks_one c.args.channel c.args.used.now
