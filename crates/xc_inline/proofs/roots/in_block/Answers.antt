use Rattle.std.proofs.Common.{◌∙◌}
use Rattle.xc_inline.proofs.Laws.Kinds.{closed}
use Rattle.xc_inline.proofs.roots.in_block.Goals as goal

pub returns-in_default : goal.returns-in_default
returns-in_default c = closed c.args.s.now (λ ss is. c.in_default.not-Block ss (c.deref.ensures ∙ is))
