use Rattle.std.proofs.Common.{sym, ◌∙◌}
use Rattle.xr_assembly.proofs.Naming.{not_all}
use Rattle.xr_assembly.proofs.references.are_named.Goals as goal

pub returns-then-not-is_named : goal.returns-then-not-is_named
returns-then-not-is_named c =
    sym (not_all c.args.chans.now c.args.core c.loop-end.end c.args.ends c.loop-end-test.true (sym c.is_named.ensures ∙ c.if-not-is_named.true))
