use Rattle.std.proofs.Common.{sym}
use Rattle.xc_disjoint.specs.UseTables.{uses_in}
use Rattle.xc_disjoint.proofs.ChannelSteps.{after_none}
use Rattle.xc_disjoint.proofs.channel_uses.used.Goals as goal

pub returns-in-Port : goal.returns-in-Port
returns-in-Port c = rw c.in-Port.is (sym (after_none (uses_in c.args.table.now)))

pub returns-in-Timer : goal.returns-in-Timer
returns-in-Timer c = rw c.in-Timer.is (sym (after_none (uses_in c.args.table.now)))
