use Rattle.std.proofs.Common.{ap}
use Rattle.xc_kernel.specs.Things.{channel, by_resource}
use Rattle.xl_ends.proofs.Marks.{marks_none}
use Rattle.xl_ends.proofs.used.mark_resource.Goals as goal

pub returns-in-Port : goal.returns-in-Port
returns-in-Port c = marks_none (λ d. by_resource (channel d) c.args.resource) c.args.used.now (λ d. ap (by_resource (channel d)) c.in-Port.is)

pub returns-in-Timer : goal.returns-in-Timer
returns-in-Timer c = marks_none (λ d. by_resource (channel d) c.args.resource) c.args.used.now (λ d. ap (by_resource (channel d)) c.in-Timer.is)
