use Rattle.xc_names.specs.PortRules.{by_port, by_function}
use Rattle.xc_names.proofs.ports.look_at.Goals as goal

pub returns-in-Func-clause-taken : goal.returns-in-Func-clause-taken
returns-in-Func-clause-taken c = rw c.in-Func.is by_function

pub returns-in_ok-rule-in-Port-clause-taken : goal.returns-in_ok-rule-in-Port-clause-taken
returns-in_ok-rule-in-Port-clause-taken c = rw c.in-Port.is (by_port c.in_ok-rule-in-Port.ensures.taken)
