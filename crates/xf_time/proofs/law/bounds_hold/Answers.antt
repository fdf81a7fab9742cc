use Rattle.xf_time.proofs.Threads.{bounds_hold, numbers_hold}
use Rattle.xf_time.proofs.law.bounds_hold.Goals as goal

pub returns-clause-route : goal.returns-clause-route
returns-clause-route c = bounds_hold

pub returns-clause-numbers : goal.returns-clause-numbers
returns-clause-numbers c = numbers_hold
