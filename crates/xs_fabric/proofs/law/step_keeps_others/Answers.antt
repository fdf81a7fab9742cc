use Rattle.xs_fabric.proofs.Others.{step_keeps}
use Rattle.xs_fabric.proofs.law.step_keeps_others.Goals as goal

pub returns-clause-cores : goal.returns-clause-cores
returns-clause-cores c = λ L s m m' d t e h n. (step_keeps L s m m' d t h).cores e n

pub returns-clause-links : goal.returns-clause-links
returns-clause-links c = λ L s m m' d t a b h n. (step_keeps L s m m' d t h).links a b n

pub returns-clause-trace : goal.returns-clause-trace
returns-clause-trace c = λ L s m m' d t h. (step_keeps L s m m' d t h).trace
