use Rattle.xs_core.proofs.rows.input.Goals as goal

pub returns-in-Port-clause-means : goal.returns-in-Port-clause-means
returns-in-Port-clause-means c = λ t x. rw c.in-Port.is (c.read_port.ensures.means t c.args.identifier x)

pub returns-in-Timer-clause-means : goal.returns-in-Timer-clause-means
returns-in-Timer-clause-means c = λ t x. rw c.in-Timer.is (c.read_clock.ensures.means t c.args.identifier x)

pub returns-in-End-clause-means : goal.returns-in-End-clause-means
returns-in-End-clause-means c = λ t x. rw c.in-End.is (c.take_word.ensures.means t c.args.identifier x)
