use Rattle.xs_core.proofs.rows.output.Goals as goal

pub returns-in-Port-clause-fits : goal.returns-in-Port-clause-fits
returns-in-Port-clause-fits c = c.drive.ensures.fits c.args.t

pub returns-in-End-clause-fits : goal.returns-in-End-clause-fits
returns-in-End-clause-fits c = c.send_word.ensures.fits c.args.t

pub returns-in-Lock-clause-means : goal.returns-in-Lock-clause-means
returns-in-Lock-clause-means c = λ x. rw c.in-Lock.is (c.give_back.ensures.means c.args.value x)
