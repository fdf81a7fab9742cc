use Rattle.std.proofs.Common.{refl}
use Rattle.xs_core.proofs.local_rows.step.Goals as goal
use Rattle.xs_core.specs.Local.{local_in}

pub returns-in-Divs-clause-fits : goal.returns-in-Divs-clause-fits
returns-in-Divs-clause-fits c = c.set_where.ensures.fits (local_in c.args.thread.now c.args.words.now)

pub returns-in-Rems-clause-fits : goal.returns-in-Rems-clause-fits
returns-in-Rems-clause-fits c = c.set_where-in-Rems.ensures.fits (local_in c.args.thread.now c.args.words.now)

pub returns-in-Divu-clause-fits : goal.returns-in-Divu-clause-fits
returns-in-Divu-clause-fits c = c.set_where-in-Divu.ensures.fits (local_in c.args.thread.now c.args.words.now)

pub returns-in-Remu-clause-fits : goal.returns-in-Remu-clause-fits
returns-in-Remu-clause-fits c = c.set_where-in-Remu.ensures.fits (local_in c.args.thread.now c.args.words.now)

pub returns-in-Ecallf-clause-fits : goal.returns-in-Ecallf-clause-fits
returns-in-Ecallf-clause-fits c = c.pass_where.ensures.fits (local_in c.args.thread.now c.args.words.now)

pub returns-in-Ecallt-clause-fits : goal.returns-in-Ecallt-clause-fits
returns-in-Ecallt-clause-fits c = c.pass_where-in-Ecallt.ensures.fits (local_in c.args.thread.now c.args.words.now)

pub returns-in-Ldwdp-clause-fits : goal.returns-in-Ldwdp-clause-fits
returns-in-Ldwdp-clause-fits c = c.load.ensures.fits (local_in c.args.thread.now c.args.words.now)

pub returns-in-Stwdp-clause-fits : goal.returns-in-Stwdp-clause-fits
returns-in-Stwdp-clause-fits c = c.store.ensures.fits (local_in c.args.thread.now c.args.words.now) refl

pub returns-in-Ldwsp-clause-fits : goal.returns-in-Ldwsp-clause-fits
returns-in-Ldwsp-clause-fits c = c.load-in-Ldwsp.ensures.fits (local_in c.args.thread.now c.args.words.now)

pub returns-in-Stwsp-clause-fits : goal.returns-in-Stwsp-clause-fits
returns-in-Stwsp-clause-fits c = c.store-in-Stwsp.ensures.fits (local_in c.args.thread.now c.args.words.now) refl

pub returns-in-Ldw-clause-fits : goal.returns-in-Ldw-clause-fits
returns-in-Ldw-clause-fits c = c.load-in-Ldw.ensures.fits (local_in c.args.thread.now c.args.words.now)

pub returns-in-Stw-clause-fits : goal.returns-in-Stw-clause-fits
returns-in-Stw-clause-fits c = c.store-in-Stw.ensures.fits (local_in c.args.thread.now c.args.words.now) refl

pub returns-in-Entsp-clause-fits : goal.returns-in-Entsp-clause-fits
returns-in-Entsp-clause-fits c = c.enter.ensures.fits (local_in c.args.thread.now c.args.words.now) refl refl

pub returns-in-Retsp-clause-fits : goal.returns-in-Retsp-clause-fits
returns-in-Retsp-clause-fits c = c.go_back.ensures.fits (local_in c.args.thread.now c.args.words.now)

pub returns-in-Brff-clause-fits : goal.returns-in-Brff-clause-fits
returns-in-Brff-clause-fits c = c.jump_where.ensures.fits (local_in c.args.thread.now c.args.words.now)

pub returns-in-Brft-clause-fits : goal.returns-in-Brft-clause-fits
returns-in-Brft-clause-fits c = c.jump_where-in-Brft.ensures.fits (local_in c.args.thread.now c.args.words.now)

pub returns-in_default : goal.returns-in_default
returns-in_default c = record { row = c.value.ensures.row (local_in c.args.thread.now c.args.words.now) refl; fits = c.value.ensures.fits (local_in c.args.thread.now c.args.words.now) }
