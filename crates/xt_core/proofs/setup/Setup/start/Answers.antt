use Rattle.xt_core.proofs.setup.Setup.start.Goals as goal

pub core_with-requires-clause-far : goal.core_with-requires-clause-far
core_with-requires-clause-far c t = c.in_ok-image.ensures.far c.in_ok-stim.stim t
