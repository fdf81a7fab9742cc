use Rattle.xt_parts.proofs.boards.one_ahead.Given as goal

-- the run of the image that is lent, of 16 ticks
abbrev pub ghosts-with_a_core_ahead : goal.ghosts-with_a_core_ahead
ghosts-with_a_core_ahead g a = record { listing = a.image.now; stimulus = a.stim.now; ticks = 16 }
