use Rattle.xt_parts.proofs.windows.first.Given as goal

-- the run of the image that is lent, of 16 ticks
abbrev pub ghosts-first_named : goal.ghosts-first_named
ghosts-first_named a = record { listing = a.image.now; stimulus = a.stim.now; ticks = 16 }
