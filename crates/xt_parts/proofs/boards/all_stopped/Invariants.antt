use Rattle.xt_parts.proofs.boards.all_stopped.Given as goal

-- the run of the image that is lent, of 16 ticks
abbrev pub ghosts-with_all_stopped : goal.ghosts-with_all_stopped
ghosts-with_all_stopped g a = record { listing = a.image.now; stimulus = a.stim.now; ticks = 16 }
