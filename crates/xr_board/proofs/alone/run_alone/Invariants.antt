use Rattle.xr_board.proofs.alone.run_alone.Given as goal

-- the run that is asked for
abbrev pub ghosts-run_named : goal.ghosts-run_named
ghosts-run_named a = record { listing = a.image.now; stimulus = a.stim.now; ticks = a.ticks }
