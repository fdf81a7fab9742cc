use Rattle.xr_board.proofs.workers.run_by_workers.Given as goal

-- the run that is asked for
abbrev pub ghosts-run_named : goal.ghosts-run_named
ghosts-run_named g a = record { listing = a.image.now; stimulus = a.stim.now; ticks = a.ticks }
