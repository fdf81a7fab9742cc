use Rattle.xt_parts.proofs.boards.table.Given as goal

-- the run of the image that is lent, of 16 ticks
abbrev pub ghosts-table_named : goal.ghosts-table_named
ghosts-table_named g a = record { listing = a.image.now; stimulus = a.stim.now; ticks = 16 }
