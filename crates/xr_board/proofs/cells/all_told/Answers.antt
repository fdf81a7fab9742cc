use Rattle.xr_board.proofs.NoneShort.{last_of, none_short}
use Rattle.xr_board.proofs.cells.all_told.Goals as goal

pub merged_run-requires-clause-a : goal.merged_run-requires-clause-a
merged_run-requires-clause-a g c = last_of _ _ _ _ _ _ c.is_cell.ensures c.part.ensures (none_short _ _ _ _ _ c.requires).first

pub merged_run-requires-clause-b : goal.merged_run-requires-clause-b
merged_run-requires-clause-b g c = last_of _ _ _ _ _ _ c.is_cell-2.ensures c.part-2.ensures (none_short _ _ _ _ _ c.requires).second

pub merged_run-requires-clause-c : goal.merged_run-requires-clause-c
merged_run-requires-clause-c g c = last_of _ _ _ _ _ _ c.is_cell-3.ensures c.part-3.ensures (none_short _ _ _ _ _ c.requires).third

pub merged_run-requires-clause-d : goal.merged_run-requires-clause-d
merged_run-requires-clause-d g c = last_of _ _ _ _ _ _ c.is_cell-4.ensures c.part-4.ensures (none_short _ _ _ _ _ c.requires).fourth
