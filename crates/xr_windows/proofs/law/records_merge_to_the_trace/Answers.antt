use Rattle.xr_windows.proofs.Merged.{parts_merged}
use Rattle.xr_windows.proofs.law.records_merge_to_the_trace.Goals as goal

pub returns : goal.returns
returns c L s n = parts_merged L s n
