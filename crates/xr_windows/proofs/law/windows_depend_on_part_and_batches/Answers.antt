use Rattle.std.proofs.Common.{◌≡◌, ◌∙◌, ap, arith, suc, ◌+◌}
use Rattle.xr_windows.specs.Windows.{part}
use Rattle.xr_windows.proofs.PartNext.{part_next, batch_next}
use Rattle.xr_windows.proofs.law.windows_depend_on_part_and_batches.Goals as goal

pub returns-clause-part : goal.returns-clause-part
returns-clause-part c L s n i k small li =
    let e : k + 1 ≡ suc k = omega arith in ap (part L s n i) e ∙ part_next L s n small i k li

pub returns-clause-batches : goal.returns-clause-batches
returns-clause-batches c L s n i j k small li = batch_next L s n small i j k li
