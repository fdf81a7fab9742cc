use Rattle.xr_driver.proofs.Decides.{all_read, inputs_refused_at}
use Rattle.xr_driver.proofs.files.read_files.Goals as goal

pub returns-in-Ok-clause-read : goal.returns-in-Ok-clause-read
returns-in-Ok-clause-read g c =
    all_read _ _ _ _ c.file.ensures c.in_ok-checked.ensures.read _ _ c.in_ok-checked.ensures.files c.in-Ok.ensures.read

pub returns-in-Err-clause-refused : goal.returns-in-Err-clause-refused
returns-in-Err-clause-refused g c command is =
    inputs_refused_at _ _ _ _ _ c.in_ok-checked.ensures.files c.in_ok-checked.ensures.faults c.in_ok-checked.ensures.misses
    c.in_ok-checked.ensures.longs _ _ _ _ c.file.ensures c.in_ok-checked.ensures.read c.in-Err.ensures.refused command is
