use Rattle.xr_driver.specs.Due.{of_second}
use Rattle.xr_driver.specs.Runs.{named}
use Rattle.xr_driver.proofs.Decides.{bad_line_at, handed_on, stim_is_second, without_memory}
use Rattle.xr_driver.proofs.files.stim_of.Goals as goal

pub returns-in_err-text-clause-refused : goal.returns-in_err-text-clause-refused
returns-in_err-text-clause-refused g c =
    handed_on _ _ _ c.from_residual.result c.from_residual.ensures.1
    (λ command is. c.in_err-text.ensures.refused command (of_second command _ is.0 (stim_is_second command _ is.1)))

pub returns-in-Ok-clause-read : goal.returns-in-Ok-clause-read
returns-in-Ok-clause-read g c = named _ _ _ c.in_ok-text.ensures.loaded (rw c.as_slice.ensures.value at c.in-Ok.ensures.means)

pub returns-in-Err-Line-clause-refused : goal.returns-in-Err-Line-clause-refused
returns-in-Err-Line-clause-refused g c command is =
    let first = rw (c.in-Err-Line.field-0-is, c.as_slice.ensures.value) at c.in-Err-Line.ensures.broken in
    rw c.refusing.ensures (bad_line_at _ _ _ is.0 is.1 _ _ _ c.in_ok-text.ensures.loaded first)

pub returns-clause-refused : goal.returns-clause-refused
returns-clause-refused g c command is = rw c.refusing-in-Err-Memory.ensures (without_memory _ _)
