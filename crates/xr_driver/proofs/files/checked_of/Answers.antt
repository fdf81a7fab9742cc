use Rattle.xr_driver.proofs.Decides.{handed_on, refused_at, text_due, without_memory}
use Rattle.xr_driver.proofs.files.checked_of.Goals as goal

pub returns-in_err-text-clause-refused : goal.returns-in_err-text-clause-refused
returns-in_err-text-clause-refused g c =
    handed_on _ _ _ c.from_residual.result c.from_residual.ensures.1
    (λ command is. c.in_err-text.ensures.refused command (text_due _ _ _ is))

pub returns-in-Err-Broken-clause-refused : goal.returns-in-Err-Broken-clause-refused
returns-in-Err-Broken-clause-refused g c command is =
    let first = rw (c.in-Err-Broken.field-0-is, c.as_slice.ensures.value) at c.in-Err-Broken.ensures.first in
    rw c.refusing.ensures (refused_at _ _ _ is _ c.in-Err-Broken.broken c.in_ok-text.ensures.loaded first)

pub returns-clause-refused : goal.returns-clause-refused
returns-clause-refused g c command is = rw c.refusing-in-Err-Memory.ensures (without_memory _ _)
