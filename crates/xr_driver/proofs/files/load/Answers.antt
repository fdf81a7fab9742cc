use Rattle.xr_driver.proofs.Decides.{missing_at, read_fault_at, too_long_at, without_memory}
use Rattle.xr_driver.proofs.files.load.Goals as goal

pub returns-in-Err-Missing-clause-refused : goal.returns-in-Err-Missing-clause-refused
returns-in-Err-Missing-clause-refused g c command due =
    let why = rw c.in-Err-Missing.field-0-is at c.in-Err-Missing.ensures.loaded in
    rw c.refusing.ensures (missing_at _ _ _ due why.0 why.1)

pub returns-in-Err-TooLong-clause-refused : goal.returns-in-Err-TooLong-clause-refused
returns-in-Err-TooLong-clause-refused g c command due =
    let why = rw c.in-Err-TooLong.field-0-is at c.in-Err-TooLong.ensures.loaded in
    rw c.refusing-in-Err-TooLong.ensures (too_long_at _ _ _ due why.0 why.1)

pub returns-in-Err-Failed-clause-refused : goal.returns-in-Err-Failed-clause-refused
returns-in-Err-Failed-clause-refused g c command due =
    let why = rw c.in-Err-Failed.field-0-is at c.in-Err-Failed.ensures.loaded in
    rw c.refusing-in-Err-Failed.ensures (read_fault_at _ _ _ due why)

pub returns-in-Err-Memory-clause-refused : goal.returns-in-Err-Memory-clause-refused
returns-in-Err-Memory-clause-refused g c command due = rw c.refusing-in-Err-Memory.ensures (without_memory _ _)
