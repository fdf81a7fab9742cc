use Rattle.xr_driver.proofs.Decides.{bad_route_at, image_without_memory, timed_at}
use Rattle.xr_driver.proofs.prepare.time_image.Goals as goal

pub returns-in-Ok-clause-decided : goal.returns-in-Ok-clause-decided
returns-in-Ok-clause-decided c file =
    let numbers = rw c.as_slice.ensures at c.in-Ok.ensures.numbers in
    let unbroken = rw c.as_slice.ensures at c.in-Ok.ensures.unbroken in
    rw c.printing.ensures (timed_at file _ _ c.args.inputs.now _ numbers unbroken)

pub returns-in-Err-Line-clause-decided : goal.returns-in-Err-Line-clause-decided
returns-in-Err-Line-clause-decided c file =
    let first = rw (c.in-Err-Line.field-0-is, c.as_slice.ensures) at c.in-Err-Line.ensures.broken in
    bad_route_at file _ _ c.args.inputs.now _ _ first

pub returns-clause-decided : goal.returns-clause-decided
returns-clause-decided c file = rw c.saying.ensures (image_without_memory _ _ _)
