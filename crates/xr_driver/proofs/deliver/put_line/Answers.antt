use Rattle.std.proofs.Common.{rules, ◌≡◌}
use Rattle.xr_driver.proofs.Given.{◌▹◌, given}
use Rattle.xr_driver.proofs.deliver.put_line.Goals as goal

pub returns : goal.returns
returns g c =
    let last : c.sink-1.given.0 ≡ c.settle.new.self.sink.now = search rules in
    rw (last, ← c.new-out.ensures.sink)
    (given g.O.Sink.bytes g.O.Sink.faults c.new-out.result c.settle.new.self _ _ c.new-out.ensures.usable c.new-out.ensures.empty
    (c.add_line.ensures.drew ▹ c.settle.ensures.drew) c.settle.ensures.empty c.outcome.ensures)
