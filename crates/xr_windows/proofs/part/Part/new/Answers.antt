use Rattle.xr_windows.proofs.FirstPart.{first_part, nothing_comes}
use Rattle.xr_windows.proofs.part.Part.new.Goals as goal

pub returns-clause-part : goal.returns-clause-part
returns-clause-part c L s is =
    first_part L s c.args.ticks c.args.core _ c.nothing.result is c.requires.ticks.0 c.requires.ticks.1 c.new.ensures.items
    (nothing_comes c.nothing.result c.nothing.ensures.from0 c.nothing.ensures.from1 c.nothing.ensures.from2 c.nothing.ensures.from3)
