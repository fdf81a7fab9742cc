use Rattle.xr_driver.proofs.Carried.{all_compiled}
use Rattle.xr_driver.proofs.prepare.compile_whole.Goals as goal

pub returns-clause-compiled : goal.returns-clause-compiled
returns-clause-compiled c =
    all_compiled _ c.compile-image.result c.compile-image.ensures.valid c.compile-image.ensures.words c.compile-image.ensures.implements c.compile-image.ensures.of_text
