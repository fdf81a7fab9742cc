use Rattle.xl_image.proofs.TodayBuilt.{kernels_are_built}
use Rattle.xl_image.proofs.law.kernels_are_built.Goals as goal

pub returns : goal.returns
returns c = kernels_are_built
