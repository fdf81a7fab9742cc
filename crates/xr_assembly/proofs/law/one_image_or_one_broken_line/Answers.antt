use Rattle.xr_assembly.proofs.Listings.{not_both, one_image, one_line, some}
use Rattle.xr_assembly.proofs.law.one_image_or_one_broken_line.Goals as goal

pub returns-clause-some : goal.returns-clause-some
returns-clause-some c = some

pub returns-clause-not_both : goal.returns-clause-not_both
returns-clause-not_both c = not_both

pub returns-clause-one_image : goal.returns-clause-one_image
returns-clause-one_image c = one_image

pub returns-clause-one_line : goal.returns-clause-one_line
returns-clause-one_line c = one_line
