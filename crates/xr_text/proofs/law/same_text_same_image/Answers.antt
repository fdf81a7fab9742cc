use Rattle.xr_text.proofs.InjectiveImage.{image_same}
use Rattle.xr_text.proofs.law.same_text_same_image.Goals as goal

pub returns : goal.returns
returns c = image_same
