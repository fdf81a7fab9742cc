use Rattle.xr_match.proofs.law.kernel_carries_to_text.Goals as goal
use Rattle.xr_match.proofs.Texts.{kernels_carry, kernels_carry_wholly}

pub returns : goal.returns
returns c = record { carries = kernels_carry; wholly = kernels_carry_wholly }
