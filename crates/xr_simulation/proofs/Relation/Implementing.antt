-- The image of a checked kernel that is built so far implements the kernel, and its text.
use Rattle.xs_instr.specs.declared.image.Image.{Image}
use Rattle.xs_instr.specs.Valid.{Valid}
use Rattle.xc_kernel.specs.Plain as kernel
use Rattle.xc_disjoint.specs.Checked.{IsChecked}
use Rattle.xc_wellformed.proofs.ParWidth.{pars_are_narrow}
use Rattle.xc_invariants.proofs.TextFollows.{exits_are_met}
use Rattle.xl_image.specs.Images.{IsImage}
use Rattle.xl_image.specs.Roots.{KernelIsBuilt}
use Rattle.xr_match.specs.Implements.{Implements, ImplementsWholly}
use Rattle.xr_match.specs.Meanings.{ImplementsTextsOf, of_kernel}
use Rattle.xr_match.proofs.Texts.{kernels_carry_wholly}
use Rattle.xr_simulation.proofs.Relation.Simulation as compiled
use Rattle.xr_simulation.proofs.Image.KernelImage.{image_is}
use Rattle.xr_simulation.proofs.Relation.Roots.{roles}

module _ (K : kernel.Kernel) (L : Image) (checked : IsChecked K) (is : IsImage K L) (valid : Valid L) (built : KernelIsBuilt K) where
  pub wholly_implements : ImplementsWholly L (of_kernel K)
  wholly_implements =
      let i = image_is K L checked is valid built in
      compiled.wholly_implements K L (roles K) i.0 i.1

  pub implements : Implements L (of_kernel K)
  implements =
      let i = image_is K L checked is valid built in
      compiled.implements K L (roles K) i.0 i.1

  -- and so it is of the text of which this is the kernel
  pub text_wholly : ImplementsTextsOf L K
  text_wholly program named types typed copies =
      kernels_carry_wholly L program K named types typed copies (exits_are_met program K named types typed copies) (pars_are_narrow K checked) wholly_implements
