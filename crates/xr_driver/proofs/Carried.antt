-- An image that implements a text's kernel, and wholly the text, is what the text compiles to.
use Rattle.std.proofs.Common.{ℕ, List}
use Rattle.std.specs.Prelude.{Result, Ok, Err, IfOk}
use Rattle.xc_kernel.specs.Plain.{Kernel}
use Rattle.xr_match.specs.Implements.{Implements}
use Rattle.xr_match.specs.Meanings.{ImplementsTextsOf, of_kernel}
use Rattle.xr_match.proofs.Texts.{kernels_carry}
use Rattle.xs_instr.specs.declared.image.Image.{Image}
use Rattle.xs_instr.specs.Valid.{Valid}
use Rattle.xs_instr.specs.Words.{HasWords}
use Rattle.xr_front.specs.Rules.{IsKernelOf}
use Rattle.xr_driver.specs.Runs.{IsCompiled}

pub compiled : (text : List ℕ) (K : Kernel) (L : Image) → IsKernelOf text K → Valid L → HasWords L → Implements L (of_kernel K) → ImplementsTextsOf L K → IsCompiled text L
compiled text K L is valid words implements wholly = record {
  program = is.program;
  means_so = is.accepted;
  valid = valid;
  words = words;
  implements = kernels_carry L is.program K is.named is.types is.typed is.copies implements;
  wholly = wholly is.program is.named is.types is.typed is.copies;
}

-- the same of a result
pub all_compiled : {E : Type 0} (K : Kernel) (r : Result Image E) → IfOk r (λ L. Valid L) → IfOk r (λ L. HasWords L) →
    IfOk r (λ L. Implements L (of_kernel K)) → IfOk r (λ L. ImplementsTextsOf L K) → IfOk r (λ L. (text : List ℕ) → IsKernelOf text K → IsCompiled text L)
all_compiled K (Ok L) valid words implements wholly = λ text is. compiled text K L is valid words implements wholly
all_compiled K (Err e) valid words implements wholly = valid
