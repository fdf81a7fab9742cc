-- The kernels that are accepted.
use Rattle.xw_words.specs.declared.pos.Broken.{Broken}
use Rattle.xc_kernel.specs.Plain as kernel
use Rattle.xc_kernel.specs.Sound.{IsOfProgram}
use Rattle.xc_disjoint.specs.Rules.{Breaks}

-- a kernel is that of a program that passes the phases before, and breaks no rule itself
pub record IsChecked (k : kernel.Kernel) : Type 0 where
  pub of_program : IsOfProgram k
  pub unbroken : (b : Broken) → Breaks k b → ⊥
