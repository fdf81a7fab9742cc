-- The rules 601 to 606: what keeps the branches of a `par` apart.
use Rattle.xw_words.specs.declared.pos.Broken.{Broken}
use Rattle.xc_kernel.specs.Plain as kernel
use Rattle.xc_kernel.specs.Branches.{all_pars}
use Rattle.xc_disjoint.specs.Clashes.{Clashes}
use Rattle.xc_disjoint.specs.SideRules.{WithoutSides}

-- Branches don't keep apart, and where: a variable that one branch of a `par` changes is used in another (601), or a port (602) or a
-- timer (606) in both, at the later branch; or two branches aren't the sides of a channel (603 to 605).
pub data NotApart (k : kernel.Kernel) : Broken → Type 0 where
  clash : {b : Broken} → Clashes (all_pars k) b → NotApart k b
  without_sides : {b : Broken} → WithoutSides k b → NotApart k b
