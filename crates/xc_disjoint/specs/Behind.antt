-- The clashes of branches one by one, each with what those before it use.
use Rattle.std.specs.Prelude.{◌≡◌, ◌⊎◌, IsTrue}
use Rattle.xw_words.specs.declared.pos.Pos.{Pos}
use Rattle.xw_words.specs.declared.pos.Broken.{Broken}
use Rattle.xc_kernel.specs.Plain as kernel
use Rattle.xc_kernel.specs.Things.{Thing}
use Rattle.xc_kernel.specs.Pars as pars
use Rattle.xc_disjoint.specs.Clashes.{Clash, rule_against, Clashes}
use Rattle.xc_disjoint.specs.Footprints.{Uses, both, of_statements}

-- a rule is broken at a place by what is used there and before
pub record ClashesAt (before here : Uses) (pos : Pos) (b : Broken) : Type 0 where
  pub one : Thing
  pub other : Thing
  pub clash : Clash one other
  pub is_before : IsTrue (before one)
  pub is_here : IsTrue (here other)
  pub is : b ≡ record { rule = rule_against other; pos = pos }

-- by a branch with this code, or in it
abbrev pub ClashesBy : Uses → kernel.Statements → Pos → Broken → Type 0
ClashesBy before ss pos b = ClashesAt before (of_statements ss) pos b ⊎ Clashes (pars.of_statements ss) b

-- by one of some branches, or in them
abbrev pub ClashesBehind : Uses → kernel.Branches → Broken → Type 0
ClashesBehind before kernel.no_branch b = ⊥
ClashesBehind before (kernel.more_branches (kernel.branch ss pos) bs) b = ClashesBy before ss pos b ⊎ ClashesBehind (both before (of_statements ss)) bs b
