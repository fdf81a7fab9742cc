-- The rules 601, 602 and 606: what two branches of a `par` may not use.
use Rattle.std.specs.Prelude.{◌≡◌, ℕ, ◌<◌, IsTrue, List, Some, slice_get}
use Rattle.xw_words.specs.declared.pos.Broken.{Broken}
use Rattle.xc_kernel.specs.Plain as kernel
use Rattle.xc_kernel.specs.Things.{Thing, variable, change, port, timer, channel, by_branch}
use Rattle.xc_kernel.specs.Branches.{branch_at, pos_of}

-- Two uses of which two branches of a `par` may not have one each: one changes a variable that the other uses, or both use a port or
-- a timer. Where a variable is declared isn't asked. A name that an input declares in one branch of a plain `par` is known in the
-- later ones, so two branches can use it and one change it. For every other variable 'declared outside' would add nothing.
pub data Clash : Thing → Thing → Type 0 where
  changed : (v : ℕ) → Clash (change v) (variable v)
  used : (v : ℕ) → Clash (variable v) (change v)
  of_port : (p : ℕ) → Clash (port p) (port p)
  of_timer : (t : ℕ) → Clash (timer t) (timer t)

-- the rule that says so of this; channels have rules of their own
abbrev pub rule_against : Thing → ℕ
rule_against (variable v) = 601
rule_against (change v) = 601
rule_against (port p) = 602
rule_against (timer t) = 606
rule_against (channel c) = 603

-- A rule is broken where a branch of one of these `par`s uses what clashes with a use of an earlier branch, at the later one.
pub record Clashes (ps : List kernel.Branches) (b : Broken) : Type 0 where
  pub place : ℕ
  pub bs : kernel.Branches
  pub is_par : slice_get ps place ≡ Some bs
  pub i : ℕ
  pub j : ℕ
  pub before : i < j
  pub earlier : kernel.Branch
  pub earlier_is : branch_at bs i ≡ Some earlier
  pub later : kernel.Branch
  pub later_is : branch_at bs j ≡ Some later
  pub one : Thing
  pub other : Thing
  pub clash : Clash one other
  pub earlier_uses : IsTrue (by_branch one earlier)
  pub later_uses : IsTrue (by_branch other later)
  pub is : b ≡ record { rule = rule_against other; pos = pos_of later }
