-- The rules 603 to 605 of the sides of channels: the two branches of the innermost `par` that holds all uses.
use Rattle.std.specs.Prelude.{◌≡◌, ℕ, ◌<◌, IsTrue, Some, slice_get}
use Rattle.xw_words.specs.declared.pos.Broken.{Broken}
use Rattle.xc_kernel.specs.declared.kernel.Chan.{Chan}
use Rattle.xc_kernel.specs.Plain as kernel
use Rattle.xc_kernel.specs.Things.{channel, by_branch}
use Rattle.xc_kernel.specs.Pars as pars
use Rattle.xc_kernel.specs.Branches.{branches_of, all_pars, branch_at, pos_of, uses_in, users, users_before}

-- a branch is the one behind so many others that use a channel, and uses it too
pub record IsUser (c : ℕ) (bs : kernel.Branches) (others : ℕ) (b : kernel.Branch) : Type 0 where
  pub place : ℕ
  pub is : branch_at bs place ≡ Some b
  pub uses : IsTrue (by_branch (channel c) b)
  pub behind : users_before c bs place ≡ others

-- a `par` holds all uses of a channel that is used, and holds no other such `par`
pub record IsInnermost (k : kernel.Kernel) (c : ℕ) (bs : kernel.Branches) : Type 0 where
  pub place : ℕ
  pub is_par : slice_get (all_pars k) place ≡ Some bs
  pub used : 0 < uses_in c bs
  pub holds : uses_in c bs ≡ uses_in c (branches_of k.roots)
  pub innermost : (i : ℕ) (inner : kernel.Branches) → slice_get (pars.of_branches bs) i ≡ Some inner → uses_in c inner ≡ uses_in c (branches_of k.roots) → ⊥

-- in that `par` three branches or more use the channel, and this is the third
pub record IsThird (k : kernel.Kernel) (third : kernel.Branch) : Type 0 where
  pub c : ℕ
  pub bs : kernel.Branches
  pub innermost : IsInnermost k c bs
  pub user : IsUser c bs 2 third

-- one branch alone uses it, which is declared here
pub record IsOneSided (k : kernel.Kernel) (declared : Chan) : Type 0 where
  pub c : ℕ
  pub bs : kernel.Branches
  pub innermost : IsInnermost k c bs
  pub alone : users c bs ≡ 1
  pub is_channel : slice_get k.channels c ≡ Some declared

-- two use it, one of these holds a `par` with two branches that use it, and this is the later of these
pub record IsSecondInside (k : kernel.Kernel) (later : kernel.Branch) : Type 0 where
  pub c : ℕ
  pub bs : kernel.Branches
  pub innermost : IsInnermost k c bs
  pub both : users c bs ≡ 2
  pub place : ℕ
  pub inner : kernel.Branches
  pub inside : slice_get (pars.of_branches bs) place ≡ Some inner
  pub user : IsUser c inner 1 later

-- Two branches aren't the sides of a channel, and where: in the innermost `par` that holds all its uses three branches or more use
-- it, at the third (603), or one alone, at the channel's declaration (604), or two of which one holds a `par` with two branches that
-- use it, at the later of these (605). The roots are one `par`: where main alone is the root and no other `par` holds all uses, one of
-- its branches uses the channel.
pub data WithoutSides (k : kernel.Kernel) : Broken → Type 0 where
  third : (b : kernel.Branch) → IsThird k b → WithoutSides k (record { rule = 603; pos = pos_of b })
  one_sided : (d : Chan) → IsOneSided k d → WithoutSides k (record { rule = 604; pos = d.pos })
  second_inside : (b : kernel.Branch) → IsSecondInside k b → WithoutSides k (record { rule = 605; pos = pos_of b })
