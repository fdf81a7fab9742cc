-- The names of the lives of threads: each thread that runs a branch is in a life of that branch's family.
use Rattle.std.specs.Prelude.{◌≡◌, ℕ, zero, ◌+◌, ◌*◌, ◌<◌, ◌≤◌, Bool, true, false, List, [], ◌∷◌, length, Option, Some, None}
use Rattle.xc_meaning.specs.Counts.Families.{is_second, one_if}
use Rattle.xc_meaning.specs.Counts.KernelCounts.{kernel_bound}
use Rattle.xc_meaning.specs.States.Branches.{Birth, Branch}
use Rattle.xl_par.specs.Acquired.{Acquired}
use Rattle.xr_match.specs.Lives.{Family, Life, Watched, of_child}
use Rattle.xr_match.specs.Meanings.{family_in, of_kernel}
use Rattle.xr_match.specs.Sources.{Counted, actions_of}
use Rattle.xr_simulation.specs.Roles.{Roles, got_by, unused, used_by}
use Rattle.xr_simulation.specs.Runners.{Setting, Runner}

-- how many `par`s of two or more branches a family has made
abbrev pub pars_of : (family : ℕ) → List Branch → ℕ
pars_of f [] = 0
pars_of f (b ∷ bs) = one_if (is_second f b.birth) + pars_of f bs

-- the family that made each of some branches has a number below this
abbrev pub IsBornBelow : (n : ℕ) → Option Birth → Type 0
IsBornBelow n None = Unit {0}
IsBornBelow n (Some birth) = birth.family < n

abbrev pub AreBornBelow : (n : ℕ) → List Branch → Type 0
AreBornBelow n [] = Unit {0}
AreBornBelow n (b ∷ bs) = IsBornBelow n b.birth × AreBornBelow n bs

abbrev pub some_more : (threads lacks : ℕ) → Bool
some_more zero zero = false
some_more threads lacks = true

abbrev pub opens_by : Option ℕ → Bool → ℕ
opens_by (Some n) true = 1
opens_by other is_more = 0

-- 1 where a synchroniser was got for a `par` whose branches aren't made yet
abbrev pub opened : Option Acquired → ℕ
opened None = 0
opened (Some hand) = opens_by hand.sync (some_more (length hand.threads) hand.lacks)

-- the threads that were got for a `par`, the last one first, are in lives of its branches behind the first
abbrev pub AreKidsOf : (lives : ℕ → Life) → (maker : Family) → (par : ℕ) → (threads : List ℕ) → Type 0
AreKidsOf lives maker par [] = Unit {0}
AreKidsOf lives maker par (u ∷ us) = ((lives u).family ≡ Some (of_child maker par (length us + 1))) × AreKidsOf lives maker par us

-- A thread's life is of the family of its branch; it got a synchroniser for each `par` of several branches that the family made, and for the one that it is
-- opening, to which it tied the threads that it has in hand.
pub record IsNamed (g : Setting) (lives : ℕ → Life) (life : Life) (x : Counted (of_kernel g.program)) (r : Runner) (hand : Option Acquired) : Type 0 where
  pub name : Family
  pub of_life : life.family ≡ Some name
  pub number : family_in g.program x.state name ≡ Some r.family
  pub pars : life.pars ≡ pars_of r.family x.state.branches + opened hand
  pub ties : (h : Acquired) (n : ℕ) → hand ≡ Some h → h.sync ≡ Some n → opened hand ≡ 1 →
      (life.tyings n ≡ Some (record { par = pars_of r.family x.state.branches; tied = length h.threads }))
      × AreKidsOf lives name (pars_of r.family x.state.branches) h.threads

-- The lives' names are so, one of a thread that was got has done nothing, and one that is over has done no more steps than the bound
-- allows. A branch's maker stands before it.
pub record AreNamed (g : Setting) (who : Roles) (w : Watched) (x : Counted (of_kernel g.program)) : Type 0 where
  pub named : (c t : ℕ) (r : Runner) (hand : Option Acquired) → who c t ≡ used_by r hand → IsNamed g (w.lives c) (w.lives c t) x r hand
  pub got : (c u t : ℕ) → who c u ≡ got_by t → ((w.lives c u).steps ≡ 0) × ((w.lives c u).pars ≡ 0)
  pub over : (c t : ℕ) → who c t ≡ unused →
      (w.lives c t).steps ≤ kernel_bound g.program * (actions_of (of_kernel g.program) x (w.lives c t).family + 1)
  pub births : AreBornBelow (length x.state.branches) x.state.branches
