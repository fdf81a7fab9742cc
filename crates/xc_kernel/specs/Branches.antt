-- The `par`s of a kernel, and which of their branches use a channel.
use Rattle.std.specs.Prelude.{ℕ, zero, suc, ◌+◌, Bool, false, ◌&&◌, ◌||◌, List, [], ◌∷◌, Option, Some, None, nat_eq}
use Rattle.xw_words.specs.declared.pos.Pos.{Pos}
use Rattle.xc_kernel.specs.Plain as kernel
use Rattle.xc_kernel.specs.Things.{channel, by_branch}
use Rattle.xc_kernel.specs.Uses as uses
use Rattle.xc_kernel.specs.Uses.{once, count_of}
use Rattle.xc_kernel.specs.Pars as pars

-- the roots as the branches of one `par`, as which they run
abbrev pub branches_of : List kernel.Root → kernel.Branches
branches_of [] = kernel.no_branch
branches_of (r ∷ rs) = kernel.more_branches (kernel.branch r.body r.pos) (branches_of rs)

-- all `par`s of roots, that of the roots themselves first
abbrev pub pars_of : List kernel.Root → List kernel.Branches
pars_of rs = branches_of rs ∷ pars.of_branches (branches_of rs)

abbrev pub all_pars : kernel.Kernel → List kernel.Branches
all_pars K = pars_of K.roots

-- the branch of an index
abbrev pub branch_at : kernel.Branches → ℕ → Option kernel.Branch
branch_at kernel.no_branch i = None
branch_at (kernel.more_branches b bs) zero = Some b
branch_at (kernel.more_branches b bs) (suc i) = branch_at bs i

-- the first token of a branch's statement
abbrev pub pos_of : kernel.Branch → Pos
pos_of (kernel.branch ss pos) = pos

-- how often branches use a channel
abbrev pub uses_in : ℕ → kernel.Branches → ℕ
uses_in c bs = count_of c (uses.of_branches bs)

-- how many of them use it
abbrev pub users : ℕ → kernel.Branches → ℕ
users c kernel.no_branch = 0
users c (kernel.more_branches b bs) = once (by_branch (channel c) b) + users c bs

-- how many of the first ones do
abbrev pub users_before : ℕ → kernel.Branches → ℕ → ℕ
users_before c kernel.no_branch i = 0
users_before c (kernel.more_branches b bs) zero = 0
users_before c (kernel.more_branches b bs) (suc i) = once (by_branch (channel c) b) + users_before c bs i

-- The sides of a channel that is used so often are two branches of this `par`: it holds all uses, and exactly two of its branches
-- have some. So it is the innermost that holds them all.
abbrev pub has_sides : (c count : ℕ) → kernel.Branches → Bool
has_sides c count bs = nat_eq (users c bs) 2 && nat_eq (uses_in c bs) count

-- they are so of some `par`
abbrev pub some_has_sides : (c count : ℕ) → List kernel.Branches → Bool
some_has_sides c count [] = false
some_has_sides c count (bs ∷ ps) = has_sides c count bs || some_has_sides c count ps

-- whether a channel of a kernel has two sides
abbrev pub has_two_sides : kernel.Kernel → ℕ → Bool
has_two_sides K c = some_has_sides c (uses_in c (branches_of K.roots)) (all_pars K)
