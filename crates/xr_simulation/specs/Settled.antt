-- Items that have no instruction: the beginning and the end of a block, a `par` of at most one branch, and the end of the first branch of a
-- `par`. They are done as soon as they are possible, so that a branch always stands at an item with an instruction of its own.
use Rattle.std.specs.Prelude.{List, [], ◌∷◌}
use Rattle.xc_kernel.specs.Plain as kernel
use Rattle.xc_meaning.specs.States.Items.{Item, does, mark, ends}
use Rattle.xr_simulation.specs.Parents.{Parent}

-- a `par` has an instruction where it has several branches
abbrev pub HasSeveral : kernel.Branches → Type 0
HasSeveral kernel.no_branch = ⊥
HasSeveral (kernel.more_branches b kernel.no_branch) = ⊥
HasSeveral (kernel.more_branches b (kernel.more_branches c bs)) = Unit {0}

-- the end of a branch has one where nobody waits for it
abbrev pub IsOutermost : List Parent → Type 0
IsOutermost [] = Unit {0}
IsOutermost (p ∷ ps) = ⊥

-- The first item has an instruction of its own. Behind an event threads may stand at items that have none, and settle one after the
-- other while the machine stands still. So an event speaks of its own step alone, and a `par` of one branch is one more case of
-- settling.
abbrev pub IsOwn : List Parent → List Item → Type 0
IsOwn ps (does (kernel.block n ss) ∷ rest) = ⊥
IsOwn ps (does (kernel.par bs) ∷ rest) = HasSeveral bs
IsOwn ps (mark n ∷ rest) = ⊥
IsOwn ps (ends ∷ rest) = IsOutermost ps
IsOwn ps items = Unit {0}
