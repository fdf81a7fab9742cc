-- Sets of paths.
use Rattle.std.specs.Prelude.{ℕ, List, map}
use Rattle.std.specs.Vec.{vec_items}
use Rattle.std.specs.declared.vec.Vec.{Vec}
use Rattle.std.specs.declared.alloc.Global.{Global}
use Rattle.indexmap.specs.IndexSet.{IndexSet}
use Rattle.xc_kernel.specs.Paths.{Path}

-- the path of a path
abbrev pub itself : Path → Path
itself path = path

-- the paths of a set, in order of first sight
abbrev pub paths_in : {S : Type 0} → IndexSet (Vec ℕ Global) S → List Path
paths_in set = map vec_items set.keys
