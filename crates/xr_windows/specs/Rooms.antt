-- Room for what a core sends in a window.
use Rattle.std.specs.Prelude.{◌≡◌, ◌≤◌, [], vec_capacity}
use Rattle.std.specs.declared.alloc.Global.{Global}
use Rattle.std.specs.declared.vec.Vec.{Vec}
use Rattle.xs_instr.specs.declared.state.Item.{Item}

-- nothing is there, and it has room for all that a core can send to one core in a window
pub record IsRoom (items : Vec Item Global) : Type 0 where
  pub empty : items.items ≡ []
  pub room : 256 ≤ vec_capacity items
