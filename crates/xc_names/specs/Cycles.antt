-- Rule 304.
use Rattle.xw_words.specs.declared.pos.Pos.{Pos}
use Rattle.xw_words.specs.declared.pos.Broken.{Broken}
use Rattle.std.specs.Prelude.{List}
use Rattle.xc_tree.specs.Plain.{Item}
use Rattle.xc_tree.specs.Names.Rules.{Breaks304}

-- the program breaks rule 304
pub data HasCycle (program : List Item) : Broken → Type 0 where
  on_cycle : {p : Pos} → Breaks304 program p → HasCycle program (record { rule = 304; pos = p })
