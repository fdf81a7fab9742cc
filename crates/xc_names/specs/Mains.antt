-- The function `main`.
use Rattle.std.specs.Prelude.{Bool, false, ◌&&◌, nat_eq, List, length, codes}
use Rattle.std.specs.Cmp.Lexicographic.{pointwise}
use Rattle.xw_words.specs.declared.pos.Pos.{Pos}
use Rattle.xw_words.specs.declared.pos.Broken.{Broken}
use Rattle.xc_tree.specs.Plain as plain
use Rattle.xc_tree.specs.Names.Rules.{Breaks305}

-- the program breaks rule 305
pub data IsMainless (program : List plain.Item) : Broken → Type 0 where
  mainless : {p : Pos} → Breaks305 program p → IsMainless program (record { rule = 305; pos = p })

-- an item is a function `main` without parameters
abbrev pub is_main : plain.Item → Bool
is_main (plain.port p) = false
is_main (plain.function h b) = pointwise nat_eq h.name.text (codes "main") && nat_eq (length h.params) 0
