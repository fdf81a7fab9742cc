-- Sizes above the limits.
use Rattle.std.specs.Prelude.{◌<◌, ◌⊎◌}
use Rattle.xw_words.specs.declared.pos.Pos.{Pos}
use Rattle.xw_words.specs.declared.pos.Broken.{Broken}
use Rattle.xc_kernel.specs.Size.{most_statements, most_nodes, greatest_depth}
use Rattle.xc_size.specs.declared.size.Size.{Size}

-- one of the counts is above its limit
abbrev pub IsAbove : Size → Type 0
IsAbove size = (most_statements < size.statements) ⊎ ((most_nodes < size.nodes) ⊎ (greatest_depth < size.depth))

-- rule 509 at a place
abbrev pub rule_509 : Pos → Broken
rule_509 pos = record { rule = 509; pos = pos }
