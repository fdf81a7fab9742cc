-- Rule 509: how large a program may be with all its copies.
use Rattle.std.specs.Prelude.{◌≡◌, ◌⊎◌, ℕ, ◌<◌, List}
use Rattle.xw_words.specs.declared.pos.Broken.{Broken}
use Rattle.xc_tree.specs.Plain as tree
use Rattle.xc_kernel.specs.Programs.{main_pos}
use Rattle.xc_kernel.specs.Counts.{statements_of}
use Rattle.xc_kernel.specs.Nodes.{nodes_of}
use Rattle.xc_kernel.specs.Depths.{depth_of}

-- The limits. The counts of xc_size go no further than one above these, so they are exact up to the limit, which is all that the rule
-- asks.
abbrev pub most_statements : ℕ
most_statements = 100000

abbrev pub most_nodes : ℕ
most_nodes = 1000000

abbrev pub greatest_depth : ℕ
greatest_depth = 1000

-- some count of a program is above its limit
abbrev pub IsTooLarge : List tree.Item → Type 0
IsTooLarge program = (most_statements < statements_of program) ⊎ ((most_nodes < nodes_of program) ⊎ (greatest_depth < depth_of program))

-- a program that is too large breaks rule 509 at main's name
pub record Breaks509 (program : List tree.Item) (broken : Broken) : Type 0 where
  pub too_large : IsTooLarge program
  pub rule : broken.rule ≡ 509
  pub place : broken.pos ≡ main_pos program
