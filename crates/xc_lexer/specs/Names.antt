-- What the names defined so far stand for.
use Rattle.std.specs.Ordering.{nat_cmp}
use Rattle.std.specs.Cmp.Lexicographic.{slice_cmp}
use Rattle.std.specs.BTreeMap.{get_by}
use Rattle.xc_tree.specs.Pieces.{Numbers}
use Rattle.xc_lexer.specs.declared.names.Names.{Names}

-- the number of each name in the map
abbrev pub numbers_of : Names → Numbers
numbers_of names = λ name. get_by (λ key. slice_cmp nat_cmp name key.now) names.numbers
