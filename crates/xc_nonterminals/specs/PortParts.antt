-- The row of symbols of a port behind its place.
use Rattle.std.specs.Prelude.{List, [], ◌∷◌}
use Rattle.xc_tree.specs.Symbol.{Symbol, a_name, dir}
use Rattle.xc_tree.specs.Terminals.{equals, semicolon}

abbrev pub port_row : List Symbol
port_row = dir ∷ a_name ∷ equals ∷ a_name ∷ semicolon ∷ []
