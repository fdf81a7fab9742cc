-- The names of ports.
use Rattle.std.specs.Prelude.{ℕ, List, map}
use Rattle.std.specs.Borrow.{Bor}
use Rattle.xc_tree.specs.Plain as tree

-- the texts that are lent
abbrev pub names_among : List (Bor (List ℕ)) → List (List ℕ)
names_among names = map (λ name. name.now) names

-- the names of declared ports
abbrev pub names_of_ports : List tree.Port → List (List ℕ)
names_of_ports ports = map (λ p. p.name.text) ports
