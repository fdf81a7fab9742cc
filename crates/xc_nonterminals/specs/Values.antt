-- What the parts that the parser reads stand for.
use Rattle.xc_tree.specs.Symbol as symbol
use Rattle.xc_tree.specs.Plain as plain
use Rattle.xc_nonterminals.specs.declared.expected.Numeral.{Numeral}
use Rattle.xc_nonterminals.specs.declared.functions.FunctionHead.{FunctionHead}

abbrev pub numeral_of : Numeral → symbol.Numeral
numeral_of n = record { value = n.value; is_unsigned = n.is_unsigned; pos = n.pos }

abbrev pub head_of : FunctionHead → plain.Head
head_of h = record { result = h.result; name = h.name; params = h.params; own = h.own }
