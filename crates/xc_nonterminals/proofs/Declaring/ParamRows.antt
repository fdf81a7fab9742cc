-- Rows of parameters.
use Rattle.std.proofs.Common.{true, List, []}
use Rattle.xc_tree.specs.declared.tree.Param.{Param}
use Rattle.xc_tree.specs.Symbol.{param}
use Rattle.xc_nonterminals.proofs.Reading.Loops.{Run}

-- a row of parameters as the whole of them
abbrev pub row_of_params : Run (List Param)
row_of_params = record { need = 0; above = 0; symbol = param; parts = []; fits = λ x. true; make = λ e x. x.0 }
