-- Which functions are called: their numbers, in the order of the text, and none for a name that no function has.
use Rattle.std.specs.Prelude.{ℕ, List, Option, map}
use Rattle.xc_tree.specs.declared.names.Mark.{Mark}
use Rattle.xc_tree.specs.declared.tree.Id.{Id}
use Rattle.xc_tree.specs.declared.tree.Stmt.{Stmt}
use Rattle.xc_tree.specs.Names.Calls.{called_names}
use Rattle.xc_tree.specs.Names.Marks as marks
use Rattle.xc_tree.specs.Trees as tree

-- in a part of the text, by the numbers of names
abbrev pub called_numbers : (List ℕ → Option ℕ) → List Mark → List (Option ℕ)
called_numbers number ms = map (λ (n : Id). number n.text) (called_names ms)

-- in a statement
abbrev pub callees_of : (List ℕ → Option ℕ) → Stmt → List (Option ℕ)
callees_of number s = called_numbers number (marks.of_statement (tree.statement_of s))
