-- Where the value of an input goes, and where its time is stored, one behind the other.
use Rattle.std.specs.Prelude.{ℕ, ◌⊎◌, List, Option}
use Rattle.xc_tree.specs.declared.token.Tok.{Tok}
use Rattle.xc_tree.specs.Plain as plain
use Rattle.xc_tree.specs.Symbol.{maybe, dest, stamp}
use Rattle.xc_nonterminals.specs.declared.stop.Stop.{Stop}
use Rattle.xc_nonterminals.specs.Reading.{Reads}
use Rattle.xc_nonterminals.specs.Stops.{Stopped}

-- They are read up to k.
pub record ReadsGoal (toks : List Tok) (room i k : ℕ) (d : plain.Target) (s : Option plain.Timing) : Type 0 where
  pub middle : ℕ
  pub target : Reads toks room dest i middle d
  pub stored : Reads toks room (maybe stamp) middle k s

-- The first was refused, or the second behind it.
pub record StopsGoal (toks : List Tok) (room i : ℕ) (e : Stop) : Type 0 where
  pub stops : Stopped toks room dest i e ⊎ ((j : ℕ) × (d : plain.Target) × Reads toks room dest i j d × Stopped toks room (maybe stamp) j e)
