-- The branches that wait for the one that a thread runs.
use Rattle.std.specs.Prelude.{ℕ, List, [], ◌∷◌, Option, Some, None}
use Rattle.xc_meaning.specs.States.Items.{Item}
use Rattle.xl_ends.specs.Ends.{Sides}

-- A branch that waits for those of its `par`, the first of which its own thread runs: its number, theirs, the synchroniser of the other
-- ones where there are some, what is left to it, the sides of channels in which it stands, and the transactions, the innermost first.
pub record Parent : Type 0 where
  pub branch : ℕ
  pub from : ℕ
  pub count : ℕ
  pub sync : Option ℕ
  pub items : List Item
  pub sides : Sides
  pub inside : List ℕ

-- `syncs_of`, by cases
abbrev pub sync_before : Option ℕ → List ℕ → List ℕ
sync_before None ns = ns
sync_before (Some n) ns = n ∷ ns

-- their synchronisers
abbrev pub syncs_of : List Parent → List ℕ
syncs_of [] = []
syncs_of (p ∷ ps) = sync_before p.sync (syncs_of ps)

-- their numbers
abbrev pub branches_of : List Parent → List ℕ
branches_of [] = []
branches_of (p ∷ ps) = p.branch ∷ branches_of ps
