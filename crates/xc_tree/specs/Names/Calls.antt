-- Which function calls which, and the calls that stand on a cycle.
use Rattle.std.specs.Prelude.{◌≡◌, ℕ, ◌+◌, ◌<◌, ◌≤◌, ◌⊎◌, List, [], ◌∷◌, length, take, slice_get, Some}
use Rattle.xc_tree.specs.declared.tree.Id.{Id}
use Rattle.xc_tree.specs.declared.names.Decl.{Decl}
use Rattle.xc_tree.specs.declared.names.What.TheVariants.{Func}
use Rattle.xc_tree.specs.declared.names.Mark.{Mark}
use Rattle.xc_tree.specs.declared.names.Mark.TheVariants.{Opens, Closes, Declares, Uses, Calls}
use Rattle.xc_tree.specs.Plain as plain
use Rattle.xc_tree.specs.Names.Marks.{of_items, of_program}
use Rattle.xc_tree.specs.Names.Scopes.{Means}

-- the names that are called in a part of the text, in its order
abbrev pub called_names : List Mark → List Id
called_names [] = []
called_names (Opens ∷ ms) = called_names ms
called_names (Closes ∷ ms) = called_names ms
called_names (Declares d ∷ ms) = called_names ms
called_names (Uses n ∷ ms) = called_names ms
called_names (Calls n ∷ ms) = n ∷ called_names ms

-- how many marks the items before item k have
abbrev pub first_of : List plain.Item → ℕ → ℕ
first_of program k = length (of_items 0 (take k program))

-- place u of the marks belongs to item f
pub record IsInItem (program : List plain.Item) (u f : ℕ) : Type 0 where
  pub begun : first_of program f ≤ u
  pub before_next : u < first_of program (f + 1)

-- The name at place u is called in item f, and means the function that is item g. A call is one of what the name means at its place:
-- where a variable hides a function, the call stands on no cycle.
pub record CallsAt (program : List plain.Item) (u f g : ℕ) (n : Id) : Type 0 where
  pub called : slice_get (of_program program) u ≡ Some (Calls n)
  pub inside : IsInItem program u f
  pub declared_at : ℕ
  pub means : Means (of_program program) u n.text declared_at
  pub decl : Decl
  pub there : slice_get (of_program program) declared_at ≡ Some (Declares decl)
  pub function : decl.what ≡ Func g

-- item g is called in item f, or in one that is called in it, and so on
pub data Reaches (program : List plain.Item) : ℕ → ℕ → Type 0 where
  directly : {f g u : ℕ} {n : Id} → CallsAt program u f g n → Reaches program f g
  through : {f g h u : ℕ} {n : Id} → CallsAt program u f g n → Reaches program g h → Reaches program f h

-- the call at place u stands on a cycle of calls: what it calls is the function that it stands in, or reaches it
pub record IsOnCycle (program : List plain.Item) (u : ℕ) (n : Id) : Type 0 where
  pub caller : ℕ
  pub callee : ℕ
  pub calls : CallsAt program u caller callee n
  pub back : (callee ≡ caller) ⊎ Reaches program callee caller
