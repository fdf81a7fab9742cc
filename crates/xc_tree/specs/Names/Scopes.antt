-- Where a declared name is known, and which declaration a name means. Places are counted in the marks of a program.
use Rattle.std.specs.Prelude.{◌≡◌, ℕ, zero, suc, ◌+◌, ◌<◌, ◌≤◌, ◌⊎◌, List, [], ◌∷◌, length, drop, slice_get, Some}
use Rattle.xc_tree.specs.declared.names.Decl.{Decl}
use Rattle.xc_tree.specs.declared.names.Mark.{Mark}
use Rattle.xc_tree.specs.declared.names.Mark.TheVariants.{Opens, Closes, Declares, Uses, Calls}

-- how far it is to the end of the scope that is open here, where so many more have begun since; the scope of the program
-- ends with the text
abbrev pub to_end : ℕ → List Mark → ℕ
to_end inner [] = 0
to_end inner (Opens ∷ ms) = suc (to_end (suc inner) ms)
to_end zero (Closes ∷ ms) = 0
to_end (suc inner) (Closes ∷ ms) = suc (to_end inner ms)
to_end inner (Declares d ∷ ms) = suc (to_end inner ms)
to_end inner (Uses n ∷ ms) = suc (to_end inner ms)
to_end inner (Calls n ∷ ms) = suc (to_end inner ms)

-- The place at which the innermost scope around place i ends; two places are in one scope where theirs end at one place. Of several
-- scopes around a place the innermost is the one that ends first.
abbrev pub end_of : List Mark → ℕ → ℕ
end_of ms i = i + to_end 0 (drop i ms)

-- a name with this spelling is declared at place d
pub record DeclaresAt (ms : List Mark) (d : ℕ) (t : List ℕ) : Type 0 where
  pub decl : Decl
  pub there : slice_get ms d ≡ Some (Declares decl)
  pub spelled : decl.name.text ≡ t

-- what is declared at place d is known at place u: from its own place on, and where its scope is the program in the whole
-- text, up to the end of its scope
pub record IsKnown (ms : List Mark) (d u : ℕ) : Type 0 where
  pub begun : (d ≤ u) ⊎ (end_of ms d ≡ length ms)
  pub open_still : u < end_of ms d

-- the scope of place d lies within that of place e, or they are in one scope and d comes no later
abbrev pub IsWithin : List Mark → ℕ → ℕ → Type 0
IsWithin ms d e = (end_of ms d < end_of ms e) ⊎ ((end_of ms d ≡ end_of ms e) × (d ≤ e))

-- A name at place u means the declaration at place d: of all with its spelling that are known there, that of the innermost
-- scope, and of one scope the first. So it is of functions too.
pub record Means (ms : List Mark) (u : ℕ) (t : List ℕ) (d : ℕ) : Type 0 where
  pub declared : DeclaresAt ms d t
  pub known : IsKnown ms d u
  pub innermost : (e : ℕ) → DeclaresAt ms e t → IsKnown ms e u → IsWithin ms d e
