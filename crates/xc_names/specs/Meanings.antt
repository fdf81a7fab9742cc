-- For each place of the marks the declaration that its name means.
use Rattle.std.specs.Prelude.{◌≡◌, ℕ, List, length, slice_get, Option, Some, None}
use Rattle.xc_tree.specs.declared.names.Mark.{Mark}
use Rattle.xc_tree.specs.declared.names.Mark.TheVariants.{Opens, Closes, Declares, Uses, Calls}
use Rattle.xc_tree.specs.Names.Scopes.{DeclaresAt, IsKnown, Means}

-- how the name is spelled that a mark has, if it has one
abbrev pub spelling_of : Mark → Option (List ℕ)
spelling_of Opens = None
spelling_of Closes = None
spelling_of (Declares d) = Some d.name.text
spelling_of (Uses n) = Some n.text
spelling_of (Calls n) = Some n.text

-- a name with this spelling stands at place i
pub record IsSpelledAt (ms : List Mark) (i : ℕ) (t : List ℕ) : Type 0 where
  pub mark : Mark
  pub there : slice_get ms i ≡ Some mark
  pub spelled : spelling_of mark ≡ Some t

-- the declaration that a name at place i means, or none where none is known
pub data Meaning (ms : List Mark) (i : ℕ) (t : List ℕ) : Option ℕ → Type 0 where
  means : {d : ℕ} → Means ms i t d → Meaning ms i t (Some d)
  unknown : ((e : ℕ) → DeclaresAt ms e t → IsKnown ms e i → ⊥) → Meaning ms i t None

-- a meaning is kept for place i
pub record IsMeantAt (ms : List Mark) (meant : List (Option ℕ)) (i : ℕ) (t : List ℕ) : Type 0 where
  pub found : Option ℕ
  pub there : slice_get meant i ≡ Some found
  pub right : Meaning ms i t found

-- these are the meanings of the names at all places
pub record AreMeanings (ms : List Mark) (meant : List (Option ℕ)) : Type 0 where
  pub one_each : length meant ≡ length ms
  pub each : (i : ℕ) (t : List ℕ) → IsSpelledAt ms i t → IsMeantAt ms meant i t

-- how the name is spelled that a mark declares, if it declares one
abbrev pub declared_by : Mark → Option (List ℕ)
declared_by Opens = None
declared_by Closes = None
declared_by (Declares d) = Some d.name.text
declared_by (Uses n) = None
declared_by (Calls n) = None
