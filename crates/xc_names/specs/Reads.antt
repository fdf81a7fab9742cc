-- The walk over the marks that finds what names mean. Of each spelling it keeps the declaration that was seen last, and of
-- each declaration the one that its name meant before.
use Rattle.std.specs.Prelude.{◌≡◌, ℕ, ◌<◌, ◌≤◌, ◌⊎◌, List, length, slice_get, get_or, Bool, false, not, nat_eq, nat_lt, ◌&&◌, is_some, Option, Some, None}
use Rattle.xc_tree.specs.declared.names.Mark.{Mark}
use Rattle.xc_names.specs.declared.meanings.Walk.{Walk}
use Rattle.xc_names.specs.Latest.{latest_of}
use Rattle.xc_tree.specs.Names.Scopes.{end_of, DeclaresAt, IsKnown, IsWithin}
use Rattle.xc_names.specs.Ends.{AreEnds}
use Rattle.xc_names.specs.Meanings.{declared_by, IsSpelledAt, IsMeantAt}

-- the scope of this declaration, if it is one, ends behind e
pub data EndsBehind (ends : List ℕ) (e : ℕ) : Option ℕ → Type 0 where
  no_scope : EndsBehind ends e None
  behind : {d f : ℕ} → slice_get ends d ≡ Some f → e < f → EndsBehind ends e (Some d)

-- from one declaration outwards the first whose scope hasn't ended at place u
pub data Finds (ends : List ℕ) (outer : List (Option ℕ)) (u : ℕ) : Option ℕ → Option ℕ → Type 0 where
  nothing : Finds ends outer u None None
  open_still : {d e : ℕ} → slice_get ends d ≡ Some e → u < e → Finds ends outer u (Some d) (Some d)
  ended : {d e : ℕ} {o r : Option ℕ} → slice_get ends d ≡ Some e → e ≤ u → slice_get outer d ≡ Some o → EndsBehind ends e o → Finds ends outer u o r → Finds ends outer u (Some d) r

-- one of these is found
pub record IsFound (ends : List ℕ) (outer : List (Option ℕ)) (u : ℕ) (from : Option ℕ) : Type 0 where
  pub found : Option ℕ
  pub finds : Finds ends outer u from found

-- place e stands before place i, or its scope is the program
abbrev pub IsSeen : List Mark → ℕ → ℕ → Type 0
IsSeen ms i e = (e < i) ⊎ (end_of ms e ≡ length ms)

-- of the declarations that were seen before place i, this is the one that a name at place u means
pub data Answer (ms : List Mark) (i u : ℕ) (t : List ℕ) : Option ℕ → Type 0 where
  best : {d : ℕ} → DeclaresAt ms d t → IsSeen ms i d → IsKnown ms d u → ((e : ℕ) → DeclaresAt ms e t → IsSeen ms i e → IsKnown ms e u → IsWithin ms d e) → Answer ms i u t (Some d)
  none_known : ((e : ℕ) → DeclaresAt ms e t → IsSeen ms i e → IsKnown ms e u → ⊥) → Answer ms i u t None

-- from this declaration on it is found
pub record Answers (ms : List Mark) (ends : List ℕ) (outer : List (Option ℕ)) (i u : ℕ) (t : List ℕ) (from : Option ℕ) : Type 0 where
  pub found : Option ℕ
  pub finds : Finds ends outer u from found
  pub right : Answer ms i u t found

-- the marks before place i are read, and what names mean there is known
pub record HasRead (ms : List Mark) (ends : List ℕ) (latest : List ℕ → Option ℕ) (outer meant : List (Option ℕ)) (i : ℕ) : Type 0 where
  pub are_ends : AreEnds ms ends
  pub outer_count : length outer ≡ i
  pub count : length meant ≡ i
  pub finds : (t : List ℕ) (u : ℕ) → i ≤ u → u < length ms → Answers ms ends outer i u t (latest t)
  pub each : (j : ℕ) (t : List ℕ) → j < i → IsSpelledAt ms j t → IsMeantAt ms meant j t

-- the marks before place i have been read
abbrev pub HasReadTo : List Mark → List ℕ → Walk → ℕ → Type 0
HasReadTo ms ends walk i = HasRead ms ends (latest_of walk.latest) walk.outer walk.meant i

-- of the declarations before place k that are known in the whole text, the first with this spelling
pub data FirstGlobal (ms : List Mark) (k : ℕ) (t : List ℕ) : Option ℕ → Type 0 where
  first : {d : ℕ} → d < k → DeclaresAt ms d t → end_of ms d ≡ length ms → ((e : ℕ) → e < k → DeclaresAt ms e t → end_of ms e ≡ length ms → d ≤ e) → FirstGlobal ms k t (Some d)
  absent : ((e : ℕ) → e < k → DeclaresAt ms e t → end_of ms e ≡ length ms → ⊥) → FirstGlobal ms k t None

-- those before place k are kept
pub record HasGlobals (ms : List Mark) (latest : List ℕ → Option ℕ) (k : ℕ) : Type 0 where
  pub each : (t : List ℕ) → FirstGlobal ms k t (latest t)

-- what was found ends where the scope of a place ends
abbrev pub ends_with : List ℕ → ℕ → Option ℕ → Bool
ends_with ends i None = false
ends_with ends i (Some d) = nat_eq (get_or ends d 0) (get_or ends i 0)

-- a mark declares a name in an inner scope, and what was found isn't declared in that scope
abbrev pub adds_one : Mark → List ℕ → ℕ → Option ℕ → Bool
adds_one m ends i found = is_some (declared_by m) && (nat_lt (get_or ends i 0) (length ends) && not (ends_with ends i found))
