-- The declarations of a program, and for each of its names the place of its declaration among them.
use Rattle.std.specs.Prelude.{◌≡◌, ℕ, ◌+◌, ◌⊎◌, List, [], ◌∷◌, ◌++◌, length, take, slice_get, Some}
use Rattle.xc_tree.specs.declared.tree.Id.{Id}
use Rattle.xc_tree.specs.declared.names.Decl.{Decl}
use Rattle.xc_tree.specs.declared.names.Mark.{Mark}
use Rattle.xc_tree.specs.declared.names.Mark.TheVariants.{Opens, Closes, Declares, Uses, Calls}
use Rattle.xc_tree.specs.Names.Scopes.{Means}

-- all declarations, in the order of the text
abbrev pub declarations : List Mark → List Decl
declarations [] = []
declarations (Opens ∷ ms) = declarations ms
declarations (Closes ∷ ms) = declarations ms
declarations (Declares d ∷ ms) = d ∷ declarations ms
declarations (Uses n ∷ ms) = declarations ms
declarations (Calls n ∷ ms) = declarations ms

-- how many declarations stand before place d
abbrev pub number_of : List Mark → ℕ → ℕ
number_of ms d = length (declarations (take d ms))

-- a name that isn't declared here but used stands at place u
abbrev pub IsUse : List Mark → ℕ → Id → Type 0
IsUse ms u n = (slice_get ms u ≡ Some (Uses n)) ⊎ (slice_get ms u ≡ Some (Calls n))

-- at each place up to i stands a begin or an end of a scope, or a name whose entry in this list is the number of its
-- declaration: its own, or the one that it means
pub data Entries (ms : List Mark) : ℕ → List ℕ → Type 0 where
  none : Entries ms 0 []
  past_begin : {i : ℕ} {ns : List ℕ} → Entries ms i ns → slice_get ms i ≡ Some Opens → Entries ms (i + 1) ns
  past_end : {i : ℕ} {ns : List ℕ} → Entries ms i ns → slice_get ms i ≡ Some Closes → Entries ms (i + 1) ns
  declared : {i : ℕ} {ns : List ℕ} {d : Decl} → Entries ms i ns → slice_get ms i ≡ Some (Declares d) → Entries ms (i + 1) (ns ++ number_of ms i ∷ [])
  used : {i : ℕ} {ns : List ℕ} {n : Id} (d : ℕ) → Entries ms i ns → IsUse ms i n → Means ms i n.text d → Entries ms (i + 1) (ns ++ number_of ms d ∷ [])

-- these are the entries of all names, in the order of the text
abbrev pub AreUses : List Mark → List ℕ → Type 0
AreUses ms ns = Entries ms (length ms) ns
