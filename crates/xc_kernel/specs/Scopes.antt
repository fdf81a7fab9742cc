-- What names stand for at a place of a program.
use Rattle.std.specs.Prelude.{ℕ, Bool, true, false, List, [], ◌∷◌, bytes_eq}
use Rattle.xc_tree.specs.Plain as tree
use Rattle.xc_kernel.specs.Types.{NameType, of_word, of_array, of_other, is_unsigned_by}
use Rattle.xc_kernel.specs.Paths.{Path}

-- what a name stands for
pub data Entity : Type 0 where
  -- a variable, or a parameter that holds a word
  a_word : Path → (is_unsigned : Bool) → Entity
  an_array : Path → (length : ℕ) (is_unsigned : Bool) → Entity
  -- an element that an `&` parameter stands for: its array, and the variable that holds the tested index
  an_element : (array index : Path) (is_unsigned : Bool) → Entity
  a_channel : Path → Entity
  a_timer : Path → Entity
  -- a port, by its place among the declared ones
  a_port : ℕ → Entity
  -- the index of a replicated `par` in one of its branches
  a_constant : ℕ → Entity
  -- where no such name is declared
  nothing_known : Entity

-- a name, and what it stands for
pub record Binding : Type 0 where
  pub name : List ℕ
  pub entity : Entity

-- the names that are known, the innermost first
abbrev pub Scope : Type 0
Scope = List Binding

-- a name before the others, which it hides
abbrev pub with_name : Scope → List ℕ → Entity → Scope
with_name scope name entity = record { name = name; entity = entity } ∷ scope

-- `entity_of`, by cases
abbrev pub entity_by : Bool → Entity → Entity → Entity
entity_by true here outside = here
entity_by false here outside = outside

-- what a name stands for
abbrev pub entity_of : Scope → List ℕ → Entity
entity_of [] name = nothing_known
entity_of (b ∷ bs) name = entity_by (bytes_eq b.name name) b.entity (entity_of bs name)

-- the type of an entity; the index of a replicated `par` is an `int`
abbrev pub type_of_entity : Entity → NameType
type_of_entity (a_word path is_unsigned) = of_word is_unsigned
type_of_entity (an_array path length is_unsigned) = of_array is_unsigned
type_of_entity (an_element array index is_unsigned) = of_word is_unsigned
type_of_entity (a_constant v) = of_word false
type_of_entity other = of_other

-- the type of what a name stands for
abbrev pub type_of_name : Scope → List ℕ → NameType
type_of_name scope name = type_of_entity (entity_of scope name)

-- whether an expression is a word that is `unsigned`
abbrev pub is_unsigned : Scope → tree.Expression → Bool
is_unsigned scope e = is_unsigned_by (type_of_name scope) e
