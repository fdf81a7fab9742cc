-- A program with what its names mean, as plain data.
use Rattle.std.specs.Prelude.{◌≡◌, ℕ, ◌+◌, List, [], ◌∷◌, Option, Some, None, slice_get}
use Rattle.xc_tree.specs.declared.tree.Id.{Id}
use Rattle.xc_tree.specs.declared.names.Decl.{Decl}
use Rattle.xc_tree.specs.declared.names.What.{What}
use Rattle.xc_tree.specs.declared.names.What.TheVariants.{Func}
use Rattle.xc_tree.specs.declared.names.Mark.{Mark}
use Rattle.xc_tree.specs.declared.names.Mark.TheVariants.{Opens, Closes, Declares, Uses, Calls}
use Rattle.xc_tree.specs.declared.names.Named.{Named}
use Rattle.xc_tree.specs.Plain as plain
use Rattle.xc_tree.specs.Names.Marks.{of_program}
use Rattle.xc_tree.specs.Names.Uses.{AreUses, declarations}
use Rattle.xc_tree.specs.Trees.{program_of}

-- a program with its declarations and, for each of its names, the place of its declaration among them; all in the order of
-- the text
pub record NamedProgram : Type 0 where
  pub program : List plain.Item
  pub decls : List Decl
  pub uses : List ℕ

abbrev pub named_of : Named → NamedProgram
named_of n = record { program = program_of n.tree; decls = n.decls; uses = n.uses }

-- this is the program with its declarations, and with the declaration of each of its names
pub record IsNamed (program : List plain.Item) (named : NamedProgram) : Type 0 where
  pub program_is : named.program ≡ program
  pub decls : named.decls ≡ declarations (of_program program)
  pub uses : AreUses (of_program program) named.uses

-- a name of the text, the place of its declaration, and what it is declared as
pub record Name : Type 0 where
  pub id : Id
  pub declared : Option ℕ
  pub what : Option What

abbrev pub what_of : Option Decl → Option What
what_of None = None
what_of (Some d) = Some d.what

abbrev pub what_at : NamedProgram → Option ℕ → Option What
what_at n None = None
what_at n (Some d) = what_of (slice_get n.decls d)

-- the name before which so many others stand in the text
abbrev pub name_at : NamedProgram → ℕ → Id → Name
name_at n k i = record { id = i; declared = slice_get n.uses k; what = what_at n (slice_get n.uses k) }

-- how many names there are behind a part of the text that has these marks, and before which there are k
abbrev pub past : ℕ → List Mark → ℕ
past k [] = k
past k (Opens ∷ ms) = past k ms
past k (Closes ∷ ms) = past k ms
past k (Declares d ∷ ms) = past (k + 1) ms
past k (Uses i ∷ ms) = past (k + 1) ms
past k (Calls i ∷ ms) = past (k + 1) ms

-- the names that are used in a part of the text, before which there are k
abbrev pub names_used : NamedProgram → ℕ → List Mark → List Name
names_used n k [] = []
names_used n k (Opens ∷ ms) = names_used n k ms
names_used n k (Closes ∷ ms) = names_used n k ms
names_used n k (Declares d ∷ ms) = names_used n (k + 1) ms
names_used n k (Uses i ∷ ms) = name_at n k i ∷ names_used n (k + 1) ms
names_used n k (Calls i ∷ ms) = name_at n k i ∷ names_used n (k + 1) ms

abbrev pub head_of_item : Option plain.Item → Option plain.Head
head_of_item None = None
head_of_item (Some (plain.port p)) = None
head_of_item (Some (plain.function h b)) = Some h

-- the function that a name means
abbrev pub function_of : NamedProgram → Option What → Option plain.Head
function_of n (Some (Func k)) = head_of_item (slice_get n.program k)
function_of n other = None
