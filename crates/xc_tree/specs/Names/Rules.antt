-- The rules 301 to 305 of names.
use Rattle.std.specs.Prelude.{◌≡◌, ℕ, ◌<◌, ◌⊎◌, List, [], slice_get, Contains, Some, codes}
use Rattle.xw_words.specs.declared.pos.Pos.{Pos}
use Rattle.xw_words.specs.declared.pos.Broken.{Broken}
use Rattle.xc_tree.specs.declared.tree.Id.{Id}
use Rattle.xc_tree.specs.declared.names.Decl.{Decl}
use Rattle.xc_tree.specs.declared.names.Mark.{Mark}
use Rattle.xc_tree.specs.declared.names.Mark.TheVariants.{Declares}
use Rattle.xc_tree.specs.Plain as plain
use Rattle.xc_tree.specs.Names.Marks.{of_program}
use Rattle.xc_tree.specs.Names.Scopes.{end_of, DeclaresAt, IsKnown}
use Rattle.xc_tree.specs.Names.Uses.{IsUse}
use Rattle.xc_tree.specs.Names.Ports.{ports, core_of_port}
use Rattle.xw_words.specs.Ports.{identifiers}
use Rattle.xc_tree.specs.Names.Calls.{IsOnCycle}

-- Rule 301: a name is used where none with its spelling is known.
pub record Breaks301 (ms : List Mark) (p : Pos) : Type 0 where
  pub at : ℕ
  pub name : Id
  pub used : IsUse ms at name
  pub unknown : (d : ℕ) → DeclaresAt ms d name.text → IsKnown ms d at → ⊥
  pub place : p ≡ name.pos

-- Rule 302: a name is declared where one with its spelling is declared before in the same scope.
pub record Breaks302 (ms : List Mark) (p : Pos) : Type 0 where
  pub first : ℕ
  pub second : ℕ
  pub decl : Decl
  pub again : slice_get ms second ≡ Some (Declares decl)
  pub before : DeclaresAt ms first decl.name.text
  pub earlier : first < second
  pub one_scope : end_of ms first ≡ end_of ms second
  pub place : p ≡ decl.name.pos

-- the identifier of port k is also that of an earlier one, and their places give one core
pub record IsUsedAgain (program : List plain.Item) (k : ℕ) (port : plain.Port) : Type 0 where
  pub other : ℕ
  pub earlier : other < k
  pub port_before : plain.Port
  pub there : slice_get (ports program) other ≡ Some port_before
  pub one_identifier : port_before.ident.text ≡ port.ident.text
  pub core : ℕ
  pub its_core : core_of_port port ≡ Some core
  pub one_core : core_of_port port_before ≡ Some core

-- Rule 303: what stands for a port's identifier is none, or is used before on the same core.
pub record Breaks303 (program : List plain.Item) (p : Pos) : Type 0 where
  pub at : ℕ
  pub port : plain.Port
  pub there : slice_get (ports program) at ≡ Some port
  pub wrong : (Contains identifiers port.ident.text → ⊥) ⊎ IsUsedAgain program at port
  pub place : p ≡ port.ident.pos

-- Rule 304: a call stands on a cycle of calls.
pub record Breaks304 (program : List plain.Item) (p : Pos) : Type 0 where
  pub at : ℕ
  pub name : Id
  pub cycle : IsOnCycle program at name
  pub place : p ≡ name.pos

-- item k is a function `main` without parameters
pub record IsMain (program : List plain.Item) (k : ℕ) : Type 0 where
  pub head : plain.Head
  pub body : plain.Statement
  pub there : slice_get program k ≡ Some (plain.function head body)
  pub spelled : head.name.text ≡ codes "main"
  pub without : head.params ≡ []

-- Rule 305: there is no function `main` without parameters.
pub record Breaks305 (program : List plain.Item) (p : Pos) : Type 0 where
  pub no_main : (k : ℕ) → IsMain program k → ⊥
  pub place : p ≡ record { line = 1; col = 1 }

-- one of the rules is broken, and where
pub data Breaks (program : List plain.Item) : Broken → Type 0 where
  unknown : {p : Pos} → Breaks301 (of_program program) p → Breaks program (record { rule = 301; pos = p })
  declared_again : {p : Pos} → Breaks302 (of_program program) p → Breaks program (record { rule = 302; pos = p })
  wrong_port : {p : Pos} → Breaks303 program p → Breaks program (record { rule = 303; pos = p })
  on_cycle : {p : Pos} → Breaks304 program p → Breaks program (record { rule = 304; pos = p })
  without_main : {p : Pos} → Breaks305 program p → Breaks program (record { rule = 305; pos = p })
