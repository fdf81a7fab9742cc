-- What a name stands for in the copy of a program, against what the name is declared as.
use Rattle.std.specs.Prelude.{◌≡◌, ℕ, ◌<◌, Bool, true, false, List, length, Option, Some, None, slice_get, option_map}
use Rattle.xc_tree.specs.declared.tree.TreeDir.{TreeDir}
use Rattle.xw_words.specs.declared.pos.Pos.{Pos}
use Rattle.xc_tree.specs.declared.names.Decl.{Decl}
use Rattle.xc_tree.specs.declared.names.What.{What}
use Rattle.xc_tree.specs.declared.names.What.TheVariants as what
use Rattle.xc_tree.specs.Plain as tree
use Rattle.xc_tree.specs.Types.Named.{NamedProgram, what_of, function_of}
use Rattle.xc_kernel.specs.declared.kernel.Var.{Var}
use Rattle.xc_kernel.specs.declared.kernel.PortUse.{PortUse}
use Rattle.xc_kernel.specs.Paths.{Path, path_at}
use Rattle.xc_kernel.specs.Numbering.{Numbering, variable_number, channel_number, timer_number}
use Rattle.xc_kernel.specs.Scopes.{Scope, Entity, a_word, an_array, an_element, a_channel, a_timer, a_port, a_constant, nothing_known, entity_of}
use Rattle.xc_kernel.specs.Programs.{Function, function_named}
use Rattle.xc_wellformed.specs.Stacks.{Stack, found}

-- nothing is asked of a path
abbrev pub AnyPath : Path → Type 0
AnyPath path = Unit {0}

-- the variable of this path is in the kernel's list, an array or not, of so many words, and this
-- holds of its path
pub record HasVariable (n : Numbering) (H : Path → Type 0) (path : Path) (is_array : Bool) (words : ℕ) : Type 0 where
  pub variable : Var
  pub there : slice_get n.variables (variable_number n path) ≡ Some variable
  pub array : variable.array ≡ is_array
  pub long : variable.words ≡ words
  pub holds : H path

abbrev pub HasChannel : Numbering → Path → Type 0
HasChannel n path = channel_number n path < length n.channels

-- so is a timer of this path, and this holds of it
abbrev pub HasTimer : Numbering → (Path → Type 0) → Path → Type 0
HasTimer n J path = (timer_number n path < length n.timers) × J path

-- a port of this direction is in the kernel's list
pub record HasPort (ps : List PortUse) (number : ℕ) (d : TreeDir) : Type 0 where
  pub port : PortUse
  pub there : slice_get ps number ≡ Some port
  pub direction : port.dir ≡ d

abbrev pub head_of : Function → tree.Head
head_of f = f.head

-- a length is this, where it is told
abbrev pub IsTold : Option ℕ → ℕ → Type 0
IsTold None m = Unit {0}
IsTold (Some l) m = l ≡ m

-- an instance of what is declared so, an array with its variable's words as its length, which is the
-- declared one where one is told; H holds of each variable's path and J of each timer's
pub data Denotes (n : NamedProgram) (fs : List Function) (ps : List PortUse) (num : Numbering) (H J : Path → Type 0) (t : List ℕ) : Option What → Entity → Type 0 where
  a_variable : {u : Bool} {path : Path} → HasVariable num H path false 1 →
      Denotes n fs ps num H J t (Some (what.Word u)) (a_word path u)
  whole_array : {u : Bool} {l : ℕ} {path : Path} → HasVariable num H path true l →
      Denotes n fs ps num H J t (Some (what.Array u l)) (an_array path l u)
  word_referred : {u : Bool} {path : Path} → HasVariable num H path false 1 →
      Denotes n fs ps num H J t (Some (what.Ref u)) (a_word path u)
  element_referred : {u : Bool} {m : ℕ} {path index : Path} →
      HasVariable num H path true m → HasVariable num H index false 1 →
      Denotes n fs ps num H J t (Some (what.Ref u)) (an_element path index u)
  array_referred : {u : Bool} {l : Option ℕ} {m : ℕ} {path : Path} → IsTold l m → HasVariable num H path true m →
      Denotes n fs ps num H J t (Some (what.ArrayParam u l)) (an_array path m u)
  the_channel : {s : Bool} {path : Path} → HasChannel num path →
      Denotes n fs ps num H J t (Some (what.Chan s)) (a_channel path)
  the_end : {s : Bool} {path : Path} → HasChannel num path →
      Denotes n fs ps num H J t (Some (what.End s)) (a_channel path)
  the_timer : {path : Path} → HasTimer num J path →
      Denotes n fs ps num H J t (Some what.Timer) (a_timer path)
  the_port : {d : TreeDir} {number : ℕ} → HasPort ps number d →
      Denotes n fs ps num H J t (Some (what.Port d)) (a_port number)
  port_given : {d : TreeDir} {number : ℕ} → HasPort ps number d →
      Denotes n fs ps num H J t (Some (what.PortParam d)) (a_port number)
  the_index : {v : ℕ} → Denotes n fs ps num H J t (Some what.Index) (a_constant v)
  -- functions aren't among the names of the copy; one is found by its name among the functions
  the_function : {g : ℕ} → function_of n (Some (what.Func g)) ≡ option_map head_of (function_named fs t) →
      Denotes n fs ps num H J t (Some (what.Func g)) nothing_known
  none_there : Denotes n fs ps num H J t None nothing_known

-- an instance is named by the place where it is declared, behind some path
abbrev pub EndsAt : Path → Pos → Type 0
EndsAt path pos = (own : Path) × (path ≡ path_at own pos)

abbrev pub IsWordAt : Pos → Entity → Type 0
IsWordAt pos (a_word path u) = EndsAt path pos
IsWordAt pos other = ⊥

abbrev pub IsArrayAt : Pos → Entity → Type 0
IsArrayAt pos (an_array path length u) = EndsAt path pos
IsArrayAt pos other = ⊥

abbrev pub IsChannelAt : Pos → Entity → Type 0
IsChannelAt pos (a_channel path) = EndsAt path pos
IsChannelAt pos other = ⊥

abbrev pub IsTimerAt : Pos → Entity → Type 0
IsTimerAt pos (a_timer path) = EndsAt path pos
IsTimerAt pos other = ⊥

abbrev pub IsPortAt : List PortUse → Pos → Entity → Type 0
IsPortAt ps pos (a_port number) =
    (port : PortUse) × (slice_get ps number ≡ Some port) × (port.pos ≡ pos)
IsPortAt ps pos other = ⊥

-- what is declared at a place as this; a parameter by reference, for an array, an end or a port
-- stands for what the call gives it
abbrev pub InstanceOf : List PortUse → Pos → What → Entity → Type 0
InstanceOf ps pos (what.Word u) x = IsWordAt pos x
InstanceOf ps pos (what.Array u l) x = IsArrayAt pos x
InstanceOf ps pos (what.Chan s) x = IsChannelAt pos x
InstanceOf ps pos what.Timer x = IsTimerAt pos x
InstanceOf ps pos (what.Port d) x = IsPortAt ps pos x
InstanceOf ps pos other x = Unit {0}

-- an instance of a declaration
abbrev pub IsInstance : List PortUse → Option Decl → Entity → Type 0
IsInstance ps None x = Unit {0}
IsInstance ps (Some d) x = InstanceOf ps d.name.pos d.what x

-- in the copy's scope each name stands for an instance of what the stack of the text's open scopes
-- has for it
abbrev pub Agrees : NamedProgram → List Function → List PortUse → Numbering → (H J : Path → Type 0) → Stack → Scope → Type 0
Agrees n fs ps num H J st scope =
    (t : List ℕ) → Denotes n fs ps num H J t (what_of (found st t)) (entity_of scope t) × IsInstance ps (found st t) (entity_of scope t)
