-- The copy of a piece of a program: its statements, and the instances that it makes.
use Rattle.std.specs.Prelude.{List, [], ◌∷◌, ◌++◌}
use Rattle.xc_kernel.specs.declared.kernel.Var.{Var}
use Rattle.xc_kernel.specs.declared.kernel.Chan.{Chan}
use Rattle.xc_kernel.specs.declared.kernel.Timer.{Timer}
use Rattle.xc_kernel.specs.declared.kernel.Inst.{Inst}
use Rattle.xc_kernel.specs.Plain as kernel
use Rattle.xc_kernel.specs.Paths.{Path}
use Rattle.xc_kernel.specs.Numbering.{Numbering, numbering_of}
use Rattle.xc_kernel.specs.Scopes.{Scope}

pub record Copy : Type 0 where
  pub code : List kernel.Statement
  -- the names that are known behind it
  pub scope : Scope
  -- what it has instances of, in order of first sight
  pub variables : List Var
  pub channels : List Chan
  pub timers : List Timer
  pub blocks : List Path
  -- the instances of functions
  pub instances : List Inst
  -- the channels that its communications name, without those in functions that it calls
  pub named : List Path

-- the copy of nothing
abbrev pub no_copy : Scope → Copy
no_copy scope = record {
  code = [];
  scope = scope;
  variables = [];
  channels = [];
  timers = [];
  blocks = [];
  instances = [];
  named = [];
}

-- the copy that is one statement
abbrev pub one_statement : Scope → kernel.Statement → Copy
one_statement scope s = record (no_copy scope) { code = s ∷ [] }

-- one copy behind another
abbrev pub joined : Copy → Copy → Copy
joined a b = record {
  code = a.code ++ b.code;
  scope = b.scope;
  variables = a.variables ++ b.variables;
  channels = a.channels ++ b.channels;
  timers = a.timers ++ b.timers;
  blocks = a.blocks ++ b.blocks;
  instances = a.instances ++ b.instances;
  named = a.named ++ b.named;
}

-- a copy, and behind it what knows its names
abbrev pub followed_by : Copy → (Scope → Copy) → Copy
followed_by a next = joined a (next a.scope)

-- the scope of a copy ends: the names are those before it
abbrev pub in_scope_of : Scope → Copy → Copy
in_scope_of scope c = record c { scope = scope }

-- the instances of a copy with other statements
abbrev pub with_code : Copy → List kernel.Statement → Copy
with_code c code = record c { code = code }

-- one more variable, seen before the others
abbrev pub with_variable : Copy → Var → Copy
with_variable c v = record c { variables = v ∷ c.variables }

-- one more block, seen before the others
abbrev pub with_block : Copy → Path → Copy
with_block c path = record c { blocks = path ∷ c.blocks }

-- all statements of a copy, as plain data
abbrev pub code_of : Copy → kernel.Statements
code_of c = kernel.statements c.code

-- the numbering of a copy's instances
abbrev pub numbering_in : Copy → Numbering
numbering_in c = numbering_of c.variables c.channels c.timers c.blocks
