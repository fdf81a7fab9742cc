-- The ports of a program, and the cores of places.
use Rattle.std.specs.Prelude.{ℕ, ◌+◌, Bool, true, false, List, [], ◌∷◌, Option, Some, None, nat_le}
use Rattle.xw_words.specs.Ports.{identifiers, port_count}
use Rattle.xw_words.specs.Tables.{place_in}
use Rattle.xw_words.specs.declared.pos.Pos.{Pos}
use Rattle.xc_tree.specs.Plain as tree
use Rattle.xc_kernel.specs.declared.kernel.PortUse.{PortUse}
use Rattle.xc_kernel.specs.Values.{Value, word, error}
use Rattle.xc_kernel.specs.Numbering.{no_numbering}
use Rattle.xc_kernel.specs.Scopes.{Scope, a_port, with_name}
use Rattle.xc_kernel.specs.Expressions.{eval_in}

-- `core_of_value`, by cases
abbrev pub core_by : ℕ → Bool → ℕ
core_by v true = v
core_by v false = 255

-- the core that a place's expression names, or 255 where it names none of 0 to 3
abbrev pub core_of_value : Value → ℕ
core_of_value (word v) = core_by v (nat_le v 3)
core_of_value (error kind pos) = 255

-- what isn't placed is on core 0
abbrev pub core_of : Scope → Option tree.Place → ℕ
core_of scope None = 0
core_of scope (Some p) = core_of_value (eval_in no_numbering scope [] p.value)

-- the first token of a place's expression, or else another position
abbrev pub pos_of_place : Pos → Option tree.Place → Pos
pos_of_place other None = other
pos_of_place other (Some p) = p.first

-- The port of a place among all, or else the number of ports. No program that breaks no rule of names has an identifier that no port
-- has.
abbrev pub port_at : Option ℕ → ℕ
port_at None = port_count
port_at (Some port) = port

-- the kernel's entry for a port
abbrev pub port_use : tree.Port → PortUse
port_use p = record {
  id = port_at (place_in identifiers p.ident.text);
  dir = p.dir;
  core = core_of [] p.place;
  place = pos_of_place p.name.pos p.place;
  pos = p.name.pos;
}

-- the names of ports, which have the numbers from n on
abbrev pub scope_of_ports : ℕ → List tree.Port → Scope
scope_of_ports n [] = []
scope_of_ports n (p ∷ ps) = with_name (scope_of_ports (n + 1) ps) p.name.text (a_port n)
