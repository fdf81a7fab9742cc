-- What the names stand for that the walk knows.
use Rattle.std.specs.Prelude.{List, [], ◌∷◌, Option, Some, None}
use Rattle.std.specs.Borrow.{Bor}
use Rattle.xc_kernel.specs.Scopes as spec
use Rattle.xc_inline.specs.declared.scope.Entity.{Entity}
use Rattle.xc_inline.specs.declared.scope.Entity.TheVariants.{Word, Array, Element, Channel, Timer, Port, Constant, Unknown}
use Rattle.xc_inline.specs.declared.scope.Binding.{Binding}
use Rattle.xc_inline.specs.declared.scope.Scope.{Scope}

-- what an entity stands for
abbrev pub entity_meant : Entity → spec.Entity
entity_meant (Word path u) = spec.a_word path u
entity_meant (Array path n u) = spec.an_array path n u
entity_meant (Element array index u) = spec.an_element array index u
entity_meant (Channel path) = spec.a_channel path
entity_meant (Timer path) = spec.a_timer path
entity_meant (Port n) = spec.a_port n
entity_meant (Constant v) = spec.a_constant v
entity_meant Unknown = spec.nothing_known

-- what was found for a name
abbrev pub entity_found : Option (Bor Entity) → spec.Entity
entity_found None = spec.nothing_known
entity_found (Some e) = entity_meant e.now

-- names that are declared one behind the other
abbrev pub declared_in : spec.Scope → List Binding → spec.Scope
declared_in scope [] = scope
declared_in scope (b ∷ bs) = declared_in (spec.with_name scope b.name.now (entity_meant b.entity)) bs

-- the names that are known
abbrev pub scope_of : Scope → spec.Scope
scope_of s = declared_in [] s.names.items
