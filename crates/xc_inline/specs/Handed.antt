-- What is handed to the parameters of a function.
use Rattle.std.specs.Prelude.{◌≡◌}
use Rattle.xc_kernel.specs.Scopes.{Scope}
use Rattle.xc_kernel.specs.Copy.{Copy, no_copy}
use Rattle.xc_kernel.specs.Parameters.{Passed}
use Rattle.xc_inline.specs.Copied.{copy_of}
use Rattle.xc_inline.specs.Scopes.{entity_meant}
use Rattle.xc_inline.specs.declared.parameters.Handed.{Handed}

-- the copy of what a call stores for a parameter
abbrev pub passed_copy : Passed → Scope → Copy
passed_copy p scope = record (no_copy scope) { code = p.code; variables = p.variables }

-- what the walk hands to a parameter is what is passed
pub record IsPassed (p : Passed) (h : Handed) : Type 0 where
  pub copy : (scope : Scope) → copy_of h.copied scope ≡ passed_copy p scope
  pub entity : entity_meant h.entity ≡ p.entity
