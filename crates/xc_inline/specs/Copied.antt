-- The copy that the walk has made.
use Rattle.std.specs.Prelude.{map}
use Rattle.xc_kernel.specs.Scopes.{Scope}
use Rattle.xc_kernel.specs.Kernels.{statement_of}
use Rattle.xc_kernel.specs.Copy.{Copy}
use Rattle.xc_inline.specs.declared.copied.Copied.{Copied}

-- the copy, with the names that are known behind it
abbrev pub copy_of : Copied → Scope → Copy
copy_of c scope = record {
  code = map statement_of c.code.items;
  scope = scope;
  variables = c.variables.items;
  channels = c.channels.items;
  timers = c.timers.items;
  blocks = c.blocks.items;
  instances = c.instances.items;
  named = c.named.items;
}
