-- The roots that the walk has made.
use Rattle.std.specs.Prelude.{List, [], map, length}
use Rattle.xc_kernel.specs.Kernels.{root_of}
use Rattle.xc_kernel.specs.Copy.{numbering_in}
use Rattle.xc_kernel.specs.Numbering.{Numbering, no_numbering}
use Rattle.xc_kernel.specs.Programs.{Function, function_named, name_of_main}
use Rattle.xc_kernel.specs.Roots as spec
use Rattle.xc_kernel.specs.Scopes.{Scope}
use Rattle.xc_kernel.specs.Statements.{calls_copy}
use Rattle.xc_inline.specs.Copied.{copy_of}
use Rattle.xc_inline.specs.declared.roots.Rooted.{Rooted}

-- the roots, with the names that are known behind them
abbrev pub rooted_of : Rooted → Scope → spec.Rooted
rooted_of r scope = record { made = copy_of r.made scope; roots = map root_of r.roots }

-- the roots of a program by its functions, the names of its ports, and a numbering of instances
abbrev pub rooted_by : List Function → Scope → Numbering → spec.Rooted
rooted_by functions ports numbering =
    spec.roots_of (calls_copy (length functions)) (function_named functions name_of_main)
    (record { functions = functions; ports = ports; numbering = numbering; core = 0; path = []; result = []; returns = []; breaks = []; continues = [] })

-- the numbering of a program's instances, which its roots make whatever the numbering
abbrev pub numbering_by : List Function → Scope → Numbering
numbering_by functions ports = numbering_in (rooted_by functions ports no_numbering).made
