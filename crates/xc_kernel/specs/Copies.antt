-- The kernel of a program: the program with each call replaced by its function's body over instances of its own.
use Rattle.std.specs.Prelude.{◌≡◌, List, map, length}
use Rattle.xc_tree.specs.Plain as tree
use Rattle.xc_kernel.specs.Plain as kernel
use Rattle.xc_kernel.specs.Numbering.{Numbering, no_numbering}
use Rattle.xc_kernel.specs.Programs.{functions, ports, main_of, main_pos}
use Rattle.xc_kernel.specs.Copy.{numbering_in}
use Rattle.xc_kernel.specs.Calls.{CopiesCall}
use Rattle.xc_kernel.specs.Statements.{calls_copy}
use Rattle.xc_kernel.specs.Ports.{port_use}
use Rattle.xc_kernel.specs.Roots.{Rooted, context_of, roots_of}

-- How calls are copied in a program: as no function calls itself, they go at most as deep as there are functions. So the definitions
-- need no premise.
abbrev pub calls_of : List tree.Item → CopiesCall
calls_of items = calls_copy (length (functions items))

-- the roots of a program with their instances, by a numbering of instances
abbrev pub rooted : List tree.Item → Numbering → Rooted
rooted items n = roots_of (calls_of items) (main_of items) (context_of items n)

-- Its own instances in order of first sight. They don't depend on the numbering that stands in the statements.
abbrev pub numbering : List tree.Item → Numbering
numbering items = numbering_in (rooted items no_numbering).made

-- the kernel with a numbering
abbrev pub kernel_with : List tree.Item → Numbering → kernel.Kernel
kernel_with items n = record {
  roots = (rooted items n).roots;
  variables = n.variables;
  channels = n.channels;
  timers = n.timers;
  ports = map port_use (ports items);
  instances = (rooted items n).made.instances;
  main = main_pos items;
}

-- the kernel of a program
unfoldable pub copy_of : List tree.Item → kernel.Kernel
copy_of items = kernel_with items (numbering items)

-- a kernel is that of a program
pub record Copies (program : List tree.Item) (k : kernel.Kernel) : Type 0 where
  pub is_copy : k ≡ copy_of program
