-- The law.
use Rattle.std.specs.Prelude.{◌≤◌, Bool, List}
use Rattle.xc_tree.specs.declared.token.Tok.{Tok}
use Rattle.xc_tree.specs.Depth as depth
use Rattle.xc_tree.specs.Derives.{IsProgram, deepest}
use Rattle.xc_tree.specs.Plain as tree
use Rattle.xc_tree.specs.Types.Named.{NamedProgram}
use Rattle.xc_kernel.specs.Copies.{Copies}
use Rattle.xc_kernel.specs.Plain as kernel
use Rattle.xc_kernel.specs.Sound.{IsTyped}
use Rattle.xl_image.specs.Roots.{KernelIsBuilt}
use Rattle.xc_today.specs.Today.{IsSupported}

-- Where tokens are a program that is built today, which breaks no rule of names, types and shapes, and whose tree no node is too
-- deep in, its kernel is built so far: the code of each root is.
abbrev pub KernelsAreBuilt : Type 0
KernelsAreBuilt =
    (toks : List Tok) (P : List tree.Item) (n : NamedProgram) (types : List Bool) (K : kernel.Kernel) →
    IsProgram toks P → depth.of_program P ≤ deepest → IsSupported toks → IsTyped P n types → Copies P K →
    KernelIsBuilt K
