-- The programs that are flattened, and those whose kernels are looked at further: they break no rule of an earlier phase.
use Rattle.std.specs.Prelude.{◌≡◌, ℕ, ◌<◌, ◌≤◌, Bool, List, Some, slice_get}
use Rattle.xw_words.specs.declared.pos.Broken.{Broken}
use Rattle.xc_tree.specs.declared.token.Tok.{Tok}
use Rattle.xc_tree.specs.Depth as depth
use Rattle.xc_tree.specs.Derives.{deepest}
use Rattle.xc_tree.specs.Plain as tree
use Rattle.xc_tree.specs.Programs.{IsRead}
use Rattle.xc_tree.specs.Names.Rules as names
use Rattle.xc_tree.specs.Types.Named.{IsNamed, NamedProgram}
use Rattle.xc_tree.specs.Types.Sites.{unsigned_at}
use Rattle.xc_tree.specs.Checks as checks
use Rattle.xc_kernel.specs.Plain as kernel
use Rattle.xc_kernel.specs.Copies.{Copies}
use Rattle.xc_kernel.specs.Size.{IsTooLarge}

-- a program that was read from a text: its tokens stand at rising places, in lines that count from 1
pub record IsOfText (program : List tree.Item) : Type 0 where
  pub read : IsRead program
  pub lines : (i : ℕ) (t : Tok) → slice_get read.toks i ≡ Some t → 0 < t.pos.line

-- such a program that breaks no rule of names, types and shapes, with the types of its expressions
pub record IsTyped (program : List tree.Item) (named : NamedProgram) (types : List Bool) : Type 0 where
  pub text : IsOfText program
  pub is_named : IsNamed program named
  pub names : (b : Broken) → names.Breaks program b → ⊥
  pub types_and_shapes : (b : Broken) → checks.Breaks named b → ⊥
  pub types_are : types ≡ unsigned_at named

-- one that is not too large either
pub record IsSound (program : List tree.Item) : Type 0 where
  pub named : NamedProgram
  pub types : List Bool
  pub typed : IsTyped program named types
  pub small : IsTooLarge program → ⊥

-- A kernel is that of such a program, whose tree has no node that is too deep.
pub record IsOfProgram (k : kernel.Kernel) : Type 0 where
  pub program : List tree.Item
  pub sound : IsSound program
  pub shallow : depth.of_program program ≤ deepest
  pub copies : Copies program k
