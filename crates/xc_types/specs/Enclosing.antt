-- What stands around a statement, as the definitions of shapes have it.
use Rattle.std.specs.Prelude.{Bool}
use Rattle.xc_tree.specs.Shapes.Enclosing as spec
use Rattle.xc_tree.specs.Trees.{head_of}
use Rattle.xc_types.specs.declared.enclosing.Holder.{Holder}
use Rattle.xc_types.specs.declared.enclosing.Holder.TheVariants as H
use Rattle.xc_types.specs.declared.enclosing.Enclosing.{Enclosing, fold-Enclosing}
use Rattle.xc_types.specs.declared.enclosing.Enclosing.TheOpen as A

abbrev pub holder_of : Holder → spec.Holder
holder_of H.Block = spec.a_block
holder_of H.If = spec.an_if
holder_of H.Loop = spec.a_loop
holder_of H.Case = spec.a_case
holder_of H.Branch = spec.a_branch
holder_of H.Transaction = spec.a_transaction

abbrev pub around_step : A.Enclosing-F spec.Enclosing → spec.Enclosing
around_step (A.Block f) = spec.in_block_of (head_of f.now)
around_step (A.Inside h a) = spec.inside (holder_of h) a.now

-- what an `Enclosing` stands for
unfoldable pub around_of : Enclosing → spec.Enclosing
around_of = fold-Enclosing spec.Enclosing around_step

abbrev pub is_in_transaction : Enclosing → Bool
is_in_transaction around = spec.in_transaction (around_of around).holders
