-- What an `Enclosing` stands for, by its variants.
use Rattle.std.proofs.Common.{◌≡◌, Bor, sym, ap, ◌∙◌}
use Rattle.xc_tree.specs.declared.tree.FuncItem.{FuncItem}
use Rattle.xc_tree.specs.Shapes.Enclosing as spec
use Rattle.xc_tree.specs.Trees.{head_of}
use Rattle.xc_types.specs.declared.enclosing.Holder.{Holder}
use Rattle.xc_types.specs.declared.enclosing.Enclosing.{Enclosing, Block, Inside, fold-roll-Enclosing}
use Rattle.xc_types.specs.declared.enclosing.Enclosing.TheVariants.{rolls-Block, rolls-Inside}
use Rattle.xc_types.specs.declared.enclosing.Enclosing.TheOpen as A
use Rattle.xc_types.specs.Enclosing.{around_of, around_step, holder_of}

pub around-Block : (f : Bor FuncItem) → around_of (Block f) ≡ spec.in_block_of (head_of f.now)
unfolding around_of
around-Block f = ap around_of (sym (rolls-Block f)) ∙ fold-roll-Enclosing spec.Enclosing around_step (A.Block f)

pub around-Inside : (h : Holder) (a : Bor Enclosing) → around_of (Inside h a) ≡ spec.inside (holder_of h) (around_of a.now)
unfolding around_of
around-Inside h a = ap around_of (sym (rolls-Inside h a)) ∙ fold-roll-Enclosing spec.Enclosing around_step (A.Inside h a)

pub ruleset arounds = (around-Block, around-Inside)
