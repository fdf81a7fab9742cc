use Rattle.xc_tree.specs.Names.Uses.{none}
use Rattle.xc_names.proofs.uses.uses.Goals as goal

pub loop-at-init : goal.loop-at-init
loop-at-init c = rw c.new-uses.ensures none
