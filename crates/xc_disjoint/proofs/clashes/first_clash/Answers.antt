use Rattle.std.proofs.Common.{map, subst}
use Rattle.xc_tree.specs.Least.{IsLeastOf}
use Rattle.xc_kernel.specs.Branches.{branches_of}
use Rattle.xc_kernel.specs.Kernels.{root_of}
use Rattle.xc_disjoint.specs.Behind.{ClashesBehind}
use Rattle.xc_disjoint.specs.Footprints.{Uses}
use Rattle.xc_disjoint.proofs.Clashing.{least_par}
use Rattle.xc_disjoint.proofs.Sets.{if_ok}
use Rattle.xc_disjoint.proofs.clashes.first_clash.Goals as goal

pub returns : goal.returns
returns c =
    let bs = branches_of (map root_of c.args.roots.now) in
    if_ok c.behind_each-first.result (λ x behind. least_par bs x (subst (λ (f : Uses). IsLeastOf (ClashesBehind f bs) x) c.new-whole.ensures behind)) c.behind_each-first.ensures
