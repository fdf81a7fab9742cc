use Rattle.std.proofs.Common.{List, map, subst}
use Rattle.xc_tree.specs.Least.{IsLeastOf}
use Rattle.xc_kernel.specs.declared.kernel.Root.{Root}
use Rattle.xc_kernel.specs.Branches.{all_pars, pars_of}
use Rattle.xc_kernel.specs.Kernels.{kernel_of, root_of}
use Rattle.xc_disjoint.specs.Clashes.{Clashes}
use Rattle.xc_disjoint.proofs.Whole.{least_apart}
use Rattle.xc_disjoint.proofs.disjointness.first_not_apart.Goals as goal

pub returns : goal.returns
returns c =
    let k = kernel_of c.args.kernel.now in
    let clash : IsLeastOf (Clashes (all_pars k)) c.in_ok-clash.clash = subst (λ (rs : List Root). IsLeastOf (Clashes (pars_of (map root_of rs))) c.in_ok-clash.clash) c.as_slice.ensures c.in_ok-clash.ensures in
    rw c.earlier.ensures (least_apart k c.in_ok-clash.clash c.in_ok-sides.sides clash c.in_ok-sides.ensures)
