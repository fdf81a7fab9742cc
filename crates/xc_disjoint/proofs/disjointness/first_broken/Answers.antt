use Rattle.xc_tree.proofs.Leasts.{either}
use Rattle.xc_kernel.specs.Kernels.{kernel_of}
use Rattle.xc_disjoint.specs.Disjoint.{NotApart}
use Rattle.xc_disjoint.specs.Rules.{NeedsMore}
use Rattle.xc_disjoint.proofs.Whole.{first_of_all}
use Rattle.xc_disjoint.proofs.disjointness.first_broken.Goals as goal

pub returns : goal.returns
returns c =
    let k = kernel_of c.args.kernel.now in
    rw (c.first_elsewhere.ensures, c.first_of_ports-places.ensures, c.first_of_roots-roots.ensures, c.as_slice-2.ensures, c.as_slice-3.ensures, c.as_slice-4.ensures, c.as_slice-5.ensures)
    (first_of_all k c.earlier.result (rw c.earlier.ensures (either (NotApart k) (NeedsMore k) c.in_ok-apart.apart c.broken_need-needs.result c.in_ok-apart.ensures c.broken_need-needs.ensures)))
