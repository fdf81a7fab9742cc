use Rattle.std.proofs.Common.{map, arith}
use Rattle.xc_kernel.specs.Kernels.{kernel_of}
use Rattle.xc_disjoint.specs.Needs.{ends_on}
use Rattle.xc_disjoint.specs.Rules.{most_ends}
use Rattle.xc_disjoint.specs.RootUses.{seen_in}
use Rattle.xc_disjoint.specs.UseTables.{shares_in}
use Rattle.xc_disjoint.proofs.Limits.{decides}
use Rattle.xc_disjoint.proofs.RootEnds.{needs_by}
use Rattle.xc_disjoint.proofs.needs.too_many_ends.Goals as goal

pub returns : goal.returns
returns c =
    let k = kernel_of c.args.kernel.now in
    let shares = shares_in c.args.channels.now.among_roots in
    let seen = map seen_in c.args.channels.now.in_roots in
    let among = c.requires.among_roots in
    let roots = c.requires.in_roots in
    let count = c.len-count.result in
    decides most_ends (omega arith) (ends_on k) c.is_above.result c.ends_on.result c.ends_on-2.result c.ends_on-3.result
    c.ends_on-4.result c.is_above.ensures
    (needs_by k 0 shares seen count c.ends_on.result c.ends_on.ensures among roots c.len-count.ensures)
    (needs_by k 1 shares seen count c.ends_on-2.result c.ends_on-2.ensures among roots c.len-count.ensures)
    (needs_by k 2 shares seen count c.ends_on-3.result c.ends_on-3.ensures among roots c.len-count.ensures)
    (needs_by k 3 shares seen count c.ends_on-4.result c.ends_on-4.ensures among roots c.len-count.ensures)
