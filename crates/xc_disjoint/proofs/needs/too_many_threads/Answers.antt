use Rattle.std.proofs.Common.{List, map, sum_by, ap, ◌∙◌, arith}
use Rattle.xc_kernel.specs.declared.kernel.Root.{Root}
use Rattle.xc_kernel.specs.Kernels.{kernel_of, root_of}
use Rattle.xc_disjoint.specs.Needs.{threads_of_root, threads_on}
use Rattle.xc_disjoint.specs.Sums.{capped}
use Rattle.xc_disjoint.specs.Rules.{most_threads}
use Rattle.xc_disjoint.proofs.Limits.{decides}
use Rattle.xc_disjoint.proofs.needs.too_many_threads.Goals as goal

pub returns : goal.returns
returns c =
    decides most_threads (omega arith) (threads_on (kernel_of c.args.kernel.now)) c.is_above.result c.thread_count.result c.thread_count-2.result c.thread_count-3.result c.thread_count-4.result c.is_above.ensures
    (c.thread_count.ensures ∙ ap (λ (rs : List Root). capped (sum_by (threads_of_root 0) (map root_of rs))) c.as_slice-roots.ensures)
    (c.thread_count-2.ensures ∙ ap (λ (rs : List Root). capped (sum_by (threads_of_root 1) (map root_of rs))) c.as_slice-roots.ensures)
    (c.thread_count-3.ensures ∙ ap (λ (rs : List Root). capped (sum_by (threads_of_root 2) (map root_of rs))) c.as_slice-roots.ensures)
    (c.thread_count-4.ensures ∙ ap (λ (rs : List Root). capped (sum_by (threads_of_root 3) (map root_of rs))) c.as_slice-roots.ensures)
