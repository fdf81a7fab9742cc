use Rattle.std.proofs.Common.{List, sum_by, ap, ◌∙◌, arith}
use Rattle.xc_kernel.specs.declared.kernel.Timer.{Timer}
use Rattle.xc_kernel.specs.Kernels.{kernel_of}
use Rattle.xc_disjoint.specs.Needs.{timers_of, timers_on}
use Rattle.xc_disjoint.specs.Sums.{capped}
use Rattle.xc_disjoint.specs.Rules.{most_timers}
use Rattle.xc_disjoint.proofs.Limits.{decides}
use Rattle.xc_disjoint.proofs.needs.too_many_timers.Goals as goal

pub returns : goal.returns
returns c =
    decides most_timers (omega arith) (timers_on (kernel_of c.args.kernel.now)) c.is_above.result c.core_timers.result c.core_timers-2.result c.core_timers-3.result c.core_timers-4.result c.is_above.ensures
    (c.core_timers.ensures ∙ ap (λ (ts : List Timer). capped (sum_by (timers_of 0) ts)) c.as_slice-timers.ensures)
    (c.core_timers-2.ensures ∙ ap (λ (ts : List Timer). capped (sum_by (timers_of 1) ts)) c.as_slice-timers.ensures)
    (c.core_timers-3.ensures ∙ ap (λ (ts : List Timer). capped (sum_by (timers_of 2) ts)) c.as_slice-timers.ensures)
    (c.core_timers-4.ensures ∙ ap (λ (ts : List Timer). capped (sum_by (timers_of 3) ts)) c.as_slice-timers.ensures)
