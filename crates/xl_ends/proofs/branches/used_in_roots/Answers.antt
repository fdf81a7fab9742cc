use Rattle.std.proofs.Common.{List, map, ap, ◌∙◌}
use Rattle.xc_kernel.specs.declared.statement.Kst.{Kst}
use Rattle.xc_kernel.specs.Kernels.{root_of, statement_of}
use Rattle.xc_kernel.specs.Plain as kernel
use Rattle.xl_ends.specs.Uses.{uses_among}
use Rattle.xl_ends.proofs.Telling.{next_used}
use Rattle.xl_ends.proofs.branches.used_in_roots.Goals as goal

pub loop-root-preserved : goal.loop-root-preserved
loop-root-preserved c =
    let n = c.args.channels in
    next_used (λ r. uses_among n (root_of r).body) c.args.roots.now c.loop-root.root-index c.root-item.result c.loop-root.used c.push.new.self c.in_ok-own.own c.root-item.is c.loop-root-test.true c.loop-root.invariant
    (c.in_ok-own.ensures ∙ ap (λ (ss : List Kst). uses_among n (kernel.statements (map statement_of ss))) c.as_slice.ensures)
    c.in_ok-push.ensures.ok
