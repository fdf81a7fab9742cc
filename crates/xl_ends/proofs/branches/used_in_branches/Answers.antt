use Rattle.std.proofs.Common.{List, map, ap, sym, ◌∙◌}
use Rattle.xc_kernel.specs.declared.statement.Kst.{Kst}
use Rattle.xc_kernel.specs.Kernels.{branch_of, statement_of}
use Rattle.xc_kernel.specs.Plain as kernel
use Rattle.xc_kernel.proofs.Forms.{branch-KBranch}
use Rattle.xl_ends.specs.Branches.{uses_of_branch}
use Rattle.xl_ends.specs.Uses.{uses_among}
use Rattle.xl_ends.proofs.Telling.{next_used}
use Rattle.xl_ends.proofs.branches.used_in_branches.Goals as goal

pub loop-branch-preserved : goal.loop-branch-preserved
loop-branch-preserved c =
    let n = c.args.channels in
    next_used (λ b. uses_of_branch n (branch_of b)) c.args.branches.now c.loop-branch.branch-index c.branch-item.result c.loop-branch.used c.push.new.self c.in_ok-own.own c.branch-item.is c.loop-branch-test.true c.loop-branch.invariant
    (c.in_ok-own.ensures
    ∙ ap (λ (ss : List Kst). uses_among n (kernel.statements (map statement_of ss))) c.as_slice.ensures
    ∙ ap (uses_of_branch n) (sym (branch-KBranch c.branch-item.result)))
    c.in_ok-push.ensures.ok
