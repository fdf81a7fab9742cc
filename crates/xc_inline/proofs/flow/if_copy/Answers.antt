use Rattle.std.proofs.Common.{ap, ◌∙◌}
use Rattle.xc_kernel.proofs.Forms.{statement-If}
use Rattle.xc_kernel.specs.Kernels.{expression_of}
use Rattle.xc_kernel.specs.Flow as spec
use Rattle.xc_inline.specs.Copied.{copy_of}
use Rattle.xc_inline.proofs.Laws.Flow.{if_made}
use Rattle.xc_inline.proofs.Laws.Results.{given_on}
use Rattle.xc_inline.proofs.flow.if_copy.Goals as goal

pub returns : goal.returns
returns c = given_on c.and_statement.result c.and_statement.ensures (λ _ h. λ between behind other is.
    let same = c.in_ok-test.ensures.value in
    let second = rw c.in_ok-test.ensures.made at is in
    let made = rw c.in_ok-test-2.ensures.made at c.followed_by-made.ensures in
    let test = ap expression_of (c.in_ok-test-2.ensures.value ∙ ap (λ p. p.0) same) in
    let first = ap (λ p. copy_of p.1 between) same in
    if_made (c.take_code-then.ensures.code between) (c.take_code-otherwise.ensures.code behind) (c.take_code-then.ensures.left between) (c.take_code-otherwise.ensures.left behind)
    (made between behind) (statement-If _ c.take_code-then.result c.take_code-otherwise.result) (h behind)
    ∙ λ i. spec.if_copy (test i) (first i) (second i))
