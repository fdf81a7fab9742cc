use Rattle.std.proofs.Common.{ap, ◌∙◌, ◌∷◌, [], map}
use Rattle.xc_kernel.proofs.Forms.{statement-Loop}
use Rattle.xc_kernel.specs.Kernels as kernel
use Rattle.xc_kernel.specs.Plain as plain
use Rattle.xc_inline.proofs.Laws.Results.{given_on}
use Rattle.xc_inline.proofs.context.Context.round.Goals as goal

pub returns : goal.returns
returns c = given_on c.one.result c.one.ensures (λ _ h.
    let test = ap (λ p. p.0) c.in_ok-test.ensures.value in
    let turn = rw c.in_ok-test.ensures.made at c.turn-turn.ensures in
    let followed = ap (λ p. p.1) c.in_ok-test.ensures.value in
    ap (map kernel.statement_of) h
    ∙ ap (λ s. s ∷ []) (statement-Loop _ _ c.in_ok-test.followed ∙ λ i. plain.loop (kernel.expression_of (test i)) (plain.statements (turn i)) (plain.statements (map kernel.statement_of (followed i)))))
