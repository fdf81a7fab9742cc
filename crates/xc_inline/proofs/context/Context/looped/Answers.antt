use Rattle.std.proofs.Common.{[], ap, sym, ◌∙◌}
use Rattle.xc_kernel.specs.Copy as copies
use Rattle.xc_kernel.specs.Flow as flow
use Rattle.xc_kernel.specs.Kernels.{expression_of}
use Rattle.xc_kernel.specs.Paths.{path_of_turn}
use Rattle.xc_inline.specs.Contexts.{context_of}
use Rattle.xc_inline.specs.Copied.{copy_of}
use Rattle.xc_inline.proofs.Laws.Results.{given_on}
use Rattle.xc_inline.proofs.context.Context.looped.Goals as goal

pub loop_at-requires : goal.loop_at-requires
loop_at-requires c =
    let same = c.in_ok-paths.ensures.value in
    ap (λ p. p.0.0.turn) same ∙ c.requires ∙ sym (ap (λ p. path_of_turn p.0.0.whole) same)

pub returns : goal.returns
returns c = given_on c.loop_at.result c.loop_at.ensures (λ _ h. λ between behind done is.
    let here = context_of c.args.self.now in
    let same = c.in_ok-paths.ensures.value in
    let body = rw c.in_ok-paths.ensures.made at is in
    let next = ap (λ p. copy_of p.1 between) same in
    let whole = ap (λ p. p.0.0.whole) same in
    let test = ap (λ p. expression_of p.0.1) same in
    h between behind
    ∙ λ i. flow.loop_at here (whole i) (test i) (flow.iteration here (whole i) (body i).code []) (copies.code_of (next i)) (copies.joined (next i) (body i)))
