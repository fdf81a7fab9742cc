use Rattle.std.proofs.Common.{ap, ◌∙◌, [], ◌∷◌, ◌++◌}
use Rattle.xc_kernel.specs.Copy as spec
use Rattle.xc_kernel.specs.Kernels.{statement_of}
use Rattle.xc_inline.proofs.Laws.Results.{given_on}
use Rattle.xc_inline.proofs.copied.Copied.with_statement.Goals as goal

pub returns : goal.returns
returns c = given_on c.and_statement.result c.and_statement.ensures (λ _ h. λ scope. h scope ∙ ap (λ x. spec.with_code x (x.code ++ statement_of c.args.statement ∷ [])) (c.take_code-replaced.ensures.left scope))
