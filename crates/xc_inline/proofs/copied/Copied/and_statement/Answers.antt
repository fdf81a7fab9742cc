use Rattle.std.proofs.Common.{ap, ◌∙◌, [], ◌∷◌, map}
use Rattle.std.proofs.lemmas.List.{map-append}
use Rattle.xc_kernel.specs.Kernels.{statement_of}
use Rattle.xc_inline.specs.Copied.{copy_of}
use Rattle.xc_inline.proofs.Laws.Results.{given_on_both}
use Rattle.xc_inline.proofs.copied.Copied.and_statement.Goals as goal

pub returns : goal.returns
returns c = given_on_both c.then_ok.result c.then_ok.ensures.value c.then_ok.ensures.done (λ _ same done. λ scope.
    let added = rw done at c.push_back-added.ensures in
    ap (λ x. copy_of x scope) same
    ∙ λ i. record (copy_of c.args.self scope) { code = (ap (map statement_of) added ∙ map-append statement_of c.args.self.code.items (c.args.statement ∷ [])) i })
