use Rattle.std.proofs.Common.{[], map, ap, ◌∙◌}
use Rattle.xc_kernel.specs.Copy as copies
use Rattle.xc_kernel.specs.Kernels as kernel
use Rattle.xc_kernel.specs.Plain as plain
use Rattle.xc_inline.specs.Copied.{copy_of}
use Rattle.xc_inline.specs.Parts.{cases_before, default_before}
use Rattle.xc_inline.proofs.Laws.Growth.{joined_assoc}
use Rattle.xc_inline.proofs.Laws.Results.{given_on_ok}
use Rattle.xc_inline.proofs.parts.Cased.add_default.Goals as goal

pub returns : goal.returns
returns c = given_on_ok c.join.result c.join.ensures (λ h. λ behind others.
    let made = copy_of c.args.self.now.made [] in
    let copied = ap (λ x. copies.joined x others.made) (h [] [] ∙ ap (copies.joined made) (c.take_code-body.ensures.left []))
    ∙ joined_assoc made (copies.with_code (copy_of c.args.block []) []) others.made in
    let otherwise = c.first_of.ensures others.otherwise
    ∙ ap (λ b. default_before b (plain.default (plain.statements (map kernel.statement_of c.take_code-body.result)))) c.replace-before.ensures.value
    ∙ ap (λ ss. default_before c.args.self.now.otherwise (plain.default (plain.statements ss))) (c.take_code-body.ensures.code behind) in
    λ i. record { made = copied i; cases = cases_before (map kernel.case_of c.args.self.now.cases) others.cases; otherwise = otherwise i })
