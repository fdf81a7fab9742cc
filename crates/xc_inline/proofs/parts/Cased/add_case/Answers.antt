use Rattle.std.proofs.Common.{[], map, ap, ◌∙◌}
use Rattle.std.specs.Option.{option_map}
use Rattle.xc_kernel.proofs.Forms.{case-made}
use Rattle.xc_kernel.specs.Copy as copies
use Rattle.xc_kernel.specs.Kernels as kernel
use Rattle.xc_kernel.specs.Plain as plain
use Rattle.xc_inline.specs.Copied.{copy_of}
use Rattle.xc_inline.specs.Parts.{cases_before, default_before}
use Rattle.xc_inline.proofs.Laws.Growth.{joined_assoc}
use Rattle.xc_inline.proofs.Laws.Parts.{cases_push}
use Rattle.xc_inline.proofs.Laws.Results.{given_on_ok}
use Rattle.xc_inline.proofs.parts.Cased.add_case.Goals as goal

pub returns : goal.returns
returns c = given_on_ok c.join.result c.join.ensures (λ h. λ between behind others.
    let pushed = rw c.in_ok-inside.ensures.first at c.push-pushed.ensures.ok in
    let followed = rw c.in_ok-inside.ensures.second at c.followed_by-inside.ensures in
    let made = copy_of c.args.self.now.made [] in
    let names = copy_of c.args.received.names between in
    let before = map kernel.case_of c.args.self.now.cases in
    let guard = option_map kernel.expression_of c.args.guard in
    let head = kernel.input_of c.args.received.head in
    let inside = followed between [] ∙ ap (copies.joined names) (c.take_code-body.ensures.left []) in
    let copied = ap (λ x. copies.joined x others.made) (h [] [] ∙ ap (copies.joined made) inside)
    ∙ joined_assoc made (copies.joined names (copies.with_code (copy_of c.args.block []) [])) others.made in
    let cases = ap (λ cs. cases_before (map kernel.case_of cs) others.cases) pushed
    ∙ cases_push c.args.self.now.cases _ others.cases
    ∙ ap (λ x. cases_before before (plain.more_cases x others.cases)) (case-made c.args.guard c.args.received.head c.take_code-body.result ∙ ap (λ ss. plain.case guard head (plain.statements ss)) (c.take_code-body.ensures.code behind)) in
    λ i. record { made = copied i; cases = cases i; otherwise = default_before c.args.self.now.otherwise others.otherwise })
