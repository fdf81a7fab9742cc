use Rattle.std.proofs.Common.{None, Some, ap, sym, ◌∙◌}
use Rattle.xc_kernel.specs.Calls.{as_block}
use Rattle.xc_inline.specs.Cases.{case_by}
use Rattle.xc_inline.specs.Contexts.{context_of}
use Rattle.xc_inline.specs.Parts.{cased_before}
use Rattle.xc_inline.proofs.Laws.Results.{given_on_ok}
use Rattle.xc_inline.proofs.context.Context.add_case.Goals as goal

pub returns-in-None-clause-cases : goal.returns-in-None-clause-cases
returns-in-None-clause-cases c = given_on_ok c.add_default.result c.add_default.ensures (λ h. λ between behind whole is others.
    let made = rw c.in_ok-opened.ensures.made at c.block_of-block.ensures.block in
    let block = made behind whole is in
    h behind others
    ∙ (λ i. cased_before c.args.cases.now (case_by None between (block i) others))
    ∙ ap (λ o. cased_before c.args.cases.now (case_by o between (as_block (context_of c.args.self.now) c.args.path whole) others)) (sym c.in-None.is ∙ c.in_ok-opened.ensures.value))

pub returns-in-Some-clause-cases : goal.returns-in-Some-clause-cases
returns-in-Some-clause-cases c = given_on_ok c.add_case.result c.add_case.ensures (λ h. λ between behind whole is others.
    let made = rw c.in_ok-opened.ensures.made at c.block_of-block.ensures.block in
    let block = made behind whole is in
    h between behind others
    ∙ (λ i. cased_before c.args.cases.now (case_by (Some c.in-Some.opened) between (block i) others))
    ∙ ap (λ o. cased_before c.args.cases.now (case_by o between (as_block (context_of c.args.self.now) c.args.path whole) others)) (sym c.in-Some.is ∙ c.in_ok-opened.ensures.value))
