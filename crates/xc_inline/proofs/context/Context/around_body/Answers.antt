use Rattle.std.proofs.Common.{ap, ◌≡◌, ◌∙◌}
use Rattle.xc_kernel.specs.Calls as calls
use Rattle.xc_kernel.specs.Copy.{joined, in_scope_of}
use Rattle.xc_inline.specs.Contexts.{context_of}
use Rattle.xc_inline.specs.Copied.{copy_of}
use Rattle.xc_inline.specs.Functions.{function_of}
use Rattle.xc_inline.proofs.Laws.Results.{given_on}
use Rattle.xc_inline.proofs.context.Context.around_body.Goals as goal

pub returns : goal.returns
returns c = λ entered inner behind whole is.
    let passed = ap (λ x. copy_of x entered) (c.in_ok-passed-2.ensures.value ∙ c.in_ok-passed.ensures.value) in
    let body = rw c.in_ok-passed.ensures.made at is in
    let made = rw c.in_ok-passed-2.ensures.made at c.as_block-block.ensures in
    let block = made inner ∙ ap (calls.as_block (context_of c.args.self.now) c.args.own.now) body in
    let inside = rw c.in_ok-zeroed.ensures.second at c.followed_by-inside.ensures in
    let zeroed = rw c.in_ok-zeroed.ensures.first at c.zeroed_result-zeroed.ensures in
    let body = inside entered inner ∙ λ i. joined (passed i) (block i) in
    let here = context_of c.args.self.now in
    let f = function_of c.args.function.now in
    let made = given_on c.instance-made.result {Q = λ m. copy_of m behind ≡ calls.instance_of here f behind} c.instance-made.ensures (λ _ k. k behind) in
    let rest = joined (calls.result_copy here c.args.result_path.now f.head.name.pos behind f.head.result) (joined (copy_of c.args.passed entered) (calls.as_block here c.args.own.now whole)) in
    let called = given_on c.followed_by-behind.result {Q = λ b. copy_of b inner ≡ rest} c.followed_by-behind.ensures (λ _ k. k behind inner ∙ λ i. joined (zeroed behind i) (body i)) in
    let all = c.in_ok-copied.ensures behind inner _ _ made called in
    c.naming_none.ensures behind ∙ ap (λ all. in_scope_of behind (calls.naming_none all)) all
