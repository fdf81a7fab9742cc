use Rattle.std.proofs.Common.{ap, ◌∙◌}
use Rattle.xc_kernel.specs.Copy as copies
use Rattle.xc_inline.specs.Copied.{copy_of}
use Rattle.xc_inline.specs.Scopes.{scope_of}
use Rattle.xc_inline.proofs.Laws.Parameters.{passed_before}
use Rattle.xc_inline.proofs.parameters.Entered.behind.Goals as goal

pub returns : goal.returns
returns c = λ p is.
    let before = scope_of c.args.self.scope in
    let others = copy_of c.args.self.copied before in
    let joined = rw c.in_ok-copied.ensures.first at c.followed_by-copied.ensures in
    let same = rw c.in_ok-copied.ensures.second at c.then_ok-scope.ensures.value in
    let done = rw c.in_ok-copied.ensures.second at c.then_ok-scope.ensures.done in
    let known = ap scope_of same ∙ (rw done at c.declare-declared.ensures) in
    passed_before c.args.name.now p others (is.copy before) is.entity
    (joined before _ ∙ λ i. copies.joined (copy_of c.args.handed.copied before) (record others { scope = known i }))
