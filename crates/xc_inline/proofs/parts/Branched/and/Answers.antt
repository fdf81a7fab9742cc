use Rattle.std.proofs.Common.{[], map, ap, ◌∙◌}
use Rattle.xc_kernel.proofs.Forms.{branch-made}
use Rattle.xc_kernel.specs.Copy as copies
use Rattle.xc_kernel.specs.Kernels as kernel
use Rattle.xc_kernel.specs.Plain as plain
use Rattle.xc_inline.specs.Copied.{copy_of}
use Rattle.xc_inline.specs.Parts.{branches_before}
use Rattle.xc_inline.proofs.Laws.Growth.{joined_assoc}
use Rattle.xc_inline.proofs.Laws.Parts.{branches_push}
use Rattle.xc_inline.proofs.parts.Branched.and.Goals as goal

pub returns : goal.returns
returns c = λ behind others.
    let pushed = rw c.in_ok-made.ensures.first at c.push-pushed.ensures.ok in
    let joined = rw c.in_ok-made.ensures.second at c.followed_by-joined.ensures in
    let made = copy_of c.args.self.made [] in
    let before = map kernel.branch_of c.args.self.branches in
    let copied = ap (λ x. copies.joined x others.made) (joined [] [] ∙ ap (copies.joined made) (c.take_code-body.ensures.left []))
    ∙ joined_assoc made (copies.with_code (copy_of c.args.copied []) []) others.made in
    let branches = ap (λ bs. branches_before (map kernel.branch_of bs) others.branches) pushed
    ∙ branches_push c.args.self.branches _ others.branches
    ∙ ap (λ b. branches_before before (plain.more_branches b others.branches)) (branch-made c.take_code-body.result c.args.pos ∙ ap (λ ss. plain.branch (plain.statements ss) c.args.pos) (c.take_code-body.ensures.code behind)) in
    λ i. record { made = copied i; branches = branches i }
