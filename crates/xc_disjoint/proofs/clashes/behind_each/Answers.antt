use Rattle.std.proofs.Common.{◌≡◌, ◌+◌, List, drop, map, ap, subst, ◌∙◌}
use Rattle.xc_tree.specs.Least.{IsLeastOf}
use Rattle.xc_kernel.specs.declared.kernel.Root.{Root}
use Rattle.xc_kernel.specs.declared.statement.Kst.{Kst}
use Rattle.xc_kernel.specs.Branches.{branches_of}
use Rattle.xc_kernel.specs.Kernels.{root_of, statement_of}
use Rattle.xc_kernel.specs.Plain as plain
use Rattle.xc_disjoint.specs.Behind.{ClashesBy, ClashesBehind}
use Rattle.xc_disjoint.specs.Footprints.{both, uses_in, of_statements}
use Rattle.xc_disjoint.proofs.FirstSoFar.{Goes, goes_end}
use Rattle.xc_disjoint.proofs.Clashing.{branches_go, roots_next}
use Rattle.std.proofs.lemmas.List.{drop_all}
use Rattle.xc_disjoint.proofs.clashes.behind_each.Goals as goal

pub loop-root-preserved : goal.loop-root-preserved
loop-root-preserved c =
    let body = plain.statements (map statement_of c.root-item.result.body) in
    let after : uses_in c.branch-alloc.new.whole ≡ both (uses_in c.loop-root.whole) (of_statements body) = c.in_ok-clash.ensures.uses ∙ ap (λ (xs : List Kst). both (uses_in c.loop-root.whole) (of_statements (plain.statements (map statement_of xs)))) c.as_slice.ensures in
    let first : IsLeastOf (ClashesBy (uses_in c.loop-root.whole) body c.root-item.result.pos) c.in_ok-clash.clash = subst (λ (xs : List Kst). IsLeastOf (ClashesBy (uses_in c.loop-root.whole) (plain.statements (map statement_of xs)) c.root-item.result.pos) c.in_ok-clash.clash) c.as_slice.ensures c.in_ok-clash.ensures.first in
    rw c.earlier-best.ensures
    (branches_go (ClashesBehind (uses_in c.args.whole.now) (branches_of (map root_of c.args.roots.now))) (branches_of (map root_of (drop (c.loop-root.root-index + 1) c.args.roots.now))) (uses_in c.loop-root.whole) (uses_in c.branch-alloc.new.whole) body c.root-item.result.pos after c.loop-root.best c.in_ok-clash.clash first
    (subst (λ (bs : plain.Branches). Goes (ClashesBehind (uses_in c.args.whole.now) (branches_of (map root_of c.args.roots.now))) (ClashesBehind (uses_in c.loop-root.whole) bs) c.loop-root.best) (roots_next c.args.roots.now c.loop-root.root-index c.root-item.result c.root-item.is c.loop-root-test.true) c.loop-root.invariant))

pub returns : goal.returns
returns c =
    goes_end (ClashesBehind (uses_in c.args.whole.now) (branches_of (map root_of c.args.roots.now))) (ClashesBehind (uses_in c.loop-root.whole) plain.no_branch) c.loop-root.best (λ b h. h)
    (subst (λ (xs : List Root). Goes (ClashesBehind (uses_in c.args.whole.now) (branches_of (map root_of c.args.roots.now))) (ClashesBehind (uses_in c.loop-root.whole) (branches_of (map root_of xs))) c.loop-root.best) (drop_all c.loop-root.root-index c.args.roots.now c.loop-root-test.false) c.loop-root.invariant)
