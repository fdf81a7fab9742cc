use Rattle.std.proofs.Common.{List, ◌++◌, ◌+◌, drop, map, sym, ap, ◌∙◌}
use Rattle.xc_kernel.specs.declared.kernel.Root.{Root}
use Rattle.xc_kernel.specs.Branches.{branches_of}
use Rattle.xc_kernel.specs.Kernels.{root_of}
use Rattle.xc_disjoint.specs.declared.channels.RootTable.{RootTable}
use Rattle.xc_disjoint.specs.RootUses.{RootUse, seen_in, seen_of}
use Rattle.xc_disjoint.specs.Uses.{Shares, all_with, with_branches}
use Rattle.xc_disjoint.specs.UseTables.{shares_in}
use Rattle.xc_disjoint.proofs.RootSteps.{pushed_root}
use Rattle.xw_words.proofs.Lists.{drop_item}
use Rattle.std.proofs.lemmas.List.{drop_all}
use Rattle.xc_disjoint.proofs.channels.Channels.add_each.Goals as goal

pub loop-root-preserved : goal.loop-root-preserved
loop-root-preserved c =
    let roots = c.args.roots.now in
    let self = c.loop-root.self in
    let i = c.loop-root.root-index in
    let root = c.root-item.result in
    let rest = drop (i + 1) roots in
    let next = drop_item roots i root c.root-item.is c.loop-root-test.true in
    let seen = c.in_ok-root_table.ensures in (
      c.loop-root.invariant.0
          ∙ ap (λ (xs : List Root). map seen_in self.in_roots ++ map seen_of (map root_of xs)) next
          ∙ pushed_root self.in_roots c.in_ok-root_table.field-0 (seen_of (root_of root)) (map seen_of (map root_of rest)) seen
          ∙ ap (λ (ts : List RootTable). map seen_in ts ++ map seen_of (map root_of rest)) (sym c.in_ok-add.ensures.in_roots),
      c.loop-root.invariant.1
          ∙ ap (λ (xs : List Root). with_branches (shares_in self.among_roots) (branches_of (map root_of xs))) next
          ∙ ap (λ (u : RootUse). with_branches (all_with root.pos (shares_in self.among_roots) u.uses) (branches_of (map root_of rest)))
          (sym seen)
          ∙ ap (λ (f : Shares). with_branches f (branches_of (map root_of rest))) (sym c.in_ok-add.ensures.among_roots),
    )

pub returns-clause-among_roots : goal.returns-clause-among_roots
returns-clause-among_roots c =
    sym (c.loop-root.invariant.1
    ∙ ap (λ (xs : List Root). with_branches (shares_in c.loop-root.self.among_roots) (branches_of (map root_of xs)))
    (drop_all c.loop-root.root-index c.args.roots.now c.loop-root-test.false))
