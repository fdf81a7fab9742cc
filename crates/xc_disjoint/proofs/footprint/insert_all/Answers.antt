use Rattle.std.proofs.Common.{◌≡◌, refl, ◌∙◌}
use Rattle.xc_disjoint.specs.Footprints.{members, with_all}
use Rattle.xc_disjoint.proofs.Sets.{on_ok, swapped}
use Rattle.xc_disjoint.proofs.footprint.insert_all.Goals as goal
use Rattle.xc_disjoint.proofs.footprint.insert_all.Goals.{then-len, else-len}

pub returns : goal.returns
returns c =
    let first = c.args.numbers.now.keys in
    let second = c.args.others.now.keys in
    let same : with_all (members c.if-len.numbers.keys) (members c.if-len.others.keys) ≡ with_all (members first) (members second) =
    elim c.if-len.branch [
      | then-len w ↦ rw (w.numbers-is, w.others-is, w.swap.ensures.x_after, w.swap.ensures.y_after) (swapped (members second) (members first))
      | else-len w ↦ rw (w.numbers-is, w.others-is) refl
    ] in
    on_ok c.insert_each.result (λ e. e ∙ same) c.insert_each.ensures
