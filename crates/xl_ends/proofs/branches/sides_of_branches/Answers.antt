use Rattle.std.proofs.Common.{length, map, option_map, ap, ◌∙◌, arith}
use Rattle.std.proofs.lemmas.List.{length-map}
use Rattle.std.proofs.lemmas.Result.{IfOk-weaker}
use Rattle.std.specs.Prelude.{[], ◌≡◌}
use Rattle.xc_kernel.specs.Kernels.{branch_of}
use Rattle.xc_kernel.specs.Plain as kernel
use Rattle.xl_ends.specs.Branches.{sides_by_each, sides_of_each}
use Rattle.xl_ends.specs.Sides.{side_of, sides_of}
use Rattle.xl_ends.proofs.Telling.{all_told, used_by_branches}
use Rattle.xl_ends.proofs.branches.sides_of_branches.Goals as goal

pub returns : goal.returns
returns c =
    let sides = sides_of c.args.sides.now in
    let n = length c.args.sides.now in
    let bs = kernel.branches (map branch_of c.args.branches.now) in
    IfOk-weaker c.sides_by_use.result (λ each. map sides_of each ≡ sides_by_each sides [] c.as_slice.result.now) (λ each. map sides_of each ≡ sides_of_each sides [] bs)
    (λ each is.
    is
    ∙ ap (sides_by_each sides []) (c.as_slice.ensures ∙ c.in_ok-used.ensures ∙ used_by_branches n c.args.branches.now)
    ∙ all_told n sides (let z = length-map c.args.sides.now (option_map side_of) in omega (arith, z)) bs)
    c.sides_by_use.ensures
