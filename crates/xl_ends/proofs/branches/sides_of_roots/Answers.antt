use Rattle.std.proofs.Common.{List, Option, None, map, replicate, ap, ap₂, ◌∙◌, arith}
use Rattle.std.proofs.lemmas.List.{length-replicate}
use Rattle.std.proofs.lemmas.Result.{IfOk-weaker}
use Rattle.std.specs.Prelude.{Bool, [], ◌≡◌}
use Rattle.xc_kernel.specs.Branches.{branches_of}
use Rattle.xc_kernel.specs.Kernels.{root_of}
use Rattle.xc_meaning.specs.States.Channels.{Side}
use Rattle.xl_ends.specs.Branches.{sides_by_each, sides_of_each}
use Rattle.xl_ends.specs.Ends.{Sides}
use Rattle.xl_ends.specs.Sides.{sides_of}
use Rattle.xl_ends.proofs.Telling.{all_told, used_by_roots}
use Rattle.xl_ends.proofs.branches.sides_of_roots.Goals as goal

pub returns : goal.returns
returns c =
    let n = c.args.channels in
    let none : Sides = replicate n None in
    let bs = branches_of (map root_of c.args.roots.now) in
    IfOk-weaker c.sides_by_use.result (λ each. map sides_of each ≡ sides_by_each (sides_of c.as_slice.result.now) [] c.as_slice-2.result.now) (λ each. map sides_of each ≡ sides_of_each none [] bs)
    (λ each is.
    is
    ∙ ap₂ (λ (s : Sides) (used : List (List Bool)). sides_by_each s [] used) (ap sides_of c.as_slice.ensures ∙ c.in_ok-sides.ensures) (c.as_slice-2.ensures ∙ c.in_ok-used.ensures ∙ used_by_roots n c.args.roots.now)
    ∙ all_told n none (let z = length-replicate {A = Option Side} n None in omega (arith, z)) bs)
    c.sides_by_use.ensures
