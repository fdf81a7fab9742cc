use Rattle.std.proofs.Common.{ap, ◌∙◌}
use Rattle.std.specs.Prelude.{nat_eq, not}
use Rattle.xs_fabric.specs.EndWord.{has_trap}
use Rattle.xs_fabric.specs.Seen.{Running}
use Rattle.xs_fabric.proofs.Ends.{sums}
use Rattle.xs_fabric.proofs.machine.Machine.trapped.Goals as goal

pub returns : goal.returns
unfolding has_trap
returns c =
    let m = c.self.inside in
    λ L s of.
    ap (λ all. not (nat_eq all.trapped 0)) (sums L s c.sum_of_sights.result c.as_slice.result.now m.cores.items m.links m.trace.items c.as_slice.ensures.value (c.sum_of_sights.ensures L s m.links m.trace.items) (ap (λ (v : Running). v.homes) c.self.view_is ∙ of))
    ∙ ap (λ (v : Running). has_trap L s v.state) c.self.view_is
