use Rattle.std.proofs.Common.{length, ap, ◌∙◌}
use Rattle.xs_fabric.specs.EndWord.{end_of, end_word, sights}
use Rattle.xs_fabric.specs.Seen.{Running, together}
use Rattle.xs_fabric.proofs.Ends.{sums}
use Rattle.xs_fabric.proofs.Running.{four_of}
use Rattle.xs_fabric.proofs.machine.Machine.end.Goals as goal

pub sum_of_sights-requires : goal.sum_of_sights-requires
sum_of_sights-requires c =
    let r = c.self.invariant in
    ap length c.as_slice.ensures.value ∙ four_of c.self.inside.cores.items r.image r.stim r.of

pub returns : goal.returns
unfolding end_of
returns c =
    let m = c.self.inside in
    λ L s of.
    c.word_of.ensures
    ∙ ap (λ all. end_word all c.are_empty.result) (sums L s c.sum_of_sights.result c.as_slice.result.now m.cores.items m.links m.trace.items c.as_slice.ensures.value (c.sum_of_sights.ensures L s m.links m.trace.items) (ap (λ (v : Running). v.homes) c.self.view_is ∙ of))
    ∙ ap (end_word (sights L s (together m.cores.items m.links m.trace.items) 4)) c.are_empty.ensures
    ∙ ap (λ (v : Running). end_of L s v.state) c.self.view_is
