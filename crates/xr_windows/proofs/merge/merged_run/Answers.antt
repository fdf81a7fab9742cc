use Rattle.std.proofs.Common.{◌∙◌, subst, sym}
use Rattle.xr_windows.specs.Merge.{rounds_of}
use Rattle.xr_windows.specs.Rising.{Rising}
use Rattle.xr_windows.proofs.Lasts.{last_rises, trace_is, trapped_is, word_is}
use Rattle.xr_windows.proofs.merge.merged_run.Goals as goal
use Rattle.xs_fabric.specs.EndWord.{sight_sum, no_sight}

pub merged-requires-clause-rising : goal.merged-requires-clause-rising
merged-requires-clause-rising g c = (
  subst (Rising 1) (sym c.records.ensures) (last_rises _ _ _ _ _ c.requires.a),
  subst (Rising 1) (sym c.records-2.ensures) (last_rises _ _ _ _ _ c.requires.b),
  subst (Rising 1) (sym c.records-3.ensures) (last_rises _ _ _ _ _ c.requires.c),
  subst (Rising 1) (sym c.records-4.ensures) (last_rises _ _ _ _ _ c.requires.d),
)

pub returns : goal.returns
returns g c =
    let sums = c.sum_of_sights-all.ensures ∙ (λ j. sight_sum (sight_sum (sight_sum (sight_sum no_sight (c.sight.ensures j)) (c.sight-2.ensures j)) (c.sight-3.ensures j)) (c.sight-4.ensures j)) in
    record {
      trace =
          c.from_vec.ensures ∙ c.in_ok-trace.ensures
          ∙ (λ j. rounds_of (c.records.ensures j) (c.records-2.ensures j) (c.records-3.ensures j) (c.records-4.ensures j) (c.ticks-ticks.ensures j))
          ∙ trace_is _ _ _ _ _ _ _ c.requires.a c.requires.b c.requires.c c.requires.d;
      end = c.word_of.ensures ∙ word_is _ _ _ _ _ _ _ c.requires.a c.requires.b c.requires.c c.requires.d _ c.is_some_pending-pending.result sums c.is_some_pending-pending.ensures;
      trapped = trapped_is _ _ _ _ _ _ _ c.requires.a c.requires.b c.requires.c c.requires.d _ sums;
    }
