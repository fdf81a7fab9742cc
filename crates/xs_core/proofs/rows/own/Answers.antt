use Rattle.std.proofs.Common.{◌∙◌, ap, sym}
use Rattle.xs_core.proofs.OwnRows.{did_is_row}
use Rattle.xs_core.proofs.rows.own.Goals as goal
use Rattle.xs_core.specs.Local.{local_did, local_in}
use Rattle.xs_core.specs.Seen.{home_of, state_of}
use Rattle.xs_instr.specs.Did.{map_did}
use Rattle.xs_instr.specs.Rows.{put_local}

pub returns-in-Ok-clause-means : goal.returns-in-Ok-clause-means
returns-in-Ok-clause-means c = λ t.
    let core = state_of c.args.state.now in
    let x = c.args.thread.now in
    ap (λ r. map_did (put_local core t x) (local_did (local_in x core.words) r)) (sym c.in-Ok.is)
    ∙ did_is_row (home_of c.args.state.now) core t x c.args.instr c.step.result c.requires c.step.ensures.row

pub returns-in-Err-clause-means : goal.returns-in-Err-clause-means
returns-in-Err-clause-means c = λ t.
    let core = state_of c.args.state.now in
    let x = c.args.thread.now in
    ap (λ r. map_did (put_local core t x) (local_did (local_in x core.words) r)) (sym c.in-Err.is)
    ∙ did_is_row (home_of c.args.state.now) core t x c.args.instr c.step.result c.requires c.step.ensures.row
