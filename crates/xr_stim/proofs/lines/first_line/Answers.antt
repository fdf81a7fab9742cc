use Rattle.std.proofs.Common.{◌≡◌, ◌≢◌, length, unwrap_or, arith, ap, ◌∙◌}
use Rattle.std.proofs.lemmas.Bool.Decides.{nat_tests}
use Rattle.std.specs.List.{position_or_len}
use Rattle.xr_stim.proofs.PartLemmas.{lines-first, lines-last, place-found}
use Rattle.xr_stim.specs.Lines.{is_feed}
use Rattle.xr_stim.proofs.lines.first_line.Goals as goal

pub returns-in-Some-clause-line : goal.returns-in-Some-clause-line
returns-in-Some-clause-line c =
    let text = c.args.text.now in
    let place : c.in-Some.end ≡ position_or_len is_feed text = ap (λ o. unwrap_or o (length text)) c.in-Some.ensures.place ∙ place-found is_feed text in
    let more : c.in-Some.end ≢ length c.args.text.now = λ e. omega (arith, c.in-Some.ensures.within) in
    lines-first text c.in-Some.end c.without_return.result.now place more c.without_return.ensures

pub returns-in-None-2-clause-line : goal.returns-in-None-2-clause-line
returns-in-None-2-clause-line c =
    let text = c.args.text.now in
    let some : length c.args.text.now ≢ 0 = grind (arith, nat_tests) in
    lines-last text some (ap (λ o. unwrap_or o (length text)) c.in-None.ensures.place ∙ place-found is_feed text)
