use Rattle.std.proofs.Common.{◌≡◌, ◌≢◌, ◌<◌, length, unwrap_or, arith, sym, ap, subst, ◌∙◌}
use Rattle.std.proofs.lemmas.Bool.Decides.{nat_tests}
use Rattle.std.specs.List.{position_or_len}
use Rattle.xr_stim.proofs.PartLemmas.{place-found, place-past_spaces, words-first, words-none, words-past_spaces}
use Rattle.xr_stim.specs.Lines.{is_space, past_spaces, words}
use Rattle.xr_stim.proofs.words.first_word.Goals as goal

pub returns-then-is_empty : goal.returns-then-is_empty
returns-then-is_empty c =
    let none : length c.past_spaces-line.result.now ≡ 0 = grind (arith, nat_tests) in
    words-none c.args.line.now (ap length (sym c.past_spaces-line.ensures) ∙ none)

pub returns : goal.returns
returns c =
    let line = c.past_spaces-line.result.now in
    let place : c.unwrap_or-end.result ≡ position_or_len is_space line =
    c.unwrap_or-end.ensures ∙ ap (λ o. unwrap_or o (length line)) c.place_of.ensures.place ∙ place-found is_space line in
    let some : length c.past_spaces-line.result.now ≢ 0 = grind (arith, nat_tests) in
    let first : 0 < position_or_len is_space (past_spaces c.args.line.now) =
    place-past_spaces c.args.line.now (λ e. some (ap length c.past_spaces-line.ensures ∙ e)) in
    let word : 0 < c.unwrap_or-end.result =
    subst (λ k. 0 < k) (sym (place ∙ ap (position_or_len is_space) c.past_spaces-line.ensures)) first in
    sym (words-past_spaces c.args.line.now) ∙ ap words (sym c.past_spaces-line.ensures)
    ∙ words-first line c.unwrap_or-end.result word place
