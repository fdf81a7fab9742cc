use Rattle.std.proofs.Common.{refl}
use Rattle.xc_nonterminals.proofs.Reading.Exits.{handed_on}
use Rattle.xc_nonterminals.proofs.Reading.Paths.{begin, over_word, at_symbol, lacks_symbol, lacks_word, read, stops, finish}
use Rattle.xc_nonterminals.proofs.Rests.Unfinished.{unfinished}
use Rattle.xc_nonterminals.proofs.Stating.Marks.{on_it}
use Rattle.xc_nonterminals.proofs.parser.Parser.waits.Goals as goal
use Rattle.xc_tree.specs.Terminals as terminal

pub returns-in_err-time-clause-stopped : goal.returns-in_err-time-clause-stopped
returns-in_err-time-clause-stopped c =
    let at = (c.is_symbol.ensures.yes c.if-is_symbol.true).1 in
    handed_on _ c.from_residual.result c.from_residual.ensures.1
    (stops _ (unfinished (at_symbol (begin refl tt) at.1) (record { token = terminal.at_sign; stands = at; among = refl })) c.in_err-time.ensures.stopped refl)

pub returns-then-is_symbol-clause-read : goal.returns-then-is_symbol-clause-read
returns-then-is_symbol-clause-read c =
    let at = (c.is_symbol.ensures.yes c.if-is_symbol.true).1 in
    finish (read (unfinished (at_symbol (begin refl tt) at.1) (record { token = terminal.at_sign; stands = at; among = refl })) c.in_ok-time.ensures.read refl) refl

pub returns-then-not-is_word-clause-read : goal.returns-then-not-is_word-clause-read
returns-then-not-is_word-clause-read c =
    finish (lacks_word 28 (lacks_symbol 23 (begin refl tt) (c.is_symbol.ensures.no c.if-is_symbol.false)) (c.is_word.ensures.no c.if-not-is_word.true)) refl

pub returns-in_err-test-clause-stopped : goal.returns-in_err-test-clause-stopped
returns-in_err-test-clause-stopped c =
    let on = (c.is_word.ensures.yes c.if-not-is_word.false).1.1 in
    handed_on _ c.from_residual-in_err-test.result c.from_residual-in_err-test.ensures.1
    (stops _ (over_word (begin refl tt) on refl) (c.in_err-test.ensures.stopped _) refl)

pub returns-in_err-open-clause-stopped : goal.returns-in_err-open-clause-stopped
returns-in_err-open-clause-stopped c =
    let on = (c.is_word.ensures.yes c.if-not-is_word.false).1.1 in
    let test = read (over_word (begin refl tt) on refl) (c.in_ok-test.ensures.read _) refl in
    handed_on _ c.from_residual-in_err-open.result c.from_residual-in_err-open.ensures.1
    (stops _ test (c.in_err-open.ensures.stopped _) refl)

pub returns-in_err-value-clause-stopped : goal.returns-in_err-value-clause-stopped
returns-in_err-value-clause-stopped c =
    let on = (c.is_word.ensures.yes c.if-not-is_word.false).1.1 in
    let test = read (over_word (begin refl tt) on refl) (c.in_ok-test.ensures.read _) refl in
    let bracket = read test (c.in_ok-open.ensures.read _) refl in
    handed_on _ c.from_residual-in_err-value.result c.from_residual-in_err-value.ensures.1
    (stops _ bracket c.in_err-value.ensures.stopped refl)

pub returns-in_err-close-clause-stopped : goal.returns-in_err-close-clause-stopped
returns-in_err-close-clause-stopped c =
    let on = (c.is_word.ensures.yes c.if-not-is_word.false).1.1 in
    let test = read (over_word (begin refl tt) on refl) (c.in_ok-test.ensures.read _) refl in
    let bracket = read test (c.in_ok-open.ensures.read _) refl in
    let value = read bracket c.in_ok-value.ensures.read refl in
    handed_on _ c.from_residual-in_err-close.result c.from_residual-in_err-close.ensures.1
    (stops _ value (c.in_err-close.ensures.stopped _) refl)

pub returns-clause-read : goal.returns-clause-read
returns-clause-read c =
    let on = on_it (c.is_word.ensures.yes c.if-not-is_word.false).1.1 c.index-self-at.result in
    let test = read (over_word (begin refl tt) on refl) (c.in_ok-test.ensures.read _) refl in
    let bracket = read test (c.in_ok-open.ensures.read _) refl in
    let value = read bracket c.in_ok-value.ensures.read refl in
    rw c.in_ok-close.ensures.value (finish (read value (c.in_ok-close.ensures.read.1 _) refl) refl)
