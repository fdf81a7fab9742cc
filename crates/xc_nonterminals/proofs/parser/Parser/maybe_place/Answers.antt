use Rattle.std.proofs.Common.{refl}
use Rattle.xc_tree.specs.Symbol as symbol
use Rattle.xc_nonterminals.proofs.Reading.Exits.{handed_on}
use Rattle.xc_nonterminals.proofs.Derivations.Single.{one_word}
use Rattle.xc_nonterminals.proofs.Reading.Paths.{begin, lacks_word, read, stops, finish}
use Rattle.xc_nonterminals.proofs.Rests.Opening.{fronts}
use Rattle.xc_nonterminals.proofs.Rests.Unfinished.{unfinished}
use Rattle.xc_nonterminals.proofs.parser.Parser.maybe_place.Goals as goal

pub returns-then-not-is_word-clause-read : goal.returns-then-not-is_word-clause-read
returns-then-not-is_word-clause-read c =
    let none = c.is_word.ensures.no c.if-not-is_word.true in
    finish (lacks_word 13 (begin refl tt) none) refl

pub returns-in_err-place-clause-stopped : goal.returns-in_err-place-clause-stopped
returns-in_err-place-clause-stopped c =
    let one = one_word (fronts (symbol.maybe symbol.place)) (c.is_word.ensures.yes c.if-not-is_word.false).1.1 refl in
    handed_on _ c.from_residual.result c.from_residual.ensures.1
    (stops _ (unfinished (begin refl tt) one) c.in_err-place.ensures.stopped refl)

pub returns-clause-read : goal.returns-clause-read
returns-clause-read c =
    let one = one_word (fronts (symbol.maybe symbol.place)) (c.is_word.ensures.yes c.if-not-is_word.false).1.1 refl in
    finish (read (unfinished (begin refl tt) one) c.in_ok-place.ensures.read refl) refl
