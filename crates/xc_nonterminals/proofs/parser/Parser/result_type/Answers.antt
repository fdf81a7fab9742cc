use Rattle.std.proofs.Common.{refl}
use Rattle.xc_nonterminals.proofs.Reading.Exits.{handed_on}
use Rattle.xc_nonterminals.proofs.Reading.Paths.{begin, over_word, lacks_word, read, stops, finish}
use Rattle.xc_nonterminals.proofs.parser.Parser.result_type.Goals as goal

pub returns-then-is_word-clause-read : goal.returns-then-is_word-clause-read
returns-then-is_word-clause-read c =
    let on = (c.is_word.ensures.yes c.if-is_word.true).1.1 in
    λ room. finish (over_word (begin refl tt) on refl) refl

pub returns-in_err-word-clause-stopped : goal.returns-in_err-word-clause-stopped
returns-in_err-word-clause-stopped c =
    let none = c.is_word.ensures.no c.if-is_word.false in
    handed_on _ c.from_residual.result c.from_residual.ensures.1
    (λ room. stops _ (lacks_word 27 (begin refl tt) none) (c.in_err-word.ensures.stopped room) refl)

pub returns-clause-read : goal.returns-clause-read
returns-clause-read c =
    let none = c.is_word.ensures.no c.if-is_word.false in
    λ room. finish (read (lacks_word 27 (begin refl tt) none) (c.in_ok-word.ensures.read room) refl) refl
