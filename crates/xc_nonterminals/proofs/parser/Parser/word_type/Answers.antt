use Rattle.std.proofs.Common.{refl, arith}
use Rattle.xc_nonterminals.proofs.Reading.Exits.{handed_on, ends_at}
use Rattle.xc_nonterminals.proofs.Reading.Paths.{begin, over_word, lacks_word, read, stops, finish}
use Rattle.xc_nonterminals.proofs.parser.Parser.word_type.Goals as goal

pub returns-in_err-int-clause-stopped : goal.returns-in_err-int-clause-stopped
returns-in_err-int-clause-stopped c =
    let none = c.is_word.ensures.no c.if-not-is_word.true in
    handed_on _ c.from_residual.result c.from_residual.ensures.1
    (λ room. stops _ (lacks_word 26 (begin refl tt) none) (c.in_err-int.ensures.stopped room) refl)

pub returns-then-not-is_word-clause-read : goal.returns-then-not-is_word-clause-read
returns-then-not-is_word-clause-read c =
    let none = c.is_word.ensures.no c.if-not-is_word.true in
    λ room. finish (read (lacks_word 26 (begin refl tt) none) (c.in_ok-int.ensures.read room) refl) refl

pub returns-then-is_word-clause-read : goal.returns-then-is_word-clause-read
returns-then-is_word-clause-read c =
    let on = (c.is_word.ensures.yes c.if-not-is_word.false).1.1 in
    let int = (c.is_word-2.ensures.yes c.if-is_word.true).1.1 in
    λ room. ends_at (omega arith) (finish (over_word (over_word (begin refl tt) on refl) int refl) refl)

pub returns-clause-read : goal.returns-clause-read
returns-clause-read c =
    let on = (c.is_word.ensures.yes c.if-not-is_word.false).1.1 in
    let none = c.is_word-2.ensures.no c.if-is_word.false in
    λ room. finish (lacks_word 11 (over_word (begin refl tt) on refl) none) refl
