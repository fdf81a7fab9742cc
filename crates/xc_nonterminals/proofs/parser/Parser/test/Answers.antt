use Rattle.std.proofs.Common.{refl}
use Rattle.xc_nonterminals.proofs.Reading.Exits.{handed_on}
use Rattle.xc_nonterminals.proofs.Reading.Paths.{begin, over_word, lacks_word, read, stops, finish}
use Rattle.xc_nonterminals.proofs.parser.Parser.test.Goals as goal

pub returns-then-is_word-clause-read : goal.returns-then-is_word-clause-read
returns-then-is_word-clause-read c =
    let on = (c.is_word.ensures.yes c.if-is_word.true).1.1 in
    λ room. finish (over_word (begin refl tt) on refl) refl

pub returns-then-is_word-2-clause-read : goal.returns-then-is_word-2-clause-read
returns-then-is_word-2-clause-read c =
    let on = (c.is_word-2.ensures.yes c.if-is_word-2.true).1.1 in
    λ room. finish (over_word (begin refl tt) on refl) refl

pub returns-in_err-timerafter-clause-stopped : goal.returns-in_err-timerafter-clause-stopped
returns-in_err-timerafter-clause-stopped c =
    let no_pinseq = c.is_word.ensures.no c.if-is_word.false in
    let no_pinsneq = c.is_word-2.ensures.no c.if-is_word-2.false in
    handed_on _ c.from_residual.result c.from_residual.ensures.1
    (λ room. stops _ (lacks_word 18 (lacks_word 17 (begin refl tt) no_pinseq) no_pinsneq) (c.in_err-timerafter.ensures.stopped room) refl)

pub returns-clause-read : goal.returns-clause-read
returns-clause-read c =
    let no_pinseq = c.is_word.ensures.no c.if-is_word.false in
    let no_pinsneq = c.is_word-2.ensures.no c.if-is_word-2.false in
    λ room. finish (read (lacks_word 18 (lacks_word 17 (begin refl tt) no_pinseq) no_pinsneq) (c.in_ok-timerafter.ensures.read room) refl) refl
