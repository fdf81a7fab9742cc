use Rattle.std.proofs.Common.{refl}
use Rattle.xc_nonterminals.proofs.Reading.Exits.{handed_on}
use Rattle.xc_nonterminals.proofs.Reading.Paths.{begin, over_word, lacks_word, read, stops, finish}
use Rattle.xc_nonterminals.proofs.parser.Parser.dir.Goals as goal

pub returns-in_err-port-clause-stopped : goal.returns-in_err-port-clause-stopped
returns-in_err-port-clause-stopped c =
    let on = (c.is_word.ensures.yes c.if-is_word.true).1.1 in
    handed_on _ c.from_residual.result c.from_residual.ensures.1
    (λ room. stops _ (over_word (begin refl tt) on refl) (c.in_err-port.ensures.stopped room) refl)

pub returns-then-is_word-clause-read : goal.returns-then-is_word-clause-read
returns-then-is_word-clause-read c =
    let on = (c.is_word.ensures.yes c.if-is_word.true).1.1 in
    λ room. finish (read (over_word (begin refl tt) on refl) (c.in_ok-port.ensures.read room) refl) refl

pub returns-in_err-port-2-clause-stopped : goal.returns-in_err-port-2-clause-stopped
returns-in_err-port-2-clause-stopped c =
    let on = (c.is_word-2.ensures.yes c.if-is_word-2.true).1.1 in
    handed_on _ c.from_residual-in_err-port-2.result c.from_residual-in_err-port-2.ensures.1
    (λ room. stops _ (over_word (begin refl tt) on refl) (c.in_err-port-2.ensures.stopped room) refl)

pub returns-then-is_word-2-clause-read : goal.returns-then-is_word-2-clause-read
returns-then-is_word-2-clause-read c =
    let on = (c.is_word-2.ensures.yes c.if-is_word-2.true).1.1 in
    λ room. finish (read (over_word (begin refl tt) on refl) (c.in_ok-port-2.ensures.read room) refl) refl

pub returns-in_err-port-3-clause-stopped : goal.returns-in_err-port-3-clause-stopped
returns-in_err-port-3-clause-stopped c =
    let no_in = c.is_word.ensures.no c.if-is_word.false in
    let no_out = c.is_word-2.ensures.no c.if-is_word-2.false in
    handed_on _ c.from_residual-in_err-port-3.result c.from_residual-in_err-port-3.ensures.1
    (λ room. stops _ (lacks_word 14 (lacks_word 10 (begin refl tt) no_in) no_out) (c.in_err-port-3.ensures.stopped room) refl)

pub returns-clause-read : goal.returns-clause-read
returns-clause-read c =
    let no_in = c.is_word.ensures.no c.if-is_word.false in
    let no_out = c.is_word-2.ensures.no c.if-is_word-2.false in
    λ room. finish (read (lacks_word 14 (lacks_word 10 (begin refl tt) no_in) no_out) (c.in_ok-port-3.ensures.read room) refl) refl
