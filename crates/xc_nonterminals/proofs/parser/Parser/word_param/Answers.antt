use Rattle.std.proofs.Common.{refl}
use Rattle.xc_nonterminals.proofs.Reading.Exits.{handed_on}
use Rattle.xc_nonterminals.proofs.Declaring.Params.{type_stops, at_type, name_stops, at_name, at_bracket}
use Rattle.xc_nonterminals.proofs.Reading.Paths.{over_symbol, lacks_symbol, read, stops, finish}
use Rattle.xc_nonterminals.proofs.parser.Parser.word_param.Goals as goal

pub returns-in_err-word-clause-stopped : goal.returns-in_err-word-clause-stopped
returns-in_err-word-clause-stopped c =
    handed_on _ c.from_residual.result c.from_residual.ensures.1
    (λ room. type_stops c.requires.word room _ (c.in_err-word.ensures.stopped room))

pub returns-in_err-name-clause-stopped : goal.returns-in_err-name-clause-stopped
returns-in_err-name-clause-stopped c =
    let on = (c.is_symbol.ensures.yes c.if-is_symbol.true).1.1 in
    handed_on _ c.from_residual-in_err-name.result c.from_residual-in_err-name.ensures.1
    (λ room. stops _ (over_symbol (at_type c.requires.word (c.in_ok-word.ensures.read room)) on refl) (c.in_err-name.ensures.stopped room) refl)

pub returns-then-is_symbol-clause-read : goal.returns-then-is_symbol-clause-read
returns-then-is_symbol-clause-read c =
    let on = (c.is_symbol.ensures.yes c.if-is_symbol.true).1.1 in
    rw c.param_of.ensures
    (λ room. finish (read (over_symbol (at_type c.requires.word (c.in_ok-word.ensures.read room)) on refl) (c.in_ok-name.ensures.read room) refl) refl)

pub returns-in_err-name-2-clause-stopped : goal.returns-in_err-name-2-clause-stopped
returns-in_err-name-2-clause-stopped c =
    let none = c.is_symbol.ensures.no c.if-is_symbol.false in
    handed_on _ c.from_residual-in_err-name-2.result c.from_residual-in_err-name-2.ensures.1
    (λ room. name_stops c.requires.word (c.in_ok-word.ensures.read room) none _ (c.in_err-name-2.ensures.stopped room))

pub returns-then-not-is_symbol-clause-read : goal.returns-then-not-is_symbol-clause-read
returns-then-not-is_symbol-clause-read c =
    let none = c.is_symbol.ensures.no c.if-is_symbol.false in
    let no_bracket = c.is_symbol-2.ensures.no c.if-not-is_symbol.true in
    rw c.param_of-then-not-is_symbol.ensures
    (λ room. finish (lacks_symbol 4 (at_name c.requires.word (c.in_ok-word.ensures.read room) none (c.in_ok-name-2.ensures.read room)) no_bracket) refl)

pub returns-then-is_symbol-2-clause-read : goal.returns-then-is_symbol-2-clause-read
returns-then-is_symbol-2-clause-read c =
    let none = c.is_symbol.ensures.no c.if-is_symbol.false in
    let bracket = (c.is_symbol-2.ensures.yes c.if-not-is_symbol.false).1.1 in
    let end = (c.is_symbol-3.ensures.yes c.if-is_symbol-2.true).1.1 in
    λ room. finish (over_symbol (at_bracket c.requires.word (c.in_ok-word.ensures.read room) none (c.in_ok-name-2.ensures.read room) bracket) end refl) refl

pub returns-in_err-length-clause-stopped : goal.returns-in_err-length-clause-stopped
returns-in_err-length-clause-stopped c =
    let none = c.is_symbol.ensures.no c.if-is_symbol.false in
    let bracket = (c.is_symbol-2.ensures.yes c.if-not-is_symbol.false).1.1 in
    let no_end = c.is_symbol-3.ensures.no c.if-is_symbol-2.false in
    handed_on _ c.from_residual-in_err-length.result c.from_residual-in_err-length.ensures.1
    (λ room. stops _ (lacks_symbol 5 (at_bracket c.requires.word (c.in_ok-word.ensures.read room) none (c.in_ok-name-2.ensures.read room) bracket) no_end) (c.in_err-length.ensures.stopped room) refl)

pub returns-in_err-close-clause-stopped : goal.returns-in_err-close-clause-stopped
returns-in_err-close-clause-stopped c =
    let none = c.is_symbol.ensures.no c.if-is_symbol.false in
    let bracket = (c.is_symbol-2.ensures.yes c.if-not-is_symbol.false).1.1 in
    let no_end = c.is_symbol-3.ensures.no c.if-is_symbol-2.false in
    handed_on _ c.from_residual-in_err-close.result c.from_residual-in_err-close.ensures.1
    (λ room. stops _ (read (lacks_symbol 5 (at_bracket c.requires.word (c.in_ok-word.ensures.read room) none (c.in_ok-name-2.ensures.read room) bracket) no_end) (c.in_ok-length.ensures.read room) refl) (c.in_err-close.ensures.stopped room) refl)

pub returns-clause-read : goal.returns-clause-read
returns-clause-read c =
    let none = c.is_symbol.ensures.no c.if-is_symbol.false in
    let bracket = (c.is_symbol-2.ensures.yes c.if-not-is_symbol.false).1.1 in
    let no_end = c.is_symbol-3.ensures.no c.if-is_symbol-2.false in
    λ room. finish (read (read (lacks_symbol 5 (at_bracket c.requires.word (c.in_ok-word.ensures.read room) none (c.in_ok-name-2.ensures.read room) bracket) no_end) (c.in_ok-length.ensures.read room) refl) (c.in_ok-close.ensures.read room) refl) refl
