use Rattle.std.proofs.Common.{refl}
use Rattle.xc_nonterminals.proofs.Reading.Exits.{handed_on}
use Rattle.xc_nonterminals.proofs.Reading.Paths.{begin, lacks_symbol, read, stops, finish}
use Rattle.xc_nonterminals.proofs.Rests.Unfinished.{unfinished}
use Rattle.xc_nonterminals.proofs.parser.Parser.maybe_stamp.Goals as goal
use Rattle.xc_tree.specs.Terminals as terminal

pub returns-then-not-is_symbol-clause-read : goal.returns-then-not-is_symbol-clause-read
returns-then-not-is_symbol-clause-read c =
    finish (lacks_symbol 23 (begin refl tt) (c.is_symbol.ensures.no c.if-not-is_symbol.true)) refl

pub returns-in_err-stamp-clause-stopped : goal.returns-in_err-stamp-clause-stopped
returns-in_err-stamp-clause-stopped c =
    let at = (c.is_symbol.ensures.yes c.if-not-is_symbol.false).1 in
    handed_on _ c.from_residual.result c.from_residual.ensures.1
    (stops _ (unfinished (begin refl tt) (record { token = terminal.at_sign; stands = at; among = refl })) c.in_err-stamp.ensures.stopped refl)

pub returns-clause-read : goal.returns-clause-read
returns-clause-read c =
    let at = (c.is_symbol.ensures.yes c.if-not-is_symbol.false).1 in
    finish (read (unfinished (begin refl tt) (record { token = terminal.at_sign; stands = at; among = refl })) c.in_ok-stamp.ensures.read refl) refl
