use Rattle.std.proofs.Common.{refl}
use Rattle.xc_tree.specs.Symbol as symbol
use Rattle.xc_tree.specs.Derives.{deepest}
use Rattle.xc_nonterminals.specs.Follows.{first}
use Rattle.xc_nonterminals.proofs.Reading.Exits.{handed_on}
use Rattle.xc_nonterminals.proofs.Declaring.ItemHeads.{head_stops, at_head}
use Rattle.xc_nonterminals.proofs.Reading.Paths.{begin, over_symbol, lacks, lacks_symbol, read, stops, finish}
use Rattle.xc_parser.proofs.program.item.Goals as goal

pub returns-in_err-port-clause-stopped : goal.returns-in_err-port-clause-stopped
returns-in_err-port-clause-stopped c =
    let none = c.begins_head.ensures.no c.if-not-begins_head.true in
    handed_on _ c.from_residual.result c.from_residual.ensures.1
    (stops _ (lacks (first symbol.head) (begin refl tt) none) c.in_err-port.ensures.stopped refl)

pub returns-then-not-begins_head-clause-read : goal.returns-then-not-begins_head-clause-read
returns-then-not-begins_head-clause-read c =
    let none = c.begins_head.ensures.no c.if-not-begins_head.true in
    finish (read (lacks (first symbol.head) (begin refl tt) none) c.in_ok-port.ensures.read refl) refl

pub returns-in_err-head-clause-stopped : goal.returns-in_err-head-clause-stopped
returns-in_err-head-clause-stopped c =
    let one = c.begins_head.ensures.yes c.if-not-begins_head.false in
    handed_on _ c.from_residual-in_err-head.result c.from_residual-in_err-head.ensures.1
    (head_stops one deepest _ (c.in_err-head.ensures.stopped deepest))

pub returns-then-is_symbol-clause-read : goal.returns-then-is_symbol-clause-read
returns-then-is_symbol-clause-read c =
    let one = c.begins_head.ensures.yes c.if-not-begins_head.false in
    let on = (c.is_symbol.ensures.yes c.if-is_symbol.true).1.1 in
    finish (over_symbol (at_head one (c.in_ok-head.ensures.read deepest)) on refl) refl

pub returns-in_err-body-clause-stopped : goal.returns-in_err-body-clause-stopped
returns-in_err-body-clause-stopped c =
    let one = c.begins_head.ensures.yes c.if-not-begins_head.false in
    let none = c.is_symbol.ensures.no c.if-is_symbol.false in
    handed_on _ c.from_residual-in_err-body.result c.from_residual-in_err-body.ensures.1
    (stops _ (lacks_symbol 6 (at_head one (c.in_ok-head.ensures.read deepest)) none) c.in_err-body.ensures.stopped refl)

pub returns-clause-read : goal.returns-clause-read
returns-clause-read c =
    let one = c.begins_head.ensures.yes c.if-not-begins_head.false in
    let none = c.is_symbol.ensures.no c.if-is_symbol.false in
    finish (read (lacks_symbol 6 (at_head one (c.in_ok-head.ensures.read deepest)) none) c.in_ok-body.ensures.read refl) refl
