use Rattle.std.proofs.Common.{[], refl}
use Rattle.xc_nonterminals.specs.PortParts.{port_row}
use Rattle.xc_nonterminals.proofs.Reading.Exits.{handed_on}
use Rattle.xc_nonterminals.proofs.Reading.Paths.{begin, read, stops, finish}
use Rattle.xc_nonterminals.proofs.Reading.RowSteps.{read_row, stops_row}
use Rattle.xc_nonterminals.proofs.parser.Parser.portdecl.Goals as goal

pub returns-in_err-place-clause-stopped : goal.returns-in_err-place-clause-stopped
returns-in_err-place-clause-stopped c =
    handed_on _ c.from_residual.result c.from_residual.ensures.1
    (stops _ (begin refl tt) c.in_err-place.ensures.stopped refl)

pub returns-in_err-place-2-clause-stopped : goal.returns-in_err-place-2-clause-stopped
returns-in_err-place-2-clause-stopped c =
    let place = read (begin refl tt) c.in_ok-place.ensures.read refl in
    let port = rw c.in_err-place-2.ensures.failed at c.port.ensures.stopped in
    handed_on _ c.from_residual-in_err-place-2.result c.from_residual-in_err-place-2.ensures.1
    (stops_row 0 port_row [] _ place (port _) refl)

pub returns-clause-read : goal.returns-clause-read
returns-clause-read c =
    let place = read (begin refl tt) c.in_ok-place.ensures.read refl in
    let port = rw c.in_ok-place-2.ensures.made at c.port.ensures.read in
    rw c.in_ok-place-2.ensures.value (finish (read_row 0 port_row [] place (port.2 _) refl refl) refl)
