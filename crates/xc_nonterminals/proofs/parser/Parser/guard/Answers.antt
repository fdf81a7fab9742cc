use Rattle.std.proofs.Common.{refl}
use Rattle.xc_nonterminals.proofs.Reading.Exits.{handed_on}
use Rattle.xc_nonterminals.proofs.Reading.Paths.{begin, read, stops, finish}
use Rattle.xc_nonterminals.proofs.parser.Parser.guard.Goals as goal

pub returns-in_err-test-clause-stopped : goal.returns-in_err-test-clause-stopped
returns-in_err-test-clause-stopped c =
    handed_on _ c.from_residual.result c.from_residual.ensures.1
    (stops _ (begin refl tt) c.in_err-test.ensures.stopped refl)

pub returns-in_err-closed-clause-stopped : goal.returns-in_err-closed-clause-stopped
returns-in_err-closed-clause-stopped c =
    let test = read (begin refl tt) c.in_ok-test.ensures.read refl in
    handed_on _ c.from_residual-in_err-closed.result c.from_residual-in_err-closed.ensures.1
    (stops _ test (c.in_err-closed.ensures.stopped _) refl)

pub returns-clause-read : goal.returns-clause-read
returns-clause-read c =
    let test = read (begin refl tt) c.in_ok-test.ensures.read refl in
    rw c.in_ok-closed.ensures.value (finish (read test (c.in_ok-closed.ensures.read.1 _) refl) refl)
