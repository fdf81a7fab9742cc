use Rattle.std.proofs.Common.{refl}
use Rattle.xc_nonterminals.proofs.Reading.Exits.{handed_on}
use Rattle.xc_nonterminals.proofs.Reading.Paths.{begin, read, stops, finish}
use Rattle.xc_nonterminals.proofs.parser.Parser.head.Goals as goal

pub returns-in_err-result-clause-stopped : goal.returns-in_err-result-clause-stopped
returns-in_err-result-clause-stopped c =
    handed_on _ c.from_residual.result c.from_residual.ensures.1
    (λ room. stops _ (begin refl tt) (c.in_err-result.ensures.stopped room) refl)

pub returns-in_err-name-clause-stopped : goal.returns-in_err-name-clause-stopped
returns-in_err-name-clause-stopped c =
    handed_on _ c.from_residual-in_err-name.result c.from_residual-in_err-name.ensures.1
    (λ room. stops _ (read (begin refl tt) (c.in_ok-result.ensures.read room) refl) (c.in_err-name.ensures.stopped room) refl)

pub returns-in_err-open-clause-stopped : goal.returns-in_err-open-clause-stopped
returns-in_err-open-clause-stopped c =
    handed_on _ c.from_residual-in_err-open.result c.from_residual-in_err-open.ensures.1
    (λ room. stops _ (read (read (begin refl tt) (c.in_ok-result.ensures.read room) refl) (c.in_ok-name.ensures.read room) refl) (c.in_err-open.ensures.stopped room) refl)

pub returns-in_err-params-clause-stopped : goal.returns-in_err-params-clause-stopped
returns-in_err-params-clause-stopped c =
    handed_on _ c.from_residual-in_err-params.result c.from_residual-in_err-params.ensures.1
    (λ room. stops _ (read (read (read (begin refl tt) (c.in_ok-result.ensures.read room) refl) (c.in_ok-name.ensures.read room) refl) (c.in_ok-open.ensures.read.1 room) refl) (c.in_err-params.ensures.stopped room) refl)

pub returns-in_err-close-clause-stopped : goal.returns-in_err-close-clause-stopped
returns-in_err-close-clause-stopped c =
    handed_on _ c.from_residual-in_err-close.result c.from_residual-in_err-close.ensures.1
    (λ room. stops _ (read (read (read (read (begin refl tt) (c.in_ok-result.ensures.read room) refl) (c.in_ok-name.ensures.read room) refl) (c.in_ok-open.ensures.read.1 room) refl) (c.in_ok-params.ensures.read room) refl) (c.in_err-close.ensures.stopped room) refl)

pub returns-clause-read : goal.returns-clause-read
returns-clause-read c =
    rw (c.in_ok-close.ensures.value, c.in_ok-open.ensures.value)
    (λ room. finish (read (read (read (read (read (begin refl tt) (c.in_ok-result.ensures.read room) refl) (c.in_ok-name.ensures.read room) refl) (c.in_ok-open.ensures.read.1 room) refl) (c.in_ok-params.ensures.read room) refl) (c.in_ok-close.ensures.read.1 room) refl) refl)
