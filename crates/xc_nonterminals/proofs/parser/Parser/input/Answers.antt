use Rattle.std.proofs.Common.{refl, inl, inr}
use Rattle.xc_nonterminals.proofs.Reading.Exits.{handed_on}
use Rattle.xc_nonterminals.proofs.Reading.Paths.{begin, read, stops, finish}
use Rattle.xc_nonterminals.proofs.parser.Parser.input.Goals as goal

pub returns-in_err-name-clause-stopped : goal.returns-in_err-name-clause-stopped
returns-in_err-name-clause-stopped c =
    handed_on _ c.from_residual.result c.from_residual.ensures.1 (stops _ (begin refl tt) (c.in_err-name.ensures.stopped _) refl)

pub returns-in_err-name-2-clause-stopped : goal.returns-in_err-name-2-clause-stopped
returns-in_err-name-2-clause-stopped c =
    let name = read (begin refl tt) (c.in_ok-name.ensures.read _) refl in
    let stopped = rw c.in_err-name-2.ensures.failed at c.waits.ensures.stopped in
    handed_on _ c.from_residual-in_err-name-2.result c.from_residual-in_err-name-2.ensures.1 (stops _ name stopped refl)

pub returns-in_err-name-3-clause-stopped : goal.returns-in_err-name-3-clause-stopped
returns-in_err-name-3-clause-stopped c =
    let name = read (begin refl tt) (c.in_ok-name.ensures.read _) refl in
    let awaited = rw c.in_ok-name-2.ensures.made at c.waits.ensures.read in
    let waits = read name awaited refl in
    let stopped = rw c.in_err-name-3.ensures.failed at c.closed.ensures.stopped in
    handed_on _ c.from_residual-in_err-name-3.result c.from_residual-in_err-name-3.ensures.1 (stops _ waits (stopped _) refl)

pub returns-in_err-before-clause-stopped : goal.returns-in_err-before-clause-stopped
returns-in_err-before-clause-stopped c =
    let name = read (begin refl tt) (c.in_ok-name.ensures.read _) refl in
    let awaited = rw c.in_ok-name-2.ensures.made at c.waits.ensures.read in
    let waits = read name awaited refl in
    let closed = rw c.in_ok-name-3.ensures.made at c.closed.ensures.read in
    let receives = read waits (closed.1 _) refl in
    let stopped = rw c.in_err-before.ensures.failed at c.goal.ensures.stopped in
    handed_on _ c.from_residual-in_err-before.result c.from_residual-in_err-before.ensures.1
    (elim stopped.stops [ inl x ↦ stops _ receives x refl | inr y ↦ stops _ (read receives y.2 refl) y.3 refl ])

pub returns-clause-read : goal.returns-clause-read
returns-clause-read c =
    let name = read (begin refl tt) (c.in_ok-name.ensures.read _) refl in
    let awaited = rw c.in_ok-name-2.ensures.made at c.waits.ensures.read in
    let waits = read name awaited refl in
    let closed = rw c.in_ok-name-3.ensures.made at c.closed.ensures.read in
    let same = rw c.in_ok-name-3.ensures.made at c.closed.ensures.value in
    let receives = read waits (closed.1 _) refl in
    let r = rw c.in_ok-before.ensures.made at c.goal.ensures.read in
    rw (c.input_of.ensures, c.in_ok-before.ensures.value, c.in_ok-name-3.ensures.value, c.in_ok-name-2.ensures.value, same)
    (finish (read (read receives r.target refl) r.stored refl) refl)
