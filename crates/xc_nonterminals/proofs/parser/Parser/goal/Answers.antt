use Rattle.std.proofs.Common.{inl, inr}
use Rattle.xc_nonterminals.proofs.Reading.Exits.{handed_on}
use Rattle.xc_nonterminals.proofs.parser.Parser.goal.Goals as goal

pub returns-in_err-dest-clause-stopped : goal.returns-in_err-dest-clause-stopped
returns-in_err-dest-clause-stopped c =
    handed_on _ c.from_residual.result c.from_residual.ensures.1 (record { stops = inl c.in_err-dest.ensures.stopped })

pub returns-in_err-dest-2-clause-stopped : goal.returns-in_err-dest-2-clause-stopped
returns-in_err-dest-2-clause-stopped c =
    let stamp = rw c.in_err-dest-2.ensures.failed at c.maybe_stamp.ensures.stopped in
    handed_on _ c.from_residual-in_err-dest-2.result c.from_residual-in_err-dest-2.ensures.1
    (record { stops = inr (_, _, c.in_ok-dest.ensures.read, stamp) })

pub returns-clause-read : goal.returns-clause-read
returns-clause-read c =
    let stamp = rw c.in_ok-dest-2.ensures.made at c.maybe_stamp.ensures.read in
    rw c.in_ok-dest-2.ensures.value (record { middle = _; target = c.in_ok-dest.ensures.read; stored = stamp })
