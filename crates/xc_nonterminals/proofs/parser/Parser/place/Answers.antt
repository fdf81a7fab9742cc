use Rattle.std.proofs.Common.{refl, sym, subst}
use Rattle.xc_tree.specs.Symbol as symbol
use Rattle.xc_nonterminals.specs.Stops.{Stopped}
use Rattle.xc_nonterminals.proofs.Reading.Exits.{handed_on}
use Rattle.xc_nonterminals.proofs.Declaring.Cores.{on_stops, at_on, at_core, no_core}
use Rattle.xc_nonterminals.proofs.Reading.Paths.{read, stops, finish}
use Rattle.xc_nonterminals.proofs.parser.Parser.place.Goals as goal

pub returns-in_err-on-clause-stopped : goal.returns-in_err-on-clause-stopped
returns-in_err-on-clause-stopped c =
    handed_on _ c.from_residual.result c.from_residual.ensures.1
    (on_stops c.args.self.now.toks.now c.args.room c.args.at _ (c.in_err-on.ensures.stopped c.args.room))

pub returns-in_err-core-clause-stopped : goal.returns-in_err-core-clause-stopped
returns-in_err-core-clause-stopped c =
    let e = c.in_err-core.ensures.stopped in
    handed_on _ c.from_residual-in_err-core.result c.from_residual-in_err-core.ensures.1
    (subst (Stopped c.args.self.now.toks.now c.args.room symbol.place c.args.at) (sym e.0) (no_core (at_on (c.in_ok-on.ensures.read c.args.room)) e.1))

pub returns-in_err-open-clause-stopped : goal.returns-in_err-open-clause-stopped
returns-in_err-open-clause-stopped c =
    handed_on _ c.from_residual-in_err-open.result c.from_residual-in_err-open.ensures.1
    (stops _ (at_core (at_on (c.in_ok-on.ensures.read c.args.room)) c.in_ok-core.ensures.read.0 c.in_ok-core.ensures.read.1.1 c.in_ok-core.ensures.bounds.0) (c.in_err-open.ensures.stopped c.args.room) refl)

pub returns-in_err-value-clause-stopped : goal.returns-in_err-value-clause-stopped
returns-in_err-value-clause-stopped c =
    handed_on _ c.from_residual-in_err-value.result c.from_residual-in_err-value.ensures.1
    (stops _ (read (at_core (at_on (c.in_ok-on.ensures.read c.args.room)) c.in_ok-core.ensures.read.0 c.in_ok-core.ensures.read.1.1 c.in_ok-core.ensures.bounds.0) (c.in_ok-open.ensures.read c.args.room) refl) c.in_err-value.ensures.stopped refl)

pub returns-in_err-close-clause-stopped : goal.returns-in_err-close-clause-stopped
returns-in_err-close-clause-stopped c =
    handed_on _ c.from_residual-in_err-close.result c.from_residual-in_err-close.ensures.1
    (stops _ (read (read (at_core (at_on (c.in_ok-on.ensures.read c.args.room)) c.in_ok-core.ensures.read.0 c.in_ok-core.ensures.read.1.1 c.in_ok-core.ensures.bounds.0) (c.in_ok-open.ensures.read c.args.room) refl) c.in_ok-value.ensures.read refl) (c.in_err-close.ensures.stopped c.args.room) refl)

pub returns-in_err-colon-clause-stopped : goal.returns-in_err-colon-clause-stopped
returns-in_err-colon-clause-stopped c =
    handed_on _ c.from_residual-in_err-colon.result c.from_residual-in_err-colon.ensures.1
    (stops _ (read (read (read (at_core (at_on (c.in_ok-on.ensures.read c.args.room)) c.in_ok-core.ensures.read.0 c.in_ok-core.ensures.read.1.1 c.in_ok-core.ensures.bounds.0) (c.in_ok-open.ensures.read c.args.room) refl) c.in_ok-value.ensures.read refl) (c.in_ok-close.ensures.read.1 c.args.room) refl) (c.in_err-colon.ensures.stopped c.args.room) refl)

pub returns-clause-read : goal.returns-clause-read
returns-clause-read c =
    rw (c.in_ok-colon.ensures.value, c.in_ok-close.ensures.value)
    (finish (read (read (read (read (at_core (at_on (c.in_ok-on.ensures.read c.args.room)) c.in_ok-core.ensures.read.0 c.in_ok-core.ensures.read.1.1 c.in_ok-core.ensures.bounds.0) (c.in_ok-open.ensures.read c.args.room) refl) c.in_ok-value.ensures.read refl) (c.in_ok-close.ensures.read.1 c.args.room) refl) (c.in_ok-colon.ensures.read.1 c.args.room) refl) refl)
