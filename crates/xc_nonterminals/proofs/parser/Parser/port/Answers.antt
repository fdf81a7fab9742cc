use Rattle.xc_nonterminals.proofs.Reading.Exits.{handed_on}
use Rattle.xc_nonterminals.proofs.Declaring.PortParts.{port_dir_stops, port_name_stops, port_equals_stops, port_ident_stops, port_end_stops, port_read}
use Rattle.xc_nonterminals.proofs.parser.Parser.port.Goals as goal

pub returns-in_err-dir-clause-stopped : goal.returns-in_err-dir-clause-stopped
returns-in_err-dir-clause-stopped c =
    handed_on _ c.from_residual.result c.from_residual.ensures.1
    (λ room. port_dir_stops c.args.self.now.toks.now room c.args.at _ (c.in_err-dir.ensures.stopped room))

pub returns-in_err-first-clause-stopped : goal.returns-in_err-first-clause-stopped
returns-in_err-first-clause-stopped c =
    handed_on _ c.from_residual-in_err-first.result c.from_residual-in_err-first.ensures.1
    (λ room. port_name_stops c.args.self.now.toks.now room c.args.at (c.in_ok-dir.ensures.read room) _ (c.in_err-first.ensures.stopped room))

pub returns-in_err-name-clause-stopped : goal.returns-in_err-name-clause-stopped
returns-in_err-name-clause-stopped c =
    handed_on _ c.from_residual-in_err-name.result c.from_residual-in_err-name.ensures.1
    (λ room. port_equals_stops c.args.self.now.toks.now room c.args.at (c.in_ok-dir.ensures.read room) (c.in_ok-first.ensures.read room) _ (c.in_err-name.ensures.stopped room))

pub returns-in_err-second-clause-stopped : goal.returns-in_err-second-clause-stopped
returns-in_err-second-clause-stopped c =
    handed_on _ c.from_residual-in_err-second.result c.from_residual-in_err-second.ensures.1
    (λ room. port_ident_stops c.args.self.now.toks.now room c.args.at (c.in_ok-dir.ensures.read room) (c.in_ok-first.ensures.read room) (c.in_ok-name.ensures.read.1 room) _ (c.in_err-second.ensures.stopped room))

pub returns-in_err-ident-clause-stopped : goal.returns-in_err-ident-clause-stopped
returns-in_err-ident-clause-stopped c =
    handed_on _ c.from_residual-in_err-ident.result c.from_residual-in_err-ident.ensures.1
    (λ room. port_end_stops c.args.self.now.toks.now room c.args.at (c.in_ok-dir.ensures.read room) (c.in_ok-first.ensures.read room) (c.in_ok-name.ensures.read.1 room) (c.in_ok-second.ensures.read room) _ (c.in_err-ident.ensures.stopped room))

pub returns-clause-read : goal.returns-clause-read
returns-clause-read c =
    rw (c.in_ok-ident.ensures.value, c.in_ok-name.ensures.value)
    (c.in_ok-name.ensures.read.0, c.in_ok-ident.ensures.read.0, λ room. port_read c.args.self.now.toks.now room c.args.at (c.in_ok-dir.ensures.read room) (c.in_ok-first.ensures.read room) (c.in_ok-name.ensures.read.1 room) (c.in_ok-second.ensures.read room) (c.in_ok-ident.ensures.read.1 room))
