use Rattle.std.proofs.Common.{refl, ◌+◌}
use Rattle.xc_tree.specs.Symbol.{statement}
use Rattle.xc_tree.proofs.Forms.{action-Output}
use Rattle.xc_nonterminals.proofs.Reading.Exits.{handed_on, memory_missing}
use Rattle.xc_nonterminals.proofs.Reading.Stated.{ok_with}
use Rattle.xc_nonterminals.proofs.Stating.Marks.{name_stops}
use Rattle.xc_nonterminals.proofs.Stating.Transferring.{sent_stops, output_read}
use Rattle.xc_nonterminals.proofs.parser.Parser.transfer.Goals as goal

pub returns-in_err-name-clause-stopped : goal.returns-in_err-name-clause-stopped
returns-in_err-name-clause-stopped c =
    handed_on _ c.from_residual.result c.from_residual.ensures.1
    (name_stops c.args.self.now.toks.now c.args.at (c.args.room + 1) statement c.requires.name _ (c.in_err-name.ensures.stopped _))

pub returns-in_err-tail-clause-stopped : goal.returns-in_err-tail-clause-stopped
returns-in_err-tail-clause-stopped c =
    let on = (c.is_symbol.ensures.yes c.if-not-is_symbol.false).1.1 in
    handed_on _ c.from_residual-in_err-tail.result c.from_residual-in_err-tail.ensures.1
    (sent_stops c.args.self.now.toks.now c.args.room c.args.at (c.in_ok-name.ensures.read _) on _ c.in_err-tail.ensures.stopped)

pub returns-clause-read : goal.returns-clause-read
returns-clause-read c =
    let on = (c.is_symbol.ensures.yes c.if-not-is_symbol.false).1.1 in
    ok_with _ _ c.whole.result (λ x h. rw (h.1, h.0, action-Output, c.output_of-output.ensures)
    (output_read c.args.self.now.toks.now c.args.room c.args.at (c.in_ok-name.ensures.read _) on c.in_ok-tail.ensures.read.2)) c.whole.ensures.made

pub returns-clause-stopped : goal.returns-clause-stopped
returns-clause-stopped c = memory_missing _ c.whole.result c.whole.ensures.memory tt

pub whole-requires-clause-held : goal.whole-requires-clause-held
whole-requires-clause-held c = rw action-Output refl
