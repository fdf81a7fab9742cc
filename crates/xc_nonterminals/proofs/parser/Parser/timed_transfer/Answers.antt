use Rattle.std.proofs.Common.{refl, ◌+◌}
use Rattle.xc_tree.specs.Symbol.{statement}
use Rattle.xc_tree.proofs.Forms.{action-Input, action-Output}
use Rattle.xc_nonterminals.proofs.Reading.Exits.{handed_on, memory_missing}
use Rattle.xc_nonterminals.proofs.Reading.Stated.{ok_with}
use Rattle.xc_nonterminals.proofs.Stating.Marks.{name_stops}
use Rattle.xc_nonterminals.proofs.Stating.Transferring.{time_stops, timed_sent_stops, timed_output_read, timed_received_stops, timed_input_read}
use Rattle.xc_nonterminals.proofs.parser.Parser.timed_transfer.Goals as goal

pub returns-in_err-name-clause-stopped : goal.returns-in_err-name-clause-stopped
returns-in_err-name-clause-stopped c =
    handed_on _ c.from_residual.result c.from_residual.ensures.1
    (name_stops c.args.self.now.toks.now c.args.at (c.args.room + 1) statement c.requires.name _ (c.in_err-name.ensures.stopped _))

pub returns-in_err-name-2-clause-stopped : goal.returns-in_err-name-2-clause-stopped
returns-in_err-name-2-clause-stopped c =
    let stopped = rw c.in_err-name-2.ensures.failed at c.time.ensures.stopped in
    handed_on _ c.from_residual-in_err-name-2.result c.from_residual-in_err-name-2.ensures.1
    (time_stops c.args.self.now.toks.now c.args.room c.args.at (c.in_ok-name.ensures.read _) c.requires.begins _ stopped)

pub returns-in_err-before-clause-stopped : goal.returns-in_err-before-clause-stopped
returns-in_err-before-clause-stopped c =
    let on = (c.is_symbol.ensures.yes c.if-is_symbol.true).1.1 in
    let time = rw c.in_ok-name-2.ensures.made at c.time.ensures.read in
    let stopped = rw c.in_err-before.ensures.failed at c.output_tail.ensures.stopped in
    handed_on _ c.from_residual-in_err-before.result c.from_residual-in_err-before.ensures.1
    (timed_sent_stops c.args.self.now.toks.now c.args.room c.args.at (c.in_ok-name.ensures.read _) c.requires.begins time on _ stopped)

pub returns-then-is_symbol-clause-read : goal.returns-then-is_symbol-clause-read
returns-then-is_symbol-clause-read c =
    let on = (c.is_symbol.ensures.yes c.if-is_symbol.true).1.1 in
    let time = rw c.in_ok-name-2.ensures.made at c.time.ensures.read in
    let sends = rw c.in_ok-before.ensures.made at c.output_tail.ensures.read in
    ok_with _ _ c.whole.result (λ x h. rw (h.1, h.0, action-Output, c.output_of-output.ensures, c.in_ok-before.ensures.value, c.in_ok-name-2.ensures.value)
    (timed_output_read c.args.self.now.toks.now c.args.room c.args.at (c.in_ok-name.ensures.read _) c.requires.begins time on sends.2)) c.whole.ensures.made

pub returns-then-is_symbol-clause-stopped : goal.returns-then-is_symbol-clause-stopped
returns-then-is_symbol-clause-stopped c = memory_missing _ c.whole.result c.whole.ensures.memory tt

pub returns-in_err-before-2-clause-stopped : goal.returns-in_err-before-2-clause-stopped
returns-in_err-before-2-clause-stopped c =
    let none = c.is_symbol.ensures.no c.if-is_symbol.false in
    let time = rw c.in_ok-name-2.ensures.made at c.time.ensures.read in
    let stopped = rw c.in_err-before-2.ensures.failed at c.input_tail.ensures.stopped in
    handed_on _ c.from_residual-in_err-before-2.result c.from_residual-in_err-before-2.ensures.1
    (timed_received_stops c.args.self.now.toks.now c.args.room c.args.at (c.in_ok-name.ensures.read _) c.requires.begins time none _ stopped)

pub returns-clause-read : goal.returns-clause-read
returns-clause-read c =
    let none = c.is_symbol.ensures.no c.if-is_symbol.false in
    let time = rw c.in_ok-name-2.ensures.made at c.time.ensures.read in
    let receives = rw c.in_ok-before-2.ensures.made at c.input_tail.ensures.read in
    ok_with _ _ c.whole-2.result (λ x h. rw (h.1, h.0, action-Input, c.input_of-input.ensures, c.in_ok-before-2.ensures.value, c.in_ok-name-2.ensures.value)
    (timed_input_read c.args.self.now.toks.now c.args.room c.args.at (c.in_ok-name.ensures.read _) c.requires.begins time none receives.2)) c.whole-2.ensures.made

pub returns-clause-stopped : goal.returns-clause-stopped
returns-clause-stopped c = memory_missing _ c.whole-2.result c.whole-2.ensures.memory tt

pub whole-requires-clause-held : goal.whole-requires-clause-held
whole-requires-clause-held c = rw action-Output refl

pub whole-requires-2-clause-held : goal.whole-requires-2-clause-held
whole-requires-2-clause-held c = rw action-Input refl
