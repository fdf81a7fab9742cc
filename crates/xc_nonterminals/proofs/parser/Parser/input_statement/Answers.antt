use Rattle.std.proofs.Common.{refl, ◌+◌, ◌≤◌, arith}
use Rattle.xc_tree.proofs.Forms.{action-Input}
use Rattle.xc_nonterminals.proofs.Reading.Exits.{handed_on, memory_missing}
use Rattle.xc_nonterminals.proofs.Reading.Stated.{ok_with}
use Rattle.xc_nonterminals.proofs.Stating.Transferring.{input_stops, input_ends, input_reads}
use Rattle.xc_nonterminals.proofs.parser.Parser.input_statement.Goals as goal

pub returns-in_err-input-clause-stopped : goal.returns-in_err-input-clause-stopped
returns-in_err-input-clause-stopped c =
    handed_on _ c.from_residual.result c.from_residual.ensures.1
    (input_stops c.args.self.now.toks.now c.args.room c.args.at c.requires.name.2 c.requires.begins _ c.in_err-input.ensures.stopped)

pub returns-in_err-closed-clause-stopped : goal.returns-in_err-closed-clause-stopped
returns-in_err-closed-clause-stopped c =
    let l = c.in_ok-input.ensures.bounds.0 in
    let m : c.args.at + 1 ≤ c.in_ok-input.input.end = omega (arith, l) in
    handed_on _ c.from_residual-in_err-closed.result c.from_residual-in_err-closed.ensures.1
    (input_ends c.args.self.now.toks.now c.args.room c.args.at c.requires.name.2 c.requires.begins c.in_ok-input.ensures.read m _ (c.in_err-closed.ensures.stopped _))

pub whole-requires-clause-held : goal.whole-requires-clause-held
whole-requires-clause-held c = rw action-Input refl

pub returns-clause-read : goal.returns-clause-read
returns-clause-read c =
    let l = c.in_ok-input.ensures.bounds.0 in
    let m : c.args.at + 1 ≤ c.in_ok-input.input.end = omega (arith, l) in
    ok_with _ _ c.whole.result (λ x h. rw (h.1, h.0, action-Input, c.in_ok-closed.ensures.value)
    (input_reads c.args.self.now.toks.now c.args.room c.args.at c.requires.name.2 c.requires.begins c.in_ok-input.ensures.read m (c.in_ok-closed.ensures.read.1 _))) c.whole.ensures.made

pub returns-clause-stopped : goal.returns-clause-stopped
returns-clause-stopped c = memory_missing _ c.whole.result c.whole.ensures.memory tt
