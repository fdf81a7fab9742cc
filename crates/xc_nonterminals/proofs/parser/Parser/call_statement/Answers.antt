use Rattle.std.proofs.Common.{◌+◌, ◌≤◌, refl, arith}
use Rattle.xc_tree.proofs.Forms.{action-Do}
use Rattle.xc_nonterminals.proofs.Reading.Exits.{handed_on, memory_missing}
use Rattle.xc_nonterminals.proofs.Stating.Simples.{call_reads, call_stops, call_ends}
use Rattle.xc_nonterminals.proofs.Reading.Stated.{ok_with, symbol_there}
use Rattle.xc_nonterminals.proofs.parser.Parser.call_statement.Goals as goal

pub returns-in_err-call-clause-stopped : goal.returns-in_err-call-clause-stopped
returns-in_err-call-clause-stopped c =
    handed_on _ c.from_residual.result c.from_residual.ensures.1
    (call_stops c.args.self.now.toks.now c.args.room c.args.at c.requires.name.2 _ c.requires.open.1 c.in_err-call.ensures.stopped)

pub returns-in_err-closed-clause-stopped : goal.returns-in_err-closed-clause-stopped
returns-in_err-closed-clause-stopped c =
    let l = c.in_ok-call.ensures.bounds.0 in
    let m : c.args.at + 1 ≤ c.in_ok-call.call.end = omega (arith, l) in
    handed_on _ c.from_residual-in_err-closed.result c.from_residual-in_err-closed.ensures.1
    (call_ends c.args.self.now.toks.now c.args.room c.args.at c.requires.name.2 _ c.requires.open.1 c.in_ok-call.ensures.read m (c.in_err-closed.ensures.stopped _))

pub whole-requires-clause-held : goal.whole-requires-clause-held
whole-requires-clause-held c = rw action-Do refl

pub returns-clause-read : goal.returns-clause-read
returns-clause-read c =
    let l = c.in_ok-call.ensures.bounds.0 in
    let m : c.args.at + 1 ≤ c.in_ok-call.call.end = omega (arith, l) in
    ok_with _ _ c.whole.result (λ x h. rw (h.0, h.1, action-Do, c.right_side.ensures, c.in_ok-closed.ensures.value, c.in_ok-closed.ensures.bounds.0)
    (call_reads c.args.self.now.toks.now c.args.room c.args.at c.requires.name.2 c.requires.open.1 c.in_ok-call.ensures.read m (symbol_there (c.in_ok-closed.ensures.read.1 0)))) c.whole.ensures.made

pub returns-clause-stopped : goal.returns-clause-stopped
returns-clause-stopped c = memory_missing _ c.whole.result c.whole.ensures.memory tt
