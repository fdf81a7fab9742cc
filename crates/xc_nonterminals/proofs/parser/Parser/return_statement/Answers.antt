use Rattle.std.proofs.Common.{refl, arith}
use Rattle.xc_tree.proofs.Forms.{action-Return}
use Rattle.xc_nonterminals.proofs.Derivations.Cuts.{on_within}
use Rattle.xc_nonterminals.proofs.Reading.Exits.{handed_on, memory_missing}
use Rattle.xc_nonterminals.proofs.Stating.Simples.{return_none, value_stops, value_ends, return_reads, return_deep, return_wrong}
use Rattle.xc_nonterminals.proofs.Reading.Stated.{ok_with, symbol_there}
use Rattle.xc_nonterminals.proofs.parser.Parser.return_statement.Goals as goal

pub whole-requires-clause-held : goal.whole-requires-clause-held
whole-requires-clause-held c = rw action-Return refl

pub returns-then-is_symbol-clause-read : goal.returns-then-is_symbol-clause-read
returns-then-is_symbol-clause-read c =
    ok_with _ _ c.whole.result (λ x h. rw (h.0, h.1, action-Return)
    (return_none c.args.self.now.toks.now c.args.room c.args.at c.requires.word.1 (c.is_symbol.ensures.yes c.if-is_symbol.true).1.1)) c.whole.ensures.made

pub returns-then-is_symbol-clause-stopped : goal.returns-then-is_symbol-clause-stopped
returns-then-is_symbol-clause-stopped c = memory_missing _ c.whole.result c.whole.ensures.memory tt

pub rhs-requires : goal.rhs-requires
rhs-requires c = let l = on_within c.requires.word.1 in record { at = omega (arith, l) }

pub returns-in_err-value-clause-stopped : goal.returns-in_err-value-clause-stopped
returns-in_err-value-clause-stopped c =
    handed_on _ c.from_residual.result c.from_residual.ensures.1
    (value_stops c.args.self.now.toks.now c.args.room c.args.at c.requires.word.1 (c.is_symbol.ensures.no c.if-is_symbol.false) _ c.in_err-value.ensures.stopped)

pub returns-then-is_symbol-2-clause-stopped : goal.returns-then-is_symbol-2-clause-stopped
returns-then-is_symbol-2-clause-stopped c =
    let u = rw c.in_default.is at c.in_ok-value.ensures.read in
    return_deep c.args.self.now.toks.now c.args.room c.args.at c.requires.word.1 (c.is_symbol.ensures.no c.if-is_symbol.false) u (c.is_symbol-in_default.ensures.yes c.if-is_symbol-2.true).1.1

pub returns-in_default-clause-stopped : goal.returns-in_default-clause-stopped
returns-in_default-clause-stopped c =
    let u = rw c.in_default.is at c.in_ok-value.ensures.read in
    return_wrong c.args.self.now.toks.now c.args.room c.args.at c.requires.word.1 (c.is_symbol.ensures.no c.if-is_symbol.false) u (c.is_symbol-in_default.ensures.no c.if-is_symbol-2.false)

pub returns-in_err-closed-clause-stopped : goal.returns-in_err-closed-clause-stopped
returns-in_err-closed-clause-stopped c =
    let r = rw c.in-Some.is at c.in_ok-value.ensures.read in
    handed_on _ c.from_residual-in_err-closed.result c.from_residual-in_err-closed.ensures.1
    (value_ends c.args.self.now.toks.now c.args.room c.args.at c.requires.word.1 (c.is_symbol.ensures.no c.if-is_symbol.false) r _ (c.in_err-closed.ensures.stopped _))

pub whole-requires-2-clause-held : goal.whole-requires-2-clause-held
whole-requires-2-clause-held c = rw action-Return refl

pub returns-clause-read : goal.returns-clause-read
returns-clause-read c =
    let r = rw c.in-Some.is at c.in_ok-value.ensures.read in
    ok_with _ _ c.whole-2.result (λ x h. rw (h.0, h.1, action-Return, c.in_ok-closed.ensures.value, c.in_ok-closed.ensures.bounds.0)
    (return_reads c.args.self.now.toks.now c.args.room c.args.at c.requires.word.1 (c.is_symbol.ensures.no c.if-is_symbol.false) r (symbol_there (c.in_ok-closed.ensures.read.1 0)))) c.whole-2.ensures.made

pub returns-clause-stopped : goal.returns-clause-stopped
returns-clause-stopped c = memory_missing _ c.whole-2.result c.whole-2.ensures.memory tt
