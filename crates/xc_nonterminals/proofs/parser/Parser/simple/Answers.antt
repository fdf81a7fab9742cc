use Rattle.std.proofs.Common.{◌+◌, ◌≤◌, arith}
use Rattle.xc_nonterminals.proofs.Reading.Exits.{handed_on, memory_missing}
use Rattle.xc_nonterminals.proofs.Stating.Simples.{assign_stops, assign_ends, assign_reads, name_wrong, name_deep}
use Rattle.xc_nonterminals.proofs.Reading.Stated.{ok_with, symbol_there, no_others, assign_holds_none}
use Rattle.xc_nonterminals.proofs.Reading.Tests.{name_within}
use Rattle.xc_nonterminals.proofs.parser.Parser.simple.Goals as goal

pub returns-then-not-assigns-clause-stopped : goal.returns-then-not-assigns-clause-stopped
returns-then-not-assigns-clause-stopped c =
    let none = no_others (c.is_symbol.ensures.no c.if-is_symbol.false) (c.sends.ensures.no c.if-sends.false) (c.receives.ensures.no c.if-receives.false) in
    name_wrong c.args.self.now.toks.now c.args.room c.args.at c.requires.name.2 none (c.assigns.ensures.no c.if-not-assigns.true)

pub returns-then-room-eq0-clause-stopped : goal.returns-then-room-eq0-clause-stopped
returns-then-room-eq0-clause-stopped c =
    rw c.if-room-eq0.true (name_deep c.args.self.now.toks.now 0 c.args.at c.requires.name.2 (c.assigns.ensures.yes c.if-not-assigns.false))

pub assign-requires : goal.assign-requires
assign-requires c = let l = name_within c.requires.name in record { at = omega (arith, l) }

pub returns-in_err-assign-clause-stopped : goal.returns-in_err-assign-clause-stopped
returns-in_err-assign-clause-stopped c =
    let none = no_others (c.is_symbol.ensures.no c.if-is_symbol.false) (c.sends.ensures.no c.if-sends.false) (c.receives.ensures.no c.if-receives.false) in
    handed_on _ c.from_residual.result c.from_residual.ensures.1
    (assign_stops c.args.self.now.toks.now c.args.room c.args.at c.requires.name.2 none _ (omega arith) c.in_err-assign.ensures.stopped)

pub returns-in_err-closed-clause-stopped : goal.returns-in_err-closed-clause-stopped
returns-in_err-closed-clause-stopped c =
    let none = no_others (c.is_symbol.ensures.no c.if-is_symbol.false) (c.sends.ensures.no c.if-sends.false) (c.receives.ensures.no c.if-receives.false) in
    let l = c.in_ok-assign.ensures.bounds.0 in
    let m : c.args.at + 1 ≤ c.in_ok-assign.assign.end = omega (arith, l) in
    handed_on _ c.from_residual-in_err-closed.result c.from_residual-in_err-closed.ensures.1
    (assign_ends c.args.self.now.toks.now c.args.room c.args.at c.requires.name.2 none c.in_ok-assign.ensures.read m _ (c.in_err-closed.ensures.stopped _))

pub whole-requires-clause-held : goal.whole-requires-clause-held
whole-requires-clause-held c = rw c.in_ok-closed.ensures.value (assign_holds_none c.in_ok-assign.ensures.read.derives)

pub returns-clause-read : goal.returns-clause-read
returns-clause-read c =
    let none = no_others (c.is_symbol.ensures.no c.if-is_symbol.false) (c.sends.ensures.no c.if-sends.false) (c.receives.ensures.no c.if-receives.false) in
    let l = c.in_ok-assign.ensures.bounds.0 in
    let m : c.args.at + 1 ≤ c.in_ok-assign.assign.end = omega (arith, l) in
    ok_with _ _ c.whole.result (λ x h. rw (h.0, h.1, c.in_ok-closed.ensures.value, c.in_ok-closed.ensures.bounds.0)
    (assign_reads c.args.self.now.toks.now c.args.room c.args.at c.requires.name.2 none c.in_ok-assign.ensures.read m (symbol_there (c.in_ok-closed.ensures.read.1 0)))) c.whole.ensures.made

pub returns-clause-stopped : goal.returns-clause-stopped
returns-clause-stopped c = memory_missing _ c.whole.result c.whole.ensures.memory tt
