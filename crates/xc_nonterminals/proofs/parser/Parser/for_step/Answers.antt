use Rattle.std.proofs.Common.{arith}
use Rattle.xc_nonterminals.proofs.Reading.Exits.{handed_on, memory_missing}
use Rattle.xc_nonterminals.proofs.Reading.Stated.{ok_with}
use Rattle.xc_nonterminals.proofs.Reading.Rounds.{assign_holds, step_stops, step_reads, step_deep, step_wrong, start_stops, start_reads, start_deep, start_wrong}
use Rattle.xc_nonterminals.proofs.parser.Parser.for_step.Goals as goal

pub returns-in_err-assign-clause-stopped : goal.returns-in_err-assign-clause-stopped
returns-in_err-assign-clause-stopped c =
    handed_on _ c.from_residual.result c.from_residual.ensures.1
    (step_stops c.args.self.now.toks.now c.args.room c.args.at _ (omega arith) c.in_err-assign.ensures.stopped)

pub returns-in_err-assign-clause-no_start : goal.returns-in_err-assign-clause-no_start
returns-in_err-assign-clause-no_start c =
    handed_on _ c.from_residual.result c.from_residual.ensures.1
    (λ none. start_stops c.args.self.now.toks.now c.args.room c.args.at _ (omega arith) none c.in_err-assign.ensures.stopped)

pub whole-requires-clause-held : goal.whole-requires-clause-held
whole-requires-clause-held c = assign_holds c.in_ok-assign.ensures.read.derives

pub returns-clause-read : goal.returns-clause-read
returns-clause-read c =
    ok_with _ _ c.whole.result (λ x h. rw (h.0, h.1)
    (step_reads c.args.self.now.toks.now c.args.room c.args.at (omega arith) c.in_ok-assign.ensures.read)) c.whole.ensures.made

pub returns-clause-stopped : goal.returns-clause-stopped
returns-clause-stopped c = memory_missing _ c.whole.result c.whole.ensures.memory tt

pub returns-clause-start : goal.returns-clause-start
returns-clause-start c =
    ok_with _ _ c.whole.result (λ x h. rw (h.0, h.1)
    (λ none. start_reads c.args.self.now.toks.now c.args.room c.args.at (omega arith) none c.in_ok-assign.ensures.read)) c.whole.ensures.made

pub returns-clause-no_start : goal.returns-clause-no_start
returns-clause-no_start c = memory_missing _ c.whole.result c.whole.ensures.memory (λ none. tt)

pub returns-then-is_name-clause-stopped : goal.returns-then-is_name-clause-stopped
returns-then-is_name-clause-stopped c =
    step_deep c.args.self.now.toks.now c.args.room c.args.at c.if-room-lt2.true (c.is_name.ensures.yes c.if-is_name.true).1

pub returns-then-is_name-clause-no_start : goal.returns-then-is_name-clause-no_start
returns-then-is_name-clause-no_start c = λ none.
    start_deep c.args.self.now.toks.now c.args.room c.args.at c.if-room-lt2.true none (c.is_name.ensures.yes c.if-is_name.true).1

pub returns-then-room-lt2-clause-stopped : goal.returns-then-room-lt2-clause-stopped
returns-then-room-lt2-clause-stopped c =
    step_wrong c.args.self.now.toks.now c.args.room c.args.at (c.is_name.ensures.no c.if-is_name.false)

pub returns-then-room-lt2-clause-no_start : goal.returns-then-room-lt2-clause-no_start
returns-then-room-lt2-clause-no_start c = λ none.
    start_wrong c.args.self.now.toks.now c.args.room c.args.at none (c.is_name.ensures.no c.if-is_name.false)
