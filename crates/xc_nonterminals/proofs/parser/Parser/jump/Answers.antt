use Rattle.std.proofs.Common.{refl}
use Rattle.xc_tree.proofs.Forms.{action-Break, action-Continue}
use Rattle.xc_nonterminals.proofs.Reading.Exits.{handed_on, memory_missing}
use Rattle.xc_nonterminals.proofs.Stating.Simples.{break_reads, continue_reads}
use Rattle.xc_nonterminals.proofs.Reading.Stated.{ok_with, symbol_there, break_word, continue_word, jump_stops}
use Rattle.xc_nonterminals.proofs.parser.Parser.jump.Goals as goal

pub returns-in_err-semicolon-clause-stopped : goal.returns-in_err-semicolon-clause-stopped
returns-in_err-semicolon-clause-stopped c =
    handed_on _ c.from_residual.result c.from_residual.ensures.1
    (λ room. jump_stops c.args.self.now.toks.now room c.args.at c.args.is_break _ c.requires.word.1 (c.in_err-semicolon.ensures.stopped _))

pub whole-requires-clause-held : goal.whole-requires-clause-held
whole-requires-clause-held c = rw action-Break refl

pub returns-then-is_break-clause-read : goal.returns-then-is_break-clause-read
returns-then-is_break-clause-read c =
    ok_with _ _ c.whole.result (λ x h room. rw (h.0, h.1, action-Break, c.in_ok-semicolon.ensures.bounds.0)
    (break_reads c.args.self.now.toks.now room c.args.at (break_word c.args.is_break c.if-is_break.true c.requires.word.1) (symbol_there (c.in_ok-semicolon.ensures.read 0)))) c.whole.ensures.made

pub returns-then-is_break-clause-stopped : goal.returns-then-is_break-clause-stopped
returns-then-is_break-clause-stopped c = memory_missing _ c.whole.result c.whole.ensures.memory (λ room. tt)

pub whole-requires-2-clause-held : goal.whole-requires-2-clause-held
whole-requires-2-clause-held c = rw action-Continue refl

pub returns-clause-read : goal.returns-clause-read
returns-clause-read c =
    ok_with _ _ c.whole-2.result (λ x h room. rw (h.0, h.1, action-Continue, c.in_ok-semicolon.ensures.bounds.0)
    (continue_reads c.args.self.now.toks.now room c.args.at (continue_word c.args.is_break c.if-is_break.false c.requires.word.1) (symbol_there (c.in_ok-semicolon.ensures.read 0)))) c.whole-2.ensures.made

pub returns-clause-stopped : goal.returns-clause-stopped
returns-clause-stopped c = memory_missing _ c.whole-2.result c.whole-2.ensures.memory (λ room. tt)
