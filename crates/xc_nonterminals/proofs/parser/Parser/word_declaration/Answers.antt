use Rattle.std.proofs.Common.{refl, [], arith}
use Rattle.xc_tree.proofs.Forms.{action-Decl}
use Rattle.xc_nonterminals.proofs.Reading.Exits.{handed_on, memory_missing}
use Rattle.xc_nonterminals.proofs.Reading.Stated.{ok_with}
use Rattle.xc_nonterminals.proofs.Declaring.DeclaredRows.{word_stops, word_begins, declared_stops, words_first, words_next, words_next_stops, words_close_stops, words_read}
use Rattle.xc_nonterminals.proofs.parser.Parser.word_declaration.Goals as goal

pub returns-in_err-word-clause-stopped : goal.returns-in_err-word-clause-stopped
returns-in_err-word-clause-stopped c =
    handed_on _ c.from_residual.result c.from_residual.ensures.1
    (word_stops c.args.self.now.toks.now c.args.room c.args.at c.requires.room _ c.requires.begins (c.in_err-word.ensures.stopped _))

pub returns-in_err-end-clause-stopped : goal.returns-in_err-end-clause-stopped
returns-in_err-end-clause-stopped c =
    let start = word_begins c.args.self.now.toks.now c.args.room c.args.at c.requires.room c.requires.begins (c.in_ok-word.ensures.read _) in
    handed_on _ c.from_residual-in_err-end.result c.from_residual-in_err-end.ensures.1
    (declared_stops c.args.self.now.toks.now c.args.room c.args.at c.requires.room c.in_ok-word.word.value [] _ start c.in_err-end.ensures.stopped)

pub declared-init : goal.declared-init
declared-init c =
    let start = word_begins c.args.self.now.toks.now c.args.room c.args.at c.requires.room c.requires.begins (c.in_ok-word.ensures.read _) in
    let word = c.in_ok-word.ensures.bounds.0 in
    let first = c.in_ok-end.ensures.bounds.0 in
    let empty = c.new-declared.ensures in
    record {
      after = omega arith;
      within = c.in_ok-end.ensures.bounds.1;
      words = words_first c.args.self.now.toks.now c.args.room c.args.at c.in_ok-word.word.value start (rw empty at c.in_ok-end.ensures.read);
    }

pub returns-in_err-end-2-clause-stopped : goal.returns-in_err-end-2-clause-stopped
returns-in_err-end-2-clause-stopped c =
    let on = (c.is_symbol.ensures.yes c.declared-test.true).1.1 in
    handed_on _ c.from_residual-in_err-end-2.result c.from_residual-in_err-end-2.ensures.1
    (words_next_stops c.args.self.now.toks.now c.args.room c.args.at c.in_ok-word.word.value _ c.requires.room c.declared.invariant.words on c.in_err-end-2.ensures.stopped)

pub declared-preserved : goal.declared-preserved
declared-preserved c =
    let on = (c.is_symbol.ensures.yes c.declared-test.true).1.1 in
    let after = c.declared.invariant.after in
    let more = c.in_ok-end-2.ensures.bounds.0 in
    record {
      after = omega arith;
      within = c.in_ok-end-2.ensures.bounds.1;
      words = words_next c.args.self.now.toks.now c.args.room c.args.at c.in_ok-word.word.value c.declared.invariant.words on c.in_ok-end-2.ensures.read;
    }

pub returns-in_err-semicolon-clause-stopped : goal.returns-in_err-semicolon-clause-stopped
returns-in_err-semicolon-clause-stopped c =
    let none = c.is_symbol.ensures.no c.declared-test.false in
    handed_on _ c.from_residual-in_err-semicolon.result c.from_residual-in_err-semicolon.ensures.1
    (words_close_stops c.args.self.now.toks.now c.args.room c.args.at c.in_ok-word.word.value c.declared.invariant.words none _ (c.in_err-semicolon.ensures.stopped _))

pub returns-clause-read : goal.returns-clause-read
returns-clause-read c =
    let none = c.is_symbol.ensures.no c.declared-test.false in
    ok_with _ _ c.whole.result (λ x h. rw (h.1, h.0, action-Decl)
    (words_read c.args.self.now.toks.now c.args.room c.args.at c.in_ok-word.word.value c.declared.invariant.words none (c.in_ok-semicolon.ensures.read _))) c.whole.ensures.made

pub returns-clause-stopped : goal.returns-clause-stopped
returns-clause-stopped c = memory_missing _ c.whole.result c.whole.ensures.memory tt

pub whole-requires-clause-held : goal.whole-requires-clause-held
whole-requires-clause-held c = rw action-Decl refl
