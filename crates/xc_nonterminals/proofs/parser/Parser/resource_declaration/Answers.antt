use Rattle.std.proofs.Common.{refl, arith}
use Rattle.xc_tree.proofs.Forms.{action-Decl}
use Rattle.xc_nonterminals.proofs.Reading.Exits.{handed_on, memory_missing}
use Rattle.xc_nonterminals.proofs.Reading.Stated.{ok_with}
use Rattle.xc_nonterminals.proofs.Declaring.DeclaredRows.{word_of_resource, resource_begins, resources_first_stops, resources_first, resources_next, resources_next_stops, resources_close_stops, resources_read}
use Rattle.xc_nonterminals.proofs.parser.Parser.resource_declaration.Goals as goal

pub returns-in_err-end-clause-stopped : goal.returns-in_err-end-clause-stopped
returns-in_err-end-clause-stopped c =
    let word = word_of_resource c.args.self.now.toks.now c.args.at c.is_word-is_chan.result (λ h. (c.is_word-is_chan.ensures.yes h).1) c.is_word-is_chan.ensures.no c.requires.begins in
    handed_on _ c.from_residual.result c.from_residual.ensures.1
    (λ room h. resources_first_stops c.args.self.now.toks.now room c.args.at c.is_word-is_chan.result _ (resource_begins c.args.self.now.toks.now room c.args.at h c.is_word-is_chan.result word.1) (c.in_err-end.ensures.stopped _))

pub names-init : goal.names-init
names-init c =
    let word = word_of_resource c.args.self.now.toks.now c.args.at c.is_word-is_chan.result (λ h. (c.is_word-is_chan.ensures.yes h).1) c.is_word-is_chan.ensures.no c.requires.begins in
    let first = c.in_ok-end.ensures.bounds.0 in
    let empty = c.new-declared.ensures in
    record {
      after = omega arith;
      within = c.in_ok-end.ensures.bounds.1;
      resources = λ room h. resources_first c.args.self.now.toks.now room c.args.at c.is_word-is_chan.result (resource_begins c.args.self.now.toks.now room c.args.at h c.is_word-is_chan.result word.1) (rw empty at c.in_ok-end.ensures.read);
    }

pub returns-in_err-end-2-clause-stopped : goal.returns-in_err-end-2-clause-stopped
returns-in_err-end-2-clause-stopped c =
    let on = (c.is_symbol.ensures.yes c.names-test.true).1.1 in
    handed_on _ c.from_residual-in_err-end-2.result c.from_residual-in_err-end-2.ensures.1
    (λ room h. resources_next_stops c.args.self.now.toks.now room c.args.at c.is_word-is_chan.result _ (c.names.invariant.resources room h) on (c.in_err-end-2.ensures.stopped _))

pub names-preserved : goal.names-preserved
names-preserved c =
    let on = (c.is_symbol.ensures.yes c.names-test.true).1.1 in
    let after = c.names.invariant.after in
    let more = c.in_ok-end-2.ensures.bounds.0 in
    record {
      after = omega arith;
      within = c.in_ok-end-2.ensures.bounds.1;
      resources = λ room h. resources_next c.args.self.now.toks.now room c.args.at c.is_word-is_chan.result (c.names.invariant.resources room h) on c.in_ok-end-2.ensures.read;
    }

pub returns-in_err-semicolon-clause-stopped : goal.returns-in_err-semicolon-clause-stopped
returns-in_err-semicolon-clause-stopped c =
    let none = c.is_symbol.ensures.no c.names-test.false in
    handed_on _ c.from_residual-in_err-semicolon.result c.from_residual-in_err-semicolon.ensures.1
    (λ room h. resources_close_stops c.args.self.now.toks.now room c.args.at c.is_word-is_chan.result (c.names.invariant.resources room h) none _ (c.in_err-semicolon.ensures.stopped _))

pub returns-clause-read : goal.returns-clause-read
returns-clause-read c =
    let none = c.is_symbol.ensures.no c.names-test.false in
    ok_with _ _ c.whole.result (λ x h. rw (h.1, h.0, action-Decl)
    (λ room h. resources_read c.args.self.now.toks.now room c.args.at c.is_word-is_chan.result (c.names.invariant.resources room h) none (c.in_ok-semicolon.ensures.read _))) c.whole.ensures.made

pub returns-clause-stopped : goal.returns-clause-stopped
returns-clause-stopped c = memory_missing _ c.whole.result c.whole.ensures.memory (λ room h. tt)

pub whole-requires-clause-held : goal.whole-requires-clause-held
whole-requires-clause-held c = rw action-Decl refl
