use Rattle.std.proofs.Common.{arith, option_map, refl, ◌-◌, ◌∙◌, ◌+◌, ◌≡◌, rules}
use Rattle.std.proofs.lemmas.List.{map_push}
use Rattle.xc_nonterminals.proofs.Stating.Braces.{brace_missing, closed_block, declared_item, declared_stops, item_added, item_stops, opened, stated_item, stated_stops, transaction_reads, transaction_stops}
use Rattle.xc_nonterminals.proofs.Stating.Branches.{body_stops, branch_added, branch_reads, branch_stops, par_closed, par_opened, par_unopened, place_stops}
use Rattle.xc_nonterminals.proofs.Stating.CaseLists.{case_added, case_missing, case_stops, first_case, select_closed, select_unopened}
use Rattle.xc_nonterminals.proofs.Stating.CaseSteps.{case_body_stops, case_body_tokens, default_colon_stops, default_reads, default_stops, default_word_stops, case_event_stops, leads_end, leads_more, leads_none, leads_open, leads_stop, reads_case, case_word_stops}
use Rattle.xc_nonterminals.proofs.Stating.Conditionals.{close_stops, else_reads, else_stops, open_stops, test_stops, then_reads, then_stops}
use Rattle.xc_nonterminals.proofs.Stating.Counting.{counted_reads, counted_stops}
use Rattle.xc_nonterminals.proofs.Derivations.Counts.{branches_tokens_push, cases_tokens_push, held_branch, held_while, held_do, held_for, held_block, held_if, held_if_else, held_transaction}
use Rattle.xc_nonterminals.proofs.Reading.Exits.{handed_on, memory_missing}
use Rattle.xc_nonterminals.proofs.Reading.Rounds.{while_open_stops, while_test_stops, while_close_stops, while_body_stops, while_reads, do_body_stops, do_tail_stops, do_reads, for_body_stops, for_reads, for_made}
use Rattle.xc_nonterminals.proofs.Stating.Simples.{deep_begins, none_begins, semicolon_reads}
use Rattle.xc_nonterminals.proofs.Reading.Stated.{begins_all, err_room, err_with, from_place, ok_room, ok_with, stopped_from, symbol_there}
use Rattle.xc_nonterminals.specs.Begun.{token_of}
use Rattle.xc_tree.proofs.Forms.{action-Par, action-Repl, action-Select, branch-made, case-made, action-While, action-DoWhile, action-Block, action-Empty, action-If, action-Tran}
use Rattle.xc_tree.specs.Trees.{place_of, expression_of}
use Rattle.xc_tree.specs.Symbol as symbol
use Rattle.xc_nonterminals.proofs.Stating.Simples as simples
use Rattle.xc_nonterminals.proofs.parser.Parser.+statement.Goals as goal

pub branch-returns-in_err-place-clause-stopped : goal.branch-returns-in_err-place-clause-stopped
branch-returns-in_err-place-clause-stopped t c =
    handed_on _ c.from_residual.result c.from_residual.ensures.1
    (place_stops c.args.self.now.toks.now c.args.room c.args.at _ c.in_err-place.ensures.stopped)

pub branch-returns-in_err-place-2-clause-stopped : goal.branch-returns-in_err-place-2-clause-stopped
branch-returns-in_err-place-2-clause-stopped t c =
    let body = rw c.in_err-place-2.ensures.failed at c.statement.ensures.stopped in
    handed_on _ c.from_residual-in_err-place-2.result c.from_residual-in_err-place-2.ensures.1
    (body_stops c.in_ok-place.ensures.read _ body)

pub branch-returns-clause-holds : goal.branch-returns-clause-holds
branch-returns-clause-holds t c =
    let h = c.in_ok-place.ensures.bounds in
    let l = rw c.in_ok-place-2.ensures.made at c.statement.ensures.bounds in
    let body = rw c.in_ok-place-2.ensures.made at c.statement.ensures.read in
    (rw branch-made (held_branch (option_map place_of c.in_ok-place-2.place) body.derives), omega arith)

pub branch-returns-clause-read : goal.branch-returns-clause-read
branch-returns-clause-read t c =
    let body = rw c.in_ok-place-2.ensures.made at c.statement.ensures.read in
    rw branch-made (rw c.in_ok-place-2.ensures.value (branch_reads c.in_ok-place.ensures.read body))

pub replicated-returns-in_err-counts-clause-stopped : goal.replicated-returns-in_err-counts-clause-stopped
replicated-returns-in_err-counts-clause-stopped t c =
    handed_on _ c.from_residual.result c.from_residual.ensures.1 (c.in_err-counts.ensures.stopped c.args.room)

pub replicated-returns-in_err-counts-2-clause-stopped : goal.replicated-returns-in_err-counts-2-clause-stopped
replicated-returns-in_err-counts-2-clause-stopped t c =
    let r = c.in_ok-counts.ensures.read in
    let branch = rw c.in_err-counts-2.ensures.failed at c.branch-self.ensures.stopped in
    handed_on _ c.from_residual-in_err-counts-2.result c.from_residual-in_err-counts-2.ensures.1
    (counted_stops c.args.room c.requires.word.1 c.requires.bracket.1 (r.opens _) (r.types _) (r.firsts.2 _) (r.seconds.2 _) (r.thirds.2 _) _ branch)

pub replicated-whole-requires-clause-held : goal.replicated-whole-requires-clause-held
replicated-whole-requires-clause-held t c =
    let holds = rw c.in_ok-counts-2.ensures.made at c.branch-self.ensures.holds in
    let body = rw c.in_ok-counts-3.ensures.made at c.boxed.ensures in
    rw (action-Repl, body) holds.0

pub replicated-returns-clause-read : goal.replicated-returns-clause-read
replicated-returns-clause-read t c =
    let r = c.in_ok-counts.ensures.read in
    let branch = rw c.in_ok-counts-2.ensures.made at c.branch-self.ensures.read in
    let body = rw c.in_ok-counts-3.ensures.made at c.boxed.ensures in
    ok_with _ _ c.whole.result (λ x h. rw (h.0, h.1, action-Repl, body, c.in_ok-counts-3.ensures.value, c.in_ok-counts-2.ensures.value)
    (counted_reads c.args.room c.requires.word.1 c.requires.bracket.1 (r.opens _) (r.types _) (r.firsts.2 _) (r.seconds.2 _) (r.thirds.2 _) branch)) c.whole.ensures.made

pub replicated-returns-clause-stopped : goal.replicated-returns-clause-stopped
replicated-returns-clause-stopped t c = memory_missing _ c.whole.result c.whole.ensures.memory tt

pub par-returns-in_err-open-clause-stopped : goal.par-returns-in_err-open-clause-stopped
par-returns-in_err-open-clause-stopped t c =
    let none = c.is_symbol.ensures.no c.if-is_symbol.false in
    handed_on _ c.from_residual.result c.from_residual.ensures.1
    (par_unopened c.args.room c.requires.word.1 _ none (c.in_err-open.ensures.stopped c.args.room))

pub par-branches-init : goal.par-branches-init
par-branches-init t c =
    let none = c.is_symbol.ensures.no c.if-is_symbol.false in
    let l = c.in_ok-open.ensures.bounds.0 in
    record {
      after = omega arith;
      within = c.in_ok-open.ensures.bounds.1;
      held = rw c.new-branches.ensures refl;
      room = omega arith;
      runs = rw c.new-branches.ensures (par_opened c.args.room c.requires.word.1 none (c.in_ok-open.ensures.read c.args.room));
    }

pub par-returns-in_err-branch-clause-stopped : goal.par-returns-in_err-branch-clause-stopped
par-returns-in_err-branch-clause-stopped t c =
    let none = c.is_symbol-in-branches.ensures.no c.branches-test.true in
    handed_on _ c.from_residual-in_err-branch.result c.from_residual-in_err-branch.ensures.1
    (branch_stops c.branches.invariant.runs _ none c.in_err-branch.ensures.stopped)

pub par-returns-in_err-push-clause-stopped : goal.par-returns-in_err-push-clause-stopped
par-returns-in_err-push-clause-stopped t c =
    handed_on _ c.from_residual-in_err-push.result c.from_residual-in_err-push.ensures.1 tt

pub par-branches-preserved : goal.par-branches-preserved
par-branches-preserved t c =
    let after = c.branches.invariant.after in
    let more = c.in_ok-branch.ensures.bounds.0 in
    let room = c.branches.invariant.room in
    let holds = c.in_ok-branch.ensures.holds in
    let held = c.branches.invariant.held in
    record {
      after = omega arith;
      within = c.in_ok-branch.ensures.bounds.1;
      held = rw (c.in_ok-push.ensures.ok, map_push, branches_tokens_push) (omega arith);
      room = omega arith;
      runs = rw (c.in_ok-push.ensures.ok, map_push) (branch_added c.branches.invariant.runs c.in_ok-branch.ensures.read);
    }

pub par-whole-requires-clause-held : goal.par-whole-requires-clause-held
par-whole-requires-clause-held t c = rw action-Par c.branches.invariant.held

pub par-returns-clause-read : goal.par-returns-clause-read
par-returns-clause-read t c =
    let on = (c.is_symbol-in-branches.ensures.yes c.branches-test.false).1.1 in
    ok_with _ _ c.whole.result (λ x h. rw (h.0, h.1, action-Par)
    (par_closed c.branches.invariant.runs on)) c.whole.ensures.made

pub par-returns-clause-stopped : goal.par-returns-clause-stopped
par-returns-clause-stopped t c = memory_missing _ c.whole.result c.whole.ensures.memory tt

pub select-returns-in_err-open-clause-stopped : goal.select-returns-in_err-open-clause-stopped
select-returns-in_err-open-clause-stopped t c =
    handed_on _ c.from_residual.result c.from_residual.ensures.1
    (select_unopened c.args.room c.requires.word.1 _ (c.in_err-open.ensures.stopped c.args.room))

pub select-returns-in_err-first-clause-stopped : goal.select-returns-in_err-first-clause-stopped
select-returns-in_err-first-clause-stopped t c =
    handed_on _ c.from_residual-in_err-first.result c.from_residual-in_err-first.ensures.1
    (case_missing c.args.room c.requires.word.1 (c.in_ok-open.ensures.read c.args.room) _ c.in_err-first.ensures.stopped)

pub select-returns-in_err-push-clause-stopped : goal.select-returns-in_err-push-clause-stopped
select-returns-in_err-push-clause-stopped t c =
    handed_on _ c.from_residual-in_err-push.result c.from_residual-in_err-push.ensures.1 tt

pub select-cases-init : goal.select-cases-init
select-cases-init t c =
    let l = c.in_ok-open.ensures.bounds.0 in
    let m = c.in_ok-first.ensures.bounds in
    let h = c.in_ok-first.ensures.holds in
    record {
      after = omega arith;
      within = c.in_ok-first.ensures.bounds.1;
      held = rw (c.in_ok-push.ensures.ok, c.new-cases.ensures) (h.0 ∙ omega arith);
      room = omega arith;
      all = rw (c.in_ok-push.ensures.ok, c.new-cases.ensures) (first_case c.args.room c.requires.word.1 (c.in_ok-open.ensures.read c.args.room) c.in_ok-first.ensures.read refl);
    }

pub select-returns-in_err-next-clause-stopped : goal.select-returns-in_err-next-clause-stopped
select-returns-in_err-next-clause-stopped t c =
    let none = c.is_symbol.ensures.no c.cases-test.true in
    handed_on _ c.from_residual-in_err-next.result c.from_residual-in_err-next.ensures.1
    (case_stops c.cases.invariant.all _ none c.in_err-next.ensures.stopped)

pub select-returns-in_err-push-2-clause-stopped : goal.select-returns-in_err-push-2-clause-stopped
select-returns-in_err-push-2-clause-stopped t c =
    handed_on _ c.from_residual-in_err-push-2.result c.from_residual-in_err-push-2.ensures.1 tt

pub select-cases-preserved : goal.select-cases-preserved
select-cases-preserved t c =
    let after = c.cases.invariant.after in
    let more = c.in_ok-next.ensures.bounds.0 in
    let room = c.cases.invariant.room in
    let holds = c.in_ok-next.ensures.holds in
    let held = c.cases.invariant.held in
    record {
      after = omega arith;
      within = c.in_ok-next.ensures.bounds.1;
      held = rw (c.in_ok-push-2.ensures.ok, map_push, cases_tokens_push) (omega arith);
      room = omega arith;
      all = rw (c.in_ok-push-2.ensures.ok, map_push) (case_added c.cases.invariant.all c.in_ok-next.ensures.read);
    }

pub select-whole-requires-clause-held : goal.select-whole-requires-clause-held
select-whole-requires-clause-held t c = rw action-Select c.cases.invariant.held

pub select-returns-clause-read : goal.select-returns-clause-read
select-returns-clause-read t c =
    let on = (c.is_symbol.ensures.yes c.cases-test.false).1.1 in
    ok_with _ _ c.whole.result (λ x h. rw (h.0, h.1, action-Select)
    (select_closed c.cases.invariant.all on)) c.whole.ensures.made

pub select-returns-clause-stopped : goal.select-returns-clause-stopped
select-returns-clause-stopped t c = memory_missing _ c.whole.result c.whole.ensures.memory tt

pub case_body-items-init : goal.case_body-items-init
case_body-items-init t c = record {
  after = omega arith;
  within = omega arith;
  leads = rw c.new-value.ensures leads_none;
}

pub case_body-returns-in_err-item-clause-stopped : goal.case_body-returns-in_err-item-clause-stopped
case_body-returns-in_err-item-clause-stopped t c =
    handed_on _ c.from_residual.result c.from_residual.ensures.1
    (leads_stop c.items.invariant.leads _ (c.is_word.ensures.no c.items-test.true) c.in_err-item.ensures.stopped)

pub case_body-returns-in_err-push-clause-stopped : goal.case_body-returns-in_err-push-clause-stopped
case_body-returns-in_err-push-clause-stopped t c =
    handed_on _ c.from_residual-in_err-push.result c.from_residual-in_err-push.ensures.1 tt

pub case_body-items-preserved : goal.case_body-items-preserved
case_body-items-preserved t c =
    let after = c.items.invariant.after in
    let more = c.in_ok-item.ensures.bounds.0 in
    record {
      after = omega arith;
      within = c.in_ok-item.ensures.bounds.1;
      leads = rw (c.in_ok-push.ensures.ok, map_push) (leads_more c.items.invariant.leads (c.is_word.ensures.no c.items-test.true) c.in_ok-item.ensures.read);
    }

pub case_body-returns-in_err-semicolon-clause-stopped : goal.case_body-returns-in_err-semicolon-clause-stopped
case_body-returns-in_err-semicolon-clause-stopped t c =
    handed_on _ c.from_residual-in_err-semicolon.result c.from_residual-in_err-semicolon.ensures.1
    (leads_open c.items.invariant.leads _ (c.is_word.ensures.yes c.items-test.false).1.1 (c.in_err-semicolon.ensures.stopped _))

pub case_body-returns-clause-read : goal.case_body-returns-clause-read
case_body-returns-clause-read t c = (_, _, leads_end c.items.invariant.leads (c.is_word.ensures.yes c.items-test.false).1.1 (c.in_ok-semicolon.ensures.read _))

pub case_body-returns-clause-holds : goal.case_body-returns-clause-holds
case_body-returns-clause-holds t c =
    let after = c.items.invariant.after in
    let end = c.in_ok-semicolon.ensures.bounds.0 in
    (case_body_tokens _ end (leads_end c.items.invariant.leads (c.is_word.ensures.yes c.items-test.false).1.1 (c.in_ok-semicolon.ensures.read _)), omega arith)

pub default_case-returns-in_err-word-clause-stopped : goal.default_case-returns-in_err-word-clause-stopped
default_case-returns-in_err-word-clause-stopped t c =
    handed_on _ c.from_residual.result c.from_residual.ensures.1
    (default_word_stops c.args.self.now.toks.now c.args.room c.args.at c.requires.word.1 _ (c.in_err-word.ensures.stopped _))

pub default_case-returns-in_err-colon-clause-stopped : goal.default_case-returns-in_err-colon-clause-stopped
default_case-returns-in_err-colon-clause-stopped t c =
    handed_on _ c.from_residual-in_err-colon.result c.from_residual-in_err-colon.ensures.1
    (default_colon_stops c.args.self.now.toks.now c.args.room c.args.at c.requires.word.1 (c.in_ok-word.ensures.read _) _ (c.in_err-colon.ensures.stopped _))

pub default_case-returns-in_err-body-clause-stopped : goal.default_case-returns-in_err-body-clause-stopped
default_case-returns-in_err-body-clause-stopped t c =
    handed_on _ c.from_residual-in_err-body.result c.from_residual-in_err-body.ensures.1
    (default_stops c.args.self.now.toks.now c.args.room c.args.at c.requires.word.1 (c.in_ok-word.ensures.read _) (c.in_ok-colon.ensures.read _) _ c.in_err-body.ensures.stopped)

pub default_case-returns-clause-holds : goal.default_case-returns-clause-holds
default_case-returns-clause-holds t c =
    let word = c.in_ok-word.ensures.bounds.0 in
    let colon = c.in_ok-colon.ensures.bounds.0 in
    let body = c.in_ok-body.ensures.holds in
    (rw (case-made _) body.0, omega arith)

pub default_case-returns-clause-read : goal.default_case-returns-clause-read
default_case-returns-clause-read t c =
    rw (case-made _)
    (default_reads c.args.self.now.toks.now c.args.room c.args.at c.requires.word.1 (c.in_ok-word.ensures.read _) (c.in_ok-colon.ensures.read _) c.in_ok-body.ensures.read.2)

pub case-returns-in_err-word-clause-stopped : goal.case-returns-in_err-word-clause-stopped
case-returns-in_err-word-clause-stopped t c =
    handed_on _ c.from_residual.result c.from_residual.ensures.1
    (case_word_stops c.args.self.now.toks.now c.args.room c.args.at (c.is_word.ensures.no c.if-is_word.false) _ (c.in_err-word.ensures.stopped _))

pub case-returns-in_err-event-clause-stopped : goal.case-returns-in_err-event-clause-stopped
case-returns-in_err-event-clause-stopped t c =
    handed_on _ c.from_residual-in_err-event.result c.from_residual-in_err-event.ensures.1
    (case_event_stops c.args.self.now.toks.now c.args.room c.args.at (c.is_word.ensures.no c.if-is_word.false) (c.in_ok-word.ensures.read _) _ c.in_err-event.ensures.stopped)

pub case-returns-in_err-event-2-clause-stopped : goal.case-returns-in_err-event-2-clause-stopped
case-returns-in_err-event-2-clause-stopped t c =
    let body = rw c.in_err-event-2.ensures.failed at c.case_body.ensures.stopped in
    handed_on _ c.from_residual-in_err-event-2.result c.from_residual-in_err-event-2.ensures.1
    (case_body_stops c.args.self.now.toks.now c.args.room c.args.at (c.is_word.ensures.no c.if-is_word.false) (c.in_ok-word.ensures.read _) c.in_ok-event.ensures.read.1 _ body)

pub case-returns-clause-holds : goal.case-returns-clause-holds
case-returns-clause-holds t c =
    let word = c.in_ok-word.ensures.bounds.0 in
    let event = c.in_ok-event.ensures.bounds.0 in
    let body = rw c.in_ok-event-2.ensures.made at c.case_body.ensures.holds in
    (rw (case-made _) body.0, omega arith)

pub case-returns-clause-read : goal.case-returns-clause-read
case-returns-clause-read t c =
    let body = rw c.in_ok-event-2.ensures.made at c.case_body.ensures.read in
    rw (case-made _, c.in_ok-event-2.ensures.value)
    (reads_case c.args.self.now.toks.now c.args.room c.args.at (c.is_word.ensures.no c.if-is_word.false) (c.in_ok-word.ensures.read _) c.in_ok-event.ensures.read.1 body.2)

pub while_loop-returns-in_err-open-clause-stopped : goal.while_loop-returns-in_err-open-clause-stopped
while_loop-returns-in_err-open-clause-stopped t c =
    handed_on _ c.from_residual.result c.from_residual.ensures.1
    (while_open_stops c.args.room c.requires.word.1 _ (c.in_err-open.ensures.stopped _))

pub while_loop-returns-in_err-test-clause-stopped : goal.while_loop-returns-in_err-test-clause-stopped
while_loop-returns-in_err-test-clause-stopped t c =
    handed_on _ c.from_residual-in_err-test.result c.from_residual-in_err-test.ensures.1
    (while_test_stops c.args.room c.requires.word.1 (c.in_ok-open.ensures.read _) _ c.in_err-test.ensures.stopped)

pub while_loop-returns-in_err-close-clause-stopped : goal.while_loop-returns-in_err-close-clause-stopped
while_loop-returns-in_err-close-clause-stopped t c =
    handed_on _ c.from_residual-in_err-close.result c.from_residual-in_err-close.ensures.1
    (while_close_stops c.args.room c.requires.word.1 (c.in_ok-open.ensures.read _) c.in_ok-test.ensures.read _ (c.in_err-close.ensures.stopped _))

pub while_loop-returns-in_err-test-2-clause-stopped : goal.while_loop-returns-in_err-test-2-clause-stopped
while_loop-returns-in_err-test-2-clause-stopped t c =
    let body = rw c.in_err-test-2.ensures.failed at c.statement.ensures.stopped in
    handed_on _ c.from_residual-in_err-test-2.result c.from_residual-in_err-test-2.ensures.1
    (while_body_stops c.args.room c.requires.word.1 (c.in_ok-open.ensures.read _) c.in_ok-test.ensures.read (c.in_ok-close.ensures.read.1 _) _ body)

pub while_loop-whole-requires-clause-held : goal.while_loop-whole-requires-clause-held
while_loop-whole-requires-clause-held t c =
    let body = rw c.in_ok-test-2.ensures.made at c.statement.ensures.read in
    rw action-While (held_while (expression_of c.in_ok-close.close.value) body.derives)

pub while_loop-returns-clause-read : goal.while_loop-returns-clause-read
while_loop-returns-clause-read t c =
    let body = rw c.in_ok-test-2.ensures.made at c.statement.ensures.read in
    ok_with _ _ c.whole.result (λ x h. rw (h.0, h.1, action-While, c.in_ok-test-2.ensures.value, c.in_ok-close.ensures.value)
    (while_reads c.args.room c.requires.word.1 (c.in_ok-open.ensures.read _) c.in_ok-test.ensures.read (c.in_ok-close.ensures.read.1 _) body)) c.whole.ensures.made

pub while_loop-returns-clause-stopped : goal.while_loop-returns-clause-stopped
while_loop-returns-clause-stopped t c = memory_missing _ c.whole.result c.whole.ensures.memory tt

pub do_loop-returns-in_err-body-clause-stopped : goal.do_loop-returns-in_err-body-clause-stopped
do_loop-returns-in_err-body-clause-stopped t c =
    handed_on _ c.from_residual.result c.from_residual.ensures.1
    (do_body_stops c.args.room c.requires.word.1 _ c.in_err-body.ensures.stopped)

pub do_loop-returns-in_err-test-clause-stopped : goal.do_loop-returns-in_err-test-clause-stopped
do_loop-returns-in_err-test-clause-stopped t c =
    handed_on _ c.from_residual-in_err-test.result c.from_residual-in_err-test.ensures.1
    (do_tail_stops c.args.room c.requires.word.1 c.in_ok-body.ensures.read _ c.in_err-test.ensures.stopped)

pub do_loop-whole-requires-clause-held : goal.do_loop-whole-requires-clause-held
do_loop-whole-requires-clause-held t c = rw action-DoWhile (held_do c.args.at (expression_of c.in_ok-test.test.value) c.in_ok-body.ensures.read.derives)

pub do_loop-returns-clause-read : goal.do_loop-returns-clause-read
do_loop-returns-clause-read t c =
    ok_with _ _ c.whole.result (λ x h. rw (h.0, h.1, action-DoWhile)
    (do_reads c.args.room c.requires.word.1 c.in_ok-body.ensures.read c.in_ok-test.ensures.read.4)) c.whole.ensures.made

pub do_loop-returns-clause-stopped : goal.do_loop-returns-clause-stopped
do_loop-returns-clause-stopped t c = memory_missing _ c.whole.result c.whole.ensures.memory tt

pub for_loop-returns-in_err-read-clause-stopped : goal.for_loop-returns-in_err-read-clause-stopped
for_loop-returns-in_err-read-clause-stopped t c =
    handed_on _ c.from_residual.result c.from_residual.ensures.1 c.in_err-read.ensures.stopped

pub for_loop-returns-in_err-parts-clause-stopped : goal.for_loop-returns-in_err-parts-clause-stopped
for_loop-returns-in_err-parts-clause-stopped t c =
    let r = c.in_ok-read.ensures.read in
    let body = rw c.in_err-parts.ensures.failed at c.statement.ensures.stopped in
    handed_on _ c.from_residual-in_err-parts.result c.from_residual-in_err-parts.ensures.1
    (for_body_stops c.args.room c.requires.word.1 (r.opens _) r.starts (r.ends_start _) r.tests (r.ends_test _) r.steps (r.closes _) _ body)

pub for_loop-whole-requires-clause-held : goal.for_loop-whole-requires-clause-held
for_loop-whole-requires-clause-held t c =
    let r = c.in_ok-read.ensures.read in
    let body = rw c.in_ok-parts.ensures.made at c.statement.ensures.read in
    rw (c.in_ok-parts.ensures.value, for_made, r.held)
    (held_for (option_map expression_of c.in_ok-read.read.value.test) r.starts.derives r.steps.derives body.derives)

pub for_loop-returns-clause-read : goal.for_loop-returns-clause-read
for_loop-returns-clause-read t c =
    let r = c.in_ok-read.ensures.read in
    let body = rw c.in_ok-parts.ensures.made at c.statement.ensures.read in
    ok_with _ _ c.whole.result (λ x h. rw (h.0, h.1, c.in_ok-parts.ensures.value, for_made)
    (for_reads c.args.room c.requires.word.1 (r.opens _) r.starts (r.ends_start _) r.tests (r.ends_test _) r.steps (r.closes _) body)) c.whole.ensures.made

pub for_loop-returns-clause-stopped : goal.for_loop-returns-clause-stopped
for_loop-returns-clause-stopped t c = memory_missing _ c.whole.result c.whole.ensures.memory tt

pub begun-whole-requires-clause-held : goal.begun-whole-requires-clause-held
begun-whole-requires-clause-held t c = rw action-Empty refl

pub begun-returns-in-Semicolon-clause-read : goal.begun-returns-in-Semicolon-clause-read
begun-returns-in-Semicolon-clause-read t c =
    let s = rw c.in-Semicolon.is at c.requires.begins in
    ok_with _ _ c.whole.result (λ x h. rw (h.0, h.1, action-Empty)
    (semicolon_reads c.args.self.now.toks.now (c.args.room + 1) c.args.at (omega arith) s.1)) c.whole.ensures.made

pub begun-returns-in-Semicolon-clause-stopped : goal.begun-returns-in-Semicolon-clause-stopped
begun-returns-in-Semicolon-clause-stopped t c = memory_missing _ c.whole.result c.whole.ensures.memory tt

pub begun-returns-in-Brace-clause-read : goal.begun-returns-in-Brace-clause-read
begun-returns-in-Brace-clause-read t c =
    let s = rw c.in-Brace.is at c.requires.begins in
    ok_with _ _ c.braced.result (λ r h. h s) c.braced.ensures.read

pub begun-returns-in-Brace-clause-stopped : goal.begun-returns-in-Brace-clause-stopped
begun-returns-in-Brace-clause-stopped t c =
    let s = rw c.in-Brace.is at c.requires.begins in
    err_with _ _ c.braced.result (λ e h. h s) c.braced.ensures.stopped

pub begun-returns-in-Break-clause-read : goal.begun-returns-in-Break-clause-read
begun-returns-in-Break-clause-read t c = ok_with _ _ c.jump.result (λ r h. h c.args.room) c.jump.ensures.read

pub begun-returns-in-Break-clause-stopped : goal.begun-returns-in-Break-clause-stopped
begun-returns-in-Break-clause-stopped t c = err_with _ _ c.jump.result (λ e h. h c.args.room) c.jump.ensures.stopped

pub begun-returns-in-Continue-clause-read : goal.begun-returns-in-Continue-clause-read
begun-returns-in-Continue-clause-read t c = ok_with _ _ c.jump-in-Continue.result (λ r h. h c.args.room) c.jump-in-Continue.ensures.read

pub begun-returns-in-Continue-clause-stopped : goal.begun-returns-in-Continue-clause-stopped
begun-returns-in-Continue-clause-stopped t c = err_with _ _ c.jump-in-Continue.result (λ e h. h c.args.room) c.jump-in-Continue.ensures.stopped

pub begun-simple-requires-clause-name : goal.begun-simple-requires-clause-name
begun-simple-requires-clause-name t c = rw c.in-Name.is at c.requires.begins

pub begun-conditional-requires : goal.begun-conditional-requires
begun-conditional-requires t c = (search rules, (search rules, rw c.in-If.is at c.requires.begins))

pub begun-while_loop-requires : goal.begun-while_loop-requires
begun-while_loop-requires t c = (search rules, (search rules, rw c.in-While.is at c.requires.begins))

pub begun-do_loop-requires : goal.begun-do_loop-requires
begun-do_loop-requires t c = (search rules, (search rules, rw c.in-Do.is at c.requires.begins))

pub begun-for_loop-requires : goal.begun-for_loop-requires
begun-for_loop-requires t c = (search rules, (search rules, rw c.in-For.is at c.requires.begins))

pub begun-return_statement-requires-clause-word : goal.begun-return_statement-requires-clause-word
begun-return_statement-requires-clause-word t c = rw c.in-Return.is at c.requires.begins

pub begun-jump-requires-clause-word : goal.begun-jump-requires-clause-word
begun-jump-requires-clause-word t c = rw c.in-Break.is at c.requires.begins

pub begun-jump-requires-in-Continue-clause-word : goal.begun-jump-requires-in-Continue-clause-word
begun-jump-requires-in-Continue-clause-word t c = rw c.in-Continue.is at c.requires.begins

pub begun-par-requires : goal.begun-par-requires
begun-par-requires t c = (search rules, (search rules, rw c.in-Par.is at c.requires.begins))

pub begun-select-requires : goal.begun-select-requires
begun-select-requires t c = (search rules, (search rules, rw c.in-Select.is at c.requires.begins))

pub begun-transaction-requires : goal.begun-transaction-requires
begun-transaction-requires t c = (search rules, (search rules, rw c.in-Master.is at c.requires.begins))

pub begun-transaction-requires-in-Slave : goal.begun-transaction-requires-in-Slave
begun-transaction-requires-in-Slave t c = (search rules, (search rules, rw c.in-Slave.is at c.requires.begins))

pub statement-returns-in_default-clause-stopped : goal.statement-returns-in_default-clause-stopped
statement-returns-in_default-clause-stopped t c = none_begins c.args.self.now.toks.now c.args.room c.args.at c.in_default.ensures.none

pub statement-returns-then-room-eq0-clause-stopped : goal.statement-returns-then-room-eq0-clause-stopped
statement-returns-then-room-eq0-clause-stopped t c =
    rw c.if-room-eq0.true (deep_begins c.args.self.now.toks.now 0 c.args.at (token_of c.in-Some.first) c.in-Some.ensures.some.1 (begins_all c.in-Some.first))

pub statement-returns-clause-read : goal.statement-returns-clause-read
statement-returns-clause-read t c =
    let e : c.args.room - 1 + 1 ≡ c.args.room = omega arith in
    ok_room c.args.self.now.toks.now symbol.statement c.args.at _ _ e c.begun.result c.begun.ensures.read

pub statement-returns-clause-stopped : goal.statement-returns-clause-stopped
statement-returns-clause-stopped t c =
    let e : c.args.room - 1 + 1 ≡ c.args.room = omega arith in
    err_room c.args.self.now.toks.now symbol.statement c.args.at e c.begun.result c.begun.ensures.stopped

pub braced-returns-in_err-block-clause-stopped : goal.braced-returns-in_err-block-clause-stopped
braced-returns-in_err-block-clause-stopped t c =
    handed_on _ c.from_residual.result c.from_residual.ensures.1
    (λ s. simples.block_stops c.args.self.now.toks.now c.args.room c.args.at _ s.1 c.in_err-block.ensures.stopped)

pub braced-returns-in_err-block-clause-no_body : goal.braced-returns-in_err-block-clause-no_body
braced-returns-in_err-block-clause-no_body t c =
    handed_on _ c.from_residual.result c.from_residual.ensures.1
    (simples.body_stops c.args.self.now.toks.now c.args.room c.args.at _ c.in_err-block.ensures.stopped)

pub braced-whole-requires-clause-held : goal.braced-whole-requires-clause-held
braced-whole-requires-clause-held t c = rw action-Block (held_block c.in_ok-block.ensures.read.derives)

pub braced-returns-clause-read : goal.braced-returns-clause-read
braced-returns-clause-read t c =
    ok_with _ _ c.whole.result (λ x h s. rw (h.0, h.1, action-Block)
    (simples.block_reads c.args.self.now.toks.now c.args.room c.args.at s.1 c.in_ok-block.ensures.read)) c.whole.ensures.made

pub braced-returns-clause-stopped : goal.braced-returns-clause-stopped
braced-returns-clause-stopped t c = memory_missing _ c.whole.result c.whole.ensures.memory (λ s. tt)

pub braced-returns-clause-body : goal.braced-returns-clause-body
braced-returns-clause-body t c =
    ok_with _ _ c.whole.result (λ x h. rw (h.0, h.1, action-Block)
    (simples.body_reads c.args.self.now.toks.now c.args.room c.args.at c.in_ok-block.ensures.read)) c.whole.ensures.made

pub braced-returns-clause-no_body : goal.braced-returns-clause-no_body
braced-returns-clause-no_body t c = memory_missing _ c.whole.result c.whole.ensures.memory tt

pub block-returns-in_err-open-clause-stopped : goal.block-returns-in_err-open-clause-stopped
block-returns-in_err-open-clause-stopped t c =
    handed_on _ c.from_residual.result c.from_residual.ensures.1
    (brace_missing c.args.self.now.toks.now c.args.room c.args.at _ (c.in_err-open.ensures.stopped c.args.room))

pub block-items-init : goal.block-items-init
block-items-init t c =
    let l = c.in_ok-open.ensures.bounds.0 in
    record {
      after = omega (arith, l);
      within = c.in_ok-open.ensures.bounds.1;
      holds = rw (c.new-value.ensures, l) (opened (symbol_there (c.in_ok-open.ensures.read 0)));
    }

pub block-returns-in_err-item-clause-stopped : goal.block-returns-in_err-item-clause-stopped
block-returns-in_err-item-clause-stopped t c =
    handed_on _ c.from_residual-in_err-item.result c.from_residual-in_err-item.ensures.1
    (item_stops c.items.invariant.holds _ (c.is_symbol.ensures.no c.items-test.true) c.in_err-item.ensures.stopped)

pub block-returns-in_err-push-clause-stopped : goal.block-returns-in_err-push-clause-stopped
block-returns-in_err-push-clause-stopped t c =
    handed_on _ c.from_residual-in_err-push.result c.from_residual-in_err-push.ensures.1 tt

pub block-items-preserved : goal.block-items-preserved
block-items-preserved t c =
    let after = c.items.invariant.after in
    let more = c.in_ok-item.ensures.bounds.0 in
    record {
      after = omega (arith, after, more);
      within = c.in_ok-item.ensures.bounds.1;
      holds = rw (c.in_ok-push.ensures.ok, map_push) (item_added c.items.invariant.holds c.in_ok-item.ensures.read);
    }

pub block-returns-clause-read : goal.block-returns-clause-read
block-returns-clause-read t c =
    closed_block c.items.invariant.holds (c.is_symbol.ensures.yes c.items-test.false).1.1

pub block_item-returns-then-begins_declaration-clause-read : goal.block_item-returns-then-begins_declaration-clause-read
block_item-returns-then-begins_declaration-clause-read t c =
    ok_with _ _ c.declaration.result (λ r h. declared_item c.args.self.now.toks.now c.args.room c.args.at (c.begins_declaration.ensures.yes c.if-begins_declaration.true) h) c.declaration.ensures.read

pub block_item-returns-then-begins_declaration-clause-stopped : goal.block_item-returns-then-begins_declaration-clause-stopped
block_item-returns-then-begins_declaration-clause-stopped t c =
    err_with _ _ c.declaration.result (λ e h. declared_stops c.args.self.now.toks.now c.args.room c.args.at e (c.begins_declaration.ensures.yes c.if-begins_declaration.true) h) c.declaration.ensures.stopped

pub block_item-returns-clause-read : goal.block_item-returns-clause-read
block_item-returns-clause-read t c =
    ok_with _ _ c.statement.result (λ r h. stated_item c.args.self.now.toks.now c.args.room c.args.at (c.begins_declaration.ensures.no c.if-begins_declaration.false) h) c.statement.ensures.read

pub block_item-returns-clause-stopped : goal.block_item-returns-clause-stopped
block_item-returns-clause-stopped t c =
    err_with _ _ c.statement.result (λ e h. stated_stops c.args.self.now.toks.now c.args.room c.args.at e (c.begins_declaration.ensures.no c.if-begins_declaration.false) h) c.statement.ensures.stopped

pub transaction-returns-in_err-block-clause-stopped : goal.transaction-returns-in_err-block-clause-stopped
transaction-returns-in_err-block-clause-stopped t c =
    handed_on _ c.from_residual.result c.from_residual.ensures.1
    (transaction_stops c.args.self.now.toks.now c.args.room c.args.at c.args.is_master _ c.requires.word.1 c.in_err-block.ensures.stopped)

pub transaction-whole-requires-clause-held : goal.transaction-whole-requires-clause-held
transaction-whole-requires-clause-held t c = rw action-Tran (held_transaction c.args.at c.args.is_master c.in_ok-block.ensures.read.derives)

pub transaction-returns-clause-read : goal.transaction-returns-clause-read
transaction-returns-clause-read t c =
    ok_with _ _ c.whole.result (λ x h. rw (h.0, h.1, action-Tran)
    (transaction_reads c.args.self.now.toks.now c.args.room c.args.at c.args.is_master c.requires.word.1 c.in_ok-block.ensures.read)) c.whole.ensures.made

pub transaction-returns-clause-stopped : goal.transaction-returns-clause-stopped
transaction-returns-clause-stopped t c = memory_missing _ c.whole.result c.whole.ensures.memory tt

pub conditional-returns-in_err-open-clause-stopped : goal.conditional-returns-in_err-open-clause-stopped
conditional-returns-in_err-open-clause-stopped t c =
    let w = c.requires.word.1 in
    handed_on _ c.from_residual.result c.from_residual.ensures.1
    (open_stops c.args.room w _ (c.in_err-open.ensures.stopped _))

pub conditional-returns-in_err-test-clause-stopped : goal.conditional-returns-in_err-test-clause-stopped
conditional-returns-in_err-test-clause-stopped t c =
    let w = c.requires.word.1 in
    let o = symbol_there (c.in_ok-open.ensures.read 0) in
    handed_on _ c.from_residual-in_err-test.result c.from_residual-in_err-test.ensures.1
    (test_stops c.args.room w o _ (stopped_from c.args.self.now.toks.now c.args.room symbol.expr _ c.in_ok-open.ensures.bounds.0 c.in_err-test.ensures.stopped))

pub conditional-returns-in_err-close-clause-stopped : goal.conditional-returns-in_err-close-clause-stopped
conditional-returns-in_err-close-clause-stopped t c =
    let w = c.requires.word.1 in
    let o = symbol_there (c.in_ok-open.ensures.read 0) in
    let q = from_place c.in_ok-open.ensures.bounds.0 c.in_ok-test.ensures.read in
    handed_on _ c.from_residual-in_err-close.result c.from_residual-in_err-close.ensures.1
    (close_stops c.args.room w o q _ (c.in_err-close.ensures.stopped _))

pub conditional-returns-in_err-test-2-clause-stopped : goal.conditional-returns-in_err-test-2-clause-stopped
conditional-returns-in_err-test-2-clause-stopped t c =
    let w = c.requires.word.1 in
    let o = symbol_there (c.in_ok-open.ensures.read 0) in
    let q = from_place c.in_ok-open.ensures.bounds.0 c.in_ok-test.ensures.read in
    let l = symbol_there (c.in_ok-close.ensures.read.1 0) in
    let first = rw c.in_err-test-2.ensures.failed at c.statement.ensures.stopped in
    handed_on _ c.from_residual-in_err-test-2.result c.from_residual-in_err-test-2.ensures.1
    (then_stops c.args.room w o q l _ (stopped_from c.args.self.now.toks.now c.args.room symbol.statement _ c.in_ok-close.ensures.bounds.0 first))

pub conditional-whole-requires-clause-held : goal.conditional-whole-requires-clause-held
conditional-whole-requires-clause-held t c =
    let first = rw c.in_ok-test-2.ensures.made at c.statement.ensures.read in
    rw action-If (held_if (expression_of c.in_ok-close.close.value) first.derives)

pub conditional-returns-then-not-is_word-clause-read : goal.conditional-returns-then-not-is_word-clause-read
conditional-returns-then-not-is_word-clause-read t c =
    let w = c.requires.word.1 in
    let o = symbol_there (c.in_ok-open.ensures.read 0) in
    let q = from_place c.in_ok-open.ensures.bounds.0 c.in_ok-test.ensures.read in
    let l = symbol_there (c.in_ok-close.ensures.read.1 0) in
    let first = rw c.in_ok-test-2.ensures.made at c.statement.ensures.read in
    let s = from_place c.in_ok-close.ensures.bounds.0 first in
    ok_with _ _ c.whole.result (λ x h. rw (h.0, h.1, action-If, c.in_ok-test-2.ensures.value, c.in_ok-close.ensures.value)
    (then_reads c.args.room w o q l s (c.is_word.ensures.no c.if-not-is_word.true))) c.whole.ensures.made

pub conditional-returns-then-not-is_word-clause-stopped : goal.conditional-returns-then-not-is_word-clause-stopped
conditional-returns-then-not-is_word-clause-stopped t c = memory_missing _ c.whole.result c.whole.ensures.memory tt

pub conditional-returns-in_err-kept-clause-stopped : goal.conditional-returns-in_err-kept-clause-stopped
conditional-returns-in_err-kept-clause-stopped t c =
    let w = c.requires.word.1 in
    let o = symbol_there (c.in_ok-open.ensures.read 0) in
    let q = from_place c.in_ok-open.ensures.bounds.0 c.in_ok-test.ensures.read in
    let l = symbol_there (c.in_ok-close.ensures.read.1 0) in
    let first = rw c.in_ok-test-2.ensures.made at c.statement.ensures.read in
    let s = from_place c.in_ok-close.ensures.bounds.0 first in
    let els = (c.is_word.ensures.yes c.if-not-is_word.false).1.1 in
    let second = rw c.in_err-kept.ensures.failed at c.statement-2.ensures.stopped in
    handed_on _ c.from_residual-in_err-kept.result c.from_residual-in_err-kept.ensures.1
    (else_stops c.args.room w o q l s els _ second)

pub conditional-whole-requires-2-clause-held : goal.conditional-whole-requires-2-clause-held
conditional-whole-requires-2-clause-held t c =
    let first = rw c.in_ok-test-2.ensures.made at c.statement.ensures.read in
    let second = rw c.in_ok-kept.ensures.made at c.statement-2.ensures.read in
    rw (action-If, c.in_ok-kept.ensures.value) (held_if_else (expression_of c.in_ok-close.close.value) first.derives second.derives)

pub conditional-returns-clause-read : goal.conditional-returns-clause-read
conditional-returns-clause-read t c =
    let w = c.requires.word.1 in
    let o = symbol_there (c.in_ok-open.ensures.read 0) in
    let q = from_place c.in_ok-open.ensures.bounds.0 c.in_ok-test.ensures.read in
    let l = symbol_there (c.in_ok-close.ensures.read.1 0) in
    let first = rw c.in_ok-test-2.ensures.made at c.statement.ensures.read in
    let s = from_place c.in_ok-close.ensures.bounds.0 first in
    let els = (c.is_word.ensures.yes c.if-not-is_word.false).1.1 in
    let second = rw c.in_ok-kept.ensures.made at c.statement-2.ensures.read in
    ok_with _ _ c.whole-2.result (λ x h. rw (h.0, h.1, action-If, c.in_ok-kept.ensures.value, c.in_ok-test-2.ensures.value, c.in_ok-close.ensures.value)
    (else_reads c.args.room w o q l s els second)) c.whole-2.ensures.made

pub conditional-returns-clause-stopped : goal.conditional-returns-clause-stopped
conditional-returns-clause-stopped t c = memory_missing _ c.whole-2.result c.whole-2.ensures.memory tt
