use Rattle.xc_nonterminals.proofs.Reading.Exits.{handed_on}
use Rattle.xc_nonterminals.proofs.Stating.Tails.{do_word_stops, do_open_stops, do_test_stops, do_close_stops, do_end_stops, do_row_read}
use Rattle.xc_nonterminals.proofs.parser.Parser.do_tail.Goals as goal

pub returns-in_err-word-clause-stopped : goal.returns-in_err-word-clause-stopped
returns-in_err-word-clause-stopped c =
    handed_on _ c.from_residual.result c.from_residual.ensures.1
    (do_word_stops c.args.self.now.toks.now c.args.room c.args.at _ (c.in_err-word.ensures.stopped _))

pub returns-in_err-open-clause-stopped : goal.returns-in_err-open-clause-stopped
returns-in_err-open-clause-stopped c =
    handed_on _ c.from_residual-in_err-open.result c.from_residual-in_err-open.ensures.1
    (do_open_stops c.args.self.now.toks.now c.args.room c.args.at (c.in_ok-word.ensures.read _) _ (c.in_err-open.ensures.stopped _))

pub returns-in_err-test-clause-stopped : goal.returns-in_err-test-clause-stopped
returns-in_err-test-clause-stopped c =
    handed_on _ c.from_residual-in_err-test.result c.from_residual-in_err-test.ensures.1
    (do_test_stops c.args.self.now.toks.now c.args.room c.args.at (c.in_ok-word.ensures.read _) (c.in_ok-open.ensures.read _) _ c.in_err-test.ensures.stopped)

pub returns-in_err-close-clause-stopped : goal.returns-in_err-close-clause-stopped
returns-in_err-close-clause-stopped c =
    handed_on _ c.from_residual-in_err-close.result c.from_residual-in_err-close.ensures.1
    (do_close_stops c.args.self.now.toks.now c.args.room c.args.at (c.in_ok-word.ensures.read _) (c.in_ok-open.ensures.read _) c.in_ok-test.ensures.read _ (c.in_err-close.ensures.stopped _))

pub returns-in_err-closed-clause-stopped : goal.returns-in_err-closed-clause-stopped
returns-in_err-closed-clause-stopped c =
    handed_on _ c.from_residual-in_err-closed.result c.from_residual-in_err-closed.ensures.1
    (do_end_stops c.args.self.now.toks.now c.args.room c.args.at (c.in_ok-word.ensures.read _) (c.in_ok-open.ensures.read _) c.in_ok-test.ensures.read (c.in_ok-close.ensures.read.1 _) _ (c.in_err-closed.ensures.stopped _))

pub returns-clause-read : goal.returns-clause-read
returns-clause-read c =
    rw (c.in_ok-closed.ensures.value, c.in_ok-close.ensures.value)
    (c.in_ok-word.word.value, c.in_ok-open.open.value, c.in_ok-close.ensures.read.0, c.in_ok-closed.ensures.read.0, do_row_read c.args.self.now.toks.now c.args.room c.args.at (c.in_ok-word.ensures.read _) (c.in_ok-open.ensures.read _) c.in_ok-test.ensures.read (c.in_ok-close.ensures.read.1 _) (c.in_ok-closed.ensures.read.1 _))
