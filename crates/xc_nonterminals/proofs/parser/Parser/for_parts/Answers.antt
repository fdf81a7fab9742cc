use Rattle.std.proofs.Common.{arith}
use Rattle.xc_nonterminals.proofs.Reading.Exits.{handed_on}
use Rattle.xc_nonterminals.proofs.Reading.Rounds.{for_open_stops, for_start_stops, for_first_stops, for_test_stops, for_second_stops, for_step_stops, for_close_stops}
use Rattle.xc_nonterminals.proofs.parser.Parser.for_parts.Goals as goal

pub returns-in_err-open-clause-stopped : goal.returns-in_err-open-clause-stopped
returns-in_err-open-clause-stopped c =
    handed_on _ c.from_residual.result c.from_residual.ensures.1
    (for_open_stops c.args.room c.requires.word.1 _ (c.in_err-open.ensures.stopped _))

pub returns-in_err-start-clause-stopped : goal.returns-in_err-start-clause-stopped
returns-in_err-start-clause-stopped c =
    handed_on _ c.from_residual-in_err-start.result c.from_residual-in_err-start.ensures.1
    (for_start_stops c.args.room c.requires.word.1 (c.in_ok-open.ensures.read _) _ c.in_err-start.ensures.stopped)

pub returns-in_err-first-clause-stopped : goal.returns-in_err-first-clause-stopped
returns-in_err-first-clause-stopped c =
    handed_on _ c.from_residual-in_err-first.result c.from_residual-in_err-first.ensures.1
    (for_first_stops c.args.room c.requires.word.1 (c.in_ok-open.ensures.read _) c.in_ok-start.ensures.read _ (c.in_err-first.ensures.stopped _))

pub returns-in_err-test-clause-stopped : goal.returns-in_err-test-clause-stopped
returns-in_err-test-clause-stopped c =
    handed_on _ c.from_residual-in_err-test.result c.from_residual-in_err-test.ensures.1
    (for_test_stops c.args.room c.requires.word.1 (c.in_ok-open.ensures.read _) c.in_ok-start.ensures.read (c.in_ok-first.ensures.read.1 _) _ c.in_err-test.ensures.stopped)

pub returns-in_err-second-clause-stopped : goal.returns-in_err-second-clause-stopped
returns-in_err-second-clause-stopped c =
    handed_on _ c.from_residual-in_err-second.result c.from_residual-in_err-second.ensures.1
    (for_second_stops c.args.room c.requires.word.1 (c.in_ok-open.ensures.read _) c.in_ok-start.ensures.read (c.in_ok-first.ensures.read.1 _) c.in_ok-test.ensures.read _ (c.in_err-second.ensures.stopped _))

pub returns-in_err-step-clause-stopped : goal.returns-in_err-step-clause-stopped
returns-in_err-step-clause-stopped c =
    handed_on _ c.from_residual-in_err-step.result c.from_residual-in_err-step.ensures.1
    (for_step_stops c.args.room c.requires.word.1 (c.in_ok-open.ensures.read _) c.in_ok-start.ensures.read (c.in_ok-first.ensures.read.1 _) c.in_ok-test.ensures.read (c.in_ok-second.ensures.read.1 _) _ c.in_err-step.ensures.stopped)

pub returns-in_err-close-clause-stopped : goal.returns-in_err-close-clause-stopped
returns-in_err-close-clause-stopped c =
    handed_on _ c.from_residual-in_err-close.result c.from_residual-in_err-close.ensures.1
    (for_close_stops c.args.room c.requires.word.1 (c.in_ok-open.ensures.read _) c.in_ok-start.ensures.read (c.in_ok-first.ensures.read.1 _) c.in_ok-test.ensures.read (c.in_ok-second.ensures.read.1 _) c.in_ok-step.ensures.read _ (c.in_err-close.ensures.stopped _))

pub returns-clause-read : goal.returns-clause-read
returns-clause-read c =
    let first = c.in_ok-first.ensures.bounds.0 in
    let close = c.in_ok-close.ensures.bounds.0 in
    record {
      start_at = _;
      start_end = _;
      test_at = _;
      test_end = _;
      step_at = _;
      step_end = _;
      paren = _;
      first = _;
      second = _;
      close = _;
      opens = c.in_ok-open.ensures.read;
      starts = rw c.in_ok-first.ensures.value c.in_ok-start.ensures.read;
      ends_start = c.in_ok-first.ensures.read.1;
      tests = rw c.in_ok-second.ensures.value c.in_ok-test.ensures.read;
      ends_test = c.in_ok-second.ensures.read.1;
      steps = rw c.in_ok-close.ensures.value c.in_ok-step.ensures.read;
      closes = c.in_ok-close.ensures.read.1;
      held = omega (arith, first, close);
    }
