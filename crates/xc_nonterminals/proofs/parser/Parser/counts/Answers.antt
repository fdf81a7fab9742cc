use Rattle.xc_nonterminals.proofs.Reading.Exits.{handed_on}
use Rattle.xc_nonterminals.proofs.Stating.Counting.{counts_paren_stops, counts_int_stops, counts_first_stops, counts_second_stops, counts_third_stops}
use Rattle.xc_nonterminals.proofs.parser.Parser.counts.Goals as goal

pub returns-in_err-open-clause-stopped : goal.returns-in_err-open-clause-stopped
returns-in_err-open-clause-stopped c =
    handed_on _ c.from_residual.result c.from_residual.ensures.1
    (λ room. counts_paren_stops room c.requires.word.1 c.requires.bracket.1 _ (c.in_err-open.ensures.stopped _))

pub returns-in_err-int-clause-stopped : goal.returns-in_err-int-clause-stopped
returns-in_err-int-clause-stopped c =
    handed_on _ c.from_residual-in_err-int.result c.from_residual-in_err-int.ensures.1
    (λ room. counts_int_stops room c.requires.word.1 c.requires.bracket.1 (c.in_ok-open.ensures.read _) _ (c.in_err-int.ensures.stopped _))

pub returns-in_err-first-clause-stopped : goal.returns-in_err-first-clause-stopped
returns-in_err-first-clause-stopped c =
    handed_on _ c.from_residual-in_err-first.result c.from_residual-in_err-first.ensures.1
    (λ room. counts_first_stops room c.requires.word.1 c.requires.bracket.1 (c.in_ok-open.ensures.read _) (c.in_ok-int.ensures.read _) _ (c.in_err-first.ensures.stopped _))

pub returns-in_err-second-clause-stopped : goal.returns-in_err-second-clause-stopped
returns-in_err-second-clause-stopped c =
    handed_on _ c.from_residual-in_err-second.result c.from_residual-in_err-second.ensures.1
    (λ room. counts_second_stops room c.requires.word.1 c.requires.bracket.1 (c.in_ok-open.ensures.read _) (c.in_ok-int.ensures.read _) (c.in_ok-first.ensures.read.2 _) _ (c.in_err-second.ensures.stopped _))

pub returns-in_err-third-clause-stopped : goal.returns-in_err-third-clause-stopped
returns-in_err-third-clause-stopped c =
    handed_on _ c.from_residual-in_err-third.result c.from_residual-in_err-third.ensures.1
    (λ room. counts_third_stops room c.requires.word.1 c.requires.bracket.1 (c.in_ok-open.ensures.read _) (c.in_ok-int.ensures.read _) (c.in_ok-first.ensures.read.2 _) (c.in_ok-second.ensures.read.2 _) _ (c.in_err-third.ensures.stopped _))

pub returns-clause-read : goal.returns-clause-read
returns-clause-read c = record {
  int_at = _;
  first_at = _;
  second_at = _;
  third_at = _;
  bracket = _;
  int = _;
  opens = c.in_ok-open.ensures.read;
  types = c.in_ok-int.ensures.read;
  firsts = c.in_ok-first.ensures.read;
  seconds = c.in_ok-second.ensures.read;
  thirds = c.in_ok-third.ensures.read;
}
