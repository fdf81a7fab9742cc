use Rattle.xr_match.proofs.Matching.{counts_are_steps, runs_match, runs_match_wholly}
use Rattle.xr_match.proofs.law.machine_runs_match.Goals as goal

pub returns : goal.returns
returns c = record { agree = runs_match; wholly = runs_match_wholly; counts = counts_are_steps }
