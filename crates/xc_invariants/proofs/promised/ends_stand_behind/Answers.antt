use Rattle.xc_invariants.proofs.Checked.{inside_holds, ends_are_behind, users_are_inside}
use Rattle.xc_invariants.proofs.promised.ends_stand_behind.Goals as goal

pub returns : goal.returns
returns c = record { of_runs = inside_holds; behind = ends_are_behind; users = users_are_inside }
