use Rattle.xr_front.proofs.OneAnswer.{first_or_accepted, one_accepted, one_first}
use Rattle.xr_front.proofs.law.at_most_one_answer.Goals as goal

pub returns : goal.returns
returns c = record {
  rule = one_first;
  program = λ text. one_accepted text c.at_most_one_tree.ensures;
  not_both = first_or_accepted;
}
