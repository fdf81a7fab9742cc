use Rattle.std.proofs.Common.{sym, ap, ◌∙◌}
use Rattle.xc_kernel.specs.Size.{most_statements, most_nodes, greatest_depth}
use Rattle.xc_size.specs.declared.size.Size.{Size}
use Rattle.xc_size.proofs.UpTo.{up_to_none}
use Rattle.xc_size.proofs.measure.initial.Goals as goal

pub returns-in-Word-clause-statements : goal.returns-in-Word-clause-statements
returns-in-Word-clause-statements c = rw c.in-Word.is c.right_side_if_any.ensures.statements

pub returns-in-Word-clause-nodes : goal.returns-in-Word-clause-nodes
returns-in-Word-clause-nodes c = rw c.in-Word.is c.right_side_if_any.ensures.nodes

pub returns-in-Word-clause-depth : goal.returns-in-Word-clause-depth
returns-in-Word-clause-depth c = rw c.in-Word.is c.right_side_if_any.ensures.depth

pub returns-in-Array-clause-statements : goal.returns-in-Array-clause-statements
returns-in-Array-clause-statements c = rw c.in-Array.is (ap (λ (s : Size). s.statements) c.none.ensures ∙ sym (up_to_none most_statements))

pub returns-in-Array-clause-nodes : goal.returns-in-Array-clause-nodes
returns-in-Array-clause-nodes c = rw c.in-Array.is (ap (λ (s : Size). s.nodes) c.none.ensures ∙ sym (up_to_none most_nodes))

pub returns-in-Array-clause-depth : goal.returns-in-Array-clause-depth
returns-in-Array-clause-depth c = rw c.in-Array.is (ap (λ (s : Size). s.depth) c.none.ensures ∙ sym (up_to_none greatest_depth))

pub returns-in-Chan-clause-statements : goal.returns-in-Chan-clause-statements
returns-in-Chan-clause-statements c = rw c.in-Chan.is (ap (λ (s : Size). s.statements) c.none-in-Chan.ensures ∙ sym (up_to_none most_statements))

pub returns-in-Chan-clause-nodes : goal.returns-in-Chan-clause-nodes
returns-in-Chan-clause-nodes c = rw c.in-Chan.is (ap (λ (s : Size). s.nodes) c.none-in-Chan.ensures ∙ sym (up_to_none most_nodes))

pub returns-in-Chan-clause-depth : goal.returns-in-Chan-clause-depth
returns-in-Chan-clause-depth c = rw c.in-Chan.is (ap (λ (s : Size). s.depth) c.none-in-Chan.ensures ∙ sym (up_to_none greatest_depth))

pub returns-in-Timer-clause-statements : goal.returns-in-Timer-clause-statements
returns-in-Timer-clause-statements c = rw c.in-Timer.is (ap (λ (s : Size). s.statements) c.none-in-Timer.ensures ∙ sym (up_to_none most_statements))

pub returns-in-Timer-clause-nodes : goal.returns-in-Timer-clause-nodes
returns-in-Timer-clause-nodes c = rw c.in-Timer.is (ap (λ (s : Size). s.nodes) c.none-in-Timer.ensures ∙ sym (up_to_none most_nodes))

pub returns-in-Timer-clause-depth : goal.returns-in-Timer-clause-depth
returns-in-Timer-clause-depth c = rw c.in-Timer.is (ap (λ (s : Size). s.depth) c.none-in-Timer.ensures ∙ sym (up_to_none greatest_depth))
