use Rattle.std.proofs.Common.{sym, ap, ◌∙◌}
use Rattle.xc_kernel.specs.Size.{most_statements, most_nodes, greatest_depth}
use Rattle.xc_size.specs.declared.size.Size.{Size}
use Rattle.xc_size.proofs.UpTo.{up_to_none}
use Rattle.xc_size.proofs.measure.target.Goals as goal

pub returns-in-To-clause-statements : goal.returns-in-To-clause-statements
returns-in-To-clause-statements c = c.expression.ensures.statements

pub returns-in-To-clause-nodes : goal.returns-in-To-clause-nodes
returns-in-To-clause-nodes c = rw c.in-To.is c.expression.ensures.nodes

pub returns-in-To-clause-depth : goal.returns-in-To-clause-depth
returns-in-To-clause-depth c = rw c.in-To.is c.expression.ensures.depth

pub returns-in-Drop-clause-statements : goal.returns-in-Drop-clause-statements
returns-in-Drop-clause-statements c = ap (λ (s : Size). s.statements) c.none.ensures ∙ sym (up_to_none most_statements)

pub returns-in-Drop-clause-nodes : goal.returns-in-Drop-clause-nodes
returns-in-Drop-clause-nodes c = rw c.in-Drop.is (ap (λ (s : Size). s.nodes) c.none.ensures ∙ sym (up_to_none most_nodes))

pub returns-in-Drop-clause-depth : goal.returns-in-Drop-clause-depth
returns-in-Drop-clause-depth c = rw c.in-Drop.is (ap (λ (s : Size). s.depth) c.none.ensures ∙ sym (up_to_none greatest_depth))

pub returns-in-Fresh-clause-statements : goal.returns-in-Fresh-clause-statements
returns-in-Fresh-clause-statements c = ap (λ (s : Size). s.statements) c.none-in-Fresh.ensures ∙ sym (up_to_none most_statements)

pub returns-in-Fresh-clause-nodes : goal.returns-in-Fresh-clause-nodes
returns-in-Fresh-clause-nodes c = rw c.in-Fresh.is (ap (λ (s : Size). s.nodes) c.none-in-Fresh.ensures ∙ sym (up_to_none most_nodes))

pub returns-in-Fresh-clause-depth : goal.returns-in-Fresh-clause-depth
returns-in-Fresh-clause-depth c = rw c.in-Fresh.is (ap (λ (s : Size). s.depth) c.none-in-Fresh.ensures ∙ sym (up_to_none greatest_depth))
