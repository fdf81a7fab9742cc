use Rattle.std.proofs.Common.{List, map, ap, ◌∙◌}
use Rattle.xc_tree.specs.Plain as plain
use Rattle.xc_tree.specs.declared.tree.Stmt.{Stmt}
use Rattle.xc_tree.specs.Trees.{statement_of}
use Rattle.xc_types.proofs.Mains.{stands_alone}
use Rattle.xc_types.proofs.main_function.statements_in.Goals as goal

pub returns-in_default : goal.returns-in_default
returns-in_default c = ap (λ (ss : List Stmt). plain.statements (map statement_of ss)) c.from_ref.ensures.value ∙ stands_alone c.args.body.now c.deref.result.now c.deref.ensures c.in_default.not-Block
