use Rattle.xc_meaning.proofs.law.text_follows.Goals as goal
use Rattle.xc_meaning.proofs.Recursion.Typed.{typed_text_follows}

pub returns-clause-of_typed_programs : goal.returns-clause-of_typed_programs
returns-clause-of_typed_programs c = typed_text_follows
