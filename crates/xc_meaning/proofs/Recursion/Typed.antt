-- The law of programs that break no rule of names, types and shapes: their calls end.
use Rattle.xc_meaning.specs.Follows.{TypedTextFollows}
use Rattle.xc_meaning.proofs.Recursion.End.{calls_end}
use Rattle.xc_meaning.proofs.Simulation.Theorem.{text_follows}

pub typed_text_follows : TypedTextFollows
typed_text_follows P K named types typed copies s ms leads = text_follows P K (calls_end P named types typed) copies s ms leads
