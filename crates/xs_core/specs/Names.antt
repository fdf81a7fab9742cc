-- What a resource of the code stands for.
use Rattle.xs_instr.specs.Resources.{Named, APort, ATimer, AnEnd, ASync, AThread, ALock, Nothing}
use Rattle.xs_core.specs.declared.names.Resource.{Resource}
use Rattle.xs_core.specs.declared.names.Resource.TheVariants.{Port, Timer, End, Sync, Thread, Lock, Unknown}

-- the resource that is meant
abbrev pub meant_by : Resource → Named
meant_by (Port n) = APort n
meant_by (Timer n) = ATimer n
meant_by (End n) = AnEnd n
meant_by (Sync n) = ASync n
meant_by (Thread n) = AThread n
meant_by (Lock n) = ALock n
meant_by Unknown = Nothing
