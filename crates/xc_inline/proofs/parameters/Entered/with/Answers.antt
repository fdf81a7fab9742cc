use Rattle.xc_inline.specs.Scopes.{scope_of}
use Rattle.xc_inline.proofs.parameters.Entered.with.Goals as goal

pub returns : goal.returns
returns c = c.nothing.ensures (scope_of c.args.ports)
