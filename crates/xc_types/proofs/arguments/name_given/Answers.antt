use Rattle.std.proofs.Common.{◌∙◌}
use Rattle.xc_tree.specs.Types.Named.{named_of}
use Rattle.xc_types.proofs.Givens.{a_name_given, no_name_given}
use Rattle.xc_types.proofs.arguments.name_given.Goals as goal

pub returns-in-Name : goal.returns-in-Name
returns-in-Name c = c.what_of.ensures ∙ a_name_given (named_of c.args.named.now) c.args.k c.args.e.now c.in-Name.field-0 c.in-Name.is

pub returns-in_default : goal.returns-in_default
returns-in_default c = no_name_given (named_of c.args.named.now) c.args.k c.args.e.now c.in_default.not-Name
