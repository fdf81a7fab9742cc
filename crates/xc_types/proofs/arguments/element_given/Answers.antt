use Rattle.std.proofs.Common.{◌∙◌}
use Rattle.xc_tree.specs.Types.Named.{named_of}
use Rattle.xc_types.proofs.Givens.{an_element_given, no_element_given}
use Rattle.xc_types.proofs.arguments.element_given.Goals as goal

pub returns-in-Index : goal.returns-in-Index
returns-in-Index c = c.what_of.ensures ∙ an_element_given (named_of c.args.named.now) c.args.k c.args.e.now c.in-Index.field-0 c.in-Index.field-1 c.in-Index.is

pub returns-in_default : goal.returns-in_default
returns-in_default c = no_element_given (named_of c.args.named.now) c.args.k c.args.e.now c.in_default.not-Index
