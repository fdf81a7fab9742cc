use Rattle.xc_wellformed.proofs.Given.{values_given, elements_given, names_given, each_by_its_own, result_is_returned}
use Rattle.xc_wellformed.proofs.promised.parameters_stand_for_arguments.Goals as goal

pub returns-clause-values : goal.returns-clause-values
returns-clause-values c = values_given

pub returns-clause-elements : goal.returns-clause-elements
returns-clause-elements c = elements_given

pub returns-clause-names : goal.returns-clause-names
returns-clause-names c = names_given

pub returns-clause-each : goal.returns-clause-each
returns-clause-each c = each_by_its_own

pub returns-clause-results : goal.returns-clause-results
returns-clause-results c = result_is_returned
