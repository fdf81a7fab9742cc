use Rattle.xc_wellformed.proofs.Left.{while_is_left, do_is_left, for_is_left, case_is_left, function_is_left}
use Rattle.xc_wellformed.proofs.promised.blocks_are_left.Goals as goal

pub returns-clause-whiles : goal.returns-clause-whiles
returns-clause-whiles c = while_is_left

pub returns-clause-dos : goal.returns-clause-dos
returns-clause-dos c = do_is_left

pub returns-clause-fors : goal.returns-clause-fors
returns-clause-fors c = for_is_left

pub returns-clause-cases : goal.returns-clause-cases
returns-clause-cases c = case_is_left

pub returns-clause-functions : goal.returns-clause-functions
returns-clause-functions c = function_is_left
