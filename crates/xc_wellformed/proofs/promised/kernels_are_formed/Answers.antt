use Rattle.xc_wellformed.proofs.Formed.{variables_right, operands_right, levels_few, transfers_right, transactions_listed, exits_inside, cores_right, well_formed, of_programs, cores_own}
use Rattle.xc_wellformed.proofs.FewRoots.{parts_are_few}
use Rattle.xc_wellformed.proofs.promised.kernels_are_formed.Goals as goal

pub returns-clause-variables : goal.returns-clause-variables
returns-clause-variables c = variables_right

pub returns-clause-operands : goal.returns-clause-operands
returns-clause-operands c = operands_right

pub returns-clause-levels : goal.returns-clause-levels
returns-clause-levels c = levels_few

pub returns-clause-transfers : goal.returns-clause-transfers
returns-clause-transfers c = transfers_right

pub returns-clause-transactions : goal.returns-clause-transactions
returns-clause-transactions c = transactions_listed

pub returns-clause-exits : goal.returns-clause-exits
returns-clause-exits c = exits_inside

pub returns-clause-cores : goal.returns-clause-cores
returns-clause-cores c = cores_right

pub returns-clause-whole : goal.returns-clause-whole
returns-clause-whole c = well_formed

pub returns-clause-of_programs : goal.returns-clause-of_programs
returns-clause-of_programs c = of_programs

pub returns-clause-own : goal.returns-clause-own
returns-clause-own c = cores_own

pub returns-clause-few : goal.returns-clause-few
returns-clause-few c = parts_are_few
