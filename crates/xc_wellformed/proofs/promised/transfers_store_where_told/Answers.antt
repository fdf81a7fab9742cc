use Rattle.xc_wellformed.proofs.Stored.{targets_kept, fresh_targets_kept, input_stamps_kept, output_stamps_kept, none_stored}
use Rattle.xc_wellformed.proofs.promised.transfers_store_where_told.Goals as goal

pub returns-clause-targets : goal.returns-clause-targets
returns-clause-targets c = targets_kept

pub returns-clause-fresh_targets : goal.returns-clause-fresh_targets
returns-clause-fresh_targets c = fresh_targets_kept

pub returns-clause-stamps_of_inputs : goal.returns-clause-stamps_of_inputs
returns-clause-stamps_of_inputs c = input_stamps_kept

pub returns-clause-stamps_of_outputs : goal.returns-clause-stamps_of_outputs
returns-clause-stamps_of_outputs c = output_stamps_kept

pub returns-clause-nothing_else : goal.returns-clause-nothing_else
returns-clause-nothing_else c = none_stored
