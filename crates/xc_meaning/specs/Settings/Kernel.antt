-- The step of a kernel's statement.
use Rattle.std.specs.Prelude.{◌∷◌, Option, Some}
use Rattle.xc_kernel.specs.Plain as kernel
use Rattle.xc_meaning.specs.States.Items.{mark, transaction_end, todo}
use Rattle.xc_meaning.specs.States.Worlds.{World}
use Rattle.xc_meaning.specs.Settings.Setting.{Setting, goes_to}
use Rattle.xc_meaning.specs.Settings.Stores.{assigned, zeroed}
use Rattle.xc_meaning.specs.Settings.Flow.{tests, turn_items, leaves}
use Rattle.xc_meaning.specs.Settings.Par.{all_begun, makes}
use Rattle.xc_meaning.specs.Settings.Transactions.{opens}
use Rattle.xc_meaning.specs.Settings.Transfers.{outputs_to, inputs_from}
use Rattle.xc_meaning.specs.Settings.Select.{enabled, default_of, begins_select}

abbrev pub does_statement : Setting → kernel.Statement → Option World
does_statement s (kernel.set_zero variable) = zeroed s variable
does_statement s (kernel.set place e) = assigned s place e
does_statement s (kernel.output o) = outputs_to s o o.resource
does_statement s (kernel.input i) = inputs_from s i i.resource
does_statement s (kernel.if_then test a b) = tests s test (todo a s.rest) (todo b s.rest)
does_statement s (kernel.loop test body next) = tests s test (turn_items test body next s.rest) s.rest
does_statement s (kernel.block n ss) = Some (goes_to s (todo ss (mark n ∷ s.rest)))
does_statement s (kernel.exit n) = leaves s n
does_statement s (kernel.select cases otherwise pos) = begins_select s (default_of otherwise) (enabled s.world.store cases)
does_statement s (kernel.par bs) = makes s (all_begun bs)
does_statement s (kernel.transaction c is_master ss start close) =
    opens s c is_master (todo ss (transaction_end c is_master close ∷ s.rest)) start
