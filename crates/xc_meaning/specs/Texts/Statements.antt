-- The step of a text's statement, and of its other items.
use Rattle.std.specs.Prelude.{ℕ, ◌-◌, Bool, true, false, ◌∷◌, Option, Some, None, nat_eq}
use Rattle.xw_words.specs.declared.pos.Pos.{Pos}
use Rattle.xc_tree.specs.Plain as tree
use Rattle.xc_kernel.specs.Plain as kernel
use Rattle.xc_tree.specs.Symbols.{equals}
use Rattle.xc_kernel.specs.Scopes.{Scope}
use Rattle.xc_kernel.specs.Values.{Value, word}
use Rattle.xc_kernel.specs.Eval.{Store, eval}
use Rattle.xc_kernel.specs.Context.{Context, place, word_at}
use Rattle.xc_kernel.specs.Calls.{value_of, right_is_unsigned}
use Rattle.xc_kernel.specs.Transfers.{output_of, input_of}
use Rattle.xc_meaning.specs.States.Items.{TextItem, statement, name, bound, body, first_test, again, again_do, returned, says, transaction_end}
use Rattle.xc_meaning.specs.States.Worlds.{World}
use Rattle.xc_meaning.specs.Settings.Setting.{Setting, goes_to, goes_on, with_value, with_word_of}
use Rattle.xc_meaning.specs.Settings.Stores.{stored, assigned_at}
use Rattle.xc_meaning.specs.Settings.Flow.{chooses_side, items_from_mark, leaves}
use Rattle.xc_meaning.specs.Settings.Par.{makes}
use Rattle.xc_meaning.specs.Settings.Transactions.{opens}
use Rattle.xc_meaning.specs.Settings.Select.{begins_select}
use Rattle.xc_meaning.specs.Texts.Copied.{behind, behind_maybe, channel_in, block_in}
use Rattle.xc_meaning.specs.Texts.Words.{value_in, updated_in, spot_in}
use Rattle.xc_meaning.specs.Texts.Transfers.{outputs_text, inputs_text}
use Rattle.xc_meaning.specs.Texts.Items.{name_items, statement_items, maybe_items, statements_items, entered_items}
use Rattle.xc_meaning.specs.Texts.Calls.{calls, stores_right}
use Rattle.xc_meaning.specs.Texts.Declarations.{declares}
use Rattle.xc_meaning.specs.Texts.Loops.{while_loop, for_loop, tests_loop, tests_do, tests_first, begins_do, begins_for}
use Rattle.xc_meaning.specs.Texts.Par.{branches_begun, copies_begun}
use Rattle.xc_meaning.specs.Texts.Select.{text_enabled, text_default}

-- `to op= e`, or a step by 1, where e has this value
abbrev pub updates : Setting → Context → Scope → tree.Expression → (symbol : ℕ) → Pos → Bool → Value → Option World
updates s c scope to symbol pos u v = assigned_at s (spot_in c scope s.world.store to) (updated_in c scope s.world.store to symbol pos u v)

-- the value of a right side; behind an operator that assigns there is never a call
abbrev pub right_value : Context → Scope → Store → tree.RightSide → Value
right_value c scope store (tree.value e) = value_in c scope store e
right_value c scope store (tree.result call) = eval store (value_of c scope (tree.result call))

-- by `=`, or by an operator
abbrev pub assigns_by : Bool → Setting → Context → Scope → tree.Expression → (symbol : ℕ) → Pos → tree.RightSide → Option World
assigns_by true s c scope to symbol pos r = stores_right s c scope (spot_in c scope s.world.store to) (place c scope to) r
assigns_by false s c scope to symbol pos r = updates s c scope to symbol pos (right_is_unsigned scope r) (right_value c scope s.world.store r)

-- a value that stands alone is nothing to do
abbrev pub performs : Setting → Context → Scope → tree.RightSide → Option World
performs s c scope (tree.value e) = Some (goes_on s)
performs s c scope (tree.result call) = calls s c scope call s.rest

-- the value is stored in the function's result, and all up to the mark of its body is dropped
abbrev pub returns_word : Setting → Context → ℕ → Option World
returns_word s c v = stored (record s { rest = items_from_mark (block_in c c.returns) s.rest }) (word_at c c.result) v

abbrev pub returns_value : Setting → Context → kernel.Expression → Option World
returns_value s c e = with_word_of s e (returns_word s c)

abbrev pub returns : Setting → Context → Scope → Option tree.RightSide → Option World
returns s c scope None = leaves s (block_in c c.returns)
returns s c scope (Some (tree.value e)) = with_value s (value_in c scope s.world.store e) (returns_word s c)
returns s c scope (Some (tree.result call)) = calls s c scope call (says (returned (value_of c scope (tree.result call)) c) ∷ s.rest)

-- a transaction on a channel
abbrev pub transacts : Setting → Context → Scope → (is_master : Bool) → tree.Statements → (start close : Pos) → (channel : ℕ) → Option World
transacts s c scope is_master ss start close channel =
    opens s channel is_master (statements_items ss c scope (transaction_end channel is_master close ∷ s.rest)) start

abbrev pub does_action : Setting → Context → Scope → (pos close : Pos) → tree.Action → Option World
does_action s c scope pos close tree.empty = Some (goes_on s)
does_action s c scope pos close (tree.block ss) = Some (goes_to s (statements_items ss c scope s.rest))
does_action s c scope pos close (tree.declare ds) = Some (goes_to s (name_items ds c scope s.rest))
does_action s c scope pos close (tree.assign to symbol sign r) = assigns_by (nat_eq symbol equals) s c scope to symbol sign r
does_action s c scope pos close (tree.step to symbol) = updates s c scope to symbol pos false (word 1)
does_action s c scope pos close (tree.perform r) = performs s c scope r
does_action s c scope pos close (tree.output o) = outputs_text s c scope o (output_of c scope o).resource
does_action s c scope pos close (tree.input i) = inputs_text s c scope i (input_of c scope i).resource
does_action s c scope pos close (tree.if_then test a b) =
    chooses_side s (value_in c scope s.world.store test) (statement_items a c scope s.rest) (maybe_items b c (behind a c scope) s.rest)
does_action s c scope pos close (tree.while_loop test inner) = tests_first s (while_loop test inner pos c scope)
does_action s c scope pos close (tree.do_while inner test) = begins_do s (while_loop test inner pos c scope)
does_action s c scope pos close (tree.for_loop first test next inner) =
    begins_for s first scope (for_loop test next inner pos c (behind_maybe first c scope))
does_action s c scope pos close (tree.return_with r) = returns s c scope r
does_action s c scope pos close tree.break_out = leaves s (block_in c c.breaks)
does_action s c scope pos close tree.continue_on = leaves s (block_in c c.continues)
does_action s c scope pos close (tree.par bs) = makes s (branches_begun bs 0 c scope)
does_action s c scope pos close (tree.replicated first second third from until b) =
    makes s (copies_begun b first.text c scope (until - from) 0 from)
does_action s c scope pos close (tree.select cs) = begins_select s (text_default c scope cs) (text_enabled s.world.store c scope cs)
does_action s c scope pos close (tree.transaction is_master ss) = transacts s c scope is_master ss pos close (channel_in ss c scope)

abbrev pub does_text : Setting → Context → Scope → tree.Statement → Option World
does_text s c scope (tree.statement action pos close own) = does_action s c scope pos close action

abbrev pub says_item : Setting → TextItem → Option World
says_item s (statement t c scope) = does_text s c scope t
says_item s (name d c scope) = declares s c scope d
says_item s bound = Some (goes_on s)
says_item s (body block ss c scope) = Some (goes_to s (entered_items block ss c scope s.rest))
says_item s (first_test l) = tests_first s l
says_item s (again l) = tests_loop s l s.rest
says_item s (again_do l) = tests_do s l
says_item s (returned e c) = returns_value s c e
