-- Items that are no text's do the same in the kernel's state as in the text's beside it.
use Rattle.std.proofs.Common.{◌≡◌, List, [], ◌∷◌, map, Some, option_map, refl, sym, ◌∙◌, ap, ap₂}
use Rattle.xc_kernel.specs.Plain as kernel
use Rattle.xc_kernel.specs.Eval.{Store}
use Rattle.xc_meaning.specs.States.Items.{of_kernel, Item, does, says, stores, stamps, mark, awaits, transaction_end, chooses, fixed, ends, todo}
use Rattle.xc_meaning.specs.States.Branches.{ended}
use Rattle.xc_meaning.specs.Settings.Setting.{Setting}
use Rattle.xc_meaning.specs.Settings.Par.{all_begun, makes}
use Rattle.xc_meaning.specs.Settings.Flow.{turn_items}
use Rattle.xc_meaning.specs.Settings.Select.{enabled, and_case, default_of, begins_select}
use Rattle.xc_meaning.specs.Settings.Kernel.{does_statement}
use Rattle.xc_meaning.specs.Runs.{does_item}
use Rattle.xc_meaning.proofs.Simulation.KernelItems.{kernel_body, kernel_choice, kernel_items, of_todo}
use Rattle.xc_meaning.proofs.Simulation.Mixed.{Ahead, mixed_step}
use Rattle.xc_meaning.proofs.Simulation.Alike.{becomes_alike, goes_on_alike, goes_to_by, stored_alike, assigned_alike, zeroed_alike, tests_alike, leaves_alike, awaits_alike, opens_alike, closes_alike, outputs_to_alike, inputs_from_alike, inputs_fixed_alike}
use Rattle.xc_meaning.proofs.Simulation.Select.{kernel_enabled, and_case_alike, begins_alike}
use Rattle.xc_meaning.proofs.Simulation.Par.{even_begun, makes_alike}
use Rattle.xc_meaning.proofs.Simulation.Ready.{after, Fits, IsPlain}

enabled_same : (store : Store) (cs : kernel.Cases) → enabled store cs ≡ kernel_enabled (enabled store cs)
enabled_same store kernel.no_case = refl
enabled_same store (kernel.more_cases (kernel.case guard input ss) cs) =
    ap (and_case store guard input (of_kernel ss)) (enabled_same store cs) ∙ and_case_alike store guard input (of_kernel ss) (enabled store cs)

default_same : (d : kernel.Default) → default_of d ≡ option_map kernel_body (default_of d)
default_same kernel.no_default = refl
default_same (kernel.default ss) = refl

begun_same : (bs : kernel.Branches) → all_begun bs ≡ map even_begun (all_begun bs)
begun_same kernel.no_branch = refl
begun_same (kernel.more_branches (kernel.branch code pos) bs) =
    λ i. record { items = sym (of_todo code (ends ∷ [])) i; code = code } ∷ begun_same bs i

module _ (os : Ahead) (items : List Item) (s : Setting) (fits : Fits os s) where
  abbrev step : Setting
  step = mixed_step os items s

  pub statement_alike : (t : kernel.Statement) → does_statement step t ≡ option_map (after os s) (does_statement s t)
  statement_alike (kernel.set_zero variable) = zeroed_alike os items s variable
  statement_alike (kernel.set place e) = assigned_alike os items s place e
  statement_alike (kernel.output o) = outputs_to_alike os items s o o.resource
  statement_alike (kernel.input input) = inputs_from_alike os items s input input.resource
  statement_alike (kernel.if_then test a b) = tests_alike os items s test _ _ (todo a s.rest) (todo b s.rest) (of_todo a s.rest) (of_todo b s.rest)
  statement_alike (kernel.loop test inner next) =
      tests_alike os items s test _ _ (turn_items test inner next s.rest) s.rest
      (of_todo inner (todo next (does (kernel.loop test inner next) ∷ s.rest)) ∙ ap (todo inner) (of_todo next (does (kernel.loop test inner next) ∷ s.rest))) refl
  statement_alike (kernel.block n ss) = λ i. Some (goes_to_by os items s (todo ss (mark n ∷ s.rest)) (of_todo ss (mark n ∷ s.rest)) i)
  statement_alike (kernel.exit n) = leaves_alike os items s n
  statement_alike (kernel.select cases otherwise pos) =
      ap₂ (begins_select step) (default_same otherwise) (enabled_same s.world.store cases)
      ∙ begins_alike os items s (default_of otherwise) (enabled s.world.store cases)
  statement_alike (kernel.par bs) = ap (makes step) (begun_same bs) ∙ makes_alike os items s (all_begun bs) fits
  statement_alike (kernel.transaction c is_master ss start close) =
      opens_alike os items s c is_master _ (todo ss (transaction_end c is_master close ∷ s.rest)) start (of_todo ss (transaction_end c is_master close ∷ s.rest))

-- the kernel's item of one that is no text's
abbrev pub kernel_item : Item → Item
kernel_item (does s) = does s
kernel_item (says i) = says i
kernel_item (stores place v) = stores place v
kernel_item (stamps resource place v) = stamps resource place v
kernel_item (mark n) = mark n
kernel_item (awaits c pos) = awaits c pos
kernel_item (transaction_end c is_master pos) = transaction_end c is_master pos
kernel_item (chooses choices otherwise) = chooses (map kernel_choice choices) (option_map kernel_body otherwise)
kernel_item (fixed i v counter) = fixed i v counter
kernel_item ends = ends

pub plain_items : (item : Item) (rest : List Item) → IsPlain item → kernel_items (item ∷ rest) ≡ kernel_item item ∷ kernel_items rest
plain_items (does s) rest p = refl
plain_items (says i) rest p = absurd p
plain_items (stores place v) rest p = refl
plain_items (stamps resource place v) rest p = refl
plain_items (mark n) rest p = refl
plain_items (awaits c pos) rest p = refl
plain_items (transaction_end c is_master pos) rest p = refl
plain_items (chooses choices otherwise) rest p = refl
plain_items (fixed i v counter) rest p = refl
plain_items ends rest p = refl

pub plain_alike : (os : Ahead) (items : List Item) (s : Setting) → Fits os s → (item : Item) → IsPlain item → does_item (mixed_step os items s) (kernel_item item) ≡ option_map (after os s) (does_item s item)
plain_alike os items s fits (does t) p = statement_alike os items s fits t
plain_alike os items s fits (says i) p = absurd p
plain_alike os items s fits (stores place v) p = stored_alike os items s place v
plain_alike os items s fits (stamps resource place v) p = stored_alike os items s place v
plain_alike os items s fits (mark n) p = λ i. Some (goes_on_alike os items s i)
plain_alike os items s fits (awaits c pos) p = awaits_alike os items s c pos
plain_alike os items s fits (transaction_end c is_master pos) p = closes_alike os items s c is_master pos
plain_alike os items s fits (chooses choices otherwise) p = refl
plain_alike os items s fits (fixed input v counter) p = inputs_fixed_alike os items s input v counter input.resource
plain_alike os items s fits ends p = λ i. Some (becomes_alike os items s (record s.branch { mode = ended; items = [] }) i)
