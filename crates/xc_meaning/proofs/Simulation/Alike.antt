-- Each function of a step does the same in the kernel's state as in the text's beside it.
use Rattle.std.proofs.Common.{◌≡◌, ℕ, Bool, true, false, List, [], ◌∷◌, length, Option, Some, None, option_map, refl, sym, ◌∙◌, ap}
use Rattle.xw_words.specs.declared.pos.Pos.{Pos}
use Rattle.xs_instr.specs.declared.trace.Trap.{Trap}
use Rattle.xs_instr.specs.declared.trace.Record.TheVariants.{Com, Fault}
use Rattle.xs_instr.specs.Machine.{and_then}
use Rattle.xc_kernel.specs.declared.statement.KRes.{KRes}
use Rattle.xc_kernel.specs.declared.statement.KRes.TheVariants.{Port, Timer, Chan}
use Rattle.xc_kernel.specs.Plain as kernel
use Rattle.xc_kernel.specs.Values.{Value, word, error, is_true, tested}
use Rattle.xc_kernel.specs.Eval.{eval, words_of}
use Rattle.xc_meaning.specs.States.Channels.{Parcel, offer, opening, closing, taken, Side, other_side}
use Rattle.xc_meaning.specs.States.Channels as channel
use Rattle.xc_meaning.specs.States.Items.{When, Body, Choice, Item, does, awaits, chooses, fixed, storing, body_items, stamping}
use Rattle.xc_meaning.specs.States.Branches.{Branch, erred, side_of}
use Rattle.xc_meaning.specs.States.Worlds.{World, only_if, put, without_parcel, with_record, with_word, with_zeros}
use Rattle.xc_meaning.specs.Settings.Setting.{Setting, becomes, goes_to, goes_on, errs, kind_of, with_value, with_word_of}
use Rattle.xc_meaning.specs.Settings.Stores.{stored_in, stored, assigned, zeroed}
use Rattle.xc_meaning.specs.Settings.Flow.{items_by, tests, items_from_mark, leaves}
use Rattle.xc_meaning.specs.Settings.Channels.{Manner, plain, inside, manner_of, on_side, parcel_at, has_room, outputs, outputs_word, receives, inputs_parcel, inputs_word, awaits_parcel, awaits_answer}
use Rattle.xc_meaning.specs.Settings.Transactions.{enters, exits, is_opened, opens_by, opens, is_closed, closes_by, closes}
use Rattle.xc_meaning.specs.Settings.Time.{clock_of, counter_of, pins_of, Timing, passes, fails, timing, with_timing, port_may_pass, timer_may_pass}
use Rattle.xc_meaning.specs.Settings.Transfers.{drives, output_record, samples, reads_clock, outputs_to, inputs_from, inputs_fixed}
use Rattle.xc_meaning.proofs.Simulation.KernelItems.{kernel_items, of_mark}
use Rattle.xc_meaning.proofs.Simulation.Mixed.{Ahead, even, mixed, with_ahead, mixed_step, mixed_set}

pub of_storing : (place : Option kernel.Place) (v : ℕ) (rest : List Item) → kernel_items (storing place v rest) ≡ storing place v (kernel_items rest)
of_storing None v rest = refl
of_storing (Some place) v rest = refl

pub of_stamping : (resource : KRes) (place : Option kernel.Place) (v : ℕ) (rest : List Item) → kernel_items (stamping resource place v rest) ≡ stamping resource place v (kernel_items rest)
of_stamping resource None v rest = refl
of_stamping resource (Some place) v rest = refl

-- Of a branch that has these items in the kernel before the step; after it it isn't ahead.
module _ (os : Ahead) (items : List Item) (s : Setting) where
  abbrev after : World → World
  after = mixed (with_ahead os s.number None)

  abbrev step : Setting
  step = mixed_step os items s

  pub becomes_alike : (b : Branch) → becomes step (even b) ≡ after (becomes s b)
  becomes_alike b = λ i. record s.world { branches = sym (mixed_set os s.number None s.world.branches b) i }

  pub goes_to_alike : (left : List Item) → goes_to step (kernel_items left) ≡ after (goes_to s left)
  goes_to_alike left = becomes_alike (record s.branch { items = left })

  pub goes_on_alike : goes_on step ≡ after (goes_on s)
  goes_on_alike = goes_to_alike s.rest

  -- with other items of the kernel, to which those of the text are sent
  pub goes_to_by : {others : List Item} (left : List Item) → kernel_items left ≡ others → goes_to step others ≡ after (goes_to s left)
  goes_to_by left e = ap (goes_to step) (sym e) ∙ goes_to_alike left

  pub errs_alike : (kind : Trap) (pos : Pos) → errs step kind pos ≡ option_map after (errs s kind pos)
  errs_alike kind pos = λ i. Some (with_record (becomes_alike (record s.branch { mode = erred; items = [] }) i) (Fault s.branch.core pos kind))

  pub with_value_alike : (v : Value) (go go' : ℕ → Option World) → ((w : ℕ) → go' w ≡ option_map after (go w)) → with_value step v go' ≡ option_map after (with_value s v go)
  with_value_alike (word w) go go' e = e w
  with_value_alike (error kind pos) go go' e = errs_alike (kind_of kind) pos

  pub with_word_alike : (x : kernel.Expression) (go go' : ℕ → Option World) → ((w : ℕ) → go' w ≡ option_map after (go w)) → with_word_of step x go' ≡ option_map after (with_word_of s x go)
  with_word_alike x go go' e = with_value_alike (eval s.world.store x) go go' e

  pub only_if_alike : (b : Bool) (x : World) {x' : World} → x' ≡ after x → only_if b x' ≡ option_map after (only_if b x)
  only_if_alike true x e = λ i. Some (e i)
  only_if_alike false x e = refl

  -- words

  pub stored_in_alike : (variable v index : ℕ) → stored_in step variable v index ≡ option_map after (stored_in s variable v index)
  stored_in_alike variable v index = λ i. Some (with_word (goes_on_alike i) variable index v)

  pub stored_alike : (place : kernel.Place) (v : ℕ) → stored step place v ≡ option_map after (stored s place v)
  stored_alike (kernel.word variable) v = stored_in_alike variable v 0
  stored_alike (kernel.element variable index pos) v =
      with_word_alike index (λ i. with_value s (tested i (length (words_of s.world.store variable)) pos) (stored_in s variable v))
      (λ i. with_value step (tested i (length (words_of s.world.store variable)) pos) (stored_in step variable v))
      (λ i. with_value_alike (tested i (length (words_of s.world.store variable)) pos) (stored_in s variable v) (stored_in step variable v) (stored_in_alike variable v))

  pub assigned_alike : (place : kernel.Place) (e : kernel.Expression) → assigned step place e ≡ option_map after (assigned s place e)
  assigned_alike place e = with_word_alike e (stored s place) (stored step place) (stored_alike place)

  pub zeroed_alike : (variable : ℕ) → zeroed step variable ≡ option_map after (zeroed s variable)
  zeroed_alike variable = λ i. Some (with_zeros (goes_on_alike i) variable)

  -- flow

  side_alike : (b : Bool) {held' other' : List Item} (held other : List Item) → kernel_items held ≡ held' → kernel_items other ≡ other' → goes_to step (items_by b held' other') ≡ after (goes_to s (items_by b held other))
  side_alike true held other e f = goes_to_by held e
  side_alike false held other e f = goes_to_by other f

  pub tests_alike : (test : kernel.Expression) (held' other' : List Item) (held other : List Item) → kernel_items held ≡ held' → kernel_items other ≡ other' → tests step test held' other' ≡ option_map after (tests s test held other)
  tests_alike test held' other' held other e f =
      with_word_alike test (λ v. Some (goes_to s (items_by (is_true v) held other))) (λ v. Some (goes_to step (items_by (is_true v) held' other')))
      (λ v. λ i. Some (side_alike (is_true v) held other e f i))

  pub leaves_alike : (block : ℕ) → leaves step block ≡ option_map after (leaves s block)
  leaves_alike block = λ i. Some (goes_to_by (items_from_mark block s.rest) (sym (of_mark block s.rest)) i)

  -- channels

  on_side_by : (side : Option Side) (go go' : Side → Option World) → ((side : Side) → go' side ≡ option_map after (go side)) → and_then side go' ≡ option_map after (and_then side go)
  on_side_by None go go' e = refl
  on_side_by (Some side) go go' e = e side

  on_side_alike : (c : ℕ) (go go' : Side → Option World) → ((side : Side) → go' side ≡ option_map after (go side)) → on_side step c go' ≡ option_map after (on_side s c go)
  on_side_alike c go go' e = on_side_by (side_of s.branch c) go go' e

  outputs_alike : (c : ℕ) (pos : Pos) (v : ℕ) (manner : Manner) (side : Side) → outputs step c pos v manner side ≡ option_map after (outputs s c pos v manner side)
  outputs_alike c pos v plain side = λ i. Some (put (goes_to_alike (awaits c pos ∷ s.rest) i) c (other_side side) (offer v))
  outputs_alike c pos v inside side = only_if_alike (has_room s c side) (put (goes_on s) c (other_side side) (channel.word v)) (λ i. put (goes_on_alike i) c (other_side side) (channel.word v))

  outputs_word_alike : (c : ℕ) (pos : Pos) (v : ℕ) → outputs_word step c pos v ≡ option_map after (outputs_word s c pos v)
  outputs_word_alike c pos v = on_side_alike c (outputs s c pos v (manner_of s c)) (outputs step c pos v (manner_of s c)) (outputs_alike c pos v (manner_of s c))

  receives_alike : (c : ℕ) (target : Option kernel.Place) (side : Side) (v : ℕ) → receives step c target side v ≡ after (receives s c target side v)
  receives_alike c target side v =
      λ i. with_record (without_parcel (goes_to_by (storing target v s.rest) (of_storing target v s.rest) i) c side) (Com s.branch.core v)

  inputs_parcel_alike : (c : ℕ) (target : Option kernel.Place) (pos : Pos) (side : Side) (manner : Manner) (parcel : Option Parcel) → inputs_parcel step c target pos side manner parcel ≡ option_map after (inputs_parcel s c target pos side manner parcel)
  inputs_parcel_alike c target pos side manner None = refl
  inputs_parcel_alike c target pos side plain (Some (offer v)) = λ i. Some (put (receives_alike c target side v i) c (other_side side) taken)
  inputs_parcel_alike c target pos side plain (Some opening) = errs_alike _ pos
  inputs_parcel_alike c target pos side plain (Some (channel.word v)) = errs_alike _ pos
  inputs_parcel_alike c target pos side plain (Some closing) = errs_alike _ pos
  inputs_parcel_alike c target pos side plain (Some taken) = errs_alike _ pos
  inputs_parcel_alike c target pos side inside (Some (offer v)) = errs_alike _ pos
  inputs_parcel_alike c target pos side inside (Some opening) = errs_alike _ pos
  inputs_parcel_alike c target pos side inside (Some (channel.word v)) = λ i. Some (receives_alike c target side v i)
  inputs_parcel_alike c target pos side inside (Some closing) = errs_alike _ pos
  inputs_parcel_alike c target pos side inside (Some taken) = errs_alike _ pos

  inputs_word_alike : (c : ℕ) (target : Option kernel.Place) (pos : Pos) → inputs_word step c target pos ≡ option_map after (inputs_word s c target pos)
  inputs_word_alike c target pos =
      on_side_alike c (λ side. inputs_parcel s c target pos side (manner_of s c) (parcel_at s c side))
      (λ side. inputs_parcel step c target pos side (manner_of s c) (parcel_at s c side))
      (λ side. inputs_parcel_alike c target pos side (manner_of s c) (parcel_at s c side))

  awaits_parcel_alike : (c : ℕ) (pos : Pos) (side : Side) (parcel : Option Parcel) → awaits_parcel step c pos side parcel ≡ option_map after (awaits_parcel s c pos side parcel)
  awaits_parcel_alike c pos side None = refl
  awaits_parcel_alike c pos side (Some (offer v)) = errs_alike _ pos
  awaits_parcel_alike c pos side (Some opening) = errs_alike _ pos
  awaits_parcel_alike c pos side (Some (channel.word v)) = errs_alike _ pos
  awaits_parcel_alike c pos side (Some closing) = errs_alike _ pos
  awaits_parcel_alike c pos side (Some taken) = λ i. Some (without_parcel (goes_on_alike i) c side)

  pub awaits_alike : (c : ℕ) (pos : Pos) → awaits_answer step c pos ≡ option_map after (awaits_answer s c pos)
  awaits_alike c pos =
      on_side_alike c (λ side. awaits_parcel s c pos side (parcel_at s c side)) (λ side. awaits_parcel step c pos side (parcel_at s c side))
      (λ side. awaits_parcel_alike c pos side (parcel_at s c side))

  -- transactions

  enters_alike : (c : ℕ) (left : List Item) → enters step c (kernel_items left) ≡ after (enters s c left)
  enters_alike c left = becomes_alike (record s.branch { items = left; inside = c ∷ s.branch.inside })

  exits_alike : (left : List Item) → exits step (kernel_items left) ≡ after (exits s left)
  exits_alike left = becomes_alike (record s.branch { items = left; inside = Rattle.xc_meaning.specs.Settings.Transactions.without_innermost s.branch.inside })

  is_opened_alike : (c : ℕ) (left : List Item) (pos : Pos) (side : Side) (parcel : Option Parcel) → is_opened step c (kernel_items left) pos side parcel ≡ option_map after (is_opened s c left pos side parcel)
  is_opened_alike c left pos side None = refl
  is_opened_alike c left pos side (Some (offer v)) = errs_alike _ pos
  is_opened_alike c left pos side (Some opening) = λ i. Some (put (without_parcel (enters_alike c left i) c side) c (other_side side) taken)
  is_opened_alike c left pos side (Some (channel.word v)) = errs_alike _ pos
  is_opened_alike c left pos side (Some closing) = errs_alike _ pos
  is_opened_alike c left pos side (Some taken) = errs_alike _ pos

  opens_by_alike : (is_master : Bool) (c : ℕ) (left : List Item) (pos : Pos) (side : Side) → opens_by is_master step c (kernel_items left) pos side ≡ option_map after (opens_by is_master s c left pos side)
  opens_by_alike true c left pos side = λ i. Some (put (enters_alike c (awaits c pos ∷ left) i) c (other_side side) opening)
  opens_by_alike false c left pos side = is_opened_alike c left pos side (parcel_at s c side)

  pub opens_alike : (c : ℕ) (is_master : Bool) (others left : List Item) (pos : Pos) → kernel_items left ≡ others → opens step c is_master others pos ≡ option_map after (opens s c is_master left pos)
  opens_alike c is_master others left pos e =
      ap (λ xs. opens step c is_master xs pos) (sym e)
      ∙ on_side_alike c (opens_by is_master s c left pos) (opens_by is_master step c (kernel_items left) pos) (opens_by_alike is_master c left pos)

  is_closed_alike : (c : ℕ) (pos : Pos) (side : Side) (parcel : Option Parcel) → is_closed step c pos side parcel ≡ option_map after (is_closed s c pos side parcel)
  is_closed_alike c pos side None = refl
  is_closed_alike c pos side (Some (offer v)) = errs_alike _ pos
  is_closed_alike c pos side (Some opening) = errs_alike _ pos
  is_closed_alike c pos side (Some (channel.word v)) = errs_alike _ pos
  is_closed_alike c pos side (Some closing) = λ i. Some (put (without_parcel (exits_alike s.rest i) c side) c (other_side side) taken)
  is_closed_alike c pos side (Some taken) = errs_alike _ pos

  closes_by_alike : (is_master : Bool) (c : ℕ) (pos : Pos) (side : Side) → closes_by is_master step c pos side ≡ option_map after (closes_by is_master s c pos side)
  closes_by_alike true c pos side = only_if_alike (has_room s c side) (put (exits s (awaits c pos ∷ s.rest)) c (other_side side) closing) (λ i. put (exits_alike (awaits c pos ∷ s.rest) i) c (other_side side) closing)
  closes_by_alike false c pos side = is_closed_alike c pos side (parcel_at s c side)

  pub closes_alike : (c : ℕ) (is_master : Bool) (pos : Pos) → closes step c is_master pos ≡ option_map after (closes s c is_master pos)
  closes_alike c is_master pos = on_side_alike c (closes_by is_master s c pos) (closes_by is_master step c pos) (closes_by_alike is_master c pos)

  -- ports and timers

  with_timing_alike : (t : Timing) (go go' : When → Option World) → ((when : When) → go' when ≡ option_map after (go when)) → with_timing step t go' ≡ option_map after (with_timing s t go)
  with_timing_alike (passes when) go go' e = e when
  with_timing_alike (fails kind pos) go go' e = errs_alike (kind_of kind) pos

  pub port_alike : (p : ℕ) (when : When) → port_may_pass step p when ≡ port_may_pass s p when
  port_alike p Rattle.xc_meaning.specs.States.Items.now = refl
  port_alike p (Rattle.xc_meaning.specs.States.Items.at_time t) = refl
  port_alike p (Rattle.xc_meaning.specs.States.Items.pins_equal v) = refl
  port_alike p (Rattle.xc_meaning.specs.States.Items.pins_differ v) = refl
  port_alike p (Rattle.xc_meaning.specs.States.Items.after_time t) = refl

  pub timer_alike : (when : When) → timer_may_pass step when ≡ timer_may_pass s when
  timer_alike Rattle.xc_meaning.specs.States.Items.now = refl
  timer_alike (Rattle.xc_meaning.specs.States.Items.at_time t) = refl
  timer_alike (Rattle.xc_meaning.specs.States.Items.pins_equal v) = refl
  timer_alike (Rattle.xc_meaning.specs.States.Items.pins_differ v) = refl
  timer_alike (Rattle.xc_meaning.specs.States.Items.after_time t) = refl

  -- where both ask the same
  pub only_if_same : {b b' : Bool} (x : World) {x' : World} → b' ≡ b → x' ≡ after x → only_if b' x' ≡ option_map after (only_if b x)
  only_if_same {b} {b'} x {x'} e f = ap (λ c. only_if c x') e ∙ only_if_alike b x f

  drives_alike : (o : kernel.Output) (p : ℕ) (when : When) (v : ℕ) → drives step o p when v ≡ option_map after (drives s o p when v)
  drives_alike o p when v =
      only_if_same (with_record (goes_to s (stamping o.resource o.stamp (counter_of s) s.rest)) (output_record s p v)) (port_alike p when)
      (λ i. with_record (goes_to_by (stamping o.resource o.stamp (counter_of s) s.rest) (of_stamping o.resource o.stamp (counter_of s) s.rest) i) (output_record s p v))

  samples_alike : (i : kernel.Input) (p v counter : ℕ) → samples step i p v counter ≡ after (samples s i p v counter)
  samples_alike input p v counter =
      λ i. with_record (goes_to_by (storing input.target v (stamping input.resource input.stamp counter s.rest))
      (of_storing input.target v (stamping input.resource input.stamp counter s.rest) ∙ ap (storing input.target v) (of_stamping input.resource input.stamp counter s.rest)) i)
      (Rattle.xs_instr.specs.declared.trace.Record.TheVariants.PortIn s.branch.core (Rattle.xc_meaning.specs.Settings.Time.identifier_of s p) counter v)

  reads_alike : (i : kernel.Input) (clock : ℕ) → reads_clock step i clock ≡ after (reads_clock s i clock)
  reads_alike input clock = goes_to_by (storing input.target clock s.rest) (of_storing input.target clock s.rest)

  pub outputs_to_alike : (o : kernel.Output) (r : KRes) → outputs_to step o r ≡ option_map after (outputs_to s o r)
  outputs_to_alike o (Port p) =
      with_timing_alike (timing s.world.store o.time None) (λ when. with_word_of s o.value (drives s o p when)) (λ when. with_word_of step o.value (drives step o p when))
      (λ when. with_word_alike o.value (drives s o p when) (drives step o p when) (drives_alike o p when))
  outputs_to_alike o (Timer t) = refl
  outputs_to_alike o (Chan c) = with_word_alike o.value (outputs_word s c o.pos) (outputs_word step c o.pos) (outputs_word_alike c o.pos)

  pub inputs_from_alike : (i : kernel.Input) (r : KRes) → inputs_from step i r ≡ option_map after (inputs_from s i r)
  inputs_from_alike input (Port p) =
      with_timing_alike (timing s.world.store input.time input.condition)
      (λ when. only_if (port_may_pass s p when) (samples s input p (pins_of s p) (counter_of s)))
      (λ when. only_if (port_may_pass step p when) (samples step input p (pins_of s p) (counter_of s)))
      (λ when. only_if_same (samples s input p (pins_of s p) (counter_of s)) (port_alike p when) (samples_alike input p (pins_of s p) (counter_of s)))
  inputs_from_alike input (Timer t) =
      with_timing_alike (timing s.world.store input.time input.condition)
      (λ when. only_if (timer_may_pass s when) (reads_clock s input (clock_of s)))
      (λ when. only_if (timer_may_pass step when) (reads_clock step input (clock_of s)))
      (λ when. only_if_same (reads_clock s input (clock_of s)) (timer_alike when) (reads_alike input (clock_of s)))
  inputs_from_alike input (Chan c) = inputs_word_alike c input.target input.pos

  pub inputs_fixed_alike : (i : kernel.Input) (v counter : ℕ) (r : KRes) → inputs_fixed step i v counter r ≡ option_map after (inputs_fixed s i v counter r)
  inputs_fixed_alike input v counter (Port p) = λ i. Some (samples_alike input p v counter i)
  inputs_fixed_alike input v counter (Timer t) = λ i. Some (reads_alike input v i)
  inputs_fixed_alike input v counter (Chan c) = refl
