-- Each step has its outline.
use Rattle.std.proofs.Common.{◌≡◌, inl, inr, ⊎_elim, ℕ, Bool, true, false, IsTrue, List, [], ◌∷◌, ◌++◌, length, Option, Some, None, slice_get, slice_set, refl, sym, subst, ◌∙◌, append-nil}
use Rattle.xw_words.specs.declared.pos.Pos.{Pos}
use Rattle.xs_instr.specs.declared.trace.Trap.{Trap}
use Rattle.xs_instr.specs.declared.trace.Trap.TheVariants.{Mismatch}
use Rattle.xs_instr.specs.declared.trace.Record.{Record}
use Rattle.xs_instr.specs.Machine.{and_then}
use Rattle.xc_kernel.specs.declared.statement.KRes.{KRes}
use Rattle.xc_kernel.specs.declared.statement.KRes.TheVariants.{Port, Timer, Chan}
use Rattle.xc_kernel.specs.Plain as kernel
use Rattle.xc_kernel.specs.Values.{Value, word, error, is_true, tested}
use Rattle.xc_kernel.specs.Eval.{eval}
use Rattle.xc_meaning.specs.States.Channels.{Parcel, offer, opening, closing, taken, Side, other_side, without_oldest}
use Rattle.xc_meaning.specs.States.Channels as channels
use Rattle.xc_meaning.specs.States.Items.{When, Body, Choice, Item, does, says, stores, stamps, mark, awaits, transaction_end, chooses, fixed, ends, todo, body_items, stamping}
use Rattle.xc_meaning.specs.States.Branches.{Branch, waits, side_of}
use Rattle.xc_meaning.specs.States.Worlds.{World, only_if, inboxes_of, inbox, with_inbox, put, without_parcel, with_record}
use Rattle.xc_meaning.specs.Settings.Setting.{Setting, becomes, goes_to, goes_on, errs, kind_of, with_value}
use Rattle.xc_meaning.specs.Settings.Stores.{stored}
use Rattle.xc_meaning.specs.Settings.Flow.{items_by, tests}
use Rattle.xc_meaning.specs.Settings.Par.{Begun, all_begun, makes}
use Rattle.xc_meaning.specs.Settings.Channels.{Manner, plain, inside, manner_of, parcel_at, has_room, outputs, inputs_parcel, awaits_parcel, receives}
use Rattle.xc_meaning.specs.Settings.Transactions as transaction
use Rattle.xc_meaning.specs.Settings.Time.{Timing, passes, fails, timing, with_timing, port_may_pass, timer_may_pass, counter_of}
use Rattle.xc_meaning.specs.Settings.Transfers.{outputs_to, inputs_from, inputs_fixed}
use Rattle.xc_meaning.specs.Settings.Select.{Enabled, these, wrong, enabled, default_of, begins_select, is_ready, none_ready, input_taken, takes_case, takes, takes_default}
use Rattle.xc_meaning.specs.Settings.Kernel.{does_statement}
use Rattle.xc_meaning.specs.Runs.{does_item}
use Rattle.xc_kernel.specs.Things.{change, channel, by_target, by_output, by_resource}
use Rattle.xc_meaning.specs.Uses.{by_item}
use Rattle.xc_meaning.specs.Outline.{IsPassed, Leaves, passed, sent, offered, received, sampled, received_fixed, sampled_fixed, held, other, turned, begun, left, known, taken_fixed, taken_input, defaulted, Enters, Exits, Becomes, goes, enters, exits, ends_it, Outlined}
use Rattle.xc_meaning.specs.Outline as outline
use Rattle.xc_meaning.proofs.Basics.{same_number, or_left, or_right, set_other}

-- what a step leaves has its outline
abbrev pub Outlines : Setting → Item → Option World → Type 0
Outlines s item None = Unit {0}
Outlines s item (Some y) = Outlined s item y

module _ (s : Setting) where
  -- what changes a state but not its branches

  by_inbox : (item : Item) (y : World) (c : ℕ) (side : Side) (parcels : List Parcel) → IsTrue (by_item (channel c) item) → Outlined s item y → Outlined s item (with_inbox y c side parcels)
  by_inbox item y c side parcels u h = record {
    now = h.now;
    more = h.more;
    branches = h.branches;
    becomes = h.becomes;
    words = h.words;
    inboxes = λ d. ⊎_elim (λ e. ⊎_elim (λ f. inl (e ∙ f)) inr (h.inboxes d)) (λ e. inr (subst (λ n. IsTrue (by_item (channel n) item)) (sym e) u)) (set_other y.inboxes c (channels.with_parcels (inboxes_of y c) side parcels) d channels.no_parcels);
    clocks = h.clocks;
  }

  by_put : (item : Item) (y : World) (c : ℕ) (side : Side) (parcel : Parcel) → IsTrue (by_item (channel c) item) → Outlined s item y → Outlined s item (put y c side parcel)
  by_put item y c side parcel u h = by_inbox item y c side (inbox y c side ++ parcel ∷ []) u h

  by_taken : (item : Item) (y : World) (c : ℕ) (side : Side) → IsTrue (by_item (channel c) item) → Outlined s item y → Outlined s item (without_parcel y c side)
  by_taken item y c side u h = by_inbox item y c side (without_oldest (inbox y c side)) u h

  by_record : (item : Item) (y : World) (made : Record) → Outlined s item y → Outlined s item (with_record y made)
  by_record item y made h =
      record { now = h.now; more = h.more; branches = h.branches; becomes = h.becomes; words = h.words; inboxes = h.inboxes; clocks = h.clocks }

  by_words : (item : Item) (y : World) (v : ℕ) (ws : List ℕ) → IsTrue (by_item (change v) item) → Outlined s item y → Outlined s item (record y { store = slice_set y.store v ws })
  by_words item y v ws u h = record {
    now = h.now;
    more = h.more;
    branches = h.branches;
    becomes = h.becomes;
    words = λ w. ⊎_elim (λ e. ⊎_elim (λ f. inl (e ∙ f)) inr (h.words w)) (λ e. inr (subst (λ n. IsTrue (by_item (change n) item)) (sym e) u)) (set_other y.store v ws w []);
    inboxes = h.inboxes;
    clocks = h.clocks;
  }

  -- what changes the branch alone

  by_becomes : (item : Item) (b : Branch) → Becomes s item b [] → Outlined s item (becomes s b)
  by_becomes item b h = record {
    now = b;
    more = [];
    branches = sym (append-nil (slice_set s.world.branches s.number b));
    becomes = h;
    words = λ v. inl refl;
    inboxes = λ c. inl refl;
    clocks = refl;
  }

  by_goes : (item : Item) (items : List Item) → Leaves s.rest item items → Outlined s item (goes_to s items)
  by_goes item items h = by_becomes item (record s.branch { items = items }) (goes item items h)

  by_passed : (item : Item) → IsPassed item → Outlined s item (goes_on s)
  by_passed item h = by_goes item s.rest (passed item h)

  by_errs : (item : Item) (kind : Trap) (pos : Pos) → Outlines s item (errs s kind pos)
  by_errs item kind pos = by_record item _ _ (by_becomes item _ (outline.errs item))

  -- stages

  by_value : (item : Item) (v : Value) (go : ℕ → Option World) → ((w : ℕ) → Outlines s item (go w)) → Outlines s item (with_value s v go)
  by_value item (word w) go h = h w
  by_value item (error kind pos) go h = by_errs item (kind_of kind) pos

  by_timing : (item : Item) (t : Timing) (go : When → Option World) → ((when : When) → Outlines s item (go when)) → Outlines s item (with_timing s t go)
  by_timing item (passes when) go h = h when
  by_timing item (fails kind pos) go h = by_errs item (kind_of kind) pos

  by_if : (item : Item) (b : Bool) (y : World) → Outlined s item y → Outlines s item (only_if b y)
  by_if item true y h = h
  by_if item false y h = tt

  by_side : (item : Item) (side : Option Side) (go : Side → Option World) → ((side : Side) → Outlines s item (go side)) → Outlines s item (and_then side go)
  by_side item None go h = tt
  by_side item (Some side) go h = h side

  -- words are stored

  by_stored : (item : Item) (place : kernel.Place) (v : ℕ) → IsPassed item → ((w : ℕ) → IsTrue (by_target (change w) place) → IsTrue (by_item (change w) item)) → Outlines s item (stored s place v)
  by_stored item (kernel.word variable) v p u = by_words item (goes_on s) variable _ (u variable (same_number variable)) (by_passed item p)
  by_stored item (kernel.element variable index pos) v p u =
      by_value item (eval s.world.store index) _ (λ i. by_value item (tested i _ pos) _ (λ j. by_words item (goes_on s) variable _ (u variable (or_left _ _ (same_number variable))) (by_passed item p)))

  -- tests

  by_items : (item : Item) (b : Bool) (yes_items no_items : List Item) → Leaves s.rest item yes_items → Leaves s.rest item no_items → Outlined s item (goes_to s (items_by b yes_items no_items))
  by_items item true yes_items no_items h g = by_goes item yes_items h
  by_items item false yes_items no_items h g = by_goes item no_items g

  by_test : (item : Item) (test : kernel.Expression) (yes_items no_items : List Item) → Leaves s.rest item yes_items → Leaves s.rest item no_items → Outlines s item (tests s test yes_items no_items)
  by_test item test yes_items no_items h g = by_value item (eval s.world.store test) _ (λ v. by_items item (is_true v) yes_items no_items h g)

  -- communications

  outputs_of : (o : kernel.Output) (c : ℕ) → o.resource ≡ Chan c → IsTrue (by_output (channel c) o)
  outputs_of o c e = or_left _ _ (subst (λ r. IsTrue (by_resource (channel c) r)) (sym e) (same_number c))

  by_output_word : (o : kernel.Output) (c : ℕ) (v : ℕ) (manner : Manner) (side : Side) → o.resource ≡ Chan c → Outlines s (does (kernel.output o)) (outputs s c o.pos v manner side)
  by_output_word o c v plain side e = by_put _ _ c _ _ (outputs_of o c e) (by_goes _ _ (offered o c o.pos e))
  by_output_word o c v inside side e = by_if _ (has_room s c side) _ (by_put _ _ c _ _ (outputs_of o c e) (by_passed _ tt))

  by_sent : (o : kernel.Output) (v : ℕ) → Outlined s (does (kernel.output o)) (goes_to s (stamping o.resource o.stamp v s.rest))
  by_sent o v = by_goes _ _ (sent o v)

  by_output_to : (o : kernel.Output) (r : KRes) → o.resource ≡ r → Outlines s (does (kernel.output o)) (outputs_to s o r)
  by_output_to o (Port p) e =
      by_timing _ (timing s.world.store o.time None) _ (λ when. by_value _ (eval s.world.store o.value) _ (λ v. by_if _ (port_may_pass s p when) _ (by_record _ _ _ (by_sent o (counter_of s)))))
  by_output_to o (Timer t) e = tt
  by_output_to o (Chan c) e = by_value _ (eval s.world.store o.value) _ (λ v. by_side _ (side_of s.branch c) _ (λ side. by_output_word o c v (manner_of s c) side e))

  inputs_of : (i : kernel.Input) (c : ℕ) → i.resource ≡ Chan c → IsTrue (by_item (channel c) (does (kernel.input i)))
  inputs_of input c e = or_left _ _ (subst (λ r. IsTrue (by_resource (channel c) r)) (sym e) (same_number c))

  by_receives : (i : kernel.Input) (c : ℕ) (side : Side) (v : ℕ) → i.resource ≡ Chan c → Outlined s (does (kernel.input i)) (receives s c i.target side v)
  by_receives input c side v e = by_record _ _ _ (by_taken _ _ c side (inputs_of input c e) (by_goes _ _ (received input v)))

  by_input_word : (i : kernel.Input) (c : ℕ) (side : Side) (manner : Manner) (parcel : Option Parcel) → i.resource ≡ Chan c → Outlines s (does (kernel.input i)) (inputs_parcel s c i.target i.pos side manner parcel)
  by_input_word input c side manner None e = tt
  by_input_word input c side plain (Some (offer v)) e = by_put _ _ c _ _ (inputs_of input c e) (by_receives input c side v e)
  by_input_word input c side plain (Some opening) e = by_errs _ Mismatch input.pos
  by_input_word input c side plain (Some (channels.word v)) e = by_errs _ Mismatch input.pos
  by_input_word input c side plain (Some closing) e = by_errs _ Mismatch input.pos
  by_input_word input c side plain (Some taken) e = by_errs _ Mismatch input.pos
  by_input_word input c side inside (Some (offer v)) e = by_errs _ Mismatch input.pos
  by_input_word input c side inside (Some opening) e = by_errs _ Mismatch input.pos
  by_input_word input c side inside (Some (channels.word v)) e = by_receives input c side v e
  by_input_word input c side inside (Some closing) e = by_errs _ Mismatch input.pos
  by_input_word input c side inside (Some taken) e = by_errs _ Mismatch input.pos

  by_input_from : (i : kernel.Input) (r : KRes) → i.resource ≡ r → Outlines s (does (kernel.input i)) (inputs_from s i r)
  by_input_from input (Port p) e =
      by_timing _ (timing s.world.store input.time input.condition) _ (λ when. by_if _ (port_may_pass s p when) _ (by_record _ _ _ (by_goes _ _ (sampled input _ _))))
  by_input_from input (Timer t) e =
      by_timing _ (timing s.world.store input.time input.condition) _ (λ when. by_if _ (timer_may_pass s when) _ (by_goes _ _ (received input _)))
  by_input_from input (Chan c) e = by_side _ (side_of s.branch c) _ (λ side. by_input_word input c side (manner_of s c) (parcel_at s c side) e)

  by_input_fixed : (i : kernel.Input) (x y : ℕ) (r : KRes) → Outlines s (fixed i x y) (inputs_fixed s i x y r)
  by_input_fixed input x y (Port p) = by_record _ _ _ (by_goes _ _ (sampled_fixed input x y x y))
  by_input_fixed input x y (Timer t) = by_goes _ _ (received_fixed input x y x)
  by_input_fixed input x y (Chan c) = tt

  by_answer : (c : ℕ) (pos : Pos) (side : Side) (parcel : Option Parcel) → Outlines s (awaits c pos) (awaits_parcel s c pos side parcel)
  by_answer c pos side None = tt
  by_answer c pos side (Some (offer v)) = by_errs _ Mismatch pos
  by_answer c pos side (Some opening) = by_errs _ Mismatch pos
  by_answer c pos side (Some (channels.word v)) = by_errs _ Mismatch pos
  by_answer c pos side (Some closing) = by_errs _ Mismatch pos
  by_answer c pos side (Some taken) = by_taken _ _ c side (same_number c) (by_passed _ tt)

  -- transactions

  by_opened : (c : ℕ) (ss : kernel.Statements) (start close : Pos) (side : Side) (parcel : Option Parcel) → Outlines s (does (kernel.transaction c false ss start close)) (transaction.is_opened s c (todo ss (transaction_end c false close ∷ s.rest)) start side parcel)
  by_opened c ss start close side None = tt
  by_opened c ss start close side (Some (offer v)) = by_errs _ Mismatch start
  by_opened c ss start close side (Some opening) =
      by_put _ _ c _ _ (or_left _ _ (same_number c)) (by_taken _ _ c side (or_left _ _ (same_number c)) (by_becomes _ _ (enters _ c _ (outline.Enters.as_slave c ss start close))))
  by_opened c ss start close side (Some (channels.word v)) = by_errs _ Mismatch start
  by_opened c ss start close side (Some closing) = by_errs _ Mismatch start
  by_opened c ss start close side (Some taken) = by_errs _ Mismatch start

  by_opens : (c : ℕ) (is_master : Bool) (ss : kernel.Statements) (start close : Pos) (side : Side) → Outlines s (does (kernel.transaction c is_master ss start close)) (transaction.opens_by is_master s c (todo ss (transaction_end c is_master close ∷ s.rest)) start side)
  by_opens c true ss start close side = by_put _ _ c _ _ (or_left _ _ (same_number c)) (by_becomes _ _ (enters _ c _ (outline.Enters.as_master c ss start close)))
  by_opens c false ss start close side = by_opened c ss start close side (parcel_at s c side)

  by_closed : (c : ℕ) (pos : Pos) (side : Side) (parcel : Option Parcel) → Outlines s (transaction_end c false pos) (transaction.is_closed s c pos side parcel)
  by_closed c pos side None = tt
  by_closed c pos side (Some (offer v)) = by_errs _ Mismatch pos
  by_closed c pos side (Some opening) = by_errs _ Mismatch pos
  by_closed c pos side (Some (channels.word v)) = by_errs _ Mismatch pos
  by_closed c pos side (Some closing) =
      by_put _ _ c _ _ (same_number c) (by_taken _ _ c side (same_number c) (by_becomes _ _ (exits _ _ (outline.Exits.as_slave c pos))))
  by_closed c pos side (Some taken) = by_errs _ Mismatch pos

  by_closes : (c : ℕ) (is_master : Bool) (pos : Pos) (side : Side) → Outlines s (transaction_end c is_master pos) (transaction.closes_by is_master s c pos side)
  by_closes c true pos side = by_if _ (has_room s c side) _ (by_put _ _ c _ _ (same_number c) (by_becomes _ _ (exits _ _ (outline.Exits.as_master c pos))))
  by_closes c false pos side = by_closed c pos side (parcel_at s c side)

  -- selects

  by_enabled : (cs : kernel.Cases) (d : kernel.Default) (pos : Pos) (e : Enabled) → enabled s.world.store cs ≡ e → Outlines s (does (kernel.select cs d pos)) (begins_select s (default_of d) e)
  by_enabled cs d pos (these choices) is = by_goes _ _ (known cs d pos s.world.store choices is)
  by_enabled cs d pos (wrong kind place) is = by_errs _ (kind_of kind) place

  by_input_taken : (choices : List Choice) (otherwise : Option Body) (n : ℕ) (c : Choice) (r : KRes) → slice_get choices n ≡ Some c → Outlined s (chooses choices otherwise) (goes_to s (input_taken s c.input r ∷ body_items c.body s.rest))
  by_input_taken choices otherwise n c (Port p) e = by_goes _ _ (taken_fixed choices otherwise n c _ _ e)
  by_input_taken choices otherwise n c (Timer t) e = by_goes _ _ (taken_fixed choices otherwise n c _ _ e)
  by_input_taken choices otherwise n c (Chan d) e = by_goes _ _ (taken_input choices otherwise n c e)

  by_case : (choices : List Choice) (otherwise : Option Body) (n : ℕ) (o : Option Choice) → slice_get choices n ≡ o → Outlines s (chooses choices otherwise) (and_then o (takes_case s))
  by_case choices otherwise n None e = tt
  by_case choices otherwise n (Some c) e = by_if _ (is_ready s c) _ (by_input_taken choices otherwise n c c.input.resource e)

  pub takes_outlined : (n : ℕ) (item : Item) → Outlines s item (takes s n item)
  takes_outlined n (chooses choices otherwise) = by_case choices otherwise n (slice_get choices n) refl
  takes_outlined n (does t) = tt
  takes_outlined n (says i) = tt
  takes_outlined n (stores place v) = tt
  takes_outlined n (stamps resource place v) = tt
  takes_outlined n (mark m) = tt
  takes_outlined n (awaits c pos) = tt
  takes_outlined n (transaction_end c is_master pos) = tt
  takes_outlined n (fixed i v counter) = tt
  takes_outlined n ends = tt

  by_default : (choices : List Choice) (otherwise : Option Body) → Outlines s (chooses choices otherwise) (takes_default s (chooses choices otherwise))
  by_default choices None = tt
  by_default choices (Some b) = by_if _ (none_ready s choices) _ (by_goes _ _ (defaulted choices b))

  pub default_outlined : (item : Item) → Outlines s item (takes_default s item)
  default_outlined (chooses choices otherwise) = by_default choices otherwise
  default_outlined (does t) = tt
  default_outlined (says i) = tt
  default_outlined (stores place v) = tt
  default_outlined (stamps resource place v) = tt
  default_outlined (mark m) = tt
  default_outlined (awaits c pos) = tt
  default_outlined (transaction_end c is_master pos) = tt
  default_outlined (fixed i v counter) = tt
  default_outlined ends = tt

  -- a `par`

  by_makes : (bs : kernel.Branches) (all : List Begun) → all_begun bs ≡ all → Outlines s (does (kernel.par bs)) (makes s all)
  by_makes bs [] e = by_passed _ tt
  by_makes bs (b ∷ others) e = record {
    now = record s.branch { mode = waits (length s.world.branches) (length (b ∷ others)); items = s.rest };
    more = _;
    branches = refl;
    becomes = outline.makes bs b others e;
    words = λ v. inl refl;
    inboxes = λ c. inl refl;
    clocks = refl;
  }

  statement_outlined : (t : kernel.Statement) → Outlines s (does t) (does_statement s t)
  statement_outlined (kernel.set_zero variable) = by_words _ (goes_on s) variable _ (same_number variable) (by_passed _ tt)
  statement_outlined (kernel.set place e) =
      by_value _ (eval s.world.store e) _ (λ v. by_stored (does (kernel.set place e)) place v tt (λ w u. or_left _ _ u))
  statement_outlined (kernel.output o) = by_output_to o o.resource refl
  statement_outlined (kernel.input input) = by_input_from input input.resource refl
  statement_outlined (kernel.if_then e a b) = by_test _ e _ _ (held e a b) (other e a b)
  statement_outlined (kernel.loop e a b) = by_test _ e _ _ (turned e a b) (passed _ tt)
  statement_outlined (kernel.block n a) = by_goes _ _ (begun n a)
  statement_outlined (kernel.exit n) = by_goes _ _ (left n)
  statement_outlined (kernel.select cs d pos) = by_enabled cs d pos (enabled s.world.store cs) refl
  statement_outlined (kernel.par bs) = by_makes bs (all_begun bs) refl
  statement_outlined (kernel.transaction c is_master ss start close) = by_side _ (side_of s.branch c) _ (λ side. by_opens c is_master ss start close side)

  -- the step of an item that is none of a text's
  pub item_outlined : (item : Item) → ((i : _) → item ≡ says i → ⊥) → Outlines s item (does_item s item)
  item_outlined (does t) k = statement_outlined t
  item_outlined (says i) k = absurd (k i refl)
  item_outlined (stores place v) k = by_stored (stores place v) place v tt (λ w u. u)
  item_outlined (stamps resource place v) k = by_stored (stamps resource place v) place v tt (λ w u. or_right (by_resource (change w) resource) _ u)
  item_outlined (mark n) k = by_passed _ tt
  item_outlined (awaits c pos) k = by_side _ (side_of s.branch c) _ (λ side. by_answer c pos side (parcel_at s c side))
  item_outlined (transaction_end c is_master pos) k = by_side _ (side_of s.branch c) _ (λ side. by_closes c is_master pos side)
  item_outlined (chooses choices otherwise) k = tt
  item_outlined (fixed input v counter) k = by_input_fixed input v counter input.resource
  item_outlined ends k = by_becomes _ _ ends_it
