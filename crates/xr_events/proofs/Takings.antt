-- The turn of a thread that takes events, and what the taking of one leaves.
use Rattle.std.proofs.Common.{◌≡◌, ℕ, ◌+◌, true, false, Option, Some, None, refl, sym, ap, ◌∙◌, subst}
use Rattle.std.specs.Prelude.{length, slice_get, slice_set, ◌||◌}
use Rattle.std.proofs.lemmas.List.{length-set}
use Rattle.xs_instr.specs.declared.image.Home.{Home}
use Rattle.xs_instr.specs.declared.instr.Instr.TheVariants.{Waiteu, Clrsr, Setsr}
use Rattle.xs_instr.specs.declared.state.CoreState.{CoreState}
use Rattle.xs_instr.specs.declared.state.Mode.TheVariants.{Running}
use Rattle.xs_instr.specs.declared.state.Port.{Port as PortState}
use Rattle.xs_instr.specs.declared.state.PortGot.{PortGot}
use Rattle.xs_instr.specs.declared.state.Res.{Res}
use Rattle.xs_instr.specs.declared.state.Res.TheVariants.{Port as ResPort, Timer as ResTimer, End as ResEnd}
use Rattle.xs_instr.specs.declared.state.Thread.{Thread}
use Rattle.xs_instr.specs.declared.state.Timer.{Timer as TimerState}
use Rattle.xs_instr.specs.Did.{makes, Paused}
use Rattle.xs_instr.specs.Events.{latched, pick, vector_of}
use Rattle.xs_instr.specs.Ports.{counter, port_latched, port_latched_at}
use Rattle.xs_instr.specs.Ports as machine
use Rattle.xs_instr.specs.Rows.{with_thread}
use Rattle.xs_instr.specs.Slot.{event_or_row, event_taken, fetched, instr_at, is_waiteu, pick_where, slot, turn_at, turn_of}
use Rattle.xs_instr.specs.Timers.{timer_latched_at}
use Rattle.xc_kernel.specs.declared.statement.KRes.{KRes}
use Rattle.xc_kernel.specs.declared.statement.KRes.TheVariants.{Port, Timer, Chan}
use Rattle.xc_kernel.specs.Plain as kernel
use Rattle.xc_meaning.specs.Settings.Select.{input_taken}
use Rattle.xc_meaning.specs.Settings.Setting.{Setting}
use Rattle.xc_meaning.specs.Settings.Time.{clock_of, counter_of, pins_of}
use Rattle.xc_meaning.specs.States.Items.{When}
use Rattle.xl_expr.specs.ResourceParts.{OtherPartsStay}
use Rattle.xl_expr.proofs.Lists.{get_set_other, get_set_same}
use Rattle.xl_expr.proofs.ResourceParts.{others_fewer, others_of_port, others_of_timer, others_same}
use Rattle.xl_port.specs.Timings.{port_set, timer_set}
use Rattle.xr_events.specs.Armed.{IsSetFor, Places, StandsFor, res_of}
use Rattle.xr_events.specs.Latches.{HasLatched, LatchIsOf}
use Rattle.xr_events.specs.Readiness.{SameMoment}
use Rattle.xr_events.specs.Takings.{EventLeaves, alone}
use Rattle.xr_events.proofs.Readiness.{counters_agree, pins_agree}

-- A running thread whose event bit is set looks at all resources in one step.
module _ (home : Home) (core : CoreState) (t : ℕ) (x : Thread) (here : slice_get core.threads t ≡ Some x) (runs : x.mode ≡ Running) (bit : x.event_bit ≡ true) where
  looks : slot home core t ≡ event_or_row home core t x (instr_at home x.pc) (pick home core t)
  looks =
      ap (turn_at home core t) here
      ∙ ap (turn_of home core t x) runs
      ∙ ap (λ b. event_or_row home core t x (instr_at home x.pc) (pick_where home core t (b || is_waiteu (instr_at home x.pc)))) bit

  -- it takes the event that is picked
  pub takes : (res : Res) → pick home core t ≡ Some res → slot home core t ≡ makes (event_taken home core t x res)
  takes res is = looks ∙ ap (event_or_row home core t x (instr_at home x.pc)) is

  -- Where none is, it waits at WAITEU.
  pub waits : pick home core t ≡ None → instr_at home x.pc ≡ Some Waiteu → slot home core t ≡ Paused
  waits is code = looks ∙ ap (event_or_row home core t x (instr_at home x.pc)) is ∙ ap (fetched home core t x) code

  -- At CLRSR it goes on, and takes events no more.
  pub goes_on : pick home core t ≡ None → instr_at home x.pc ≡ Some (Clrsr 1) → slot home core t ≡ makes (with_thread core t (record x { pc = x.pc + 1; event_bit = false }))
  goes_on is code = looks ∙ ap (event_or_row home core t x (instr_at home x.pc)) is ∙ ap (fetched home core t x) code

-- SETSR: from its next step on the thread takes events. That is the first step of the select.
pub begins : (home : Home) (core : CoreState) (t : ℕ) (x : Thread) → slice_get core.threads t ≡ Some x → x.mode ≡ Running → x.event_bit ≡ false → instr_at home x.pc ≡ Some (Setsr 1) → slot home core t ≡ makes (with_thread core t (record x { pc = x.pc + 1; event_bit = true }))
begins home core t x here runs bit code =
    ap (turn_at home core t) here
    ∙ ap (turn_of home core t x) runs
    ∙ ap (λ b. event_or_row home core t x (instr_at home x.pc) (pick_where home core t (b || is_waiteu (instr_at home x.pc)))) bit
    ∙ ap (λ i. event_or_row home core t x i (pick_where home core t (false || is_waiteu i))) code

-- What is left of the core.
module _ (home : Home) (core : CoreState) (t : ℕ) (x : Thread) where
  -- the port of the event is latched
  pub port_is_latched : (n : ℕ) (port : PortState) → slice_get core.ports n ≡ Some port → slice_get (event_taken home core t x (ResPort n)).ports n ≡ Some (port_latched home core.clock port)
  port_is_latched n port there =
      ap (λ o. slice_get (port_latched_at home core.clock core.ports n o) n) there
      ∙ get_set_same core.ports n port (port_latched home core.clock port) there

  -- and so is its timer
  pub timer_is_latched : (n : ℕ) (timer : TimerState) → slice_get core.timers n ≡ Some timer → slice_get (event_taken home core t x (ResTimer n)).timers n ≡ Some (record timer { latch = Some core.clock })
  timer_is_latched n timer there =
      ap (λ o. slice_get (timer_latched_at core.clock core.timers n o) n) there
      ∙ get_set_same core.timers n timer (record timer { latch = Some core.clock }) there

  -- the thread at the event's vector
  abbrev gone : Res → Thread
  gone res = record x { pc = vector_of core.events res; event_bit = false }

  -- Of the core the thread is changed, and what latches.
  pub taken_moves : (res : Res) → event_taken home core t x res ≡ record core { threads = slice_set core.threads t (gone res); ports = (latched home core res).ports; timers = (latched home core res).timers }
  taken_moves (ResPort n) = refl
  taken_moves (ResTimer n) = refl
  taken_moves (ResEnd n) = refl

  -- of the core the thread, ports and timers are changed alone
  moves : (res : Res) → event_taken home core t x res ≡ record core { threads = slice_set core.threads t (gone res); ports = (event_taken home core t x res).ports; timers = (event_taken home core t x res).timers }
  moves (ResPort n) = refl
  moves (ResTimer n) = refl
  moves (ResEnd n) = refl

  threads_are : (res : Res) → (event_taken home core t x res).threads ≡ slice_set core.threads t (gone res)
  threads_are res = ap (λ (c : CoreState). c.threads) (moves res)

  -- the other ports
  port_other : (o : Option PortState) (n q : ℕ) → (q ≡ n → ⊥) → slice_get (port_latched_at home core.clock core.ports n o) q ≡ slice_get core.ports q
  port_other None n q ne = refl
  port_other (Some port) n q ne = get_set_other core.ports n q (port_latched home core.clock port) ne

  timer_other : (o : Option TimerState) (n q : ℕ) → (q ≡ n → ⊥) → slice_get (timer_latched_at core.clock core.timers n o) q ≡ slice_get core.timers q
  timer_other None n q ne = refl
  timer_other (Some timer) n q ne = get_set_other core.timers n q (record timer { latch = Some core.clock }) ne

  parts_stay : (res : Res) → OtherPartsStay (alone res) t core (event_taken home core t x res)
  parts_stay (ResPort n) =
      others_of_port t n core (event_taken home core t x (ResPort n)) (port_other (slice_get core.ports n) n) refl refl
  parts_stay (ResTimer n) =
      others_of_timer t n core (event_taken home core t x (ResTimer n)) (timer_other (slice_get core.timers n) n) refl refl
  parts_stay (ResEnd n) = others_same (alone (ResEnd n)) t core (event_taken home core t x (ResEnd n)) refl refl refl

  -- The thread goes to the vector, and all but it and the resource is as it was.
  pub event_leaves : (res : Res) → slice_get core.threads t ≡ Some x → EventLeaves t x res core (event_taken home core t x res)
  event_leaves res here = record {
    goes = ap (λ l. slice_get l t) (threads_are res) ∙ get_set_same core.threads t x (gone res) here;
    others = λ u ne. ap (λ l. slice_get l u) (threads_are res) ∙ get_set_other core.threads t u (gone res) ne;
    as_many = ap length (threads_are res) ∙ length-set core.threads t (gone res);
    parts = parts_stay res;
    rest = moves res ∙ ap (λ l. record core { threads = l; ports = (event_taken home core t x res).ports; timers = (event_taken home core t x res).timers }) (sym (threads_are res));
  }

  -- So others' resources are where the event's is one of the thread's own, as that of a case is.
  pub own_parts_stay : (mine : Res → Type 0) (res : Res) → mine res → OtherPartsStay mine t core (event_taken home core t x res)
  own_parts_stay mine res own =
      others_fewer (alone res) t core (event_taken home core t x res) mine (λ r e. subst mine (sym e) own) (parts_stay res)

-- what a port gives
abbrev got : (value stamp : ℕ) → PortGot
got value stamp = record { value = value; stamp = stamp }

-- What is latched is what the program fixes at this moment.
pub taken_is_fixed : (home : Home) (core : CoreState) (s : Setting) → SameMoment home core s → (places : Places) (when : When) (i : kernel.Input) → IsSetFor places core when i.resource → StandsFor core s places i.resource → (t : ℕ) (x : Thread) → LatchIsOf places (event_taken home core t x (res_of places i.resource)) (input_taken s i i.resource)
taken_is_fixed home core s moment places when i set stands t x = by i.resource refl set stands
  where
    by : (res : KRes) → i.resource ≡ res → IsSetFor places core when res → StandsFor core s places res → LatchIsOf places (event_taken home core t x (res_of places res)) (input_taken s i res)
    by (Port p) is (port, there) declared =
        let pins : machine.pins_of home core.clock (port_set when port).decl.port ≡ pins_of s p = pins_agree home core s moment p (port_set when port).decl.port (declared (port_set when port) there) in
        let latch : (port_latched home core.clock (port_set when port)).latch ≡ Some (got (pins_of s p) (counter_of s)) =
        ap (λ (v : ℕ). Some (got v (counter core.clock))) pins
        ∙ ap (λ (n : ℕ). Some (got (pins_of s p) n)) (sym (counters_agree home core s moment)) in
        subst
        (λ (r : KRes). HasLatched places (event_taken home core t x (ResPort (places.port p))) r (pins_of s p) (counter_of s))
        (sym is)
        (port_latched home core.clock (port_set when port), port_is_latched home core t x (places.port p) (port_set when port) there, latch)
    by (Timer n) is (timer, there) declared =
        subst
        (λ (r : KRes). HasLatched places (event_taken home core t x (ResTimer (places.timer n))) r (clock_of s) (counter_of s))
        (sym is)
        (record (timer_set when timer) { latch = Some core.clock }, timer_is_latched home core t x (places.timer n) (timer_set when timer) there, ap (λ (k : ℕ). Some k) (sym moment.clock))
    by (Chan c) is no_set arrived = tt
