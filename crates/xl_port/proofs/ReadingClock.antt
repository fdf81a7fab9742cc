-- An input from a timer: condition and transfer, one after the other.
use Rattle.std.proofs.Common.{◌≡◌, ℕ, ◌+◌, Bool, List, length, Some, None, refl, ap, ◌∙◌, subst, arith, length-append}
use Rattle.std.specs.Prelude.{slice_get}
use Rattle.xw_words.specs.declared.pos.Pos.{Pos}
use Rattle.xs_instr.specs.declared.image.Home.{Home}
use Rattle.xs_instr.specs.declared.instr.Instr.TheVariants.{In}
use Rattle.xs_instr.specs.declared.instr.Reg.TheVariants.{R0, R11}
use Rattle.xs_instr.specs.declared.state.CoreState.{CoreState}
use Rattle.xs_instr.specs.declared.state.Regs.{Regs}
use Rattle.xs_instr.specs.declared.state.Thread.{Thread}
use Rattle.xs_instr.specs.declared.state.Timer.{Timer}
use Rattle.xs_instr.specs.Did.{map_did}
use Rattle.xs_instr.specs.Lines.{Line}
use Rattle.xs_instr.specs.OwnSteps.{RunsAt, StandAt}
use Rattle.xs_instr.specs.Registers.{reg_set}
use Rattle.xs_instr.specs.Resources.{ATimer, named}
use Rattle.xs_instr.specs.Rows.{gets_with, put_timers}
use Rattle.xs_instr.specs.Timers.{clock_by}
use Rattle.xc_kernel.specs.Plain as kernel
use Rattle.xc_meaning.specs.Settings.Time.{Timing, passes}
use Rattle.xc_meaning.specs.States.Items.{When, now, at_time, pins_equal, pins_differ, after_time}
use Rattle.xl_expr.specs.declared.plan.Plan.{Plan}
use Rattle.xl_expr.specs.PartSteps.{KeptParts}
use Rattle.xl_expr.specs.Plans.{resource_in}
use Rattle.xl_expr.specs.ResourceParts.{timer_alone}
use Rattle.xl_expr.proofs.Lists.{stand_back, stand_front}
use Rattle.xl_expr.proofs.Ways.{at_pc}
use Rattle.xl_port.specs.TimerInputs.{ClockOutcome, ReadsClock, ReadsTimer}
use Rattle.xl_port.specs.Timings.{timer_set}
use Rattle.xl_port.specs.Waits.{TakesIn, transfer_instrs, waits_for, when_of}
use Rattle.xl_port.proofs.Since.{Since, at_first, since_kept, turn_since, uses_lead}
use Rattle.xl_port.proofs.TimerRows.{in_row_is, timer_is, timer_lasts}
use Rattle.xl_port.proofs.Waiting.{holds_still, time_fits, timer_set_leads, timing_leads}

-- a timer that is set has no latch
set_unlatched : (when : When) (timer : Timer) → (timer_set when timer).latch ≡ None
set_unlatched now timer = refl
set_unlatched (at_time time) timer = refl
set_unlatched (pins_equal v) timer = refl
set_unlatched (pins_differ v) timer = refl
set_unlatched (after_time time) timer = refl

module _ (home : Home) (relied : ℕ → Bool) (s t m : ℕ) (timer : Timer) (thread : Thread) (a : CoreState) (pc : ℕ)
    (at_work : RunsAt t pc thread a) (name : ℕ) (names : named home.number name ≡ ATimer m) (pos : Pos) where
  abbrev SinceAt : Timer → ℕ → Regs → CoreState → Type 0
  SinceAt timer' = Since home relied (timer_alone m) s t thread at_work.runs at_work.no_events a.words (timer_is m timer')

  abbrev Reads : (pc' : ℕ) → When → CoreState → Type 0
  Reads = ReadsClock home relied s t thread a.words m timer pos

  -- the timer is set, and the next step reads the clock
  at_in : (when : When) (index : ℕ) (regs : Regs) → regs.r11 ≡ name → (pc' : ℕ) → index + 1 ≡ pc' →
      slice_get home.parts.code.instrs index ≡ Some (In R0 R11) → slice_get home.parts.code.«at» index ≡ Some pos → (b : CoreState) →
      SinceAt (timer_set when timer) index regs b → (c : CoreState) → KeptParts relied (timer_alone m) t b c → Reads pc' when c
  at_in when index regs r11_is pc' e instr place b h c k =
      let set = timer_set when timer in
      let sc = since_kept home relied (timer_alone m) s t thread at_work.runs at_work.no_events a.words (timer_is m set)
      (timer_lasts relied t m set) index regs b c h k in
      let th = at_pc thread index regs in
      let turn =
      turn_since home relied (timer_alone m) s t thread at_work.runs at_work.no_events a.words (timer_is m set) index regs (In R0 R11) c sc
      instr refl
      ∙ in_row_is home relied s t m thread at_work.runs at_work.no_events a.words name names index regs r11_is set c sc.there
      (set_unlatched when timer) in
      let reads : Reads (index + 1) when c = record {
        index = index;
        regs = regs;
        here = sc.here;
        place = place;
        others = sc.others;
        within = sc.room.within;
        words = sc.words;
        timer_is = sc.there;
        waits = λ q. turn ∙ ap (λ z. map_did (gets_with put_timers c t th R0) (clock_by c.clock c.timers m set z)) q;
        goes = λ q. turn ∙ ap (λ z. map_did (gets_with put_timers c t th R0) (clock_by c.clock c.timers m set z)) q;
      } in
      subst (λ q. Reads q when c) e reads

-- the clause of the transfer, from those of its parts
pub reads_by_parts : (plan : Plan) (i : kernel.Input) (pc : ℕ) (lines : List Line) → TakesIn plan i pc lines → ReadsTimer plan i pc lines
reads_by_parts plan i pc lines takes = record {
  by = λ home relied s t m timer thread store a st at_work room laid untimed asks stands.
      let end = pc + length lines in
      let old = a.words in
      let mine = timer_alone m in
      let waits = waits_for i.time i.condition in
      let place = resource_in plan.ports plan.timers i.resource in
      let instrs = transfer_instrs waits (In R0 R11) in
      let pc1 = pc + length takes.timing in
      let st' = subst (λ l. StandAt home.parts.code pc l) takes.is st in
      let whole : pc1 + length takes.transfer ≡ end = omega (arith, ap length takes.is, length-append takes.timing takes.transfer) in
      let Reaches : Timing → CoreState → Type 0 = ClockOutcome home relied s t thread old m timer i.pos end in
      timing_leads home relied mine s t thread at_work.runs at_work.no_events old (timer_is m timer) (timer_lasts relied t m timer)
      plan.vars store Reaches
      (λ kind pos c f. f) pc takes.timing (stand_front home.parts.code pc takes.timing takes.transfer st') thread.regs 4 i.time i.condition
      takes.evaluates laid
      (λ v regs b h holds. uses_lead home relied mine s t thread at_work.runs at_work.no_events old (timer_is m timer)
      (timer_lasts relied t m timer) place stands.name instrs i.pos pc1 regs takes.transfer takes.uses
      (stand_back home.parts.code pc takes.timing takes.transfer st') stands.name_is
      (Reaches (passes (when_of waits v))) 2
      (λ pc2 e2 st2 d k. timer_set_leads home relied s t m thread at_work.runs at_work.no_events old stands.name stands.names timer
      (In R0 R11) i.pos (reg_set regs R11 stands.name) refl
      (Reaches (passes (when_of waits v))) 0 waits v pc2 (time_fits i.time i.condition untimed asks)
      (holds_still waits v regs (reg_set regs R11 stands.name) refl holds) st2
      (λ index e3 instr at_index f l. at_in home relied s t m timer thread a pc at_work stands.name stands.names i.pos (when_of waits v)
      index (reg_set regs R11 stands.name) refl end
      (e3 ∙ (e2 ∙ whole)) instr at_index f l) d k) b h)
      a (at_first home relied mine s t pc thread a (timer_is m timer) at_work room stands.there);
}
