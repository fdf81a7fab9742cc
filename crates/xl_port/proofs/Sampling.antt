-- An input from a port: time or condition, and transfer, one after another.
use Rattle.std.proofs.Common.{◌≡◌, ℕ, ◌+◌, Bool, true, List, [], ◌++◌, length, Some, None, refl, ap, ◌∙◌, subst, arith, length-append}
use Rattle.std.specs.Prelude.{slice_get}
use Rattle.xw_words.specs.declared.pos.Pos.{Pos}
use Rattle.xs_instr.specs.declared.image.Home.{Home}
use Rattle.xs_instr.specs.declared.instr.Instr.TheVariants.{In}
use Rattle.xs_instr.specs.declared.instr.Reg.TheVariants.{R0, R11}
use Rattle.xs_instr.specs.declared.state.CoreState.{CoreState}
use Rattle.xs_instr.specs.declared.state.Port.{Port}
use Rattle.xs_instr.specs.declared.state.Regs.{Regs}
use Rattle.xs_instr.specs.declared.state.Thread.{Thread}
use Rattle.xs_instr.specs.declared.trace.Record.TheVariants.{PortIn}
use Rattle.xs_instr.specs.Did.{Made, map_did}
use Rattle.xs_instr.specs.Lines.{Line}
use Rattle.xs_instr.specs.OwnSteps.{RunsAt, StandAt}
use Rattle.xs_instr.specs.Ports.{can_receive, counter, pins_of, reads_now}
use Rattle.xs_instr.specs.Registers.{reg_set}
use Rattle.xs_instr.specs.Resources.{APort, named}
use Rattle.xs_instr.specs.Rows.{gets_with, put_ports}
use Rattle.xc_kernel.specs.Plain as kernel
use Rattle.xc_meaning.specs.Settings.Time.{Timing, passes}
use Rattle.xc_meaning.specs.States.Items.{When, now, at_time, pins_equal, pins_differ, after_time}
use Rattle.xl_expr.specs.declared.plan.Plan.{Plan}
use Rattle.xl_expr.specs.Destinations.{WritesTo}
use Rattle.xl_expr.specs.PartSteps.{KeptParts}
use Rattle.xl_expr.specs.Plans.{resource_in}
use Rattle.xl_expr.specs.ResourceParts.{port_alone}
use Rattle.xl_expr.proofs.Lists.{stand_back, stand_front}
use Rattle.xl_expr.proofs.Ways.{at_pc}
use Rattle.xl_port.specs.Inputs.{ReadsPins, SampleOutcome, SamplesPort, come_in}
use Rattle.xl_port.specs.Timings.{port_set}
use Rattle.xl_port.specs.Waits.{TakesIn, transfer_instrs, waits_for, when_of}
use Rattle.xl_port.proofs.PortRows.{in_row_is, port_is, port_lasts}
use Rattle.xl_port.proofs.Since.{Since, at_first, since_kept, turn_since, uses_lead}
use Rattle.xl_port.proofs.Waiting.{holds_still, pins_fit, port_set_leads, timing_leads}

-- a port that is set keeps its direction, and has no latch

set_receives : (when : When) (port : Port) → can_receive port.decl.dir ≡ true → can_receive (port_set when port).decl.dir ≡ true
set_receives now port h = h
set_receives (at_time time) port h = h
set_receives (pins_equal v) port h = h
set_receives (pins_differ v) port h = h
set_receives (after_time time) port h = h

set_unlatched : (when : When) (port : Port) → (port_set when port).latch ≡ None
set_unlatched now port = refl
set_unlatched (at_time time) port = refl
set_unlatched (pins_equal v) port = refl
set_unlatched (pins_differ v) port = refl
set_unlatched (after_time time) port = refl

set_decl : (when : When) (port : Port) → (port_set when port).decl ≡ port.decl
set_decl now port = refl
set_decl (at_time time) port = refl
set_decl (pins_equal v) port = refl
set_decl (pins_differ v) port = refl
set_decl (after_time time) port = refl

module _ (home : Home) (relied : ℕ → Bool) (s t p : ℕ) (port : Port) (thread : Thread) (a : CoreState) (pc : ℕ)
    (at_work : RunsAt t pc thread a) (receives : can_receive port.decl.dir ≡ true) (name : ℕ) (names : named home.number name ≡ APort p)
    (pos : Pos) where
  abbrev SinceAt : Port → ℕ → Regs → CoreState → Type 0
  SinceAt port' = Since home relied (port_alone p) s t thread at_work.runs at_work.no_events a.words (port_is p port')

  abbrev Reads : (pc' : ℕ) → When → CoreState → Type 0
  Reads = ReadsPins home relied s t thread a.words p port pos

  -- the port is set, and the next step reads the pins
  at_in : (when : When) (index : ℕ) (regs : Regs) → regs.r11 ≡ name → (pc' : ℕ) → index + 1 ≡ pc' →
      slice_get home.parts.code.instrs index ≡ Some (In R0 R11) → slice_get home.parts.code.«at» index ≡ Some pos → (b : CoreState) →
      SinceAt (port_set when port) index regs b → (c : CoreState) → KeptParts relied (port_alone p) t b c → Reads pc' when c
  at_in when index regs r11_is pc' e instr place b h c k =
      let set = port_set when port in
      let sc = since_kept home relied (port_alone p) s t thread at_work.runs at_work.no_events a.words (port_is p set)
      (port_lasts relied t p set) index regs b c h k in
      let th = at_pc thread index regs in
      let turn =
      turn_since home relied (port_alone p) s t thread at_work.runs at_work.no_events a.words (port_is p set) index regs (In R0 R11) c sc
      instr refl
      ∙ in_row_is home relied s t p thread at_work.runs at_work.no_events a.words name names index regs r11_is set c sc.there
      (set_receives when port receives) (set_unlatched when port) in
      let reads : Reads (index + 1) when c = record {
        index = index;
        regs = regs;
        here = sc.here;
        place = place;
        others = sc.others;
        within = sc.room.within;
        words = sc.words;
        port_is = sc.there;
        waits = λ m. turn ∙ ap (λ z. map_did (gets_with put_ports c t th R0) (reads_now home c.clock c.ports p set z)) m;
        goes = λ m. turn ∙ ap (λ z. map_did (gets_with put_ports c t th R0) (reads_now home c.clock c.ports p set z)) m
            ∙ ap (λ d. Made (come_in home c t p (record thread { pc = index + 1; regs = regs }) set)
            (Some (PortIn home.number d.port (counter c.clock) (pins_of home c.clock d.port))) []) (set_decl when port);
      } in
      subst (λ q. Reads q when c) e reads

-- the clause of the transfer, from those of its parts
pub samples_by_parts : (plan : Plan) (i : kernel.Input) (pc : ℕ) (lines : List Line) → TakesIn plan i pc lines → SamplesPort plan i pc lines
samples_by_parts plan i pc lines takes = record {
  by = λ home relied s t p port thread store a st at_work room laid asks stands receives.
      let end = pc + length lines in
      let old = a.words in
      let mine = port_alone p in
      let waits = waits_for i.time i.condition in
      let place = resource_in plan.ports plan.timers i.resource in
      let instrs = transfer_instrs waits (In R0 R11) in
      let pc1 = pc + length takes.timing in
      let st' = subst (λ l. StandAt home.parts.code pc l) takes.is st in
      let whole : pc1 + length takes.transfer ≡ end = omega (arith, ap length takes.is, length-append takes.timing takes.transfer) in
      let Reaches : Timing → CoreState → Type 0 = SampleOutcome home relied s t thread old p port i.pos end in
      timing_leads home relied mine s t thread at_work.runs at_work.no_events old (port_is p port) (port_lasts relied t p port) plan.vars
      store Reaches
      (λ kind pos c f. f) pc takes.timing (stand_front home.parts.code pc takes.timing takes.transfer st') thread.regs 4 i.time i.condition
      takes.evaluates laid
      (λ v regs b h holds. uses_lead home relied mine s t thread at_work.runs at_work.no_events old (port_is p port)
      (port_lasts relied t p port) place stands.name instrs i.pos pc1 regs takes.transfer takes.uses
      (stand_back home.parts.code pc takes.timing takes.transfer st') stands.name_is
      (Reaches (passes (when_of waits v))) 2
      (λ pc2 e2 st2 d k. port_set_leads home relied s t p thread at_work.runs at_work.no_events old stands.name stands.names port
      (In R0 R11) i.pos (reg_set regs R11 stands.name) refl
      (Reaches (passes (when_of waits v))) 0 waits v pc2 (pins_fit i.time i.condition asks)
      (holds_still waits v regs (reg_set regs R11 stands.name) refl holds) st2
      (λ index e3 instr at_index f l. at_in home relied s t p port thread a pc at_work receives stands.name stands.names i.pos
      (when_of waits v) index (reg_set regs R11 stands.name) refl end
      (e3 ∙ (e2 ∙ whole)) instr at_index f l) d k) b h)
      a (at_first home relied mine s t pc thread a (port_is p port) at_work room stands.there);
}

-- the transfer, and what writes its value
pub record SamplesTo (plan : Plan) (i : kernel.Input) (pc : ℕ) (lines : List Line) : Type 0 where
  pub transfer : List Line
  pub write : List Line
  pub is : lines ≡ transfer ++ write
  pub samples : SamplesPort plan i pc transfer
  pub writes : WritesTo plan.vars i.target (pc + length transfer) write
