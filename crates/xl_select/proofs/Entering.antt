-- The entry of a case: the name of the port or timer, and the input of what it latched.
use Rattle.std.proofs.Common.{◌≡◌, ℕ, ◌+◌, Bool, true, List, [], ◌∷◌, ◌++◌, length, Some, refl, ◌∙◌, subst}
use Rattle.std.specs.Prelude.{slice_get}
use Rattle.xw_words.specs.declared.pos.Pos.{Pos}
use Rattle.xs_instr.specs.declared.image.Home.{Home}
use Rattle.xs_instr.specs.declared.instr.Instr.TheVariants.{In}
use Rattle.xs_instr.specs.declared.instr.Reg.TheVariants.{R0, R11}
use Rattle.xs_instr.specs.declared.state.CoreState.{CoreState}
use Rattle.xs_instr.specs.declared.state.Port.{Port}
use Rattle.xs_instr.specs.declared.state.PortGot.{PortGot}
use Rattle.xs_instr.specs.declared.state.Regs.{Regs}
use Rattle.xs_instr.specs.declared.state.Thread.{Thread}
use Rattle.xs_instr.specs.declared.state.Timer.{Timer}
use Rattle.xs_instr.specs.Lines.{Line}
use Rattle.xs_instr.specs.OwnSteps.{RunsAt}
use Rattle.xs_instr.specs.Ports.{can_receive}
use Rattle.xs_instr.specs.Registers.{reg_set}
use Rattle.xs_instr.specs.Resources.{APort, ATimer, named}
use Rattle.xc_kernel.specs.Plain as kernel
use Rattle.xl_expr.specs.declared.plan.Plan.{Plan}
use Rattle.xl_expr.specs.Destinations.{WritesTo}
use Rattle.xl_expr.specs.PartSteps.{KeptParts}
use Rattle.xl_expr.specs.Plans.{resource_in}
use Rattle.xl_expr.specs.ResourceParts.{port_alone, timer_alone}
use Rattle.xl_port.specs.Waits.{UsesName}
use Rattle.xl_port.proofs.PortRows.{port_is, port_lasts}
use Rattle.xl_port.proofs.Since.{Since, at_first, since_kept, turn_since, uses_lead}
use Rattle.xl_port.proofs.TimerRows.{timer_is, timer_lasts}
use Rattle.xl_select.specs.Entry.{AtPortLatch, AtTimerLatch, ReadsPortLatch, ReadsTimerLatch}
use Rattle.xl_select.proofs.LatchRows.{port_in_row, timer_in_row}

module _ (home : Home) (relied : ℕ → Bool) (s t : ℕ) (thread : Thread) (a : CoreState) (pc : ℕ) (at_work : RunsAt t pc thread a)
    (name : ℕ) (pos : Pos) where
  -- the next step reads the port's latch
  at_port_latch : (p : ℕ) → named home.number name ≡ APort p → (port : Port) (got : PortGot) → can_receive port.decl.dir ≡ true →
      port.latch ≡ Some got → (index : ℕ) (regs : Regs) → regs.r11 ≡ name → (pc' : ℕ) → index + 1 ≡ pc' →
      slice_get home.parts.code.instrs index ≡ Some (In R0 R11) → slice_get home.parts.code.«at» index ≡ Some pos → (b : CoreState) →
      Since home relied (port_alone p) s t thread at_work.runs at_work.no_events a.words (port_is p port) index regs b → (c : CoreState) →
      KeptParts relied (port_alone p) t b c → AtPortLatch home relied s t thread a.words p port got pos pc' c
  at_port_latch p names port got receives latched index regs r11_is pc' e instr place b h c k =
      let sc = since_kept home relied (port_alone p) s t thread at_work.runs at_work.no_events a.words (port_is p port)
      (port_lasts relied t p port) index regs b c h k in
      let read : AtPortLatch home relied s t thread a.words p port got pos (index + 1) c = record {
        index = index;
        regs = regs;
        here = sc.here;
        place = place;
        others = sc.others;
        within = sc.room.within;
        words = sc.words;
        port_is = sc.there;
        goes = turn_since home relied (port_alone p) s t thread at_work.runs at_work.no_events a.words (port_is p port) index regs
            (In R0 R11) c sc instr refl
            ∙ port_in_row home t thread name index regs r11_is p names port got c sc.there receives latched;
      } in
      subst (λ q. AtPortLatch home relied s t thread a.words p port got pos q c) e read

  -- and the timer's
  at_timer_latch : (n : ℕ) → named home.number name ≡ ATimer n → (timer : Timer) (clock : ℕ) → timer.latch ≡ Some clock →
      (index : ℕ) (regs : Regs) → regs.r11 ≡ name → (pc' : ℕ) → index + 1 ≡ pc' →
      slice_get home.parts.code.instrs index ≡ Some (In R0 R11) → slice_get home.parts.code.«at» index ≡ Some pos → (b : CoreState) →
      Since home relied (timer_alone n) s t thread at_work.runs at_work.no_events a.words (timer_is n timer) index regs b →
      (c : CoreState) → KeptParts relied (timer_alone n) t b c → AtTimerLatch home relied s t thread a.words n timer clock pos pc' c
  at_timer_latch n names timer clock latched index regs r11_is pc' e instr place b h c k =
      let sc = since_kept home relied (timer_alone n) s t thread at_work.runs at_work.no_events a.words (timer_is n timer)
      (timer_lasts relied t n timer) index regs b c h k in
      let read : AtTimerLatch home relied s t thread a.words n timer clock pos (index + 1) c = record {
        index = index;
        regs = regs;
        here = sc.here;
        place = place;
        others = sc.others;
        within = sc.room.within;
        words = sc.words;
        timer_is = sc.there;
        goes = turn_since home relied (timer_alone n) s t thread at_work.runs at_work.no_events a.words (timer_is n timer) index regs
            (In R0 R11) c sc instr refl
            ∙ timer_in_row home t thread name index regs r11_is n names timer clock c sc.there latched;
      } in
      subst (λ q. AtTimerLatch home relied s t thread a.words n timer clock pos q c) e read

module _ (plan : Plan) (i : kernel.Input) (pc : ℕ) (lines : List Line)
    (uses : UsesName (resource_in plan.ports plan.timers i.resource) (In R0 R11 ∷ []) i.pos pc lines) where
  pub port_read_by_name : ReadsPortLatch plan i pc lines
  port_read_by_name = record {
    by = λ home relied s t p port got thread a st at_work room stands receives latched.
        uses_lead home relied (port_alone p) s t thread at_work.runs at_work.no_events a.words (port_is p port)
        (port_lasts relied t p port) (resource_in plan.ports plan.timers i.resource) stands.name (In R0 R11 ∷ []) i.pos pc thread.regs
        lines uses st stands.name_is
        (λ b. (c : CoreState) → KeptParts relied (port_alone p) t b c →
        AtPortLatch home relied s t thread a.words p port got i.pos (pc + length lines) c) 0
        (λ index e st' b h. at_port_latch home relied s t thread a pc at_work stands.name i.pos p stands.names port got receives latched
        index (reg_set thread.regs R11 stands.name) refl (pc + length lines) e st'.0 st'.1 b h)
        a (at_first home relied (port_alone p) s t pc thread a (port_is p port) at_work room stands.there);
  }

  pub timer_read_by_name : ReadsTimerLatch plan i pc lines
  timer_read_by_name = record {
    by = λ home relied s t n timer clock thread a st at_work room stands latched.
        uses_lead home relied (timer_alone n) s t thread at_work.runs at_work.no_events a.words (timer_is n timer)
        (timer_lasts relied t n timer) (resource_in plan.ports plan.timers i.resource) stands.name (In R0 R11 ∷ []) i.pos pc thread.regs
        lines uses st stands.name_is
        (λ b. (c : CoreState) → KeptParts relied (timer_alone n) t b c →
        AtTimerLatch home relied s t thread a.words n timer clock i.pos (pc + length lines) c) 0
        (λ index e st' b h. at_timer_latch home relied s t thread a pc at_work stands.name i.pos n stands.names timer clock latched
        index (reg_set thread.regs R11 stands.name) refl (pc + length lines) e st'.0 st'.1 b h)
        a (at_first home relied (timer_alone n) s t pc thread a (timer_is n timer) at_work room stands.there);
  }

-- the input of a port's latch, and what writes its value
pub record ReadsTo (plan : Plan) (i : kernel.Input) (pc : ℕ) (lines : List Line) : Type 0 where
  pub transfer : List Line
  pub write : List Line
  pub is : lines ≡ transfer ++ write
  pub reads : ReadsPortLatch plan i pc transfer
  pub writes : WritesTo plan.vars i.target (pc + length transfer) write
