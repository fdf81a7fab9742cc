-- The time or condition of a transfer comes to r10, and sets a port or a timer.
use Rattle.std.proofs.Common.{◌≡◌, ℕ, suc, ◌+◌, ◌*◌, Bool, true, false, List, Option, Some, None, refl, sym, ap, ◌∙◌, subst, arith, length, inl, inr}
use Rattle.std.specs.Prelude.{nat_eq, slice_get, if◌then◌else◌}
use Rattle.xw_words.specs.declared.pos.Pos.{Pos}
use Rattle.xs_instr.specs.declared.image.Home.{Home}
use Rattle.xs_instr.specs.declared.instr.Cond.TheVariants.{None as NoCond}
use Rattle.xs_instr.specs.declared.instr.Instr.{Instr}
use Rattle.xs_instr.specs.declared.instr.Instr.TheVariants.{Setc, Setd, Setpt}
use Rattle.xs_instr.specs.declared.instr.Reg.TheVariants.{R10, R11}
use Rattle.xs_instr.specs.declared.state.CoreState.{CoreState}
use Rattle.xs_instr.specs.declared.state.Mode.TheVariants.{Running}
use Rattle.xs_instr.specs.declared.state.Port.{Port}
use Rattle.xs_instr.specs.declared.state.Regs.{Regs}
use Rattle.xs_instr.specs.declared.state.Res.{Res}
use Rattle.xs_instr.specs.declared.state.Thread.{Thread}
use Rattle.xs_instr.specs.declared.state.Timer.{Timer}
use Rattle.xs_instr.specs.Lines.{Line, at_pos}
use Rattle.xs_instr.specs.OwnSteps.{IsApart, StandAt}
use Rattle.xs_instr.specs.Resources.{APort, ATimer, named}
use Rattle.xc_tree.specs.Words.{pinseq_word, pinsneq_word}
use Rattle.xc_kernel.specs.Conditions.{AsksForPins, AsksForTime}
use Rattle.xc_kernel.specs.Plain as kernel
use Rattle.xc_kernel.specs.Values.{ErrorKind}
use Rattle.xc_kernel.specs.Eval.{Store}
use Rattle.xc_meaning.specs.Settings.Time.{Timing, fails, passes, timing, timing_by, when_tested}
use Rattle.xc_meaning.specs.States.Items.{at_time, pins_equal, pins_differ, after_time}
use Rattle.xl_expr.specs.declared.plan.VarPlan.{VarPlan}
use Rattle.xl_expr.specs.PartSteps.{KeptParts, PartsStep}
use Rattle.xl_expr.specs.ResourceParts.{port_alone, timer_alone}
use Rattle.xl_expr.specs.Works.{Errs}
use Rattle.xl_expr.proofs.Wider.{leads_more}
use Rattle.xl_port.specs.declared.setting.Test.{Test}
use Rattle.xl_port.specs.declared.setting.Test.TheVariants.{PinsEqual, PinsDiffer, AfterTime}
use Rattle.xl_port.specs.declared.setting.Waits.{Waits}
use Rattle.xl_port.specs.declared.setting.Waits.TheVariants.{AtOnce, Time, Condition}
use Rattle.xl_port.specs.Timings.{TimeIsLaid, port_set, time_nodes, timer_set, timing_expression}
use Rattle.xl_port.specs.Waits.{TimeEvaluates, cond_of, test_named, transfer_instrs, waits_for, when_of}
use Rattle.xl_port.proofs.Since.{Lasts, Since, Leads, turns_lead, value_leads, working_r10}
use Rattle.xl_port.proofs.PortRows as port_row
use Rattle.xl_port.proofs.PortRows.{port_is, port_lasts}
use Rattle.xl_port.proofs.TimerRows as timer_row
use Rattle.xl_port.proofs.TimerRows.{timer_is, timer_lasts}

-- the word that is waited for stands in r10
abbrev pub HoldsWord : Waits → (v : ℕ) → Regs → Type 0
HoldsWord AtOnce v regs = Unit {0}
HoldsWord Time v regs = regs.r10 ≡ v
HoldsWord (Condition test) v regs = regs.r10 ≡ v

pub holds_still : (waits : Waits) (v : ℕ) (regs regs' : Regs) → regs'.r10 ≡ regs.r10 → HoldsWord waits v regs → HoldsWord waits v regs'
holds_still AtOnce v regs regs' e h = tt
holds_still Time v regs regs' e h = e ∙ h
holds_still (Condition test) v regs regs' e h = e ∙ h

-- what a port, and what a timer, can wait for

abbrev pub FitsPort : Waits → Type 0
FitsPort AtOnce = Unit {0}
FitsPort Time = Unit {0}
FitsPort (Condition PinsEqual) = Unit {0}
FitsPort (Condition PinsDiffer) = Unit {0}
FitsPort (Condition AfterTime) = ⊥

abbrev pub FitsTimer : Waits → Type 0
FitsTimer AtOnce = Unit {0}
FitsTimer Time = ⊥
FitsTimer (Condition PinsEqual) = ⊥
FitsTimer (Condition PinsDiffer) = ⊥
FitsTimer (Condition AfterTime) = Unit {0}

pub pins_fit : (time : Option kernel.Expression) (condition : Option kernel.Condition) → AsksForPins condition →
    FitsPort (waits_for time condition)
pins_fit (Some x) condition h = tt
pins_fit None None h = tt
pins_fit None (Some c) (inl e) = subst (λ w. FitsPort (Condition (test_named w))) (sym e) tt
pins_fit None (Some c) (inr e) = subst (λ w. FitsPort (Condition (test_named w))) (sym e) tt

abbrev IsNone : Option kernel.Expression → Type 0
IsNone None = Unit {0}
IsNone (Some x) = ⊥

pub time_fits : (time : Option kernel.Expression) (condition : Option kernel.Condition) → time ≡ None → AsksForTime condition →
    FitsTimer (waits_for time condition)
time_fits (Some x) condition e h = subst (λ o. IsNone o) (sym e) tt
time_fits None None e h = tt
time_fits None (Some c) e h = subst (λ w. FitsTimer (Condition (test_named w))) (sym h) tt

-- a condition waits for what the program waits for
tested_by : (equal differ : Bool) (v : ℕ) →
    when_of (Condition (if equal then PinsEqual else if differ then PinsDiffer else AfterTime))
    v ≡ (if equal then pins_equal v else if differ then pins_differ v else after_time v)
tested_by true differ v = refl
tested_by false true v = refl
tested_by false false v = refl

tested_alike : (test v : ℕ) → when_of (Condition (test_named test)) v ≡ when_tested test v
tested_alike test v = tested_by (nat_eq test pinseq_word) (nat_eq test pinsneq_word) v

-- by a time, by a condition or by neither
module _ (home : Home) (relied : ℕ → Bool) (mine : Res → Type 0) (s t : ℕ) (thread : Thread) (runs : thread.mode ≡ Running)
    (quiet : thread.event_bit ≡ false) (old : List ℕ) (Has : CoreState → Type 0) (lasts : Lasts relied mine t Has)
    (vars : List (Option VarPlan)) (store : Store) (Outcome : Timing → CoreState → Type 0)
    (errs : (kind : ErrorKind) (pos : Pos) (b : CoreState) → ((c : CoreState) → KeptParts relied mine t b c → Errs home t kind pos c) →
    Outcome (fails kind pos) b) (pc : ℕ) (ls : List Line) (st : StandAt home.parts.code pc ls) (regs : Regs) (n : ℕ) where
  abbrev SinceAt : ℕ → Regs → CoreState → Type 0
  SinceAt = Since home relied mine s t thread runs quiet old Has

  abbrev LeadsTo : Timing → ℕ → CoreState → Type 0
  LeadsTo w = Leads home relied mine s t thread runs quiet old (Outcome w)

  pub timing_leads : (time : Option kernel.Expression) (condition : Option kernel.Condition) →
      TimeEvaluates vars (timing_expression time condition) pc ls →
      TimeIsLaid vars relied s thread.regs.dp old store (timing_expression time condition) →
      ((v : ℕ) (regs' : Regs) (b : CoreState) → SinceAt (pc + length ls) regs' b → HoldsWord (waits_for time condition) v regs' →
      LeadsTo (passes (when_of (waits_for time condition) v)) n b) → (a : CoreState) → SinceAt pc regs a →
      LeadsTo (timing store time condition) (8 * time_nodes (timing_expression time condition) + n) a
  timing_leads (Some x) condition ev laid next a h =
      value_leads home relied mine s t thread runs quiet old Has lasts vars store x R10 working_r10 pc regs ls
      (λ value b. Outcome (timing_by value at_time) b) n (λ v regs' b g. next v regs' b g.since g.value) errs a h ev st laid
  timing_leads None (Some c) ev laid next a h =
      value_leads home relied mine s t thread runs quiet old Has lasts vars store c.value R10 working_r10 pc regs ls
      (λ value b. Outcome (timing_by value (when_tested c.test)) b) n
      (λ v regs' b g. subst (λ w. LeadsTo (passes w) n b) (tested_alike c.test v) (next v regs' b g.since g.value)) errs a h ev st laid
  timing_leads None None none laid next a h =
      let e : pc ≡ pc + length ls = omega (arith, ap length none) in
      let few : n ≡ 0 + n = omega arith in
      subst (λ k. LeadsTo (timing store None None) k a) few (next 0 regs a (subst (λ q. SinceAt q regs a) e h) tt)

-- a port is set, and the thread stands at the transfer's own instruction
module _ (home : Home) (relied : ℕ → Bool) (s t p : ℕ) (thread : Thread) (runs : thread.mode ≡ Running) (quiet : thread.event_bit ≡ false)
    (old : List ℕ) (name : ℕ) (names : named home.number name ≡ APort p) (port : Port) (own : Instr) (pos : Pos) (regs : Regs)
    (r11_is : regs.r11 ≡ name) (Q : CoreState → Type 0) (n : ℕ) where
  abbrev PortSince : Port → ℕ → CoreState → Type 0
  PortSince port' pc = Since home relied (port_alone p) s t thread runs quiet old (port_is p port') pc regs

  abbrev PortLeads : ℕ → CoreState → Type 0
  PortLeads = Leads home relied (port_alone p) s t thread runs quiet old Q

  -- the instruction behind those that set it
  abbrev pub AtOwnPort : (waits : Waits) (v pc : ℕ) → Type 0
  AtOwnPort waits v pc = (index : ℕ) → index + 1 ≡ pc + length (at_pos pos (transfer_instrs waits own)) →
      slice_get home.parts.code.instrs index ≡ Some own → slice_get home.parts.code.«at» index ≡ Some pos → (b : CoreState) →
      PortSince (port_set (when_of waits v) port) index b → PortLeads n b

  set_then : (test : Test) (v pc : ℕ) (cleared : Port) →
      port_row.PortTurns home relied s t p thread runs quiet old name names pc regs r11_is port cleared regs (Setc R11 (cond_of test)) →
      regs.r10 ≡ v → StandAt home.parts.code pc (at_pos pos (transfer_instrs (Condition test) own)) →
      ((index : ℕ) → index + 1 ≡ pc + 3 → slice_get home.parts.code.instrs index ≡ Some own →
      slice_get home.parts.code.«at» index ≡ Some pos → (b : CoreState) → PortSince (record cleared { datum = v }) index b →
      PortLeads n b) → (a : CoreState) → PortSince port pc a → PortLeads (suc (suc n)) a
  set_then test v pc cleared setc holds st next a h =
      turns_lead home relied (port_alone p) s t thread runs quiet old (port_is p port) (port_is p cleared) pc regs regs
      (Setc R11 (cond_of test)) (port_lasts relied t p port) setc st.0 Q (suc n)
      (turns_lead home relied (port_alone p) s t thread runs quiet old (port_is p cleared) (port_is p (record cleared { datum = v }))
      (pc + 1) regs regs (Setd R11 R10) (port_lasts relied t p cleared)
      (port_row.setd_turns home relied s t p thread runs quiet old name names (pc + 1) regs r11_is cleared v holds) st.2.0 Q n
      (next (pc + 1 + 1) (omega arith) st.2.2.0 st.2.2.1)) a h

  pub port_set_leads : (waits : Waits) (v pc : ℕ) → FitsPort waits → HoldsWord waits v regs →
      StandAt home.parts.code pc (at_pos pos (transfer_instrs waits own)) → AtOwnPort waits v pc → (a : CoreState) → PortSince port pc a →
      PortLeads (suc (suc n)) a
  port_set_leads AtOnce v pc fits holds st next a h =
      let cleared = record port { cond = NoCond; latch = None; time = None } in
      leads_more (KeptParts relied (port_alone p) t) (PartsStep home (IsApart s) (port_alone p) t) Q (suc n) (suc (suc n)) (omega arith) a
      (turns_lead home relied (port_alone p) s t thread runs quiet old (port_is p port) (port_is p cleared) pc regs regs (Setc R11 NoCond)
      (port_lasts relied t p port)
      (port_row.setc_turns home relied s t p thread runs quiet old name names pc regs r11_is NoCond port refl) st.0 Q n
      (next (pc + 1) (omega arith) st.2.0 st.2.1) a h)
  port_set_leads Time v pc fits holds st next a h =
      let cleared = record port { cond = NoCond; latch = None; time = None } in
      turns_lead home relied (port_alone p) s t thread runs quiet old (port_is p port) (port_is p cleared) pc regs regs (Setc R11 NoCond)
      (port_lasts relied t p port)
      (port_row.setc_turns home relied s t p thread runs quiet old name names pc regs r11_is NoCond port refl) st.0 Q (suc n)
      (turns_lead home relied (port_alone p) s t thread runs quiet old (port_is p cleared) (port_is p (port_set (at_time v) port)) (pc + 1)
      regs regs (Setpt R11 R10) (port_lasts relied t p cleared)
      (port_row.setpt_turns home relied s t p thread runs quiet old name names (pc + 1) regs r11_is cleared v holds) st.2.0 Q n
      (next (pc + 1 + 1) (omega arith) st.2.2.0 st.2.2.1)) a h
  port_set_leads (Condition PinsEqual) v pc fits holds st next a h =
      set_then PinsEqual v pc (record port { cond = cond_of PinsEqual; latch = None; time = None })
      (port_row.setc_turns home relied s t p thread runs quiet old name names pc regs r11_is (cond_of PinsEqual) port refl) holds st next a
      h
  port_set_leads (Condition PinsDiffer) v pc fits holds st next a h =
      set_then PinsDiffer v pc (record port { cond = cond_of PinsDiffer; latch = None; time = None })
      (port_row.setc_turns home relied s t p thread runs quiet old name names pc regs r11_is (cond_of PinsDiffer) port refl) holds st next a
      h
  port_set_leads (Condition AfterTime) v pc fits holds st next a h = absurd fits

-- and a timer
module _ (home : Home) (relied : ℕ → Bool) (s t m : ℕ) (thread : Thread) (runs : thread.mode ≡ Running) (quiet : thread.event_bit ≡ false)
    (old : List ℕ) (name : ℕ) (names : named home.number name ≡ ATimer m) (timer : Timer) (own : Instr) (pos : Pos) (regs : Regs)
    (r11_is : regs.r11 ≡ name) (Q : CoreState → Type 0) (n : ℕ) where
  abbrev TimerSince : Timer → ℕ → CoreState → Type 0
  TimerSince timer' pc = Since home relied (timer_alone m) s t thread runs quiet old (timer_is m timer') pc regs

  abbrev TimerLeads : ℕ → CoreState → Type 0
  TimerLeads = Leads home relied (timer_alone m) s t thread runs quiet old Q

  abbrev pub AtOwnTimer : (waits : Waits) (v pc : ℕ) → Type 0
  AtOwnTimer waits v pc = (index : ℕ) → index + 1 ≡ pc + length (at_pos pos (transfer_instrs waits own)) →
      slice_get home.parts.code.instrs index ≡ Some own → slice_get home.parts.code.«at» index ≡ Some pos → (b : CoreState) →
      TimerSince (timer_set (when_of waits v) timer) index b → TimerLeads n b

  pub timer_set_leads : (waits : Waits) (v pc : ℕ) → FitsTimer waits → HoldsWord waits v regs →
      StandAt home.parts.code pc (at_pos pos (transfer_instrs waits own)) → AtOwnTimer waits v pc → (a : CoreState) →
      TimerSince timer pc a → TimerLeads (suc (suc n)) a
  timer_set_leads AtOnce v pc fits holds st next a h =
      let cleared = record timer { cond = NoCond; latch = None } in
      leads_more (KeptParts relied (timer_alone m) t) (PartsStep home (IsApart s) (timer_alone m) t) Q (suc n) (suc (suc n)) (omega arith) a
      (turns_lead home relied (timer_alone m) s t thread runs quiet old (timer_is m timer) (timer_is m cleared) pc regs regs
      (Setc R11 NoCond) (timer_lasts relied t m timer)
      (timer_row.setc_turns home relied s t m thread runs quiet old name names pc regs r11_is NoCond timer refl) st.0 Q n
      (next (pc + 1) (omega arith) st.2.0 st.2.1) a h)
  timer_set_leads (Condition AfterTime) v pc fits holds st next a h =
      let cleared = record timer { cond = cond_of AfterTime; latch = None } in
      turns_lead home relied (timer_alone m) s t thread runs quiet old (timer_is m timer) (timer_is m cleared) pc regs regs
      (Setc R11 (cond_of AfterTime)) (timer_lasts relied t m timer)
      (timer_row.setc_turns home relied s t m thread runs quiet old name names pc regs r11_is (cond_of AfterTime) timer refl) st.0 Q (suc n)
      (turns_lead home relied (timer_alone m) s t thread runs quiet old (timer_is m cleared) (timer_is m (timer_set (after_time v) timer))
      (pc + 1) regs regs (Setd R11 R10) (timer_lasts relied t m cleared)
      (timer_row.setd_turns home relied s t m thread runs quiet old name names (pc + 1) regs r11_is cleared v holds) st.2.0 Q n
      (next (pc + 1 + 1) (omega arith) st.2.2.0 st.2.2.1)) a h
  timer_set_leads Time v pc fits holds st next a h = absurd fits
  timer_set_leads (Condition PinsEqual) v pc fits holds st next a h = absurd fits
  timer_set_leads (Condition PinsDiffer) v pc fits holds st next a h = absurd fits
