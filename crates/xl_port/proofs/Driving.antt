-- An output: time, value and transfer, one after another.
use Rattle.std.proofs.Common.{◌≡◌, ℕ, ◌+◌, ◌*◌, Bool, true, List, ◌++◌, length, Option, Some, None, refl, sym, ap, ◌∙◌, subst, arith, length-append}
use Rattle.std.specs.Prelude.{option_map, slice_get}
use Rattle.xs_instr.specs.declared.image.Home.{Home}
use Rattle.xs_instr.specs.declared.instr.Instr.TheVariants.{Out}
use Rattle.xs_instr.specs.declared.instr.Reg.TheVariants.{R0, R10, R11}
use Rattle.xs_instr.specs.declared.state.CoreState.{CoreState}
use Rattle.xs_instr.specs.declared.state.Port.{Port}
use Rattle.xs_instr.specs.declared.state.Regs.{Regs}
use Rattle.xs_instr.specs.declared.state.Thread.{Thread}
use Rattle.xs_instr.specs.Did.{map_did}
use Rattle.xs_instr.specs.Lines.{Line}
use Rattle.xs_instr.specs.OwnSteps.{HasRoom, IsApart, RunsAt, StandAt}
use Rattle.xs_instr.specs.Ports.{can_send, counter, drives_by}
use Rattle.xs_instr.specs.Registers.{reg_set}
use Rattle.xs_instr.specs.Rows.{goes_with, put_ports}
use Rattle.xc_kernel.specs.Plain as kernel
use Rattle.xc_kernel.specs.Values.{Value, word}
use Rattle.xc_kernel.specs.Eval.{Store, eval}
use Rattle.xl_expr.specs.declared.plan.Plan.{Plan}
use Rattle.xl_expr.specs.Measures.{nodes}
use Rattle.xl_expr.specs.PartSteps.{WithinParts}
use Rattle.xl_expr.specs.Plans.{resource_in}
use Rattle.xl_expr.specs.ResourceParts.{port_alone}
use Rattle.xl_expr.specs.Works.{Evaluates, IsLaid}
use Rattle.xl_expr.proofs.Lists.{stand_back, stand_front}
use Rattle.xl_expr.proofs.Ways.{at_pc}
use Rattle.xl_port.specs.declared.setting.Waits.{Waits}
use Rattle.xl_port.specs.declared.setting.Waits.TheVariants.{AtOnce, Time}
use Rattle.xl_port.specs.Outputs.{DrivesPort, OutputOutcome, PutsOut, ValueOutcome, set_for}
use Rattle.xl_port.specs.Resources.{PortStands}
use Rattle.xl_port.specs.Timings.{TimeIsLaid, port_set, time_nodes}
use Rattle.xl_port.specs.Waits.{TimeEvaluates, UsesName, transfer_instrs, waits_for, when_of}
use Rattle.xl_port.proofs.PortRows.{out_row_is, port_is, port_lasts}
use Rattle.xl_port.proofs.Since.{Since, at_first, since_kept, turn_since, uses_lead, value_leads, working_r0, working_r10}
use Rattle.xl_port.proofs.Waiting.{FitsPort, HoldsWord, holds_still, port_set_leads}

module _ (plan : Plan) (o : kernel.Output) (home : Home) (relied : ℕ → Bool) (s t p : ℕ) (port : Port) (thread : Thread) (store : Store)
    (a : CoreState) (pc : ℕ) (at_work : RunsAt t pc thread a) (room : HasRoom relied s thread.regs a.words)
    (laid : IsLaid plan.vars relied s thread.regs.dp a.words store o.value)
    (stands : PortStands home relied s thread.regs.dp (resource_in plan.ports plan.timers o.resource) p port a)
    (sends : can_send port.decl.dir ≡ true) (end : ℕ) where
  abbrev SinceAt : Port → ℕ → Regs → CoreState → Type 0
  SinceAt port' = Since home relied (port_alone p) s t thread at_work.runs at_work.no_events a.words (port_is p port')

  abbrev LeadsTo : (CoreState → Type 0) → ℕ → CoreState → Type 0
  LeadsTo = WithinParts home relied (IsApart s) (port_alone p) t

  abbrev Valued : (time : Option ℕ) → Value → CoreState → Type 0
  Valued = ValueOutcome home relied s t thread a.words p port o.pos end

  -- the port is set, and the next step puts the word out
  at_out : (time : Option ℕ) (v index : ℕ) (regs : Regs) → regs.r0 ≡ v → regs.r11 ≡ stands.name → index + 1 ≡ end →
      slice_get home.parts.code.instrs index ≡ Some (Out R11 R0) → slice_get home.parts.code.«at» index ≡ Some o.pos → (b : CoreState) →
      SinceAt (set_for time port) index regs b → Valued time (word v) b
  at_out time v index regs r0_is r11_is e instr place b h = λ c k.
      let sc = since_kept home relied (port_alone p) s t thread at_work.runs at_work.no_events a.words (port_is p (set_for time port))
      (port_lasts relied t p (set_for time port)) index regs b c h k in
      let th = at_pc thread index regs in
      let turn =
      turn_since home relied (port_alone p) s t thread at_work.runs at_work.no_events a.words (port_is p (set_for time port)) index regs
      (Out R11 R0) c sc instr refl
      ∙ out_row_is home relied s t p thread at_work.runs at_work.no_events a.words stands.name stands.names index regs r11_is
      (set_for time port) c sc.there sends in
      let out : PutsOut home relied s t thread a.words p port o.pos (index + 1) time regs.r0 c = record {
        index = index;
        regs = regs;
        here = sc.here;
        place = place;
        others = sc.others;
        within = sc.room.within;
        words = sc.words;
        port_is = sc.there;
        waits = λ m. turn ∙ ap (λ z. map_did (goes_with put_ports c t th)
            (drives_by home (counter c.clock) regs.r0 c.ports p (set_for time port) z)) m;
        goes = λ m. turn ∙ ap (λ z. map_did (goes_with put_ports c t th)
            (drives_by home (counter c.clock) regs.r0 c.ports p (set_for time port) z)) m;
      } in
      subst (λ q. PutsOut home relied s t thread a.words p port o.pos q time v c) e
      (subst (λ w. PutsOut home relied s t thread a.words p port o.pos (index + 1) time w c) r0_is out)

  -- value and transfer
  behind_time : (time : Option ℕ) (waits : Waits) (time_word : ℕ) → port_set (when_of waits time_word) port ≡ set_for time port →
      FitsPort waits → (ls ms : List Line) (pc1 : ℕ) → pc1 + length ls + length ms ≡ end → Evaluates plan.vars o.value R0 pc1 ls →
      UsesName (resource_in plan.ports plan.timers o.resource) (transfer_instrs waits (Out R11 R0)) o.pos (pc1 + length ls) ms →
      StandAt home.parts.code pc1 (ls ++ ms) → (regs : Regs) → HoldsWord waits time_word regs → (b : CoreState) → SinceAt port pc1 regs b →
      LeadsTo (Valued time (eval store o.value)) (8 * nodes o.value + 4) b
  behind_time time waits time_word same fits ls ms pc1 e ev uses st regs holds b h =
      value_leads home relied (port_alone p) s t thread at_work.runs at_work.no_events a.words (port_is p port) (port_lasts relied t p port)
      plan.vars store o.value R0 working_r0 pc1 regs ls
      (Valued time) 4
      (λ v regs1 c g. uses_lead home relied (port_alone p) s t thread at_work.runs at_work.no_events a.words (port_is p port)
      (port_lasts relied t p port) (resource_in plan.ports plan.timers o.resource) stands.name (transfer_instrs waits (Out R11 R0))
      o.pos (pc1 + length ls) regs1 ms uses (stand_back home.parts.code pc1 ls ms st) stands.name_is
      (Valued time (word v)) 2
      (λ pc2 e2 st2 d k. port_set_leads home relied s t p thread at_work.runs at_work.no_events a.words stands.name stands.names port
      (Out R11 R0) o.pos (reg_set regs1 R11 stands.name) refl
      (Valued time (word v)) 0 waits time_word pc2 fits
      (holds_still waits time_word regs (reg_set regs1 R11 stands.name) (g.left R10 refl refl) holds) st2
      (λ index e3 instr place f l. at_out time v index (reg_set regs1 R11 stands.name) g.value refl (e3 ∙ (e2 ∙ e)) instr place f
      (subst (λ (q : Port). SinceAt q index (reg_set regs1 R11 stands.name) f) same l)) d k) c g.since)
      (λ kind pos c f. f) b h ev (stand_front home.parts.code pc1 ls ms st) laid

  -- by the time
  by_time : (time : Option kernel.Expression) (fs ls ms : List Line) → pc + length fs + length ls + length ms ≡ end →
      TimeEvaluates plan.vars time pc fs → TimeIsLaid plan.vars relied s thread.regs.dp a.words store time →
      Evaluates plan.vars o.value R0 (pc + length fs) ls →
      UsesName (resource_in plan.ports plan.timers o.resource) (transfer_instrs (waits_for time None) (Out R11 R0)) o.pos
      (pc + length fs + length ls) ms → StandAt home.parts.code pc (fs ++ (ls ++ ms)) →
      LeadsTo (OutputOutcome home relied s t thread a.words p port o.pos end (option_map (eval store) time) (eval store o.value))
      (8 * (time_nodes time + nodes o.value) + 4) a
  by_time None fs ls ms e none time_laid ev uses st =
      let at_start : pc + length fs ≡ pc = omega (arith, ap length none) in
      let few : 8 * nodes o.value + 4 ≡ 8 * (0 + nodes o.value) + 4 = omega arith in
      let first = at_first home relied (port_alone p) s t pc thread a (port_is p port) at_work room stands.there in
      subst (λ n. LeadsTo (Valued None (eval store o.value)) n a) few
      (behind_time None AtOnce 0 refl tt ls ms (pc + length fs) e ev uses (stand_back home.parts.code pc fs (ls ++ ms) st) thread.regs tt a
      (subst (λ q. SinceAt port q thread.regs a) (sym at_start) first))
  by_time (Some x) fs ls ms e time_evaluates time_laid ev uses st =
      let few : 8 * nodes x + (8 * nodes o.value + 4) ≡ 8 * (nodes x + nodes o.value) + 4 = omega arith in
      let first = at_first home relied (port_alone p) s t pc thread a (port_is p port) at_work room stands.there in
      subst (λ n. LeadsTo (OutputOutcome home relied s t thread a.words p port o.pos end (Some (eval store x)) (eval store o.value)) n a)
      few
      (value_leads home relied (port_alone p) s t thread at_work.runs at_work.no_events a.words (port_is p port)
      (port_lasts relied t p port) plan.vars store x R10 working_r10 pc thread.regs fs
      (λ value b. OutputOutcome home relied s t thread a.words p port o.pos end (Some value) (eval store o.value) b) (8 * nodes o.value + 4)
      (λ v regs1 b g. behind_time (Some v) Time v refl tt ls ms (pc + length fs) e ev uses (stand_back home.parts.code pc fs (ls ++ ms) st)
      regs1 g.value b g.since)
      (λ kind pos c f. f) a first time_evaluates (stand_front home.parts.code pc fs (ls ++ ms) st) time_laid)

-- the value, and the transfer behind it
pub record DrivesValue (plan : Plan) (o : kernel.Output) (pc : ℕ) (lines : List Line) : Type 0 where
  pub value : List Line
  pub transfer : List Line
  pub is : lines ≡ value ++ transfer
  pub evaluates : Evaluates plan.vars o.value R0 pc value
  pub uses : UsesName
      (resource_in plan.ports plan.timers o.resource) (transfer_instrs (waits_for o.time None) (Out R11 R0))
      o.pos (pc + length value) transfer

-- the clause of the transfer, from those of the parts
pub drives_by_parts : (plan : Plan) (o : kernel.Output) (pc : ℕ) (fs xs : List Line) → TimeEvaluates plan.vars o.time pc fs →
    DrivesValue plan o (pc + length fs) xs → DrivesPort plan o pc (fs ++ xs)
drives_by_parts plan o pc fs xs time sent = record {
  by = λ home relied s t p port thread store a st at_work room time_laid laid stands sends.
      let ls = sent.value in
      let ms = sent.transfer in
      let e : pc + length fs + length ls + length ms ≡ pc + length (fs ++ xs) = omega
      (arith, length-append fs xs, ap length sent.is, length-append ls ms) in
      by_time plan o home relied s t p port thread store a pc at_work room laid stands sends (pc + length (fs ++ xs)) o.time fs ls ms e time
      time_laid sent.evaluates sent.uses
      (subst (λ l. StandAt home.parts.code pc (fs ++ l)) sent.is st);
}
