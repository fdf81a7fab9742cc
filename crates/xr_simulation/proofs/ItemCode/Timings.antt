-- When a transfer over a port or a timer may pass: the machine's port or timer, once it is set, meets where the branch's transfer may pass.
use Rattle.std.proofs.Common.{◌≡◌, ◌≢◌, ℕ, zero, suc, ◌+◌, ◌%◌, ◌^◌, ◌≤◌, Bool, true, false, List, [], ◌∷◌, Option, Some, None, refl, sym, ap, ◌∙◌, ⊎_elim, arith, eq-eqb}
use Rattle.std.specs.Prelude.{slice_get, nat_eq, not, ◌&&◌}
use Rattle.std.proofs.lemmas.Bool.{cases_eq, ne_eqb}
use Rattle.std.proofs.lemmas.Option.{same_Some}
use Rattle.xs_instr.specs.declared.image.Home.{Home}
use Rattle.xs_instr.specs.declared.state.Port.{Port}
use Rattle.xs_instr.specs.declared.state.Timer.{Timer}
use Rattle.xs_instr.specs.Ports.{counter, low_bits, meets, pins_from}
use Rattle.xs_instr.specs.Ports as machine
use Rattle.xs_instr.specs.Timers.{timer_meets}
use Rattle.xc_tree.specs.Depth.{if_some}
use Rattle.xc_kernel.specs.declared.kernel.PortUse.{PortUse}
use Rattle.xc_kernel.specs.Plain as kernel
use Rattle.xc_kernel.specs.Eval.{Store, words_of}
use Rattle.xc_meaning.specs.Counts.KernelCounts.{of_condition, of_expression}
use Rattle.xc_meaning.specs.Settings.Setting as source
use Rattle.xc_meaning.specs.Settings.Time.{clock_of, counter_of, identifier_in, identifier_of, pins_of, port_may_pass, timer_may_pass, timing, timing_by, when_tested}
use Rattle.xc_meaning.specs.States.Items.{When, now, at_time, pins_equal, pins_differ, after_time}
use Rattle.xl_port.specs.Timings.{TimeIsLaid, port_set, time_nodes, timer_set, timing_expression}
use Rattle.xr_simulation.specs.Fits.{UsesCondition, UsesSome}
use Rattle.xr_simulation.specs.Runners.{IsLaidOut, Setting, Runner, plan, relied}
use Rattle.xr_simulation.specs.ThreadViews.{ThreadView}
use Rattle.xr_simulation.specs.NextStep.{HasBases, HoldsStore}
use Rattle.xs_instr.specs.declared.state.Regs.{Regs}
use Rattle.xr_simulation.proofs.ItemCode.Evaluations.{eval_still, nodes_are}
use Rattle.xr_simulation.proofs.RelyGuarantee.Layouts.{laid_at}

-- two numbers are compared either way
pub eqb_swap : (a b : ℕ) → nat_eq a b ≡ nat_eq b a
eqb_swap a b =
    ⊎_elim
    (λ (e : a ≡ b). eq-eqb a b e ∙ sym (eq-eqb b a (sym e)))
    (λ (ne : a ≢ b). ne_eqb a b ne ∙ sym (ne_eqb b a (λ e. ne (sym e))))
    (cases_eq a b)

-- a port of a kernel's list has its own identifier
pub identifier_is : (ports : List PortUse) (p : ℕ) (listed : PortUse) → slice_get ports p ≡ Some listed → identifier_in ports p ≡ listed.id
identifier_is [] p listed h = cc
identifier_is (u ∷ us) zero listed h = ap (λ (x : PortUse). x.id) (same_Some u listed h)
identifier_is (u ∷ us) (suc p) listed h = identifier_is us p listed h

-- a time costs what it counts
pub time_costs : (time : Option kernel.Expression) → time_nodes time ≡ if_some of_expression time
time_costs None = refl
time_costs (Some x) = nodes_are x

-- and a time or a condition no more than both count
pub waiting_costs : (time : Option kernel.Expression) (condition : Option kernel.Condition) →
    time_nodes (timing_expression time condition) ≤ if_some of_expression time + if_some of_condition condition
waiting_costs (Some x) condition = let e = nodes_are x in omega arith
waiting_costs None (Some c) = let e = nodes_are c.value in omega arith
waiting_costs None None = omega arith

and_true : (b : Bool) → (b && true) ≡ b
and_true true = refl
and_true false = refl

-- Machine and program at one moment: they have the same clock, and the same stimulus for the same core.
module _ (home : Home) (clock : ℕ) (s : source.Setting) (same_clock : clock_of s ≡ clock) (number : home.number ≡ s.branch.core)
    (lines : home.stim ≡ s.stimulus.lines) where
  -- so they have the same counter and the same pins
  pub counters_agree : counter_of s ≡ counter clock
  counters_agree = ap counter same_clock

  pub pins_agree : (p id : ℕ) → id ≡ identifier_of s p → machine.pins_of home clock id ≡ pins_of s p
  pins_agree p id is =
      ap (λ l. pins_from l home.number id clock 0) lines
      ∙ ap (λ (n : ℕ). pins_from s.stimulus.lines n id clock 0) number
      ∙ ap (λ (n : ℕ). pins_from s.stimulus.lines s.branch.core n clock 0) is
      ∙ ap (λ (n : ℕ). pins_from s.stimulus.lines s.branch.core (identifier_of s p) n 0) (sym same_clock)

  -- a port that is set for a transfer meets where the transfer may pass
  pub port_agrees : (when : When) (p : ℕ) (port : Port) → port.decl.port ≡ identifier_of s p →
      meets home clock (port_set when port) ≡ port_may_pass s p when
  port_agrees now p port id = refl
  port_agrees (at_time t) p port id =
      and_true (nat_eq (t % 2 ^ 16) (counter clock))
      ∙ eqb_swap (t % 2 ^ 16) (counter clock)
      ∙ ap (λ c. nat_eq c (t % 2 ^ 16)) (sym counters_agree)
  port_agrees (pins_equal v) p port id =
      ap (λ (k : ℕ). nat_eq (machine.pins_of home clock port.decl.port) (low_bits v k)) id
      ∙ ap (λ (k : ℕ). nat_eq k (low_bits v (identifier_of s p))) (pins_agree p port.decl.port id)
  port_agrees (pins_differ v) p port id =
      ap (λ (k : ℕ). not (nat_eq (machine.pins_of home clock port.decl.port) (low_bits v k))) id
      ∙ ap (λ (k : ℕ). not (nat_eq k (low_bits v (identifier_of s p)))) (pins_agree p port.decl.port id)
  port_agrees (after_time t) p port id = refl

  -- and so does a timer
  pub timer_agrees : (when : When) (timer : Timer) →
      timer_meets (timer_set when timer).cond clock (timer_set when timer).datum ≡ timer_may_pass s when
  timer_agrees now timer = refl
  timer_agrees (at_time t) timer = refl
  timer_agrees (pins_equal v) timer = refl
  timer_agrees (pins_differ v) timer = refl
  timer_agrees (after_time t) timer = ap (λ (k : ℕ). timer_meets (timer_set (after_time t) timer).cond k t) (sym same_clock)

-- A port is declared as it was, however it is set.
pub set_declared : (when : When) (port : Port) → (port_set when port).decl ≡ port.decl
set_declared now port = refl
set_declared (at_time t) port = refl
set_declared (pins_equal v) port = refl
set_declared (pins_differ v) port = refl
set_declared (after_time t) port = refl

module _ (g : Setting) (r : Runner) where
  -- the words of a time's variables stand where the plan has them
  pub time_laid : (laid : IsLaidOut g r) (z : ThreadView) (regs : Regs) (time : Option kernel.Expression) → UsesSome g r time →
      HasBases g r regs → HoldsStore g r z → TimeIsLaid (plan g r).vars (relied g r) r.stack regs.dp z.core.words z.world.store time
  time_laid laid z regs None uses bases h = tt
  time_laid laid z regs (Some x) uses bases h = laid_at g r laid z regs x uses bases h

  -- those of a time or a condition are the runner's
  pub timing_uses : (time : Option kernel.Expression) (condition : Option kernel.Condition) → UsesSome g r time →
      UsesCondition g r condition → UsesSome g r (timing_expression time condition)
  timing_uses (Some x) condition h k = h
  timing_uses None (Some c) h k = k
  timing_uses None None h k = tt

  -- a transfer waits for the same where the words of the runner's variables stay
  pub timing_still : (old new : Store) → ((v : ℕ) → r.footprint.uses v ≡ true → words_of new v ≡ words_of old v) →
      (time : Option kernel.Expression) (condition : Option kernel.Condition) → UsesSome g r time → UsesCondition g r condition →
      timing new time condition ≡ timing old time condition
  timing_still old new same (Some x) condition h k =
      ap (λ v. timing_by v at_time) (eval_still (plan g r).vars r.footprint.uses old new same x h)
  timing_still old new same None (Some c) h k =
      ap (λ v. timing_by v (when_tested c.test)) (eval_still (plan g r).vars r.footprint.uses old new same c.value k)
  timing_still old new same None None h k = refl
