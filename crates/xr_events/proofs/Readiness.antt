-- When a port or a timer that is set for a transfer is ready for an event: where the program's transfer may pass.
use Rattle.std.proofs.Common.{◌≡◌, ◌≢◌, ℕ, ◌%◌, ◌^◌, Bool, true, false, refl, sym, ap, ◌∙◌, ⊎_elim, eq-eqb}
use Rattle.std.specs.Prelude.{Some, nat_eq, not, slice_get, ◌&&◌}
use Rattle.std.proofs.lemmas.Bool.{cases_eq, ne_eqb}
use Rattle.xs_instr.specs.declared.image.Home.{Home}
use Rattle.xs_instr.specs.declared.image.PortDecl.{PortDecl}
use Rattle.xs_instr.specs.declared.state.CoreState.{CoreState}
use Rattle.xs_instr.specs.declared.state.Port.{Port as PortState}
use Rattle.xs_instr.specs.declared.state.Timer.{Timer as TimerState}
use Rattle.xs_instr.specs.Ports.{counter, low_bits, meets, pins_from}
use Rattle.xs_instr.specs.Ports as machine
use Rattle.xs_instr.specs.Ports.{port_is_ready}
use Rattle.xs_instr.specs.Timers.{timer_is_ready, timer_meets}
use Rattle.xc_kernel.specs.declared.statement.KRes.{KRes}
use Rattle.xc_kernel.specs.declared.statement.KRes.TheVariants.{Port, Timer, Chan}
use Rattle.xc_meaning.specs.Settings.Select.{resource_is_ready}
use Rattle.xc_meaning.specs.Settings.Setting.{Setting}
use Rattle.xc_meaning.specs.Settings.Time.{counter_of, identifier_of, pins_of, port_may_pass, timer_may_pass}
use Rattle.xc_meaning.specs.States.Items.{Choice, When, now, at_time, pins_equal, pins_differ, after_time}
use Rattle.xl_port.specs.Timings.{port_set, timer_set}
use Rattle.xr_events.specs.Armed.{IsSetFor, Places, StandsFor, res_of}
use Rattle.xr_events.specs.Readiness.{SameMoment, is_ready_for}

-- two numbers are compared either way
eqb_swap : (a b : ℕ) → nat_eq a b ≡ nat_eq b a
eqb_swap a b =
    ⊎_elim
    (λ (e : a ≡ b). eq-eqb a b e ∙ sym (eq-eqb b a (sym e)))
    (λ (ne : a ≢ b). ne_eqb a b ne ∙ sym (ne_eqb b a (λ e. ne (sym e))))
    (cases_eq a b)

and_true : (b : Bool) → (b && true) ≡ b
and_true true = refl
and_true false = refl

-- a port is declared as it was, however it is set
pub set_declared : (when : When) (port : PortState) → (port_set when port).decl ≡ port.decl
set_declared now port = refl
set_declared (at_time t) port = refl
set_declared (pins_equal v) port = refl
set_declared (pins_differ v) port = refl
set_declared (after_time t) port = refl

module _ (home : Home) (core : CoreState) (s : Setting) (moment : SameMoment home core s) where
  -- both sides have the same counter and the same pins
  pub counters_agree : counter_of s ≡ counter core.clock
  counters_agree = ap counter moment.clock

  pub pins_agree : (p id : ℕ) → id ≡ identifier_of s p → machine.pins_of home core.clock id ≡ pins_of s p
  pins_agree p id is =
      ap (λ l. pins_from l home.number id core.clock 0) moment.lines
      ∙ ap (λ (n : ℕ). pins_from s.stimulus.lines n id core.clock 0) moment.number
      ∙ ap (λ (n : ℕ). pins_from s.stimulus.lines s.branch.core n core.clock 0) is
      ∙ ap (λ (n : ℕ). pins_from s.stimulus.lines s.branch.core (identifier_of s p) n 0) (sym moment.clock)

  -- a port that is set for a transfer meets where the transfer may pass
  pub port_agrees : (when : When) (p : ℕ) (port : PortState) → port.decl.port ≡ identifier_of s p → meets home core.clock (port_set when port) ≡ port_may_pass s p when
  port_agrees now p port id = refl
  port_agrees (at_time t) p port id =
      and_true (nat_eq (t % 2 ^ 16) (counter core.clock))
      ∙ eqb_swap (t % 2 ^ 16) (counter core.clock)
      ∙ ap (λ c. nat_eq c (t % 2 ^ 16)) (sym counters_agree)
  port_agrees (pins_equal v) p port id =
      ap (λ (k : ℕ). nat_eq (machine.pins_of home core.clock port.decl.port) (low_bits v k)) id
      ∙ ap (λ (k : ℕ). nat_eq k (low_bits v (identifier_of s p))) (pins_agree p port.decl.port id)
  port_agrees (pins_differ v) p port id =
      ap (λ (k : ℕ). not (nat_eq (machine.pins_of home core.clock port.decl.port) (low_bits v k))) id
      ∙ ap (λ (k : ℕ). not (nat_eq k (low_bits v (identifier_of s p)))) (pins_agree p port.decl.port id)
  port_agrees (after_time t) p port id = refl

  -- and so does a timer
  pub timer_agrees : (when : When) (timer : TimerState) → timer_meets (timer_set when timer).cond core.clock (timer_set when timer).datum ≡ timer_may_pass s when
  timer_agrees now timer = refl
  timer_agrees (at_time t) timer = refl
  timer_agrees (pins_equal v) timer = refl
  timer_agrees (pins_differ v) timer = refl
  timer_agrees (after_time t) timer =
      ap (λ (k : ℕ). timer_meets (timer_set (after_time t) timer).cond k t) (sym moment.clock)

  module _ (places : Places) where
    -- the identifier of a port that is set
    pub set_identifier : (when : When) (p : ℕ) (port : PortState) → StandsFor core s places (Port p) → slice_get core.ports (places.port p) ≡ Some (port_set when port) → port.decl.port ≡ identifier_of s p
    set_identifier when p port stands there =
        sym (ap (λ (d : PortDecl). d.port) (set_declared when port)) ∙ stands (port_set when port) there

    -- a resource that is set for a case is ready where the case is
    pub case_agrees : (c : Choice) (res : KRes) → IsSetFor places core c.when res → StandsFor core s places res → is_ready_for home core (res_of places res) ≡ resource_is_ready s c res
    case_agrees c (Port p) (port, there) stands =
        ap (port_is_ready home core.clock) there ∙ port_agrees c.when p port (set_identifier c.when p port stands there)
    case_agrees c (Timer t) (timer, there) stands =
        ap (timer_is_ready core.clock) there ∙ timer_agrees c.when timer
    case_agrees c (Chan d) set arrived = arrived
