-- The steps at ports, from what fits to what is made.
use Rattle.std.proofs.Common.{◌≡◌, ◌%◌, ◌^◌, ◌||◌, ℕ, Bool, true, false, List, [], Option, Some, None, refl, sym, ap, ◌∙◌, subst}
use Rattle.std.specs.Option.{unwrap_or}
use Rattle.std.specs.Prelude.{slice_set}
use Rattle.xs_core.proofs.EndRows.{next, next_with}
use Rattle.xs_core.proofs.FoundPorts.{latched_step}
use Rattle.xs_core.proofs.PoolRows.{told_made}
use Rattle.xs_core.proofs.There.{there}
use Rattle.xs_core.specs.declared.port_rows.PortStep.{PortStep}
use Rattle.xs_core.specs.declared.port_rows.PortStep.TheVariants.{Drive, Read, PortCond, PortData, PortTime, Clock, TimerCond, TimerData}
use Rattle.xs_core.specs.declared.state.State.{State}
use Rattle.xs_core.specs.Ports.{PortFits, port_did}
use Rattle.xs_core.specs.Seen.{home_of, state_of, thread_at, timer_at}
use Rattle.xs_core.specs.SlotResults.{IsMade, Keeps}
use Rattle.xs_instr.specs.declared.image.PortDecl.{PortDecl}
use Rattle.xs_instr.specs.declared.instr.Cond.{Cond}
use Rattle.xs_instr.specs.declared.instr.Reg.{Reg}
use Rattle.xs_instr.specs.declared.state.CoreState.{CoreState}
use Rattle.xs_instr.specs.declared.state.Port.{Port}
use Rattle.xs_instr.specs.declared.state.PortGot.{PortGot}
use Rattle.xs_instr.specs.declared.state.Thread.{Thread}
use Rattle.xs_instr.specs.declared.state.Timer.{Timer}
use Rattle.xs_instr.specs.declared.trace.Record.{Record}
use Rattle.xs_instr.specs.declared.trace.Record.TheVariants.{PortOut, PortIn}
use Rattle.xs_instr.specs.Did.{Did, Made, Paused, is_step, makes, map_did}
use Rattle.xs_instr.specs.Machine.{boot_timer}
use Rattle.xs_instr.specs.Ports.{counter, drives, drives_by, drives_on, got_record, meets, port_cond_by, port_cond_set, port_data_set, port_time_set, reads, reads_latched, reads_now, reads_on, time_meets}
use Rattle.xs_instr.specs.Resources.{usable}
use Rattle.xs_instr.specs.Rows.{gets_with, goes_with, put_ports, put_timers}
use Rattle.xs_instr.specs.Slot.{is_there}
use Rattle.xs_instr.specs.Timers.{clock_by, clock_read, given_timer, timer_cond_by, timer_cond_set, timer_data_set, timer_meets}
use Rattle.xs_port.specs.Ports.{home_of as home_of_ports, no_port, port_at, with_port}
use Rattle.xs_port.specs.State.{PortsState}

-- the step makes that, where it is that step
as_step : (s : State) (t : ℕ) (new : CoreState) (made : Option Record) (step is_step : PortStep) → step ≡ is_step →
    IsMade (port_did (home_of s) (state_of s) t (thread_at s.threads t) is_step) new made →
    IsMade (port_did (home_of s) (state_of s) t (thread_at s.threads t) step) new made
as_step s t new made step is_step is h =
    subst (λ k. IsMade (port_did (home_of s) (state_of s) t (thread_at s.threads t) k) new made) (sym is) h

-- a port is changed, and thread t goes on
port_put : (s : State) (t p : ℕ) (port : Port) (threads : List Thread) (ports : PortsState) (did : Did (List Port)) → did ≡ makes (slice_set s.ports.ports p port) → ports ≡ with_port s.ports p port → threads ≡ slice_set s.threads t (next (thread_at s.threads t)) → IsMade (map_did (goes_with put_ports (state_of s) t (thread_at s.threads t)) did) (state_of (record s { threads = threads; ports = ports })) None
port_put s t p port threads ports did is put set =
    told_made (goes_with put_ports (state_of s) t (thread_at s.threads t)) did (slice_set s.ports.ports p port) _ is
    (ap (λ q. state_of (record s { threads = threads; ports = q })) put ∙ ap (λ l. state_of (record s { threads = l; ports = with_port s.ports p port })) set)

-- a port's condition is set
pub cond_made : (s : State) (t p : ℕ) (cond : Cond) (step : PortStep) (threads : List Thread) (ports : PortsState) → step ≡ PortCond p cond → PortFits (home_of s) (state_of s) step → ports ≡ with_port s.ports p (record (port_at s.ports p) { cond = cond; latch = None; time = None }) → threads ≡ slice_set s.threads t (next (thread_at s.threads t)) → IsMade (port_did (home_of s) (state_of s) t (thread_at s.threads t) step) (state_of (record s { threads = threads; ports = ports })) None
cond_made s t p cond step threads ports is fits put set =
    let fit : PortFits (home_of s) (state_of s) (PortCond p cond) = subst (PortFits (home_of s) (state_of s)) is fits in
    as_step s t _ None step (PortCond p cond) is
    (port_put s t p _ threads ports _
    (ap (usable (port_cond_set cond s.ports.ports p)) (there s.ports.ports p no_port fit.0) ∙ ap (port_cond_by cond s.ports.ports p (port_at s.ports p)) fit.1)
    put set)

-- its data are set
pub data_made : (s : State) (t p v : ℕ) (step : PortStep) (threads : List Thread) (ports : PortsState) → step ≡ PortData p v → PortFits (home_of s) (state_of s) step → ports ≡ with_port s.ports p (record (port_at s.ports p) { datum = v }) → threads ≡ slice_set s.threads t (next (thread_at s.threads t)) → IsMade (port_did (home_of s) (state_of s) t (thread_at s.threads t) step) (state_of (record s { threads = threads; ports = ports })) None
data_made s t p v step threads ports is fits put set =
    let fit : PortFits (home_of s) (state_of s) (PortData p v) = subst (PortFits (home_of s) (state_of s)) is fits in
    as_step s t _ None step (PortData p v) is
    (port_put s t p _ threads ports _ (ap (usable (port_data_set v s.ports.ports p)) (there s.ports.ports p no_port fit)) put set)

-- its time is set
pub time_made : (s : State) (t p v : ℕ) (step : PortStep) (threads : List Thread) (ports : PortsState) → step ≡ PortTime p v → PortFits (home_of s) (state_of s) step → ports ≡ with_port s.ports p (record (port_at s.ports p) { time = Some (v % 2 ^ 16) }) → threads ≡ slice_set s.threads t (next (thread_at s.threads t)) → IsMade (port_did (home_of s) (state_of s) t (thread_at s.threads t) step) (state_of (record s { threads = threads; ports = ports })) None
time_made s t p v step threads ports is fits put set =
    let fit : PortFits (home_of s) (state_of s) (PortTime p v) = subst (PortFits (home_of s) (state_of s)) is fits in
    as_step s t _ None step (PortTime p v) is
    (port_put s t p _ threads ports _ (ap (usable (port_time_set v s.ports.ports p)) (there s.ports.ports p no_port fit)) put set)

-- a change that is made, and written down, is told of the core
told_with : {A : Type 0} (put : A → CoreState) (did : Did A) (left : A) (made : Option Record) (new : CoreState) (wrote : Option Record) →
    did ≡ Made left made [] → new ≡ put left → wrote ≡ made → IsMade (map_did put did) new wrote
told_with put did left made new wrote is e same = subst (λ d. IsMade (map_did put d) new wrote) (sym is) (e, same, refl)

-- a port's output
pub drive_made : (s : State) (t p v core : ℕ) (decl : PortDecl) (got : PortGot) (wrote : Record) (step : PortStep) (threads : List Thread)
    (ports : PortsState) → step ≡ Drive p v → PortFits (home_of s) (state_of s) step →
    Made ports.ports (Some (PortOut s.ports.core (port_at s.ports p).decl.port got.stamp got.value)) [] ≡ drives_by (home_of_ports s.ports)
    (counter s.ports.clock) v s.ports.ports p (port_at s.ports p) (time_meets (port_at s.ports p).time (counter s.ports.clock)) →
    ports ≡ record s.ports { ports = ports.ports } → threads ≡ slice_set s.threads t (next (thread_at s.threads t)) →
    decl ≡ (port_at s.ports p).decl → core ≡ ports.core → wrote ≡ PortOut core decl.port got.stamp got.value →
    IsMade (port_did (home_of s) (state_of s) t (thread_at s.threads t) step) (state_of (record s { threads = threads; ports = ports })) (Some wrote)
drive_made s t p v core decl got wrote step threads ports is fits turn rest set declared at written =
    let fit : PortFits (home_of s) (state_of s) (Drive p v) = subst (PortFits (home_of s) (state_of s)) is fits in
    let port = port_at s.ports p in
    let now = counter s.ports.clock in
    let x = next (thread_at s.threads t) in
    as_step s t _ _ step (Drive p v) is
    (told_with (goes_with put_ports (state_of s) t (thread_at s.threads t)) _ ports.ports
    (Some (PortOut s.ports.core port.decl.port got.stamp got.value)) _ _
    (ap (usable (drives (home_of s) s.ports.clock v s.ports.ports p)) (there s.ports.ports p no_port fit.0)
    ∙ ap (drives_on (home_of s) now v s.ports.ports p port) fit.1
    ∙ ap (drives_by (home_of s) now v s.ports.ports p port) fit.2
    ∙ sym (turn ∙ ap (drives_by (home_of_ports s.ports) now v s.ports.ports p port) fit.2))
    (ap (λ l. state_of (record s { threads = l; ports = ports })) set
    ∙ ap (λ (q : PortsState). state_of (record s { threads = slice_set s.threads t x; ports = q })) rest)
    (ap Some (written
    ∙ ap (λ n. PortOut n decl.port got.stamp got.value) (at ∙ ap (λ (q : PortsState). q.core) rest)
    ∙ ap (λ (k : PortDecl). PortOut s.ports.core k.port got.stamp got.value) declared)))

-- an output that fits doesn't pause
pub drives_now : (s : State) (p v : ℕ) (step : PortStep) → step ≡ Drive p v → PortFits (home_of s) (state_of s) step →
    Paused ≡ drives_by (home_of_ports s.ports) (counter s.ports.clock) v s.ports.ports p (port_at s.ports p)
    (time_meets (port_at s.ports p).time (counter s.ports.clock)) → ⊥
drives_now s p v step is fits pause =
    let fit : PortFits (home_of s) (state_of s) (Drive p v) = subst (PortFits (home_of s) (state_of s)) is fits in
    no (ap is_step (pause ∙ ap (drives_by (home_of_ports s.ports) (counter s.ports.clock) v s.ports.ports p (port_at s.ports p)) fit.2))
  where
    no : false ≡ true → ⊥
    no e = cc

-- an input reads nothing of the home but what ports know of it
reads_now_same : (s : State) (ports : List Port) (p : ℕ) (port : Port) (b : Bool) →
    reads_now (home_of s) s.ports.clock ports p port b ≡ reads_now (home_of_ports s.ports) s.ports.clock ports p port b
reads_now_same s ports p port true = refl
reads_now_same s ports p port false = refl

reads_same : (s : State) (ports : List Port) (p : ℕ) (port : Port) (latch : Option PortGot) →
    reads_latched (home_of s) s.ports.clock ports p port latch ≡ reads_latched (home_of_ports s.ports) s.ports.clock ports p port latch
reads_same s ports p port (Some got) = refl
reads_same s ports p port None = reads_now_same s ports p port (meets (home_of s) s.ports.clock port)

-- a port's input
pub read_made : (s : State) (t p core : ℕ) (d : Reg) (decl : PortDecl) (got : PortGot) (wrote : Record) (step : PortStep) (threads : List Thread)
    (ports : PortsState) → step ≡ Read d p → PortFits (home_of s) (state_of s) step →
    Made (record { left = ports.ports; value = got.value }) (got_record (home_of_ports s.ports) (port_at s.ports p) got.stamp got.value) [] ≡
    reads_latched (home_of_ports s.ports) s.ports.clock s.ports.ports p (port_at s.ports p) (port_at s.ports p).latch →
    ports ≡ record s.ports { ports = ports.ports } → threads ≡ slice_set s.threads t (next_with d got.value (thread_at s.threads t)) →
    decl ≡ (port_at s.ports p).decl → core ≡ ports.core → wrote ≡ PortIn core decl.port got.stamp got.value →
    IsMade (port_did (home_of s) (state_of s) t (thread_at s.threads t) step) (state_of (record s { threads = threads; ports = ports })) (Some wrote)
read_made s t p core d decl got wrote step threads ports is fits turn rest set declared at written =
    let fit : PortFits (home_of s) (state_of s) (Read d p) = subst (PortFits (home_of s) (state_of s)) is fits in
    let port = port_at s.ports p in
    let x = next_with d got.value (thread_at s.threads t) in
    as_step s t _ _ step (Read d p) is
    (told_with (gets_with put_ports (state_of s) t (thread_at s.threads t) d) _ (record { left = ports.ports; value = got.value })
    (Some (PortIn s.ports.core port.decl.port got.stamp got.value)) _ _
    (ap (usable (reads (home_of s) s.ports.clock s.ports.ports p)) (there s.ports.ports p no_port fit.0)
    ∙ ap (reads_on (home_of s) s.ports.clock s.ports.ports p port) fit.1
    ∙ reads_same s s.ports.ports p port port.latch
    ∙ sym turn)
    (ap (λ l. state_of (record s { threads = l; ports = ports })) set
    ∙ ap (λ (q : PortsState). state_of (record s { threads = slice_set s.threads t x; ports = q })) rest)
    (ap Some (written
    ∙ ap (λ n. PortIn n decl.port got.stamp got.value) (at ∙ ap (λ (q : PortsState). q.core) rest)
    ∙ ap (λ (k : PortDecl). PortIn s.ports.core k.port got.stamp got.value) declared)))

-- an input that fits doesn't pause
pub reads_at_once : (s : State) (p : ℕ) (d : Reg) (step : PortStep) → step ≡ Read d p → PortFits (home_of s) (state_of s) step →
    Paused ≡ reads_latched (home_of_ports s.ports) s.ports.clock s.ports.ports p (port_at s.ports p) (port_at s.ports p).latch → ⊥
reads_at_once s p d step is fits pause =
    let fit : PortFits (home_of s) (state_of s) (Read d p) = subst (PortFits (home_of s) (state_of s)) is fits in
    no (ap is_step pause ∙ latched_step (home_of_ports s.ports) s.ports.clock s.ports.ports p (port_at s.ports p) (port_at s.ports p).latch
    (sym fit.2))
  where
    no : false ≡ true → ⊥
    no e = cc

-- a timer is changed, and thread t goes on
timer_put : (s : State) (t n : ℕ) (timer : Timer) (threads : List Thread) (timers : List Timer) (did : Did (List Timer)) →
    did ≡ makes (slice_set s.timers n timer) → timers ≡ slice_set s.timers n timer → threads ≡ slice_set s.threads t (next (thread_at s.threads t)) →
    IsMade (map_did (goes_with put_timers (state_of s) t (thread_at s.threads t)) did) (state_of (record s { threads = threads; timers = timers })) None
timer_put s t n timer threads timers did is put set =
    told_made (goes_with put_timers (state_of s) t (thread_at s.threads t)) did (slice_set s.timers n timer) _ is
    (ap (λ l. state_of (record s { threads = threads; timers = l })) put ∙ ap
    (λ l. state_of (record s { threads = l; timers = slice_set s.timers n timer })) set)

-- a timer's condition is set
pub timer_cond_made : (s : State) (t n : ℕ) (cond : Cond) (step : PortStep) (threads : List Thread) (read timers : List Timer) (timer : Timer) →
    step ≡ TimerCond n cond → PortFits (home_of s) (state_of s) step → read ≡ s.timers →
    timer ≡ record (timer_at read n) { cond = cond; latch = None } → timers ≡ slice_set s.timers n timer →
    threads ≡ slice_set s.threads t (next (thread_at s.threads t)) →
    IsMade (port_did (home_of s) (state_of s) t (thread_at s.threads t) step) (state_of (record s { threads = threads; timers = timers })) None
timer_cond_made s t n cond step threads read timers timer is fits same to put set =
    let fit : PortFits (home_of s) (state_of s) (TimerCond n cond) = subst (PortFits (home_of s) (state_of s)) is fits in
    as_step s t _ None step (TimerCond n cond) is
    (timer_put s t n _ threads timers _
    (ap (usable (timer_cond_set cond s.timers n)) (there s.timers n boot_timer fit.0) ∙ ap (timer_cond_by cond s.timers n (timer_at s.timers n))
    fit.1)
    (put ∙ ap (slice_set s.timers n) (to ∙ ap (λ l. record (timer_at l n) { cond = cond; latch = None }) same)) set)

-- its data are set
pub timer_data_made : (s : State) (t n v : ℕ) (step : PortStep) (threads : List Thread) (read timers : List Timer) (timer : Timer) →
    step ≡ TimerData n v → PortFits (home_of s) (state_of s) step → read ≡ s.timers → timer ≡ record (timer_at read n) { datum = v } →
    timers ≡ slice_set s.timers n timer → threads ≡ slice_set s.threads t (next (thread_at s.threads t)) →
    IsMade (port_did (home_of s) (state_of s) t (thread_at s.threads t) step) (state_of (record s { threads = threads; timers = timers })) None
timer_data_made s t n v step threads read timers timer is fits same to put set =
    let fit : PortFits (home_of s) (state_of s) (TimerData n v) = subst (PortFits (home_of s) (state_of s)) is fits in
    as_step s t _ None step (TimerData n v) is
    (timer_put s t n _ threads timers _
    (ap (usable (timer_data_set v s.timers n)) (there s.timers n boot_timer fit))
    (put ∙ ap (slice_set s.timers n) (to ∙ ap (λ l. record (timer_at l n) { datum = v }) same)) set)

-- the time that it latched is read, or else the clock
clock_is : (clock : ℕ) (timers : List Timer) (n : ℕ) (cond : Cond) (datum : ℕ) (latch : Option ℕ) →
    (is_there latch || timer_meets cond clock datum) ≡ true →
    clock_read clock timers n (record { cond = cond; datum = datum; latch = latch }) ≡ makes
    (given_timer timers n (record { cond = cond; datum = datum; latch = None }) (unwrap_or latch clock))
clock_is clock timers n cond datum (Some time) h = refl
clock_is clock timers n cond datum None h = ap (clock_by clock timers n (record { cond = cond; datum = datum; latch = None })) h

pub clock_made : (s : State) (t n v clock : ℕ) (d : Reg) (step : PortStep) (threads : List Thread) (read timers : List Timer) (timer : Timer) →
    step ≡ Clock d n → PortFits (home_of s) (state_of s) step → read ≡ s.timers → clock ≡ s.ports.clock →
    v ≡ unwrap_or (timer_at read n).latch clock → timer ≡ record (timer_at read n) { latch = None } → timers ≡ slice_set s.timers n timer →
    threads ≡ slice_set s.threads t (next_with d v (thread_at s.threads t)) →
    IsMade (port_did (home_of s) (state_of s) t (thread_at s.threads t) step) (state_of (record s { threads = threads; timers = timers })) None
clock_made s t n v clock d step threads read timers timer is fits same at value to put set =
    let fit : PortFits (home_of s) (state_of s) (Clock d n) = subst (PortFits (home_of s) (state_of s)) is fits in
    let old = timer_at s.timers n in
    let x = thread_at s.threads t in
    as_step s t _ None step (Clock d n) is
    (told_made (gets_with put_timers (state_of s) t x d) _ (given_timer s.timers n (record old { latch = None }) (unwrap_or old.latch s.ports.clock))
    _
    (ap (usable (clock_read s.ports.clock s.timers n)) (there s.timers n boot_timer fit.0) ∙ clock_is s.ports.clock s.timers n old.cond old.datum
    old.latch fit.1)
    (ap (λ l. state_of (record s { threads = l; timers = timers })) set
    ∙ ap (λ w. state_of (record s { threads = slice_set s.threads t (next_with d w x); timers = timers }))
    (value ∙ ap (λ l. unwrap_or (timer_at l n).latch clock) same ∙ ap (unwrap_or old.latch) at)
    ∙ ap (λ l. state_of (record s { threads = slice_set s.threads t (next_with d (unwrap_or old.latch s.ports.clock) x); timers = l }))
    (put ∙ ap (slice_set s.timers n) (to ∙ ap (λ l. record (timer_at l n) { latch = None }) same))))

-- what no event changes stays where ports change
pub ports_keep : (s : State) (threads : List Thread) (ports : PortsState) (list : List Port) → ports ≡ record s.ports { ports = list } →
    Keeps s (record s { threads = threads; ports = ports })
ports_keep s threads ports list is = record {
  fixed = refl;
  core = ap (λ (q : PortsState). q.core) is;
  stim = ap (λ (q : PortsState). q.stim) is;
  ends = refl;
}
