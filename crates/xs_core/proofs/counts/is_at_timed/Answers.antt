use Rattle.std.proofs.Common.{◌≡◌, ◌<◌, ◌&&◌, ◌||◌, ◌∙◌, ℕ, Option, length, ap, sym, rules}
use Rattle.std.specs.Prelude.{slice_get}
use Rattle.xs_core.proofs.counts.is_at_timed.Goals as goal
use Rattle.xs_core.proofs.There.{there}
use Rattle.xs_core.specs.declared.state.State.{State}
use Rattle.xs_core.specs.Seen.{home_of, state_of, thread_at}
use Rattle.xs_instr.specs.declared.instr.Instr.{Instr}
use Rattle.xs_instr.specs.declared.state.Mode.TheVariants.{Running}
use Rattle.xs_instr.specs.Machine.{unused_thread}
use Rattle.xs_instr.specs.Sight.{is_running, is_timed_event, is_timed_instr, is_timed_thread, some_enabled}
use Rattle.xs_instr.specs.Slot.{instr_at}

timed_is : (s : State) (t : ℕ) (i : Option Instr) → t < length s.threads → (thread_at s.threads t).mode ≡ Running → i ≡ instr_at (home_of s) (thread_at s.threads t).pc → is_timed_thread (home_of s) (state_of s) t (slice_get s.threads t) ≡ (is_timed_instr (home_of s) (thread_at s.threads t) i || is_timed_event (home_of s) (state_of s) t (thread_at s.threads t) i)
timed_is s t i below runs is =
    let home = home_of s in
    let core = state_of s in
    let x = thread_at s.threads t in
    ap (is_timed_thread home core t) (there s.threads t unused_thread below)
    ∙ ap (λ m. is_running m && (is_timed_instr home x (instr_at home x.pc) || is_timed_event home core t x (instr_at home x.pc))) runs
    ∙ ap (λ j. is_timed_instr home x j || is_timed_event home core t x j) (sym is)

pub returns-then-is_at_port_or_timer : goal.returns-then-is_at_port_or_timer
returns-then-is_at_port_or_timer c =
    let s = c.args.state.now in
    let i = c.copied-instr.result in
    let below : c.args.t < length s.threads = search rules in
    let timed = timed_is s c.args.t i below c.in-Running.is (c.copied-instr.ensures ∙ c.get.ensures) in
    let at = sym c.is_at_port_or_timer.ensures ∙ c.if-is_at_port_or_timer.true in
    c.if-is_at_port_or_timer.true ∙ sym (timed ∙ ap (λ b. b || is_timed_event (home_of s) (state_of s) c.args.t (thread_at s.threads c.args.t) i) at)

pub returns-then-takes_events : goal.returns-then-takes_events
returns-then-takes_events c =
    let s = c.args.state.now in
    let i = c.copied-instr.result in
    let below : c.args.t < length s.threads = search rules in
    let timed = timed_is s c.args.t i below c.in-Running.is (c.copied-instr.ensures ∙ c.get.ensures) in
    let at = sym c.is_at_port_or_timer.ensures ∙ c.if-is_at_port_or_timer.false in
    let takes = sym c.takes_events.ensures ∙ c.if-takes_events.true in
    c.has_timed.ensures ∙ sym (timed ∙ ap (λ b. b || is_timed_event (home_of s) (state_of s) c.args.t (thread_at s.threads c.args.t) i) at ∙ ap (λ b. b && (some_enabled s.events.ports c.args.t || some_enabled s.events.timers c.args.t)) takes)

pub returns-else-takes_events : goal.returns-else-takes_events
returns-else-takes_events c =
    let s = c.args.state.now in
    let i = c.copied-instr.result in
    let below : c.args.t < length s.threads = search rules in
    let timed = timed_is s c.args.t i below c.in-Running.is (c.copied-instr.ensures ∙ c.get.ensures) in
    let at = sym c.is_at_port_or_timer.ensures ∙ c.if-is_at_port_or_timer.false in
    let takes = sym c.takes_events.ensures ∙ c.if-takes_events.false in
    c.if-takes_events.false ∙ sym (timed ∙ ap (λ b. b || is_timed_event (home_of s) (state_of s) c.args.t (thread_at s.threads c.args.t) i) at ∙ ap (λ b. b && (some_enabled s.events.ports c.args.t || some_enabled s.events.timers c.args.t)) takes)
