use Rattle.std.proofs.Common.{◌≡◌, ◌∙◌, ℕ, List, ap}
use Rattle.xs_core.proofs.boot.parts_for.Goals as goal
use Rattle.xs_instr.specs.declared.image.CoreImage.{CoreImage}
use Rattle.xs_instr.specs.declared.state.ChanEnd.{ChanEnd}
use Rattle.xs_instr.specs.declared.state.CoreState.{CoreState}
use Rattle.xs_instr.specs.declared.state.Events.{Events}
use Rattle.xs_instr.specs.declared.state.Timer.{Timer}
use Rattle.xs_instr.specs.Machine.{boot_core}
use Rattle.xs_port.specs.State.{PortsState}

-- a core of these parts
abbrev of_parts : CoreImage → PortsState → List ℕ → List Timer → List ChanEnd → Events → CoreState
of_parts k ports words timers ends events = record (boot_core k) {
  clock = ports.clock;
  words = words;
  ports = ports.ports;
  timers = timers;
  ends = ends;
  events = events;
}

-- a core of some parts is that of the parts that they are
same_parts : (core : CoreState) (k : CoreImage) (a b : PortsState) (c d : List ℕ) (e f : List Timer) (g h : List ChanEnd) (i j : Events) →
    core ≡ of_parts k a c e g i → a ≡ b → c ≡ d → e ≡ f → g ≡ h → i ≡ j → core ≡ of_parts k b d f h j
same_parts core k a b c d e f g h i j is ports words timers ends events =
    is
    ∙ ap (λ x. of_parts k x c e g i) ports
    ∙ ap (λ x. of_parts k b x e g i) words
    ∙ ap (λ x. of_parts k b d x g i) timers
    ∙ ap (λ x. of_parts k b d f x i) ends
    ∙ ap (of_parts k b d f h) events

pub made_for-requires-clause-ports : goal.made_for-requires-clause-ports
made_for-requires-clause-ports c = c.requires.ports

pub made_for-requires-clause-stim : goal.made_for-requires-clause-stim
made_for-requires-clause-stim c = c.requires.stim

pub state_of_parts-requires : goal.state_of_parts-requires
state_of_parts-requires c = c.requires.roots

pub returns-clause-fixed : goal.returns-clause-fixed
returns-clause-fixed c = c.state_of_parts.ensures.fixed

pub returns-clause-core : goal.returns-clause-core
returns-clause-core c = ap (λ (p : PortsState). p.core) (c.state_of_parts.ensures.ports ∙ c.in_ok-ports.ensures.ports)

pub returns-clause-stim : goal.returns-clause-stim
returns-clause-stim c = ap (λ (p : PortsState). p.stim) (c.state_of_parts.ensures.ports ∙ c.in_ok-ports.ensures.ports)

pub returns-clause-state : goal.returns-clause-state
returns-clause-state c =
    let made = c.in_ok-ports.ensures in
    same_parts _ c.args.fixed.parts _ _ _ _ _ _ _ _ _ _ c.state_of_parts.ensures.state made.ports made.words made.timers made.ends made.events
