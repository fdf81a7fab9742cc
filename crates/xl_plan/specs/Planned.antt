-- What the plan of a core promises.
use Rattle.std.specs.Prelude.{◌≡◌, ℕ, ◌+◌, ◌<◌, ◌≤◌, true, List, Contains, Option, Some, filter, length, nat_eq, slice_get, ◌≢◌, [], ◌∷◌}
use Rattle.xw_words.specs.Ports.{port_count}
use Rattle.xc_kernel.specs.declared.kernel.PortUse.{PortUse}
use Rattle.xc_kernel.specs.declared.kernel.Var.{Var}
use Rattle.xc_kernel.specs.Plain as kernel
use Rattle.xc_kernel.specs.Things.{variable, port, timer, by_statements}
use Rattle.xc_wellformed.specs.Cores.{IsOn}
use Rattle.xs_instr.specs.OwnSteps.{IsApart}
use Rattle.xl_expr.specs.declared.plan.EndPlaces.{EndPlaces}
use Rattle.xl_expr.specs.declared.plan.ResAt.{ResAt}
use Rattle.xl_expr.specs.declared.plan.VarAt.TheVariants.{Near}
use Rattle.xl_expr.specs.declared.plan.VarPlan.{VarPlan}
use Rattle.xl_expr.specs.Plans.{var_in, resource_at}
use Rattle.xl_expr.specs.Frames.{IsNear}
use Rattle.xl_plan.specs.Layout.{word_of, temporary_of, port_number, port_at, timer_at, end_places, ends_before, ends_below}

-- each variable of the core stands at its word, with all its words
abbrev pub HasVariables : kernel.Kernel → (core : ℕ) → List (Option VarPlan) → Type 0
HasVariables k core vars =
    (v : ℕ) (x : Var) → slice_get k.variables v ≡ Some x → x.core ≡ core →
    var_in vars v ≡ Some (record { place = Near (word_of core k.variables v); words = x.words })

-- there is no other
abbrev pub HasNoOther : kernel.Kernel → (core : ℕ) → List (Option VarPlan) → Type 0
HasNoOther k core vars =
    (v : ℕ) (found : VarPlan) → var_in vars v ≡ Some found → IsOn k.variables core v

-- each variable that a root on the core uses is there
abbrev pub HasUsedVariables : kernel.Kernel → (core : ℕ) → List (Option VarPlan) → Type 0
HasUsedVariables k core vars =
    (r : kernel.Root) (v : ℕ) → Contains k.roots r → r.core ≡ core → by_statements (variable v) r.body ≡ true →
    (found : VarPlan) × (var_in vars v ≡ Some found)

-- all words of variables are below this one
abbrev pub StandBelow : (word : ℕ) → List (Option VarPlan) → Type 0
StandBelow word vars = (v n : ℕ) (found : VarPlan) → IsNear vars v n found → n + found.words ≤ word

-- no two variables share a word
abbrev pub NoneShare : List (Option VarPlan) → Type 0
NoneShare vars =
    (v n i w m j : ℕ) (found other : VarPlan) → IsNear vars v n found → IsNear vars w m other →
    i < found.words → j < other.words → n + i ≡ m + j → v ≡ w

-- no word of a variable is a temporary one of a thread
abbrev pub NoneIsTemporary : kernel.Kernel → (core : ℕ) → List (Option VarPlan) → Type 0
NoneIsTemporary k core vars =
    (v n i thread : ℕ) (found : VarPlan) → IsNear vars v n found → i < found.words →
    IsApart (temporary_of k core thread) (n + i)

-- The ports of the core, in the kernel's order. An image declares them in that order, and their numbers go by it, as those of timers
-- do.
abbrev pub ports_on : (core : ℕ) → List PortUse → List PortUse
ports_on core ps = filter (λ p. nat_eq p.core core) ps

-- no port of a list has this identifier
abbrev pub IsNewPort : (id : ℕ) → List PortUse → Type 0
IsNewPort id [] = Unit {0}
IsNewPort id (p ∷ ps) = (id ≢ p.id) × IsNewPort id ps

-- differing identifiers, each the place of a port
abbrev pub ArePortsApart : List PortUse → Type 0
ArePortsApart [] = Unit {0}
ArePortsApart (p ∷ ps) = (p.id < port_count) × IsNewPort p.id ps × ArePortsApart ps

-- each port of the core has the identifier of its number there, and no other port has one
abbrev pub HasPorts : kernel.Kernel → (core : ℕ) → List (Option ResAt) → Type 0
HasPorts k core places = (p : ℕ) → resource_at places p ≡ port_at core k.ports p

-- each timer of the core has the identifier of its number there, and no other timer has one
abbrev pub HasTimers : kernel.Kernel → (core : ℕ) → List (Option ResAt) → Type 0
HasTimers k core places = (t : ℕ) → resource_at places t ≡ timer_at core k.timers t

-- each port, and each timer, that a root on the core uses has an identifier
abbrev pub HasUsedPorts : kernel.Kernel → (core : ℕ) → List (Option ResAt) → Type 0
HasUsedPorts k core places =
    (r : kernel.Root) (p : ℕ) → Contains k.roots r → r.core ≡ core → by_statements (port p) r.body ≡ true →
    (found : ResAt) × (resource_at places p ≡ Some found)

abbrev pub HasUsedTimers : kernel.Kernel → (core : ℕ) → List (Option ResAt) → Type 0
HasUsedTimers k core places =
    (r : kernel.Root) (t : ℕ) → Contains k.roots r → r.core ≡ core → by_statements (timer t) r.body ≡ true →
    (found : ResAt) × (resource_at places t ≡ Some found)

-- The ends of the core have the identifiers of their numbers, one for each side of a channel that is there, and each channel has the numbers of
-- its ends.
abbrev pub HasEnds : kernel.Kernel → (core : ℕ) → List ResAt → Type 0
HasEnds k core ends = ends ≡ ends_below core (ends_before k core (length k.channels))

-- The second side's end is next to the first side's. A channel that no root on the core uses has the number that comes next, and no
-- end there.
abbrev pub HasChannels : kernel.Kernel → (core : ℕ) → List EndPlaces → Type 0
HasChannels k core channels = channels ≡ end_places k core (length k.channels)

-- a port's number is its place among the core's ports
abbrev pub NumbersAreListed : kernel.Kernel → (core : ℕ) → Type 0
NumbersAreListed k core =
    (p : ℕ) (x : PortUse) → slice_get k.ports p ≡ Some x → x.core ≡ core →
    slice_get (ports_on core k.ports) (port_number core k.ports p) ≡ Some x
