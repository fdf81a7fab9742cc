-- How the words of a core are laid out: its variables from word 0 on, one behind the other in the kernel's order; and behind all the words
-- that its instances and its variables need, the temporary words of its threads, one thread's behind the other's. Its ports and its timers
-- have numbers, each kind by itself in the kernel's order.
use Rattle.std.specs.List.{range_with_len}
use Rattle.std.specs.Prelude.{ℕ, zero, suc, ◌+◌, ◌*◌, Bool, true, false, ◌&&◌, ◌||◌, cond, List, [], ◌∷◌, ◌++◌, length, map, Option, Some, None, nat_eq, slice_get, take, sum_by}
use Rattle.xw_words.specs.Words.{word_sum}
use Rattle.xc_kernel.specs.declared.kernel.PortUse.{PortUse}
use Rattle.xc_kernel.specs.declared.kernel.Timer.{Timer}
use Rattle.xc_kernel.specs.declared.kernel.Var.{Var}
use Rattle.xc_kernel.specs.Plain as kernel
use Rattle.xc_kernel.specs.Things.{channel, by_statements}
use Rattle.xc_meaning.specs.States.Channels.{Side, first, second}
use Rattle.xs_instr.specs.Resources.{name_of}
use Rattle.xl_expr.specs.declared.plan.EndPlaces.{EndPlaces}
use Rattle.xl_expr.specs.declared.plan.ResAt.{ResAt}
use Rattle.xl_expr.specs.declared.plan.ResAt.TheVariants.{Fixed}
use Rattle.xl_expr.specs.declared.plan.VarAt.TheVariants.{Near}
use Rattle.xl_expr.specs.declared.plan.VarPlan.{VarPlan}
use Rattle.xc_disjoint.specs.Cores.{on_core}
use Rattle.xc_disjoint.specs.Needs.{words_of_instance, words_of_thread, words_of_variable}
use Rattle.xl_plan.specs.declared.channels.SideCores.{SideCores}

-- the words of a variable that is on the core
abbrev pub words_here : (core : ℕ) → Var → ℕ
words_here core v = on_core core v.core v.words

-- The word where the variable of this number begins: behind the words of the core's variables before it. dp is 0 on each core, as at
-- the start, so a variable's number is its word, and all are near.
abbrev pub word_of : (core : ℕ) → List Var → (number : ℕ) → ℕ
word_of core vs number = sum_by (words_here core) (take number vs)

-- The word where the temporary words of the core's threads begin: behind those that its instances and its variables need. Parameters
-- and results count by their instances, and have at most a word for each parameter and one for a result.
abbrev pub first_temporary : kernel.Kernel → (core : ℕ) → ℕ
first_temporary k core =
    sum_by (words_of_instance core) k.instances + sum_by (words_of_variable core) k.variables

-- the word where those of the thread of this number begin
abbrev pub temporary_of : kernel.Kernel → (core thread : ℕ) → ℕ
temporary_of k core thread = first_temporary k core + words_of_thread * thread

-- the core of a port, and of a timer
abbrev pub core_of_port : PortUse → ℕ
core_of_port p = p.core

abbrev pub core_of_timer : Timer → ℕ
core_of_timer t = t.core

-- the number that something has on its core, among such things: how many of those before it are there
abbrev pub number_on : {X : Type 0} → (core_of : X → ℕ) → (core : ℕ) → List X → (place : ℕ) → ℕ
number_on core_of core xs place = sum_by (λ x. on_core core (core_of x) 1) (take place xs)

-- one port where it is on the core
abbrev pub ports_here : (core : ℕ) → PortUse → ℕ
ports_here core p = on_core core p.core 1

abbrev pub port_number : (core : ℕ) → List PortUse → (place : ℕ) → ℕ
port_number core ps place = number_on core_of_port core ps place

abbrev pub timer_number : (core : ℕ) → List Timer → (place : ℕ) → ℕ
timer_number core ts place = number_on core_of_timer core ts place

-- Where things stand, one by one.

-- a place of so many words that begins at a word, where it is one of the core's
abbrev pub place_if : Bool → (word words : ℕ) → Option VarPlan
place_if true word words = Some (record { place = Near word; words = words })
place_if false word words = None

abbrev pub place_of : (core word : ℕ) → Var → Option VarPlan
place_of core word v = place_if (nat_eq v.core core) word v.words

-- the places of variables, of which the core's first begins at a word
abbrev pub places_from : (core word : ℕ) → List Var → List (Option VarPlan)
places_from core word [] = []
places_from core word (v ∷ vs) = place_of core word v ∷ places_from core (word + words_here core v) vs

-- an identifier, where it is one of the core's
abbrev pub identifier_if : Bool → (identifier : ℕ) → Option ResAt
identifier_if true identifier = Some (Fixed identifier)
identifier_if false identifier = None

-- the identifier of what stands at a place among such things, by its number
abbrev pub named_by : {X : Type 0} → (name : ℕ → ℕ) → (core_of : X → ℕ) → (core : ℕ) → List X → (place : ℕ) → Option X → Option ResAt
named_by name core_of core xs place None = None
named_by name core_of core xs place (Some x) =
    identifier_if (nat_eq (core_of x) core) (name (number_on core_of core xs place))

-- the identifiers of a core's port and timer of a number
abbrev pub port_name : (core number : ℕ) → ℕ
port_name core number = name_of core number 0

abbrev pub timer_name : (core number : ℕ) → ℕ
timer_name core number = name_of core number 1

-- those of the port and of the timer at a place, where they are on the core
abbrev pub port_at : (core : ℕ) → List PortUse → (place : ℕ) → Option ResAt
port_at core ps place = named_by (port_name core) core_of_port core ps place (slice_get ps place)

abbrev pub timer_at : (core : ℕ) → List Timer → (place : ℕ) → Option ResAt
timer_at core ts place = named_by (timer_name core) core_of_timer core ts place (slice_get ts place)

-- the identifiers of things, of which the core's first has this one; the numbers of two that follow each other are apart by 2 ^ 8
abbrev pub identifiers_from : {X : Type 0} → (core_of : X → ℕ) → (core identifier : ℕ) → List X → List (Option ResAt)
identifiers_from core_of core identifier [] = []
identifiers_from core_of core identifier (x ∷ xs) =
    identifier_if (nat_eq (core_of x) core) identifier
    ∷ identifiers_from core_of core (word_sum identifier (on_core core (core_of x) 256)) xs

-- Channel ends.

-- whether one of some roots is on the core and uses a channel
abbrev pub is_used_by : (core channel : ℕ) → List kernel.Root → Bool
is_used_by core c [] = false
is_used_by core c (r ∷ rs) = (nat_eq r.core core && by_statements (channel c) r.body) || is_used_by core c rs

-- whether a root on the core does
abbrev pub is_used_on : kernel.Kernel → (core channel : ℕ) → Bool
is_used_on k core c = is_used_by core c k.roots

-- The cores of a channel's two sides: those of the first root that uses it and of the last one, which are the same where all is in one root.

abbrev pub second_or : (core : ℕ) → Option SideCores → ℕ
second_or core None = core
second_or core (Some cores) = cores.second

abbrev pub side_cores : (channel : ℕ) → List kernel.Root → Option SideCores
side_cores c [] = None
side_cores c (r ∷ rs) =
    cond (by_statements (channel c) r.body)
    (Some (record { first = r.core; second = second_or r.core (side_cores c rs) }))
    (side_cores c rs)

abbrev pub core_in : Option SideCores → Side → ℕ
core_in None side = 0
core_in (Some cores) first = cores.first
core_in (Some cores) second = cores.second

abbrev pub core_of : kernel.Kernel → (channel : ℕ) → Side → ℕ
core_of k c side = core_in (side_cores c k.roots) side

-- those of all channels
abbrev pub cores_of_channels : kernel.Kernel → List (Option SideCores)
cores_of_channels k = map (λ c. side_cores c k.roots) (range_with_len 0 (length k.channels))

-- A channel has an end on a core for each of its sides that is there, the first side's before the second one's.

abbrev pub first_there : (core : ℕ) → Option SideCores → ℕ
first_there core None = 0
first_there core (Some cores) = on_core core cores.first 1

abbrev pub second_there : (core : ℕ) → Option SideCores → ℕ
second_there core None = 0
second_there core (Some cores) = on_core core cores.second 1

abbrev pub ends_there : (core : ℕ) → Option SideCores → ℕ
ends_there core cores = first_there core cores + second_there core cores

-- the ends of the core's channels below a number
abbrev pub ends_before : kernel.Kernel → (core channels : ℕ) → ℕ
ends_before k core zero = 0
ends_before k core (suc c) = ends_before k core c + ends_there core (side_cores c k.roots)

-- the number that the end of a side has on its core
abbrev pub end_number : kernel.Kernel → (core channel : ℕ) → Side → ℕ
end_number k core c first = ends_before k core c
end_number k core c second = ends_before k core c + first_there core (side_cores c k.roots)

abbrev pub end_name : (core number : ℕ) → ℕ
end_name core number = name_of core number 2

-- the numbers of both sides' ends on a core, of the channels below a number
abbrev pub places_on : kernel.Kernel → (core channel : ℕ) → EndPlaces
places_on k core c = record { first = end_number k core c first; second = end_number k core c second }

abbrev pub end_places : kernel.Kernel → (core channels : ℕ) → List EndPlaces
end_places k core zero = []
end_places k core (suc c) = end_places k core c ++ places_on k core c ∷ []

-- the same of channels with these cores, of which the first one's first end has this number
abbrev pub end_places_from : (core number : ℕ) → List (Option SideCores) → List EndPlaces
end_places_from core n [] = []
end_places_from core n (cores ∷ others) =
    record { first = n; second = n + first_there core cores } ∷ end_places_from core (n + ends_there core cores) others

-- the identifiers of the ends below a number
abbrev pub ends_below : (core number : ℕ) → List ResAt
ends_below core zero = []
ends_below core (suc n) = ends_below core n ++ Fixed (end_name core n) ∷ []
