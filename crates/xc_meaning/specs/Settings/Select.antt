-- A select: which of its cases are enabled, which of these are ready, and one that is taken.
use Rattle.std.specs.Prelude.{ℕ, Bool, true, false, not, ◌&&◌, List, [], ◌∷◌, Option, Some, None, is_some, nat_eq, slice_get}
use Rattle.xs_instr.specs.Machine.{and_then}
use Rattle.xw_words.specs.declared.pos.Pos.{Pos}
use Rattle.xc_kernel.specs.declared.statement.KRes.{KRes}
use Rattle.xc_kernel.specs.declared.statement.KRes.TheVariants.{Port, Timer, Chan}
use Rattle.xc_kernel.specs.Plain as kernel
use Rattle.xc_kernel.specs.Values.{Value, word, error, ErrorKind, is_true}
use Rattle.xc_kernel.specs.Eval.{Store, eval}
use Rattle.xc_meaning.specs.States.Channels.{Side}
use Rattle.xc_meaning.specs.States.Items.{Body, of_kernel, Choice, Item, does, chooses, fixed, body_items}
use Rattle.xc_meaning.specs.States.Branches.{side_of}
use Rattle.xc_meaning.specs.States.Worlds.{World, only_if}
use Rattle.xc_meaning.specs.Settings.Setting.{Setting, goes_to, errs, kind_of}
use Rattle.xc_meaning.specs.Settings.Channels.{parcel_at}
use Rattle.xc_meaning.specs.Settings.Time.{clock_of, counter_of, pins_of, Timing, passes, fails, timing, port_may_pass, timer_may_pass}

-- the enabled cases in text order, or the first error of a guard, time or condition
pub data Enabled : Type 0 where
  these : List Choice → Enabled
  wrong : ErrorKind → Pos → Enabled

abbrev pub same_resource : KRes → KRes → Bool
same_resource (Port p) (Port q) = nat_eq p q
same_resource (Timer t) (Timer u) = nat_eq t u
same_resource (Chan c) (Chan d) = nat_eq c d
same_resource a b = false

-- `elsewhere`, by cases
abbrev pub unless_same : Bool → Choice → List Choice → List Choice
unless_same true c cs = cs
unless_same false c cs = c ∷ cs

-- the cases that name another resource
abbrev pub elsewhere : KRes → List Choice → List Choice
elsewhere r [] = []
elsewhere r (c ∷ cs) = unless_same (same_resource r c.input.resource) c (elsewhere r cs)

-- a case before others: a resource has one condition, that of its first enabled case
abbrev pub before_others : Choice → Enabled → Enabled
before_others c (these cs) = these (c ∷ elsewhere c.input.resource cs)
before_others c (wrong kind pos) = wrong kind pos

-- a case whose guard holds, by its time or condition
abbrev pub timed_case : kernel.Input → Body → Enabled → Timing → Enabled
timed_case i body others (passes when) = before_others (record { input = i; when = when; body = body }) others
timed_case i body others (fails kind pos) = wrong kind pos

-- `guarded_case`, by cases
abbrev pub case_by : Bool → (with_it others : Enabled) → Enabled
case_by true with_it others = with_it
case_by false with_it others = others

-- a case by the word of its guard
abbrev pub guarded_case : Value → (with_it others : Enabled) → Enabled
guarded_case (word v) with_it others = case_by (is_true v) with_it others
guarded_case (error kind pos) with_it others = wrong kind pos

-- a case without a guard counts as one whose guard is true
abbrev pub guard_value : Store → Option kernel.Expression → Value
guard_value store None = word 1
guard_value store (Some e) = eval store e

-- one case and the others: its guard comes first, then its time or condition, then what the others have
abbrev pub and_case : Store → Option kernel.Expression → kernel.Input → Body → (others : Enabled) → Enabled
and_case store guard i body others =
    guarded_case (guard_value store guard) (timed_case i body others (timing store i.time i.condition)) others

abbrev pub kernel_case : Store → kernel.Case → (others : Enabled) → Enabled
kernel_case store (kernel.case guard i ss) others = and_case store guard i (of_kernel ss) others

-- the enabled cases of a kernel's select
abbrev pub enabled : Store → kernel.Cases → Enabled
enabled store kernel.no_case = these []
enabled store (kernel.more_cases c cs) = kernel_case store c (enabled store cs)

abbrev pub default_of : kernel.Default → Option Body
default_of kernel.no_default = None
default_of (kernel.default ss) = Some (of_kernel ss)

-- the first step of a select leaves its enabled cases
abbrev pub begins_select : Setting → Option Body → Enabled → Option World
begins_select s otherwise (these choices) = Some (goes_to s (chooses choices otherwise ∷ s.rest))
begins_select s otherwise (wrong kind pos) = errs s (kind_of kind) pos

-- whether something has arrived at the side that the branch is of a channel
abbrev pub has_arrived : Setting → (channel : ℕ) → Option Side → Bool
has_arrived s c None = false
has_arrived s c (Some side) = is_some (parcel_at s c side)

abbrev pub resource_is_ready : Setting → Choice → KRes → Bool
resource_is_ready s c (Port p) = port_may_pass s p c.when
resource_is_ready s c (Timer t) = timer_may_pass s c.when
resource_is_ready s c (Chan d) = has_arrived s d (side_of s.branch d)

-- a case is ready where something has arrived at its channel, or its port's or timer's input would pass now
abbrev pub is_ready : Setting → Choice → Bool
is_ready s c = resource_is_ready s c c.input.resource

abbrev pub none_ready : Setting → List Choice → Bool
none_ready s [] = true
none_ready s (c ∷ cs) = not (is_ready s c) && none_ready s cs

-- the input of a case, with the value and the counter of this moment where it is a port's or a timer's
abbrev pub input_taken : Setting → kernel.Input → KRes → Item
input_taken s i (Port p) = fixed i (pins_of s p) (counter_of s)
input_taken s i (Timer t) = fixed i (clock_of s) (counter_of s)
input_taken s i (Chan c) = does (kernel.input i)

-- an enabled case is taken where it is ready: its input and its body come next
abbrev pub takes_case : Setting → Choice → Option World
takes_case s c =
    only_if (is_ready s c) (goes_to s (input_taken s c.input c.input.resource ∷ body_items c.body s.rest))

-- the case at a place among the enabled ones
abbrev pub takes : Setting → (choice : ℕ) → Item → Option World
takes s n (chooses choices otherwise) = and_then (slice_get choices n) (takes_case s)
takes s n item = None

abbrev pub default_body : Setting → List Choice → Option Body → Option World
default_body s choices None = None
default_body s choices (Some body) = only_if (none_ready s choices) (goes_to s (body_items body s.rest))

-- the default, where no enabled case is ready
abbrev pub takes_default : Setting → Item → Option World
takes_default s (chooses choices otherwise) = default_body s choices otherwise
takes_default s item = None
