-- Five kernels, laid out by hand.
use Rattle.std.proofs.Common.{◌≡◌, ℕ, Bool, true, false, List, [], ◌∷◌, Option, Some, None, refl}
use Rattle.xw_words.specs.declared.pos.Pos.{Pos}
use Rattle.xc_tree.specs.declared.tree.TreeDir.TheVariants.{Out}
use Rattle.xc_kernel.specs.declared.kernel.Chan.{Chan as Channel}
use Rattle.xc_kernel.specs.declared.kernel.Inst.{Inst}
use Rattle.xc_kernel.specs.declared.kernel.PortUse.{PortUse}
use Rattle.xc_kernel.specs.declared.kernel.Var.{Var}
use Rattle.xc_kernel.specs.declared.statement.KRes.TheVariants.{Chan}
use Rattle.xc_kernel.specs.Plain as kernel
use Rattle.xc_meaning.specs.States.Channels.{first, second}
use Rattle.xc_disjoint.specs.Needs.{ends_on, words_on}
use Rattle.xl_expr.specs.declared.plan.EndPlaces.{EndPlaces}
use Rattle.xl_expr.specs.declared.plan.ResAt.TheVariants.{Fixed}
use Rattle.xl_expr.specs.declared.plan.VarAt.TheVariants.{Near}
use Rattle.xl_expr.specs.declared.plan.VarPlan.{VarPlan}
use Rattle.xl_plan.specs.declared.channels.SideCores.{SideCores}
use Rattle.xl_plan.specs.Layout.{temporary_of, places_from, port_at, core_of, cores_of_channels, end_number, end_places}

pos : Pos
pos = record { line = 1; col = 1 }

abbrev variable : (core words : ℕ) (counted : Bool) → Var
variable core words counted = record { words = words; array = false; counted = counted; core = core; path = []; pos = pos }

abbrev near : (word words : ℕ) → Option VarPlan
near word words = Some (record { place = Near word; words = words })

abbrev root : (core : ℕ) → kernel.Root
root core = record { core = core; place = pos; body = kernel.no_more; pos = pos }

abbrev port : (core id : ℕ) → PortUse
port core id = record { id = id; dir = Out; core = core; place = pos; pos = pos }

abbrev kernel_of : List kernel.Root → List Var → List Inst → kernel.Kernel
kernel_of roots variables instances = record { roots = roots; variables = variables; channels = []; timers = []; ports = []; instances = instances; main = pos }

-- One core: main has a word and 16 words, and calls a function of two parameters with a result.
one_core : kernel.Kernel
one_core = kernel_of (root 0 ∷ []) (variable 0 1 true ∷ variable 0 16 true ∷ variable 0 1 false ∷ variable 0 1 false ∷ variable 0 1 false ∷ []) (record { core = 0; params = 0 } ∷ record { core = 0; params = 2 } ∷ [])

one_core_stands : places_from 0 0 one_core.variables ≡ near 0 1 ∷ near 1 16 ∷ near 17 1 ∷ near 18 1 ∷ near 19 1 ∷ []
unfolding one_core
one_core_stands = refl

-- 4 and 6 words of instances, 17 of variables
one_core_temporary : temporary_of one_core 0 0 ≡ 27
unfolding one_core
one_core_temporary = refl

one_core_words : words_on one_core 0 ≡ 539
unfolding one_core
one_core_words = refl

-- Two cores: what one has is nothing to the other. Core 1 has two roots.
two_cores : kernel.Kernel
two_cores = kernel_of (root 0 ∷ root 1 ∷ root 1 ∷ []) (variable 0 1 true ∷ variable 1 4 true ∷ variable 0 8 true ∷ variable 1 2 true ∷ []) (record { core = 0; params = 0 } ∷ record { core = 1; params = 1 } ∷ [])

core_0_stands : places_from 0 0 two_cores.variables ≡ near 0 1 ∷ None ∷ near 1 8 ∷ None ∷ []
unfolding two_cores
core_0_stands = refl

core_1_stands : places_from 1 0 two_cores.variables ≡ None ∷ near 0 4 ∷ None ∷ near 4 2 ∷ []
unfolding two_cores
core_1_stands = refl

-- 5 words of the instance and 6 of variables, and the second root's stand behind the first one's
core_1_first : temporary_of two_cores 1 0 ≡ 11
unfolding two_cores
core_1_first = refl

core_1_second : temporary_of two_cores 1 1 ≡ 523
unfolding two_cores
core_1_second = refl

core_1_words : words_on two_cores 1 ≡ 1035
unfolding two_cores
core_1_words = refl

-- The far border: a word behind an array, and then the temporary words fill the core.
full : kernel.Kernel
full = kernel_of (root 3 ∷ []) (variable 3 15867 true ∷ variable 3 1 true ∷ []) (record { core = 3; params = 0 } ∷ [])

full_stands : places_from 3 0 full.variables ≡ near 0 15867 ∷ near 15867 1 ∷ []
unfolding full
full_stands = refl

full_temporary : temporary_of full 3 0 ≡ 15872
unfolding full
full_temporary = refl

full_words : words_on full 3 ≡ 16384
unfolding full
full_words = refl

-- the second port of core 1 is number 1 there, and core 0's has no identifier on it
second_port : port_at 1 (port 1 0 ∷ port 0 0 ∷ port 1 5 ∷ []) 2 ≡ Some (Fixed 16777472)
second_port = refl

other_port : port_at 1 (port 1 0 ∷ port 0 0 ∷ port 1 5 ∷ []) 1 ≡ None
other_port = refl

-- Two roots on core 1 are the two sides of channel 1, and the root on core 0 has both sides of channel 0 in it: each core needs two ends.
abbrev sends : (channel : ℕ) → kernel.Statement
sends channel = kernel.output (record { resource = Chan channel; time = None; value = kernel.number 7; stamp = None; pos = pos })

abbrev takes : (channel : ℕ) → kernel.Statement
takes channel = kernel.input (record { resource = Chan channel; time = None; condition = None; target = None; stamp = None; pos = pos })

abbrev one : kernel.Statement → kernel.Statements
one s = kernel.more s kernel.no_more

abbrev root_of : (core : ℕ) → kernel.Statement → kernel.Root
root_of core s = record { core = core; place = pos; body = one s; pos = pos }

abbrev plain_channel : Channel
plain_channel = record { streaming = false; path = []; pos = pos }

shared : kernel.Kernel
shared = record {
  roots = root_of 1 (sends 1)
      ∷ root_of 0 (kernel.par (kernel.more_branches (kernel.branch (one (sends 0)) pos) (kernel.more_branches (kernel.branch (one (takes 0)) pos) kernel.no_branch)))
      ∷ root_of 1 (takes 1)
      ∷ [];
  variables = [];
  channels = plain_channel ∷ plain_channel ∷ [];
  timers = [];
  ports = [];
  instances = [];
  main = pos;
}

shared_needs : ends_on shared 1 ≡ 2
unfolding shared
shared_needs = refl

alone_needs : ends_on shared 0 ≡ 2
unfolding shared
alone_needs = refl

abbrev both : (n m : ℕ) → EndPlaces
both n m = record { first = n; second = m }

abbrev on : (core other : ℕ) → Option SideCores
on core other = Some (record { first = core; second = other })

-- each has the first two ends of its core; where a channel isn't, its places are those that follow
shared_has : end_places shared 1 2 ≡ both 0 0 ∷ both 0 1 ∷ []
unfolding shared
shared_has = refl

alone_has : end_places shared 0 2 ≡ both 0 1 ∷ both 2 2 ∷ []
unfolding shared
alone_has = refl

shared_cores : cores_of_channels shared ≡ on 0 0 ∷ on 1 1 ∷ []
unfolding shared
shared_cores = refl

-- Channel 0 goes from core 0 to core 1, and channel 1 back: each core needs an end for its side of each. Channel 2 is not used.
apart : kernel.Kernel
apart = record {
  roots = record { core = 0; place = pos; body = kernel.more (sends 0) (one (takes 1)); pos = pos }
      ∷ record { core = 1; place = pos; body = kernel.more (takes 0) (one (sends 1)); pos = pos }
      ∷ [];
  variables = [];
  channels = plain_channel ∷ plain_channel ∷ plain_channel ∷ [];
  timers = [];
  ports = [];
  instances = [];
  main = pos;
}

apart_cores : cores_of_channels apart ≡ on 0 1 ∷ on 0 1 ∷ None ∷ []
unfolding apart
apart_cores = refl

first_needs : ends_on apart 0 ≡ 2
unfolding apart
first_needs = refl

second_needs : ends_on apart 1 ≡ 2
unfolding apart
second_needs = refl

-- core 0 has the first sides, and core 1 the second ones
first_has : end_places apart 0 3 ≡ both 0 1 ∷ both 1 2 ∷ both 2 2 ∷ []
unfolding apart
first_has = refl

second_has : end_places apart 1 3 ≡ both 0 0 ∷ both 1 1 ∷ both 2 2 ∷ []
unfolding apart
second_has = refl

-- the numbers of channel 1's two ends, each on its core
sides_of_1 : (core_of apart 1 first ≡ 0) × (end_number apart 0 1 first ≡ 1) × (core_of apart 1 second ≡ 1) × (end_number apart 1 1 second ≡ 1)
unfolding apart
sides_of_1 = (refl, refl, refl, refl)
