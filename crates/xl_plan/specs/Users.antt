-- Which roots use which channels, as lists.
use Rattle.std.specs.Prelude.{ℕ, false, cond, List, [], ◌∷◌, Option, Some, None, slice_index_or}
use Rattle.xc_kernel.specs.Plain as kernel
use Rattle.xl_ends.specs.Uses.{uses_among}
use Rattle.xl_plan.specs.declared.channels.RootUses.{RootUses}
use Rattle.xl_plan.specs.declared.channels.SideCores.{SideCores}
use Rattle.xl_plan.specs.Layout.{second_or}

-- a root's core, and whether it uses each of so many channels
abbrev pub uses_of_root : (channels : ℕ) → kernel.Root → RootUses
uses_of_root n r = record { core = r.core; used = uses_among n r.body }

-- The cores of a channel's sides: those of the first root that uses it and of the last one. In a checked kernel two roots at most use
-- a channel, and where one alone does, both sides are in it.
abbrev pub cores_among : (channel : ℕ) → List RootUses → Option SideCores
cores_among c [] = None
cores_among c (u ∷ us) =
    cond (slice_index_or u.used c false)
    (Some (record { first = u.core; second = second_or u.core (cores_among c us) }))
    (cores_among c us)

-- the core of the first side, where a root on this core follows those that have these cores
abbrev pub first_or : (core : ℕ) → Option SideCores → ℕ
first_or core None = core
first_or core (Some cores) = cores.first
