-- How the roots use channels, and the channel ends that they need by that.
use Rattle.std.specs.Prelude.{ℕ, zero, suc, ◌+◌, Option, Some}
use Rattle.xc_kernel.specs.Plain as kernel
use Rattle.xc_disjoint.specs.Cores.{on_core}
use Rattle.xc_disjoint.specs.declared.channels.RootTable.{RootTable}
use Rattle.xc_disjoint.specs.declared.uses.Held.{Held}
use Rattle.xc_disjoint.specs.declared.uses.Held.TheVariants.{Apart, Two, Many}
use Rattle.xc_disjoint.specs.declared.uses.Use.{Use}
use Rattle.xc_disjoint.specs.declared.uses.Share.{Share}
use Rattle.xc_disjoint.specs.declared.uses.Share.TheVariants as share
use Rattle.xc_disjoint.specs.Uses.{Uses, Shares, of_statements}
use Rattle.xc_disjoint.specs.UseTables.{uses_in}

-- a root's core, and how the root uses channels
pub record RootUse : Type 0 where
  pub core : ℕ
  pub uses : Uses

abbrev pub seen_of : kernel.Root → RootUse
seen_of r = record { core = r.core; uses = of_statements r.body }

-- the same by its table
abbrev pub seen_in : RootTable → RootUse
seen_in root = record { core = root.core; uses = uses_in root.uses }

-- the ends for a channel that one root alone uses: both sides, where they are the branches of a `par` in it
abbrev pub ends_held : Held → ℕ
ends_held Apart = 0
ends_held (Two inside) = 2
ends_held (Many third) = 0

-- the ends that a root needs for a channel, by how the roots use it and how this root does
abbrev pub ends_by : Option Share → Option Use → ℕ
ends_by (Some (share.Two second inside)) (Some u) = 1
ends_by (Some (share.One first)) (Some u) = ends_held u.held
ends_by s u = 0

-- for the channels below a number
abbrev pub ends_below : Shares → Uses → ℕ → ℕ
ends_below shares uses zero = 0
ends_below shares uses (suc n) = ends_below shares uses n + ends_by (shares n) (uses n)

-- the ends that a root needs on a core
abbrev pub ends_at : Shares → (channels core : ℕ) → RootUse → ℕ
ends_at shares channels core root = on_core core root.core (ends_below shares root.uses channels)
