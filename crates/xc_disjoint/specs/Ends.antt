-- The channel ends that a kernel's roots need.
use Rattle.std.specs.Prelude.{ℕ, zero, suc, ◌+◌, Bool, true, false, length, nat_eq}
use Rattle.xc_kernel.specs.Plain as kernel
use Rattle.xc_disjoint.specs.Cores.{if_so}
use Rattle.xc_kernel.specs.Things as things
use Rattle.xc_kernel.specs.Things.{by_statements}
use Rattle.xc_kernel.specs.Uses.{once}
use Rattle.xc_kernel.specs.Branches.{branches_of, users, uses_in, some_has_sides}
use Rattle.xc_kernel.specs.Pars as pars

-- `ends_of`, by whether exactly two roots use the channel
abbrev pub ends_by : kernel.Kernel → kernel.Root → ℕ → Bool → ℕ
ends_by k r channel true = once (by_statements (things.channel channel) r.body)
ends_by k r channel false = if_so (some_has_sides channel (uses_in channel (branches_of k.roots)) (pars.of_statements r.body)) 2

-- The ends that a root needs for a channel. Where exactly two roots use the channel, these two are its sides and need one
-- each; else a root needs both where the sides are branches of a `par` in it. A `par` holds all uses of a channel where it holds as
-- many as the kernel has, so 'the innermost' needs no comparing of places. The roots are the branches of a `par` around everything. A
-- channel whose uses don't lie in exactly two branches needs no ends: that it is wrong to use it so is no matter of needs. An end
-- whose other side is on no core counts still, since a place that gives no core leaves out what is there, and not what belongs to it
-- on other cores.
abbrev pub ends_of : kernel.Kernel → kernel.Root → ℕ → ℕ
ends_of k r channel = ends_by k r channel (nat_eq (users channel (branches_of k.roots)) 2)

-- for the channels below a number
abbrev pub ends_below : kernel.Kernel → kernel.Root → ℕ → ℕ
ends_below k r zero = 0
ends_below k r (suc n) = ends_below k r n + ends_of k r n

-- the ends that a root needs for all channels
abbrev pub ends_of_root : kernel.Kernel → kernel.Root → ℕ
ends_of_root k r = ends_below k r (length k.channels)
