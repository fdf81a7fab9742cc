-- The rules 705 and 706 at one root, port or use.
use Rattle.std.specs.Prelude.{ℕ, Bool, true, false, not, List, [], ◌∷◌, slice_get, nat_eq, Option, Some, None}
use Rattle.xw_words.specs.declared.pos.Pos.{Pos}
use Rattle.xw_words.specs.declared.pos.Broken.{Broken}
use Rattle.xc_kernel.specs.declared.kernel.PortUse.{PortUse}
use Rattle.xc_kernel.specs.declared.statement.KRes.{KRes}
use Rattle.xc_kernel.specs.declared.statement.KRes.TheVariants.{Port, Timer, Chan}
use Rattle.xc_kernel.specs.Plain as kernel
use Rattle.xc_disjoint.specs.Cores.{no_core}
use Rattle.xc_kernel.specs.Uses as uses
use Rattle.xc_kernel.specs.Uses.{Use}
use Rattle.xc_disjoint.specs.Leasts.{first_among}

-- a rule at a place, where it is broken
abbrev pub rule_if : Bool → ℕ → Pos → Option Broken
rule_if true rule pos = Some (record { rule = rule; pos = pos })
rule_if false rule pos = None

-- by the core that a place gives
abbrev pub rule_of_place : ℕ → Pos → Option Broken
rule_of_place core place = rule_if (nat_eq core no_core) 705 place

abbrev pub rule_of_root : kernel.Root → Option Broken
rule_of_root r = rule_of_place r.core r.place

abbrev pub rule_of_port : PortUse → Option Broken
rule_of_port p = rule_of_place p.core p.place

-- by the port that is used on a core
abbrev pub rule_by_port : ℕ → Pos → Option PortUse → Option Broken
rule_by_port core pos None = None
rule_by_port core pos (Some p) = rule_if (not (nat_eq p.core core)) 706 pos

abbrev pub rule_of_resource : List PortUse → ℕ → Pos → KRes → Option Broken
rule_of_resource ports core pos (Port n) = rule_by_port core pos (slice_get ports n)
rule_of_resource ports core pos (Timer n) = None
rule_of_resource ports core pos (Chan n) = None

-- at a use on a core
unfoldable pub rule_of_use : List PortUse → ℕ → Use → Option Broken
rule_of_use ports core u = rule_of_resource ports core u.pos u.resource

-- at the uses of all roots
abbrev pub first_in_roots : List PortUse → Option Broken → List kernel.Root → Option Broken
first_in_roots ports best [] = best
first_in_roots ports best (r ∷ rs) =
    first_in_roots ports (first_among (rule_of_use ports r.core) best (uses.of_statements r.body)) rs
