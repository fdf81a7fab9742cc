-- The rule that a channel breaks, by its use in the whole kernel.
use Rattle.std.specs.Prelude.{ℕ, List, Option, Some, None, slice_get}
use Rattle.xw_words.specs.declared.pos.Broken.{Broken}
use Rattle.xc_kernel.specs.declared.kernel.Chan.{Chan}
use Rattle.xc_disjoint.specs.declared.uses.Use.{Use}
use Rattle.xc_disjoint.specs.declared.uses.Held.{Held}
use Rattle.xc_disjoint.specs.declared.uses.Held.TheVariants.{Apart, Two, Many}
use Rattle.xc_disjoint.specs.Uses.{at}

-- at the channel's declaration
abbrev pub one_sided_at : Option Chan → Option Broken
one_sided_at None = None
one_sided_at (Some d) = Some (at 604 d.pos)

abbrev pub rule_by : Option Chan → Held → Option Broken
rule_by declared Apart = one_sided_at declared
rule_by declared (Two inside) = inside
rule_by declared (Many third) = Some third

abbrev pub rule_of : List Chan → ℕ → Use → Option Broken
rule_of channels c u = rule_by (slice_get channels c) u.held
