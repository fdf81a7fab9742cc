-- What tables of channels say.
use Rattle.std.specs.Prelude.{ℕ, cond, List, Option, Some, None, nat_eq}
use Rattle.std.specs.Map.{lookup}
use Rattle.xw_words.specs.declared.pos.Pos.{Pos}
use Rattle.xc_disjoint.specs.declared.uses.Use.{Use}
use Rattle.xc_disjoint.specs.declared.uses.Share.{Share}
use Rattle.xc_disjoint.specs.declared.uses.Share.TheVariants.{One}
use Rattle.xc_disjoint.specs.declared.use_tables.UseTable.{UseTable}
use Rattle.xc_disjoint.specs.declared.use_tables.ParTable.{ParTable}
use Rattle.xc_disjoint.specs.Uses.{Uses, Shares, with_use}

-- what stands in a table for a channel
unfoldable pub found : {V : Type 0} → List (ℕ × V) → ℕ → Option V
found es c = lookup (nat_eq c) es

-- with one entry more, or in another's place
unfoldable pub with_entry : {V : Type 0} → (ℕ → Option V) → ℕ → V → ℕ → Option V
with_entry f key v c = cond (nat_eq key c) (Some v) (f c)

abbrev pub uses_in : UseTable → Uses
uses_in table = found table.entries.entries

-- what is shared, or else the use of one branch
abbrev pub or_one : Option Share → Option Use → Option Share
or_one (Some s) u = Some s
or_one None None = None
or_one None (Some u) = Some (One u)

unfoldable pub with_ones : Shares → Uses → Shares
with_ones f g c = or_one (f c) (g c)

abbrev pub shares_in : ParTable → Shares
shares_in par = with_ones (found par.shared.entries) (uses_in par.largest)

-- a share, with one more branch where that uses the channel
abbrev pub updated_by : Pos → Share → Option Use → Share
updated_by pos s None = s
updated_by pos s (Some u) = with_use pos (Some s) u

-- `updated`, by what stands there
abbrev pub updated_if : Pos → Option Share → Option Use → Option Share
updated_if pos None u = None
updated_if pos (Some s) u = Some (updated_by pos s u)

-- the same for what stands in a table
unfoldable pub updated : Pos → Shares → Uses → Shares
updated pos f g c = updated_if pos (f c) (g c)
