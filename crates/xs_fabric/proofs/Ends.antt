-- The sums are what is seen of the four cores.
use Rattle.std.proofs.Common.{◌≡◌, List, map, subst}
use Rattle.xs_instr.specs.declared.image.Image.{Image}
use Rattle.xs_instr.specs.declared.image.Stim.{Stim}
use Rattle.xs_instr.specs.declared.trace.Record.{Record}
use Rattle.xs_core.specs.Core.{Seen as Core}
use Rattle.xs_fabric.specs.declared.totals.Totals.{Totals}
use Rattle.xs_fabric.specs.EndWord.{sights}
use Rattle.xs_fabric.specs.Seen.{home_in, homes, together}
use Rattle.xs_fabric.specs.Rounds.{Links}
use Rattle.xs_fabric.specs.Totals.{seen_as}

pub sums : (L : Image) (s : Stim) (totals : Totals) (seen cores : List Core) (links : Links) (trace : List Record) → seen ≡ cores → (map home_in seen ≡ homes L s → seen_as totals ≡ sights L s (together seen links trace) 4) → map home_in cores ≡ homes L s → seen_as totals ≡ sights L s (together cores links trace) 4
sums L s totals seen cores links trace e h of = subst (λ l. map home_in l ≡ homes L s → seen_as totals ≡ sights L s (together l links trace) 4) e h of
