-- The machine at its start, once the roots' threads have set their stacks.
use Rattle.std.proofs.Common.{◌≡◌, ℕ, zero, suc, ◌<◌, [], ◌∷◌, Some, sym, arith}
use Rattle.std.specs.Prelude.{slice_get}
use Rattle.std.proofs.lemmas.Option.{same_Some}
use Rattle.xs_instr.specs.declared.image.Image.{Image}
use Rattle.xs_instr.specs.declared.state.CoreState.{CoreState}
use Rattle.xs_instr.specs.Machine.{Machine, boot, parts_in}
use Rattle.xr_simulation.specs.Roles.{Roles}
use Rattle.xr_simulation.proofs.Start.Boot.{set_core}

-- the machine where all roots' threads have set their stacks, by two steps each
abbrev pub set_machine : Roles → Image → Machine
set_machine who L = record (boot L) {
  cores = set_core (who 0) (parts_in L.cores 0)
      ∷ set_core (who 1) (parts_in L.cores 1)
      ∷ set_core (who 2) (parts_in L.cores 2)
      ∷ set_core (who 3) (parts_in L.cores 3)
      ∷ [];
}

-- the four cores
pub set_cores_are : (who : Roles) (L : Image) (c : ℕ) (a : CoreState) → slice_get (set_machine who L).cores c ≡ Some a → (c < 4) × (a ≡ set_core (who c) (parts_in L.cores c))
set_cores_are who L zero a e = (omega arith, sym (same_Some _ a e))
set_cores_are who L (suc zero) a e = (omega arith, sym (same_Some _ a e))
set_cores_are who L (suc (suc zero)) a e = (omega arith, sym (same_Some _ a e))
set_cores_are who L (suc (suc (suc zero))) a e = (omega arith, sym (same_Some _ a e))
set_cores_are who L (suc (suc (suc (suc c)))) a e = cc
