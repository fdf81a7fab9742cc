-- What is on its way, all four at once.
use Rattle.std.proofs.Common.{◌≡◌, ℕ, zero, suc, refl}
use Rattle.xr_windows.specs.Coming.{coming_of}
use Rattle.xr_windows.specs.declared.coming.Coming.{Coming}
use Rattle.xs_fabric.specs.Lockstep.{late_of}

pub late_all : (clock : ℕ) (old new : Coming) → new.from0.items ≡ late_of clock old.from0.items → new.from1.items ≡ late_of clock old.from1.items → new.from2.items ≡ late_of clock old.from2.items → new.from3.items ≡ late_of clock old.from3.items → (b : ℕ) → coming_of new b ≡ late_of clock (coming_of old b)
late_all clock old new e0 e1 e2 e3 zero = e0
late_all clock old new e0 e1 e2 e3 (suc zero) = e1
late_all clock old new e0 e1 e2 e3 (suc (suc zero)) = e2
late_all clock old new e0 e1 e2 e3 (suc (suc (suc zero))) = e3
late_all clock old new e0 e1 e2 e3 (suc (suc (suc (suc b)))) = refl
