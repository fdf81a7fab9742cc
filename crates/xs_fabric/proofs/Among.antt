-- One of the four cores, among them.
use Rattle.std.proofs.Common.{◌≡◌, ℕ, zero, suc, ◌<◌, ◌≤◌, List, [], ◌∷◌, map, length, Some, None, refl, sym, ap, ◌∙◌, arith}
use Rattle.std.specs.Prelude.{slice_get, slice_set}
use Rattle.std.proofs.lemmas.List.{map-set, length-map}
use Rattle.std.proofs.Math.Seq.{map-set_same}
use Rattle.std.proofs.lemmas.Option.{slice_get-map, same_Some, get_or_from_slice_get}
use Rattle.xs_instr.specs.declared.image.Image.{Image}
use Rattle.xs_instr.specs.declared.image.Stim.{Stim}
use Rattle.xs_instr.specs.Machine.{home_of}
use Rattle.xs_core.specs.Core.{Seen as Core}
use Rattle.xs_fabric.specs.Seen.{home_in, homes, state_in}

home_among : (L : Image) (s : Stim) (i : ℕ) → i < 4 → slice_get (homes L s) i ≡ Some (home_of L s i)
home_among L s zero h = refl
home_among L s (suc zero) h = refl
home_among L s (suc (suc zero)) h = refl
home_among L s (suc (suc (suc zero))) h = refl
home_among L s (suc (suc (suc (suc i)))) h = absurd (omega (arith, h))

-- a core's home is that of its number
pub home_at : (L : Image) (s : Stim) (cores : List Core) (i : ℕ) (core : Core) → i < 4 → map home_in cores ≡ homes L s → slice_get cores i ≡ Some core → core.home ≡ home_of L s i
home_at L s cores i core lt h g =
    let a : slice_get (map home_in cores) i ≡ Some core.home = rw (slice_get-map, g) refl in
    let b : slice_get (map home_in cores) i ≡ Some (home_of L s i) = rw h (home_among L s i lt) in
    same_Some _ _ (sym a ∙ b)

pub state_at : (cores : List Core) (i : ℕ) (core : Core) → slice_get cores i ≡ Some core → slice_get (map state_in cores) i ≡ Some core.state
state_at cores i core g = rw (slice_get-map, g) refl

pub states_set : (cores : List Core) (i : ℕ) (new : Core) → map state_in (slice_set cores i new) ≡ slice_set (map state_in cores) i new.state
states_set cores i new = map-set state_in cores i new

pub same_homes : (cores : List Core) (i : ℕ) (core new : Core) → slice_get cores i ≡ Some core → new.home ≡ core.home → map home_in (slice_set cores i new) ≡ map home_in cores
same_homes cores i core new g e = map-set_same home_in cores i new core (e ∙ ap home_in (sym (get_or_from_slice_get cores i core core g)))

-- there is nothing past the end of a list
pub none_past : {A : Type 0} (xs : List A) (i : ℕ) → length xs ≤ i → slice_get xs i ≡ None
none_past [] i h = refl
none_past (x ∷ xs) zero h = absurd (omega (arith, h))
none_past (x ∷ xs) (suc i) h = none_past xs i (omega (arith, h))

pub no_core : (cores : List Core) (i : ℕ) → length cores ≡ 4 → 4 ≤ i → slice_get (map state_in cores) i ≡ None
no_core cores i four h = none_past (map state_in cores) i (omega (arith, length-map cores state_in, four, h))
