-- There is no core above the fourth one.
use Rattle.std.proofs.Common.{◌≡◌, ◌<◌, ◌≤◌, ◌+◌, ℕ, Bool, true, false, List, [], ◌∷◌, refl, subst, arith}
use Rattle.std.specs.Bool.{OnTrue}
use Rattle.std.specs.Prelude.{nat_eq, length}
use Rattle.std.proofs.lemmas.Bool.{eqb-true}
use Rattle.xs_instr.specs.declared.image.CoreImage.{CoreImage}
use Rattle.xs_instr.specs.declared.image.Image.{Image}
use Rattle.xs_instr.specs.declared.image.Pair.{Pair}
use Rattle.xs_instr.specs.Machine.{parts_by, parts_in}
use Rattle.xs_instr.specs.Valid.{AreGoodCores, AreGoodPairs, Valid, times_named}

-- a core with an end has a number below 4
pub no_fifth : (n c e : ℕ) (ks : List CoreImage) → AreGoodCores n ks → e < (parts_in ks c).ends → c < 4
no_fifth n c e [] good there = absurd (omega (arith, there))
no_fifth n c e (k ∷ ks) good there = go (nat_eq k.number c) refl (λ lt. no_fifth (k.number + 1) c e ks good.3 lt) there
  where
    go : (b : Bool) → nat_eq k.number c ≡ b → (e < (parts_in ks c).ends → c < 4) → e < (parts_by k (parts_in ks c) b).ends → c < 4
    go true is rest lt = let same = eqb-true k.number c is in omega (arith, same, good.1)
    go false is rest lt = rest lt

module _ (cores : List CoreImage) (chans : List Pair) where
  valid_at : (b : Bool) → 1 ≤ length cores → AreGoodCores 0 cores → AreGoodPairs cores chans →
      OnTrue b ((c e : ℕ) → c < 4 → e < (parts_in cores c).ends → times_named chans c e ≡ 1) → OnTrue b (Valid (record { cores = cores; chans = chans }))
  valid_at true some good pairs once = record {
    some_core = some;
    cores = good;
    pairs = pairs;
    once = λ c e there. once c e (no_fifth 0 c e cores good there) there;
  }
  valid_at false some good pairs once = tt

-- an image whose ends are all named once, those of four cores that is, can be run
pub valid_of : (L : Image) (cores : List CoreImage) (chans : List Pair) (b : Bool) → cores ≡ L.cores → chans ≡ L.chans → 1 ≤ length cores → AreGoodCores 0 cores →
    AreGoodPairs cores chans → OnTrue b ((c e : ℕ) → c < 4 → e < (parts_in cores c).ends → times_named chans c e ≡ 1) → OnTrue b (Valid L)
valid_of L cores chans b cs ps some good pairs once =
    subst (λ (x : List CoreImage). OnTrue b (Valid (record { cores = x; chans = L.chans }))) cs
    (subst (λ (x : List Pair). OnTrue b (Valid (record { cores = cores; chans = x }))) ps (valid_at cores chans b some good pairs once))
