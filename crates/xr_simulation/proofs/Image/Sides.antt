-- The cores of a channel's sides: the plan has those that the laws of runs have.
use Rattle.std.proofs.Common.{◌≡◌, ◌⊎◌, inl, inr, ⊎_elim, ℕ, zero, suc, Bool, true, false, List, [], ◌∷◌, Option, Some, None, slice_get, refl, sym, ap, ◌∙◌, true≢false, arith}
use Rattle.std.specs.Prelude.{◌&&◌, ◌||◌, cond, nat_eq}
use Rattle.xc_kernel.specs.Plain as kernel
use Rattle.xc_kernel.specs.Things.{channel, by_statements}
use Rattle.xc_meaning.specs.States.Channels.{Side, first, second}
use Rattle.xc_meaning.proofs.Basics.{none_given, some_given}
use Rattle.xc_invariants.specs.OnSides.{first_core, last_core, side_core}
use Rattle.xl_image.specs.Images.{one_root_uses}
use Rattle.xl_plan.specs.declared.channels.SideCores.{SideCores}
use Rattle.xl_plan.specs.Layout.{core_in, core_of, is_used_by, is_used_on, second_or, side_cores}

both_true : (a b : Bool) → (a && b) ≡ true → (a ≡ true) × (b ≡ true)
both_true true b e = (refl, e)
both_true false b e = absurd (true≢false (sym e))

or_true : (a b : Bool) → (a || b) ≡ true → (a ≡ true) ⊎ (b ≡ true)
or_true true b e = inl refl
or_true false b e = inr e

eq_from : (a b : ℕ) → nat_eq a b ≡ true → a ≡ b
eq_from a b e = grind arith

-- a root of the core that uses it
user_on : (core c : ℕ) (rs : List kernel.Root) → is_used_by core c rs ≡ true → (i : ℕ) × (r : kernel.Root) × (slice_get rs i ≡ Some r) × (r.core ≡ core) × (by_statements (channel c) r.body ≡ true)
user_on core c [] e = absurd (true≢false (sym e))
user_on core c (r ∷ rs) e =
    ⊎_elim
    (λ here. let both = both_true (nat_eq r.core core) (by_statements (channel c) r.body) here in (0, r, refl, eq_from r.core core both.0, both.1))
    (λ later. let k = user_on core c rs later in (suc k.0, k.1, k.2, k.3, k.4))
    (or_true (nat_eq r.core core && by_statements (channel c) r.body) (is_used_by core c rs) e)

-- the cores of its sides are known
pub record HasCores (c : ℕ) (rs : List kernel.Root) : Type 0 where
  pub some : one_root_uses c rs ≡ true
  pub cores : SideCores
  pub are : side_cores c rs ≡ Some cores

abbrev cores_of : (c : ℕ) (q : kernel.Root) (rs : List kernel.Root) → SideCores
cores_of c q rs = record { first = q.core; second = second_or q.core (side_cores c rs) }

cores_by : (c : ℕ) (q : kernel.Root) (rs : List kernel.Root) (b : Bool) → by_statements (channel c) q.body ≡ b → (by_statements (channel c) q.body ≡ true) ⊎ HasCores c rs → HasCores c (q ∷ rs)
cores_by c q rs true e h = record {
  some = ap (λ b. b || one_root_uses c rs) e;
  cores = cores_of c q rs;
  are = ap (λ b. cond b (Some (cores_of c q rs)) (side_cores c rs)) e;
}
cores_by c q rs false e (inl u) = absurd (true≢false (sym u ∙ e))
cores_by c q rs false e (inr h) = record {
  some = ap (λ b. b || one_root_uses c rs) e ∙ h.some;
  cores = h.cores;
  are = ap (λ b. cond b (Some (cores_of c q rs)) (side_cores c rs)) e ∙ h.are;
}

cores_known : (c : ℕ) (rs : List kernel.Root) (i : ℕ) (r : kernel.Root) → slice_get rs i ≡ Some r → by_statements (channel c) r.body ≡ true → HasCores c rs
cores_known c [] i r e u = absurd (none_given e)
cores_known c (q ∷ rs) zero r e u = cores_by c q rs (by_statements (channel c) q.body) refl (inl (ap (λ (x : kernel.Root). by_statements (channel c) x.body) (some_given e) ∙ u))
cores_known c (q ∷ rs) (suc i) r e u = cores_by c q rs (by_statements (channel c) q.body) refl (inr (cores_known c rs i r e u))

-- where the last user is known, the second side's core is that one's
second_is : (c otherwise : ℕ) (rs : List kernel.Root) → last_core c otherwise rs ≡ second_or otherwise (side_cores c rs)
second_is c otherwise [] = refl
second_is c otherwise (r ∷ rs) = by (by_statements (channel c) r.body) (λ core. second_is c core rs)
  where
    by : (b : Bool) → ((core : ℕ) → last_core c core rs ≡ second_or core (side_cores c rs)) →
        last_core c (cond b r.core otherwise) rs ≡ second_or otherwise (cond b (Some (cores_of c r rs)) (side_cores c rs))
    by true behind = behind r.core
    by false behind = behind otherwise

abbrev first_or : (core : ℕ) → Option SideCores → ℕ
first_or core None = core
first_or core (Some cores) = cores.first

first_is : (c otherwise : ℕ) (rs : List kernel.Root) → first_core c otherwise rs ≡ first_or otherwise (side_cores c rs)
first_is c otherwise [] = refl
first_is c otherwise (r ∷ rs) = by (by_statements (channel c) r.body) (first_is c otherwise rs)
  where
    by : (b : Bool) → first_core c otherwise rs ≡ first_or otherwise (side_cores c rs) →
        cond b r.core (first_core c otherwise rs) ≡ first_or otherwise (cond b (Some (cores_of c r rs)) (side_cores c rs))
    by true behind = refl
    by false behind = behind

-- A side's core is the same to the laws of runs and to the plan.
pub cores_agree : (K : kernel.Kernel) (c : ℕ) (side : Side) → side_core K c side ≡ core_of K c side
cores_agree K c first = first_is c 0 K.roots ∙ by (side_cores c K.roots)
  where
    by : (cores : Option SideCores) → first_or 0 cores ≡ core_in cores first
    by None = refl
    by (Some cores) = refl
cores_agree K c second = second_is c 0 K.roots ∙ by (side_cores c K.roots)
  where
    by : (cores : Option SideCores) → second_or 0 cores ≡ core_in cores second
    by None = refl
    by (Some cores) = refl

-- Of a channel that is used on a core, the cores of the sides are known.
module _ (K : kernel.Kernel) (core c : ℕ) (used : is_used_on K core c ≡ true) where
  pub known : HasCores c K.roots
  known = let u = user_on core c K.roots used in cores_known c K.roots u.0 u.1 u.2 u.4
