-- The plan of each core, and what an image has of a core that has a root.
use Rattle.std.proofs.Common.{◌≡◌, ℕ, zero, suc, ◌+◌, ◌<◌, Bool, true, false, List, [], ◌∷◌, length, map, Contains, Some, slice_get, nat_eq, refl, sym, ap, subst, ◌∙◌, arith}
use Rattle.xs_instr.specs.declared.image.CoreImage.{CoreImage}
use Rattle.xs_instr.specs.declared.image.Image.{Image}
use Rattle.xs_instr.specs.Machine.{no_parts, parts_by, parts_in}
use Rattle.xs_instr.specs.Valid.{AreGoodCores, Valid}
use Rattle.xc_kernel.specs.Plain as kernel
use Rattle.xc_disjoint.specs.Needs.{ends_on, words_on, timers_on}
use Rattle.xl_expr.specs.declared.plan.Plan.{Plan}
use Rattle.xl_image.specs.Images.{IsCoreImage, IsImage, IsPlan, RootAt, decl_of, root_sides, roots_on, thread_of}
use Rattle.xl_plan.specs.Planned.{ports_on}
use Rattle.xl_plan.proofs.Lists.{some_given, none_given, contained_at, contains_at}
use Rattle.xr_simulation.proofs.Relation.Roots.{listed_on}

-- what an image's part of a core has for the core's roots, by a plan
pub record IsImaged (K : kernel.Kernel) (core : ℕ) (part : CoreImage) (plan : Plan) : Type 0 where
  pub planned : IsPlan K core plan
  pub words : part.words ≡ words_on K core
  pub timers : part.timers ≡ timers_on K core
  pub ports : part.ports ≡ map decl_of (ports_on core K.ports)
  pub ends : part.ends ≡ ends_on K core
  pub as_many : length part.roots ≡ length (roots_on core K.roots)
  pub roots : (number : ℕ) (root : kernel.Root) → slice_get K.roots number ≡ Some root → root.core ≡ core → RootAt K plan part core (thread_of core K.roots number) root (root_sides K number)

-- a core's part, where the image has one
pub data Part (K : kernel.Kernel) (parts : List CoreImage) (core : ℕ) : Type 0 where
  there : IsCoreImage K (parts_in parts core) → (parts_in parts core).number ≡ core → Part K parts core
  missing : ((place : ℕ) (part : CoreImage) → slice_get parts place ≡ Some part → part.number ≡ core → ⊥) → parts_in parts core ≡ no_parts core → Part K parts core

module _ (K : kernel.Kernel) where
  eq_from : (a b : ℕ) → nat_eq a b ≡ true → a ≡ b
  eq_from a b e = grind arith

  not_from : (a b : ℕ) → nat_eq a b ≡ false → a ≡ b → ⊥
  not_from a b e q = grind arith

  pub part_of : (parts : List CoreImage) → ((place : ℕ) (part : CoreImage) → slice_get parts place ≡ Some part → IsCoreImage K part) → (core : ℕ) → Part K parts core
  part_of [] all core = missing (λ place part e q. none_given e) refl
  part_of (p ∷ ps) all core = by (nat_eq p.number core) refl (part_of ps (λ place part e. all (suc place) part e) core)
    where
      none_here : nat_eq p.number core ≡ false → ((place : ℕ) (part : CoreImage) → slice_get ps place ≡ Some part → part.number ≡ core → ⊥) →
          (place : ℕ) (part : CoreImage) → slice_get (p ∷ ps) place ≡ Some part → part.number ≡ core → ⊥
      none_here q none zero part e s = not_from p.number core q (ap (λ (x : CoreImage). x.number) (some_given e) ∙ s)
      none_here q none (suc place) part e s = none place part e s

      by : (b : Bool) → nat_eq p.number core ≡ b → Part K ps core → Part K (p ∷ ps) core
      by true q h =
          let same : parts_in (p ∷ ps) core ≡ p = ap (parts_by p (parts_in ps core)) q in
          there (subst (IsCoreImage K) (sym same) (all 0 p refl)) (ap (λ (x : CoreImage). x.number) same ∙ eq_from p.number core q)
      by false q (there is n) =
          let same : parts_in (p ∷ ps) core ≡ parts_in ps core = ap (parts_by p (parts_in ps core)) q in
          there (subst (IsCoreImage K) (sym same) is) (ap (λ (x : CoreImage). x.number) same ∙ n)
      by false q (missing none is) = missing (none_here q none) (ap (parts_by p (parts_in ps core)) q ∙ is)

  abbrev no_plan : Plan
  no_plan = record { vars = []; ports = []; timers = []; ends = []; channels = []; first_stack = 0 }

  -- the plan of a core; one that has no root needs none
  abbrev pub plan_by : {parts : List CoreImage} {core : ℕ} → Part K parts core → Plan
  plan_by (there is n) = is.plan
  plan_by (missing none is) = no_plan

  imaged_by : (parts : List CoreImage) (core : ℕ) (found : Part K parts core) → (place : ℕ) (part : CoreImage) → slice_get parts place ≡ Some part → part.number ≡ core → IsImaged K core (parts_in parts core) (plan_by found)
  imaged_by parts core (there is n) place part e s = record {
    planned = subst (λ c. IsPlan K c is.plan) n is.planned;
    words = is.words ∙ ap (words_on K) n;
    timers = is.timers ∙ ap (timers_on K) n;
    ports = is.ports ∙ ap (λ c. map decl_of (ports_on c K.ports)) n;
    ends = is.ends ∙ ap (ends_on K) n;
    as_many = is.as_many ∙ ap (λ c. length (roots_on c K.roots)) n;
    roots = subst (λ c. (number : ℕ) (root : kernel.Root) → slice_get K.roots number ≡ Some root → root.core ≡ c → RootAt K is.plan (parts_in parts core) c (thread_of c K.roots number) root (root_sides K number)) n is.roots;
  }
  imaged_by parts core (missing none is) place part e s = absurd (none place part e s)

  module _ (L : Image) (is : IsImage K L) where
    part_on : (core : ℕ) → Part K L.cores core
    part_on core = part_of L.cores (λ place part e. is.parts part (contains_at L.cores place part e)) core

    pub plans : (core : ℕ) → Plan
    plans core = plan_by (part_on core)

    -- a core with a root has a part
    has_part : (number : ℕ) (root : kernel.Root) → slice_get K.roots number ≡ Some root → (place : ℕ) × (part : CoreImage) × (slice_get L.cores place ≡ Some part) × (part.number ≡ root.core)
    has_part number root known =
        let p = is.cores root.core root (contains_at (roots_on root.core K.roots) (thread_of root.core K.roots number) root (listed_on K root.core number root known refl)) in
        let at = contained_at L.cores p.0 p.1 in
        (at.0, p.0, at.1, p.2)

    pub imaged_at : (number : ℕ) (root : kernel.Root) → slice_get K.roots number ≡ Some root → IsImaged K root.core (parts_in L.cores root.core) (plans root.core)
    unfolding plans
    imaged_at number root known =
        let p = has_part number root known in
        imaged_by L.cores root.core (part_on root.core) p.0 p.1 p.2 p.3

    below_four : (n : ℕ) (parts : List CoreImage) → AreGoodCores n parts → (place : ℕ) (part : CoreImage) → slice_get parts place ≡ Some part → part.number < 4
    below_four n [] h place part e = absurd (none_given e)
    below_four n (p ∷ ps) h zero part e = subst (λ (x : CoreImage). x.number < 4) (some_given e) h.1
    below_four n (p ∷ ps) h (suc place) part e = below_four (p.number + 1) ps h.3 place part e

    -- there are four cores
    pub placed_at : Valid L → (number : ℕ) (root : kernel.Root) → slice_get K.roots number ≡ Some root → root.core < 4
    placed_at valid number root known =
        let p = has_part number root known in
        subst (λ c. c < 4) p.3 (below_four 0 L.cores valid.cores p.0 p.1 p.2)

    -- how many roots a core's part has
    pub count_by : (core : ℕ) → Part K L.cores core → length (parts_in L.cores core).roots ≡ length (roots_on core K.roots)
    count_by core (there h n) = h.as_many ∙ ap (λ c. length (roots_on c K.roots)) n
    count_by core (missing none h) = ap (λ (x : CoreImage). length x.roots) h ∙ sym (nothing (roots_on core K.roots) (λ root among. let p = is.cores core root among in let at = contained_at L.cores p.0 p.1 in none at.0 p.0 at.1 p.2))
      where
        nothing : (rs : List kernel.Root) → ((root : kernel.Root) → Contains rs root → ⊥) → length rs ≡ 0
        nothing [] k = refl
        nothing (r ∷ rs) k = absurd (k r (contains_at (r ∷ rs) 0 r refl))

    pub counted_at : (core : ℕ) → length (parts_in L.cores core).roots ≡ length (roots_on core K.roots)
    counted_at core = count_by core (part_on core)
