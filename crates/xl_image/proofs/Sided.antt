-- Roots with the sides in which their code stands.
use Rattle.std.proofs.Common.{◌≡◌, ◌∙◌, ℕ, zero, suc, ◌+◌, ◌<◌, ◌≤◌, Bool, true, false, List, [], ◌∷◌, length, drop, get_or, map, take, Some, None, slice_get, nat_eq, refl, sym, ap, ap₂, arith}
use Rattle.std.specs.Prelude.{cond, replicate}
use Rattle.std.proofs.Math.ListN.{drop_of_length-le}
use Rattle.std.proofs.lemmas.List.{length-map}
use Rattle.std.proofs.lemmas.List.Sums.{sum_by-cons}
use Rattle.xw_words.proofs.Lists.{drop_found}
use Rattle.xc_kernel.specs.declared.kernel.Root.{Root}
use Rattle.xc_kernel.specs.Kernels.{root_of}
use Rattle.xc_kernel.specs.Plain as kernel
use Rattle.xc_kernel.specs.Branches.{branches_of}
use Rattle.xc_disjoint.specs.Cores.{on_core}
use Rattle.xl_plan.specs.Layout.{number_on}
use Rattle.xl_plan.proofs.Lists.{some_given, none_given}
use Rattle.xl_plan.proofs.Numbered.{listed}
use Rattle.xl_ends.specs.Branches.{sides_of_each}
use Rattle.xl_ends.specs.Ends.{Sides}
use Rattle.xl_image.proofs.Users.{no_sides_are}
use Rattle.xl_image.specs.Images.{SidedRoot, core_of_root, no_sides, root_sides, roots_on, sided_from, sided_on, sided_roots, sides_or, thread_of}

abbrev pub root_in : SidedRoot → kernel.Root
root_in s = s.root

abbrev pub sides_in : SidedRoot → Sides
sides_in s = s.sides

roots_from : (sides : Sides) (before : List kernel.Statements) (rs : List kernel.Root) → map root_in (sided_from sides before rs) ≡ rs
roots_from sides before [] = refl
roots_from sides before (r ∷ rs) = ap (λ l. r ∷ l) (roots_from sides (r.body ∷ before) rs)

sides_from : (sides : Sides) (before : List kernel.Statements) (rs : List kernel.Root) → map sides_in (sided_from sides before rs) ≡ sides_of_each sides before (branches_of rs)
sides_from sides before [] = refl
sides_from sides before (r ∷ rs) = ap₂ ◌∷◌ refl (sides_from sides (r.body ∷ before) rs)

pub roots_are : (k : kernel.Kernel) → map root_in (sided_roots k) ≡ k.roots
roots_are k = roots_from (no_sides k) [] k.roots

pub sides_are : (k : kernel.Kernel) → map sides_in (sided_roots k) ≡ sides_of_each (no_sides k) [] (branches_of k.roots)
sides_are k = sides_from (no_sides k) [] k.roots

-- those on a core
on_core_by : (core : ℕ) (s : SidedRoot) (ss : List SidedRoot) (b : Bool) → map root_in (cond b (s ∷ sided_on core ss) (sided_on core ss)) ≡ cond b (s.root ∷ map root_in (sided_on core ss)) (map root_in (sided_on core ss))
on_core_by core s ss true = refl
on_core_by core s ss false = refl

pub roots_there : (core : ℕ) (ss : List SidedRoot) → map root_in (sided_on core ss) ≡ roots_on core (map root_in ss)
roots_there core [] = refl
roots_there core (s ∷ ss) =
    on_core_by core s ss (nat_eq s.root.core core)
    ∙ ap (λ l. cond (nat_eq s.root.core core) (s.root ∷ l) l) (roots_there core ss)

pub as_many_there : (k : kernel.Kernel) (core : ℕ) → length (sided_on core (sided_roots k)) ≡ length (roots_on core k.roots)
as_many_there k core =
    sym (length-map (sided_on core (sided_roots k)) root_in)
    ∙ ap length (roots_there core (sided_roots k) ∙ ap (roots_on core) (roots_are k))

-- The root of a number.

found_in : (ss : List SidedRoot) (none : Sides) (number : ℕ) (r : kernel.Root) → slice_get (map root_in ss) number ≡ Some r → slice_get ss number ≡ Some (record { root = r; sides = sides_or none (slice_get ss number) })
found_in [] none number r e = absurd (none_given e)
found_in (s ∷ ss) none zero r e = ap (λ x. Some (record { root = x; sides = s.sides })) (some_given e)
found_in (s ∷ ss) none (suc number) r e = found_in ss none number r e

pub sided_at : (k : kernel.Kernel) (number : ℕ) (r : kernel.Root) → slice_get k.roots number ≡ Some r → slice_get (sided_roots k) number ≡ Some (record { root = r; sides = root_sides k number })
sided_at k number r known = found_in (sided_roots k) (no_sides k) number r (ap (λ rs. slice_get rs number) (roots_are k) ∙ known)

abbrev core_in : SidedRoot → ℕ
core_in s = s.root.core

numbers_alike : (core : ℕ) (ss : List SidedRoot) (number : ℕ) → number_on core_in core ss number ≡ number_on core_of_root core (map root_in ss) number
numbers_alike core [] zero = refl
numbers_alike core [] (suc number) = refl
numbers_alike core (s ∷ ss) zero = refl
numbers_alike core (s ∷ ss) (suc number) =
    let a = sum_by-cons (λ (x : SidedRoot). on_core core (core_in x) 1) s (take number ss) in
    let b = sum_by-cons (λ (x : kernel.Root). on_core core (core_of_root x) 1) s.root (take number (map root_in ss)) in
    let others = numbers_alike core ss number in
    omega (arith, a, b, others)

-- its place among those of its core
pub sided_there : (k : kernel.Kernel) (core number : ℕ) (r : kernel.Root) → slice_get k.roots number ≡ Some r → r.core ≡ core →
    slice_get (sided_on core (sided_roots k)) (thread_of core k.roots number) ≡ Some (record { root = r; sides = root_sides k number })
sided_there k core number r known here =
    ap (slice_get (sided_on core (sided_roots k))) (sym (numbers_alike core (sided_roots k) number ∙ ap (λ rs. thread_of core rs number) (roots_are k)))
    ∙ listed core_in core (sided_roots k) number (record { root = r; sides = root_sides k number }) (sided_at k number r known) here

-- The roots one after the other.

pub sided_from_here : (k : kernel.Kernel) (number : ℕ) (r : kernel.Root) → slice_get k.roots number ≡ Some r →
    drop number (sided_roots k) ≡ record { root = r; sides = root_sides k number } ∷ drop (number + 1) (sided_roots k)
sided_from_here k number r known = drop_found (sided_roots k) number (record { root = r; sides = root_sides k number }) (sided_at k number r known)

pub root_known : (rs : List Root) (i : ℕ) (x : Root) → x ≡ get_or rs i x → i < length rs → slice_get (map root_of rs) i ≡ Some (root_of x)
root_known [] i x e lt = absurd (let z : ⊥ = omega (arith, lt) in z)
root_known (y ∷ rs) zero x e lt = ap (λ z. Some (root_of z)) (sym e)
root_known (y ∷ rs) (suc i) x e lt = root_known rs i x e (omega (arith, lt))

-- the sides that are told of all are those of the roots
pub each_told : (k : kernel.Kernel) (n : ℕ) (rs : List kernel.Root) (each : List Sides) → each ≡ sides_of_each (replicate n None) [] (branches_of rs) → n ≡ length k.channels → rs ≡ k.roots →
    each ≡ sides_of_each (no_sides k) [] (branches_of k.roots)
each_told k n rs each is many same =
    is ∙ ap₂ (λ (none : Sides) (l : List kernel.Root). sides_of_each none [] (branches_of l)) (no_sides_are k n (replicate n None) refl many) same

pub as_many_sides : (k : kernel.Kernel) (each : List Sides) → each ≡ sides_of_each (no_sides k) [] (branches_of k.roots) → length each ≡ length k.roots
as_many_sides k each is =
    ap length (is ∙ sym (sides_are k)) ∙ length-map (sided_roots k) sides_in
    ∙ sym (length-map (sided_roots k) root_in) ∙ ap length (roots_are k)

own_in : (ss : List SidedRoot) (none : Sides) (i : ℕ) (own : Sides) → own ≡ get_or (map sides_in ss) i own → i < length ss → own ≡ sides_or none (slice_get ss i)
own_in [] none i own e lt = absurd (let z : ⊥ = omega (arith, lt) in z)
own_in (s ∷ ss) none zero own e lt = e
own_in (s ∷ ss) none (suc i) own e lt = own_in ss none i own e (omega (arith, lt))

pub own_sides : (k : kernel.Kernel) (each : List Sides) → each ≡ sides_of_each (no_sides k) [] (branches_of k.roots) → (i : ℕ) (own : Sides) → own ≡ get_or each i own → i < length k.roots → own ≡ root_sides k i
own_sides k each is i own e lt =
    let n = sym (length-map (sided_roots k) root_in) ∙ ap length (roots_are k) in
    own_in (sided_roots k) (no_sides k) i own (e ∙ ap (λ ss. get_or ss i own) (is ∙ sym (sides_are k))) (omega (arith, lt, n))

-- behind the last root there is none
pub none_behind : (k : kernel.Kernel) (i : ℕ) → length k.roots ≤ i → drop i (sided_roots k) ≡ []
none_behind k i le =
    let n = sym (length-map (sided_roots k) root_in) ∙ ap length (roots_are k) in
    drop_of_length-le (sided_roots k) (omega (arith, le, n))
