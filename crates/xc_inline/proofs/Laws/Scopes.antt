-- Names that are declared one behind the other.
use Rattle.std.proofs.Common.{◌≡◌, ℕ, zero, suc, ◌+◌, ◌-◌, ◌<◌, ◌≤◌, List, [], ◌∷◌, ◌++◌, length, take, drop, get_or, bytes_eq, arith, refl, ap, ◌∙◌, sym}
use Rattle.std.proofs.lemmas.List.{take_more}
use Rattle.xc_kernel.specs.Scopes as spec
use Rattle.xc_kernel.specs.Scopes.{entity_of, entity_by}
use Rattle.xc_inline.specs.declared.scope.Binding.{Binding}
use Rattle.xc_inline.specs.Scopes.{entity_meant, declared_in}

pub declared_last : (scope : spec.Scope) (bs : List Binding) (b : Binding) → declared_in scope (bs ++ b ∷ []) ≡ spec.with_name (declared_in scope bs) b.name.now (entity_meant b.entity)
declared_last scope [] b = refl
declared_last scope (a ∷ bs) b = declared_last (spec.with_name scope a.name.now (entity_meant a.entity)) bs b

pub declared_length : (scope : spec.Scope) (bs : List Binding) → length (declared_in scope bs) ≡ length scope + length bs
declared_length scope [] = omega arith
declared_length scope (b ∷ bs) = let h = declared_length (spec.with_name scope b.name.now (entity_meant b.entity)) bs in omega (arith, h)

drop_one : {X : Type 0} (n : ℕ) (xs : List X) → drop (n + 1) xs ≡ drop 1 (drop n xs)
drop_one zero xs = refl
drop_one (suc n) [] = grind arith
drop_one (suc n) (x ∷ xs) =
    let e : ◌≡◌ {A = ℕ} (suc n + 1) (suc (n + 1)) = omega arith in
    let step : drop (suc (n + 1)) (x ∷ xs) ≡ drop 1 (drop (suc n) (x ∷ xs)) = drop_one n xs in
    rw e step

-- without the last ones the first are known
pub declared_first : (scope : spec.Scope) (bs : List Binding) (n : ℕ) → n ≤ length bs → drop (length bs - n) (declared_in scope bs) ≡ declared_in scope (take n bs)
declared_first scope [] zero h = refl
declared_first scope [] (suc n) h = absurd (omega (arith, h))
declared_first scope (b ∷ bs) zero h =
    let inner = spec.with_name scope b.name.now (entity_meant b.entity) in
    let e : ◌≡◌ {A = ℕ} (suc (length bs) - zero) (length bs + 1) = omega arith in
    let z : ◌≡◌ {A = ℕ} (length bs - 0) (length bs) = omega arith in
    let last : drop (length bs) (declared_in inner bs) ≡ declared_in inner (take 0 bs) = ap (λ n. drop n (declared_in inner bs)) (sym z) ∙ declared_first inner bs 0 (omega arith) in
    ap (λ n. drop n (declared_in inner bs)) e ∙ drop_one (length bs) (declared_in inner bs) ∙ ap (drop 1) last
declared_first scope (b ∷ bs) (suc n) h =
    let inner = spec.with_name scope b.name.now (entity_meant b.entity) in
    let e : ◌≡◌ {A = ℕ} (suc (length bs) - suc n) (length bs - n) = omega arith in
    ap (λ k. drop k (declared_in inner bs)) e ∙ declared_first inner bs n (omega (arith, h))

-- after names are left out
pub declared_left : (bs : List Binding) (n : ℕ) → n ≤ length (declared_in [] bs) → declared_in [] (take n bs) ≡ drop (length (declared_in [] bs) - n) (declared_in [] bs)
declared_left bs n h =
    let l : length (declared_in [] bs) ≡ length bs = declared_length [] bs ∙ (omega arith) in
    sym (ap (λ k. drop (k - n) (declared_in [] bs)) l ∙ declared_first [] bs n (omega (arith, h, l)))

-- the last name decides, or those before it
pub entity_last : (bs : List Binding) (b : Binding) (name : List ℕ) → entity_of (declared_in [] (bs ++ b ∷ [])) name ≡ entity_by (bytes_eq b.name.now name) (entity_meant b.entity) (entity_of (declared_in [] bs) name)
entity_last bs b name = ap (λ s. entity_of s name) (declared_last [] bs b)

-- the name at a place of a list decides, or those before it
pub entity_at : (bs : List Binding) (n i : ℕ) (b : Binding) (name : List ℕ) → n ≡ i + 1 → b ≡ get_or bs i b → i < length bs → entity_of (declared_in [] (take n bs)) name ≡ entity_by (bytes_eq b.name.now name) (entity_meant b.entity) (entity_of (declared_in [] (take i bs)) name)
entity_at bs n i b name same e h =
    let more = take_more bs i b h in
    ap (λ k. entity_of (declared_in [] (take k bs)) name) same
    ∙ ap (λ xs. entity_of (declared_in [] xs) name) (more ∙ ap (λ x. take i bs ++ x ∷ []) (sym e))
    ∙ entity_last (take i bs) b name
