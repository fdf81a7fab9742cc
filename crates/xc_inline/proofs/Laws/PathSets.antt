-- Sets of paths, and the places of paths in them.
use Rattle.std.proofs.Common.{◌≡◌, ℕ, suc, ◌+◌, ◌<◌, ◌≤◌, Bool, true, false, not, ◌||◌, cond, List, [], ◌∷◌, ◌++◌, length, map, Option, Some, None, nat_eq, nat_lt, arith, drop, refl, ap, sym, subst, ◌∙◌, true≢false, if◌then◌else◌}
use Rattle.std.specs.Cmp.Lexicographic.{pointwise}
use Rattle.std.specs.List.{list_any, position_or_len}
use Rattle.std.proofs.lemmas.Cmp.{nat_list_eq_equiv}
use Rattle.std.proofs.lemmas.List.Recursion.{is_position_or_len}
use Rattle.std.proofs.lemmas.List.{length-append, map_push, length-map}
use Rattle.std.specs.Vec.{vec_items}
use Rattle.std.specs.declared.vec.Vec.{Vec}
use Rattle.std.specs.declared.alloc.Global.{Global}
use Rattle.xc_kernel.specs.Paths.{Path, is_same, place_by, place_of_path, has_path, with_by, with_new, with_all}
use Rattle.xc_inline.specs.PathSets.{itself}

-- whether a key of a set is this path
abbrev pub is_key : Path → Vec ℕ Global → Bool
is_key path key = pointwise nat_eq path key.items

by_cond : (b : Bool) (n : ℕ) → place_by b n ≡ cond b 0 (1 + n)
by_cond true n = refl
by_cond false n = omega arith

-- the place of a path is that of its key
pub place_is : (path : Path) (keys : List (Vec ℕ Global)) → place_of_path itself (map vec_items keys) path ≡ position_or_len (is_key path) keys
place_is path keys =
    is_position_or_len (λ ks. place_of_path itself (map vec_items ks) path) (is_key path) refl
    (λ k ks. ap (λ b. place_by b (place_of_path itself (map vec_items ks) path)) (nat_list_eq_equiv.symm (vec_items k) path) ∙ by_cond (is_key path k) (place_of_path itself (map vec_items ks) path))
    keys

pub has_is : (path : Path) (keys : List (Vec ℕ Global)) → list_any (is_key path) keys ≡ has_path itself (map vec_items keys) path
has_is path [] = refl
has_is path (k ∷ ks) = λ i. nat_list_eq_equiv.symm path (vec_items k) i || has_is path ks i

at_most_by : (b : Bool) (n m : ℕ) → n ≤ m → place_by b n ≤ suc m
at_most_by true n m h = omega arith
at_most_by false n m h = omega (arith, h)

-- a place is at most the length
pub place_at_most : {V : Type 0} (path_of : V → Path) (xs : List V) (path : Path) → place_of_path path_of xs path ≤ length xs
place_at_most path_of [] path = omega arith
place_at_most path_of (x ∷ xs) path = at_most_by (is_same (path_of x) path) (place_of_path path_of xs path) (length xs) (place_at_most path_of xs path)

-- the place of a path is its place among the paths
pub place_mapped : {V : Type 0} (path_of : V → Path) (xs : List V) (path : Path) → place_of_path itself (map path_of xs) path ≡ place_of_path path_of xs path
place_mapped path_of [] path = refl
place_mapped path_of (x ∷ xs) path = ap (place_by (is_same (path_of x) path)) (place_mapped path_of xs path)

has_mapped : {V : Type 0} (path_of : V → Path) (xs : List V) (path : Path) → has_path itself (map path_of xs) path ≡ has_path path_of xs path
has_mapped path_of [] path = refl
has_mapped path_of (x ∷ xs) path = ap (λ b. is_same (path_of x) path || b) (has_mapped path_of xs path)

found_by : (b : Bool) (p i : ℕ) → Some i ≡ cond b (Some p) None → i ≡ p
found_by true p i e = cc
found_by false p i e = cc

missing_by : (b : Bool) (p n : ℕ) → nat_lt p n ≡ b → None ≡ cond b (Some p) None → p ≤ n → p ≡ n
missing_by true p n e f h = cc
missing_by false p n e f h = let a : (p < n) → ⊥ = (λ l. let t : nat_lt p n ≡ true = grind (arith, l) in cc) in omega (arith, a, h)

-- the place that was found, and where none was
pub place_found : (path : Path) (keys : List (Vec ℕ Global)) (i : ℕ) → Some i ≡ cond (nat_lt (position_or_len (is_key path) keys) (length keys)) (Some (position_or_len (is_key path) keys)) None → i ≡ place_of_path itself (map vec_items keys) path
place_found path keys i e = found_by _ _ _ e ∙ sym (place_is path keys)

pub place_missing : (path : Path) (keys : List (Vec ℕ Global)) → ◌≡◌ {A = Option ℕ} None (cond (nat_lt (position_or_len (is_key path) keys) (length keys)) (Some (position_or_len (is_key path) keys)) None) → length keys ≡ place_of_path itself (map vec_items keys) path
place_missing path keys e =
    let s = place_is path keys in
    let m = place_at_most itself (map vec_items keys) path in
    let l = length-map keys (vec_items {X = ℕ} {Z = Global}) in
    sym (s ∙ missing_by (nat_lt (position_or_len (is_key path) keys) (length keys)) (position_or_len (is_key path) keys) (length keys) refl e (omega (arith, m, s, l)))

added_by : (b : Bool) (keys : List (Vec ℕ Global)) (v : Vec ℕ Global) → map vec_items (if b then keys else keys ++ v ∷ []) ≡ with_by (map vec_items keys) (vec_items v) b
added_by true keys v = refl
added_by false keys v = map_push vec_items keys v

-- a path is added where it is new
pub path_added : (keys : List (Vec ℕ Global)) (v : Vec ℕ Global) (path : Path) → v.items ≡ path → map vec_items (if list_any (is_key (vec_items v)) keys then keys else keys ++ v ∷ []) ≡ with_new itself (map vec_items keys) path
path_added keys v path e =
    added_by (list_any (is_key (vec_items v)) keys) keys v
    ∙ ap (with_by (map vec_items keys) (vec_items v)) (has_is (vec_items v) keys)
    ∙ ap (with_new itself (map vec_items keys)) e

pub path_new : (keys : List (Vec ℕ Global)) (v : Vec ℕ Global) (path : Path) → v.items ≡ path → not (list_any (is_key (vec_items v)) keys) ≡ not (has_path itself (map vec_items keys) path)
path_new keys v path e = ap not (has_is (vec_items v) keys ∙ ap (has_path itself (map vec_items keys)) e)

-- an instance whose path is new is kept, and no other
pub kept_new : {V : Type 0} (path_of : V → Path) (xs : List V) (x : V) (paths : List Path) → paths ≡ map path_of xs → has_path itself paths (path_of x) ≡ false → with_new path_of xs x ≡ xs ++ x ∷ []
kept_new path_of xs x paths e h = ap (with_by xs x) (sym (has_mapped path_of xs (path_of x)) ∙ ap (λ ps. has_path itself ps (path_of x)) (sym e) ∙ h)

pub kept_known : {V : Type 0} (path_of : V → Path) (xs : List V) (x : V) (paths : List Path) → paths ≡ map path_of xs → has_path itself paths (path_of x) ≡ true → with_new path_of xs x ≡ xs
kept_known path_of xs x paths e h = ap (with_by xs x) (sym (has_mapped path_of xs (path_of x)) ∙ ap (λ ps. has_path itself ps (path_of x)) (sym e) ∙ h)

grown_by_one : {V : Type 0} (xs : List V) (x : V) (b : Bool) → length (with_by xs x b) ≤ length xs + 1
grown_by_one xs x true = omega arith
grown_by_one xs x false = let h = length-append xs (x ∷ []) in omega (arith, h)

-- one path more at most
pub one_more : {V : Type 0} (path_of : V → Path) (xs : List V) (x : V) → length (with_new path_of xs x) ≤ length xs + 1
one_more path_of xs x = grown_by_one xs x (has_path path_of xs (path_of x))

-- the first of those that were seen is kept, before the rest
pub kept_more : {V : Type 0} (path_of : V → Path) (known : List V) (x : V) (rest : List V) {seen after whole : List V} → seen ≡ x ∷ rest → after ≡ with_new path_of known x → with_all path_of known seen ≡ whole → with_all path_of after rest ≡ whole
kept_more path_of known x rest items kept so_far = ap (λ k. with_all path_of k rest) kept ∙ sym (ap (with_all path_of known) items) ∙ so_far

pub few_more : {V : Type 0} (x : V) (rest : List V) (a b n : ℕ) {seen : List V} → seen ≡ x ∷ rest → a ≤ b + 1 → b + length seen ≤ n → a + length rest ≤ n
few_more x rest a b n items h k = let l = ap length items in omega (arith, h, k, l)

-- a list that is its own rest is empty
pub nothing_left : {V : Type 0} (xs : List V) {rest : List V} → xs ≡ rest → rest ≡ drop 1 xs → xs ≡ []
nothing_left [] e h = refl
nothing_left (x ∷ xs) e h = let l = ap length (e ∙ h) in absurd (omega (arith, l))

-- whether a path was known, by whether it was new
was_known : (known new : Bool) → new ≡ not known → new ≡ false → known ≡ true
was_known true new e f = refl
was_known false new e f = absurd (true≢false (sym e ∙ f))

was_unknown : (known new : Bool) → new ≡ not known → new ≡ true → known ≡ false
was_unknown true new e f = absurd (true≢false (sym f ∙ e))
was_unknown false new e f = refl

-- an instance, where its path was known and where it was new, before and after the path is added to those known
module _ {V : Type 0} (path_of : V → Path) (xs : List V) (x : V) (p : Path) {paths made : List Path} (at : p ≡ path_of x)
    (so : paths ≡ map path_of xs) (added : made ≡ with_new itself paths p) where
  pub few_kept : length made ≤ length paths + 1
  few_kept = subst (λ ps. length ps ≤ length paths + 1) (sym added) (one_more itself paths p)

  module _ (new : Bool) (is : new ≡ not (has_path itself paths p)) where
    pub known_kept : new ≡ false → xs ≡ with_new path_of xs x
    known_kept f = sym (kept_known path_of xs x paths so (ap (has_path itself paths) (sym at) ∙ was_known _ new is f))

    pub known_paths : new ≡ false → made ≡ map path_of xs
    known_paths f = added ∙ ap (with_by paths p) (was_known _ new is f) ∙ so

    pub new_kept : {items : List V} → new ≡ true → items ≡ xs ++ x ∷ [] → items ≡ with_new path_of xs x
    new_kept f e = e ∙ sym (kept_new path_of xs x paths so (ap (has_path itself paths) (sym at) ∙ was_unknown _ new is f))

    pub new_paths : {items : List V} → new ≡ true → items ≡ xs ++ x ∷ [] → made ≡ map path_of items
    new_paths f e =
        added ∙ ap (with_by paths p) (was_unknown _ new is f) ∙ ap (λ ps. ps ++ p ∷ []) so ∙ ap (λ q. map path_of xs ++ q ∷ []) at
        ∙ sym (ap (map path_of) e ∙ map_push path_of xs x)
