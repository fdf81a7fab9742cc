-- The number of a path stays once it is there, and a new one is the length of the list.
use Rattle.std.proofs.Common.{◌≡◌, suc, Bool, true, false, ◌||◌, List, [], ◌∷◌, ◌++◌, length, refl, ap, ◌∙◌}
use Rattle.std.proofs.lemmas.Cmp.{nat_list_eq_equiv}
use Rattle.xc_kernel.specs.Paths.{Path, is_same, place_by, place_of_path, has_path, with_by, with_new, with_all}

pub same_as_itself : (path : Path) → is_same path path ≡ true
same_as_itself path = nat_list_eq_equiv.refl path

or_true : (b : Bool) {c : Bool} → c ≡ true → (b || c) ≡ true
or_true true h = refl
or_true false h = h

module _ {V : Type 0} (path_of : V → Path) where
  kept_by : (b : Bool) (xs ys : List V) (path : Path) → (has_path path_of xs path ≡ true → place_of_path path_of (xs ++ ys) path ≡ place_of_path path_of xs path) → (b || has_path path_of xs path) ≡ true → place_by b (place_of_path path_of (xs ++ ys) path) ≡ place_by b (place_of_path path_of xs path)
  kept_by true xs ys path rest h = refl
  kept_by false xs ys path rest h = ap suc (rest h)

  -- a path that is there keeps its number when more come behind
  pub kept_before : (xs ys : List V) (path : Path) → has_path path_of xs path ≡ true → place_of_path path_of (xs ++ ys) path ≡ place_of_path path_of xs path
  kept_before [] ys path h = cc
  kept_before (x ∷ xs) ys path h = kept_by (is_same (path_of x) path) xs ys path (kept_before xs ys path) h

  there_by : (b : Bool) (xs ys : List V) (path : Path) → (has_path path_of xs path ≡ true → has_path path_of (xs ++ ys) path ≡ true) → (b || has_path path_of xs path) ≡ true → (b || has_path path_of (xs ++ ys) path) ≡ true
  there_by true xs ys path rest h = refl
  there_by false xs ys path rest h = rest h

  -- and it is still there
  pub there_before : (xs ys : List V) (path : Path) → has_path path_of xs path ≡ true → has_path path_of (xs ++ ys) path ≡ true
  there_before [] ys path h = cc
  there_before (x ∷ xs) ys path h = there_by (is_same (path_of x) path) xs ys path (there_before xs ys path) h

  at_end_by : (b : Bool) (xs : List V) (x : V) → (has_path path_of xs (path_of x) ≡ false → place_of_path path_of (xs ++ x ∷ []) (path_of x) ≡ length xs) → (b || has_path path_of xs (path_of x)) ≡ false → place_by b (place_of_path path_of (xs ++ x ∷ []) (path_of x)) ≡ suc (length xs)
  at_end_by true xs x rest h = cc
  at_end_by false xs x rest h = ap suc (rest h)

  -- a path that isn't there gets the length as its number
  pub place_at_end : (xs : List V) (x : V) → has_path path_of xs (path_of x) ≡ false → place_of_path path_of (xs ++ x ∷ []) (path_of x) ≡ length xs
  place_at_end [] x h = ap (λ b. place_by b 0) (same_as_itself (path_of x))
  place_at_end (y ∷ xs) x h = at_end_by (is_same (path_of y) (path_of x)) xs x (place_at_end xs x) h

  pub there_at_end : (xs : List V) (x : V) → has_path path_of (xs ++ x ∷ []) (path_of x) ≡ true
  there_at_end [] x = ap (λ b. b || false) (same_as_itself (path_of x))
  there_at_end (y ∷ xs) x = or_true (is_same (path_of y) (path_of x)) (there_at_end xs x)

  new_kept_by : (b : Bool) (known : List V) (x : V) (path : Path) → has_path path_of known path ≡ true → place_of_path path_of (with_by known x b) path ≡ place_of_path path_of known path
  new_kept_by true known x path h = refl
  new_kept_by false known x path h = kept_before known (x ∷ []) path h

  new_there_by : (b : Bool) (known : List V) (x : V) (path : Path) → has_path path_of known path ≡ true → has_path path_of (with_by known x b) path ≡ true
  new_there_by true known x path h = h
  new_there_by false known x path h = there_before known (x ∷ []) path h

  -- a path that is there keeps its number when further ones are numbered
  pub kept : (known xs : List V) (path : Path) → has_path path_of known path ≡ true → place_of_path path_of (with_all path_of known xs) path ≡ place_of_path path_of known path
  kept known [] path h = refl
  kept known (x ∷ xs) path h =
      kept (with_new path_of known x) xs path (new_there_by (has_path path_of known (path_of x)) known x path h)
      ∙ new_kept_by (has_path path_of known (path_of x)) known x path h

  -- a new one gets the length, and keeps it
  pub numbered : (known xs : List V) (x : V) → has_path path_of known (path_of x) ≡ false → place_of_path path_of (with_all path_of known (x ∷ xs)) (path_of x) ≡ length known
  numbered known xs x h =
      ap (λ b. place_of_path path_of (with_all path_of (with_by known x b) xs) (path_of x)) h
      ∙ kept (known ++ x ∷ []) xs (path_of x) (there_at_end known x)
      ∙ place_at_end known x h

  -- to number one list behind another is to number both
  pub with_both : (known xs ys : List V) → with_all path_of known (xs ++ ys) ≡ with_all path_of (with_all path_of known xs) ys
  with_both known [] ys = refl
  with_both known (x ∷ xs) ys = with_both (with_new path_of known x) xs ys
