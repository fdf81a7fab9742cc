-- The instances that a program's roots make are in the kernel's lists.
use Rattle.std.proofs.Common.{◌≡◌, ℕ, suc, ◌<◌, ◌⊎◌, inl, inr, Bool, true, false, ◌||◌, List, [], ◌∷◌, ◌++◌, length, slice_get, Some, refl, sym, ap, subst, ◌∙◌, true≢false, arith}
use Rattle.xc_tree.specs.Plain as tree
use Rattle.std.specs.Cmp.Lexicographic.{bytes_decides}
use Rattle.xc_kernel.specs.declared.kernel.Var.{Var}
use Rattle.xc_kernel.specs.declared.kernel.Chan.{Chan}
use Rattle.xc_kernel.specs.declared.kernel.Timer.{Timer}
use Rattle.xc_kernel.specs.Paths.{Path, is_same, place_by, place_of_path, has_path, with_by, with_new, with_all}
use Rattle.xc_kernel.specs.Numbering.{Numbering, timer_number, path_of_variable, path_of_channel, path_of_timer, path_of_block}
use Rattle.xc_kernel.specs.Copy.{Copy, numbering_in}
use Rattle.xc_kernel.specs.Copies.{rooted, numbering}
use Rattle.xc_kernel.proofs.Paths.{there_before, there_at_end}
use Rattle.xc_kernel.proofs.Roots.{numbering_is_own}
use Rattle.xc_wellformed.specs.Denotes.{HasVariable, HasChannel, HasTimer}
use Rattle.xc_wellformed.specs.Once.{NoneAt, PathsDiffer, NoneTwice}
use Rattle.xc_wellformed.proofs.Walk.Arguments.{AllIn}

module _ {V : Type 0} (path_of : V → Path) where
  abbrev pub In : V → List V → Type 0
  In x [] = ⊥
  In x (y ∷ ys) = (y ≡ x) ⊎ In x ys

  -- the first instance of a path that is there
  pub record First (xs : List V) (path : Path) : Type 0 where
    pub instance : V
    pub there : slice_get xs (place_of_path path_of xs path) ≡ Some instance
    pub same : is_same (path_of instance) path ≡ true
    pub among : In instance xs

  first_by : (b : Bool) (x : V) (xs : List V) (path : Path) → is_same (path_of x) path ≡ b → (has_path path_of xs path ≡ true → First xs path) → (b || has_path path_of xs path) ≡ true → First (x ∷ xs) path
  first_by true x xs path e k h = record { instance = x; there = ap (λ (b : Bool). slice_get (x ∷ xs) (place_by b (place_of_path path_of xs path))) e; same = e; among = inl refl }
  first_by false x xs path e k h = let f = k h in record { instance = f.instance; there = ap (λ (b : Bool). slice_get (x ∷ xs) (place_by b (place_of_path path_of xs path))) e ∙ f.there; same = f.same; among = inr f.among }

  pub first : (xs : List V) (path : Path) → has_path path_of xs path ≡ true → First xs path
  first [] path h = absurd (true≢false (sym h))
  first (x ∷ xs) path h = first_by (is_same (path_of x) path) x xs path refl (first xs path) h

  -- a place that is there is below the length
  below_by : (b : Bool) (xs : List V) (path : Path) → (has_path path_of xs path ≡ true → place_of_path path_of xs path < length xs) → (b || has_path path_of xs path) ≡ true → place_by b (place_of_path path_of xs path) < suc (length xs)
  below_by true xs path k h = omega arith
  below_by false xs path k h = let l = k h in omega arith

  pub below : (xs : List V) (path : Path) → has_path path_of xs path ≡ true → place_of_path path_of xs path < length xs
  below [] path h = absurd (true≢false (sym h))
  below (x ∷ xs) path h = below_by (is_same (path_of x) path) xs path (below xs path) h

  -- all are in the list that has each path once
  new_there : (b : Bool) (known : List V) (x : V) (path : Path) → has_path path_of known path ≡ true → has_path path_of (with_by known x b) path ≡ true
  new_there true known x path h = h
  new_there false known x path h = there_before path_of known (x ∷ []) path h

  stays : (xs known : List V) (path : Path) → has_path path_of known path ≡ true → has_path path_of (with_all path_of known xs) path ≡ true
  stays [] known path h = h
  stays (x ∷ xs) known path h = stays xs (with_new path_of known x) path (new_there (has_path path_of known (path_of x)) known x path h)

  own_there : (b : Bool) (known : List V) (x : V) → has_path path_of known (path_of x) ≡ b → has_path path_of (with_by known x b) (path_of x) ≡ true
  own_there true known x e = e
  own_there false known x e = there_at_end path_of known x

  abbrev pub EachThere : List V → List V → Type 0
  EachThere ys xs = AllIn (λ x. has_path path_of ys (path_of x) ≡ true) xs

  pub all_there : (xs known : List V) → EachThere (with_all path_of known xs) xs
  all_there [] known = tt
  all_there (x ∷ xs) known = (stays xs (with_new path_of known x) (path_of x) (own_there (has_path path_of known (path_of x)) known x refl), all_there xs (with_new path_of known x))

  -- and it has nothing else
  in_end : (x y : V) (known : List V) → In x (known ++ y ∷ []) → In x known ⊎ (y ≡ x)
  in_end x y [] (inl e) = inr e
  in_end x y [] (inr h) = absurd h
  in_end x y (z ∷ known) (inl e) = inl (inl e)
  in_end x y (z ∷ known) (inr h) = by (in_end x y known h)
    where
      by : In x known ⊎ (y ≡ x) → In x (z ∷ known) ⊎ (y ≡ x)
      by (inl g) = inl (inr g)
      by (inr g) = inr g

  in_by : (b : Bool) (x y : V) (known : List V) → In x (with_by known y b) → In x known ⊎ (y ≡ x)
  in_by true x y known h = inl h
  in_by false x y known h = in_end x y known h

  pub in_all : (xs known : List V) (x : V) → In x (with_all path_of known xs) → In x known ⊎ In x xs
  in_all [] known x h = inl h
  in_all (y ∷ xs) known x h = by (in_all xs (with_new path_of known y) x h)
    where
      one : In x known ⊎ (y ≡ x) → In x known ⊎ In x (y ∷ xs)
      one (inl g) = inl g
      one (inr g) = inr (inl g)

      by : In x (with_new path_of known y) ⊎ In x xs → In x known ⊎ In x (y ∷ xs)
      by (inl g) = one (in_by (has_path path_of known (path_of y)) x y known g)
      by (inr g) = inr (inr g)

  -- what holds of what is there
  pub each_in : (P Q : V → Type 0) (xs ys : List V) → ((x : V) → In x ys → P x → Q x) → ((x : V) → In x xs → In x ys) → AllIn P xs → AllIn Q xs
  each_in P Q [] ys k i h = tt
  each_in P Q (x ∷ xs) ys k i h = (k x (i x (inl refl)) h.0, each_in P Q xs ys k (λ y g. i y (inr g)) h.1)

  -- of instances whose paths differ those of one path are one
  none_in : (path : Path) (xs : List V) (x : V) → NoneAt path_of path xs → In x xs → path_of x ≡ path → ⊥
  none_in path [] x h i e = i
  none_in path (y ∷ xs) x h (inl q) e = h.0 (ap path_of q ∙ e)
  none_in path (y ∷ xs) x h (inr i) e = none_in path xs x h.1 i e

  pub one_instance : (xs : List V) → PathsDiffer path_of xs → (x y : V) → In x xs → In y xs → path_of x ≡ path_of y → x ≡ y
  one_instance [] d x y i j e = absurd i
  one_instance (z ∷ xs) d x y (inl p) (inl q) e = sym p ∙ q
  one_instance (z ∷ xs) d x y (inl p) (inr j) e = absurd (none_in (path_of z) xs y d.0 j (sym e ∙ sym (ap path_of p)))
  one_instance (z ∷ xs) d x y (inr i) (inl q) e = absurd (none_in (path_of z) xs x d.0 i (e ∙ sym (ap path_of q)))
  one_instance (z ∷ xs) d x y (inr i) (inr j) e = one_instance xs d.1 x y i j e

  -- each instance is listed at the place of its path
  pub each_listed : (xs : List V) → PathsDiffer path_of xs → AllIn (λ x. slice_get (with_all path_of [] xs) (place_of_path path_of (with_all path_of [] xs) (path_of x)) ≡ Some x) xs
  each_listed xs differ = each_in (λ x. has_path path_of (with_all path_of [] xs) (path_of x) ≡ true) (λ x. slice_get (with_all path_of [] xs) (place_of_path path_of (with_all path_of [] xs) (path_of x)) ≡ Some x) xs xs make (λ x h. h) (all_there xs [])
    where
      make : (x : V) → In x xs → has_path path_of (with_all path_of [] xs) (path_of x) ≡ true → slice_get (with_all path_of [] xs) (place_of_path path_of (with_all path_of [] xs) (path_of x)) ≡ Some x
      make x i h = by (first (with_all path_of [] xs) (path_of x) h)
        where
          among : (y : V) → In y [] ⊎ In y xs → In y xs
          among y (inl g) = absurd g
          among y (inr g) = g

          by : First (with_all path_of [] xs) (path_of x) → slice_get (with_all path_of [] xs) (place_of_path path_of (with_all path_of [] xs) (path_of x)) ≡ Some x
          by f = f.there ∙ ap (λ (y : V). Some y) (one_instance xs differ f.instance x (among f.instance (in_all xs [] f.instance f.among)) i ((bytes_decides (path_of f.instance) (path_of x)).0 f.same))

  -- what is listed is there
  abbrev pub IsAt : List V → V → Type 0
  IsAt ys x = slice_get ys (place_of_path path_of ys (path_of x)) ≡ Some x

  pub all_also : (P Q : V → Type 0) (xs : List V) → ((x : V) → P x → Q x) → AllIn P xs → AllIn Q xs
  all_also P Q [] f h = tt
  all_also P Q (x ∷ xs) f h = (f x h.0, all_also P Q xs f h.1)

module _ (copy : Copy) where
  abbrev own : Numbering
  own = numbering_in copy

  module _ (H J : ℕ → Path → Type 0) where
    pub variables_made : ((v : Var) → IsAt path_of_variable own.variables v → H v.core v.path) → NoneTwice copy → AllIn (λ (v : Var). HasVariable own (H v.core) v.path v.array v.words) copy.variables
    variables_made holds differ = all_also path_of_variable (IsAt path_of_variable own.variables) (λ (v : Var). HasVariable own (H v.core) v.path v.array v.words) copy.variables
        (λ v e. record { variable = v; there = e; array = refl; long = refl; holds = holds v e }) (each_listed path_of_variable copy.variables differ.variables)

    pub timers_made : ((t : Timer) → IsAt path_of_timer own.timers t → J t.core t.path) → NoneTwice copy → AllIn (λ (t : Timer). HasTimer own (J t.core) t.path) copy.timers
    timers_made holds differ = both_of copy.timers (all_also path_of_timer (λ t. has_path path_of_timer own.timers t.path ≡ true) (λ t. timer_number own t.path < length own.timers) copy.timers (λ t h. below path_of_timer own.timers t.path h) (all_there path_of_timer copy.timers [])) (each_listed path_of_timer copy.timers differ.timers)
      where
        both_of : (ts : List Timer) → AllIn (λ t. timer_number own t.path < length own.timers) ts → AllIn (IsAt path_of_timer own.timers) ts → AllIn (λ (t : Timer). HasTimer own (J t.core) t.path) ts
        both_of [] h g = tt
        both_of (t ∷ ts) h g = ((h.0, holds t g.0), both_of ts h.1 g.1)

  pub channels_made : AllIn (λ (c : Chan). HasChannel own c.path) copy.channels
  channels_made = each_in path_of_channel (λ c. has_path path_of_channel own.channels c.path ≡ true) (λ c. HasChannel own c.path) copy.channels copy.channels (λ c i h. below path_of_channel own.channels c.path h) (λ x h. h) (all_there path_of_channel copy.channels [])

  pub blocks_made : AllIn (λ (b : Path). has_path path_of_block own.blocks b ≡ true) copy.blocks
  blocks_made = all_there path_of_block copy.blocks []

-- of a program
pub program_variables : (P : List tree.Item) (H J : ℕ → Path → Type 0) → ((v : Var) → IsAt path_of_variable (numbering P).variables v → H v.core v.path) → NoneTwice (rooted P (numbering P)).made → AllIn (λ (v : Var). HasVariable (numbering P) (H v.core) v.path v.array v.words) (rooted P (numbering P)).made.variables
program_variables P H J =
    subst (λ (m : Numbering). ((v : Var) → IsAt path_of_variable m.variables v → H v.core v.path) → NoneTwice (rooted P (numbering P)).made → AllIn (λ (v : Var). HasVariable m (H v.core) v.path v.array v.words) (rooted P (numbering P)).made.variables) (numbering_is_own P (numbering P))
    (variables_made (rooted P (numbering P)).made H J)

pub program_channels : (P : List tree.Item) → AllIn (λ (c : Chan). HasChannel (numbering P) c.path) (rooted P (numbering P)).made.channels
program_channels P = subst (λ (m : Numbering). AllIn (λ (c : Chan). HasChannel m c.path) (rooted P (numbering P)).made.channels) (numbering_is_own P (numbering P)) (channels_made (rooted P (numbering P)).made)

pub program_timers : (P : List tree.Item) (H J : ℕ → Path → Type 0) → ((t : Timer) → IsAt path_of_timer (numbering P).timers t → J t.core t.path) → NoneTwice (rooted P (numbering P)).made → AllIn (λ (t : Timer). HasTimer (numbering P) (J t.core) t.path) (rooted P (numbering P)).made.timers
program_timers P H J =
    subst (λ (m : Numbering). ((t : Timer) → IsAt path_of_timer m.timers t → J t.core t.path) → NoneTwice (rooted P (numbering P)).made → AllIn (λ (t : Timer). HasTimer m (J t.core) t.path) (rooted P (numbering P)).made.timers) (numbering_is_own P (numbering P))
    (timers_made (rooted P (numbering P)).made H J)

pub program_blocks : (P : List tree.Item) → AllIn (λ (b : Path). has_path path_of_block (numbering P).blocks b ≡ true) (rooted P (numbering P)).made.blocks
program_blocks P = subst (λ (m : Numbering). AllIn (λ (b : Path). has_path path_of_block m.blocks b ≡ true) (rooted P (numbering P)).made.blocks) (numbering_is_own P (numbering P)) (blocks_made (rooted P (numbering P)).made)
