-- Tables of channels as functions of the channel.
use Rattle.std.proofs.Common.{◌≡◌, ⊎_elim, inl, inr, ◌⊎◌, ℕ, Bool, true, false, cond, List, [], ◌∷◌, Option, Some, None, Result, Ok, Err, IfOk, OnOk, option_map, nat_eq, refl, sym, ap, ◌∙◌, arith}
use Rattle.std.specs.List.{IsDistinct, AllByRecursion}
use Rattle.std.specs.Map.{lookup, keys_of}
use Rattle.std.proofs.lemmas.Bool.Decides.{nat_tests}
use Rattle.std.proofs.lemmas.Map.Views.{exact_unsigned_eq}
use Rattle.xw_words.specs.declared.pos.Pos.{Pos}
use Rattle.xw_words.specs.declared.pos.Broken.{Broken}
use Rattle.xc_tree.specs.Least.{first_of}
use Rattle.xc_tree.proofs.Leasts.{either, of_same}
use Rattle.xc_disjoint.proofs.FirstSoFar.{Is, own, one_least}
use Rattle.xc_disjoint.specs.declared.uses.Use.{Use}
use Rattle.xc_disjoint.specs.declared.uses.Held.TheVariants.{Apart}
use Rattle.xc_disjoint.specs.declared.uses.Share.{Share}
use Rattle.xc_disjoint.specs.Uses.{Uses, Shares, no_uses, no_shares, some_after, some_with, with_use, use_of, use_if, only, all_after, all_with, uses_of}
use Rattle.xc_disjoint.specs.UseTables.{found, with_entry, or_one, with_ones, updated_by, updated_if, updated}
use Rattle.xc_disjoint.proofs.ChannelSteps.{after_unused}

pub on_ok : {A E P Q : Type 0} (r : Result A E) → (P → Q) → OnOk r P → OnOk r Q
on_ok (Ok a) f p = f p
on_ok (Err e) f p = tt

pub if_ok : {A E : Type 0} {P Q : A → Type 0} (r : Result A E) → ((a : A) → P a → Q a) → IfOk r P → IfOk r Q
if_ok (Ok a) f p = f a p
if_ok (Err e) f p = tt

pub same : {V : Type 0} {f g : ℕ → Option V} → ((c : ℕ) → f c ≡ g c) → f ≡ g
same h = λ j c. h c j

-- a table with no entries

pub empty_uses : (es : List (ℕ × Use)) → es ≡ [] → found es ≡ no_uses
unfolding found no_uses
empty_uses es e = ap (λ (xs : List (ℕ × Use)). λ (c : ℕ). lookup (nat_eq c) xs) e

pub empty_par : (es : List (ℕ × Share)) (us : List (ℕ × Use)) → es ≡ [] → found us ≡ no_uses → with_ones (found es) (found us) ≡ no_shares
unfolding found no_uses no_shares with_ones
empty_par es us e f = (λ j c. or_one (lookup (nat_eq c) (e j)) (f j c))

pub empty_shares : (es : List (ℕ × Share)) → es ≡ [] → found es ≡ no_shares
unfolding found no_shares
empty_shares es e = ap (λ (xs : List (ℕ × Share)). λ (c : ℕ). lookup (nat_eq c) xs) e

pub entered : {V : Type 0} (old new : List (ℕ × V)) (key : ℕ) (v : V) → ((q : ℕ) → lookup (nat_eq q) new ≡ cond (nat_eq key q) (Some v) (lookup (nat_eq q) old)) → found new ≡ with_entry (found old) key v
unfolding found with_entry
entered old new key v puts = same puts

or_none : (s : Option Share) → or_one s None ≡ s
or_none None = refl
or_none (Some s) = refl

-- by what is put

module _ (c : ℕ) (u : Use) where
  pub followed : (f g : Uses) (w : Use) → Some w ≡ some_after (f c) (Some u) → g ≡ with_entry f c w → g ≡ all_after f (only c u)
  unfolding with_entry all_after only
  followed f g w is e = e ∙ same (λ q. at q (nat_eq c q) refl)
    where
      at : (q : ℕ) (b : Bool) → nat_eq c q ≡ b → cond (nat_eq c q) (Some w) (f q) ≡ some_after (f q) (use_if (nat_eq c q) u)
      at q true h = rw h (is ∙ ap (λ n. some_after (f n) (Some u)) (exact_unsigned_eq c q h))
      at q false h = rw h (sym (after_unused (f q)))

  pub added : (pos : Pos) (h : Uses) (f g : Shares) (w : Share) → w ≡ with_use pos (with_ones f h c) u → g ≡ with_entry f c w → with_ones g h ≡ all_with pos (with_ones f h) (only c u)
  unfolding with_entry all_with only with_ones
  added pos h f g w is e = ap (λ (k : Shares). λ (q : ℕ). or_one (k q) (h q)) e ∙ same (λ q. at q (nat_eq c q) refl)
    where
      at : (q : ℕ) (b : Bool) → nat_eq c q ≡ b → or_one (cond (nat_eq c q) (Some w) (f q)) (h q) ≡ some_with pos (or_one (f q) (h q)) (use_if (nat_eq c q) u)
      at q true k = rw k (ap Some is ∙ ap (λ n. Some (with_use pos (or_one (f n) (h n)) u)) (exact_unsigned_eq c q k))
      at q false k = rw k refl

  pub spelt : (f g : Shares) (w : Share) → Some w ≡ or_one (f c) (Some u) → g ≡ with_entry f c w → g ≡ with_ones f (only c u)
  unfolding with_entry only with_ones
  spelt f g w is e = e ∙ same (λ q. at q (nat_eq c q) refl)
    where
      at : (q : ℕ) (b : Bool) → nat_eq c q ≡ b → cond (nat_eq c q) (Some w) (f q) ≡ or_one (f q) (use_if (nat_eq c q) u)
      at q true k = rw k (is ∙ ap (λ n. or_one (f n) (Some u)) (exact_unsigned_eq c q k))
      at q false k = rw k (sym (or_none (f q)))

-- tables whose entries are put one behind the other

pub absent : {X : Type 0} (c : ℕ) (es : List (ℕ × X)) → AllByRecursion (λ y. nat_eq c y ≡ false) (keys_of es) → lookup (nat_eq c) es ≡ None
absent c [] h = refl
absent c (e ∷ es) h = rw h.0 (absent c es h.1)

symmetric : (a b : ℕ) → nat_eq a b ≡ nat_eq b a
symmetric a b = grind (arith, nat_tests)

abbrev pub after_entries : Uses → List (ℕ × Use) → Uses
after_entries f [] = f
after_entries f (e ∷ es) = after_entries (all_after f (only e.0 e.1)) es

pub all_uses : (f : Uses) (es : List (ℕ × Use)) → IsDistinct nat_eq (keys_of es) → after_entries f es ≡ all_after f (found es)
unfolding IsDistinct found all_after only
all_uses f [] h = same (λ q. sym (after_unused (f q)))
all_uses f (e ∷ es) h = all_uses (all_after f (only e.0 e.1)) es h.1 ∙ same (λ q. at q (nat_eq e.0 q) refl)
  where
    at : (q : ℕ) (b : Bool) → nat_eq e.0 q ≡ b → some_after (some_after (f q) (use_if (nat_eq e.0 q) e.1)) (lookup (nat_eq q) es) ≡ some_after (f q) (cond (nat_eq q e.0) (Some e.1) (lookup (nat_eq q) es))
    at q true g = rw (symmetric q e.0, g, ← exact_unsigned_eq e.0 q g, absent e.0 es h.0) (after_unused (some_after (f e.0) (Some e.1)))
    at q false g = rw (symmetric q e.0, g) (ap (λ s. some_after s (lookup (nat_eq q) es)) (after_unused (f q)))

abbrev pub with_entries : Pos → Shares → List (ℕ × Use) → Shares
with_entries pos f [] = f
with_entries pos f (e ∷ es) = with_entries pos (all_with pos f (only e.0 e.1)) es

pub all_shares : (pos : Pos) (f : Shares) (es : List (ℕ × Use)) → IsDistinct nat_eq (keys_of es) → with_entries pos f es ≡ all_with pos f (found es)
unfolding IsDistinct found all_with only
all_shares pos f [] h = same (λ q. refl)
all_shares pos f (e ∷ es) h = all_shares pos (all_with pos f (only e.0 e.1)) es h.1 ∙ same (λ q. at q (nat_eq e.0 q) refl)
  where
    at : (q : ℕ) (b : Bool) → nat_eq e.0 q ≡ b → some_with pos (some_with pos (f q) (use_if (nat_eq e.0 q) e.1)) (lookup (nat_eq q) es) ≡ some_with pos (f q) (cond (nat_eq q e.0) (Some e.1) (lookup (nat_eq q) es))
    at q true g = rw (symmetric q e.0, g, ← exact_unsigned_eq e.0 q g, absent e.0 es h.0) refl
    at q false g = rw (symmetric q e.0, g) refl

abbrev pub ones_each : Shares → List (ℕ × Use) → Shares
ones_each f [] = f
ones_each f (e ∷ es) = ones_each (with_ones f (only e.0 e.1)) es

pub all_ones : (f : Shares) (es : List (ℕ × Use)) → IsDistinct nat_eq (keys_of es) → ones_each f es ≡ with_ones f (found es)
unfolding IsDistinct found with_ones only
all_ones f [] h = same (λ q. sym (or_none (f q)))
all_ones f (e ∷ es) h = all_ones (with_ones f (only e.0 e.1)) es h.1 ∙ same (λ q. at q (nat_eq e.0 q) refl)
  where
    at : (q : ℕ) (b : Bool) → nat_eq e.0 q ≡ b → or_one (or_one (f q) (use_if (nat_eq e.0 q) e.1)) (lookup (nat_eq q) es) ≡ or_one (f q) (cond (nat_eq q e.0) (Some e.1) (lookup (nat_eq q) es))
    at q true g = rw (symmetric q e.0, g, ← exact_unsigned_eq e.0 q g, absent e.0 es h.0) (or_none (or_one (f e.0) (Some e.1)))
    at q false g = rw (symmetric q e.0, g) (ap (λ s. or_one s (lookup (nat_eq q) es)) (or_none (f q)))

abbrev pub put_all : {V W : Type 0} → (ℕ → V → W) → (ℕ → Option W) → List (ℕ × V) → ℕ → Option W
put_all h f [] = f
put_all h f (e ∷ es) = put_all h (with_entry f e.0 (h e.0 e.1)) es

abbrev put_or : {V W : Type 0} → (V → W) → Option V → Option W → Option W
put_or h None w = w
put_or h (Some v) w = Some (h v)

put_each : {V W : Type 0} (h : ℕ → V → W) (f : ℕ → Option W) (es : List (ℕ × V)) → IsDistinct nat_eq (keys_of es) → (q : ℕ) → put_all h f es q ≡ put_or (h q) (lookup (nat_eq q) es) (f q)
unfolding IsDistinct with_entry
put_each h f [] d q = refl
put_each h f (e ∷ es) d q = put_each h (with_entry f e.0 (h e.0 e.1)) es d.1 q ∙ at (nat_eq e.0 q) refl
  where
    at : (b : Bool) → nat_eq e.0 q ≡ b → put_or (h q) (lookup (nat_eq q) es) (cond (nat_eq e.0 q) (Some (h e.0 e.1)) (f q)) ≡ put_or (h q) (cond (nat_eq q e.0) (Some e.1) (lookup (nat_eq q) es)) (f q)
    at true g = rw (symmetric q e.0, g, ← exact_unsigned_eq e.0 q g, absent e.0 es d.0) refl
    at false g = rw (symmetric q e.0, g) refl

pub all_updated : (pos : Pos) (g : Uses) (es : List (ℕ × Share)) → IsDistinct nat_eq (keys_of es) → put_all (λ c s. updated_by pos s (g c)) no_shares es ≡ updated pos (found es) g
unfolding found updated no_shares
all_updated pos g es d = same (λ q. put_each (λ c s. updated_by pos s (g c)) no_shares es d q ∙ at q (lookup (nat_eq q) es))
  where
    at : (q : ℕ) (s : Option Share) → put_or (λ s. updated_by pos s (g q)) s None ≡ updated_if pos s (g q)
    at q None = refl
    at q (Some s) = refl

pub all_used : (f : Uses) (es : List (ℕ × Share)) → IsDistinct nat_eq (keys_of es) → put_all (λ c s. use_of s) f es ≡ uses_of (with_ones (found es) f)
unfolding found uses_of with_ones
all_used f es d = same (λ q. put_each (λ c s. use_of s) f es d q ∙ at (lookup (nat_eq q) es) (f q))
  where
    at : (s : Option Share) (u : Option Use) → put_or use_of s u ≡ option_map use_of (or_one s u)
    at None None = refl
    at None (Some u) = refl
    at (Some s) u = refl

-- a branch with a far larger table becomes the largest
pub larger : (pos : Pos) (f : Shares) (g : Uses) → with_ones (updated pos f g) g ≡ all_with pos f g
unfolding with_ones updated all_with
larger pos f g = same (λ q. at (f q) (g q))
  where
    at : (s : Option Share) (u : Option Use) → or_one (updated_if pos s u) u ≡ some_with pos s u
    at None None = refl
    at None (Some u) = refl
    at (Some s) None = refl
    at (Some s) (Some u) = refl

-- both orders of two tables are the same

first_swapped : (x y : Option Broken) → first_of x y ≡ first_of y x
first_swapped x y =
    one_least (λ b. Is x b ⊎ Is y b) (first_of x y) (first_of y x) (either (Is x) (Is y) x y (own x) (own y))
    (of_same (λ b. Is y b ⊎ Is x b) (λ b. Is x b ⊎ Is y b) (first_of y x) (λ b. ⊎_elim inr inl) (λ b. ⊎_elim inr inl) (either (Is y) (Is x) y x (own y) (own x)))

pub swapped : (f g : Uses) → all_after f g ≡ all_after g f
unfolding all_after
swapped f g = same (λ q. at (f q) (g q))
  where
    at : (a b : Option Use) → some_after a b ≡ some_after b a
    at None None = refl
    at None (Some b) = refl
    at (Some a) None = refl
    at (Some a) (Some b) = ap (λ x. Some (record { held = Apart; second = x })) (first_swapped a.second b.second)
