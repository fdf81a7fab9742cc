-- The identifiers of things that are numbered one after the other on their core.
use Rattle.std.proofs.Common.{◌≡◌, ℕ, zero, suc, ◌+◌, ◌*◌, ◌%◌, ◌^◌, ◌<◌, ◌≤◌, Bool, true, false, cond, List, [], ◌∷◌, filter, Option, Some, None, slice_get, sum_by, take, nat_eq, refl, sym, ap, ◌∙◌, arith}
use Rattle.std.proofs.Math.Nat.{mod-add-mod, mod-eq_of_lt}
use Rattle.std.proofs.lemmas.List.Sums.{sum_by-cons}
use Rattle.xw_words.specs.Words.{word_sum}
use Rattle.xc_disjoint.specs.Cores.{if_so, on_core}
use Rattle.xl_expr.specs.Plans.{resource_at}
use Rattle.xl_plan.specs.Layout.{number_on, identifier_if, identifiers_from, named_by}
use Rattle.xl_plan.proofs.Lists.{some_given, none_given}

eq_true : (a b : ℕ) → a ≡ b → nat_eq a b ≡ true
eq_true a b e = grind arith

module _ {X : Type 0} (core_of : X → ℕ) (core : ℕ) where
  abbrev one : X → ℕ
  one x = on_core core (core_of x) 1

  -- by how many have numbers already
  abbrev name_from : (base known : ℕ) → ℕ
  name_from base known = (base + 256 * known) % 2 ^ 32

  step_by : (b : Bool) → if_so b 256 ≡ 256 * if_so b 1
  step_by true = refl
  step_by false = refl

  stepped : (base known : ℕ) (x : X) → word_sum (name_from base known) (on_core core (core_of x) 256) ≡ name_from base (known + one x)
  stepped base known x =
      let s = step_by (nat_eq (core_of x) core) in
      mod-add-mod (base + 256 * known) (2 ^ 32) (on_core core (core_of x) 256)
      ∙ ap (λ n. n % 2 ^ 32) (let q : base + 256 * known + on_core core (core_of x) 256 ≡ base + 256 * (known + one x) = omega arith in q)

  -- numbers go on behind those that are known
  abbrev name_behind : (base known : ℕ) → ℕ → ℕ
  name_behind base known n = name_from base (known + n)

  later : (base known : ℕ) (x : X) (xs : List X) (p : ℕ) (y : Option X) → named_by (name_behind base (known + one x)) core_of core xs p y ≡ named_by (name_behind base known) core_of core (x ∷ xs) (suc p) y
  later base known x xs p None = refl
  later base known x xs p (Some y) =
      let s = sum_by-cons one x (take p xs) in
      ap (λ n. identifier_if (nat_eq (core_of y) core) (name_from base n)) (let q : known + one x + number_on core_of core xs p ≡ known + number_on core_of core (x ∷ xs) (suc p) = omega arith in q)

  pub named_from : (base known : ℕ) (xs : List X) (p : ℕ) → resource_at (identifiers_from core_of core (name_from base known) xs) p ≡ named_by (name_behind base known) core_of core xs p (slice_get xs p)
  named_from base known [] p = refl
  named_from base known (x ∷ xs) zero = ap (λ n. identifier_if (nat_eq (core_of x) core) (name_from base n)) (let q : known ≡ known + 0 = omega arith in q)
  named_from base known (x ∷ xs) (suc p) =
      ap (λ n. resource_at (identifiers_from core_of core n xs) p) (stepped base known x)
      ∙ named_from base (known + one x) xs p
      ∙ later base known x xs p (slice_get xs p)

  -- names may be other functions of the number, where they agree at the numbers that are there
  named_alike : (f g : ℕ → ℕ) (xs : List X) (p : ℕ) (y : Option X) → ((n : ℕ) → n ≤ sum_by one xs → f n ≡ g n) → number_on core_of core xs p ≤ sum_by one xs → named_by f core_of core xs p y ≡ named_by g core_of core xs p y
  named_alike f g xs p None e h = refl
  named_alike f g xs p (Some y) e h = ap (λ n. identifier_if (nat_eq (core_of y) core) n) (e (number_on core_of core xs p) h)

  number_within : (xs : List X) (p : ℕ) → number_on core_of core xs p ≤ sum_by one xs
  number_within [] zero = omega arith
  number_within [] (suc p) = omega arith
  number_within (x ∷ xs) zero = omega arith
  number_within (x ∷ xs) (suc p) =
      let h = number_within xs p in
      let s = sum_by-cons one x (take p xs) in
      let t = sum_by-cons one x xs in
      omega arith

  -- from number 0 on
  pub named_all : (base : ℕ) (name : ℕ → ℕ) (xs : List X) (p : ℕ) → base < 2 ^ 32 → ((n : ℕ) → n ≤ sum_by one xs → name_from base n ≡ name n) → resource_at (identifiers_from core_of core base xs) p ≡ named_by name core_of core xs p (slice_get xs p)
  named_all base name xs p small e =
      ap (λ n. resource_at (identifiers_from core_of core n xs) p) (sym (mod-eq_of_lt small) ∙ ap (λ n. n % 2 ^ 32) (let q : base ≡ base + 256 * 0 = omega arith in q))
      ∙ named_from base 0 xs p
      ∙ named_alike (name_behind base 0) name xs p (slice_get xs p) (λ n h. ap (name_from base) (let q : 0 + n ≡ n = omega arith in q) ∙ e n h) (number_within xs p)

  -- a number is a place among those of the core
  first_listed : (b : Bool) (x : X) (xs : List X) → b ≡ true → slice_get (cond b (x ∷ filter (λ z. nat_eq (core_of z) core) xs) (filter (λ z. nat_eq (core_of z) core) xs)) 0 ≡ Some x
  first_listed true x xs e = refl
  first_listed false x xs e = cc

  later_listed : (b : Bool) (x y : X) (xs : List X) (n : ℕ) → slice_get (filter (λ z. nat_eq (core_of z) core) xs) n ≡ Some y → slice_get (cond b (x ∷ filter (λ z. nat_eq (core_of z) core) xs) (filter (λ z. nat_eq (core_of z) core) xs)) (if_so b 1 + n) ≡ Some y
  later_listed true x y xs n e = ap (slice_get (x ∷ filter (λ z. nat_eq (core_of z) core) xs)) (let q : 1 + n ≡ suc n = omega arith in q) ∙ e
  later_listed false x y xs n e = ap (slice_get (filter (λ z. nat_eq (core_of z) core) xs)) (let q : 0 + n ≡ n = omega arith in q) ∙ e

  pub listed : (xs : List X) (p : ℕ) (x : X) → slice_get xs p ≡ Some x → core_of x ≡ core → slice_get (filter (λ z. nat_eq (core_of z) core) xs) (number_on core_of core xs p) ≡ Some x
  listed [] p x e here = absurd (none_given e)
  listed (y ∷ xs) zero x e here =
      first_listed (nat_eq (core_of y) core) y xs (eq_true (core_of y) core (ap core_of (some_given e) ∙ here)) ∙ e
  listed (y ∷ xs) (suc p) x e here =
      ap (slice_get (filter (λ z. nat_eq (core_of z) core) (y ∷ xs))) (sum_by-cons one y (take p xs))
      ∙ later_listed (nat_eq (core_of y) core) y x xs (number_on core_of core xs p) (listed xs p x e here)
