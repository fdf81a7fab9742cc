-- The numbers of functions by their names, taken from the last function on.
use Rattle.std.proofs.Common.{◌≡◌, ℕ, ◌+◌, ◌<◌, ◌≤◌, Bool, true, false, List, ◌∷◌, length, drop, get_or, map, Option, Some, None, refl, sym, ap, ◌∙◌, arith}
use Rattle.std.specs.Prelude.{slice_get, bytes_eq, option_map}
use Rattle.std.proofs.lemmas.List.{drop_all}
use Rattle.std.proofs.lemmas.Option.{slice_get_within, get_or_from_slice_get, slice_get-map, slice_get-get_or}
use Rattle.std.proofs.lemmas.Slice.Eq.{bytes_eq-Decides}
use Rattle.xw_words.proofs.Lists.{drop_item, some_same}
use Rattle.xc_kernel.specs.Programs.{Function, function_named, function_by}
use Rattle.xc_size.specs.Functions.{function_at, AreNumbers}

-- the numbers are those of the functions from the k-th on
pub record NumbersFrom (number : List ℕ → Option ℕ) (fs : List Function) (k : ℕ) : Type 0 where
  pub named : (name : List ℕ) → function_named (drop k fs) name ≡ function_at fs (number name)
  pub within : (name : List ℕ) (j : ℕ) → number name ≡ Some j → j < length fs

clash : {A : Type 0} {B : Type 0} (x : A) → None ≡ Some x → B
clash x e = absurd (cc)

pub numbers_none : (number : List ℕ → Option ℕ) (fs : List Function) (k : ℕ) → length fs ≤ k → ((name : List ℕ) → number name ≡ None) → NumbersFrom number fs k
numbers_none number fs k h none = record {
  named = λ t. ap (λ xs. function_named xs t) (drop_all k fs h) ∙ sym (ap (function_at fs) (none t));
  within = λ t j e. clash j (sym (none t) ∙ e);
}

module _ (old new : List ℕ → Option ℕ) (fs : List Function) (k : ℕ) (f : Function) (there : slice_get fs k ≡ Some f) (from : NumbersFrom old fs (k + 1)) (here : new f.head.name.text ≡ Some k) (others : (t : List ℕ) → (t ≡ f.head.name.text → ⊥) → new t ≡ old t) where
  begins : drop k fs ≡ f ∷ drop (k + 1) fs
  begins = drop_item fs k f (sym (get_or_from_slice_get fs k f f there)) (slice_get_within fs k f there)

  named_by : (t : List ℕ) (b : Bool) → bytes_eq f.head.name.text t ≡ b → function_by b f (function_named (drop (k + 1) fs) t) ≡ function_at fs (new t)
  named_by t true e = let same = (bytes_eq-Decides f.head.name.text t).0 e in sym (ap (λ s. function_at fs (new s)) (sym same) ∙ ap (function_at fs) here ∙ there)
  named_by t false e = from.named t ∙ sym (ap (function_at fs) (others t (λ q. differ (sym q))))
    where
      differ : f.head.name.text ≡ t → ⊥
      differ q = let x = (bytes_eq-Decides f.head.name.text t).1 q in cc

  within_by : (t : List ℕ) (j : ℕ) (b : Bool) → bytes_eq f.head.name.text t ≡ b → new t ≡ Some j → j < length fs
  within_by t j true e q =
      let same = (bytes_eq-Decides f.head.name.text t).0 e in
      let is : k ≡ j = some_same k j (sym here ∙ ap new same ∙ q) in
      let h = slice_get_within fs k f there in omega arith
  within_by t j false e q = from.within t j (sym (others t (λ p. differ (sym p))) ∙ q)
    where
      differ : f.head.name.text ≡ t → ⊥
      differ q = let x = (bytes_eq-Decides f.head.name.text t).1 q in cc

  -- one function more, which stands before the others
  pub numbers_more : NumbersFrom new fs k
  numbers_more = record {
    named = λ t. ap (λ xs. function_named xs t) begins ∙ named_by t (bytes_eq f.head.name.text t) refl;
    within = λ t j q. within_by t j (bytes_eq f.head.name.text t) refl q;
  }

pub numbers_all : (number : List ℕ → Option ℕ) (fs : List Function) → NumbersFrom number fs 0 → AreNumbers number fs
numbers_all number fs n = record { named = n.named; within = n.within }

pub at_place : {A : Type 0} (xs : List A) (i : ℕ) (x : A) → x ≡ get_or xs i x → i < length xs → slice_get xs i ≡ Some x
at_place xs i x e h = slice_get-get_or xs i x h ∙ ap Some (sym e)

pub mapped : {A V : Type 0} (f : A → V) (xs : List A) (i : ℕ) (x : A) → x ≡ get_or xs i x → i < length xs → slice_get (map f xs) i ≡ Some (f x)
mapped f xs i x e h = slice_get-map f xs i ∙ ap (option_map f) (at_place xs i x e h)
