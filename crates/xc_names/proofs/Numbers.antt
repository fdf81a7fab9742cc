-- The numbers of declarations, and the entries of names.
use Rattle.std.proofs.Common.{◌≡◌, ℕ, ◌+◌, ◌<◌, ◌≤◌, ◌⊎◌, inl, inr, List, [], ◌∷◌, ◌++◌, length, take, drop, slice_get, Option, None, Some, refl, sym, ap, subst, ◌∙◌, arith, length-append}
use Rattle.std.proofs.lemmas.List.{take-append-drop}
use Rattle.std.proofs.lemmas.Option.{slice_get_within}
use Rattle.xw_words.proofs.Lists.{below_or_at, length_push, push_at, push_before, take_push, some_same}
use Rattle.xw_words.specs.declared.pos.Broken.{Broken}
use Rattle.xc_tree.specs.declared.names.Mark.{Mark}
use Rattle.xc_tree.specs.declared.names.Mark.TheVariants.{Opens, Closes, Declares, Uses, Calls}
use Rattle.xc_tree.specs.Names.Uses.{declarations, number_of, IsUse, Entries, past_begin, past_end, declared, used}
use Rattle.xc_names.specs.Meanings.{Meaning, means, unknown, AreMeanings}
use Rattle.xc_names.specs.NameRules.{unknown as unknown_name, IsBrokenBefore}
use Rattle.xc_names.specs.Numbers.{AreNumbers, count_in, entry_of}
use Rattle.xc_names.proofs.NameRules.{spelled_here}

pub declarations_append : (xs ys : List Mark) → declarations (xs ++ ys) ≡ declarations xs ++ declarations ys
declarations_append [] ys = refl
declarations_append (Opens ∷ xs) ys = declarations_append xs ys
declarations_append (Closes ∷ xs) ys = declarations_append xs ys
declarations_append (Declares d ∷ xs) ys = ap (λ ds. d ∷ ds) (declarations_append xs ys)
declarations_append (Uses d ∷ xs) ys = declarations_append xs ys
declarations_append (Calls d ∷ xs) ys = declarations_append xs ys

by_mark : (m : Mark) → length (declarations (m ∷ [])) ≡ count_in m
by_mark Opens = refl
by_mark Closes = refl
by_mark (Declares d) = refl
by_mark (Uses d) = refl
by_mark (Calls d) = refl

pub next_number : (ms : List Mark) (i : ℕ) (m : Mark) → slice_get ms i ≡ Some m → number_of ms (i + 1) ≡ number_of ms i + count_in m
next_number ms i m e = ap (λ xs. length (declarations xs)) (take_push ms i m e) ∙ ap length (declarations_append (take i ms) (m ∷ [])) ∙ length-append (declarations (take i ms)) (declarations (m ∷ [])) ∙ ap (λ n. number_of ms i + n) (by_mark m)

pub number_short : (ms : List Mark) (i : ℕ) → number_of ms i ≤ length (declarations ms)
number_short ms i =
    let e : length (declarations ms) ≡ number_of ms i + length (declarations (drop i ms)) = ap (λ xs. length (declarations xs)) (sym (take-append-drop i ms)) ∙ ap length (declarations_append (take i ms) (drop i ms)) ∙ length-append (declarations (take i ms)) (declarations (drop i ms)) in
    omega arith

-- the count so far, and the numbers of the places before
pub record Counts (ms : List Mark) (i count : ℕ) (numbers : List ℕ) : Type 0 where
  pub are : AreNumbers ms numbers i
  pub so_far : count ≡ number_of ms i

pub no_counts : (ms : List Mark) → Counts ms 0 0 []
no_counts ms = record { are = record { count = refl; each = λ i h. absurd (omega arith) }; so_far = refl }

each_more : (ms : List Mark) (k : ℕ) (numbers : List ℕ) → AreNumbers ms numbers k → (i : ℕ) → i < k + 1 → slice_get (numbers ++ number_of ms k ∷ []) i ≡ Some (number_of ms i)
each_more ms k numbers a i h = by (below_or_at i k h)
  where
    by : (i < k) ⊎ (i ≡ k) → slice_get (numbers ++ number_of ms k ∷ []) i ≡ Some (number_of ms i)
    by (inl g) = push_before numbers (number_of ms k) i (let c = a.count in omega arith) ∙ a.each i g
    by (inr g) = push_at numbers (number_of ms k) i (g ∙ sym a.count) ∙ ap (λ j. Some (number_of ms j)) (sym g)

pub counted : (ms : List Mark) (k count : ℕ) (numbers : List ℕ) (m : Mark) → slice_get ms k ≡ Some m → Counts ms k count numbers → Counts ms (k + 1) (count + count_in m) (numbers ++ count ∷ [])
counted ms k count numbers m e c = record {
  are = record {
    count = length_push numbers count k c.are.count;
    each = λ i h. subst (λ (n : ℕ). slice_get (numbers ++ n ∷ []) i ≡ Some (number_of ms i)) (sym c.so_far) (each_more ms k numbers c.are i h);
  };
  so_far = ap (λ n. n + count_in m) c.so_far ∙ sym (next_number ms k m e);
}

-- what one more mark declares can be counted
pub room_for : (ms : List Mark) (k count : ℕ) (numbers : List ℕ) (m : Mark) → slice_get ms k ≡ Some m → Counts ms k count numbers → count + count_in m ≤ length (declarations ms)
room_for ms k count numbers m e c =
    let d = counted ms k count numbers m e c in
    let s = number_short ms (k + 1) in
    let g = d.so_far in
    omega arith

-- one name further
pub onward : (ms : List Mark) (meant : List (Option ℕ)) → AreMeanings ms meant → ((b : Broken) → IsBrokenBefore ms (length ms) b → ⊥) → (i : ℕ) (m : Mark) (o : Option ℕ) (ns : List ℕ) → slice_get ms i ≡ Some m → slice_get meant i ≡ Some o → Entries ms i ns → ((d : ℕ) → entry_of m i o ≡ Some d → Entries ms (i + 1) (ns ++ number_of ms d ∷ [])) × (entry_of m i o ≡ None → Entries ms (i + 1) ns)
onward ms meant a right i Opens o ns e f h = (λ d q. absurd (cc), λ q. past_begin h e)
onward ms meant a right i Closes o ns e f h = (λ d q. absurd (cc), λ q. past_end h e)
onward ms meant a right i (Declares x) o ns e f h = (λ d q. subst (λ (j : ℕ). Entries ms (i + 1) (ns ++ number_of ms j ∷ [])) (some_same i d q) (declared h e), λ q. absurd (cc))
onward ms meant a right i (Uses n) o ns e f h = by o f (inl e) (spelled_here ms i (Uses n) n.text meant o a e refl f)
  where
    by : (p : Option ℕ) → slice_get meant i ≡ Some p → IsUse ms i n → Meaning ms i n.text p → ((d : ℕ) → p ≡ Some d → Entries ms (i + 1) (ns ++ number_of ms d ∷ [])) × (p ≡ None → Entries ms (i + 1) ns)
    by p g w (means {d = x} k) = (λ d q. subst (λ (j : ℕ). Entries ms (i + 1) (ns ++ number_of ms j ∷ [])) (some_same x d q) (used x h w k), λ q. absurd (cc))
    by p g w (unknown no_one) = (λ d q. absurd (cc), λ q. absurd (right _ (record { place = i; before = slice_get_within ms i _ e; broken = unknown_name w no_one })))
onward ms meant a right i (Calls n) o ns e f h = by o f (inr e) (spelled_here ms i (Calls n) n.text meant o a e refl f)
  where
    by : (p : Option ℕ) → slice_get meant i ≡ Some p → IsUse ms i n → Meaning ms i n.text p → ((d : ℕ) → p ≡ Some d → Entries ms (i + 1) (ns ++ number_of ms d ∷ [])) × (p ≡ None → Entries ms (i + 1) ns)
    by p g w (means {d = x} k) = (λ d q. subst (λ (j : ℕ). Entries ms (i + 1) (ns ++ number_of ms j ∷ [])) (some_same x d q) (used x h w k), λ q. absurd (cc))
    by p g w (unknown no_one) = (λ d q. absurd (cc), λ q. absurd (right _ (record { place = i; before = slice_get_within ms i _ e; broken = unknown_name w no_one })))

-- the place of an entry is a place of the marks
pub entry_inside : (ms : List Mark) (meant : List (Option ℕ)) → AreMeanings ms meant → (i : ℕ) (m : Mark) (o : Option ℕ) → slice_get ms i ≡ Some m → slice_get meant i ≡ Some o → (d : ℕ) → entry_of m i o ≡ Some d → d < length ms
entry_inside ms meant a i Opens o e f d q = absurd (cc)
entry_inside ms meant a i Closes o e f d q = absurd (cc)
entry_inside ms meant a i (Declares x) o e f d q = subst (λ (j : ℕ). j < length ms) (some_same i d q) (slice_get_within ms i _ e)
entry_inside ms meant a i (Uses n) o e f d q = by o (spelled_here ms i (Uses n) n.text meant o a e refl f) q
  where
    by : (p : Option ℕ) → Meaning ms i n.text p → p ≡ Some d → d < length ms
    by p (means {d = x} k) z = subst (λ (j : ℕ). j < length ms) (some_same x d z) (slice_get_within ms x _ k.declared.there)
    by p (unknown no_one) z = absurd (cc)
entry_inside ms meant a i (Calls n) o e f d q = by o (spelled_here ms i (Calls n) n.text meant o a e refl f) q
  where
    by : (p : Option ℕ) → Meaning ms i n.text p → p ≡ Some d → d < length ms
    by p (means {d = x} k) z = subst (λ (j : ℕ). j < length ms) (some_same x d z) (slice_get_within ms x _ k.declared.there)
    by p (unknown no_one) z = absurd (cc)
