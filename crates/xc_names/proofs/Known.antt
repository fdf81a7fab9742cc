-- Which declaration a name means, as the walk over the marks keeps it.
use Rattle.std.proofs.Common.{◌≡◌, ℕ, zero, suc, ◌+◌, ◌-◌, ◌<◌, ◌≤◌, ◌⊎◌, inl, inr, List, [], ◌∷◌, length, drop, Option, None, Some, sym, ap, subst, ◌∙◌, arith}
use Rattle.std.proofs.lemmas.List.{drop-drop, length-drop}
use Rattle.std.proofs.Math.Nat.{eq-or-lt_of_le}
use Rattle.xw_words.proofs.Lists.{below_or_at, drop_found, some_same}
use Rattle.xc_tree.specs.declared.names.Mark.{Mark}
use Rattle.xc_tree.specs.declared.names.Mark.TheVariants.{Opens, Closes, Declares, Uses, Calls}
use Rattle.xc_tree.specs.Names.Scopes.{to_end, end_of, DeclaresAt, IsKnown, IsWithin}
use Rattle.xc_names.specs.Meanings.{spelling_of, IsSpelledAt, Meaning, means, unknown}
use Rattle.xc_names.specs.Reads.{IsSeen, Answer, best, none_known}

-- more scopes that have begun since end no later
to_end_mono : (ms : List Mark) (j k : ℕ) → j ≤ k → to_end j ms ≤ to_end k ms
to_end_mono [] j k h = omega arith
to_end_mono (Opens ∷ ms) j k h = let g = to_end_mono ms (suc j) (suc k) (omega arith) in omega arith
to_end_mono (Closes ∷ ms) zero zero h = omega arith
to_end_mono (Closes ∷ ms) zero (suc k) h = omega arith
to_end_mono (Closes ∷ ms) (suc j) zero h = absurd (omega arith)
to_end_mono (Closes ∷ ms) (suc j) (suc k) h = let g = to_end_mono ms j k (omega arith) in omega arith
to_end_mono (Declares d ∷ ms) j k h = let g = to_end_mono ms j k h in omega arith
to_end_mono (Uses d ∷ ms) j k h = let g = to_end_mono ms j k h in omega arith
to_end_mono (Calls d ∷ ms) j k h = let g = to_end_mono ms j k h in omega arith

to_end_short : (ms : List Mark) (k : ℕ) → to_end k ms ≤ length ms
to_end_short [] k = omega arith
to_end_short (Opens ∷ ms) k = let g = to_end_short ms (suc k) in omega arith
to_end_short (Closes ∷ ms) zero = omega arith
to_end_short (Closes ∷ ms) (suc k) = let g = to_end_short ms k in omega arith
to_end_short (Declares d ∷ ms) k = let g = to_end_short ms k in omega arith
to_end_short (Uses d ∷ ms) k = let g = to_end_short ms k in omega arith
to_end_short (Calls d ∷ ms) k = let g = to_end_short ms k in omega arith

-- from within a scope it is no farther to the end of the innermost one
inside : (ms : List Mark) (j k : ℕ) → j < to_end k ms → j + to_end 0 (drop j ms) ≤ to_end k ms
inside ms zero k h = let g = to_end_mono ms 0 k (omega arith) in omega arith
inside [] (suc j) k h = absurd (omega arith)
inside (Opens ∷ ms) (suc j) k h = let g = inside ms j (suc k) (omega arith) in omega arith
inside (Closes ∷ ms) (suc j) zero h = absurd (omega arith)
inside (Closes ∷ ms) (suc j) (suc k) h = let g = inside ms j k (omega arith) in omega arith
inside (Declares d ∷ ms) (suc j) k h = let g = inside ms j k (omega arith) in omega arith
inside (Uses d ∷ ms) (suc j) k h = let g = inside ms j k (omega arith) in omega arith
inside (Calls d ∷ ms) (suc j) k h = let g = inside ms j k (omega arith) in omega arith

pub end_within : (ms : List Mark) (i : ℕ) → i ≤ length ms → end_of ms i ≤ length ms
end_within ms i h = let g = to_end_short (drop i ms) 0 in let e = length-drop i ms in omega arith

back_to : (c d : ℕ) → c ≤ d → c + (d - c) ≡ d
back_to c d h = omega arith

-- a place inside a scope has its own end no later
pub nested : (ms : List Mark) (c d : ℕ) → c ≤ d → d < end_of ms c → end_of ms d ≤ end_of ms c
nested ms c d h less =
    let g = inside (drop c ms) (d - c) 0 (omega arith) in
    let e : drop (d - c) (drop c ms) ≡ drop d ms = drop-drop (d - c) c ms ∙ ap (λ k. drop k ms) (back_to c d h) in
    let f : (d - c) + to_end 0 (drop d ms) ≤ to_end 0 (drop c ms) = subst (λ (xs : List Mark). (d - c) + to_end 0 xs ≤ to_end 0 (drop c ms)) e g in
    omega arith

-- one place has one spelling
pub one_spelling : (ms : List Mark) (i : ℕ) (t s : List ℕ) → IsSpelledAt ms i t → IsSpelledAt ms i s → t ≡ s
one_spelling ms i t s a b = some_same t s (sym a.spelled ∙ ap spelling_of (some_same a.mark b.mark (sym a.there ∙ b.there)) ∙ b.spelled)

pub spelled_as : (ms : List Mark) (i : ℕ) (t : List ℕ) → DeclaresAt ms i t → IsSpelledAt ms i t
spelled_as ms i t d = record { mark = Declares d.decl; there = d.there; spelled = ap Some d.spelled }

-- a declaration lies inside its own scope
pub own_scope : (ms : List Mark) (i : ℕ) (t : List ℕ) → DeclaresAt ms i t → i < end_of ms i
own_scope ms i t d =
    let e : drop i ms ≡ Declares d.decl ∷ drop (i + 1) ms = drop_found ms i (Declares d.decl) d.there in
    let f : to_end 0 (drop i ms) ≡ suc (to_end 0 (drop (i + 1) ms)) = ap (to_end 0) e in
    omega arith

pub knows_itself : (ms : List Mark) (i : ℕ) (t : List ℕ) → DeclaresAt ms i t → IsKnown ms i i
knows_itself ms i t d = record { begun = inl (omega arith); open_still = own_scope ms i t d }

-- what is known at a place was seen before, or is declared there
pub seen_or_here : (ms : List Mark) (i e : ℕ) → IsKnown ms e i → IsSeen ms i e ⊎ (e ≡ i)
seen_or_here ms i e k = by k.begun
  where
    split : (e ≡ i) ⊎ (e < i) → IsSeen ms i e ⊎ (e ≡ i)
    split (inl h) = inr h
    split (inr h) = inl (inl h)

    by : (e ≤ i) ⊎ (end_of ms e ≡ length ms) → IsSeen ms i e ⊎ (e ≡ i)
    by (inl h) = split (eq-or-lt_of_le h)
    by (inr h) = inl (inr h)

pub seen_more : (ms : List Mark) (i e : ℕ) → IsSeen ms (i + 1) e → IsSeen ms i e ⊎ (e ≡ i)
seen_more ms i e (inr h) = inl (inr h)
seen_more ms i e (inl h) = by (below_or_at e i h)
  where
    by : (e < i) ⊎ (e ≡ i) → IsSeen ms i e ⊎ (e ≡ i)
    by (inl g) = inl (inl g)
    by (inr g) = inr g

pub seen_still : (ms : List Mark) (i e : ℕ) → IsSeen ms i e → IsSeen ms (i + 1) e
seen_still ms i e (inl h) = inl (omega arith)
seen_still ms i e (inr h) = inr h

-- what is known at a place ends no earlier than the scope around that place
pub ends_no_earlier : (ms : List Mark) (i e : ℕ) → i ≤ length ms → IsKnown ms e i → end_of ms i ≤ end_of ms e
ends_no_earlier ms i e h k = by k.begun
  where
    by : (e ≤ i) ⊎ (end_of ms e ≡ length ms) → end_of ms i ≤ end_of ms e
    by (inl g) = nested ms e i g k.open_still
    by (inr g) = let f = end_within ms i h in omega arith

-- what was seen and is open still at a later place is known there
pub known_on : (ms : List Mark) (i u e : ℕ) → IsSeen ms i e → i ≤ u → u < end_of ms e → IsKnown ms e u
known_on ms i u e (inl h) g less = record { begun = inl (omega arith); open_still = less }
known_on ms i u e (inr h) g less = record { begun = inr h; open_still = less }

-- what was found is a declaration in the scope of place i
pub record IsInScope (ms : List Mark) (i : ℕ) (found : Option ℕ) : Type 0 where
  pub first : ℕ
  pub is : found ≡ Some first
  pub one_scope : end_of ms first ≡ end_of ms i

-- what is declared at place i, if anything, is known in the whole text, or declared again
abbrev pub AddsNone : List Mark → ℕ → List ℕ → Option ℕ → Type 0
AddsNone ms i t found = DeclaresAt ms i t → (end_of ms i ≡ length ms) ⊎ IsInScope ms i found

-- the same scope, and the one before it among the seen
within_same : (ms : List Mark) (a d i : ℕ) → IsWithin ms a d → end_of ms d ≡ end_of ms i → d ≤ i → IsWithin ms a i
within_same ms a d i (inl h) e g = inl (omega arith)
within_same ms a d i (inr h) e g = inr (h.0 ∙ e, let k = h.1 in omega arith)

module _ (ms : List Mark) (i : ℕ) (t : List ℕ) (found : Option ℕ) (here : Answer ms i i t found) (adds : AddsNone ms i t found) where
  -- with what is declared at place i an answer for a later place stays the answer
  late : (u : ℕ) → i ≤ u → (r : Option ℕ) → Answer ms i u t r → DeclaresAt ms i t → IsKnown ms i u → ((e : ℕ) → DeclaresAt ms e t → IsSeen ms i e → IsKnown ms e u → ⊥) → ⊥
  late u h r a d k none = by (adds d)
    where
      held : (f : Option ℕ) (x : ℕ) → f ≡ Some x → Answer ms i i t f → end_of ms x ≡ end_of ms i → ⊥
      held f x q (none_known g) e = cc
      held f x q (best {d = y} dy sy ky g) e =
          let same : y ≡ x = some_same y x q in
          let less : u < end_of ms y = let l = k.open_still in let m = ap (end_of ms) same in omega arith in
          none y dy sy (known_on ms i u y sy h less)

      by : (end_of ms i ≡ length ms) ⊎ IsInScope ms i found → ⊥
      by (inl g) = none i d (inr g) k
      by (inr s) = held found s.first s.is here s.one_scope

  latest_best : (u : ℕ) → i ≤ u → (a : ℕ) → ((e : ℕ) → DeclaresAt ms e t → IsSeen ms i e → IsKnown ms e u → IsWithin ms a e) → DeclaresAt ms i t → IsKnown ms i u → IsWithin ms a i
  latest_best u h a all d k = by (adds d)
    where
      seen_by : (x : ℕ) → IsSeen ms i x → DeclaresAt ms x t → end_of ms x ≡ end_of ms i → u < end_of ms x → IsWithin ms a i
      seen_by x (inl g) dx e less = within_same ms a x i (all x dx (inl g) (known_on ms i u x (inl g) h less)) e (omega arith)
      seen_by x (inr g) dx e less = all i d (inr (sym e ∙ g)) k

      held : (f : Option ℕ) (x : ℕ) → f ≡ Some x → Answer ms i i t f → end_of ms x ≡ end_of ms i → IsWithin ms a i
      held f x q (none_known g) e = absurd (cc)
      held f x q (best {d = y} dy sy ky g) e =
          let same : y ≡ x = some_same y x q in
          let e' : end_of ms y ≡ end_of ms i = ap (end_of ms) same ∙ e in
          seen_by y sy dy e' (let l = k.open_still in omega arith)

      by : (end_of ms i ≡ length ms) ⊎ IsInScope ms i found → IsWithin ms a i
      by (inl g) = all i d (inr g) k
      by (inr s) = held found s.first s.is here s.one_scope

  pub stays : (u : ℕ) → i ≤ u → (r : Option ℕ) → Answer ms i u t r → Answer ms (i + 1) u t r
  stays u h r (best {d = a} da sa ka all) = best da (seen_still ms i a sa) ka (λ e de se ke. by e de ke (seen_more ms i e se))
    where
      by : (e : ℕ) → DeclaresAt ms e t → IsKnown ms e u → IsSeen ms i e ⊎ (e ≡ i) → IsWithin ms a e
      by e de ke (inl s) = all e de s ke
      by e de ke (inr q) = subst (IsWithin ms a) (sym q) (latest_best u h a all (subst (λ (x : ℕ). DeclaresAt ms x t) q de) (subst (λ (x : ℕ). IsKnown ms x u) q ke))
  stays u h r (none_known none) = none_known (λ e de se ke. by e de ke (seen_more ms i e se))
    where
      by : (e : ℕ) → DeclaresAt ms e t → IsKnown ms e u → IsSeen ms i e ⊎ (e ≡ i) → ⊥
      by e de ke (inl s) = none e de s ke
      by e de ke (inr q) = late u h None (none_known none) (subst (λ (x : ℕ). DeclaresAt ms x t) q de) (subst (λ (x : ℕ). IsKnown ms x u) q ke) none

-- where no more is seen an answer means what the name there means
pub meaning_of : (ms : List Mark) (i : ℕ) (t : List ℕ) (r : Option ℕ) → Answer ms (i + 1) i t r → Meaning ms i t r
meaning_of ms i t r (best {d = a} da sa ka all) = means (record { declared = da; known = ka; innermost = λ e de ke. all e de (by e ke (seen_or_here ms i e ke)) ke })
  where
    by : (e : ℕ) → IsKnown ms e i → IsSeen ms i e ⊎ (e ≡ i) → IsSeen ms (i + 1) e
    by e ke (inl s) = seen_still ms i e s
    by e ke (inr q) = inl (omega arith)
meaning_of ms i t r (none_known none) = unknown (λ e de ke. none e de (by e ke (seen_or_here ms i e ke)) ke)
  where
    by : (e : ℕ) → IsKnown ms e i → IsSeen ms i e ⊎ (e ≡ i) → IsSeen ms (i + 1) e
    by e ke (inl s) = seen_still ms i e s
    by e ke (inr q) = inl (omega arith)
