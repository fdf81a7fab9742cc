-- The ends of the scopes that are open at a place, as the walk back keeps them.
use Rattle.std.proofs.Common.{◌≡◌, ℕ, zero, suc, ◌+◌, ◌-◌, ◌<◌, ◌≤◌, ◌⊎◌, inl, inr, List, [], ◌∷◌, ◌++◌, length, take, drop, get_or, slice_get, slice_set, Some, refl, sym, ap, subst, ◌∙◌, arith, length-append}
use Rattle.std.proofs.lemmas.List.{length-take-le, get_or-take}
use Rattle.std.proofs.lemmas.Option.{slice_get-get_or, slice_get_read, slice_get_within, get_or_from_slice_get}
use Rattle.std.proofs.Math.Nat.{eq-zero-or-pos}
use Rattle.std.proofs.Math.Seq.{drop-length}
use Rattle.xc_tree.specs.declared.names.Mark.{Mark}
use Rattle.xc_tree.specs.declared.names.Mark.TheVariants.{Opens, Closes, Declares, Uses, Calls}
use Rattle.xc_tree.specs.Names.Scopes.{to_end, end_of}
use Rattle.xc_names.specs.Ends.{AreEnds, open_before, last_or}
use Rattle.std.proofs.lemmas.Bool.{cases_eq}
use Rattle.std.proofs.lemmas.List.{length-set}
use Rattle.xw_words.proofs.Lists.{pushed, set_at, set_other, drop_item}

-- the ends of the scopes that are open at place i of n marks, of which these are left: the innermost scope's is the last
pub record Stack (n i : ℕ) (rest : List Mark) (ks : List ℕ) : Type 0 where
  pub inner : (j k x : ℕ) → slice_get ks j ≡ Some x → j + k + 1 ≡ length ks → i + to_end k rest ≡ x
  pub outer : (k : ℕ) → length ks ≤ k → i + to_end k rest ≡ n

pub at_end : (n : ℕ) → Stack n n [] []
at_end n = record { inner = λ j k x h e. absurd (omega arith); outer = λ k h. omega arith }

same : (n i : ℕ) (m : Mark) (rest : List Mark) (ks : List ℕ) → ((k : ℕ) → to_end k (m ∷ rest) ≡ suc (to_end k rest)) → Stack n (i + 1) rest ks → Stack n i (m ∷ rest) ks
same n i m rest ks e s = record {
  inner = λ j k x h c. let g = s.inner j k x h c in let f = e k in omega arith;
  outer = λ k h. let g = s.outer k h in let f = e k in omega arith;
}

closes_inner : (n i : ℕ) (rest : List Mark) (ks : List ℕ) → Stack n (i + 1) rest ks → (k j x : ℕ) → (slice_get ks j ≡ Some x) ⊎ ((j ≡ length ks) × (i ≡ x)) → j + k + 1 ≡ length ks + 1 → i + to_end k (Closes ∷ rest) ≡ x
closes_inner n i rest ks s zero j x (inl h) c = let less = slice_get_within ks j x h in absurd (omega arith)
closes_inner n i rest ks s zero j x (inr h) c = let e = h.1 in omega arith
closes_inner n i rest ks s (suc k) j x (inl h) c = let g = s.inner j k x h (omega arith) in omega arith
closes_inner n i rest ks s (suc k) j x (inr h) c = let e = h.0 in absurd (omega arith)

closes_outer : (n i : ℕ) (rest : List Mark) (ks : List ℕ) → Stack n (i + 1) rest ks → (k : ℕ) → length ks + 1 ≤ k → i + to_end k (Closes ∷ rest) ≡ n
closes_outer n i rest ks s zero h = absurd (omega arith)
closes_outer n i rest ks s (suc k) h = let g = s.outer k (omega arith) in omega arith

closed : (n i : ℕ) (rest : List Mark) (ks : List ℕ) → Stack n (i + 1) rest ks → Stack n i (Closes ∷ rest) (ks ++ i ∷ [])
closed n i rest ks s =
    let long : length (ks ++ i ∷ []) ≡ length ks + 1 = length-append ks (i ∷ []) in
    record {
      inner = λ j k x h c. closes_inner n i rest ks s k j x (pushed ks i x j h) (c ∙ long);
      outer = λ k h. closes_outer n i rest ks s k (subst (λ (m : ℕ). m ≤ k) long h);
    }

front : (ks : List ℕ) (j x : ℕ) → slice_get (take (length ks - 1) ks) j ≡ Some x → slice_get ks j ≡ Some x
front ks j x h =
    let long = length-take-le (length ks - 1) ks (omega arith) in
    let less = slice_get_within (take (length ks - 1) ks) j x h in
    let here : get_or ks j x ≡ x = sym (get_or-take (length ks - 1) ks j x (omega arith)) ∙ get_or_from_slice_get (take (length ks - 1) ks) j x x h in
    slice_get_read ks (length ks) j x refl (omega arith) (sym here)

opened : (n i : ℕ) (rest : List Mark) (ks : List ℕ) → Stack n (i + 1) rest ks → Stack n i (Opens ∷ rest) (take (length ks - 1) ks)
opened n i rest ks s =
    let long : length (take (length ks - 1) ks) ≡ length ks - 1 = length-take-le (length ks - 1) ks (omega arith) in
    record {
      inner = λ j k x h c.
          let less = slice_get_within (take (length ks - 1) ks) j x h in
          let g = s.inner j (suc k) x (front ks j x h) (omega arith) in
          omega arith;
      outer = λ k h. let g = s.outer (suc k) (omega arith) in omega arith;
    }

pub back : (n i : ℕ) (m : Mark) (rest : List Mark) (ks : List ℕ) → Stack n (i + 1) rest ks → Stack n i (m ∷ rest) (open_before m i ks)
back n i Opens rest ks s = opened n i rest ks s
back n i Closes rest ks s = closed n i rest ks s
back n i (Declares d) rest ks s = same n i (Declares d) rest ks (λ k. refl) s
back n i (Uses d) rest ks s = same n i (Uses d) rest ks (λ k. refl) s
back n i (Calls d) rest ks s = same n i (Calls d) rest ks (λ k. refl) s

pub innermost : (n i : ℕ) (rest : List Mark) (ks : List ℕ) → Stack n i rest ks → last_or n ks ≡ i + to_end 0 rest
innermost n i rest ks s = by (eq-zero-or-pos (length ks))
  where
    none : (xs : List ℕ) → length xs ≡ 0 → get_or xs (length xs - 1) n ≡ n
    none [] e = refl
    none (x ∷ xs) e = absurd (omega arith)

    by : (length ks ≡ zero) ⊎ (zero < length ks) → last_or n ks ≡ i + to_end 0 rest
    by (inl e) = none ks e ∙ sym (s.outer 0 (omega arith))
    by (inr h) = sym (s.inner (length ks - 1) 0 (last_or n ks) (slice_get-get_or ks (length ks - 1) n (omega arith)) (omega arith))

-- the ends of all places from here on are known, and those of the scopes that are open here
pub record Back (ms : List Mark) (here : ℕ) (closing ends : List ℕ) : Type 0 where
  pub within : here ≤ length ms
  pub stack : Stack (length ms) here (drop here ms) closing
  pub count : length ends ≡ length ms
  pub each : (i : ℕ) → here ≤ i → i < length ms → slice_get ends i ≡ Some (end_of ms i)

pub behind : (ms : List Mark) (ends : List ℕ) → length ends ≡ length ms → Back ms (length ms) [] ends
behind ms ends e = record {
  within = omega arith;
  stack = rw (drop-length ms) (at_end (length ms));
  count = e;
  each = λ i h g. absurd (omega arith);
}

inside : {j n m : ℕ} → j < n → m ≡ n → j < m
inside h g = omega arith

pub back_over : (ms : List Mark) (here : ℕ) (m : Mark) (closing ends : List ℕ) → m ≡ get_or ms here m → here < length ms → Back ms (here + 1) closing ends → Back ms here (open_before m here closing) (slice_set ends here (last_or (length ms) (open_before m here closing)))
back_over ms here m closing ends e less b =
    let now : Stack (length ms) here (m ∷ drop (here + 1) ms) (open_before m here closing) = back (length ms) here m (drop (here + 1) ms) closing b.stack in
    let stack : Stack (length ms) here (drop here ms) (open_before m here closing) = subst (λ (rest : List Mark). Stack (length ms) here rest (open_before m here closing)) (sym (drop_item ms here m e less)) now in
    let x : ℕ = last_or (length ms) (open_before m here closing) in
    let is : x ≡ end_of ms here = innermost (length ms) here (drop here ms) (open_before m here closing) stack in
    record {
      within = omega arith;
      stack = stack;
      count = length-set ends here x ∙ b.count;
      each = λ i h g. each_at i (cases_eq i here) h g is;
    }
  where
    each_at : (i : ℕ) → (i ≡ here) ⊎ (i ≡ here → ⊥) → here ≤ i → i < length ms → last_or (length ms) (open_before m here closing) ≡ end_of ms here → slice_get (slice_set ends here (last_or (length ms) (open_before m here closing))) i ≡ Some (end_of ms i)
    each_at i (inl q) h g is = rw q (set_at ends here _ (inside less b.count) ∙ ap Some is)
    each_at i (inr q) h g is = set_other ends here i _ q (inside g b.count) ∙ b.each i (omega arith) g

pub all_known : (ms : List Mark) (closing ends : List ℕ) → Back ms 0 closing ends → AreEnds ms ends
all_known ms closing ends b = record { one_each = b.count; each = λ i h. b.each i (omega arith) h }
