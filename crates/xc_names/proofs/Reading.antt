-- One mark further in the walk that finds what names mean.
use Rattle.std.proofs.Common.{◌≡◌, ℕ, ◌+◌, ◌<◌, ◌≤◌, ◌⊎◌, inl, inr, List, [], ◌∷◌, ◌++◌, length, Bool, true, false, true≢false, nat_eq, Option, None, Some, refl, sym, ap, subst, ◌∙◌, arith}
use Rattle.std.specs.Cmp.Lexicographic.{pointwise, bytes_decides}
use Rattle.std.proofs.lemmas.Option.{slice_get_within}
use Rattle.std.proofs.lemmas.Bool.{cases_lt}
use Rattle.std.proofs.Math.Nat.{eq-or-lt_of_le}
use Rattle.xw_words.proofs.Lists.{below_or_at, length_push, push_at, push_before}
use Rattle.xc_tree.specs.declared.names.Mark.{Mark}
use Rattle.xc_tree.specs.Names.Scopes.{end_of, DeclaresAt, IsKnown, IsWithin}
use Rattle.xc_names.specs.Ends.{AreEnds}
use Rattle.xc_names.specs.Meanings.{IsSpelledAt, Meaning, IsMeantAt}
use Rattle.xc_names.specs.Reads.{EndsBehind, no_scope, behind, Finds, open_still, ended, IsSeen, Answer, best, none_known, Answers, HasRead}
use Rattle.xc_names.proofs.Finds.{one_found, found_pushed, found_on}
use Rattle.xc_names.proofs.Known.{one_spelling, spelled_as, own_scope, seen_more, seen_still, ends_no_earlier, known_on, IsInScope, AddsNone, stays, meaning_of}

-- the meaning of one more place is kept
each_more : (ms : List Mark) (meant : List (Option ℕ)) (i : ℕ) (r : Option ℕ) → length meant ≡ i → ((j : ℕ) (s : List ℕ) → j < i → IsSpelledAt ms j s → IsMeantAt ms meant j s) → ((s : List ℕ) → IsSpelledAt ms i s → Meaning ms i s r) → (j : ℕ) (s : List ℕ) → j < i + 1 → IsSpelledAt ms j s → IsMeantAt ms (meant ++ r ∷ []) j s
each_more ms meant i r c each here j s h k = by (below_or_at j i h)
  where
    old : j < i → IsMeantAt ms meant j s → IsMeantAt ms (meant ++ r ∷ []) j s
    old g m = record { found = m.found; there = push_before meant r j (omega arith) ∙ m.there; right = m.right }

    by : (j < i) ⊎ (j ≡ i) → IsMeantAt ms (meant ++ r ∷ []) j s
    by (inl g) = old g (each j s g k)
    by (inr g) = record {
      found = r;
      there = push_at meant r j (g ∙ sym c);
      right = subst (λ (x : ℕ). Meaning ms x s r) (sym g) (here s (subst (λ (x : ℕ). IsSpelledAt ms x s) g k));
    }

-- what holds of one spelling, and of each other one, holds of all
pub each_spelling : (s t : List ℕ) (P : List ℕ → Type 0) → P t → ((s ≡ t → ⊥) → P s) → P s
each_spelling s t P here others = by (pointwise nat_eq s t) refl
  where
    by : (b : Bool) → pointwise nat_eq s t ≡ b → P s
    by true e = subst P (sym ((bytes_decides s t).0 e)) here
    by false e = others (λ q. true≢false (sym ((bytes_decides s t).1 q) ∙ e))

-- what another spelling means stays where the declaration here has this one
other : (ms : List Mark) (i u : ℕ) (s : List ℕ) (r : Option ℕ) → (DeclaresAt ms i s → ⊥) → Answer ms i u s r → Answer ms (i + 1) u s r
other ms i u s r unlike (best {d = a} da sa ka all) = best da (seen_still ms i a sa) ka (λ e de se ke. by e de ke (seen_more ms i e se))
  where
    by : (e : ℕ) → DeclaresAt ms e s → IsKnown ms e u → IsSeen ms i e ⊎ (e ≡ i) → IsWithin ms a e
    by e de ke (inl x) = all e de x ke
    by e de ke (inr q) = absurd (unlike (subst (λ (x : ℕ). DeclaresAt ms x s) q de))
other ms i u s r unlike (none_known none) = none_known (λ e de se ke. by e de ke (seen_more ms i e se))
  where
    by : (e : ℕ) → DeclaresAt ms e s → IsKnown ms e u → IsSeen ms i e ⊎ (e ≡ i) → ⊥
    by e de ke (inl x) = none e de x ke
    by e de ke (inr q) = unlike (subst (λ (x : ℕ). DeclaresAt ms x s) q de)

-- a mark without a name
pub pass : (ms : List Mark) (ends : List ℕ) (latest : List ℕ → Option ℕ) (outer meant : List (Option ℕ)) (i : ℕ) → HasRead ms ends latest outer meant i → ((s : List ℕ) → IsSpelledAt ms i s → ⊥) → HasRead ms ends latest (outer ++ None ∷ []) (meant ++ None ∷ []) (i + 1)
pass ms ends latest outer meant i w unnamed = record {
  are_ends = w.are_ends;
  outer_count = length_push outer None i w.outer_count;
  count = length_push meant None i w.count;
  finds = λ s u h less.
      let a = w.finds s u (omega arith) less in
      record { found = a.found; finds = found_pushed ends outer None u (latest s) a.found a.finds; right = other ms i u s a.found (λ d. unnamed s (spelled_as ms i s d)) a.right };
  each = each_more ms meant i None w.count w.each (λ s k. absurd (unnamed s k));
}

-- the answer that was found here
pub found_here : (ms : List Mark) (ends : List ℕ) (latest : List ℕ → Option ℕ) (outer meant : List (Option ℕ)) (i : ℕ) (t : List ℕ) (found : Option ℕ) → HasRead ms ends latest outer meant i → i < length ms → Finds ends outer i (latest t) found → Answer ms i i t found
found_here ms ends latest outer meant i t found w less f =
    let a = w.finds t i (omega arith) less in
    subst (Answer ms i i t) (one_found ends outer i (latest t) a.found found a.finds f) a.right

-- a name that adds no declaration to those that are kept
pub look_up : (ms : List Mark) (ends : List ℕ) (latest : List ℕ → Option ℕ) (outer meant : List (Option ℕ)) (i : ℕ) (t : List ℕ) (found : Option ℕ) → HasRead ms ends latest outer meant i → IsSpelledAt ms i t → Finds ends outer i (latest t) found → AddsNone ms i t found → HasRead ms ends latest (outer ++ None ∷ []) (meant ++ found ∷ []) (i + 1)
look_up ms ends latest outer meant i t found w here f adds =
    let less : i < length ms = slice_get_within ms i here.mark here.there in
    let answer : Answer ms i i t found = found_here ms ends latest outer meant i t found w less f in
    record {
      are_ends = w.are_ends;
      outer_count = length_push outer None i w.outer_count;
      count = length_push meant found i w.count;
      finds = λ s u h l.
          let a = w.finds s u (omega arith) l in
          record {
            found = a.found;
            finds = found_pushed ends outer None u (latest s) a.found a.finds;
            right = by answer s u (omega arith) a.found a.right;
          };
      each = each_more ms meant i found w.count w.each (λ s k.
          subst (λ (x : List ℕ). Meaning ms i x found) (one_spelling ms i t s here k) (meaning_of ms i t found (stays ms i t found answer adds i (omega arith) found answer)));
    }
  where
    by : Answer ms i i t found → (s : List ℕ) (u : ℕ) → i ≤ u → (r : Option ℕ) → Answer ms i u s r → Answer ms (i + 1) u s r
    by answer s u h r a = each_spelling s t (λ (x : List ℕ). Answer ms i u x r → Answer ms (i + 1) u x r) (stays ms i t found answer adds u h r) (λ differ. other ms i u s r (λ d. differ (one_spelling ms i s t (spelled_as ms i s d) here))) a

-- a declaration in an inner scope, which isn't there yet
module _ (ms : List Mark) (i : ℕ) (t : List ℕ) (found : Option ℕ) (decl : DeclaresAt ms i t) (local : end_of ms i < length ms) (here : Answer ms i i t found)
    (alone : IsInScope ms i found → ⊥) where
  -- each other one with its spelling that is known here has a scope around its own
  around : (e : ℕ) → DeclaresAt ms e t → IsSeen ms i e → IsKnown ms e i → end_of ms i < end_of ms e
  around e de se ke = by (eq-or-lt_of_le (ends_no_earlier ms i e (short local) ke))
    where
      short : end_of ms i < length ms → i ≤ length ms
      short h = omega arith

      held : (f : Option ℕ) → found ≡ f → Answer ms i i t f → end_of ms i ≡ end_of ms e → ⊥
      held f q (none_known none) g = none e de se ke
      held f q (best {d = a} da sa ka all) g = alone (record { first = a; is = q; one_scope = same (all e de se ke) (ends_no_earlier ms i a (short local) ka) g })
        where
          same : IsWithin ms a e → end_of ms i ≤ end_of ms a → end_of ms i ≡ end_of ms e → end_of ms a ≡ end_of ms i
          same (inl x) y z = absurd (omega arith)
          same (inr x) y z = x.0 ∙ sym z

      by : (end_of ms i ≡ end_of ms e) ⊎ (end_of ms i < end_of ms e) → end_of ms i < end_of ms e
      by (inl g) = absurd (held found refl here g)
      by (inr g) = g

  -- so it is what its name means while its scope lasts
  innermost : (u : ℕ) → i ≤ u → u < end_of ms i → Answer ms (i + 1) u t (Some i)
  innermost u h less = best decl (inl (omega arith)) (record { begun = inl h; open_still = less }) (λ e de se ke. by e de ke (seen_more ms i e se))
    where
      earlier : (e : ℕ) → IsSeen ms i e → IsKnown ms e u → IsKnown ms e i
      earlier e se ke = known_on ms i i e se (omega arith) (let g = ke.open_still in omega arith)

      by : (e : ℕ) → DeclaresAt ms e t → IsKnown ms e u → IsSeen ms i e ⊎ (e ≡ i) → IsWithin ms i e
      by e de ke (inl se) = inl (around e de se (earlier e se ke))
      by e de ke (inr q) = inr (ap (end_of ms) (sym q), omega arith)

  -- and behind it the others mean what they meant
  behind_it : (u : ℕ) → end_of ms i ≤ u → (r : Option ℕ) → Answer ms i u t r → Answer ms (i + 1) u t r
  behind_it u h r (best {d = a} da sa ka all) = best da (seen_still ms i a sa) ka (λ e de se ke. by e de ke (seen_more ms i e se))
    where
      by : (e : ℕ) → DeclaresAt ms e t → IsKnown ms e u → IsSeen ms i e ⊎ (e ≡ i) → IsWithin ms a e
      by e de ke (inl x) = all e de x ke
      by e de ke (inr q) = let g = ke.open_still in let f = ap (end_of ms) q in absurd (omega arith)
  behind_it u h r (none_known none) = none_known (λ e de se ke. by e de ke (seen_more ms i e se))
    where
      by : (e : ℕ) → DeclaresAt ms e t → IsKnown ms e u → IsSeen ms i e ⊎ (e ≡ i) → ⊥
      by e de ke (inl x) = none e de x ke
      by e de ke (inr q) = let g = ke.open_still in let f = ap (end_of ms) q in omega arith

  -- the scope of what was found ends behind
  ends_behind : (ends : List ℕ) → AreEnds ms ends → EndsBehind ends (end_of ms i) found
  ends_behind ends are = held found refl here
    where
      held : (f : Option ℕ) → found ≡ f → Answer ms i i t f → EndsBehind ends (end_of ms i) f
      held f q (none_known none) = no_scope
      held f q (best {d = a} da sa ka all) = behind (are.each a (slice_get_within ms a _ da.there)) (around a da sa ka)

pub declare : (ms : List Mark) (ends : List ℕ) (latest new : List ℕ → Option ℕ) (outer meant : List (Option ℕ)) (i : ℕ) (t : List ℕ) (found : Option ℕ) → HasRead ms ends latest outer meant i → DeclaresAt ms i t → end_of ms i < length ms → Finds ends outer i (latest t) found → (IsInScope ms i found → ⊥) → new t ≡ Some i → ((s : List ℕ) → (s ≡ t → ⊥) → new s ≡ latest s) → HasRead ms ends new (outer ++ found ∷ []) (meant ++ Some i ∷ []) (i + 1)
declare ms ends latest new outer meant i t found w decl local f alone kept others =
    let less : i < length ms = slice_get_within ms i _ decl.there in
    let answer : Answer ms i i t found = found_here ms ends latest outer meant i t found w less f in
    record {
      are_ends = w.are_ends;
      outer_count = length_push outer found i w.outer_count;
      count = length_push meant (Some i) i w.count;
      finds = λ s u h l. each_spelling s t (λ (x : List ℕ). Answers ms ends (outer ++ found ∷ []) (i + 1) u x (new x)) (subst (Answers ms ends (outer ++ found ∷ []) (i + 1) u t) (sym kept) (own answer u (omega arith) l (cases_lt u (end_of ms i)))) (λ differ. another s u h l differ);
      each = each_more ms meant i (Some i) w.count w.each (λ s k.
          subst (λ (x : List ℕ). Meaning ms i x (Some i)) (one_spelling ms i t s (spelled_as ms i t decl) k) (meaning_of ms i t (Some i) (innermost ms i t found decl local answer alone i (omega arith) (own_scope ms i t decl))));
    }
  where
    own : Answer ms i i t found → (u : ℕ) → i ≤ u → u < length ms → (u < end_of ms i) ⊎ (end_of ms i ≤ u) → Answers ms ends (outer ++ found ∷ []) (i + 1) u t (Some i)
    own answer u h l (inl g) = record {
      found = Some i;
      finds = open_still (w.are_ends.each i (slice_get_within ms i _ decl.there)) g;
      right = innermost ms i t found decl local answer alone u h g;
    }
    own answer u h l (inr g) =
        let a = w.finds t u h l in
        record {
          found = a.found;
          finds = ended (w.are_ends.each i (slice_get_within ms i _ decl.there)) g (push_at outer found i (sym w.outer_count)) (ends_behind ms i t found decl local answer alone ends w.are_ends) (found_pushed ends outer found u found a.found (found_on ends outer i u (latest t) found a.found h f a.finds));
          right = behind_it ms i t found decl local answer alone u g a.found a.right;
        }

    another : (s : List ℕ) (u : ℕ) → i + 1 ≤ u → u < length ms → (s ≡ t → ⊥) → Answers ms ends (outer ++ found ∷ []) (i + 1) u s (new s)
    another s u h l differ =
        let a = w.finds s u (omega arith) l in
        subst (Answers ms ends (outer ++ found ∷ []) (i + 1) u s) (sym (others s differ)) (record {
          found = a.found;
          finds = found_pushed ends outer found u (latest s) a.found a.finds;
          right = other ms i u s a.found (λ d. differ (one_spelling ms i s t (spelled_as ms i s d) (spelled_as ms i t decl))) a.right;
        })
