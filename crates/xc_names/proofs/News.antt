-- Whether a mark adds a declaration, and the first declarations that are known in the whole text.
use Rattle.std.proofs.Common.{◌≡◌, ℕ, ◌+◌, ◌<◌, ◌≤◌, ◌⊎◌, inl, inr, List, [], ◌∷◌, length, get_or, slice_get, Bool, true, false, not, ◌&&◌, nat_eq, nat_lt, is_some, option_map, ◌++◌, Option, None, Some, refl, sym, ap, subst, ◌∙◌, arith}
use Rattle.std.proofs.lemmas.Option.{slice_get_within, slice_get_read, get_or_from_slice_get}
use Rattle.std.proofs.lemmas.Bool.Decides.{nat_tests}
use Rattle.xw_words.proofs.Lists.{below_or_at, some_same}
use Rattle.xc_tree.specs.declared.names.Mark.{Mark}
use Rattle.xc_tree.specs.declared.names.Mark.TheVariants.{Opens, Closes, Declares, Uses, Calls}
use Rattle.xc_tree.specs.Names.Scopes.{end_of, DeclaresAt, IsWithin}
use Rattle.xc_names.specs.Ends.{AreEnds}
use Rattle.xc_names.specs.Meanings.{spelling_of, declared_by, AreMeanings}
use Rattle.xc_names.specs.Reads.{Finds, nothing, open_still, IsFound, IsSeen, Answer, best, none_known, Answers, HasRead, FirstGlobal, first, absent, HasGlobals, ends_with, adds_one}
use Rattle.xc_names.proofs.Known.{end_within, IsInScope, AddsNone}
use Rattle.xc_names.proofs.Reading.{each_spelling, found_here, pass, look_up, declare}

both_true : (a b : Bool) → (a && b) ≡ true → (a ≡ true) × (b ≡ true)
both_true true b e = (refl, e)
both_true false b e = absurd (cc)

not_true : (a : Bool) → not a ≡ true → a ≡ false
not_true true e = absurd (cc)
not_true false e = refl

pub declares_here : (ms : List Mark) (i : ℕ) (m : Mark) (t : List ℕ) → slice_get ms i ≡ Some m → declared_by m ≡ Some t → DeclaresAt ms i t
declares_here ms i Opens t e f = absurd (cc)
declares_here ms i Closes t e f = absurd (cc)
declares_here ms i (Declares d) t e f = record { decl = d; there = e; spelled = some_same d.name.text t f }
declares_here ms i (Uses n) t e f = absurd (cc)
declares_here ms i (Calls n) t e f = absurd (cc)

-- the name that a declaring mark has is the one that it declares
one_name : (m : Mark) (t : List ℕ) → is_some (declared_by m) ≡ true → spelling_of m ≡ Some t → declared_by m ≡ Some t
one_name Opens t e f = absurd (cc)
one_name Closes t e f = absurd (cc)
one_name (Declares d) t e f = f
one_name (Uses n) t e f = absurd (cc)
one_name (Calls n) t e f = absurd (cc)

end_read : (ms : List Mark) (ends : List ℕ) (i : ℕ) → AreEnds ms ends → i < length ms → get_or ends i 0 ≡ end_of ms i
end_read ms ends i a h = get_or_from_slice_get ends i (end_of ms i) 0 (a.each i h)

below : (a b : ℕ) → nat_lt a b ≡ true → a < b
below a b e = grind (arith, nat_tests)

not_below : (a b : ℕ) → nat_lt a b ≡ false → b ≤ a
not_below a b e = grind (arith, nat_tests)

equal : (a b : ℕ) → nat_eq a b ≡ true → a ≡ b
equal a b e = grind (arith, nat_tests)

equal_true : (a b : ℕ) → a ≡ b → nat_eq a b ≡ true
equal_true a b e = grind (arith, nat_tests)

-- a declaration that is added
pub record IsNew (ms : List Mark) (i : ℕ) (t : List ℕ) (found : Option ℕ) : Type 0 where
  pub decl : DeclaresAt ms i t
  pub local : end_of ms i < length ms
  pub alone : IsInScope ms i found → ⊥

pub is_new : (ms : List Mark) (ends : List ℕ) (i : ℕ) (m : Mark) (t : List ℕ) (found : Option ℕ) → AreEnds ms ends → slice_get ms i ≡ Some m → spelling_of m ≡ Some t → ((d : ℕ) → found ≡ Some d → d < length ms) → adds_one m ends i found ≡ true → IsNew ms i t found
is_new ms ends i m t found a e f inside h =
    let less : i < length ms = slice_get_within ms i m e in
    let x = both_true (is_some (declared_by m)) _ h in
    let y = both_true (nat_lt (get_or ends i 0) (length ends)) (not (ends_with ends i found)) x.1 in
    let g = below _ _ y.0 in
    let long = a.one_each in
    let at : get_or ends i 0 ≡ end_of ms i = end_read ms ends i a less in
    record {
      decl = declares_here ms i m t e (one_name m t x.0 f);
      local = omega arith;
      alone = λ s. clash (not_true (ends_with ends i found) y.1) s less;
    }
  where
    clash : ends_with ends i found ≡ false → IsInScope ms i found → i < length ms → ⊥
    clash q s less =
        let one : ends_with ends i found ≡ true = ap (ends_with ends i) s.is ∙ equal_true _ _ (end_read ms ends s.first a (inside s.first s.is) ∙ s.one_scope ∙ sym (end_read ms ends i a less)) in
        true_false (sym one ∙ q)
      where
        true_false : true ≡ false → ⊥
        true_false z = cc

pub adds_none : (ms : List Mark) (ends : List ℕ) (i : ℕ) (m : Mark) (t : List ℕ) (found : Option ℕ) → AreEnds ms ends → slice_get ms i ≡ Some m → ((d : ℕ) → found ≡ Some d → d < length ms) → adds_one m ends i found ≡ false → AddsNone ms i t found
adds_none ms ends i m t found a e inside h decl =
    let less : i < length ms = slice_get_within ms i m e in
    by less (nat_lt (get_or ends i 0) (length ends)) refl
  where
    declared : is_some (declared_by m) ≡ true
    declared = ap (λ x. is_some (declared_by x)) (some_same m _ (sym e ∙ decl.there))

    ended : (b : Bool) → not b ≡ false → b ≡ true
    ended true q = refl
    ended false q = absurd (cc)

    second : (x y : Bool) → x ≡ true → (x && y) ≡ false → y ≡ false
    second true y p q = q
    second false y p q = absurd (cc)

    scope : i < length ms → (f : Option ℕ) → found ≡ f → ends_with ends i f ≡ true → IsInScope ms i found
    scope less None p q = absurd (cc)
    scope less (Some d) p q = record { first = d; is = p; one_scope = sym (end_read ms ends d a (inside d p)) ∙ equal _ _ q ∙ end_read ms ends i a less }

    by : i < length ms → (b : Bool) → nat_lt (get_or ends i 0) (length ends) ≡ b → (end_of ms i ≡ length ms) ⊎ IsInScope ms i found
    by less true q = inr (scope less found refl (ended _ (second (nat_lt (get_or ends i 0) (length ends)) _ q (second (is_some (declared_by m)) _ declared h))))
    by less false q = inl (whole (not_below _ _ q) (end_read ms ends i a less) a.one_each (end_within ms i (at_most less)))
      where
        at_most : {x y : ℕ} → x < y → x ≤ y
        at_most z = omega arith

        whole : {g k l n : ℕ} → l ≤ g → g ≡ k → l ≡ n → k ≤ n → k ≡ n
        whole p1 p2 p3 p4 = omega arith

-- what is found stands among the marks
pub found_inside : (ms : List Mark) (i u : ℕ) (t : List ℕ) (r : Option ℕ) → Answer ms i u t r → (d : ℕ) → r ≡ Some d → d < length ms
found_inside ms i u t r (best {d = a} da sa ka all) d e = subst (λ (x : ℕ). x < length ms) (some_same a d e) (slice_get_within ms a _ da.there)
found_inside ms i u t r (none_known none) d e = absurd (cc)

-- with the first declarations that are known in the whole text the walk begins
pub begins : (ms : List Mark) (ends : List ℕ) (latest : List ℕ → Option ℕ) → AreEnds ms ends → HasGlobals ms latest (length ms) → HasRead ms ends latest [] [] 0
begins ms ends latest a g = record {
  are_ends = a;
  outer_count = refl;
  count = refl;
  finds = λ t u h less. by t u less (latest t) (g.each t);
  each = λ j t h k. absurd (omega arith);
}
  where
    by : (t : List ℕ) (u : ℕ) → u < length ms → (o : Option ℕ) → FirstGlobal ms (length ms) t o → Answers ms ends [] 0 u t o
    by t u less None (absent none) = record {
      found = None;
      finds = nothing;
      right = none_known (λ e de se ke. global e de se);
    }
      where
        global : (e : ℕ) → DeclaresAt ms e t → IsSeen ms 0 e → ⊥
        global e de (inl x) = omega arith
        global e de (inr x) = none e (slice_get_within ms e _ de.there) de x
    by t u less (Some d) (first dk dd whole all) = record {
      found = Some d;
      finds = open_still (a.each d (slice_get_within ms d _ dd.there)) (omega arith);
      right = best dd (inr whole) (record { begun = inr whole; open_still = omega arith }) (λ e de se ke. within e de se);
    }
      where
        within : (e : ℕ) → DeclaresAt ms e t → IsSeen ms 0 e → IsWithin ms d e
        within e de (inl x) = absurd (omega arith)
        within e de (inr x) = inr (whole ∙ sym x, all e (slice_get_within ms e _ de.there) de x)

pub no_globals : (ms : List Mark) (latest : List ℕ → Option ℕ) → ((t : List ℕ) → latest t ≡ None) → HasGlobals ms latest 0
no_globals ms latest none = record { each = λ t. subst (FirstGlobal ms 0 t) (sym (none t)) (absent (λ e h d g. omega arith)) }

-- a mark that declares nothing that is known in the whole text, or what is kept already
pub one_more : (ms : List Mark) (k : ℕ) (t : List ℕ) (o : Option ℕ) → (DeclaresAt ms k t → end_of ms k ≡ length ms → ((d : ℕ) → o ≡ Some d → d ≤ k) × (o ≡ None → ⊥)) → FirstGlobal ms k t o → FirstGlobal ms (k + 1) t o
one_more ms k t o skip (first {d = d} dk dd whole all) = first (omega arith) dd whole (λ e h de we. by e de we (below_or_at e k h))
  where
    by : (e : ℕ) → DeclaresAt ms e t → end_of ms e ≡ length ms → (e < k) ⊎ (e ≡ k) → d ≤ e
    by e de we (inl h) = all e h de we
    by e de we (inr q) = let x = (skip (subst (λ (y : ℕ). DeclaresAt ms y t) q de) (ap (end_of ms) (sym q) ∙ we)).0 d refl in omega arith
one_more ms k t o skip (absent none) = absent (λ e h de we. by e de we (below_or_at e k h))
  where
    by : (e : ℕ) → DeclaresAt ms e t → end_of ms e ≡ length ms → (e < k) ⊎ (e ≡ k) → ⊥
    by e de we (inl h) = none e h de we
    by e de we (inr q) = (skip (subst (λ (y : ℕ). DeclaresAt ms y t) q de) (ap (end_of ms) (sym q) ∙ we)).1 refl

pub no_some : {A B : Type 0} (r : Option A) (f : A → B) (s : Option B) → ((x : A) → r ≡ Some x → ⊥) → option_map f r ≡ s → s ≡ None
no_some None f s h e = sym e
no_some (Some x) f s h e = absurd (h x refl)

pub some_some : {A B : Type 0} (r : Option A) (f : A → B) (s : Option B) (x : A) → r ≡ Some x → option_map f r ≡ s → s ≡ Some (f x)
some_some r f s x e g = sym g ∙ ap (option_map f) e

pub mark_at : (ms : List Mark) (i : ℕ) (m : Mark) → m ≡ get_or ms i m → i < length ms → slice_get ms i ≡ Some m
mark_at ms i m e h = slice_get_read ms (length ms) i m refl h e

-- the walk over a mark, by what it keeps
module _ (ms : List Mark) (ends : List ℕ) (latest : List ℕ → Option ℕ) (outer meant : List (Option ℕ)) (i : ℕ) (m : Mark) (w : HasRead ms ends latest outer meant i) (there : slice_get ms i ≡ Some m) where
  pub over_none : (o n : List (Option ℕ)) → spelling_of m ≡ None → o ≡ outer ++ None ∷ [] → n ≡ meant ++ None ∷ [] → HasRead ms ends latest o n (i + 1)
  over_none o n e f g = rw (f, g) (pass ms ends latest outer meant i w (λ s k. clash s (sym e ∙ ap spelling_of (some_same m k.mark (sym there ∙ k.there)) ∙ k.spelled)))
    where
      clash : (s : List ℕ) → None ≡ Some s → ⊥
      clash s q = cc

  pub can_find : (t : List ℕ) (from : Option ℕ) (o : List (Option ℕ)) → from ≡ latest t → o ≡ outer → IsFound ends o i from
  can_find t from o e f =
      let a = w.finds t i (omega arith) (slice_get_within ms i m there) in
      rw (e, f) (record { found = a.found; finds = a.finds })

  module _ (t : List ℕ) (spelled : spelling_of m ≡ Some t) (found from : Option ℕ) (o : List (Option ℕ)) (from_is : from ≡ latest t) (o_is : o ≡ outer) (finds : Finds ends o i from found) where
    it_finds : Finds ends outer i (latest t) found
    it_finds = subst (λ (x : List (Option ℕ)). Finds ends x i (latest t) found) o_is (subst (λ (x : Option ℕ). Finds ends o i x found) from_is finds)

    its_answer : Answer ms i i t found
    its_answer = found_here ms ends latest outer meant i t found w (slice_get_within ms i m there) it_finds

    pub finds_inside : (d : ℕ) → found ≡ Some d → d < length ms
    finds_inside = found_inside ms i i t found its_answer

    pub over_new : (new : List ℕ → Option ℕ) (p n : List (Option ℕ)) → adds_one m ends i found ≡ true → new t ≡ Some i → ((s : List ℕ) → (s ≡ t → ⊥) → new s ≡ latest s) → p ≡ outer ++ found ∷ [] → n ≡ meant ++ Some i ∷ [] → HasRead ms ends new p n (i + 1)
    over_new new p n h here others f g =
        let x : IsNew ms i t found = is_new ms ends i m t found w.are_ends there spelled finds_inside h in
        rw (f, g) (declare ms ends latest new outer meant i t found w x.decl x.local it_finds x.alone here others)

    pub over_old : (p n : List (Option ℕ)) → adds_one m ends i found ≡ false → p ≡ outer ++ None ∷ [] → n ≡ meant ++ found ∷ [] → HasRead ms ends latest p n (i + 1)
    over_old p n h f g = rw (f, g) (look_up ms ends latest outer meant i t found w (record { mark = m; there = there; spelled = spelled }) it_finds (adds_none ms ends i m t found w.are_ends there finds_inside h))

-- at the end the meanings of all names are kept
pub all_read : (ms : List Mark) (ends : List ℕ) (latest : List ℕ → Option ℕ) (outer meant : List (Option ℕ)) (i : ℕ) → i ≡ length ms → HasRead ms ends latest outer meant i → AreMeanings ms meant
all_read ms ends latest outer meant i e w = record { one_each = w.count ∙ e; each = λ j t k. w.each j t (inside (slice_get_within ms j k.mark k.there) e) k }
  where
    inside : {a b c : ℕ} → a < b → c ≡ b → a < c
    inside h g = omega arith

-- the walk over a mark, by what it keeps of those that are known in the whole text
module _ (ms : List Mark) (ends : List ℕ) (latest : List ℕ → Option ℕ) (i : ℕ) (m : Mark) (are : AreEnds ms ends) (there : slice_get ms i ≡ Some m) (g : HasGlobals ms latest i) where
  named : (t : List ℕ) → DeclaresAt ms i t → declared_by m ≡ Some t
  named t d = ap declared_by (some_same m _ (sym there ∙ d.there)) ∙ ap Some d.spelled

  pub global_none : declared_by m ≡ None → HasGlobals ms latest (i + 1)
  global_none e = record { each = λ t. one_more ms i t (latest t) (λ d we. absurd (clash t (sym e ∙ named t d))) (g.each t) }
    where
      clash : (s : List ℕ) → None ≡ Some s → ⊥
      clash s q = cc

  pub global_inner : get_or ends i 0 < length ms → HasGlobals ms latest (i + 1)
  global_inner h = record { each = λ t. one_more ms i t (latest t) (λ d we. absurd (away we (end_read ms ends i are (slice_get_within ms i m there)) h)) (g.each t) }
    where
      away : {a b c : ℕ} → a ≡ c → b ≡ a → b < c → ⊥
      away p q r = omega arith

  -- what is kept stands before
  kept_before : (t : List ℕ) (o : Option ℕ) → FirstGlobal ms i t o → (d : ℕ) → o ≡ Some d → d ≤ i
  kept_before t o (first {d = x} dk dd whole all) d e = let q : x ≡ d = some_same x d e in omega arith
  kept_before t o (absent none) d e = absurd (cc)

  module _ (t : List ℕ) (declared : declared_by m ≡ Some t) where
    one_declared : (s : List ℕ) → DeclaresAt ms i s → s ≡ t
    one_declared s d = some_same s t (sym (named s d) ∙ declared)

    pub global_again : (d : ℕ) → latest t ≡ Some d → HasGlobals ms latest (i + 1)
    global_again d e = record { each = λ s. one_more ms i s (latest s) (λ x we. by s (one_declared s x)) (g.each s) }
      where
        clash : latest t ≡ None → ⊥
        clash q = cc

        by : (s : List ℕ) → s ≡ t → ((d : ℕ) → latest s ≡ Some d → d ≤ i) × (latest s ≡ None → ⊥)
        by s q = (kept_before s (latest s) (g.each s), λ z. clash (ap latest (sym q) ∙ z))

    pub global_new : (new : List ℕ → Option ℕ) → length ms ≤ get_or ends i 0 → latest t ≡ None → new t ≡ Some i → ((s : List ℕ) → (s ≡ t → ⊥) → new s ≡ latest s) → HasGlobals ms new (i + 1)
    global_new new long e kept others = record { each = λ s. each_spelling s t (λ (x : List ℕ). FirstGlobal ms (i + 1) x (new x)) (subst (FirstGlobal ms (i + 1) t) (sym kept) (it_is (latest t) e (g.each t))) (λ differ. subst (FirstGlobal ms (i + 1) s) (sym (others s differ)) (one_more ms i s (latest s) (λ x we. absurd (differ (one_declared s x))) (g.each s))) }
      where
        less : i < length ms
        less = slice_get_within ms i m there

        short : i ≤ length ms
        short = let h = less in omega arith

        whole : end_of ms i ≡ length ms
        whole = let h = end_read ms ends i are less in let k = end_within ms i short in omega arith

        it_is : (o : Option ℕ) → o ≡ None → FirstGlobal ms i t o → FirstGlobal ms (i + 1) t (Some i)
        it_is o q (first dk dd w all) = absurd (cc)
        it_is o q (absent none) = first (omega arith) (declares_here ms i m t there declared) whole (λ x h dx wx. by x h dx wx (below_or_at x i h))
          where
            by : (x : ℕ) → x < i + 1 → DeclaresAt ms x t → end_of ms x ≡ length ms → (x < i) ⊎ (x ≡ i) → i ≤ x
            by x h dx wx (inl y) = absurd (none x y dx wx)
            by x h dx wx (inr y) = omega arith
