-- The search along calls from one function.
use Rattle.std.proofs.Common.{◌≡◌, ℕ, ◌+◌, ◌-◌, ◌<◌, ◌≤◌, ◌^◌, ◌⊎◌, inl, inr, Bool, true, false, nat_eq, if◌then◌else◌, List, [], ◌∷◌, ◌++◌, length, get_or, slice_get, Contains, Option, None, Some, refl, sym, ap, subst, ◌∙◌, arith}
use Rattle.std.specs.List.{list_any, IsDistinct}
use Rattle.std.proofs.lemmas.Bool.Decides.{nat_tests}
use Rattle.std.proofs.lemmas.Bool.{cases_lt}
use Rattle.std.proofs.lemmas.Option.{slice_get-get_or, slice_get_read, slice_get_within}
use Rattle.indexmap.specs.IndexSet.{insert_key}
use Rattle.indexmap.proofs.CallerLemmas.{Contains-insert_key, Contains-list_any}
use Rattle.std.proofs.lemmas.Map.Steps.{length-le_from_distinct_below}
use Rattle.xw_words.proofs.Lists.{below_or_at, push_before, pushed, some_same}
use Rattle.xw_words.specs.declared.pos.Pos.{Pos}
use Rattle.xw_words.specs.declared.pos.Broken.{Broken}
use Rattle.xc_tree.specs.declared.names.Mark.{Mark}
use Rattle.xc_names.specs.declared.calls.Call.{Call}
use Rattle.xc_tree.specs.Least.{IsLeastOf, first_of}
use Rattle.xc_names.specs.Callees.{called_at, declared_function, IsCall, FoundCall, a_call, no_call}
use Rattle.xc_names.specs.Searches.{Has, IsStep, IsCallBefore, IsBackBefore, Adds, AreBounds, IsNext, IsBackIn, AddsNext, IsReached, itself, further, IsBackTo, IsBackToOne, back_of}
use Rattle.xc_tree.proofs.Leasts.{either, of_same, none_broken, one_broken}

equal : (x y : ℕ) → nat_eq x y ≡ true → x ≡ y
equal x y e = grind (arith, nat_tests)

unequal : (x y : ℕ) → nat_eq x y ≡ false → x ≡ y → ⊥
unequal x y e = grind (arith, nat_tests)

module _ (ks : List ℕ) (h : ℕ) where
  inserted : (b : Bool) → list_any (nat_eq h) ks ≡ b → insert_key nat_eq ks h ≡ (if b then ks else ks ++ h ∷ [])
  inserted b e = ap (λ c. if c then ks else ks ++ h ∷ []) e

  insert_keeps : (j x : ℕ) → slice_get ks j ≡ Some x → slice_get (insert_key nat_eq ks h) j ≡ Some x
  insert_keeps j x e = by (list_any (nat_eq h) ks) refl
    where
      by : (b : Bool) → list_any (nat_eq h) ks ≡ b → slice_get (insert_key nat_eq ks h) j ≡ Some x
      by true q = ap (λ (xs : List ℕ). slice_get xs j) (inserted true q) ∙ e
      by false q = ap (λ (xs : List ℕ). slice_get xs j) (inserted false q) ∙ push_before ks h j (slice_get_within ks j x e) ∙ e

  insert_has : Has (insert_key nat_eq ks h) h
  insert_has = by (Contains-insert_key nat_eq equal ks h)
    where
      by : Contains (insert_key nat_eq ks h) h → Has (insert_key nat_eq ks h) h
      by (k, less, e) = record { place = k; there = slice_get_read (insert_key nat_eq ks h) (length (insert_key nat_eq ks h)) k h refl less (sym e) }

  insert_only : (x : ℕ) → Has (insert_key nat_eq ks h) x → Has ks x ⊎ (h ≡ x)
  insert_only x g = by (list_any (nat_eq h) ks) refl
    where
      split : (slice_get ks g.place ≡ Some x) ⊎ ((g.place ≡ length ks) × (h ≡ x)) → Has ks x ⊎ (h ≡ x)
      split (inl e) = inl (record { place = g.place; there = e })
      split (inr e) = inr e.1

      by : (b : Bool) → list_any (nat_eq h) ks ≡ b → Has ks x ⊎ (h ≡ x)
      by true q = inl (record { place = g.place; there = ap (λ (xs : List ℕ). slice_get xs g.place) (sym (inserted true q)) ∙ g.there })
      by false q = split (pushed ks h x g.place (ap (λ (xs : List ℕ). slice_get xs g.place) (sym (inserted false q)) ∙ g.there))

module _ (ms : List Mark) (meant : List (Option ℕ)) where
  -- one place has at most one call
  pub one_call : (u : ℕ) (p q : Pos) (g h : ℕ) → IsCall ms meant u p g → IsCall ms meant u q h → (p ≡ q) × (g ≡ h)
  one_call u p q g h a b =
      let marks : a.mark ≡ b.mark = some_same _ _ (sym a.there ∙ b.there) in
      let places : a.place ≡ b.place = some_same _ _ (some_same _ _ (sym a.means ∙ b.means)) in
      let declarations : a.declaration ≡ b.declaration = some_same _ _ (sym a.declared ∙ ap (slice_get ms) places ∙ b.declared) in
      (some_same p q (sym a.called ∙ ap called_at marks ∙ b.called), some_same g h (sym a.function ∙ ap declared_function declarations ∙ b.function))

  only_here : (u x : ℕ) → u ≤ x → x < u + 1 → u ≡ x
  only_here u x h g = omega arith

  none_before : (from h : ℕ) → IsCallBefore ms meant from from h → ⊥
  none_before from h c = let a = c.behind in let b = c.before in omega arith

  -- one place
  pub adds_none : (u : ℕ) (ks : List ℕ) → FoundCall ms meant u None → Adds ms meant u (u + 1) ks ks
  adds_none u ks (no_call none) = record {
    keeps = λ j x e. e;
    only = λ x h. inl h;
    all = λ x c. absurd (none c.pos x (subst (λ (y : ℕ). IsCall ms meant y c.pos x) (sym (only_here u c.place c.behind c.before)) c.call));
    small = λ s x h. s x h;
  }

  pub back_none : (u g : ℕ) → FoundCall ms meant u None → IsLeastOf (IsBackBefore ms meant u (u + 1) g) None
  back_none u g (no_call none) = none_broken (IsBackBefore ms meant u (u + 1) g) (λ b c. none c.pos g (subst (λ (y : ℕ). IsCall ms meant y c.pos g) (sym (only_here u c.place c.behind c.before)) c.call))

  pub adds_one : (u : ℕ) (old new : List ℕ) (call : Call) → FoundCall ms meant u (Some call) → call.callee < 2 ^ 32 → new ≡ insert_key nat_eq old call.callee → Adds ms meant u (u + 1) old new
  adds_one u old new call (a_call c) less e = rw e (record {
    keeps = insert_keeps old call.callee;
    only = λ x h. by x (insert_only old call.callee x h);
    all = λ x d. subst (Has (insert_key nat_eq old call.callee)) (one_call u call.pos d.pos call.callee x c (subst (λ (y : ℕ). IsCall ms meant y d.pos x) (sym (only_here u d.place d.behind d.before)) d.call)).1 (insert_has old call.callee);
    small = λ s x h. bound s x (insert_only old call.callee x h);
  })
    where
      by : (x : ℕ) → Has old x ⊎ (call.callee ≡ x) → Has old x ⊎ IsCallBefore ms meant u (u + 1) x
      by x (inl h) = inl h
      by x (inr q) = inr (record { place = u; pos = call.pos; behind = omega arith; before = omega arith; call = subst (λ (y : ℕ). IsCall ms meant u call.pos y) q c })

      bound : ((x : ℕ) → Has old x → x < 2 ^ 32) → (x : ℕ) → Has old x ⊎ (call.callee ≡ x) → x < 2 ^ 32
      bound s x (inl h) = s x h
      bound s x (inr q) = subst (λ (y : ℕ). y < 2 ^ 32) q less

  pub back_one : (u g : ℕ) (call : Call) → FoundCall ms meant u (Some call) → IsLeastOf (IsBackBefore ms meant u (u + 1) g) (back_of call g)
  back_one u g call (a_call c) = by (nat_eq call.callee g) refl
    where
      here : (b : Broken) → (d : IsBackBefore ms meant u (u + 1) g b) → (call.pos ≡ d.pos) × (call.callee ≡ g)
      here b d = one_call u call.pos d.pos call.callee g c (subst (λ (y : ℕ). IsCall ms meant y d.pos g) (sym (only_here u d.place d.behind d.before)) d.call)

      by : (t : Bool) → nat_eq call.callee g ≡ t → IsLeastOf (IsBackBefore ms meant u (u + 1) g) (if nat_eq call.callee g then Some (record { rule = 304; pos = call.pos }) else None)
      by true e = rw e (one_broken (IsBackBefore ms meant u (u + 1) g) _ (record { place = u; pos = call.pos; behind = omega arith; before = omega arith; call = subst (λ (y : ℕ). IsCall ms meant u call.pos y) (equal call.callee g e) c; is = refl }) (λ b d. d.is ∙ ap (λ (p : Pos). record { rule = 304; pos = p }) (sym (here b d).0)))
      by false e = rw e (none_broken (IsBackBefore ms meant u (u + 1) g) (λ b d. unequal call.callee g e (here b d).1))

  -- places in a row
  pub adds_nothing : (from : ℕ) (ks : List ℕ) → Adds ms meant from from ks ks
  adds_nothing from ks = record { keeps = λ j x e. e; only = λ x h. inl h; all = λ x c. absurd (none_before from x c); small = λ s x h. s x h }

  pub adds_more : (from u : ℕ) (a b c : List ℕ) → from ≤ u → Adds ms meant from u a b → Adds ms meant u (u + 1) b c → Adds ms meant from (u + 1) a c
  adds_more from u a b c h x y = record {
    keeps = λ j z e. y.keeps j z (x.keeps j z e);
    only = λ z k. only z (y.only z k);
    all = λ z k. all z k (cases_lt k.place u);
    small = λ s z k. y.small (x.small s) z k;
  }
    where
      earlier : (z : ℕ) → Has a z ⊎ IsCallBefore ms meant from u z → Has a z ⊎ IsCallBefore ms meant from (u + 1) z
      earlier z (inl k) = inl k
      earlier z (inr k) = inr (record { place = k.place; pos = k.pos; behind = k.behind; before = let l = k.before in omega arith; call = k.call })

      only : (z : ℕ) → Has b z ⊎ IsCallBefore ms meant u (u + 1) z → Has a z ⊎ IsCallBefore ms meant from (u + 1) z
      only z (inl k) = earlier z (x.only z k)
      only z (inr k) = inr (record { place = k.place; pos = k.pos; behind = let l = k.behind in omega arith; before = k.before; call = k.call })

      kept : (z : ℕ) → Has b z → Has c z
      kept z k = record { place = k.place; there = y.keeps k.place z k.there }

      all : (z : ℕ) → (k : IsCallBefore ms meant from (u + 1) z) → (k.place < u) ⊎ (u ≤ k.place) → Has c z
      all z k (inl l) = kept z (x.all z (record { place = k.place; pos = k.pos; behind = k.behind; before = l; call = k.call }))
      all z k (inr l) = y.all z (record { place = k.place; pos = k.pos; behind = l; before = k.before; call = k.call })

  pub back_nothing : (from g : ℕ) → IsLeastOf (IsBackBefore ms meant from from g) None
  back_nothing from g = none_broken (IsBackBefore ms meant from from g) (λ b c. let x = c.behind in let y = c.before in omega arith)

  pub back_more : (from u g : ℕ) (best o : Option Broken) → from ≤ u → IsLeastOf (IsBackBefore ms meant from u g) best → IsLeastOf (IsBackBefore ms meant u (u + 1) g) o → IsLeastOf (IsBackBefore ms meant from (u + 1) g) (first_of best o)
  back_more from u g best o h x y = of_same (λ b. IsBackBefore ms meant from u g b ⊎ IsBackBefore ms meant u (u + 1) g b) (IsBackBefore ms meant from (u + 1) g) (first_of best o) to back (either (IsBackBefore ms meant from u g) (IsBackBefore ms meant u (u + 1) g) best o x y)
    where
      to : (b : Broken) → IsBackBefore ms meant from u g b ⊎ IsBackBefore ms meant u (u + 1) g b → IsBackBefore ms meant from (u + 1) g b
      to b (inl k) = record { place = k.place; pos = k.pos; behind = k.behind; before = let l = k.before in omega arith; call = k.call; is = k.is }
      to b (inr k) = record { place = k.place; pos = k.pos; behind = let l = k.behind in omega arith; before = k.before; call = k.call; is = k.is }

      back : (b : Broken) → IsBackBefore ms meant from (u + 1) g b → IsBackBefore ms meant from u g b ⊎ IsBackBefore ms meant u (u + 1) g b
      back b k = by (cases_lt k.place u)
        where
          by : (k.place < u) ⊎ (u ≤ k.place) → IsBackBefore ms meant from u g b ⊎ IsBackBefore ms meant u (u + 1) g b
          by (inl l) = inl (record { place = k.place; pos = k.pos; behind = k.behind; before = l; call = k.call; is = k.is })
          by (inr l) = inr (record { place = k.place; pos = k.pos; behind = l; before = k.before; call = k.call; is = k.is })

-- the places of an item so far
pub record InPass (ms : List Mark) (meant : List (Option ℕ)) (from u g : ℕ) (old new : List ℕ) (best : Option Broken) : Type 0 where
  pub onward : from ≤ u
  pub adds : Adds ms meant from u old new
  pub back : IsLeastOf (IsBackBefore ms meant from u g) best

pub pass_begins : (ms : List Mark) (meant : List (Option ℕ)) (from g : ℕ) (ks : List ℕ) → InPass ms meant from from g ks ks None
pass_begins ms meant from g ks = record { onward = omega arith; adds = adds_nothing ms meant from ks; back = back_nothing ms meant from g }

pub pass_on : (ms : List Mark) (meant : List (Option ℕ)) (from u g : ℕ) (old new newer : List ℕ) (best o : Option Broken) → InPass ms meant from u g old new best → Adds ms meant u (u + 1) new newer → IsLeastOf (IsBackBefore ms meant u (u + 1) g) o → InPass ms meant from (u + 1) g old newer (first_of best o)
pass_on ms meant from u g old new newer best o p a b = record {
  onward = let h = p.onward in omega arith;
  adds = adds_more ms meant from u old new newer p.onward p.adds a;
  back = back_more ms meant from u g best o p.onward p.back b;
}

module _ (ms : List Mark) (meant : List (Option ℕ)) (starts : List ℕ) (n f first end : ℕ) (bounds : AreBounds starts n f first end) where
  step_of : (u : ℕ) (p : Pos) (h : ℕ) → first ≤ u → u < end → IsCall ms meant u p h → IsStep ms meant starts f u p h
  step_of u p h a b c = record { inside = bounds.of_body u a b; call = c }

  pub passed_adds : (old new : List ℕ) → Adds ms meant first end old new → AddsNext ms meant starts f old new
  passed_adds old new a = record {
    keeps = a.keeps;
    only = λ x h. by x (a.only x h);
    all = λ x h. let i = bounds.inside h.place h.step.inside in a.all x (record { place = h.place; pos = h.pos; behind = i.0; before = i.1; call = h.step.call });
    small = a.small;
  }
    where
      by : (x : ℕ) → Has old x ⊎ IsCallBefore ms meant first end x → Has old x ⊎ IsNext ms meant starts f x
      by x (inl h) = inl h
      by x (inr h) = inr (record { place = h.place; pos = h.pos; step = step_of h.place h.pos x h.behind h.before h.call })

  pub passed_back : (g : ℕ) (best : Option Broken) → IsLeastOf (IsBackBefore ms meant first end g) best → IsLeastOf (IsBackIn ms meant starts g f) best
  passed_back g best l = of_same (IsBackBefore ms meant first end g) (IsBackIn ms meant starts g f) best
      (λ b k. record { place = k.place; pos = k.pos; step = step_of k.place k.pos g k.behind k.before k.call; is = k.is })
      (λ b k. let i = bounds.inside k.place k.step.inside in record { place = k.place; pos = k.pos; behind = i.0; before = i.1; call = k.step.call; is = k.is })
      l

-- a call of g in one of the first items of a list
pub record IsBackAmong (ms : List Mark) (meant : List (Option ℕ)) (starts : List ℕ) (g next : ℕ) (ks : List ℕ) (b : Broken) : Type 0 where
  pub order : ℕ
  pub item : ℕ
  pub before : order < next
  pub there : slice_get ks order ≡ Some item
  pub back : IsBackIn ms meant starts g item b

-- the first items of a list are passed
pub record InSearch (ms : List Mark) (meant : List (Option ℕ)) (starts : List ℕ) (g next : ℕ) (ks : List ℕ) (best : Option Broken) : Type 0 where
  pub rooted : Has ks g
  pub reached : (x : ℕ) → Has ks x → IsReached ms meant starts g x
  pub small : (x : ℕ) → Has ks x → x < 2 ^ 32
  pub within : next ≤ length ks
  pub closed : (j f x : ℕ) → j < next → slice_get ks j ≡ Some f → IsNext ms meant starts f x → Has ks x
  pub least : IsLeastOf (IsBackAmong ms meant starts g next ks) best

pub search_begins : (ms : List Mark) (meant : List (Option ℕ)) (starts : List ℕ) (g : ℕ) (empty ks : List ℕ) → g < 2 ^ 32 → empty ≡ [] → ks ≡ insert_key nat_eq empty g → InSearch ms meant starts g 0 ks None
search_begins ms meant starts g empty ks less e f = rw (f, e) (record {
  rooted = record { place = 0; there = refl };
  reached = λ x h. subst (IsReached ms meant starts g) (it_is x h) itself;
  small = λ x h. subst (λ (y : ℕ). y < 2 ^ 32) (it_is x h) less;
  within = omega arith;
  closed = λ j f' x h. absurd (omega arith);
  least = none_broken (IsBackAmong ms meant starts g 0 (g ∷ [])) (λ b k. let h = k.before in omega arith);
})
  where
    it_is : (x : ℕ) → Has (g ∷ []) x → g ≡ x
    it_is x h = by h.place (slice_get_within (g ∷ []) h.place x h.there) h.there
      where
        zero_only : (k : ℕ) → k < 1 → k ≡ 0
        zero_only k l = omega arith

        by : (k : ℕ) → k < 1 → slice_get (g ∷ []) k ≡ Some x → g ≡ x
        by k l q = some_same g x (subst (λ (i : ℕ). slice_get (g ∷ []) i ≡ Some x) (zero_only k l) q)

pub search_on : (ms : List Mark) (meant : List (Option ℕ)) (starts : List ℕ) (g next f : ℕ) (ks new : List ℕ) (best o : Option Broken) → InSearch ms meant starts g next ks best → slice_get ks next ≡ Some f → AddsNext ms meant starts f ks new → IsLeastOf (IsBackIn ms meant starts g f) o → InSearch ms meant starts g (next + 1) new (first_of best o)
search_on ms meant starts g next f ks new best o s e a l = record {
  rooted = kept g s.rooted;
  reached = λ x h. reach x (a.only x h);
  small = a.small s.small;
  within = let h = slice_get_within new next f (a.keeps next f e) in omega arith;
  closed = λ j y x h q k. close j y x q k (below_or_at j next h);
  least = of_same (λ b. IsBackAmong ms meant starts g next ks b ⊎ IsBackIn ms meant starts g f b) (IsBackAmong ms meant starts g (next + 1) new) (first_of best o) to back (either (IsBackAmong ms meant starts g next ks) (IsBackIn ms meant starts g f) best o s.least l);
}
  where
    kept : (x : ℕ) → Has ks x → Has new x
    kept x h = record { place = h.place; there = a.keeps h.place x h.there }

    reach : (x : ℕ) → Has ks x ⊎ IsNext ms meant starts f x → IsReached ms meant starts g x
    reach x (inl h) = s.reached x h
    reach x (inr h) = further (s.reached f (record { place = next; there = e })) h

    -- what stands early in the longer list stands there in the shorter
    early : (j y : ℕ) → j < next → slice_get new j ≡ Some y → slice_get ks j ≡ Some y
    early j y h q =
        let less : j < length ks = let w = s.within in omega arith in
        let r = slice_get-get_or ks j 0 less in
        r ∙ ap Some (some_same _ y (sym (a.keeps j (get_or ks j 0) r) ∙ q))

    at_next : (y : ℕ) → slice_get new next ≡ Some y → f ≡ y
    at_next y q = some_same f y (sym (a.keeps next f e) ∙ q)

    close : (j y x : ℕ) → slice_get new j ≡ Some y → IsNext ms meant starts y x → (j < next) ⊎ (j ≡ next) → Has new x
    close j y x q k (inl h) = kept x (s.closed j y x h (early j y h q) k)
    close j y x q k (inr h) = a.all x (subst (λ (z : ℕ). IsNext ms meant starts z x) (sym (at_next y (subst (λ (i : ℕ). slice_get new i ≡ Some y) h q))) k)

    to : (b : Broken) → IsBackAmong ms meant starts g next ks b ⊎ IsBackIn ms meant starts g f b → IsBackAmong ms meant starts g (next + 1) new b
    to b (inl k) = record { order = k.order; item = k.item; before = let h = k.before in omega arith; there = a.keeps k.order k.item k.there; back = k.back }
    to b (inr k) = record { order = next; item = f; before = omega arith; there = a.keeps next f e; back = k }

    back : (b : Broken) → IsBackAmong ms meant starts g (next + 1) new b → IsBackAmong ms meant starts g next ks b ⊎ IsBackIn ms meant starts g f b
    back b k = by (below_or_at k.order next k.before)
      where
        by : (k.order < next) ⊎ (k.order ≡ next) → IsBackAmong ms meant starts g next ks b ⊎ IsBackIn ms meant starts g f b
        by (inl h) = inl (record { order = k.order; item = k.item; before = h; there = early k.order k.item h k.there; back = k.back })
        by (inr h) = inr (subst (λ (z : ℕ). IsBackIn ms meant starts g z b) (sym (at_next k.item (subst (λ (i : ℕ). slice_get new i ≡ Some k.item) h k.there))) k.back)

pub all_searched : (ms : List Mark) (meant : List (Option ℕ)) (starts : List ℕ) (g next : ℕ) (ks : List ℕ) (best : Option Broken) → length ks ≤ next → InSearch ms meant starts g next ks best → IsLeastOf (IsBackTo ms meant starts g) best
all_searched ms meant starts g next ks best h s = of_same (IsBackAmong ms meant starts g next ks) (IsBackTo ms meant starts g) best to back s.least
  where
    before : {j n m : ℕ} → j < n → n ≤ m → j < m
    before x y = omega arith

    complete : (x : ℕ) → IsReached ms meant starts g x → Has ks x
    complete x itself = s.rooted
    complete x (further {f = f} r k) =
        let i = complete f r in
        s.closed i.place f x (before (slice_get_within ks i.place f i.there) h) i.there k

    to : (b : Broken) → IsBackAmong ms meant starts g next ks b → IsBackTo ms meant starts g b
    to b k = record { item = k.item; reached = s.reached k.item (record { place = k.order; there = k.there }); back = k.back }

    back : (b : Broken) → IsBackTo ms meant starts g b → IsBackAmong ms meant starts g next ks b
    back b k =
        let i = complete k.item k.reached in
        record { order = i.place; item = k.item; before = before (slice_get_within ks i.place k.item i.there) h; there = i.there; back = k.back }

-- the item to pass next
pub next_item : (ks : List ℕ) (next f : ℕ) → f ≡ get_or ks next 0 → next < length ks → slice_get ks next ≡ Some f
next_item ks next f e h = slice_get-get_or ks next 0 h ∙ ap Some (sym e)

-- what a set has that passes the test
of_any : (ks : List ℕ) (q : ℕ) → list_any (nat_eq q) ks ≡ true → Has ks q
of_any ks q e = by (Contains-list_any nat_eq equal ks q e)
  where
    by : Contains ks q → Has ks q
    by (k, less, f) = record { place = k; there = slice_get_read ks (length ks) k q refl less (sym f) }

-- there are fewer functions than words
pub few : (ms : List Mark) (meant : List (Option ℕ)) (starts : List ℕ) (g next : ℕ) (ks : List ℕ) (best : Option Broken) → InSearch ms meant starts g next ks best → IsDistinct nat_eq ks → length ks ≤ 2 ^ 32
few ms meant starts g next ks best s d = length-le_from_distinct_below ks (2 ^ 32) d (λ q e. s.small q (of_any ks q e))

pub one_less : (n k : ℕ) → n < k → k ≤ 2 ^ 32 → 2 ^ 32 - (n + 1) < 2 ^ 32 - n
one_less n k h g = omega arith

pub no_goal : (ms : List Mark) (meant : List (Option ℕ)) (starts : List ℕ) → IsLeastOf (IsBackToOne ms meant starts 0) None
no_goal ms meant starts = none_broken (IsBackToOne ms meant starts 0) (λ b k. let h = k.before in omega arith)

pub next_goal : (ms : List Mark) (meant : List (Option ℕ)) (starts : List ℕ) (g : ℕ) (best o : Option Broken) → IsLeastOf (IsBackToOne ms meant starts g) best → IsLeastOf (IsBackTo ms meant starts g) o → IsLeastOf (IsBackToOne ms meant starts (g + 1)) (first_of best o)
next_goal ms meant starts g best o x y = of_same (λ b. IsBackToOne ms meant starts g b ⊎ IsBackTo ms meant starts g b) (IsBackToOne ms meant starts (g + 1)) (first_of best o) to back (either (IsBackToOne ms meant starts g) (IsBackTo ms meant starts g) best o x y)
  where
    to : (b : Broken) → IsBackToOne ms meant starts g b ⊎ IsBackTo ms meant starts g b → IsBackToOne ms meant starts (g + 1) b
    to b (inl k) = record { goal = k.goal; before = let h = k.before in omega arith; back = k.back }
    to b (inr k) = record { goal = g; before = omega arith; back = k }

    back : (b : Broken) → IsBackToOne ms meant starts (g + 1) b → IsBackToOne ms meant starts g b ⊎ IsBackTo ms meant starts g b
    back b k = by (below_or_at k.goal g k.before)
      where
        by : (k.goal < g) ⊎ (k.goal ≡ g) → IsBackToOne ms meant starts g b ⊎ IsBackTo ms meant starts g b
        by (inl h) = inl (record { goal = k.goal; before = h; back = k.back })
        by (inr h) = inr (subst (λ (z : ℕ). IsBackTo ms meant starts z b) h k.back)
