-- All calls are edges of the graph, and numbers that never rise along an edge show where no cycle is.
use Rattle.std.proofs.Common.{◌≡◌, ℕ, ◌+◌, ◌<◌, ◌≤◌, ◌⊎◌, inl, inr, Bool, true, false, not, nat_eq, List, [], ◌∷◌, ◌++◌, length, get_or, slice_get, Option, None, Some, refl, sym, ap, subst, ◌∙◌, arith}
use Rattle.std.proofs.lemmas.Bool.Decides.{nat_tests}
use Rattle.std.proofs.lemmas.Option.{slice_get_read, slice_get_within}
use Rattle.xw_words.proofs.Lists.{below_or_at, push_at, push_before, some_same}
use Rattle.xw_words.specs.declared.pos.Pos.{Pos}
use Rattle.xw_words.specs.declared.pos.Broken.{Broken}
use Rattle.xc_tree.specs.declared.names.Mark.{Mark}
use Rattle.xc_tree.specs.Lexes.{IsNotAfter}
use Rattle.xc_names.specs.declared.calls.Call.{Call}
use Rattle.xc_names.specs.declared.graph.Edge.{Edge}
use Rattle.xc_tree.specs.Least.{IsLeastOf, comes_before}
use Rattle.xc_names.specs.Callees.{IsCall, FoundCall, a_call, no_call}
use Rattle.xc_names.specs.Searches.{IsStep, AreBounds, IsReached, itself, further, IsBackTo, IsBackToOne}
use Rattle.xc_names.specs.Graphs.{HasEdge, IsLonger, HasCall, HasCalls, number_in, NeverRises, rule_at, IsNotLater, IsFirstLevel, first_edge, level_edge, no_later}
use Rattle.xc_tree.proofs.Leasts.{before, not_before, not_after_self, not_after_trans, none_broken}
use Rattle.xc_names.proofs.Searches.{one_call}

abbrev an_edge : ℕ → ℕ → Pos → Edge
an_edge f h p = record { caller = f; callee = h; pos = p }

pub edge_at : (edges : List Edge) (i : ℕ) (e : Edge) → e ≡ get_or edges i e → i < length edges → slice_get edges i ≡ Some e
edge_at edges i e q h = slice_get_read edges (length edges) i e refl h q

pub longer_self : (edges : List Edge) → IsLonger edges edges
longer_self edges f h p x = x

pub longer_push : (edges new : List Edge) (e : Edge) → new ≡ edges ++ e ∷ [] → IsLonger edges new
longer_push edges new e q f h p x = rw q (record { place = x.place; there = push_before edges e x.place (slice_get_within edges x.place _ x.there) ∙ x.there })

module _ (ms : List Mark) (meant : List (Option ℕ)) (f u : ℕ) where
  pub none_there : (edges : List Edge) → FoundCall ms meant u None → HasCall ms meant f u edges
  none_there edges (no_call none) h p c = absurd (none p h c)

  pub one_there : (edges new : List Edge) (call : Call) → FoundCall ms meant u (Some call) → new ≡ edges ++ an_edge f call.callee call.pos ∷ [] → HasCall ms meant f u new
  one_there edges new call (a_call k) q h p c =
      let same = one_call ms meant u call.pos p call.callee h k c in
      rw q (record { place = length edges; there = push_at edges (an_edge f call.callee call.pos) (length edges) refl ∙ ap Some (edge call.callee h call.pos p same.1 same.0) })
    where
      edge : (a b : ℕ) (x y : Pos) → a ≡ b → x ≡ y → an_edge f a x ≡ an_edge f b y
      edge a b x y e g = λ j. record { caller = f; callee = e j; pos = g j }

-- the calls at the places of item f from one place up to another are among the edges, and so are those of the items before
pub record InItem (ms : List Mark) (meant : List (Option ℕ)) (starts : List ℕ) (f first u : ℕ) (edges : List Edge) : Type 0 where
  pub onward : first ≤ u
  pub before : HasCalls ms meant starts f edges
  pub here : (v : ℕ) → first ≤ v → v < u → HasCall ms meant f v edges

module _ (ms : List Mark) (meant : List (Option ℕ)) (starts : List ℕ) where
  pub no_item : (edges : List Edge) → HasCalls ms meant starts 0 edges
  no_item edges f u h p less s = absurd (omega arith)

  pub all_items : (k n : ℕ) (edges : List Edge) → n ≤ k → HasCalls ms meant starts k edges → HasCalls ms meant starts n edges
  all_items k n edges long h f u g p less s = h f u g p (omega arith) s

  pub item_begins : (f first : ℕ) (edges : List Edge) → HasCalls ms meant starts f edges → InItem ms meant starts f first first edges
  item_begins f first edges b = record { onward = omega arith; before = b; here = λ v x y. absurd (omega arith) }

  pub item_on : (f first u : ℕ) (edges new : List Edge) → InItem ms meant starts f first u edges → IsLonger edges new → HasCall ms meant f u new → InItem ms meant starts f first (u + 1) new
  item_on f first u edges new i longer c = record {
    onward = let h = i.onward in omega arith;
    before = λ g v h p less s. longer g h p (i.before g v h p less s);
    here = λ v x y. by v x (below_or_at v u y);
  }
    where
      by : (v : ℕ) → first ≤ v → (v < u) ⊎ (v ≡ u) → HasCall ms meant f v new
      by v x (inl y) h p k = longer f h p (i.here v x y h p k)
      by v x (inr e) h p k = c h p (subst (λ (w : ℕ). IsCall ms meant w p h) e k)

  pub item_ends : (n f first end u : ℕ) (edges : List Edge) → AreBounds starts n f first end → end ≤ u → InItem ms meant starts f first u edges → HasCalls ms meant starts (f + 1) edges
  item_ends n f first end u edges bounds long i g v h p less s = by (below_or_at g f less)
    where
      by : (g < f) ⊎ (g ≡ f) → HasEdge edges g h p
      by (inl l) = i.before g v h p l s
      by (inr e) =
          let t : IsStep ms meant starts f v p h = subst (λ (x : ℕ). IsStep ms meant starts x v p h) e s in
          let b = bounds.inside v t.inside in
          subst (λ (x : ℕ). HasEdge edges x h p) (sym e) (i.here v b.0 (let l = b.1 in omega arith) h p t.call)

  module _ (edges : List Edge) (numbers : List ℕ) (all : HasCalls ms meant starts (length starts) edges) (falls : NeverRises edges numbers (length edges)) where
    step_edge : (f u h : ℕ) (p : Pos) → IsStep ms meant starts f u p h → HasEdge edges f h p
    step_edge f u h p s = all f u h p (slice_get_within starts f s.inside.first s.inside.begins) s

    along : (f h : ℕ) (p : Pos) → HasEdge edges f h p → number_in numbers h ≤ number_in numbers f
    along f h p e = falls e.place _ (slice_get_within edges e.place _ e.there) e.there

    reached_below : (g x : ℕ) → IsReached ms meant starts g x → number_in numbers x ≤ number_in numbers g
    reached_below g x itself = omega arith
    reached_below g x (further {f = f} r k) =
        let a = reached_below g f r in
        let b = along f x k.pos (step_edge f k.place x k.pos k.step) in
        omega arith

    -- a call that comes back joins items of one number
    level_back : (g : ℕ) (b : Broken) (first : Option Edge) → IsFirstLevel edges numbers (length edges) first → IsBackTo ms meant starts g b → (a : Edge) × (first ≡ Some a) × IsNotAfter (rule_at a.pos) b
    level_back g b first l k =
        let e = step_edge k.item k.back.place g k.back.pos k.back.step in
        let down = along k.item g k.back.pos e in
        let up = reached_below g k.item k.reached in
        let z = l e.place _ (slice_get_within edges e.place _ e.there) e.there (omega arith) in
        (z.edge, z.is, subst (IsNotAfter (rule_at z.edge.pos)) (sym k.back.is) z.not_after)

    pub none_level : IsFirstLevel edges numbers (length edges) None → IsLeastOf (IsBackToOne ms meant starts (length starts)) None
    none_level l = none_broken (IsBackToOne ms meant starts (length starts)) (λ b k. by b (level_back k.goal b None l k.back))
      where
        by : (b : Broken) → (a : Edge) × (None ≡ Some a) × IsNotAfter (rule_at a.pos) b → ⊥
        by b (a, e, n) = clash a e
          where
            clash : (a : Edge) → None ≡ Some a → ⊥
            clash a e = cc

    pub one_level : (first : Edge) (found : Option Broken) → IsFirstLevel edges numbers (length edges) (Some first) → first.callee < length starts → IsLeastOf (IsBackTo ms meant starts first.callee) found → no_later found first.pos ≡ true → IsLeastOf (IsBackToOne ms meant starts (length starts)) found
    one_level first None l less least t = absurd (wrong t)
      where
        wrong : false ≡ true → ⊥
        wrong e = cc
    one_level first (Some c) l less least t = record {
      among = λ b e. record { goal = first.callee; before = less; back = least.among b e };
      least = λ b k. (c, refl, by b (level_back k.goal b (Some first) l k.back));
    }
      where
        flipped : (x : Bool) → not x ≡ true → x ≡ false
        flipped true e = absurd (cc)
        flipped false e = refl

        by : (b : Broken) → (a : Edge) × (Some first ≡ Some a) × IsNotAfter (rule_at a.pos) b → IsNotAfter c b
        by b (a, e, n) = not_after_trans c (rule_at first.pos) b (not_before (rule_at first.pos) c (flipped (comes_before (rule_at first.pos) c) t)) (subst (λ (x : Edge). IsNotAfter (rule_at x.pos) b) (sym (some_same first a e)) n)

-- along one more edge
pub rises_none : (edges : List Edge) (numbers : List ℕ) → NeverRises edges numbers 0
rises_none edges numbers i e less q = absurd (omega arith)

pub rises_on : (edges : List Edge) (numbers : List ℕ) (k : ℕ) (x : Edge) → NeverRises edges numbers k → slice_get edges k ≡ Some x → number_in numbers x.callee ≤ number_in numbers x.caller → NeverRises edges numbers (k + 1)
rises_on edges numbers k x r there h i e less q = by (below_or_at i k less)
  where
    by : (i < k) ⊎ (i ≡ k) → number_in numbers e.callee ≤ number_in numbers e.caller
    by (inl l) = r i e l q
    by (inr z) = subst (λ (y : Edge). number_in numbers y.callee ≤ number_in numbers y.caller) (some_same x e (sym there ∙ ap (slice_get edges) (sym z) ∙ q)) h

pub level_none : (edges : List Edge) (numbers : List ℕ) → IsFirstLevel edges numbers 0 None
level_none edges numbers i e less q s = absurd (omega arith)

keeps_first : (best : Option Edge) (x : Edge) (p : Pos) → IsNotLater best p → IsNotLater (first_edge best x) p
keeps_first None x p k = absurd (clash k.edge k.is)
  where
    clash : (a : Edge) → None ≡ Some a → ⊥
    clash a e = cc
keeps_first (Some a) x p k = by (comes_before (rule_at x.pos) (rule_at a.pos)) refl
  where
    old : IsNotAfter (rule_at a.pos) (rule_at p)
    old = subst (λ (y : Edge). IsNotAfter (rule_at y.pos) (rule_at p)) (sym (some_same a k.edge k.is)) k.not_after

    by : (t : Bool) → comes_before (rule_at x.pos) (rule_at a.pos) ≡ t → IsNotLater (first_edge (Some a) x) p
    by true e = rw e (record { edge = x; is = refl; not_after = not_after_trans (rule_at x.pos) (rule_at a.pos) (rule_at p) (before (rule_at x.pos) (rule_at a.pos) e) old })
    by false e = rw e (record { edge = a; is = refl; not_after = old })

own_first : (best : Option Edge) (x : Edge) → IsNotLater (first_edge best x) x.pos
own_first None x = record { edge = x; is = refl; not_after = not_after_self (rule_at x.pos) }
own_first (Some a) x = by (comes_before (rule_at x.pos) (rule_at a.pos)) refl
  where
    by : (t : Bool) → comes_before (rule_at x.pos) (rule_at a.pos) ≡ t → IsNotLater (first_edge (Some a) x) x.pos
    by true e = rw e (record { edge = x; is = refl; not_after = not_after_self (rule_at x.pos) })
    by false e = rw e (record { edge = a; is = refl; not_after = not_before (rule_at x.pos) (rule_at a.pos) e })

same_number : (a b : ℕ) → nat_eq a b ≡ true → a ≡ b
same_number a b e = grind (arith, nat_tests)

other_number : (a b : ℕ) → nat_eq a b ≡ false → a ≡ b → ⊥
other_number a b e = grind (arith, nat_tests)

pub level_on : (edges : List Edge) (numbers : List ℕ) (k : ℕ) (best : Option Edge) (x : Edge) → IsFirstLevel edges numbers k best → slice_get edges k ≡ Some x → IsFirstLevel edges numbers (k + 1) (level_edge numbers best x)
level_on edges numbers k best x l there i e less q s = by (nat_eq (number_in numbers x.caller) (number_in numbers x.callee)) refl (below_or_at i k less)
  where
    its : i ≡ k → x ≡ e
    its z = some_same x e (sym there ∙ ap (slice_get edges) (sym z) ∙ q)

    by : (t : Bool) → nat_eq (number_in numbers x.caller) (number_in numbers x.callee) ≡ t → (i < k) ⊎ (i ≡ k) → IsNotLater (level_edge numbers best x) e.pos
    by true g (inl h) = rw g (keeps_first best x e.pos (l i e h q s))
    by true g (inr z) = rw g (subst (λ (y : Edge). IsNotLater (first_edge best x) y.pos) (its z) (own_first best x))
    by false g (inl h) = rw g (l i e h q s)
    by false g (inr z) = absurd (other_number (number_in numbers x.caller) (number_in numbers x.callee) g (subst (λ (y : Edge). number_in numbers y.caller ≡ number_in numbers y.callee) (sym (its z)) s))
