-- Each branch that runs or waits stands in the transactions whose ends are among its items, and in
-- those in which the one stands that waits for it.
use Rattle.std.proofs.Common.{◌≡◌, ◌≢◌, ⊎_elim, ℕ, zero, suc, ◌+◌, ◌<◌, IsTrue, List, [], ◌∷◌, ◌++◌, length, Some, slice_get, slice_set, nat_eq, refl, sym, ap, subst, ◌∙◌, append-nil, true≢false, arith}
use Rattle.xs_instr.specs.declared.image.Stim.{Stim}
use Rattle.xc_kernel.specs.Plain as kernel
use Rattle.xc_meaning.specs.States.Items.{Item, does, ends, todo}
use Rattle.xc_meaning.specs.States.Branches.{Mode, runs, waits, ended, erred, Branch}
use Rattle.xc_meaning.specs.States.Worlds.{World}
use Rattle.xc_meaning.specs.Settings.Setting.{Setting}
use Rattle.xc_meaning.specs.Settings.Channels.{is_among}
use Rattle.xc_meaning.specs.Settings.Transactions.{without_innermost}
use Rattle.xc_meaning.specs.Settings.Par.{all_done}
use Rattle.xc_meaning.specs.Runs.{step_of, kernel_start}
use Rattle.xc_meaning.specs.Outline.{Becomes, goes, enters, exits, errs, ends_it, makes, Moved, ticked, stepped, joined}
use Rattle.xc_kernel.specs.Branches.{branches_of}
use Rattle.xc_invariants.specs.Tree.{IsChild, Above, directly, further, IsWaiting, IsForest}
use Rattle.xc_invariants.specs.Placed.{AnyBlock, AnyInside, ends_of, IfLively, WellPlaced, EachPlaced, IsPlaced}
use Rattle.xc_invariants.specs.Nested.{StandsInside, as_root, as_child, EachInside, EndIsBehind, its_own, above}
use Rattle.xc_meaning.proofs.Basics.{some_given, none_given, same_or_not, or_left, or_right, or_cases}
use Rattle.xc_invariants.proofs.Lookups.{Behind, itself, there, new, behind, within, at_itself, at_other, born}
use Rattle.xc_invariants.proofs.Trees.{waiting_is, running_waits_not, above_first, above_child, child_there, made_length}
use Rattle.xc_invariants.proofs.Pairs.{done_at}
use Rattle.xc_invariants.proofs.Starts.{start_at}
use Rattle.xc_invariants.proofs.Uses.{child_at}
use Rattle.xc_invariants.proofs.Placed.{lively_runs, among_append, left_stays, entered_stays, exited_stays, its_placed, its_ended, placed_begun, begins_placed}

-- of what runs or waits
and_lively : (m : Mode) {A : Type 0} (B : Type 0) → IfLively m A → (A → IfLively m B) → IfLively m B
and_lively runs B h f = f h
and_lively (waits from count) B h f = f h
and_lively ended B h f = tt
and_lively erred B h f = tt

all_lively : (m : Mode) {A : Type 0} → A → IfLively m A
all_lively runs h = h
all_lively (waits from count) h = h
all_lively ended h = tt
all_lively erred h = tt

if_lively : (m : Mode) {A B : Type 0} → (A → B) → IfLively m A → IfLively m B
if_lively runs f h = f h
if_lively (waits from count) f h = f h
if_lively ended f h = tt
if_lively erred f h = tt

-- A step leaves those in front of which the ends stand as they are.
module _ (s : Setting) (em : s.branch.mode ≡ runs) (w : WellPlaced AnyBlock AnyInside s.branch) (outer : List ℕ) (is : s.branch.inside ≡ ends_of s.branch.items ++ outer) where
  now_ends : (item : Item) (now : Branch) (more : List Branch) → s.branch.items ≡ item ∷ s.rest → Becomes s item now more → IfLively now.mode (now.inside ≡ ends_of now.items ++ outer)
  now_ends item now more ei (goes one items l) =
      let f = left_stays AnyBlock AnyInside s.rest one items l (its_placed AnyBlock AnyInside s one now more w ei) (its_ended AnyBlock AnyInside s one now more w ei) in
      lively_runs s.branch.mode _ em (is ∙ ap (λ i. ends_of i ++ outer) ei ∙ ap (λ e. e ++ outer) (sym f.ends))
  now_ends item now more ei (enters one c items l) =
      let f = entered_stays AnyBlock AnyInside s.rest one c items l (its_placed AnyBlock AnyInside s one now more w ei) (its_ended AnyBlock AnyInside s one now more w ei) in
      lively_runs s.branch.mode _ em (ap (λ i. c ∷ i) (is ∙ ap (λ i. ends_of i ++ outer) ei) ∙ ap (λ e. e ++ outer) (sym f.ends))
  now_ends item now more ei (exits one items l) =
      let f = exited_stays AnyBlock AnyInside s.rest one items l (its_placed AnyBlock AnyInside s one now more w ei) (its_ended AnyBlock AnyInside s one now more w ei) in
      lively_runs s.branch.mode _ em (ap without_innermost (is ∙ ap (λ i. ends_of i ++ outer) ei ∙ ap (λ e. e ++ outer) (sym f.ends)))
  now_ends item now more ei (errs one) = tt
  now_ends item now more ei ends_it = tt
  now_ends item now more ei (makes bs b others e) = is ∙ ap (λ i. ends_of i ++ outer) ei

-- no branch waits for itself, nor a running one for any
module _ (roots : ℕ) (bs : List Branch) (f : IsForest roots bs) where
  earlier : (m n : ℕ) → IsChild bs m n → m < n
  earlier m n c = let g = f.family m n c.parent c.from c.count c.is c.waiting in let l = g.0 in let k = c.least in omega arith

  not_running : (n m k : ℕ) (b : Branch) → slice_get bs n ≡ Some b → b.mode ≡ runs → IsChild bs m k → m ≢ n
  not_running n m k b is em c e = running_waits_not em (subst (λ d. IsWaiting d.mode) (some_given (sym c.is ∙ ap (slice_get bs) e ∙ is)) (waiting_is c.waiting))

  -- what waits stands so too
  waiting_stands : EachInside roots bs → (m k : ℕ) (p : Branch) → IsChild bs m k → slice_get bs m ≡ Some p → StandsInside roots bs m p
  waiting_stands h m k p c e =
      let same : c.parent ≡ p = some_given (sym c.is ∙ e) in
      subst (λ o. IfLively o (StandsInside roots bs m p)) (sym (ap (λ d. d.mode) same) ∙ c.waiting) (h.each m p e)

module _ (K : kernel.Kernel) (stim : Stim) (x : World) (roots : ℕ) (f : IsForest roots x.branches) (w : EachPlaced AnyBlock AnyInside x.branches) (h : EachInside roots x.branches) where
  module _ (n : ℕ) (b now : Branch) (more : List Branch) (is : slice_get x.branches n ≡ Some b) where
    abbrev then : List Branch
    then = slice_set x.branches n now ++ more

    -- the one that waits for a branch is there as before
    moved_child : (m k : ℕ) (p c : Branch) → m ≢ n → IsChild x.branches m k → slice_get x.branches m ≡ Some p → c.inside ≡ ends_of c.items ++ p.inside → StandsInside roots then k c
    moved_child m k p c ne ch ep e = as_child m p (child_there x.branches n b now more is m k ne ch) (at_other x.branches n now more m p ne ep) e

    -- where the branch ran
    module _ (em : b.mode ≡ runs) where
      others_stand : (k : ℕ) (c : Branch) → StandsInside roots x.branches k c → StandsInside roots then k c
      others_stand k c (as_root lt e) = as_root lt e
      others_stand k c (as_child m p ch ep e) = moved_child m k p c (not_running roots x.branches f n m k b is em ch) ch ep e

  module _ (n : ℕ) (b : Branch) (item : Item) (rest : List Item) (now : Branch) (more : List Branch) (is : slice_get x.branches n ≡ Some b) (em : b.mode ≡ runs) (ei : b.items ≡ item ∷ rest) (g : Becomes (step_of K stim x n b rest) item now more) where
    abbrev its_well : WellPlaced AnyBlock AnyInside b
    its_well = subst (λ m. IfLively m (WellPlaced AnyBlock AnyInside b)) em (w.each n b is)

    itself_stands : StandsInside roots x.branches n b → IfLively now.mode (StandsInside roots (then n b now more is) n now)
    itself_stands (as_root lt e) =
        if_lively now.mode (λ q. as_root lt (q ∙ append-nil (ends_of now.items)))
        (now_ends (step_of K stim x n b rest) em its_well [] (e ∙ sym (append-nil (ends_of b.items))) item now more ei g)
    itself_stands (as_child m p ch ep e) =
        if_lively now.mode (λ q. moved_child n b now more is m n p now (not_running roots x.branches f n m n b is em ch) ch ep q)
        (now_ends (step_of K stim x n b rest) em its_well p.inside e item now more ei g)

  new_stands : (n : ℕ) (b : Branch) (item : Item) (rest : List Item) (now : Branch) (more : List Branch) → slice_get x.branches n ≡ Some b → b.mode ≡ runs → b.items ≡ item ∷ rest → Becomes (step_of K stim x n b rest) item now more →
      (j : ℕ) (c : Branch) → slice_get more j ≡ Some c → IfLively c.mode (StandsInside roots (slice_set x.branches n now ++ more) (length x.branches + j) c)
  new_stands n b item rest now more is em ei (goes one items l) j c e = none_given e
  new_stands n b item rest now more is em ei (enters one d items l) j c e = none_given e
  new_stands n b item rest now more is em ei (exits one items l) j c e = none_given e
  new_stands n b item rest now more is em ei (errs one) j c e = none_given e
  new_stands n b item rest now more is em ei ends_it j c e = none_given e
  new_stands n b item rest now more is em ei (makes bs first others a) j c e =
      let s = step_of K stim x n b rest in
      let well : WellPlaced AnyBlock AnyInside b = subst (λ m. IfLively m (WellPlaced AnyBlock AnyInside b)) em (w.each n b is) in
      let d = child_at s (does (kernel.par bs)) _ _ (makes bs first others a) bs refl j c e in
      let g = born s (length (first ∷ others)) 0 [] (first ∷ others) j c e in
      let p = its_placed AnyBlock AnyInside s (does (kernel.par bs)) now more well ei in
      let q = begins_placed AnyBlock AnyInside d.code (placed_begun AnyBlock AnyInside bs j d.code d.is_there p.0.1) in
      let found = at_itself x.branches n b now more is in
      let l = within more j e in
      let long : length more ≡ length (first ∷ others) = made_length s (length (first ∷ others)) 0 [] (first ∷ others) in
      lively_runs c.mode _ (ap (λ z. z.mode) g.is)
      (as_child n now
      (record { parent = now; is = found; from = length x.branches; count = length (first ∷ others); waiting = refl; least = omega arith; less = omega arith })
      found
      (ap (λ z. z.inside) g.is ∙ ap (λ z. z ++ b.inside) (sym (ap ends_of d.items ∙ q.ends))))

  stepped_stands : (n : ℕ) (b : Branch) (item : Item) (rest : List Item) (now : Branch) (more : List Branch) → slice_get x.branches n ≡ Some b → b.mode ≡ runs → b.items ≡ item ∷ rest → Becomes (step_of K stim x n b rest) item now more →
      (k : ℕ) (c : Branch) → Behind x.branches n now more k c → IfLively c.mode (StandsInside roots (slice_set x.branches n now ++ more) k c)
  stepped_stands n b item rest now more is em ei g k c (itself ek ec) =
      let old : StandsInside roots x.branches n b = subst (λ m. IfLively m (StandsInside roots x.branches n b)) em (h.each n b is) in
      subst (λ m. IfLively c.mode (StandsInside roots (slice_set x.branches n now ++ more) m c)) (sym ek)
      (subst (λ d. IfLively d.mode (StandsInside roots (slice_set x.branches n now ++ more) n d)) (sym ec) (itself_stands n b item rest now more is em ei g old))
  stepped_stands n b item rest now more is em ei g k c (there ne e) = if_lively c.mode (others_stand n b now more is em k c) (h.each k c e)
  stepped_stands n b item rest now more is em ei g k c (new j ek e) =
      subst (λ m. IfLively c.mode (StandsInside roots (slice_set x.branches n now ++ more) m c)) (sym ek) (new_stands n b item rest now more is em ei g j c e)

  -- a branch goes on, and those for which it waited have ended
  module _ (n : ℕ) (b : Branch) (from count : ℕ) (is : slice_get x.branches n ≡ Some b) (ew : b.mode ≡ waits from count) (d : IsTrue (all_done x from count)) where
    abbrev goes_on : List Branch
    goes_on = slice_set x.branches n (record b { mode = runs }) ++ []

    resumed_stands : StandsInside roots x.branches n b → StandsInside roots goes_on n (record b { mode = runs })
    resumed_stands (as_root lt e) = as_root lt e
    resumed_stands (as_child m p ch ep e) =
        let l = earlier roots x.branches f m n ch in
        moved_child n b (record b { mode = runs }) [] is m n p (record b { mode = runs }) (λ q. absurd (omega arith)) ch ep e

    has_ended : (k : ℕ) (c : Branch) → slice_get x.branches k ≡ Some c → IsChild x.branches n k → c.mode ≡ ended
    has_ended k c e ch =
        let same : ch.parent ≡ b = some_given (sym ch.is ∙ is) in
        let modes : waits ch.from ch.count ≡ waits from count = sym ch.waiting ∙ ap (λ z. z.mode) same ∙ ew in
        let e1 : ch.from ≡ from = cc in
        let e2 : ch.count ≡ count = cc in
        let l1 = ch.least in
        let l2 = ch.less in
        let z = done_at x from count k d (omega arith) (omega arith) in
        ap (λ y. y.mode) (some_given (sym e ∙ z.1)) ∙ z.2

    waited_stands : (k : ℕ) (c : Branch) → slice_get x.branches k ≡ Some c → StandsInside roots x.branches k c → IfLively c.mode (StandsInside roots goes_on k c)
    waited_stands k c e (as_root lt q) = all_lively c.mode (as_root lt q)
    waited_stands k c e (as_child m p ch ep q) =
        ⊎_elim
        (λ same. subst (λ o. IfLively o (StandsInside roots goes_on k c)) (sym (has_ended k c e (subst (λ j. IsChild x.branches j k) same ch))) tt)
        (λ ne. all_lively c.mode (moved_child n b (record b { mode = runs }) [] is m k p c ne ch ep q))
        (same_or_not m n)

    joined_stands : (k : ℕ) (c : Branch) → Behind x.branches n (record b { mode = runs }) [] k c → IfLively c.mode (StandsInside roots goes_on k c)
    joined_stands k c (itself ek ec) =
        let old : StandsInside roots x.branches n b = subst (λ m. IfLively m (StandsInside roots x.branches n b)) ew (h.each n b is) in
        subst (λ m. IfLively c.mode (StandsInside roots goes_on m c)) (sym ek) (subst (λ z. IfLively z.mode (StandsInside roots goes_on n z)) (sym ec) (resumed_stands old))
    joined_stands k c (there ne e) = and_lively c.mode (StandsInside roots goes_on k c) (h.each k c e) (waited_stands k c e)
    joined_stands k c (new j ek e) = none_given e

  pub inside_kept : {y : World} → Moved K stim x y → EachInside roots y.branches
  inside_kept (ticked clocks) = record { each = λ n b e. h.each n b e }
  inside_kept (stepped n b item rest z is em ei o) =
      subst (EachInside roots) (sym o.branches) (record { each = λ k c e. stepped_stands n b item rest o.now o.more is em ei o.becomes k c (behind x.branches n b o.now o.more k c is e) })
  inside_kept (joined n b from count is ew d) =
      subst (EachInside roots) (append-nil (slice_set x.branches n (record b { mode = runs })))
      (record { each = λ k c e. joined_stands n b from count is ew d k c (behind x.branches n b (record b { mode = runs }) [] k c is e) })

-- at the start
pub inside_begins : (K : kernel.Kernel) → IsPlaced AnyBlock AnyInside K → EachInside (length K.roots) (kernel_start K).branches
inside_begins K h = record {
  each = λ n b e.
      let r = start_at K n b e in
      let q = begins_placed AnyBlock AnyInside r.root.body (placed_begun AnyBlock AnyInside (branches_of K.roots) n r.root.body r.code h.roots) in
      let items : b.items ≡ todo r.root.body (ends ∷ []) = ap (λ d. d.items) r.is in
      lively_runs b.mode (StandsInside (length K.roots) (kernel_start K).branches n b) (ap (λ d. d.mode) r.is)
      (as_root (within K.roots n r.is_there) (ap (λ d. d.inside) r.is ∙ sym (ap ends_of items ∙ q.ends)));
}

-- What follows of a state.
module _ (roots : ℕ) (bs : List Branch) (f : IsForest roots bs) (h : EachInside roots bs) where
  up : (c n m : ℕ) (b p : Branch) → IsChild bs m n → slice_get bs m ≡ Some p → EndIsBehind bs c m p → EndIsBehind bs c n b
  up c n m b p ch e (its_own u) = above m p (directly ch) e u
  up c n m b p ch e (above l q a eq u) = above l q (above_child bs a ch) eq u

  behind_by : (most n : ℕ) → n < most → (b : Branch) → StandsInside roots bs n b → (c : ℕ) → IsTrue (is_among c b.inside) → EndIsBehind bs c n b
  behind_by zero n lt b s c u = absurd (omega arith)
  behind_by (suc most) n lt b (as_root l e) c u = its_own (subst (λ i. IsTrue (is_among c i)) e u)
  behind_by (suc most) n lt b (as_child m p ch ep e) c u =
      let l = earlier roots bs f m n ch in
      ⊎_elim its_own (λ v. up c n m b p ch ep (behind_by most m (omega arith) p (waiting_stands roots bs f h m n p ch ep) c v))
      (among_append c (ends_of b.items) p.inside (subst (λ i. IsTrue (is_among c i)) e u))

  pub end_is_behind : (n : ℕ) (b : Branch) → StandsInside roots bs n b → (c : ℕ) → IsTrue (is_among c b.inside) → EndIsBehind bs c n b
  end_is_behind n b s c u = behind_by (suc n) n (omega arith) b s c u

-- a transaction that a branch ends next is its innermost
pub innermost_of : (roots : ℕ) (bs : List Branch) (n : ℕ) (b : Branch) (items : List Item) (c : ℕ) → StandsInside roots bs n b → ends_of b.items ≡ c ∷ ends_of items → (outer : List ℕ) × (b.inside ≡ c ∷ outer)
innermost_of roots bs n b items c (as_root lt e) q = (ends_of items, e ∙ q)
innermost_of roots bs n b items c (as_child m p ch ep e) q = (ends_of items ++ p.inside, e ∙ ap (λ z. z ++ p.inside) q)

-- A branch stands in each transaction in which one above it stands.
among_front : (c : ℕ) (xs ys : List ℕ) → IsTrue (is_among c xs) → IsTrue (is_among c (xs ++ ys))
among_front c [] ys u = absurd (true≢false (sym u))
among_front c (x ∷ xs) ys u = ⊎_elim (λ v. or_left (nat_eq c x) _ v) (λ v. or_right (nat_eq c x) _ (among_front c xs ys v)) (or_cases _ _ u)

among_back : (c : ℕ) (xs ys : List ℕ) → IsTrue (is_among c ys) → IsTrue (is_among c (xs ++ ys))
among_back c [] ys u = u
among_back c (x ∷ xs) ys u = or_right (nat_eq c x) _ (among_back c xs ys u)

-- in each whose end is among its items, too
pub ends_inside : (roots : ℕ) (bs : List Branch) (n : ℕ) (b : Branch) (c : ℕ) → StandsInside roots bs n b → IsTrue (is_among c (ends_of b.items)) → IsTrue (is_among c b.inside)
ends_inside roots bs n b c (as_root lt e) u = subst (λ i. IsTrue (is_among c i)) (sym e) u
ends_inside roots bs n b c (as_child m p ch ep e) u = subst (λ i. IsTrue (is_among c i)) (sym e) (among_front c (ends_of b.items) p.inside u)

module _ (roots : ℕ) (bs : List Branch) (f : IsForest roots bs) (h : EachInside roots bs) (c : ℕ) where
  one_below : (m n : ℕ) (p b : Branch) → IsChild bs m n → slice_get bs m ≡ Some p → StandsInside roots bs n b → IsTrue (is_among c p.inside) → IsTrue (is_among c b.inside)
  one_below m n p b ch ep (as_root lt e) u =
      let g = f.family m n ch.parent ch.from ch.count ch.is ch.waiting in
      let l = g.1 in
      let k = ch.least in
      absurd (omega arith)
  one_below m n p b ch ep (as_child l q dh eq e) u =
      let same : l ≡ m = f.one_parent l m n dh ch in
      let is : q ≡ p = some_given (sym eq ∙ ap (slice_get bs) same ∙ ep) in
      subst (λ i. IsTrue (is_among c i)) (sym e) (among_back c (ends_of b.items) q.inside (subst (λ d. IsTrue (is_among c d.inside)) (sym is) u))

  pub above_stands : (m n : ℕ) (p : Branch) → Above bs m n → slice_get bs m ≡ Some p → StandsInside roots bs m p
  above_stands m n p (directly ch) ep = waiting_stands roots bs f h m n p ch ep
  above_stands m n p (further {k = k} ch a) ep = waiting_stands roots bs f h m k p ch ep

  pub all_below : (m n : ℕ) (p b : Branch) → Above bs m n → slice_get bs m ≡ Some p → StandsInside roots bs n b → IsTrue (is_among c p.inside) → IsTrue (is_among c b.inside)
  all_below m n p b (directly ch) ep s u = one_below m n p b ch ep s u
  all_below m n p b (further {k = k} ch a) ep s u =
      let q = above_first bs a in
      all_below k n q.0 b a q.1 s (one_below m k p q.0 ch ep (above_stands k n q.0 a q.1) u)
