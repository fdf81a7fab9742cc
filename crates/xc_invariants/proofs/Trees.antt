-- The branches stay a forest.
use Rattle.std.proofs.Common.{◌≡◌, ◌≢◌, ◌⊎◌, inl, inr, ⊎_elim, ℕ, suc, ◌+◌, ◌-◌, ◌<◌, ◌≤◌, List, [], ◌∷◌, ◌++◌, length, Some, None, slice_get, slice_set, refl, sym, ap, subst, ◌∙◌, append-nil, length-append, arith}
use Rattle.xs_instr.specs.declared.image.Stim.{Stim}
use Rattle.xc_kernel.specs.Plain as kernel
use Rattle.xc_meaning.specs.States.Items.{Item}
use Rattle.xc_meaning.specs.States.Branches.{Mode, runs, waits, ended, erred, Branch}
use Rattle.xc_meaning.specs.States.Worlds.{World}
use Rattle.xc_meaning.specs.Settings.Setting.{Setting}
use Rattle.xc_meaning.specs.Settings.Par.{Begun, family_of, children}
use Rattle.xc_meaning.specs.Runs.{step_of}
use Rattle.xc_invariants.specs.Tree.{IsChild, Above, directly, further, IsWaiting, IsOwn, IsForest}
use Rattle.xc_meaning.specs.Outline.{Becomes, goes, enters, exits, errs, ends_it, makes, Moved, ticked, stepped, joined}
use Rattle.xc_meaning.proofs.Basics.{some_given, none_given, same_or_not}
use Rattle.xc_invariants.proofs.Lookups.{Behind, itself, there, new, behind, within, at_other, set_length, born}

pub waiting_is : {m : Mode} {from count : ℕ} → m ≡ waits from count → IsWaiting m
waiting_is e = subst IsWaiting (sym e) tt

pub running_waits_not : {m : Mode} {A : Type 0} → m ≡ runs → IsWaiting m → A
running_waits_not e w = absurd (subst IsWaiting e w)

-- a branch above another waits
pub above_waits : (bs : List Branch) (n m : ℕ) (b : Branch) → slice_get bs n ≡ Some b → Above bs n m → IsWaiting b.mode
above_waits bs n m b is (directly c) = subst (λ d. IsWaiting d.mode) (some_given (sym c.is ∙ is)) (waiting_is c.waiting)
above_waits bs n m b is (further c a) = subst (λ d. IsWaiting d.mode) (some_given (sym c.is ∙ is)) (waiting_is c.waiting)

pub above_first : (bs : List Branch) {n m : ℕ} → Above bs n m → (b : Branch) × (slice_get bs n ≡ Some b) × IsWaiting b.mode
above_first bs (directly c) = (c.parent, c.is, waiting_is c.waiting)
above_first bs (further c a) = (c.parent, c.is, waiting_is c.waiting)

-- a branch above a waiting one is above those for which it waits
pub above_child : (bs : List Branch) {a n k : ℕ} → Above bs a n → IsChild bs n k → Above bs a k
above_child bs (directly c) d = further c (directly d)
above_child bs (further c h) d = further c (above_child bs h d)

-- How the branches are behind a step of branch n, which was there as b: it is another one now, and there are new ones.
module _ (bs : List Branch) (n : ℕ) (b now : Branch) (more : List Branch) (is : slice_get bs n ≡ Some b) where
  abbrev after : List Branch
  after = slice_set bs n now ++ more

  pub child_there : (a k : ℕ) → a ≢ n → IsChild bs a k → IsChild after a k
  child_there a k ne c = record { parent = c.parent; is = at_other bs n now more a c.parent ne c.is; from = c.from; count = c.count; waiting = c.waiting; least = c.least; less = c.less }

  -- no branch waits that hasn't waited before, if the branch waited for none
  pub child_stays : (a k : ℕ) → (IsWaiting b.mode → ⊥) → IsChild bs a k → IsChild after a k
  child_stays a k w c = child_there a k (λ e. w (subst (λ d. IsWaiting d.mode) (some_given (sym c.is ∙ ap (slice_get bs) e ∙ is)) (waiting_is c.waiting))) c

  pub above_stays : {a k : ℕ} → (IsWaiting b.mode → ⊥) → Above bs a k → Above after a k
  above_stays {a} {k} w (directly c) = directly (child_stays a k w c)
  above_stays {a} w (further {k = k} c h) = further (child_stays a k w c) (above_stays w h)

  -- where its branches waited for none, the branch may wait no more
  pub above_joined : {a m : ℕ} → ((k : ℕ) (c : Branch) → IsChild bs n k → slice_get bs k ≡ Some c → IsWaiting c.mode → ⊥) → Above bs a m → Above after a m ⊎ IsChild bs n m
  above_joined {a} {m} w (directly c) = ⊎_elim (λ e. inr (subst (λ j. IsChild bs j m) e c)) (λ ne. inl (directly (child_there a m ne c))) (same_or_not a n)
  above_joined {a} {m} w (further {k = k} c g) =
      ⊎_elim
      (λ h. ⊎_elim (λ e. let f = above_first bs g in absurd (w k f.0 (subst (λ j. IsChild bs j k) e c) f.1 f.2)) (λ ne. inl (further (child_there a k ne c) h)) (same_or_not a n))
      inr
      (above_joined w g)

-- what a step makes of a branch that waits for none afterwards
pub record IsQuiet (b now : Branch) : Type 0 where
  pub waits_not : IsWaiting now.mode → ⊥
  pub core : now.core ≡ b.core
  pub birth : now.birth ≡ b.birth
  pub family : now.family ≡ b.family
  pub sides : now.sides ≡ b.sides
  pub stopped : (now.mode ≡ ended) ⊎ (now.mode ≡ erred) → now.items ≡ []

-- what a step makes of its branch, and the branches that it makes
pub data Change (s : Setting) (now : Branch) (more : List Branch) : Type 0 where
  quiet : IsQuiet s.branch now → more ≡ [] → Change s now more
  opens : (gs : List Begun) → 0 < length gs → now ≡ record s.branch { mode = waits (length s.world.branches) (length gs); items = s.rest } →
      more ≡ children s (length gs) 0 [] gs → Change s now more

runs_on : (s : Setting) (now : Branch) → s.branch.mode ≡ runs → now.mode ≡ s.branch.mode → now.core ≡ s.branch.core → now.birth ≡ s.branch.birth → now.family ≡ s.branch.family → now.sides ≡ s.branch.sides → IsQuiet s.branch now
runs_on s now em e ec eb ef es = record {
  waits_not = λ w. running_waits_not (e ∙ em) w;
  core = ec;
  birth = eb;
  family = ef;
  sides = es;
  stopped = λ h. ⊎_elim (λ f. let g : runs ≡ ended = sym (e ∙ em) ∙ f in absurd cc) (λ f. let g : runs ≡ erred = sym (e ∙ em) ∙ f in absurd cc) h;
}

pub change : (s : Setting) (item : Item) (now : Branch) (more : List Branch) → s.branch.mode ≡ runs → Becomes s item now more → Change s now more
change s item now more em (goes first items l) = quiet (runs_on s (record s.branch { items = items }) em refl refl refl refl refl) refl
change s item now more em (enters first c items l) = quiet (runs_on s _ em refl refl refl refl refl) refl
change s item now more em (exits first items l) = quiet (runs_on s _ em refl refl refl refl refl) refl
change s item now more em (errs first) = quiet (record { waits_not = λ w. w; core = refl; birth = refl; family = refl; sides = refl; stopped = λ h. refl }) refl
change s item now more em ends_it = quiet (record { waits_not = λ w. w; core = refl; birth = refl; family = refl; sides = refl; stopped = λ h. refl }) refl
change s item now more em (makes bs b others e) = opens (b ∷ others) (omega arith) refl refl

pub made_length : (s : Setting) (among index : ℕ) (before : List kernel.Statements) (gs : List Begun) → length (children s among index before gs) ≡ length gs
made_length s among index before [] = refl
made_length s among index before (g ∷ gs) = ap suc (made_length s among (index + 1) (g.code ∷ before) gs)

module _ (s : Setting) (now : Branch) (more : List Branch) (is : slice_get s.world.branches s.number ≡ Some s.branch) where
  abbrev bs : List Branch
  bs = s.world.branches

  abbrev then : List Branch
  then = slice_set s.world.branches s.number now ++ more

  then_length : length then ≡ length bs + length more
  then_length = length-append (slice_set s.world.branches s.number now) more ∙ ap (λ l. l + length more) (set_length bs s.number now)

  -- a branch that waits behind the step has waited before, or is the one whose `par` has begun
  pub data Waiter (k : ℕ) (p : Branch) (from count : ℕ) : Type 0 where
    before : k ≢ s.number → slice_get bs k ≡ Some p → Waiter k p from count
    opener : (gs : List Begun) → 0 < length gs → k ≡ s.number → p ≡ record s.branch { mode = waits (length s.world.branches) (length gs); items = s.rest } → more ≡ children s (length gs) 0 [] gs →
        from ≡ length bs → count ≡ length gs → Waiter k p from count

  made_runs : (gs : List Begun) → more ≡ children s (length gs) 0 [] gs → (j : ℕ) (c : Branch) → slice_get more j ≡ Some c → c.mode ≡ runs
  made_runs gs em j c e =
      ap (λ d. d.mode) (born s (length gs) 0 [] gs j c (subst (λ m. slice_get m j ≡ Some c) em e)).is

  pub new_runs : Change s now more → (j : ℕ) (c : Branch) → slice_get more j ≡ Some c → c.mode ≡ runs
  new_runs (quiet q em) j c e = none_given (subst (λ m. slice_get m j ≡ Some c) em e)
  new_runs (opens gs lt en em) j c e = made_runs gs em j c e

  opener_of : Change s now more → (k : ℕ) (p : Branch) (from count : ℕ) → k ≡ s.number → p ≡ now → p.mode ≡ waits from count → Waiter k p from count
  opener_of (quiet q em) k p from count ek ep ew = absurd (q.waits_not (subst (λ d. IsWaiting d.mode) ep (waiting_is ew)))
  opener_of (opens gs lt en em) k p from count ek ep ew =
      let e : waits (length bs) (length gs) ≡ waits from count = sym (ap (λ d. d.mode) (ep ∙ en)) ∙ ew in
      let e1 : length bs ≡ from = cc in
      let e2 : length gs ≡ count = cc in
      opener gs lt ek (ep ∙ en) em (sym e1) (sym e2)

  waiter_of : Change s now more → (k : ℕ) (p : Branch) (from count : ℕ) → p.mode ≡ waits from count → Behind bs s.number now more k p → Waiter k p from count
  waiter_of ch k p from count ew (itself ek ep) = opener_of ch k p from count ek ep ew
  waiter_of ch k p from count ew (there ne e) = before ne e
  waiter_of ch k p from count ew (new j ek e) = running_waits_not (new_runs ch j p e) (waiting_is ew)

  pub waiter : Change s now more → (k : ℕ) (p : Branch) (from count : ℕ) → slice_get then k ≡ Some p → p.mode ≡ waits from count → Waiter k p from count
  waiter ch k p from count e ew = waiter_of ch k p from count ew (behind bs s.number s.branch now more k p is e)

  module _ (roots : ℕ) (f : IsForest roots bs) (ch : Change s now more) where
    stopped_after : (k : ℕ) (c : Branch) → (c.mode ≡ ended) ⊎ (c.mode ≡ erred) → Behind bs s.number now more k c → c.items ≡ []
    stopped_after k c h (itself ek ec) = now_stopped ch
      where
        now_stopped : Change s now more → c.items ≡ []
        now_stopped (quiet q em) = ap (λ d. d.items) ec ∙ q.stopped (subst (λ d. (d.mode ≡ ended) ⊎ (d.mode ≡ erred)) ec h)
        now_stopped (opens gs lt en em) =
            ⊎_elim (λ e. let g : waits (length bs) (length gs) ≡ ended = sym (ap (λ d. d.mode) (ec ∙ en)) ∙ e in absurd cc) (λ e. let g : waits (length bs) (length gs) ≡ erred = sym (ap (λ d. d.mode) (ec ∙ en)) ∙ e in absurd cc) h
    stopped_after k c h (there ne e) = f.stopped k c e h
    stopped_after k c h (new j ek e) =
        ⊎_elim (λ g. let r : runs ≡ ended = sym (new_runs ch j c e) ∙ g in absurd cc) (λ g. let r : runs ≡ erred = sym (new_runs ch j c e) ∙ g in absurd cc) h

    family_after : (k : ℕ) (p : Branch) (from count : ℕ) → p.mode ≡ waits from count → Waiter k p from count → (k < from) × (roots ≤ from) × (0 < count) × (from + count ≤ length then)
    family_after k p from count ew (before ne e) =
        let g = f.family k k p from count e ew in
        (g.0, g.1, g.2, let l = then_length in let a = g.3 in omega arith)
    family_after k p from count ew (opener gs lt ek ep em ef ec) =
        let l = then_length in
        let w = within bs s.number is in
        let t = f.all_there in
        let m : length more ≡ length gs = ap length em ∙ made_length s (length gs) 0 [] gs in
        (omega arith, omega arith, omega arith, omega arith)

    now_core : Change s now more → (now.core ≡ s.branch.core) × (now.birth ≡ s.branch.birth) × (now.family ≡ s.branch.family)
    now_core (quiet q em) = (q.core, q.birth, q.family)
    now_core (opens gs lt en em) = (ap (λ d. d.core) en, ap (λ d. d.birth) en, ap (λ d. d.family) en)

    own_new : (gs : List Begun) (p c : Branch) (from count k j : ℕ) → p ≡ record s.branch { mode = waits (length s.world.branches) (length gs); items = s.rest } → more ≡ children s (length gs) 0 [] gs →
        from ≡ length bs → count ≡ length gs → k ≡ length bs + j → slice_get more j ≡ Some c → IsOwn p from count k c
    own_new gs p c from count k j ep em ef ec ek e =
        let b = born s (length gs) 0 [] gs j c (subst (λ m. slice_get m j ≡ Some c) em e) in
        let index : 0 + j ≡ k - from = omega arith in
        let place : length bs + (0 + j) ≡ k = omega arith in
        record {
          core = ap (λ d. d.core) b.is ∙ sym (ap (λ d. d.core) ep);
          birth = ap (λ d. d.birth) b.is ∙ (λ i. Some (record { family = sym (ap (λ d. d.family) ep) i; index = index i; among = sym ec i }));
          family = ap (λ d. d.family) b.is ∙ (λ i. family_of (sym (ap (λ d. d.family) ep) i) (place i) (index i));
        }

    own_after : (n k : ℕ) (p c : Branch) (from count : ℕ) → p.mode ≡ waits from count → from ≤ k → k < from + count → Waiter n p from count → Behind bs s.number now more k c → IsOwn p from count k c
    own_after n k p c from count ew le lt (before ne e) (there nk ec) = f.own n k p c from count e ew le lt ec
    own_after n k p c from count ew le lt (before ne e) (itself ek ec) =
        let o = f.own n k p s.branch from count e ew le lt (ap (slice_get bs) ek ∙ is) in
        let same = now_core ch in
        record { core = ap (λ d. d.core) ec ∙ same.0 ∙ o.core; birth = ap (λ d. d.birth) ec ∙ same.1 ∙ o.birth; family = ap (λ d. d.family) ec ∙ same.2 ∙ o.family }
    own_after n k p c from count ew le lt (before ne e) (new j ek ec) =
        let g = f.family n k p from count e ew in let l = g.3 in absurd (omega arith)
    own_after n k p c from count ew le lt (opener gs pos en ep em ef eco) (there nk ec) = let w = within bs k ec in absurd (omega arith)
    own_after n k p c from count ew le lt (opener gs pos en ep em ef eco) (itself ek ec) = let w = within bs s.number is in absurd (omega arith)
    own_after n k p c from count ew le lt (opener gs pos en ep em ef eco) (new j ek ec) = own_new gs p c from count k j ep em ef eco ek ec

    one_after : (n m k : ℕ) (p q : Branch) (from count from' count' : ℕ) → p.mode ≡ waits from count → q.mode ≡ waits from' count' →
        from ≤ k → k < from + count → from' ≤ k → k < from' + count' → Waiter n p from count → Waiter m q from' count' → n ≡ m
    one_after n m k p q from count from' count' ep eq l1 l2 l3 l4 (before ne e) (before nf g) =
        f.one_parent n m k (record { parent = p; is = e; from = from; count = count; waiting = ep; least = l1; less = l2 }) (record { parent = q; is = g; from = from'; count = count'; waiting = eq; least = l3; less = l4 })
    one_after n m k p q from count from' count' ep eq l1 l2 l3 l4 (before ne e) (opener gs pos en eb em ef eco) =
        let g = f.family n k p from count e ep in let l = g.3 in absurd (omega arith)
    one_after n m k p q from count from' count' ep eq l1 l2 l3 l4 (opener gs pos en eb em ef eco) (before ne e) =
        let g = f.family m k q from' count' e eq in let l = g.3 in absurd (omega arith)
    one_after n m k p q from count from' count' ep eq l1 l2 l3 l4 (opener gs pos en eb em ef eco) (opener gs' pos' en' eb' em' ef' eco') = en ∙ sym en'

    born_after : (k : ℕ) (c : Branch) → k < roots → Behind bs s.number now more k c → c.birth ≡ None
    born_after k c lt (itself ek ec) = ap (λ d. d.birth) ec ∙ (now_core ch).1 ∙ f.born s.number s.branch is (subst (λ j. j < roots) ek lt)
    born_after k c lt (there ne e) = f.born k c e lt
    born_after k c lt (new j ek e) = let t = f.all_there in absurd (omega arith)

    pub forest_after : IsForest roots then
    forest_after = record {
      stopped = λ k c e h. stopped_after k c h (behind bs s.number s.branch now more k c is e);
      all_there = let l = then_length in let t = f.all_there in omega arith;
      family = λ n k p from count e ew. family_after n p from count ew (waiter ch n p from count e ew);
      own = λ n k p c from count e ew le lt ec. own_after n k p c from count ew le lt (waiter ch n p from count e ew) (behind bs s.number s.branch now more k c is ec);
      one_parent = λ n m k a b. one_after n m k a.parent b.parent a.from a.count b.from b.count a.waiting b.waiting a.least a.less b.least b.less (waiter ch n a.parent a.from a.count a.is a.waiting) (waiter ch m b.parent b.from b.count b.is b.waiting);
      born = λ k c e lt. born_after k c lt (behind bs s.number s.branch now more k c is e);
    }

-- a branch that goes on behind its `par`
pub resumed : (s : Setting) → Change s (record s.branch { mode = runs }) []
resumed s = quiet (record { waits_not = λ w. w; core = refl; birth = refl; family = refl; sides = refl; stopped = λ h. ⊎_elim (λ e. absurd cc) (λ e. absurd cc) h }) refl

pub forest_kept : (K : kernel.Kernel) (stim : Stim) (roots : ℕ) (x : World) {y : World} → IsForest roots x.branches → Moved K stim x y → IsForest roots y.branches
forest_kept K stim roots x f (ticked clocks) = f
forest_kept K stim roots x f (stepped n b item rest z is em ei o) =
    subst (IsForest roots) (sym o.branches) (forest_after (step_of K stim x n b rest) o.now o.more is roots f (change (step_of K stim x n b rest) item o.now o.more em o.becomes))
forest_kept K stim roots x f (joined n b from count is em d) =
    subst (IsForest roots) (append-nil (slice_set x.branches n (record b { mode = runs })))
    (forest_after (step_of K stim x n b b.items) (record b { mode = runs }) [] is roots f (resumed (step_of K stim x n b b.items)))
