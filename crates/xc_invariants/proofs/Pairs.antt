-- What holds of each two branches neither of which is above the other.
use Rattle.std.proofs.Common.{◌≡◌, ◌≢◌, ◌⊎◌, inl, inr, ⊎_elim, ℕ, zero, suc, ◌+◌, ◌<◌, ◌≤◌, Bool, true, false, ◌&&◌, IsTrue, List, [], ◌∷◌, ◌++◌, length, Option, Some, None, slice_get, slice_set, refl, sym, ap, subst, ◌∙◌, append-nil, arith, true≢false}
use Rattle.xs_instr.specs.declared.image.Stim.{Stim}
use Rattle.xc_kernel.specs.Plain as kernel
use Rattle.xc_meaning.specs.States.Items.{Item}
use Rattle.xc_meaning.specs.States.Branches.{Mode, runs, waits, ended, erred, Branch, has_ended}
use Rattle.xc_meaning.specs.States.Worlds.{World}
use Rattle.xc_meaning.specs.Settings.Setting.{Setting}
use Rattle.xc_meaning.specs.Settings.Par.{is_done, all_done}
use Rattle.xc_meaning.specs.Runs.{step_of}
use Rattle.xc_invariants.specs.Tree.{IsChild, Above, directly, IsWaiting, IsForest, Unrelated}
use Rattle.xc_meaning.specs.Outline.{Becomes, Moved, ticked, stepped, joined}
use Rattle.xc_meaning.proofs.Basics.{some_given, none_given, same_or_not}
use Rattle.xc_invariants.proofs.Lookups.{Behind, itself, there, new, behind, within, at_itself}
use Rattle.xc_invariants.proofs.Trees.{above_waits, above_child, above_stays, above_joined, running_waits_not, Change, quiet, opens, change, made_length}

-- what a relation needs to be kept
pub record IsKept (R : Branch → Branch → Type 0) (s : Setting) (now : Branch) (more : List Branch) : Type 0 where
  -- by what the branch becomes
  pub becomes : (c : Branch) → R s.branch c → R now c
  -- by the branches that it makes
  pub made : (j : ℕ) (d c : Branch) → slice_get more j ≡ Some d → R s.branch c → R d c
  -- and among these
  pub siblings : (j k : ℕ) (d e : Branch) → j ≢ k → slice_get more j ≡ Some d → slice_get more k ≡ Some e → R d e

pub and_true : (a b : Bool) → IsTrue (a && b) → IsTrue a × IsTrue b
and_true true b h = (refl, h)
and_true false b h = absurd (true≢false (sym h))

-- the branches of a `par` that is done have ended
pub has_ended_is : (m : Mode) → IsTrue (has_ended m) → m ≡ ended
has_ended_is ended h = refl
has_ended_is runs h = absurd (true≢false (sym h))
has_ended_is (waits from count) h = absurd (true≢false (sym h))
has_ended_is erred h = absurd (true≢false (sym h))

done_is : (o : Option Branch) → IsTrue (is_done o) → (b : Branch) × (o ≡ Some b) × (b.mode ≡ ended)
done_is None h = absurd (true≢false (sym h))
done_is (Some b) h = (b, refl, has_ended_is b.mode h)

pub done_at : (x : World) (from count k : ℕ) → IsTrue (all_done x from count) → from ≤ k → k < from + count → (b : Branch) × (slice_get x.branches k ≡ Some b) × (b.mode ≡ ended)
done_at x from zero k h le lt = absurd (omega arith)
done_at x from (suc count) k h le lt =
    let both = and_true (is_done (slice_get x.branches (from + count))) (all_done x from count) h in
    ⊎_elim (λ e. subst (λ j. (b : Branch) × (slice_get x.branches j ≡ Some b) × (b.mode ≡ ended)) (sym e) (done_is (slice_get x.branches (from + count)) both.0))
    (λ ne. done_at x from count k both.1 le (omega arith)) (same_or_not k (from + count))

module _ (R : Branch → Branch → Type 0) (swap : (b c : Branch) → R b c → R c b) (stopped : (b c : Branch) → c.items ≡ [] → R b c) where
  -- a step of a branch that runs
  module _ (s : Setting) (now : Branch) (more : List Branch) (is : slice_get s.world.branches s.number ≡ Some s.branch) (em : s.branch.mode ≡ runs)
      (ch : Change s now more) (h : Unrelated R s.world.branches) (k : IsKept R s now more) where
    abbrev then : List Branch
    then = slice_set s.world.branches s.number now ++ more

    abbrev Related : ℕ → Branch → ℕ → Branch → Type 0
    Related n b m c = Above then n m ⊎ (Above then m n ⊎ R b c)

    stays : {a m : ℕ} → Above s.world.branches a m → Above then a m
    stays g = above_stays s.world.branches s.number s.branch now more is (λ w. running_waits_not em w) g

    flip : (n m : ℕ) (b c : Branch) → Related n b m c → Related m c n b
    flip n m b c h = ⊎_elim (λ a. inr (inl a)) (λ g. ⊎_elim inl (λ r. inr (inr (swap b c r))) g) h

    nothing_below : {A : Type 0} {m : ℕ} → Above s.world.branches s.number m → A
    nothing_below {A} {m} a = running_waits_not em (above_waits s.world.branches s.number m s.branch is a)

    now_there : (m : ℕ) (c : Branch) → m ≢ s.number → slice_get s.world.branches m ≡ Some c → Related s.number now m c
    now_there m c ne e =
        ⊎_elim (λ a. inl (stays a)) (λ g. ⊎_elim (λ a. inr (inl (stays a))) (λ r. inr (inr (k.becomes c r))) g) (h.pair s.number m s.branch c is e (λ f. ne (sym f)))

    opened_below : Change s now more → (j : ℕ) (d : Branch) → slice_get more j ≡ Some d → IsChild then s.number (length s.world.branches + j)
    opened_below (quiet q en) j d e = none_given (subst (λ m. slice_get m j ≡ Some d) en e)
    opened_below (opens gs lt en el) j d e =
        let l : length more ≡ length gs = ap length el ∙ made_length s (length gs) 0 [] gs in
        let w = within more j e in
        record {
          parent = now;
          is = at_itself s.world.branches s.number s.branch now more is;
          from = length s.world.branches;
          count = length gs;
          waiting = ap (λ d. d.mode) en;
          least = omega arith;
          less = omega arith;
        }

    new_there : (j m : ℕ) (d c : Branch) → slice_get more j ≡ Some d → m ≢ s.number → slice_get s.world.branches m ≡ Some c → Related (length s.world.branches + j) d m c
    new_there j m d c e ne f =
        ⊎_elim (λ a. nothing_below a)
        (λ g. ⊎_elim (λ a. inr (inl (above_child then (stays a) (opened_below ch j d e)))) (λ r. inr (inr (k.made j d c e r))) g)
        (h.pair s.number m s.branch c is f (λ f. ne (sym f)))

    itself_there : (n m : ℕ) (b c : Branch) → n ≡ s.number → b ≡ now → m ≢ s.number → slice_get s.world.branches m ≡ Some c → Related n b m c
    itself_there n m b c en eb nm e = subst (λ i. Related i b m c) (sym en) (subst (λ d. Related s.number d m c) (sym eb) (now_there m c nm e))

    itself_new : (n m j : ℕ) (b c : Branch) → n ≡ s.number → m ≡ length s.world.branches + j → slice_get more j ≡ Some c → Related n b m c
    itself_new n m j b c en ej e = inl (subst (λ i. Above then i m) (sym en) (subst (Above then s.number) (sym ej) (directly (opened_below ch j c e))))

    new_at : (n m j : ℕ) (b c : Branch) → n ≡ length s.world.branches + j → slice_get more j ≡ Some b → m ≢ s.number → slice_get s.world.branches m ≡ Some c → Related n b m c
    new_at n m j b c ej e nm f = subst (λ i. Related i b m c) (sym ej) (new_there j m b c e nm f)

    related : (n m : ℕ) (b c : Branch) → n ≢ m → Behind s.world.branches s.number now more n b → Behind s.world.branches s.number now more m c → Related n b m c
    related n m b c ne (itself en eb) (itself em ec) = absurd (ne (en ∙ sym em))
    related n m b c ne (itself en eb) (there nm e) = itself_there n m b c en eb nm e
    related n m b c ne (itself en eb) (new j ej e) = itself_new n m j b c en ej e
    related n m b c ne (there nn e) (itself em ec) = flip m n c b (itself_there m n c b em ec nn e)
    related n m b c ne (there nn e) (there nm f) = ⊎_elim (λ a. inl (stays a)) (λ g. ⊎_elim (λ a. inr (inl (stays a))) (λ r. inr (inr r)) g) (h.pair n m b c e f ne)
    related n m b c ne (there nn e) (new j ej f) = flip m n c b (new_at m n j c b ej f nn e)
    related n m b c ne (new j ej e) (itself em ec) = flip m n c b (itself_new m n j c b em ej e)
    related n m b c ne (new j ej e) (there nm f) = new_at n m j b c ej e nm f
    related n m b c ne (new j ej e) (new i ei f) = inr (inr (k.siblings j i b c (λ g. ne (ej ∙ ap (λ l. length s.world.branches + l) g ∙ sym ei)) e f))

    pub pairs_stepped : Unrelated R then
    pairs_stepped = record {
      pair = λ n m b c e f ne. related n m b c ne (behind s.world.branches s.number s.branch now more n b is e) (behind s.world.branches s.number s.branch now more m c is f);
    }

  -- a branch that goes on behind its `par`
  module _ (x : World) (roots : ℕ) (forest : IsForest roots x.branches) (n : ℕ) (b : Branch) (is : slice_get x.branches n ≡ Some b) (from count : ℕ) (ew : b.mode ≡ waits from count)
      (done : IsTrue (all_done x from count)) (h : Unrelated R x.branches) (goes_on : (c : Branch) → R b c → R (record b { mode = runs }) c) where
    abbrev later : List Branch
    later = slice_set x.branches n (record b { mode = runs }) ++ []

    its_done : (k : ℕ) (c : Branch) → IsChild x.branches n k → slice_get x.branches k ≡ Some c → c.mode ≡ ended
    its_done k c d e =
        let its : b ≡ d.parent = some_given (sym is ∙ d.is) in
        let same : waits from count ≡ waits d.from d.count = sym ew ∙ ap (λ p. p.mode) its ∙ d.waiting in
        let e1 : from ≡ d.from = cc in
        let e2 : count ≡ d.count = cc in
        let l1 = d.least in
        let l2 = d.less in
        let g = done_at x from count k done (omega arith) (omega arith) in
        subst (λ p. p.mode ≡ ended) (some_given (sym g.1 ∙ e)) g.2

    waits_no_more : (k : ℕ) (c : Branch) → IsChild x.branches n k → slice_get x.branches k ≡ Some c → IsWaiting c.mode → ⊥
    waits_no_more k c d e w = subst IsWaiting (its_done k c d e) w

    kept_above : {a m : ℕ} → Above x.branches a m → Above later a m ⊎ IsChild x.branches n m
    kept_above g = above_joined x.branches n b (record b { mode = runs }) [] is waits_no_more g

    nothing_left : (m : ℕ) (c : Branch) → slice_get x.branches m ≡ Some c → IsChild x.branches n m → c.items ≡ []
    nothing_left m c e d = forest.stopped m c e (inl (its_done m c d e))

    related_by : (a m : ℕ) (p q : Branch) → slice_get x.branches a ≡ Some p → slice_get x.branches m ≡ Some q → Above x.branches a m ⊎ (Above x.branches m a ⊎ R p q) → Above later a m ⊎ (Above later m a ⊎ R p q)
    related_by a m p q e f (inl g) = ⊎_elim inl (λ d. inr (inr (stopped p q (nothing_left m q f d)))) (kept_above g)
    related_by a m p q e f (inr (inl g)) = ⊎_elim (λ g. inr (inl g)) (λ d. inr (inr (swap q p (stopped q p (nothing_left a p e d))))) (kept_above g)
    related_by a m p q e f (inr (inr r)) = inr (inr r)

    by_goes_on : (p q c : Branch) → p ≡ record b { mode = runs } → R b c → R p c
    by_goes_on p q c e r = subst (λ d. R d c) (sym e) (goes_on c r)

    joined_pair : (a m : ℕ) (p q : Branch) → a ≢ m → Behind x.branches n (record b { mode = runs }) [] a p → Behind x.branches n (record b { mode = runs }) [] m q → Above later a m ⊎ (Above later m a ⊎ R p q)
    joined_pair a m p q ne (itself ea ep) (itself em eq) = absurd (ne (ea ∙ sym em))
    joined_pair a m p q ne (itself ea ep) (there nm e) =
        let ia : slice_get x.branches a ≡ Some b = ap (slice_get x.branches) ea ∙ is in
        ⊎_elim inl (λ g. inr (⊎_elim inl (λ r. inr (by_goes_on p q q ep r)) g)) (related_by a m b q ia e (h.pair a m b q ia e ne))
    joined_pair a m p q ne (there na e) (itself em eq) =
        let im : slice_get x.branches m ≡ Some b = ap (slice_get x.branches) em ∙ is in
        ⊎_elim inl (λ g. inr (⊎_elim inl (λ r. inr (swap q p (by_goes_on q p p eq (swap p b r)))) g)) (related_by a m p b e im (h.pair a m p b e im ne))
    joined_pair a m p q ne (there na e) (there nm f) = related_by a m p q e f (h.pair a m p q e f ne)
    joined_pair a m p q ne (new j ej e) other = none_given e
    joined_pair a m p q ne other (new j ej e) = none_given e

    pub pairs_joined : Unrelated R later
    pairs_joined = record {
      pair = λ a m p q e f ne. joined_pair a m p q ne (behind x.branches n b (record b { mode = runs }) [] a p is e) (behind x.branches n b (record b { mode = runs }) [] m q is f);
    }

  pub pairs_kept : (K : kernel.Kernel) (stim : Stim) (roots : ℕ) (x : World) {y : World} → IsForest roots x.branches → Unrelated R x.branches → Moved K stim x y →
      ((n : ℕ) (b : Branch) (item : Item) (rest : List Item) (now : Branch) (more : List Branch) → slice_get x.branches n ≡ Some b → b.mode ≡ runs → b.items ≡ item ∷ rest →
      Becomes (step_of K stim x n b rest) item now more → IsKept R (step_of K stim x n b rest) now more) →
      ((b c : Branch) → R b c → R (record b { mode = runs }) c) → Unrelated R y.branches
  pairs_kept K stim roots x forest h (ticked clocks) k goes_on = h
  pairs_kept K stim roots x forest h (stepped n b item rest z is em ei o) k goes_on =
      subst (Unrelated R) (sym o.branches)
      (pairs_stepped (step_of K stim x n b rest) o.now o.more is em (change (step_of K stim x n b rest) item o.now o.more em o.becomes) h (k n b item rest o.now o.more is em ei o.becomes))
  pairs_kept K stim roots x forest h (joined n b from count is ew d) k goes_on =
      subst (Unrelated R) (append-nil (slice_set x.branches n (record b { mode = runs }))) (pairs_joined x roots forest n b is from count ew d h (goes_on b))
