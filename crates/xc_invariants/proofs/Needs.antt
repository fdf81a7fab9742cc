-- The threads that are needed suffice.
use Rattle.std.proofs.Common.{◌≡◌, ◌≢◌, ◌⊎◌, inl, inr, ⊎_elim, ℕ, zero, suc, ◌+◌, ◌-◌, ◌<◌, ◌≤◌, max, Bool, true, false, IsTrue, List, [], ◌∷◌, ◌++◌, length, Option, Some, None, slice_get, slice_set, nat_lt, refl, sym, ap, ap₂, subst, ◌∙◌, append-nil, arith, true≢false}
use Rattle.xs_instr.specs.declared.image.Stim.{Stim}
use Rattle.xc_kernel.specs.Plain as kernel
use Rattle.xc_meaning.specs.States.Items.{Body, of_kernel, of_text, Item, does, says, stores, stamps, mark, awaits, transaction_end, chooses, fixed, ends}
use Rattle.xc_meaning.specs.States.Branches.{Mode, runs, waits, ended, erred, Branch}
use Rattle.xc_meaning.specs.States.Worlds.{World}
use Rattle.xc_meaning.specs.Settings.Setting.{Setting}
use Rattle.xc_meaning.specs.Settings.Par.{Begun, all_begun, children}
use Rattle.xc_meaning.specs.Settings.Select.{default_of}
use Rattle.xc_meaning.specs.Runs.{step_of, kernel_start}
use Rattle.xc_disjoint.specs.Threads as threads
use Rattle.xc_invariants.specs.Every.{AllItems, AllStatements, AllBody}
use Rattle.xc_invariants.specs.Each.{EachItem}
use Rattle.xc_invariants.specs.Sided.{BodyIs, DefaultIs}
use Rattle.xc_invariants.specs.Needs.{AnyInput, CodeWithin, NeedsWithin, sum_from, Budgeted, HasBudget, KeepsBudget, branches_in, takes, taken, taken_by, taken_in, needed_on, taken_on}
use Rattle.xc_disjoint.specs.Cores.{if_so}
use Rattle.xc_invariants.specs.Tree.{IsForest, IsWaiting}
use Rattle.xc_meaning.specs.Outline.{Becomes, goes, enters, exits, errs, ends_it, makes, Moved, ticked, stepped, joined}
use Rattle.xc_meaning.proofs.Basics.{some_given, none_given}
use Rattle.xc_invariants.proofs.Inherited.{Inherits, all_todo}
use Rattle.xc_invariants.proofs.Choices.{EachCase, known_each, choice_each}
use Rattle.xc_invariants.proofs.Lookups.{Behind, itself, there, new, behind, within, born}
use Rattle.xc_invariants.proofs.EachItems.{each_behind}
use Rattle.xc_invariants.proofs.Uses.{becomes_all}
use Rattle.xc_invariants.proofs.Trees.{Change, change, resumed, Waiter, before, opener, waiter, waiting_is, running_waits_not, made_length}

-- code needs at least one

pub statements_least : (ss : kernel.Statements) → 1 ≤ threads.of_statements ss
statements_least kernel.no_more = omega arith
statements_least (kernel.more s ss) = let h = statements_least ss in omega arith

-- parts need no more than the whole

module _ (most : ℕ) where
  pub within_statements : (ss : kernel.Statements) → threads.of_statements ss ≤ most → AllStatements (NeedsWithin most) ss
  within_statements kernel.no_more h = tt
  within_statements (kernel.more s ss) h = (omega arith, within_statements ss (omega arith))

  within_body : (b : Body) → BodyIs (CodeWithin most) b → AllBody (NeedsWithin most) b
  within_body (of_kernel ss) h = within_statements ss h
  within_body (of_text i) h = absurd h

  body_least : (b : Body) → BodyIs (CodeWithin most) b → 1 ≤ most
  body_least (of_kernel ss) h = let l = statements_least ss in omega arith
  body_least (of_text i) h = absurd h

  within_cases : (cs : kernel.Cases) → threads.of_cases cs ≤ most → EachCase AnyInput (CodeWithin most) cs
  within_cases kernel.no_case h = tt
  within_cases (kernel.more_cases (kernel.case guard input ss) cs) h = (tt, omega arith, within_cases cs (omega arith))

  within_default : (d : kernel.Default) → threads.of_default d ≤ most → DefaultIs (CodeWithin most) (default_of d)
  within_default kernel.no_default h = tt
  within_default (kernel.default ss) h = h

  pub needs_inherits : Inherits (NeedsWithin most)
  needs_inherits = record {
    stamp_sent = λ o place v e h. tt;
    answer = λ o d pos e h. tt;
    target = λ input place v e h. tt;
    stamp = λ input place v e h. tt;
    target_fixed = λ input x y place v e h. tt;
    stamp_fixed = λ input x y place v e h. tt;
    of_if = λ e a b h. (within_statements a (omega arith), within_statements b (omega arith));
    of_loop = λ e a b h. (within_statements a (omega arith), within_statements b (omega arith));
    of_block = λ n a h. (within_statements a h, tt);
    of_select = λ cs d pos store choices e h. (known_each AnyInput (CodeWithin most) store cs choices e (within_cases cs (omega arith)), within_default d (omega arith));
    of_choice = λ choices otherwise n a e h. let g = choice_each AnyInput (CodeWithin most) choices n a e h.0 in (body_least a.body g.1, λ v w. tt, within_body a.body g.1);
    of_default = λ choices body h. within_body body h.1;
    of_transaction = λ d is_master a start close h. (within_statements a h, tt, tt);
    of_end = λ d is_master pos h. tt;
  }

-- The budgets of new branches are what their code needs.

abbrev pub needs_at : List Begun → ℕ → ℕ
needs_at [] j = 1
needs_at (g ∷ gs) zero = threads.of_statements g.code
needs_at (g ∷ gs) (suc j) = needs_at gs j

abbrev pub total : List Begun → ℕ
total [] = 0
total (g ∷ gs) = threads.of_statements g.code + total gs

abbrev extended_by : Bool → ℕ → ℕ → ℕ
extended_by true a b = a
extended_by false a b = b

-- a function that goes on as another one from a number on
abbrev extended : (ℕ → ℕ) → ℕ → (ℕ → ℕ) → ℕ → ℕ
extended f n g k = extended_by (nat_lt k n) (f k) (g (k - n))

extended_below : (f : ℕ → ℕ) (n : ℕ) (g : ℕ → ℕ) (k : ℕ) → k < n → extended f n g k ≡ f k
extended_below f n g k lt = ap (λ b. extended_by b (f k) (g (k - n))) (let e : nat_lt k n ≡ true = grind arith in e)

extended_from : (f : ℕ → ℕ) (n : ℕ) (g : ℕ → ℕ) (j : ℕ) → extended f n g (n + j) ≡ g j
extended_from f n g j =
    ap (λ b. extended_by b (f (n + j)) (g (n + j - n))) (let e : nat_lt (n + j) n ≡ false = grind arith in e) ∙ ap g (let e : n + j - n ≡ j = omega arith in e)

sum_same : (f g : ℕ → ℕ) (from count : ℕ) → ((k : ℕ) → from ≤ k → k < from + count → f k ≡ g k) → sum_from f from count ≡ sum_from g from count
sum_same f g from zero h = refl
sum_same f g from (suc count) h = ap₂ ◌+◌ (h from (omega arith) (omega arith)) (sum_same f g (from + 1) count (λ k le lt. h k (omega arith) (omega arith)))

sum_needs : (gs : List Begun) (f : ℕ → ℕ) (from : ℕ) → ((j : ℕ) → f (from + j) ≡ needs_at gs j) → sum_from f from (length gs) ≡ total gs
sum_needs [] f from h = refl
sum_needs (g ∷ gs) f from h =
    ap₂ ◌+◌ (ap f (let e : from ≡ from + 0 = omega arith in e) ∙ h 0)
    (sum_needs gs f (from + 1) (λ j. ap f (let e : from + 1 + j ≡ from + suc j = omega arith in e) ∙ h (suc j)))

needs_least : (gs : List Begun) (j : ℕ) → 1 ≤ needs_at gs j
needs_least [] j = omega arith
needs_least (g ∷ gs) zero = statements_least g.code
needs_least (g ∷ gs) (suc j) = needs_least gs j

total_is : (bs : kernel.Branches) → total (all_begun bs) ≡ threads.of_branches bs
total_is kernel.no_branch = refl
total_is (kernel.more_branches (kernel.branch ss pos) bs) = ap (λ n. threads.of_statements ss + n) (total_is bs)

begun_needs : (bs : kernel.Branches) (j : ℕ) (g : Begun) → slice_get (all_begun bs) j ≡ Some g → AllItems (NeedsWithin (needs_at (all_begun bs) j)) g.items
begun_needs kernel.no_branch j g e = none_given e
begun_needs (kernel.more_branches (kernel.branch ss pos) bs) zero g e =
    subst (λ h. AllItems (NeedsWithin (threads.of_statements ss)) h.items) (some_given e)
    (all_todo (NeedsWithin (threads.of_statements ss)) ss (ends ∷ []) (within_statements (threads.of_statements ss) ss (omega arith)) (tt, tt))
begun_needs (kernel.more_branches (kernel.branch ss pos) bs) (suc j) g e = begun_needs bs j g e

-- Steps.
module _ (roots : List kernel.Root) (s : Setting) (now : Branch) (more : List Branch) (is : slice_get s.world.branches s.number ≡ Some s.branch)
    (forest : IsForest (length roots) s.world.branches) (ch : Change s now more) (budget : ℕ → ℕ) (h : Budgeted roots budget s.world.branches)
    (now_all : AllItems (NeedsWithin (budget s.number)) now.items) where
  -- the budgets behind the step, by the branches that it makes
  abbrev next : List Begun → ℕ → ℕ
  next gs = extended budget (length s.world.branches) (needs_at gs)

  module _ (gs : List Begun) (more_all : (j : ℕ) (c : Branch) → slice_get more j ≡ Some c → AllItems (NeedsWithin (needs_at gs j)) c.items)
      (opened : 0 < length more → (length more ≡ length gs) × (total gs ≤ budget s.number)) where
    at_old : (k : ℕ) → k < length s.world.branches → next gs k ≡ budget k
    at_old k lt = extended_below budget (length s.world.branches) (needs_at gs) k lt

    at_new : (j : ℕ) → next gs (length s.world.branches + j) ≡ needs_at gs j
    at_new j = extended_from budget (length s.world.branches) (needs_at gs) j

    items_after : EachItem (λ n sides. NeedsWithin (next gs n)) (slice_set s.world.branches s.number now ++ more)
    items_after =
        each_behind (λ n sides. NeedsWithin (budget n)) (λ n sides. NeedsWithin (next gs n)) s.world.branches s.number s.branch now more is h.items
        (λ k sides items lt all. subst (λ m. AllItems (NeedsWithin m) items) (sym (at_old k lt)) all) now_all
        (λ j c e. subst (λ m. AllItems (NeedsWithin m) c.items) (sym (at_new j)) (more_all j c e))

    some_after : (k : ℕ) (c : Branch) → Behind s.world.branches s.number now more k c → 1 ≤ next gs k
    some_after k c (itself ek ec) = let e = ap (next gs) ek ∙ at_old s.number (within s.world.branches s.number is) in let l = h.some s.number s.branch is in omega arith
    some_after k c (there ne e) = let f = at_old k (within s.world.branches k e) in let l = h.some k c e in omega arith
    some_after k c (new j ek e) = let f = ap (next gs) ek ∙ at_new j in let l = needs_least gs j in omega arith

    shares_after : (k : ℕ) (p : Branch) (from count : ℕ) → p.mode ≡ waits from count → Waiter s now more is k p from count → sum_from (next gs) from count ≤ next gs k
    shares_after k p from count ew (before ne e) =
        let f = forest.family k k p from count e ew in
        let g = f.3 in
        let same = sum_same (next gs) budget from count (λ m le lt. at_old m (omega arith)) in
        let own = at_old k (within s.world.branches k e) in
        let l = h.shares k p from count e ew in
        omega arith
    shares_after k p from count ew (opener hs lt ek ep em ef ec) =
        let m : length more ≡ length hs = ap length em ∙ made_length s (length hs) 0 [] hs in
        let o = opened (omega arith) in
        let own = ap (next gs) ek ∙ at_old s.number (within s.world.branches s.number is) in
        let sum : sum_from (next gs) from count ≡ total gs =
        (λ i. sum_from (next gs) (ef i) ((ec ∙ sym m ∙ o.0) i)) ∙ sum_needs gs (next gs) (length s.world.branches) at_new in
        let l = o.1 in
        omega arith

    pub budgeted_after : Budgeted roots (next gs) (slice_set s.world.branches s.number now ++ more)
    budgeted_after = record {
      items = items_after;
      some = λ k c e. some_after k c (behind s.world.branches s.number s.branch now more k c is e);
      shares = λ k p from count e ew. shares_after k p from count ew (waiter s now more is ch k p from count e ew);
      roots_have = λ j r e. at_old j (let t = forest.all_there in let w = within roots j e in omega arith) ∙ h.roots_have j r e;
    }

-- a step that makes no branches
quiet_after : (roots : List kernel.Root) (s : Setting) (now : Branch) → slice_get s.world.branches s.number ≡ Some s.branch → IsForest (length roots) s.world.branches → Change s now [] →
    (budget : ℕ → ℕ) → Budgeted roots budget s.world.branches → AllItems (NeedsWithin (budget s.number)) now.items → KeepsBudget roots budget (length s.world.branches) (slice_set s.world.branches s.number now ++ [])
quiet_after roots s now is forest ch budget h all = record {
  next = extended budget (length s.world.branches) (needs_at []);
  budgeted = budgeted_after roots s now [] is forest ch budget h all [] (λ j c e. none_given e) (λ lt. absurd (omega arith));
  same = λ k lt. extended_below budget (length s.world.branches) (needs_at []) k lt;
}

made_needs : (s : Setting) (bs : kernel.Branches) (gs : List Begun) → all_begun bs ≡ gs → (j : ℕ) (c : Branch) → slice_get (children s (length gs) 0 [] gs) j ≡ Some c → AllItems (NeedsWithin (needs_at gs j)) c.items
made_needs s bs gs e j c f =
    let b = born s (length gs) 0 [] gs j c f in
    let all = begun_needs bs j b.begun (ap (λ g. slice_get g j) e ∙ b.is_there) in
    subst (λ d. AllItems (NeedsWithin (needs_at gs j)) d.items) (sym b.is) (subst (λ g. AllItems (NeedsWithin (needs_at g j)) b.begun.items) e all)

step_after : (roots : List kernel.Root) (s : Setting) (item : Item) (now : Branch) (more : List Branch) → slice_get s.world.branches s.number ≡ Some s.branch → s.branch.mode ≡ runs → s.branch.items ≡ item ∷ s.rest →
    IsForest (length roots) s.world.branches → (budget : ℕ → ℕ) → Budgeted roots budget s.world.branches → AllItems (NeedsWithin (budget s.number)) (item ∷ s.rest) → Becomes s item now more → KeepsBudget roots budget (length s.world.branches) (slice_set s.world.branches s.number now ++ more)
step_after roots s item now more is em ei forest budget h all (goes one items l) =
    quiet_after roots s _ is forest (change s _ _ _ em (goes one items l)) budget h (becomes_all (NeedsWithin (budget s.number)) (needs_inherits (budget s.number)) s one _ [] (goes one items l) all.0 all.1)
step_after roots s item now more is em ei forest budget h all (enters one c items l) =
    quiet_after roots s _ is forest (change s _ _ _ em (enters one c items l)) budget h (becomes_all (NeedsWithin (budget s.number)) (needs_inherits (budget s.number)) s one _ [] (enters one c items l) all.0 all.1)
step_after roots s item now more is em ei forest budget h all (exits one items l) =
    quiet_after roots s _ is forest (change s _ _ _ em (exits one items l)) budget h (becomes_all (NeedsWithin (budget s.number)) (needs_inherits (budget s.number)) s one _ [] (exits one items l) all.0 all.1)
step_after roots s item now more is em ei forest budget h all (errs one) = quiet_after roots s _ is forest (change s _ _ _ em (errs one)) budget h tt
step_after roots s item now more is em ei forest budget h all ends_it = quiet_after roots s _ is forest (change s _ _ _ em ends_it) budget h tt
step_after roots s item now more is em ei forest budget h all (makes bs b others e) = record {
  next = extended budget (length s.world.branches) (needs_at (b ∷ others));
  budgeted =
      budgeted_after roots s _ (children s (length (b ∷ others)) 0 [] (b ∷ others)) is forest (change s _ _ _ em (makes bs b others e)) budget h all.1 (b ∷ others) (made_needs s bs (b ∷ others) e)
      (λ lt. (made_length s (length (b ∷ others)) 0 [] (b ∷ others), let t = ap total (sym e) ∙ total_is bs in let n = all.0 in omega arith));
  same = λ k lt. extended_below budget (length s.world.branches) (needs_at (b ∷ others)) k lt;
}

pub needs_stay : (roots : List kernel.Root) (K : kernel.Kernel) (stim : Stim) (x : World) {y : World} → IsForest (length roots) x.branches → (budget : ℕ → ℕ) → Budgeted roots budget x.branches →
    Moved K stim x y → KeepsBudget roots budget (length x.branches) y.branches
needs_stay roots K stim x forest budget h (ticked clocks) = record { next = budget; budgeted = h; same = λ k lt. refl }
needs_stay roots K stim x forest budget h (stepped n b item rest z is em ei o) =
    subst (KeepsBudget roots budget (length x.branches)) (sym o.branches)
    (step_after roots (step_of K stim x n b rest) item o.now o.more is em ei forest budget h (subst (AllItems (NeedsWithin (budget n))) ei (h.items.all n b is)) o.becomes)
needs_stay roots K stim x forest budget h (joined n b from count is em d) =
    subst (KeepsBudget roots budget (length x.branches)) (append-nil (slice_set x.branches n (record b { mode = runs })))
    (quiet_after roots (step_of K stim x n b b.items) (record b { mode = runs }) is forest (resumed (step_of K stim x n b b.items)) budget h (h.items.all n b is))

pub needs_kept : (roots : List kernel.Root) (K : kernel.Kernel) (stim : Stim) (x : World) {y : World} → IsForest (length roots) x.branches → HasBudget roots x.branches → Moved K stim x y → HasBudget roots y.branches
needs_kept roots K stim x forest h m = let k = needs_stay roots K stim x forest h.budget h.budgeted m in record { budget = k.next; budgeted = k.budgeted }

-- What is taken at any moment is at most what the roots need.

branches_least : (bs : kernel.Branches) → branches_in bs ≤ threads.of_branches bs
branches_least kernel.no_branch = omega arith
branches_least (kernel.more_branches (kernel.branch ss pos) bs) = let h = branches_least bs in let l = statements_least ss in omega arith

takes_within : (most : ℕ) (items : List Item) → 1 ≤ most → AllItems (NeedsWithin most) items → takes items ≤ most
takes_within most [] le h = le
takes_within most (does (kernel.par bs) ∷ rest) le h = let l = branches_least bs in let n = h.0 in omega arith
takes_within most (does (kernel.set_zero v) ∷ rest) le h = le
takes_within most (does (kernel.set p e) ∷ rest) le h = le
takes_within most (does (kernel.output o) ∷ rest) le h = le
takes_within most (does (kernel.input i) ∷ rest) le h = le
takes_within most (does (kernel.if_then e a b) ∷ rest) le h = le
takes_within most (does (kernel.loop e a b) ∷ rest) le h = le
takes_within most (does (kernel.block n a) ∷ rest) le h = le
takes_within most (does (kernel.exit n) ∷ rest) le h = le
takes_within most (does (kernel.select cs d pos) ∷ rest) le h = le
takes_within most (does (kernel.transaction c is_master a start close) ∷ rest) le h = le
takes_within most (says i ∷ rest) le h = le
takes_within most (stores p v ∷ rest) le h = le
takes_within most (stamps resource p v ∷ rest) le h = le
takes_within most (mark n ∷ rest) le h = le
takes_within most (awaits c pos ∷ rest) le h = le
takes_within most (transaction_end c is_master pos ∷ rest) le h = le
takes_within most (chooses choices otherwise ∷ rest) le h = le
takes_within most (fixed i v counter ∷ rest) le h = le
takes_within most (ends ∷ rest) le h = le

sum_most : (f g : ℕ → ℕ) (from count : ℕ) → ((k : ℕ) → f k ≤ g k) → sum_from f from count ≤ sum_from g from count
sum_most f g from zero h = omega arith
sum_most f g from (suc count) h = let a = h from in let b = sum_most f g (from + 1) count h in omega arith

module _ (roots : List kernel.Root) (bs : List Branch) (budget : ℕ → ℕ) (h : Budgeted roots budget bs) where
  taken_mode : (below : ℕ → ℕ) → ((k : ℕ) → below k ≤ budget k) → (n : ℕ) (b : Branch) → slice_get bs n ≡ Some b → (m : Mode) → b.mode ≡ m → taken_in below b.items m ≤ budget n
  taken_mode below le n b e runs em = takes_within (budget n) b.items (h.some n b e) (h.items.all n b e)
  taken_mode below le n b e (waits from count) em = let s = h.shares n b from count e em in let t = sum_most below budget from count le in omega arith
  taken_mode below le n b e ended em = takes_within (budget n) b.items (h.some n b e) (h.items.all n b e)
  taken_mode below le n b e erred em = takes_within (budget n) b.items (h.some n b e) (h.items.all n b e)

  taken_branch : (below : ℕ → ℕ) → ((k : ℕ) → below k ≤ budget k) → (n : ℕ) (o : Option Branch) → slice_get bs n ≡ o → taken_by below o ≤ budget n
  taken_branch below le n None e = omega arith
  taken_branch below le n (Some b) e = taken_mode below le n b e b.mode refl

  pub taken_within : (depth n : ℕ) → taken depth bs n ≤ budget n
  taken_within zero n = omega arith
  taken_within (suc depth) n = taken_branch (taken depth bs) (taken_within depth) n (slice_get bs n) refl

  -- a branch that doesn't wait has what it takes
  goes_takes : (n : ℕ) (b : Branch) → slice_get bs n ≡ Some b → (IsWaiting b.mode → ⊥) → (m : Mode) → b.mode ≡ m → takes b.items ≤ budget n
  goes_takes n b e w runs em = takes_within (budget n) b.items (h.some n b e) (h.items.all n b e)
  goes_takes n b e w (waits from count) em = absurd (w (waiting_is em))
  goes_takes n b e w ended em = takes_within (budget n) b.items (h.some n b e) (h.items.all n b e)
  goes_takes n b e w erred em = takes_within (budget n) b.items (h.some n b e) (h.items.all n b e)

  pub has_what_it_takes : (n : ℕ) (b : Branch) → slice_get bs n ≡ Some b → (IsWaiting b.mode → ⊥) → takes b.items ≤ budget n
  has_what_it_takes n b e w = goes_takes n b e w b.mode refl

  if_most : (b : Bool) (m n : ℕ) → m ≤ n → if_so b m ≤ if_so b n
  if_most true m n le = le
  if_most false m n le = omega arith

  taken_from : (depth core number : ℕ) (rs : List kernel.Root) → ((j : ℕ) (r : kernel.Root) → slice_get rs j ≡ Some r → budget (number + j) ≡ threads.of_statements r.body) → taken_on depth bs core number rs ≤ needed_on core rs
  taken_from depth core number [] k = omega arith
  taken_from depth core number (r ∷ rs) k =
      let a = taken_within depth number in
      let e = ap budget (let z : number ≡ number + 0 = omega arith in z) ∙ k 0 r refl in
      let i = if_most (Rattle.std.proofs.Common.nat_eq r.core core) (taken depth bs number) (threads.of_statements r.body) (omega arith) in
      let g = taken_from depth core (number + 1) rs (λ j q f. ap budget (let z : number + 1 + j ≡ number + suc j = omega arith in z) ∙ k (suc j) q f) in
      omega arith

-- at most what the roots on a core need
pub threads_suffice : (roots : List kernel.Root) (bs : List Branch) → HasBudget roots bs → (depth core : ℕ) → taken_on depth bs core 0 roots ≤ needed_on core roots
threads_suffice roots bs h depth core = taken_from roots bs h.budget h.budgeted depth core 0 roots (λ j r e. ap h.budget (let z : 0 + j ≡ j = omega arith in z) ∙ h.budgeted.roots_have j r e)

-- at the start
abbrev needs_of_roots : List kernel.Root → ℕ → ℕ
needs_of_roots [] j = 1
needs_of_roots (r ∷ rs) zero = threads.of_statements r.body
needs_of_roots (r ∷ rs) (suc j) = needs_of_roots rs j

needs_of_root : (rs : List kernel.Root) (j : ℕ) (r : kernel.Root) → slice_get rs j ≡ Some r → needs_of_roots rs j ≡ threads.of_statements r.body
needs_of_root [] j r e = none_given e
needs_of_root (q ∷ rs) zero r e = ap (λ a. threads.of_statements a.body) (some_given e)
needs_of_root (q ∷ rs) (suc j) r e = needs_of_root rs j r e

pub needs_begin : (K : kernel.Kernel) → HasBudget K.roots (kernel_start K).branches
needs_begin K = record {
  budget = needs_of_roots K.roots;
  budgeted = record {
    items = record {
      all = λ n b e.
          let r = Rattle.xc_invariants.proofs.Starts.start_at K n b e in
          let m = needs_of_root K.roots n r.root r.is_there in
          subst (AllItems (NeedsWithin (needs_of_roots K.roots n))) (sym (ap (λ d. d.items) r.is))
          (all_todo (NeedsWithin (needs_of_roots K.roots n)) r.root.body (ends ∷ []) (within_statements (needs_of_roots K.roots n) r.root.body (omega arith)) (tt, tt));
    };
    some = λ n b e.
        let r = Rattle.xc_invariants.proofs.Starts.start_at K n b e in
        let m = needs_of_root K.roots n r.root r.is_there in
        let l = statements_least r.root.body in
        omega arith;
    shares = λ n b from count e ew.
        let r = Rattle.xc_invariants.proofs.Starts.start_at K n b e in
        let em : b.mode ≡ runs = ap (λ d. d.mode) r.is in
        running_waits_not em (waiting_is ew);
    roots_have = λ j r e. needs_of_root K.roots j r e;
  };
}
