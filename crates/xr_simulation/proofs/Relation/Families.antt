-- Branches that runners stand for are present, and some runner is tied to nobody.
use Rattle.std.proofs.Common.{◌≡◌, inl, inr, ℕ, zero, suc, ◌+◌, ◌<◌, ◌≤◌, List, [], ◌∷◌, length, Option, Some, None, refl, sym, subst, arith}
use Rattle.std.specs.Prelude.{slice_get}
use Rattle.xc_meaning.specs.States.Branches.{Branch, waits}
use Rattle.xc_meaning.specs.States.Worlds.{World}
use Rattle.xc_invariants.specs.Lawful.{Lawful}
use Rattle.xc_invariants.specs.Tree.{IsChild, IsPresent, root, child}
use Rattle.xl_par.specs.Acquired.{Acquired}
use Rattle.xr_simulation.specs.Parents.{Parent}
use Rattle.xr_simulation.specs.Roles.{AreRoles, IsParent, ParentsWait, ParentWaits, Roles, outermost, used_by}
use Rattle.xr_simulation.specs.Runners.{Setting, Runner}
use Rattle.xr_simulation.proofs.OwnSteps.Branch.{Works}

module _ (g : Setting) (x : World) (lawful : Lawful g.program x) where
  abbrev Present : ℕ → Type 0
  Present n = IsPresent (length g.program.roots) x.branches n

  -- one that waits, by its number
  pub record Waiter (n from count : ℕ) : Type 0 where
    pub branch : Branch
    pub known : slice_get x.branches n ≡ Some branch
    pub mode : branch.mode ≡ waits from count

  -- it waits for each of its own
  pub waits_for : (n from count k : ℕ) → Waiter n from count → from ≤ k → k < from + count → IsChild x.branches n k
  waits_for n from count k w le lt = record { parent = w.branch; is = w.known; from = from; count = count; waiting = w.mode; least = le; less = lt }

  -- and has a smaller number than they
  pub before_own : (n from count : ℕ) → Waiter n from count → n < from
  before_own n from count w = (lawful.forest.family n n w.branch from count w.known w.mode).0

  pub some_own : (n from count : ℕ) → Waiter n from count → 0 < count
  some_own n from count w = (lawful.forest.family n n w.branch from count w.known w.mode).2

  waiter_of : (core family first : ℕ) (p : Parent) → ParentWaits g x core family p first → Waiter p.branch p.from p.count
  waiter_of core family first p w = record { branch = w.branch; known = w.known; mode = w.mode }

  -- Parents.
  module _ (core family : ℕ) where
    -- each of them waits
    pub parent_waits : (ps : List Parent) (first : ℕ) (p : Parent) → ParentsWait g x core family ps first → IsParent ps p → Waiter p.branch p.from p.count
    parent_waits [] first p h i = absurd i
    parent_waits (q ∷ qs) first p h (inl e) = subst (λ (k : Parent). Waiter k.branch k.from k.count) (sym e) (waiter_of core family first q h.0)
    parent_waits (q ∷ qs) first p h (inr i) = parent_waits qs q.branch p h.1 i

    -- where it has a synchroniser, for several
    pub parent_several : (ps : List Parent) (first n : ℕ) (p : Parent) → ParentsWait g x core family ps first → IsParent ps p → p.sync ≡ Some n → 2 ≤ p.count
    parent_several [] first n p h i s = absurd i
    parent_several (q ∷ qs) first n p h (inl e) s = subst (λ (k : Parent). 2 ≤ k.count) (sym e) (h.0.several n (subst (λ (k : Parent). k.sync ≡ Some n) e s))
    parent_several (q ∷ qs) first n p h (inr i) s = parent_several qs q.branch n p h.1 i s

    -- the outermost one has the smallest number
    pub outermost_least : (ps : List Parent) (first : ℕ) → ParentsWait g x core family ps first → outermost first ps ≤ first
    outermost_least [] first h = omega arith
    outermost_least (q ∷ qs) first h =
        let a = outermost_least qs q.branch h.1 in
        let w = waiter_of core family first q h.0 in
        let b = before_own q.branch q.from q.count w in
        let e = h.0.first_is in
        omega (arith, a, b, e)

    pub parent_least : (ps : List Parent) (first : ℕ) (p : Parent) → ParentsWait g x core family ps first → IsParent ps p → outermost first ps ≤ p.branch
    parent_least [] first p h i = absurd i
    parent_least (q ∷ qs) first p h (inl e) = subst (λ (k : Parent). outermost q.branch qs ≤ k.branch) (sym e) (outermost_least qs q.branch h.1)
    parent_least (q ∷ qs) first p h (inr i) = parent_least qs q.branch p h.1 i

    -- where that is present, all are
    pub first_present : (ps : List Parent) (first : ℕ) → ParentsWait g x core family ps first → Present (outermost first ps) → Present first
    first_present [] first h here = here
    first_present (q ∷ qs) first h here =
        let w = waiter_of core family first q h.0 in
        let e = h.0.first_is in
        let c = some_own q.branch q.from q.count w in
        child (first_present qs q.branch h.1 here) (waits_for q.branch q.from q.count first w (omega (arith, e)) (omega (arith, e, c)))

    pub parent_present : (ps : List Parent) (first : ℕ) (p : Parent) → ParentsWait g x core family ps first → IsParent ps p → Present (outermost first ps) → Present p.branch
    parent_present [] first p h i here = absurd i
    parent_present (q ∷ qs) first p h (inl e) here = subst (λ (k : Parent). Present k.branch) (sym e) (first_present qs q.branch h.1 here)
    parent_present (q ∷ qs) first p h (inr i) here = parent_present qs q.branch p h.1 i here

  -- The runners of a core.
  module _ (who : Roles) (roles : AreRoles g who) (c : ℕ) (works : (t : ℕ) (r : Runner) (hand : Option Acquired) → who c t ≡ used_by r hand → Works g x r hand) where
    -- whose thread a tied one's is: one of a smaller family waits for it
    pub record IsTiedTo (s : Runner) : Type 0 where
      pub thread : ℕ
      pub runner : Runner
      pub hand : Option Acquired
      pub runs : who c thread ≡ used_by runner hand
      pub less : runner.family < s.family
      pub present : Present runner.family → Present s.family

    pub tied_to : (u n : ℕ) (s : Runner) (other : Option Acquired) → who c u ≡ used_by s other → s.tie ≡ Some n → IsTiedTo s
    tied_to u n s other e tie =
        let h = roles.tied c u n s other e tie in
        let t = h.0 in
        let j = h.1 in
        let r = h.2 in
        let hand = h.3 in
        let p = h.4 in
        let runs_r = h.5 in
        let is_parent = h.6 in
        let more = h.8 in
        let few = h.9 in
        let number = h.10 in
        let w = works t r hand runs_r in
        let waiter = parent_waits r.core r.family r.parents r.branch p w.parents is_parent in
        let least = parent_least r.core r.family r.parents r.branch p w.parents is_parent in
        let started = roles.started c t r hand runs_r in
        let before = before_own p.branch p.from p.count waiter in
        record {
          thread = t;
          runner = r;
          hand = hand;
          runs = runs_r;
          less = omega (arith, least, started, before, number);
          present = λ here.
              child (parent_present r.core r.family r.parents r.branch p w.parents is_parent (subst Present (sym started) here))
              (waits_for p.branch p.from p.count s.family waiter (omega (arith, number)) (omega (arith, number, few)));
        }

    -- the branch with which a runner's thread began is present
    family_by : (fuel t : ℕ) (r : Runner) (hand : Option Acquired) → who c t ≡ used_by r hand → r.family < fuel → Present r.family
    family_by zero t r hand e lt = absurd (let z : ⊥ = omega (arith, lt) in z)
    family_by (suc fuel) t r hand e lt = by r.tie refl (λ (o : IsTiedTo r). family_by fuel o.thread o.runner o.hand o.runs (let l = o.less in omega (arith, l, lt)))
      where
        by : (tie : Option ℕ) → r.tie ≡ tie → ((o : IsTiedTo r) → Present o.runner.family) → Present r.family
        by None q next = root (roles.untied c t r hand e q)
        by (Some n) q next = let o = tied_to t n r hand e q in o.present (next o)

    -- so the one that it runs is
    pub runner_present : (t : ℕ) (r : Runner) (hand : Option Acquired) → who c t ≡ used_by r hand → Present r.branch
    runner_present t r hand e =
        let here = family_by (suc r.family) t r hand e (omega arith) in
        first_present r.core r.family r.parents r.branch (works t r hand e).parents (subst Present (sym (roles.started c t r hand e)) here)

    -- a runner that is tied to nobody
    pub record SomeUntied : Type 0 where
      pub thread : ℕ
      pub runner : Runner
      pub hand : Option Acquired
      pub runs : who c thread ≡ used_by runner hand
      pub untied : runner.tie ≡ None

    untied_by : (fuel t : ℕ) (r : Runner) (hand : Option Acquired) → who c t ≡ used_by r hand → r.family < fuel → SomeUntied
    untied_by zero t r hand e lt = absurd (let z : ⊥ = omega (arith, lt) in z)
    untied_by (suc fuel) t r hand e lt = by r.tie refl (λ (o : IsTiedTo r). untied_by fuel o.thread o.runner o.hand o.runs (let l = o.less in omega (arith, l, lt)))
      where
        by : (tie : Option ℕ) → r.tie ≡ tie → ((o : IsTiedTo r) → SomeUntied) → SomeUntied
        by None q next = record { thread = t; runner = r; hand = hand; runs = e; untied = q }
        by (Some n) q next = next (tied_to t n r hand e q)

    pub some_untied : (t : ℕ) (r : Runner) (hand : Option Acquired) → who c t ≡ used_by r hand → SomeUntied
    some_untied t r hand e = untied_by (suc r.family) t r hand e (omega arith)
