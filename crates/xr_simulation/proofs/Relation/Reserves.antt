-- The reserves of the branches last.
use Rattle.std.proofs.Common.{◌≡◌, ◌≢◌, ⊎_elim, ℕ, zero, suc, ◌+◌, ◌<◌, ◌≤◌, List, [], ◌∷◌, length, Option, Some, None, refl, sym, subst, arith}
use Rattle.std.specs.Prelude.{slice_get}
use Rattle.std.proofs.lemmas.Bool.{cases_eq}
use Rattle.std.proofs.lemmas.Option.{slice_get_within}
use Rattle.xs_instr.specs.declared.image.Stim.{Stim}
use Rattle.xc_kernel.specs.Plain as kernel
use Rattle.xc_meaning.specs.Runs.{acts, acts_all}
use Rattle.xc_meaning.specs.States.Branches.{Branch, waits}
use Rattle.xc_meaning.specs.States.Worlds.{Action, World}
use Rattle.xc_meaning.proofs.Basics.{some_given, none_given}
use Rattle.xc_invariants.specs.Lawful.{Lawful}
use Rattle.xc_invariants.specs.Needs.{sum_from}
use Rattle.xc_invariants.proofs.Always.{branches_stay, budgets_stay, laws_kept}
use Rattle.xr_simulation.specs.Roles.{HasReserves, Roles, used_by}
use Rattle.xr_simulation.specs.Runners.{Setting, Runner}
use Rattle.xr_simulation.specs.ThreadViews.{giving_back}

-- those who have a synchroniser to give back are among those who had one, and run the same branches
pub record GiveAsBefore (who who' : Roles) : Type 0 where
  pub before : (c t n : ℕ) (r : Runner) → who' c t ≡ used_by r (giving_back n) →
      (s : Runner) × (m : ℕ) × (who c t ≡ used_by s (giving_back m)) × (s.branch ≡ r.branch)

-- what is at a place of a list
pub there_below : {A : Type 0} (xs : List A) (n : ℕ) → n < length xs → (x : A) × (slice_get xs n ≡ Some x)
there_below [] n lt = absurd (let z : ⊥ = omega (arith, lt) in z)
there_below (x ∷ xs) zero lt = (x, refl)
there_below (x ∷ xs) (suc n) lt = there_below xs n (omega (arith, lt))

-- the same, but for one thread, which has joined the branches of a `par`: the maker's branch waits for several
pub record GivesOneMore (who who' : Roles) (core thread : ℕ) (x : World) : Type 0 where
  pub before : (c t n : ℕ) (r : Runner) → ((c ≡ core) × (t ≡ thread) → ⊥) → who' c t ≡ used_by r (giving_back n) →
      (s : Runner) × (m : ℕ) × (who c t ≡ used_by s (giving_back m)) × (s.branch ≡ r.branch)
  pub maker : ℕ
  pub branch : Branch
  pub known : slice_get x.branches maker ≡ Some branch
  pub from : ℕ
  pub count : ℕ
  pub waiting : branch.mode ≡ waits from count
  pub several : 2 ≤ count
  pub here : (n : ℕ) (r : Runner) → who' core thread ≡ used_by r (giving_back n) → r.branch ≡ maker

-- so many branches, of which each has one at least, have as many together
as_many : (budget : ℕ → ℕ) (from count : ℕ) → ((k : ℕ) → from ≤ k → k < from + count → 1 ≤ budget k) → count ≤ sum_from budget from count
as_many budget from zero h = omega arith
as_many budget from (suc count) h =
    let a = h from (omega arith) (omega arith) in
    let b = as_many budget (from + 1) count (λ k le lt. h k (omega arith) (omega arith)) in
    omega arith

-- a piece of the program's run leaves the laws
laws_by : (K : kernel.Kernel) (s : Stim) (ms : List Action) (o : Option World) (y : World) → ((x : World) → o ≡ Some x → Lawful K x) → acts_all K s o ms ≡ Some y → Lawful K y
laws_by K s ms None y h e = absurd (none_given e)
laws_by K s [] (Some x) y h e = h y e
laws_by K s (m ∷ ms) (Some x) y h e = laws_by K s ms (acts K s x m) y (λ z f. laws_kept K s x z m f (h x refl)) e

pub laws_behind : (g : Setting) (x : World) → Lawful g.program x → (piece : List Action) (y : World) → acts_all g.program g.stimulus (Some x) piece ≡ Some y → Lawful g.program y
laws_behind g x h piece y e = laws_by g.program g.stimulus piece (Some x) y (λ z f. subst (Lawful g.program) (some_given f) h) e

-- where nobody has a synchroniser to give back, the laws have them
pub reserves_begin : (g : Setting) (who : Roles) (x : World) → Lawful g.program x → ((c t n : ℕ) (r : Runner) → who c t ≡ used_by r (giving_back n) → ⊥) → HasReserves g who x
reserves_begin g who x lawful none = record {
  budget = lawful.budget.budget;
  budgeted = lawful.budget.budgeted;
  there = λ c t n r e. absurd (none c t n r e);
  gives_back = λ c t n r e. absurd (none c t n r e);
}

module _ (g : Setting) (who : Roles) (x : World) (has : HasReserves g who x) where
  pub reserves_of_others : (who' : Roles) → GiveAsBefore who who' → HasReserves g who' x
  reserves_of_others who' like = record {
    budget = has.budget;
    budgeted = has.budgeted;
    there = λ c t n r e. let b = like.before c t n r e in subst (λ k. k < length x.branches) b.3 (has.there c t b.1 b.0 b.2);
    gives_back = λ c t n r e. let b = like.before c t n r e in subst (λ k. 2 ≤ has.budget k) b.3 (has.gives_back c t b.1 b.0 b.2);
  }

  module _ (lawful : Lawful g.program x) where
    -- One more, which has joined.
    module _ (who' : Roles) (core thread : ℕ) (more : GivesOneMore who who' core thread x) where
      maker_there : more.maker < length x.branches
      maker_there = slice_get_within x.branches more.maker more.branch more.known

      maker_has : 2 ≤ has.budget more.maker
      maker_has =
          let family = lawful.forest.family more.maker more.maker more.branch more.from more.count more.known more.waiting in
          let shares = has.budgeted.shares more.maker more.branch more.from more.count more.known more.waiting in
          let inside = family.3 in
          let each : (k : ℕ) → more.from ≤ k → k < more.from + more.count → 1 ≤ has.budget k =
          λ k le lt. let b = there_below x.branches k (omega arith) in has.budgeted.some k b.0 b.1 in
          let all = as_many has.budget more.from more.count each in
          let several = more.several in
          omega (arith, shares, all, several)

      pub reserves_of_one_more : HasReserves g who' x
      reserves_of_one_more = record {
        budget = has.budget;
        budgeted = has.budgeted;
        there = λ c t n r e.
            which_is (λ k. k < length x.branches) c t n r e (λ s m f. has.there c t m s f) maker_there;
        gives_back = λ c t n r e.
            which_is (λ k. 2 ≤ has.budget k) c t n r e (λ s m f. has.gives_back c t m s f) maker_has;
      }
        where
          which_is : (P : ℕ → Type 0) (c t n : ℕ) (r : Runner) → who' c t ≡ used_by r (giving_back n) →
              ((s : Runner) (m : ℕ) → who c t ≡ used_by s (giving_back m) → P s.branch) → P more.maker → P r.branch
          which_is P c t n r e old new =
              ⊎_elim
              (λ (ec : c ≡ core).
              ⊎_elim
              (λ (et : t ≡ thread).
              let here : who' core thread ≡ used_by r (giving_back n) = subst (λ k. who' k thread ≡ used_by r (giving_back n)) ec (subst (λ k. who' c k ≡ used_by r (giving_back n)) et e) in
              subst P (sym (more.here n r here)) new)
              (λ (ne : t ≢ thread). let b = more.before c t n r (λ q. ne q.1) e in subst P b.3 (old b.0 b.1 b.2))
              (cases_eq t thread))
              (λ (ne : c ≢ core). let b = more.before c t n r (λ q. ne q.0) e in subst P b.3 (old b.0 b.1 b.2))
              (cases_eq c core)

    -- an action of the program leaves them
    pub reserves_after : (m : Action) (y : World) → acts g.program g.stimulus x m ≡ Some y → HasReserves g who y
    reserves_after m y e =
        let k = budgets_stay g.program g.stimulus x y m has.budget lawful has.budgeted e in
        let grows = branches_stay g.program g.stimulus x y m lawful e in
        record {
          budget = k.next;
          budgeted = k.budgeted;
          there = λ c t n r f.
              let b = there_below x.branches r.branch (has.there c t n r f) in
              let still = grows.still r.branch b.0 b.1 in
              slice_get_within y.branches r.branch still.0 still.1;
          gives_back = λ c t n r f.
              let two = has.gives_back c t n r f in
              let same = k.same r.branch (has.there c t n r f) in
              omega (arith, two, same);
        }

-- and so does a piece of its run
reserves_by : (g : Setting) (who : Roles) (ms : List Action) (o : Option World) (y : World) → ((x : World) → o ≡ Some x → Lawful g.program x × HasReserves g who x) →
    acts_all g.program g.stimulus o ms ≡ Some y → HasReserves g who y
reserves_by g who ms None y h e = absurd (none_given e)
reserves_by g who [] (Some x) y h e = (h y e).1
reserves_by g who (m ∷ ms) (Some x) y h e =
    reserves_by g who ms (acts g.program g.stimulus x m) y
    (λ z f. let b = h x refl in (laws_kept g.program g.stimulus x z m f b.0, reserves_after g who x b.1 b.0 m z f)) e

pub reserves_behind : (g : Setting) (who : Roles) (x : World) → Lawful g.program x → HasReserves g who x → (piece : List Action) (y : World) →
    acts_all g.program g.stimulus (Some x) piece ≡ Some y → HasReserves g who y
reserves_behind g who x lawful has piece y e =
    reserves_by g who piece (Some x) y (λ z f. (subst (Lawful g.program) (some_given f) lawful, subst (HasReserves g who) (some_given f) has)) e
