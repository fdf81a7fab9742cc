-- The ports and timers that the roots of a checked kernel use are listed, and on their cores.
use Rattle.std.proofs.Common.{◌≡◌, ◌⊎◌, ⊎_elim, ℕ, zero, suc, Bool, true, List, [], ◌∷◌, ◌++◌, length, Contains, Option, Some, None, slice_get, nat_eq, refl, sym, ap, subst, ◌∙◌, true≢false, arith}
use Rattle.xc_kernel.specs.declared.kernel.PortUse.{PortUse}
use Rattle.xc_kernel.specs.declared.statement.KRes.{KRes}
use Rattle.xc_kernel.specs.declared.statement.KRes.TheVariants.{Port, Timer, Chan}
use Rattle.xc_kernel.specs.Plain as kernel
use Rattle.xc_kernel.specs.Things.{port, timer, by_resource, by_statements}
use Rattle.xc_kernel.specs.Uses as uses
use Rattle.xc_kernel.specs.Uses.{Use}
use Rattle.xc_disjoint.specs.Checked.{IsChecked}
use Rattle.xc_disjoint.specs.Rules.{elsewhere}
use Rattle.xc_wellformed.specs.Each.{AnyExpression, AnyPlace, AnyNumber, EachMaybe, EachPlace, EachCondition, EachInput, EachStatement, EachOf, EachCase, EachDefault, EachBranch, EachRoot}
use Rattle.xc_wellformed.specs.Numbers.{NumbersInExpression, NumbersInPlace}
use Rattle.xc_wellformed.specs.Cores.{IsOn, TimerOn, ResourceOn, OutputOn, InputOn}
use Rattle.xc_wellformed.specs.Transfers.{can_drive, can_read, IsPort, OutputGoes, InputComes, GoesOut, ComesIn}
use Rattle.xc_wellformed.proofs.Formed.{of_programs}
use Rattle.xl_plan.proofs.Lists.{some_given, none_given, contained_at, contains_at}
use Rattle.xl_plan.proofs.Used.{resource_used}
use Rattle.xl_plan.proofs.Roots.{own_at}

same_or_not : (a b : ℕ) → (a ≡ b) ⊎ (a ≡ b → ⊥)
same_or_not a b = grind arith

module _ (P : KRes → Type 0) where
  abbrev AllUses : List Use → Type 0
  AllUses [] = Unit {0}
  AllUses (u ∷ us) = P u.resource × AllUses us

  all_uses : (us : List Use) → ((i : ℕ) (u : Use) → slice_get us i ≡ Some u → P u.resource) → AllUses us
  all_uses [] f = tt
  all_uses (u ∷ us) f = (f 0 u refl, all_uses us (λ i v e. f (suc i) v e))

  split : (us vs : List Use) → AllUses (us ++ vs) → AllUses us × AllUses vs
  split [] vs h = (tt, h)
  split (u ∷ us) vs h = let g = split us vs h.1 in ((h.0, g.0), g.1)

  abbrev Out : kernel.Output → Type 0
  Out o = P o.resource

  abbrev In : kernel.Input → Type 0
  In i = P i.resource

  any_maybe : (e : Option kernel.Expression) → EachMaybe AnyExpression AnyPlace AnyNumber Out In AnyNumber e
  any_maybe None = tt
  any_maybe (Some e) = tt

  any_place : (p : Option kernel.Place) → EachPlace AnyExpression AnyPlace AnyNumber Out In AnyNumber p
  any_place None = tt
  any_place (Some p) = tt

  any_condition : (c : Option kernel.Condition) → EachCondition AnyExpression AnyPlace AnyNumber Out In AnyNumber c
  any_condition None = tt
  any_condition (Some c) = tt

  an_input : (i : kernel.Input) → P i.resource → EachInput AnyExpression AnyPlace AnyNumber Out In AnyNumber i
  an_input i h = (h, (any_maybe i.time, (any_condition i.condition, (any_place i.target, any_place i.stamp))))

  mutual
    each_statement : (s : kernel.Statement) → AllUses (uses.of_statement s) → EachStatement AnyExpression AnyPlace AnyNumber Out In AnyNumber s
    each_statement (kernel.set_zero v) h = tt
    each_statement (kernel.set p e) h = (tt, tt)
    each_statement (kernel.output o) h = (h.0, (any_maybe o.time, (tt, any_place o.stamp)))
    each_statement (kernel.input i) h = an_input i h.0
    each_statement (kernel.if_then test a b) h = let g = split (uses.of_statements a) (uses.of_statements b) h in (tt, (each_of a g.0, each_of b g.1))
    each_statement (kernel.loop test a b) h = let g = split (uses.of_statements a) (uses.of_statements b) h in (tt, (each_of a g.0, each_of b g.1))
    each_statement (kernel.block n a) h = each_of a h
    each_statement (kernel.exit n) h = tt
    each_statement (kernel.select cs d pos) h = let g = split (uses.of_cases cs) (uses.of_default d) h in (each_case cs g.0, each_default d g.1)
    each_statement (kernel.par bs) h = each_branch bs h
    each_statement (kernel.transaction c is_master a start close) h = (tt, each_of a h.1)

    each_of : (ss : kernel.Statements) → AllUses (uses.of_statements ss) → EachOf AnyExpression AnyPlace AnyNumber Out In AnyNumber ss
    each_of kernel.no_more h = tt
    each_of (kernel.more s ss) h = let g = split (uses.of_statement s) (uses.of_statements ss) h in (each_statement s g.0, each_of ss g.1)

    each_case : (cs : kernel.Cases) → AllUses (uses.of_cases cs) → EachCase AnyExpression AnyPlace AnyNumber Out In AnyNumber cs
    each_case kernel.no_case h = tt
    each_case (kernel.more_cases (kernel.case guard i a) cs) h = let g = split (uses.of_case (kernel.case guard i a)) (uses.of_cases cs) h in ((any_maybe guard, (an_input i g.0.0, each_of a g.0.1)), each_case cs g.1)

    each_default : (d : kernel.Default) → AllUses (uses.of_default d) → EachDefault AnyExpression AnyPlace AnyNumber Out In AnyNumber d
    each_default kernel.no_default h = tt
    each_default (kernel.default a) h = each_of a h

    each_branch : (bs : kernel.Branches) → AllUses (uses.of_branches bs) → EachBranch AnyExpression AnyPlace AnyNumber Out In AnyNumber bs
    each_branch kernel.no_branch h = tt
    each_branch (kernel.more_branches (kernel.branch a pos) bs) h = let g = split (uses.of_statements a) (uses.of_branches bs) h in (each_of a g.0, each_branch bs g.1)

module _ (k : kernel.Kernel) (checked : IsChecked k) (r : kernel.Root) (among : Contains k.roots r) where
  -- a port that is listed is on the core of a root that uses it
  abbrev Here : KRes → Type 0
  Here (Port p) = (x : PortUse) → slice_get k.ports p ≡ Some x → x.core ≡ r.core
  Here (Timer t) = Unit {0}
  Here (Chan c) = Unit {0}

  here : (i : ℕ) (u : Use) → slice_get (uses.of_statements r.body) i ≡ Some u → Here u.resource
  here i u there = by u.resource refl
    where
      by : (s : KRes) → u.resource ≡ s → Here s
      by (Timer t) e = tt
      by (Chan c) e = tt
      by (Port p) e = λ x at_p.
          ⊎_elim (λ q. q)
          (λ ne. absurd (checked.unbroken (record { rule = 706; pos = u.pos }) (elsewhere (record {
            root = r;
            among = among;
            used = u;
            elsewhere = record { among = contains_at (uses.of_statements r.body) i u there; number = p; resource = e; port = x; is_port = at_p; other_core = ne };
            place = refl;
          }))))
          (same_or_not x.core r.core)

  -- a port that it uses is listed
  abbrev Listed : ℕ → Type 0
  Listed p = (x : PortUse) × (slice_get k.ports p ≡ Some x)

  is_listed : (p q : ℕ) (does : PortUse → Bool) → nat_eq p q ≡ true → IsPort k.ports q does → Listed p
  is_listed p q does e h = (h.port, ap (slice_get k.ports) (let same : p ≡ q = grind arith in same) ∙ h.there)

  goes_listed : (p : ℕ) (s : KRes) (time : Option kernel.Expression) (stamp : Option kernel.Place) → OutputGoes k.ports (length k.channels) (length k.timers) s time stamp → by_resource (port p) s ≡ true → Listed p
  goes_listed p (Port q) time stamp h u = is_listed p q can_drive u h
  goes_listed p (Timer t) time stamp h u = absurd h
  goes_listed p (Chan c) time stamp h u = absurd (true≢false (sym u))

  comes_listed : (p : ℕ) (s : KRes) (time : Option kernel.Expression) (condition : Option kernel.Condition) (stamp : Option kernel.Place) → InputComes k.ports (length k.channels) (length k.timers) s time condition stamp → by_resource (port p) s ≡ true → Listed p
  comes_listed p (Port q) time condition stamp h u = is_listed p q can_read u h.0
  comes_listed p (Timer t) time condition stamp h u = absurd (true≢false (sym u))
  comes_listed p (Chan c) time condition stamp h u = absurd (true≢false (sym u))

  port_is_here : (p : ℕ) (s : KRes) → Here s → by_resource (port p) s ≡ true → Here (Port p)
  port_is_here p (Port q) h u = subst (λ n. Here (Port n)) (let same : q ≡ p = grind arith in same) h
  port_is_here p (Timer t) h u = absurd (true≢false (sym u))
  port_is_here p (Chan c) h u = absurd (true≢false (sym u))

  timer_is_on : (t : ℕ) (s : KRes) → ResourceOn k.timers r.core s → by_resource (timer t) s ≡ true → TimerOn k.timers r.core t
  timer_is_on t (Timer q) h u = subst (TimerOn k.timers r.core) (let same : q ≡ t = grind arith in same) h
  timer_is_on t (Port p) h u = absurd (true≢false (sym u))
  timer_is_on t (Chan c) h u = absurd (true≢false (sym u))

  pub root_each : (E : kernel.Expression → Type 0) (L : kernel.Place → Type 0) (Z : ℕ → Type 0) (O : kernel.Output → Type 0) (I : kernel.Input → Type 0) (T : ℕ → Type 0) (rs : List kernel.Root) (i : ℕ) → EachRoot E L Z O I T rs → slice_get rs i ≡ Some r → EachOf E L Z O I T r.body
  root_each E L Z O I T [] i h e = absurd (none_given e)
  root_each E L Z O I T (q ∷ rs) zero h e = subst (λ (x : kernel.Root). EachOf E L Z O I T x.body) (some_given e) h.0
  root_each E L Z O I T (q ∷ rs) (suc i) h e = root_each E L Z O I T rs i h.1 e

  pub port_used : (p : ℕ) → by_statements (port p) r.body ≡ true → (x : PortUse) × (slice_get k.ports p ≡ Some x) × (x.core ≡ r.core)
  port_used p u =
      let at = contained_at k.roots r among in
      let right = (of_programs k checked.of_program).transfers in
      let l = resource_used (port p) (λ v. refl) (λ v. refl) (Listed p) (λ c. refl) AnyExpression AnyPlace AnyNumber (GoesOut k) (ComesIn k) AnyNumber
      (λ o g f. goes_listed p o.resource o.time o.stamp g f) (λ i g f. comes_listed p i.resource i.time i.condition i.stamp g f) r.body
      (root_each AnyExpression AnyPlace AnyNumber (GoesOut k) (ComesIn k) AnyNumber k.roots at.0 right at.1) u in
      let h = resource_used (port p) (λ v. refl) (λ v. refl) (Here (Port p)) (λ c. refl) AnyExpression AnyPlace AnyNumber (Out Here) (In Here) AnyNumber
      (λ o g f. port_is_here p o.resource g f) (λ i g f. port_is_here p i.resource g f) r.body
      (each_of Here r.body (all_uses Here (uses.of_statements r.body) here)) u in
      (l.0, l.1, h l.0 l.1)

  pub timer_used : (t : ℕ) → by_statements (timer t) r.body ≡ true → TimerOn k.timers r.core t
  timer_used t u =
      resource_used (timer t) (λ v. refl) (λ v. refl) (TimerOn k.timers r.core t) (λ c. refl)
      (NumbersInExpression (λ v is_array. IsOn k.variables r.core v)) (NumbersInPlace (λ v is_array. IsOn k.variables r.core v)) (IsOn k.variables r.core) (OutputOn k.timers r.core) (InputOn k.timers r.core) AnyNumber
      (λ o g f. timer_is_on t o.resource g f) (λ i g f. timer_is_on t i.resource g f) r.body (own_at k checked r among) u
