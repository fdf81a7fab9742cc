-- What a kernel is that breaks none of the rules 601 to 606.
use Rattle.std.proofs.Common.{◌≡◌, ◌≢◌, ◌⊎◌, inl, inr, ⊎_elim, ℕ, zero, suc, ◌+◌, ◌<◌, ◌≤◌, Bool, true, false, IsTrue, List, [], ◌∷◌, ◌++◌, length, Option, Some, None, slice_get, nat_lt, nat_eq, refl, sym, ap, subst, ◌∙◌, arith}
use Rattle.xw_words.specs.declared.pos.Broken.{Broken}
use Rattle.xc_kernel.specs.declared.kernel.Chan.{Chan}
use Rattle.xc_kernel.specs.declared.statement.KRes.{KRes}
use Rattle.xc_kernel.specs.declared.statement.KRes.TheVariants.{Port, Timer}
use Rattle.xc_kernel.specs.declared.statement.KRes.TheVariants as resource
use Rattle.xc_kernel.specs.Plain as kernel
use Rattle.xc_kernel.proofs.Used.{count_append, one_use, statement_use, statements_use, branches_use}
use Rattle.xc_kernel.specs.Things.{Thing, channel, by_resource, by_statement, by_statements, by_branch, by_branches}
use Rattle.xc_invariants.specs.Every.{EveryResource, EveryExpression, EveryOperands, EveryPlace, EveryTarget, EverySomeTarget, EverySomeExpression, EveryCondition, EveryOutput, EveryInput, EveryStatement, EveryStatements, EveryCase, EveryCases, EveryDefault, EveryBranch, EveryBranches}
use Rattle.xc_kernel.specs.Branches.{branches_of}
use Rattle.xc_invariants.specs.Rules.{code_at, AllApart, AnyThing, AnyTransaction, IsApart}
use Rattle.xc_kernel.specs.Uses.{once}
use Rattle.xc_kernel.specs.Branches.{users}
use Rattle.xc_invariants.specs.Sided.{AtMostOne, LoneBranches, UnsidedStatement, UnsidedStatements, UnsidedCases, UnsidedDefault, UnsidedBranches, IsSided}
use Rattle.xc_kernel.specs.Uses as uses
use Rattle.xc_kernel.specs.Uses.{Use, count_of}
use Rattle.xc_kernel.specs.Pars as pars
use Rattle.xc_kernel.specs.Branches.{all_pars, branch_at, pos_of, uses_in}
use Rattle.xc_disjoint.specs.Clashes.{Clash, changed, used, of_port, of_timer, rule_against}
use Rattle.xc_disjoint.specs.Disjoint.{NotApart, clash, without_sides}
use Rattle.xc_disjoint.specs.SideRules.{IsUser, IsInnermost, third, one_sided, second_inside}
use Rattle.xc_meaning.proofs.Basics.{some_given, none_given, true_or_false, same_or_not}
use Rattle.xc_wellformed.proofs.FineSites.{all_by_place}
use Rattle.xc_wellformed.proofs.Walk.Arguments.{AllIn, split}
use Rattle.xc_invariants.proofs.Unsided.{unused_statement, unused_statements, unused_branches, no_users}
use Rattle.xc_invariants.specs.Channels.{IsListed}

-- What holds of each `par` by the list of them.
module _ (Q : kernel.Branches → Type 0) where
  mutual
    any_expression : (e : kernel.Expression) → EveryExpression AnyThing Q AnyTransaction e
    any_expression (kernel.number v) = tt
    any_expression (kernel.read place) = any_place place
    any_expression (kernel.operation symbol is_unsigned es pos) = any_operands es

    any_operands : (es : kernel.Operands) → EveryOperands AnyThing Q AnyTransaction es
    any_operands kernel.no_operand = tt
    any_operands (kernel.more_operands e es) = (any_expression e, any_operands es)

    any_place : (p : kernel.Place) → EveryPlace AnyThing Q AnyTransaction p
    any_place (kernel.word v) = tt
    any_place (kernel.element v index pos) = (tt, any_expression index)

  any_resource : (r : KRes) → EveryResource AnyThing Q AnyTransaction r
  any_resource (Port p) = tt
  any_resource (Timer t) = tt
  any_resource (resource.Chan c) = tt

  any_target : (p : kernel.Place) → EveryTarget AnyThing Q AnyTransaction p
  any_target (kernel.word v) = (tt, tt)
  any_target (kernel.element v index pos) = (tt, tt, any_expression index)

  any_some_target : (p : Option kernel.Place) → EverySomeTarget AnyThing Q AnyTransaction p
  any_some_target None = tt
  any_some_target (Some p) = any_target p

  any_some_expression : (e : Option kernel.Expression) → EverySomeExpression AnyThing Q AnyTransaction e
  any_some_expression None = tt
  any_some_expression (Some e) = any_expression e

  any_condition : (c : Option kernel.Condition) → EveryCondition AnyThing Q AnyTransaction c
  any_condition None = tt
  any_condition (Some c) = any_expression c.value

  any_output : (o : kernel.Output) → EveryOutput AnyThing Q AnyTransaction o
  any_output o = record { resource = any_resource o.resource; time = any_some_expression o.time; value = any_expression o.value; stamp = any_some_target o.stamp }

  any_input : (i : kernel.Input) → EveryInput AnyThing Q AnyTransaction i
  any_input input =
      record { resource = any_resource input.resource; time = any_some_expression input.time; condition = any_condition input.condition; target = any_some_target input.target; stamp = any_some_target input.stamp }

  mutual
    every_statement : (s : kernel.Statement) → AllIn Q (pars.of_statement s) → EveryStatement AnyThing Q AnyTransaction s
    every_statement (kernel.set_zero v) h = (tt, tt)
    every_statement (kernel.set p e) h = (any_target p, any_expression e)
    every_statement (kernel.output o) h = any_output o
    every_statement (kernel.input input) h = any_input input
    every_statement (kernel.if_then e a b) h = let g = split Q (pars.of_statements a) (pars.of_statements b) h in (any_expression e, every_statements a g.0, every_statements b g.1)
    every_statement (kernel.loop e a b) h = let g = split Q (pars.of_statements a) (pars.of_statements b) h in (any_expression e, every_statements a g.0, every_statements b g.1)
    every_statement (kernel.block n a) h = every_statements a h
    every_statement (kernel.exit n) h = tt
    every_statement (kernel.select cs d pos) h = let g = split Q (pars.of_cases cs) (pars.of_default d) h in (every_cases cs g.0, every_default d g.1)
    every_statement (kernel.par bs) h = (h.0, every_branches bs h.1)
    every_statement (kernel.transaction c is_master a start close) h = (tt, tt, every_statements a h)

    every_statements : (ss : kernel.Statements) → AllIn Q (pars.of_statements ss) → EveryStatements AnyThing Q AnyTransaction ss
    every_statements kernel.no_more h = tt
    every_statements (kernel.more s ss) h = let g = split Q (pars.of_statement s) (pars.of_statements ss) h in (every_statement s g.0, every_statements ss g.1)

    every_case : (c : kernel.Case) → AllIn Q (pars.of_case c) → EveryCase AnyThing Q AnyTransaction c
    every_case (kernel.case guard input a) h = (any_some_expression guard, any_input input, every_statements a h)

    every_cases : (cs : kernel.Cases) → AllIn Q (pars.of_cases cs) → EveryCases AnyThing Q AnyTransaction cs
    every_cases kernel.no_case h = tt
    every_cases (kernel.more_cases c cs) h = let g = split Q (pars.of_case c) (pars.of_cases cs) h in (every_case c g.0, every_cases cs g.1)

    every_default : (d : kernel.Default) → AllIn Q (pars.of_default d) → EveryDefault AnyThing Q AnyTransaction d
    every_default kernel.no_default h = tt
    every_default (kernel.default a) h = every_statements a h

    every_branch : (b : kernel.Branch) → AllIn Q (pars.of_branch b) → EveryBranch AnyThing Q AnyTransaction b
    every_branch (kernel.branch a pos) h = every_statements a h

    pub every_branches : (bs : kernel.Branches) → AllIn Q (pars.of_branches bs) → EveryBranches AnyThing Q AnyTransaction bs
    every_branches kernel.no_branch h = tt
    every_branches (kernel.more_branches b bs) h = let g = split Q (pars.of_branch b) (pars.of_branches bs) h in (every_branch b g.0, every_branches bs g.1)

-- A channel is used where it is used at least once.
module _ (c : ℕ) where
  -- what isn't used is used at no place, and the other way
  unused_of : (b : Bool) (n : ℕ) → nat_lt 0 n ≡ b → n ≡ 0 → b ≡ false
  unused_of b n e z = sym e ∙ ap (nat_lt 0) z ∙ (let f : nat_lt 0 0 ≡ false = grind arith in f)

  none_of : (b : Bool) (n : ℕ) → nat_lt 0 n ≡ b → b ≡ false → n ≡ 0
  none_of b n e f = let g : nat_lt 0 n ≡ false = e ∙ f in grind arith

-- a `par` in code uses a channel no more often than the code
module _ (c : ℕ) where
  abbrev AtMost : ℕ → kernel.Branches → Type 0
  AtMost n p = uses_in c p ≤ n

  weaker : (m n : ℕ) (ps : List kernel.Branches) → m ≤ n → AllIn (AtMost m) ps → AllIn (AtMost n) ps
  weaker m n [] le h = tt
  weaker m n (p ∷ ps) le h = let l = h.0 in (omega arith, weaker m n ps le h.1)

  joined : (n : ℕ) (ps qs : List kernel.Branches) → AllIn (AtMost n) ps → AllIn (AtMost n) qs → AllIn (AtMost n) (ps ++ qs)
  joined n [] qs h g = g
  joined n (p ∷ ps) qs h g = (h.0, joined n ps qs h.1 g)

  both_most : (us vs : List Use) (ps qs : List kernel.Branches) → AllIn (AtMost (count_of c us)) ps → AllIn (AtMost (count_of c vs)) qs → AllIn (AtMost (count_of c (us ++ vs))) (ps ++ qs)
  both_most us vs ps qs h g =
      let e = count_append c us vs in
      joined (count_of c (us ++ vs)) ps qs (weaker (count_of c us) (count_of c (us ++ vs)) ps (omega arith) h) (weaker (count_of c vs) (count_of c (us ++ vs)) qs (omega arith) g)

  mutual
    most_statement : (s : kernel.Statement) → AllIn (AtMost (count_of c (uses.of_statement s))) (pars.of_statement s)
    most_statement (kernel.set_zero v) = tt
    most_statement (kernel.set p e) = tt
    most_statement (kernel.output o) = tt
    most_statement (kernel.input input) = tt
    most_statement (kernel.if_then e a b) = both_most (uses.of_statements a) (uses.of_statements b) _ _ (most_statements a) (most_statements b)
    most_statement (kernel.loop e a b) = both_most (uses.of_statements a) (uses.of_statements b) _ _ (most_statements a) (most_statements b)
    most_statement (kernel.block n a) = most_statements a
    most_statement (kernel.exit n) = tt
    most_statement (kernel.select cs d pos) = both_most (uses.of_cases cs) (uses.of_default d) _ _ (most_cases cs) (most_default d)
    most_statement (kernel.par bs) = (omega arith, most_branches bs)
    most_statement (kernel.transaction d is_master a start close) = both_most (uses.of_channel d start ∷ []) (uses.of_statements a) [] (pars.of_statements a) tt (most_statements a)

    most_statements : (ss : kernel.Statements) → AllIn (AtMost (count_of c (uses.of_statements ss))) (pars.of_statements ss)
    most_statements kernel.no_more = tt
    most_statements (kernel.more s ss) = both_most (uses.of_statement s) (uses.of_statements ss) _ _ (most_statement s) (most_statements ss)

    most_case : (a : kernel.Case) → AllIn (AtMost (count_of c (uses.of_case a))) (pars.of_case a)
    most_case (kernel.case guard input a) = both_most (uses.of_input input ∷ []) (uses.of_statements a) [] (pars.of_statements a) tt (most_statements a)

    most_cases : (cs : kernel.Cases) → AllIn (AtMost (count_of c (uses.of_cases cs))) (pars.of_cases cs)
    most_cases kernel.no_case = tt
    most_cases (kernel.more_cases a cs) = both_most (uses.of_case a) (uses.of_cases cs) _ _ (most_case a) (most_cases cs)

    most_default : (d : kernel.Default) → AllIn (AtMost (count_of c (uses.of_default d))) (pars.of_default d)
    most_default kernel.no_default = tt
    most_default (kernel.default a) = most_statements a

    most_branch : (b : kernel.Branch) → AllIn (AtMost (count_of c (uses.of_branch b))) (pars.of_branch b)
    most_branch (kernel.branch a pos) = most_statements a

    most_branches : (bs : kernel.Branches) → AllIn (AtMost (count_of c (uses.of_branches bs))) (pars.of_branches bs)
    most_branches kernel.no_branch = tt
    most_branches (kernel.more_branches b bs) = both_most (uses.of_branch b) (uses.of_branches bs) _ _ (most_branch b) (most_branches bs)

  -- no branch uses the channel where there are no uses
  users_none : (bs : kernel.Branches) → uses_in c bs ≡ 0 → users c bs ≡ 0
  users_none bs e = no_users c bs (unused_of c (by_branches (channel c) bs) (uses_in c bs) (branches_use c bs) e)

  none_users : (bs : kernel.Branches) → users c bs ≡ 0 → uses_in c bs ≡ 0
  none_users kernel.no_branch e = refl
  none_users (kernel.more_branches (kernel.branch ss pos) bs) e =
      ⊎_elim (λ u. let o = ap once u in absurd (omega arith))
      (λ u. let z = none_of c (by_statements (channel c) ss) (count_of c (uses.of_statements ss)) (statements_use c ss) u in
      let t = none_users bs (let o = ap once u in omega arith) in
      let e = count_append c (uses.of_statements ss) (uses.of_branches bs) in
      omega arith)
      (true_or_false (by_statements (channel c) ss))

  -- All uses are so many.
  module _ (all : ℕ) (positive : 0 < all) where
    -- some of these `par`s holds them all
    abbrev SomeHolds : List kernel.Branches → Type 0
    SomeHolds [] = ⊥
    SomeHolds (p ∷ ps) = (uses_in c p ≡ all) ⊎ SomeHolds ps

    some_split : (ps qs : List kernel.Branches) → SomeHolds (ps ++ qs) → SomeHolds ps ⊎ SomeHolds qs
    some_split [] qs h = inr h
    some_split (p ∷ ps) qs (inl e) = inl (inl e)
    some_split (p ∷ ps) qs (inr h) = ⊎_elim (λ g. inl (inr g)) inr (some_split ps qs h)

    some_or_none : (ps : List kernel.Branches) → SomeHolds ps ⊎ ((i : ℕ) (p : kernel.Branches) → slice_get ps i ≡ Some p → uses_in c p ≡ all → ⊥)
    some_or_none [] = inr (λ i p e f. none_given e)
    some_or_none (p ∷ ps) =
        ⊎_elim (λ e. inl (inl e))
        (λ ne. ⊎_elim (λ h. inl (inr h)) (λ k. inr (behind_first ne k)) (some_or_none ps)) (same_or_not (uses_in c p) all)
      where
        behind_first : (uses_in c p ≢ all) → ((i : ℕ) (q : kernel.Branches) → slice_get ps i ≡ Some q → uses_in c q ≡ all → ⊥) → (i : ℕ) (q : kernel.Branches) → slice_get (p ∷ ps) i ≡ Some q → uses_in c q ≡ all → ⊥
        behind_first ne k zero q e f = ne (ap (uses_in c) (some_given e) ∙ f)
        behind_first ne k (suc i) q e f = k i q e f

    some_most : (n : ℕ) (ps : List kernel.Branches) → AllIn (AtMost n) ps → SomeHolds ps → all ≤ n
    some_most n [] h s = absurd s
    some_most n (p ∷ ps) h (inl e) = let l = h.0 in omega arith
    some_most n (p ∷ ps) h (inr s) = some_most n ps h.1 s

    -- what is asked of a `par`: where it is the innermost that holds all uses, two branches use the channel, and each `par` in it has at most one that does
    abbrev IsGood : kernel.Branches → Type 0
    IsGood p = uses_in c p ≡ all → ((i : ℕ) (q : kernel.Branches) → slice_get (pars.of_branches p) i ≡ Some q → uses_in c q ≡ all → ⊥) → (users c p ≡ 2) × AllIn (AtMostOne c) (pars.of_branches p)

    -- one of two parts holds all uses, and the other none
    parts : (us vs : List Use) → count_of c (us ++ vs) ≤ all → all ≤ count_of c us → count_of c vs ≡ 0
    parts us vs le ge = let e = count_append c us vs in omega arith

    parts' : (us vs : List Use) → count_of c (us ++ vs) ≤ all → all ≤ count_of c vs → count_of c us ≡ 0
    parts' us vs le ge = let e = count_append c us vs in omega arith

    unused_code : (ss : kernel.Statements) → count_of c (uses.of_statements ss) ≡ 0 → UnsidedStatements c ss
    unused_code ss e = unused_statements c ss (unused_of c (by_statements (channel c) ss) (count_of c (uses.of_statements ss)) (statements_use c ss) e)

    lone_user : (bs : kernel.Branches) → uses_in c bs ≤ all → SomeHolds (pars.of_branches bs) → users c bs ≤ 1
    lone_user kernel.no_branch le h = omega arith
    lone_user (kernel.more_branches (kernel.branch ss pos) bs) le h =
        ⊎_elim
        (λ g. let z = users_none bs (parts (uses.of_statements ss) (uses.of_branches bs) le (some_most (count_of c (uses.of_statements ss)) (pars.of_statements ss) (most_statements ss) g)) in
        ⊎_elim (λ u. let o = ap once u in omega arith) (λ u. let o = ap once u in omega arith) (true_or_false (by_statements (channel c) ss)))
        (λ g. let z = parts' (uses.of_statements ss) (uses.of_branches bs) le (some_most (uses_in c bs) (pars.of_branches bs) (most_branches bs) g) in
        let o = ap once (unused_of c (by_statements (channel c) ss) (count_of c (uses.of_statements ss)) (statements_use c ss) z) in
        let e = count_append c (uses.of_statements ss) (uses.of_branches bs) in
        let l = lone_user bs (omega arith) g in
        omega arith)
        (some_split (pars.of_statements ss) (pars.of_branches bs) h)

    unused_input : (i : kernel.Input) → count_of c (uses.of_input i ∷ []) ≡ 0 → by_resource (channel c) i.resource ≡ false
    unused_input input z = unused_of c (by_resource (channel c) input.resource) (count_of c (uses.of_input input ∷ [])) (one_use c (by_resource (channel c) input.resource)) z

    no_cases : (cs : kernel.Cases) → count_of c (uses.of_cases cs) ≡ 0 → UnsidedCases c cs
    no_cases kernel.no_case z = tt
    no_cases (kernel.more_cases (kernel.case guard input a) cs) z =
        let e = count_append c (uses.of_input input ∷ uses.of_statements a) (uses.of_cases cs) in
        let f = count_append c (uses.of_input input ∷ []) (uses.of_statements a) in
        ((unused_input input (omega arith), unused_code a (omega arith)), no_cases cs (omega arith))

    no_default : (d : kernel.Default) → count_of c (uses.of_default d) ≡ 0 → UnsidedDefault c d
    no_default kernel.no_default z = tt
    no_default (kernel.default a) z = unused_code a z

    two_unsided : (a b : kernel.Statements) → (AllIn IsGood (pars.of_statements a) → SomeHolds (pars.of_statements a) → count_of c (uses.of_statements a) ≤ all → UnsidedStatements c a) →
        (AllIn IsGood (pars.of_statements b) → SomeHolds (pars.of_statements b) → count_of c (uses.of_statements b) ≤ all → UnsidedStatements c b) →
        AllIn IsGood (pars.of_statements a ++ pars.of_statements b) → SomeHolds (pars.of_statements a ++ pars.of_statements b) → count_of c (uses.of_statements a ++ uses.of_statements b) ≤ all →
        UnsidedStatements c a × UnsidedStatements c b
    two_unsided a b ra rb g h le =
        let k = split IsGood (pars.of_statements a) (pars.of_statements b) g in
        let e = count_append c (uses.of_statements a) (uses.of_statements b) in
        ⊎_elim
        (λ i. (ra k.0 i (omega arith), unused_code b (parts (uses.of_statements a) (uses.of_statements b) le (some_most (count_of c (uses.of_statements a)) (pars.of_statements a) (most_statements a) i))))
        (λ i. (unused_code a (parts' (uses.of_statements a) (uses.of_statements b) le (some_most (count_of c (uses.of_statements b)) (pars.of_statements b) (most_statements b) i)), rb k.1 i (omega arith)))
        (some_split (pars.of_statements a) (pars.of_statements b) h)

    unsided_par : (bs : kernel.Branches) → (AllIn IsGood (pars.of_branches bs) → SomeHolds (pars.of_branches bs) → uses_in c bs ≤ all → UnsidedBranches c bs) →
        IsGood bs → AllIn IsGood (pars.of_branches bs) → all ≤ uses_in c bs → uses_in c bs ≤ all → SomeHolds (pars.of_branches bs) ⊎ ((i : ℕ) (p : kernel.Branches) → slice_get (pars.of_branches bs) i ≡ Some p → uses_in c p ≡ all → ⊥) →
        (AtMostOne c bs × UnsidedBranches c bs) ⊎ ((users c bs ≡ 2) × LoneBranches c bs)
    unsided_par bs rec good g ge le (inl h) = inl (lone_user bs le h, rec g h le)
    unsided_par bs rec good g ge le (inr k) = let q = good (omega arith) k in inr (q.0, every_branches (AtMostOne c) bs q.1)

    mutual
      unsided_statement : (s : kernel.Statement) → AllIn IsGood (pars.of_statement s) → SomeHolds (pars.of_statement s) → count_of c (uses.of_statement s) ≤ all → UnsidedStatement c s
      unsided_statement (kernel.set_zero v) g h le = tt
      unsided_statement (kernel.set p e) g h le = tt
      unsided_statement (kernel.output o) g h le = absurd h
      unsided_statement (kernel.input input) g h le = absurd h
      unsided_statement (kernel.if_then e a b) g h le = two_unsided a b (unsided_statements a) (unsided_statements b) g h le
      unsided_statement (kernel.loop e a b) g h le = two_unsided a b (unsided_statements a) (unsided_statements b) g h le
      unsided_statement (kernel.block n a) g h le = unsided_statements a g h le
      unsided_statement (kernel.exit n) g h le = tt
      unsided_statement (kernel.select cs d pos) g h le =
          let k = split IsGood (pars.of_cases cs) (pars.of_default d) g in
          let e = count_append c (uses.of_cases cs) (uses.of_default d) in
          ⊎_elim
          (λ i. (unsided_cases cs k.0 i (omega arith), no_default d (parts (uses.of_cases cs) (uses.of_default d) le (some_most (count_of c (uses.of_cases cs)) (pars.of_cases cs) (most_cases cs) i))))
          (λ i. (no_cases cs (parts' (uses.of_cases cs) (uses.of_default d) le (some_most (count_of c (uses.of_default d)) (pars.of_default d) (most_default d) i)), unsided_default d k.1 i (omega arith)))
          (some_split (pars.of_cases cs) (pars.of_default d) h)
      unsided_statement (kernel.par bs) g h le = unsided_par bs (unsided_branches bs) g.0 g.1 (some_most (uses_in c bs) (bs ∷ pars.of_branches bs) (omega arith, most_branches bs) h) le (some_or_none (pars.of_branches bs))
      unsided_statement (kernel.transaction d is_master a start close) g h le =
          let m = some_most (count_of c (uses.of_statements a)) (pars.of_statements a) (most_statements a) h in
          let e = count_append c (uses.of_channel d start ∷ []) (uses.of_statements a) in
          let z = parts' (uses.of_channel d start ∷ []) (uses.of_statements a) le m in
          (unused_of c (nat_eq c d) (once (nat_eq c d) + 0) (one_use c (nat_eq c d)) z, unsided_statements a g h (omega arith))

      unsided_statements : (ss : kernel.Statements) → AllIn IsGood (pars.of_statements ss) → SomeHolds (pars.of_statements ss) → count_of c (uses.of_statements ss) ≤ all → UnsidedStatements c ss
      unsided_statements kernel.no_more g h le = tt
      unsided_statements (kernel.more s ss) g h le =
          let k = split IsGood (pars.of_statement s) (pars.of_statements ss) g in
          let e = count_append c (uses.of_statement s) (uses.of_statements ss) in
          ⊎_elim
          (λ i. (unsided_statement s k.0 i (omega arith), unused_code ss (parts (uses.of_statement s) (uses.of_statements ss) le (some_most (count_of c (uses.of_statement s)) (pars.of_statement s) (most_statement s) i))))
          (λ i. (unused_statement c s (unused_of c (by_statement (channel c) s) (count_of c (uses.of_statement s)) (statement_use c s) (parts' (uses.of_statement s) (uses.of_statements ss) le (some_most (count_of c (uses.of_statements ss)) (pars.of_statements ss) (most_statements ss) i))), unsided_statements ss k.1 i (omega arith)))
          (some_split (pars.of_statement s) (pars.of_statements ss) h)

      unsided_cases : (cs : kernel.Cases) → AllIn IsGood (pars.of_cases cs) → SomeHolds (pars.of_cases cs) → count_of c (uses.of_cases cs) ≤ all → UnsidedCases c cs
      unsided_cases kernel.no_case g h le = tt
      unsided_cases (kernel.more_cases (kernel.case guard input a) cs) g h le =
          let k = split IsGood (pars.of_statements a) (pars.of_cases cs) g in
          let e = count_append c (uses.of_input input ∷ uses.of_statements a) (uses.of_cases cs) in
          let f = count_append c (uses.of_input input ∷ []) (uses.of_statements a) in
          ⊎_elim
          (λ i. let m = some_most (count_of c (uses.of_statements a)) (pars.of_statements a) (most_statements a) i in
          ((unused_input input (omega arith), unsided_statements a k.0 i (omega arith)), no_cases cs (omega arith)))
          (λ i. let m = some_most (count_of c (uses.of_cases cs)) (pars.of_cases cs) (most_cases cs) i in
          ((unused_input input (omega arith), unused_code a (omega arith)), unsided_cases cs k.1 i (omega arith)))
          (some_split (pars.of_statements a) (pars.of_cases cs) h)

      unsided_default : (d : kernel.Default) → AllIn IsGood (pars.of_default d) → SomeHolds (pars.of_default d) → count_of c (uses.of_default d) ≤ all → UnsidedDefault c d
      unsided_default kernel.no_default g h le = tt
      unsided_default (kernel.default a) g h le = unsided_statements a g h le

      unsided_branches : (bs : kernel.Branches) → AllIn IsGood (pars.of_branches bs) → SomeHolds (pars.of_branches bs) → uses_in c bs ≤ all → UnsidedBranches c bs
      unsided_branches kernel.no_branch g h le = tt
      unsided_branches (kernel.more_branches (kernel.branch a pos) bs) g h le =
          let k = split IsGood (pars.of_statements a) (pars.of_branches bs) g in
          let e = count_append c (uses.of_statements a) (uses.of_branches bs) in
          ⊎_elim
          (λ i. (unsided_statements a k.0 i (omega arith), unused_branches c bs (unused_of c (by_branches (channel c) bs) (uses_in c bs) (branches_use c bs) (parts (uses.of_statements a) (uses.of_branches bs) le (some_most (count_of c (uses.of_statements a)) (pars.of_statements a) (most_statements a) i)))))
          (λ i. (unused_code a (parts' (uses.of_statements a) (uses.of_branches bs) le (some_most (uses_in c bs) (pars.of_branches bs) (most_branches bs) i)), unsided_branches bs k.1 i (omega arith)))
          (some_split (pars.of_statements a) (pars.of_branches bs) h)

-- The branch behind so many that use a channel.
module _ (c : ℕ) (ss : kernel.Statements) (pos : Rattle.xw_words.specs.declared.pos.Pos.Pos) (bs : kernel.Branches) (rec : (n : ℕ) → n < users c bs → (b : kernel.Branch) × IsUser c bs n b) where
  next_user : (m u : ℕ) → once (by_statements (channel c) ss) ≡ u → m < users c bs → (n : ℕ) → n ≡ u + m → (b : kernel.Branch) × IsUser c (kernel.more_branches (kernel.branch ss pos) bs) n b
  next_user m u o lt n e = let h = rec m lt in (h.0, record { place = suc h.1.place; is = h.1.is; uses = h.1.uses; behind = let k = h.1.behind in omega arith })

  user_by : ((by_statements (channel c) ss ≡ true) ⊎ (by_statements (channel c) ss ≡ false)) → (n : ℕ) → n < once (by_statements (channel c) ss) + users c bs → (b : kernel.Branch) × IsUser c (kernel.more_branches (kernel.branch ss pos) bs) n b
  user_by (inl e) zero lt = (kernel.branch ss pos, record { place = 0; is = refl; uses = e; behind = refl })
  user_by (inl e) (suc n) lt = let o = ap once e in next_user n 1 o (omega arith) (suc n) (omega arith)
  user_by (inr e) n lt = let o = ap once e in next_user n 0 o (omega arith) n (omega arith)

user_at : (c : ℕ) (bs : kernel.Branches) (n : ℕ) → n < users c bs → (b : kernel.Branch) × IsUser c bs n b
user_at c kernel.no_branch n lt = absurd (omega arith)
user_at c (kernel.more_branches (kernel.branch ss pos) bs) n lt = user_by c ss pos bs (λ m l. user_at c bs m l) (true_or_false (by_statements (channel c) ss)) n lt

-- Of a kernel that breaks no rule.
module _ (K : kernel.Kernel) (unbroken : (b : Broken) → NotApart K b → ⊥) where
  abbrev roots : kernel.Branches
  roots = branches_of K.roots

  code_branch : (bs : kernel.Branches) (i : ℕ) (ss : kernel.Statements) → code_at bs i ≡ Some ss → (b : kernel.Branch) × (branch_at bs i ≡ Some b) × ((th : Thing) → IsTrue (by_statements th ss) → IsTrue (by_branch th b))
  code_branch kernel.no_branch i ss e = none_given e
  code_branch (kernel.more_branches (kernel.branch a pos) bs) zero ss e = (kernel.branch a pos, refl, λ th u. subst (λ x. IsTrue (by_statements th x)) (sym (some_given e)) u)
  code_branch (kernel.more_branches (kernel.branch a pos) bs) (suc i) ss e = code_branch bs i ss e

  clash_turned : {t u : Thing} → Clash t u → Clash u t
  clash_turned (changed v) = used v
  clash_turned (used v) = changed v
  clash_turned (of_port p) = of_port p
  clash_turned (of_timer t) = of_timer t

  ordered : (place : ℕ) (bs : kernel.Branches) → slice_get (all_pars K) place ≡ Some bs → (i j : ℕ) (a b : kernel.Statements) → i < j → code_at bs i ≡ Some a → code_at bs j ≡ Some b → (t u : Thing) → Clash t u → IsTrue (by_statements t a) → IsTrue (by_statements u b) → ⊥
  ordered place bs e i j a b lt ea eb t u k ua ub =
      let x = code_branch bs i a ea in
      let y = code_branch bs j b eb in
      unbroken (record { rule = rule_against u; pos = pos_of y.0 })
      (clash (record { place = place; bs = bs; is_par = e; i = i; j = j; before = lt; earlier = x.0; earlier_is = x.1; later = y.0; later_is = y.1; one = t; other = u; clash = k; earlier_uses = x.2 t ua; later_uses = y.2 u ub; is = refl }))

  order : (i j : ℕ) → i ≢ j → (i < j) ⊎ (j < i)
  order i j ne = grind arith

  apart_par : (place : ℕ) (bs : kernel.Branches) → slice_get (all_pars K) place ≡ Some bs → AllApart bs
  apart_par place bs e = record {
    apart = λ i j a b ne ea eb. record {
      clash = λ t u k ua ub.
          ⊎_elim (λ lt. ordered place bs e i j a b lt ea eb t u k ua ub) (λ lt. ordered place bs e j i b a lt eb ea u t (clash_turned k) ub ua) (order i j ne);
    };
  }

  pub unbroken_apart : IsApart K
  unbroken_apart = record {
    roots = apart_par 0 roots refl;
    inside = every_branches AllApart roots (all_by_place AllApart (pars.of_branches roots) (λ i bs e. apart_par (suc i) bs e));
  }

  module _ (c : ℕ) (lt : c < length K.channels) (positive : 0 < uses_in c roots) where
    the_channel : (xs : List Chan) (n : ℕ) → n < length xs → (d : Chan) × (slice_get xs n ≡ Some d)
    the_channel [] n l = absurd (omega arith)
    the_channel (x ∷ xs) zero l = (x, refl)
    the_channel (x ∷ xs) (suc n) l = the_channel xs n (omega arith)

    two_of : (bs : kernel.Branches) → IsInnermost K c bs → (n : ℕ) → users c bs ≡ n → n ≡ 2
    two_of bs h zero e = let z = none_users c bs e in let p = h.used in absurd (omega arith)
    two_of bs h (suc zero) e = let d = the_channel K.channels c lt in absurd (unbroken (record { rule = 604; pos = d.0.pos }) (without_sides (one_sided d.0 (record { c = c; bs = bs; innermost = h; alone = e; is_channel = d.1 }))))
    two_of bs h (suc (suc zero)) e = refl
    two_of bs h (suc (suc (suc n))) e = let b = user_at c bs 2 (omega arith) in absurd (unbroken (record { rule = 603; pos = pos_of b.0 }) (without_sides (third b.0 (record { c = c; bs = bs; innermost = h; user = b.1 }))))

    not_more : (bs : kernel.Branches) → IsInnermost K c bs → users c bs ≡ 2 → (i : ℕ) (inner : kernel.Branches) → slice_get (pars.of_branches bs) i ≡ Some inner → (n : ℕ) → users c inner ≡ n → n ≤ 1
    not_more bs h two i inner e zero f = omega arith
    not_more bs h two i inner e (suc zero) f = omega arith
    not_more bs h two i inner e (suc (suc n)) f = let b = user_at c inner 1 (omega arith) in absurd (unbroken (record { rule = 605; pos = pos_of b.0 }) (without_sides (second_inside b.0 (record { c = c; bs = bs; innermost = h; both = two; place = i; inner = inner; inside = e; user = b.1 }))))

    good : (place : ℕ) (bs : kernel.Branches) → slice_get (all_pars K) place ≡ Some bs → IsGood c (uses_in c roots) positive bs
    good place bs e holds none =
        let h : IsInnermost K c bs = record { place = place; is_par = e; used = omega arith; holds = holds; innermost = none } in
        let two = two_of bs h (users c bs) refl in
        (two, all_by_place (AtMostOne c) (pars.of_branches bs) (λ i inner f. not_more bs h two i inner f (users c inner) refl))

    used_sided : UnsidedStatement c (kernel.par roots)
    used_sided = unsided_statement c (uses_in c roots) positive (kernel.par roots) (all_by_place (IsGood c (uses_in c roots) positive) (all_pars K) good) (inl refl) (omega arith)

  pub unbroken_sided : IsSided K
  unbroken_sided = record {
    sided = λ c lt. by_uses c lt (uses_in c roots) refl;
  }
    where
      by_uses : (c : ℕ) → c < length K.channels → (n : ℕ) → uses_in c roots ≡ n → UnsidedStatement c (kernel.par roots)
      by_uses c lt zero e = unused_statement c (kernel.par roots) (unused_of c (by_branches (channel c) roots) (uses_in c roots) (branches_use c roots) e)
      by_uses c lt (suc n) e = used_sided c lt (omega arith)

-- a channel that is used by the test is used at some place
pub used_listed : (K : kernel.Kernel) → IsListed K → (c : ℕ) → IsTrue (by_branches (channel c) (branches_of K.roots)) → c < length K.channels
used_listed K l c u = l.listed c (let e : nat_lt 0 (uses_in c (branches_of K.roots)) ≡ true = branches_use c (branches_of K.roots) ∙ u in grind arith)
