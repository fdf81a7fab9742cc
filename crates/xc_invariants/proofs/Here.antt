-- A kernel whose uses of ports break no rule uses ports of each root's core alone.
use Rattle.std.proofs.Common.{◌≡◌, ℕ, suc, List, [], ◌∷◌, ◌++◌, Option, Some, None, slice_get, refl}
use Rattle.xc_kernel.specs.declared.kernel.PortUse.{PortUse}
use Rattle.xc_kernel.specs.declared.statement.KRes.{KRes}
use Rattle.xc_kernel.specs.declared.statement.KRes.TheVariants.{Port, Timer}
use Rattle.xc_kernel.specs.declared.statement.KRes.TheVariants as resource
use Rattle.xc_kernel.specs.Plain as kernel
use Rattle.xc_invariants.specs.Every.{EveryResource, EveryExpression, EveryOperands, EveryPlace, EveryTarget, EverySomeTarget, EverySomeExpression, EveryCondition, EveryOutput, EveryInput, EveryStatement, EveryStatements, EveryCase, EveryCases, EveryDefault, EveryBranch, EveryBranches}
use Rattle.xc_invariants.specs.Rules.{AnyPar, AnyTransaction}
use Rattle.xc_invariants.specs.Cores.{OnCore, IsHere}
use Rattle.xc_kernel.specs.Uses as uses
use Rattle.xc_kernel.specs.Uses.{Use}

module _ (K : kernel.Kernel) (core : ℕ) where
  abbrev Fine : KRes → Type 0
  Fine (Port p) = (u : PortUse) → slice_get K.ports p ≡ Some u → u.core ≡ core
  Fine (Timer t) = Unit {0}
  Fine (resource.Chan c) = Unit {0}

  abbrev AllFine : List Use → Type 0
  AllFine [] = Unit {0}
  AllFine (u ∷ us) = Fine u.resource × AllFine us

  split : (us vs : List Use) → AllFine (us ++ vs) → AllFine us × AllFine vs
  split [] vs h = (tt, h)
  split (u ∷ us) vs h = let g = split us vs h.1 in ((h.0, g.0), g.1)

  fine_resource : (r : KRes) → Fine r → EveryResource (OnCore K core) AnyPar AnyTransaction r
  fine_resource (Port p) h = h
  fine_resource (Timer t) h = tt
  fine_resource (resource.Chan c) h = tt

  mutual
    any_expression : (e : kernel.Expression) → EveryExpression (OnCore K core) AnyPar AnyTransaction e
    any_expression (kernel.number v) = tt
    any_expression (kernel.read place) = any_place place
    any_expression (kernel.operation symbol is_unsigned es pos) = any_operands es

    any_operands : (es : kernel.Operands) → EveryOperands (OnCore K core) AnyPar AnyTransaction es
    any_operands kernel.no_operand = tt
    any_operands (kernel.more_operands e es) = (any_expression e, any_operands es)

    any_place : (p : kernel.Place) → EveryPlace (OnCore K core) AnyPar AnyTransaction p
    any_place (kernel.word v) = tt
    any_place (kernel.element v index pos) = (tt, any_expression index)

  any_target : (p : kernel.Place) → EveryTarget (OnCore K core) AnyPar AnyTransaction p
  any_target (kernel.word v) = (tt, tt)
  any_target (kernel.element v index pos) = (tt, tt, any_expression index)

  any_some_target : (p : Option kernel.Place) → EverySomeTarget (OnCore K core) AnyPar AnyTransaction p
  any_some_target None = tt
  any_some_target (Some p) = any_target p

  any_some_expression : (e : Option kernel.Expression) → EverySomeExpression (OnCore K core) AnyPar AnyTransaction e
  any_some_expression None = tt
  any_some_expression (Some e) = any_expression e

  any_condition : (c : Option kernel.Condition) → EveryCondition (OnCore K core) AnyPar AnyTransaction c
  any_condition None = tt
  any_condition (Some c) = any_expression c.value

  fine_output : (o : kernel.Output) → Fine o.resource → EveryOutput (OnCore K core) AnyPar AnyTransaction o
  fine_output o h = record { resource = fine_resource o.resource h; time = any_some_expression o.time; value = any_expression o.value; stamp = any_some_target o.stamp }

  fine_input : (i : kernel.Input) → Fine i.resource → EveryInput (OnCore K core) AnyPar AnyTransaction i
  fine_input input h =
      record { resource = fine_resource input.resource h; time = any_some_expression input.time; condition = any_condition input.condition; target = any_some_target input.target; stamp = any_some_target input.stamp }

  mutual
    fine_statement : (s : kernel.Statement) → AllFine (uses.of_statement s) → EveryStatement (OnCore K core) AnyPar AnyTransaction s
    fine_statement (kernel.set_zero v) h = (tt, tt)
    fine_statement (kernel.set p e) h = (any_target p, any_expression e)
    fine_statement (kernel.output o) h = fine_output o h.0
    fine_statement (kernel.input input) h = fine_input input h.0
    fine_statement (kernel.if_then e a b) h = let g = split (uses.of_statements a) (uses.of_statements b) h in (any_expression e, fine_statements a g.0, fine_statements b g.1)
    fine_statement (kernel.loop e a b) h = let g = split (uses.of_statements a) (uses.of_statements b) h in (any_expression e, fine_statements a g.0, fine_statements b g.1)
    fine_statement (kernel.block n a) h = fine_statements a h
    fine_statement (kernel.exit n) h = tt
    fine_statement (kernel.select cs d pos) h = let g = split (uses.of_cases cs) (uses.of_default d) h in (fine_cases cs g.0, fine_default d g.1)
    fine_statement (kernel.par bs) h = (tt, fine_branches bs h)
    fine_statement (kernel.transaction c is_master a start close) h = (tt, tt, fine_statements a h.1)

    pub fine_statements : (ss : kernel.Statements) → AllFine (uses.of_statements ss) → EveryStatements (OnCore K core) AnyPar AnyTransaction ss
    fine_statements kernel.no_more h = tt
    fine_statements (kernel.more s ss) h = let g = split (uses.of_statement s) (uses.of_statements ss) h in (fine_statement s g.0, fine_statements ss g.1)

    fine_case : (c : kernel.Case) → AllFine (uses.of_case c) → EveryCase (OnCore K core) AnyPar AnyTransaction c
    fine_case (kernel.case guard input a) h = (any_some_expression guard, fine_input input h.0, fine_statements a h.1)

    fine_cases : (cs : kernel.Cases) → AllFine (uses.of_cases cs) → EveryCases (OnCore K core) AnyPar AnyTransaction cs
    fine_cases kernel.no_case h = tt
    fine_cases (kernel.more_cases c cs) h = let g = split (uses.of_case c) (uses.of_cases cs) h in (fine_case c g.0, fine_cases cs g.1)

    fine_default : (d : kernel.Default) → AllFine (uses.of_default d) → EveryDefault (OnCore K core) AnyPar AnyTransaction d
    fine_default kernel.no_default h = tt
    fine_default (kernel.default a) h = fine_statements a h

    fine_branch : (b : kernel.Branch) → AllFine (uses.of_branch b) → EveryBranch (OnCore K core) AnyPar AnyTransaction b
    fine_branch (kernel.branch a pos) h = fine_statements a h

    fine_branches : (bs : kernel.Branches) → AllFine (uses.of_branches bs) → EveryBranches (OnCore K core) AnyPar AnyTransaction bs
    fine_branches kernel.no_branch h = tt
    fine_branches (kernel.more_branches b bs) h = let g = split (uses.of_branch b) (uses.of_branches bs) h in (fine_branch b g.0, fine_branches bs g.1)

  all_fine : (us : List Use) → ((i : ℕ) (u : Use) → slice_get us i ≡ Some u → Fine u.resource) → AllFine us
  all_fine [] h = tt
  all_fine (u ∷ us) h = (h 0 u refl, all_fine us (λ i v e. h (suc i) v e))

-- what the rule on ports promises: each use of a port in a root is one of the root's core
pub uses_here : (K : kernel.Kernel) → ((j : ℕ) (r : kernel.Root) → slice_get K.roots j ≡ Some r → (i : ℕ) (u : Use) → slice_get (uses.of_statements r.body) i ≡ Some u → (n : ℕ) → u.resource ≡ Port n → (p : PortUse) → slice_get K.ports n ≡ Some p → p.core ≡ r.core) → IsHere K
uses_here K h = record {
  roots = λ j r e. fine_statements K r.core r.body (all_fine K r.core (uses.of_statements r.body) (λ i u f. by_resource K r.core u.resource (λ n g p k. h j r e i u f n g p k)));
}
  where
    by_resource : (K : kernel.Kernel) (core : ℕ) (r : KRes) → ((n : ℕ) → r ≡ Port n → (p : PortUse) → slice_get K.ports n ≡ Some p → p.core ≡ core) → Fine K core r
    by_resource K core (Port n) k = λ p e. k n refl p e
    by_resource K core (Timer t) k = tt
    by_resource K core (resource.Chan c) k = tt
