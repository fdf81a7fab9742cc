-- A kernel whose roots' code is built has no transactions.
use Rattle.std.proofs.Common.{◌≡◌, ◌+◌, ℕ, zero, suc, List, [], ◌∷◌, map, Option, Some, None, slice_get, refl, subst}
use Rattle.std.proofs.lemmas.Option.{same_Some}
use Rattle.xc_kernel.specs.declared.statement.KRes.{KRes}
use Rattle.xc_kernel.specs.declared.statement.KRes.TheVariants.{Port, Timer, Chan}
use Rattle.xc_kernel.specs.Plain as kernel
use Rattle.xc_invariants.specs.Every.{AllItems, EveryBranches, EveryCases, EveryCondition, EveryDefault, EveryExpression, EveryInput, EveryItem, EveryOperands, EveryOutput, EveryPlace, EveryResource, EverySomeExpression, EverySomeTarget, EveryStatement, EveryStatements, EveryTarget}
use Rattle.xc_invariants.specs.Rules.{AnyPar, AnyThing}
use Rattle.xc_invariants.proofs.EveryItem.{every_statements}
use Rattle.xc_invariants.proofs.Inherited.{all_todo}
use Rattle.xc_meaning.specs.Runs.{kernel_root, kernel_start, no_side, root_branches}
use Rattle.xc_meaning.specs.States.Branches.{Branch}
use Rattle.xc_meaning.specs.States.Channels.{Side}
use Rattle.xc_meaning.specs.States.Items.{ends}
use Rattle.xl_image.specs.Roots.{RootsAreBuilt}
use Rattle.xl_statements.specs.Built.{AreBuilt, BranchesAreBuilt, CasesAreBuilt, DefaultIsBuilt, IsBuilt}
use Rattle.xr_simulation.specs.Plain.{ArePlain, NoTransaction}

-- nothing is asked of what code uses

resource : (r : KRes) → EveryResource AnyThing AnyPar NoTransaction r
resource (Port p) = tt
resource (Timer t) = tt
resource (Chan c) = tt

mutual
  expression : (e : kernel.Expression) → EveryExpression AnyThing AnyPar NoTransaction e
  expression (kernel.number v) = tt
  expression (kernel.read p) = place p
  expression (kernel.operation symbol is_unsigned es pos) = operands es

  operands : (es : kernel.Operands) → EveryOperands AnyThing AnyPar NoTransaction es
  operands kernel.no_operand = tt
  operands (kernel.more_operands e es) = (expression e, operands es)

  place : (p : kernel.Place) → EveryPlace AnyThing AnyPar NoTransaction p
  place (kernel.word v) = tt
  place (kernel.element v index pos) = (tt, expression index)

target : (p : kernel.Place) → EveryTarget AnyThing AnyPar NoTransaction p
target (kernel.word v) = (tt, tt)
target (kernel.element v index pos) = (tt, tt, expression index)

some_target : (p : Option kernel.Place) → EverySomeTarget AnyThing AnyPar NoTransaction p
some_target None = tt
some_target (Some p) = target p

some_expression : (e : Option kernel.Expression) → EverySomeExpression AnyThing AnyPar NoTransaction e
some_expression None = tt
some_expression (Some e) = expression e

condition : (c : Option kernel.Condition) → EveryCondition AnyThing AnyPar NoTransaction c
condition None = tt
condition (Some c) = expression c.value

output : (o : kernel.Output) → EveryOutput AnyThing AnyPar NoTransaction o
output o = record { resource = resource o.resource; time = some_expression o.time; value = expression o.value; stamp = some_target o.stamp }

input : (i : kernel.Input) → EveryInput AnyThing AnyPar NoTransaction i
input i = record { resource = resource i.resource; time = some_expression i.time; condition = condition i.condition; target = some_target i.target; stamp = some_target i.stamp }

-- and what is built has no transaction
mutual
  statement : (s : kernel.Statement) → IsBuilt s → EveryStatement AnyThing AnyPar NoTransaction s
  statement (kernel.set_zero v) h = (tt, tt)
  statement (kernel.set p e) h = (target p, expression e)
  statement (kernel.output o) h = output o
  statement (kernel.input i) h = input i
  statement (kernel.if_then e a b) h = (expression e, statements a h.0, statements b h.1)
  statement (kernel.loop e a b) h = (expression e, statements a h.0, statements b h.1)
  statement (kernel.block n a) h = statements a h
  statement (kernel.exit n) h = tt
  statement (kernel.select cs d pos) h = (cases cs h.0, some_default d h.1)
  statement (kernel.par bs) h = (tt, branches bs h)
  statement (kernel.transaction c is_master a start close) h = absurd h

  statements : (ss : kernel.Statements) → AreBuilt ss → EveryStatements AnyThing AnyPar NoTransaction ss
  statements kernel.no_more h = tt
  statements (kernel.more s ss) h = (statement s h.0, statements ss h.1)

  cases : (cs : kernel.Cases) → CasesAreBuilt cs → EveryCases AnyThing AnyPar NoTransaction cs
  cases kernel.no_case h = tt
  cases (kernel.more_cases (kernel.case guard i ss) cs) h = ((some_expression guard, input i, statements ss h.0), cases cs h.1)

  some_default : (d : kernel.Default) → DefaultIsBuilt d → EveryDefault AnyThing AnyPar NoTransaction d
  some_default kernel.no_default h = tt
  some_default (kernel.default ss) h = statements ss h

  branches : (bs : kernel.Branches) → BranchesAreBuilt bs → EveryBranches AnyThing AnyPar NoTransaction bs
  branches kernel.no_branch h = tt
  branches (kernel.more_branches (kernel.branch ss pos) bs) h = (statements ss h.0, branches bs h.1)

-- a root's branch as it starts
plain_root : (rs : List kernel.Root) → RootsAreBuilt rs → (n : ℕ) (before : List kernel.Statements) (sides : List (Option Side)) (b : ℕ) (branch : Branch) →
    slice_get (root_branches n before sides (map kernel_root rs)) b ≡ Some branch → AllItems (EveryItem AnyThing AnyPar NoTransaction) branch.items × (branch.inside ≡ [])
plain_root [] h n before sides b branch e = absurd cc
plain_root (r ∷ rs) h n before sides zero branch e =
    subst (λ (d : Branch). AllItems (EveryItem AnyThing AnyPar NoTransaction) d.items × (d.inside ≡ [])) (same_Some _ branch e)
    (all_todo (EveryItem AnyThing AnyPar NoTransaction) r.body (ends ∷ []) (every_statements AnyThing AnyPar NoTransaction r.body (statements r.body h.0)) (tt, tt), refl)
plain_root (r ∷ rs) h n before sides (suc b) branch e = plain_root rs h.1 (n + 1) (r.body ∷ before) sides b branch e

-- So the start has none.
pub plain_begins : (K : kernel.Kernel) → RootsAreBuilt K.roots → ArePlain (kernel_start K).branches
plain_begins K built = record {
  items = record { all = λ n b e. (plain_root K.roots built 0 [] (map no_side K.channels) n b e).0 };
  outside = λ n b e. (plain_root K.roots built 0 [] (map no_side K.channels) n b e).1;
}
