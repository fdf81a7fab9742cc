-- A well formed kernel as the laws ask it: its blocks are well placed and fresh, and its transactions are on listed channels.
use Rattle.std.proofs.Common.{◌≡◌, ℕ, Bool, true, false, ◌||◌, List, [], ◌∷◌, Option, Some, None, nat_eq, refl, sym, ap, ◌∙◌, true≢false, arith}
use Rattle.std.proofs.lemmas.Bool.Decides.{nat_tests}
use Rattle.xc_kernel.specs.declared.statement.KRes.{KRes}
use Rattle.xc_kernel.specs.declared.statement.KRes.TheVariants.{Port, Timer, Chan}
use Rattle.xc_kernel.specs.Plain as kernel
use Rattle.xc_kernel.specs.Branches.{branches_of}
use Rattle.xc_tree.specs.Types.Words as words
use Rattle.xc_meaning.specs.Settings.Channels.{is_among}
use Rattle.xc_wellformed.specs.Each.{AnyExpression, AnyPlace, AnyNumber, AnyOutput, AnyInput, EachStatement, EachOf, EachCase, EachDefault, EachBranch, EachRoot}
use Rattle.xc_wellformed.specs.Numbers.{IsChannel}
use Rattle.xc_wellformed.specs.Exits.{LeavesIn, AllLeaveIn, CasesLeaveIn, DefaultLeavesIn, BranchesLeaveIn, EachRootLeaves, ExitsAreInside}
use Rattle.xc_wellformed.specs.Transfers.{TransactionsAreListed}
use Rattle.xc_invariants.specs.Channels.{TransactionsListed}
use Rattle.xc_invariants.specs.Every.{EveryResource, EveryExpression, EveryOperands, EveryPlace, EveryTarget, EverySomeTarget, EverySomeExpression, EveryCondition, EveryOutput, EveryInput, EveryStatement, EveryStatements, EveryCases, EveryDefault, EveryBranches}
use Rattle.xc_invariants.specs.Placed.{IsDistinct, AnyInside, PlacedStatement, PlacedStatements, PlacedCases, PlacedDefault, PlacedBranches, IsPlaced}
use Rattle.xc_invariants.specs.Rules.{AnyThing, AnyPar}

-- Numbers among others, whichever way they are looked up.
turned : (a b : ℕ) → nat_eq a b ≡ nat_eq b a
turned a b = by (nat_eq a b) (nat_eq b a) refl refl
  where
    forth : (x y : ℕ) → nat_eq x y ≡ true → nat_eq y x ≡ true
    forth x y e = grind (arith, nat_tests)

    by : (p q : Bool) → nat_eq a b ≡ p → nat_eq b a ≡ q → p ≡ q
    by true q e f = sym (forth a b e) ∙ f
    by false true e f = absurd (true≢false (sym (forth b a f) ∙ e))
    by false false e f = refl

among_same : (n : ℕ) (ns : List ℕ) → words.is_among ns n ≡ is_among n ns
among_same n [] = refl
among_same n (m ∷ ns) = ap (λ b. b || words.is_among ns n) (turned m n) ∙ ap (λ b. nat_eq n m || b) (among_same n ns)

or_false : (a b : Bool) → (a || b) ≡ false → a ≡ false
or_false true b e = e
or_false false b e = refl

or_false_right : (a b : Bool) → (a || b) ≡ false → b ≡ false
or_false_right true b e = absurd (true≢false e)
or_false_right false b e = e

both_false : (a b : Bool) → a ≡ false → b ≡ false → (a || b) ≡ false
both_false true b e f = e
both_false false b e f = f

-- what is none of these is none of those
abbrev Fewer : List ℕ → List ℕ → Type 0
Fewer more few = (n : ℕ) → words.is_among more n ≡ false → is_among n few ≡ false

one_more : (k : ℕ) (more few : List ℕ) → Fewer more few → Fewer (k ∷ more) (k ∷ few)
one_more k more few h n e = both_false (nat_eq n k) (is_among n few) (sym (turned k n) ∙ or_false (nat_eq k n) (words.is_among more n) e) (h n (or_false_right (nat_eq k n) (words.is_among more n) e))

-- Blocks.
mutual
  placed : (s : kernel.Statement) (more few free inside : List ℕ) → Fewer more few → LeavesIn more free s → PlacedStatement IsDistinct AnyInside few free inside s
  placed (kernel.set_zero v) more few free inside f h = tt
  placed (kernel.set p e) more few free inside f h = tt
  placed (kernel.output o) more few free inside f h = tt
  placed (kernel.input i) more few free inside f h = tt
  placed (kernel.if_then e a b) more few free inside f h = (all_placed a more few free inside f h.0, all_placed b more few free inside f h.1)
  placed (kernel.loop e a b) more few free inside f h = (all_placed a more few free inside f h.0, all_placed b more few free inside f h.1)
  placed (kernel.block k a) more few free inside f h = (f k h.0, all_placed a (k ∷ more) (k ∷ few) (k ∷ free) inside (one_more k more few f) h.1)
  placed (kernel.exit k) more few free inside f h = sym (among_same k free) ∙ h
  placed (kernel.select cs d pos) more few free inside f h = (cases_placed cs more few free inside f h.0, default_placed d more few free inside f h.1)
  placed (kernel.par bs) more few free inside f h = (tt, branches_placed bs more h)
  placed (kernel.transaction c is_master a start close) more few free inside f h = all_placed a more few [] (c ∷ inside) f h

  all_placed : (ss : kernel.Statements) (more few free inside : List ℕ) → Fewer more few → AllLeaveIn more free ss → PlacedStatements IsDistinct AnyInside few free inside ss
  all_placed kernel.no_more more few free inside f h = tt
  all_placed (kernel.more s ss) more few free inside f h = (placed s more few free inside f h.0, all_placed ss more few free inside f h.1)

  cases_placed : (cs : kernel.Cases) (more few free inside : List ℕ) → Fewer more few → CasesLeaveIn more free cs → PlacedCases IsDistinct AnyInside few free inside cs
  cases_placed kernel.no_case more few free inside f h = tt
  cases_placed (kernel.more_cases (kernel.case guard i a) cs) more few free inside f h = (all_placed a more few free inside f h.0, cases_placed cs more few free inside f h.1)

  default_placed : (d : kernel.Default) (more few free inside : List ℕ) → Fewer more few → DefaultLeavesIn more free d → PlacedDefault IsDistinct AnyInside few free inside d
  default_placed kernel.no_default more few free inside f h = tt
  default_placed (kernel.default a) more few free inside f h = all_placed a more few free inside f h

  branches_placed : (bs : kernel.Branches) (more : List ℕ) → BranchesLeaveIn more bs → PlacedBranches IsDistinct AnyInside bs
  branches_placed kernel.no_branch more h = tt
  branches_placed (kernel.more_branches (kernel.branch a pos) bs) more h = (all_placed a more [] [] [] (λ n e. refl) h.0, branches_placed bs more h.1)

roots_placed : (rs : List kernel.Root) → EachRootLeaves rs → PlacedBranches IsDistinct AnyInside (branches_of rs)
roots_placed [] h = tt
roots_placed (r ∷ rs) h = (all_placed r.body [] [] [] [] (λ n e. refl) h.0, roots_placed rs h.1)

-- the blocks of a well formed kernel are well placed, and each has another number than those around it
pub fresh_blocks : (K : kernel.Kernel) → ExitsAreInside K → IsPlaced IsDistinct AnyInside K
fresh_blocks K h = record { roots = roots_placed K.roots h }

-- Transactions.
module _ (T : ℕ → kernel.Statements → Type 0) where
  resource : (r : KRes) → EveryResource AnyThing AnyPar T r
  resource (Port p) = tt
  resource (Timer t) = tt
  resource (Chan c) = tt

  mutual
    pub expression : (e : kernel.Expression) → EveryExpression AnyThing AnyPar T e
    expression (kernel.number v) = tt
    expression (kernel.read p) = place p
    expression (kernel.operation symbol is_unsigned es pos) = operands es

    operands : (es : kernel.Operands) → EveryOperands AnyThing AnyPar T es
    operands kernel.no_operand = tt
    operands (kernel.more_operands e es) = (expression e, operands es)

    place : (p : kernel.Place) → EveryPlace AnyThing AnyPar T p
    place (kernel.word v) = tt
    place (kernel.element v i pos) = (tt, expression i)

  pub target : (p : kernel.Place) → EveryTarget AnyThing AnyPar T p
  target (kernel.word v) = (tt, tt)
  target (kernel.element v i pos) = (tt, tt, expression i)

  some_target : (o : Option kernel.Place) → EverySomeTarget AnyThing AnyPar T o
  some_target None = tt
  some_target (Some p) = target p

  pub some_expression : (o : Option kernel.Expression) → EverySomeExpression AnyThing AnyPar T o
  some_expression None = tt
  some_expression (Some e) = expression e

  condition : (o : Option kernel.Condition) → EveryCondition AnyThing AnyPar T o
  condition None = tt
  condition (Some w) = expression w.value

  pub output : (o : kernel.Output) → EveryOutput AnyThing AnyPar T o
  output o = record { resource = resource o.resource; time = some_expression o.time; value = expression o.value; stamp = some_target o.stamp }

  pub input : (i : kernel.Input) → EveryInput AnyThing AnyPar T i
  input i = record { resource = resource i.resource; time = some_expression i.time; condition = condition i.condition; target = some_target i.target; stamp = some_target i.stamp }

module _ (U : ℕ → Type 0) where
  abbrev On : ℕ → kernel.Statements → Type 0
  On c ss = U c

  mutual
    statement : (s : kernel.Statement) → EachStatement AnyExpression AnyPlace AnyNumber AnyOutput AnyInput U s → EveryStatement AnyThing AnyPar On s
    statement (kernel.set_zero v) h = (tt, tt)
    statement (kernel.set p e) h = (target On p, expression On e)
    statement (kernel.output o) h = output On o
    statement (kernel.input i) h = input On i
    statement (kernel.if_then e a b) h = (expression On e, statements a h.1.0, statements b h.1.1)
    statement (kernel.loop e a b) h = (expression On e, statements a h.1.0, statements b h.1.1)
    statement (kernel.block k a) h = statements a h
    statement (kernel.exit k) h = tt
    statement (kernel.select cs d pos) h = (cases cs h.0, default d h.1)
    statement (kernel.par bs) h = (tt, branches bs h)
    statement (kernel.transaction c is_master a start close) h = (tt, h.0, statements a h.1)

    statements : (ss : kernel.Statements) → EachOf AnyExpression AnyPlace AnyNumber AnyOutput AnyInput U ss → EveryStatements AnyThing AnyPar On ss
    statements kernel.no_more h = tt
    statements (kernel.more s ss) h = (statement s h.0, statements ss h.1)

    cases : (cs : kernel.Cases) → EachCase AnyExpression AnyPlace AnyNumber AnyOutput AnyInput U cs → EveryCases AnyThing AnyPar On cs
    cases kernel.no_case h = tt
    cases (kernel.more_cases (kernel.case guard i a) cs) h = ((some_expression On guard, input On i, statements a h.0.1.1), cases cs h.1)

    default : (d : kernel.Default) → EachDefault AnyExpression AnyPlace AnyNumber AnyOutput AnyInput U d → EveryDefault AnyThing AnyPar On d
    default kernel.no_default h = tt
    default (kernel.default a) h = statements a h

    branches : (bs : kernel.Branches) → EachBranch AnyExpression AnyPlace AnyNumber AnyOutput AnyInput U bs → EveryBranches AnyThing AnyPar On bs
    branches kernel.no_branch h = tt
    branches (kernel.more_branches (kernel.branch a pos) bs) h = (statements a h.0, branches bs h.1)

  roots : (rs : List kernel.Root) → EachRoot AnyExpression AnyPlace AnyNumber AnyOutput AnyInput U rs → EveryBranches AnyThing AnyPar On (branches_of rs)
  roots [] h = tt
  roots (r ∷ rs) h = (statements r.body h.0, roots rs h.1)

-- the transactions of a well formed kernel are on channels of its list
pub transactions_listed : (K : kernel.Kernel) → TransactionsAreListed K → TransactionsListed K
transactions_listed K h = record { listed = roots (IsChannel K) K.roots h }
